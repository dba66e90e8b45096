-- What becomes of accepts, and connections that are served, one more.
use Rattle.std.proofs.Common.{◌≡◌, ℕ, ◌+◌, ◌<◌, ◌≤◌, ◌^◌, ◌⊎◌, inl, inr, Bool, true, false, List, [], ◌∷◌, ◌++◌, refl, sym, ap, ◌∙◌, subst, arith, append_assoc, append-nil, length-append}
use Rattle.std.specs.Prelude.{Option, Some, None, IfSome, Result, Ok, Err, is_err}
use Rattle.ice_ports.specs.declared.talk.Talk.{Talk}
use Rattle.ice_ports.specs.Talks.{adds}
use Rattle.ice_ports.specs.Failures.{count_after}
use Rattle.ice_ports.specs.Nets.{ToldListener, told_after, accepted, is_over, IsNew, IsEmptyTray, taken_behind, one_talk, gathers}
use Rattle.ice_client.specs.ClientDid.{Tried}
use Rattle.talking.specs.declared.end.End.{End}
use Rattle.talking.specs.Ends.{end_of, HasEnd}
use Rattle.talking.specs.Told.{TrayTells}
use Rattle.ice_gateway.specs.declared.serving.Turn.{Turn}
use Rattle.ice_gateway.specs.declared.serving.Turn.TheVariants as turns
use Rattle.ice_gateway.specs.Gate.{Gate}
use Rattle.ice_gateway.specs.Runs.{NetSeen, Ran}
use Rattle.ice_gateway.specs.GateDid.{GateDid}
use Rattle.ice_gateway.specs.Sessions.{Session, talks, all_runs, AllDid, AllFed, HasServed, AllServed, serves, starves, runs_out, fails}
use Rattle.talking.proofs.Told.{door_new, door_gave, link_new, tray_new, tray_took, door_gathers}
use Rattle.ice_gateway.proofs.Runs.{ran_none, ran_then}

-- ---- the listener

-- an accept that gives none changes nothing
pub unchanged : (L E : Type 0) (answer : Option L) → answer ≡ None → (now now' : Option ToldListener) → now' ≡ told_after (accepted {L = L} {E = E} (Ok answer)) now → now' ≡ now
unchanged L E answer none None now' is = is
unchanged L E answer none (Some d) now' is = is ∙ ap (λ (o : Option L). told_after (accepted {L = L} {E = E} (Ok o)) (Some d)) none

pub failed_same : (L E : Type 0) (e : E) (now now' : Option ToldListener) → now' ≡ told_after (accepted {L = L} {E = E} (Err e)) now → now' ≡ now
failed_same L E e None now' is = is
failed_same L E e (Some d) now' is = is

-- how often an accept gave none
pub nones_some : (L E : Type 0) (answer : Option L) (link : L) (before now : ℕ) (over : Bool) → answer ≡ Some link → now ≡ count_after before (is_over {L = L} {E = E} (Ok answer)) → over ≡ false → now ≡ count_after before over
nones_some L E answer link before now over some is ends = is ∙ (ap (λ (o : Option L). count_after before (is_over {L = L} {E = E} (Ok o))) some ∙ ap (λ (b : Bool). count_after before b) (sym ends))

pub nones_none : (L E : Type 0) (answer : Option L) (before now : ℕ) → answer ≡ None → now ≡ count_after before (is_over {L = L} {E = E} (Ok answer)) → now ≡ count_after before true
nones_none L E answer before now none is = is ∙ ap (λ (o : Option L). count_after before (is_over {L = L} {E = E} (Ok o))) none

-- ---- lists of sessions

talks_append : (xs ys : List Session) → talks (xs ++ ys) ≡ talks xs ++ talks ys
talks_append [] ys = refl
talks_append (x ∷ xs) ys = ap (λ (z : List Talk). x.talk ∷ z) (talks_append xs ys)

runs_last : (xs : List Session) (s : Session) → all_runs (xs ++ s ∷ []) ≡ all_runs xs ++ s.runs
runs_last [] s = append-nil s.runs
runs_last (x ∷ xs) s = ap (λ (z : List (List Tried)). x.runs ++ z) (runs_last xs s) ∙ sym (append_assoc x.runs (all_runs xs) s.runs)

did_last : (gate : Gate) (most : ℕ) (xs : List Session) (s : Session) → AllDid gate most xs → GateDid gate most s.talk s.runs s.end → AllDid gate most (xs ++ s ∷ [])
did_last gate most [] s a b = (b, tt)
did_last gate most (x ∷ xs) s a b = (a.0, did_last gate most xs s a.1 b)

fed_last : (xs : List Session) (s : Session) → AllFed xs → HasEnd s.end → AllFed (xs ++ s ∷ [])
fed_last [] s a b = (b, tt)
fed_last (x ∷ xs) s a b = (a.0, fed_last xs s a.1 b)

ended : {E : Type 0} (r : Result End E) (b : Bool) → b ≡ is_err r → b ≡ false → HasEnd (end_of r)
ended (Ok end) b e f = tt
ended (Err x) b e f = absurd cc

-- ---- serving

pub begins : (gate : Gate) (most : ℕ) (first : Option ToldListener) (tray : Option (List Talk)) (net : NetSeen) → IsEmptyTray first tray → HasServed gate most first first tray net net 0 false
begins gate most first tray net empty = record {
  sessions = [];
  did = tt;
  ran = ran_none gate.endpoints net;
  gave = door_new first;
  tells = tray_new first 0 first tray (door_new first) empty;
  count = refl;
  fed = λ f. tt;
}

-- one link more
pub link_served : {E : Type 0} (L F : Type 0) (reads writes : L → ℕ) (talk_of : L → Option Talk) (answer : Option L) (link : L) (gate : Gate) (most : ℕ) (first : Option ToldListener) (r : Result End E) (now now' : Option ToldListener) (tray tray' : Option (List Talk))
    (o' : Option Talk) (t : Talk) (runs : List (List Tried)) (old net net' : NetSeen) (n : ℕ) (starved : Bool)
    → answer ≡ Some link → now' ≡ told_after (accepted {L = L} {E = F} (Ok answer)) now → IfSome answer (λ l. IsNew now (talk_of l) × (reads l ≡ 0) × (writes l ≡ 0)) → o' ≡ adds (talk_of link) t → tray' ≡ taken_behind (one_talk o') tray
    → Ran gate.endpoints runs net net' → GateDid gate most t runs (end_of r) → starved ≡ is_err r → n + 1 < 2 ^ 64
    → HasServed gate most first now tray old net n false → HasServed gate most first now' tray' old net' (n + 1) starved
link_served L F reads writes talk_of answer link gate most first r now now' tray tray' o' t runs old net net' n starved gives is new said into ran did failing few h =
    let s : Session = record { talk = t; runs = runs; end = end_of r } in record {
      sessions = h.sessions ++ s ∷ [];
      did = did_last gate most h.sessions s h.did did;
      ran = subst (λ (z : List (List Tried)). Ran gate.endpoints z old net') (sym (runs_last h.sessions s)) (ran_then gate.endpoints (all_runs h.sessions) runs old net net' h.ran ran);
      gave = door_gave L F answer link gives first n now now' is few h.gave;
      tells = subst (TrayTells first tray') (sym (talks_append h.sessions (s ∷ [])))
          (tray_took first tray tray' (talk_of link) o' t (talks h.sessions) into said (link_new L reads writes talk_of answer link gives first n now h.gave new) h.tells);
      count = let c = h.count in let l = length-append h.sessions (s ∷ []) in omega arith;
      fed = λ f. fed_last h.sessions s (h.fed refl) (ended r starved failing f);
    }

-- none more
pub none_served : (gate : Gate) (most : ℕ) (first now now' : Option ToldListener) (tray : Option (List Talk)) (old net : NetSeen) (n : ℕ) → now' ≡ now → HasServed gate most first now tray old net n false
    → HasServed gate most first now' tray old net (n + 0) false
none_served gate most first now now' tray old net n same h =
    let more : n ≡ n + 0 = omega arith in
    subst (λ (k : ℕ). HasServed gate most first now' tray old net k false) more (subst (λ (d : Option ToldListener). HasServed gate most first d tray old net n false) (sym same) h)

-- the tray is gathered
pub gathered : (gate : Gate) (most : ℕ) (first now now' : Option ToldListener) (tray : Option (List Talk)) (old net : NetSeen) (n : ℕ) (starved : Bool) → now' ≡ gathers tray now → HasServed gate most first now tray old net n starved
    → AllServed gate most first now' old net n starved
gathered gate most first now now' tray old net n starved is h = record {
  sessions = h.sessions;
  did = h.did;
  ran = h.ran;
  tells = door_gathers first n now now' tray [] (talks h.sessions) is h.gave h.tells;
  count = h.count;
  fed = h.fed;
}

-- accepting has ended without a failure
pub ended_by : {A B : Type 0} (turn : Turn) (before now : ℕ) → fails turn ≡ false → starves turn ≡ false → (turn ≡ turns.Served → A) → (runs_out turn ≡ true → B) → now ≡ count_after before (runs_out turn)
    → (A × (now ≡ before)) ⊎ ((now ≡ count_after before true) × B)
ended_by turns.Served before now fine fed reached no_more count = inl (reached refl, count)
ended_by turns.Starved before now fine fed reached no_more count = absurd cc
ended_by turns.Over before now fine fed reached no_more count = inr (count, no_more refl)
ended_by turns.Failed before now fine fed reached no_more count = absurd cc

pub one_at_most : (turn : Turn) → serves turn ≤ 1
one_at_most turns.Served = omega arith
one_at_most turns.Starved = omega arith
one_at_most turns.Over = omega arith
one_at_most turns.Failed = omega arith
