-- Threads that serve, one link more; and how what they did is put together.
use Rattle.std.proofs.Common.{◌≡◌, ◌≢◌, ℕ, ◌+◌, ◌<◌, ◌⊎◌, inl, inr, take, drop, Bool, true, false, List, [], ◌∷◌, ◌++◌, length, get_or, refl, sym, ap, ◌∙◌, subst, arith, append-nil, length-append}
use Rattle.std.specs.Prelude.{◌||◌, Option, Result, Ok, Err, is_err}
use Rattle.std.proofs.lemmas.List.{get_or_append_left, drop_all, take_all}
use Rattle.std.proofs.Math.Seq.{get_or-append_seam}
use Rattle.ice_ports.specs.declared.talk.Talk.{Talk}
use Rattle.ice_ports.specs.Talks.{adds}
use Rattle.ice_ports.specs.Nets.{ToldListener, taken_behind, one_talk, gathers, IsEmptyTray}
use Rattle.dispatch_pool.specs.declared.lanes.Lanes.{Lanes}
use Rattle.dispatch_pool.specs.declared.lanes.LanePasses.{LanePasses}
use Rattle.talking.specs.declared.end.End.{End}
use Rattle.dispatch_pool.specs.Lanes.{AreOf, DidSplit, DidJoinAll}
use Rattle.dispatch_pool.specs.Turns.{Grew}
use Rattle.dispatch_pool.specs.Handled.{Handled, turns_of}
use Rattle.dispatch_pool.specs.ServerDid.{ServerDid}
use Rattle.dispatch_pool.proofs.Sets.{every_more}
use Rattle.ice_ports.specs.Failures.{count_after}
use Rattle.talking.specs.Ends.{end_of, HasEnd}
use Rattle.talking.specs.Told.{LinkTells, TrayTells, DoorTells}
use Rattle.dispatch_pool.specs.declared.ending.Ending.{Ending}
use Rattle.dispatch_pool.specs.declared.ending.Ending.TheVariants.{Open, Reached, NoMore, Failed}
use Rattle.dispatch_pool.specs.Endings.{has_failed, has_run_out}
use Rattle.dispatch_pool.specs.Sessions.{Session, talks, AllFed, OnlyLastLacks, Side, callers, split_off, ServedWith, HasServed, AllServed}
use Rattle.talking.proofs.Told.{tray_new, tray_took, door_gathers}
use Rattle.dispatch_pool.proofs.Rows.{talks_append, did_append, fed_append, serves, splits, joins}

pub or_false : (a b : Bool) → (a || b) ≡ false → (a ≡ false) × (b ≡ false)
or_false true b e = absurd cc
or_false false b e = (refl, e)

ended : {E : Type 0} (r : Result End E) (b : Bool) → b ≡ is_err r → b ≡ false → HasEnd (end_of r)
ended (Ok end) b e f = tt
ended (Err x) b e f = absurd cc

only_last : (ss : List Session) (s : Session) → AllFed ss → OnlyLastLacks (ss ++ s ∷ [])
only_last [] s fed = tt
only_last (x ∷ []) s fed = (fed.0, tt)
only_last (x ∷ y ∷ ss) s fed = (fed.0, only_last (y ∷ ss) s fed.1)

module _ (lanes : Lanes) (most : ℕ) (first : Option ToldListener) (from : Option LanePasses) where
  -- one link more
  pub link_served : {E : Type 0} (r : Result End E) (side : Side) (tray tray' : Option (List Talk)) (o o' : Option Talk) (t : Talk) (handled : List Handled) (old new : LanePasses) (n : ℕ) (starved failed : Bool)
      → tray' ≡ taken_behind (one_talk o') tray → o' ≡ adds o t → LinkTells first o → AreOf lanes new → Grew old new (turns_of handled) → ServerDid lanes.keys most t handled (end_of r) → failed ≡ is_err r → starved ≡ false
      → HasServed side lanes most first from tray old n starved → HasServed side lanes most first from tray' new (n + 1) (starved || failed)
  link_served r side tray tray' o o' t handled old new n starved failed into is fresh of grew did fails before h =
      let s : Session = record { talk = t; handled = handled; end = end_of r } in record {
        of = of;
        sessions = h.sessions ++ s ∷ [];
        did = did_append lanes.keys most h.sessions (s ∷ []) h.did (did, tt);
        served = serves side from old new h.sessions s h.served grew;
        tells = subst (TrayTells first tray') (sym (talks_append h.sessions (s ∷ []))) (tray_took first tray tray' o o' t (talks h.sessions) into is fresh h.tells);
        count = let c = h.count in let l = length-append h.sessions (s ∷ []) in omega arith;
        fed = λ f. let x = or_false starved failed f in fed_append h.sessions (s ∷ []) (h.fed x.0) (ended r failed fails x.1, tt);
        lacked = only_last h.sessions s (h.fed before);
      }

  -- a thread that begins
  pub hired : (given : ℕ) (now : Option ToldListener) (tray : Option (List Talk)) (old new made : LanePasses) (amount : ℕ) → DoorTells first given now [] → IsEmptyTray now tray → AreOf lanes made
      → ServedWith callers from old [] → DidSplit old new made → amount ≡ 0 → HasServed split_off lanes most first from tray made amount false
  hired given now tray old new made amount tells empty of h s none = record {
    of = of;
    sessions = [];
    did = tt;
    served = splits from old new made h s;
    tells = tray_new first given now tray tells empty;
    count = none;
    fed = λ f. tt;
    lacked = tt;
  }

  -- the caller's own tray is gathered
  pub caller_done : (given : ℕ) (now now' : Option ToldListener) (tray : Option (List Talk)) (passes : LanePasses) (amount : ℕ) (starved : Bool) → now' ≡ gathers tray now → DoorTells first given now []
      → HasServed callers lanes most first from tray passes amount starved → AllServed lanes most first from given now' passes amount starved
  caller_done given now now' tray passes amount starved is tells h = record {
    of = h.of;
    sessions = h.sessions;
    did = h.did;
    served = h.served;
    tells = door_gathers first given now now' tray [] (talks h.sessions) is tells h.tells;
    count = h.count;
    fed = h.fed;
  }

  -- a thread that ended is gathered and joined
  pub worker_done : (given : ℕ) (now now' : Option ToldListener) (tray : Option (List Talk)) (old other new : LanePasses) (amount more : ℕ) (starved lacked : Bool) → now' ≡ gathers tray now → AreOf lanes new → DidJoinAll lanes old other new
      → AllServed lanes most first from given now old amount starved → HasServed split_off lanes most first from tray other more lacked → AllServed lanes most first from given now' new (amount + more) (starved || lacked)
  worker_done given now now' tray old other new amount more starved lacked is of joined a h = record {
    of = of;
    sessions = a.sessions ++ h.sessions;
    did = did_append lanes.keys most a.sessions h.sessions a.did h.did;
    served = joins lanes from old other new a.sessions h.sessions a.of.one_each a.served h.served joined;
    tells = subst (DoorTells first given now') (sym (talks_append a.sessions h.sessions)) (door_gathers first given now now' tray (talks a.sessions) (talks h.sessions) is a.tells h.tells);
    count = let c = a.count in let d = h.count in let l = length-append a.sessions h.sessions in omega arith;
    fed = λ f. let x = or_false starved lacked f in fed_append a.sessions h.sessions (a.fed x.0) (h.fed x.1);
  }

  -- the caller begins
  pub caller_begins : (given : ℕ) (now : Option ToldListener) (tray : Option (List Talk)) (passes : LanePasses) (amount : ℕ) (starved : Bool) → DoorTells first given now [] → IsEmptyTray now tray → AreOf lanes passes
      → ServedWith callers from passes [] → amount ≡ 0 → HasServed callers lanes most first from tray passes amount starved
  caller_begins given now tray passes amount starved tells empty of h none = record {
    of = of;
    sessions = [];
    did = tt;
    served = h;
    tells = tray_new first given now tray tells empty;
    count = none;
    fed = λ f. tt;
    lacked = tt;
  }

-- ---- rows of threads

pub push_all : {A : Type 0} (B : A → Type 0) (xs xs' : List A) (y : A) → xs' ≡ xs ++ y ∷ [] → ((i : ℕ) (d : A) → i < length xs → B (get_or xs i d)) → B y → (i : ℕ) (d : A) → i < length xs' → B (get_or xs' i d)
push_all B xs xs' y is all here = every_more B xs xs' y is all here

pub push_length : {A : Type 0} (xs xs' : List A) (y : A) → xs' ≡ xs ++ y ∷ [] → length xs' ≡ length xs + 1
push_length xs xs' y is = let e = ap length is in let h = length-append xs (y ∷ []) in omega arith

pub pop_front : {A : Type 0} (B : A → Type 0) (xs ys : List A) (y : A) → xs ≡ ys ++ y ∷ [] → ((i : ℕ) (d : A) → i < length xs → B (get_or xs i d)) → (i : ℕ) (d : A) → i < length ys → B (get_or ys i d)
pop_front B xs ys y is all i d lt = subst B (ap (λ (z : List _). get_or z i d) is ∙ get_or_append_left ys (y ∷ []) d i lt) (all i d (let e = ap length is in let h = length-append ys (y ∷ []) in omega arith))

pub pop_last : {A : Type 0} (B : A → Type 0) (xs ys : List A) (y : A) → xs ≡ ys ++ y ∷ [] → ((i : ℕ) (d : A) → i < length xs → B (get_or xs i d)) → B y
pop_last B xs ys y is all = subst B (ap (λ (z : List _). get_or z (length ys) y) is ∙ get_or-append_seam ys y [] y) (all (length ys) y (let e = ap length is in let h = length-append ys (y ∷ []) in omega arith))

pub written_back : {A : Type 0} (n : ℕ) (xs ys : List A) → length ys ≡ length xs → n ≡ length xs → take n (ys ++ drop (length ys) xs) ≡ ys
written_back n xs ys same all = ap (λ (z : List _). take n (ys ++ z)) (drop_all (length ys) xs (omega arith)) ∙ (ap (take n) (append-nil ys) ∙ take_all n ys (omega arith))

-- accepting has ended without a failure
pub ended_by : {A B : Type 0} (ending : Ending) (failed : Bool) (before now : ℕ) → failed ≡ has_failed ending → failed ≡ false → ending ≢ Open → (ending ≡ Reached → A) → (ending ≡ NoMore → B)
    → now ≡ count_after before (has_run_out ending) → (A × (now ≡ before)) ⊎ ((now ≡ count_after before true) × B)
ended_by Open failed before now is fine not_open reached no_more count = absurd (not_open refl)
ended_by Reached failed before now is fine not_open reached no_more count = inl (reached refl, count)
ended_by NoMore failed before now is fine not_open reached no_more count = inr (count, no_more refl)
ended_by Failed failed before now is fine not_open reached no_more count = absurd cc
