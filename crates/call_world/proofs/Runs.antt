-- The laws of calls.
use Rattle.std.proofs.Common.{◌≡◌, ℕ, ◌+◌, ◌<◌, inl, inr, List, [], ◌∷◌, length, Option, None, Some, refl, ap, sym, ◌∙◌, subst, arith, true, false}
use Rattle.std.specs.Prelude.{slice_get}
use Rattle.std.proofs.lemmas.Bool.Decides.{Decides-eqb}
use Rattle.call_world.specs.Service.{Rules}
use Rattle.call_world.specs.World.{World, Seat, Dispatched, Place, Dispatch, Invocation, opening}
use Rattle.call_world.specs.Step.{Event, Run, IsReached}
use Rattle.call_world.specs.Counts.{is_of, belongs}
use Rattle.call_world.specs.Reached.{IsSound, IsSeated, IsLogged}
use Rattle.call_world.specs.Laws.{Always, AtMostOnce, OwnReplies, DeadForGood}
use Rattle.call_world.proofs.Lists.{get_within, count_once}
use Rattle.call_world.proofs.Connections.{fresh_sound}
use Rattle.call_world.proofs.Worlds.{IsCalled, doomed_later}
use Rattle.call_world.proofs.Steps.{Leads, leads_refl, leads_trans, step_leads}

opening_called : {C R O : Type 0} (status : R → ℕ) (o : O) → IsCalled status (opening {C = C} {R = R} {O = O} o)
opening_called {C} {R} status o = record {
  sound = λ c. fresh_sound status;
  fine = λ i v h. absurd (let z : None ≡ Some v = h in cc);
  listed = λ p s h. absurd (let z : None ≡ Some s = h in cc);
}

opening_logged : {C R O : Type 0} (o : O) → IsLogged (opening {C = C} {R = R} {O = O} o)
opening_logged {C} {R} o = record {
  recorded = λ n d h. absurd (let z : None ≡ Some d = h in cc);
  known = λ c s r h. absurd (let z : None ≡ Some (Dispatched r) = h in cc);
  distinct = λ m n d e a b p q. absurd (let z : None ≡ Some d = a in cc);
}

run_leads : {C R O : Type 0} (rules : Rules C R O) (w : World C R O) (es : List (Event C R O)) (w' : World C R O)
    → IsCalled rules.status w → IsLogged w → Run rules w es w' → Leads rules.status w w'
run_leads rules w [] w' called logged e = subst (Leads rules.status w) e (leads_refl rules.status w called logged)
run_leads rules w (e ∷ es) w' called logged (mid, step, rest) =
    let l = step_leads rules w e mid called logged step in
    leads_trans rules.status w mid w' l (run_leads rules mid es w' l.called l.logged rest)

module _ {C R O : Type 0} (rules : Rules C R O) where
  reached_leads : (o : O) (w : World C R O) → IsReached rules o w → Leads rules.status (opening o) w
  reached_leads o w (es, run) =
      run_leads rules (opening o) es w (opening_called rules.status o) (opening_logged o) run

  pub logged_lem : Always rules IsLogged
  logged_lem o w reached = (reached_leads o w reached).logged

  pub sound_lem : Always rules (λ (w : World C R O). (c : ℕ) → IsSound rules.status (w.connections c))
  sound_lem o w reached = (reached_leads o w reached).called.sound

  pub seated_lem : Always rules IsSeated
  seated_lem o w reached =
      let called = (reached_leads o w reached).called in
      record { placed = λ i v n p h. (called.fine i v h).placed n p; listed = called.listed }

  pub dead_lem : Always rules (DeadForGood rules)
  dead_lem o w reached events later run None dead n d h e = cc
  dead_lem o w reached events later run (Some p) dead n d h e =
      let l = reached_leads o w reached in
      let m = run_leads rules w events later l.called l.logged run in
      let doomed = doomed_later rules.status w later l.called m.kept p dead in
      let same : p ≡ record { connection = d.connection; seat = d.seat } = cc in
      doomed.never d.reply
      (subst (λ (q : Place). slice_get (later.connections q.connection).turns q.seat ≡ Some (Dispatched d.reply)) (sym same) (m.logged.recorded n d h))

  is_own : (i : ℕ) (o : Option Seat) (s : Seat) → o ≡ Some s → s.invocation ≡ i → is_of i o ≡ true
  is_own i o s e own = ap (is_of i) e ∙ (Decides-eqb s.invocation i).1 own

  pub own_replies_lem : Always rules (OwnReplies rules.status)
  own_replies_lem o w reached i v r at done success =
      let l = reached_leads o w reached in
      let t = (l.called.fine i v at).told r done (λ h. elim h [ inl a ↦ omega arith | inr a ↦ omega arith ]) in
      let k = l.logged.known t.0.connection t.0.seat r t.2 in (
        k.0,
        record { connection = t.0.connection; seat = t.0.seat; reply = r },
        k.1,
        is_own i (slice_get (w.connections t.0.connection).asked t.0.seat) t.1.seat t.1.asked t.1.own,
        refl,
      )

own_seat : (i : ℕ) (o : Option Seat) → is_of i o ≡ true → (s : Seat) × (o ≡ Some s) × (s.invocation ≡ i)
own_seat i None h = absurd (let z : false ≡ true = h in cc)
own_seat i (Some s) h = (s, refl, (Decides-eqb s.invocation i).0 h)

-- what was dispatched of an invocation that is not idempotent is its last attempt
last_attempt : {C R O : Type 0} (status : R → ℕ) (w : World C R O) → IsCalled status w → IsLogged w
    → (i : ℕ) (v : Invocation C R) → w.invocations i ≡ Some v → v.idempotent ≡ false
    → (n : ℕ) (d : Dispatch R) → slice_get w.dispatches n ≡ Some d → belongs w i d ≡ true
    → (m : ℕ) × (m + 1 ≡ length v.attempts) × (slice_get v.attempts m ≡ Some (Some (record { connection = d.connection; seat = d.seat })))
last_attempt {C} {R} status w called logged i v at idem n d h own =
    let p : Place = record { connection = d.connection; seat = d.seat } in
    let s = own_seat i (slice_get (w.connections d.connection).asked d.seat) own in
    let l = called.listed p s.0 s.1 in
    let u = l.invocation in
    let same : v ≡ u =
    let z : Some v ≡ Some u = sym at ∙ (ap w.invocations (sym s.2) ∙ l.started) in cc in
    let a = subst (λ (x : Invocation C R). slice_get x.attempts l.number ≡ Some (Some p)) (sym same) l.attempt in
    let within = get_within v.attempts l.number (Some p) a in
    let not_last : l.number + 1 < length v.attempts → ⊥ =
    λ k. ((called.fine i v at).last idem l.number p a k).never d.reply (logged.recorded n d h) in
    (l.number, omega arith, a)

pub at_most_once_lem : {C R O : Type 0} (rules : Rules C R O) → Always rules AtMostOnce
at_most_once_lem {C} {R} rules o w reached i v at idem =
    let l = reached_leads rules o w reached in
    count_once (belongs w i) w.dispatches (λ m n d e a b x y.
    let p = last_attempt rules.status w l.called l.logged i v at idem m d a x in
    let q = last_attempt rules.status w l.called l.logged i v at idem n e b y in
    let f = p.1 in
    let g = q.1 in
    let same : p.0 ≡ q.0 = omega arith in
    let here : Place = record { connection = d.connection; seat = d.seat } in
    let there : Place = record { connection = e.connection; seat = e.seat } in
    let z : Some (Some here) ≡ Some (Some there) = sym p.2 ∙ (ap (slice_get v.attempts) same ∙ q.2) in
    let one : here ≡ there = cc in
    l.logged.distinct m n d e a b (ap (λ (q : Place). q.connection) one) (ap (λ (q : Place). q.seat) one))
