-- What each event keeps of a world.
use Rattle.std.proofs.Common.{◌≡◌, ℕ, ◌⊎◌, inl, inr, List, [], ◌∷◌, ◌++◌, length, Option, None, Some, refl, ap, sym, ◌∙◌, subst, Bool}
use Rattle.std.specs.Prelude.{slice_get}
use Rattle.call_world.specs.Service.{Rules}
use Rattle.call_world.specs.World.{World, Connection, Seat, Turn, Dispatched, Refused, Place, Invocation, Outcome, Replied, put_at}
use Rattle.call_world.specs.Connection.{turned, refused, begun, seated}
use Rattle.call_world.specs.Step.{Event, Start, Misses, Asks, Dispatches, Refuses, On, Finishes, Step, tried, Miss, Ask, Each}
use Rattle.call_world.specs.Reached.{IsSeatOf, IsAttemptOf, IsLogged}
use Rattle.call_world.proofs.Lists.{get_old, get_last, get_cases, put_cases}
use Rattle.call_world.proofs.Connections.{IsKept, kept_refl, kept_trans, kept_dispatched, kept_refused, kept_seated, kept_begun, refused_asked, refused_turns, kept_connection, connection_beside}
use Rattle.call_world.proofs.Worlds.{IsFine, IsCalled, called_from, fine_tried, fine_finished, lists_put, fine_put, kept_put, called_put}
use Rattle.call_world.proofs.Logs.{logged_same, turns_put, logged_more}

pub record Leads {C R O : Type 0} (status : R → ℕ) (w w' : World C R O) : Type 0 where
  pub kept : (c : ℕ) → IsKept status (w.connections c) (w'.connections c)
  pub called : IsCalled status w'
  pub logged : IsLogged w'

pub leads_refl : {C R O : Type 0} (status : R → ℕ) (w : World C R O) → IsCalled status w → IsLogged w → Leads status w w
leads_refl status w called logged =
    record { kept = λ c. kept_refl status (w.connections c); called = called; logged = logged }

pub leads_trans : {C R O : Type 0} (status : R → ℕ) (a b c : World C R O) → Leads status a b → Leads status b c → Leads status a c
leads_trans status a b c p q = record {
  kept = λ j. kept_trans status (a.connections j) (b.connections j) (c.connections j) (p.kept j) (q.kept j);
  called = q.called;
  logged = q.logged;
}

same_invocation : {C R : Type 0} (v u : Invocation C R) (o : Option (Invocation C R)) → o ≡ Some v → o ≡ Some u → v ≡ u
same_invocation {C} {R} v u o p q = let e : Some v ≡ Some u = sym p ∙ q in cc

module _ {C R O : Type 0} (status : R → ℕ) (w : World C R O) (called : IsCalled status w) (logged : IsLogged w) where
  -- a connection changes; no seat is added, and none is dispatched
  leads_on : (c : ℕ) (k : Connection R) → IsKept status (w.connections c) k → k.asked ≡ (w.connections c).asked
      → ((s : ℕ) (r : R) → slice_get k.turns s ≡ Some (Dispatched r) → slice_get (w.connections c).turns s ≡ Some (Dispatched r))
      → Leads status w (record w { connections = put_at w.connections c k })
  leads_on c k kept asked turns =
      let w' : World C R O = record w { connections = put_at w.connections c k } in
      let keeps : (j : ℕ) → IsKept status (w.connections j) (w'.connections j) = kept_put status w c k kept in
      record {
        kept = keeps;
        called = called_put status w c k w' refl refl called keeps asked;
        logged = logged_same w w' refl (λ j s r h. (keeps j).turns s (Dispatched r) h) (turns_put w c k turns) logged;
      }

  -- an invocation changes, and keeps its attempts
  leads_put : (i : ℕ) (v : Invocation C R)
      → IsFine status (record w { invocations = put_at w.invocations i (Some v) }) i v
      → ((u : Invocation C R) (n : ℕ) (p : Place) → w.invocations i ≡ Some u → slice_get u.attempts n ≡ Some (Some p) → slice_get v.attempts n ≡ Some (Some p))
      → Leads status w (record w { invocations = put_at w.invocations i (Some v) })
  leads_put i v fine goes =
      let w' : World C R O = record w { invocations = put_at w.invocations i (Some v) } in
      let keeps : (j : ℕ) → IsKept status (w.connections j) (w'.connections j) = λ j. kept_refl status (w.connections j) in
      record {
        kept = keeps;
        called = called_from status w w' called keeps (fine_put status w w' i v refl fine) (lists_put status w w' i v refl goes) (λ p s h. inl h);
        logged = logged_same w w' refl (λ c s r h. h) (λ c s r h. h) logged;
      }

  leads_start : (i : ℕ) (call : C) (idempotent twoway : Bool) → w.invocations i ≡ None
      → Leads status w (record w {
        invocations = put_at w.invocations i (Some (record {
          call = call;
          idempotent = idempotent;
          twoway = twoway;
          attempts = [];
          result = None;
        }));
      })
  leads_start i call idempotent twoway new =
      leads_put i (record { call = call; idempotent = idempotent; twoway = twoway; attempts = []; result = None })
      (record {
        placed = λ n p h. absurd (let z : None ≡ Some (Some p) = h in cc);
        last = λ q n p h l. absurd (let z : None ≡ Some (Some p) = h in cc);
        told = λ r h ok. absurd (let z : None ≡ Some (Replied r) = h in cc);
      })
      (λ u n p h k. absurd (let z : None ≡ Some u = sym new ∙ h in cc))

  leads_finish : (i : ℕ) (v : Invocation C R) (o : Outcome R) → w.invocations i ≡ Some v
      → IsFine status (record w { invocations = put_at w.invocations i (Some (record v { result = Some o })) }) i (record v { result = Some o })
      → Leads status w (record w { invocations = put_at w.invocations i (Some (record v { result = Some o })) })
  leads_finish i v o at fine =
      leads_put i (record v { result = Some o }) fine
      (λ u n p h k.
      subst (λ (x : Invocation C R). slice_get x.attempts n ≡ Some (Some p)) (sym (same_invocation v u (w.invocations i) at h)) k)

miss_leads : {C R O : Type 0} (status : R → ℕ) (w : World C R O) (i : ℕ) (w' : World C R O)
    → IsCalled status w → IsLogged w → Miss status w i w' → Leads status w w'
miss_leads {C} {R} {O} status w i w' called logged (v, at, may, e) =
    let w1 : World C R O = record w { invocations = put_at w.invocations i (Some (tried v None)) } in
    subst (Leads status w) (sym e)
    (leads_put status w called logged i (tried v None)
    (fine_tried status w w1 called (λ j. kept_refl status (w.connections j)) i v None at may (λ q h. cc))
    (λ u n p h k.
    let same = same_invocation v u (w.invocations i) at h in
    get_old v.attempts None n (Some p) (subst (λ (x : Invocation C R). slice_get x.attempts n ≡ Some (Some p)) (sym same) k)))

place_is : (q : Place) (c s : ℕ) → q.connection ≡ c → q.seat ≡ s → record { connection = c; seat = s } ≡ q
place_is q c s a b =
    ap (λ (x : ℕ). record { connection = x; seat = s }) (sym a) ∙ ap (λ (x : ℕ). record { connection = q.connection; seat = x }) (sym b)

ask_leads : {C R O : Type 0} (status : R → ℕ) (c : ℕ) (w : World C R O) (i : ℕ) (w' : World C R O)
    → IsCalled status w → IsLogged w → Ask status c w i w' → Leads status w w'
ask_leads {C} {R} {O} status c w i w' called logged (v, at, may, here, e) =
    let k = w.connections c in
    let p : Place = record { connection = c; seat = length k.asked } in
    let x : Seat = record { invocation = i; twoway = v.twoway; ends = k.asked_bytes } in
    let v1 = tried v (Some p) in
    let w1 : World C R O = record w {
      invocations = put_at w.invocations i (Some v1);
      connections = put_at w.connections c (seated k i v.twoway);
    } in
    let keeps : (j : ℕ) → IsKept status (w.connections j) (w1.connections j) =
    kept_put status w c (seated k i v.twoway) (kept_seated status k i v.twoway here) in
    let seat : IsSeatOf w1 p i = record {
      seat = x;
      asked = put_cases (λ y. slice_get y.asked (length k.asked) ≡ Some x) w.connections c (seated k i v.twoway) c
          (λ q. get_last k.asked x) (λ q. absurd (q refl));
      own = refl;
    } in
    let goes : (u : Invocation C R) (n : ℕ) (q : Place) → w.invocations i ≡ Some u → slice_get u.attempts n ≡ Some (Some q) → slice_get v1.attempts n ≡ Some (Some q) =
    λ u n q h l.
    let same = same_invocation v u (w.invocations i) at h in
    get_old v.attempts (Some p) n (Some q) (subst (λ (y : Invocation C R). slice_get y.attempts n ≡ Some (Some q)) (sym same) l) in
    let new : IsAttemptOf w1 i p = record {
      invocation = v1;
      started = put_cases (λ y. y ≡ Some v1) w.invocations i (Some v1) i (λ q. refl) (λ q. absurd (q refl));
      number = length v.attempts;
      attempt = get_last v.attempts (Some p);
    } in
    subst (Leads status w) (sym e)
    (record {
      kept = keeps;
      called = called_from status w w1 called keeps
          (fine_put status w w1 i v1 refl
          (fine_tried status w w1 called keeps i v (Some p) at may
          (λ q h. let same : p ≡ q = cc in subst (λ (y : Place). IsSeatOf w1 y i) same seat)))
          (lists_put status w w1 i v1 refl goes)
          (λ q s. put_cases (λ y. slice_get y.asked q.seat ≡ Some s → (slice_get (w.connections q.connection).asked q.seat ≡ Some s) ⊎ IsAttemptOf w1 s.invocation q)
          w.connections c (seated k i v.twoway) q.connection
          (λ same h. elim (get_cases k.asked x q.seat s h) [
            | inl old ↦ inl (ap (λ (n : ℕ). slice_get (w.connections n).asked q.seat) same ∙ old)
            | inr more ↦
                let b = place_is q c (length k.asked) same more.0 in
                inr (subst (λ (y : Place). IsAttemptOf w1 s.invocation y) b (subst (λ (y : Seat). IsAttemptOf w1 y.invocation p) more.1 new))
          ])
          (λ other h. inl h));
      logged = logged_same w w1 refl (λ j s r h. (keeps j).turns s (Dispatched r) h)
          (turns_put w c (seated k i v.twoway) (λ s r h. h)) logged;
    })

each_leads : {C R O : Type 0} (status : R → ℕ) (one : World C R O → ℕ → World C R O → Type 0)
    → ((w : World C R O) (i : ℕ) (w' : World C R O) → IsCalled status w → IsLogged w → one w i w' → Leads status w w')
    → (w : World C R O) (is : List ℕ) (w' : World C R O) → IsCalled status w → IsLogged w → Each one w is w' → Leads status w w'
each_leads status one leads w [] w' called logged e = subst (Leads status w) e (leads_refl status w called logged)
each_leads status one leads w (i ∷ is) w' called logged (mid, step, rest) =
    let l = leads w i mid called logged step in
    leads_trans status w mid w' l (each_leads status one leads mid is w' l.called l.logged rest)

pub step_leads : {C R O : Type 0} (rules : Rules C R O) (w : World C R O) (e : Event C R O) (w' : World C R O)
    → IsCalled rules.status w → IsLogged w → Step rules w e w' → Leads rules.status w w'
step_leads rules w (Start i call idempotent twoway) w' called logged (new, e) =
    subst (Leads rules.status w) (sym e) (leads_start rules.status w called logged i call idempotent twoway new)
step_leads rules w (Misses is) w' called logged (message, e) =
    each_leads rules.status (Miss rules.status) (miss_leads rules.status) w is w' called logged e
step_leads {C} {R} {O} rules w (Asks is c size) w' called logged (message, here, e) =
    let w1 : World C R O = record w { connections = put_at w.connections c (begun (w.connections c) size) } in
    let l = leads_on rules.status w called logged c (begun (w.connections c) size)
    (kept_begun rules.status (w.connections c) size) refl (λ s r h. h) in
    leads_trans rules.status w w1 w' l
    (each_leads rules.status (Ask rules.status c) (ask_leads rules.status c) w1 is w' l.called l.logged e)
step_leads {C} {R} {O} rules w (Dispatches c r next) w' called logged (seat, v, ready, at, may, gives, e) =
    let k = w.connections c in
    let k1 = turned k (Dispatched r) in
    let w1 : World C R O = record w {
      connections = put_at w.connections c k1;
      dispatches = w.dispatches ++ record { connection = c; seat = length k.turns; reply = r } ∷ [];
      objects = next;
    } in
    let keeps : (j : ℕ) → IsKept rules.status (w.connections j) (w1.connections j) =
    kept_put rules.status w c k1 (kept_dispatched rules.status k seat r ready (rules.dispatched w.objects v.call r next gives)) in
    subst (Leads rules.status w) (sym e)
    (record {
      kept = keeps;
      called = called_put rules.status w c k1 w1 refl refl called keeps refl;
      logged = logged_more w c r next logged;
    })
step_leads {C} {R} {O} rules w (Refuses c r) w' called logged (seat, v, ready, at, may, gives, e) =
    let k = w.connections c in
    subst (Leads rules.status w) (sym e)
    (leads_on rules.status w called logged c (refused k seat.twoway r)
    (kept_refused rules.status k seat r seat.twoway ready (rules.refused w.objects v.call r gives)) (refused_asked k seat.twoway r)
    (λ s q h. elim (get_cases k.turns (Refused r) s (Dispatched q) (ap (λ (xs : List (Turn R)). slice_get xs s) (sym (refused_turns k seat.twoway r)) ∙ h)) [
      | inl old ↦ old
      | inr new ↦ absurd (let z = new.1 in cc)
    ]))
step_leads {C} {R} {O} rules w (On c event) w' called logged (k, step, e) =
    let same = connection_beside (w.connections c) event k step in
    subst (Leads rules.status w) (sym e)
    (leads_on rules.status w called logged c k (kept_connection rules.status (w.connections c) event k step) same.0
    (λ s r h. ap (λ (xs : List (Turn R)). slice_get xs s) (sym same.1) ∙ h))
step_leads {C} {R} {O} rules w (Finishes i o) w' called logged (v, at, unfinished, may, e) =
    let w1 : World C R O = record w { invocations = put_at w.invocations i (Some (record v { result = Some o })) } in
    subst (Leads rules.status w) (sym e)
    (leads_finish rules.status w called logged i v o at
    (fine_finished rules.status w w1 called (λ j. kept_refl rules.status (w.connections j)) i v o at may))
