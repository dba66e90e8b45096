-- The log of dispatches stays that of the seats that had such a turn.
use Rattle.std.proofs.Common.{◌≡◌, ℕ, inl, inr, List, [], ◌∷◌, ◌++◌, length, Some, refl, ap, sym, ◌∙◌, subst, arith}
use Rattle.std.specs.Prelude.{slice_get}
use Rattle.call_world.specs.World.{World, Connection, Dispatched, Dispatch, put_at}
use Rattle.call_world.specs.Connection.{turned}
use Rattle.call_world.specs.Reached.{IsLogged}
use Rattle.call_world.proofs.Lists.{get_old, get_last, get_cases, get_within, put_cases}

-- nothing is dispatched
pub logged_same : {C R O : Type 0} (w w' : World C R O) → w'.dispatches ≡ w.dispatches
    → ((c s : ℕ) (r : R) → slice_get (w.connections c).turns s ≡ Some (Dispatched r) → slice_get (w'.connections c).turns s ≡ Some (Dispatched r))
    → ((c s : ℕ) (r : R) → slice_get (w'.connections c).turns s ≡ Some (Dispatched r) → slice_get (w.connections c).turns s ≡ Some (Dispatched r))
    → IsLogged w → IsLogged w'
logged_same {C} {R} w w' same to from log =
    let old : (n : ℕ) (d : Dispatch R) → slice_get w'.dispatches n ≡ Some d → slice_get w.dispatches n ≡ Some d =
    λ n d h. ap (λ (xs : List (Dispatch R)). slice_get xs n) (sym same) ∙ h in
    record {
      recorded = λ n d h. to d.connection d.seat d.reply (log.recorded n d (old n d h));
      known = λ c s r h.
          let k = log.known c s r (from c s r h) in
          (k.0, ap (λ (xs : List (Dispatch R)). slice_get xs k.0) same ∙ k.1);
      distinct = λ m n d e a b. log.distinct m n d e (old m d a) (old n e b);
    }

-- a connection changes, and no seat of it had another turn
pub turns_put : {C R O : Type 0} (w : World C R O) (c : ℕ) (k : Connection R)
    → ((s : ℕ) (r : R) → slice_get k.turns s ≡ Some (Dispatched r) → slice_get (w.connections c).turns s ≡ Some (Dispatched r))
    → (j s : ℕ) (r : R) → slice_get (put_at w.connections c k j).turns s ≡ Some (Dispatched r) → slice_get (w.connections j).turns s ≡ Some (Dispatched r)
turns_put {C} {R} w c k from j s r =
    put_cases (λ x. slice_get x.turns s ≡ Some (Dispatched r) → slice_get (w.connections j).turns s ≡ Some (Dispatched r)) w.connections c k j
    (λ e h. ap (λ (n : ℕ). slice_get (w.connections n).turns s) e ∙ from s r h)
    (λ e h. h)

-- the next seat of connection c is dispatched with the reply r
pub logged_more : {C R O : Type 0} (w : World C R O) (c : ℕ) (r : R) (next : O) → IsLogged w
    → IsLogged (record w {
      connections = put_at w.connections c (turned (w.connections c) (Dispatched r));
      dispatches = w.dispatches ++ record { connection = c; seat = length (w.connections c).turns; reply = r } ∷ [];
      objects = next;
    })
logged_more {C} {R} w c r next log =
    let k = w.connections c in
    let k' = turned k (Dispatched r) in
    let x : Dispatch R = record { connection = c; seat = length k.turns; reply = r } in
    let Here : Connection R → Dispatch R → Type 0 = λ y d. slice_get y.turns d.seat ≡ Some (Dispatched d.reply) in
    record {
      recorded = λ n d h. elim (get_cases w.dispatches x n d h) [
        | inl old ↦
            put_cases (λ y. Here y d) w.connections c k' d.connection
            (λ e. get_old k.turns (Dispatched r) d.seat (Dispatched d.reply)
            (ap (λ (n : ℕ). slice_get (w.connections n).turns d.seat) (sym e) ∙ log.recorded n d old))
            (λ e. log.recorded n d old)
        | inr new ↦
            subst (λ (z : Dispatch R). Here (put_at w.connections c k' z.connection) z) new.1
            (put_cases (λ y. Here y x) w.connections c k' c (λ e. get_last k.turns (Dispatched r)) (λ e. absurd (e refl)))
      ];
      known = λ j s q.
          put_cases (λ y. slice_get y.turns s ≡ Some (Dispatched q)
          → (n : ℕ) × (slice_get (w.dispatches ++ x ∷ []) n ≡ Some (record { connection = j; seat = s; reply = q })))
          w.connections c k' j
          (λ e h. elim (get_cases k.turns (Dispatched r) s (Dispatched q) h) [
            | inl old ↦
                let f = log.known j s q (ap (λ (n : ℕ). slice_get (w.connections n).turns s) e ∙ old) in
                (f.0, get_old w.dispatches x f.0 (record { connection = j; seat = s; reply = q }) f.1)
            | inr new ↦
                let a : r ≡ q = let z = new.1 in cc in
                let b = new.0 in
                let y : x ≡ record { connection = j; seat = s; reply = q } = cc in
                (length w.dispatches, get_last w.dispatches x ∙ ap (λ (z : Dispatch R). Some z) y)
          ])
          (λ e h.
          let f = log.known j s q h in
          (f.0, get_old w.dispatches x f.0 (record { connection = j; seat = s; reply = q }) f.1));
      distinct = λ m n d e a b p q.
          let apart : (u : ℕ) (y : Dispatch R) → slice_get w.dispatches u ≡ Some y → y.connection ≡ c → y.seat ≡ length k.turns → ⊥ =
          λ u y h i j.
          let t = log.recorded u y h in
          let t' : slice_get k.turns y.seat ≡ Some (Dispatched y.reply) = ap (λ (z : ℕ). slice_get (w.connections z).turns y.seat) (sym i) ∙ t in
          let l = get_within k.turns y.seat (Dispatched y.reply) t' in
          omega arith in
          elim (get_cases w.dispatches x m d a) [
            | inl olda ↦ elim (get_cases w.dispatches x n e b) [
              | inl oldb ↦ log.distinct m n d e olda oldb p q
              | inr newb ↦ absurd (apart m d olda (p ∙ ap (λ z. z.connection) (sym newb.1)) (q ∙ ap (λ z. z.seat) (sym newb.1)))
            ]
            | inr newa ↦ elim (get_cases w.dispatches x n e b) [
              | inl oldb ↦ absurd (apart n e oldb (sym p ∙ ap (λ z. z.connection) (sym newa.1)) (sym q ∙ ap (λ z. z.seat) (sym newa.1)))
              | inr newb ↦ newa.0 ∙ sym newb.0
            ]
          ];
    }
