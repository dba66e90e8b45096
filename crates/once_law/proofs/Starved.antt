-- A client that ran out of memory: each attempt but the last may be followed, and one that may be followed gave a call
-- that is not idempotent no turn, or two such attempts would give it two.
use Rattle.std.proofs.Common.{◌≡◌, ◌⊎◌, inl, inr, ℕ, zero, suc, ◌+◌, ◌≤◌, false, List, [], ◌∷◌, ◌++◌, length, map, None, Some, refl, ap, sym, ◌∙◌, subst, arith}
use Rattle.std.specs.Prelude.{slice_get}
use Rattle.std.proofs.lemmas.List.{length-map}
use Rattle.std.proofs.lemmas.Option.{slice_get_within}
use Rattle.ice_encoding.specs.Parts.{Each}
use Rattle.ice_messages.specs.declared.message.Call.{Call}
use Rattle.ice_messages.specs.declared.message.Answer.{Answer}
use Rattle.ice_messages.specs.declared.message.Message.{Message}
use Rattle.ice_client.specs.ClientDid.{Tried, IsFollowed, ClientDid, ClientStarved}
use Rattle.once_law.specs.Ends.{Attempted, tried_of, HasOtherEnd, Delivery, IsDelivery, IsStarved, RunsOut}
use Rattle.once_law.specs.Shown.{calls_of}
use Rattle.once_law.specs.Laws.{HasTurn, HasSingleTurns, StarvedTurnsAreSingle}
use Rattle.once_law.proofs.Lists.{none_at, first_is, head_is, tail_is}
use Rattle.once_law.proofs.Dispatches.{got}
use Rattle.once_law.proofs.Turns.{single_turns}

-- a client whose last attempt was cut off ran out of memory
pub runs_out : (m : Message) (retries : ℕ) (tried : List Tried) → ClientStarved m retries tried → RunsOut m retries tried
runs_out m retries tried (inl none) = inl none
runs_out m retries tried (inr c) =
    let few : length (c.cut.last ∷ []) ≤ 1 = omega arith in
    inr (c.cut.before, c.cut.last ∷ [], c.cut.parts, few, record { outgoing = c.outgoing; is_of = c.is_of; ended = (c.cut.followed, c.cut.few) })

-- ---- the front of a list, and what is behind it

record Split {A B : Type 0} (f : A → B) (xs : List A) (ys zs : List B) : Type 0 where
  front : List A
  back : List A
  whole : xs ≡ front ++ back
  mapped : map f front ≡ ys
  left : map f back ≡ zs

split : {A B : Type 0} (f : A → B) (xs : List A) (ys zs : List B) → map f xs ≡ ys ++ zs → Split f xs ys zs
split f xs [] zs e = record { front = []; back = xs; whole = refl; mapped = refl; left = e }
split f [] (y ∷ ys) zs e = absurd cc
split {A} {B} f (x ∷ xs) (y ∷ ys) zs e =
    let r = split f xs ys zs (tail_is e) in
    record {
      front = x ∷ r.front;
      back = r.back;
      whole = ap (λ (ws : List A). x ∷ ws) r.whole;
      mapped = ap (λ (b : B). b ∷ map f r.front) (head_is e) ∙ ap (λ (bs : List B). y ∷ bs) r.mapped;
      left = r.left;
    }

in_front : {A : Type 0} (xs ys : List A) (n : ℕ) (x : A) → length ys ≤ 1 → slice_get (xs ++ ys) n ≡ Some x → (slice_get xs n ≡ Some x) ⊎ (n ≡ length xs)
in_front [] ys n x few g = let below = slice_get_within ys n x g in inr (omega arith)
in_front (z ∷ xs) ys zero x few g = inl g
in_front (z ∷ xs) ys (suc n) x few g = elim (in_front xs ys n x few g) [ inl a ↦ inl a | inr b ↦ inr (ap suc b) ]

each_at : {A : Type 0} (P : A → Type 0) (xs : List A) (n : ℕ) (x : A) → Each P xs → slice_get xs n ≡ Some x → P x
each_at P [] n x e g = absurd (none_at n x g)
each_at P (y ∷ ys) zero x e g = subst P (first_is y x g) e.0
each_at P (y ∷ ys) (suc n) x e g = each_at P ys n x e.1 g

each_front : {A : Type 0} (P : A → Type 0) (xs ys : List A) → Each P (xs ++ ys) → Each P xs
each_front P [] ys e = tt
each_front P (x ∷ xs) ys e = (e.0, each_front P xs ys e.1)

-- ---- attempts before the last

module _ (d : Delivery) (h : IsStarved d) (before rest : List Tried) (parts_are : map tried_of d.attempts ≡ before ++ rest) (few : length rest ≤ 1) (did : ClientDid d.message d.retries before None) where
  parts : Split tried_of d.attempts before rest
  parts = split tried_of d.attempts before rest parts_are

  -- one of those in front once more, in front of all of them
  abbrev again : Attempted → Delivery
  again x = record { message = d.message; retries = length (map tried_of (x ∷ parts.front)); attempts = x ∷ parts.front; outcome = None }

  is_delivery : (n : ℕ) (x : Attempted) → slice_get parts.front n ≡ Some x → IsDelivery (again x)
  is_delivery n x at =
      let followed : Each (IsFollowed did.outgoing) (map tried_of parts.front) = subst (Each (IsFollowed did.outgoing)) (sym parts.mapped) did.ended.0 in
      let met : Each HasOtherEnd parts.front = each_front HasOtherEnd parts.front parts.back (subst (Each HasOtherEnd) parts.whole h.ends) in
      record {
        sent = h.sent;
        client = record {
          outgoing = did.outgoing;
          is_of = did.is_of;
          ended = ((each_at (IsFollowed did.outgoing) (map tried_of parts.front) n (tried_of x) followed (got tried_of parts.front n x at), followed), omega arith);
        };
        ends = (each_at HasOtherEnd parts.front n x met at, met);
      }

  none_before : (n seat : ℕ) (call : Call) (answer : Answer) (t : HasTurn d n seat answer) → slice_get (calls_of d.message) seat ≡ Some (call, false) → slice_get parts.front n ≡ Some t.attempt → ⊥
  none_before n seat call answer t asked at =
      let first : HasTurn (again t.attempt) 0 seat answer = record { attempt = t.attempt; at = refl; session = t.session; served = t.served; gave = t.gave } in
      let second : HasTurn (again t.attempt) (suc n) seat answer = record { attempt = t.attempt; at = at; session = t.session; served = t.served; gave = t.gave } in
      let same : 0 ≡ suc n = single_turns (again t.attempt) (is_delivery n t.attempt at) seat call asked 0 (suc n) answer answer first second in
      omega arith

  stands : (n seat : ℕ) (answer : Answer) (t : HasTurn d n seat answer) → (slice_get parts.front n ≡ Some t.attempt) ⊎ (n ≡ length parts.front)
  stands n seat answer t =
      let short : length parts.back ≤ 1 = omega (arith, few, sym (length-map parts.back tried_of), ap length parts.left) in
      in_front parts.front parts.back n t.attempt short (ap (λ (xs : List Attempted). slice_get xs n) (sym parts.whole) ∙ t.at)

  single_out : HasSingleTurns d
  single_out seat call asked m n a b t u = by (stands m seat a t) (stands n seat b u)
    where
      by : (slice_get parts.front m ≡ Some t.attempt) ⊎ (m ≡ length parts.front) → (slice_get parts.front n ≡ Some u.attempt) ⊎ (n ≡ length parts.front) → m ≡ n
      by (inl at) y = absurd (none_before m seat call a t asked at)
      by (inr e) (inl at) = absurd (none_before n seat call b u asked at)
      by (inr e) (inr f) = e ∙ sym f

-- ---- no attempt

no_attempt : (d : Delivery) → map tried_of d.attempts ≡ [] → HasSingleTurns d
no_attempt d none seat call asked m n a b t u =
    absurd (none_at m (tried_of t.attempt) (ap (λ (ts : List Tried). slice_get ts m) (sym none) ∙ got tried_of d.attempts m t.attempt t.at))

pub starved_turns : StarvedTurnsAreSingle
starved_turns d h = by h.client
  where
    by : RunsOut d.message d.retries (map tried_of d.attempts) → HasSingleTurns d
    by (inl none) = no_attempt d none
    by (inr (before, rest, parts, few, did)) = single_out d h before rest parts few did
