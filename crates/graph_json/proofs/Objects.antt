-- Objects by how many names they have, before what stands at the names is read.
use Rattle.std.proofs.Common.{◌≡◌, ℕ, true, false, length, IfOk, List, Option, None, Some, Result, option_map, refl, sym, ◌∙◌, arith}
use Rattle.std.specs.Prelude.{Bool, nat_eq, option_and_then}
use Rattle.std.specs.declared.alloc.AllocError.{AllocError}
use Rattle.std.proofs.lemmas.Bool.{eq-eqb, ne_eqb}
use Rattle.std.proofs.lemmas.Option.{none-some, same_Some}
use Rattle.serde_json.specs.Data as json
use Rattle.serde_json.specs.Data.{Data}
use Rattle.serde_json.specs.Find.{as_object}
use Rattle.serde_json.specs.Events.{members_len}
use Rattle.graph_json.specs.View.{members_view}
use Rattle.graph_json.specs.View.{Entry}
use Rattle.graph_json.proofs.Views.{members_len-members_view}
use Rattle.ice_types.specs.Tables.{Tables}
use Rattle.graph_arena.specs.declared.instance.Slice.{Slice}
use Rattle.graph_arena.specs.Seen.{view_slice}
use Rattle.graph_json.specs.ReadingValues.{some, whole}
use Rattle.graph_json.specs.Reading.{of_object, known_in, unknown_in, slice_of}

module _ (es : List Entry) (d : Data) (n : ℕ) (is : Some (members_view es) ≡ as_object d) (len : n ≡ length es) where
  size : (k : ℕ) → n ≡ k → nat_eq (members_len (members_view es)) k ≡ true
  size k same = eq-eqb _ _ (members_len-members_view es ∙ sym len ∙ same)

  other_size : (k : ℕ) → (n ≡ k → ⊥) → nat_eq (members_len (members_view es)) k ≡ false
  other_size k other = ne_eqb _ _ (λ e. other (len ∙ sym (members_len-members_view es) ∙ e))

  pub object_there : (k : ℕ) → n ≡ k → Some (members_view es) ≡ of_object k some d
  object_there k same = rw (← is, size k same) refl

  pub object_other : (k : ℕ) → (n ≡ k → ⊥) → None ≡ of_object k some d
  object_other k other = rw (← is, other_size k other) refl

module _ (t : Tables) (es : List Entry) (d : Data) (n : ℕ) where
  pub known_there : (r : Result (Option Slice) AllocError) → Some (members_view es) ≡ as_object d → n ≡ length es → n ≡ 2
      → IfOk r (λ o. option_map view_slice o ≡ known_in t (members_view es)) → IfOk r (λ o. option_map view_slice o ≡ slice_of t d)
  known_there r is len same h = rw (← is, size es d n is len 2 same) h

  pub unknown_there : (r : Result (Option Slice) AllocError) → Some (members_view es) ≡ as_object d → n ≡ length es → n ≡ 4
      → IfOk r (λ o. option_map view_slice o ≡ unknown_in (members_view es)) → IfOk r (λ o. option_map view_slice o ≡ slice_of t d)
  unknown_there r is len same h =
      let two : nat_eq (members_len (members_view es)) 2 ≡ false = other_size es d n is len 2 (four n same) in
      rw (← is, two, size es d n is len 4 same) h
    where
      four : (k : ℕ) → k ≡ 4 → k ≡ 2 → ⊥
      four k a b = omega (arith, a, b)

  pub no_slice : Some (members_view es) ≡ as_object d → n ≡ length es → (n ≡ 2 → ⊥) → (n ≡ 4 → ⊥) → None ≡ slice_of t d
  no_slice is len first second = rw (← is, other_size es d n is len 2 first, other_size es d n is len 4 second) refl

-- ---- an object that is read, or that is not

pub object_read : {A : Type 0} (k : ℕ) (read : json.Members → Option A) (d : Data) (found : json.Members) → Some found ≡ of_object k some d → of_object k read d ≡ read found
object_read k read d found h = go (as_object d) h
  where
    by : (ms : json.Members) (b : Bool) → nat_eq (members_len ms) k ≡ b → Some found ≡ whole k some ms → whole k read ms ≡ read found
    by ms true e h =
        let here : Some found ≡ Some ms = h ∙ (rw e refl) in
        rw (e, ← same_Some found ms here) refl
    by ms false e h =
        let nothing : Some found ≡ None = h ∙ (rw e refl) in
        absurd (none-some found (sym nothing))

    go : (o : Option json.Members) → Some found ≡ option_and_then (whole k some) o → option_and_then (whole k read) o ≡ read found
    go (Some ms) h = by ms (nat_eq (members_len ms) k) refl h
    go None h = absurd (none-some found (sym h))

pub object_unread : {A : Type 0} (k : ℕ) (read : json.Members → Option A) (d : Data) → None ≡ of_object k some d → None ≡ of_object k read d
object_unread k read d h = go (as_object d) h
  where
    by : (ms : json.Members) (b : Bool) → nat_eq (members_len ms) k ≡ b → None ≡ whole k some ms → None ≡ whole k read ms
    by ms true e h =
        let here : None ≡ Some ms = h ∙ (rw e refl) in
        absurd (none-some ms here)
    by ms false e h = rw e refl

    go : (o : Option json.Members) → None ≡ option_and_then (whole k some) o → None ≡ option_and_then (whole k read) o
    go (Some ms) h = by ms (nat_eq (members_len ms) k) refl h
    go None h = refl
