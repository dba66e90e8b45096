-- Enumerators that stand at the places of their numbers.
use Rattle.std.proofs.Common.{◌≡◌, ◌≢◌, ℕ, zero, suc, List, [], ◌∷◌, Option, Some, sym, ap, ◌∙◌, subst}
use Rattle.std.specs.Prelude.{All, slice_get}
use Rattle.std.proofs.lemmas.Bool.{eq-eqb, ne_eqb}
use Rattle.std.proofs.lemmas.Option.{none-some, same_Some}
use Rattle.std.proofs.lemmas.List.Elements.{All-head, All-tail}
use Rattle.ice_types.specs.declared.declarations.Entry.{Entry}
use Rattle.ice_types.specs.Fits.{DifferFrom}
use Rattle.graph_json.specs.CanonicalValues.{name_numbered}
use Rattle.graph_json.proofs.Names.{entry_numbers}

-- a number of the list is none of those before it
differs : (before : List ℕ) (es : List Entry) (i : ℕ) (e : Entry) → slice_get es i ≡ Some e → DifferFrom before (entry_numbers es) → All (λ n. n ≢ e.number) before
differs before [] i e here apart = absurd (none-some e here)
differs before (x ∷ xs) zero e here apart = subst (λ (y : Entry). All (λ n. n ≢ y.number) before) (same_Some x e here) apart.0
differs before (x ∷ xs) (suc i) e here apart = All-tail (λ n. n ≢ e.number) x.number before (differs (x.number ∷ before) xs i e here apart.1)

-- one that stands anywhere is the first of its number
pub first_of_number : (before : List ℕ) (es : List Entry) (i n : ℕ) (e : Entry) → slice_get es i ≡ Some e → DifferFrom before (entry_numbers es) → e.number ≡ n
    → Some e.name ≡ name_numbered n es
first_of_number before [] i n e here apart is = absurd (none-some e here)
first_of_number before (x ∷ xs) zero n e here apart is =
    let same = same_Some x e here in
    rw (eq-eqb x.number n (ap (λ (y : Entry). y.number) same ∙ is)) (ap (λ (y : Entry). some y.name) (sym same))
  where
    some : List ℕ → Option (List ℕ)
    some name = Some name
first_of_number before (x ∷ xs) (suc i) n e here apart is =
    let other = All-head (λ m. m ≢ e.number) x.number before (differs (x.number ∷ before) xs i e here apart.1) in
    rw (ne_eqb x.number n (λ same. other (same ∙ sym is))) (first_of_number (x.number ∷ before) xs i n e here apart.1 is)
