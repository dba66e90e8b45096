-- What there is where no fault is found.
use Rattle.std.proofs.Common.{◌≡◌, ℕ, Bool, true, false, List, [], ◌∷◌, ◌++◌, Result, Ok, Err, refl}
use Rattle.std.specs.Prelude.{◌||◌}
use Rattle.slice_syntax.specs.declared.tree.TypeWord.{TypeWord}
use Rattle.ice_types.specs.declared.kind.TypeRef.{TypeRef}
use Rattle.ice_types.specs.declared.kind.TypeRef.TheVariants as kinds
use Rattle.slice_meaning.specs.declared.fault.CheckKind.{CheckKind}
use Rattle.slice_meaning.specs.Known.{Known}
use Rattle.slice_meaning.specs.Uses.{where_true, unless_ok, type_of}
use Rattle.slice_meaning.specs.After.{kind_of}

pub both_none : {A : Type 0} (xs ys : List A) → xs ++ ys ≡ [] → (xs ≡ []) × (ys ≡ [])
both_none [] ys h = (refl, h)
both_none (x ∷ xs) ys h = absurd cc

pub test_off : (b : Bool) (place : ℕ) (row : CheckKind) → where_true b place row ≡ [] → b ≡ false
test_off true place row h = absurd cc
test_off false place row h = refl

pub is_ok : {A : Type 0} (place : ℕ) (r : Result A CheckKind) → unless_ok place r ≡ [] → (x : A) × (r ≡ Ok x)
is_ok place (Ok x) h = (x, refl)
is_ok place (Err row) h = absurd cc

pub either_off : (a b : Bool) → (a || b) ≡ false → (a ≡ false) × (b ≡ false)
either_off true b h = absurd cc
either_off false b h = (refl, h)

pub kind_is : (k : Known) (word : TypeWord) (kind : TypeRef) → type_of k word ≡ Ok kind → kind_of k word ≡ kind
kind_is k word kind h = by_type (type_of k word) h
  where
    by_type : (r : Result TypeRef CheckKind) → r ≡ Ok kind → elim r as (λ _. TypeRef) [ Err row ↦ kinds.Bool | Ok found ↦ found ] ≡ kind
    by_type (Ok found) h = cc
    by_type (Err row) h = absurd cc
