-- In a schema each class is found by its type id.
use Rattle.std.proofs.Common.{ℕ, zero, suc, ◌≡◌, Bool, true, false, List, [], ◌∷◌, map, refl, sym, ap, ◌∙◌, arith, Option, Some, None}
use Rattle.std.specs.Prelude.{slice_get, if◌then◌else◌}
use Rattle.std.specs.Str.{bytes_eq}
use Rattle.std.proofs.lemmas.Bool.{false≢true}
use Rattle.std.proofs.lemmas.Slice.Eq.{bytes_eq-Decides}
use Rattle.ice_types.specs.declared.declarations.ClassDecl.{ClassDecl}
use Rattle.ice_types.specs.declared.kind.RowRef.TheVariants as rows
use Rattle.ice_types.specs.Tables.{Tables}
use Rattle.ice_types.specs.Rules.{IsSchema}
use Rattle.ice_encoding.specs.Classes.{one_further, place_of, class_named}

-- no two rows have one id
abbrev pub Apart : List ClassDecl → Type 0
Apart ds = (a b : ℕ) (c d : ClassDecl) → slice_get ds a ≡ Some c → slice_get ds b ≡ Some d → c.id ≡ d.id → a ≡ b

less : (a b : ℕ) → suc a ≡ suc b → a ≡ b
less a b e = omega (arith, e)

place_by : (c d : ClassDecl) (ds : List ClassDecl) → Apart (c ∷ ds) → ((at : ℕ) → slice_get ds at ≡ Some d → place_of (map (λ x. x.id) ds) d.id ≡ Some at)
    → (b : Bool) → bytes_eq c.id d.id ≡ b → (class : ℕ) → slice_get (c ∷ ds) class ≡ Some d → (if b then Some 0 else one_further (place_of (map (λ x. x.id) ds) d.id)) ≡ Some class
place_by c d ds apart later true same class is = ap Some (apart 0 class c d refl is ((bytes_eq-Decides c.id d.id).0 same))
place_by c d ds apart later false other zero is = let same : c ≡ d = cc in absurd (false≢true (sym other ∙ (bytes_eq-Decides c.id d.id).1 (ap (λ (x : ClassDecl). x.id) same)))
place_by c d ds apart later false other (suc class) is = ap one_further (later class is)

pub own_place : (ds : List ClassDecl) → Apart ds → (class : ℕ) (d : ClassDecl) → slice_get ds class ≡ Some d → place_of (map (λ c. c.id) ds) d.id ≡ Some class
own_place [] apart class d is = absurd cc
own_place (c ∷ ds) apart class d is =
    place_by c d ds apart (λ at at_is. own_place ds (λ a b x y x_is y_is same. less a b (apart (suc a) (suc b) x y x_is y_is same)) at d at_is) (bytes_eq c.id d.id) refl class is

pub id_of_row : (ds : List ClassDecl) (at : ℕ) (d : ClassDecl) → slice_get ds at ≡ Some d → slice_get (map (λ c. c.id) ds) at ≡ Some d.id
id_of_row [] at d is = absurd cc
id_of_row (c ∷ ds) zero d is = ap (λ (o : Option ClassDecl). elim o [ None ↦ None | Some x ↦ Some x.id ]) is
id_of_row (c ∷ ds) (suc at) d is = id_of_row ds at d is

same_row : (a b : ℕ) → rows.Class a ≡ rows.Class b → a ≡ b
same_row a b e = cc

-- each class is found by its type id
abbrev pub AreNamed : Tables → Type 0
AreNamed t = (class : ℕ) (d : ClassDecl) → slice_get t.classes class ≡ Some d → class_named t d.id ≡ Some class

pub are_named : (t : Tables) → IsSchema t → AreNamed t
are_named t rules class d is = own_place t.classes apart class d is
  where
    apart : Apart t.classes
    apart = λ a b c d a_is b_is same. same_row a b
        (rules.apart d.id (rows.Class a) (rows.Class b) (id_of_row t.classes a c a_is ∙ ap Some same) (id_of_row t.classes b d b_is))
