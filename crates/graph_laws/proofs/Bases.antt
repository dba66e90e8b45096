-- The class of a type id, and the base of a class, are rows of the tables.
use Rattle.std.proofs.Common.{ℕ, zero, suc, ◌<◌, ◌≡◌, Bool, true, false, List, [], ◌∷◌, length, map, refl, subst, arith, Option, Some, None}
use Rattle.std.specs.Prelude.{IsTrue, slice_get, option_and_then, if◌then◌else◌}
use Rattle.std.specs.Str.{bytes_eq}
use Rattle.std.proofs.lemmas.Slice.Eq.{bytes_eq-Decides}
use Rattle.ice_types.specs.declared.declarations.ClassDecl.{ClassDecl}
use Rattle.ice_types.specs.Tables.{Tables, is_defined}
use Rattle.ice_types.specs.Rules.{IsSchema}
use Rattle.ice_types.specs.Fits.{ClassBaseFits}
use Rattle.ice_types.proofs.BaseChains.{flag_within}
use Rattle.ice_encoding.specs.Classes.{one_further, place_of, base_of}

abbrev pub IsRow : List ClassDecl → ℕ → Type 0
IsRow ds class = (d : ClassDecl) × (slice_get ds class ≡ Some d)

further_some : {C : Type 0} (o : Option ℕ) (i : ℕ) → one_further o ≡ Some i → ((j : ℕ) → o ≡ Some j → suc j ≡ i → C) → C
further_some None i e go = absurd cc
further_some (Some j) i e go = go j refl cc

pub row_of_id : (ds : List ClassDecl) (id : List ℕ) (c : ℕ) → place_of (map (λ d. d.id) ds) id ≡ Some c → (d : ClassDecl) × (slice_get ds c ≡ Some d) × (d.id ≡ id)
row_of_id [] id c e = absurd cc
row_of_id (d ∷ ds) id c e = by_test (row_of_id ds id) (bytes_eq d.id id) refl e
  where
    by_test : ((j : ℕ) → place_of (map (λ d. d.id) ds) id ≡ Some j → (x : ClassDecl) × (slice_get ds j ≡ Some x) × (x.id ≡ id)) → (b : Bool) → bytes_eq d.id id ≡ b
        → (if b then Some 0 else one_further (place_of (map (λ d. d.id) ds) id)) ≡ Some c → (x : ClassDecl) × (slice_get (d ∷ ds) c ≡ Some x) × (x.id ≡ id)
    by_test later true same e = let zero_is : 0 ≡ c = cc in subst (λ (k : ℕ). (x : ClassDecl) × (slice_get (d ∷ ds) k ≡ Some x) × (x.id ≡ id)) zero_is (d, refl, (bytes_eq-Decides d.id id).0 same)
    by_test later false same e =
        further_some (place_of (map (λ d. d.id) ds) id) c e λ j at next.
        let rest = later j at in
        subst (λ (k : ℕ). (x : ClassDecl) × (slice_get (d ∷ ds) k ≡ Some x) × (x.id ≡ id)) next (rest.0, rest.1, rest.2)

pub row_named : (ds : List ClassDecl) (id : List ℕ) (c : ℕ) → place_of (map (λ d. d.id) ds) id ≡ Some c → IsRow ds c
row_named ds id c e = let r = row_of_id ds id c e in (r.0, r.1)

row_within : (ds : List ClassDecl) (at : ℕ) → at < length ds → IsRow ds at
row_within [] at lt = absurd (omega (arith, lt))
row_within (d ∷ ds) zero lt = (d, refl)
row_within (d ∷ ds) (suc at) lt = row_within ds at (omega (arith, lt))

base_fits : (t : Tables) (stated : Option ℕ) (base : ℕ) → stated ≡ Some base → ClassBaseFits t stated → IsTrue (is_defined t.defined_classes base)
base_fits t None base e h = absurd cc
base_fits t (Some other) base e h = let same : other ≡ base = cc in subst (λ (c : ℕ). IsTrue (is_defined t.defined_classes c)) same h

-- the base of a class is a class of the tables
pub base_is_row : (t : Tables) (class base : ℕ) → IsSchema t → base_of t class ≡ Some base → IsRow t.classes base
base_is_row t class base rules e = by_row (slice_get t.classes class) refl e
  where
    by_row : (row : Option ClassDecl) → slice_get t.classes class ≡ row → option_and_then (λ c. c.base) row ≡ Some base → IsRow t.classes base
    by_row None is e = absurd cc
    by_row (Some d) is e =
        let inside = flag_within t.defined_classes base (base_fits t d.base base e (rules.classes class d is).0) in
        row_within t.classes base (omega (arith, inside, rules.class_flags))
