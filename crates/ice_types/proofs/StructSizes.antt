-- Members that are small enough for a struct.
use Rattle.std.proofs.Common.{◌≡◌, ◌≢◌, Bool, true, false, List, [], Option, Some, None, refl, sym, ◌∙◌, rules, tests}
use Rattle.std.specs.Prelude.{IsTrue, ◌↔◌, is_some, if◌then◌else◌}
use Rattle.ice_types.specs.declared.declarations.Member.{Member}
use Rattle.ice_types.specs.declared.kind.TypeRef.{TypeRef}
use Rattle.ice_types.specs.declared.measure.Measure.{Measure}
use Rattle.ice_types.specs.Tables.{Tables}
use Rattle.ice_types.specs.Measures.{measure, measured, measure_members, struct_of}
use Rattle.ice_types.specs.Fits.{small_members, is_small, names_of, AreRequired, DictFits, StructFits}
use Rattle.ice_types.specs.Names.{AreNew}

-- members that a struct may have are small enough
pub small_fits : (t : Tables) (members : List Member) → (fits : StructFits t members) → small_members t members ≡ Some fits.0
small_fits t members fits = let small : is_small fits.0 ≡ true = search (rules, tests, fits.2) in rw (fits.1, small) refl

pub fits_struct_is : (t : Tables) (members : List Member) → members ≢ [] → AreNew [] (names_of members) → AreRequired members → IsTrue (is_some (struct_of (small_members t members))) ↔ StructFits t members
fits_struct_is t members some names required = (fits (measure_members (measure t 99) members) refl, λ fit. rw (small_fits t members fit) refl)
  where
    fits : (found : Option Measure) → measure_members (measure t 99) members ≡ found → IsTrue (is_some (struct_of (measured found (λ m. if is_small m then Some m else None)))) → StructFits t members
    fits None e h = absurd cc
    fits (Some x) e h = by_size (is_small x) refl h
      where
        by_size : (small : Bool) → is_small x ≡ small → IsTrue (is_some (struct_of (if small then Some x else None))) → StructFits t members
        by_size true small found = (x, e, search (rules, tests), some, names, required)
        by_size false small found = absurd cc

-- a dictionary of a key that may be one fits where its value does
pub dict_fits_is : (t : Tables) (key value : TypeRef) (k : Measure) → measure t 98 key ≡ Some k → k.is_key ≡ true → (v : Option Measure) → v ≡ measure t 98 value → (fits : Bool) → fits ≡ is_some v → IsTrue fits ↔ DictFits t key value
dict_fits_is t key value k found is_key None e fits is = (
  λ h. let clash : false ≡ true = sym is ∙ h in absurd cc,
  λ fit. let clash : None ≡ Some fit.1 = e ∙ fit.4 in absurd cc,
)
dict_fits_is t key value k found is_key (Some v) e fits is = (λ _. (k, v, found, is_key, sym e), λ _. is)
