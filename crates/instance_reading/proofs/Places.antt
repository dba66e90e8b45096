-- Members whose references are places in a table: no instance begins in them.
use Rattle.std.proofs.Common.{ℕ, ◌≡◌, Bool, true, false, List, [], ◌∷◌, Option, Some, None, Result, Ok, Err, refl, sym, ap, subst, ◌∙◌, append-nil}
use Rattle.std.specs.Prelude.{nat_lt, if◌then◌else◌}
use Rattle.ice_types.specs.declared.declarations.Shape.{Shape}
use Rattle.ice_types.specs.Tables.{Tables}
use Rattle.ice_prims.specs.declared.fault.Fault.{Fault}
use Rattle.ice_prims.specs.declared.fault.ReadFault.{ReadFault}
use Rattle.ice_prims.specs.declared.fault.ReadFault.TheVariants as faults
use Rattle.ice_prims.specs.declared.fault.Kind.TheVariants.{BadReference}
use Rattle.ice_prims.specs.Rest.{Rest, fault, ◌>>=◌}
use Rattle.ice_prims.specs.Taking.{Fails}
use Rattle.ice_encoding.specs.Port.{Reader}
use Rattle.ice_encoding.specs.Pausing.{Inside, Met, met, in_place}
use Rattle.ice_encoding.specs.OptionalMembers.{Members, slice_members_at}
use Rattle.ice_encoding.specs.References.{State, Reference, entry_at, within, with_met}
use Rattle.ice_encoding.proofs.Agreeing.{read_same}
use Rattle.value_parts.specs.SlicedType.{rows_of}
use Rattle.value_parts.specs.declared.sliced_type.SlicedType.{SlicedType}
use Rattle.value_parts.specs.declared.sliced_type.SlicedType.TheVariants as sorts
use Rattle.slice_heads.specs.Seen.{by_flag, entry_met, is_known}
use Rattle.instance_reading.specs.Slices.{ReadsPlaces, first_outside}
use Rattle.instance_reading.specs.declared.sized.SizedMembers.{SizedMembers}
use Rattle.value_parts.specs.declared.fields.Optionals.{Optionals}
use Rattle.ice_values.specs.Advancing.{members_at, ReadsMembers}
use Rattle.graph_arena.specs.declared.instance.Members as stored

abbrev pub nothing : Inside (List (Reference ℕ))
nothing n s r = Ok (s, r)

settled : (read : Result (Option ℕ × List (Reference ℕ) × Rest) Fault) → (read >>= is_known >>= λ x. met nothing x.0 x.1 x.2) ≡ read
settled (Ok x) = refl
settled (Err e) = refl

pub places_read : (tabled : Bool) → in_place (entry_met tabled) nothing ≡ entry_at tabled
places_read tabled = λ i declared s r. settled (entry_at tabled declared s r) i

pub members_read : (tabled : Bool) (t : Tables) (flagged : Bool) (shape : Shape) (s from : List (Reference ℕ)) (r : Rest) → s ≡ from
    → slice_members_at (in_place (entry_met tabled) nothing) t flagged shape s r ≡ slice_members_at (entry_at tabled) t flagged shape from r
members_read tabled t flagged shape s from r same = λ i. slice_members_at (places_read tabled i) t flagged shape (same i) r

module _ {S : Type 0} (take : Option ℕ → Reader S Met) (t : Tables) (inside : Inside S) where
  flagged_read : (flagged : Bool) (shape : Shape) (s : S) (r : Rest) → members_at take t inside (by_flag flagged) shape s r ≡ slice_members_at (in_place take inside) t flagged shape s r
  unfolding members_at
  flagged_read true shape s r = refl
  flagged_read false shape s r = refl

  pub flagged_along : (flagged : Bool) (shape seen : Shape) (o : Optionals) (s : S) (r : Rest) → o ≡ by_flag flagged → seen ≡ shape
      → members_at take t inside o seen s r ≡ slice_members_at (in_place take inside) t flagged shape s r
  flagged_along flagged shape seen o s r a b = (λ i. members_at take t inside (a i) (b i) s r) ∙ flagged_read flagged shape s r

pub reads_along : {S : Type 0} (result : Result stored.Members ReadFault) (read other : Result (Members × S × Rest) Fault) (s : S) (r : Rest) → read ≡ other → ReadsMembers result read s r → ReadsMembers result other s r
reads_along {S} result read other s r same h = subst (λ (x : Result (Members × S × Rest) Fault). ReadsMembers result x s r) same h

pub none_met : (s : State ℕ) → s ≡ with_met [] s
none_met s = λ i. record { instances = s.instances; ids = s.ids; met = sym (append-nil s.met) i }

-- values are read by the tables of the schema, whatever the rows are
pub rows_read : {R : Type 0} (refer : Option ℕ → Reader R (Option ℕ)) (sort : SlicedType) (t : Tables) (flagged : Bool) (shape : Shape)
    → slice_members_at refer (rows_of sort t) flagged shape ≡ slice_members_at refer t flagged shape
rows_read refer sorts.Class t flagged shape = refl
rows_read refer sorts.Exception t flagged shape = read_same t refer flagged shape

-- a fault is that of what is equal
pub fault_along : {A : Type 0} (e : ReadFault) (read other : Result A Fault) → read ≡ other → Fails e read → Fails e other
fault_along faults.Memory read other same h = tt
fault_along (faults.Broken f) read other same h = sym same ∙ h

-- ---- places within a table

abbrev unless_outside : {B : Type 0} → Option ℕ → Result B Fault → Result B Fault
unless_outside None next = next
unless_outside (Some place) next = fault place BadReference

within_by : {B : Type 0} (limit : ℕ) (uses : List (Reference ℕ)) (next : Result B Fault) → within limit uses next ≡ unless_outside (first_outside limit uses) next
within_by limit [] next = refl
within_by {B} limit (u ∷ us) next = by_test (nat_lt u.name limit) (within_by limit us next)
  where
    by_test : (b : Bool) → within limit us next ≡ unless_outside (first_outside limit us) next
        → (if b then within limit us next else fault u.place BadReference) ≡ unless_outside (if b then first_outside limit us else Some u.place) next
    by_test true others = others
    by_test false others = refl

pub all_inside : {B : Type 0} (limit : ℕ) (uses : List (Reference ℕ)) (next : Result B Fault) → first_outside limit uses ≡ None → within limit uses next ≡ next
all_inside limit uses next is = within_by limit uses next ∙ ap (λ (o : Option ℕ). unless_outside o next) is

pub one_outside : {B : Type 0} (limit : ℕ) (uses : List (Reference ℕ)) (next : Result B Fault) (place : ℕ) → first_outside limit uses ≡ Some place → within limit uses next ≡ fault place BadReference
one_outside limit uses next place is = within_by limit uses next ∙ ap (λ (o : Option ℕ). unless_outside o next) is

-- ---- the members, by equal flags

pub places_along : (sort : SlicedType) (t : Tables) (class : ℕ) (result : Result SizedMembers ReadFault) (r after : Rest) (tabled is_tabled flagged is_flagged : Bool) → tabled ≡ is_tabled → flagged ≡ is_flagged
    → ReadsPlaces sort t class tabled flagged result r after → ReadsPlaces sort t class is_tabled is_flagged result r after
places_along sort t class result r after tabled is_tabled flagged is_flagged a b h = subst (λ (x : Bool × Bool). ReadsPlaces sort t class x.0 x.1 result r after) (λ i. (a i, b i)) h
