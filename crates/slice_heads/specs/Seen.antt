-- What reading remembers, without where it lies in memory.
use Rattle.std.specs.Prelude.{ℕ, Bool, true, false, List, map, Option, None, Some, Result, Ok, refl}
use Rattle.ice_prims.specs.declared.fault.Fault.{Fault}
use Rattle.ice_prims.specs.Rest.{Rest, ◌>>=◌}
use Rattle.ice_encoding.specs.Port.{Reader}
use Rattle.ice_encoding.specs.Pausing.{Met, known}
use Rattle.std.specs.Coded.{Coded, code_by, coded×, coded_ℕ, coded_list, coded_option}
use Rattle.ice_encoding.specs.Flags.{first, only_unknown, derived}
use Rattle.ice_encoding.specs.Flags as flags
use Rattle.ice_encoding.specs.Graph.{Slice}
use Rattle.ice_encoding.specs.References as refs
use Rattle.graph_arena.specs.Stored.{instances_code}
use Rattle.value_parts.specs.declared.fields.Optionals.{Optionals}
use Rattle.value_parts.specs.declared.fields.Optionals.TheVariants.{Absent, Marked}
use Rattle.slice_heads.specs.declared.arena.Reference.{Reference}
use Rattle.slice_heads.specs.declared.before.Before.{Before}
use Rattle.slice_heads.specs.declared.before.Before.TheVariants as befores

-- a reference that was met
abbrev pub view_reference : Reference → refs.Reference ℕ
view_reference m = refs.met_at m.place m.declared m.name

abbrev pub view_references : List Reference → List (refs.Reference ℕ)
view_references = map view_reference

abbrev pub reference_code : Coded (refs.Reference ℕ)
reference_code = code_by (ℕ × (Option ℕ × ℕ)) (coded× coded_ℕ (coded× (coded_option coded_ℕ) coded_ℕ)) (λ m. (m.place, (m.declared, m.name))) (λ p. record { place = p.0; declared = p.1.0; name = p.1.1 }) (λ _. refl)

abbrev pub references_code : Coded (List (refs.Reference ℕ))
references_code = coded_list reference_code

abbrev pub state_code : Coded (refs.State ℕ)
state_code = code_by (List (List Slice) × (List (List ℕ) × List (refs.Reference ℕ))) (coded× instances_code (coded× (coded_list (coded_list coded_ℕ)) references_code))
    (λ s. (s.instances, (s.ids, s.met))) (λ p. record { instances = p.0; ids = p.1.0; met = p.1.1 }) (λ _. refl)

-- what a slice follows
abbrev pub view_before : Before → flags.Before
view_before befores.First = first
view_before befores.OnlyUnknown = only_unknown
view_before (befores.Derived sized base) = derived sized base

-- what the next one follows, None where there is none
abbrev pub view_next : Option Before → Option flags.Before
view_next None = None
view_next (Some before) = Some (view_before before)

-- where the optional members of a slice stand, by its flag
abbrev pub by_flag : Bool → Optionals
by_flag true = Marked
by_flag false = Absent

-- ---- a place in a table, as a port meets it: no instance begins

abbrev pub is_known : Option ℕ × List (refs.Reference ℕ) × Rest → Result (Met × List (refs.Reference ℕ) × Rest) Fault
is_known x = Ok (known x.0, x.1, x.2)

-- a place in a table as a port meets it
abbrev pub entry_met : Bool → Option ℕ → Reader (List (refs.Reference ℕ)) Met
entry_met tabled declared s r = refs.entry_at tabled declared s r >>= is_known
