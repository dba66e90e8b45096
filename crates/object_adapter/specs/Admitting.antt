-- The steps before an object acts: the mode is one that the operation takes, and the arguments are what it takes. (Ice manual, "Request Message".)
use Rattle.std.specs.Prelude.{ℕ, ◌≡◌, ◌≤◌, ◌<◌, Bool, true, false, List, [], ◌∷◌, codes, length, Result, Ok, Err}
use Rattle.ice_types.specs.declared.kind.TypeRef.{TypeRef}
use Rattle.ice_types.specs.Object.{required}
use Rattle.ice_types.specs.declared.declarations.Shape.{Shape}
use Rattle.ice_types.specs.Tables.{Tables}
use Rattle.ice_prims.specs.declared.fault.Fault.{Fault}
use Rattle.ice_prims.specs.Rest.{whole}
use Rattle.ice_encoding.specs.Opening.{encapsulated_bytes}
use Rattle.ice_encoding.specs.Graph.{Graph}
use Rattle.ice_encoding.specs.Flags.{all_slices}
use Rattle.ice_encoding.specs.Instances.{numbered_at}
use Rattle.value_parts.specs.Shapes.{told_apart}
use Rattle.ice_messages.specs.declared.message.Call.{Call}
use Rattle.object_adapter.specs.declared.refusal.Refusal.{Refusal}
use Rattle.object_adapter.specs.declared.refusal.Refusal.TheVariants.{NoOperation, BadMode, BadArguments, TooLong}
use Rattle.object_adapter.specs.declared.refusal.TheConstants.{LONGEST}

-- 0 for an operation that may not be called again, 1 or 2 for one that may
abbrev pub ModeFits : Bool → ℕ → Type 0
ModeFits false mode = mode ≡ 0
ModeFits true mode = (1 ≤ mode) × (mode ≤ 2)

-- the graph that the arguments are, or their first fault; places count from the first byte of their encapsulation
abbrev pub arguments_in : Tables → Shape → Call → Result Graph Fault
arguments_in t shape call = numbered_at t all_slices (told_apart shape) (whole call.body)

-- the mode and the arguments are right, and these are the arguments, where an operation takes such ones and may be called again or not
abbrev pub Comes : Tables → Bool → Shape → Call → Graph → Type 0
Comes t again shape call g = ModeFits again call.mode × (arguments_in t shape call ≡ Ok g)

-- the first of both that is not right
abbrev pub Stops : Tables → Bool → Shape → Call → Refusal → Type 0
Stops t again shape call NoOperation = ⊥
Stops t again shape call BadMode = ModeFits again call.mode → ⊥
Stops t again shape call (BadArguments fault) = ModeFits again call.mode × (arguments_in t shape call ≡ Err fault)
Stops t again shape call TooLong = ⊥

-- one argument of this type, which is an id
abbrev pub only_id : TypeRef → Shape
only_id kind = record { required = required (codes "id") kind ∷ []; optional = [] }

-- the results with this content
abbrev pub IsEnclosed : List ℕ → List ℕ → Type 0
IsEnclosed content results = (results ≡ encapsulated_bytes content) × (length (encapsulated_bytes content) ≤ LONGEST)

-- they would be too long
abbrev pub IsRefusedLength : List ℕ → Refusal → Type 0
IsRefusedLength content refusal = (refusal ≡ TooLong) × (LONGEST < length (encapsulated_bytes content))
