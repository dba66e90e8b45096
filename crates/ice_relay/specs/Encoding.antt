-- The encapsulation of a value that a text notes.
use Rattle.std.specs.Prelude.{ℕ, ◌≡◌, ◌<◌, ◌≤◌, List, length, Result, Ok, Err, Vec}
use Rattle.std.specs.declared.alloc.Global.{Global}
use Rattle.ice_types.specs.declared.kind.TypeRef.{TypeRef}
use Rattle.ice_types.specs.Tables.{Tables}
use Rattle.ice_encoding.specs.declared.limits.TheConstants.{LARGEST}
use Rattle.ice_encoding.specs.Graph.{Graph}
use Rattle.ice_encoding.specs.CanonicalGraph.{Format, IsWritable}
use Rattle.class_slices.specs.Encoding.{NeedsSliced}
use Rattle.graph_json.specs.Texts.{IsRefused, Lists}
use Rattle.ice_relay.specs.Relaying.{one_value, canonical_bytes}
use Rattle.ice_relay.specs.declared.fault.RelayFault.{RelayFault}
use Rattle.ice_relay.specs.declared.fault.RelayFault.TheVariants as faults

-- The canonical encapsulation of the graph that the text lists; or why it lists none; or that an instance which the graph
-- reaches has an unknown slice, and the format is compact; or the length of the encapsulation, which is more than the limit.
abbrev pub EncodesText : Tables → TypeRef → Format → List ℕ → Result (Vec ℕ Global) RelayFault → Type 0
EncodesText t kind f text (Ok bytes) = (g : Graph) × Lists t (one_value kind) text g × IsWritable f g
    × (bytes.items ≡ canonical_bytes t kind f g) × (length bytes.items ≤ LARGEST)
EncodesText t kind f text (Err (faults.Broken fault)) = ⊥
EncodesText t kind f text (Err (faults.TextRefused why)) = IsRefused t (one_value kind) text why
EncodesText t kind f text (Err faults.NeedsSliced) = (g : Graph) × Lists t (one_value kind) text g × NeedsSliced f g
EncodesText t kind f text (Err (faults.TooLong n)) = (g : Graph) × Lists t (one_value kind) text g × IsWritable f g
    × (n ≡ length (canonical_bytes t kind f g)) × (LARGEST < n)
EncodesText t kind f text (Err faults.Memory) = Unit {0}
