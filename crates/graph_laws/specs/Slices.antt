-- The first fault of an instance, slice by slice, with the instances that begin in it. (Ice manual, "Data Encoding for Class and Exception Types".)
use Rattle.std.specs.Prelude.{ℕ, zero, suc, ◌≡◌, ◌≢◌, ◌≤◌, ◌<◌, ◌+◌, ◌⊎◌, Bool, true, false, List, [], ◌∷◌, ◌++◌, length, Option, None, Some, Result, Ok, nat_lt, if◌then◌else◌}
use Rattle.ice_types.specs.Tables.{Tables}
use Rattle.ice_prims.specs.declared.fault.Fault.{Fault}
use Rattle.ice_prims.specs.declared.fault.Kind.TheVariants.{Short, BadSize, BadTag, BadReference, TooMany}
use Rattle.ice_prims.specs.Number.{SpellsSize, size_at}
use Rattle.ice_prims.specs.Rest.{Rest, fault, ◌>>=◌}
use Rattle.ice_encoding.specs.Parts.{size}
use Rattle.ice_encoding.specs.Port.{Port, size_of}
use Rattle.ice_encoding.specs.Skipping.{count}
use Rattle.ice_encoding.specs.Classes.{own_members}
use Rattle.ice_encoding.specs.Flags.{Flags, Reach, Before, first}
use Rattle.ice_encoding.specs.Graph.{Slice}
use Rattle.ice_encoding.specs.Instances.{instances}
use Rattle.ice_encoding.specs.OptionalMembers.{Members, SpellsSliceMembers}
use Rattle.ice_encoding.specs.References.{Reference, State, in_table, beginning, AreWithin}
use Rattle.ice_encoding.specs.Slices.{slice_size, SpellsUnknown, SpellsBody}
use Rattle.ice_encoding.specs.TypeIds.{class_in, before_next}
use Rattle.graph_laws.specs.Defects.{Defect, At, Never, Unfit, Or, Then, SizeBreaks}
use Rattle.graph_laws.specs.Heads.{HeadBreaks, HeadStands}
use Rattle.graph_laws.specs.Members.{CountBreaks, BoundBreaks, PrefixedBreaks, SliceMembersBreak}

-- ---- sizes and kept bytes

abbrev pub SliceSizeBreaks : Defect
SliceSizeBreaks = Or CountBreaks (Unfit count (λ n. n < 4) BadSize)

-- a bound whose last byte has to be 255
abbrev pub MarkerBreaks : Bool → Defect
MarkerBreaks true = λ place bytes fault. ((bytes ≡ []) × At place Short fault)
    ⊎ ((a : List ℕ) × (b : ℕ) × (bytes ≡ a ++ b ∷ []) × (b ≢ 255) × At (place + length a) BadTag fault)
MarkerBreaks false = Never

abbrev pub UnknownBreaks : Bool → Defect
UnknownBreaks flagged = λ place bytes fault. BoundBreaks slice_size SliceSizeBreaks place bytes fault
    ⊎ ((front body rest : List ℕ) × (bytes ≡ front ++ (body ++ rest)) × slice_size.Spells front (length body) × MarkerBreaks flagged (place + length front) body fault)

-- ---- places in a table

-- where there is no table, only null may stand
abbrev pub EntryBreaks : Bool → Defect
EntryBreaks true = SizeBreaks
EntryBreaks false = Or SizeBreaks (Unfit size (λ n. 0 < n) BadReference)

-- a place, from 1, which has to be one of the first so many
abbrev pub place_within : ℕ → ℕ → ℕ → Rest → Result (Option ℕ × (Unit {0}) × Rest) Fault
place_within most place zero r = Ok (None, tt, r)
place_within most place (suc n) r = if nat_lt n most then Ok (Some n, tt, r) else fault place BadReference

-- places in a table of so many entries
abbrev pub places : ℕ → Port (Unit {0}) (Unit {0})
places most = record {
  seen = λ s. s;
  read = λ declared s r. size_at r >>= λ n. place_within most r.place n.0 n.1;
  Spells = λ declared bytes v from to. SpellsSize bytes (size_of v) × ((n : ℕ) → v ≡ Some n → n < most) × (to ≡ from);
}

-- one past the end
abbrev pub PlaceBreaks : ℕ → Defect
PlaceBreaks most = Or SizeBreaks (Unfit size (λ n. most < n) BadReference)

-- ---- a slice behind its head, by how references stand elsewhere

module _ (port : Port (State ℕ) (State (Unit {0}))) (ReferenceBreaks : Option ℕ → State (Unit {0}) → Defect) (t : Tables) where
  -- of so many entries, none of them null
  abbrev pub EntriesBreak : ℕ → State (Unit {0}) → Defect
  EntriesBreak zero = λ from. Never
  EntriesBreak (suc n) = λ from place bytes fault. ReferenceBreaks None from place bytes fault
      ⊎ ((v : Option ℕ) × (mid : State (Unit {0})) × (a rest : List ℕ) × (bytes ≡ a ++ rest) × port.Spells None a v from mid
      × (((v ≡ None) × At place BadReference fault) ⊎ ((name : ℕ) × (v ≡ Some name) × EntriesBreak n mid (place + length a) rest fault)))

  -- A table: its size has it; or a place in the members is past its end, which is told when the size has been read; or an entry.
  abbrev pub TableBreaks : Bool → (ℕ → Fault → Type 0) → List (Reference (Unit {0})) → State (Unit {0}) → Defect
  TableBreaks true PastEnd uses = λ from. Then size SizeBreaks (λ n place rest fault. PastEnd n fault ⊎ (AreWithin n uses × EntriesBreak n from place rest fault))
  TableBreaks false PastEnd uses = λ from. Never

  -- behind the type id: the size and the members or kept bytes that it counts, and the table; or members without a size
  abbrev pub BodyBreaks : Flags → Bool → Option ℕ → State (Unit {0}) → Defect
  BodyBreaks f true (Some class) = λ from place bytes fault.
      PrefixedBreaks slice_size SliceSizeBreaks (SpellsSliceMembers (in_table f.has_table) t f.has_optional (own_members t class))
      (SliceMembersBreak (in_table f.has_table) (λ declared uses. EntryBreaks f.has_table) t f.has_optional (own_members t class)) [] place bytes fault
      ⊎ ((front body rest : List ℕ) × (content : Members) × (uses : List (Reference (Unit {0}))) × (bytes ≡ front ++ (body ++ rest)) × slice_size.Spells front (length body)
      × SpellsSliceMembers (in_table f.has_table) t f.has_optional (own_members t class) body content [] uses
      × TableBreaks f.has_table (λ n. SliceMembersBreak (places n) (λ declared s. PlaceBreaks n) t f.has_optional (own_members t class) tt (place + length front) body) uses from (place + length front + length body) rest fault)
  BodyBreaks f true None = λ from place bytes fault. UnknownBreaks f.has_optional place bytes fault
      ⊎ ((kept a rest : List ℕ) × (bytes ≡ a ++ rest) × SpellsUnknown f.has_optional a kept × TableBreaks f.has_table (λ n d. ⊥) [] from (place + length a) rest fault)
  BodyBreaks f false (Some class) = SliceMembersBreak port ReferenceBreaks t f.has_optional (own_members t class)
  -- a class that is not known has a size
  BodyBreaks f false None = λ from. Never

  -- ---- one slice after the other

  module _ (reach : Reach) where
    -- So many stand, none of them the last; then a head has it, or what stands behind a head.
    abbrev pub SlicesBreak : ℕ → Before → State (Unit {0}) → Defect
    SlicesBreak zero before = λ from place bytes fault. HeadBreaks t reach before from place bytes fault
        ⊎ ((h : HeadStands t reach before from bytes) × BodyBreaks h.head.flags h.head.flags.has_size (class_in t before h.head.id) h.head.mid (place + length h.head.front + length h.head.back) h.head.rest fault)
    SlicesBreak (suc n) before = λ from place bytes fault. (h : HeadStands t reach before from bytes) × (slice : Slice) × (to : State (Unit {0})) × (a rest : List ℕ) × (h.head.rest ≡ a ++ rest)
        × SpellsBody port t h.head.flags h.head.id h.head.flags.has_size (class_in t before h.head.id) a slice h.head.mid to × (h.head.flags.is_last ≡ false)
        × SlicesBreak n (before_next t (class_in t before h.head.id) h.head.flags) to (place + length h.head.front + length h.head.back + length a) rest fault

    -- an instance
    abbrev pub InstanceBreaks : State (Unit {0}) → Defect
    InstanceBreaks = λ from place bytes fault. (n : ℕ) × SlicesBreak n first from place bytes fault

-- ---- references outside of sized slices

-- 1 where the limit of instances is reached, or before an instance that has the defect; or the number of none that has begun
abbrev pub InlineBreaks : ℕ → (State (Unit {0}) → Defect) → Option ℕ → State (Unit {0}) → Defect
InlineBreaks limit SlicesBreak declared = λ from place bytes fault. SizeBreaks place bytes fault
    ⊎ (((a rest : List ℕ) × (bytes ≡ a ++ rest) × SpellsSize a 1
    × (((limit ≤ length from.instances) × At place TooMany fault)
    ⊎ ((length from.instances < limit) × SlicesBreak (beginning tt declared from) (place + length a) rest fault)))
    ⊎ ((n : ℕ) × (a rest : List ℕ) × (bytes ≡ a ++ rest) × SpellsSize a (suc (suc n)) × (length from.instances ≤ n) × At place BadReference fault))

-- where so many instances may still begin, one inside the other
abbrev pub InstancesBreak : Tables → Reach → ℕ → ℕ → Option ℕ → State (Unit {0}) → Defect
InstancesBreak t reach limit zero = InlineBreaks limit (λ from. Never)
InstancesBreak t reach limit (suc more) = InlineBreaks limit (InstanceBreaks (instances t reach limit more) (InstancesBreak t reach limit more) t reach)
