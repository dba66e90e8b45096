-- The slices of an instance, in both formats. (Ice manual, "Data Encoding for Class and Exception Types".)
use Rattle.std.specs.Prelude.{ℕ, zero, suc, ◌+◌, ◌-◌, ◌==◌, Bool, true, false, List, [], ◌∷◌, ◌++◌, length, Option, None, Some, Result, Ok, nat_le, if◌then◌else◌}
use Rattle.ice_types.specs.Tables.{Tables}
use Rattle.ice_prims.specs.declared.fault.Fault.{Fault}
use Rattle.ice_prims.specs.declared.fault.Kind.TheVariants.{Short, BadSize, BadTag, BadLast, WrongBase, UnknownClass}
use Rattle.ice_prims.specs.Rest.{Rest, fault, ◌>>=◌}
use Rattle.ice_encoding.specs.Parts.{Part, made, tested}
use Rattle.ice_encoding.specs.Skipping.{count, bound_behind, behind}
use Rattle.ice_encoding.specs.Port.{Port, Reader, Speller}
use Rattle.ice_encoding.specs.Spelling.{Plain, Made}
use Rattle.ice_encoding.specs.Reading as reading
use Rattle.ice_encoding.specs.Steps.{followed, Followed, given, Given, Where}
use Rattle.ice_encoding.specs.Steps as steps
use Rattle.ice_encoding.specs.Prefixes.{prefixed, Prefixed}
use Rattle.ice_encoding.specs.OptionalMembers.{Members, slice_members_at, SpellsSliceMembers}
use Rattle.ice_encoding.specs.Classes.{own_members}
use Rattle.ice_encoding.specs.Graph.{Slice, known, unknown}
use Rattle.ice_encoding.specs.Names.{renamed_members}
use Rattle.ice_encoding.specs.Joining.{placed, by_itself, ByItself}
use Rattle.ice_encoding.specs.References.{State, in_table, entry_at, entry_in, SpellsTable, table_at}
use Rattle.ice_encoding.specs.Flags.{Flags, Reach, Before, first, may_stand, SpellsFlags, flags_at}
use Rattle.ice_encoding.specs.TypeIds.{SpellsId, id_at, class_in, is_base, can_be_read, ends_well, before_next}

-- ---- the size of a slice: an int that counts its own four bytes and what stands between it and the table

-- the size of a slice, an int that counts its own four bytes and all up to the table
abbrev pub slice_size : Part ℕ
slice_size = made (λ n. n - 4) (λ n. n + 4) (tested (λ n. nat_le 4 n) BadSize count)

-- ---- bytes that are kept: an end marker behind them is not kept

-- the bytes of an unknown slice, without the marker behind its optional members
abbrev pub unknown_bytes : Bool → List ℕ → List ℕ
unknown_bytes true bytes = bytes ++ 255 ∷ []
unknown_bytes false bytes = bytes

-- those before the end marker, where these begin at this place
abbrev pub unmarked : ℕ → List ℕ → Result (List ℕ) Fault
unmarked place [] = fault place Short
unmarked place (b ∷ []) = if b == 255 then Ok [] else fault place BadTag
unmarked place (b ∷ c ∷ cs) = unmarked (suc place) (c ∷ cs) >>= λ front. Ok (b ∷ front)

abbrev pub without_marker : Bool → Rest → Result (List ℕ) Fault
without_marker true bound = unmarked bound.place bound.bytes
without_marker false bound = Ok bound.bytes

-- behind their size
abbrev pub SpellsUnknown : Bool → List ℕ → List ℕ → Type 0
SpellsUnknown flagged bytes x = (behind slice_size).Spells bytes (unknown_bytes flagged x)

-- reading them
abbrev pub unknown_at : Bool → Rest → Result (List ℕ × Rest) Fault
unknown_at flagged r = bound_behind slice_size r >>= λ bound. without_marker flagged bound.0 >>= λ x. Ok (x, bound.1)

-- ---- what stands behind the type id

-- places in a table are the names that stand there
abbrev pub by_table : ℕ → Members → List ℕ → Slice
by_table class content table = known class (renamed_members (entry_in table) content)

-- a slice before others
abbrev pub one_more : Slice → List Slice → List Slice
one_more slice others = slice ∷ others

module _ (port : Port (State ℕ) (State (Unit {0}))) (t : Tables) where
  -- A slice with a size: its members with places as references, or bytes that are kept; and then its table.
  -- Without a size, its members with references that stand inline.
  abbrev pub SpellsBody : Flags → List ℕ → Bool → Option ℕ → Speller (State (Unit {0})) Slice
  SpellsBody f id true (Some class) = ByItself [] (Prefixed slice_size (SpellsSliceMembers (in_table f.has_table) t f.has_optional (own_members t class)))
      (λ content uses. Made (by_table class content) (SpellsTable port f.has_table uses))
  SpellsBody f id true None = Followed (Plain (SpellsUnknown f.has_optional)) (λ bytes. Made (unknown id bytes f.has_optional) (SpellsTable port f.has_table []))
  SpellsBody f id false (Some class) = Made (known class) (SpellsSliceMembers port t f.has_optional (own_members t class))
  SpellsBody f id false None = λ bytes slice from to. ⊥

  -- nothing behind the last slice
  abbrev pub Behind : (Before → Speller (State (Unit {0})) (List Slice)) → Bool → Before → Speller (State (Unit {0})) (List Slice)
  Behind Next true before = Given []
  Behind Next false before = Next before

  module _ (reach : Reach) where
    -- behind the type id: tests, the body, and the slices that follow
    abbrev pub FromId : Speller (State (Unit {0})) (List Slice) → Bool → Before → Flags → List ℕ → Option ℕ → Speller (State (Unit {0})) (List Slice)
    FromId Next ends before f id class = Where (is_base before class) (Where (can_be_read reach class f) (Where ends
        (Followed (SpellsBody f id f.has_size class) (λ slice. Made (one_more slice) Next))))

    -- so many slices, up to the last
    abbrev pub SpellsSlices : ℕ → Before → Speller (State (Unit {0})) (List Slice)
    SpellsSlices zero before bytes slices from to = ⊥
    SpellsSlices (suc n) before bytes slices from to = Followed (Plain (SpellsFlags (may_stand before))) (λ f. Followed (SpellsId f.id)
        (λ id. let class = class_in t before id in FromId (Behind (SpellsSlices n) f.is_last (before_next t class f)) (ends_well t class f) before f id class)) bytes slices from to

    -- the slices of an instance
    abbrev pub SpellsInstance : Speller (State (Unit {0})) (List Slice)
    SpellsInstance bytes slices from to = (n : ℕ) × SpellsSlices n first bytes slices from to

module _ (refer : Option ℕ → Reader (State ℕ) (Option ℕ)) (t : Tables) where
  -- reading what stands behind the type id of a slice
  abbrev pub body_at : Flags → List ℕ → Bool → Option ℕ → Reader (State ℕ) Slice
  body_at f id true (Some class) = by_itself [] (prefixed slice_size (slice_members_at (entry_at f.has_table) t f.has_optional (own_members t class)))
      (λ content uses. reading.made (by_table class content) (table_at refer f.has_table uses))
  body_at f id true None = followed (reading.plain (unknown_at f.has_optional)) (λ bytes. reading.made (unknown id bytes f.has_optional) (table_at refer f.has_table []))
  body_at f id false (Some class) = reading.made (known class) (slice_members_at refer t f.has_optional (own_members t class))
  body_at f id false None = λ s r. fault r.place UnknownClass

  abbrev pub next_slices : (Before → Reader (State ℕ) (List Slice)) → Bool → Before → Reader (State ℕ) (List Slice)
  next_slices next true before = given []
  next_slices next false before = next before

  module _ (reach : Reach) where
    -- the slices from the type id of one on
    abbrev pub from_id : Reader (State ℕ) (List Slice) → Bool → Before → Flags → ℕ → ℕ → List ℕ → Option ℕ → Reader (State ℕ) (List Slice)
    from_id next ends before f flags_place id_place id class = steps.tested (is_base before class) id_place WrongBase (steps.tested (can_be_read reach class f) id_place UnknownClass (steps.tested ends flags_place BadLast
        (followed (body_at f id f.has_size class) (λ slice. reading.made (one_more slice) next))))

    -- Each takes a byte at least, so they are read within as many steps as there are bytes.
    abbrev pub slices_at : ℕ → Before → Reader (State ℕ) (List Slice)
    slices_at zero before s r = fault r.place Short
    slices_at (suc steps) before s r = placed (λ flags_place. followed (reading.plain (flags_at (may_stand before))) (λ f. placed (λ id_place. followed (id_at f.id)
        (λ id. let class = class_in t before id in from_id (next_slices (slices_at steps) f.is_last (before_next t class f)) (ends_well t class f) before f flags_place id_place id class)))) s r

    -- reading the slices of an instance
    abbrev pub instance_at : Reader (State ℕ) (List Slice)
    instance_at s r = slices_at (length r.bytes) first s r
