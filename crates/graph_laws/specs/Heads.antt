-- The first fault in the head of a slice: its flags, its id, and the tests behind them. (Ice manual, "Data Encoding for Class and Exception Types".)
use Rattle.std.specs.Prelude.{ℕ, ◌≡◌, ◌≤◌, ◌<◌, ◌+◌, ◌⊎◌, Bool, true, false, List, ◌++◌, length}
use Rattle.ice_types.specs.Tables.{Tables}
use Rattle.ice_types.specs.CompactIds.{is_numbered}
use Rattle.ice_prims.specs.declared.fault.Fault.{Fault}
use Rattle.ice_prims.specs.declared.fault.Kind.TheVariants.{BadFlags, BadTypeId, WrongBase, UnknownClass, BadLast}
use Rattle.ice_encoding.specs.Parts.{byte, size, text}
use Rattle.ice_encoding.specs.Flags.{Flags, IdForm, no_id, as_text, as_index, as_number, flags_of, Before, may_stand, SpellsFlags, Reach}
use Rattle.ice_encoding.specs.References.{State}
use Rattle.ice_encoding.specs.TypeIds.{SpellsId, class_in, is_base, can_be_read, ends_well}
use Rattle.graph_laws.specs.Defects.{Defect, At, Never, Lacks, Unfit, Or, SizeBreaks, TextBreaks}

-- bit 6 or 7 is set, or the flags may not stand there
abbrev pub IsOffFlags : (Flags → Bool) → ℕ → Type 0
IsOffFlags may b = (64 ≤ b) ⊎ (may (flags_of b) ≡ false)

abbrev pub FlagsBreak : (Flags → Bool) → Defect
FlagsBreak may = Or (Lacks 1) (Unfit byte (IsOffFlags may) BadFlags)

-- a type id as a text that begins with `#`
abbrev pub TypeIdBreaks : Defect
TypeIdBreaks = Or TextBreaks (Unfit text (λ id. is_numbered id ≡ true) BadTypeId)

-- 0, or above the number of texts so far
abbrev pub IsNoIndex : List (List ℕ) → ℕ → Type 0
IsNoIndex ids n = (n ≡ 0) ⊎ (length ids < n)

abbrev pub IdBreaks : IdForm → State (Unit {0}) → Defect
IdBreaks no_id from = Never
IdBreaks as_text from = TypeIdBreaks
IdBreaks as_index from = Or SizeBreaks (Unfit size (IsNoIndex from.ids) BadTypeId)
IdBreaks as_number from = SizeBreaks

-- Flags that may stand there and an id, which lead to this state, in front of the rest.
pub record Head (before : Before) (from : State (Unit {0})) (bytes : List ℕ) : Type 0 where
  pub flags : Flags
  pub id : List ℕ
  pub front : List ℕ
  pub back : List ℕ
  pub rest : List ℕ
  pub mid : State (Unit {0})
  pub parts : bytes ≡ front ++ (back ++ rest)
  pub spells_flags : SpellsFlags (may_stand before) front flags
  pub spells_id : SpellsId flags.id back id from mid

module _ (t : Tables) (reach : Reach) (before : Before) (from : State (Unit {0})) where
  -- the class is the base that is due
  abbrev pub IsBase : (bytes : List ℕ) → Head before from bytes → Bool
  IsBase bytes h = is_base before (class_in t before h.id)

  -- it is known, or has a size
  abbrev pub CanBeRead : (bytes : List ℕ) → Head before from bytes → Bool
  CanBeRead bytes h = can_be_read reach (class_in t before h.id) h.flags

  -- of a known class, the flag of the last slice stands exactly where that has no base
  abbrev pub EndsWell : (bytes : List ℕ) → Head before from bytes → Bool
  EndsWell bytes h = ends_well t (class_in t before h.id) h.flags

  -- The flags have a defect, or the id behind them; or both stand, and the first of three tests that fails is told: that of
  -- the base and that of a class that cannot be read at the id, that of the last flag at the flags.
  pub data HeadBreaks (place : ℕ) (bytes : List ℕ) (fault : Fault) : Type 0 where
    bad_flags : FlagsBreak (may_stand before) place bytes fault → HeadBreaks place bytes fault
    bad_id : (f : Flags) (front rest : List ℕ) → bytes ≡ front ++ rest → SpellsFlags (may_stand before) front f → IdBreaks f.id from (place + length front) rest fault → HeadBreaks place bytes fault
    wrong_base : (h : Head before from bytes) → IsBase bytes h ≡ false → At (place + length h.front) WrongBase fault → HeadBreaks place bytes fault
    unknown_class : (h : Head before from bytes) → IsBase bytes h ≡ true → CanBeRead bytes h ≡ false → At (place + length h.front) UnknownClass fault → HeadBreaks place bytes fault
    bad_last : (h : Head before from bytes) → IsBase bytes h ≡ true → CanBeRead bytes h ≡ true → EndsWell bytes h ≡ false → At place BadLast fault → HeadBreaks place bytes fault

  -- flags and id stand, and each test holds
  pub record HeadStands (bytes : List ℕ) : Type 0 where
    pub head : Head before from bytes
    pub is_base : IsBase bytes head ≡ true
    pub can_be_read : CanBeRead bytes head ≡ true
    pub ends_well : EndsWell bytes head ≡ true
