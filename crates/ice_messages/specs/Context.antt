-- The context of a call: names with values, no name twice. (Ice manual, "Request Contexts".)
use Rattle.std.specs.Prelude.{ℕ, zero, suc, ◌≡◌, List, [], ◌++◌, length, Option, None, Some, Result, Ok}
use Rattle.std.specs.List.{flat_map}
use Rattle.std.specs.List.Sorted.{IsStrictlySortedBy}
use Rattle.std.specs.Ordering.{nat_cmp, is_eq}
use Rattle.std.specs.Cmp.Lexicographic.{slice_cmp}
use Rattle.std.specs.declared.cmp.Ordering.{Ordering}
use Rattle.std.specs.BTreeMap.{insert_entry}
use Rattle.std.specs.Map.{lookup, keys_of}
use Rattle.ice_prims.specs.declared.fault.Fault.{Fault}
use Rattle.ice_prims.specs.declared.fault.Kind.TheVariants.{EqualKey}
use Rattle.ice_prims.specs.Rest.{Rest, fault, ◌>>=◌}
use Rattle.ice_prims.specs.Number.{text_at, SpellsText}
use Rattle.ice_encoding.specs.Parts.{Part, Each, size, text, both, chosen}

-- a name with its value
abbrev pub Entry : Type 0
Entry = List ℕ × List ℕ

-- names by their bytes
abbrev pub name_cmp : List ℕ → List ℕ → Ordering
name_cmp = slice_cmp nat_cmp

-- the value of this name
abbrev pub value_of : List Entry → List ℕ → Option (List ℕ)
value_of entries name = lookup (λ other. is_eq (name_cmp name other)) entries

-- one entry more, at its place in the rising order of names
abbrev pub with_entry : List Entry → Entry → List Entry
with_entry entries e = insert_entry name_cmp entries e.0 e.1

-- a name that none of those before is; known when the name has been read whole
abbrev pub new_name : {A : Type 0} → Option (List ℕ) → ℕ → Result A Fault → Result A Fault
new_name None place next = next
new_name (Some value) place next = fault place EqualKey

-- so many entries beside those before, in any order
abbrev pub entries_at : ℕ → List Entry → Rest → Result (List Entry × Rest) Fault
entries_at zero before r = Ok (before, r)
entries_at (suc n) before r = do
  name ← text_at r
  value ← new_name (value_of before name.0) r.place (text_at name.1)
  entries_at n (with_entry before (name.0, value.0)) value.1

abbrev pub SpellsEntries : ℕ → List Entry → List ℕ → List Entry → Type 0
SpellsEntries zero before bytes entries = (bytes ≡ []) × (entries ≡ before)
SpellsEntries (suc n) before bytes entries = (name value : List ℕ) × (a b c : List ℕ) × (bytes ≡ a ++ (b ++ c)) × SpellsText a name × (value_of before name ≡ None)
    × SpellsText b value × SpellsEntries n (with_entry before (name, value)) c entries

-- each name is below those after it
abbrev pub AreRising : List Entry → Type 0
AreRising es = IsStrictlySortedBy name_cmp (keys_of es)

-- written in rising order of the names
abbrev pub entries : ℕ → Part (List Entry)
entries n = record {
  read = entries_at n [];
  Spells = SpellsEntries n [];
  put = flat_map (both text text).put;
  Is = λ es. (length es ≡ n) × AreRising es × Each (both text text).Is es;
}

-- a size and so many entries
abbrev pub context : Part (List Entry)
context = chosen size entries length
