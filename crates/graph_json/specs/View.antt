-- What JSON stands for, as it was read: numbers by their values, texts without where they are lent from.
use mathlib.Core.HLevel.{Π_prop}
use Rattle.std.specs.Prelude.{ℕ, ◌≡◌, ◌<◌, ◌≤◌, ◌-◌, Bool, IsTrue, true, false, List, [], ◌∷◌, length, map, slice_index_or}
use Rattle.std.specs.declared.cmp.Ordering.{Ordering}
use Rattle.std.specs.Ordering.{nat_cmp, is_lt}
use Rattle.std.specs.Cmp.Lexicographic.{slice_cmp}
use Rattle.std.specs.List.Sorted.{IsStrictlySortedBy, IsStrictlySortedBy-prop}
use Rattle.std.specs.Map.{keys_of}
use Rattle.std.specs.Borrow.{Bor}
use Rattle.serde_json.specs.Data.{Data, null, boolean, number, string, array, object, Items, Members, no_members, member, put}
pub use Rattle.serde_json.specs.View.{items_of, number_view}
use Rattle.graph_json.specs.declared.tree.Json.{Json, fold-Json}
use Rattle.graph_json.specs.declared.tree.Json.TheOpen.{Json-F}

-- a name that is lent
abbrev pub Lent : Type 0
Lent = Bor (List ℕ)

-- by the bytes of the names
abbrev pub lent_cmp : Lent → Lent → Ordering
lent_cmp a b = slice_cmp nat_cmp a.now b.now

-- a name and what stands there
abbrev pub Entry : Type 0
Entry = Lent × Json

abbrev pub members_of : List (Lent × Data) → Members
members_of [] = no_members
members_of (m ∷ ms) = member m.0.now m.1 (members_of ms)

-- one level, with each value inside already seen as its data
abbrev pub view_step : Json-F Data → Data
view_step Json-F.Null = null
view_step (Json-F.Bool b) = boolean b
view_step (Json-F.Number x) = number (number_view x)
view_step (Json-F.Text s) = string s.now
view_step (Json-F.Array v) = array (items_of v.items)
view_step (Json-F.Object v) = object (members_of v.items)

abbrev pub view : Json → Data
view = fold-Json Data view_step

abbrev pub items_view : List Json → Items
items_view vs = items_of (map view vs)

-- one entry
abbrev pub entry_view : Entry → Lent × Data
entry_view e = (e.0, view e.1)

abbrev pub members_view : List Entry → Members
members_view es = members_of (map entry_view es)

-- each name is below those behind it
abbrev pub NamesRise : List Entry → Type 0
NamesRise es = IsStrictlySortedBy lent_cmp (keys_of es)

pub NamesRise-prop : (rises : Bool) (es : List Entry) → IsProp (IsTrue rises → NamesRise es)
NamesRise-prop rises es = Π_prop (λ _. IsStrictlySortedBy-prop lent_cmp (keys_of es))

-- the members that the entries are, put one after another: the last value of a name stays
abbrev pub put_each : List Entry → Members → Members
put_each [] found = found
put_each (e ∷ es) found = put_each es (put e.0.now (view e.1) found)

-- the name before the place is below this one, and that at the place is not
abbrev pub IsPlace : List ℕ → List Entry → ℕ → Type 0
IsPlace name es i = (i ≤ length es) × ((e : Entry) → 0 < i → is_lt (slice_cmp nat_cmp (slice_index_or es (i - 1) e).0.now name) ≡ true)
    × ((e : Entry) → i < length es → is_lt (slice_cmp nat_cmp (slice_index_or es i e).0.now name) ≡ false)
