-- Classes by their ids, what they extend, and which members they have. (Ice manual, "Class Inheritance", "Compact Type IDs".)
use Rattle.std.specs.Prelude.{ℕ, zero, suc, Bool, false, ◌||◌, List, [], ◌∷◌, length, Option, None, Some, slice_get, nat_eq, if◌then◌else◌}
use Rattle.std.specs.Str.{bytes_eq}
use Rattle.ice_types.specs.declared.declarations.Shape.{Shape}
use Rattle.ice_types.specs.declared.declarations.Member.{Member}
use Rattle.ice_types.specs.declared.declarations.ClassDecl.{ClassDecl}
use Rattle.ice_types.specs.Tables.{Tables, class_ids}
use Rattle.ice_types.specs.CompactIds.{ids_like}
use Rattle.ice_types.specs.Inherited.{base_in}
use Rattle.ice_encoding.specs.OptionalMembers.{shape_of}

abbrev pub one_further : Option ℕ → Option ℕ
one_further None = None
one_further (Some at) = Some (suc at)

-- where the text stands first, None where it does not
abbrev pub place_of : List (List ℕ) → List ℕ → Option ℕ
place_of [] text = None
place_of (first ∷ others) text = if bytes_eq first text then Some 0 else one_further (place_of others text)

-- the class of this type id
abbrev pub class_named : Tables → List ℕ → Option ℕ
class_named t id = place_of (class_ids t) id

-- the class that a slice of this id is of: by its type id, or for `#n` by its compact id
abbrev pub class_by_id : Tables → List ℕ → Option ℕ
class_by_id t id = place_of (ids_like t id) id

-- the class that a class extends
abbrev pub base_of : Tables → ℕ → Option ℕ
base_of t class = base_in t.classes class

abbrev pub holds_of : Option ℕ → (ℕ → Bool) → Bool
holds_of None test = false
holds_of (Some class) test = test class

-- within so many steps to a base, one class is the other or comes from it
abbrev pub leads_to : Tables → ℕ → ℕ → ℕ → Bool
leads_to t zero base class = false
leads_to t (suc steps) base class = nat_eq class base || holds_of (base_of t class) (leads_to t steps base)

-- A class is itself, or derived from the base. No chain of bases is longer than the table.
abbrev pub is_a : Tables → ℕ → ℕ → Bool
is_a t class base = leads_to t (suc (length t.classes)) base class

abbrev pub members_in : Option ClassDecl → List Member
members_in None = []
members_in (Some d) = d.members

-- the members of the class itself, without those of its bases
abbrev pub own_members : Tables → ℕ → Shape
own_members t class = shape_of (members_in (slice_get t.classes class))
