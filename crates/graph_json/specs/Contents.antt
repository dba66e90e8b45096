-- The notation of the members of a class, an exception or an operation: an object by their names, where an optional member that
-- is absent has no name.
use Rattle.std.specs.Prelude.{ℕ, ◌+◌, ◌==◌, ◌≡◌, ◌⊎◌, true, false, List, [], ◌∷◌, ◌++◌, length, Option, None, Some, option_map, option_and_then}
use Rattle.std.specs.Ordering.{nat_cmp}
use Rattle.std.specs.BTreeMap.{insert_entry}
use Rattle.serde_json.specs.Data as json
use Rattle.serde_json.specs.Data.{Data, object, no_members, put}
use Rattle.serde_json.specs.Find.{as_object, get_member}
use Rattle.serde_json.specs.Events.{members_len}
use Rattle.ice_types.specs.declared.kind.TypeRef.{TypeRef}
use Rattle.ice_types.specs.declared.declarations.Member.{Member}
use Rattle.ice_types.specs.declared.declarations.Shape.{Shape}
use Rattle.ice_types.specs.Names.{AreNew}
use Rattle.ice_types.specs.Fits.{names_of, tags_of, NumbersFit}
use Rattle.ice_types.specs.Tables.{Tables}
use Rattle.ice_encoding.specs.Tree.{Tree, tree_count, InEach}
use Rattle.ice_encoding.specs.Optionals.{Present}
use Rattle.ice_encoding.specs.OptionalMembers.{Members, with_optional}
use Rattle.graph_json.specs.ValueNotation.{Noting, NotesMembers, Notes}
use Rattle.graph_json.specs.ReadingValues.{Read, members_of, noted_value, where_true}
use Rattle.graph_json.specs.CanonicalValues.{Write, members_noted, notation}
use Rattle.graph_json.specs.TypedValues.{IsShort, HasShortTexts}

-- the value at its place by rising tag
abbrev pub put_at : ℕ → Tree → Present → Present
put_at tag v present = insert_entry nat_cmp present tag v

-- how many members are there
abbrev pub count_of : Members → ℕ
count_of c = tree_count c.required + length c.optional

-- ---- which JSON notes them

-- an optional member: nothing stands at its name, or its value does
abbrev pub NotesOption : (TypeRef → Noting Tree) → Member → json.Members → Present → Present → Type 0
NotesOption One m found before after = ((get_member m.name found ≡ None) × (after ≡ before))
    ⊎ ((d : Data) × (tag : ℕ) × (v : Tree) × (get_member m.name found ≡ Some d) × (m.tag ≡ Some tag) × One m.kind d v × (after ≡ put_at tag v before))

-- those that are present, beside those before
abbrev pub NotesOptions : (TypeRef → Noting Tree) → List Member → json.Members → Present → Present → Type 0
NotesOptions One [] found before present = present ≡ before
NotesOptions One (m ∷ ms) found before present = (next : Present) × NotesOption One m found before next × NotesOptions One ms found next present

-- The object has the names of the members that are there, and no more.
abbrev pub NotesContent : Tables → Shape → Noting Members
NotesContent t shape d c = (found : json.Members) × (d ≡ object found) × NotesMembers (Notes t) shape.required found c.required
    × NotesOptions (Notes t) shape.optional found [] c.optional × (members_len found ≡ count_of c)

-- ---- the values that JSON stands for, None where it stands for none

abbrev pub option_there : (TypeRef → Read Tree) → Member → Present → Option Data → Option Present
option_there read m before None = Some before
option_there read m before (Some d) = option_and_then (λ tag. option_map (λ v. put_at tag v before) (read m.kind d)) m.tag

-- the optional members that an object has
abbrev pub options_of : (TypeRef → Read Tree) → List Member → json.Members → Present → Option Present
options_of read [] found before = Some before
options_of read (m ∷ ms) found before = option_and_then (λ next. options_of read ms found next) (option_there read m before (get_member m.name found))

-- where there are so many names
abbrev pub counted : ℕ → Members → Option Members
counted names c = where_true (names == count_of c) c

abbrev pub content_in : Tables → Shape → json.Members → Option Members
content_in t shape found = option_and_then (λ required. option_and_then (λ optional. counted (members_len found) (with_optional required optional))
    (options_of (noted_value t) shape.optional found [])) (members_of (noted_value t) shape.required found)

-- the members that JSON notes
abbrev pub noted_content : Tables → Shape → Read Members
noted_content t shape d = option_and_then (content_in t shape) (as_object d)

-- ---- the canonical notation

-- the first member with this tag
abbrev pub member_tagged : ℕ → List Member → Option Member
member_tagged tag [] = None
member_tagged tag (m ∷ ms) = elim m.tag [ None ↦ member_tagged tag ms | Some other ↦ elim (tag == other) [ true ↦ Some m | false ↦ member_tagged tag ms ] ]

abbrev pub put_member : (TypeRef → Write) → Option Member → Tree → json.Members → json.Members
put_member write None v found = found
put_member write (Some m) v found = put m.name (write m.kind v) found

-- the values that are present, put at their members' names beside what is there
abbrev pub options_noted : (TypeRef → Write) → json.Members → List Member → Present → json.Members
options_noted write found ms [] = found
options_noted write found ms (o ∷ os) = options_noted write (put_member write (member_tagged o.0 ms) o.1 found) ms os

-- the canonical notation of members
abbrev pub content_noted : Tables → Shape → Members → Data
content_noted t shape c = object (options_noted (notation t) (members_noted (notation t) no_members shape.required c.required) shape.optional c.optional)

-- ---- which members have one

-- the members have names of their own, and the optional ones tags of their own
pub record HasOwnNames (shape : Shape) : Type 0 where
  pub names : AreNew [] (names_of (shape.required ++ shape.optional))
  pub tags : NumbersFit (tags_of shape.optional)

-- the texts of all proxies are short enough
abbrev pub AreShort : Present → Type 0
AreShort [] = Unit {0}
AreShort (o ∷ os) = HasShortTexts o.1 × AreShort os

-- the texts of all proxies are short enough
abbrev pub ContentIsShort : Members → Type 0
ContentIsShort c = InEach IsShort c.required × AreShort c.optional
