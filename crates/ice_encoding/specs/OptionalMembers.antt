-- The members of a shape: the required ones in order, and then the optional ones. (Ice manual, "Data Encoding for Class and Exception Types" and "Parameters".)
use Rattle.std.specs.Prelude.{ℕ, Bool, true, false, List, [], map, filter, Option}
use Rattle.std.specs.Option.{is_none, is_some}
use Rattle.ice_types.specs.declared.declarations.Member.{Member}
use Rattle.ice_types.specs.declared.declarations.Shape.{Shape}
use Rattle.ice_types.specs.declared.kind.TypeRef.{TypeRef}
use Rattle.ice_types.specs.declared.schema.TheConstants.{MOST_DEPTH}
use Rattle.ice_types.specs.Tables.{Tables}
use Rattle.ice_encoding.specs.Tree.{Trees}
use Rattle.ice_encoding.specs.Port.{Port, Reader, Speller}
use Rattle.ice_encoding.specs.Spelling.{Made, Each, SpellsValue}
use Rattle.ice_encoding.specs.Reading.{made, each_at, value_at}
use Rattle.ice_encoding.specs.Steps.{followed, Followed, given, Given}
use Rattle.ice_encoding.specs.Optionals.{Present, AllOptions, all_options}

-- the values of the required members in order, and of the optional ones that are present by rising tag
pub record Members : Type 0 where
  pub required : Trees
  pub optional : Present

abbrev pub with_optional : Trees → Present → Members
with_optional required optional = record { required = required; optional = optional }

-- the members of a class or an exception by themselves: those without a tag, and those with one
abbrev pub shape_of : List Member → Shape
shape_of members = record { required = filter (λ m. is_none m.tag) members; optional = filter (λ m. is_some m.tag) members }

-- the types of the required members
abbrev pub required_kinds : Shape → List TypeRef
required_kinds shape = map (λ m. m.kind) shape.required

-- ---- reading, by how a reference is read

module _ {R : Type 0} (refer : Option ℕ → Reader R (Option ℕ)) (t : Tables) where
  -- the required members, and then the optional ones as they stand here
  abbrev pub members_by : Reader R Present → Shape → Reader R Members
  members_by optional shape = followed (each_at (value_at refer t MOST_DEPTH) (required_kinds shape)) (λ required. made (with_optional required) optional)

  -- a whole content, whose optional members go on to the end of the bound
  abbrev pub content_at : Shape → Reader R Members
  content_at shape = members_by (all_options refer t false shape.optional) shape

  abbrev pub if_flagged : Bool → Reader R Present → Reader R Present
  if_flagged true read = read
  if_flagged false read = given []

  -- a slice, whose flag says whether optional members are there, with their marker
  abbrev pub slice_members_at : Bool → Shape → Reader R Members
  slice_members_at flagged shape = members_by (if_flagged flagged (all_options refer t true shape.optional)) shape

-- ---- spelling

module _ {R S : Type 0} (port : Port R S) (t : Tables) where
  abbrev pub SpellsMembersBy : Speller S Present → Shape → Speller S Members
  SpellsMembersBy Optional shape = Followed (Each (SpellsValue port t MOST_DEPTH) (required_kinds shape)) (λ required. Made (with_optional required) Optional)

  -- the members of a whole content
  abbrev pub SpellsContent : Shape → Speller S Members
  SpellsContent shape = SpellsMembersBy (AllOptions port t false shape.optional) shape

  abbrev pub IfFlagged : Bool → Speller S Present → Speller S Present
  IfFlagged true Spells = Spells
  IfFlagged false Spells = Given []

  -- the members of a slice, whose flag says whether it has optional ones
  abbrev pub SpellsSliceMembers : Bool → Shape → Speller S Members
  SpellsSliceMembers flagged shape = SpellsMembersBy (IfFlagged flagged (AllOptions port t true shape.optional)) shape
