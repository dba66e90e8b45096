-- What is still read of members that have begun.
use Rattle.std.specs.Prelude.{ℕ, suc, ◌+◌, ◌*◌, Bool, true, false, List, [], ◌∷◌, ◌++◌, map, drop, length, Option, None, Some, Ok}
use Rattle.ice_types.specs.declared.kind.TypeRef.{TypeRef}
use Rattle.ice_types.specs.declared.declarations.Member.{Member}
use Rattle.ice_types.specs.declared.declarations.Shape.{Shape}
use Rattle.ice_types.specs.Tables.{Tables}
use Rattle.ice_encoding.specs.Tree.{Tree, Trees}
use Rattle.ice_encoding.specs.Port.{Reader}
use Rattle.ice_encoding.specs.Reading.{made, each_at}
use Rattle.ice_encoding.specs.Pausing.{Met, Inside, in_place}
use Rattle.ice_encoding.specs.Steps.{given}
use Rattle.ice_encoding.specs.Optionals.{Present, tagged, options_at}
use Rattle.ice_encoding.specs.OptionalMembers.{Members, with_optional}
use Rattle.graph_arena.specs.View.{view_all}
use Rattle.graph_arena.specs.Seen.{view_present}
use Rattle.ice_values.specs.declared.reader.ValueReader.{ValueReader}
use Rattle.ice_values.specs.Frames.{join, add}
use Rattle.ice_values.specs.Going.{whole_at, left_of}
use Rattle.ice_values.specs.Rests.{then}
use Rattle.value_parts.specs.declared.fields.Optionals.{Optionals}
use Rattle.value_parts.specs.declared.fields.Optionals.TheVariants.{Absent, Marked, ToEnd}
use Rattle.ice_values.specs.declared.required.RequiredReader.{RequiredReader}
use Rattle.ice_values.specs.declared.options.Item.{Item}
use Rattle.ice_values.specs.declared.options.OptionsReader.{OptionsReader}
use Rattle.ice_values.specs.declared.members_reader.MembersReader.{MembersReader}
use Rattle.value_parts.specs.Shapes.{without_tag, with_tag, is_marked}
use Rattle.ice_values.specs.Entering.{leaving}

abbrev pub kinds_of : List Member → List TypeRef
kinds_of members = map (λ m. m.kind) members

-- the types of the members that have not begun
abbrev pub kinds_left : List Member → ℕ → List TypeRef
kinds_left members next = kinds_of (without_tag (drop next members))

-- with a value that is kept, or without one
abbrev pub kept : Present → ℕ → Option Tree → Present
kept had number None = had
kept had number (Some v) = had ++ (number, v) ∷ []

module _ {S : Type 0} (take : Option ℕ → Reader S Met) (t : Tables) (inside : Inside S) where
  -- ---- required ones

  -- members of these types, behind those that are read
  unfoldable pub required_behind : Trees → List TypeRef → Reader S Trees
  required_behind had kinds s r = then (each_at (whole_at take t inside) kinds s r) (λ others s' r'. Ok (join had others, s', r'))

  abbrev pub from_member : Option ValueReader → Trees → List TypeRef → Reader S Trees
  from_member None had kinds s r = required_behind had kinds s r
  from_member (Some reader) had kinds s r = then (left_of take t inside reader s r) (λ v. required_behind (add had v) kinds)

  -- what is still read of the required members
  abbrev pub left_required : List Member → RequiredReader → Reader S Trees
  left_required members reader = from_member reader.reader (view_all reader.done) (kinds_left members reader.next)

  -- ---- optional ones

  module _ (marked : Bool) (members : List Member) where
    -- those behind the last tag, within so many steps, behind those that are read
    unfoldable pub options_behind : Present → ℕ → Option ℕ → Reader S Present
    options_behind had steps last s r = then (options_at (in_place take inside) t marked members steps last s r) (λ others s' r'. Ok (had ++ others, s', r'))

    -- what stands behind this tag and its format, whose place this is, of a member of the type or of none; and those behind it
    unfoldable pub option_behind : Present → ℕ → ℕ → ℕ → Option TypeRef → ℕ → Reader S Present
    option_behind had steps place number kind format s r = then (tagged (in_place take inside) t place kind format s r) (λ v. options_behind (kept had number v) steps (Some number))

    abbrev pub from_item : Option Item → Present → ℕ → Option ℕ → Reader S Present
    from_item None had steps last s r = options_behind had steps last s r
    from_item (Some item) had steps last s r = then (then (left_of take t inside item.reader s r) (leaving item.behind)) (λ v. options_behind (kept had item.tag (Some v)) steps last)

    -- of the optional ones
    abbrev pub left_options : OptionsReader → Reader S Present
    left_options reader = from_item reader.item (view_present reader.done) reader.steps reader.last

    -- from the first of them on
    abbrev pub options_from : Reader S Present
    options_from s r = options_behind [] (suc (length r.bytes)) None s r

  -- ---- both

  -- where the required ones end
  abbrev pub options_by : Optionals → List Member → Reader S Present
  options_by Absent members = given []
  options_by Marked members = options_from true members
  options_by ToEnd members = options_from false members

  abbrev pub from_stage : Optionals → Shape → RequiredReader → Option OptionsReader → Reader S Members
  from_stage optionals shape required None s r = then (left_required shape.required required s r) (λ values. made (with_optional values) (options_by optionals (with_tag shape.optional)))
  from_stage optionals shape required (Some options) s r = made (with_optional (view_all required.done)) (left_options (is_marked optionals) (with_tag shape.optional) options) s r

  -- what a reader still reads of members that are handed over so
  abbrev pub left_of_members : Shape → MembersReader → Reader S Members
  left_of_members shape reader = from_stage reader.optionals shape reader.required reader.options

-- ---- how much there is left to do, so that reading ends

abbrev pub required_work : List Member → RequiredReader → ℕ
required_work members reader = 2 * length (drop reader.next members) + elim reader.reader [ None ↦ 0 | Some r ↦ 1 ]

abbrev pub options_work : OptionsReader → ℕ
options_work reader = 2 * reader.steps + elim reader.item [ None ↦ 0 | Some item ↦ 1 ]
