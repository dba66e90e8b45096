-- What is gone through on the way to the classes that a type reaches, and which of it leads to which.
use Rattle.std.specs.Prelude.{ℕ, ◌≡◌, ◌<◌, ◌⊎◌, List, length, Option, None, Some, slice_get}
use Rattle.ice_types.specs.declared.kind.TypeRef.{TypeRef}
use Rattle.ice_types.specs.declared.kind.TypeRef.TheVariants as kinds
use Rattle.ice_types.specs.declared.declarations.SeqDecl.{SeqDecl}
use Rattle.ice_types.specs.declared.declarations.DictDecl.{DictDecl}
use Rattle.ice_types.specs.declared.declarations.StructDecl.{StructDecl}
use Rattle.ice_types.specs.declared.declarations.ClassDecl.{ClassDecl}
use Rattle.ice_types.specs.declared.declarations.Member.{Member}
use Rattle.ice_types.specs.Tables.{Tables}
use Rattle.ice_types.specs.Inherited.{base_in}
use Rattle.slice_compat.specs.declared.node.Node.{Node}
use Rattle.slice_compat.specs.declared.node.Node.TheVariants as nodes

-- where a type leads, None for one in which no class place stands
abbrev pub node_of : TypeRef → Option Node
node_of kinds.Bool = None
node_of kinds.Byte = None
node_of kinds.Short = None
node_of kinds.Int = None
node_of kinds.Long = None
node_of kinds.Text = None
node_of (kinds.Seq at) = Some (nodes.Seq at)
node_of (kinds.Dict at) = Some (nodes.Dict at)
node_of (kinds.Struct at) = Some (nodes.Struct at)
node_of (kinds.Enum at) = None
node_of (kinds.Proxy at) = None
node_of (kinds.Class None) = Some nodes.Anywhere
node_of (kinds.Class (Some declared)) = Some (nodes.Place declared)

-- the type leads there
abbrev pub IsNodeOf : TypeRef → Node → Type 0
IsNodeOf kind next = node_of kind ≡ Some next

-- the type of one of the members leads there
abbrev pub AmongMembers : List Member → Node → Type 0
AmongMembers members next = (place : ℕ) × (m : Member) × (slice_get members place ≡ Some m) × IsNodeOf m.kind next

-- the class that is the base
abbrev pub IsBase : Option ℕ → Node → Type 0
IsBase base next = (at : ℕ) × (base ≡ Some at) × (next ≡ nodes.Class at)

module _ (t : Tables) where
  -- the place of a class that extends this one
  abbrev pub IsChild : ℕ → Node → Type 0
  IsChild base next = (class : ℕ) × (base_in t.classes class ≡ Some base) × (next ≡ nodes.Place class)

  -- a class of the tables
  abbrev pub IsClass : Node → Type 0
  IsClass next = (class : ℕ) × (class < length t.classes) × (next ≡ nodes.Class class)

  -- A type leads to its parts. A place leads to the declared class, and to the places of the classes that extend it. A class
  -- leads to its base, and to the types of its own members.
  abbrev pub Steps : Node → Node → Type 0
  Steps (nodes.Seq at) next = (q : SeqDecl) × (slice_get t.seqs at ≡ Some q) × IsNodeOf q.element next
  Steps (nodes.Dict at) next = (d : DictDecl) × (slice_get t.dicts at ≡ Some d) × IsNodeOf d.value next
  Steps (nodes.Struct at) next = (d : StructDecl) × (slice_get t.structs at ≡ Some d) × AmongMembers d.members next
  Steps (nodes.Place at) next = (next ≡ nodes.Class at) ⊎ IsChild at next
  Steps nodes.Anywhere next = IsClass next
  Steps (nodes.Class at) next = (d : ClassDecl) × (slice_get t.classes at ≡ Some d) × (IsBase d.base next ⊎ AmongMembers d.members next)
