-- module D { class N { int v; N left; N right; }; };
use Rattle.std.specs.Prelude.{List, [], ◌∷◌, None, Some, codes}
use Rattle.ice_types.specs.declared.kind.TypeRef.TheVariants as kinds
use Rattle.ice_types.specs.declared.declarations.Member.{Member}
use Rattle.ice_types.specs.declared.declarations.Shape.{Shape}
use Rattle.ice_types.specs.Object.{required}
use Rattle.ice_types.specs.Tables.{Tables, no_types, with_class, define_class}

abbrev pub node_members : List Member
node_members = required (codes "v") kinds.Int
    ∷ required (codes "left") (kinds.Class (Some 0))
    ∷ required (codes "right") (kinds.Class (Some 0)) ∷ []

abbrev pub node_declared : Tables
node_declared = with_class no_types (codes "::D::N")

-- the schema `module D { class N { int v; N left; N right; }; };`
abbrev pub drill_tables : Tables
drill_tables = define_class node_declared 0 None None node_members

-- one value of the class, and nothing else that is known
abbrev pub root : Member
root = required (codes "root") (kinds.Class (Some 0))

-- one value of its class
abbrev pub one_node : Shape
one_node = record { required = root ∷ []; optional = [] }
