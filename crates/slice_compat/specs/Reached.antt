-- The classes whose instances a value of a type may name, directly or through others. (Ice manual, "Classes".)
use Rattle.std.specs.Prelude.{ℕ, ◌≡◌, ◌<◌, ◌⊎◌, length, Option, None, Some, slice_get}
use Rattle.ice_types.specs.declared.kind.TypeRef.{TypeRef}
use Rattle.ice_types.specs.declared.kind.TypeRef.TheVariants as kinds
use Rattle.ice_types.specs.declared.declarations.SeqDecl.{SeqDecl}
use Rattle.ice_types.specs.declared.declarations.DictDecl.{DictDecl}
use Rattle.ice_types.specs.declared.declarations.StructDecl.{StructDecl}
use Rattle.ice_types.specs.declared.declarations.ClassDecl.{ClassDecl}
use Rattle.ice_types.specs.declared.declarations.Member.{Member}
use Rattle.ice_types.specs.Tables.{Tables}
use Rattle.ice_types.specs.Inherited.{IsA}

module _ (t : Tables) where
  -- a class that is the declared one or derived from it, or a base of it; any class where none is declared
  abbrev pub IsOfPlace : Option ℕ → ℕ → Type 0
  IsOfPlace None class = Unit {0}
  IsOfPlace (Some declared) class = IsA t.classes class declared ⊎ IsA t.classes declared class

  -- a class of the tables that a place reaches: the declared one, each that is derived from it, and all their bases
  abbrev pub MayName : Option ℕ → ℕ → Type 0
  MayName declared class = (class < length t.classes) × IsOfPlace declared class

  -- A class place stands in the type that reaches the class. No class place stands in the key of a dictionary.
  pub data Names (class : ℕ) : TypeRef → Type 0 where
    AtPlace : (declared : Option ℕ) → MayName declared class → Names class (kinds.Class declared)
    InElement : (at : ℕ) (q : SeqDecl) → slice_get t.seqs at ≡ Some q → Names class q.element → Names class (kinds.Seq at)
    InValue : (at : ℕ) (d : DictDecl) → slice_get t.dicts at ≡ Some d → Names class d.value → Names class (kinds.Dict at)
    InMember : (at : ℕ) (d : StructDecl) (place : ℕ) (m : Member) → slice_get t.structs at ≡ Some d → slice_get d.members place ≡ Some m
        → Names class m.kind → Names class (kinds.Struct at)

  -- the type of a member of the class's own reaches the other one
  abbrev pub LeadsTo : ℕ → ℕ → Type 0
  LeadsTo class next = (d : ClassDecl) × (place : ℕ) × (m : Member) × (slice_get t.classes class ≡ Some d) × (slice_get d.members place ≡ Some m) × Names next m.kind

  -- The least list of classes that has what the type reaches, and what each of its classes does.
  pub data IsReached (root : TypeRef) : ℕ → Type 0 where
    AtOnce : (class : ℕ) → Names class root → IsReached root class
    Through : (class next : ℕ) → IsReached root class → LeadsTo class next → IsReached root next
