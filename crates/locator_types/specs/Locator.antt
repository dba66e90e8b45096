-- The interface of locators, with the types that it speaks of. (Ice manual, "Locators".)
use Rattle.std.specs.Prelude.{ℕ, true, List, [], ◌∷◌, None, codes}
use Rattle.ice_types.specs.declared.kind.TypeRef.{TypeRef}
use Rattle.ice_types.specs.declared.kind.TypeRef.TheVariants as kinds
use Rattle.ice_types.specs.declared.declarations.StructDecl.{StructDecl}
use Rattle.ice_types.specs.declared.declarations.ExceptionDecl.{ExceptionDecl}
use Rattle.ice_types.specs.declared.declarations.OpDecl.{OpDecl}
use Rattle.ice_types.specs.Tables.{Tables, no_types, with_struct, with_exception, with_interface, define_interface}
use Rattle.ice_types.specs.Object.{required}

-- struct Identity { string name; string category; };
abbrev pub identity_decl : StructDecl
identity_decl = record { id = codes "::Ice::Identity"; members = required (codes "name") kinds.Text ∷ required (codes "category") kinds.Text ∷ [] }

-- exception E { };
abbrev pub without_members : List ℕ → ExceptionDecl
without_members id = record { id = id; base = None; members = [] }

abbrev pub object_not_found : ExceptionDecl
object_not_found = without_members (codes "::Ice::ObjectNotFoundException")

abbrev pub adapter_not_found : ExceptionDecl
adapter_not_found = without_members (codes "::Ice::AdapterNotFoundException")

-- an operation that finds what has this id, and throws the exception at this place where nothing has it
abbrev pub finding : List ℕ → TypeRef → ℕ → OpDecl
finding name id not_found = record {
  name = name;
  idempotent = true;
  arguments = record { required = required (codes "id") id ∷ []; optional = [] };
  results = record { required = required (codes "$return") (kinds.Proxy None) ∷ []; optional = [] };
  throws = not_found ∷ [];
}

-- idempotent Object* findObjectById(Identity id) throws ObjectNotFoundException;
abbrev pub find_object : OpDecl
find_object = finding (codes "findObjectById") (kinds.Struct 0) 0

-- idempotent Object* findAdapterById(string id) throws AdapterNotFoundException;
abbrev pub find_adapter : OpDecl
find_adapter = finding (codes "findAdapterById") kinds.Text 1

abbrev pub locator_operations : List OpDecl
locator_operations = find_object ∷ find_adapter ∷ []

-- the struct, and both exceptions
abbrev pub identity_declared : Tables
identity_declared = with_struct no_types identity_decl

abbrev pub object_declared : Tables
object_declared = with_exception identity_declared object_not_found

abbrev pub types_declared : Tables
types_declared = with_exception object_declared adapter_not_found

-- and the interface, in the module Ice
abbrev pub locator_declared : Tables
locator_declared = with_interface types_declared (codes "::Ice::Locator")

abbrev pub locator_tables : Tables
locator_tables = define_interface locator_declared 0 [] locator_operations
