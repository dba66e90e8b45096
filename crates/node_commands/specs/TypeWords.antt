-- The word TYPE of the command line.
use Rattle.std.specs.Prelude.{ℕ, ◌≡◌, ◌⊎◌, List, ◌++◌, Some, codes}
use Rattle.ice_types.specs.declared.kind.TypeRef.{TypeRef}
use Rattle.ice_types.specs.declared.kind.TypeRef.TheVariants as kinds
use Rattle.ice_types.specs.Tables.{Tables, Names, HasId, interface_ids}
use Rattle.node_commands.specs.Words.{Word}

-- an interface's type id with a `*` after it: a proxy of the interface
abbrev pub IsProxyWord : Tables → Word → TypeRef → Type 0
IsProxyWord t word kind = (id : List ℕ) × (at : ℕ) × (word ≡ id ++ codes "*")
    × HasId (interface_ids t) id at × (kind ≡ kinds.Proxy (Some at))

-- A built-in type's word, `Object`, `Object*`, or a type id; and else a proxy's word.
abbrev pub IsTypeWord : Tables → Word → TypeRef → Type 0
IsTypeWord t word kind = Names t word kind
    ⊎ (((other : TypeRef) → Names t word other → ⊥) × IsProxyWord t word kind)
