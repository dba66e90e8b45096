-- A value by itself, whose references are numbers.
use Rattle.std.proofs.Common.{ℕ, List, refl}
use Rattle.ice_types.specs.declared.kind.TypeRef.{TypeRef}
use Rattle.ice_types.specs.declared.schema.TheConstants.{MOST_DEPTH}
use Rattle.ice_types.specs.Tables.{Tables}
use Rattle.ice_encoding.specs.Encapsulation.{SpellsEncapsulation}
use Rattle.ice_encoding.specs.Port.{by_number}
use Rattle.ice_encoding.specs.Tree.{Tree}
use Rattle.ice_encoding.specs.Value.{SpellsPlainValue}
use Rattle.slice_compat.specs.Reading.{Reads}
use Rattle.graph_laws.proofs.CarriedOver.{value_carried}

pub plain_carried : (t u : Tables) (kind other : TypeRef) (bytes : List ℕ) (v : Tree) → Reads t u kind other → SpellsPlainValue t kind bytes v → SpellsPlainValue u other bytes v
unfolding Reads SpellsPlainValue
plain_carried t u kind other bytes v reads h =
    (value_carried (λ (a b : Unit {0}). Unit {0}) by_number by_number t u (λ a b tied bytes n from to begin h r. (begin, (h.0, refl), tt)) MOST_DEPTH kind other reads bytes v tt tt tt h tt).1

pub encapsulation_carried : (t u : Tables) (kind other : TypeRef) (bytes : List ℕ) (v : Tree) → Reads t u kind other → SpellsEncapsulation t kind bytes v → SpellsEncapsulation u other bytes v
encapsulation_carried t u kind other bytes v reads h = (h.0, h.1, h.2, plain_carried t u kind other h.0 v reads h.3)
