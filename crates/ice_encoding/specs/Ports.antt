-- What is asked of each way in which a reference stands. (Ice manual, "Data Encoding for Class and Exception Types".)
use Rattle.std.specs.Prelude.{ℕ, ◌≡◌, List, ◌++◌, Option}
use Rattle.ice_types.specs.declared.kind.TypeRef.{TypeRef}
use Rattle.ice_types.specs.declared.schema.TheConstants.{MOST_DEPTH}
use Rattle.ice_types.specs.Tables.{Tables}
use Rattle.ice_encoding.specs.Port.{Port, Found, Only}
use Rattle.ice_encoding.specs.Reading.{value_at}
use Rattle.ice_encoding.specs.Spelling.{SpellsValue}

-- From one state on, no spelling of a reference begins another: bytes begin with one reference at most.
abbrev pub AreApart : {R S : Type 0} → Port R S → Type 0
AreApart {R} {S} port = (declared v w : Option ℕ) (a b x y : List ℕ) (from to end : S)
    → port.Spells declared a v from to → port.Spells declared b w from end → a ++ x ≡ b ++ y → (a ≡ b) × (v ≡ w) × (to ≡ end)

-- Values in which references stand so are read exactly where they are spelled, whatever follows them.
pub record AreRead {R S : Type 0} (port : Port R S) (t : Tables) (kind : TypeRef) : Type 0 where
  pub found : Found port.seen (value_at port.read t MOST_DEPTH kind) (SpellsValue port t MOST_DEPTH kind)
  pub only : Only port.seen (value_at port.read t MOST_DEPTH kind) (SpellsValue port t MOST_DEPTH kind)
