-- Which references may stand in a value, and which endpoints.
use Rattle.std.specs.Prelude.{ℕ, Option}
use Rattle.ice_types.specs.Tables.{Tables}
use Rattle.ice_encoding.specs.declared.limits.TheConstants.{GREATEST, LARGEST}
use Rattle.ice_encoding.specs.Typed.{Refers}
use Rattle.ice_encoding.specs.TypedGraph.{IsHeldIn}
use Rattle.value_checks.specs.declared.references.References.{References}
use Rattle.value_checks.specs.declared.references.References.TheVariants.{No, Any, Into}

-- any reference may stand, and whatever proxy can be written
abbrev pub AnyRefers : Refers
AnyRefers = record { Held = λ declared name. Unit {0}; most = GREATEST }

-- which references: none, any, or those to instances of a graph that fit
abbrev pub IsHeldBy : Tables → References → Option ℕ → Option ℕ → Type 0
IsHeldBy t No = λ declared name. ⊥
IsHeldBy t Any = λ declared name. Unit {0}
IsHeldBy t (Into graph) = IsHeldIn t graph.now.instances

-- the greatest size of an endpoint: in a key, where no proxy stands, that of one that can be read
abbrev pub most_of : References → ℕ
most_of No = LARGEST
most_of Any = GREATEST
most_of (Into graph) = GREATEST

-- both
abbrev pub MayStand : Tables → References → Refers
MayStand t references = record { Held = IsHeldBy t references; most = most_of references }
