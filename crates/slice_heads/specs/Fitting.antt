-- Whether classes fit where they are named.
use Rattle.std.specs.Prelude.{ℕ, ◌≡◌, None, Some, Result, Ok, Err}
use Rattle.ice_types.specs.Tables.{Tables}
use Rattle.ice_prims.specs.declared.fault.Fault.{Fault}
use Rattle.ice_prims.specs.declared.fault.Kind.TheVariants.{WrongClass}
use Rattle.ice_encoding.specs.References.{State}
use Rattle.ice_encoding.specs.Instances.{misfit}

-- each class fits where it is named, or the first place where one does not has the fault
abbrev pub Fits : {X : Type 0} → Tables → State ℕ → Result X Fault → Type 0
Fits t s (Ok x) = misfit t s.instances s.met ≡ None
Fits t s (Err e) = (place : ℕ) × (misfit t s.instances s.met ≡ Some place) × (e ≡ record { place = place; kind = WrongClass })
