-- What the calls answer.
use Rattle.std.specs.Prelude.{◌≡◌, Result, Ok, Err}
use Rattle.ice_prims.specs.declared.fault.Fault.{Fault}
use Rattle.ice_prims.specs.declared.fault.ReadFault.{ReadFault}
use Rattle.ice_prims.specs.Rest.{Rest}
use Rattle.ice_prims.specs.Taking.{Fails}

-- A part was read. Where reading stands after a refusal is left open.
abbrev pub ReadsPart : {A : Type 0} → Result A ReadFault → Rest → Result (A × Rest) Fault → Type 0
ReadsPart (Ok x) new read = read ≡ Ok (x, new)
ReadsPart (Err e) new read = Fails e read

-- the same of a call that takes no memory
abbrev pub Sees : {A : Type 0} → Result A Fault → Rest → Result (A × Rest) Fault → Type 0
Sees (Ok x) new read = read ≡ Ok (x, new)
Sees (Err e) new read = read ≡ Err e

-- the part can be read
abbrev pub IsThere : {A : Type 0} → Result (A × Rest) Fault → Type 0
IsThere {A} read = (x : A × Rest) × (read ≡ Ok x)
