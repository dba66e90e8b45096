-- What the calls of a port answer.
use Rattle.std.specs.Prelude.{ℕ, ◌≡◌, ◌<◌, ◌≤◌, Result, Ok, Err}
use Rattle.ice_prims.specs.declared.fault.ReadFault.{ReadFault}
use Rattle.ice_prims.specs.declared.fault.Fault.{Fault}
use Rattle.ice_prims.specs.Rest.{Rest}
use Rattle.ice_prims.specs.Taking.{Fails}
use Rattle.ice_encoding.specs.Pausing as pausing
use Rattle.value_parts.specs.declared.port.Met.{Met}
use Rattle.value_parts.specs.declared.port.Met.TheVariants as mets

-- a reference, without where it lies in memory
abbrev pub met_of : Met → pausing.Met
met_of (mets.Known name) = pausing.known name
met_of (mets.Begins n) = pausing.begins n

-- what a port that reads answers
abbrev pub TakesMet : {S : Type 0} → Result Met ReadFault → Result (pausing.Met × S × Rest) Fault → S → Rest → Type 0
TakesMet (Ok x) take s' r' = take ≡ Ok (met_of x, s', r')
TakesMet (Err e) take s' r' = Fails e take

-- fewer may begin where one has just begun, and no more in any case
abbrev pub NarrowsOnMet : Result Met ReadFault → ℕ → ℕ → Type 0
NarrowsOnMet (Ok (mets.Known name)) before after = after ≤ before
NarrowsOnMet (Ok (mets.Begins n)) before after = after < before
NarrowsOnMet (Err e) before after = Unit {0}
