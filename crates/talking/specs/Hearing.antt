-- What is heard of a link.
use Rattle.std.specs.Prelude.{◌≡◌, ◌≤◌, ◌⊎◌, ℕ, Bool, true, false, List, [], ◌++◌, length, None, Result, Ok, Err}
use Rattle.ice_prims.specs.Rest.{IsBytes}
use Rattle.ice_ports.specs.declared.ports.TheConstants.{MOST_OF_A_READ}
use Rattle.ice_ports.specs.declared.talk.Talk.{Talk}
use Rattle.ice_messages.specs.Messages.{SpellsMessage}
use Rattle.ice_messages.specs.Streams.{IsFront, next_at}
use Rattle.ice_messages.specs.Framing.{Held}
use Rattle.talking.specs.declared.hearing.Heard.{Heard}
use Rattle.talking.specs.declared.hearing.Heard.TheVariants.{Message, Broken, Ended, Failed}

-- no fault has stopped the reader
pub record IsGoing (held : Held) : Type 0 where
  pub going : held.stopped ≡ None
  pub fits : IsBytes held.bytes

abbrev pub is_ended : {E : Type 0} → Result Heard E → Bool
is_ended (Ok (Message m)) = false
is_ended (Ok (Broken fault)) = false
is_ended (Ok Ended) = true
is_ended (Ok Failed) = false
is_ended (Err e) = false

abbrev pub is_failed : {E : Type 0} → Result Heard E → Bool
is_failed (Ok (Message m)) = false
is_failed (Ok (Broken fault)) = false
is_failed (Ok Ended) = false
is_failed (Ok Failed) = true
is_failed (Err e) = false

-- these bytes were given until then
abbrev pub heard_part : {E : Type 0} → List ℕ → Result Heard E → Talk
heard_part got result = record { given = got; taken = []; ended = is_ended result; failed = is_failed result }

-- More was read only where no message stood: all but the last piece, behind what the reader held, is a front.
abbrev pub ReadsFrugally : List ℕ → List ℕ → Type 0
ReadsFrugally held got = (got ≡ []) ⊎ ((before piece : List ℕ) × (got ≡ before ++ piece) × IsFront (held ++ before) × (length piece ≤ MOST_OF_A_READ))

-- what was heard stands at the front of these bytes, of which the reader holds what follows it
abbrev pub Hears : {E : Type 0} → List ℕ → Held → Result Heard E → Type 0
Hears bytes new (Ok (Message m)) = (first : List ℕ) × (bytes ≡ first ++ new.bytes) × SpellsMessage first m × IsGoing new
Hears bytes new (Ok (Broken fault)) = next_at bytes ≡ Err fault
Hears bytes new (Ok Ended) = IsFront bytes
Hears bytes new (Ok Failed) = IsFront bytes
Hears bytes new (Err e) = Unit {0}
