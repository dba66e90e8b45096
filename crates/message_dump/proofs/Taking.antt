-- The next message, or what stops the reader.
use Rattle.std.proofs.Common.{◌≡◌, ℕ, ◌+◌, ◌-◌, ◌≤◌, ◌<◌, ◌^◌, List, ◌++◌, length, Option, None, Some, Ok, Err, refl, sym, ap, subst, ◌∙◌, arith, inl, inr}
use Rattle.std.proofs.lemmas.Bool.{cases_lt}
use Rattle.std.proofs.lemmas.List.{length-append}
use Rattle.ice_prims.specs.declared.fault.Fault.{Fault}
use Rattle.ice_prims.specs.declared.fault.ReadFault.TheVariants as read_faults
use Rattle.ice_prims.specs.Rest.{IsBytes}
use Rattle.ice_prims.proofs.Parts.{IsBytes-rest}
use Rattle.ice_encoding.specs.declared.limits.TheConstants.{LARGEST}
use Rattle.ice_messages.specs.declared.message.Message.{Message}
use Rattle.ice_messages.specs.Messages.{SpellsMessage}
use Rattle.ice_messages.specs.Streams.{next_at}
use Rattle.ice_messages.specs.Framing.{Held, NextOf}
use Rattle.ice_messages.proofs.Runs.{next_spelled}
use Rattle.message_dump.specs.declared.dump.TheConstants.{MOST_MESSAGES}
use Rattle.message_dump.specs.declared.telling.Telling.{Telling}
use Rattle.message_dump.specs.Steps.{IsSound, TakesNext}
use Rattle.ice_messages.proofs.Faults.{fault_stands}

-- the bytes of a message that was handed out
pub record Given (old new : Held) (m : Message) : Type 0 where
  pub first : List ℕ
  pub parts : old.bytes ≡ first ++ new.bytes
  pub spelled : SpellsMessage first m
  pub going : new.stopped ≡ None
  pub small : length first ≤ LARGEST
  pub total : length old.bytes ≡ length first + length new.bytes

pub given : (old new : Held) (m : Message) → IsBytes old.bytes → NextOf old new (Ok (Some m)) → Given old new m
given old new m fits h =
    let s = next_spelled old.bytes m h.1 fits h.2 in
    let parts : old.bytes ≡ s.0 ++ new.bytes = s.1 ∙ ap (λ (z : Held). s.0 ++ z.bytes) (sym h.3) in
    record { first = s.0; parts = parts; spelled = s.2; going = ap (λ (z : Held). z.stopped) h.3; small = s.2.5; total = ap length parts ∙ length-append s.0 new.bytes }

pub takes : (old : Telling) (held left : ℕ) (new : Held) (m : Message) → IsSound old → (old.count ≡ MOST_MESSAGES → ⊥) → held ≡ length old.frames.bytes → left ≡ length new.bytes → NextOf old.frames new (Ok (Some m))
    → TakesNext old (record { frames = new; count = old.count + 1; place = old.place + (held - left) }) (Ok (Some (held - left, m)))
takes old held left new m sound more held_is left_is h =
    let g = given old.frames new m sound.fits h in
    let length_is : held - left ≡ length g.first = omega (arith, held_is, left_is, g.total) in
    let few : old.count < MOST_MESSAGES = elim (cases_lt old.count MOST_MESSAGES) [ inl less ↦ less | inr most ↦ absurd (more (omega (arith, most, sound.few))) ] in (
      g.first,
      g.parts,
      g.spelled,
      length_is,
      refl,
      ap (λ (n : ℕ). old.place + n) length_is,
      record {
        few = omega (arith, few);
        near = omega (arith, sound.near, length_is, g.small);
        going = g.going;
        fits = IsBytes-rest g.first new.bytes (subst IsBytes g.parts sound.fits);
      },
    )

-- ---- a fault

abbrev ByStop : Type 0 → (Fault → Type 0) → Option Fault → Type 0
ByStop P Q s = elim s [ None ↦ P | Some before ↦ Q before ]

from_stopped : (P : Type 0) (Q : Fault → Type 0) (s : Option Fault) → s ≡ None → ByStop P Q s → P
from_stopped P Q None is h = h
from_stopped P Q (Some before) is h = absurd cc

pub faulty : (old new : Held) (fault : Fault) → old.stopped ≡ None → NextOf old new (Err (read_faults.Broken fault)) → next_at old.bytes ≡ Err fault
faulty old new fault going h = from_stopped (next_at old.bytes ≡ Err fault) (λ (before : Fault). before ≡ fault) old.stopped going h.0

-- its place is far from the greatest number
pub place_fits : (old : Telling) (new : Held) (fault : Fault) → IsSound old → NextOf old.frames new (Err (read_faults.Broken fault)) → old.place + fault.place < 2 ^ 64
place_fits old new fault sound h =
    let bad = faulty old.frames new fault sound.going h in
    omega (arith, sound.few, sound.near, (fault_stands old.frames.bytes fault bad).near)
