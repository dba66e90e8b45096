-- What a reader of messages answers, in the words of streams.
use Rattle.std.proofs.Common.{◌≡◌, ℕ, zero, suc, ◌∷◌, ◌<◌, List, [], ◌++◌, length, Option, None, Some, Result, Ok, Err, false, sym, ap, subst, ◌∙◌, arith, inl, inr}
use Rattle.std.specs.Prelude.{is_err}
use Rattle.ice_prims.specs.declared.fault.Fault.{Fault}
use Rattle.ice_prims.specs.declared.fault.ReadFault.TheVariants as read_faults
use Rattle.ice_prims.specs.Rest.{IsBytes}
use Rattle.ice_prims.proofs.Parts.{IsBytes-rest}
use Rattle.ice_encoding.specs.declared.limits.TheConstants.{LARGEST}
use Rattle.ice_messages.specs.declared.message.Message.{Message}
use Rattle.ice_messages.specs.declared.message.TheConstants.{HEADER_BYTES}
use Rattle.ice_messages.specs.Messages.{SpellsMessage}
use Rattle.ice_messages.specs.Streams.{IsFront, next_at}
use Rattle.ice_messages.specs.Framing.{Held, NextOf, Feeds}
use Rattle.ice_messages.specs.declared.fault.FeedFault.{FeedFault}
use Rattle.ice_messages.proofs.Runs.{next_spelled}
use Rattle.ice_messages.proofs.Streams.{next_front}
use Rattle.talking.specs.Hearing.{IsGoing}

-- a message was handed out
pub handed : (old new : Held) (m : Message) → IsGoing old → NextOf old new (Ok (Some m)) → (first : List ℕ) × (old.bytes ≡ first ++ new.bytes) × SpellsMessage first m × IsGoing new
handed old new m is h =
    let s = next_spelled old.bytes m h.1 is.fits h.2 in
    let parts : old.bytes ≡ s.0 ++ new.bytes = s.1 ∙ ap (λ (z : Held). s.0 ++ z.bytes) (sym h.3) in
    (s.0, parts, s.2, record { going = ap (λ (z : Held). z.stopped) h.3; fits = IsBytes-rest s.0 new.bytes (subst IsBytes parts is.fits) })

-- none is whole, and the reader is as it was
pub waits : (old new : Held) → IsGoing old → NextOf old new (Ok None) → IsFront old.bytes × (length old.bytes < LARGEST) × (new ≡ old) × IsGoing new
waits old new is h =
    let front = next_front old.bytes is.fits h.1 in
    (front, elim front [ inl few ↦ (let k : length old.bytes < HEADER_BYTES = few.3 in omega (arith, k)) | inr some ↦ omega (arith, some.6, some.7) ], h.2, subst IsGoing (sym h.2) is)

abbrev ByStop : Type 0 → (Fault → Type 0) → Option Fault → Type 0
ByStop P Q s = elim s [ None ↦ P | Some before ↦ Q before ]

from_stopped : (P : Type 0) (Q : Fault → Type 0) (s : Option Fault) → s ≡ None → ByStop P Q s → P
from_stopped P Q None is h = h
from_stopped P Q (Some before) is h = absurd cc

pub faulty : (old new : Held) (fault : Fault) → IsGoing old → NextOf old new (Err (read_faults.Broken fault)) → next_at old.bytes ≡ Err fault
faulty old new fault is h = from_stopped (next_at old.bytes ≡ Err fault) (λ (before : Fault). before ≡ fault) old.stopped is.going h.0

pub joined_fit : (a b : List ℕ) → IsBytes a → IsBytes b → IsBytes (a ++ b)
joined_fit [] b one two i = two i
joined_fit (x ∷ xs) b one two zero = one 0
joined_fit (x ∷ xs) b one two (suc i) = joined_fit xs b (λ j. one (suc j)) two i

-- a piece was taken
pub fed : {X : Type 0} (piece : List ℕ) (old new : Held) (r : Result X FeedFault) → is_err r ≡ false → Feeds piece old new r → new ≡ record { bytes = old.bytes ++ piece; stopped = None }
fed piece old new (Ok x) ok h = h.1
fed piece old new (Err e) ok h = absurd cc

pub held_behind : {X : Type 0} (old new : Held) (piece : List ℕ) (r : Result X FeedFault) → IsGoing old → IsBytes piece → is_err r ≡ false → Feeds piece old new r → (new.bytes ≡ old.bytes ++ piece) × IsGoing new
held_behind old new piece r is fits ok h =
    let same = fed piece old new r ok h in
    let parts : new.bytes ≡ old.bytes ++ piece = ap (λ (z : Held). z.bytes) same in
    (parts, record { going = ap (λ (z : Held). z.stopped) same; fits = subst IsBytes (sym parts) (joined_fit old.bytes piece is.fits fits) })
