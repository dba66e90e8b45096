-- What was fed to a reader is the messages that it handed out, and what it holds.
use Rattle.std.proofs.Common.{◌≡◌, List, ℕ, [], ◌∷◌, ◌++◌, refl, sym, ap, subst, ◌∙◌, append_assoc}
use Rattle.ice_prims.specs.Rest.{IsBytes}
use Rattle.ice_prims.proofs.Parts.{IsBytes-front, IsBytes-rest}
use Rattle.ice_messages.specs.declared.message.Message.{Message}
use Rattle.ice_messages.specs.Messages.{SpellsMessage}
use Rattle.ice_messages.specs.Streams.{Stream}
use Rattle.ice_messages.specs.Framing.{Held, Ran, begun, fed, gave, waited, broke}
use Rattle.ice_messages.proofs.Runs.{next_spelled}

-- a stream goes on behind what is left
pub goes_on : (ms : List Message) (bytes rest piece : List ℕ) → Stream bytes ms rest → Stream (bytes ++ piece) ms (rest ++ piece)
goes_on [] bytes rest piece h = ap (λ (z : List ℕ). z ++ piece) h
goes_on (m ∷ ms) bytes rest piece h =
    (h.0, h.1 ++ piece, ap (λ (z : List ℕ). z ++ piece) h.2 ∙ append_assoc h.0 h.1 piece, h.3, goes_on ms h.1 rest piece h.4)

-- and has one message more, where what is left begins with it
pub one_more : (ms : List Message) (bytes rest first others : List ℕ) (m : Message) → Stream bytes ms rest → rest ≡ first ++ others → SpellsMessage first m → Stream bytes (ms ++ m ∷ []) others
one_more [] bytes rest first others m h parts spelled = (first, others, h ∙ parts, spelled, refl)
one_more (n ∷ ms) bytes rest first others m h parts spelled = (h.0, h.1, h.2, h.3, one_more ms h.1 rest first others m h.4 parts spelled)

-- what is left are bytes
pub left_fits : (ms : List Message) (bytes rest : List ℕ) → IsBytes bytes → Stream bytes ms rest → IsBytes rest
left_fits [] bytes rest fits h = subst IsBytes h fits
left_fits (m ∷ ms) bytes rest fits h = left_fits ms h.1 rest (IsBytes-rest h.0 h.1 (subst IsBytes h.2 fits)) h.4

pub ran : (bytes : List ℕ) (ms : List Message) (h : Held) → Ran bytes ms h → IsBytes bytes → Stream bytes ms h.bytes
ran _ _ _ begun fits = refl
ran _ _ _ (fed bytes piece ms old new before feeds) fits =
    subst (λ (z : Held). Stream (bytes ++ piece) ms z.bytes) (sym feeds.1) (goes_on ms bytes old.bytes piece (ran bytes ms old before (IsBytes-front bytes piece fits)))
ran _ _ _ (gave bytes ms m old new before next) fits =
    let stream = ran bytes ms old before fits in
    let spelled = next_spelled old.bytes m next.1 (left_fits ms bytes old.bytes fits stream) next.2 in
    subst (λ (z : Held). Stream bytes (ms ++ m ∷ []) z.bytes) (sym next.3) (one_more ms bytes old.bytes spelled.0 next.1.bytes m stream spelled.1 spelled.2)
ran _ _ _ (waited bytes ms old new before next) fits = subst (λ (z : Held). Stream bytes ms z.bytes) (sym next.2) (ran bytes ms old before fits)
ran _ _ _ (broke bytes ms fault old new before next) fits = subst (λ (z : Held). Stream bytes ms z.bytes) (sym next.1) (ran bytes ms old before fits)
