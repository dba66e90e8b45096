-- The lines of messages, one after the other.
use Rattle.std.proofs.Common.{◌≡◌, ℕ, zero, suc, ◌+◌, List, [], ◌∷◌, ◌++◌, length, refl, sym, ap, subst, ◌∙◌, arith, append_assoc, append-nil}
use Rattle.ice_prims.specs.Rest.{IsBytes}
use Rattle.ice_prims.proofs.Parts.{IsBytes-rest}
use Rattle.ice_messages.specs.declared.message.Message.{Message}
use Rattle.ice_messages.specs.Messages.{SpellsMessage}
use Rattle.message_dump.specs.Lines.{message_line}
use Rattle.message_dump.specs.Dumps.{Tells}

pub tells_one : (bytes first rest : List ℕ) (m : Message) → bytes ≡ first ++ rest → SpellsMessage first m → Tells 1 bytes (message_line (length first) m) rest
tells_one bytes first rest m parts spelled = (m, first, rest, [], parts, spelled, sym (append-nil (message_line (length first) m)), (refl, refl))

pub tells_then : (n m k : ℕ) (a b c lines more : List ℕ) → k ≡ n + m → Tells n a lines b → Tells m b more c → Tells k a (lines ++ more) c
tells_then zero m k a b c lines more is one two = let same : k ≡ m = omega (arith, is) in rw (same, one.0, one.1) two
tells_then (suc n) m zero a b c lines more is one two = absurd (omega (arith, is))
tells_then (suc n) m (suc k) a b c lines more is one two =
    (one.0, one.1, one.2, one.3 ++ more, one.4, one.5, ap (λ (z : List ℕ). z ++ more) one.6 ∙ append_assoc (message_line (length one.1) one.0) one.3 more, tells_then n m k one.2 b c one.3 more (omega (arith, is)) one.7 two)

-- and whatever follows is left too
pub tells_more : (n : ℕ) (bytes rest lines more : List ℕ) → Tells n bytes lines rest → Tells n (bytes ++ more) lines (rest ++ more)
tells_more zero bytes rest lines more h = (h.0, ap (λ (z : List ℕ). z ++ more) h.1)
tells_more (suc n) bytes rest lines more h =
    (h.0, h.1, h.2 ++ more, h.3, ap (λ (z : List ℕ). z ++ more) h.4 ∙ append_assoc h.1 h.2 more, h.5, h.6, tells_more n h.2 rest h.3 more h.7)

-- what is left are bytes
pub tells_fits : (n : ℕ) (bytes rest lines : List ℕ) → IsBytes bytes → Tells n bytes lines rest → IsBytes rest
tells_fits zero bytes rest lines fits h = subst IsBytes h.1 fits
tells_fits (suc n) bytes rest lines fits h = tells_fits n h.2 rest h.3 (IsBytes-rest h.1 h.2 (subst IsBytes h.4 fits)) h.7

pub joined_fit : (a b : List ℕ) → IsBytes a → IsBytes b → IsBytes (a ++ b)
joined_fit [] b one two i = two i
joined_fit (x ∷ xs) b one two zero = one 0
joined_fit (x ∷ xs) b one two (suc i) = joined_fit xs b (λ j. one (suc j)) two i
