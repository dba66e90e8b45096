-- Messages one after the other, and what is wrong with one.
use Rattle.std.proofs.Common.{◌≡◌, ℕ, ℤ, ◌<◌, Bool, true, false, List, [], ◌∷◌, ◌++◌, Option, None, Some, refl, sym, ap, subst, ◌∙◌, append_assoc, append-nil, if◌then◌else◌}
use Rattle.std.specs.Prelude.{nat_lt}
use Rattle.std.specs.Ordering.{int_eq}
use Rattle.std.proofs.lemmas.Bool.Decides.{Decides-int_eq}
use Rattle.std.proofs.lemmas.Bool.{ltb-true}
use Rattle.ice_prims.specs.declared.fault.Fault.{Fault}
use Rattle.ice_prims.specs.declared.fault.Kind.TheVariants.{Endless, UnknownId}
use Rattle.ice_messages.specs.declared.message.Answer.{Answer}
use Rattle.ice_messages.specs.declared.message.Message.{Message}
use Rattle.ice_messages.specs.declared.message.Message.TheVariants.{Reply}
use Rattle.ice_messages.specs.Messages.{SpellsMessage}
use Rattle.ice_messages.specs.Streams.{Stream}
use Rattle.ice_messages.specs.declared.ends.TheConstants.{MOST_MESSAGES}
use Rattle.ice_messages.specs.declared.message.TheConstants.{HEADER_BYTES}
use Rattle.ice_messages.specs.Ends.{amiss, awaited_fault, id_fault, client_fault}

-- ---- streams

-- messages, and then more bytes of which the next messages are read
pub stream_join : (ms ns : List Message) (bytes rest got left : List ℕ) → Stream bytes ms rest → Stream (rest ++ got) ns left → Stream (bytes ++ got) (ms ++ ns) left
stream_join [] ns bytes rest got left one two = subst (λ (z : List ℕ). Stream (z ++ got) ns left) (sym one) two
stream_join (m ∷ ms) ns bytes rest got left one two =
    (one.0, one.1 ++ got, ap (λ (z : List ℕ). z ++ got) one.2 ∙ append_assoc one.0 one.1 got, one.3, stream_join ms ns one.1 rest got left one.4 two)

-- one message more
pub stream_more : (m : Message) (ms : List Message) (bytes rest got first left : List ℕ) → Stream bytes ms rest → rest ++ got ≡ first ++ left → SpellsMessage first m → Stream (bytes ++ got) (ms ++ m ∷ []) left
stream_more m ms bytes rest got first left one parts spelled = stream_join ms (m ∷ []) bytes rest got left one (first, left, parts, spelled, refl)

-- nothing more but bytes
pub stream_grows : (ms : List Message) (bytes rest got : List ℕ) → Stream bytes ms rest → Stream (bytes ++ got) ms (rest ++ got)
stream_grows ms bytes rest got one = subst (λ (z : List Message). Stream (bytes ++ got) z (rest ++ got)) (append-nil ms) (stream_join ms [] bytes rest got (rest ++ got) one refl)

-- ---- nothing is wrong with a message

by_count : (b : Bool) (within : Option Fault) → (if b then within else amiss Endless) ≡ None → (b ≡ true) × (within ≡ None)
by_count true within e = (refl, e)
by_count false within e = absurd cc

pub unfaulted : (asked : Option ℤ) (n : ℕ) (m : Message) → client_fault asked n m ≡ None → (n < MOST_MESSAGES) × (awaited_fault asked m ≡ None)
unfaulted asked n m e =
    let both = by_count (nat_lt n MOST_MESSAGES) (awaited_fault asked m) e in
    (ltb-true n MOST_MESSAGES both.0, both.1)

by_id : (b : Bool) (fault : Fault) → (if b then None else Some fault) ≡ None → b ≡ true
by_id true fault e = refl
by_id false fault e = absurd cc

-- a reply has the id that is asked
pub reply_id : (asked id : ℤ) (n : ℕ) (answer : Answer) → client_fault (Some asked) n (Reply id answer) ≡ None → id ≡ asked
reply_id asked id n answer e =
    let own : id_fault asked id ≡ None = (unfaulted (Some asked) n (Reply id answer) e).1 in
    (Decides-int_eq id asked).0 (by_id (int_eq id asked) (record { place = HEADER_BYTES; kind = UnknownId }) own)
