-- Messages one after the other, as both ends of a connection have them.
use Rattle.std.proofs.Common.{◌≡◌, ℕ, ◌≤◌, ◌⊎◌, inl, inr, Bool, true, false, List, [], ◌∷◌, ◌++◌, length, Option, None, Some, refl, ap, sym, ◌∙◌, subst, arith, append_assoc, append-nil, length-append}
use Rattle.ice_messages.specs.declared.message.Message.{Message}
use Rattle.ice_messages.specs.declared.message.Message.TheVariants.{Validate, Close}
use Rattle.ice_messages.specs.Messages.{message_bytes, SpellsMessage}
use Rattle.ice_messages.specs.Streams.{Stream}
use Rattle.ice_messages.proofs.Streams.{messages_apart, message_long}
use Rattle.talking.specs.declared.end.End.{End}
use Rattle.talking.specs.declared.end.End.TheVariants.{LinkFailed, PeerEnded, PeerClosed, PeerBroke, Enough}
use Rattle.dispatch_pool.specs.Handled.{Handled, replies, reply_steps}
use Rattle.talking.specs.Said.{bytes_of, all_of, AreSpelled, IsSaid, IsBegun, IsCut, IsSaidBut}
use Rattle.talking.specs.Ends.{WasSaid}
use Rattle.talking.specs.Ends as talks
use Rattle.talking.proofs.Said.{bytes_append, all_append}
use Rattle.once_law.specs.Ends.{IsPrefix}
use Rattle.once_law.specs.Shown.{ClosesAt}

-- ---- first bytes

pub prefix_trans : (a b c : List ℕ) → IsPrefix a b → IsPrefix b c → IsPrefix a c
prefix_trans a b c one two =
    (one.0 ++ two.0, sym (append_assoc a one.0 two.0) ∙ (ap (λ (z : List ℕ). z ++ two.0) one.1 ∙ two.1))

pub prefix_long : (a b : List ℕ) → IsPrefix a b → length a ≤ length b
prefix_long a b p = let e = length-append a p.0 in let f = ap (λ (z : List ℕ). length z) p.1 in omega arith

pub message_some : (bytes : List ℕ) (m : Message) → SpellsMessage bytes m → 14 ≤ length bytes
message_some bytes m h = message_long bytes m h

-- no message stands in no bytes
pub none_spelled : (first others : List ℕ) (m : Message) → SpellsMessage first m → [] ≡ first ++ others → ⊥
none_spelled first others m h e =
    let l = message_some first m h in
    let f = length-append first others in
    let g = ap (λ (z : List ℕ). length z) e in
    omega arith

pub none_streamed : (m : Message) (ms : List Message) (bytes rest : List ℕ) → bytes ≡ [] → Stream bytes (m ∷ ms) rest → ⊥
none_streamed m ms bytes rest e s = none_spelled s.0 s.1 m s.3 (sym e ∙ s.2)

-- the messages of first bytes are the first messages
pub first_messages : (given more : List ℕ) (reads ms : List Message) (rest : List ℕ) → Stream given reads rest → Stream (given ++ more) ms []
    → (others : List Message) × (reads ++ others ≡ ms)
first_messages given more [] ms rest one two = (ms, refl)
first_messages given more (m ∷ reads) [] rest one two =
    absurd (none_spelled one.0 (one.1 ++ more) m one.3 (sym two ∙ (ap (λ (z : List ℕ). z ++ more) one.2 ∙ append_assoc one.0 one.1 more)))
first_messages given more (m ∷ reads) (n ∷ ms) rest one two =
    let apart = messages_apart one.0 two.0 (one.1 ++ more) two.1 m n one.3 two.3
    (sym (append_assoc one.0 one.1 more) ∙ (ap (λ (z : List ℕ). z ++ more) (sym one.2) ∙ two.2)) in
    let tail = first_messages one.1 more reads ms rest one.4 (subst (λ (z : List ℕ). Stream z ms []) (sym apart.1) two.4) in
    (tail.0, ap (λ (z : Message). z ∷ (reads ++ tail.0)) apart.0 ∙ ap (λ (z : List Message). n ∷ z) tail.1)

pub stream_then : (bytes : List ℕ) (ms ns : List Message) (rest left : List ℕ) → Stream bytes ms rest → Stream rest ns left → Stream bytes (ms ++ ns) left
stream_then bytes [] ns rest left one two = subst (λ (z : List ℕ). Stream z ns left) (sym one) two
stream_then bytes (m ∷ ms) ns rest left one two = (one.0, one.1, one.2, one.3, stream_then one.1 ms ns rest left one.4 two)

-- ---- what a server said

spelled_stream : (ms : List Message) → AreSpelled ms → Stream (bytes_of ms) ms []
spelled_stream [] h = refl
spelled_stream (m ∷ ms) h = (message_bytes m, bytes_of ms, refl, h.0, spelled_stream ms h.1)

-- the bytes taken are the first of those of the first messages
pub record Began (messages : List Message) (taken : List ℕ) : Type 0 where
  pub bytes : List ℕ
  pub some : List Message
  pub others : List Message
  pub parts : some ++ others ≡ messages
  pub stream : Stream bytes some []
  pub taken_is : IsPrefix taken bytes

said_began : (messages : List Message) (taken : List ℕ) → IsSaid messages taken → Began messages taken
said_began messages taken h = record {
  bytes = bytes_of messages;
  some = messages;
  others = [];
  parts = append-nil messages;
  stream = spelled_stream messages h.1;
  taken_is = ([], append-nil taken ∙ h.0);
}

begun_began : (messages : List Message) (taken : List ℕ) → IsBegun messages taken → Began messages taken
begun_began messages taken h = record {
  bytes = bytes_of messages;
  some = messages;
  others = [];
  parts = append-nil messages;
  stream = spelled_stream messages h.spelled;
  taken_is = (
    h.lacks,
    ap (λ (z : List ℕ). z ++ h.lacks) h.taken_is
        ∙ (append_assoc (bytes_of h.before) h.begun h.lacks
        ∙ (ap (λ (z : List ℕ). bytes_of h.before ++ z) (sym (append-nil (message_bytes h.last) ∙ h.last_is))
        ∙ (sym (bytes_append h.before (h.last ∷ [])) ∙ ap bytes_of (sym h.parts)))),
  );
}

-- messages that were said, before such as were begun
spelled_before : (a some : List Message) (bytes : List ℕ) → AreSpelled a → Stream bytes some [] → Stream (bytes_of a ++ bytes) (a ++ some) []
spelled_before [] some bytes h k = k
spelled_before (m ∷ a) some bytes h k = (message_bytes m, bytes_of a ++ bytes, append_assoc (message_bytes m) (bytes_of a) bytes, h.0, spelled_before a some bytes h.1 k)

said_then_began : (a b : List Message) (x y : List ℕ) → IsSaid a x → Began b y → Began (a ++ b) (x ++ y)
said_then_began a b x y h k = record {
  bytes = bytes_of a ++ k.bytes;
  some = a ++ k.some;
  others = k.others;
  parts = append_assoc a k.some k.others ∙ ap (λ (z : List Message). a ++ z) k.parts;
  stream = spelled_before a k.some k.bytes h.1 k.stream;
  taken_is = (
    k.taken_is.0,
    append_assoc x y k.taken_is.0
        ∙ (ap (λ (z : List ℕ). z ++ (y ++ k.taken_is.0)) h.0 ∙ ap (λ (z : List ℕ). bytes_of a ++ z) k.taken_is.1),
  );
}

-- what a session says: validate, the replies, and a close message or none
abbrev pub closing : Bool → List Message
closing true = Close ∷ []
closing false = []

abbrev pub all_said : List Handled → Bool → List Message
all_said handled closes = Validate ∷ (replies handled ++ closing closes)

abbrev steps : List Handled → List (List Message)
steps handled = (Validate ∷ []) ∷ reply_steps handled

opened : (handled : List Handled) (taken : List ℕ) → Began (all_of (steps handled)) taken → Began (all_said handled false) taken
opened handled taken h = subst (λ (z : List Message). Began (Validate ∷ z) taken) (sym (append-nil (replies handled))) h

closed : (handled : List Handled) (taken : List ℕ) → Began (all_of (steps handled ++ talks.closing)) taken → Began (all_said handled true) taken
closed handled taken h = subst (λ (z : List Message). Began z taken) (all_append (steps handled) talks.closing) h

cut_began : (them : List (List Message)) (taken : List ℕ) → IsCut them taken → Began (all_of them) taken
cut_began them taken cut =
    let all : all_of cut.before ++ cut.last ≡ all_of them =
    ap (λ (z : List Message). all_of cut.before ++ z) (sym (append-nil cut.last)) ∙ (sym (all_append cut.before (cut.last ∷ [])) ∙ ap all_of (sym cut.parts)) in
    subst (λ (z : List ℕ). Began (all_of them) z) (sym cut.taken_is)
    (subst (λ (z : List Message). Began z (cut.whole ++ cut.begun)) all
    (said_then_began (all_of cut.before) cut.last cut.whole cut.begun cut.is_said (begun_began cut.last cut.begun cut.is_begun)))

but_began : (them : List (List Message)) (taken : List ℕ) → IsSaidBut them taken → Began (all_of them) taken
but_began them taken (before, last, parts, few, said) = record {
  bytes = bytes_of (all_of before);
  some = all_of before;
  others = all_of last;
  parts = sym (all_append before last) ∙ ap all_of (sym parts);
  stream = spelled_stream (all_of before) said.1;
  taken_is = ([], append-nil taken ∙ said.0);
}

-- what of it was taken
abbrev pub IsTold : Option End → List Handled → List ℕ → Type 0
IsTold end handled taken = (closes : Bool) × ClosesAt end closes × Began (all_said handled closes) taken

pub ends_told : (end : Option End) (left : List ℕ) (read most : ℕ) (handled : List Handled) (taken : List ℕ) → WasSaid end left read most (steps handled) taken → IsTold end handled taken
ends_told None left read most handled taken h = (false, refl, opened handled taken (but_began (steps handled) taken h))
ends_told (Some PeerEnded) left read most handled taken h = (false, refl, opened handled taken (said_began (all_of (steps handled)) taken h.1))
ends_told (Some PeerClosed) left read most handled taken h = (false, refl, opened handled taken (said_began (all_of (steps handled)) taken h.1))
ends_told (Some (PeerBroke fault)) left read most handled taken h = (false, refl, opened handled taken (said_began (all_of (steps handled)) taken h.1))
ends_told (Some LinkFailed) left read most handled taken (inl h) = (false, tt, opened handled taken (said_began (all_of (steps handled)) taken h.2))
ends_told (Some LinkFailed) left read most handled taken (inr (inl h)) = (false, tt, opened handled taken (cut_began (steps handled) taken h))
ends_told (Some LinkFailed) left read most handled taken (inr (inr h)) = (true, tt, closed handled taken (cut_began (steps handled ++ talks.closing) taken h.1))
ends_told (Some Enough) left read most handled taken h = (true, refl, closed handled taken (said_began (all_of (steps handled ++ talks.closing)) taken h.1))

-- the messages that a client reads are the first that the server said
pub reads_said : (all reads : List Message) (given taken rest : List ℕ) → Began all taken → IsPrefix given taken → Stream given reads rest → (others : List Message) × (reads ++ others ≡ all)
reads_said all reads given taken rest b first stream =
    let p = prefix_trans given taken b.bytes first b.taken_is in
    let f = first_messages given p.0 reads b.some rest stream (subst (λ (z : List ℕ). Stream z b.some []) (sym p.1) b.stream) in
    (f.0 ++ b.others, sym (append_assoc reads f.0 b.others) ∙ (ap (λ (z : List Message). z ++ b.others) f.1 ∙ b.parts))

-- a server reads of first bytes of one message nothing, or that message
pub server_reads : (m : Message) (bytes given more : List ℕ) (reads : List Message) (rest : List ℕ) → SpellsMessage bytes m → given ++ more ≡ bytes
    → Stream given reads rest → (reads ≡ []) ⊎ ((reads ≡ m ∷ []) × (given ≡ bytes))
server_reads m bytes given more [] rest spelled e s = inl refl
server_reads m bytes given more (n ∷ ns) rest spelled e s =
    let apart = messages_apart s.0 bytes (s.1 ++ more) [] n m s.3 spelled
    (sym (append_assoc s.0 s.1 more) ∙ (ap (λ (z : List ℕ). z ++ more) (sym s.2) ∙ (e ∙ sym (append-nil bytes)))) in
    let ends = both_none s.1 more apart.1 in
    inr (
      ap (λ (z : Message). z ∷ ns) apart.0 ∙ ap (λ (z : List Message). m ∷ z) (no_more ns s.1 ends.0 s.4),
      sym (append-nil given) ∙ (ap (λ (z : List ℕ). given ++ z) (sym ends.1) ∙ e),
    )
  where
    both_none : (a b : List ℕ) → a ++ b ≡ [] → (a ≡ []) × (b ≡ [])
    both_none [] b e = (refl, e)
    both_none (x ∷ a) b e = absurd (let z = ap (λ (y : List ℕ). length y) e in omega arith)

    no_more : (ns : List Message) (bytes : List ℕ) → bytes ≡ [] → Stream bytes ns rest → ns ≡ []
    no_more [] bytes e s = refl
    no_more (n ∷ ns) bytes e s = absurd (none_streamed n ns bytes rest e s)
