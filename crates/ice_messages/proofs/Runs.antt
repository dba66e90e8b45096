-- Bytes have one way to be read as messages, and the messages of a front of bytes are the first ones of all.
use Rattle.std.proofs.Common.{◌≡◌, ℕ, zero, suc, ◌≤◌, List, [], ◌∷◌, ◌++◌, length, Option, None, Some, Result, Ok, Err, refl, sym, ap, subst, ◌∙◌, inl, inr, arith, append_assoc}
use Rattle.std.proofs.lemmas.List.{length-append}
use Rattle.ice_prims.specs.declared.fault.Fault.{Fault}
use Rattle.ice_prims.specs.Rest.{Rest, ◌>>=◌, IsBytes, whole}
use Rattle.ice_prims.proofs.Parts.{chosen as choice, then_ok, IsBytes-rest}
use Rattle.ice_encoding.specs.declared.limits.TheConstants.{LARGEST}
use Rattle.ice_encoding.specs.Bounds.{claimed}
use Rattle.ice_messages.specs.declared.message.Message.{Message}
use Rattle.ice_messages.specs.declared.message.TheConstants.{HEADER_BYTES}
use Rattle.ice_messages.specs.Messages.{message_at, SpellsMessage}
use Rattle.ice_messages.specs.Streams.{Stream, started, counted, next_at, StreamEnds, IsStream}
use Rattle.ice_messages.proofs.Whole.{message_found}
use Rattle.ice_messages.proofs.Streams.{messages_apart, message_long, next_message, front_next, next_front}
use Rattle.std.proofs.Common.{cond, ltb}

-- ---- what stands next is a message

abbrev answer : Option (Message × Rest) → Result (Option (Message × Rest)) Fault
answer x = Ok x

no_message : {x : Message × Rest} → answer None ≡ answer (Some x) → ⊥
no_message e = cc

pub next_spelled : (bytes : List ℕ) (m : Message) (r : Rest) → IsBytes bytes → next_at bytes ≡ Ok (Some (m, r)) → (first : List ℕ) × (bytes ≡ first ++ r.bytes) × SpellsMessage first m
next_spelled bytes m r fits e =
    then_ok (started bytes) (λ head. cond (ltb (length bytes) HEADER_BYTES) (Ok None) (claimed 10 LARGEST HEADER_BYTES head.0.1 >>= counted bytes)) (Some (m, r)) e λ head head_is later.
    elim (choice (ltb (length bytes) HEADER_BYTES) (Ok None) (claimed 10 LARGEST HEADER_BYTES head.0.1 >>= counted bytes) (Ok (Some (m, r))) later) [
      | inl few ↦ absurd (no_message few.1)
      | inr more ↦
          then_ok (claimed 10 LARGEST HEADER_BYTES head.0.1) (counted bytes) (Some (m, r)) more.1 λ n n_is last.
          elim (choice (ltb (length bytes) n) (Ok None) (message_at (whole bytes) >>= λ m. Ok (Some m)) (Ok (Some (m, r))) last) [
            | inl few ↦ absurd (no_message few.1)
            | inr all ↦
                then_ok (message_at (whole bytes)) (λ m. Ok (Some m)) (Some (m, r)) all.1 λ found found_is same.
                let f = message_found (whole bytes) found fits found_is in
                let is : found ≡ (m, r) = cc in
                subst (λ (z : Message × Rest). (first : List ℕ) × (bytes ≡ first ++ z.1.bytes) × SpellsMessage first z.0) is (f.0, f.1.parts, f.2)
          ]
    ]

-- ---- one way to be read

abbrev failed : Fault → Result (Option (Message × Rest)) Fault
failed f = Err f

no_fault : {f : Fault} {x : Option (Message × Rest)} → failed f ≡ answer x → ⊥
no_fault e = cc

-- no message is whole in what is left
ends_alone : (rest : List ℕ) (end : Option Fault) (first others : List ℕ) (m : Message) → StreamEnds rest end → SpellsMessage first m → rest ≡ first ++ others → ⊥
ends_alone rest None first others m h spelled parts = absurd (no_message (sym (front_next rest h) ∙ ap next_at parts ∙ next_message first others m spelled))
ends_alone rest (Some fault) first others m h spelled parts = absurd (no_fault (sym h ∙ ap next_at parts ∙ next_message first others m spelled))

front_fault : {f : Fault} → answer None ≡ failed f → ⊥
front_fault e = cc

same_fault : {f g : Fault} → failed f ≡ failed g → f ≡ g
same_fault e = cc

pub one_end : (rest : List ℕ) (a b : Option Fault) → StreamEnds rest a → StreamEnds rest b → a ≡ b
one_end rest None None one two = refl
one_end rest None (Some f) one two = absurd (front_fault (sym (front_next rest one) ∙ two))
one_end rest (Some f) None one two = absurd (front_fault (sym (front_next rest two) ∙ one))
one_end rest (Some f) (Some g) one two = ap Some (same_fault (sym one ∙ two))

pub one_stream : (ms ns : List Message) (bytes rest left : List ℕ) (a b : Option Fault) → IsStream bytes ms rest a → IsStream bytes ns left b → (ms ≡ ns) × (rest ≡ left) × (a ≡ b)
one_stream [] [] bytes rest left a b one two =
    let same : rest ≡ left = sym one.0 ∙ two.0 in (refl, same, one_end left a b (subst (λ (r : List ℕ). StreamEnds r a) same one.1) two.1)
one_stream [] (n ∷ ns) bytes rest left a b one two = absurd (ends_alone rest a two.0.0 two.0.1 n one.1 two.0.3 (sym one.0 ∙ two.0.2))
one_stream (m ∷ ms) [] bytes rest left a b one two = absurd (ends_alone left b one.0.0 one.0.1 m two.1 one.0.3 (sym two.0 ∙ one.0.2))
one_stream (m ∷ ms) (n ∷ ns) bytes rest left a b one two =
    let same = messages_apart one.0.0 two.0.0 one.0.1 two.0.1 m n one.0.3 two.0.3 (sym one.0.2 ∙ two.0.2) in
    let later = one_stream ms ns two.0.1 rest left a b (subst (λ (z : List ℕ). Stream z ms rest) same.1 one.0.4, one.1) (two.0.4, two.1) in
    (rw (same.0, later.0) refl, later.1, later.2)

-- the messages of the first bytes are the first messages of all
pub first_messages : (ns ms : List Message) (bytes more left rest : List ℕ) (end : Option Fault) → Stream bytes ns left → IsStream (bytes ++ more) ms rest end → (others : List Message) × (ms ≡ ns ++ others)
first_messages [] ms bytes more left rest end one two = (ms, refl)
first_messages (n ∷ ns) [] bytes more left rest end one two =
    absurd (ends_alone rest end one.0 (one.1 ++ more) n two.1 one.3 (sym two.0 ∙ ap (λ (z : List ℕ). z ++ more) one.2 ∙ append_assoc one.0 one.1 more))
first_messages (n ∷ ns) (m ∷ ms) bytes more left rest end one two =
    let parts : bytes ++ more ≡ one.0 ++ (one.1 ++ more) = ap (λ (z : List ℕ). z ++ more) one.2 ∙ append_assoc one.0 one.1 more in
    let same = messages_apart two.0.0 one.0 two.0.1 (one.1 ++ more) m n two.0.3 one.3 (sym two.0.2 ∙ parts) in
    let later = first_messages ns ms one.1 more left rest end one.4 (subst (λ (z : List ℕ). Stream z ms rest) same.1 two.0.4, two.1) in
    (later.0, ap (λ (z : Message). z ∷ ms) same.0 ∙ ap (λ (z : List Message). n ∷ z) later.1)

-- ---- each list of bytes is a stream

stream_from : (x : Result (Option (Message × Rest)) Fault) (bytes : List ℕ) → IsBytes bytes → next_at bytes ≡ x
    → ((others first : List ℕ) (m : Message) → bytes ≡ first ++ others → SpellsMessage first m → (ms : List Message) × (rest : List ℕ) × (end : Option Fault) × IsStream others ms rest end)
    → (ms : List Message) × (rest : List ℕ) × (end : Option Fault) × IsStream bytes ms rest end
stream_from (Err fault) bytes fits e go = ([], bytes, Some fault, (refl, e))
stream_from (Ok None) bytes fits e go = ([], bytes, None, (refl, next_front bytes fits e))
stream_from (Ok (Some x)) bytes fits e go =
    let next = next_spelled bytes x.0 x.1 fits e in
    let later = go x.1.bytes next.0 x.0 next.1 next.2 in
    (x.0 ∷ later.0, later.1, later.2, ((next.0, x.1.bytes, next.1, next.2, later.3.0), later.3.1))

streams : (n : ℕ) (bytes : List ℕ) → length bytes ≤ n → IsBytes bytes → (ms : List Message) × (rest : List ℕ) × (end : Option Fault) × IsStream bytes ms rest end
streams zero bytes short fits = stream_from (next_at bytes) bytes fits refl λ others first m parts spelled.
    absurd (omega (arith, short, ap length parts, length-append first others, message_long first m spelled))
streams (suc n) bytes short fits = stream_from (next_at bytes) bytes fits refl λ others first m parts spelled.
    streams n others (omega (arith, short, ap length parts, length-append first others, message_long first m spelled)) (IsBytes-rest first others (rw (← parts) fits))

pub is_stream : (bytes : List ℕ) → IsBytes bytes → (ms : List Message) × (rest : List ℕ) × (end : Option Fault) × IsStream bytes ms rest end
is_stream bytes fits = streams (length bytes) bytes (omega arith) fits
