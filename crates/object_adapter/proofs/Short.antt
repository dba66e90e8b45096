-- Replies keep the limit of messages.
use Rattle.std.proofs.Common.{ℕ, ℤ, pos, zero, suc, ◌≡◌, ◌+◌, ◌≤◌, ◌<◌, ◌^◌, Bool, true, false, leb, List, [], ◌∷◌, ◌++◌, length, Ok, Err, refl, sym, ap, subst, arith, inl, inr, length-append}
use Rattle.std.specs.Prelude.{Result, IfOk, codes, if◌then◌else◌, nat_lt}
use Rattle.std.specs.Int.{w32, to_le_bytes}
use Rattle.std.specs.Fmt.{decimal}
use Rattle.std.proofs.lemmas.Bool.{leb-true, lt-ltb, le-ltb}
use Rattle.std.proofs.lemmas.Fmt.{length-decimal-le}
use Rattle.ice_types.specs.declared.identity.Identity.{Identity}
use Rattle.ice_prims.specs.declared.fault.Fault.{Fault}
use Rattle.ice_prims.specs.declared.fault.Kind.{Kind}
use Rattle.ice_prims.specs.declared.fault.Kind.TheVariants as kinds
use Rattle.ice_prims.specs.Kinds.{kind_name}
use Rattle.ice_prims.specs.Bytes.{signed_bytes, size_bytes, text_bytes}
use Rattle.ice_prims.specs.Number.{SpellsSize, SpellsText}
use Rattle.ice_encoding.specs.Parts.{text, SpellsTimes}
use Rattle.ice_encoding.specs.Identity as names
use Rattle.ice_encoding.proofs.SpelledSizes.{size_long}
use Rattle.ice_messages.specs.declared.message.Call.{Call}
use Rattle.ice_messages.specs.declared.message.Answer.{Answer}
use Rattle.ice_messages.specs.declared.message.Answer.TheVariants.{Done, Raised}
use Rattle.ice_messages.specs.declared.message.Message.TheVariants.{Request, Reply}
use Rattle.ice_messages.specs.Calls as form
use Rattle.ice_messages.specs.Messages.{header, magic, versions, message_bytes, SpellsMessage}
use Rattle.object_adapter.specs.Refusals.{missed, failed, fault_text}
use Rattle.object_adapter.specs.Replies.{IsReply, CanReply}
use Rattle.object_adapter.specs.Results.{AreResults}
use Rattle.object_adapter.proofs.Written.{encapsulations}

-- ---- how long a reply is

reply_long : (id : ℤ) (a : Answer) → length (message_bytes (Reply id a)) ≡ 18 + length (form.answer.put a)
reply_long id a =
    let body = signed_bytes w32 id ++ form.answer.put a in
    let head = header.put (2, pos (14 + length body)) in
    let fourteen : length head ≡ 14 = refl in
    let four : length (signed_bytes w32 id) ≡ 4 = refl in
    omega (arith, length-append head body, length-append (signed_bytes w32 id) (form.answer.put a), fourteen, four)

pub short_reply : (id : ℤ) (a : Answer) (n : ℕ) → length (form.answer.put a) ≡ n → n ≤ 1048558 → length (message_bytes (Reply id a)) ≤ 1048576
short_reply id a n is few = omega (arith, reply_long id a, is, few)

pub done_replies : (bytes : List ℕ) → AreResults bytes → IsReply (Done bytes)
done_replies bytes are = let few : length bytes ≤ 1000000 = are.2 in (encapsulations bytes are, λ id. short_reply id (Done bytes) (suc (length bytes)) refl (omega (arith, few)))

pub raised_replies : (bytes : List ℕ) → AreResults bytes → IsReply (Raised bytes)
raised_replies bytes are = let few : length bytes ≤ 1000000 = are.2 in (encapsulations bytes are, λ id. short_reply id (Raised bytes) (suc (length bytes)) refl (omega (arith, few)))

-- ---- a text

size_by : (b : Bool) (n : ℕ) → length (if b then n ∷ [] else 255 ∷ to_le_bytes w32 n) ≤ 5
size_by true n = leb-true 1 5 refl
size_by false n = leb-true 5 5 refl

pub text_replies : (what : List ℕ) → length what ≤ 1000 → IsReply (failed what)
text_replies what few =
    let size = size_bytes (length what) in
    let put : length (form.answer.put (failed what)) ≡ suc (length (size ++ what)) = refl in
    ((leb-true 5 5 refl, leb-true 5 7 refl), λ id. short_reply id (failed what) _ put (omega (arith, few, length-append size what, size_by (nat_lt (length what) 255) (length what))))

kind_short : (k : Kind) → leb (length (kind_name k)) 20 ≡ true
kind_short kinds.Short = refl
kind_short kinds.TooLarge = refl
kind_short kinds.BadSize = refl
kind_short kinds.BadMagic = refl
kind_short kinds.BadVersion = refl
kind_short kinds.BadMessage = refl
kind_short kinds.Compressed = refl
kind_short kinds.BadStatus = refl
kind_short kinds.BadBool = refl
kind_short kinds.BadText = refl
kind_short kinds.BadEnum = refl
kind_short kinds.EqualKey = refl
kind_short kinds.BadTag = refl
kind_short kinds.BadFormat = refl
kind_short kinds.BadFlags = refl
kind_short kinds.BadLast = refl
kind_short kinds.BadTypeId = refl
kind_short kinds.WrongBase = refl
kind_short kinds.UnknownClass = refl
kind_short kinds.BadReference = refl
kind_short kinds.TooMany = refl
kind_short kinds.BadIdentity = refl
kind_short kinds.BadFacet = refl
kind_short kinds.BadMode = refl
kind_short kinds.LeftOver = refl
kind_short kinds.WrongClass = refl
kind_short kinds.NotValidated = refl
kind_short kinds.Unexpected = refl
kind_short kinds.UnknownId = refl
kind_short kinds.Oneway = refl
kind_short kinds.Endless = refl

pub fault_short : (fault : Fault) → fault.place < 2 ^ 64 → length (fault_text fault) ≤ 1000
fault_short fault fits =
    let kind = kind_name fault.kind in let place = decimal fault.place in
    let behind = codes " at " ++ place in
    let opening : length (codes "bad arguments ") ≡ 14 = refl in
    let four : length (codes " at ") ≡ 4 = refl in
    omega (
      arith,
      opening,
      four,
      length-append (codes "bad arguments ") (kind ++ behind),
      length-append kind behind,
      length-append (codes " at ") place,
      leb-true _ _ (kind_short fault.kind),
      length-decimal-le 20 fault.place (omega arith) (omega (arith, fits)) fits,
    )

-- ---- what a message spells of a call is no shorter than what is put of it again

magic_long : (bytes : List ℕ) (x : Unit {0}) → magic.Spells bytes x → length bytes ≡ 4
magic_long bytes x h = let o = h.2 in rw (o.2, o.3, o.4.2, o.4.3, o.4.4.2, o.4.4.3, o.4.4.4) refl

versions_long : (bytes : List ℕ) (x : Unit {0}) → versions.Spells bytes x → length bytes ≡ 4
versions_long bytes x h = let o = h.2 in rw (o.2, o.3, o.4) refl

header_long : (bytes : List ℕ) (x : ℕ × ℤ) → header.Spells bytes x → length bytes ≡ 14
header_long bytes x h =
    let parts = h.2 in
    let versions_are = parts.4 in
    let type_is = versions_are.4 in
    let one : length type_is.0 ≡ 1 = ap length type_is.3.0.1 in
    let status_is = type_is.4 in
    let two : length status_is.0 ≡ 1 = ap length status_is.3.2.0.0.1 in
    omega (
      arith,
      magic_long parts.0 _ parts.3,
      versions_long versions_are.0 _ versions_are.3,
      one,
      two,
      status_is.4.0,
      ap length parts.2,
      ap length versions_are.2,
      ap length type_is.2,
      ap length status_is.2,
      length-append parts.0 parts.1,
      length-append versions_are.0 versions_are.1,
      length-append type_is.0 type_is.1,
      length-append status_is.0 status_is.1,
    )

size_length : (front : List ℕ) (n : ℕ) → SpellsSize front n → length (size_bytes n) ≡ length front
size_length front n (inl h) = let short = lt-ltb n 255 h.0 in rw (short, h.1) refl
size_length front n (inr h) = let long = le-ltb n 255 h.0 in rw (long, h.5) (omega (arith, h.3))

text_length : (bytes s : List ℕ) → SpellsText bytes s → length (text_bytes s) ≡ length bytes
text_length bytes s h = omega (arith, size_length h.0 (length s) h.1, ap length h.3, length-append h.0 s, length-append (size_bytes (length s)) s)

identity_length : (bytes : List ℕ) (i : Identity) → names.identity.Spells bytes i → length (names.identity.put i) ≡ length bytes
identity_length bytes i (x, is, (a, b, parts, name, category)) =
    rw is (omega (arith, ap length parts, length-append a b, text_length a x.0 name, text_length b x.1 category, length-append (text_bytes x.0) (text_bytes x.1)))

facet_by : (n : ℕ) (front bytes : List ℕ) (fs : List (List ℕ)) → SpellsSize front n → SpellsTimes SpellsText n bytes fs → length (names.facet.put (names.facet_of fs)) ≤ length front + length bytes
facet_by zero front bytes fs size each = let one = size_long front 0 size in rw each.1 (omega (arith, one))
facet_by (suc n) front bytes fs size ([], xs, a, b, is, parts, first, others) = let one = size_long front (suc n) size in rw is (omega (arith, one))
facet_by (suc n) front bytes fs size (c ∷ cs, xs, a, b, is, parts, first, others) =
    let one = size_long front (suc n) size in
    let put : length (names.facet.put (c ∷ cs)) ≡ suc (length (text_bytes (c ∷ cs) ++ [])) = refl in
    rw is (omega (arith, one, put, length-append (text_bytes (c ∷ cs)) [], text_length a (c ∷ cs) first, ap length parts, length-append a b))

facet_length : (bytes f : List ℕ) → names.facet.Spells bytes f → length (names.facet.put f) ≤ length bytes
facet_length bytes f (fs, is, (n, front, rest, parts, size, each)) =
    rw is (omega (arith, facet_by n front rest fs size.0 each, ap length parts, length-append front rest))

-- what names the call, in a message
abbrev named : Call → ℕ
named c = length (names.identity.put c.identity) + (length (names.facet.put c.facet) + length (text.put c.operation))

call_named : (bytes : List ℕ) (c : Call) → form.call.Spells bytes c → named c < length bytes
call_named bytes c (x, is, (a, b, ab, identity, (d, e, de, facet, (f, g, fg, operation, (m, rest, mr, mode, behind))))) =
    let one : length m ≡ 1 = ap length mode.0.1 in
    rw is (omega (
      arith,
      identity_length a x.0 identity,
      facet_length d x.1.0 facet,
      text_length f x.1.1.0 operation,
      one,
      ap length ab,
      ap length de,
      ap length fg,
      ap length mr,
      length-append a b,
      length-append d e,
      length-append f g,
      length-append m rest,
    ))

request_named : (bytes : List ℕ) (id : ℤ) (c : Call) → SpellsMessage bytes (Request id c) → suc (named c) ≤ 1048558
request_named bytes id c (zero, head, body, parts, opens, most, (x, is, (a, b, ab, number, call))) =
    let same : c ≡ x.1 = (let e = is in cc) in
    let four : length a ≡ 4 = number.0 in
    rw same (omega (arith, header_long head _ opens, four, call_named b x.1 call, ap length parts, length-append head body, ap length ab, length-append a b, most))
request_named bytes id c (suc zero, head, body, parts, opens, most, spelled) = absurd (let e = spelled.1 in cc)
request_named bytes id c (suc (suc zero), head, body, parts, opens, most, spelled) = absurd (let e = spelled.1 in cc)
request_named bytes id c (suc (suc (suc zero)), head, body, parts, opens, most, spelled) = absurd (let e = spelled.1 in cc)
request_named bytes id c (suc (suc (suc (suc n))), head, body, parts, opens, most, spelled) = absurd (let e = spelled.1 in cc)

-- ---- what is not there

missed_put : (status : ℕ) (c : Call) → 2 ≤ status → status ≤ 4 → length (form.answer.put (missed status c)) ≡ suc (named c)
missed_put zero c low high = absurd (omega (arith, low))
missed_put (suc zero) c low high = absurd (omega (arith, low))
missed_put (suc (suc zero)) c low high = omega (arith, length-append (names.identity.put c.identity) (names.facet.put c.facet ++ text.put c.operation), length-append (names.facet.put c.facet) (text.put c.operation))
missed_put (suc (suc (suc zero))) c low high = omega (arith, length-append (names.identity.put c.identity) (names.facet.put c.facet ++ text.put c.operation), length-append (names.facet.put c.facet) (text.put c.operation))
missed_put (suc (suc (suc (suc zero)))) c low high = omega (arith, length-append (names.identity.put c.identity) (names.facet.put c.facet ++ text.put c.operation), length-append (names.facet.put c.facet) (text.put c.operation))
missed_put (suc (suc (suc (suc (suc n))))) c low high = absurd (omega (arith, high))

pub missed_replies : (status : ℕ) (c : Call) → 2 ≤ status → status ≤ 4 → CanReply c (missed status c)
missed_replies status c low high = ((low, high), λ bytes asked replied spelled. short_reply replied (missed status c) (suc (named c)) (missed_put status c low high) (request_named bytes asked c spelled))

-- ---- whichever

pub replies : (c : Call) (a : Answer) → IsReply a → CanReply c a
replies c a is = (is.0, λ bytes asked replied spelled. is.1 replied)

pub each_is : {A E : Type 0} (r : Result A E) (x : A) (P : A → Type 0) → P x → IfOk r (λ y. y ≡ x) → IfOk r P
each_is (Ok y) x P p is = subst P (sym is) p
each_is (Err e) x P p is = is

pub missed_2 : {E : Type 0} (c : Call) (r : Result Answer E) → IfOk r (λ a. a ≡ missed 2 c) → IfOk r (CanReply c)
missed_2 c r is = each_is r (missed 2 c) (CanReply c) (missed_replies 2 c (omega arith) (omega arith)) is

pub missed_3 : {E : Type 0} (c : Call) (r : Result Answer E) → IfOk r (λ a. a ≡ missed 3 c) → IfOk r (CanReply c)
missed_3 c r is = each_is r (missed 3 c) (CanReply c) (missed_replies 3 c (omega arith) (omega arith)) is

pub missed_4 : {E : Type 0} (c : Call) (r : Result Answer E) → IfOk r (λ a. a ≡ missed 4 c) → IfOk r (CanReply c)
missed_4 c r is = each_is r (missed 4 c) (CanReply c) (missed_replies 4 c (omega arith) (omega arith)) is

pub fault_reply : {E : Type 0} (c : Call) (f : Fault) (r : Result Answer E) → length (fault_text f) ≤ 1000 → IfOk r (λ a. a ≡ failed (fault_text f)) → IfOk r (CanReply c)
fault_reply c f r few is = each_is r (failed (fault_text f)) (CanReply c) (replies c (failed (fault_text f)) (text_replies (fault_text f) few)) is
