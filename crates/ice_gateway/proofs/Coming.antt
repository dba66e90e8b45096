-- What a message that is spelled says of its calls.
use Rattle.std.proofs.Common.{◌≡◌, ℕ, ℤ, zero, suc, ◌<◌, ◌^◌, List, [], length, sym, subst, arith, inl, inr}
use Rattle.std.proofs.lemmas.Bool.{leb-true}
use Rattle.std.specs.List.Sorted.{IsStrictlySortedBy}
use Rattle.ice_prims.specs.Number.{SpellsSize, SpellsText}
use Rattle.ice_prims.specs.Laws.{IsTextSize}
use Rattle.ice_encoding.specs.Parts.{Each, SpellsTimes, both, text}
use Rattle.ice_messages.specs.declared.message.Call.{Call}
use Rattle.ice_messages.specs.declared.message.Message.TheVariants.{Request, Batch}
use Rattle.ice_messages.specs.Context.{Entry, AreRising, SpellsEntries, with_entry}
use Rattle.ice_messages.specs.Calls as form
use Rattle.ice_messages.specs.Messages.{SpellsMessage, count_of}
use Rattle.ice_gateway.specs.Laws.{Comes}
use Rattle.ice_gateway.proofs.Rising.{rising_more}

size_small : (bytes : List ℕ) (n : ℕ) → SpellsSize bytes n → n < 2 ^ 31
size_small bytes n (inl h) = omega (arith, h.0)
size_small bytes n (inr h) = h.1

text_is : (bytes s : List ℕ) → SpellsText bytes s → IsTextSize s
text_is bytes s h = (h.2, size_small h.0 (length s) h.1)

none_rise : AreRising []
unfolding IsStrictlySortedBy
none_rise = tt

entries_rise : (n : ℕ) (before : List Entry) (bytes : List ℕ) (es : List Entry) → SpellsEntries n before bytes es → AreRising before → Each (both text text).Is before → AreRising es
entries_rise zero before bytes es h rising are = subst AreRising (sym h.1) rising
entries_rise (suc n) before bytes es h rising are =
    let more = rising_more before h.0 h.1 h.7 rising are (text_is h.2 h.0 h.6, text_is h.3 h.1 h.8) in
    entries_rise n (with_entry before (h.0, h.1)) h.4 es h.9 more.0 more.1

call_comes : (bytes : List ℕ) (c : Call) → form.call.Spells bytes c → Comes c
call_comes bytes c (x, is, (a, b, ab, identity, (d, e, de, facet, (f, g, fg, operation, (m, rest, mr, mode, (k, l, kl, (n, u, v, uv, size, entries), body)))))) =
    subst Comes (sym is) (record { mode = leb-true x.1.1.1.0 2 mode.1; context = entries_rise n [] v x.1.1.1.1.0 entries none_rise tt; body = tt })

pub request_comes : (bytes : List ℕ) (id : ℤ) (c : Call) → SpellsMessage bytes (Request id c) → Comes c
request_comes bytes id c (zero, head, body, parts, opens, most, (x, is, (a, b, ab, number, call))) =
    let same : c ≡ x.1 = (let e = is in cc) in
    subst Comes (sym same) (call_comes b x.1 call)
request_comes bytes id c (suc zero, head, body, parts, opens, most, spelled) = absurd (let e = spelled.1 in cc)
request_comes bytes id c (suc (suc zero), head, body, parts, opens, most, spelled) = absurd (let e = spelled.1 in cc)
request_comes bytes id c (suc (suc (suc zero)), head, body, parts, opens, most, spelled) = absurd (let e = spelled.1 in cc)
request_comes bytes id c (suc (suc (suc (suc n))), head, body, parts, opens, most, spelled) = absurd (let e = spelled.1 in cc)

times_come : (n : ℕ) (bytes : List ℕ) (items : List Call) → SpellsTimes form.call.Spells n bytes items → Each Comes items
times_come zero bytes items h = subst (Each Comes) (sym h.1) tt
times_come (suc n) bytes items h = subst (Each Comes) (sym h.4) (call_comes h.2 h.0 h.6, times_come n h.3 h.1 h.7)

pub batch_comes : (bytes : List ℕ) (calls : List Call) → SpellsMessage bytes (Batch calls) → Each Comes calls
batch_comes bytes calls (zero, head, body, parts, opens, most, spelled) = absurd (let e = spelled.1 in cc)
batch_comes bytes calls (suc zero, head, body, parts, opens, most, (x, is, s)) =
    let same : calls ≡ x = (let e = is in cc) in
    subst (Each Comes) (sym same) (times_come (count_of s.0) s.2 x s.5)
batch_comes bytes calls (suc (suc zero), head, body, parts, opens, most, spelled) = absurd (let e = spelled.1 in cc)
batch_comes bytes calls (suc (suc (suc zero)), head, body, parts, opens, most, spelled) = absurd (let e = spelled.1 in cc)
batch_comes bytes calls (suc (suc (suc (suc n))), head, body, parts, opens, most, spelled) = absurd (let e = spelled.1 in cc)
