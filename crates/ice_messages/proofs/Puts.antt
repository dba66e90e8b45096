-- What is put of parts, one after the other, each of which there is.
use Rattle.std.proofs.Common.{◌≡◌, ℕ, ℤ, pos, ◌+◌, ◌≤◌, ◌<◌, get_or, List, ◌∷◌, ◌++◌, length, drop, Result, Ok, Err, refl, sym, ap, subst, ◌∙◌, append_assoc, arith}
use Rattle.std.specs.Prelude.{FitsSigned}
use Rattle.std.specs.Int.{w32}
use Rattle.std.specs.List.{flat_map}
use Rattle.std.specs.Result.{OnOk}
use Rattle.std.proofs.lemmas.Bool.{le-leb}
use Rattle.std.proofs.lemmas.List.{drop_more, length-append}
use Rattle.std.proofs.Math.ListN.{drop_of_length-le}
use Rattle.ice_prims.specs.Bytes.{byte_bytes, signed_bytes, size_bytes}
use Rattle.ice_encoding.specs.declared.limits.TheConstants.{LARGEST}
use Rattle.ice_encoding.specs.Parts.{Part, Each, int, both, text, times}
use Rattle.ice_encoding.specs.Identity.{identity, facet}
use Rattle.ice_messages.specs.declared.message.Call.{Call}
use Rattle.ice_messages.specs.declared.message.Answer.{Answer}
use Rattle.ice_messages.specs.declared.message.Message.{Message}
use Rattle.ice_messages.specs.declared.message.Message.TheVariants.{Request, Batch, Reply}
use Rattle.ice_messages.specs.declared.message.TheConstants.{HEADER_BYTES}
use Rattle.ice_messages.specs.declared.fault.WriteFault.{WriteFault}
use Rattle.ice_messages.specs.declared.fault.WriteFault.TheVariants.{TooLong, Memory}
use Rattle.ice_messages.specs.Context.{Entry, AreRising, context}
use Rattle.ice_messages.specs.Calls.{mode, encapsulation, call, answer}
use Rattle.ice_messages.specs.Messages.{header, body_by, type_of, calls, message_bytes, SpellsMessage}
use Rattle.ice_messages.specs.Written.{told, Puts, PutsHeader, Writes}
use Rattle.ice_messages.proofs.Whole.{header_put_long, message_put}

pub on_ok : {X E P Q : Type 0} (r : Result X E) → OnOk r P → (P → Q) → OnOk r Q
on_ok (Ok x) p f = f p
on_ok (Err e) p f = tt

module _ {A B : Type 0} (first : Part A) (second : Part B) (x : A) (y : B) (old mid new : List ℕ) where
  pub puts_both : Puts first x old mid → Puts second y mid new → Puts (both first second) (x, y) old new
  puts_both one two = (two.0 ∙ ap (λ (z : List ℕ). z ++ second.put y) one.0 ∙ append_assoc old (first.put x) (second.put y), (one.1, two.1))

  pub then_puts : {X E : Type 0} (r : Result X E) → Puts first x old mid → OnOk r (Puts second y mid new) → OnOk r (Puts (both first second) (x, y) old new)
  then_puts r one two = on_ok r two (puts_both one)

-- ---- what holds of each

module _ {A : Type 0} (Is : A → Type 0) (xs : List A) (i : ℕ) (x : A) (lt : i < length xs) (at : x ≡ get_or xs i x) where
  is_next : drop i xs ≡ x ∷ drop (i + 1) xs
  is_next = drop_more xs i x lt ∙ ap (λ (y : A). y ∷ drop (i + 1) xs) (sym at)

  pub this_one : Each Is (drop i xs) → Is x × Each Is (drop (i + 1) xs)
  this_one each = subst (Each Is) is_next each

  pub one_more : Is x → (Each Is (drop i xs) → Each Is xs) → Each Is (drop (i + 1) xs) → Each Is xs
  one_more is all others = all (subst (Each Is) (sym is_next) (is, others))

pub none_more : {A : Type 0} (Is : A → Type 0) (xs : List A) (i : ℕ) → length xs ≤ i → (Each Is (drop i xs) → Each Is xs) → Each Is xs
none_more {A} Is xs i le all = all (subst (Each Is) (sym (drop_of_length-le xs le)) tt)

-- ---- a context, a call

pub context_puts : {X E : Type 0} (r : Result X E) (es : List Entry) (old mid new : List ℕ) → length es < 2147483648 → AreRising es → mid ≡ old ++ size_bytes (length es)
    → OnOk r (Puts (times (both text text) (length es)) es mid new) → OnOk r (Puts context es old new)
context_puts r es old mid new small rising one two =
    on_ok r two (λ p. (p.0 ∙ ap (λ (z : List ℕ). z ++ flat_map (both text text).put es) one ∙ append_assoc old (size_bytes (length es)) (flat_map (both text text).put es), (small, (refl, rising, p.1.1))))

pub mode_puts : (m : ℕ) (old new : List ℕ) → m ≤ 2 → new ≡ old ++ byte_bytes m → Puts mode m old new
mode_puts m old new few grown = (grown, ((omega (arith, few), le-leb m 2 few)))

pub call_puts : {X E : Type 0} (r : Result X E) (c : Call) (old a b d e f new : List ℕ)
    → Puts identity c.identity old a → Puts facet c.facet a b → Puts text c.operation b d → Puts mode c.mode d e → Puts context c.context e f
    → OnOk r (Puts encapsulation c.body f new) → OnOk r (Puts call c old new)
call_puts r c old a b d e f new one two three four five six = on_ok r six (λ p.
    let q5 = puts_both context encapsulation c.context c.body e f new five p in
    let q4 = puts_both mode (both context encapsulation) c.mode (c.context, c.body) d e new four q5 in
    let q3 = puts_both text (both mode (both context encapsulation)) c.operation (c.mode, (c.context, c.body)) b d new three q4 in
    let q2 = puts_both facet (both text (both mode (both context encapsulation))) c.facet (c.operation, (c.mode, (c.context, c.body))) a b new two q3 in
    let q1 = puts_both identity (both facet (both text (both mode (both context encapsulation)))) c.identity (c.facet, (c.operation, (c.mode, (c.context, c.body)))) old a new one q2 in
    (q1.0, (q1.1, refl)))

-- ---- a count and calls

pub batch_puts : {X E : Type 0} (r : Result X E) (cs : List Call) (old mid new : List ℕ) → length cs < 2147483648 → mid ≡ old ++ signed_bytes w32 (pos (length cs))
    → OnOk r (Puts (times call (length cs)) cs mid new) → OnOk r (Puts calls cs old new)
batch_puts r cs old mid new few one two =
    on_ok r two (λ p. (p.0 ∙ ap (λ (z : List ℕ). z ++ flat_map call.put cs) one ∙ append_assoc old (signed_bytes w32 (pos (length cs))) (flat_map call.put cs), ((fits, refl), p.1)))
  where
    fits : FitsSigned w32 (pos (length cs))
    fits = omega (arith, few)

-- ---- a message

module _ (m : Message) (n : ℕ) (is : n ≡ told (length (message_bytes m))) where
  pub header_refused : (type : ℕ) (e : WriteFault) → PutsHeader type n (Err e) → Writes (Err e) m
  header_refused type (TooLong k) h = (omega (arith, h.0, is), h.1 ∙ is)
  header_refused type Memory h = omega (arith, h, is)

  abbrev body : List ℕ
  body = (body_by (type_of m)).put m

  pub whole_fits : n ≤ LARGEST → length (message_bytes m) ≤ LARGEST
  whole_fits most = omega (arith, most, is)

  pub counted : n ≤ LARGEST → n ≡ HEADER_BYTES + length body
  counted most = omega (arith, most, is, length-append (header.put (type_of m, pos (HEADER_BYTES + length body))) body, header_put_long (type_of m) (pos (HEADER_BYTES + length body)))

  pub wrote : n ≤ LARGEST → (head new : List ℕ) → head ≡ header.put (type_of m, pos n) → Puts (body_by (type_of m)) m head new → Writes (Ok new) m
  wrote most head new begun p =
      let same : new ≡ message_bytes m = p.0 ∙ ap (λ (z : List ℕ). z ++ body) (begun ∙ ap (λ (k : ℕ). header.put (type_of m, pos k)) (counted most)) in
      let all = whole_fits most in
      (same, subst (λ (z : List ℕ). length z ≤ LARGEST) (sym same) all, subst (λ (z : List ℕ). SpellsMessage z m) (sym same) (message_put m p.1 all))

pub request_puts : (id : ℤ) (c : Call) (old new : List ℕ) → Puts (both int call) (id, c) old new → Puts (body_by 0) (Request id c) old new
request_puts id c old new p = (p.0, (p.1, refl))

pub batch_message_puts : (cs : List Call) (old new : List ℕ) → Puts calls cs old new → Puts (body_by 1) (Batch cs) old new
batch_message_puts cs old new p = (p.0, (p.1, refl))

pub reply_puts : (id : ℤ) (a : Answer) (old new : List ℕ) → Puts (both int answer) (id, a) old new → Puts (body_by 2) (Reply id a) old new
reply_puts id a old new p = (p.0, (p.1, refl))
