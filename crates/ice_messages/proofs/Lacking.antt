-- Reading answers a fault exactly where a part of a message has the defect.
use Rattle.std.proofs.Common.{◌≡◌, ℕ, zero, suc, ◌+◌, ◌<◌, ◌^◌, ◌⊎◌, Bool, true, false, ◌||◌, cond, ltb, leb, List, [], ◌∷◌, ◌++◌, length, drop, Option, None, Some, Result, Ok, Err, refl, sym, ap, subst, ◌∙◌, inl, inr, arith}
use Rattle.std.specs.Prelude.{slice_index, IsSome}
use Rattle.std.specs.Str.{is_utf8}
use Rattle.std.specs.Int.{w32, from_le_bytes, cast_signed}
use Rattle.std.proofs.lemmas.Bool.{ltb-true, ltb-false, le-ltb, lt-ltb, leb-true, leb-false, le-leb, lt-leb}
use Rattle.std.proofs.lemmas.Str.{IsUtf8-from_is_utf8, is_utf8-from_IsUtf8}
use Rattle.ice_prims.specs.declared.fault.Fault.{Fault}
use Rattle.ice_prims.specs.declared.fault.Kind.TheVariants.{BadSize, BadText, EqualKey}
use Rattle.ice_prims.specs.Rest.{Rest, fault, ◌>>=◌, IsBytes, bytes_at}
use Rattle.ice_prims.specs.Number.{byte_at, signed_at, size_at, text_at, checked_size, long_form_at}
use Rattle.ice_prims.proofs.Parts.{chosen as choice, Took-fits, bytes_found, bytes_only}
use Rattle.ice_encoding.specs.declared.limits.TheConstants.{SMALLEST}
use Rattle.ice_encoding.specs.Parts.{byte, int, size, text, both, times}
use Rattle.ice_encoding.specs.Bounds.{claimed}
use Rattle.ice_encoding.specs.Identity.{identity, facet}
use Rattle.ice_encoding.proofs.Bounded.{claimed_ok}
use Rattle.ice_encoding.proofs.Joined.{byte_lawful, int_lawful, size_lawful, text_lawful, tested_lawful}
use Rattle.ice_encoding.proofs.Named.{identity_lawful, facet_lawful}
use Rattle.ice_messages.specs.Context.{Entry, context, entries_at, value_of, with_entry, new_name}
use Rattle.ice_messages.specs.Calls.{mode, encapsulation, encapsulation_at, call, missed, answer_by, answer}
use Rattle.ice_messages.specs.declared.message.Answer.TheVariants.{Done, Raised}
use Rattle.ice_messages.specs.declared.message.Message.TheVariants.{Batch, Validate, Close}
use Rattle.ice_messages.specs.Messages.{is_count, count_of, calls, body_by}
use Rattle.ice_messages.specs.Defects.{Defect, At, Never, Lacks, Then, Times, IsOffSize, LongBreaks, SizeBreaks, LettersBreak, TextBreaks}
use Rattle.ice_messages.specs.Breaks.{IdentityBreaks, facet_count, FacetBreaks, ModeBreaks, EntriesBreak, ContextBreaks, EncapsulationBreaks, CallBreaks, status, MissedBreaks, AnswerByBreaks, AnswerBreaks, count, BodyBreaks}
use Rattle.ice_messages.proofs.Called.{mode_lawful, context_lawful, call_lawful}
use Rattle.ice_messages.proofs.Breaking.{failed, same_err, no_err, then_err, Agrees, then_agrees, made_agrees, both_agrees, tested_agrees, times_agrees, bytes_lack, lack_bytes, lacks_agrees, claim_broken, claim_breaks}

pub byte_agrees : Agrees byte.read (Lacks 1)
byte_agrees = lacks_agrees 1 (λ b. slice_index b 0)

pub int_agrees : Agrees int.read (Lacks 4)
int_agrees = lacks_agrees 4 (λ b. cast_signed w32 (from_le_bytes w32 b))

-- ---- sizes

off_size : (n : ℕ) → (ltb n 255 || leb (2 ^ 31) n) ≡ true → IsOffSize n
off_size n e = either (ltb n 255) (leb (2 ^ 31) n) refl refl e
  where
    either : (a b : Bool) → ltb n 255 ≡ a → leb (2 ^ 31) n ≡ b → (a || b) ≡ true → IsOffSize n
    either true b p q e = inl (ltb-true _ _ p)
    either false true p q e = inr (leb-true _ _ q)
    either false false p q e = absurd cc

size_off : (n : ℕ) → IsOffSize n → (ltb n 255 || leb (2 ^ 31) n) ≡ true
size_off n (inl small) = let a : ltb n 255 ≡ true = lt-ltb _ _ small in rw a refl
size_off n (inr large) = let a : ltb n 255 ≡ false = le-ltb _ _ (omega (arith, large)) in let b : leb (2 ^ 31) n ≡ true = le-leb _ _ large in rw (a, b) refl

checked_broken : (place n : ℕ) (r : Rest) (e : Fault) → checked_size place n r ≡ failed e → IsOffSize n × At place BadSize e
checked_broken place n r e h = elim (choice (ltb n 255 || leb (2 ^ 31) n) (fault place BadSize) (Ok (n, r)) (Err e) h) [
  | inl bad ↦ (off_size n bad.0, sym (same_err (record { place = place; kind = BadSize }) e bad.1))
  | inr good ↦ no_err (n, r) e good.1
]

checked_breaks : (place n : ℕ) (r : Rest) (e : Fault) → IsOffSize n → At place BadSize e → checked_size place n r ≡ failed e
checked_breaks place n r e off at = let bad : (ltb n 255 || leb (2 ^ 31) n) ≡ true = size_off n off in rw (bad, at) refl

-- what stands behind a byte
behind_byte : {C : Type 0} (bytes five others more : List ℕ) (b : ℕ) → bytes ≡ b ∷ more → bytes ≡ five ++ others → length five ≡ 5 → ((four : List ℕ) → drop 1 five ≡ four → more ≡ four ++ others → length four ≡ 4 → C) → C
behind_byte bytes [] others more b one two long go = absurd (omega (arith, long))
behind_byte bytes (c ∷ four) others more b one two long go =
    let same : more ≡ four ++ others = ap (drop 1) (sym one ∙ two) in
    go four refl same (omega (arith, long))

long_broken : (r : Rest) (more : List ℕ) (b : ℕ) (e : Fault) → r.bytes ≡ b ∷ more → long_form_at r ≡ failed e → LongBreaks r.place more e
long_broken r more b e parts h = then_err (bytes_at 5 r) (λ five. checked_size r.place (from_le_bytes w32 (drop 1 five.0)) five.1) e h
    (λ bad. let k = bytes_lack 5 r e bad in inl (omega (arith, k.0, ap length parts), k.1))
    (λ five five_is later.
    let g = bytes_found 5 r five five_is in
    let c = checked_broken r.place (from_le_bytes w32 (drop 1 five.0)) five.1 e later in
    behind_byte r.bytes five.0 five.1.bytes more b parts g.0.parts g.1 λ four is same long.
    inr (four, five.1.bytes, same, long, subst (λ (z : List ℕ). IsOffSize (from_le_bytes w32 z)) is c.0, c.1))

long_breaks : (r : Rest) (more : List ℕ) (e : Fault) → r.bytes ≡ 255 ∷ more → LongBreaks r.place more e → long_form_at r ≡ failed e
long_breaks r more e parts (inl (few, at)) =
    let short : bytes_at 5 r ≡ failed e = lack_bytes 5 r e (omega (arith, few, ap length parts), at) in rw short refl
long_breaks r more e parts (inr (four, rest, same, long, off, at)) =
    let five : List ℕ = 255 ∷ four in
    let s : Rest = record { place = r.place + length five; bytes = rest } in
    let stands : bytes_at 5 r ≡ Ok (five, s) = bytes_only 5 r s five (omega (arith, long)) (record { parts = parts ∙ ap (λ (z : List ℕ). 255 ∷ z) same; moved = refl }) in
    rw stands (checked_breaks r.place (from_le_bytes w32 four) s e off at)

size_broken : (r : Rest) (e : Fault) → IsBytes r.bytes → size_at r ≡ failed e → SizeBreaks r.place r.bytes e
size_broken r e fits h = then_err (byte_at r) (λ first. cond (ltb first.0 255) (Ok first) (long_form_at r)) e h
    (λ bad. inl (byte_agrees.broken r e fits bad))
    (λ first first_is later. elim (choice (ltb first.0 255) (Ok first) (long_form_at r) (Err e) later) [
      | inl small ↦ no_err first e small.1
      | inr large ↦
          let k = byte_lawful.found r first fits first_is in
          let parts : r.bytes ≡ first.0 ∷ first.1.bytes = k.1.parts ∙ ap (λ (z : List ℕ). z ++ first.1.bytes) k.2.1 in
          let top : first.0 ≡ 255 = omega (arith, ltb-false _ _ large.0, k.2.0) in
          inr (first.1.bytes, parts ∙ ap (λ (b : ℕ). b ∷ first.1.bytes) top, long_broken r first.1.bytes first.0 e parts large.1)
    ])

size_breaks : (r : Rest) (e : Fault) → SizeBreaks r.place r.bytes e → size_at r ≡ failed e
size_breaks r e (inl h) = rw (byte_agrees.breaks r e h) refl
size_breaks r e (inr (more, parts, h)) =
    let s : Rest = record { place = r.place + 1; bytes = more } in
    let stands : byte_at r ≡ Ok (255, s) = byte_lawful.only r s (255 ∷ []) 255 (record { parts = parts; moved = refl }) (omega arith, refl) in
    rw stands (long_breaks r more e parts h)

pub size_agrees : Agrees size.read SizeBreaks
size_agrees = record { broken = size_broken; breaks = size_breaks }

-- ---- texts

abbrev letters_at : ℕ → Rest → Result (List ℕ × Rest) Fault
letters_at n r = bytes_at n r >>= λ s. cond (is_utf8 s.0) (Ok s) (fault r.place BadText)

letters_broken : (n : ℕ) (r : Rest) (e : Fault) → letters_at n r ≡ failed e → LettersBreak n r.place r.bytes e
letters_broken n r e h = then_err (bytes_at n r) (λ s. cond (is_utf8 s.0) (Ok s) (fault r.place BadText)) e h
    (λ bad. inl (bytes_lack n r e bad))
    (λ s s_is later. elim (choice (is_utf8 s.0) (Ok s) (fault r.place BadText) (Err e) later) [
      | inl good ↦ no_err s e good.1
      | inr bad ↦
          let g = bytes_found n r s s_is in
          inr (s.0, s.1.bytes, g.0.parts, g.1, (λ is. let t : is_utf8 s.0 ≡ true = is_utf8-from_IsUtf8 s.0 is in absurd (no_both (is_utf8 s.0) t bad.0)), sym (same_err (record { place = r.place; kind = BadText }) e bad.1))
    ])
  where
    no_both : (b : Bool) → b ≡ true → b ≡ false → ⊥
    no_both true p q = cc
    no_both false p q = cc

letters_breaks : (n : ℕ) (r : Rest) (e : Fault) → LettersBreak n r.place r.bytes e → letters_at n r ≡ failed e
letters_breaks n r e (inl h) = rw (lack_bytes n r e h) refl
letters_breaks n r e (inr (s, rest, parts, long, off, at)) =
    let t : Rest = record { place = r.place + length s; bytes = rest } in
    let stands : bytes_at n r ≡ Ok (s, t) = bytes_only n r t s long (record { parts = parts; moved = refl }) in
    let fails : is_utf8 s ≡ false = refused (is_utf8 s) refl in
    rw (stands, fails, at) refl
  where
    refused : (b : Bool) → is_utf8 s ≡ b → is_utf8 s ≡ false
    refused true p = absurd (off (IsUtf8-from_is_utf8 s p))
    refused false p = p

pub text_agrees : Agrees text.read TextBreaks
text_agrees = then_agrees size size_lawful SizeBreaks size_agrees letters_at LettersBreak (λ n. record { broken = λ r e fits h. letters_broken n r e h; breaks = letters_breaks n })

-- ---- a call

pub identity_agrees : Agrees identity.read IdentityBreaks
identity_agrees = made_agrees _ _ (both_agrees text text_lawful TextBreaks text_agrees text TextBreaks text_agrees) _

pub facet_agrees : Agrees facet.read FacetBreaks
facet_agrees = made_agrees _ _ (then_agrees facet_count (tested_lawful _ _ _ size_lawful) _
    (tested_agrees _ _ size size_lawful SizeBreaks size_agrees (λ n. 1 < n) (λ n h. leb-false _ _ h) (λ n h. lt-leb _ _ h))
    (λ n. (times text n).read) (Times text TextBreaks) (times_agrees text text_lawful TextBreaks text_agrees)) _

pub mode_agrees : Agrees mode.read ModeBreaks
mode_agrees = tested_agrees _ _ byte byte_lawful (Lacks 1) byte_agrees (λ m. 2 < m) (λ m h. leb-false _ _ h) (λ m h. lt-leb _ _ h)

abbrev entries_on : ℕ → List Entry → List ℕ → Rest → Result (List Entry × Rest) Fault
entries_on n before name r = text_at r >>= λ value. entries_at n (with_entry before (name, value.0)) value.1

abbrev NameBreaks : ℕ → List Entry → List ℕ → ℕ → Defect
NameBreaks n before name start = λ place rest e. (IsSome (value_of before name) × At start EqualKey e)
    ⊎ ((value_of before name ≡ None) × Then text TextBreaks (λ value. EntriesBreak n (with_entry before (name, value))) place rest e)

no_some : (o : Option (List ℕ)) → o ≡ None → IsSome o → ⊥
no_some None p h = cc
no_some (Some v) p h = cc

no_none : (v : List ℕ) (o : Option (List ℕ)) → o ≡ Some v → o ≡ None → ⊥
no_none v None p q = cc
no_none v (Some w) p q = cc

module _ (n : ℕ) (before : List Entry) (name : List ℕ) (start : ℕ) (go_on : Agrees (entries_on n before name) (Then text TextBreaks (λ value. EntriesBreak n (with_entry before (name, value))))) where
  name_broken : (found : Option (List ℕ)) → value_of before name ≡ found → (r : Rest) (e : Fault) → IsBytes r.bytes
      → (new_name found start (text_at r) >>= λ value. entries_at n (with_entry before (name, value.0)) value.1) ≡ failed e → NameBreaks n before name start r.place r.bytes e
  name_broken None is r e fits h = inr (is, go_on.broken r e fits h)
  name_broken (Some v) is r e fits h = inl (subst (λ (o : Option (List ℕ)). IsSome o) (sym is) refl, sym (same_err (record { place = start; kind = EqualKey }) e h))

  name_breaks : (found : Option (List ℕ)) → value_of before name ≡ found → (r : Rest) (e : Fault) → NameBreaks n before name start r.place r.bytes e
      → (new_name found start (text_at r) >>= λ value. entries_at n (with_entry before (name, value.0)) value.1) ≡ failed e
  name_breaks None is r e (inl h) = absurd (no_some (value_of before name) is h.0)
  name_breaks None is r e (inr h) = go_on.breaks r e h.1
  name_breaks (Some v) is r e (inl h) = rw h.1 refl
  name_breaks (Some v) is r e (inr h) = absurd (no_none v (value_of before name) is h.0)

module _ (n : ℕ) (before : List Entry) (agree : (more : List Entry) → Agrees (entries_at n more) (EntriesBreak n more)) where
  go_on : (name : List ℕ) → Agrees (entries_on n before name) (Then text TextBreaks (λ value. EntriesBreak n (with_entry before (name, value))))
  go_on name = then_agrees text text_lawful TextBreaks text_agrees (λ value. entries_at n (with_entry before (name, value))) (λ value. EntriesBreak n (with_entry before (name, value))) (λ value. agree (with_entry before (name, value)))

  entries_broken : (r : Rest) (e : Fault) → IsBytes r.bytes → entries_at (suc n) before r ≡ failed e → EntriesBreak (suc n) before r.place r.bytes e
  entries_broken r e fits h = then_err (text_at r) (λ name. new_name (value_of before name.0) r.place (text_at name.1) >>= λ value. entries_at n (with_entry before (name.0, value.0)) value.1) e h
      (λ bad. inl (text_agrees.broken r e fits bad))
      (λ name name_is later.
      let f = text_lawful.found r name fits name_is in
      let left = (Took-fits r name.1 f.0 fits f.1).1 in
      let k : NameBreaks n before name.0 r.place name.1.place name.1.bytes e = name_broken n before name.0 r.place (go_on name.0) (value_of before name.0) refl name.1 e left later in
      inr (name.0, f.0, name.1.bytes, f.1.parts, f.2, subst (λ (p : ℕ). NameBreaks n before name.0 r.place p name.1.bytes e) f.1.moved k))

  entries_break : (r : Rest) (e : Fault) → EntriesBreak (suc n) before r.place r.bytes e → entries_at (suc n) before r ≡ failed e
  entries_break r e (inl h) = rw (text_agrees.breaks r e h) refl
  entries_break r e (inr (name, a, rest, parts, spells, h)) =
      let s : Rest = record { place = r.place + length a; bytes = rest } in
      let stands : text_at r ≡ Ok (name, s) = text_lawful.only r s a name (record { parts = parts; moved = refl }) spells in
      rw stands (name_breaks n before name r.place (go_on name) (value_of before name) refl s e h)

entries_agree : (n : ℕ) (before : List Entry) → Agrees (entries_at n before) (EntriesBreak n before)
entries_agree zero before = record { broken = λ r e fits h. no_err (before, r) e h; breaks = λ r e h. absurd h }
entries_agree (suc n) before = record { broken = entries_broken n before (entries_agree n); breaks = entries_break n before (entries_agree n) }

context_agrees : Agrees context.read ContextBreaks
context_agrees = then_agrees size size_lawful SizeBreaks size_agrees (λ n. entries_at n []) (λ n. EntriesBreak n []) (λ n. entries_agree n [])

-- ---- an encapsulation

encapsulation_broken : (r : Rest) (e : Fault) → IsBytes r.bytes → encapsulation_at r ≡ failed e → EncapsulationBreaks r.place r.bytes e
encapsulation_broken r e fits h = then_err (signed_at w32 r) (λ claim. claimed r.place (length r.bytes) SMALLEST claim.0 >>= λ n. bytes_at n r) e h
    (λ bad. inl (int_agrees.broken r e fits bad))
    (λ claim claim_is later.
    let f = int_lawful.found r claim fits claim_is in
    then_err (claimed r.place (length r.bytes) SMALLEST claim.0) (λ n. bytes_at n r) e later
    (λ bad. inr (claim.0, f.0, claim.1.bytes, f.1.parts, f.2, claim_broken r.place (length r.bytes) SMALLEST claim.0 e bad))
    (λ n n_is last. claimed_ok r.place (length r.bytes) SMALLEST claim.0 n n_is λ same large there small.
    let k = bytes_lack n r e last in absurd (omega (arith, k.0, there))))

encapsulation_breaks : (r : Rest) (e : Fault) → EncapsulationBreaks r.place r.bytes e → encapsulation_at r ≡ failed e
encapsulation_breaks r e (inl h) = rw (int_agrees.breaks r e h) refl
encapsulation_breaks r e (inr (z, claim, rest, parts, spells, h)) =
    let s : Rest = record { place = r.place + length claim; bytes = rest } in
    let stands : signed_at w32 r ≡ Ok (z, s) = int_lawful.only r s claim z (record { parts = parts; moved = refl }) spells in
    let fails : claimed r.place (length r.bytes) SMALLEST z ≡ failed e = claim_breaks r.place (length r.bytes) SMALLEST z e h in
    rw (stands, fails) refl

encapsulation_agrees : Agrees encapsulation.read EncapsulationBreaks
encapsulation_agrees = record { broken = encapsulation_broken; breaks = encapsulation_breaks }

pub call_agrees : Agrees call.read CallBreaks
call_agrees = made_agrees _ _ (both_agrees identity identity_lawful IdentityBreaks identity_agrees (both facet (both text (both mode (both context encapsulation)))) _
    (both_agrees facet facet_lawful FacetBreaks facet_agrees (both text (both mode (both context encapsulation))) _
    (both_agrees text text_lawful TextBreaks text_agrees (both mode (both context encapsulation)) _
    (both_agrees mode mode_lawful ModeBreaks mode_agrees (both context encapsulation) _
    (both_agrees context context_lawful ContextBreaks context_agrees encapsulation EncapsulationBreaks encapsulation_agrees))))) _

-- ---- an answer

missed_agrees : Agrees missed.read MissedBreaks
missed_agrees = both_agrees identity identity_lawful IdentityBreaks identity_agrees (both facet text) _ (both_agrees facet facet_lawful FacetBreaks facet_agrees text TextBreaks text_agrees)

answered_agree : (s : ℕ) → Agrees (answer_by s).read (AnswerByBreaks s)
answered_agree zero = made_agrees encapsulation_at EncapsulationBreaks encapsulation_agrees Done
answered_agree (suc zero) = made_agrees encapsulation_at EncapsulationBreaks encapsulation_agrees Raised
answered_agree (suc (suc zero)) = made_agrees missed.read MissedBreaks missed_agrees _
answered_agree (suc (suc (suc zero))) = made_agrees missed.read MissedBreaks missed_agrees _
answered_agree (suc (suc (suc (suc zero)))) = made_agrees missed.read MissedBreaks missed_agrees _
answered_agree (suc (suc (suc (suc (suc n))))) = made_agrees text_at TextBreaks text_agrees _

answer_agrees : Agrees answer.read AnswerBreaks
answer_agrees = then_agrees status (tested_lawful _ _ _ byte_lawful) _
    (tested_agrees _ _ byte byte_lawful (Lacks 1) byte_agrees (λ s. 7 < s) (λ s h. leb-false _ _ h) (λ s h. lt-leb _ _ h))
    (λ s. (answer_by s).read) AnswerByBreaks answered_agree

-- ---- what follows the header

calls_agree : Agrees calls.read (BodyBreaks 1)
calls_agree = then_agrees count (tested_lawful _ _ _ int_lawful) _
    (tested_agrees _ _ int int_lawful (Lacks 4) int_agrees (λ z. is_count z ≡ false) (λ z h. h) (λ z h. h))
    (λ z. (times call (count_of z)).read) (λ z. Times call CallBreaks (count_of z)) (λ z. times_agrees call call_lawful CallBreaks call_agrees (count_of z))

never_agrees : {A : Type 0} (x : A) → Agrees (λ r. Ok (x, r)) Never
never_agrees x = record { broken = λ r e fits h. no_err (x, r) e h; breaks = λ r e h. absurd h }

pub body_agrees : (type : ℕ) → Agrees (body_by type).read (BodyBreaks type)
body_agrees zero = made_agrees _ _ (both_agrees int int_lawful (Lacks 4) int_agrees call CallBreaks call_agrees) _
body_agrees (suc zero) = made_agrees calls.read (BodyBreaks 1) calls_agree Batch
body_agrees (suc (suc zero)) = made_agrees _ _ (both_agrees int int_lawful (Lacks 4) int_agrees answer AnswerBreaks answer_agrees) _
body_agrees (suc (suc (suc zero))) = never_agrees Validate
body_agrees (suc (suc (suc (suc n)))) = never_agrees Close
