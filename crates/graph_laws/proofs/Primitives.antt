-- Reading answers a fault exactly where a byte, a number, a size or a text has the defect.
use Rattle.std.proofs.Common.{◌≡◌, ℕ, ◌+◌, ◌^◌, Bool, true, false, ◌||◌, cond, ltb, leb, List, [], ◌∷◌, ◌++◌, length, drop, Result, Ok, Err, refl, sym, ap, subst, ◌∙◌, inl, inr, arith}
use Rattle.std.specs.Prelude.{slice_index}
use Rattle.std.specs.Str.{is_utf8}
use Rattle.std.specs.Int.{w32, from_le_bytes, cast_signed}
use Rattle.std.proofs.lemmas.Bool.{ltb-true, ltb-false, le-ltb, lt-ltb, leb-true, le-leb}
use Rattle.std.proofs.lemmas.Str.{IsUtf8-from_is_utf8, is_utf8-from_IsUtf8}
use Rattle.ice_prims.specs.declared.fault.Fault.{Fault}
use Rattle.ice_prims.specs.declared.fault.Kind.TheVariants.{BadSize, BadText}
use Rattle.ice_prims.specs.Rest.{Rest, fault, ◌>>=◌, IsBytes, bytes_at}
use Rattle.ice_prims.specs.Number.{byte_at, size_at, checked_size, long_form_at}
use Rattle.ice_prims.proofs.Parts.{chosen as choice, bytes_found, bytes_only}
use Rattle.ice_encoding.specs.Parts.{byte, int, size, text}
use Rattle.ice_encoding.proofs.Joined.{byte_lawful, size_lawful}
use Rattle.graph_laws.specs.Defects.{At, Lacks, IsOffSize, LongBreaks, SizeBreaks, LettersBreak, TextBreaks}
use Rattle.graph_laws.proofs.Breaking.{failed, same_err, no_err, then_err, Agrees, then_agrees, bytes_lack, lack_bytes, lacks_agrees}

pub byte_agrees : Agrees byte.read (Lacks 1)
byte_agrees = lacks_agrees 1 (λ b. slice_index b 0)

pub int_agrees : Agrees int.read (Lacks 4)
int_agrees = lacks_agrees 4 (λ b. cast_signed w32 (from_le_bytes w32 b))

-- ---- sizes

off_size : (n : ℕ) → (ltb n 255 || leb (2 ^ 31) n) ≡ true → IsOffSize n
off_size n e = either (ltb n 255) (leb (2 ^ 31) n) refl refl e
  where
    either : (a b : Bool) → ltb n 255 ≡ a → leb (2 ^ 31) n ≡ b → (a || b) ≡ true → IsOffSize n
    either true b p q e = inl (ltb-true _ _ p)
    either false true p q e = inr (leb-true _ _ q)
    either false false p q e = absurd cc

size_off : (n : ℕ) → IsOffSize n → (ltb n 255 || leb (2 ^ 31) n) ≡ true
size_off n (inl small) = let a : ltb n 255 ≡ true = lt-ltb _ _ small in rw a refl
size_off n (inr large) = let a : ltb n 255 ≡ false = le-ltb _ _ (omega (arith, large)) in let b : leb (2 ^ 31) n ≡ true = le-leb _ _ large in rw (a, b) refl

checked_broken : (place n : ℕ) (r : Rest) (e : Fault) → checked_size place n r ≡ failed e → IsOffSize n × At place BadSize e
checked_broken place n r e h = elim (choice (ltb n 255 || leb (2 ^ 31) n) (fault place BadSize) (Ok (n, r)) (Err e) h) [
  | inl bad ↦ (off_size n bad.0, sym (same_err (record { place = place; kind = BadSize }) e bad.1))
  | inr good ↦ no_err (n, r) e good.1
]

checked_breaks : (place n : ℕ) (r : Rest) (e : Fault) → IsOffSize n → At place BadSize e → checked_size place n r ≡ failed e
checked_breaks place n r e off at = let bad : (ltb n 255 || leb (2 ^ 31) n) ≡ true = size_off n off in rw (bad, at) refl

-- what stands behind a byte
behind_byte : {C : Type 0} (bytes five others more : List ℕ) (b : ℕ) → bytes ≡ b ∷ more → bytes ≡ five ++ others → length five ≡ 5 → ((four : List ℕ) → drop 1 five ≡ four → more ≡ four ++ others → length four ≡ 4 → C) → C
behind_byte bytes [] others more b one two long go = absurd (omega (arith, long))
behind_byte bytes (c ∷ four) others more b one two long go =
    let same : more ≡ four ++ others = ap (drop 1) (sym one ∙ two) in
    go four refl same (omega (arith, long))

long_broken : (r : Rest) (more : List ℕ) (b : ℕ) (e : Fault) → r.bytes ≡ b ∷ more → long_form_at r ≡ failed e → LongBreaks r.place more e
long_broken r more b e parts h = then_err (bytes_at 5 r) (λ five. checked_size r.place (from_le_bytes w32 (drop 1 five.0)) five.1) e h
    (λ bad. let k = bytes_lack 5 r e bad in inl (omega (arith, k.0, ap length parts), k.1))
    (λ five five_is later.
    let g = bytes_found 5 r five five_is in
    let c = checked_broken r.place (from_le_bytes w32 (drop 1 five.0)) five.1 e later in
    behind_byte r.bytes five.0 five.1.bytes more b parts g.0.parts g.1 λ four is same long.
    inr (four, five.1.bytes, same, long, subst (λ (z : List ℕ). IsOffSize (from_le_bytes w32 z)) is c.0, c.1))

long_breaks : (r : Rest) (more : List ℕ) (e : Fault) → r.bytes ≡ 255 ∷ more → LongBreaks r.place more e → long_form_at r ≡ failed e
long_breaks r more e parts (inl (few, at)) =
    let short : bytes_at 5 r ≡ failed e = lack_bytes 5 r e (omega (arith, few, ap length parts), at) in rw short refl
long_breaks r more e parts (inr (four, rest, same, long, off, at)) =
    let five : List ℕ = 255 ∷ four in
    let s : Rest = record { place = r.place + length five; bytes = rest } in
    let stands : bytes_at 5 r ≡ Ok (five, s) = bytes_only 5 r s five (omega (arith, long)) (record { parts = parts ∙ ap (λ (z : List ℕ). 255 ∷ z) same; moved = refl }) in
    rw stands (checked_breaks r.place (from_le_bytes w32 four) s e off at)

size_broken : (r : Rest) (e : Fault) → IsBytes r.bytes → size_at r ≡ failed e → SizeBreaks r.place r.bytes e
size_broken r e fits h = then_err (byte_at r) (λ first. cond (ltb first.0 255) (Ok first) (long_form_at r)) e h
    (λ bad. inl (byte_agrees.broken r e fits bad))
    (λ first first_is later. elim (choice (ltb first.0 255) (Ok first) (long_form_at r) (Err e) later) [
      | inl small ↦ no_err first e small.1
      | inr large ↦
          let k = byte_lawful.found r first fits first_is in
          let parts : r.bytes ≡ first.0 ∷ first.1.bytes = k.1.parts ∙ ap (λ (z : List ℕ). z ++ first.1.bytes) k.2.1 in
          let top : first.0 ≡ 255 = omega (arith, ltb-false _ _ large.0, k.2.0) in
          inr (first.1.bytes, parts ∙ ap (λ (b : ℕ). b ∷ first.1.bytes) top, long_broken r first.1.bytes first.0 e parts large.1)
    ])

size_breaks : (r : Rest) (e : Fault) → SizeBreaks r.place r.bytes e → size_at r ≡ failed e
size_breaks r e (inl h) = rw (byte_agrees.breaks r e h) refl
size_breaks r e (inr (more, parts, h)) =
    let s : Rest = record { place = r.place + 1; bytes = more } in
    let stands : byte_at r ≡ Ok (255, s) = byte_lawful.only r s (255 ∷ []) 255 (record { parts = parts; moved = refl }) (omega arith, refl) in
    rw stands (long_breaks r more e parts h)

pub size_agrees : Agrees size.read SizeBreaks
size_agrees = record { broken = size_broken; breaks = size_breaks }

-- ---- texts

abbrev letters_at : ℕ → Rest → Result (List ℕ × Rest) Fault
letters_at n r = bytes_at n r >>= λ s. cond (is_utf8 s.0) (Ok s) (fault r.place BadText)

letters_broken : (n : ℕ) (r : Rest) (e : Fault) → letters_at n r ≡ failed e → LettersBreak n r.place r.bytes e
letters_broken n r e h = then_err (bytes_at n r) (λ s. cond (is_utf8 s.0) (Ok s) (fault r.place BadText)) e h
    (λ bad. inl (bytes_lack n r e bad))
    (λ s s_is later. elim (choice (is_utf8 s.0) (Ok s) (fault r.place BadText) (Err e) later) [
      | inl good ↦ no_err s e good.1
      | inr bad ↦
          let g = bytes_found n r s s_is in
          inr (s.0, s.1.bytes, g.0.parts, g.1, (λ is. let t : is_utf8 s.0 ≡ true = is_utf8-from_IsUtf8 s.0 is in absurd (no_both (is_utf8 s.0) t bad.0)), sym (same_err (record { place = r.place; kind = BadText }) e bad.1))
    ])
  where
    no_both : (b : Bool) → b ≡ true → b ≡ false → ⊥
    no_both true p q = cc
    no_both false p q = cc

letters_breaks : (n : ℕ) (r : Rest) (e : Fault) → LettersBreak n r.place r.bytes e → letters_at n r ≡ failed e
letters_breaks n r e (inl h) = rw (lack_bytes n r e h) refl
letters_breaks n r e (inr (s, rest, parts, long, off, at)) =
    let t : Rest = record { place = r.place + length s; bytes = rest } in
    let stands : bytes_at n r ≡ Ok (s, t) = bytes_only n r t s long (record { parts = parts; moved = refl }) in
    let fails : is_utf8 s ≡ false = refused (is_utf8 s) refl in
    rw (stands, fails, at) refl
  where
    refused : (b : Bool) → is_utf8 s ≡ b → is_utf8 s ≡ false
    refused true p = absurd (off (IsUtf8-from_is_utf8 s p))
    refused false p = p

pub text_agrees : Agrees text.read TextBreaks
text_agrees = then_agrees size size_lawful SizeBreaks size_agrees letters_at LettersBreak (λ n. record { broken = λ r e fits h. letters_broken n r e h; breaks = letters_breaks n })
