-- Bytes that have to be one message are answered with the fault that they have as one.
use Rattle.std.proofs.Common.{◌≡◌, ℕ, ℤ, pos, ◌+◌, ◌-◌, ◌<◌, Bool, true, false, cond, List, [], ◌∷◌, ◌++◌, length, Result, Ok, Err, refl, sym, ap, subst, ◌∙◌, inl, inr, arith}
use Rattle.std.specs.Str.{bytes_eq}
use Rattle.std.proofs.lemmas.Bool.{leb-false, lt-leb}
use Rattle.std.proofs.lemmas.List.{length-append}
use Rattle.std.proofs.lemmas.Slice.Eq.{bytes_eq-Decides}
use Rattle.ice_prims.specs.declared.fault.Fault.{Fault}
use Rattle.ice_prims.specs.declared.fault.Kind.{Kind}
use Rattle.ice_prims.specs.declared.fault.Kind.TheVariants.{BadMagic, BadVersion, LeftOver}
use Rattle.ice_prims.specs.Rest.{Rest, fault, ◌>>=◌, Took, IsBytes, whole, bytes_at, bound_at}
use Rattle.ice_prims.proofs.Parts.{chosen as choice, ok_is, then_ok, Took-fits, bytes_found, bytes_only}
use Rattle.ice_encoding.specs.Parts.{Part, byte, int, exactly, both}
use Rattle.ice_encoding.specs.Bounds.{claimed, ended, filled}
use Rattle.ice_encoding.proofs.Bounded.{claimed_ok, claimed_is}
use Rattle.ice_encoding.proofs.Joined.{byte_lawful, exactly_lawful, tested_lawful}
use Rattle.ice_messages.specs.declared.message.Message.{Message}
use Rattle.ice_messages.specs.declared.message.TheConstants.{HEADER_BYTES}
use Rattle.ice_messages.specs.Messages.{header, magic, versions, message_type, compression, body_by, message_at, whole_message_at}
use Rattle.ice_messages.specs.Defects.{At, Lacks}
use Rattle.ice_messages.specs.Breaks.{BodyBreaks, version_bytes}
use Rattle.ice_messages.specs.WholeBreaks.{OtherBytes, letter, LetterBreaks, MagicBreaks, VersionsBreak, TypeBreaks, known_status, CompressionBreaks, HeaderBreaks, InputBreaks, bad_header, bad_count, bad_inside, left_over}
use Rattle.ice_messages.proofs.Settled.{at}
use Rattle.ice_messages.proofs.Whole.{magic_lawful, versions_lawful, compression_lawful, body_by_lawful, header_lawful, header_long, message_found, message_only}
use Rattle.ice_messages.proofs.Breaking.{failed, same_err, no_err, then_err, Agrees, made_agrees, both_agrees, tested_agrees, bytes_lack, lack_bytes, claim_broken, claim_breaks, bound_broken, bound_breaks}
use Rattle.ice_messages.proofs.Lacking.{byte_agrees, int_agrees, body_agrees}
use Rattle.ice_messages.proofs.Headers.{not_equal}

-- ---- the header

exact_broken : (known : List ℕ) (kind : Kind) (r : Rest) (e : Fault) → (exactly known kind).read r ≡ failed e → OtherBytes known kind r.place r.bytes e
exact_broken known kind r e h = then_err (bytes_at (length known) r) (λ b. cond (bytes_eq b.0 known) (Ok (tt, b.1)) (fault r.place kind)) e h
    (λ bad. inl (bytes_lack (length known) r e bad))
    (λ b b_is later. elim (choice (bytes_eq b.0 known) (Ok (tt, b.1)) (fault r.place kind) (Err e) later) [
      | inl good ↦ no_err (tt, b.1) e good.1
      | inr bad ↦
          let g = bytes_found (length known) r b b_is in
          inr (b.0, b.1.bytes, g.0.parts, g.1, (λ is. no_both (bytes_eq b.0 known) (subst (λ (z : List ℕ). bytes_eq z known ≡ true) (sym is) ((bytes_eq-Decides known known).1 refl)) bad.0), sym (same_err (record { place = r.place; kind = kind }) e bad.1))
    ])
  where
    no_both : (b : Bool) → b ≡ true → b ≡ false → ⊥
    no_both true p q = cc
    no_both false p q = cc

exact_breaks : (known : List ℕ) (kind : Kind) (r : Rest) (e : Fault) → OtherBytes known kind r.place r.bytes e → (exactly known kind).read r ≡ failed e
exact_breaks known kind r e (inl h) = rw (lack_bytes (length known) r e h) refl
exact_breaks known kind r e (inr (a, rest, parts, long, ne, is)) =
    let s : Rest = record { place = r.place + length a; bytes = rest } in
    let stands : bytes_at (length known) r ≡ Ok (a, s) = bytes_only (length known) r s a long (record { parts = parts; moved = refl }) in
    let differs : bytes_eq a known ≡ false = not_equal a known ne (bytes_eq a known) refl in
    rw (stands, differs, is) refl

exact_agrees : (known : List ℕ) (kind : Kind) → Agrees (exactly known kind).read (OtherBytes known kind)
exact_agrees known kind = record { broken = λ r e fits h. exact_broken known kind r e h; breaks = exact_breaks known kind }

letter_agrees : (k : ℕ) → Agrees (letter k).read (LetterBreaks k)
letter_agrees k = exact_agrees (k ∷ []) BadMagic

magic_agrees : Agrees magic.read MagicBreaks
magic_agrees = made_agrees _ _ (both_agrees (letter 73) (exactly_lawful _ _) (LetterBreaks 73) (letter_agrees 73) (both (letter 99) (both (letter 101) (letter 80))) _
    (both_agrees (letter 99) (exactly_lawful _ _) (LetterBreaks 99) (letter_agrees 99) (both (letter 101) (letter 80)) _
    (both_agrees (letter 101) (exactly_lawful _ _) (LetterBreaks 101) (letter_agrees 101) (letter 80) (LetterBreaks 80) (letter_agrees 80)))) (λ x. tt)

abbrev version : Part (Unit {0})
version = exactly version_bytes BadVersion

versions_agree : Agrees versions.read VersionsBreak
versions_agree = made_agrees _ _ (both_agrees version (exactly_lawful _ _) (OtherBytes version_bytes BadVersion) (exact_agrees version_bytes BadVersion) version (OtherBytes version_bytes BadVersion) (exact_agrees version_bytes BadVersion)) (λ x. tt)

type_agrees : Agrees message_type.read TypeBreaks
type_agrees = tested_agrees _ _ byte byte_lawful (Lacks 1) byte_agrees (λ t. 4 < t) (λ t h. leb-false _ _ h) (λ t h. lt-leb _ _ h)

compression_agrees : Agrees compression.read CompressionBreaks
compression_agrees = made_agrees _ _ (tested_agrees _ _ known_status (tested_lawful _ _ _ byte_lawful) _
    (tested_agrees _ _ byte byte_lawful (Lacks 1) byte_agrees (λ s. 2 < s) (λ s h. leb-false _ _ h) (λ s h. lt-leb _ _ h))
    (λ s. 1 < s) (λ s h. leb-false _ _ h) (λ s h. lt-leb _ _ h)) (λ s. tt)

header_agrees : Agrees header.read HeaderBreaks
header_agrees = made_agrees _ _ (both_agrees magic magic_lawful MagicBreaks magic_agrees (both versions (both message_type (both compression int))) _
    (both_agrees versions versions_lawful VersionsBreak versions_agree (both message_type (both compression int)) _
    (both_agrees message_type (tested_lawful _ _ _ byte_lawful) TypeBreaks type_agrees (both compression int) _
    (both_agrees compression compression_lawful CompressionBreaks compression_agrees int (Lacks 4) int_agrees)))) _

-- ---- the message

-- what stands behind a message
behind : (left : List ℕ) (place : ℕ) (m : Message) (e : Fault) → ended left place m ≡ failed e → (byte : ℕ) × (others : List ℕ) × (left ≡ byte ∷ others) × At place LeftOver e
behind [] place m e h = no_err m e h
behind (b ∷ bs) place m e h = (b, bs, refl, sym (same_err (record { place = place; kind = LeftOver }) e h))

bound_of : (k : ℕ) (s : Rest) (bound : Rest × Rest) → bound_at k s ≡ Ok bound → (inside : List ℕ) × Took s inside bound.1 × (length inside ≡ k) × (bound.0 ≡ at s.place inside)
bound_of k s bound is = then_ok (bytes_at k s) (λ b. Ok (at s.place b.0, b.1)) bound is λ b b_is last.
    let g = bytes_found k s b b_is in
    let same : (at s.place b.0, b.1) ≡ bound = ok_is _ _ last in
    (b.0, subst (λ (z : Rest × Rest). Took s b.0 z.1) same g.0, g.1, ap (λ (z : Rest × Rest). z.0) (sym same))

-- what follows a header that counts so many bytes
abbrev inside_at : (ℕ × ℤ) × Rest → ℕ → Result (Message × Rest) Fault
inside_at head n = bound_at (n - HEADER_BYTES) head.1 >>= λ bound. filled (body_by head.0.0).read bound.0 >>= λ m. Ok (m, bound.1)

module _ (bytes : List ℕ) (fits : IsBytes bytes) (e : Fault) where
  abbrev r : Rest
  r = whole bytes

  in_bound : (head : (ℕ × ℤ) × Rest) (n : ℕ) → header.read r ≡ Ok head → claimed 10 (length bytes) HEADER_BYTES head.0.1 ≡ Ok n
      → inside_at head n ≡ failed e → InputBreaks bytes e
  in_bound head n head_is n_is h =
      let f = header_lawful.found r head fits head_is in
      let long = header_long f.0 head.0 f.2 in
      let total : length bytes ≡ HEADER_BYTES + length head.1.bytes = omega (arith, ap length f.1.parts, length-append f.0 head.1.bytes, long) in
      claimed_ok 10 (length bytes) HEADER_BYTES head.0.1 n n_is λ same most there least.
      then_err (bound_at (n - HEADER_BYTES) head.1) (λ bound. filled (body_by head.0.0).read bound.0 >>= λ m. Ok (m, bound.1)) e h
      (λ bad. then_err (bytes_at (n - HEADER_BYTES) head.1) (λ b. Ok (record { place = head.1.place; bytes = b.0 }, b.1)) e bad
      (λ lacks. let k = bytes_lack (n - HEADER_BYTES) head.1 e lacks in absurd (omega (arith, k.0, total, there)))
      (λ b b_is last. no_err (record { place = head.1.place; bytes = b.0 }, b.1) e last))
      (λ bound bound_is later.
      then_err (filled (body_by head.0.0).read bound.0) (λ m. Ok (m, bound.1)) e later
      (λ bad.
      let cut = bound_of (n - HEADER_BYTES) head.1 bound bound_is in
      let place : head.1.place ≡ HEADER_BYTES = omega (arith, f.1.moved, long) in
      let left = (Took-fits r head.1 f.0 fits f.1).1 in
      let inside_fits = (Took-fits head.1 bound.1 cut.0 left cut.1).0 in
      let inner : filled (body_by head.0.0).read (at HEADER_BYTES cut.0) ≡ failed e =
      subst (λ (p : ℕ). filled (body_by head.0.0).read (at p cut.0) ≡ failed e) place (subst (λ (z : Rest). filled (body_by head.0.0).read z ≡ failed e) cut.3 bad) in
      bad_inside head.0.0 n f.0 cut.0 bound.1.bytes (f.1.parts ∙ ap (λ (z : List ℕ). f.0 ++ z) cut.1.parts) (subst (λ (z : ℤ). header.Spells f.0 (head.0.0, z)) same f.2) least most (omega (arith, cut.2, least))
      (bound_broken (body_by head.0.0) (body_by_lawful head.0.0) (BodyBreaks head.0.0) (body_agrees head.0.0) (at HEADER_BYTES cut.0) e inside_fits inner))
      (λ m m_is last. no_err (m, bound.1) e last))

  pub input_broken : whole_message_at r ≡ failed e → InputBreaks bytes e
  input_broken h = then_err (message_at r) (λ x. ended x.1.bytes x.1.place x.0) e h
      (λ bad. then_err (header.read r) (λ head. claimed 10 (length bytes) HEADER_BYTES head.0.1 >>= inside_at head) e bad
      (λ worse. bad_header (header_agrees.broken r e fits worse))
      (λ head head_is later.
      let f = header_lawful.found r head fits head_is in
      then_err (claimed 10 (length bytes) HEADER_BYTES head.0.1) (inside_at head) e later
      (λ worse. bad_count head.0.0 head.0.1 f.0 head.1.bytes f.1.parts f.2 (claim_broken 10 (length bytes) HEADER_BYTES head.0.1 e worse))
      (λ n n_is last. in_bound head n head_is n_is last)))
      (λ x x_is later.
      let f = message_found r x fits x_is in
      let o = behind x.1.bytes x.1.place x.0 e later in
      let place : x.1.place ≡ length f.0 = omega (arith, f.1.moved) in
      left_over x.0 f.0 o.1 o.0 (f.1.parts ∙ ap (λ (z : List ℕ). f.0 ++ z) o.2) f.2 (subst (λ (p : ℕ). At p LeftOver e) place o.3))

pub input_breaks : (bytes : List ℕ) (e : Fault) → InputBreaks bytes e → whole_message_at (whole bytes) ≡ failed e
input_breaks bytes e (bad_header h) = rw (header_agrees.breaks (whole bytes) e h) refl
input_breaks bytes e (bad_count type z head rest parts spells h) =
    let stands : header.read (whole bytes) ≡ Ok ((type, z), at (length head) rest) = header_lawful.only (whole bytes) (at (length head) rest) head (type, z) (record { parts = parts; moved = omega arith }) spells in
    let bad : claimed 10 (length bytes) HEADER_BYTES z ≡ failed e = claim_breaks 10 (length bytes) HEADER_BYTES z e h in
    rw (stands, bad) refl
input_breaks bytes e (bad_inside type n head inside rest parts spells least most long h) =
    let fourteen = header_long head (type, pos n) spells in
    let total : length bytes ≡ length head + (length inside + length rest) = omega (arith, ap length parts, length-append head (inside ++ rest), length-append inside rest) in
    let stands : header.read (whole bytes) ≡ Ok ((type, pos n), at 14 (inside ++ rest)) = header_lawful.only (whole bytes) (at 14 (inside ++ rest)) head (type, pos n) (record { parts = parts; moved = omega (arith, fourteen) }) spells in
    let counts : claimed 10 (length bytes) HEADER_BYTES (pos n) ≡ Ok n = claimed_is 10 (length bytes) HEADER_BYTES n most (omega (arith, total, fourteen, long)) least in
    let cut : bytes_at (n - HEADER_BYTES) (at 14 (inside ++ rest)) ≡ Ok (inside, at n rest) = bytes_only (n - HEADER_BYTES) (at 14 (inside ++ rest)) (at n rest) inside (omega (arith, long)) (record { parts = refl; moved = omega (arith, long) }) in
    let bad : filled (body_by type).read (at 14 inside) ≡ failed e = bound_breaks (body_by type) (body_by_lawful type) (BodyBreaks type) (body_agrees type) (at 14 inside) e h in
    rw (stands, counts, cut, bad) refl
input_breaks bytes e (left_over m first left byte parts spells is) =
    let stands : message_at (whole bytes) ≡ Ok (m, at (length first) (byte ∷ left)) = message_only (whole bytes) (at (length first) (byte ∷ left)) first m (record { parts = parts; moved = omega arith }) spells in
    rw (stands, is) refl
