-- What stands next has a fault exactly where the message that begins there has the defect.
use Rattle.std.proofs.Common.{◌≡◌, ℕ, ℤ, pos, suc, ◌+◌, ◌-◌, ◌≤◌, ◌<◌, ◌⊎◌, Bool, true, false, eqb, leb, List, [], ◌∷◌, ◌++◌, length, take, drop, Option, None, Some, Result, Ok, refl, sym, ap, subst, ◌∙◌, inl, inr, append_assoc, arith}
use Rattle.std.proofs.lemmas.Bool.{cases_lt, leb-true, leb-false, eqb-true, eqb-false}
use Rattle.std.proofs.lemmas.List.{length-append, length-drop, length-take-le, take_at, take-append-drop}
use Rattle.ice_prims.specs.declared.fault.Fault.{Fault}
use Rattle.ice_prims.specs.declared.fault.Kind.TheVariants.{BadMagic, BadVersion, BadMessage, Compressed, BadStatus}
use Rattle.ice_prims.specs.Rest.{Rest, ◌>>=◌, IsBytes}
use Rattle.ice_prims.proofs.Parts.{IsBytes-front, IsBytes-rest}
use Rattle.ice_encoding.specs.declared.limits.TheConstants.{LARGEST}
use Rattle.ice_encoding.specs.Bounds.{claimed, filled}
use Rattle.ice_encoding.proofs.Bounded.{claimed_ok, claimed_is}
use Rattle.ice_messages.specs.declared.message.Message.{Message}
use Rattle.ice_messages.specs.declared.message.TheConstants.{HEADER_BYTES}
use Rattle.ice_messages.specs.Messages.{header, body_by, SpellsMessage}
use Rattle.ice_messages.specs.Streams.{IsFront, good_header, counted, next_at}
use Rattle.ice_messages.specs.Breaks.{BodyBreaks, magic_bytes, version_bytes, Differs, MessageBreaks, bad_magic, bad_protocol, bad_encoding, bad_type, is_compressed, bad_compression, bad_size, bad_body}
use Rattle.ice_messages.proofs.Settled.{at}
use Rattle.ice_messages.proofs.Whole.{body_by_lawful, header_lawful, header_long}
use Rattle.ice_messages.proofs.Streams.{built, good_passes, passes_header, front_next, next_message}
use Rattle.ice_messages.proofs.Faults.{only_first, next_counted, next_body}
use Rattle.ice_messages.proofs.Breaking.{failed, same_err, then_err, claim_broken, claim_breaks, bound_broken, bound_breaks}
use Rattle.ice_messages.proofs.Lacking.{body_agrees}
use Rattle.ice_messages.proofs.Headers.{header_magic, header_protocol, header_encoding, header_type, header_compressed, header_compression}

-- ---- a defect is answered

-- what stands for the bytes of a header that are not there yet
abbrev filling : List ℕ → List ℕ
filling bytes = drop (length bytes) good_header

started_bad : (bytes : List ℕ) (e : Fault) → header.read (at 0 (bytes ++ filling bytes)) ≡ failed e → next_at bytes ≡ failed e
started_bad bytes e h = rw h refl

fourteen : (bytes : List ℕ) → 14 ≤ length (bytes ++ filling bytes)
fourteen bytes = omega (arith, length-append bytes (filling bytes), length-drop (length bytes) good_header, good)
  where
    good : length good_header ≡ 14
    good = refl

-- the bytes go on, so that a version has both of its bytes
at_least : (bytes front same more : List ℕ) (b : ℕ) → bytes ≡ front ++ (same ++ b ∷ more) → length front + length same ≤ 7
    → (all : List ℕ) × (bytes ++ filling bytes ≡ front ++ (same ++ b ∷ all)) × (1 ≤ length all)
at_least bytes front same more b parts few =
    let all = more ++ filling bytes in
    let joined : bytes ++ filling bytes ≡ front ++ (same ++ b ∷ all) =
    ap (λ (z : List ℕ). z ++ filling bytes) parts ∙ append_assoc front (same ++ b ∷ more) (filling bytes) ∙ ap (λ (z : List ℕ). front ++ z) (append_assoc same (b ∷ more) (filling bytes)) in
    (all, joined, omega (arith, fourteen bytes, ap length joined, length-append front (same ++ b ∷ all), length-append same (b ∷ all), few))

on_all : (bytes all : List ℕ) (e d : Fault) → bytes ++ filling bytes ≡ all → header.read (at 0 all) ≡ failed d → e ≡ d → next_at bytes ≡ failed e
on_all bytes all e d same h is = started_bad bytes e (ap (λ (z : List ℕ). header.read (at 0 z)) same ∙ h ∙ ap failed (sym is))

same_few : (known same left : List ℕ) (due : ℕ) → known ≡ same ++ due ∷ left → length same + 1 ≤ length known
same_few known same left due e = omega (arith, ap length e, length-append same (due ∷ left))

module _ (head : List ℕ) (type : ℕ) (z : ℤ) (spells : header.Spells head (type, z)) where
  pub reads : (behind : List ℕ) → header.read (at 0 (head ++ behind)) ≡ Ok ((type, z), at 14 behind)
  reads behind = header_lawful.only (at 0 (head ++ behind)) (at 14 behind) head (type, z) (record { parts = refl; moved = omega (arith, header_long head (type, z) spells) }) spells

pub defect_answered : (bytes : List ℕ) (e : Fault) → MessageBreaks bytes e → next_at bytes ≡ failed e
defect_answered bytes e (bad_magic n (same, b, due, more, left, parts, known, ne, n_is) is) =
    let all = at_least bytes [] same more b parts (omega (arith, same_few magic_bytes same left due known)) in
    on_all bytes (same ++ b ∷ all.0) e (record { place = length same; kind = BadMagic }) all.1 (header_magic same b due all.0 left known ne) (is ∙ ap (λ (p : ℕ). record { place = p; kind = BadMagic }) n_is)
defect_answered bytes e (bad_protocol n rest rest_is (same, b, due, more, left, parts, known, ne, n_is) is) =
    let all = at_least bytes magic_bytes same more b (rest_is ∙ ap (λ (z : List ℕ). magic_bytes ++ z) parts) (omega (arith, same_few version_bytes same left due known)) in
    on_all bytes (magic_bytes ++ (same ++ b ∷ all.0)) e (record { place = 4; kind = BadVersion }) all.1 (header_protocol same b due all.0 left known ne all.2) is
defect_answered bytes e (bad_encoding n rest rest_is (same, b, due, more, left, parts, known, ne, n_is) is) =
    let all = at_least bytes (magic_bytes ++ version_bytes) same more b (rest_is ∙ ap (λ (z : List ℕ). magic_bytes ++ (version_bytes ++ z)) parts) (omega (arith, same_few version_bytes same left due known)) in
    on_all bytes (magic_bytes ++ (version_bytes ++ (same ++ b ∷ all.0))) e (record { place = 6; kind = BadVersion }) all.1 (header_encoding same b due all.0 left known ne all.2) is
defect_answered bytes e (bad_type t rest parts large is) =
    on_all bytes (magic_bytes ++ (version_bytes ++ (version_bytes ++ t ∷ (rest ++ filling bytes)))) e (record { place = 8; kind = BadMessage }) (ap (λ (z : List ℕ). z ++ filling bytes) parts) (header_type t (rest ++ filling bytes) large) is
defect_answered bytes e (is_compressed t rest parts small is) =
    on_all bytes (magic_bytes ++ (version_bytes ++ (version_bytes ++ t ∷ 2 ∷ (rest ++ filling bytes)))) e (record { place = 9; kind = Compressed }) (ap (λ (z : List ℕ). z ++ filling bytes) parts) (header_compressed t (rest ++ filling bytes) small) is
defect_answered bytes e (bad_compression t s rest parts small large is) =
    on_all bytes (magic_bytes ++ (version_bytes ++ (version_bytes ++ t ∷ s ∷ (rest ++ filling bytes)))) e (record { place = 9; kind = BadStatus }) (ap (λ (z : List ℕ). z ++ filling bytes) parts) (header_compression t s (rest ++ filling bytes) small large) is
defect_answered bytes e (bad_size type z head rest parts spells h) =
    let bad : claimed 10 LARGEST HEADER_BYTES z ≡ failed e = claim_breaks 10 LARGEST HEADER_BYTES z e h in
    ap next_at parts ∙ next_counted head (header_long head (type, z) spells) type z (reads head type z spells) rest ∙ ap (λ (r : Result ℕ Fault). r >>= counted (head ++ rest)) bad
defect_answered bytes e (bad_body type n head inside rest parts spells least most long h) =
    let fourteen = header_long head (type, pos n) spells in
    let front : take (n - HEADER_BYTES) (inside ++ rest) ≡ inside = take_at inside rest (n - HEADER_BYTES) (omega (arith, long)) in
    let bad : filled (body_by type).read (at 14 inside) ≡ failed e = bound_breaks (body_by type) (body_by_lawful type) (BodyBreaks type) (body_agrees type) (at 14 inside) e h in
    let claim = claimed_is 10 LARGEST HEADER_BYTES n most most least in
    let again : filled (body_by type).read (at 14 (take (n - HEADER_BYTES) (inside ++ rest))) ≡ failed e = ap (λ (z : List ℕ). filled (body_by type).read (at 14 z)) front ∙ bad in
    let next = next_body head fourteen type (pos n) (reads head type (pos n) spells) (inside ++ rest) n claim (omega (arith, long, fourteen, length-append head (inside ++ rest), length-append inside rest)) in
    ap next_at parts ∙ next ∙ (rw again refl)

-- ---- and nothing else is

-- what the first bytes are: a front, a message with a defect, or a whole header
abbrev Outcome : List ℕ → Type 0
Outcome bytes = IsFront bytes ⊎ (((e : Fault) × MessageBreaks bytes e) ⊎ ((type : ℕ) × (z : ℤ) × (head rest : List ℕ) × (bytes ≡ head ++ rest) × header.Spells head (type, z)))

-- a header goes on with these bytes
front_of : (bytes more all : List ℕ) → length bytes < 14 → bytes ++ more ≡ all → ((x : ℕ × ℤ) × header.Spells all x) → Outcome bytes
front_of bytes more all few same (x, spells) = inl (inl (more, x.0, x.1, few, subst (λ (z : List ℕ). header.Spells z x) (sym same) spells))

-- how far bytes agree with those that are known
abbrev Agreed : List ℕ → List ℕ → Type 0
Agreed known bytes = ((left : List ℕ) × (known ≡ bytes ++ left) × (1 ≤ length left)) ⊎ (((n : ℕ) × Differs bytes known n) ⊎ ((rest : List ℕ) × (bytes ≡ known ++ rest)))

one_more : (k : ℕ) (known bytes : List ℕ) → Agreed known bytes → Agreed (k ∷ known) (k ∷ bytes)
one_more k known bytes (inl (left, same, some)) = inl (left, ap (λ (z : List ℕ). k ∷ z) same, some)
one_more k known bytes (inr (inl (n, (same, b, due, more, left, parts, is, ne, n_is)))) =
    inr (inl (suc n, (k ∷ same, b, due, more, left, ap (λ (z : List ℕ). k ∷ z) parts, ap (λ (z : List ℕ). k ∷ z) is, ne, ap suc n_is)))
one_more k known bytes (inr (inr (rest, parts))) = inr (inr (rest, ap (λ (z : List ℕ). k ∷ z) parts))

agreed_at : (k : ℕ) (known : List ℕ) (b : ℕ) (bytes : List ℕ) (same : Bool) → eqb b k ≡ same → Agreed known bytes → Agreed (k ∷ known) (b ∷ bytes)
agreed_at k known b bytes true is so = subst (λ (x : ℕ). Agreed (k ∷ known) (x ∷ bytes)) (sym (eqb-true b k is)) (one_more k known bytes so)
agreed_at k known b bytes false is so = inr (inl (0, ([], b, k, bytes, known, refl, refl, eqb-false b k is, refl)))

agreed : (known bytes : List ℕ) → Agreed known bytes
agreed [] bytes = inr (inr (bytes, refl))
agreed (k ∷ known) [] = inl (k ∷ known, refl, omega arith)
agreed (k ∷ known) (b ∷ bytes) = agreed_at k known b bytes (eqb b k) refl (agreed known bytes)

good_spells : (x : ℕ × ℤ) × header.Spells good_header x
good_spells = passes_header good_header good_passes

abbrev opening : List ℕ → List ℕ
opening rest = magic_bytes ++ (version_bytes ++ (version_bytes ++ rest))

abbrev good_size : List ℕ
good_size = 14 ∷ 0 ∷ 0 ∷ 0 ∷ []

-- behind the type and the compression status
at_size : (t s : ℕ) (rest : List ℕ) → t ≤ 4 → s ≤ 1 → Outcome (opening (t ∷ s ∷ rest))
at_size t s rest small fine = elim (cases_lt (length rest) 4) [
  | inl few ↦
      let four = rest ++ drop (length rest) good_size in
      let long : length four ≡ 4 = omega (arith, few, length-append rest (drop (length rest) good_size), length-drop (length rest) good_size, zeros) in
      front_of (opening (t ∷ s ∷ rest)) (drop (length rest) good_size) (opening (t ∷ s ∷ four)) (omega (arith, few)) refl (built t s four small fine long)
  | inr there ↦
      let four = take 4 rest in
      let h = built t s four small fine (length-take-le 4 rest there) in
      inr (inr (h.0.0, h.0.1, opening (t ∷ s ∷ four), drop 4 rest, ap (λ (z : List ℕ). opening (t ∷ s ∷ z)) (sym (take-append-drop 4 rest)), h.1))
]
  where
    zeros : length good_size ≡ 4
    zeros = refl

at_compression : (t : ℕ) (rest : List ℕ) → t ≤ 4 → Outcome (opening (t ∷ rest))
at_compression t [] small = front_of (opening (t ∷ [])) (0 ∷ 14 ∷ 0 ∷ 0 ∷ 0 ∷ []) (opening (t ∷ 0 ∷ 14 ∷ 0 ∷ 0 ∷ 0 ∷ [])) (omega arith) refl (built t 0 good_size small (omega arith) refl)
at_compression t (s ∷ rest) small = by_status (leb s 1) (leb s 2) refl refl
  where
    by_status : (a b : Bool) → leb s 1 ≡ a → leb s 2 ≡ b → Outcome (opening (t ∷ s ∷ rest))
    by_status true b p q = at_size t s rest small (leb-true _ _ p)
    by_status false true p q =
        let two : s ≡ 2 = omega (arith, leb-false _ _ p, leb-true _ _ q) in
        inr (inl (record { place = 9; kind = Compressed }, is_compressed t rest (ap (λ (x : ℕ). opening (t ∷ x ∷ rest)) two) small refl))
    by_status false false p q = inr (inl (record { place = 9; kind = BadStatus }, bad_compression t s rest refl small (leb-false _ _ q) refl))

at_type : (rest : List ℕ) → Outcome (opening rest)
at_type [] = front_of (opening []) (3 ∷ 0 ∷ 14 ∷ 0 ∷ 0 ∷ 0 ∷ []) good_header (omega arith) refl good_spells
at_type (t ∷ rest) = by_type (leb t 4) refl
  where
    by_type : (a : Bool) → leb t 4 ≡ a → Outcome (opening (t ∷ rest))
    by_type true p = at_compression t rest (leb-true _ _ p)
    by_type false p = inr (inl (record { place = 8; kind = BadMessage }, bad_type t rest refl (leb-false _ _ p) refl))

at_encoding : (rest : List ℕ) → Agreed version_bytes rest → Outcome (magic_bytes ++ (version_bytes ++ rest))
at_encoding rest (inl (left, same, some)) =
    let few : length rest + length left ≡ 2 = omega (arith, ap length same, length-append rest left) in
    front_of (magic_bytes ++ (version_bytes ++ rest)) (left ++ (3 ∷ 0 ∷ 14 ∷ 0 ∷ 0 ∷ 0 ∷ [])) good_header (omega (arith, few, some))
    (ap (λ (z : List ℕ). magic_bytes ++ (version_bytes ++ z)) (sym (append_assoc rest left (3 ∷ 0 ∷ 14 ∷ 0 ∷ 0 ∷ 0 ∷ [])) ∙ ap (λ (z : List ℕ). z ++ (3 ∷ 0 ∷ 14 ∷ 0 ∷ 0 ∷ 0 ∷ [])) (sym same))) good_spells
at_encoding rest (inr (inl (n, other))) = inr (inl (record { place = 6; kind = BadVersion }, bad_encoding n rest refl other refl))
at_encoding rest (inr (inr (more, parts))) = subst (λ (z : List ℕ). Outcome (magic_bytes ++ (version_bytes ++ z))) (sym parts) (at_type more)

at_protocol : (rest : List ℕ) → Agreed version_bytes rest → Outcome (magic_bytes ++ rest)
at_protocol rest (inl (left, same, some)) =
    let few : length rest + length left ≡ 2 = omega (arith, ap length same, length-append rest left) in
    front_of (magic_bytes ++ rest) (left ++ (1 ∷ 0 ∷ 3 ∷ 0 ∷ 14 ∷ 0 ∷ 0 ∷ 0 ∷ [])) good_header (omega (arith, few, some))
    (ap (λ (z : List ℕ). magic_bytes ++ z) (sym (append_assoc rest left (1 ∷ 0 ∷ 3 ∷ 0 ∷ 14 ∷ 0 ∷ 0 ∷ 0 ∷ [])) ∙ ap (λ (z : List ℕ). z ++ (1 ∷ 0 ∷ 3 ∷ 0 ∷ 14 ∷ 0 ∷ 0 ∷ 0 ∷ [])) (sym same))) good_spells
at_protocol rest (inr (inl (n, other))) = inr (inl (record { place = 4; kind = BadVersion }, bad_protocol n rest refl other refl))
at_protocol rest (inr (inr (more, parts))) = subst (λ (z : List ℕ). Outcome (magic_bytes ++ z)) (sym parts) (at_encoding more (agreed version_bytes more))

at_magic : (bytes : List ℕ) → Agreed magic_bytes bytes → Outcome bytes
at_magic bytes (inl (left, same, some)) =
    let few : length bytes + length left ≡ 4 = omega (arith, ap length same, length-append bytes left) in
    front_of bytes (left ++ (1 ∷ 0 ∷ 1 ∷ 0 ∷ 3 ∷ 0 ∷ 14 ∷ 0 ∷ 0 ∷ 0 ∷ [])) good_header (omega (arith, few, some))
    (sym (append_assoc bytes left (1 ∷ 0 ∷ 1 ∷ 0 ∷ 3 ∷ 0 ∷ 14 ∷ 0 ∷ 0 ∷ 0 ∷ [])) ∙ ap (λ (z : List ℕ). z ++ (1 ∷ 0 ∷ 1 ∷ 0 ∷ 3 ∷ 0 ∷ 14 ∷ 0 ∷ 0 ∷ 0 ∷ [])) (sym same)) good_spells
at_magic bytes (inr (inl (n, other))) = inr (inl (record { place = n; kind = BadMagic }, bad_magic n other refl))
at_magic bytes (inr (inr (more, parts))) = subst Outcome (sym parts) (at_protocol more (agreed version_bytes more))

no_front : {C : Type 0} (e : Fault) (x : Option (Message × Rest)) → Ok x ≡ failed {A = Option (Message × Rest)} e → C
no_front e x h = absurd cc

pub answered_defect : (bytes : List ℕ) (e : Fault) → IsBytes bytes → next_at bytes ≡ failed e → MessageBreaks bytes e
answered_defect bytes e fits h = by_outcome (at_magic bytes (agreed magic_bytes bytes))
  where
    by_outcome : Outcome bytes → MessageBreaks bytes e
    by_outcome (inl front) = no_front e None (sym (front_next bytes front) ∙ h)
    by_outcome (inr (inl (d, broken))) = subst (MessageBreaks bytes) (same_err d e (sym (defect_answered bytes d broken) ∙ h)) broken
    by_outcome (inr (inr (type, z, head, rest, parts, spells))) =
        let long = header_long head (type, z) spells in
        let counts : next_at (head ++ rest) ≡ (claimed 10 LARGEST HEADER_BYTES z >>= counted (head ++ rest)) = next_counted head long type z (reads head type z spells) rest in
        then_err (claimed 10 LARGEST HEADER_BYTES z) (counted (head ++ rest)) e (sym counts ∙ ap next_at (sym parts) ∙ h)
        (λ bad. bad_size type z head rest parts spells (claim_broken 10 LARGEST HEADER_BYTES z e bad))
        (λ n n_is later. claimed_ok 10 LARGEST HEADER_BYTES z n n_is λ same most left least.
        elim (cases_lt (length bytes) n) [
          | inl few ↦
              let front : IsFront bytes = inr (head, rest, type, n, parts, subst (λ (x : ℤ). header.Spells head (type, x)) same spells, least, most, few) in
              no_front e None (sym (front_next bytes front) ∙ h)
          | inr there ↦
              let total : length bytes ≡ HEADER_BYTES + length rest = omega (arith, ap length parts, length-append head rest, long) in
              let inside = take (n - HEADER_BYTES) rest in
              let inside_long : length inside ≡ n - HEADER_BYTES = length-take-le (n - HEADER_BYTES) rest (omega (arith, total, there)) in
              let next = next_body head long type z (reads head type z spells) rest n n_is (omega (arith, there, ap length parts)) in
              let bad : filled (body_by type).read (at 14 inside) ≡ failed e = only_first (filled (body_by type).read (at 14 inside)) _ _ e (sym next ∙ ap next_at (sym parts) ∙ h) in
              let all : head ++ rest ≡ head ++ (inside ++ drop (n - HEADER_BYTES) rest) = ap (λ (z : List ℕ). head ++ z) (sym (take-append-drop (n - HEADER_BYTES) rest)) in
              let behind : IsBytes rest = IsBytes-rest head rest (subst IsBytes parts fits) in
              let within : IsBytes inside = IsBytes-front inside (drop (n - HEADER_BYTES) rest) (subst IsBytes (sym (take-append-drop (n - HEADER_BYTES) rest)) behind) in
              bad_body type n head inside (drop (n - HEADER_BYTES) rest) (parts ∙ all) (subst (λ (x : ℤ). header.Spells head (type, x)) same spells) least most (omega (arith, inside_long, least))
              (bound_broken (body_by type) (body_by_lawful type) (BodyBreaks type) (body_agrees type) (at 14 inside) e within bad)
        ])

-- ---- one defect, and no front or message with it

pub one_defect : (bytes : List ℕ) (a b : Fault) → MessageBreaks bytes a → MessageBreaks bytes b → a ≡ b
one_defect bytes a b first second = same_err a b (sym (defect_answered bytes a first) ∙ defect_answered bytes b second)

pub defect_no_front : (bytes : List ℕ) (e : Fault) → MessageBreaks bytes e → IsFront bytes → ⊥
defect_no_front bytes e broken front = no_front e None (sym (front_next bytes front) ∙ defect_answered bytes e broken)

pub defect_no_message : (first others : List ℕ) (m : Message) (e : Fault) → MessageBreaks (first ++ others) e → SpellsMessage first m → ⊥
defect_no_message first others m e broken h =
    no_front e (Some (m, record { place = length first; bytes = others })) (sym (next_message first others m h) ∙ defect_answered (first ++ others) e broken)
