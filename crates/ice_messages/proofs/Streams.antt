-- Messages one after the other: bytes have one way to be read as a stream, and its messages are those of each longer one.
use Rattle.std.proofs.Common.{◌≡◌, ℕ, ℤ, pos, zero, suc, ◌+◌, ◌≤◌, ◌<◌, true, false, List, [], ◌∷◌, ◌++◌, length, take, drop, None, Some, Ok, refl, sym, ap, subst, ◌∙◌, inl, inr, arith, append-nil, append_assoc, ltb, cond}
use Rattle.std.specs.Prelude.{slice_index}
use Rattle.std.specs.Int.{w32, cast_signed, from_le_bytes}
use Rattle.std.proofs.lemmas.Bool.{ltb-true, ltb-false, le-ltb, lt-ltb, leb-true, le-leb}
use Rattle.std.proofs.Math.ListN.{drop_of_length-le}
use Rattle.std.proofs.lemmas.List.{length-append, length-drop, take-append-drop, nil_from_length}
use Rattle.ice_prims.specs.Rest.{Rest, ◌>>=◌, Took, IsBytes, whole}
use Rattle.ice_prims.specs.Laws.{any}
use Rattle.ice_prims.proofs.Parts.{chosen as choice, then_ok, ok_is, IsBytes-rest}
use Rattle.ice_encoding.specs.declared.limits.TheConstants.{LARGEST}
use Rattle.ice_encoding.specs.Bounds.{claimed}
use Rattle.ice_encoding.proofs.Bounded.{claimed_ok, claimed_is}
use Rattle.ice_messages.specs.declared.message.Message.{Message}
use Rattle.ice_messages.specs.declared.message.TheConstants.{HEADER_BYTES}
use Rattle.ice_messages.specs.Messages.{header, message_at, SpellsMessage}
use Rattle.ice_messages.specs.Streams.{IsFront, good_header, started, counted, next_at}
use Rattle.ice_messages.proofs.Whole.{header_lawful, header_long, message_only}

-- ---- one message

-- bytes that begin with these
front_took : (a b : List ℕ) → Took (whole (a ++ b)) a (record { place = length a; bytes = b })
front_took a b = record { parts = refl; moved = omega arith }

pub messages_apart : (a b x y : List ℕ) (m n : Message) → SpellsMessage a m → SpellsMessage b n → a ++ x ≡ b ++ y → (m ≡ n) × (x ≡ y)
messages_apart a b x y m n one two same =
    let first = message_only (whole (a ++ x)) (record { place = length a; bytes = x }) a m (front_took a x) one in
    let second = message_only (whole (b ++ y)) (record { place = length b; bytes = y }) b n (front_took b y) two in
    let equal = ok_is _ _ (sym first ∙ ap (λ (bytes : List ℕ). message_at (whole bytes)) same ∙ second) in
    (ap (λ (z : Message × Rest). z.0) equal, ap (λ (z : Message × Rest). z.1.bytes) equal)

pub message_long : (bytes : List ℕ) (m : Message) → SpellsMessage bytes m → HEADER_BYTES ≤ length bytes
message_long bytes m h = omega (arith, ap length h.3, length-append h.1 h.2, header_long h.1 _ h.4)

-- ---- the bytes of a header, one by one

-- each byte passes its test
abbrev Pass : List (ℕ → Type 0) → List ℕ → Type 0
Pass [] [] = Unit {0}
Pass [] (b ∷ bs) = ⊥
Pass (Test ∷ tests) [] = ⊥
Pass (Test ∷ tests) (b ∷ bs) = Test b × Pass tests bs

abbrev Is : ℕ → ℕ → Type 0
Is n b = b ≡ n

abbrev AtMost : ℕ → ℕ → Type 0
AtMost n b = b ≤ n

-- the tests from the byte of this place on
abbrev size_tests : List (ℕ → Type 0)
size_tests = any ∷ any ∷ any ∷ any ∷ []

abbrev type_tests : List (ℕ → Type 0)
type_tests = AtMost 4 ∷ AtMost 1 ∷ size_tests

abbrev version_tests : List (ℕ → Type 0)
version_tests = Is 1 ∷ Is 0 ∷ Is 1 ∷ Is 0 ∷ type_tests

abbrev header_tests : List (ℕ → Type 0)
header_tests = Is 73 ∷ Is 99 ∷ Is 101 ∷ Is 80 ∷ version_tests

-- what goes on with other bytes that pass
pub goes_on : (tests : List (ℕ → Type 0)) (front behind other : List ℕ) → Pass tests (front ++ behind) → Pass tests other → Pass tests (front ++ drop (length front) other)
goes_on tests [] behind other one two = two
goes_on [] (b ∷ bs) behind other one two = absurd one
goes_on (Test ∷ tests) (b ∷ bs) behind [] one two = absurd two
goes_on (Test ∷ tests) (b ∷ bs) behind (c ∷ cs) one two = (one.0, goes_on tests bs behind cs one.1 two.1)

four_pass : (four : List ℕ) → length four ≡ 4 → Pass (any ∷ any ∷ any ∷ any ∷ []) four
four_pass (a ∷ (b ∷ (c ∷ (d ∷ [])))) e = (tt, (tt, (tt, (tt, tt))))
four_pass [] e = absurd cc
four_pass (a ∷ []) e = absurd cc
four_pass (a ∷ (b ∷ [])) e = absurd cc
four_pass (a ∷ (b ∷ (c ∷ []))) e = absurd cc
four_pass (a ∷ (b ∷ (c ∷ (d ∷ (f ∷ more))))) e = absurd cc

pub header_passes : (bytes : List ℕ) (x : ℕ × ℤ) → header.Spells bytes x → Pass header_tests bytes
header_passes bytes x h =
    let parts = h.2 in let m = parts.3.2 in let v = parts.4 in let w = v.3.2 in let t = v.4 in let s = t.4 in
    rw (parts.2, m.2, m.3, m.4.2, m.4.3, m.4.4.2, m.4.4.3, m.4.4.4, v.2, w.2, w.3, w.4, t.2, t.3.0.1, s.2, s.3.2.0.0.1)
    (refl, (refl, (refl, (refl, (refl, (refl, (refl, (refl, (leb-true _ _ t.3.1, (leb-true _ _ s.3.2.1, four_pass s.1 s.4.0))))))))))

pub built : (t s : ℕ) (four : List ℕ) → t ≤ 4 → s ≤ 1 → length four ≡ 4 → (x : ℕ × ℤ) × header.Spells (73 ∷ 99 ∷ 101 ∷ 80 ∷ 1 ∷ 0 ∷ 1 ∷ 0 ∷ t ∷ s ∷ four) x
built t s four type_is status_is long = (
  (t, cast_signed w32 (from_le_bytes w32 four)),
  (
    (tt, (tt, (t, (tt, cast_signed w32 (from_le_bytes w32 four))))),
    refl,
    (
      73 ∷ 99 ∷ 101 ∷ 80 ∷ [],
      1 ∷ 0 ∷ 1 ∷ 0 ∷ t ∷ s ∷ four,
      refl,
      ((tt, (tt, (tt, tt))), refl, (73 ∷ [], 99 ∷ 101 ∷ 80 ∷ [], refl, refl, (99 ∷ [], 101 ∷ 80 ∷ [], refl, refl, (101 ∷ [], 80 ∷ [], refl, refl, refl)))),
      (
        1 ∷ 0 ∷ 1 ∷ 0 ∷ [],
        t ∷ s ∷ four,
        refl,
        ((tt, tt), refl, (1 ∷ 0 ∷ [], 1 ∷ 0 ∷ [], refl, refl, refl)),
        (
          t ∷ [],
          s ∷ four,
          refl,
          ((omega (arith, type_is), refl), le-leb t 4 type_is),
          (s ∷ [], four, refl, (s, refl, (((omega (arith, status_is), refl), le-leb s 2 (omega (arith, status_is))), le-leb s 1 status_is)), (long, refl)),
        ),
      ),
    ),
  ),
)

first_pass : {C : Type 0} (Test : ℕ → Type 0) (tests : List (ℕ → Type 0)) (bytes : List ℕ) → Pass (Test ∷ tests) bytes → ((b : ℕ) (bs : List ℕ) → bytes ≡ b ∷ bs → Test b → Pass tests bs → C) → C
first_pass Test tests [] h go = absurd h
first_pass Test tests (b ∷ bs) h go = go b bs refl h.0 h.1

no_pass : (bytes : List ℕ) → Pass [] bytes → bytes ≡ []
no_pass [] h = refl
no_pass (b ∷ bs) h = absurd h

pub passes_header : (bytes : List ℕ) → Pass header_tests bytes → (x : ℕ × ℤ) × header.Spells bytes x
passes_header bytes h =
    first_pass (Is 73) ((Is 99) ∷ (Is 101) ∷ (Is 80) ∷ version_tests) bytes h λ m0 r0 is0 m0_is h0.
    first_pass (Is 99) ((Is 101) ∷ (Is 80) ∷ version_tests) r0 h0 λ m1 r1 is1 m1_is h1.
    first_pass (Is 101) ((Is 80) ∷ version_tests) r1 h1 λ m2 r2 is2 m2_is h2.
    first_pass (Is 80) ((Is 1) ∷ (Is 0) ∷ (Is 1) ∷ (Is 0) ∷ type_tests) r2 h2 λ m3 r3 is3 m3_is h3.
    first_pass (Is 1) ((Is 0) ∷ (Is 1) ∷ (Is 0) ∷ type_tests) r3 h3 λ p0 r4 is4 p0_is h4.
    first_pass (Is 0) ((Is 1) ∷ (Is 0) ∷ type_tests) r4 h4 λ p1 r5 is5 p1_is h5.
    first_pass (Is 1) ((Is 0) ∷ type_tests) r5 h5 λ e0 r6 is6 e0_is h6.
    first_pass (Is 0) ((AtMost 4) ∷ (AtMost 1) ∷ size_tests) r6 h6 λ e1 r7 is7 e1_is h7.
    first_pass (AtMost 4) ((AtMost 1) ∷ size_tests) r7 h7 λ t r8 is8 t_is h8.
    first_pass (AtMost 1) (any ∷ any ∷ any ∷ any ∷ []) r8 h8 λ s r9 is9 s_is h9.
    first_pass any (any ∷ any ∷ any ∷ []) r9 h9 λ a r10 is10 a_is h10.
    first_pass any (any ∷ any ∷ []) r10 h10 λ b r11 is11 b_is h11.
    first_pass any (any ∷ []) r11 h11 λ c r12 is12 c_is h12.
    first_pass any [] r12 h12 λ d r13 is13 d_is h13.
    let m0_eq : m0 ≡ 73 = m0_is in
    let m1_eq : m1 ≡ 99 = m1_is in
    let m2_eq : m2 ≡ 101 = m2_is in
    let m3_eq : m3 ≡ 80 = m3_is in
    let p0_eq : p0 ≡ 1 = p0_is in
    let p1_eq : p1 ≡ 0 = p1_is in
    let e0_eq : e0 ≡ 1 = e0_is in
    let e1_eq : e1 ≡ 0 = e1_is in
    let none : r13 ≡ [] = no_pass r13 h13 in
    let all : bytes ≡ 73 ∷ 99 ∷ 101 ∷ 80 ∷ 1 ∷ 0 ∷ 1 ∷ 0 ∷ t ∷ s ∷ a ∷ b ∷ c ∷ d ∷ [] =
    rw (is0, is1, is2, is3, is4, is5, is6, is7, is8, is9, is10, is11, is12, is13, none, m0_eq, m1_eq, m2_eq, m3_eq, p0_eq, p1_eq, e0_eq, e1_eq) refl in
    rw all (built t s (a ∷ b ∷ c ∷ d ∷ []) t_is s_is refl)

-- ---- what stands next

pub whole_header : (bytes : List ℕ) → HEADER_BYTES ≤ length bytes → started bytes ≡ header.read (whole bytes)
whole_header bytes long = let past : drop (length bytes) good_header ≡ [] = drop_of_length-le good_header long in
    ap (λ (more : List ℕ). header.read (whole (bytes ++ more))) past ∙ ap (λ (all : List ℕ). header.read (whole all)) (append-nil bytes)

-- a message that stands whole is what stands next
pub next_message : (a b : List ℕ) (m : Message) → SpellsMessage a m → next_at (a ++ b) ≡ Ok (Some (m, record { place = length a; bytes = b }))
next_message a b m h =
    let long = message_long a m h in
    let there : length (a ++ b) ≡ length a + length b = length-append a b in
    let head = h.1 in
    let parts : a ++ b ≡ head ++ (h.2 ++ b) = ap (λ (c : List ℕ). c ++ b) h.3 ∙ append_assoc head h.2 b in
    let took : Took (whole (a ++ b)) head (record { place = length head; bytes = h.2 ++ b }) = record { parts = parts; moved = omega arith } in
    let read = header_lawful.only (whole (a ++ b)) (record { place = length head; bytes = h.2 ++ b }) head (h.0, pos (length a)) took h.4 in
    let enough : ltb (length (a ++ b)) HEADER_BYTES ≡ false = le-ltb _ _ (omega (arith, there, long)) in
    let all : ltb (length (a ++ b)) (length a) ≡ false = le-ltb _ _ (omega (arith, there)) in
    rw (
      whole_header (a ++ b) (omega (arith, there, long)),
      read,
      enough,
      claimed_is 10 LARGEST HEADER_BYTES (length a) h.5 h.5 long,
      all,
      message_only (whole (a ++ b)) (record { place = length a; bytes = b }) a m (front_took a b) h,
    ) refl

-- ---- fronts

pub good_passes : Pass header_tests good_header
good_passes = (refl, (refl, (refl, (refl, (refl, (refl, (refl, (refl, (omega arith, (omega arith, (tt, (tt, (tt, (tt, tt))))))))))))))

whole_read : (bytes : List ℕ) (x : ℕ × ℤ) → header.Spells bytes x → header.read (whole bytes) ≡ Ok (x, record { place = length bytes; bytes = [] })
whole_read bytes x h = header_lawful.only (whole bytes) (record { place = length bytes; bytes = [] }) bytes x (record { parts = sym (append-nil bytes); moved = omega arith }) h

pub front_next : (bytes : List ℕ) → IsFront bytes → next_at bytes ≡ Ok None
front_next bytes (inl (more, type, size, few, h)) =
    let mixed = passes_header _ (goes_on header_tests bytes more good_header (header_passes (bytes ++ more) (type, size) h) good_passes) in
    let lacking : ltb (length bytes) HEADER_BYTES ≡ true = lt-ltb _ _ few in
    rw (whole_read _ mixed.0 mixed.1, lacking) refl
front_next bytes (inr (head, more, type, n, parts, h, least, most, few)) =
    let long : length bytes ≡ HEADER_BYTES + length more = omega (arith, ap length parts, length-append head more, header_long head _ h) in
    let took : Took (whole bytes) head (record { place = length head; bytes = more }) = record { parts = parts; moved = omega arith } in
    let read = header_lawful.only (whole bytes) (record { place = length head; bytes = more }) head (type, pos n) took h in
    let enough : ltb (length bytes) HEADER_BYTES ≡ false = le-ltb _ _ (omega (arith, long)) in
    let lacking : ltb (length bytes) n ≡ true = lt-ltb _ _ few in
    rw (whole_header bytes (omega (arith, long)), read, enough, claimed_is 10 LARGEST HEADER_BYTES n most most least, lacking) refl

-- what the header says that was read, where the bytes go on as a header does
IsBytes-join : (a b : List ℕ) → IsBytes a → IsBytes b → IsBytes (a ++ b)
IsBytes-join [] b one two i = two i
IsBytes-join (x ∷ xs) b one two zero = one 0
IsBytes-join (x ∷ xs) b one two (suc i) = IsBytes-join xs b (λ j. one (suc j)) two i

IsBytes-drop : (n : ℕ) (a : List ℕ) → IsBytes a → IsBytes (drop n a)
IsBytes-drop n a h = IsBytes-rest (take n a) (drop n a) (rw (take-append-drop n a) h)

abbrev each_byte : List ℕ → Type 0
each_byte [] = Unit {0}
each_byte (b ∷ bs) = (ltb b 256 ≡ true) × each_byte bs

below : (i : ℕ) (bytes : List ℕ) → each_byte bytes → slice_index bytes i < 256
below i [] h = omega arith
below zero (b ∷ bs) h = ltb-true b 256 h.0
below (suc i) (b ∷ bs) h = below i bs h.1

good_bytes : IsBytes good_header
good_bytes i = below i good_header (refl, (refl, (refl, (refl, (refl, (refl, (refl, (refl, (refl, (refl, (refl, (refl, (refl, (refl, tt))))))))))))))

no_none : (bytes : List ℕ) → (message_at (whole bytes) >>= λ m. Ok (Some m)) ≡ Ok None → ⊥
no_none bytes e = then_ok (message_at (whole bytes)) (λ m. Ok (Some m)) None e λ m m_is last. absurd cc

pub next_front : (bytes : List ℕ) → IsBytes bytes → next_at bytes ≡ Ok None → IsFront bytes
next_front bytes fits e =
    let filling = drop (length bytes) good_header in
    then_ok (started bytes) (λ head. cond (ltb (length bytes) HEADER_BYTES) (Ok None) (claimed 10 LARGEST HEADER_BYTES head.0.1 >>= counted bytes)) None e λ head head_is later.
    elim (choice (ltb (length bytes) HEADER_BYTES) (Ok None) (claimed 10 LARGEST HEADER_BYTES head.0.1 >>= counted bytes) (Ok None) later) [
      | inl few ↦
          let less : length bytes < HEADER_BYTES = ltb-true _ _ few.0 in
          let f = header_lawful.found (whole (bytes ++ filling)) head (IsBytes-join bytes filling fits (IsBytes-drop (length bytes) good_header good_bytes)) head_is in
          let long = header_long f.0 head.0 f.2 in
          let total : length (bytes ++ filling) ≡ HEADER_BYTES = omega (arith, length-append bytes filling, length-drop (length bytes) good_header, less) in
          let nothing_left : head.1.bytes ≡ [] = nil_from_length head.1.bytes (omega (arith, ap length f.1.parts, length-append f.0 head.1.bytes, total, long)) in
          let all : bytes ++ filling ≡ f.0 = f.1.parts ∙ ap (λ (rest : List ℕ). f.0 ++ rest) nothing_left ∙ append-nil f.0 in
          inl (filling, head.0.0, head.0.1, less, subst (λ (z : List ℕ). header.Spells z head.0) (sym all) f.2)
      | inr more ↦
          let long : HEADER_BYTES ≤ length bytes = ltb-false _ _ more.0 in
          then_ok (claimed 10 LARGEST HEADER_BYTES head.0.1) (counted bytes) None more.1 λ n n_is last.
          claimed_ok 10 LARGEST HEADER_BYTES head.0.1 n n_is λ same most left least.
          let f = header_lawful.found (whole bytes) head fits (sym (whole_header bytes long) ∙ head_is) in
          elim (choice (ltb (length bytes) n) (Ok None) (message_at (whole bytes) >>= λ m. Ok (Some m)) (Ok None) last) [
            | inl few ↦ inr (f.0, head.1.bytes, head.0.0, n, f.1.parts, subst (λ (z : ℤ). header.Spells f.0 (head.0.0, z)) same f.2, least, most, ltb-true _ _ few.0)
            | inr all ↦ absurd (no_none bytes all.1)
          ]
    ]
