-- Whole messages are read as they are spelled, and what is put spells them.
use Rattle.std.proofs.Common.{◌≡◌, ℕ, ℤ, pos, negsuc, zero, suc, ◌+◌, ◌-◌, ◌≤◌, IsTrue, List, ◌++◌, length, Ok, refl, sym, ap, subst, ◌∙◌, arith}
use Rattle.std.specs.Prelude.{FitsSigned}
use Rattle.std.specs.Int.{w32}
use Rattle.std.proofs.lemmas.Bool.{leb-true, le-leb}
use Rattle.std.proofs.lemmas.List.{length-append}
use Rattle.ice_prims.specs.Rest.{Rest, ◌>>=◌, Took, IsBytes, bound_at, bytes_at}
use Rattle.ice_prims.proofs.Parts.{then_ok, ok_is, between, Took-then, Took-fits, IsBytes-rest, bytes_found, bytes_only}
use Rattle.ice_encoding.specs.declared.limits.TheConstants.{LARGEST}
use Rattle.ice_encoding.specs.Parts.{IsLawful}
use Rattle.ice_encoding.specs.Bounds.{claimed, filled}
use Rattle.ice_encoding.proofs.Joined.{answer as done, byte_lawful, int_lawful, exactly_lawful, nothing_lawful, both_lawful, made_lawful, made_sorted, tested_lawful, chosen_lawful, times_lawful, times_length}
use Rattle.ice_encoding.proofs.Bounded.{claimed_ok, claimed_is, filled_found, filled_only}
use Rattle.ice_messages.specs.declared.message.Message.{Message}
use Rattle.ice_messages.specs.declared.message.Message.TheVariants.{Request, Batch, Reply, Validate, Close}
use Rattle.ice_messages.specs.declared.message.TheConstants.{HEADER_BYTES}
use Rattle.ice_messages.specs.Calls.{call}
use Rattle.ice_messages.specs.Messages.{calls, is_count, count_of, body_by, type_of, magic, versions, compression, header, message_at, SpellsMessage, message_bytes, IsMessage}
use Rattle.ice_messages.proofs.Called.{call_lawful, answer_lawful}

-- ---- by the type

counts : (z : ℤ) → IsTrue (is_count z) → pos (count_of z) ≡ z
counts (pos n) h = refl
counts (negsuc n) h = absurd cc

calls_lawful : IsLawful calls
calls_lawful = chosen_lawful _ _ _ (tested_lawful _ _ _ int_lawful) (λ z. times_lawful call call_lawful (count_of z))
    (λ z a b items first second. ap pos (times_length call.Spells (count_of z) b items second) ∙ counts z first.1)

pub body_by_lawful : (type : ℕ) → IsLawful (body_by type)
body_by_lawful zero = made_lawful _ _ _ (λ x. refl) (both_lawful _ _ int_lawful call_lawful)
body_by_lawful (suc zero) = made_lawful _ _ _ (λ x. refl) calls_lawful
body_by_lawful (suc (suc zero)) = made_lawful _ _ _ (λ x. refl) (both_lawful _ _ int_lawful answer_lawful)
body_by_lawful (suc (suc (suc zero))) = nothing_lawful _
body_by_lawful (suc (suc (suc (suc n)))) = nothing_lawful _

-- ---- the header

pub magic_lawful : IsLawful magic
magic_lawful = made_lawful _ _ _ (λ x. refl) (both_lawful _ _ (exactly_lawful _ _) (both_lawful _ _ (exactly_lawful _ _) (both_lawful _ _ (exactly_lawful _ _) (exactly_lawful _ _))))

pub versions_lawful : IsLawful versions
versions_lawful = made_lawful _ _ _ (λ x. refl) (both_lawful _ _ (exactly_lawful _ _) (exactly_lawful _ _))

pub compression_lawful : IsLawful compression
compression_lawful = made_sorted _ _ _ (λ s is. (((omega arith, refl), refl), refl)) (λ s is. omega arith) (tested_lawful _ _ _ (tested_lawful _ _ _ byte_lawful))

pub header_lawful : IsLawful header
header_lawful = made_lawful _ _ _ (λ x. refl) (both_lawful _ _ magic_lawful (both_lawful _ _ versions_lawful (both_lawful _ _ (tested_lawful _ _ _ byte_lawful) (both_lawful _ _ compression_lawful int_lawful))))

-- ---- a header has fourteen bytes

magic_long : (bytes : List ℕ) (x : Unit {0}) → magic.Spells bytes x → length bytes ≡ 4
magic_long bytes x h = let o = h.2 in rw (o.2, o.3, o.4.2, o.4.3, o.4.4.2, o.4.4.3, o.4.4.4) refl

versions_long : (bytes : List ℕ) (x : Unit {0}) → versions.Spells bytes x → length bytes ≡ 4
versions_long bytes x h = let o = h.2 in rw (o.2, o.3, o.4) refl

pub header_long : (bytes : List ℕ) (x : ℕ × ℤ) → header.Spells bytes x → length bytes ≡ HEADER_BYTES
header_long bytes x h =
    let parts = h.2 in
    let four = magic_long parts.0 _ parts.3 in
    let versions_are = parts.4 in
    let more = versions_long versions_are.0 _ versions_are.3 in
    let type_is = versions_are.4 in
    let one : length type_is.0 ≡ 1 = ap length type_is.3.0.1 in
    let status_is = type_is.4 in
    let two : length status_is.0 ≡ 1 = ap length status_is.3.2.0.0.1 in
    omega (
      arith,
      four,
      more,
      one,
      two,
      status_is.4.0,
      ap length parts.2,
      ap length versions_are.2,
      ap length type_is.2,
      ap length status_is.2,
      length-append parts.0 parts.1,
      length-append versions_are.0 versions_are.1,
      length-append type_is.0 type_is.1,
      length-append status_is.0 status_is.1,
    )

-- ---- a message

pub message_found : (r : Rest) (y : Message × Rest) → IsBytes r.bytes → message_at r ≡ Ok y → (bytes : List ℕ) × Took r bytes y.1 × SpellsMessage bytes y.0
message_found r y fits e =
    then_ok (header.read r) (λ head. claimed (r.place + 10) (length r.bytes) HEADER_BYTES head.0.1 >>= λ n. bound_at (n - HEADER_BYTES) head.1 >>= λ bound. filled (body_by head.0.0).read bound.0 >>= λ m. Ok (m, bound.1)) y e λ head head_is a.
    then_ok (claimed (r.place + 10) (length r.bytes) HEADER_BYTES head.0.1) (λ n. bound_at (n - HEADER_BYTES) head.1 >>= λ bound. filled (body_by head.0.0).read bound.0 >>= λ m. Ok (m, bound.1)) y a λ n n_is b.
    claimed_ok (r.place + 10) (length r.bytes) HEADER_BYTES head.0.1 n n_is λ same large there small.
    then_ok (bound_at (n - HEADER_BYTES) head.1) (λ bound. filled (body_by head.0.0).read bound.0 >>= λ m. Ok (m, bound.1)) y b λ bound bound_is c.
    then_ok (filled (body_by head.0.0).read bound.0) (λ m. Ok (m, bound.1)) y c λ m m_is last.
    then_ok (bytes_at (n - HEADER_BYTES) head.1) (λ bytes. Ok (record { place = head.1.place; bytes = bytes.0 }, bytes.1)) bound bound_is λ body body_is bound_same.
    let f = header_lawful.found r head fits head_is in
    let g = bytes_found (n - HEADER_BYTES) head.1 body body_is in
    let long = header_long f.0 head.0 f.2 in
    let count : length (f.0 ++ body.0) ≡ n = omega (arith, length-append f.0 body.0, long, g.1, small) in
    let behind = (Took-fits r head.1 f.0 fits f.1).1 in
    let at_bound : bound ≡ (record { place = head.1.place; bytes = body.0 }, body.1) = sym (ok_is _ _ bound_same) in
    let filled_is : filled (body_by head.0.0).read (record { place = head.1.place; bytes = body.0 }) ≡ Ok m = subst (λ (z : Rest × Rest). filled (body_by head.0.0).read z.0 ≡ Ok m) at_bound m_is in
    let spelled = filled_found (body_by head.0.0) (body_by_lawful head.0.0) _ m ((Took-fits head.1 body.1 body.0 behind g.0).0) filled_is in
    let result : (m, body.1) ≡ y = ok_is _ _ (subst (λ (z : Rest × Rest). done (m, z.1) ≡ done y) at_bound last) in
    subst (λ (z : Message × Rest). (bytes : List ℕ) × Took r bytes z.1 × SpellsMessage bytes z.0) result (
      f.0 ++ body.0,
      Took-then r head.1 body.1 f.0 body.0 f.1 g.0,
      (head.0.0, f.0, body.0, refl, subst (λ (z : ℤ). header.Spells f.0 (head.0.0, z)) (same ∙ ap pos (sym count)) f.2, omega (arith, count, large), spelled),
    )

pub message_only : (r s : Rest) (bytes : List ℕ) (m : Message) → Took r bytes s → SpellsMessage bytes m → message_at r ≡ Ok (m, s)
message_only r s bytes m k h =
    let type = h.0 in let head = h.1 in let body = h.2 in
    let mid = between r s head body (rw (← h.3) k) in
    let long = header_long head _ h.4 in
    let total : length bytes ≡ HEADER_BYTES + length body = omega (arith, ap length h.3, length-append head body, long) in
    let there : length bytes ≤ length r.bytes = omega (arith, ap length k.parts, length-append bytes s.bytes) in
    let cut : length body ≡ length bytes - HEADER_BYTES = omega (arith, total) in
    rw (
      header_lawful.only r mid.0 head (type, pos (length bytes)) mid.1 h.4,
      claimed_is (r.place + 10) (length r.bytes) HEADER_BYTES (length bytes) h.5 there (omega (arith, total)),
      bytes_only (length bytes - HEADER_BYTES) mid.0 s body cut mid.2,
      filled_only (body_by type) (body_by_lawful type) (record { place = mid.0.place; bytes = body }) m h.6,
    ) refl

-- ---- which messages there are

header_type : (bytes : List ℕ) (x : ℕ × ℤ) → header.Spells bytes x → x.0 ≤ 4
header_type bytes x h = rw h.1 (leb-true _ _ h.2.4.4.3.1)

type_tells : (type : ℕ) (body : List ℕ) (m : Message) → type ≤ 4 → (body_by type).Spells body m → type_of m ≡ type
type_tells zero body m le h = rw h.1 refl
type_tells (suc zero) body m le h = rw h.1 refl
type_tells (suc (suc zero)) body m le h = rw h.1 refl
type_tells (suc (suc (suc zero))) body m le h = rw h.1 refl
type_tells (suc (suc (suc (suc zero)))) body m le h = rw h.1 refl
type_tells (suc (suc (suc (suc (suc n))))) body m le h = absurd (omega (arith, le))

pub message_sort : (bytes : List ℕ) (m : Message) → IsBytes bytes → SpellsMessage bytes m → IsMessage m
message_sort bytes m fits h =
    let same = type_tells h.0 h.2 m (header_type h.1 _ h.4) h.6 in
    subst (λ (type : ℕ). (body_by type).Is m) (sym same) ((body_by_lawful h.0).sort h.2 m (IsBytes-rest h.1 h.2 (rw (← h.3) fits)) h.6)

types : (m : Message) → type_of m ≤ 4
types (Request id c) = omega arith
types (Batch items) = omega arith
types (Reply id a) = omega arith
types Validate = omega arith
types Close = omega arith

header_is : (type n : ℕ) → type ≤ 4 → n ≤ LARGEST → header.Is (type, pos n)
header_is type n small large = ((((tt, (tt, (tt, tt))), refl), (((tt, tt), refl), ((omega (arith, small), le-leb type 4 small), ((((omega arith, refl), refl), refl), fits)))), refl)
  where
    fits : FitsSigned w32 (pos n)
    fits = omega (arith, large)

pub header_put_long : (type : ℕ) (z : ℤ) → length (header.put (type, z)) ≡ HEADER_BYTES
header_put_long type z = refl

pub message_put : (m : Message) → IsMessage m → length (message_bytes m) ≤ LARGEST → SpellsMessage (message_bytes m) m
message_put m is large =
    let body = (body_by (type_of m)).put m in
    let n = HEADER_BYTES + length body in
    let head = header.put (type_of m, pos n) in
    let long = header_put_long (type_of m) (pos n) in
    let within : n ≤ LARGEST = omega (arith, large, length-append head body, long) in
    let spelled = header_lawful.put (type_of m, pos n) (header_is (type_of m) n (types m) within) in
    let total : length (head ++ body) ≡ n = omega (arith, length-append head body, header_long head _ spelled) in
    (type_of m, head, body, refl, subst (λ (k : ℕ). header.Spells head (type_of m, pos k)) (sym total) spelled, large, (body_by_lawful (type_of m)).put m is)

-- what is written of a message is not longer than what it was read from
pub message_shortest : (bytes : List ℕ) (m : Message) → IsBytes bytes → SpellsMessage bytes m → length (message_bytes m) ≤ length bytes
message_shortest bytes m fits h =
    let body = (body_by_lawful h.0).shortest h.2 m (IsBytes-rest h.1 h.2 (rw (← h.3) fits)) h.6 in
    let same = type_tells h.0 h.2 m (header_type h.1 _ h.4) h.6 in
    let less : length ((body_by (type_of m)).put m) ≤ length h.2 = subst (λ (type : ℕ). length ((body_by type).put m) ≤ length h.2) (sym same) body in
    let n = HEADER_BYTES + length ((body_by (type_of m)).put m) in
    omega (arith, less, length-append (header.put (type_of m, pos n)) ((body_by (type_of m)).put m), header_put_long (type_of m) (pos n), ap length h.3, length-append h.1 h.2, header_long h.1 _ h.4)
