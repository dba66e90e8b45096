-- Reading stays within the bytes that are left, and so do its faults.
use Rattle.std.proofs.Common.{◌≡◌, ℕ, ℤ, pos, negsuc, zero, suc, ◌+◌, ◌≤◌, Bool, true, false, List, [], ◌∷◌, length, take, drop, Option, None, Some, Result, Ok, Err, refl, arith, ltb, cond}
use Rattle.std.specs.Str.{is_utf8}
use Rattle.std.specs.Int.{Width, w32, from_le_bytes}
use Rattle.std.proofs.lemmas.Bool.{ltb-false}
use Rattle.std.proofs.lemmas.List.{length-drop}
use Rattle.ice_prims.specs.declared.fault.Fault.{Fault}
use Rattle.ice_prims.specs.declared.fault.Kind.{Kind}
use Rattle.ice_prims.specs.declared.fault.Kind.TheVariants.{Short, TooLarge, BadSize}
use Rattle.ice_prims.specs.Rest.{Rest, fault, ◌>>=◌, after, bytes_at}
use Rattle.ice_prims.specs.Number.{byte_at, signed_at, size_at, text_at, checked_size, long_form_at}
use Rattle.ice_encoding.specs.Parts.{read_times}
use Rattle.ice_encoding.specs.Bounds.{claimed, ended, filled}
use Rattle.ice_encoding.specs.Identity.{identity, facet}
use Rattle.ice_messages.specs.Context.{Entry, entries_at, value_of, with_entry, new_name, context}
use Rattle.ice_messages.specs.Calls.{mode, encapsulation_at, call, missing, answer_by, answer}
use Rattle.ice_messages.specs.declared.message.Message.TheVariants.{Validate, Close}
use Rattle.ice_messages.specs.Messages.{header, magic, versions, compression, body_by, count_of}

abbrev end : Rest → ℕ
end r = r.place + length r.bytes

-- what a reader answers that may go up to this place
abbrev pub Within : {A : Type 0} → ℕ → Result (A × Rest) Fault → Type 0
Within n (Ok x) = end x.1 ≤ n
Within n (Err e) = e.place ≤ n

abbrev pub StaysWithin : {A : Type 0} → (Rest → Result (A × Rest) Fault) → Type 0
StaysWithin read = (r : Rest) → Within (end r) (read r)

wider : {A : Type 0} (n m : ℕ) (y : Result (A × Rest) Fault) → n ≤ m → Within n y → Within m y
wider n m (Ok x) le h = omega (arith, le, h)
wider n m (Err e) le h = omega (arith, le, h)

goes_on : {A B : Type 0} (n : ℕ) (y : Result (A × Rest) Fault) (f : A × Rest → Result (B × Rest) Fault) → Within n y → ((x : A × Rest) → end x.1 ≤ n → Within n (f x)) → Within n (y >>= f)
goes_on n (Ok x) f h go = go x h
goes_on n (Err e) f h go = h

by_test : {A : Type 0} (n : ℕ) (b : Bool) (y z : Result (A × Rest) Fault) → Within n y → Within n z → Within n (cond b y z)
by_test n true y z one two = one
by_test n false y z one two = two

-- ---- parts of the encoding

bytes_within : (n : ℕ) → StaysWithin (bytes_at n)
bytes_within n r = tested (ltb (length r.bytes) n) refl
  where
    tested : (b : Bool) → ltb (length r.bytes) n ≡ b → Within (end r) (cond b (fault r.place Short) (Ok (take n r.bytes, after r n)))
    tested true is = omega arith
    tested false is = omega (arith, ltb-false _ _ is, length-drop n r.bytes)

byte_within : StaysWithin byte_at
byte_within r = goes_on _ _ _ (bytes_within 1 r) (λ x h. h)

signed_within : (w : Width) → StaysWithin (signed_at w)
signed_within w r = goes_on _ _ _ (bytes_within _ r) (λ x h. h)

checked : (n place k : ℕ) (r : Rest) → place ≤ n → end r ≤ n → Within n (checked_size place k r)
checked n place k r le h = by_test n _ (fault place BadSize) (Ok (k, r)) le h

size_within : StaysWithin size_at
size_within r = goes_on _ _ _ (byte_within r) (λ x h. by_test _ (ltb x.0 255) _ _ h long)
  where
    long : Within (end r) (long_form_at r)
    long = goes_on _ _ _ (bytes_within 5 r) (λ five h. checked (end r) r.place (from_le_bytes w32 (drop 1 five.0)) five.1 (omega arith) h)

text_within : StaysWithin text_at
text_within r = goes_on _ _ _ (size_within r) (λ n h. goes_on _ _ _ (wider _ _ (bytes_at n.0 n.1) h (bytes_within n.0 n.1)) (λ s k. by_test _ (is_utf8 s.0) _ _ k (omega (arith, h))))

-- ---- joined

module _ {A B : Type 0} (first : Rest → Result (A × Rest) Fault) (one : StaysWithin first) where
  made_within : (make : A → B) → StaysWithin (λ r. first r >>= λ x. Ok (make x.0, x.1))
  made_within make r = goes_on _ _ _ (one r) (λ x h. h)

  chosen_within : (second : A → Rest → Result (B × Rest) Fault) → ((x : A) → StaysWithin (second x)) → StaysWithin (λ r. first r >>= λ x. second x.0 x.1)
  chosen_within second two r = goes_on _ _ _ (one r) (λ x h. wider _ _ (second x.0 x.1) h (two x.0 x.1))

  both_within : (second : Rest → Result (B × Rest) Fault) → StaysWithin second → StaysWithin {A = A × B} (λ r. first r >>= λ a. second a.1 >>= λ b. Ok ((a.0, b.0), b.1))
  both_within second two r = goes_on _ _ _ (one r) (λ x h. goes_on _ _ _ (wider _ _ (second x.1) h (two x.1)) (λ y k. k))

tested_within : {A : Type 0} (one : Rest → Result (A × Rest) Fault) (test : A → Bool) (kind : Kind) → StaysWithin one → StaysWithin (λ r. one r >>= λ x. cond (test x.0) (Ok x) (fault r.place kind))
tested_within one test kind h r = goes_on _ _ _ (h r) (λ x k. by_test _ (test x.0) _ _ k (omega arith))

exact_within : (n : ℕ) (test : List ℕ → Bool) (kind : Kind) → StaysWithin {A = Unit {0}} (λ r. bytes_at n r >>= λ b. cond (test b.0) (Ok (tt, b.1)) (fault r.place kind))
exact_within n test kind r = goes_on _ _ _ (bytes_within n r) (λ x k. by_test _ (test x.0) _ _ k (omega arith))

times_within : {A : Type 0} (read : Rest → Result (A × Rest) Fault) → StaysWithin read → (n : ℕ) → StaysWithin (read_times read n)
times_within read h zero r = omega arith
times_within read h (suc n) r = goes_on _ _ _ (h r) (λ x k. goes_on _ _ _ (wider _ _ (read_times read n x.1) k (times_within read h n x.1)) (λ y l. l))

-- ---- a call

identity_within : StaysWithin identity.read
identity_within = made_within _ (both_within _ text_within _ text_within) _

facet_within : StaysWithin facet.read
facet_within = made_within _ (chosen_within _ (tested_within _ _ _ size_within) _ (times_within text_at text_within)) _

mode_within : StaysWithin mode.read
mode_within = tested_within _ _ _ byte_within

new_within : {A : Type 0} (n place : ℕ) (found : Option (List ℕ)) (next : Result (A × Rest) Fault) → place ≤ n → Within n next → Within n (new_name found place next)
new_within n place None next le h = h
new_within n place (Some value) next le h = le

entries_within : (n : ℕ) (before : List Entry) → StaysWithin (entries_at n before)
entries_within zero before r = omega arith
entries_within (suc n) before r = goes_on _ _ _ (text_within r) (λ name h.
    goes_on _ _ _ (new_within _ r.place (value_of before name.0) (text_at name.1) (omega arith) (wider _ _ (text_at name.1) h (text_within name.1))) (λ value k.
    wider _ _ (entries_at n (with_entry before (name.0, value.0)) value.1) k (entries_within n (with_entry before (name.0, value.0)) value.1)))

context_within : StaysWithin context.read
context_within = chosen_within _ size_within _ (λ n. entries_within n [])

-- a claim is refused at its place
pub claim_place : (place left smallest : ℕ) (z : ℤ) (e : Fault) → claimed place left smallest z ≡ Err e → e.place ≡ place
claim_place place left smallest (negsuc m) e h = cc
claim_place place left smallest (pos m) e h = tested (ltb left m) (ltb m smallest) (ltb _ m) h
  where
    tested : (short small large : Bool) → cond large (fault place TooLarge) (cond short (fault place Short) (cond small (fault place BadSize) (Ok m))) ≡ Err e → e.place ≡ place
    tested short small true h = cc
    tested true small false h = cc
    tested false true false h = cc
    tested false false false h = absurd cc

claimed_within : {A : Type 0} (m place : ℕ) (y : Result ℕ Fault) (f : ℕ → Result (A × Rest) Fault) → place ≤ m → ((e : Fault) → y ≡ Err e → e.place ≡ place) → ((n : ℕ) → Within m (f n)) → Within m (y >>= f)
claimed_within m place (Ok n) f le at go = go n
claimed_within m place (Err e) f le at go = omega (arith, le, at e refl)

encapsulation_within : StaysWithin encapsulation_at
encapsulation_within r = goes_on _ _ _ (signed_within w32 r) (λ claim h.
    claimed_within _ r.place (claimed r.place (length r.bytes) _ claim.0) (λ n. bytes_at n r) (omega arith) (claim_place r.place (length r.bytes) _ claim.0) (λ n. bytes_within n r))

call_within : StaysWithin call.read
call_within = made_within _ (both_within _ identity_within _ (both_within _ facet_within _ (both_within _ text_within _ (both_within _ mode_within _ (both_within _ context_within _ encapsulation_within))))) _

-- ---- an answer

missing_within : (status : ℕ) → StaysWithin (missing status).read
missing_within status = made_within _ (both_within _ identity_within _ (both_within _ facet_within _ text_within)) _

answered_within : (status : ℕ) → StaysWithin (answer_by status).read
answered_within zero = made_within _ encapsulation_within _
answered_within (suc zero) = made_within _ encapsulation_within _
answered_within (suc (suc zero)) = missing_within 2
answered_within (suc (suc (suc zero))) = missing_within 3
answered_within (suc (suc (suc (suc zero)))) = missing_within 4
answered_within (suc (suc (suc (suc (suc n))))) = made_within _ text_within _

answer_within : StaysWithin answer.read
answer_within = chosen_within _ (tested_within _ _ _ byte_within) _ answered_within

-- ---- a message

nothing_within : {A : Type 0} (x : A) → StaysWithin (λ r. Ok (x, r))
nothing_within x r = omega arith

pub body_within : (type : ℕ) → StaysWithin (body_by type).read
body_within zero = made_within _ (both_within _ (signed_within w32) _ call_within) _
body_within (suc zero) = made_within _ (chosen_within _ (tested_within _ _ _ (signed_within w32)) _ (λ z. times_within call.read call_within (count_of z))) _
body_within (suc (suc zero)) = made_within _ (both_within _ (signed_within w32) _ answer_within) _
body_within (suc (suc (suc zero))) = nothing_within Validate
body_within (suc (suc (suc (suc n)))) = nothing_within Close

magic_within : StaysWithin magic.read
magic_within = made_within _ (both_within _ (exact_within _ _ _) _ (both_within _ (exact_within _ _ _) _ (both_within _ (exact_within _ _ _) _ (exact_within _ _ _)))) _

versions_within : StaysWithin versions.read
versions_within = made_within _ (both_within _ (exact_within _ _ _) _ (exact_within _ _ _)) _

status_within : StaysWithin compression.read
status_within = made_within _ (tested_within _ _ _ (tested_within _ _ _ byte_within)) _

pub header_within : StaysWithin header.read
header_within = made_within _ (both_within _ magic_within _ (both_within _ versions_within _ (both_within _ (tested_within _ _ _ byte_within) _ (both_within _ status_within _ (signed_within w32))))) _

pub filled_place : {A : Type 0} (read : Rest → Result (A × Rest) Fault) → StaysWithin read → (r : Rest) (e : Fault) → filled read r ≡ Err e → e.place ≤ end r
filled_place {A} read h r e is = by_answer (read r) (h r) is
  where
    by_end : (n place : ℕ) (left : List ℕ) (x : A) → place ≤ n → ended left place x ≡ Err e → e.place ≤ n
    by_end n place [] x le is = absurd cc
    by_end n place (b ∷ bs) x le is = let at : e.place ≡ place = cc in omega (arith, at, le)

    by_answer : (y : Result (A × Rest) Fault) → Within (end r) y → (y >>= λ x. ended x.1.bytes x.1.place x.0) ≡ Err e → e.place ≤ end r
    by_answer (Ok x) h is = by_end (end r) x.1.place x.1.bytes x.0 (omega (arith, h)) is
    by_answer (Err d) h is = let same : d.place ≡ e.place = cc in omega (arith, same, h)
