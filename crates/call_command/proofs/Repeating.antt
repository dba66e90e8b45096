-- Calls of a batch that are all one.
use Rattle.std.proofs.Common.{◌≡◌, ◌≤◌, ◌<◌, ◌+◌, ◌-◌, ◌*◌, ◌^◌, Bool, true, false, ℕ, ℤ, pos, zero, suc, min, List, [], length, refl, sym, ap, subst, ◌∙◌, arith}
use Rattle.std.specs.Prelude.{replicate, nat_le}
use Rattle.std.specs.List.{flat_map}
use Rattle.std.proofs.lemmas.List.{length-append}
use Rattle.std.proofs.lemmas.List.Concat.{length-flat_map}
use Rattle.std.proofs.lemmas.List.Folds.{sum_by-replicate}
use Rattle.ice_encoding.specs.Parts.{Each, int}
use Rattle.std.proofs.Math.Nat.{le-mul_of_pos_right, mul_comm}
use Rattle.std.proofs.lemmas.Bool.{leb-true, leb-false}
use Rattle.ice_messages.specs.declared.message.Call.{Call}
use Rattle.ice_messages.specs.declared.message.Message.{Message}
use Rattle.ice_messages.specs.declared.message.Message.TheVariants.{Request, Batch}
use Rattle.ice_messages.specs.declared.message.TheConstants.{HEADER_BYTES}
use Rattle.ice_messages.specs.Calls.{call}
use Rattle.ice_messages.specs.Messages.{header, body_by, type_of, message_bytes}
use Rattle.ice_messages.specs.Written.{told}
use Rattle.call_command.specs.Messages.{message_of}

-- a message is its header and what follows it
header_long : (type : ℕ) (z : ℤ) → length (header.put (type, z)) ≡ HEADER_BYTES
header_long type z = refl

message_long : (m : Message) → length (message_bytes m) ≡ 14 + length ((body_by (type_of m)).put m)
message_long m =
    let body = (body_by (type_of m)).put m in
    omega (arith, length-append (header.put (type_of m, pos (HEADER_BYTES + length body))) body, header_long (type_of m) (pos (HEADER_BYTES + length body)))

pub all_alike : {A : Type 0} (P : A → Type 0) (x : A) (n : ℕ) → P x → Each P (replicate n x)
all_alike P x zero p = tt
all_alike P x (suc n) p = (p, all_alike P x n p)

pub some_alike : {A : Type 0} (x : A) (n : ℕ) → 0 < n → replicate n x ≡ [] → ⊥
some_alike x zero lt e = omega (arith, lt)
some_alike x (suc n) lt e = cc

-- in the first two it is a request
pub asked_for : (mode times : ℕ) (c : Call) → mode ≡ 0 → message_of mode times c ≡ Request (pos 1) c
asked_for zero times c is = refl
asked_for (suc n) times c is = absurd (omega (arith, is))

pub unasked : (mode times : ℕ) (c : Call) → mode ≡ 1 → message_of mode times c ≡ Request (pos 0) c
unasked zero times c is = absurd (omega (arith, is))
unasked (suc zero) times c is = refl
unasked (suc (suc n)) times c is = absurd (omega (arith, is))

-- ---- lengths

int_long : (z : ℤ) → length (int.put z) ≡ 4
int_long z = refl

request_long : (id : ℤ) (c : Call) → length (message_bytes (Request id c)) ≡ 18 + length (call.put c)
request_long id c =
    let parts : length ((body_by 0).put (Request id c)) ≡ length (int.put id) + length (call.put c) = length-append (int.put id) (call.put c) in
    omega (arith, message_long (Request id c), parts, int_long id)

batch_long : (items : List Call) → length (message_bytes (Batch items)) ≡ 18 + length (flat_map call.put items)
batch_long items =
    let count = int.put (pos (length items)) in
    let parts : length ((body_by 1).put (Batch items)) ≡ length count + length (flat_map call.put items) = length-append count (flat_map call.put items) in
    omega (arith, message_long (Batch items), parts, int_long (pos (length items)))

-- products are left to one that tells them
told_product : (n each times product all k m : ℕ) → n ≡ min (18 + each) (2 ^ 64 - 1) → n - 18 ≤ product → (n - 18 ≡ each → product ≡ all) → each ≤ all → k ≡ min product (2 ^ 64 - 1) → m ≡ min (k + 18) (2 ^ 64 - 1)
    → m ≡ min (18 + all) (2 ^ 64 - 1)
told_product n each times product all k m n_is less same more k_is m_is = by_fit (nat_le (18 + each) (2 ^ 64 - 1)) refl
  where
    by_fit : (b : Bool) → nat_le (18 + each) (2 ^ 64 - 1) ≡ b → m ≡ min (18 + all) (2 ^ 64 - 1)
    by_fit true e = let fits = leb-true (18 + each) (2 ^ 64 - 1) e in let exact : n - 18 ≡ each = omega (arith, n_is, fits) in omega (arith, same exact, k_is, m_is)
    by_fit false e = let above = leb-false (18 + each) (2 ^ 64 - 1) e in omega (arith, n_is, above, less, more, k_is, m_is)

-- the length of a batch of calls that are all one, as it is told
pub told_batch : (c : Call) (times n k m : ℕ) → 0 < times → ((id : ℤ) → n ≡ told (length (message_bytes (Request id c)))) → k ≡ min ((n - 18) * times) (2 ^ 64 - 1) → m ≡ min (k + 18) (2 ^ 64 - 1)
    → m ≡ told (length (message_bytes (Batch (replicate times c))))
told_batch c times n k m some n_is k_is m_is =
    let each = length (call.put c) in
    let all : length (flat_map call.put (replicate times c)) ≡ times * each = length-flat_map call.put (replicate times c) ∙ sum_by-replicate (λ (x : Call). length (call.put x)) times c in
    let one : n ≡ min (18 + each) (2 ^ 64 - 1) = n_is (pos 1) ∙ ap told (request_long (pos 1) c) in
    let turned : each * times ≡ times * each = mul_comm each times in
    let whole : m ≡ min (18 + times * each) (2 ^ 64 - 1) = told_product n each times ((n - 18) * times) (times * each) k m one (le-mul_of_pos_right (n - 18) some)
    (λ exact. ap (λ (x : ℕ). x * times) exact ∙ turned) (subst (λ (x : ℕ). each ≤ x) turned (le-mul_of_pos_right each some)) k_is m_is in
    whole ∙ sym (ap told (batch_long (replicate times c) ∙ ap (λ (x : ℕ). 18 + x) all))
