-- What a call and an answer are made of is read as it is spelled, and what is put spells it.
use Rattle.std.proofs.Common.{◌≡◌, ℕ, ℤ, pos, zero, suc, ◌≤◌, List, [], ◌++◌, length, Ok, refl, sym, ap, subst, ◌∙◌, arith, take, drop}
use Rattle.ice_encoding.specs.Parts.{IsLawful, int}
use Rattle.std.specs.Int.{w32}
use Rattle.std.proofs.lemmas.List.{length-append, take-append-le, take_at, take-append-drop}
use Rattle.ice_prims.specs.Rest.{Rest, ◌>>=◌, Took, bytes_at}
use Rattle.ice_prims.specs.Number.{signed_at, SpellsSigned}
use Rattle.ice_prims.proofs.Parts.{then_ok, between, bytes_found, bytes_only}
use Rattle.ice_encoding.specs.declared.limits.TheConstants.{LARGEST}
use Rattle.ice_encoding.specs.Bounds.{claimed}
use Rattle.ice_encoding.proofs.Joined.{byte_lawful, int_lawful, size_lawful, text_lawful, not_longer, both_lawful, made_lawful, tested_lawful, chosen_lawful}
use Rattle.ice_encoding.proofs.Bounded.{claimed_ok, claimed_is}
use Rattle.ice_encoding.proofs.Named.{identity_lawful, facet_lawful}
use Rattle.ice_messages.specs.declared.message.Answer.{Answer}
use Rattle.ice_messages.specs.Context.{context}
use Rattle.ice_messages.specs.Calls.{mode, IsEncapsulation, encapsulation, call, missing, answer_by, answer, status_of}
use Rattle.ice_messages.proofs.Contexts.{entries_lawful, entries_length}

pub mode_lawful : IsLawful mode
mode_lawful = tested_lawful _ _ _ byte_lawful

pub context_lawful : IsLawful context
context_lawful = chosen_lawful _ _ _ size_lawful entries_lawful (λ n a b es first second. omega (arith, entries_length n [] b es second))

-- ---- an encapsulation

pub begins : (a x b y : List ℕ) → a ++ x ≡ b ++ y → length a ≤ length b → (c : List ℕ) × (b ≡ a ++ c)
begins a x b y e le =
    let front : take (length a) b ≡ a = sym (take-append-le (length a) b y le) ∙ ap (take (length a)) (sym e) ∙ take_at a x (length a) refl in
    (drop (length a) b, sym (take-append-drop (length a) b) ∙ ap (λ (c : List ℕ). c ++ drop (length a) b) front)

-- the bytes that were taken begin with the size that was read of them
encapsulates : (r : Rest) (claim : ℤ × Rest) (n : ℕ) (y : List ℕ × Rest) → ((bytes : List ℕ) × Took r bytes claim.1 × int.Spells bytes claim.0) → Took r y.0 y.1 × (length y.0 ≡ n)
    → claim.0 ≡ pos n → n ≤ LARGEST → 6 ≤ n → IsEncapsulation y.0
encapsulates r claim n y f g same large small =
    let four : length f.0 ≡ 4 = f.2.0 in
    let both_are : f.0 ++ claim.1.bytes ≡ y.0 ++ y.1.bytes = sym f.1.parts ∙ g.0.parts in
    let split = begins f.0 claim.1.bytes y.0 y.1.bytes both_are (omega (arith, four, g.1, small)) in
    (f.0, split.0, split.1, subst (λ (z : ℤ). SpellsSigned w32 f.0 z) (same ∙ ap pos (sym g.1)) f.2, omega (arith, g.1, small), omega (arith, g.1, large))

encapsulation_only : (r s : Rest) (v : List ℕ) → Took r v s → IsEncapsulation v → encapsulation.read r ≡ Ok (v, s)
encapsulation_only r s v k is =
    let m = between r s is.0 is.1 (rw (← is.2) k) in
    let there : length v ≤ length r.bytes = omega (arith, ap length k.parts, length-append v s.bytes) in
    rw (int_lawful.only r m.0 is.0 (pos (length v)) m.1 is.3, claimed_is r.place (length r.bytes) 6 (length v) is.5 there is.4) (bytes_only (length v) r s v refl k)

pub encapsulation_lawful : IsLawful encapsulation
encapsulation_lawful = record {
  found = λ r y fits e.
      then_ok (signed_at w32 r) (λ claim. claimed r.place (length r.bytes) 6 claim.0 >>= λ n. bytes_at n r) y e λ claim claim_is later.
      then_ok (claimed r.place (length r.bytes) 6 claim.0) (λ n. bytes_at n r) y later λ n n_is last.
      claimed_ok r.place (length r.bytes) 6 claim.0 n n_is λ same large there small.
      let f = int_lawful.found r claim fits claim_is in
      let g = bytes_found n r y last in
      (y.0, g.0, (refl, encapsulates r claim n y f g same large small));
  only = λ r s bytes v k h. encapsulation_only r s v (rw (← h.0) k) h.1;
  sort = λ bytes x fits h. h.1;
  put = λ x is. (refl, is);
  shortest = λ bytes x fits h. not_longer x bytes h.0;
}

-- ---- a call, an answer

pub call_lawful : IsLawful call
call_lawful = made_lawful _ _ _ (λ x. refl) (both_lawful _ _ identity_lawful (both_lawful _ _ facet_lawful (both_lawful _ _ text_lawful
    (both_lawful _ _ mode_lawful (both_lawful _ _ context_lawful encapsulation_lawful)))))

missing_lawful : (status : ℕ) → IsLawful (missing status)
missing_lawful status = made_lawful _ _ _ (λ x. refl) (both_lawful _ _ identity_lawful (both_lawful _ _ facet_lawful text_lawful))

answer_by_lawful : (status : ℕ) → IsLawful (answer_by status)
answer_by_lawful zero = made_lawful _ _ _ (λ x. refl) encapsulation_lawful
answer_by_lawful (suc zero) = made_lawful _ _ _ (λ x. refl) encapsulation_lawful
answer_by_lawful (suc (suc zero)) = missing_lawful 2
answer_by_lawful (suc (suc (suc zero))) = missing_lawful 3
answer_by_lawful (suc (suc (suc (suc zero)))) = missing_lawful 4
answer_by_lawful (suc (suc (suc (suc (suc n))))) = made_lawful _ _ _ (λ x. refl) text_lawful

answer_tells : (status : ℕ) (b : List ℕ) (y : Answer) → (answer_by status).Spells b y → status_of y ≡ status
answer_tells zero b y h = rw h.1 refl
answer_tells (suc zero) b y h = rw h.1 refl
answer_tells (suc (suc zero)) b y h = rw h.1 refl
answer_tells (suc (suc (suc zero))) b y h = rw h.1 refl
answer_tells (suc (suc (suc (suc zero)))) b y h = rw h.1 refl
answer_tells (suc (suc (suc (suc (suc n))))) b y h = rw h.1 refl

pub answer_lawful : IsLawful answer
answer_lawful = chosen_lawful _ _ _ (tested_lawful _ _ _ byte_lawful) answer_by_lawful (λ status a b y first second. answer_tells status b y second)
