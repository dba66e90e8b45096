-- Reading endpoints one after the other, as a loop does.
use Rattle.std.proofs.Common.{◌≡◌, ℕ, suc, ◌-◌, ◌+◌, ◌<◌, List, [], ◌∷◌, ◌++◌, Result, Ok, Err, refl, sym, ap, ◌∙◌, append_assoc, arith}
use Rattle.ice_prims.specs.declared.fault.Fault.{Fault}
use Rattle.ice_prims.specs.declared.fault.ReadFault.{ReadFault}
use Rattle.ice_prims.specs.declared.fault.ReadFault.TheVariants as faults
use Rattle.ice_prims.specs.Rest.{Rest, ◌>>=◌}
use Rattle.ice_prims.specs.Taking.{Fails}
use Rattle.ice_encoding.specs.Parts.{read_times}

-- what was read before, and what is still read
abbrev pub with_front : {A : Type 0} → List A → Result (List A × Rest) Fault → Result (List A × Rest) Fault
with_front front read = read >>= λ x. Ok (front ++ x.0, x.1)

abbrev answer : {A : Type 0} → List A × Rest → Result (List A × Rest) Fault
answer x = Ok x

regroup : {A : Type 0} (front : List A) (x : A) (read : Result (List A × Rest) Fault) → with_front front (read >>= λ y. Ok (x ∷ y.0, y.1)) ≡ with_front (front ++ x ∷ []) read
regroup {A} front x (Ok y) = ap (λ (xs : List A). answer (xs, y.1)) (sym (append_assoc front (x ∷ []) y.0))
regroup front x (Err f) = refl

module _ {A : Type 0} (one : Rest → Result (A × Rest) Fault) (front : List A) (count i : ℕ) (r : Rest) (total : Result (List A × Rest) Fault)
    (so_far : with_front front (read_times one (count - i) r) ≡ total) where
  pub goes_on : i < count → (x : A) (after : Rest) → one r ≡ Ok (x, after) → with_front (front ++ x ∷ []) (read_times one (count - (i + 1)) after) ≡ total
  goes_on lt x after h =
      let n : count - i ≡ suc (count - (i + 1)) = omega arith in
      let first : with_front front (read_times one (count - i) r) ≡ with_front (front ++ x ∷ []) (read_times one (count - (i + 1)) after) =
      rw (n, h) (regroup front x (read_times one (count - (i + 1)) after)) in
      sym first ∙ so_far

  pub ends : i < count → (e : ReadFault) → Fails e (one r) → Fails e total
  ends lt faults.Memory h = tt
  ends lt (faults.Broken f) h =
      let n : count - i ≡ suc (count - (i + 1)) = omega arith in
      let first : with_front front (read_times one (count - i) r) ≡ Err f = rw (n, h) refl in
      sym so_far ∙ first
