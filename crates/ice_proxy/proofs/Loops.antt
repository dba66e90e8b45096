-- Options that are read one after the other.
use Rattle.std.proofs.Common.{◌≡◌, ℕ, zero, suc, ◌<◌, ◌≤◌, Bool, List, length, Option, None, Some, Ok, Err, refl, sym, ◌∙◌, ap, arith}
use Rattle.ice_prims.specs.Rest.{Rest}
use Rattle.ice_proxy.specs.Looking.{Parsed, ◌>>=◌, word_ahead}
use Rattle.ice_proxy.specs.Options.{listed, option_of, option_from, options_within, options_at}
use Rattle.ice_proxy.proofs.Progress.{ahead_fewer}

module _ {O F : Type 0} (rows : List (List ℕ × F)) (given : F → O → Bool) (taken : F → O → Rest → Parsed (O × Rest)) where
  -- What is read of options from here on is all that is read of them.
  pub record Goes (o : O) (r : Rest) (total : Parsed (O × Rest)) : Type 0 where
    pub steps : ℕ
    pub enough : length r.bytes < steps
    pub same : options_within rows given taken steps o r ≡ total

  pub starts : (o : O) (r : Rest) → Goes o r (options_at rows given taken o r)
  starts o r = record { steps = suc (length r.bytes); enough = omega arith; same = refl }

  -- what the next step comes to
  abbrev step : ℕ → O → Rest → Option (List ℕ × ℕ × Rest) → Parsed (O × Rest)
  step n o r ahead = option_from rows given taken (options_within rows given taken n) o r ahead

  one_step : (o : O) (r : Rest) (total : Parsed (O × Rest)) (ahead : Option (List ℕ × ℕ × Rest)) → Goes o r total → word_ahead r ≡ ahead → (n : ℕ) × (length r.bytes ≤ n) × (step n o r ahead ≡ total)
  one_step o r total ahead g e = by g.steps g.enough g.same
    where
      by : (steps : ℕ) → length r.bytes < steps → options_within rows given taken steps o r ≡ total → (n : ℕ) × (length r.bytes ≤ n) × (step n o r ahead ≡ total)
      by zero lt same = absurd (omega arith)
      by (suc n) lt same = (n, omega arith, sym (ap (step n o r) e) ∙ same)

  pub ended : (o : O) (r : Rest) (total : Parsed (O × Rest)) → Goes o r total → word_ahead r ≡ None → total ≡ Ok (o, r)
  ended o r total g e = sym (one_step o r total None g e).2

  module _ (o : O) (r s : Rest) (total : Parsed (O × Rest)) (bytes : List ℕ) (place : ℕ) (g : Goes o r total) (e : word_ahead r ≡ Some (bytes, place, s)) where
    pub refused : (broken : ℕ) → option_of rows given taken (listed rows bytes) place o s ≡ Err broken → total ≡ Err broken
    refused broken h =
        let one = one_step o r total (Some (bytes, place, s)) g e in
        sym one.2 ∙ ap (λ p. p >>= λ x. options_within rows given taken one.0 x.0 x.1) h

    pub goes_on : (last : O) (t : Rest) → option_of rows given taken (listed rows bytes) place o s ≡ Ok (last, t) → length t.bytes ≤ length s.bytes → Goes last t total
    goes_on last t h fewer =
        let one = one_step o r total (Some (bytes, place, s)) g e in
        record {
          steps = one.0;
          enough = omega (arith, ahead_fewer r s bytes place e, one.1);
          same = sym (ap (λ p. p >>= λ x. options_within rows given taken one.0 x.0 x.1) h) ∙ one.2;
        }
