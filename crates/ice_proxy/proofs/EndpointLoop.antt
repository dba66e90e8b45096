-- Endpoints that are read one after the other.
use Rattle.std.proofs.Common.{◌≡◌, ℕ, zero, suc, ◌<◌, ◌≤◌, List, [], ◌∷◌, ◌++◌, length, Option, None, Some, Ok, Err, refl, sym, ◌∙◌, ap, arith, append_assoc, append-nil}
use Rattle.ice_types.specs.declared.proxy.Endpoint.{Endpoint}
use Rattle.ice_prims.specs.Rest.{Rest}
use Rattle.ice_proxy.specs.Looking.{Parsed, ◌>>=◌, colon_at}
use Rattle.ice_proxy.specs.Grammar.{endpoint_at, endpoints_from, endpoints_within, endpoints_at}
use Rattle.ice_proxy.proofs.Progress.{colon_fewer}
use Rattle.ice_proxy.proofs.Fewer.{endpoint_advances}

-- these, and then what is read
abbrev pub with_front : List Endpoint → Parsed (List Endpoint) → Parsed (List Endpoint)
with_front front read = read >>= λ es. Ok (front ++ es)

-- These endpoints and what is read from here on are all that is read.
pub record Goes (es : List Endpoint) (r : Rest) (total : Parsed (List Endpoint)) : Type 0 where
  pub steps : ℕ
  pub enough : length r.bytes < steps
  pub same : with_front es (endpoints_within steps r) ≡ total

nothing_before : (read : Parsed (List Endpoint)) → with_front [] read ≡ read
nothing_before (Ok es) = refl
nothing_before (Err place) = refl

pub starts : (r : Rest) → Goes [] r (endpoints_at r)
starts r = record { steps = suc (length r.bytes); enough = omega arith; same = nothing_before (endpoints_at r) }

abbrev listing : List Endpoint → Parsed (List Endpoint)
listing es = Ok es

one_more : (front : List Endpoint) (e : Endpoint) (read : Parsed (List Endpoint)) → with_front front (read >>= λ es. listing (e ∷ es)) ≡ with_front (front ++ e ∷ []) read
one_more front e (Ok es) = ap listing (sym (append_assoc front (e ∷ []) es))
one_more front e (Err place) = refl

module _ (es : List Endpoint) (r : Rest) (total : Parsed (List Endpoint)) (g : Goes es r total) where
  -- what the next step comes to
  abbrev step : ℕ → Parsed (Option Rest) → Parsed (List Endpoint)
  step n found = with_front es (found >>= endpoints_from (endpoints_within n))

  one_step : (found : Parsed (Option Rest)) → colon_at r ≡ found → (n : ℕ) × (length r.bytes ≤ n) × (step n found ≡ total)
  one_step found e = by g.steps g.enough g.same
    where
      by : (steps : ℕ) → length r.bytes < steps → with_front es (endpoints_within steps r) ≡ total → (n : ℕ) × (length r.bytes ≤ n) × (step n found ≡ total)
      by zero lt same = absurd (omega arith)
      by (suc n) lt same = (n, omega arith, sym (ap (step n) e) ∙ same)

  pub ended : colon_at r ≡ Ok None → total ≡ Ok es
  ended e = sym (one_step (Ok None) e).2 ∙ ap listing (append-nil es)

  pub no_colon : (broken : ℕ) → colon_at r ≡ Err broken → total ≡ Err broken
  no_colon broken e = sym (one_step (Err broken) e).2

  module _ (s : Rest) (e : colon_at r ≡ Ok (Some s)) where
    pub refused : (broken : ℕ) → endpoint_at s ≡ Err broken → total ≡ Err broken
    refused broken h =
        let one = one_step (Ok (Some s)) e in
        sym one.2 ∙ ap (λ p. with_front es (p >>= λ x. endpoints_within one.0 x.1 >>= λ others. listing (x.0 ∷ others))) h

    pub fewer : (x : Endpoint) (t : Rest) → endpoint_at s ≡ Ok (x, t) → length t.bytes < length r.bytes
    fewer x t h = let a = endpoint_advances.fewer s t x h in let b = colon_fewer r s e in omega (arith, a, b)

    pub goes_on : (x : Endpoint) (t : Rest) → endpoint_at s ≡ Ok (x, t) → Goes (es ++ x ∷ []) t total
    goes_on x t h =
        let one = one_step (Ok (Some s)) e in
        let less = fewer x t h in
        record {
          steps = one.0;
          enough = omega (arith, less, one.1);
          same = sym (one_more es x (endpoints_within one.0 t)) ∙ sym (ap (λ p. with_front es (p >>= λ y. endpoints_within one.0 y.1 >>= λ others. listing (y.0 ∷ others))) h) ∙ one.2;
        }
