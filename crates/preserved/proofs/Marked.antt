-- The end marker behind the bytes that are kept, as a cursor finds it.
use Rattle.std.proofs.Common.{◌≡◌, ℕ, suc, ◌+◌, ◌-◌, List, [], ◌∷◌, ◌++◌, length, Result, Ok, refl, sym, ap, ◌∙◌, arith}
use Rattle.std.specs.Prelude.{slice_index}
use Rattle.std.proofs.lemmas.Bool.{ne_eqb}
use Rattle.std.proofs.lemmas.List.{length-append}
use Rattle.ice_prims.specs.declared.fault.Fault.{Fault}
use Rattle.ice_prims.specs.declared.fault.Kind.TheVariants.{BadTag}
use Rattle.ice_prims.specs.Rest.{Rest, fault, ◌>>=◌, bytes_at}
use Rattle.ice_prims.specs.Number.{byte_at}
use Rattle.ice_prims.proofs.Parts.{bytes_found, then_ok, ok_is}
use Rattle.ice_encoding.specs.Slices.{unmarked}

-- ---- what is found of bytes with one more behind them

goes_on : (b : ℕ) (r : Result (List ℕ) Fault) (x : Result (List ℕ) Fault) → r ≡ x → (r >>= λ front. Ok (b ∷ front)) ≡ (x >>= λ front. Ok (b ∷ front))
goes_on b r x e = ap (λ (y : Result (List ℕ) Fault). y >>= λ front. Ok (b ∷ front)) e

marked : (place : ℕ) (front : List ℕ) → unmarked place (front ++ 255 ∷ []) ≡ Ok front
marked place [] = refl
marked place (b ∷ []) = refl
marked place (b ∷ c ∷ cs) = goes_on b (unmarked (suc place) (c ∷ (cs ++ 255 ∷ []))) (Ok (c ∷ cs)) (marked (suc place) (c ∷ cs))

abbrev pub wrong : ℕ → Result (List ℕ) Fault
wrong place = fault place BadTag

not_marked : (place last : ℕ) (front : List ℕ) → (last ≡ 255 → ⊥) → unmarked place (front ++ last ∷ []) ≡ wrong (place + length front)
not_marked place last [] other = let no = ne_eqb last 255 other in let at : place + 0 ≡ place = omega arith in rw (no, at) refl
not_marked place last (b ∷ []) other =
    let at : suc place + 0 ≡ place + 1 = omega arith in
    goes_on b (unmarked (suc place) (last ∷ [])) (wrong (suc place + 0)) (not_marked (suc place) last [] other) ∙ ap wrong at
not_marked place last (b ∷ c ∷ cs) other =
    let at : suc place + length (c ∷ cs) ≡ place + length (b ∷ c ∷ cs) = omega arith in
    goes_on b (unmarked (suc place) (c ∷ (cs ++ last ∷ []))) (wrong (suc place + length (c ∷ cs))) (not_marked (suc place) last (c ∷ cs) other) ∙ ap wrong at

-- ---- all but one of the bytes, and then that

one : (xs : List ℕ) → length xs ≡ 1 → xs ≡ slice_index xs 0 ∷ []
one [] e = absurd cc
one (x ∷ []) e = refl
one (x ∷ y ∷ ys) e = absurd (omega (arith, e))

none : (xs : List ℕ) → length xs ≡ 0 → xs ≡ []
none [] e = refl
none (x ∷ xs) e = absurd cc

module _ (bound : Rest) (n : ℕ) (front : List ℕ) (behind after : Rest) (last : ℕ) (some : (length bound.bytes ≡ 0) → ⊥) (all : n ≡ length bound.bytes - 1)
    (took : bytes_at n bound ≡ Ok (front, behind)) (byte : byte_at behind ≡ Ok (last, after)) where
  parts : (bound.bytes ≡ front ++ last ∷ []) × (behind.place ≡ bound.place + length front)
  parts =
      let f = bytes_found n bound (front, behind) took in
      then_ok (bytes_at 1 behind) (λ b. Ok (slice_index b.0 0, b.1)) (last, after) byte λ b b_is same.
      let g = bytes_found 1 behind b b_is in
      let rest : length b.1.bytes ≡ 0 = omega (arith, all, some, f.1, g.1, ap length f.0.parts, ap length g.0.parts, length-append front behind.bytes, length-append b.0 b.1.bytes) in
      let last_is : slice_index b.0 0 ≡ last = ap (λ (x : ℕ × Rest). x.0) (ok_is (slice_index b.0 0, b.1) (last, after) same) in (
        f.0.parts ∙ ap (λ (l : List ℕ). front ++ l) (g.0.parts ∙ (ap (λ (l : List ℕ). b.0 ++ l) (none b.1.bytes rest) ∙ (ap (λ (l : List ℕ). l ++ []) (one b.0 g.1) ∙ ap (λ (m : ℕ). m ∷ []) last_is))),
        f.0.moved,
      )

  pub is_marked : last ≡ 255 → unmarked bound.place bound.bytes ≡ Ok front
  is_marked is = ap (unmarked bound.place) (parts.0 ∙ ap (λ (m : ℕ). front ++ m ∷ []) is) ∙ marked bound.place front

  pub is_not_marked : (last ≡ 255 → ⊥) → unmarked bound.place bound.bytes ≡ wrong behind.place
  is_not_marked other = ap (unmarked bound.place) parts.0 ∙ (not_marked bound.place last front other ∙ ap wrong (sym parts.1))
