-- Which way the tests of an escape go.
use Rattle.std.proofs.Common.{ℕ, ◌<◌, ◌≡◌, Bool, true, false, cond, eqb, ltb, ◌||◌, List, [], ◌∷◌, refl, arith, inl, inr}
use Rattle.std.proofs.lemmas.Bool.{eqb-true, ltb-true, or_parts, or_cases}
use Rattle.ice_proxy.specs.PrintedWords.{short, octal_escape, escape_of}

-- what holds of each form that a byte may be printed in
pub record OfEach (P : List ℕ → Type 0) (c : ℕ) : Type 0 where
  pub backslash : c ≡ 92 → P (short 92)
  pub quote : c ≡ 34 → P (short 34)
  pub apostrophe : c ≡ 39 → P (short 39)
  pub newline : c ≡ 10 → P (short 110)
  pub carriage_return : c ≡ 13 → P (short 114)
  pub tab : c ≡ 9 → P (short 116)
  pub octal : c < 128 → P (octal_escape c)
  pub same : eqb c 92 ≡ false → eqb c 34 ≡ false → P (c ∷ [])

module _ (P : List ℕ → Type 0) (c : ℕ) (each : OfEach P c) where
  by_octal : (b : Bool) → (ltb c 32 || eqb c 127) ≡ b → eqb c 92 ≡ false → eqb c 34 ≡ false → P (cond b (octal_escape c) (c ∷ []))
  by_octal true e no_backslash no_quote = each.octal (elim (or_cases (ltb c 32) (eqb c 127) e) [ inl h ↦ omega (arith, ltb-true c 32 h) | inr h ↦ omega (arith, eqb-true c 127 h) ])
  by_octal false e no_backslash no_quote = each.same no_backslash no_quote

  by_blank : (a b d : Bool) → eqb c 10 ≡ a → eqb c 13 ≡ b → eqb c 9 ≡ d → eqb c 92 ≡ false → eqb c 34 ≡ false
      → P (cond a (short 110) (cond b (short 114) (cond d (short 116) (cond (ltb c 32 || eqb c 127) (octal_escape c) (c ∷ [])))))
  by_blank true b d e f g no_backslash no_quote = each.newline (eqb-true c 10 e)
  by_blank false true d e f g no_backslash no_quote = each.carriage_return (eqb-true c 13 f)
  by_blank false false true e f g no_backslash no_quote = each.tab (eqb-true c 9 g)
  by_blank false false false e f g no_backslash no_quote = by_octal (ltb c 32 || eqb c 127) refl no_backslash no_quote

  by_self : (b : Bool) → (eqb c 92 || (eqb c 34 || eqb c 39)) ≡ b
      → P (cond b (short c) (cond (eqb c 10) (short 110) (cond (eqb c 13) (short 114) (cond (eqb c 9) (short 116) (cond (ltb c 32 || eqb c 127) (octal_escape c) (c ∷ []))))))
  by_self true e = elim (or_cases (eqb c 92) (eqb c 34 || eqb c 39) e) [
    | inl h ↦ let is = eqb-true c 92 h in rw is (each.backslash is)
    | inr h ↦ elim (or_cases (eqb c 34) (eqb c 39) h) [
      | inl k ↦ let is = eqb-true c 34 k in rw is (each.quote is)
      | inr k ↦ let is = eqb-true c 39 k in rw is (each.apostrophe is)
    ]
  ]
  by_self false e =
      let tests = or_parts (eqb c 92) (eqb c 34 || eqb c 39) e in
      by_blank (eqb c 10) (eqb c 13) (eqb c 9) refl refl refl tests.0 (or_parts (eqb c 34) (eqb c 39) tests.1).0

  pub escape_cases : P (escape_of c)
  escape_cases = by_self (eqb c 92 || (eqb c 34 || eqb c 39)) refl
