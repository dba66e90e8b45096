-- What the searches for a byte and for `*/` find, in the words of the runs.
use Rattle.std.proofs.Common.{ℕ, zero, suc, ◌≡◌, ◌+◌, ◌<◌, ◌≤◌, Bool, true, not, ◌==◌, List, [], ◌∷◌, ◌++◌, Option, Some, None, length, slice_index, unwrap_or, codes, refl, sym, ap, subst, ◌∙◌, arith, suc-add}
use Rattle.std.specs.List.{prefix_len}
use Rattle.std.proofs.lemmas.Bool.{false_from_ne_true}
use Rattle.std.proofs.lemmas.List.Sums.{prefix_len_is}
use Rattle.std.proofs.lemmas.List.Folds.{length-prefix_len}
use Rattle.memchr.specs.Find.{IsFirstByte, FindsNeedle, OccursAt, is_byte}
use Rattle.slice_lexer.specs.Bytes.{newline, line, before_close}
use Rattle.slice_lexer.proofs.Stretches.{close_here, close_marks}

-- The byte ends no line.
abbrev stays_in_line : ℕ → Bool
stays_in_line byte = not (byte == newline)

stays : (byte : ℕ) → ((byte == newline) ≡ true → ⊥) → stays_in_line byte ≡ true
stays byte h = ap not (false_from_ne_true (byte == newline) h)

-- the line goes up to the first newline
pub line_met : (bytes : List ℕ) (found : Option ℕ) → IsFirstByte (is_byte newline) bytes found → unwrap_or found (length bytes) ≡ length (line bytes)
line_met bytes None h =
    let reach : prefix_len stays_in_line bytes ≡ length bytes = prefix_len_is stays_in_line bytes (length bytes) 0 (omega arith) (λ k l. stays _ (h k (omega arith) l)) (λ l. absurd (omega arith)) in
    sym (length-prefix_len stays_in_line bytes ∙ reach)
line_met bytes (Some at) h =
    let first = h.0 in
    let inside = first.high in
    let reach : prefix_len stays_in_line bytes ≡ at = prefix_len_is stays_in_line bytes at 0 (omega arith) (λ k l. stays _ (first.before k (omega arith) l)) (λ l. ap not h.1) in
    sym (length-prefix_len stays_in_line bytes ∙ reach)

-- a needle's place, where one more byte stands before
occurs_later : (needle bytes : List ℕ) (byte k : ℕ) → OccursAt bytes needle k → OccursAt (byte ∷ bytes) needle (suc k)
occurs_later needle bytes byte k h = record {
  fits = omega (arith, h.fits);
  reads = λ j l. ap (λ n. slice_index (byte ∷ bytes) n) (suc-add k j) ∙ h.reads j l;
}

occurs_sooner : (needle bytes : List ℕ) (byte k : ℕ) → OccursAt (byte ∷ bytes) needle (suc k) → OccursAt bytes needle k
occurs_sooner needle bytes byte k h = record {
  fits = omega (arith, h.fits);
  reads = λ j l. sym (ap (λ n. slice_index (byte ∷ bytes) n) (suc-add k j)) ∙ h.reads j l;
}

close_occurs : (byte : ℕ) (bytes : List ℕ) → close_here byte bytes ≡ true → OccursAt (byte ∷ bytes) (codes "*/") 0
close_occurs byte bytes h = let marks = close_marks byte bytes h in subst (λ (bs : List ℕ). OccursAt bs (codes "*/") 0) (sym marks.1) (stands marks.0) where
  reads : (rest : List ℕ) (j : ℕ) → j < 2 → slice_index (codes "*/" ++ rest) (0 + j) ≡ slice_index (codes "*/") j
  reads rest zero l = refl
  reads rest (suc zero) l = refl
  reads rest (suc (suc j)) l = absurd (omega arith)

  stands : (rest : List ℕ) → OccursAt (codes "*/" ++ rest) (codes "*/") 0
  stands rest = record {
    fits = omega arith;
    reads = reads rest;
  }

close_stands : (byte : ℕ) (bytes : List ℕ) → OccursAt (byte ∷ bytes) (codes "*/") 0 → close_here byte bytes ≡ true
close_stands byte [] h = absurd (omega (arith, h.fits))
close_stands byte (next ∷ bytes) h =
    let one : byte ≡ 42 = h.reads 0 (omega arith) in
    let two : next ≡ 47 = h.reads 1 (omega arith) in
    rw (one, two) refl

-- What stands before the first `*/` ends at the first place where it occurs, or with the bytes.
close_is : (bytes : List ℕ) (n : ℕ) → n ≤ length bytes → ((k : ℕ) → k < n → OccursAt bytes (codes "*/") k → ⊥) → (n < length bytes → OccursAt bytes (codes "*/") n) → before_close bytes ≡ n
close_is [] n le before at = omega arith
close_is (byte ∷ bytes) zero le before at = rw (close_stands byte bytes (at (omega arith))) refl
close_is (byte ∷ bytes) (suc n) le before at =
    let rest = close_is bytes n (omega arith) (λ k l h. before (suc k) (omega arith) (occurs_later (codes "*/") bytes byte k h)) (λ l. occurs_sooner (codes "*/") bytes byte n (at (omega arith))) in
    rw (false_from_ne_true (close_here byte bytes) (λ h. before 0 (omega arith) (close_occurs byte bytes h))) (ap suc rest)

-- a comment goes up to where the search finds `*/`
pub close_met : (bytes : List ℕ) (found : Option ℕ) → FindsNeedle bytes (codes "*/") 0 found → unwrap_or found (length bytes) ≡ before_close bytes
close_met bytes None h = sym (close_is bytes (length bytes) (omega arith) (λ k l. h k (omega arith) (omega arith)) (λ l. absurd (omega arith)))
close_met bytes (Some at) h =
    let first = h.0 in
    let inside = first.high in
    sym (close_is bytes at (omega arith) (λ k l. first.before k (omega arith) l) (λ _. h.1))
