-- A name more in a set of names with scopes.
use Rattle.std.proofs.Common.{◌≡◌, ℕ, Bool, true, false, cond, List, Ordering, String, string_bytes, string_cmp, refl, sym, ap, ◌∙◌}
use Rattle.std.specs.Prelude.{◌==◌, ◌&&◌, bytes_eq}
use Rattle.std.specs.Ordering.{is_eq, ordering_then, nat_cmp, eq_by_cmp}
use Rattle.std.specs.Cmp.{tied_then, IsTotalOrder}
use Rattle.std.specs.Cmp.Lexicographic.{slice_cmp}
use Rattle.std.specs.List.{list_any}
use Rattle.std.specs.Map.{IsKeyTest, AreApart}
use Rattle.std.specs.Set.{KeepsOthers}
use Rattle.std.specs.BTreeMap.{is_at}
use Rattle.std.specs.BTreeSet.{BTreeSet, UpdatesBy}
use Rattle.std.proofs.lemmas.Cmp.{then_total, on_total, nat_cmp_total, nat_list_cmp_total, eq_by_cmp_equiv}
use Rattle.std.proofs.lemmas.Map.Text.{is_eq-slice_cmp}
use Rattle.std.proofs.lemmas.Bool.Decides.{Decides-eqb}
use Rattle.std.proofs.lemmas.Slice.Eq.{bytes_eq-Decides}
use Rattle.slice_meaning.specs.Held.{has_key}
use Rattle.slice_meaning.proofs.Ids.{number_test, and_turned}

abbrev pub word_cmp : List ℕ × ℕ → List ℕ × ℕ → Ordering
word_cmp x y = ordering_then (slice_cmp nat_cmp x.0 y.0) (nat_cmp x.1 y.1)

abbrev pub text_cmp : {Y : Type 0} → String Y × ℕ → String Y × ℕ → Ordering
text_cmp x y = ordering_then (string_cmp x.0 y.0) (nat_cmp x.1 y.1)

-- the key of a text
abbrev key_of : {Y : Type 0} → String Y × ℕ → List ℕ × ℕ
key_of x = (string_bytes x.0, x.1)

word_total : IsTotalOrder word_cmp
word_total = then_total (on_total (λ (x : List ℕ × ℕ). x.0) nat_list_cmp_total) (on_total (λ (x : List ℕ × ℕ). x.1) nat_cmp_total)

word_test : (word other : List ℕ) (m n : ℕ) → eq_by_cmp word_cmp (word, m) (other, n) ≡ (m == n && bytes_eq word other)
word_test word other m n = sym (tied_then (slice_cmp nat_cmp word other) (nat_cmp m n))
    ∙ (ap (λ (t : Bool). t && is_eq (nat_cmp m n)) (is_eq-slice_cmp word other) ∙ (ap (λ (t : Bool). bytes_eq word other && t) (number_test m n) ∙ and_turned (bytes_eq word other) (m == n)))

other_keys : {K : Type 0} (eq : K → K → Bool) (test : K → Bool) (old new : List K) → KeepsOthers eq test old new → (other : K → Bool) → IsKeyTest eq other → AreApart test other → list_any other new ≡ list_any other old
unfolding KeepsOthers
other_keys eq test old new h = h

module _ {Y : Type 0} (old new : BTreeSet (String Y × ℕ)) (key : String Y × ℕ) (h : UpdatesBy text_cmp (text_cmp key) old new true) where
  same_word : (word : List ℕ) (n : ℕ) → (string_bytes key.0 ≡ word) → key.1 ≡ n → has_key new word n ≡ true
  same_word word n e f = ap (λ (w : List ℕ). has_key new w n) (sym e) ∙ (ap (has_key new (string_bytes key.0)) (sym f) ∙ h.1)

  other_word : (word : List ℕ) (n : ℕ) → (key.1 == n && bytes_eq (string_bytes key.0) word) ≡ false → has_key new word n ≡ has_key old word n
  other_word word n apart =
      let laws = eq_by_cmp_equiv word_total in
      other_keys (eq_by_cmp text_cmp) (is_at (text_cmp key)) old.keys new.keys h.3 (λ x. eq_by_cmp word_cmp (word, n) (key_of x)) (λ x y is. laws.congr (word, n) (key_of x) (key_of y) is)
      (λ x is. laws.symm (word, n) (key_of x) ∙ (sym (laws.congr (key_of key) (key_of x) (word, n) is) ∙ (word_test (string_bytes key.0) word key.1 n ∙ apart)))

  pub lowered_after : (word : List ℕ) (n : ℕ) → has_key new word n ≡ cond (key.1 == n && bytes_eq (string_bytes key.0) word) true (has_key old word n)
  lowered_after word n = by_test (key.1 == n) (bytes_eq (string_bytes key.0) word) refl refl
    where
      by_test : (a b : Bool) → (key.1 == n) ≡ a → bytes_eq (string_bytes key.0) word ≡ b → has_key new word n ≡ cond (a && b) true (has_key old word n)
      by_test true true x y = same_word word n ((bytes_eq-Decides (string_bytes key.0) word).0 y) ((Decides-eqb key.1 n).0 x)
      by_test true false x y = other_word word n (ap (λ (t : Bool). t && bytes_eq (string_bytes key.0) word) x ∙ y)
      by_test false b x y = other_word word n (ap (λ (t : Bool). t && bytes_eq (string_bytes key.0) word) x)
