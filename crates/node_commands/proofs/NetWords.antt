-- Words where they lie in memory, how long they are, and what is found of them once.
use Rattle.std.proofs.Common.{◌≡◌, ◌≤◌, ◌<◌, ◌-◌, ℕ, zero, suc, Bool, true, false, MatchBool, List, [], ◌∷◌, length, take, drop, get_or, String, string_bytes, Option, Some, None, refl, sym, ap, ap₂, ◌∙◌, arith, length-drop}
use Rattle.std.specs.Prelude.{IsTrue}
use Rattle.std.specs.declared.alloc.Global.{Global}
use Rattle.std.specs.List.{AllByRecursion, AllWithin, HoldsAt}
use Rattle.std.specs.Str.{bytes_eq}
use Rattle.std.proofs.Math.Bool.{not}
use Rattle.std.proofs.lemmas.Bool.{false≢true}
use Rattle.std.proofs.lemmas.List.{drop-map, take_all}
use Rattle.std.proofs.lemmas.Slice.Eq.{bytes_eq-Decides}
use Rattle.node_commands.specs.Words.{Word, IsWord, words_of}
use Rattle.node_commands.specs.declared.words.TheConstants.{MOST_OF_A_WORD}
use Rattle.node_commands.specs.Once.{Exactly}

-- ---- words where they lie in memory

abbrev pub rest_of : List (String Global) → List (String Global)
rest_of words = take (length words - 1) (drop 1 words)

-- the first word, and those behind it
pub first_word : (words : List (String Global)) (first : String Global) → 1 ≤ length words → first ≡ get_or words 0 first → words_of words ≡ string_bytes first ∷ words_of (rest_of words)
first_word [] first le is = absurd (omega (arith, le))
first_word (v ∷ vs) first le is = ap₂ (λ (a : Word) (b : List (String Global)). a ∷ words_of b) (ap string_bytes (sym is)) (sym (take_all (length (v ∷ vs) - 1) vs (omega arith)))

pub two_words : (words : List (String Global)) (first second : String Global) → 1 ≤ length words → first ≡ get_or words 0 first → 1 ≤ length (rest_of words) → second ≡ get_or (rest_of words) 0 second
    → words_of words ≡ string_bytes first ∷ string_bytes second ∷ words_of (rest_of (rest_of words))
two_words words first second le is more also = first_word words first le is ∙ ap (λ (l : List Word). string_bytes first ∷ l) (first_word (rest_of words) second more also)

-- as many
pub as_many : (words : List (String Global)) → length (words_of words) ≡ length words
as_many [] = refl
as_many (v ∷ vs) = ap suc (as_many vs)

-- those behind the first so many
pub behind : (n : ℕ) (words : List (String Global)) → words_of (take (length words - n) (drop n words)) ≡ drop n (words_of words)
behind n words = ap words_of (take_all (length words - n) (drop n words) (omega (arith, length-drop n words))) ∙ sym (drop-map string_bytes n words)

pub same_word : (x y : Word) (b : Bool) → b ≡ bytes_eq x y → b ≡ true → x ≡ y
same_word x y b is on = (bytes_eq-Decides x y).0 (sym is ∙ on)

pub other_word : (x y : Word) (b : Bool) → b ≡ bytes_eq x y → b ≡ false → x ≡ y → ⊥
other_word x y b is off e = false≢true (sym off ∙ (is ∙ (bytes_eq-Decides x y).1 e))

pub no_other_word : (x y : Word) (b : Bool) → b ≡ not (bytes_eq x y) → b ≡ false → x ≡ y
no_other_word x y b is off = (bytes_eq-Decides x y).0 (turned (bytes_eq x y) (sym is ∙ off))
  where
    turned : (c : Bool) → not c ≡ false → c ≡ true
    turned true e = refl
    turned false e = absurd (false≢true (sym e))

-- ---- how long words are

-- no word is longer than a word may be, or one is
pub words_short : (words : List (String Global)) (r : Bool) → MatchBool r (AllWithin (λ x. length (string_bytes x) ≤ MOST_OF_A_WORD) words 0 (length words)) ((k : ℕ) × (k < length words) × HoldsAt (λ x. MOST_OF_A_WORD < length (string_bytes x)) words k)
    → (IsTrue r → AllByRecursion IsWord (words_of words)) × (AllByRecursion IsWord (words_of words) → IsTrue r)
words_short words true h = (λ on. all_of words (λ k d lt. h k d (omega arith) lt), λ all. refl)
  where
    all_of : (ws : List (String Global)) → ((k : ℕ) (d : String Global) → k < length ws → length (string_bytes (get_or ws k d)) ≤ MOST_OF_A_WORD) → AllByRecursion IsWord (words_of ws)
    all_of [] each = tt
    all_of (w ∷ ws) each = (each 0 w (omega arith), all_of ws (λ k d lt. each (suc k) d (omega (arith, lt))))
words_short words false h = (λ on. absurd (false≢true on), λ all. absurd (long words h.0 h.1 h.2 all))
  where
    long : (ws : List (String Global)) (k : ℕ) → k < length ws → HoldsAt (λ x. MOST_OF_A_WORD < length (string_bytes x)) ws k → AllByRecursion IsWord (words_of ws) → ⊥
    long [] k lt at all = omega (arith, lt)
    long (w ∷ ws) zero lt at all = omega (arith, at w, all.0)
    long (w ∷ ws) (suc k) lt at all = long ws k (omega (arith, lt)) at all.1

-- ---- what is found once, from one to the other

pub exactly_by : {A : Type 0} {F G : A → Type 0} → ((x : A) → F x → G x) → ((x : A) → G x → F x) → (o : Option A) → Exactly F o → Exactly G o
exactly_by to from None e = λ x g. e x (from x g)
exactly_by to from (Some x) e = (to x e.0, λ y g. e.1 y (from y g))
