-- Where words are cut.
use Rattle.std.proofs.Common.{◌≡◌, ◌≢◌, ◌<◌, ℕ, suc, Bool, true, false, eqb, List, [], ◌∷◌, ◌++◌, length, refl, sym, ap, ap₂, subst, ◌∙◌, arith, get_or, codes, Bor, Option, None, Some, ◌⊎◌, inl, inr}
use Rattle.std.specs.Prelude.{MatchOption}
use Rattle.std.proofs.lemmas.Str.Pattern.{IsSplitOnceResult, split_once_first}
use Rattle.std.specs.List.{position_or_len, before_first, after_first}
use Rattle.std.proofs.lemmas.List.{get_or-take, length-take-le}
use Rattle.std.proofs.lemmas.List.Sums.{fails_before_first, passes_at_first, split_at_first}
use Rattle.std.proofs.lemmas.Bool.{eqb-true}
use Rattle.node_commands.specs.Words.{Word}
use Rattle.serve_command.specs.declared.object_words.ObjectWord.{ObjectWord}
use Rattle.serve_command.specs.ObjectWords.{Object, store, echo, locator, place, adapter, object_word, two_parts, IsCut, LacksEquals, Spells}

-- a list is cut at the first `=` in one way
pub cut_once : (a b c d : Word) → LacksEquals a → LacksEquals c → a ++ 61 ∷ b ≡ c ++ 61 ∷ d → (a ≡ c) × (b ≡ d)
cut_once [] b [] d la lc e = (refl, ap (λ (z : List ℕ). tail z) e)
  where
    tail : List ℕ → List ℕ
    tail [] = []
    tail (x ∷ xs) = xs
cut_once [] b (x ∷ c) d la lc e = absurd (lc.0 (sym (ap (λ (z : List ℕ). get_or z 0 0) e)))
cut_once (x ∷ a) b [] d la lc e = absurd (la.0 (ap (λ (z : List ℕ). get_or z 0 0) e))
cut_once (x ∷ a) b (y ∷ c) d la lc e =
    let rest = cut_once a b c d la.1 lc.1 (ap (λ (z : List ℕ). tail z) e) in
    (λ i. ap (λ (z : List ℕ). get_or z 0 0) e i ∷ rest.0 i, rest.1)
  where
    tail : List ℕ → List ℕ
    tail [] = []
    tail (x ∷ xs) = xs

-- what lacks it is no list that has it
pub lacks_none : (a b c : Word) → LacksEquals c → c ≡ a ++ 61 ∷ b → ⊥
lacks_none [] b [] l e = absurd cc
lacks_none [] b (x ∷ c) l e = l.0 (ap (λ (z : List ℕ). get_or z 0 0) e)
lacks_none (y ∷ a) b [] l e = absurd cc
lacks_none (y ∷ a) b (x ∷ c) l e = lacks_none a b c l.1 (ap (λ (z : List ℕ). tail z) e)
  where
    tail : List ℕ → List ℕ
    tail [] = []
    tail (x ∷ xs) = xs

not_equals : (b : ℕ) → eqb b 61 ≡ false → b ≢ 61
not_equals b off is = never (subst (λ (z : ℕ). eqb z 61 ≡ false) is off)
  where
    never : true ≡ false → ⊥
    never e = cc

all_by : (xs : List ℕ) → ((k : ℕ) → k < length xs → get_or xs k 0 ≢ 61) → LacksEquals xs
all_by [] f = tt
all_by (x ∷ xs) f = (f 0 (omega arith), all_by xs (λ k lt. f (suc k) (omega (arith, lt))))

abbrev is_equals : ℕ → Bool
is_equals b = eqb b 61

-- none is found
pub no_equals : (bs : List ℕ) → position_or_len is_equals bs ≡ length bs → LacksEquals bs
no_equals bs none = all_by bs (λ k lt. not_equals (get_or bs k 0) (fails_before_first is_equals bs k 0 (omega (arith, lt, none))))

-- what stands before the first lacks it
pub before_lacks : (bs : List ℕ) → position_or_len is_equals bs < length bs → LacksEquals (before_first is_equals bs)
before_lacks bs found = all_by (before_first is_equals bs) (λ k lt.
    let short : k < position_or_len is_equals bs = omega (arith, lt, length-take-le (position_or_len is_equals bs) bs (omega (arith, found))) in
    subst (λ (z : ℕ). z ≢ 61) (sym (get_or-take (position_or_len is_equals bs) bs k 0 short)) (not_equals (get_or bs k 0) (fails_before_first is_equals bs k 0 short)))

-- the parts round the first
pub cut_at_first : (bs : List ℕ) → position_or_len is_equals bs < length bs → bs ≡ before_first is_equals bs ++ 61 ∷ after_first is_equals bs
cut_at_first bs found = split_at_first is_equals bs 0 found ∙ ap (λ (x : ℕ). before_first is_equals bs ++ x ∷ after_first is_equals bs) (eqb-true (get_or bs (position_or_len is_equals bs) 0) 61 (passes_at_first is_equals bs 0 found))

-- what a text is parted into at its first `=`, where it has one
pub parted : (bs : List ℕ) (r : Option (Bor (List ℕ) × Bor (List ℕ))) → IsSplitOnceResult 61 bs r → MatchOption r (LacksEquals bs) (λ x. (bs ≡ x.0.now ++ 61 ∷ x.1.now) × LacksEquals x.0.now)
parted bs None h = no_equals bs (split_once_first 61 bs None h (omega arith))
parted bs (Some x) h =
    let s = split_once_first 61 bs (Some x) h (omega arith) in
    (cut_at_first bs s.0 ∙ ap₂ (λ (a b : List ℕ). a ++ 61 ∷ b) (sym s.1) (sym s.2), subst LacksEquals (sym s.1) (before_lacks bs s.0))

-- ---- the words of objects

-- two sorts of one length begin with letters of their own
abbrev letter : Word → ℕ
letter word = get_or word 0 0

letters_apart : (a b : ℕ) → a ≡ b → (a < b) ⊎ (b < a) → ⊥
letters_apart a b e (inl lt) = omega (arith, e, lt)
letters_apart a b e (inr lt) = omega (arith, e, lt)

-- the sort of an object, and what stands behind its `=`
abbrev pub sort_of : Object → Word
sort_of (store i k) = codes "store"
sort_of (echo i k) = codes "echo"
sort_of (locator i) = codes "locator"
sort_of (place i p) = codes "place"
sort_of (adapter i p) = codes "adapter"

abbrev pub rest_of : Object → Word
rest_of (store i k) = two_parts i k
rest_of (echo i k) = two_parts i k
rest_of (locator i) = i
rest_of (place i p) = two_parts i p
rest_of (adapter i p) = two_parts i p

sort_lacks : (o : Object) → LacksEquals (sort_of o)
sort_lacks (store i k) = no_equals (codes "store") refl
sort_lacks (echo i k) = no_equals (codes "echo") refl
sort_lacks (locator i) = no_equals (codes "locator") refl
sort_lacks (place i p) = no_equals (codes "place") refl
sort_lacks (adapter i p) = no_equals (codes "adapter") refl

word_is : (o : Object) → object_word o ≡ sort_of o ++ 61 ∷ rest_of o
word_is (store i k) = refl
word_is (echo i k) = refl
word_is (locator i) = refl
word_is (place i p) = refl
word_is (adapter i p) = refl

-- the word of an object is cut into these
pub sorted : (sort parts : Word) (o : Object) → LacksEquals sort → sort ++ 61 ∷ parts ≡ object_word o → (sort ≡ sort_of o) × (parts ≡ rest_of o)
sorted sort parts o l e = cut_once sort parts (sort_of o) (rest_of o) l (sort_lacks o) (e ∙ word_is o)

-- no `=` where there should be two parts
pub no_two_parts : (sort parts : Word) → LacksEquals sort → sort ≢ codes "locator" → LacksEquals parts → (o : Object) → sort ++ 61 ∷ parts ≡ object_word o → IsCut o → ⊥
no_two_parts sort parts l other lacks o e cut = by o (sorted sort parts o l e)
  where
    by : (o : Object) → (sort ≡ sort_of o) × (parts ≡ rest_of o) → ⊥
    by (store i k) (s, r) = lacks_none i k parts lacks r
    by (echo i k) (s, r) = lacks_none i k parts lacks r
    by (locator i) (s, r) = other s
    by (place i p) (s, r) = lacks_none i p parts lacks r
    by (adapter i p) (s, r) = lacks_none i p parts lacks r

-- a sort that is none
pub no_sort : (sort parts : Word) → LacksEquals sort → sort ≢ codes "locator" → sort ≢ codes "store" → sort ≢ codes "echo" → sort ≢ codes "place" → sort ≢ codes "adapter"
    → (o : Object) → sort ++ 61 ∷ parts ≡ object_word o → IsCut o → ⊥
no_sort sort parts l a b c d f o e cut = by o (sorted sort parts o l e).0
  where
    by : (o : Object) → sort ≡ sort_of o → ⊥
    by (store i k) s = b s
    by (echo i k) s = c s
    by (locator i) s = a s
    by (place i p) s = d s
    by (adapter i p) s = f s

-- ---- one object has a word

-- two parts are cut in one way
two_once : (a b c d : Word) → LacksEquals a → LacksEquals c → two_parts a b ≡ two_parts c d → (a ≡ c) × (b ≡ d)
two_once a b c d la lc e = cut_once a b c d la lc e

store_once : (i k : Word) → LacksEquals i → (o : Object) → IsCut o → (codes "store" ≡ sort_of o) × (two_parts i k ≡ rest_of o) → o ≡ store i k
store_once i k l (store j m) cut (s, r) = let e = two_once i k j m l cut r in sym (ap₂ store e.0 e.1)
store_once i k l (echo j m) cut (s, r) = absurd cc
store_once i k l (locator j) cut (s, r) = absurd cc
store_once i k l (place j m) cut (s, r) = absurd (letters_apart 115 112 (ap letter s) (inr (omega arith)))
store_once i k l (adapter j m) cut (s, r) = absurd cc

echo_once : (i k : Word) → LacksEquals i → (o : Object) → IsCut o → (codes "echo" ≡ sort_of o) × (two_parts i k ≡ rest_of o) → o ≡ echo i k
echo_once i k l (store j m) cut (s, r) = absurd cc
echo_once i k l (echo j m) cut (s, r) = let e = two_once i k j m l cut r in sym (ap₂ echo e.0 e.1)
echo_once i k l (locator j) cut (s, r) = absurd cc
echo_once i k l (place j m) cut (s, r) = absurd cc
echo_once i k l (adapter j m) cut (s, r) = absurd cc

locator_once : (i : Word) → (o : Object) → (codes "locator" ≡ sort_of o) × (i ≡ rest_of o) → o ≡ locator i
locator_once i (store j m) (s, r) = absurd cc
locator_once i (echo j m) (s, r) = absurd cc
locator_once i (locator j) (s, r) = sym (ap locator r)
locator_once i (place j m) (s, r) = absurd cc
locator_once i (adapter j m) (s, r) = absurd (letters_apart 108 97 (ap letter s) (inr (omega arith)))

place_once : (i k : Word) → LacksEquals i → (o : Object) → IsCut o → (codes "place" ≡ sort_of o) × (two_parts i k ≡ rest_of o) → o ≡ place i k
place_once i k l (store j m) cut (s, r) = absurd (letters_apart 112 115 (ap letter s) (inl (omega arith)))
place_once i k l (echo j m) cut (s, r) = absurd cc
place_once i k l (locator j) cut (s, r) = absurd cc
place_once i k l (place j m) cut (s, r) = let e = two_once i k j m l cut r in sym (ap₂ place e.0 e.1)
place_once i k l (adapter j m) cut (s, r) = absurd cc

adapter_once : (i k : Word) → LacksEquals i → (o : Object) → IsCut o → (codes "adapter" ≡ sort_of o) × (two_parts i k ≡ rest_of o) → o ≡ adapter i k
adapter_once i k l (store j m) cut (s, r) = absurd cc
adapter_once i k l (echo j m) cut (s, r) = absurd cc
adapter_once i k l (locator j) cut (s, r) = absurd (letters_apart 97 108 (ap letter s) (inl (omega arith)))
adapter_once i k l (place j m) cut (s, r) = absurd cc
adapter_once i k l (adapter j m) cut (s, r) = let e = two_once i k j m l cut r in sym (ap₂ adapter e.0 e.1)

pub object_once : (a b : Object) → IsCut a → IsCut b → object_word a ≡ object_word b → b ≡ a
object_once (store i k) b ca cb e = store_once i k ca b cb (sorted (codes "store") (two_parts i k) b (no_equals (codes "store") refl) e)
object_once (echo i k) b ca cb e = echo_once i k ca b cb (sorted (codes "echo") (two_parts i k) b (no_equals (codes "echo") refl) e)
object_once (locator i) b ca cb e = locator_once i b (sorted (codes "locator") i b (no_equals (codes "locator") refl) e)
object_once (place i p) b ca cb e = place_once i p ca b cb (sorted (codes "place") (two_parts i p) b (no_equals (codes "place") refl) e)
object_once (adapter i p) b ca cb e = adapter_once i p ca b cb (sorted (codes "adapter") (two_parts i p) b (no_equals (codes "adapter") refl) e)

-- ---- what they are cut into, as the code cuts them

-- two parts behind a sort
pub two_of : (sort spelled parts name second : Word) → sort ≡ spelled → (parts ≡ name ++ 61 ∷ second) × LacksEquals name → (sort ++ 61 ∷ parts ≡ spelled ++ 61 ∷ two_parts name second) × LacksEquals name
two_of sort spelled parts name second is cut = (ap₂ (λ (a b : Word). a ++ 61 ∷ b) is cut.0, cut.1)

-- a word that is cut into its sort and what stands behind
pub spelled_by : (word sort spelled parts : Word) (r : Option ObjectWord) → word ≡ sort ++ 61 ∷ parts → sort ≡ spelled → Spells (spelled ++ 61 ∷ parts) r → Spells word r
spelled_by word sort spelled parts r cut is h = subst (λ (w : Word). Spells w r) (sym (cut ∙ ap (λ (a : Word). a ++ 61 ∷ parts) is)) h
