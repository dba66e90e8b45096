-- What tells that bytes stand as one word, whatever follows them that ends a word.
use Rattle.std.specs.Prelude.{ℕ, ◌≡◌, true, false, List, [], ◌∷◌, ◌++◌, length}
use Rattle.ice_proxy.specs.Words.{is_end, bare, word_length}

-- nothing, or a blank, `:` or `@` at the front
abbrev pub EndsWord : List ℕ → Type 0
EndsWord [] = Unit {0}
EndsWord (c ∷ cs) = is_end c ≡ true

-- something, and no blank, `:` or `@` at the front
abbrev pub Begins : List ℕ → Type 0
Begins [] = ⊥
Begins (c ∷ cs) = is_end c ≡ false

-- These bytes are the word that they begin, whatever follows that ends it.
pub record IsWord (bytes : List ℕ) : Type 0 where
  pub begins : Begins bytes
  pub whole : (rest : List ℕ) → EndsWord rest → word_length bare (bytes ++ rest) ≡ length bytes
