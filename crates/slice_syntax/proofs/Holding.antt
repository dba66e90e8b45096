-- What holds of each token of two parts holds of each of either.
use Rattle.std.proofs.Common.{[], ◌∷◌, ◌++◌}
use Rattle.slice_syntax.specs.Lexemes.{Lexeme, Lexemes}
use Rattle.slice_syntax.specs.Places.{Each}

module _ (T : Lexeme → Type 0) where
  pub front_of : (xs ys : Lexemes) → Each T (xs ++ ys) → Each T xs
  front_of [] ys h = tt
  front_of (x ∷ xs) ys h = (h.0, front_of xs ys h.1)

  pub back_of : (xs ys : Lexemes) → Each T (xs ++ ys) → Each T ys
  back_of [] ys h = h
  back_of (x ∷ xs) ys h = back_of xs ys h.1
