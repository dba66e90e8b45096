-- Reading tokens by a rule, from the left and with one token ahead: what they stand for and what is left, or what is left at the token refused.
use Rattle.std.specs.Prelude.{ℕ, zero, suc, Bool, true, false, cond, ◌&&◌, List, [], ◌∷◌, ◌++◌, length, Result, Ok, Err}
use Rattle.slice_syntax.specs.declared.terminal.Terminal.{Terminal}
use Rattle.slice_syntax.specs.Lexemes.{Lexeme, Lexemes, has, begins, terminal_of}
use Rattle.slice_syntax.specs.Grammar.{Grammar, nothing, token, made, both, or, series}

abbrev pub Reading : Type 0 → Type 0
Reading A = Result (A × Lexemes) Lexemes

-- one part after the other
infixl 10 ◌>>=◌
abbrev pub ◌>>=◌ : {A B : Type 0} → Reading A → (A × Lexemes → Reading B) → Reading B
(Ok x) >>= f = f x
(Err left) >>= f = Err left

-- the rule may be spelled by no token
abbrev pub is_empty : {A : Type 0} → Grammar A → Bool
is_empty (nothing x) = true
is_empty (token terminals view) = false
is_empty (made view g) = is_empty g
is_empty (both make g h) = is_empty g && is_empty h
is_empty (or g h) = is_empty h
is_empty (series more g) = true

-- what the rule may begin with
abbrev pub starts : {A : Type 0} → Grammar A → List Terminal
starts (nothing x) = []
starts (token terminals view) = terminals
starts (made view g) = starts g
starts (both make g h) = cond (is_empty g) (starts g ++ starts h) (starts g)
starts (or g h) = starts g ++ starts h
starts (series more g) = starts g

-- one token of these terminals
abbrev pub token_at : {A : Type 0} → List Terminal → (Lexeme → A) → Lexemes → Reading A
token_at terminals view [] = Err []
token_at terminals view (l ∷ ls) = cond (has terminals (terminal_of l)) (Ok (view l, ls)) (Err (l ∷ ls))

abbrev pub or_at : {A : Type 0} → Bool → (Lexemes → Reading A) → (Lexemes → Reading A) → Lexemes → Reading A
or_at true one other ls = one ls
or_at false one other ls = other ls

-- Parts one after the other, as long as the next token begins one at the state that was reached. `most` is at least the number of tokens.
abbrev pub runs_at : {S X : Type 0} → (S → List Terminal) → (S → Lexemes → Reading X) → (S → X → S) → (S → Bool) → ℕ → S → Lexemes → Reading (List X)
runs_at starts step next may_end zero s ls = cond (may_end s) (Ok ([], ls)) (Err ls)
runs_at {X = X} starts step next may_end (suc most) s ls =
    cond {A = Reading (List X)} (begins (starts s) ls)
    (step s ls >>= (λ x. runs_at starts step next may_end most (next s x.0) x.1 >>= (λ xs. Ok (x.0 ∷ xs.0, xs.1))))
    (cond (may_end s) (Ok ([], ls)) (Err ls))

-- the sorts, where one may follow
abbrev pub starts_where : List Terminal → Bool → List Terminal
starts_where terminals true = terminals
starts_where terminals false = []

-- What the rule reads.
abbrev pub read : {A : Type 0} → Grammar A → Lexemes → Reading A
read (nothing x) ls = Ok (x, ls)
read (token terminals view) ls = token_at terminals view ls
read (made view g) ls = read g ls >>= (λ x. Ok (view x.0, x.1))
read (both make g h) ls = read g ls >>= (λ x. read h x.1 >>= (λ y. Ok (make x.0 y.0, y.1)))
read (or g h) ls = or_at (begins (starts g) ls) (read g) (read h) ls
read (series more g) ls = runs_at (starts_where (starts g)) (λ s. read g) (λ s x. more x) (λ s. true) (length ls) true ls

-- what is made of the values that a reading gives
abbrev pub gather : {A B : Type 0} → (List A → B) → Reading (List A) → Reading B
gather f r = r >>= (λ ys. Ok (f ys.0, ys.1))
