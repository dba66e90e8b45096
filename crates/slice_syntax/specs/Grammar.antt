-- What a rule of a grammar is, and which tokens it spells.
use Rattle.std.specs.Prelude.{ℕ, ◌≡◌, Bool, true, false, IsTrue, List, [], ◌∷◌, ◌++◌, Option, Some, None, ◌⊎◌}
use Rattle.slice_syntax.specs.declared.terminal.Terminal.{Terminal}
use Rattle.slice_syntax.specs.Lexemes.{Lexeme, Lexemes, has, terminal_of}

-- A rule whose spellings stand for values of a type.
pub data Grammar : Type 0 → Type 1 where
  -- no token
  nothing : {A : Type 0} → A → Grammar A
  -- one token of these sorts
  token : {A : Type 0} → List Terminal → (Lexeme → A) → Grammar A
  -- the same spellings, for other values
  made : {X A : Type 0} → (X → A) → Grammar X → Grammar A
  -- one after the other
  both : {X Y A : Type 0} → (X → Y → A) → Grammar X → Grammar Y → Grammar A
  -- the one or the other
  or : {A : Type 0} → Grammar A → Grammar A → Grammar A
  -- any number, one after the other, where each but the last says that one may follow
  series : {A : Type 0} → (A → Bool) → Grammar A → Grammar (List A)

-- Spellings one after the other: `Step` at a state spells a value, which leads to the next state. They may end at some states.
abbrev pub Runs : {S X : Type 0} → (S → Lexemes → X → Type 0) → (S → X → S) → (S → Bool) → S → Lexemes → List X → Type 0
Runs Step next may_end s ls [] = (ls ≡ []) × IsTrue (may_end s)
Runs {X = X} Step next may_end s ls (x ∷ xs) = (before behind : Lexemes) × (ls ≡ before ++ behind) × Step s before x × Runs Step next may_end (next s x) behind xs

-- the spellings, where one may follow
abbrev pub Where : {A : Type 0} → (Lexemes → A → Type 0) → Bool → Lexemes → A → Type 0
Where One true ls x = One ls x
Where One false ls x = ⊥

-- The tokens spell the value by the rule.
abbrev pub Spells : {A : Type 0} → Grammar A → Lexemes → A → Type 0
Spells (nothing x) ls a = (ls ≡ []) × (a ≡ x)
Spells (token terminals view) ls a = (l : Lexeme) × (ls ≡ l ∷ []) × IsTrue (has terminals (terminal_of l)) × (a ≡ view l)
Spells (made {X = X} view g) ls a = (x : X) × Spells g ls x × (a ≡ view x)
Spells (both {X = X} {Y = Y} make g h) ls a = (x : X) × (y : Y) × (before behind : Lexemes) × (ls ≡ before ++ behind) × Spells g before x × Spells h behind y × (a ≡ make x y)
Spells (or g h) ls a = Spells g ls a ⊎ Spells h ls a
Spells (series more g) ls xs = Runs (Where (Spells g)) (λ s x. more x) (λ s. true) true ls xs

-- Joiners.

-- g and then h, for the value of h
infixr 40 ◌▸◌
abbrev pub ◌▸◌ : {X A : Type 0} → Grammar X → Grammar A → Grammar A
g ▸ h = both (λ x y. y) g h

-- g and then h, for the value of g
infixl 30 ◌◂◌
abbrev pub ◌◂◌ : {X A : Type 0} → Grammar A → Grammar X → Grammar A
g ◂ h = both (λ x y. x) g h

-- g, which makes a value of what h stands for after it
infixl 20 ◌⊛◌
abbrev pub ◌⊛◌ : {X A : Type 0} → Grammar (X → A) → Grammar X → Grammar A
g ⊛ h = both (λ make x. make x) g h

-- one token of a sort, for its place
abbrev pub one : Terminal → Grammar ℕ
one terminal = token (terminal ∷ []) (λ l. l.from)

-- a rule or nothing
abbrev pub optional : {A : Type 0} → Grammar A → Grammar (Option A)
optional g = or (made (λ x. Some x) g) (nothing None)

-- any number
abbrev pub many : {A : Type 0} → Grammar A → Grammar (List A)
many g = series (λ x. true) g

-- one or more, parted by a token
abbrev pub parted : {A : Type 0} → Terminal → Grammar A → Grammar (List A)
parted terminal g = both (λ x xs. x ∷ xs) g (many (one terminal ▸ g))
