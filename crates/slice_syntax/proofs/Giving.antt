-- What holds of what the tokens of a rule spell, joiner by joiner.
use Rattle.std.proofs.Common.{◌⊎◌, Bool, true, false, List, [], ◌∷◌, ◌++◌, sym, subst, inl, inr}
use Rattle.std.specs.Prelude.{IsTrue}
use Rattle.slice_syntax.specs.declared.terminal.Terminal.{Terminal}
use Rattle.slice_syntax.specs.Lexemes.{Lexeme, Lexemes, has, terminal_of}
use Rattle.slice_syntax.specs.Grammar.{Grammar, nothing, token, made, both, or, series, Spells, Runs, optional, parted}
use Rattle.slice_syntax.specs.Grammar as grammar
use Rattle.slice_syntax.specs.Places.{Each, Where}
use Rattle.slice_syntax.proofs.Holding.{front_of, back_of}

-- Holds of what the tokens spell, where T holds of them
pub record Gives (T : Lexeme → Type 0) {A : Type 0} (Holds : A → Type 0) (g : Grammar A) : Type 0 where
  pub gives : (ls : Lexemes) (a : A) → Spells g ls a → Each T ls → Holds a

module _ {T : Lexeme → Type 0} where
  pub by_token : {A : Type 0} {Holds : A → Type 0} {found : List Terminal} {view : Lexeme → A} → ((l : Lexeme) → IsTrue (has found (terminal_of l)) → T l → Holds (view l))
      → Gives T Holds (token found view)
  by_token {Holds = Holds} f = record { gives = λ ls a s h. let all : Each T (s.0 ∷ []) = subst (Each T) s.1 h in subst Holds (sym s.3) (f s.0 s.2 all.0) }

  pub by_nothing : {A : Type 0} {Holds : A → Type 0} {x : A} → Holds x → Gives T Holds (nothing x)
  by_nothing {Holds = Holds} f = record { gives = λ ls a s h. subst Holds (sym s.1) f }

  pub by_made : {X A : Type 0} {H : X → Type 0} {Holds : A → Type 0} {view : X → A} {g : Grammar X} → Gives T H g → ((x : X) → H x → Holds (view x)) → Gives T Holds (made view g)
  by_made {Holds = Holds} inner f = record { gives = λ ls a s h. subst Holds (sym s.2) (f s.0 (inner.gives ls s.0 s.1 h)) }

  pub by_both : {X Y A : Type 0} {H : X → Type 0} {K : Y → Type 0} {Holds : A → Type 0} {make : X → Y → A} {g : Grammar X} {k : Grammar Y} → Gives T H g → Gives T K k → ((x : X) (y : Y) → H x → K y → Holds (make x y))
      → Gives T Holds (both make g k)
  by_both {Holds = Holds} first second f = record {
    gives = λ ls a s h.
        let all : Each T (s.2 ++ s.3) = subst (Each T) s.4 h in
        subst Holds (sym s.7) (f s.0 s.1 (first.gives s.2 s.0 s.5 (front_of T s.2 s.3 all)) (second.gives s.3 s.1 s.6 (back_of T s.2 s.3 all)));
  }

  or_either : {A : Type 0} {Holds : A → Type 0} {g k : Grammar A} → Gives T Holds g → Gives T Holds k → (ls : Lexemes) (a : A) → (Spells g ls a ⊎ Spells k ls a) → Each T ls → Holds a
  or_either first second ls a (inl s) h = first.gives ls a s h
  or_either first second ls a (inr s) h = second.gives ls a s h

  pub by_or : {A : Type 0} {Holds : A → Type 0} {g k : Grammar A} → Gives T Holds g → Gives T Holds k → Gives T Holds (or g k)
  by_or first second = record { gives = or_either first second }

  where_true : {A : Type 0} {Holds : A → Type 0} {g : Grammar A} → Gives T Holds g → (b : Bool) (ls : Lexemes) (x : A) → grammar.Where (Spells g) b ls x → Each T ls → Holds x
  where_true inner true ls x s h = inner.gives ls x s h
  where_true inner false ls x s h = absurd s

  pub by_runs : {A : Type 0} {Holds : A → Type 0} {g : Grammar A} (more : A → Bool) → Gives T Holds g → (state : Bool) (ls : Lexemes) (xs : List A) → Runs (grammar.Where (Spells g)) (λ s x. more x) (λ s. true) state ls xs → Each T ls → Each Holds xs
  by_runs more inner state ls [] s h = tt
  by_runs more inner state ls (x ∷ xs) s h =
      let all : Each T (s.0 ++ s.1) = subst (Each T) s.2 h in
      (where_true inner state s.0 x s.3 (front_of T s.0 s.1 all), by_runs more inner (more x) s.1 xs s.4 (back_of T s.0 s.1 all))

  pub by_series : {A : Type 0} {Holds : A → Type 0} {more : A → Bool} {g : Grammar A} → Gives T Holds g → Gives T (Each Holds) (series more g)
  by_series {more = more} inner = record { gives = by_runs more inner true }

  pub by_any : {A : Type 0} {g : Grammar A} → Gives T (λ (x : A). Unit {0}) g
  by_any = record { gives = λ ls a s h. tt }

  -- the one behind the other, for the value of the second or of the first
  pub by_second : {X A : Type 0} {Holds : A → Type 0} {g : Grammar X} {k : Grammar A} → Gives T Holds k → Gives T Holds (both (λ x y. y) g k)
  by_second second = by_both by_any second (λ x y a b. b)

  pub by_first : {X A : Type 0} {Holds : A → Type 0} {g : Grammar A} {k : Grammar X} → Gives T Holds g → Gives T Holds (both (λ x y. x) g k)
  by_first first = by_both first by_any (λ x y a b. a)

  pub by_optional : {A : Type 0} {Holds : A → Type 0} {g : Grammar A} → Gives T Holds g → Gives T (Where Holds) (optional g)
  by_optional inner = by_or (by_made inner (λ x i. i)) (by_nothing tt)

  pub by_parted : {A : Type 0} {Holds : A → Type 0} {terminal : Terminal} {g : Grammar A} → Gives T Holds g → Gives T (Each Holds) (parted terminal g)
  by_parted inner = by_both inner (by_series (by_second inner)) (λ x xs a b. (a, b))
