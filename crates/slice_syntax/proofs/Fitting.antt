-- Which rules are read with one token ahead, and that they are.
use Rattle.std.proofs.Common.{ℕ, zero, suc, ◌≡◌, ◌<◌, arith, Bool, true, false, cond, not, ◌&&◌, codes, List, [], ◌∷◌, ◌++◌, refl, subst, nat_lt, get_or, inl, inr}
use Rattle.std.proofs.lemmas.Bool.{eq-eqb, false≢true}
use Rattle.std.specs.List.{slice_index}
use Rattle.std.specs.Str.{is_utf8}
use Rattle.std.proofs.lemmas.Str.{IsUtf8-from_ascii, is_utf8-from_IsUtf8}
use borrow.Author.Tests.{ltb-true}
use Rattle.std.proofs.lemmas.Option.{slice_get-get_or}
use Rattle.case_tables.specs.Tables.{keyword_names, symbol_names}
use Rattle.case_tables.proofs.Places.{no_row}
use Rattle.slice_lexer.specs.Tokens as forms
use Rattle.slice_lexer.specs.declared.token.TokenKind.TheVariants as kinds
use Rattle.slice_syntax.specs.declared.terminal.Terminal.{Terminal}
use Rattle.slice_syntax.specs.declared.terminal.Terminal.TheVariants as terminals
use Rattle.slice_syntax.specs.Lexemes.{IsAlone, AreTokens, Lexeme, Lexemes, has, begins, terminal_of, is_terminal, group, code, word_terminal, directive_terminal}
use Rattle.slice_syntax.specs.Grammar.{Grammar, nothing, token, made, both, or, series, Spells, Where, Runs}
use Rattle.slice_syntax.specs.Reading.{Reading, is_empty, starts, starts_where, read}
use Rattle.slice_syntax.proofs.Sets.{disjoint, apart, begins_append, both_true}
use Rattle.slice_syntax.proofs.Laws.{Lawful, lawful_nothing, lawful_token, lawful_made, lawful_both, lawful_or}
use Rattle.slice_syntax.proofs.Loops.{Stepping, lawful_runs}

-- a token of each sort
sample_of : Terminal → Lexeme
sample_of terminals.Word = record { kind = kinds.Word; from = 0; bytes = codes "a" }
sample_of (terminals.Keyword n) = record { kind = kinds.Keyword n; from = 0; bytes = get_or keyword_names n [] }
sample_of terminals.Number = record { kind = kinds.Number 0; from = 0; bytes = codes "0" }
sample_of terminals.Text = record { kind = kinds.Text; from = 0; bytes = 34 ∷ 34 ∷ [] }
sample_of (terminals.Symbol n) = record { kind = kinds.Symbol n; from = 0; bytes = get_or symbol_names n [] }
sample_of terminals.Include = record { kind = kinds.Directive; from = 0; bytes = codes "#include<a>" }
sample_of terminals.Guard = record { kind = kinds.Directive; from = 0; bytes = codes "#ifndef a" }
sample_of terminals.Aside = record { kind = kinds.Directive; from = 0; bytes = codes "#pragma once" }
sample_of terminals.EndGuard = record { kind = kinds.Directive; from = 0; bytes = codes "#endif" }
sample_of terminals.Stray = record { kind = kinds.Directive; from = 0; bytes = codes "#" }

low : (i : ℕ) → slice_index (codes "a") i < 128
low zero = omega arith
low (suc i) = omega arith

a_text : is_utf8 (codes "a") ≡ true
a_text = is_utf8-from_IsUtf8 (codes "a") (IsUtf8-from_ascii (codes "a") low)

sampled : (s : Terminal) → terminal_of (sample_of s) ≡ s
unfolding sample_of word_terminal directive_terminal
sampled terminals.Word = rw a_text refl
sampled (terminals.Keyword n) = refl
sampled terminals.Number = refl
sampled terminals.Text = refl
sampled (terminals.Symbol n) = refl
sampled terminals.Include = rw a_text refl
sampled terminals.Guard = refl
sampled terminals.Aside = refl
sampled terminals.EndGuard = refl
sampled terminals.Stray = refl

pub same_terminal : (s : Terminal) → is_terminal s s ≡ true
same_terminal s = let a = eq-eqb (group s) (group s) refl in let b = eq-eqb (code s) (code s) refl in rw (a, b) refl

-- sorts that some token has
abbrev pub is_known : Terminal → Bool
is_known terminals.Word = true
is_known (terminals.Keyword n) = nat_lt n 30
is_known terminals.Number = true
is_known terminals.Text = true
is_known (terminals.Symbol n) = nat_lt n 17
is_known terminals.Include = true
is_known terminals.Guard = true
is_known terminals.Aside = true
is_known terminals.EndGuard = true
is_known terminals.Stray = false

abbrev pub any_terminal : List Terminal → Bool
any_terminal [] = false
any_terminal (s ∷ set) = is_known s

sample : List Terminal → Lexeme
sample [] = sample_of terminals.Stray
sample (s ∷ set) = sample_of s

sample_fits : (set : List Terminal) → any_terminal set ≡ true → has set (terminal_of (sample set)) ≡ true
unfolding sample
sample_fits [] h = absurd cc
sample_fits (s ∷ set) h = let is = sampled s in let same = same_terminal s in rw (is, same) refl

keyword_alone : (n : ℕ) → nat_lt n 30 ≡ true → IsAlone (sample_of (terminals.Keyword n))
unfolding sample_of
keyword_alone n h = slice_get-get_or keyword_names n [] (ltb-true n 30 h)

symbol_alone : (n : ℕ) → nat_lt n 17 ≡ true → IsAlone (sample_of (terminals.Symbol n))
unfolding sample_of
symbol_alone n h = slice_get-get_or symbol_names n [] (ltb-true n 17 h)

alone_of : (s : Terminal) → is_known s ≡ true → IsAlone (sample_of s)
unfolding sample_of
alone_of terminals.Word h = inl ((refl, refl), no_row keyword_names (codes "a") refl)
alone_of (terminals.Keyword n) h = keyword_alone n h
alone_of terminals.Number h = (inr (inl (refl, refl, refl)), omega arith)
alone_of terminals.Text h = ([], refl, forms.none)
alone_of (terminals.Symbol n) h = symbol_alone n h
alone_of terminals.Include h = (refl, refl)
alone_of terminals.Guard h = (refl, refl)
alone_of terminals.Aside h = (refl, refl)
alone_of terminals.EndGuard h = (refl, refl)
alone_of terminals.Stray h = absurd cc

sample_alone : (set : List Terminal) → any_terminal set ≡ true → IsAlone (sample set)
unfolding sample
sample_alone [] h = absurd cc
sample_alone (s ∷ set) h = alone_of s h

-- what a whole spelling may go on with
abbrev pub goes : {A : Type 0} → Grammar A → List Terminal
goes (nothing x) = []
goes (token set view) = []
goes (made view g) = goes g
goes (both make g h) = goes h ++ cond (is_empty h) (goes g) []
goes (or g h) = goes g ++ (goes h ++ cond (is_empty h) (starts g) [])
goes (series more g) = goes g ++ starts g

-- One token ahead tells which part is next.
abbrev pub fits : {A : Type 0} → Grammar A → Bool
fits (nothing x) = true
fits (token set view) = any_terminal set
fits (made view g) = fits g
fits (both make g h) = fits g && (fits h && disjoint (goes g) (starts h))
fits (or g h) = not (is_empty g) && (disjoint (starts g) (starts h) && (fits g && fits h))
fits (series more g) = not (is_empty g) && (disjoint (goes g) (starts g) && fits g)

pub not_true : (b : Bool) → not b ≡ true → b ≡ false
not_true true h = absurd cc
not_true false h = refl

pub full : {A : Type 0} (P : Lexemes → A → Type 0) (r : Lexemes → Reading A) (bare : Bool) (set others : List Terminal) → bare ≡ false → Lawful P r bare set others → Lawful P r false set others
full P r bare set others e g = subst (λ (b : Bool). Lawful P r b set others) e g

-- the laws of one part that is no empty one
pub stepping : {X : Type 0} (P : Lexemes → X → Type 0) (p : Lexemes → Reading X) (set others : List Terminal) → Lawful P p false set others → Stepping P p set others
stepping P p set others g = record {
  empty = λ x h. false≢true (g.empty x h);
  first = g.first;
  found = λ ls rest x begun e. g.found ls rest x e;
  stopped = λ ls left begun e. g.stopped ls left e;
  only = g.only;
}

never_begins : (ls : Lexemes) → begins [] ls ≡ true → ⊥
never_begins [] h = absurd cc
never_begins (l ∷ ls) h = absurd cc

module _ {A : Type 0} (more : A → Bool) (g : Grammar A) (laws : Lawful (Spells g) (read g) false (starts g) (goes g)) (clear : disjoint (goes g) (starts g) ≡ true) where
  pub series_steps : (s : Bool) → Stepping (Where (Spells g) s) (read g) (starts_where (starts g) s) (goes g)
  series_steps true = stepping (Spells g) (read g) (starts g) (goes g) laws
  series_steps false = record {
    empty = λ x h. h;
    first = λ l ls x h. absurd h;
    found = λ ls rest x begun e. absurd (never_begins ls begun);
    stopped = λ ls left begun e. absurd (never_begins ls begun);
    only = λ taken rest x h none. absurd h;
  }

  pub series_clear : (s : Bool) (x : A) (l : Lexeme) → has (goes g) (terminal_of l) ≡ true → has (starts_where (starts g) (more x)) (terminal_of l) ≡ false
  series_clear s x l h = by (more x) where
    by : (b : Bool) → has (starts_where (starts g) b) (terminal_of l) ≡ false
    by true = apart (goes g) (starts g) (terminal_of l) clear h
    by false = refl

  pub series_ends : (s : Bool) → true ≡ true → (rest : Lexemes) → begins (goes g ++ starts g) rest ≡ false → begins (starts_where (starts g) s) rest ≡ false
  series_ends true e rest none = (begins_append (goes g) (starts g) rest none).1
  series_ends false e [] none = refl
  series_ends false e (l ∷ rest) none = refl

  pub series_steps_end : (s : Bool) (rest : Lexemes) → begins (goes g ++ starts g) rest ≡ false → begins (goes g) rest ≡ false
  series_steps_end s rest none = (begins_append (goes g) (starts g) rest none).0

  abbrev Rows : Bool → Lexemes → List A → Type 0
  Rows = Runs (Where (Spells g)) (λ s x. more x) (λ s. true)

  pub series_done : (s : Bool) → (ls : Lexemes) × (xs : List A) × Rows s ls xs × AreTokens ls
  series_done s = ([], [], (refl, refl), tt)

  pub lawful_series : Lawful (Rows true) (read (series more g)) true (starts g) (goes g ++ starts g)
  lawful_series = lawful_runs (Where (Spells g)) (λ s. read g) (λ s x. more x) (λ s. true) (starts_where (starts g)) (λ s. goes g) (goes g ++ starts g) series_steps series_clear series_ends series_steps_end series_done true

pub lawful : {A : Type 0} (g : Grammar A) → fits g ≡ true → Lawful (Spells g) (read g) (is_empty g) (starts g) (goes g)
lawful (nothing x) h = lawful_nothing x
lawful (token set view) h = lawful_token set view (sample set) (sample_alone set h) (sample_fits set h)
lawful (made view g) h = lawful_made view (Spells g) (read g) (is_empty g) (starts g) (goes g) (lawful g h)
lawful (both make g k) h =
    let one = both_true (fits g) (fits k && disjoint (goes g) (starts k)) h in
    let two = both_true (fits k) (disjoint (goes g) (starts k)) one.1 in
    lawful_both make (Spells g) (read g) (λ x. Spells k) (λ x. read k) (is_empty g) (starts g) (goes g) (is_empty k) (starts k) (goes k) (lawful g one.0) (λ x. lawful k two.0) two.1
lawful (or g k) h =
    let one = both_true (not (is_empty g)) (disjoint (starts g) (starts k) && (fits g && fits k)) h in
    let two = both_true (disjoint (starts g) (starts k)) (fits g && fits k) one.1 in
    let three = both_true (fits g) (fits k) two.1 in
    lawful_or (Spells g) (read g) (Spells k) (read k) (starts g) (goes g) (is_empty k) (starts k) (goes k)
    (full (Spells g) (read g) (is_empty g) (starts g) (goes g) (not_true (is_empty g) one.0) (lawful g three.0)) (lawful k three.1) two.0
lawful (series more g) h =
    let one = both_true (not (is_empty g)) (disjoint (goes g) (starts g) && fits g) h in
    let two = both_true (disjoint (goes g) (starts g)) (fits g) one.1 in
    lawful_series more g (full (Spells g) (read g) (is_empty g) (starts g) (goes g) (not_true (is_empty g) one.0) (lawful g two.1)) two.0
