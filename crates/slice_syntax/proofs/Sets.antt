-- Sets of sorts, and which token is next.
use Rattle.std.proofs.Common.{ℕ, zero, suc, ◌≡◌, Bool, true, false, not, ◌&&◌, ◌||◌, ◌⊎◌, inl, inr, nat_eq, List, [], ◌∷◌, ◌++◌, refl, sym, ap, ◌∙◌}
use Rattle.std.proofs.lemmas.Bool.{eqb-true}
use Rattle.std.proofs.lemmas.List.Folds.{list_any-append}
use Rattle.slice_syntax.specs.declared.terminal.Terminal.{Terminal}
use Rattle.slice_syntax.specs.declared.terminal.Terminal.TheVariants as terminals
use Rattle.slice_syntax.specs.Lexemes.{Lexeme, Lexemes, group, code, is_terminal, has, begins, next, terminal_of}

decode : ℕ → ℕ → Terminal
decode zero n = terminals.Word
decode (suc zero) n = terminals.Keyword n
decode (suc (suc zero)) n = terminals.Number
decode (suc (suc (suc zero))) n = terminals.Text
decode (suc (suc (suc (suc zero)))) n = terminals.Symbol n
decode (suc (suc (suc (suc (suc zero))))) n = terminals.Include
decode (suc (suc (suc (suc (suc (suc zero)))))) n = terminals.Guard
decode (suc (suc (suc (suc (suc (suc (suc zero))))))) n = terminals.Aside
decode (suc (suc (suc (suc (suc (suc (suc (suc zero)))))))) n = terminals.EndGuard
decode (suc (suc (suc (suc (suc (suc (suc (suc (suc m))))))))) n = terminals.Stray

decoded : (s : Terminal) → decode (group s) (code s) ≡ s
unfolding decode
decoded terminals.Word = refl
decoded (terminals.Keyword n) = refl
decoded terminals.Number = refl
decoded terminals.Text = refl
decoded (terminals.Symbol n) = refl
decoded terminals.Include = refl
decoded terminals.Guard = refl
decoded terminals.Aside = refl
decoded terminals.EndGuard = refl
decoded terminals.Stray = refl

pub both_true : (a b : Bool) → (a && b) ≡ true → (a ≡ true) × (b ≡ true)
both_true true b h = (refl, h)
both_true false b h = absurd cc

pub either_false : (a b : Bool) → (a || b) ≡ false → (a ≡ false) × (b ≡ false)
either_false true b h = absurd cc
either_false false b h = (refl, h)

-- sorts that the test takes for the same are
pub exact : (a b : Terminal) → is_terminal a b ≡ true → a ≡ b
exact a b h =
    let parts = both_true (nat_eq (group a) (group b)) (nat_eq (code a) (code b)) h in
    let groups : group a ≡ group b = eqb-true (group a) (group b) parts.0 in
    let codes : code a ≡ code b = eqb-true (code a) (code b) parts.1 in
    sym (decoded a) ∙ ap (λ (g : ℕ). decode g (code a)) groups ∙ ap (decode (group b)) codes ∙ decoded b

-- no sort is in both
abbrev pub disjoint : List Terminal → List Terminal → Bool
disjoint [] others = true
disjoint (s ∷ set) others = not (has others s) && disjoint set others

not_true : (b : Bool) → not b ≡ true → b ≡ false
not_true true h = absurd cc
not_true false h = refl

split_or : (a b : Bool) → (a || b) ≡ true → (a ≡ true) ⊎ (b ≡ true)
split_or true b h = inl refl
split_or false b h = inr h

pub apart : (set others : List Terminal) (s : Terminal) → disjoint set others ≡ true → has set s ≡ true → has others s ≡ false
apart [] others s d h = absurd cc
apart (first ∷ set) others s d h =
    let parts = both_true (not (has others first)) (disjoint set others) d in
    elim (split_or (is_terminal first s) (has set s) h) [
      | inl same ↦ let is : first ≡ s = exact first s same in ap (has others) (sym is) ∙ not_true (has others first) parts.0
      | inr other ↦ apart set others s parts.1 other
    ]

pub has_append : (a b : List Terminal) (s : Terminal) → has (a ++ b) s ≡ false → (has a s ≡ false) × (has b s ≡ false)
has_append a b s h = either_false (has a s) (has b s) (sym (list_any-append (λ other. is_terminal other s) a b) ∙ h)

pub begins_append : (a b : List Terminal) (ls : Lexemes) → begins (a ++ b) ls ≡ false → (begins a ls ≡ false) × (begins b ls ≡ false)
begins_append a b [] h = (refl, refl)
begins_append a b (l ∷ ls) h = has_append a b (terminal_of l) h

pub begins_next : (set : List Terminal) (ls others : Lexemes) → next ls ≡ next others → begins set ls ≡ begins set others
begins_next set [] [] e = refl
begins_next set [] (o ∷ others) e = absurd cc
begins_next set (l ∷ ls) [] e = absurd cc
begins_next set (l ∷ ls) (o ∷ others) e = let same : l ≡ o = cc in ap (λ (x : Lexeme). has set (terminal_of x)) same

pub next_append : (front ls others : Lexemes) → next ls ≡ next others → next (front ++ ls) ≡ next (front ++ others)
next_append [] ls others e = e
next_append (l ∷ front) ls others e = refl
