-- The tokens from a place on.
use Rattle.std.proofs.Common.{ℕ, zero, suc, ◌+◌, ◌≡◌, ◌≤◌, Bool, true, false, cond, ◌&&◌, codes, IsTrue, if◌then◌else◌, length, List, [], ◌∷◌, drop, Option, Some, None, Ok, Err, slice_get, slice_range, refl, sym, ap, subst, ◌∙◌}
use Rattle.std.proofs.lemmas.List.{drop-drop, drop_all}
use Rattle.std.specs.Borrow.{Bor}
use Rattle.std.specs.Str.{bytes_eq}
use Rattle.std.specs.Option.{option_map, is_some}
use Rattle.slice_lexer.specs.declared.token.Token.{Token}
use Rattle.slice_lexer.specs.declared.token.TokenKind.{TokenKind}
use Rattle.slice_lexer.specs.declared.token.TokenKind.TheVariants as kinds
use Rattle.slice_syntax.specs.declared.terminal.Terminal.{Terminal}
use Rattle.slice_syntax.specs.declared.terminal.Terminal.TheVariants as terminals
use Rattle.slice_syntax.specs.Lexemes.{Lexeme, Lexemes, lexeme, lexemes, next, seen, begins, has, terminal_of, terminal_by, name_of, if_text, directive_terminal, word_terminal, is_include, is_guard, is_define, is_pragma, is_end, included, directive_rest, directive_word}
use Rattle.slice_syntax.specs.Reading.{Reading, token_at}
use Rattle.slice_syntax.proofs.Laws.{ok_parts}

pub next_at : (text : List ℕ) (tokens : List Token) (at : ℕ) → next (drop at (lexemes text tokens)) ≡ option_map (lexeme text) (slice_get tokens at)
next_at text [] zero = refl
next_at text [] (suc at) = refl
next_at text (token ∷ tokens) zero = refl
next_at text (token ∷ tokens) (suc at) = next_at text tokens at

pub token_found : (text : List ℕ) (tokens : List Token) (at : ℕ) (token : Token) (bytes : Bor (List ℕ)) (left : Lexemes) → left ≡ drop at (lexemes text tokens) → slice_get tokens at ≡ Some token
    → bytes.now ≡ slice_range text token.from token.to → Some (seen (token, bytes)) ≡ next left
token_found text tokens at token bytes left is found spelled =
    let here = next_at text tokens at in
    let whole : Some (seen (token, bytes)) ≡ Some (lexeme text token) = ap (λ (b : List ℕ). Some (record { kind = token.kind; from = token.from; bytes = b })) spelled in
    whole ∙ sym (ap next is ∙ here ∙ ap (option_map (lexeme text)) found)

pub token_none : (text : List ℕ) (tokens : List Token) (at : ℕ) (left : Lexemes) → left ≡ drop at (lexemes text tokens) → slice_get tokens at ≡ None → None ≡ next left
token_none text tokens at left is found = sym (ap next is ∙ next_at text tokens at ∙ ap (option_map (lexeme text)) found)

pub one_on : (all left : Lexemes) (at : ℕ) → left ≡ drop at all → drop (at + 1) all ≡ drop 1 left
one_on all left at is = rw is (sym (drop-drop 1 at all))

pub taken : (terminals : List Terminal) (left after : Lexemes) (l : Lexeme) → Some l ≡ next left → begins terminals left ≡ true → after ≡ drop 1 left → token_at terminals (λ (x : Lexeme). x) left ≡ Ok (l, after)
taken terminals [] after l found test is = absurd cc
taken terminals (first ∷ others) after l found test is =
    let same : l ≡ first = cc in
    rw test (rw (same, is) refl)

pub none_on : (all left : Lexemes) (at : ℕ) → left ≡ drop at all → length all ≤ at → left ≡ drop 1 left
none_on all left at is past = let none : drop at all ≡ [] = drop_all at all past in rw (is, none) refl

pub token_ok : (terminals : List Terminal) (left after : Lexemes) (l : Lexeme) → token_at terminals (λ (x : Lexeme). x) left ≡ Ok (l, after) → IsTrue (has terminals (terminal_of l))
token_ok terminals [] after l e = absurd cc
token_ok terminals (first ∷ others) after l e = at_test (has terminals (terminal_of first)) refl e where
  at_test : (b : Bool) → has terminals (terminal_of first) ≡ b → cond {A = Reading Lexeme} b (Ok (first, others)) (Err (first ∷ others)) ≡ Ok (l, after) → IsTrue (has terminals (terminal_of l))
  at_test true test is = let same : first ≡ l = (ok_parts first l others after is).0 in subst (λ (x : Lexeme). IsTrue (has terminals (terminal_of x))) same test
  at_test false test is = absurd cc

pub never_word : (a b c d e : Bool) → has (terminals.Word ∷ []) (if a then terminals.Include else if b then terminals.Guard else if c then terminals.Aside else if d then terminals.Aside else if e then terminals.EndGuard else terminals.Stray) ≡ true → ⊥
never_word true b c d e h = absurd cc
never_word false true c d e h = absurd cc
never_word false false true d e h = absurd cc
never_word false false false true e h = absurd cc
never_word false false false false true h = absurd cc
never_word false false false false false h = absurd cc

word_kind : (kind : TokenKind) (bytes : List ℕ) → has (terminals.Word ∷ []) (terminal_by kind bytes) ≡ true → None ≡ if_text (name_of bytes) → ⊥
unfolding directive_terminal word_terminal
word_kind kinds.Word bytes h none = let bad = rw (sym none) at h in absurd cc
word_kind (kinds.Keyword n) bytes h none = absurd cc
word_kind (kinds.Number n) bytes h none = absurd cc
word_kind kinds.Text bytes h none = absurd cc
word_kind (kinds.Symbol n) bytes h none = absurd cc
word_kind kinds.Directive bytes h none = never_word (is_include bytes) (is_guard bytes) (is_define bytes) (is_pragma bytes) (is_end bytes) h

-- a word's name is a text
pub word_text : (left after : Lexemes) (l : Lexeme) → token_at (terminals.Word ∷ []) (λ (x : Lexeme). x) left ≡ Ok (l, after) → None ≡ if_text (name_of l.bytes) → ⊥
word_text left after l e none = word_kind l.kind l.bytes (token_ok (terminals.Word ∷ []) left after l e) none

never_include : (b c d e : Bool) → has (terminals.Include ∷ []) (if false then terminals.Include else if b then terminals.Guard else if c then terminals.Aside else if d then terminals.Aside else if e then terminals.EndGuard else terminals.Stray) ≡ true → ⊥
never_include true c d e h = absurd cc
never_include false true d e h = absurd cc
never_include false false true e h = absurd cc
never_include false false false true h = absurd cc
never_include false false false false h = absurd cc

and_false : (a : Bool) → (a && false) ≡ false
and_false true = refl
and_false false = refl

word_no_include : (bytes : List ℕ) (b : Bool) → has (terminals.Include ∷ []) (if b then terminals.Word else terminals.Stray) ≡ true → ⊥
word_no_include bytes true h = absurd cc
word_no_include bytes false h = absurd cc

include_kind : (kind : TokenKind) (bytes : List ℕ) → has (terminals.Include ∷ []) (terminal_by kind bytes) ≡ true → None ≡ included (directive_rest bytes) → ⊥
unfolding directive_terminal word_terminal
include_kind kinds.Word bytes h none = word_no_include bytes (is_some (if_text (name_of bytes))) h
include_kind (kinds.Keyword n) bytes h none = absurd cc
include_kind (kinds.Number n) bytes h none = absurd cc
include_kind kinds.Text bytes h none = absurd cc
include_kind (kinds.Symbol n) bytes h none = absurd cc
include_kind kinds.Directive bytes h none =
    let same : is_include bytes ≡ false = ap (λ (o : Option (List ℕ)). bytes_eq (directive_word bytes) (codes "include") && is_some o) (sym none) ∙ and_false (bytes_eq (directive_word bytes) (codes "include")) in
    never_include (is_guard bytes) (is_define bytes) (is_pragma bytes) (is_end bytes) (rw same at h)

-- an `#include` has a name
pub include_text : (left after : Lexemes) (l : Lexeme) → token_at (terminals.Include ∷ []) (λ (x : Lexeme). x) left ≡ Ok (l, after) → None ≡ included (directive_rest l.bytes) → ⊥
include_text left after l e none = include_kind l.kind l.bytes (token_ok (terminals.Include ∷ []) left after l e) none

-- the same token, seen otherwise
pub token_seen : {A B : Type 0} (set : List Terminal) (view : Lexeme → A) (other : A → B) (ls rest : Lexemes) (x : A) → token_at set view ls ≡ Ok (x, rest) → token_at set (λ l. other (view l)) ls ≡ Ok (other x, rest)
token_seen set view other [] rest x e = absurd cc
token_seen {A = A} {B = B} set view other (l ∷ ls) rest x e = by (has set (terminal_of l)) refl e where
  by : (b : Bool) → has set (terminal_of l) ≡ b → cond {A = Reading A} b (Ok (view l, ls)) (Err (l ∷ ls)) ≡ Ok (x, rest) → cond {A = Reading B} (has set (terminal_of l)) (Ok (other (view l), ls)) (Err (l ∷ ls)) ≡ Ok (other x, rest)
  by true test is = let parts = ok_parts (view l) x ls rest is in let a = parts.0 in let b = parts.1 in rw (test, a, b) refl
  by false test is = absurd cc

pub token_stopped : {A B : Type 0} (set : List Terminal) (view : Lexeme → A) (other : A → B) (ls left : Lexemes) → token_at set view ls ≡ Err left → token_at set (λ l. other (view l)) ls ≡ Err left
token_stopped set view other [] left e = cc
token_stopped {A = A} {B = B} set view other (l ∷ ls) left e = by (has set (terminal_of l)) refl e where
  by : (b : Bool) → has set (terminal_of l) ≡ b → cond {A = Reading A} b (Ok (view l, ls)) (Err (l ∷ ls)) ≡ Err left → cond {A = Reading B} (has set (terminal_of l)) (Ok (other (view l), ls)) (Err (l ∷ ls)) ≡ Err left
  by true test is = absurd cc
  by false test is = let same : l ∷ ls ≡ left = cc in rw (test, same) refl
