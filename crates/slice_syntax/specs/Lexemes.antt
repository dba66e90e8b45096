-- Tokens with their bytes, and what each is to the grammar. The forms of directives are those of "The Slice Language" of the Ice manual, "Slice Source Files" (file guarding, `#include`).
use Rattle.std.specs.Prelude.{ℕ, Bool, false, not, ◌&&◌, ◌==◌, nat_eq, if◌then◌else◌, List, [], ◌∷◌, map, codes, take, drop, Option, Some, None, slice_range}
use Rattle.std.specs.Borrow.{Bor}
use Rattle.std.specs.List.{list_all, list_any, prefix_len}
use Rattle.std.specs.Str.{bytes_eq, is_utf8}
use Rattle.std.specs.Option.{is_some}
use Rattle.slice_lexer.specs.Bytes.{backslash, quote, first, is_blank, is_letter, is_word_byte, begins_with}
use Rattle.slice_lexer.specs.Tokens.{IsToken}
use Rattle.slice_lexer.specs.declared.token.Token.{Token}
use Rattle.slice_lexer.specs.declared.token.TokenKind.{TokenKind}
use Rattle.slice_lexer.specs.declared.token.TokenKind.TheVariants as kinds
use Rattle.slice_syntax.specs.declared.terminal.Terminal.{Terminal}
use Rattle.slice_syntax.specs.declared.terminal.Terminal.TheVariants as terminals

-- a token with its bytes
pub record Lexeme : Type 0 where
  pub kind : TokenKind
  pub from : ℕ
  pub bytes : List ℕ

-- tokens, each with its bytes
abbrev pub Lexemes : Type 0
Lexemes = List Lexeme

abbrev pub lexeme : List ℕ → Token → Lexeme
lexeme text token = record { kind = token.kind; from = token.from; bytes = slice_range text token.from token.to }

-- the tokens of a text with their bytes
abbrev pub lexemes : List ℕ → List Token → Lexemes
lexemes text tokens = map (lexeme text) tokens

-- the word without a `\` before it
abbrev pub name_of : List ℕ → List ℕ
name_of bytes = if first bytes == backslash then drop 1 bytes else bytes

-- the bytes from the first on that is no blank
abbrev pub unblank : List ℕ → List ℕ
unblank bytes = drop (prefix_len is_blank bytes) bytes

abbrev pub less : ℕ
less = 60

abbrev pub greater : ℕ
greater = 62

-- all bytes are blanks
abbrev pub is_bare : List ℕ → Bool
is_bare bytes = list_all is_blank bytes

-- the line of a directive after its `#` and blanks
abbrev pub directive_line : List ℕ → List ℕ
directive_line bytes = unblank (drop 1 bytes)

-- how long the word is that the bytes begin with
abbrev pub word_length : List ℕ → ℕ
word_length bytes = prefix_len is_word_byte bytes

-- the first word of a directive
abbrev pub directive_word : List ℕ → List ℕ
directive_word bytes = take (word_length (directive_line bytes)) (directive_line bytes)

-- what stands after the first word of a directive and the blanks there
abbrev pub directive_rest : List ℕ → List ℕ
directive_rest bytes = unblank (drop (word_length (directive_line bytes)) (directive_line bytes))

-- one word, and else blanks
abbrev pub is_one_word : List ℕ → Bool
is_one_word bytes = is_letter (first bytes) && is_bare (drop (word_length bytes) bytes)

-- the word `once`, and else blanks
abbrev pub is_once : List ℕ → Bool
is_once bytes = begins_with (codes "once") bytes && is_bare (drop 4 bytes)

-- how many bytes stand before a mark
abbrev pub mark_place : ℕ → List ℕ → ℕ
mark_place mark bytes = prefix_len (λ byte. not (byte == mark)) bytes

-- a mark, and else blanks
abbrev pub is_closed : ℕ → List ℕ → Bool
is_closed mark [] = false
is_closed mark (byte ∷ bytes) = byte == mark && is_bare bytes

abbrev pub if_text : List ℕ → Option (List ℕ)
if_text bytes = if is_utf8 bytes then Some bytes else None

-- The bytes before a mark, which stands there and has only blanks after it. They are UTF-8.
abbrev pub up_to : ℕ → List ℕ → Option (List ℕ)
up_to mark bytes = if is_closed mark (drop (mark_place mark bytes) bytes) then if_text (take (mark_place mark bytes) bytes) else None

-- the name in `"NAME"` or `<NAME>`, which is UTF-8
abbrev pub included : List ℕ → Option (List ℕ)
included bytes =
    if first bytes == quote then up_to quote (drop 1 bytes)
    else if first bytes == less then up_to greater (drop 1 bytes)
    else None

abbrev pub text_seen : Option (Bor (List ℕ)) → Option (List ℕ)
text_seen (Some text) = Some text.now
text_seen None = None

-- `#include` with a name
abbrev pub is_include : List ℕ → Bool
is_include bytes = bytes_eq (directive_word bytes) (codes "include") && is_some (included (directive_rest bytes))

-- `#ifndef WORD`
abbrev pub is_guard : List ℕ → Bool
is_guard bytes = bytes_eq (directive_word bytes) (codes "ifndef") && is_one_word (directive_rest bytes)

-- `#define WORD`
abbrev pub is_define : List ℕ → Bool
is_define bytes = bytes_eq (directive_word bytes) (codes "define") && is_one_word (directive_rest bytes)

-- `#pragma once`
abbrev pub is_pragma : List ℕ → Bool
is_pragma bytes = bytes_eq (directive_word bytes) (codes "pragma") && is_once (directive_rest bytes)

-- `#endif`
abbrev pub is_end : List ℕ → Bool
is_end bytes = bytes_eq (directive_word bytes) (codes "endif") && is_bare (directive_rest bytes)

unfoldable pub directive_terminal : List ℕ → Terminal
directive_terminal bytes =
    if is_include bytes then terminals.Include
    else if is_guard bytes then terminals.Guard
    else if is_define bytes then terminals.Aside
    else if is_pragma bytes then terminals.Aside
    else if is_end bytes then terminals.EndGuard
    else terminals.Stray

-- a word's name is a text
unfoldable pub word_terminal : List ℕ → Terminal
word_terminal bytes = if is_some (if_text (name_of bytes)) then terminals.Word else terminals.Stray

abbrev pub terminal_by : TokenKind → List ℕ → Terminal
terminal_by kinds.Word bytes = word_terminal bytes
terminal_by (kinds.Keyword code) bytes = terminals.Keyword code
terminal_by (kinds.Number size) bytes = terminals.Number
terminal_by kinds.Text bytes = terminals.Text
terminal_by (kinds.Symbol code) bytes = terminals.Symbol code
terminal_by kinds.Directive bytes = directive_terminal bytes

-- what the token is to the grammar
abbrev pub terminal_of : Lexeme → Terminal
terminal_of l = terminal_by l.kind l.bytes

-- which group of sorts, and which of the group
abbrev pub group : Terminal → ℕ
group terminals.Word = 0
group (terminals.Keyword n) = 1
group terminals.Number = 2
group terminals.Text = 3
group (terminals.Symbol n) = 4
group terminals.Include = 5
group terminals.Guard = 6
group terminals.Aside = 7
group terminals.EndGuard = 8
group terminals.Stray = 9

abbrev pub code : Terminal → ℕ
code terminals.Word = 0
code (terminals.Keyword n) = n
code terminals.Number = 0
code terminals.Text = 0
code (terminals.Symbol n) = n
code terminals.Include = 0
code terminals.Guard = 0
code terminals.Aside = 0
code terminals.EndGuard = 0
code terminals.Stray = 0

abbrev pub is_terminal : Terminal → Terminal → Bool
is_terminal a b = nat_eq (group a) (group b) && nat_eq (code a) (code b)

-- the sort is one of these
abbrev pub has : List Terminal → Terminal → Bool
has set terminal = list_any (λ other. is_terminal other terminal) set

-- The next token is one of these.
abbrev pub begins : List Terminal → Lexemes → Bool
begins set [] = false
begins set (l ∷ ls) = has set (terminal_of l)

abbrev pub next : Lexemes → Option Lexeme
next [] = None
next (l ∷ ls) = Some l

-- a token beside its bytes
abbrev pub seen : Token × Bor (List ℕ) → Lexeme
seen found = record { kind = found.0.kind; from = found.0.from; bytes = found.1.now }

-- The bytes are a token of the kind.
abbrev pub IsAlone : Lexeme → Type 0
IsAlone l = IsToken l.kind l.bytes

-- tokens as they stand in texts
abbrev pub AreTokens : Lexemes → Type 0
AreTokens [] = Unit {0}
AreTokens (l ∷ ls) = IsAlone l × AreTokens ls
