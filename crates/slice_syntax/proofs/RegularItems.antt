-- Each declaration of a text is as the grammar has it: its names are letters, digits and `_`, and no member of a struct is optional.
use Rattle.std.proofs.Common.{ℕ, zero, suc, ◌≡◌, Bool, true, false, List, [], ◌∷◌, ◌++◌, length, sym, subst, inl, inr, refl, arith}
use Rattle.std.specs.Prelude.{IsTrue, Contains, ◌&&◌, ◌==◌, if◌then◌else◌, drop}
use Rattle.std.specs.List.{list_all}
use Rattle.slice_lexer.specs.Bytes.{backslash, first, is_word_byte}
use Rattle.slice_lexer.specs.Tokens.{IsToken, IsIdentifier, IsEscaped}
use Rattle.slice_lexer.specs.declared.token.Token.{Token}
use Rattle.slice_lexer.specs.declared.token.TokenKind.{TokenKind}
use Rattle.slice_lexer.specs.declared.token.TokenKind.TheVariants as kinds
use Rattle.slice_lexer.specs.Lexing.{Lexes, IsTokenOf}
use Rattle.slice_lexer.proofs.Sizes.{letter_goes_on}
use Rattle.slice_lexer.proofs.Standing.{lexes_stand}
use Rattle.slice_syntax.specs.declared.terminal.Terminal.TheVariants as terminals
use Rattle.slice_syntax.specs.declared.tree.Word.{Word}
use Rattle.slice_syntax.specs.declared.tree.Item.{Item}
use Rattle.slice_syntax.specs.declared.tree.File.{File}
use Rattle.slice_syntax.specs.Lexemes.{Lexeme, Lexemes, lexemes, IsAlone, has, terminal_of, terminal_by, directive_terminal, name_of, is_include, is_guard, is_define, is_pragma, is_end}
use Rattle.slice_syntax.specs.Rules as rules
use Rattle.slice_syntax.specs.Files.{Body, none, plain, nested, enters, exits, ReadsFile}
use Rattle.slice_syntax.specs.Places.{Each, IsPlain, IsRegular, AreRegular}
use Rattle.slice_syntax.proofs.Cursors.{never_word}
use Rattle.slice_syntax.proofs.Tagless.{no_tags}
use Rattle.slice_syntax.proofs.Transfers.{in_definition, in_head}
use Rattle.slice_syntax.proofs.Holding.{front_of, back_of}

-- ---- one token

both_true : (a b : Bool) → a ≡ true → b ≡ true → (a && b) ≡ true
both_true true b x y = y
both_true false b x y = x

-- an identifier is plain, with its first letter and without
identifier_plain : (bytes : List ℕ) → IsIdentifier bytes → IsPlain bytes × IsPlain (drop 1 bytes)
identifier_plain [] h = absurd h
identifier_plain (byte ∷ bytes) h = (both_true (is_word_byte byte) (list_all is_word_byte bytes) (letter_goes_on byte h.0) h.1, h.1)

by_mark : (marked : Bool) (bytes : List ℕ) → IsPlain bytes × IsPlain (drop 1 bytes) → IsPlain (if marked then drop 1 bytes else bytes)
by_mark true bytes h = h.1
by_mark false bytes h = h.0

escaped_plain : (bytes : List ℕ) → IsEscaped bytes → IsPlain (name_of bytes)
escaped_plain [] h = absurd h
escaped_plain (byte ∷ bytes) h = subst (λ (b : ℕ). IsPlain (name_of (b ∷ bytes))) (sym h.0) (identifier_plain bytes h.1).0

name_plain : (bytes : List ℕ) → IsToken kinds.Word bytes → IsPlain (name_of bytes)
name_plain bytes (inl h) = by_mark (first bytes == backslash) bytes (identifier_plain bytes h.0)
name_plain bytes (inr h) = escaped_plain bytes h

abbrev IsName : Word → Type 0
IsName w = IsPlain w.name

abbrev Anywhere : ℕ → Type 0
Anywhere place = Unit {0}

kind_plain : (kind : TokenKind) (bytes : List ℕ) → has (terminals.Word ∷ []) (terminal_by kind bytes) ≡ true → IsToken kind bytes → IsPlain (name_of bytes)
unfolding directive_terminal
kind_plain kinds.Word bytes h alone = name_plain bytes alone
kind_plain (kinds.Keyword n) bytes h alone = absurd cc
kind_plain (kinds.Number n) bytes h alone = absurd cc
kind_plain kinds.Text bytes h alone = absurd cc
kind_plain (kinds.Symbol n) bytes h alone = absurd cc
kind_plain kinds.Directive bytes h alone = absurd (never_word (is_include bytes) (is_guard bytes) (is_define bytes) (is_pragma bytes) (is_end bytes) h)

name_in : (l : Lexeme) → IsTrue (has (terminals.Word ∷ []) (terminal_of l)) → IsAlone l → IsName (rules.word_of l)
name_in l is alone = kind_plain l.kind l.bytes is alone

-- ---- declarations

each_joined : (xs ys : List Item) → Each IsRegular xs → Each IsRegular ys → Each IsRegular (xs ++ ys)
each_joined [] ys a b = b
each_joined (x ∷ xs) ys a b = (a.0, each_joined xs ys a.1 b)

exits_regular : (n : ℕ) → Each IsRegular (exits n)
exits_regular zero = tt
exits_regular (suc n) = ((tt, tt), exits_regular n)

enters_regular : (ws : List Word) → Each IsName ws → Each IsRegular (enters ws)
enters_regular [] h = tt
enters_regular (w ∷ ws) h = ((h.0, tt), enters_regular ws h.1)

body_regular : (inner : Bool) (ls : Lexemes) (is : List Item) → Body inner ls is → Each IsAlone ls → Each IsRegular is
body_regular inner [] [] (none _) h = tt
body_regular inner ls is (plain before behind item others spelled rest) h = (
  (in_definition IsAlone IsName Anywhere name_in (λ l x. tt) before item spelled (front_of IsAlone before behind h), no_tags before item spelled),
  body_regular true behind others rest (back_of IsAlone before behind h),
)
body_regular inner ls is (nested _ opening inside closing behind words held others opens holds closes rest) h =
    let a = back_of IsAlone opening (inside ++ (closing ++ behind)) h in
    let b = back_of IsAlone inside (closing ++ behind) a in
    each_joined (enters words) (held ++ (exits (length words) ++ others))
    (enters_regular words (in_head IsAlone IsName Anywhere name_in (λ l x. tt) opening words opens (front_of IsAlone opening (inside ++ (closing ++ behind)) h)))
    (each_joined held (exits (length words) ++ others) (body_regular true inside held holds (front_of IsAlone inside (closing ++ behind) a))
    (each_joined (exits (length words)) others (exits_regular (length words)) (body_regular inner behind others rest (back_of IsAlone closing behind b))))

-- ---- a text

all_alone : (text : List ℕ) (tokens : List Token) → ((token : Token) → Contains tokens token → IsTokenOf text token) → Each IsAlone (lexemes text tokens)
all_alone text [] stand = tt
all_alone text (token ∷ tokens) stand = (
  (stand token (0, omega arith, refl)).is,
  all_alone text tokens (λ other c. stand other (suc c.0, (let a = c.1 in omega arith), c.2)),
)

-- each declaration of a text is regular
pub regular : (text : List ℕ) (tokens : List Token) (file : File) → Lexes text tokens → ReadsFile (lexemes text tokens) file → AreRegular file
regular text tokens file lexes reads =
    let all : Each IsAlone (reads.front ++ (reads.inner ++ reads.last)) = subst (λ (l : Lexemes). Each IsAlone l) reads.parts (all_alone text tokens (lexes_stand text tokens lexes)) in
    body_regular false reads.inner file.items reads.modules (front_of IsAlone reads.inner reads.last (back_of IsAlone reads.front (reads.inner ++ reads.last) all))
