-- What the lexer and the parser answer is what comes of a text.
use Rattle.std.proofs.Common.{◌≡◌, ℕ, ◌≤◌, List, Err, length, subst, sym, refl, codes}
use Rattle.std.specs.Prelude.{Option}
use Rattle.slice_lexer.specs.declared.token.Token.{Token}
use Rattle.slice_lexer.specs.declared.token.TokenKind.{TokenKind}
use Rattle.slice_lexer.specs.declared.fault.LexFault.{LexFault}
use Rattle.slice_lexer.specs.declared.fault.LexFault.TheVariants as lexing
use Rattle.slice_lexer.specs.declared.lexer.TheConstants.{MOST_BYTES}
use Rattle.slice_lexer.specs.Lexing as lexer
use Rattle.slice_syntax.specs.declared.fault.SyntaxFault.{SyntaxFault}
use Rattle.slice_syntax.specs.declared.fault.SyntaxFault.TheVariants as syntax
use Rattle.slice_syntax.specs.Syntax as parser
use Rattle.slice_meaning.specs.Names.{Name}
use Rattle.slice_meaning.specs.Printed.{LoadBreak, broken_at, lexer_name, lexer_place}
use Rattle.slice_meaning.specs.Loading.{TextBreaks}
use Rattle.slice_meaning.specs.Loading as loading
use Rattle.slice_check.specs.declared.fault.LoadFault.{LoadFault}
use Rattle.slice_check.specs.declared.fault.LoadFault.TheVariants as faults
use Rattle.slice_check.specs.Answers.{IsFault, Parses}

-- a text that breaks so has this answer
broken : (file : Name) (text : List ℕ) (is : LoadBreak) (answer : LoadFault) → TextBreaks file text is → IsFault is answer → Parses file text (Err answer)
broken file text is (faults.Text name place kind) breaks e = subst (TextBreaks file text) e breaks
broken file text is faults.Shelf breaks e = e
broken file text is faults.Memory breaks e = tt

-- the answer is want of memory
no_memory : (file : Name) (text : List ℕ) (answer : LoadFault) → answer ≡ faults.Memory → Parses file text (Err answer)
no_memory file text answer e = subst (λ (x : LoadFault). Parses file text (Err x)) (sym e) tt

pub by_lexer : (file : Name) (text : List ℕ) (fault : LexFault) (answer : LoadFault) → lexer.Answers text (Err fault) → IsFault (broken_at file (lexer_place fault) (lexer_name fault)) answer → (fault ≡ lexing.Memory → answer ≡ faults.Memory)
    → Parses file text (Err answer)
by_lexer file text (lexing.BadByte place) answer h e m = broken file text _ answer (loading.by_lexer (lexing.BadByte place) h.0 h.1) e
by_lexer file text (lexing.OpenString place) answer h e m = broken file text _ answer (loading.by_lexer (lexing.OpenString place) h.0 h.1) e
by_lexer file text (lexing.OpenComment place) answer h e m = broken file text _ answer (loading.by_lexer (lexing.OpenComment place) h.0 h.1) e
by_lexer file text (lexing.BadNumber place) answer h e m = broken file text _ answer (loading.by_lexer (lexing.BadNumber place) h.0 h.1) e
by_lexer file text lexing.TooLong answer h e m = broken file text _ answer (loading.too_long h) e
by_lexer file text lexing.Memory answer h e m = no_memory file text answer (m refl)

pub by_parser : (file : Name) (text : List ℕ) (tokens : List Token) (fault : SyntaxFault) (place : ℕ) (found : Option TokenKind) (answer : LoadFault) → length text ≤ MOST_BYTES → lexer.Lexes text tokens
    → fault ≡ syntax.Expected place found → parser.Answers text tokens (Err fault) → IsFault (broken_at file place (codes "Expected")) answer → Parses file text (Err answer)
by_parser file text tokens fault place found answer few lexed is h e =
    broken file text _ answer (loading.by_parser tokens place found few lexed (subst (λ (x : SyntaxFault). parser.Answers text tokens (Err x)) is h)) e
