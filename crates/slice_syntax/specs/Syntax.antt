-- Which tokens are a file, and which token is the first that no file goes on with.
use Rattle.std.specs.Prelude.{ℕ, ◌≡◌, List, [], ◌∷◌, ◌++◌, length, Some, None, Result, Ok, Err}
use Rattle.slice_lexer.specs.declared.token.Token.{Token}
use Rattle.slice_syntax.specs.declared.tree.File.{File}
use Rattle.slice_syntax.specs.declared.fault.SyntaxFault.{SyntaxFault}
use Rattle.slice_syntax.specs.declared.fault.SyntaxFault.TheVariants as faults
use Rattle.slice_syntax.specs.Lexemes.{Lexemes, lexemes, AreTokens}
use Rattle.slice_syntax.specs.Files.{ReadsFile}

-- Some file begins with the tokens.
abbrev pub Begins : Lexemes → Type 0
Begins ls = (more : Lexemes) × (file : File) × ReadsFile (ls ++ more) file

-- Some file begins with the tokens and goes on with tokens as they stand in texts.
abbrev pub GoesOn : Lexemes → Type 0
GoesOn ls = (more : Lexemes) × (file : File) × AreTokens more × ReadsFile (ls ++ more) file

-- No file begins with the tokens before and the next one. At the end no file ends there.
abbrev pub Refuses : Lexemes → Lexemes → Type 0
Refuses before [] = (file : File) → ReadsFile before file → ⊥
Refuses before (l ∷ behind) = Begins (before ++ l ∷ []) → ⊥

-- The tokens after some begin with the first one that no file goes on with. It may be the end.
pub record SyntaxBreaks (ls before behind : Lexemes) : Type 0 where
  pub parts : ls ≡ before ++ behind
  pub alive : GoesOn before
  pub refused : Refuses before behind

-- The tokens are some file.
abbrev pub IsFile : Lexemes → Type 0
IsFile ls = (file : File) × ReadsFile ls file

-- These tokens of them begin with the first one that no file goes on with. They may be none, at the end.
abbrev pub BreaksAt : Lexemes → Lexemes → Type 0
BreaksAt ls behind = (before : Lexemes) × SyntaxBreaks ls before behind

-- Some token of them, or the end, is the first that no file goes on with.
abbrev pub IsBroken : Lexemes → Type 0
IsBroken ls = (before behind : Lexemes) × SyntaxBreaks ls before behind

-- The place and the kind of the next token, or the text's length and None at the end.
abbrev pub fault_at : ℕ → Lexemes → SyntaxFault
fault_at end [] = faults.Expected end None
fault_at end (l ∷ ls) = faults.Expected l.from (Some l.kind)

-- The fault names the first token that no file goes on with.
abbrev pub FaultOf : ℕ → Lexemes → SyntaxFault → Type 0
FaultOf end ls fault = (before behind : Lexemes) × SyntaxBreaks ls before behind × (fault ≡ fault_at end behind)

-- The answer to a text with these tokens. Out of memory says nothing of them.
abbrev pub Answers : List ℕ → List Token → Result File SyntaxFault → Type 0
Answers text tokens (Ok file) = ReadsFile (lexemes text tokens) file
Answers text tokens (Err faults.Memory) = Unit {0}
Answers text tokens (Err (faults.Expected place found)) = FaultOf (length text) (lexemes text tokens) (faults.Expected place found)
