-- A fault as it is printed: its file, its place, and the name of its kind.
use Rattle.std.specs.Prelude.{ℕ, List, [], codes}
use Rattle.slice_lexer.specs.declared.fault.LexFault.{LexFault}
use Rattle.slice_lexer.specs.declared.fault.LexFault.TheVariants as lexing
use Rattle.slice_meaning.specs.declared.fault.CheckKind.{CheckKind}
use Rattle.slice_meaning.specs.declared.fault.CheckKind.TheVariants as rows
use Rattle.slice_meaning.specs.Names.{Name}

-- a fault as it is printed
pub record LoadBreak : Type 0 where
  pub file : Name
  pub place : ℕ
  pub kind : List ℕ

-- a fault of this kind at a place of a file
abbrev pub broken_at : Name → ℕ → List ℕ → LoadBreak
broken_at file place kind = record { file = file; place = place; kind = kind }

-- the printed name of a row of the table of faults
abbrev pub row_name : CheckKind → List ℕ
row_name rows.FloatUsed = codes "FloatUsed"
row_name rows.Unknown = codes "Unknown"
row_name rows.WrongUse = codes "WrongUse"
row_name rows.Clash = codes "Clash"
row_name rows.BadKey = codes "BadKey"
row_name rows.BadTag = codes "BadTag"
row_name rows.BadCompactId = codes "BadCompactId"
row_name rows.BadBase = codes "BadBase"
row_name rows.BadValue = codes "BadValue"
row_name rows.NoMembers = codes "NoMembers"
row_name rows.TooDeep = codes "TooDeep"
row_name rows.TooBig = codes "TooBig"
row_name rows.Undefined = codes "Undefined"

-- the printed name of a fault of the lexer; want of memory is none of the text's
abbrev pub lexer_name : LexFault → List ℕ
lexer_name (lexing.BadByte place) = codes "BadByte"
lexer_name (lexing.OpenString place) = codes "OpenString"
lexer_name (lexing.OpenComment place) = codes "OpenComment"
lexer_name (lexing.BadNumber place) = codes "BadNumber"
lexer_name lexing.TooLong = codes "TooLong"
lexer_name lexing.Memory = []

-- the place of a fault of the lexer
abbrev pub lexer_place : LexFault → ℕ
lexer_place (lexing.BadByte place) = place
lexer_place (lexing.OpenString place) = place
lexer_place (lexing.OpenComment place) = place
lexer_place (lexing.BadNumber place) = place
lexer_place lexing.TooLong = 0
lexer_place lexing.Memory = 0
