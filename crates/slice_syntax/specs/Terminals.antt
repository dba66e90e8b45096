-- The keywords ("The Slice Language" of the Ice manual, "Lexical Rules") and symbols of the grammar: a keyword by its code in the table of keywords, a symbol by its place in the list of symbols.
use Rattle.std.specs.Prelude.{ℕ, ◌≡◌, List, [], ◌∷◌, Some, codes, slice_get}
use Rattle.case_tables.specs.Tables.{keyword_names, symbol_names}
use Rattle.slice_syntax.specs.declared.terminal.Terminal.{Terminal}
use Rattle.slice_syntax.specs.declared.terminal.Terminal.TheVariants as terminals

abbrev pub word_bool : Terminal
word_bool = terminals.Keyword 0

abbrev pub word_byte : Terminal
word_byte = terminals.Keyword 1

abbrev pub word_class : Terminal
word_class = terminals.Keyword 2

abbrev pub word_const : Terminal
word_const = terminals.Keyword 3

abbrev pub word_dictionary : Terminal
word_dictionary = terminals.Keyword 4

abbrev pub word_double : Terminal
word_double = terminals.Keyword 5

abbrev pub word_enum : Terminal
word_enum = terminals.Keyword 6

abbrev pub word_exception : Terminal
word_exception = terminals.Keyword 7

abbrev pub word_extends : Terminal
word_extends = terminals.Keyword 8

abbrev pub word_false : Terminal
word_false = terminals.Keyword 9

abbrev pub word_float : Terminal
word_float = terminals.Keyword 10

abbrev pub word_idempotent : Terminal
word_idempotent = terminals.Keyword 11

abbrev pub word_int : Terminal
word_int = terminals.Keyword 13

abbrev pub word_interface : Terminal
word_interface = terminals.Keyword 14

abbrev pub word_long : Terminal
word_long = terminals.Keyword 17

abbrev pub word_module : Terminal
word_module = terminals.Keyword 18

abbrev pub word_object : Terminal
word_object = terminals.Keyword 19

abbrev pub word_optional : Terminal
word_optional = terminals.Keyword 20

abbrev pub word_out : Terminal
word_out = terminals.Keyword 21

abbrev pub word_sequence : Terminal
word_sequence = terminals.Keyword 22

abbrev pub word_short : Terminal
word_short = terminals.Keyword 23

abbrev pub word_string : Terminal
word_string = terminals.Keyword 24

abbrev pub word_struct : Terminal
word_struct = terminals.Keyword 25

abbrev pub word_throws : Terminal
word_throws = terminals.Keyword 26

abbrev pub word_true : Terminal
word_true = terminals.Keyword 27

abbrev pub word_value : Terminal
word_value = terminals.Keyword 28

abbrev pub word_void : Terminal
word_void = terminals.Keyword 29

abbrev pub open_brace : Terminal
open_brace = terminals.Symbol 0

abbrev pub close_brace : Terminal
close_brace = terminals.Symbol 1

abbrev pub open_round : Terminal
open_round = terminals.Symbol 2

abbrev pub close_round : Terminal
close_round = terminals.Symbol 3

abbrev pub less : Terminal
less = terminals.Symbol 4

abbrev pub greater : Terminal
greater = terminals.Symbol 5

abbrev pub open_square : Terminal
open_square = terminals.Symbol 6

abbrev pub close_square : Terminal
close_square = terminals.Symbol 7

abbrev pub open_two : Terminal
open_two = terminals.Symbol 8

abbrev pub close_two : Terminal
close_two = terminals.Symbol 9

abbrev pub comma : Terminal
comma = terminals.Symbol 10

abbrev pub semicolon : Terminal
semicolon = terminals.Symbol 11

abbrev pub colons : Terminal
colons = terminals.Symbol 12

abbrev pub equals : Terminal
equals = terminals.Symbol 13

abbrev pub star : Terminal
star = terminals.Symbol 14

abbrev pub plus : Terminal
plus = terminals.Symbol 15

abbrev pub minus : Terminal
minus = terminals.Symbol 16

-- This is how the sort is written.
abbrev pub IsWritten : Terminal → List ℕ → Type 0
IsWritten (terminals.Keyword n) text = slice_get keyword_names n ≡ Some text
IsWritten (terminals.Symbol n) text = slice_get symbol_names n ≡ Some text
IsWritten terminals.Word text = ⊥
IsWritten terminals.Number text = ⊥
IsWritten terminals.Text text = ⊥
IsWritten terminals.Include text = ⊥
IsWritten terminals.Guard text = ⊥
IsWritten terminals.Aside text = ⊥
IsWritten terminals.EndGuard text = ⊥
IsWritten terminals.Stray text = ⊥

-- how each keyword and each symbol of the grammar is written
abbrev pub written : List (Terminal × List ℕ)
written =
    (word_bool, codes "bool") ∷ (word_byte, codes "byte") ∷ (word_class, codes "class") ∷ (word_const, codes "const") ∷ (word_dictionary, codes "dictionary")
    ∷ (word_double, codes "double") ∷ (word_enum, codes "enum") ∷ (word_exception, codes "exception") ∷ (word_extends, codes "extends") ∷ (word_false, codes "false")
    ∷ (word_float, codes "float") ∷ (word_idempotent, codes "idempotent") ∷ (word_int, codes "int") ∷ (word_interface, codes "interface") ∷ (word_long, codes "long")
    ∷ (word_module, codes "module") ∷ (word_object, codes "Object") ∷ (word_optional, codes "optional") ∷ (word_out, codes "out") ∷ (word_sequence, codes "sequence")
    ∷ (word_short, codes "short") ∷ (word_string, codes "string") ∷ (word_struct, codes "struct") ∷ (word_throws, codes "throws") ∷ (word_true, codes "true")
    ∷ (word_value, codes "Value") ∷ (word_void, codes "void") ∷ (open_brace, codes "{") ∷ (close_brace, codes "}") ∷ (open_round, codes "(")
    ∷ (close_round, codes ")") ∷ (less, codes "<") ∷ (greater, codes ">") ∷ (open_square, codes "[") ∷ (close_square, codes "]")
    ∷ (open_two, codes "[[") ∷ (close_two, codes "]]") ∷ (comma, codes ",") ∷ (semicolon, codes ";") ∷ (colons, codes "::")
    ∷ (equals, codes "=") ∷ (star, codes "*") ∷ (plus, codes "+") ∷ (minus, codes "-") ∷ []

abbrev pub AreWritten : List (Terminal × List ℕ) → Type 0
AreWritten [] = Unit {0}
AreWritten (pair ∷ pairs) = IsWritten pair.0 pair.1 × AreWritten pairs
