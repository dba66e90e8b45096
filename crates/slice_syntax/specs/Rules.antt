-- The grammar of Slice, but for modules and whole files, after "The Slice Language" of the Ice manual: "Constants and Literals", "Enumerations", "Structures", "Sequences", "Dictionaries", "Classes", "Interfaces, Operations, and Exceptions", "Optional Data Members", "Metadata". A word is one that is no keyword, or any directly after a `\`.
use Rattle.std.specs.Prelude.{ℕ, Bool, false, List, [], ◌∷◌, map, Option, Some, None, unwrap_or, ◌==◌}
use Rattle.std.specs.Option.{is_some}
use Rattle.slice_lexer.specs.declared.token.TokenKind.{TokenKind}
use Rattle.slice_lexer.specs.declared.token.TokenKind.TheVariants as kinds
use Rattle.slice_syntax.specs.declared.terminal.Terminal.TheVariants as terminals
use Rattle.slice_syntax.specs.declared.tree.Word.{Word}
use Rattle.slice_syntax.specs.declared.tree.Path.{Path}
use Rattle.slice_syntax.specs.declared.tree.TypeWord.{TypeWord}
use Rattle.slice_syntax.specs.declared.tree.TypeWord.TheVariants as types
use Rattle.slice_syntax.specs.declared.tree.Const.{Const}
use Rattle.slice_syntax.specs.declared.tree.Const.TheVariants as consts
use Rattle.slice_syntax.specs.declared.tree.Constant.{Constant}
use Rattle.slice_syntax.specs.declared.tree.Field.{Field}
use Rattle.slice_syntax.specs.declared.tree.Param.{Param}
use Rattle.slice_syntax.specs.declared.tree.OpTree.{OpTree}
use Rattle.slice_syntax.specs.declared.tree.Item.{Item}
use Rattle.slice_syntax.specs.declared.tree.Item.TheVariants as items
use Rattle.slice_syntax.specs.Lexemes.{Lexeme, code, name_of}
use Rattle.slice_syntax.specs.Grammar.{Grammar, nothing, token, made, both, or, series, ◌▸◌, ◌◂◌, ◌⊛◌, one, optional, many, parted}
use Rattle.slice_syntax.specs.Terminals.{word_bool, word_byte, word_class, word_const, word_dictionary, word_double, word_enum, word_exception, word_extends, word_false, word_float, word_idempotent, word_int, word_interface, word_long, word_object, word_optional, word_out, word_sequence, word_short, word_string, word_struct, word_throws, word_true, word_value, word_void, open_brace, close_brace, open_round, close_round, less, greater, open_square, close_square, open_two, close_two, comma, semicolon, colons, equals, star, plus, minus}

-- What single tokens stand for.

abbrev pub word_of : Lexeme → Word
word_of l = record { name = name_of l.bytes; place = l.from }

abbrev pub keyword_code : TokenKind → ℕ
keyword_code kinds.Word = 0
keyword_code (kinds.Keyword code) = code
keyword_code (kinds.Number size) = 0
keyword_code kinds.Text = 0
keyword_code (kinds.Symbol code) = 0
keyword_code kinds.Directive = 0

abbrev pub number_size : TokenKind → ℕ
number_size kinds.Word = 0
number_size (kinds.Keyword code) = 0
number_size (kinds.Number size) = size
number_size kinds.Text = 0
number_size (kinds.Symbol code) = 0
number_size kinds.Directive = 0

-- A built-in type, with or without `*` after it.
abbrev pub built : Lexeme → Bool → TypeWord
built l star = types.Built (keyword_code l.kind) star l.from

abbrev pub constant : ℕ → Const → Constant
constant place value = record { place = place; value = value }

-- The rules.

unfoldable pub word : Grammar Word
word = token (terminals.Word ∷ []) word_of

unfoldable pub name : Grammar (List ℕ)
name = made (λ w. w.name) word

abbrev pub passed : {A : Type 0} → Grammar A → Grammar (Unit {0})
passed g = made (λ x. tt) g

-- texts = text { "," text }
unfoldable pub texts : Grammar (Unit {0})
texts = passed (parted comma (one terminals.Text))

-- filemeta = "[[" text { "," text } "]]"
unfoldable pub file_metadata : Grammar (Unit {0})
file_metadata = passed (one open_two ▸ texts ▸ one close_two)

-- meta = { "[" text { "," text } "]" }
unfoldable pub metadata : Grammar (Unit {0})
metadata = passed (many (one open_square ▸ texts ▸ one close_square))

-- names = word { "::" word }, for the names and the place of the first
unfoldable pub names : Grammar (List (List ℕ) × ℕ)
names = both (λ w others. (w.name ∷ others, w.place)) word (many (one colons ▸ name))

-- a scoped name of these names, with the place of a `::` before it
abbrev pub path : Option ℕ → List (List ℕ) × ℕ → Path
path outer held = record { outer = is_some outer; words = held.0; place = unwrap_or outer held.1 }

-- scoped = [ "::" ] word { "::" word }
unfoldable pub scoped : Grammar Path
scoped = made path (optional (one colons)) ⊛ names

unfoldable pub plain_type : Grammar TypeWord
plain_type = token (word_bool ∷ word_byte ∷ word_short ∷ word_int ∷ word_long ∷ word_float ∷ word_double ∷ word_string ∷ word_value ∷ []) (λ l. built l false)

unfoldable pub object_type : Grammar TypeWord
object_type = token (word_object ∷ []) (λ l stars. built l (is_some stars)) ⊛ optional (one star)

unfoldable pub named_type : Grammar TypeWord
named_type = made (λ p stars. types.Named p (is_some stars)) scoped ⊛ optional (one star)

-- type = "bool" | "byte" | "short" | "int" | "long" | "float" | "double" | "string" | "Value" | "Object" [ "*" ] | scoped [ "*" ]
unfoldable pub type_word : Grammar TypeWord
type_word = or plain_type (or object_type named_type)

-- the symbol `-`
abbrev pub is_minus : TokenKind → Bool
is_minus kinds.Word = false
is_minus (kinds.Keyword code) = false
is_minus (kinds.Number size) = false
is_minus kinds.Text = false
is_minus (kinds.Symbol place) = place == code minus
is_minus kinds.Directive = false

-- the keyword `true`
abbrev pub is_true : TokenKind → Bool
is_true kinds.Word = false
is_true (kinds.Keyword place) = place == code word_true
is_true (kinds.Number size) = false
is_true kinds.Text = false
is_true (kinds.Symbol code) = false
is_true kinds.Directive = false

unfoldable pub signed_number : Grammar Constant
signed_number = token (minus ∷ plus ∷ []) (λ sign number. constant sign.from (consts.Number (is_minus sign.kind) (number_size number.kind))) ⊛ token (terminals.Number ∷ []) (λ l. l)

unfoldable pub number : Grammar Constant
number = token (terminals.Number ∷ []) (λ l. constant l.from (consts.Number false (number_size l.kind)))

unfoldable pub text : Grammar Constant
text = token (terminals.Text ∷ []) (λ l. constant l.from consts.Text)

unfoldable pub truth : Grammar Constant
truth = token (word_true ∷ word_false ∷ []) (λ l. constant l.from (consts.Truth (is_true l.kind)))

unfoldable pub named : Grammar Constant
named = made (λ p. constant p.place (consts.Named p)) scoped

-- value = [ "-" | "+" ] number | text | "true" | "false" | scoped
unfoldable pub value : Grammar Constant
value = or signed_number (or number (or text (or truth named)))

-- given = [ "=" value ]
unfoldable pub given : Grammar (Option Constant)
given = optional (one equals ▸ value)

-- tag = [ "optional" "(" value ")" ]
unfoldable pub tag : Grammar (Option Constant)
tag = optional (one word_optional ▸ one open_round ▸ value ◂ one close_round)

-- close = "}" [ ";" ]
unfoldable pub close : Grammar (Unit {0})
close = passed (one close_brace ▸ optional (one semicolon))

-- const = "const" meta type word "=" value ";"
unfoldable pub constant_item : Grammar Item
constant_item = made (λ kind w v. items.Const kind w v) (one word_const ▸ metadata ▸ type_word) ⊛ word ⊛ one equals ▸ value ◂ one semicolon

-- entry = word [ "=" value ]
unfoldable pub entry : Grammar (Word × Option Constant)
entry = both (λ w v. (w, v)) word given

-- an entry, and whether a comma stands after it
abbrev pub Entry : Type 0
Entry = (Word × Option Constant) × Bool

unfoldable pub entry_comma : Grammar Entry
entry_comma = both (λ e c. (e, is_some c)) entry (optional (one comma))

-- entries = [ entry { "," entry } [ "," ] ]: after a comma one more entry may stand
unfoldable pub entries : Grammar (List (Word × Option Constant))
entries = made (λ es. map (λ (e : Entry). e.0) es) (series (λ (e : Entry). e.1) entry_comma)

-- enum = "enum" word "{" [ entry { "," entry } [ "," ] ] "}" [ ";" ]
unfoldable pub enum_item : Grammar Item
enum_item = made (λ w es. items.Enum w es) (one word_enum ▸ word) ⊛ one open_brace ▸ entries ◂ close

-- member = meta type word [ "=" value ] ";"
unfoldable pub member : Grammar Field
member = made (λ kind w v. record { tag = None; kind = kind; word = w; value = v }) (metadata ▸ type_word) ⊛ word ⊛ given ◂ one semicolon

unfoldable pub members : Grammar (List Field)
members = many member

-- struct = "struct" word "{" { member } "}" [ ";" ]
unfoldable pub struct_item : Grammar Item
struct_item = made (λ w fields. items.Struct w fields) (one word_struct ▸ word) ⊛ one open_brace ▸ members ◂ close

-- seq = "sequence" "<" meta type ">" word ";"
unfoldable pub sequence_item : Grammar Item
sequence_item = made (λ kind w. items.Seq w kind) (one word_sequence ▸ one less ▸ metadata ▸ type_word) ⊛ one greater ▸ word ◂ one semicolon

-- dict = "dictionary" "<" meta type "," meta type ">" word ";"
unfoldable pub dictionary_item : Grammar Item
dictionary_item = made (λ key held w. items.Dict w key held) (one word_dictionary ▸ one less ▸ metadata ▸ type_word) ⊛ one comma ▸ metadata ▸ type_word ⊛ one greater ▸ word ◂ one semicolon

-- omember = meta [ opt ] type word [ "=" value ] ";"
unfoldable pub tagged_member : Grammar Field
tagged_member = made (λ t kind w v. record { tag = t; kind = kind; word = w; value = v }) (metadata ▸ tag) ⊛ type_word ⊛ word ⊛ given ◂ one semicolon

unfoldable pub tagged_members : Grammar (List Field)
tagged_members = many tagged_member

-- body = "{" { omember } "}" [ ";" ]
unfoldable pub body : Grammar (List Field)
body = one open_brace ▸ tagged_members ◂ close

-- base = [ "extends" scoped ]
unfoldable pub base : Grammar (Option Path)
base = optional (one word_extends ▸ scoped)

-- compact = [ "(" value ")" ]
unfoldable pub compact : Grammar (Option Constant)
compact = optional (one open_round ▸ value ◂ one close_round)

unfoldable pub class_body : Grammar (Word → Item)
class_body = made (λ number b fields w. items.Class w number b (Some fields)) compact ⊛ base ⊛ body

-- class = "class" word ( ";" | [ "(" value ")" ] [ "extends" scoped ] "{" { omember } "}" [ ";" ] )
unfoldable pub class_item : Grammar Item
class_item = both (λ w make. make w) (one word_class ▸ word) (or (made (λ c w. items.Class w None None None) (one semicolon)) class_body)

-- exception = "exception" word [ "extends" scoped ] "{" { omember } "}" [ ";" ]
unfoldable pub exception_item : Grammar Item
exception_item = made (λ w b fields. items.Exception w b fields) (one word_exception ▸ word) ⊛ base ⊛ body

-- paths = scoped { "," scoped }
unfoldable pub paths : Grammar (List Path)
paths = parted comma scoped

abbrev pub none_or : {A : Type 0} → Grammar (List A) → Grammar (List A)
none_or g = or g (nothing [])

-- bases = [ "extends" scoped { "," scoped } ]
unfoldable pub bases : Grammar (List Path)
bases = none_or (one word_extends ▸ paths)

-- throws = [ "throws" scoped { "," scoped } ]
unfoldable pub thrown : Grammar (List Path)
thrown = none_or (one word_throws ▸ paths)

-- param = [ "out" ] meta [ opt ] type word
unfoldable pub parameter : Grammar Param
parameter = made (λ o t kind w. record { out = is_some o; field = record { tag = t; kind = kind; word = w; value = None } }) (optional (one word_out)) ⊛ metadata ▸ tag ⊛ type_word ⊛ word

unfoldable pub parameter_list : Grammar (List Param)
parameter_list = parted comma parameter

-- params = [ param { "," param } ]
unfoldable pub parameters : Grammar (List Param)
parameters = none_or parameter_list

-- answered = "void" | [ opt ] type
unfoldable pub answered : Grammar (Option Constant × Option TypeWord)
answered = or (made (λ v. (None, None)) (one word_void)) (both (λ t kind. (t, Some kind)) tag type_word)

-- op = meta [ "idempotent" ] ( "void" | [ opt ] type ) word "(" [ param { "," param } ] ")" [ "throws" scoped { "," scoped } ] ";"
unfoldable pub operation : Grammar OpTree
operation =
    made (λ i r w ps ts. record { idempotent = is_some i; tag = r.0; result = r.1; word = w; params = ps; throws = ts }) (metadata ▸ optional (one word_idempotent))
    ⊛ answered ⊛ word ⊛ one open_round ▸ parameters ◂ one close_round ⊛ thrown ◂ one semicolon

unfoldable pub operations : Grammar (List OpTree)
operations = many operation

unfoldable pub interface_body : Grammar (Word → Item)
interface_body = made (λ bs ops w. items.Interface w bs (Some ops)) bases ⊛ one open_brace ▸ operations ◂ close

-- interface = "interface" word ( ";" | [ "extends" scoped { "," scoped } ] "{" { op } "}" [ ";" ] )
unfoldable pub interface_item : Grammar Item
interface_item = both (λ w make. make w) (one word_interface ▸ word) (or (made (λ c w. items.Interface w [] None) (one semicolon)) interface_body)

-- a definition that is no module
-- const | enum | struct | seq | dict | class | exception | interface
unfoldable pub definition : Grammar Item
definition = or constant_item (or enum_item (or struct_item (or sequence_item (or dictionary_item (or class_item (or exception_item interface_item))))))
