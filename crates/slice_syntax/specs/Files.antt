-- The grammar of modules and whole files, after "The Slice Language" of the Ice manual: "Modules", "Slice Source Files" (file guarding, `#include`).
use Rattle.std.specs.Prelude.{ℕ, ◌≡◌, Bool, true, false, List, [], ◌∷◌, ◌++◌, map, length, replicate, unwrap_or}
use Rattle.slice_syntax.specs.declared.terminal.Terminal.TheVariants as terminals
use Rattle.slice_syntax.specs.declared.tree.Word.{Word}
use Rattle.slice_syntax.specs.declared.tree.Item.{Item}
use Rattle.slice_syntax.specs.declared.tree.Item.TheVariants as items
use Rattle.slice_syntax.specs.declared.tree.File.{File}
use Rattle.slice_syntax.specs.Lexemes.{Lexeme, Lexemes, included, directive_rest}
use Rattle.slice_syntax.specs.Grammar.{Grammar, token, made, or, Spells, ◌▸◌, ◌◂◌, one, many, parted}
use Rattle.slice_syntax.specs.Terminals.{word_module, open_brace, colons}
use Rattle.slice_syntax.specs.Rules.{metadata, word, definition, close, file_metadata}

-- head = "module" word { "::" word } "{"
unfoldable pub head : Grammar (List Word)
head = one word_module ▸ parted colons word ◂ one open_brace

-- what a module of these words begins with
abbrev pub enters : List Word → List Item
enters words = map (λ w. items.Enter w) words

-- what a module of so many words ends with
abbrev pub exits : ℕ → List Item
exits count = replicate count items.Exit

-- Definitions one after the other: { meta def } in a module, where `inner` is true, and else { meta module }.
-- module = "module" word { "::" word } "{" { meta def } "}" [ ";" ]
-- def = module | const | enum | struct | seq | dict | class | exception | interface
pub data Body : Bool → Lexemes → List Item → Type 0 where
  none : (inner : Bool) → Body inner [] []
  plain : (before behind : Lexemes) (item : Item) (others : List Item) → Spells (metadata ▸ definition) before item → Body true behind others → Body true (before ++ behind) (item ∷ others)
  nested : (inner : Bool) (opening inside closing behind : Lexemes) (words : List Word) (held others : List Item) → Spells (metadata ▸ head) opening words → Body true inside held
      → Spells close closing tt → Body inner behind others → Body inner (opening ++ (inside ++ (closing ++ behind))) (enters words ++ (held ++ (exits (length words) ++ others)))

-- what stands before the modules
pub data Head : Type 0 where
  guard aside : Head
  include : List ℕ × ℕ → Head

-- the name in an `#include`, with its place
abbrev pub include_of : Lexeme → List ℕ × ℕ
include_of l = (unwrap_or (included (directive_rest l.bytes)) [], l.from)

-- directive | filemeta, before the modules
unfoldable pub directive : Grammar Head
directive =
    or (token (terminals.Include ∷ []) (λ l. include (include_of l)))
    (or (token (terminals.Guard ∷ []) (λ l. guard))
    (or (token (terminals.Aside ∷ []) (λ l. aside))
    (made (λ place. aside) file_metadata)))

-- the heads of a file, which stand before its modules
unfoldable pub directives : Grammar (List Head)
directives = many directive

-- the names of the `#include`s among the heads of a file
abbrev pub includes_in : List Head → List (List ℕ × ℕ)
includes_in [] = []
includes_in (guard ∷ heads) = includes_in heads
includes_in (aside ∷ heads) = includes_in heads
includes_in (include name ∷ heads) = name ∷ includes_in heads

-- An `#ifndef` stands there.
abbrev pub is_guarded : List Head → Bool
is_guarded [] = false
is_guarded (guard ∷ heads) = true
is_guarded (aside ∷ heads) = is_guarded heads
is_guarded (include name ∷ heads) = is_guarded heads

-- What is known after these heads: whether an `#ifndef` is among them, and the names of the `#include`s after those before.
abbrev pub Notes : List (List ℕ × ℕ) → List (List ℕ × ℕ) → Bool → List Head → Type 0
Notes old new guarded heads = (guarded ≡ is_guarded heads) × (new ≡ old ++ includes_in heads)

-- what is known after one head
abbrev pub NotesOne : List (List ℕ × ℕ) → List (List ℕ × ℕ) → Bool → Head → Type 0
NotesOne old new guards h = Notes old new guards (h ∷ [])

-- What is known after the words of a module's name: the items after those before.
abbrev pub Enters : {A : Type 0} → List Item → List Item → A → List Word → Type 0
Enters old new answer words = new ≡ old ++ enters words

-- What is known after the head of a module: how many words its name has, and the items after those before.
abbrev pub Opens : List Item → List Item → ℕ → List Word → Type 0
Opens old new count words = (count ≡ length words) × (new ≡ old ++ enters words)

-- after the modules `#endif` stands where an `#ifndef` stands before them, and else nothing
abbrev pub Closes : Bool → Lexemes → Type 0
Closes true ls = (place : ℕ) × Spells (one terminals.EndGuard) ls place
Closes false ls = ls ≡ []

-- The tokens are a file.
-- file = { directive | filemeta } { meta module } { directive }
pub record ReadsFile (ls : Lexemes) (file : File) : Type 0 where
  pub heads : List Head
  pub front : Lexemes
  pub inner : Lexemes
  pub last : Lexemes
  pub parts : ls ≡ front ++ (inner ++ last)
  pub opening : Spells directives front heads
  pub modules : Body false inner file.items
  pub closing : Closes (is_guarded heads) last
  pub includes : file.included ≡ includes_in heads
