-- Reading modules without a recursion: moves, with the modules that are open.
use Rattle.std.specs.Prelude.{ℕ, ◌≡◌, Bool, true, false, List, [], ◌∷◌, ◌++◌, length, reverse, Ok, Err}
use Rattle.slice_syntax.specs.declared.terminal.Terminal.TheVariants as terminals
use Rattle.slice_syntax.specs.declared.tree.Word.{Word}
use Rattle.slice_syntax.specs.declared.tree.Item.{Item}
use Rattle.slice_syntax.specs.declared.tree.File.{File}
use Rattle.slice_syntax.specs.Lexemes.{Lexemes}
use Rattle.slice_syntax.specs.Grammar.{Grammar, made, or, ◌▸◌, one}
use Rattle.slice_syntax.specs.Rules.{metadata, definition, close}
use Rattle.slice_syntax.specs.Files.{head, enters, exits, Head, directives, includes_in, is_guarded}
use Rattle.slice_syntax.specs.Reading.{Reading, ◌>>=◌, starts, read, runs_at}

-- The head of a module, a definition, or the end of the innermost module.
pub data Move : Type 0 where
  enter : List Word → Move
  hold : Item → Move
  leave : Move

-- where no module is open
unfoldable pub outer_move : Grammar Move
outer_move = made (λ words. enter words) (metadata ▸ head)

-- where a module is open
unfoldable pub inner_move : Grammar Move
inner_move = or (made (λ place. leave) close) (metadata ▸ or (made (λ words. enter words) head) (made (λ item. hold item) definition))

-- The modules that are open, the innermost first, each by how many words it has.
abbrev pub Open : Type 0
Open = List ℕ

abbrev pub move : Open → Grammar Move
move [] = outer_move
move (count ∷ others) = inner_move

-- which modules are open after a move
abbrev pub moved : Open → Move → Open
moved others (enter words) = length words ∷ others
moved others (hold item) = others
moved [] leave = []
moved (count ∷ others) leave = others

abbrev pub is_shut : Open → Bool
is_shut [] = true
is_shut (count ∷ others) = false

-- what a move leaves in the tree
abbrev pub items_of : Open → Move → List Item
items_of others (enter words) = enters words
items_of others (hold item) = item ∷ []
items_of [] leave = []
items_of (count ∷ others) leave = exits count

-- What is known after a move: the modules that are open, and the items after those before.
abbrev pub Moved : Open → Open → List Item → List Item → Move → Type 0
Moved others after old new m = (after ≡ moved others m) × (new ≡ old ++ items_of others m)

-- The same of a move inside a module of so many words, where the modules around it are kept with the innermost last.
abbrev pub MovedFrom : ℕ → List ℕ → List ℕ → List Item → List Item → Move → Type 0
MovedFrom words around after old new m = Moved (words ∷ reverse around) (reverse after) old new m

abbrev pub all_items : Open → List Move → List Item
all_items others [] = []
all_items others (m ∷ moves) = items_of others m ++ all_items (moved others m) moves

abbrev pub moves_at : Open → Lexemes → Reading (List Move)
moves_at others ls = runs_at (λ o. starts (move o)) (λ o. read (move o)) moved is_shut (length ls) others ls

-- { meta module }
abbrev pub modules_at : Lexemes → Reading (List Item)
modules_at ls = moves_at [] ls >>= (λ ms. Ok (all_items [] ms.0, ms.1))

-- reading a file's `#endif`
abbrev pub closing_at : Bool → Lexemes → Reading (Unit {0})
closing_at true ls = read (one terminals.EndGuard) ls >>= (λ x. Ok (tt, x.1))
closing_at false ls = Ok (tt, ls)

-- the modules of a file, and what closes it
abbrev pub rest_at : Bool → Lexemes → Reading (List Item)
rest_at guarded ls = modules_at ls >>= (λ m. closing_at guarded m.1 >>= (λ c. Ok (m.0, c.1)))

abbrev pub file_of : List Head → List Item → File
file_of heads items = record { items = items; included = includes_in heads }

abbrev pub file_at : Lexemes → Reading File
file_at ls = read directives ls >>= (λ h. rest_at (is_guarded h.0) h.1 >>= (λ i. Ok (file_of h.0 i.0, i.1)))

-- reading its end
abbrev pub end_at : Lexemes → Reading (Unit {0})
end_at [] = Ok (tt, [])
end_at (l ∷ ls) = Err (l ∷ ls)

-- a file, and nothing after it
abbrev pub whole_at : Lexemes → Reading File
whole_at ls = file_at ls >>= (λ f. end_at f.1 >>= (λ u. Ok (f.0, u.1)))

-- what is made of the moves that a reading gives, after items that were read
abbrev pub resume : List Item → Open → Lexemes → Reading (List Item)
resume items others ls = moves_at others ls >>= (λ ms. Ok (items ++ all_items others ms.0, ms.1))
