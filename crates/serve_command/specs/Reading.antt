-- How words are taken one by one.
use Rattle.std.specs.Prelude.{ℕ, ◌≡◌, List, ◌∷◌, map, slice_get, Option, Some, None, String, Vec, Result, Ok, Err}
use Rattle.std.specs.Borrow.{Bor}
use Rattle.std.specs.Fmt.{decimal}
use Rattle.std.specs.List.{AllByRecursion}
use Rattle.std.specs.declared.alloc.Global.{Global}
use Rattle.node_commands.specs.Words.{Word, words_of}
use Rattle.serve_command.specs.declared.apart.Named.{Named}
use Rattle.serve_command.specs.declared.object_words.ObjectWord.{ObjectWord}
use Rattle.serve_command.specs.ObjectWords.{Object, object_word, IsCut}
use Rattle.serve_command.specs.Words.{IsCount, objects_of}

-- the words behind this one, which is the first; or another is, or none
abbrev pub FindsWord : Word → List Word → Option (Bor (List (String Global))) → Type 0
FindsWord word words (Some rest) = words ≡ word ∷ words_of rest.now
FindsWord word words None = (rest : List Word) → words ≡ word ∷ rest → ⊥

-- the number that the first word spells, and the words behind it; or it spells none
abbrev pub FindsNumber : ℕ → List Word → Option (ℕ × Bor (List (String Global))) → Type 0
FindsNumber most words (Some found) = (words ≡ decimal found.0 ∷ words_of found.1.now) × IsCount most found.0
FindsNumber most words None = (n : ℕ) (rest : List Word) → words ≡ decimal n ∷ rest → IsCount most n → ⊥

-- these objects, whose words they are; or they are the words of none
abbrev pub SpellAll : List Word → Option (Vec ObjectWord Global) → Type 0
SpellAll words (Some objects) = (words ≡ map object_word (objects_of objects.items)) × AllByRecursion IsCut (objects_of objects.items)
SpellAll words None = (objects : List Object) → words ≡ map object_word objects → AllByRecursion IsCut objects → ⊥

-- what was read, where it could be
abbrev pub read : {A : Type 0} → Result A ℕ → Option A
read (Ok x) = Some x
read (Err at) = None

-- it is a name, and one of these
abbrev pub Holds : List (Option Named) → Option Named → Type 0
Holds ns None = ⊥
Holds ns (Some name) = (at : ℕ) × (slice_get ns at ≡ Some (Some name))
