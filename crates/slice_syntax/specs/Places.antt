-- The places and the names in what a text declares.
use Rattle.std.specs.Prelude.{ℕ, ◌≡◌, ◌<◌, ◌≤◌, List, [], ◌∷◌, Option, None, Some, IsTrue}
use Rattle.std.specs.List.{list_all}
use Rattle.slice_lexer.specs.Bytes.{is_word_byte}
use Rattle.slice_syntax.specs.declared.tree.Word.{Word}
use Rattle.slice_syntax.specs.declared.tree.TypeWord.{TypeWord}
use Rattle.slice_syntax.specs.declared.tree.TypeWord.TheVariants as types
use Rattle.slice_syntax.specs.declared.tree.Field.{Field}
use Rattle.slice_syntax.specs.declared.tree.OpTree.{OpTree}
use Rattle.slice_syntax.specs.declared.tree.Item.{Item}
use Rattle.slice_syntax.specs.declared.tree.Item.TheVariants as items
use Rattle.slice_syntax.specs.declared.tree.File.{File}

-- where a type stands
abbrev pub type_place : TypeWord → ℕ
type_place (types.Built code star place) = place
type_place (types.Named path star) = path.place

-- it holds of each of these
abbrev pub Each : {A : Type 0} → (A → Type 0) → List A → Type 0
Each Holds [] = Unit {0}
Each Holds (x ∷ xs) = Holds x × Each Holds xs

-- it holds where there is one
abbrev pub Where : {A : Type 0} → (A → Type 0) → Option A → Type 0
Where Holds None = Unit {0}
Where Holds (Some x) = Holds x

-- Of each declared name IsName holds, and IsPlace of the place of each type, value and name that is used.
module _ (IsName : Word → Type 0) (IsPlace : ℕ → Type 0) where
  -- in a member
  abbrev pub InField : Field → Type 0
  InField f = IsName f.word × IsPlace (type_place f.kind) × Where (λ c. IsPlace c.place) f.tag
      × Where (λ c. IsPlace c.place) f.value

  -- in an operation
  abbrev pub InOp : OpTree → Type 0
  InOp op = IsName op.word × Where (λ c. IsPlace c.place) op.tag
      × Where (λ t. IsPlace (type_place t)) op.result × Each (λ p. InField p.field) op.params
      × Each (λ path. IsPlace path.place) op.throws

  -- in a declaration
  abbrev pub InItem : Item → Type 0
  InItem (items.Enter word) = IsName word
  InItem items.Exit = Unit {0}
  InItem (items.Const kind word value) = IsName word × IsPlace (type_place kind) × IsPlace value.place
  InItem (items.Enum word entries) = IsName word
      × Each (λ e. IsName e.0 × Where (λ c. IsPlace c.place) e.1) entries
  InItem (items.Struct word fields) = IsName word × Each InField fields
  InItem (items.Seq word element) = IsName word × IsPlace (type_place element)
  InItem (items.Dict word key value) = IsName word × IsPlace (type_place key) × IsPlace (type_place value)
  InItem (items.Class word compact base fields) = IsName word × Where (λ c. IsPlace c.place) compact
      × Where (λ path. IsPlace path.place) base
      × Where (Each InField) fields
  InItem (items.Exception word base fields) = IsName word × Where (λ path. IsPlace path.place) base
      × Each InField fields
  InItem (items.Interface word bases ops) = IsName word × Each (λ path. IsPlace path.place) bases
      × Where (Each InOp) ops

-- all places in a declaration, those of its names too, are so
abbrev pub AtPlaces : (ℕ → Type 0) → Item → Type 0
AtPlaces IsPlace = InItem (λ word. IsPlace word.place) IsPlace

-- each declaration stands in a part of the text, after that of the one before it
abbrev pub AreInOrder : ℕ → List Item → Type 0
AreInOrder from [] = Unit {0}
AreInOrder from (item ∷ others) = (start to : ℕ) × (from ≤ start) × (start ≤ to)
    × AtPlaces (λ place. (start ≤ place) × (place < to)) item × AreInOrder to others

-- a name is letters, digits and `_`
abbrev pub IsPlain : List ℕ → Type 0
IsPlain name = IsTrue (list_all is_word_byte name)

-- each name that a declaration declares is plain: its own, and those of its members, enumerators, operations, parameters
abbrev pub HasPlainNames : Item → Type 0
HasPlainNames = InItem (λ word. IsPlain word.name) (λ place. Unit {0})

-- no member of a struct is optional
abbrev pub HasNoTags : Item → Type 0
HasNoTags (items.Enter word) = Unit {0}
HasNoTags items.Exit = Unit {0}
HasNoTags (items.Const kind word value) = Unit {0}
HasNoTags (items.Enum word entries) = Unit {0}
HasNoTags (items.Struct word fields) = Each (λ f. f.tag ≡ None) fields
HasNoTags (items.Seq word element) = Unit {0}
HasNoTags (items.Dict word key value) = Unit {0}
HasNoTags (items.Class word compact base fields) = Unit {0}
HasNoTags (items.Exception word base fields) = Unit {0}
HasNoTags (items.Interface word bases ops) = Unit {0}

-- a declaration as the grammar has it
abbrev pub IsRegular : Item → Type 0
IsRegular item = HasPlainNames item × HasNoTags item

-- so each declaration of a file
abbrev pub AreRegular : File → Type 0
AreRegular file = Each IsRegular file.items
