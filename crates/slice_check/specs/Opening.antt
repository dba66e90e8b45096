-- What comes of the include of a file that is not loaded yet.
use Rattle.std.specs.Prelude.{ℕ, ◌≡◌, ◌<◌, List, ◌∷◌, length, Option, Some, String, Result, Ok, Err}
use Rattle.std.specs.BTreeSet.{BTreeSet}
use Rattle.ice_ports.specs.Files.{file_named}
use Rattle.slice_syntax.specs.declared.tree.File.{File}
use Rattle.slice_syntax.specs.Places.{AreRegular}
use Rattle.slice_meaning.specs.Names.{Name}
use Rattle.slice_meaning.specs.declared.limits.TheConstants.{MOST_FILES}
use Rattle.slice_meaning.specs.Printed.{LoadBreak}
use Rattle.slice_meaning.specs.Loading.{Shelf, Includes, IsTree, WalkBreaks}
use Rattle.slice_check.specs.declared.fault.LoadFault.{LoadFault}
use Rattle.slice_check.specs.declared.open.Open.{Open}
use Rattle.slice_check.specs.Answers.{IfText}
use Rattle.slice_check.specs.Held.{Holds}

-- where the shelf tells its files, this is of them
abbrev pub Told : Option Shelf → (Shelf → Type 0) → Type 0
Told files Holds = (shelf : Shelf) → files ≡ Some shelf → Holds shelf

-- the text of this name has this tree
abbrev pub HasTree : Name → File → Shelf → Type 0
HasTree name tree shelf = (text : List ℕ) × (file_named shelf name ≡ Some text) × IsTree text tree

-- the file of this name, none of whose includes was gone through, is one more
pub record IsNew {Y : Type 0} (files : Option Shelf) (loaded : List Name) (name : Name)
    (names : BTreeSet (String Y)) (o : Open) : Type 0 where
  pub named : o.name ≡ name
  pub next : o.next ≡ 0
  pub few : length loaded < MOST_FILES
  pub held : Holds names (name ∷ loaded)
  pub regular : AreRegular o.tree
  pub found : Told files (HasTree name o.tree)

-- the fault that the walk has at the include of a name at a place of another file, whatever includes stand behind it
abbrev pub BreaksThere : Option Shelf → List Name → Name → Name → ℕ → LoadBreak → Type 0
BreaksThere files loaded user name place broken =
    Told files (λ shelf. (others : Includes) → WalkBreaks shelf loaded user ((name, place) ∷ others) broken)

-- the answer to such an include: the file, or that fault
abbrev pub Opens : {Y : Type 0} → Option Shelf → List Name → Name → Name → ℕ → BTreeSet (String Y)
    → Result Open LoadFault → Type 0
Opens files loaded user name place names (Ok o) = IsNew files loaded name names o
Opens files loaded user name place names (Err fault) = IfText (BreaksThere files loaded user name place) fault
