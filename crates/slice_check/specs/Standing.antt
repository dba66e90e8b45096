-- How far a walk has come.
use Rattle.std.specs.Prelude.{ℕ, ◌≡◌, ◌≤◌, ◌+◌, ◌-◌, ◌*◌, List, [], map, reverse, drop, length, All, String, Option, Result, Ok, Err}
use Rattle.std.specs.BTreeSet.{BTreeSet, btree_set_len}
use Rattle.slice_syntax.specs.Places.{AreRegular, Each}
use Rattle.slice_meaning.specs.declared.limits.TheConstants.{MOST_FILES}
use Rattle.slice_meaning.specs.Names.{Name}
use Rattle.slice_meaning.specs.Loading.{Shelf, Loaded, trees_of, whole}
use Rattle.slice_meaning.specs.Loading as loading
use Rattle.slice_check.specs.declared.fault.LoadFault.{LoadFault}
use Rattle.slice_check.specs.declared.open.Open.{Open}
use Rattle.slice_check.specs.declared.files.Files.{Files}
use Rattle.slice_check.specs.declared.walk.Walk.{Walk}
use Rattle.slice_check.specs.Answers.{IfText}
use Rattle.slice_check.specs.Held.{Holds}
use Rattle.slice_check.specs.Opening.{Told}
use Rattle.slice_check.specs.Walking.{Inside, GoesOn}

-- a file that the walk is inside of
abbrev pub inside : Open → Inside
inside o = record { name = o.name; tree = o.tree; left = drop o.next o.tree.included }

-- the files that the walk is inside of, the innermost first
abbrev pub stack : Walk → List Open
stack w = reverse w.open.items

-- the names alone
abbrev pub names_of : List Loaded → List Name
names_of trees = map (λ l. l.0) trees

-- files are these, and the names in each are as the grammar has them
pub record AreFiles (f : Files) (trees : List Loaded) : Type 0 where
  pub named : f.names ≡ names_of trees
  pub read : f.trees ≡ trees_of trees
  pub regular : Each AreRegular f.trees

-- the walk from FILE has come so far, with these names loaded and these files complete, and is inside of these
pub record HasCome {Y : Type 0} (files : Option Shelf) (file : Name) (names : BTreeSet (String Y)) (f : Files)
    (around : List Open) : Type 0 where
  pub loaded : List Name
  pub complete : List Loaded
  pub held : Holds names loaded
  pub few : length loaded ≤ MOST_FILES
  pub those : AreFiles f complete
  pub regular : All (λ o. AreRegular o.tree) around
  pub goes_on : Told files (λ shelf. GoesOn shelf file loaded complete (map inside around))

-- the walk from FILE has come so far, and is inside of these files
abbrev pub Stands : Option Shelf → Name → Walk → List Open → Type 0
Stands files file w around = HasCome files file w.names.held w.files around

-- the fault is the first one on the walk from FILE
abbrev pub IsFirst : Option Shelf → Name → LoadFault → Type 0
IsFirst files file fault =
    IfText (λ broken. Told files (λ shelf. loading.WalkBreaks shelf [] file (whole file) broken)) fault

-- a step has led on, or to the first fault
abbrev pub StepsWalk : Option Shelf → Name → Walk → Result (Unit {0}) LoadFault → Type 0
StepsWalk files file w (Ok answer) = Stands files file w (stack w)
StepsWalk files file w (Err fault) = IsFirst files file fault

-- a bound on the steps that are left
abbrev pub work : Walk → ℕ
work w = 2 * (MOST_FILES - btree_set_len w.names.held) + length w.open.items

-- the files are those that the walk from FILE brings
pub record AreWalked (files : Option Shelf) (file : Name) (f : Files) : Type 0 where
  pub loaded : List Name
  pub complete : List Loaded
  pub those : AreFiles f complete
  pub walked : Told files (λ shelf. loading.Walk shelf [] (whole file) loaded complete)

-- the answer of the walk from FILE
abbrev pub Walks : Option Shelf → Name → Result Files LoadFault → Type 0
Walks files file (Ok f) = AreWalked files file f
Walks files file (Err fault) = IsFirst files file fault
