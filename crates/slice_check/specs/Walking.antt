-- How a walk over includes goes on from the files that it is inside of, the innermost first.
use Rattle.std.specs.Prelude.{◌≡◌, ◌⊎◌, List, [], ◌∷◌, ◌++◌}
use Rattle.slice_syntax.specs.declared.tree.File.{File}
use Rattle.slice_meaning.specs.Names.{Name}
use Rattle.slice_meaning.specs.Printed.{LoadBreak}
use Rattle.slice_meaning.specs.Loading.{Shelf, Includes, Loaded, Walk, WalkBreaks, whole}

-- a file that the walk is inside of: its name, its tree, and its includes that are left
pub record Inside : Type 0 where
  pub name : Name
  pub tree : File
  pub left : Includes

-- The walk ends with these names loaded. These trees come on the way, each behind those that it includes.
abbrev pub EndsWalk : Shelf → List Name → List Inside → List Name → List Loaded → Type 0
EndsWalk shelf loaded [] after trees = (after ≡ loaded) × (trees ≡ [])
EndsWalk shelf loaded (file ∷ around) after trees = (then : List Name) × (inner outer : List Loaded)
    × Walk shelf loaded file.left then inner × EndsWalk shelf then around after outer
    × (trees ≡ inner ++ ((file.name, file.tree) ∷ outer))

-- the first fault on the rest of the walk
abbrev pub Breaks : Shelf → List Name → List Inside → LoadBreak → Type 0
Breaks shelf loaded [] broken = ⊥
Breaks shelf loaded (file ∷ around) broken = WalkBreaks shelf loaded file.name file.left broken
    ⊎ ((then : List Name) × (inner : List Loaded)
    × Walk shelf loaded file.left then inner × Breaks shelf then around broken)

-- With these names loaded, these trees complete and these files open, the walk from FILE goes on: as its rest ends, so
-- does the whole.
pub record GoesOn (shelf : Shelf) (file : Name) (loaded : List Name) (complete : List Loaded)
    (around : List Inside) : Type 0 where
  pub ends : (after : List Name) (trees : List Loaded) → EndsWalk shelf loaded around after trees
      → Walk shelf [] (whole file) after (complete ++ trees)
  pub breaks : (broken : LoadBreak) → Breaks shelf loaded around broken
      → WalkBreaks shelf [] file (whole file) broken
