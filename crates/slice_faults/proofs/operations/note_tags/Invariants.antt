use Rattle.std.proofs.Common.{◌≡◌, ℕ, List, [], ◌∷◌, map, drop}
use Rattle.slice_meaning.specs.Checking.{noted}
use Rattle.slice_meaning.specs.Members.{tag_faults}
use Rattle.slice_faults.specs.Held.{HoldsNumbers, known_of}
use Rattle.slice_faults.specs.Sides.{side}
use Rattle.slice_faults.proofs.operations.note_tags.Given as goal

abbrev pub invariant-loop-param : goal.invariant-loop-param
invariant-loop-param l = (before : List ℕ) × HoldsNumbers l.numbers.numbers before
    × (noted l.found.first (tag_faults (known_of l.known) before (map (λ f. f.tag) (side l.out (drop l.param-index l.params)))) ≡ noted l.fn.found.first (tag_faults (known_of l.known) [] (l.first ∷ map (λ f. f.tag) (side l.out l.params))))
