-- Values whose references are numbers, as they are written.
use Rattle.std.proofs.Common.{ℕ, ◌≡◌, List, [], ◌∷◌, Option, sym, ap, ◌∙◌}
use Rattle.std.proofs.lemmas.List.{append-nil}
use Rattle.ice_prims.specs.Bytes.{size_bytes}
use Rattle.ice_encoding.specs.Tree.{Tree, none, tree}
use Rattle.ice_encoding.specs.Port.{size_of}
use Rattle.ice_encoding.specs.Writing.{Writer, written, as_number}
use Rattle.ice_encoding.specs.Canonical.{canonical}
use Rattle.ice_encoding.specs.Pausing.{Put, written_in_place}
use Rattle.value_writing.specs.Numbering.{number_put}
use Rattle.value_writing.specs.Putting.{InsideWritten, Written, onto, Waiting, Values, left_written}
use Rattle.value_writing.proofs.Levels.{one-written, onto-nothing}

numbers-written : (inside : InsideWritten (Unit {0})) → written_in_place number_put inside ≡ as_number
numbers-written inside = λ i n s. (append-nil (size_bytes (size_of n)) i, s)

pub canonical-is : (inside : InsideWritten (Unit {0})) (v : Tree) → (written (written_in_place number_put inside) v tt).0 ≡ canonical v
canonical-is inside v = ap (λ (refer : Writer (Unit {0}) (Option ℕ)). (written refer v tt).0) (numbers-written inside)

-- what was to be written of one value
pub value-written : {S : Type 0} (put : Option ℕ → S → Put S) (inside : InsideWritten S) (levels : List Waiting) (v : Tree) (w w' : Written S) → levels ≡ Values (tree v none) ∷ [] → onto (left_written put inside levels) w ≡ w'
    → onto (written (written_in_place put inside) v) w ≡ w'
value-written put inside levels v w w' is h = sym (one-written put inside [] levels v w is ∙ onto-nothing (onto (written (written_in_place put inside) v) w)) ∙ h
