-- A sequence of bytes is written as its items one by one are.
use Rattle.std.proofs.Common.{◌≡◌, ℕ, suc, ◌<◌, ◌^◌, List, [], ◌∷◌, ◌++◌, length, Option, refl, sym, ap, ◌∙◌, subst}
use Rattle.ice_prims.specs.Bytes.{size_bytes}
use Rattle.ice_encoding.specs.Tree.{Tree, sequence, tree_count}
use Rattle.ice_encoding.specs.Writing.{Writer, written, written_each}
use Rattle.ice_encoding.specs.Canonical.{HasSizes}
use Rattle.ice_encoding.specs.Pausing.{Put, written_in_place}
use Rattle.graph_arena.specs.declared.value.Value.{Value}
use Rattle.graph_arena.specs.declared.value.Value.TheVariants as variants
use Rattle.graph_arena.specs.View.{view, byte_trees}
use Rattle.graph_arena.proofs.Shapes.{view_bytes}
use Rattle.value_writing.specs.Putting.{InsideWritten, onto, Waiting, left_written}
use Rattle.value_writing.specs.ByteSequence.{sequence_bytes}

count_bytes : (bytes : List ℕ) → tree_count (byte_trees bytes) ≡ length bytes
count_bytes [] = refl
count_bytes (b ∷ bytes) = ap suc (count_bytes bytes)

module _ {S : Type 0} (refer : Writer S (Option ℕ)) where
  bytes-written : (bytes : List ℕ) (s : S) → written_each refer (byte_trees bytes) s ≡ (bytes, s)
  bytes-written [] s = refl
  bytes-written (b ∷ bytes) s = ap (λ (x : List ℕ × S). (b ∷ x.0, x.1)) (bytes-written bytes s)

  pub sequence-written : (bytes : List ℕ) (s : S) → written refer (sequence (byte_trees bytes)) s ≡ (sequence_bytes bytes, s)
  sequence-written bytes s =
      ap (λ (x : List ℕ × S). (size_bytes (tree_count (byte_trees bytes)) ++ x.0, x.1)) (bytes-written bytes s)
      ∙ ap (λ (n : ℕ). (size_bytes n ++ bytes, s)) (count_bytes bytes)

-- the size of the bytes is at most the greatest int
pub byte_sizes : (value : Value) (bytes : List ℕ) → value ≡ variants.Bytes bytes → HasSizes (view value) → length bytes < 2 ^ 31
byte_sizes value bytes is h =
    let sizes : HasSizes (sequence (byte_trees bytes)) = subst HasSizes (ap view is ∙ view_bytes bytes) h in
    rw (← count_bytes bytes) sizes.0

-- all of the bytes are written, and then what is left
pub value-written : {S : Type 0} (put : Option ℕ → S → Put S) (inside : InsideWritten S) (ls : List Waiting) (value : Value) (bytes : List ℕ) (s : S) (out out' : List ℕ) → value ≡ variants.Bytes bytes → out' ≡ out ++ sequence_bytes bytes
    → onto (left_written put inside ls) (onto (written (written_in_place put inside) (view value)) (s, out)) ≡ onto (left_written put inside ls) (s, out')
value-written {S} put inside ls value bytes s out out' is wrote =
    let refer = written_in_place put inside in
    ap (λ (v : Tree). onto (left_written put inside ls) (onto (written refer v) (s, out))) (ap view is ∙ view_bytes bytes)
    ∙ ap (λ (p : List ℕ × S). onto (left_written put inside ls) (p.1, out ++ p.0)) (sequence-written refer bytes s)
    ∙ ap (λ (o : List ℕ). onto (left_written put inside ls) (s, o)) (sym wrote)
