-- What is left after a read of bytes in memory.
use Rattle.std.proofs.Common.{◌≡◌, ℕ, ◌+◌, ◌≤◌, List, [], ◌++◌, length, take, drop, sym, ap, subst, ◌∙◌, arith}
use Rattle.std.specs.Prelude.{slice_range}
use Rattle.std.proofs.Math.Seq.{take-append_seam}
use Rattle.std.proofs.lemmas.Grind.{common_steps}
use Rattle.std.proofs.lemmas.List.Folds.{drop_split}

pub left_splits : (bytes copied rest : List ℕ) (at n : ℕ) → copied ≡ slice_range bytes at (at + n) → length copied ≡ n → drop at bytes ≡ take n (copied ++ rest) ++ drop (at + n) bytes
left_splits bytes copied rest at n is len =
    let front : take n (copied ++ rest) ≡ slice_range bytes at (at + n) = subst (λ m. take m (copied ++ rest) ≡ copied) len (take-append_seam copied rest) ∙ is in
    drop_split bytes at (at + n) (omega arith) ∙ ap (λ l. l ++ drop (at + n) bytes) (sym front)

pub nothing_left : (bytes : List ℕ) (at : ℕ) → length bytes ≤ at → drop at bytes ≡ []
nothing_left bytes at h = grind (arith, common_steps)
