-- Texts of words that stand for nothing, and what is left where all stand for something.
use Rattle.std.proofs.Common.{◌≡◌, ◌<◌, ℕ, List, map, length, get_or, inl, inr}
use Rattle.std.specs.Prelude.{slice_get, Result, Err, Some}
use Rattle.node_commands.specs.declared.outcome.Outcome.{Outcome}
use Rattle.node_commands.specs.declared.outcome.Outcome.TheVariants as outcomes
use Rattle.serve_command.specs.ObjectWords.{Object}
use Rattle.serve_command.specs.Adapters.{Never, Breaks}
use Rattle.serve_command.specs.Steps.{ReadsText, ReadsOne, ReadsAll}
use Rattle.serve_command.proofs.Loops.{NeverBefore, there_at, first}

-- where the text stands for something, only memory can lack
pub only_memory : {A : Type 0} (read : Result A ℕ) (outcome : Outcome) → ((at : ℕ) → read ≡ Err at → ⊥) → ReadsText read (Err outcome) → outcome ≡ outcomes.Memory
only_memory read outcome reads (inl h) = absurd (reads h.0 h.1)
only_memory read outcome reads (inr h) = h

-- what holds of no word does not hold of the word at a place
pub never_at : {A X : Type 0} (Is : Object → X → Type 0) (f : A → Object) (xs : List A) (i : ℕ) (d : A) → i < length xs → Never Is (map f xs) → (x : X) → Is (f (get_or xs i d)) x → ⊥
never_at Is f xs i d lt never x h = never i (f (get_or xs i d)) x (there_at f xs i d lt) h

-- the first text that stands for nothing is refused
pub read_first : (objects : List Object) (n : ℕ) (object : Object) (outcome : Outcome) → slice_get objects n ≡ Some object → ReadsOne object (Err outcome) → NeverBefore Breaks objects n → ReadsAll objects (Err outcome)
read_first objects n object outcome at (inl h) before = inl (h.0, first Breaks objects n object h.0 at h.1 before, h.2)
read_first objects n object outcome at (inr h) before = inr h
