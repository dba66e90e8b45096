-- Pairs of rows whose answers are remembered, so that no pair is asked for twice.
use Rattle.std.specs.Prelude.{ℕ, ◌≡◌, ◌↔◌, Bool, IsTrue, Some, slice_get, Option}
use Rattle.std.specs.Ordering.{nat_cmp, ordering_then}
use Rattle.std.specs.declared.cmp.Ordering.{Ordering}
use Rattle.std.specs.BTreeMap.{BTreeMap, get}
use Rattle.ice_types.specs.declared.kind.TypeRef.TheVariants as kinds
use Rattle.ice_types.specs.Tables.{Tables}
use Rattle.ice_types.specs.Lacking.{BothAre}
use Rattle.slice_compat.specs.declared.answers.Answers.{Answers}
use Rattle.slice_compat.specs.Reading.{Reads, ReadsEnum}

-- pairs of places, by the first and then by the second
abbrev pub pair_cmp : ℕ × ℕ → ℕ × ℕ → Ordering
pair_cmp a b = ordering_then (nat_cmp a.0 b.0) (nat_cmp a.1 b.1)

-- the answer to a pair
abbrev pub answer_in : BTreeMap (ℕ × ℕ) Bool → ℕ → ℕ → Option Bool
answer_in answers a b = get pair_cmp answers (a, b)

module _ (t u : Tables) where
  -- each answer is right
  pub record AreAnswers (answers : Answers) : Type 0 where
    pub structs : (a b : ℕ) (yes : Bool) → answer_in answers.structs a b ≡ Some yes → IsTrue yes ↔ Reads t u (kinds.Struct a) (kinds.Struct b)
    pub enums : (a b : ℕ) (yes : Bool) → answer_in answers.enums a b ≡ Some yes → IsTrue yes ↔ BothAre ReadsEnum (slice_get t.enums a) (slice_get u.enums b)
