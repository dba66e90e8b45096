-- Whether what was spelled of a type under one schema can be read of a type under another, and what stands in the way.
use Rattle.std.specs.Prelude.{ℕ, ◌<◌}
use Rattle.ice_types.specs.declared.kind.TypeRef.{TypeRef}
use Rattle.ice_types.specs.Tables.{Tables}
use Rattle.slice_compat.specs.declared.verdict.Why.{Why}
use Rattle.slice_compat.specs.declared.verdict.Verdict.{Verdict}
use Rattle.slice_compat.specs.declared.verdict.Verdict.TheVariants as verdicts
use Rattle.slice_compat.specs.Reading.{Reads}
use Rattle.slice_compat.specs.Reached.{IsReached}
use Rattle.slice_compat.specs.Tests.{ClassFails, ClassPasses}

module _ (t u : Tables) (kind other : TypeRef) where
  -- the type can be read, and so can each class that it reaches
  pub record Compat : Type 0 where
    pub root : Reads t u kind other
    pub classes : (class : ℕ) → IsReached t kind class → ClassPasses t u class

  -- the first class in the order of the table that is reached and fails, with its first failing test
  pub record FirstFailing (class : ℕ) (why : Why) : Type 0 where
    pub root : Reads t u kind other
    pub reached : IsReached t kind class
    pub fails : ClassFails t u class why
    pub earlier : (before : ℕ) → before < class → IsReached t kind before → ClassPasses t u before

  abbrev pub IsVerdict : Verdict → Type 0
  IsVerdict verdicts.Yes = Compat
  IsVerdict verdicts.NoRoot = Reads t u kind other → ⊥
  IsVerdict (verdicts.NoClass class why) = FirstFailing class why
