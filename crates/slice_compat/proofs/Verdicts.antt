-- The verdict: classes that pass, one after the other.
use Rattle.std.proofs.Common.{ℕ, ◌+◌, ◌<◌, ◌≤◌, Bool, List, length, Option, None, Some, MatchOption, IsTrue, sym, subst, arith}
use Rattle.std.proofs.lemmas.Bool.{cases_eq}
use Rattle.ice_types.specs.declared.kind.TypeRef.{TypeRef}
use Rattle.ice_types.specs.Tables.{Tables, is_defined}
use Rattle.ice_types.proofs.BaseChains.{flag_within}
use Rattle.slice_compat.specs.declared.verdict.Why.{Why}
use Rattle.slice_compat.specs.Marks.{AreReached}
use Rattle.slice_compat.specs.Reached.{IsReached}
use Rattle.slice_compat.specs.Tests.{ClassPasses}
use Rattle.slice_compat.proofs.Spreading.{either}

-- what is said of a class whose flag is set
pub where_reached : (flag : Bool) → IsTrue flag → (Passes : Type 0) (Fails : Why → Type 0) (why : Option Why) → MatchOption why Passes Fails
    → MatchOption why (IsTrue flag → Passes) (λ (w : Why). IsTrue flag × Fails w)
where_reached flag on Passes Fails None h = λ again. h
where_reached flag on Passes Fails (Some why) h = (on, h)

module _ (t u : Tables) (root : TypeRef) (flags : List Bool) (are : AreReached t root flags) where
  pub reached_before : (class count : ℕ) → length flags ≤ count → IsReached t root class → class < count
  reached_before class count le r = omega (arith, flag_within flags class ((are.reached class).1 r), le)

  module _ (at : ℕ) (earlier : (class : ℕ) → class < at → IsReached t root class → ClassPasses t u class) where
    pub passes_more : (IsTrue (is_defined flags at) → ClassPasses t u at) → (class : ℕ) → class < at + 1 → IsReached t root class → ClassPasses t u class
    passes_more here class lt r = either (cases_eq class at)
        (λ is. subst (λ (k : ℕ). ClassPasses t u k) (sym is) (here ((are.reached at).1 (subst (λ (k : ℕ). IsReached t root k) is r))))
        (λ apart. earlier class (omega (arith, lt, apart)) r)
