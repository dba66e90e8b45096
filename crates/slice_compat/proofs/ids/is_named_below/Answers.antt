use Rattle.std.proofs.Common.{◌≡◌, ℕ, subst}
use Rattle.ice_types.specs.declared.kind.RowRef.TheVariants as rows
use Rattle.ice_types.specs.Inherited.{IsA}
use Rattle.slice_compat.proofs.ids.is_named_below.Goals as goal

class_of_row : (a b : ℕ) → rows.Class a ≡ rows.Class b → a ≡ b
class_of_row a b e = cc

pub returns-in-Some : goal.returns-in-Some
returns-in-Some c = (
  λ e. (c.in-Some.class, c.in-Some.ensures, c.is_a.ensures.0 e),
  λ h. c.is_a.ensures.1 (subst (λ (k : ℕ). IsA c.args.schema.now.classes k c.args.base)
      (class_of_row h.0 c.in-Some.class (c.rules.ensures.apart c.args.id.now (rows.Class h.0) (rows.Class c.in-Some.class) h.1 c.in-Some.ensures)) h.2),
)
