use Rattle.std.proofs.Common.{ℕ, ◌≡◌, ◌≤◌, List, Option, sym, ap, subst, arith}
use Rattle.ice_types.specs.declared.declarations.ClassDecl.{ClassDecl}
use Rattle.ice_types.specs.declared.rows.Above.{Above}
use Rattle.ice_types.specs.Kept.{above_of}
use Rattle.ice_types.specs.Inherited.{IsA, Here, CountsClassBases, HasFarBases}
use Rattle.ice_types.proofs.FarBases.{far_is_above, no_more, reaches_on}
use Rattle.ice_types.proofs.bases.far_over.Goals as goal

module _ (classes : List ClassDecl) (beside : List (Option Above)) (counts : CountsClassBases classes beside) (far_bases : HasFarBases classes beside) (at : ℕ) (here : Above) (here_is : here ≡ above_of beside at) where
  leap : IsA classes at here.far
  leap = subst (λ (a : Above). IsA classes at a.far) (sym here_is) (far_is_above classes beside counts far_bases at)

  falls : (end : Above) → end ≡ above_of beside here.far → end.bases ≤ here.bases
  falls end end_is = omega (arith, no_more classes beside counts at here.far leap, ap (λ (a : Above). a.bases) here_is, ap (λ (a : Above). a.bases) end_is)

pub overflow_sub-first : goal.overflow_sub-first
overflow_sub-first c = falls c.args.rows.now.decls c.args.rows.now.beside c.requires.counts c.requires.far c.args.base c.above_of-first.result c.above_of-first.ensures c.above_of-second.result c.above_of-second.ensures

pub overflow_sub-second : goal.overflow_sub-second
overflow_sub-second c =
    falls c.args.rows.now.decls c.args.rows.now.beside c.requires.counts c.requires.far c.above_of-first.result.far c.above_of-second.result c.above_of-second.ensures c.above_of-third.result c.above_of-third.ensures

pub returns-then-first-second : goal.returns-then-first-second
returns-then-first-second c =
    let rows = c.args.rows.now in
    reaches_on c.args.base c.above_of-first.result.far c.above_of-second.result.far
    (leap rows.decls rows.beside c.requires.counts c.requires.far c.args.base c.above_of-first.result c.above_of-first.ensures)
    (leap rows.decls rows.beside c.requires.counts c.requires.far c.above_of-first.result.far c.above_of-second.result c.above_of-second.ensures)

pub returns-else-first-second : goal.returns-else-first-second
returns-else-first-second c = Here c.args.base
