use Rattle.std.proofs.Common.{ℕ, ◌≡◌, ◌≤◌, ◌<◌, ◌↔◌, List, Option, Some, sym, ap, subst, arith}
use Rattle.std.proofs.lemmas.Bool.Decides.{Decides-eqb}
use Rattle.ice_types.specs.declared.declarations.ClassDecl.{ClassDecl}
use Rattle.ice_types.specs.declared.rows.Above.{Above}
use Rattle.ice_types.specs.Kept.{above_of}
use Rattle.ice_types.specs.Inherited.{IsA, Here, CountsClassBases, HasFarBases, base_in}
use Rattle.ice_types.proofs.FarBases.{Climbs, far_of, none_above, over_base, over_far}
use Rattle.ice_types.proofs.inheritance.derives_from.Goals as goal
use Rattle.ice_types.proofs.inheritance.derives_from.Goals.{then-far-wanted, else-far-wanted}

module _ (classes : List ClassDecl) (beside : List (Option Above)) (counts : CountsClassBases classes beside) (far_bases : HasFarBases classes beside) (class base at next wanted : ℕ) (here : Above)
    (here_is : here ≡ above_of beside at) (wanted_is : wanted ≡ (above_of beside base).bases) (before : IsA classes at base ↔ IsA classes class base) (more : wanted < here.bases) (next_is : Some next ≡ base_in classes at) where
  abbrev Goes : ℕ → Above → Type 0
  Goes up row = ((row ≡ above_of beside up) × (wanted ≡ (above_of beside base).bases) × (IsA classes up base ↔ IsA classes class base)) × (row.bases < here.bases)

  below : (above_of beside base).bases < (above_of beside at).bases
  below = omega (arith, more, wanted_is, ap (λ (a : Above). a.bases) here_is)

  goes : (up : ℕ) (row : Above) → row ≡ above_of beside up → Climbs classes beside counts base at up → Goes up row
  goes up row row_is climbs = (
    (row_is, wanted_is, (λ h. before.0 (climbs.same.0 h), λ h. climbs.same.1 (before.1 h))),
    omega (arith, climbs.falls, ap (λ (a : Above). a.bases) here_is, ap (λ (a : Above). a.bases) row_is),
  )

  pub to_far : (far : Above) → far ≡ above_of beside here.far → wanted ≤ far.bases → Goes here.far far
  to_far far far_is as_many = goes here.far far far_is (over_far classes beside counts base at next here.far (sym next_is)
      (subst (λ (a : Above). IsA classes next a.far) (sym here_is) (far_of classes beside counts far_bases at next (sym next_is))) below
      (omega (arith, as_many, wanted_is, ap (λ (a : Above). a.bases) far_is)))

  pub to_next : (row : Above) → row ≡ above_of beside next → Goes next row
  to_next row row_is = goes next row row_is (over_base classes beside counts base at next (sym next_is) below)

pub loop-here-smaller : goal.loop-here-smaller
loop-here-smaller c =
    let i = c.loop-here.invariant in
    elim c.if-far-wanted.branch [
      | then-far-wanted w ↦ rw w.at-is (to_far c.args.rows.now.decls c.args.rows.now.beside c.requires.counts c.requires.far c.args.class c.args.base c.loop-here.at c.in-Some.next c.above_of-wanted.result.bases c.loop-here.here
          i.0 i.1 i.2 c.loop-here-test.true c.in-Some.ensures c.above_of-far.result c.above_of-far.ensures w.if-far-wanted.true).1
      | else-far-wanted w ↦ rw w.at-is (to_next c.args.rows.now.decls c.args.rows.now.beside c.requires.counts c.requires.far c.args.class c.args.base c.loop-here.at c.in-Some.next c.above_of-wanted.result.bases c.loop-here.here
          i.0 i.1 i.2 c.loop-here-test.true c.in-Some.ensures w.above_of.result w.above_of.ensures).1
    ]

pub loop-here-preserved : goal.loop-here-preserved
loop-here-preserved c =
    let i = c.loop-here.invariant in
    elim c.if-far-wanted.branch [
      | then-far-wanted w ↦ rw w.at-is (to_far c.args.rows.now.decls c.args.rows.now.beside c.requires.counts c.requires.far c.args.class c.args.base c.loop-here.at c.in-Some.next c.above_of-wanted.result.bases c.loop-here.here
          i.0 i.1 i.2 c.loop-here-test.true c.in-Some.ensures c.above_of-far.result c.above_of-far.ensures w.if-far-wanted.true).0
      | else-far-wanted w ↦ rw w.at-is (to_next c.args.rows.now.decls c.args.rows.now.beside c.requires.counts c.requires.far c.args.class c.args.base c.loop-here.at c.in-Some.next c.above_of-wanted.result.bases c.loop-here.here
          i.0 i.1 i.2 c.loop-here-test.true c.in-Some.ensures w.above_of.result w.above_of.ensures).0
    ]

pub returns : goal.returns
returns c =
    let i = c.loop-here.invariant in
    let decides = Decides-eqb c.loop-here.at c.args.base in (
      λ h. i.2.0 (subst (λ (x : ℕ). IsA c.args.rows.now.decls c.loop-here.at x) (decides.0 h) (Here c.loop-here.at)),
      λ h. decides.1 (none_above c.args.rows.now.decls c.args.rows.now.beside c.requires.counts c.loop-here.at c.args.base
          (omega (arith, c.loop-here-test.false, i.1, ap (λ (a : Above). a.bases) i.0)) (i.2.1 h)),
    )
