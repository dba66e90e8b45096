use Rattle.std.proofs.Common.{◌<◌, ◌≡◌, Some, None, length, sym, ap, ◌∙◌, subst, arith}
use Rattle.std.specs.Option.{option_copied}
use Rattle.ice_types.specs.Tables.{Tables}
use Rattle.ice_types.proofs.BaseChains.{get_within}
use Rattle.ice_types.proofs.schema.Schema.exception_bases.Goals as goal

pub returns-in-Some-clause-most : goal.returns-in-Some-clause-most
returns-in-Some-clause-most c = (c.self.invariant.0.kept.exceptions c.args.at c.in-Some.bases.now (sym c.get.ensures ∙ ap option_copied c.in-Some.is)).1

pub returns-in-None-clause-bases : goal.returns-in-None-clause-bases
returns-in-None-clause-bases c =
    let rows = c.self.inside.rows.exceptions in
    let there : c.args.at < length rows.decls = subst (λ (t : Tables). c.args.at < length t.exceptions) (sym c.self.view_is) c.requires in
    let found = get_within rows.beside c.args.at (omega (arith, there, c.self.invariant.0.kept.exceptions_beside)) in
    let clash : None ≡ Some found.0 = sym (sym c.get.ensures ∙ ap option_copied c.in-None.is) ∙ found.1 in
    absurd cc
