use Rattle.std.proofs.Common.{ℕ, ◌<◌, ◌≤◌, List, length, arith, refl, sym, ap, subst, ◌∙◌}
use Rattle.std.specs.Option.{is_some}
use Rattle.std.proofs.lemmas.List.{length-map}
use Rattle.ice_types.specs.Tables.{Tables}
use Rattle.ice_types.specs.Fits.{paths_over}
use Rattle.ice_types.specs.Ids.{row_in}
use Rattle.ice_types.proofs.Defined.{defined_interface, view_interface}
use Rattle.ice_types.proofs.CompactIds.{numbered_same}
use Rattle.ice_types.proofs.schema.Schema.define_interface.Goals as goal

pub invariant_of-self : goal.invariant_of-self
invariant_of-self c = (
  defined_interface c.self.inside.rows c.fill_interface.new.interfaces c.put.new.self c.args.self.now (row_in c.self.inside.ids) c.self.invariant.0 c.self.view_is c.args.at c.args.bases c.args.ops c.paths_over-paths.result
      c.fill_interface.ensures c.put.ensures c.requires.there c.requires.undefined c.requires.fits (c.paths_over-paths.ensures ∙ ap (paths_over c.args.self.now) c.as_slice.ensures),
  numbered_same refl refl c.self.invariant.1,
)

pub returns-clause-filled : goal.returns-clause-filled
returns-clause-filled c = sym (view_interface c.self.inside.rows c.fill_interface.new.interfaces c.put.new.self c.args.self.now c.self.view_is c.args.at c.args.bases c.args.ops c.paths_over-paths.result c.fill_interface.ensures c.put.ensures)

pub returns-clause-rules : goal.returns-clause-rules
returns-clause-rules c = (invariant_of-self c).0.kept.rules

pub fill_interface-requires : goal.fill_interface-requires
fill_interface-requires c = subst (λ (t : Tables). c.args.at < length t.interfaces) (sym c.self.view_is) c.requires.there

pub put-requires : goal.put-requires
put-requires c =
    let rows = c.self.inside.rows.interfaces in
    let there : c.args.at < length rows.decls = subst (λ (t : Tables). c.args.at < length t.interfaces) (sym c.self.view_is) c.requires.there in
    omega (arith, there, length-map rows.beside is_some, c.self.invariant.0.kept.rules.interface_flags)

pub paths_over-paths-requires : goal.paths_over-paths-requires
paths_over-paths-requires c = subst (λ (bases : List ℕ). paths_over c.args.self.now bases ≤ 1000) (sym c.as_slice.ensures) c.requires.fits.0.2
