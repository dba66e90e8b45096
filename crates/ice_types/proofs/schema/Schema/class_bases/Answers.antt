use Rattle.std.proofs.Common.{ℕ, ◌≡◌, ◌≤◌, ◌<◌, length, None, Some, sym, ap, subst, ◌∙◌, arith}
use Rattle.std.specs.Option.{is_some}
use Rattle.std.proofs.lemmas.List.{length-map}
use Rattle.ice_types.specs.declared.rows.Above.{Above}
use Rattle.ice_types.specs.Tables.{Tables}
use Rattle.ice_types.specs.Bases.{HasBases, class_base}
use Rattle.ice_types.specs.Rules.{defined, IsSchema}
use Rattle.ice_types.specs.Kept.{tables_of}
use Rattle.ice_types.proofs.BaseChains.{bases_by_row, defined_within, get_within}
use Rattle.ice_types.proofs.schema.Schema.class_bases.Goals as goal

pub returns-clause-bases : goal.returns-clause-bases
returns-clause-bases c =
    let rows = c.self.inside.rows.classes in
    let t = tables_of c.self.inside.rows in
    let there : c.args.at < length rows.decls = subst (λ (t : Tables). c.args.at < length t.classes) (sym c.self.view_is) c.requires in
    let found = get_within rows.beside c.args.at (omega (arith, there, length-map rows.beside is_some, c.self.invariant.0.kept.rules.class_flags)) in
    subst (λ (t : Tables). HasBases (class_base t) c.args.at c.above_of.result.bases) c.self.view_is (subst (HasBases (class_base t) c.args.at) (sym (ap (λ (above : Above). above.bases) c.above_of.ensures))
    (bases_by_row rows.beside c.args.at (HasBases (class_base t) c.args.at) (λ none. let clash : None ≡ Some found.0 = sym none ∙ found.1 in absurd cc) (λ n e. (c.self.invariant.0.kept.classes c.args.at n e).0)))

pub returns-clause-most : goal.returns-clause-most
returns-clause-most c =
    subst (λ (t : Tables). c.above_of.result.bases ≤ defined t.defined_classes) c.self.view_is (subst (λ (n : ℕ). n ≤ defined (tables_of c.self.inside.rows).defined_classes) (sym (ap (λ (above : Above). above.bases) c.above_of.ensures))
    (bases_by_row c.self.inside.rows.classes.beside c.args.at (λ n. n ≤ defined (tables_of c.self.inside.rows).defined_classes) (λ none. omega arith) (λ n e. (c.self.invariant.0.kept.classes c.args.at n e).1)))

pub returns-clause-room : goal.returns-clause-room
returns-clause-room c =
    let rules = subst IsSchema c.self.view_is c.self.invariant.0.kept.rules in
    omega (arith, returns-clause-most c, defined_within c.args.self.now.defined_classes, rules.class_flags, rules.room.classes)
