use Rattle.std.proofs.Common.{◌≡◌, length, sym, ◌∙◌, subst}
use Rattle.std.specs.Prelude.{is_some}
use Rattle.std.proofs.lemmas.List.{length-map}
use Rattle.ice_types.specs.Tables.{Tables}
use Rattle.ice_types.specs.Measures.{paths_of}
use Rattle.ice_types.specs.Kept.{tables_of}
use Rattle.ice_types.proofs.Items.{both_end}
use Rattle.ice_types.proofs.BaseChains.{counted_by}
use Rattle.ice_types.proofs.BasePaths.{no_paths, none_in}
use Rattle.ice_types.proofs.schema.Schema.paths.Goals as goal

pub returns : goal.returns
returns c =
    let rows = c.self.inside.rows in
    let kept = c.self.invariant.0.kept in
    let as_many : length rows.interfaces.beside ≡ length rows.interfaces.decls = sym (length-map rows.interfaces.beside is_some) ∙ kept.rules.interface_flags in
    subst (λ (t : Tables). c.counted.result ≡ paths_of t 1001 c.args.at) c.self.view_is (c.counted.ensures ∙ counted_by rows.interfaces.beside c.args.at (λ n. n ≡ paths_of (tables_of rows) 1001 c.args.at)
    (λ none. no_paths rows.interfaces.decls 1001 c.args.at (none_in rows.interfaces.decls c.args.at (both_end rows.interfaces.beside rows.interfaces.decls as_many c.args.at none))) (kept.interfaces c.args.at))
