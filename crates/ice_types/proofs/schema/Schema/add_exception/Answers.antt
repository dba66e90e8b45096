use Rattle.std.proofs.Common.{ℕ, length, refl, sym, ap, subst, ◌∙◌}
use Rattle.ice_types.specs.declared.declarations.ExceptionDecl.{ExceptionDecl}
use Rattle.ice_types.specs.declared.rows.Rows.{Rows}
use Rattle.ice_types.specs.Tables.{Tables}
use Rattle.ice_types.specs.Kept.{beside_of, tables_of}
use Rattle.ice_types.specs.Ids.{IsHeld, row_in}
use Rattle.ice_types.proofs.AddedRows.{added_exception, view_exception}
use Rattle.ice_types.proofs.CompactIds.{numbered_same}
use Rattle.ice_types.proofs.Told.{told, if_ok, on_err, held_same}
use Rattle.ice_types.proofs.schema.Schema.add_exception.Goals as goal

pub invariant_of-self : goal.invariant_of-self
invariant_of-self c =
    let old = c.self.inside.rows in
    let was = row_in c.self.inside.ids in
    let now = row_in c.add_row.new.ids in (
      told c.add_row.result c.add_row.ensures.ok c.add_row.ensures.err
          (λ place is. added_exception old c.add_row.new.rows c.args.self.now was now c.self.invariant.0 c.self.view_is c.args.decl c.exception_bases_from-bases.result is.1 is.2 c.len-at.result c.len-at.ensures is.3
          c.requires.room c.requires.type_id c.requires.new_id c.requires.fits c.exception_bases_from-bases.ensures.bases c.exception_bases_from-bases.ensures.most)
          (λ same. subst (λ (after : Rows ExceptionDecl ℕ). IsHeld (tables_of (record old { exceptions = after })) (beside_of (record old { exceptions = after })) now) (sym same.0)
          (held_same (tables_of old) (beside_of old) was now same.1 c.self.invariant.0)),
      numbered_same refl refl c.self.invariant.1,
    )

pub returns-clause-ok : goal.returns-clause-ok
returns-clause-ok c = if_ok c.add_row.result c.add_row.ensures.ok
    (λ place is. (is.0 ∙ (c.len-at.ensures ∙ ap (λ (t : Tables). length t.exceptions) c.self.view_is), sym (view_exception c.self.inside.rows c.add_row.new.rows c.args.self.now c.self.view_is c.args.decl is.1)))

pub returns-clause-err : goal.returns-clause-err
returns-clause-err c = on_err c.add_row.result c.add_row.ensures.err
    (λ same. ap (λ (after : Rows ExceptionDecl ℕ). tables_of (record c.self.inside.rows { exceptions = after })) same.0 ∙ c.self.view_is)

pub returns-clause-rules : goal.returns-clause-rules
returns-clause-rules c = (invariant_of-self c).0.kept.rules
