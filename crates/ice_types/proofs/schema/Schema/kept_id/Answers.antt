use Rattle.std.proofs.Common.{sym, ◌∙◌}
use Rattle.ice_types.proofs.SliceIds.{kept_number, no_kept}
use Rattle.ice_types.proofs.schema.Schema.kept_id.Goals as goal

pub returns-in-Some : goal.returns-in-Some
returns-in-Some c = kept_number c.args.self.now c.rules.ensures c.args.id.now c.in-Some.number c.utf8.id (sym c.number_in.ensures ∙ c.in-Some.is) c.class_numbered.result c.class_numbered.ensures c.is_none-in-Some.result c.is_none-in-Some.ensures

pub returns-in-None : goal.returns-in-None
returns-in-None c = no_kept c.args.self.now c.args.id.now (sym c.is_numbered.ensures ∙ c.if-not-is_numbered.false) (sym c.number_in.ensures ∙ c.in-None.is)
