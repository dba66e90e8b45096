use Rattle.std.proofs.Common.{refl, sym, ◌∙◌}
use Rattle.instance_writing.proofs.WrittenIds.{kept_number, kept_text, kept_of_exception}
use Rattle.instance_writing.proofs.written_id.kept_id.Goals as goal

pub returns-in-Exception : goal.returns-in-Exception
returns-in-Exception c = record { id = refl; told = kept_of_exception c.args.sort c.args.id c.in-Exception.is }

pub returns-in-Some : goal.returns-in-Some
returns-in-Some c = let kept = kept_number c.args.sort c.args.id.now c.in-Some.number c.in-Class.is (sym c.number_in.ensures ∙ c.in-Some.is) in record { id = kept.0; told = kept.1 }

pub returns-in-None : goal.returns-in-None
returns-in-None c = record { id = refl; told = kept_text c.args.sort c.args.id c.in-Class.is (sym c.number_in.ensures ∙ c.in-None.is) }
