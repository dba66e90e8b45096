use Rattle.std.proofs.Common.{sym, subst}
use Rattle.ice_types.specs.Tables.{Tables}
use Rattle.serve_command.specs.Words.{objects_of}
use Rattle.serve_command.specs.Adapters.{IsAdapter, LacksInterface, Never}
use Rattle.serve_command.proofs.adapters.adapter_of.Goals as goal

pub put_all-put-requires-clause-names : goal.put_all-put-requires-clause-names
put_all-put-requires-clause-names c = subst (λ (z : Tables). Never (LacksInterface z) (objects_of c.args.objects.now)) (sym c.in-Ok.ensures.ok) c.requires.names

pub returns-in-Ok-put-clause-ok : goal.returns-in-Ok-put-clause-ok
returns-in-Ok-put-clause-ok c =
    subst (λ (z : Tables). IsAdapter z (objects_of c.args.objects.now) c.put_all-put.new.adapter) c.in-Ok.ensures.ok c.in-Ok-put.ensures.ok
