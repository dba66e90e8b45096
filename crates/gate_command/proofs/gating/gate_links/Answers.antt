use Rattle.std.proofs.Common.{arith}
use Rattle.gate_command.specs.Words.{seen}
use Rattle.gate_command.specs.Steps.{gate_of}
use Rattle.gate_command.proofs.Listening.{heard_of}
use Rattle.gate_command.proofs.gating.gate_links.Goals as goal

pub returns : goal.returns
returns g c = (
  c.gate_all-gated.result.accepted,
  c.gate_all-gated.result.failed,
  c.gate_all-gated.result.starved,
  heard_of (seen c.args.command) (gate_of c.args.plan.now) _ _ _ _ _ _ _ _ _ _ c.gate_all-gated.result.accepted c.gate_all-gated.result.failed c.gate_all-gated.result.starved
      c.gate_all-gated.ensures.done c.gate_all-gated.ensures.few c.gate_all-gated.ensures.ended
      c.retire.ensures.told c.retire.ensures.kept c.retire.ensures.count c.gate_all-gated.ensures.failures c.requires.new (omega arith),
  c.end_with.ensures,
)
