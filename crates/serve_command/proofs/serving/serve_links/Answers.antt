use Rattle.std.proofs.Common.{arith}
use Rattle.serve_command.specs.Words.{command_of}
use Rattle.serve_command.proofs.Listening.{heard_of}
use Rattle.serve_command.proofs.serving.serve_links.Goals as goal

pub returns : goal.returns
returns g c = (
  c.serve_all-served.result.accepted,
  c.serve_all-served.result.failed,
  c.serve_all-served.result.starved,
  heard_of (command_of c.args.command.now) c.args.lanes.now c.args.passes c.serve_all-served.result.passes _ _ _ _ _ _ _ _ _ c.serve_all-served.result.accepted c.serve_all-served.result.failed c.serve_all-served.result.starved
      c.serve_all-served.ensures.done (c.serve_all-served.ensures.whole c.requires.whole) c.serve_all-served.ensures.few c.serve_all-served.ensures.ended
      c.retire.ensures.told c.retire.ensures.count c.serve_all-served.ensures.failures c.requires.new (omega arith),
  c.end_with.ensures,
)
