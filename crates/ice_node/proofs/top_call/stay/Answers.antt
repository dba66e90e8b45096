use Rattle.node_commands.specs.Words.{words_of}
use Rattle.node_commands.specs.Outcomes.{answer_of}
use Rattle.ice_node.proofs.Promising.{promises}
use Rattle.ice_node.proofs.top_call.stay.Goals as goal

pub returns : goal.returns
returns g c =
    let came = c.run-outcome.ensures in
    promises (words_of c.args.words.now) _ _ c.report.result (answer_of c.run-outcome.result came.0)
    (record { asked = came.1; asks = came.2; cause = came.3; returned = c.report.ensures.status came.0; input = came.4; output = came.5; line = c.report.ensures.line came.0 })
