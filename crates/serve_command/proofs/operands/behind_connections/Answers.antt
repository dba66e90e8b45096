use Rattle.node_commands.specs.Words.{words_of}
use Rattle.serve_command.specs.Words.{plain_of}
use Rattle.serve_command.proofs.Forms.{strong, connections_then, connections_and, connections_not}
use Rattle.serve_command.proofs.operands.behind_connections.Goals as goal

pub returns-in_err-workers-in-Some : goal.returns-in_err-workers-in-Some
returns-in_err-workers-in-Some c = rw c.from_residual-in_err-workers-in-Some.ensures (connections_not (words_of c.args.words.now) (words_of c.in_ok-connections.rest.now) (words_of c.in-Some.more.now) c.in_ok-connections.connections
    c.in_ok-connections.ensures.0 c.in_ok-connections.ensures.1 c.in-Some.ensures c.in_err-workers-in-Some.ensures)

pub returns-in_ok-workers-in-Some : goal.returns-in_ok-workers-in-Some
returns-in_ok-workers-in-Some c = connections_and (words_of c.args.words.now) (words_of c.in_ok-connections.rest.now) (words_of c.in-Some.more.now) (words_of c.in_ok-workers-in-Some.last.now) c.in_ok-connections.connections c.in_ok-workers-in-Some.workers
    (plain_of c.behind_options.result) c.in_ok-connections.ensures.0 c.in_ok-connections.ensures.1 c.in-Some.ensures c.in_ok-workers-in-Some.ensures.0 c.in_ok-workers-in-Some.ensures.1 (strong c.in_ok-workers-in-Some.workers c.in_ok-connections.connections (words_of c.in_ok-workers-in-Some.last.now) (plain_of c.behind_options.result) c.behind_options.ensures)

pub returns-in-None : goal.returns-in-None
returns-in-None c = connections_then (words_of c.args.words.now) (words_of c.in_ok-connections.rest.now) c.in_ok-connections.connections (plain_of c.behind_options-in-None.result)
    c.in_ok-connections.ensures.0 c.in_ok-connections.ensures.1 c.in-None.ensures (strong 1 c.in_ok-connections.connections (words_of c.in_ok-connections.rest.now) (plain_of c.behind_options-in-None.result) c.behind_options-in-None.ensures)
