use Rattle.node_commands.specs.Words.{words_of}
use Rattle.serve_command.specs.Words.{plain_of}
use Rattle.node_commands.specs.declared.limits.TheConstants.{MOST_CONNECTIONS}
use Rattle.serve_command.proofs.Forms.{strong, workers_then, workers_and, workers_not}
use Rattle.serve_command.proofs.operands.behind_workers.Goals as goal

pub returns-in_err-connections-in-Some : goal.returns-in_err-connections-in-Some
returns-in_err-connections-in-Some c = rw c.from_residual-in_err-connections-in-Some.ensures (workers_not (words_of c.args.words.now) (words_of c.in_ok-workers.rest.now) (words_of c.in-Some.more.now) c.in_ok-workers.workers
    c.in_ok-workers.ensures.0 c.in_ok-workers.ensures.1 c.in-Some.ensures c.in_err-connections-in-Some.ensures)

pub returns-in_ok-connections-in-Some : goal.returns-in_ok-connections-in-Some
returns-in_ok-connections-in-Some c = workers_and (words_of c.args.words.now) (words_of c.in_ok-workers.rest.now) (words_of c.in-Some.more.now) (words_of c.in_ok-connections-in-Some.last.now) c.in_ok-workers.workers c.in_ok-connections-in-Some.connections
    (plain_of c.behind_options.result) c.in_ok-workers.ensures.0 c.in_ok-workers.ensures.1 c.in-Some.ensures c.in_ok-connections-in-Some.ensures.0 c.in_ok-connections-in-Some.ensures.1 (strong c.in_ok-workers.workers c.in_ok-connections-in-Some.connections (words_of c.in_ok-connections-in-Some.last.now) (plain_of c.behind_options.result) c.behind_options.ensures)

pub returns-in-None : goal.returns-in-None
returns-in-None c = workers_then (words_of c.args.words.now) (words_of c.in_ok-workers.rest.now) c.in_ok-workers.workers (plain_of c.behind_options-in-None.result)
    c.in_ok-workers.ensures.0 c.in_ok-workers.ensures.1 c.in-None.ensures (strong c.in_ok-workers.workers MOST_CONNECTIONS (words_of c.in_ok-workers.rest.now) (plain_of c.behind_options-in-None.result) c.behind_options-in-None.ensures)
