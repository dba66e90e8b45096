use Rattle.node_commands.specs.Words.{words_of}
use Rattle.serve_command.specs.Words.{plain_of}
use Rattle.node_commands.specs.declared.limits.TheConstants.{MOST_CONNECTIONS}
use Rattle.serve_command.proofs.Forms.{strong, by_workers, by_connections, by_neither}
use Rattle.serve_command.proofs.operands.behind_serve.Goals as goal

pub returns-in-Some : goal.returns-in-Some
returns-in-Some c = by_workers (words_of c.args.words.now) (words_of c.in-Some.rest.now) (plain_of c.behind_workers.result) c.in-Some.ensures c.behind_workers.ensures

pub returns-in-Some-behind_word : goal.returns-in-Some-behind_word
returns-in-Some-behind_word c = by_connections (words_of c.args.words.now) (words_of c.in-Some-behind_word.rest.now) (plain_of c.behind_connections.result) c.in-Some-behind_word.ensures c.behind_connections.ensures

pub returns : goal.returns
returns c = by_neither (words_of c.args.words.now) (plain_of c.behind_options.result) c.in_default.ensures c.in_default-behind_word.ensures (strong 1 MOST_CONNECTIONS (words_of c.args.words.now) (plain_of c.behind_options.result) c.behind_options.ensures)
