use Rattle.node_commands.specs.Words.{words_of}
use Rattle.serve_command.specs.Words.{plain_of}
use Rattle.serve_command.proofs.Forms.{by_serve}
use Rattle.serve_command.proofs.operands.operands_of.Goals as goal

pub returns : goal.returns
returns c = by_serve (words_of c.args.words.now) (words_of c.in_ok-behind_word.field-0.now) (plain_of c.behind_serve.result) c.in_ok-behind_word.ensures c.behind_serve.ensures
