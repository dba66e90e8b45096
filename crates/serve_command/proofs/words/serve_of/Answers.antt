use Rattle.node_commands.specs.Words.{words_of}
use Rattle.serve_command.specs.declared.words.TheConstants.{MOST_WORDS}
use Rattle.serve_command.specs.Words.{plain_from}
use Rattle.serve_command.proofs.Spelling.{as_many, if_form_of}
use Rattle.serve_command.proofs.words.serve_of.Goals as goal

pub returns-in-Some-clause-asks : goal.returns-in-Some-clause-asks
returns-in-Some-clause-asks c = if_form_of (words_of c.args.words.now) (plain_from c.in-Some.operands) c.command_of.result (as_many c.args.words.now MOST_WORDS c.if-words-gt-MOST_WORDS.false) (c.are_short.ensures.0 c.if-not-are_short.false) c.in-Some.ensures c.command_of.ensures

pub returns-in-None-clause-asks : goal.returns-in-None-clause-asks
returns-in-None-clause-asks c = λ command f. c.in-None.ensures f.operands f.form
