use Rattle.node_commands.proofs.Naming.{type_only, as_proxy, as_only_proxy}
use Rattle.node_commands.proofs.type_words.type_of_word.Goals as goal

pub returns-in-Some-clause-only : goal.returns-in-Some-clause-only
returns-in-Some-clause-only c = type_only c.args.schema.now c.args.word.now c.in-Some.kind c.in-Some.ensures.named c.in-Some.ensures.only

pub returns-in-None-clause-named : goal.returns-in-None-clause-named
returns-in-None-clause-named c = as_proxy c.args.schema.now c.args.word.now c.proxy_of_word.result c.in-None.ensures.named c.proxy_of_word.ensures.named

pub returns-in-None-clause-only : goal.returns-in-None-clause-only
returns-in-None-clause-only c = as_only_proxy c.args.schema.now c.args.word.now c.proxy_of_word.result c.in-None.ensures.named c.proxy_of_word.ensures.only
