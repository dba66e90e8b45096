use Rattle.std.proofs.Common.{codes, Some}
use Rattle.serve_command.proofs.Cuts.{parted, spelled_by}
use Rattle.serve_command.proofs.object_words.object_of.Goals as goal

pub of_two_parts-requires-clause-sort : goal.of_two_parts-requires-clause-sort
of_two_parts-requires-clause-sort c = (parted c.args.word.now (Some (c.in_ok-sort.sort, c.in_ok-sort.parts)) c.in_ok-sort.ensures.cases).1

pub returns-in-locator : goal.returns-in-locator
returns-in-locator c = spelled_by c.args.word.now c.in_ok-sort.sort.now (codes "locator") c.in_ok-sort.parts.now c.locator_of.result (parted c.args.word.now (Some (c.in_ok-sort.sort, c.in_ok-sort.parts)) c.in_ok-sort.ensures.cases).0 c.in-locator.is c.locator_of.ensures
