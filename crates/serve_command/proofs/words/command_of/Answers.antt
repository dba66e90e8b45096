use Rattle.std.proofs.Common.{List, subst, sym, ◌∙◌}
use Rattle.std.specs.List.{AllByRecursion}
use Rattle.std.proofs.lemmas.Bool.{false≢true}
use Rattle.node_commands.specs.Words.{words_of}
use Rattle.serve_command.specs.declared.object_words.ObjectWord.{ObjectWord}
use Rattle.serve_command.specs.ObjectWords.{AreShort, AreApart}
use Rattle.serve_command.specs.Words.{objects_of, plain_from}
use Rattle.serve_command.specs.Reading.{SpellAll}
use Rattle.serve_command.proofs.Spelling.{complete, not_apart_complete, some_words, spelled_short}
use Rattle.serve_command.proofs.words.command_of.Goals as goal

pub are_apart-requires : goal.are_apart-requires
are_apart-requires c =
    let spelled = subst (SpellAll (words_of c.args.operands.objects.now)) c.in-Some.is c.in_ok-objects.ensures in
    subst (λ (os : List ObjectWord). AllByRecursion AreShort (objects_of os)) (sym c.as_slice.ensures.value) (spelled_short (words_of c.args.operands.objects.now) (objects_of c.in-Some.objects.items) spelled.0 c.requires)

pub returns-then-not-branch : goal.returns-then-not-branch
returns-then-not-branch c =
    let spelled = subst (SpellAll (words_of c.args.operands.objects.now)) c.in-Some.is c.in_ok-objects.ensures in
    not_apart_complete (plain_from c.args.operands) (objects_of c.in-Some.objects.items) spelled.0 spelled.1
    (λ apart. false≢true (sym c.if-not-branch.true ∙ c.in_ok-are_apart.ensures.1 (subst (λ (os : List ObjectWord). AreApart (objects_of os)) (sym c.as_slice.ensures.value) apart)))

pub returns : goal.returns
returns c =
    let spelled = subst (SpellAll (words_of c.args.operands.objects.now)) c.in-Some.is c.in_ok-objects.ensures in
    complete c.args.operands.workers c.args.operands.connections c.args.operands.file.now c.args.operands.host.now c.args.operands.port (words_of c.args.operands.objects.now) (objects_of c.in-Some.objects.items)
    spelled.0 (some_words c.args.operands.objects.now c.is_empty.result c.is_empty.ensures c.if-is_empty.false) spelled.1 (subst (λ (os : List ObjectWord). AreApart (objects_of os)) c.as_slice.ensures.value (c.in_ok-are_apart.ensures.0 c.if-not-branch.false))
