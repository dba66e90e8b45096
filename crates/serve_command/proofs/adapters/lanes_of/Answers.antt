use Rattle.std.proofs.Common.{List, sym, subst}
use Rattle.std.specs.List.{AllByRecursion}
use Rattle.std.specs.Prelude.{Err}
use Rattle.serve_command.specs.declared.object_words.ObjectWord.{ObjectWord}
use Rattle.serve_command.specs.ObjectWords.{AreShort}
use Rattle.serve_command.specs.Words.{command_of, objects_of}
use Rattle.serve_command.specs.Adapters.{Breaks, Never}
use Rattle.serve_command.specs.Steps.{AreSound, ChecksAll}
use Rattle.serve_command.proofs.Commands.{all_texts_short, sound}
use Rattle.serve_command.proofs.Making.{unchecked}
use Rattle.serve_command.proofs.adapters.lanes_of.Goals as goal

pub check_all-requires : goal.check_all-requires
check_all-requires g c =
    subst (λ (z : List ObjectWord). AllByRecursion AreShort (objects_of z)) (sym c.as_slice-objects.ensures.value) (all_texts_short c.requires.0 (command_of c.args.command.now) c.requires.1)

pub returns-in-Err : goal.returns-in-Err
returns-in-Err g c =
    unchecked (command_of c.args.command.now) (g.H.Shelf.files c.args.shelf.now) (g.H.Shelf.failures c.args.shelf.now) (g.H.Shelf.failures c.load_schema.new.shelf) c.in_ok-schema.schema c.in_ok-schema.ensures.found.0 c.in_ok-schema.ensures.found.1 c.in-Err.outcome
    (subst (λ (z : List ObjectWord). ChecksAll c.in_ok-schema.schema (objects_of z) (Err c.in-Err.outcome)) c.as_slice-objects.ensures.value c.in-Err.ensures)

pub adapter_of-requires-clause-words : goal.adapter_of-requires-clause-words
adapter_of-requires-clause-words g c =
    subst (λ (z : List ObjectWord). AreSound (objects_of z)) (sym c.as_slice-objects.ensures.value)
    (sound c.requires.0 (command_of c.args.command.now) c.requires.1 (subst (λ (z : List ObjectWord). Never Breaks (objects_of z)) c.as_slice-objects.ensures.value c.in-Ok.ensures.1))
