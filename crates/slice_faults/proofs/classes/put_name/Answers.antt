use Rattle.slice_meaning.specs.Numbers.{scope_at}
use Rattle.slice_meaning.specs.Known as meaning
use Rattle.slice_faults.specs.Held.{known_of}
use Rattle.slice_faults.proofs.Reopened.{class_undefined}
use Rattle.slice_faults.proofs.classes.put_name.Goals as goal

pub returns-in_ok-declare-clause-undefined : goal.returns-in_ok-declare-clause-undefined
returns-in_ok-declare-clause-undefined c = λ none.
    let old = c.args.known.now in
    let mid : meaning.Known = record { file = old.file; scope = scope_at old.names old.scope; declared = old.names; tables = c.add_class.new.self } in
    class_undefined mid (known_of c.declare.new.known) c.args.word.now c.in_ok-at.at old.rows c.in_ok-id.id c.in_ok-declare.ensures c.in_ok-at.ensures.ok.1 c.in_ok-at.ensures.ok.0 c.add_class.ensures.rules
