use Rattle.std.proofs.Common.{Some, ap, ◌∙◌}
use Rattle.std.specs.Prelude.{cond, ◌&&◌, ◌==◌, bytes_eq}
use Rattle.slice_meaning.proofs.Ids.{insert_ids, number_after}
use Rattle.slice_meaning.proofs.by_name.ByName.insert.Goals as goal

pub invariant_of-self : goal.invariant_of-self
invariant_of-self c = record {
  are_ids = insert_ids c.insert.result c.id.new.self.ids c.id.new.self.numbers c.insert.new.self c.args.name.now c.in_ok-id.id c.args.scope c.args.number c.id.new.self.are_ids c.in_ok-id.ensures.id c.insert.ensures.updates c.insert.ensures.err;
}

pub returns-clause-ok : goal.returns-clause-ok
returns-clause-ok c = λ word n.
    number_after c.id.new.self.ids c.id.new.self.numbers c.insert.new.self c.args.name.now c.in_ok-id.id c.args.scope (Some c.args.number) c.id.new.self.are_ids c.in_ok-id.ensures.id c.in_ok-insert.ensures.updates word n
    ∙ ap (cond (c.args.scope == n && bytes_eq c.args.name.now word) (Some c.args.number)) (c.in_ok-id.ensures.same word n)
