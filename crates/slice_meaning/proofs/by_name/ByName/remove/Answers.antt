use Rattle.std.proofs.Common.{None, sym, ap, ◌∙◌}
use Rattle.std.specs.Option.{option_copied}
use Rattle.slice_meaning.proofs.Ids.{remove_ids, number_after}
use Rattle.slice_meaning.proofs.by_name.ByName.remove.Goals as goal

pub invariant_of-self : goal.invariant_of-self
invariant_of-self c = record {
  are_ids = remove_ids c.args.self.now.ids c.args.self.now.numbers c.remove.new.self c.args.name.now c.in-Some.id.now c.args.scope c.args.self.now.are_ids
      (sym c.get.ensures.value ∙ ap option_copied c.in-Some.is) c.remove.ensures.updates;
}

pub returns-in-Some : goal.returns-in-Some
returns-in-Some c = number_after c.args.self.now.ids c.args.self.now.numbers c.remove.new.self c.args.name.now c.in-Some.id.now c.args.scope None c.args.self.now.are_ids
    (sym c.get.ensures.value ∙ ap option_copied c.in-Some.is) c.remove.ensures.updates
