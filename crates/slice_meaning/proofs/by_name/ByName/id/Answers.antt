use Rattle.std.proofs.Common.{sym, ap, ◌∙◌}
use Rattle.std.specs.Option.{option_copied}
use Rattle.slice_meaning.proofs.Ids.{new_id, new_id_same}
use Rattle.slice_meaning.proofs.by_name.ByName.id.Goals as goal

pub invariant_of-self : goal.invariant_of-self
invariant_of-self c = record {
  are_ids = new_id c.insert.result c.args.self.now.ids c.insert.new.self c.args.self.now.numbers c.args.name.now c.len-id.result c.args.self.now.are_ids
      (sym c.get.ensures.value ∙ ap option_copied c.in_default.is) c.len-id.ensures.len c.insert.ensures.old c.insert.ensures.len c.insert.ensures.updates c.insert.ensures.err;
}

pub returns-clause-same : goal.returns-clause-same
returns-clause-same c = new_id_same c.args.self.now.ids c.insert.new.self c.args.self.now.numbers c.args.name.now c.len-id.result c.args.self.now.are_ids
    (sym c.get.ensures.value ∙ ap option_copied c.in_default.is) c.len-id.ensures.len c.in_ok-insert.ensures.updates
