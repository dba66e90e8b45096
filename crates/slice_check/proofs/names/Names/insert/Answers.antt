use Rattle.std.proofs.Common.{true, string_bytes}
use Rattle.std.specs.BTreeSet.{contains_text}
use Rattle.std.proofs.lemmas.Map.Text.{btree_set_updates_text}
use Rattle.slice_check.proofs.Sets.{held_more, one_more}
use Rattle.slice_check.proofs.names.Names.insert.Goals as goal

pub returns : goal.returns
returns c = λ names h fresh.
    let key = string_bytes c.in_ok-from_str.field-0 in
    record {
      those = held_more key c.args.name.now names (contains_text c.args.self.now.held) (contains_text c.insert.new.self) c.in_ok-from_str.ensures.ok
          (btree_set_updates_text key c.args.self.now.held c.insert.new.self true c.in_ok-insert.ensures.updates) h.those;
      count = one_more key c.args.name.now names (contains_text c.args.self.now.held) c.in_ok-insert.field-0 _ _ c.in_ok-from_str.ensures.ok h.those fresh c.in_ok-insert.ensures.added
          c.in_ok-insert.ensures.len h.count;
    }
