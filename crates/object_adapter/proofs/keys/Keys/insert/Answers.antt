use Rattle.std.proofs.Common.{◌≡◌, List, subst}
use Rattle.std.specs.Prelude.{OnErr, OnOk, is_ok}
use Rattle.std.specs.List.{insert}
use Rattle.object_adapter.specs.Keys.{Key}
use Rattle.object_adapter.proofs.Changed.{kept_keys, left_out, put_in}
use Rattle.object_adapter.proofs.keys.Keys.insert.Goals as goal

pub invariant_of-self : goal.invariant_of-self
invariant_of-self c =
    kept_keys c.self.inside.keys.items c.insert_at.new.items.items c.args.at c.args.key (is_ok c.insert_at.result) c.insert_at.ensures c.self.invariant
    (rw c.self.view_is c.requires.gap) (rw c.self.view_is c.requires.room)

pub returns-clause-ok : goal.returns-clause-ok
returns-clause-ok c =
    subst (λ (keys : List Key). OnOk c.insert_at.result (c.insert_at.new.items.items ≡ insert keys c.args.at c.args.key)) c.self.view_is
    (put_in c.insert_at.result c.insert_at.new.items.items (insert c.self.inside.keys.items c.args.at c.args.key) c.self.inside.keys.items c.insert_at.ensures)

pub returns-clause-err : goal.returns-clause-err
returns-clause-err c =
    subst (λ (keys : List Key). OnErr c.insert_at.result (c.insert_at.new.items.items ≡ keys)) c.self.view_is
    (left_out c.insert_at.result c.insert_at.new.items.items (insert c.self.inside.keys.items c.args.at c.args.key) c.self.inside.keys.items c.insert_at.ensures)
