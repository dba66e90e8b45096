use Rattle.std.proofs.Common.{ℕ, List, ap, subst}
use Rattle.object_adapter.specs.Objects.{Objects}
use Rattle.object_adapter.specs.Adapters.{Adds, Declines}
use Rattle.object_adapter.specs.Keys.{Key, IsGapFor}
use Rattle.object_adapter.proofs.Changed.{added, declined}
use Rattle.object_adapter.proofs.adapter.Adapter.add.Goals as goal

pub returns-in-Ok-clause-adds : goal.returns-in-Ok-clause-adds
returns-in-Ok-clause-adds c =
    let objects : Objects = record { keys = c.self.inside.keys; servants = c.self.inside.servants.items } in
    let gap : IsGapFor c.self.inside.keys (c.args.identity, c.args.facet) c.in-Ok.at =
    subst (λ (f : List ℕ). IsGapFor c.self.inside.keys (c.args.identity, f) c.in-Ok.at) c.as_str.ensures c.in-Ok.ensures.ok.0 in
    subst (λ (o : Objects). Adds o (c.args.identity, c.args.facet) c.args.servant c.insert_both.result (record { keys = c.insert_both.new.keys; servants = c.insert_both.new.servants.items })) c.self.view_is
    (added objects c.insert_both.new.keys c.insert_both.new.servants.items (c.args.identity, c.args.facet) c.in-Ok.at c.args.servant c.insert_both.result gap c.in-Ok.ensures.ok.1
    c.insert_both.ensures.keys c.insert_both.ensures.servants c.insert_both.ensures.err)

pub returns-in-Err-clause-adds : goal.returns-in-Err-clause-adds
returns-in-Err-clause-adds c =
    let why : Declines c.self.inside.keys (c.args.identity, c.args.facet) c.in-Err.fault =
    subst (λ (f : List ℕ). Declines c.self.inside.keys (c.args.identity, f) c.in-Err.fault) c.as_str.ensures c.in-Err.ensures.err in
    declined c.args.self.now (c.args.identity, c.args.facet) c.args.servant c.in-Err.fault _
    (subst (λ (ks : List Key). Declines ks (c.args.identity, c.args.facet) c.in-Err.fault) (ap (λ (o : Objects). o.keys) c.self.view_is) why)
