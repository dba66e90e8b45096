use Rattle.std.proofs.Common.{◌<◌, ◌≤◌, sym, subst, arith}
use Rattle.ice_encoding.specs.Visiting.{place}
use Rattle.instance_writing.specs.Tabling.{Listed}
use Rattle.instance_writing.proofs.Tables.{indexed-is}
use Rattle.instance_writing.proofs.table.Table.list.Goals as goal

pub invariant_of-self-2 : goal.invariant_of-self-2
invariant_of-self-2 c =
    indexed-is c.self.inside.places.items c.self.inside.names c.push.new.self c.args.name c.len-at.result c.self.invariant
    (subst (λ (l : Listed). c.args.name < l.count) (sym c.self.view_is) c.requires)
    c.len-at.ensures
    (subst (λ (l : Listed). c.len-at.result ≤ place l.names c.args.name) (sym c.self.view_is) (omega (arith, c.if-place-at.false, c.place.ensures.place)))
    c.in_ok-push.ensures.ok
