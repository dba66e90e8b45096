use Rattle.std.proofs.Common.{◌≡◌, OnOk, rules, ◌++◌, [], ◌∷◌}
use Rattle.ice_types.specs.declared.proxy.Endpoint.TheVariants.{Tcp}
use Rattle.ice_encoding.specs.Endpoint.{tcp}
use Rattle.encaps_optionals.proofs.Putting.{then_put}
use Rattle.encaps_optionals.proofs.write_endpoint.append_said.Goals as goal

pub returns-in_ok-extend_from_slice-in-Tcp-clause-ok : goal.returns-in_ok-extend_from_slice-in-Tcp-clause-ok
returns-in_ok-extend_from_slice-in-Tcp-clause-ok c =
    let i = c.in-Tcp in
    let second : OnOk c.append_tcp.result (c.append_tcp.new.out.items ≡ c.extend_from_slice.new.self.items ++ tcp.put (Tcp i.host i.port i.timeout i.compress)) = search (rules, c.append_tcp.ensures.ok) in
    rw i.is (then_put c.append_tcp.result c.args.out.now.items c.extend_from_slice.new.self.items c.append_tcp.new.out.items (1 ∷ 1 ∷ []) (tcp.put (Tcp i.host i.port i.timeout i.compress)) c.in_ok-extend_from_slice-in-Tcp.ensures.items second)
