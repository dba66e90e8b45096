use Rattle.std.proofs.Common.{◌≡◌, ◌++◌, rules}
use Rattle.std.specs.Int.{w32}
use Rattle.ice_prims.specs.Bytes.{bool_bytes, signed_bytes, text_bytes}
use Rattle.encaps_optionals.proofs.Putting.{grows_on, then_put, then_stays}
use Rattle.encaps_optionals.proofs.write_endpoint.append_tcp.Goals as goal

pub returns-clause-ok : goal.returns-clause-ok
returns-clause-ok c =
    let said = c.put_bool.result in
    let new = c.put_bool.new.out.items in
    let compress = bool_bytes c.args.compress in
    let timeout = signed_bytes w32 c.args.timeout in
    let port = signed_bytes w32 c.args.port in
    let puts_host : c.put_str.new.out.items ≡ c.args.out.now.items ++ text_bytes c.args.host.now = search (rules, c.in_ok-put_str.ensures.ok) in
    let puts_port : c.put_int.new.out.items ≡ c.put_str.new.out.items ++ port = search (rules, c.in_ok-put_int.ensures.ok) in
    let puts_timeout : c.put_int-2.new.out.items ≡ c.put_int.new.out.items ++ timeout = search (rules, c.in_ok-put_int-2.ensures.ok) in
    let three = then_put said c.put_int.new.out.items c.put_int-2.new.out.items new timeout compress puts_timeout c.put_bool.ensures.ok in
    let two = then_put said c.put_str.new.out.items c.put_int.new.out.items new port (timeout ++ compress) puts_port three in
    then_put said c.args.out.now.items c.put_str.new.out.items new (text_bytes c.args.host.now) (port ++ (timeout ++ compress)) puts_host two

pub returns-clause-err : goal.returns-clause-err
returns-clause-err c =
    let start = c.args.out.now.items in
    let two = grows_on start c.put_str.new.out.items c.put_int.new.out.items (_, c.in_ok-put_str.ensures.ok) (_, c.in_ok-put_int.ensures.ok) in
    let three = grows_on start c.put_int.new.out.items c.put_int-2.new.out.items two (_, c.in_ok-put_int-2.ensures.ok) in
    then_stays c.put_bool.result start c.put_int-2.new.out.items c.put_bool.new.out.items three c.put_bool.ensures.err
