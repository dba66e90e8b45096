use Rattle.std.proofs.Common.{◌≡◌, ◌++◌, rules}
use Rattle.std.specs.Prelude.{pos}
use Rattle.std.specs.Int.{w16, w32}
use Rattle.ice_prims.specs.Bytes.{signed_bytes}
use Rattle.ice_encoding.specs.Bounds.{size_with}
use Rattle.ice_encoding.specs.Endpoint.{kind_of, said, said_bytes}
use Rattle.encaps_optionals.proofs.Putting.{grows_on, then_grows, then_put}
use Rattle.encaps_optionals.proofs.write_endpoint.append_endpoint.Goals as goal

pub returns-clause-ok : goal.returns-clause-ok
returns-clause-ok c =
    let endpoint = c.args.endpoint.now in
    let kind = signed_bytes w16 (kind_of endpoint) in
    let size = signed_bytes w32 (pos (size_with (said (kind_of endpoint)) endpoint)) in
    let puts_kind : c.put_short.new.out.items ≡ c.args.out.now.items ++ kind = search (rules, c.in_ok-put_short.ensures.ok) in
    let puts_size : c.put_int.new.out.items ≡ c.put_short.new.out.items ++ size = search (rules, c.in_ok-put_int.ensures.ok) in
    let two = then_put c.append_said.result c.put_short.new.out.items c.put_int.new.out.items c.append_said.new.out.items size (said_bytes endpoint) puts_size c.append_said.ensures.ok in
    then_put c.append_said.result c.args.out.now.items c.put_short.new.out.items c.append_said.new.out.items kind (size ++ said_bytes endpoint) puts_kind two

pub returns-clause-err : goal.returns-clause-err
returns-clause-err c =
    let start = c.args.out.now.items in
    let two = grows_on start c.put_short.new.out.items c.put_int.new.out.items (_, c.in_ok-put_short.ensures.ok) (_, c.in_ok-put_int.ensures.ok) in
    then_grows c.append_said.result start c.put_int.new.out.items c.append_said.new.out.items two c.append_said.ensures.err
