use Rattle.std.proofs.Common.{◌≡◌, ◌++◌, OnOk, rules}
use Rattle.ice_prims.specs.Bytes.{bool_bytes, byte_bytes}
use Rattle.ice_encoding.specs.Parts.{version}
use Rattle.ice_encoding.specs.Identity.{facet}
use Rattle.ice_encoding.specs.Proxy.{location}
use Rattle.encaps_optionals.proofs.Putting.{grows_on, then_grows, then_put}
use Rattle.encaps_optionals.proofs.write.append_details.Goals as goal

pub returns-clause-err : goal.returns-clause-err
returns-clause-err c =
    let start = c.args.out.now.items in
    let two = grows_on start c.append_facet.new.out.items c.put_byte.new.out.items (_, c.in_ok-append_facet.ensures.ok) (_, c.in_ok-put_byte.ensures.ok) in
    let three = grows_on start c.put_byte.new.out.items c.put_bool.new.out.items two (_, c.in_ok-put_bool.ensures.ok) in
    let four = grows_on start c.put_bool.new.out.items c.put_version.new.out.items three (_, c.in_ok-put_version.ensures.ok) in
    let five = grows_on start c.put_version.new.out.items c.put_version-2.new.out.items four (_, c.in_ok-put_version-2.ensures.ok) in
    then_grows c.append_location.result start c.put_version-2.new.out.items c.append_location.new.out.items five c.append_location.ensures.err

pub returns-clause-ok : goal.returns-clause-ok
returns-clause-ok c =
    let said = c.append_location.result in
    let new = c.append_location.new.out.items in
    let proxy = c.args.proxy.now in
    let found = location.put (proxy.endpoints, proxy.adapter) in
    let encoding = version.put proxy.encoding ++ found in
    let protocol = version.put proxy.protocol ++ encoding in
    let secure = bool_bytes proxy.secure ++ protocol in
    let puts_location : OnOk said (new ≡ c.put_version-2.new.out.items ++ found) = search (rules, c.append_location.ensures.ok) in
    let five = then_put said c.put_version.new.out.items c.put_version-2.new.out.items new (version.put proxy.encoding) found c.in_ok-put_version-2.ensures.ok puts_location in
    let four = then_put said c.put_bool.new.out.items c.put_version.new.out.items new (version.put proxy.protocol) encoding c.in_ok-put_version.ensures.ok five in
    let three = then_put said c.put_byte.new.out.items c.put_bool.new.out.items new (bool_bytes proxy.secure) protocol c.in_ok-put_bool.ensures.ok four in
    let two = then_put said c.append_facet.new.out.items c.put_byte.new.out.items new (byte_bytes proxy.mode) secure c.in_ok-put_byte.ensures.ok three in
    then_put said c.args.out.now.items c.append_facet.new.out.items new (facet.put proxy.facet) (byte_bytes proxy.mode ++ secure) c.in_ok-append_facet.ensures.ok two
