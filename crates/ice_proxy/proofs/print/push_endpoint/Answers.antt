use Rattle.std.proofs.Common.{◌≡◌, ℤ, ◌++◌, string_bytes, codes, sym, ◌∙◌, ap, rules, to_z, of_z}
use Rattle.std.specs.Int.{w32}
use Rattle.std.proofs.lemmas.Result.{on_ok_weaker}
use Rattle.ice_proxy.specs.Printed as spec
use Rattle.ice_proxy.proofs.Appended.{two}
use Rattle.ice_proxy.proofs.print.push_endpoint.Goals as goal

pub returns-in_ok-push-in-Tcp : goal.returns-in_ok-push-in-Tcp
returns-in_ok-push-in-Tcp c =
    let port : to_z w32 (of_z w32 c.in-Tcp.port) ≡ c.in-Tcp.port = search rules in
    let time : to_z w32 (of_z w32 c.in-Tcp.timeout) ≡ c.in-Tcp.timeout = search rules in
    on_ok_weaker c.push_tcp.result
    (λ last. two (string_bytes c.args.out.now) (string_bytes c.push.new.out) (string_bytes c.push_tcp.new.out) (codes "tcp") (spec.printed_tcp c.in-Tcp.host c.in-Tcp.port c.in-Tcp.timeout c.in-Tcp.compress) c.in_ok-push-in-Tcp.ensures
    (last ∙ ap (λ (z : ℤ). string_bytes c.push.new.out ++ spec.printed_tcp c.in-Tcp.host z (to_z w32 (of_z w32 c.in-Tcp.timeout)) c.in-Tcp.compress) port ∙ ap (λ (z : ℤ). string_bytes c.push.new.out ++ spec.printed_tcp c.in-Tcp.host c.in-Tcp.port z c.in-Tcp.compress) time)
    ∙ ap (λ e. string_bytes c.args.out.now ++ spec.printed_endpoint e) (sym c.in-Tcp.is))
    c.push_tcp.ensures
