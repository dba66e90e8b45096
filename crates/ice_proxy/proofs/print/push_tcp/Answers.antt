use Rattle.std.proofs.Common.{◌≡◌, List, ℕ, ℤ, ◌++◌, string_bytes, codes, ◌∙◌, ap, rules, to_z, of_z}
use Rattle.std.specs.Int.{w32}
use Rattle.std.specs.Fmt.{signed_decimal}
use Rattle.std.proofs.lemmas.Result.{on_ok_weaker}
use Rattle.ice_proxy.specs.Numbers.{printed_timeout}
use Rattle.ice_proxy.specs.Printed as spec
use Rattle.ice_proxy.proofs.Appended.{six}
use Rattle.ice_proxy.proofs.print.push_tcp.Goals as goal

pub returns : goal.returns
returns c =
    let port : to_z w32 (of_z w32 c.args.port) ≡ c.args.port = search rules in
    let time : to_z w32 (of_z w32 c.args.timeout) ≡ c.args.timeout = search rules in
    on_ok_weaker c.push-4.result
    (λ last. six (string_bytes c.args.out.now) (string_bytes c.push_unless_empty.new.out) (string_bytes c.push.new.out) (string_bytes c.push-2.new.out) (string_bytes c.push-3.new.out) (string_bytes c.push_timeout.new.out) (string_bytes c.push-4.new.out)
    (spec.unless_empty (codes " -h ") c.args.host.now) (codes " -p ") (signed_decimal c.args.port) (codes " -t ") (printed_timeout c.args.timeout) (spec.when c.args.compress (codes " -z"))
    c.in_ok-push_unless_empty.ensures c.in_ok-push.ensures
    (c.in_ok-push-2.ensures ∙ ap (λ (text : List ℕ). string_bytes c.push.new.out ++ text) (c.format.ensures.text ∙ ap signed_decimal port))
    c.in_ok-push-3.ensures
    (c.in_ok-push_timeout.ensures ∙ ap (λ (z : ℤ). string_bytes c.push-3.new.out ++ printed_timeout z) time)
    (last ∙ ap (λ (text : List ℕ). string_bytes c.push_timeout.new.out ++ text) c.when.ensures))
    c.push-4.ensures
