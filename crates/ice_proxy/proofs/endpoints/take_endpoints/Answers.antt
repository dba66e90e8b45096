use Rattle.std.proofs.Common.{◌≡◌, Bool, List, Ok, Some, None, sym, subst}
use Rattle.ice_types.specs.declared.proxy.Endpoint.{Endpoint}
use Rattle.ice_proxy.specs.Looking.{colon_at}
use Rattle.ice_proxy.specs.Grammar.{endpoints_at}
use Rattle.ice_proxy.specs.Telling.{FindsColon}
use Rattle.ice_proxy.proofs.EndpointLoop.{Goes, starts, ended, fewer, goes_on}
use Rattle.ice_proxy.proofs.endpoints.take_endpoints.Goals as goal

pub loop-endpoints-init : goal.loop-endpoints-init
loop-endpoints-init c = subst (λ (es : List Endpoint). Goes es c.args.words.now (endpoints_at c.args.words.now)) (sym c.new-endpoints.ensures) (starts c.args.words.now)

pub loop-endpoints-smaller : goal.loop-endpoints-smaller
loop-endpoints-smaller c =
    let e : colon_at c.loop-endpoints.words ≡ Ok (Some c.take_colon.new.words) = subst (λ (b : Bool). FindsColon (Ok b) c.take_colon.new.words (colon_at c.loop-endpoints.words)) c.if-branch.true c.in_ok-take_colon.ensures in
    fewer c.loop-endpoints.endpoints c.loop-endpoints.words _ c.loop-endpoints.invariant c.take_colon.new.words e c.in_ok-endpoint.endpoint c.take_endpoint.new.words c.in_ok-endpoint.ensures

pub loop-endpoints-preserved : goal.loop-endpoints-preserved
loop-endpoints-preserved c =
    let e : colon_at c.loop-endpoints.words ≡ Ok (Some c.take_colon.new.words) = subst (λ (b : Bool). FindsColon (Ok b) c.take_colon.new.words (colon_at c.loop-endpoints.words)) c.if-branch.true c.in_ok-take_colon.ensures in
    subst (λ (es : List Endpoint). Goes es c.take_endpoint.new.words (endpoints_at c.args.words.now)) (sym c.in_ok-push.ensures.ok)
    (goes_on c.loop-endpoints.endpoints c.loop-endpoints.words _ c.loop-endpoints.invariant c.take_colon.new.words e c.in_ok-endpoint.endpoint c.take_endpoint.new.words c.in_ok-endpoint.ensures)

pub returns : goal.returns
returns c =
    let e : colon_at c.loop-endpoints.words ≡ Ok None = subst (λ (b : Bool). FindsColon (Ok b) c.take_colon.new.words (colon_at c.loop-endpoints.words)) c.if-branch.false c.in_ok-take_colon.ensures in
    ended c.loop-endpoints.endpoints c.loop-endpoints.words _ c.loop-endpoints.invariant e
