use Rattle.std.proofs.lemmas.Result.{err_from_is_err_and}
use Rattle.ice_encoding.specs.Parts.{read_times}
use Rattle.ice_encoding.specs.Endpoint.{endpoint}
use Rattle.encaps_optionals.proofs.Reading.{goes_on, ends}
use Rattle.encaps_optionals.proofs.read.take_endpoints.Goals as goal

pub returns-in_err-endpoint : goal.returns-in_err-endpoint
returns-in_err-endpoint c =
    let p = err_from_is_err_and c.from_residual.result c.from_residual.ensures.1 in
    rw (p.1, p.2) (ends endpoint.read c.loop.endpoints c.args.count c.loop.counter c.loop.cursor (read_times endpoint.read c.args.count c.args.cursor.now) c.loop.invariant c.loop-test.true c.in_err-endpoint.field-0.0 c.in_err-endpoint.ensures)

pub loop-preserved : goal.loop-preserved
loop-preserved c =
    rw c.in_ok-push.ensures.ok (goes_on endpoint.read c.loop.endpoints c.args.count c.loop.counter c.loop.cursor (read_times endpoint.read c.args.count c.args.cursor.now) c.loop.invariant c.loop-test.true c.in_ok-endpoint.endpoint c.take_endpoint.new.cursor c.in_ok-endpoint.ensures)
