use Rattle.std.proofs.Common.{rules}
use Rattle.encaps_optionals.proofs.Putting.{grows_on}
use Rattle.encaps_optionals.proofs.write.append_endpoints.Goals as goal

pub returns-in_err-append_endpoint-clause-err : goal.returns-in_err-append_endpoint-clause-err
returns-in_err-append_endpoint-clause-err c =
    let grown = grows_on c.args.out.now.items c.loop-endpoint.out.items c.append_endpoint.new.out.items c.loop-endpoint.invariant.grown c.in_err-append_endpoint.ensures.err in
    search (rules, grown)
