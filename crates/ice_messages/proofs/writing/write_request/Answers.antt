use Rattle.std.proofs.Common.{ℤ, subst, arith}
use Rattle.std.proofs.Math.Facts.{to_z-of_z}
use Rattle.std.proofs.lemmas.List.{length-append}
use Rattle.std.proofs.lemmas.Result.{err_from_is_err_and}
use Rattle.std.specs.Int.{w32}
use Rattle.ice_prims.specs.Bytes.{signed_bytes}
use Rattle.ice_encoding.specs.Parts.{both, int}
use Rattle.ice_messages.specs.Calls.{call}
use Rattle.ice_messages.specs.Written.{Puts}
use Rattle.ice_messages.specs.declared.message.Message.TheVariants.{Request}
use Rattle.ice_messages.proofs.Puts.{header_refused, whole_fits, counted, wrote, request_puts}
use Rattle.ice_messages.proofs.writing.write_request.Goals as goal

pub returns-in_err-out : goal.returns-in_err-out
returns-in_err-out c =
    let p = err_from_is_err_and c.from_residual.result c.from_residual.ensures.1 in
    rw (p.1, p.2) (header_refused (Request c.args.id c.args.call.now) c.request_length.result (c.request_length.ensures c.args.id) 0 c.in_err-out.field-0.0 c.in_err-out.ensures)

pub put_request-requires-clause-fits : goal.put_request-requires-clause-fits
put_request-requires-clause-fits c =
    omega (arith, counted (Request c.args.id c.args.call.now) c.request_length.result (c.request_length.ensures c.args.id) c.in_ok-out.ensures.1, c.in_ok-out.ensures.1, length-append (signed_bytes w32 c.args.id) (call.put c.args.call.now))

pub returns-in_err-put_request : goal.returns-in_err-put_request
returns-in_err-put_request c =
    let p = err_from_is_err_and c.from_residual-in_err-put_request.result c.from_residual-in_err-put_request.ensures.1 in
    rw (p.1, p.2) (whole_fits (Request c.args.id c.args.call.now) c.request_length.result (c.request_length.ensures c.args.id) c.in_ok-out.ensures.1)

pub returns : goal.returns
returns c = rw c.from_vec.ensures
    (wrote (Request c.args.id c.args.call.now) c.request_length.result (c.request_length.ensures c.args.id) c.in_ok-out.ensures.1 c.in_ok-out.out.items c.put_request.new.out.items c.in_ok-out.ensures.0 (request_puts c.args.id c.args.call.now c.in_ok-out.out.items c.put_request.new.out.items (subst (λ (z : ℤ). Puts (both int call) (z, c.args.call.now) c.in_ok-out.out.items c.put_request.new.out.items) (to_z-of_z c.ranges.id) c.in_ok-put_request.ensures)))
