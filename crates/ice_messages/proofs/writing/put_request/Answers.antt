use Rattle.std.proofs.Common.{◌∙◌, ◌++◌, ap}
use Rattle.std.proofs.Math.Facts.{to_z-of_z}
use Rattle.std.specs.Int.{w32}
use Rattle.ice_prims.specs.Bytes.{signed_bytes}
use Rattle.ice_encoding.specs.Parts.{int}
use Rattle.ice_messages.specs.Calls.{call}
use Rattle.ice_messages.proofs.Puts.{then_puts}
use Rattle.ice_messages.proofs.writing.put_request.Goals as goal

pub returns : goal.returns
returns c =
    let same = ap (λ z. c.args.out.now.items ++ signed_bytes w32 z) (to_z-of_z c.ranges.id) in
    then_puts int call c.args.id c.args.call.now c.args.out.now.items c.put_int.new.out.items c.put_call.new.out.items c.put_call.result (c.in_ok-put_int.ensures.ok ∙ same, c.ranges.id) c.put_call.ensures
