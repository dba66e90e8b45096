use Rattle.std.proofs.Common.{◌∙◌, ◌++◌, ◌<◌, ◌^◌, ap, pos, length, arith}
use Rattle.std.proofs.lemmas.Int.{of_z-to_z}
use Rattle.std.specs.Int.{w32, to_le_bytes}
use Rattle.std.specs.List.{flat_map}
use Rattle.std.proofs.lemmas.List.{length-append}
use Rattle.ice_prims.specs.Bytes.{signed_bytes}
use Rattle.ice_messages.specs.Calls.{call}
use Rattle.ice_messages.proofs.Putting.{calls_few}
use Rattle.ice_messages.proofs.Puts.{batch_puts}
use Rattle.ice_messages.proofs.writing.put_batch.Goals as goal

pub overflow_cast-items : goal.overflow_cast-items
overflow_cast-items c = let cs = c.args.items.now in
    omega (arith, calls_few cs, length-append (signed_bytes w32 (pos (length cs))) (flat_map call.put cs), c.requires.fits)

pub returns : goal.returns
returns c =
    let cs = c.args.items.now in
    let small : length cs < 2147483648 = omega (arith, calls_few cs, length-append (signed_bytes w32 (pos (length cs))) (flat_map call.put cs), c.requires.fits) in
    let few : length cs < 2 ^ 32 = omega (arith, small) in
    let same = ap (λ n. c.args.out.now.items ++ to_le_bytes w32 n) (of_z-to_z w32 (length cs) few) in
    batch_puts c.put_calls.result cs c.args.out.now.items c.put_int.new.out.items c.put_calls.new.out.items small (c.in_ok-put_int.ensures.ok ∙ same) c.put_calls.ensures
