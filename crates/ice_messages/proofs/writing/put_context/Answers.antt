use Rattle.std.proofs.Common.{◌<◌, length, arith}
use Rattle.std.specs.List.{flat_map}
use Rattle.std.proofs.lemmas.List.{length-append}
use Rattle.ice_prims.specs.Bytes.{size_bytes}
use Rattle.ice_encoding.specs.Parts.{both, text}
use Rattle.ice_messages.proofs.Putting.{entries_few}
use Rattle.ice_messages.proofs.Puts.{context_puts}
use Rattle.ice_messages.proofs.writing.put_context.Goals as goal

pub overflow_cast-context : goal.overflow_cast-context
overflow_cast-context c = let es = c.args.context.now in
    omega (arith, entries_few es, length-append (size_bytes (length es)) (flat_map (both text text).put es), c.requires.fits)

pub put_size-requires : goal.put_size-requires
put_size-requires c = let es = c.args.context.now in
    omega (arith, entries_few es, length-append (size_bytes (length es)) (flat_map (both text text).put es), c.requires.fits)

pub returns : goal.returns
returns c =
    let es = c.args.context.now in
    let few : length es < 2147483648 = omega (arith, entries_few es, length-append (size_bytes (length es)) (flat_map (both text text).put es), c.requires.fits) in
    context_puts c.put_entries.result es c.args.out.now.items c.put_size.new.out.items c.put_entries.new.out.items few c.requires.rising c.in_ok-put_size.ensures.ok c.put_entries.ensures
