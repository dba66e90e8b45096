use Rattle.class_slices.proofs.Encoded.{begun-is}
use Rattle.class_slices.proofs.enclosing.begin_encaps.Goals as goal

pub returns : goal.returns
returns c =
    begun-is c.new-out.result.items c.put_int.new.out.items c.put_byte.new.out.items c.put_byte-2.new.out.items
    c.new-out.ensures.items c.in_ok-put_int.ensures.ok c.in_ok-put_byte.ensures.ok c.in_ok-put_byte-2.ensures.ok
