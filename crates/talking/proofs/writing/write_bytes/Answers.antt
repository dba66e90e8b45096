use Rattle.std.proofs.Common.{◌∙◌, drop, length-drop, take_all, arith}
use Rattle.ice_ports.specs.declared.ports.Failed.{Failed}
use Rattle.talking.proofs.Adding.{takes_more}
use Rattle.talking.proofs.writing.write_bytes.Goals as goal

pub loop-at-preserved : goal.loop-at-preserved
loop-at-preserved g c =
    let i = c.loop-at.invariant in let bytes = c.args.bytes.now in
    record {
      within = omega (arith, c.in-Ok.ensures.bound, length-drop c.loop-at.at bytes, i.within);
      talk = takes_more Failed (g.L.Link.talk c.args.link.now) (g.L.Link.talk c.loop-at.link) (g.L.Link.talk c.write_link.new.link) bytes _ c.loop-at.at c.in-Ok.count (take_all _ (drop c.loop-at.at bytes) (omega (arith, length-drop c.loop-at.at bytes))) i.talk c.in-Ok.ensures.talk;
      writes = c.in-Ok.ensures.writes ∙ i.writes;
      reads = c.in-Ok.ensures.reads ∙ i.reads;
    }
