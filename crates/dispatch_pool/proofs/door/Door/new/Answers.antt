use Rattle.std.proofs.Common.{[], sym, subst, arith}
use Rattle.talking.specs.Told.{DoorTells}
use Rattle.talking.proofs.Told.{door_new}
use Rattle.dispatch_pool.proofs.door.Door.new.Goals as goal

pub invariant_of-result : goal.invariant_of-result
invariant_of-result g c = record {
  wanted_is = c.requires.asked;
  accepted_is = c.requires.taken;
  fits = omega arith;
  tells = subst (λ z. DoorTells z 0 (g.D.Listener.told c.args.listener) []) (sym c.requires.told) (door_new (g.D.Listener.told c.args.listener));
  failures_are = sym c.requires.counts.0;
  nones_are = sym c.requires.counts.1;
  reached = λ e. absurd cc;
  no_more = λ e. absurd cc;
}
