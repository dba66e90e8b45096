use Rattle.std.proofs.Common.{ℕ, ◌≡◌, ◌-◌, ◌≤◌, List, ◌++◌, vec_len}
use Rattle.std.specs.Io.KnownBytes.{Consumes}
use Rattle.ice_relay.proofs.input.read_up_to.Given as goal

abbrev pub invariant-loop-buffer : goal.invariant-loop-buffer
invariant-loop-buffer g l = record {
  more : List ℕ;
  parts : l.bytes.items ≡ l.fn.bytes.items ++ more;
  within : vec_len l.bytes ≤ l.goal;
  consumed : Consumes (g.S.Source.left l.fn.source) (g.S.Source.left l.source) more;
  count : g.S.Source.failures l.source ≡ g.S.Source.failures l.fn.source;
}

abbrev pub decreases-loop-buffer : goal.decreases-loop-buffer
decreases-loop-buffer g l = l.goal - vec_len l.bytes
