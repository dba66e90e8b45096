use Rattle.std.proofs.Common.{◌≡◌, ◌≤◌, length}
use Rattle.slice_meaning.specs.Names.{outwards}
use Rattle.slice_meaning.specs.Numbers.{scope_at}
use Rattle.slice_meaning.proofs.scopes.Scopes.outwards.Given as goal

abbrev pub invariant-loop-near : goal.invariant-loop-near
invariant-loop-near l = record {
  within : l.at ≤ length l.self;
  same : outwards l.self l.name (scope_at l.self l.scope) ≡ outwards l.self l.name (scope_at l.self l.at);
}

abbrev pub decreases-loop-near : goal.decreases-loop-near
decreases-loop-near l = l.at
