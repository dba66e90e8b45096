use Rattle.std.proofs.Common.{◌≡◌, ◌≤◌, List, ℕ}
use Rattle.slice_meaning.specs.Names.{outwards}
use Rattle.slice_meaning.specs.Numbers.{scope_at, Lacks}
use Rattle.slice_meaning.proofs.scopes.Scopes.outer.Given as goal

abbrev pub invariant-loop-at : goal.invariant-loop-at
invariant-loop-at l = record {
  less : l.at ≤ l.scope;
  same : (name : List ℕ) → Lacks l.self name l.near l.scope → outwards l.self name (scope_at l.self l.scope) ≡ outwards l.self name (scope_at l.self l.at);
}

abbrev pub decreases-loop-at : goal.decreases-loop-at
decreases-loop-at l = l.at
