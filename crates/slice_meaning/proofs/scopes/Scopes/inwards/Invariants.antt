use Rattle.std.proofs.Common.{◌≡◌, ◌<◌, ◌≤◌, length, drop}
use Rattle.std.specs.Prelude.{option_and_then}
use Rattle.slice_meaning.specs.Names.{inwards}
use Rattle.slice_meaning.specs.Numbers.{declared_at}
use Rattle.slice_meaning.proofs.scopes.Scopes.inwards.Given as goal

abbrev pub invariant-loop-name : goal.invariant-loop-name
invariant-loop-name l = record {
  first : 0 < l.found;
  within : l.found ≤ length l.self;
  rest : option_and_then (inwards l.self l.names) (declared_at l.self l.number) ≡ option_and_then (inwards l.self (drop l.name-index l.names)) (declared_at l.self l.found);
}
