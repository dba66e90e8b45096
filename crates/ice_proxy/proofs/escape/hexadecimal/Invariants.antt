use Rattle.std.proofs.Common.{◌≡◌, ◌≤◌, ◌<◌, ◌-◌, ◌^◌, drop, length}
use Rattle.ice_proxy.specs.Escapes.{digits}
use Rattle.ice_proxy.proofs.escape.hexadecimal.Given as goal

abbrev pub invariant-loop-place : goal.invariant-loop-place
invariant-loop-place l = record {
  within : l.place ≤ length l.bytes;
  small : l.value < 16 ^ l.place;
  same : digits (l.count - l.place) l.value (drop l.place l.bytes) ≡ digits l.count 0 l.bytes;
}
