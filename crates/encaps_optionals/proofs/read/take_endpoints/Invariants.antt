use Rattle.std.proofs.Common.{◌≡◌, ◌-◌}
use Rattle.ice_encoding.specs.Parts.{read_times}
use Rattle.ice_encoding.specs.Endpoint.{endpoint}
use Rattle.encaps_optionals.proofs.Reading.{with_front}
use Rattle.encaps_optionals.proofs.read.take_endpoints.Given as goal

abbrev pub invariant-loop : goal.invariant-loop
invariant-loop l = with_front l.endpoints (read_times endpoint.read (l.count - l.counter) l.cursor) ≡ read_times endpoint.read l.fn.count l.fn.cursor
