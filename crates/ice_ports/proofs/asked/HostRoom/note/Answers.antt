-- The front of the host that is noted.
use Rattle.std.proofs.Common.{rules, List, ℕ, ap, ◌∙◌}
use Rattle.ice_ports.proofs.Giving.{front_of}
use Rattle.ice_ports.proofs.asked.HostRoom.note.Goals as goal

pub returns : goal.returns
returns c = ap (λ (host : List ℕ). record { host = host; port = c.args.port }) (search rules ∙ front_of 8192 c.args.host.now)
