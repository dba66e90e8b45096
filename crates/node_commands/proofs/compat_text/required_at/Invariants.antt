use Rattle.std.proofs.Common.{◌≡◌, drop}
use Rattle.node_commands.specs.Compats.{required_at}
use Rattle.node_commands.proofs.compat_text.required_at.Given as goal

-- the member is at this place among those that are left
abbrev pub invariant-loop-member : goal.invariant-loop-member
invariant-loop-member l = required_at (drop l.member-index l.members) l.left ≡ required_at l.fn.members l.fn.place
