use Rattle.std.proofs.Common.{sym, arith}
use Rattle.std.proofs.lemmas.Option.{slice_get_past}
use Rattle.ice_values.proofs.required.RequiredReader.next_member.Goals as goal

pub returns-then-self-members-clause-next : goal.returns-then-self-members-clause-next
returns-then-self-members-clause-next c = sym (slice_get_past c.args.members.now c.args.self.now.next (omega (arith, c.if-self-members.true)))
