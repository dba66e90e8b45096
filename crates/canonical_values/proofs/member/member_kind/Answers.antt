use Rattle.std.proofs.Common.{rules}
use Rattle.canonical_values.proofs.Joined.{next_kind}
use Rattle.canonical_values.proofs.member.member_kind.Goals as goal

pub returns-clause-kind : goal.returns-clause-kind
returns-clause-kind c = next_kind c.args.schema.now c.args.place c.args.next c.in_ok-decl.decl.now c.in_ok-member.member.now (search rules) (search rules)
