use Rattle.canonical_inputs.proofs.Places.{member_absent, member_there}
use Rattle.canonical_inputs.proofs.member.pass_member.Goals as goal

pub returns-in-Some-clause-put : goal.returns-in-Some-clause-put
returns-in-Some-clause-put c = member_absent c.args.schema.now c.args.needs.now.items c.args.needs.now.items c.args.bytes.now c.args.member.now c.in-Some.field-0 c.in-Some.is

pub returns-in-None-clause-put : goal.returns-in-None-clause-put
returns-in-None-clause-put c = member_there c.args.schema.now c.args.needs.now.items c.pass_value.new.needs.items c.args.bytes.now c.args.member.now c.pass_value.result c.in-None.is c.pass_value.ensures.put
