use Rattle.std.proofs.Common.{sym, ◌∙◌, arith}
use Rattle.std.proofs.lemmas.Bool.{false≢true}
use Rattle.ice_types.specs.declared.schema.TheConstants.{MOST_DEPTH}
use Rattle.ice_encoding.specs.Typed.{HasType}
use Rattle.ice_encoding.specs.TypedGraph.{RefersIn}
use Rattle.value_checks.proofs.Membered.{fails, from_here, goes_on, required_end}
use Rattle.value_checks.proofs.members.are_required.Goals as goal

pub returns-then-not-has_type : goal.returns-then-not-has_type
returns-then-not-has_type c =
    let found = c.in-Some.ensures.lookup in
    let first = from_here c.args.members.now c.loop-member.member-index c.member-item.result c.loop-member-test.true c.member-item.is in
    let value = from_here c.args.values.now c.loop-member.at c.in-Some.value.now found.3.0 found.1 in
    let rest = fails (HasType c.args.schema.now (RefersIn c.args.schema.now c.args.graph.now.instances) MOST_DEPTH) c.args.members.now c.args.values.now c.loop-member.member-index c.loop-member.at
    c.member-item.result c.in-Some.value.now first value (sym c.is_some.ensures ∙ c.if-is_some.false) c.loop-member.invariant.rest (λ one. false≢true (sym c.if-not-has_type.true ∙ c.has_type.ensures.1 one)) in
    (λ e. absurd cc, λ x. absurd (rest x))

pub loop-member-preserved : goal.loop-member-preserved
loop-member-preserved c =
    let found = c.in-Some.ensures.lookup in
    let first = from_here c.args.members.now c.loop-member.member-index c.member-item.result c.loop-member-test.true c.member-item.is in
    let value = from_here c.args.values.now c.loop-member.at c.in-Some.value.now found.3.0 found.1 in
    record {
      within = omega (arith, found.3.0);
      rest = goes_on (HasType c.args.schema.now (RefersIn c.args.schema.now c.args.graph.now.instances) MOST_DEPTH) c.args.members.now c.args.values.now c.loop-member.member-index c.loop-member.at
          c.member-item.result c.in-Some.value.now first value (sym c.is_some.ensures ∙ c.if-is_some.false) c.loop-member.invariant.rest (c.has_type.ensures.0 c.if-not-has_type.false);
    }

pub returns : goal.returns
returns c =
    required_end (HasType c.args.schema.now (RefersIn c.args.schema.now c.args.graph.now.instances) MOST_DEPTH) c.args.members.now c.args.values.now c.loop-member.member-index c.loop-member.at
    c.loop-member-test.false c.loop-member.invariant.within c.loop-member.invariant.rest
