use Rattle.std.proofs.Common.{sym, ◌∙◌}
use Rattle.std.proofs.lemmas.Bool.{false≢true}
use Rattle.ice_encoding.specs.TypedGraph.{RefersIn}
use Rattle.value_parts.specs.Shapes.{with_tag}
use Rattle.value_checks.proofs.Membered.{from_here, next_option, no_option, no_rise}
use Rattle.value_checks.proofs.members.are_options.Goals as goal

pub returns-then-not-rises : goal.returns-then-not-rises
returns-then-not-rises c =
    let first = from_here c.args.options.now c.loop-option.option-index c.option-item.result c.loop-option-test.true c.option-item.is in
    let falls = no_rise c.args.schema.now (RefersIn c.args.schema.now c.args.graph.now.instances) (with_tag c.args.members.now) c.args.options.now c.loop-option.option-index c.loop-option.last c.option-item.result
    first c.loop-option.invariant (λ above. false≢true (sym c.if-not-rises.true ∙ (c.rises.ensures ∙ above))) in
    (λ e. absurd cc, λ x. absurd (falls x))

pub returns-then-not-is_option : goal.returns-then-not-is_option
returns-then-not-is_option c =
    let first = from_here c.args.options.now c.loop-option.option-index c.option-item.result c.loop-option-test.true c.option-item.is in
    let fails = no_option c.args.schema.now (RefersIn c.args.schema.now c.args.graph.now.instances) (with_tag c.args.members.now) c.args.options.now c.loop-option.option-index c.loop-option.last c.option-item.result
    first c.loop-option.invariant (λ is. false≢true (sym c.if-not-is_option.true ∙ c.is_option.ensures.1 is)) in
    (λ e. absurd cc, λ x. absurd (fails x))

pub loop-option-preserved : goal.loop-option-preserved
loop-option-preserved c =
    let first = from_here c.args.options.now c.loop-option.option-index c.option-item.result c.loop-option-test.true c.option-item.is in
    next_option c.args.schema.now (RefersIn c.args.schema.now c.args.graph.now.instances) (with_tag c.args.members.now) c.args.options.now c.loop-option.option-index c.loop-option.last c.option-item.result
    first c.loop-option.invariant (sym c.rises.ensures ∙ c.if-not-rises.false) (c.is_option.ensures.0 c.if-not-is_option.false)
