use Rattle.std.proofs.Common.{ℕ, ◌+◌, List, [], ◌++◌, ◌≡◌, nat_lt, Ok, arith, refl, sym, ap, subst, ◌∙◌}
use Rattle.std.proofs.lemmas.Result.{err_from_is_err_and}
use Rattle.serde_json.specs.Written.{comma_if, compact_text}
use Rattle.graph_arena.specs.Seen.{view_slices}
use Rattle.ice_encoding.specs.Graph.{Slice}
use Rattle.ice_encoding.specs.Instances.{slices_of}
use Rattle.graph_json.specs.Canonical.{instance_noted}
use Rattle.ice_relay.specs.Pages.{Stops, Tells}
use Rattle.ice_relay.proofs.Pages.{all_left, less_left, left_stops, left_without_memory, none_left}
use Rattle.ice_relay.proofs.Instances.{text_from, one_from, none_from}
use Rattle.ice_relay.proofs.line.tell_instances.Goals as goal

pub loop-at-init : goal.loop-at-init
loop-at-init g c = all_left (text_from (instance_noted c.args.schema.now) c.args.graph.now.instances 0) (g.K.Sink.taken c.args.sink.now) (g.K.Sink.failures c.args.sink.now) c.args.page

pub returns-in_err-longer : goal.returns-in_err-longer
returns-in_err-longer g c =
    let failed = err_from_is_err_and c.from_residual.result c.from_residual.ensures.1 in
    let from = text_from (instance_noted c.args.schema.now) c.args.graph.now.instances in
    rw (failed.1, failed.2) (left_without_memory (c.args.page.items ++ from 0) (from c.loop-at.at) (g.K.Sink.taken c.args.sink.now) (g.K.Sink.taken c.loop-at.sink) (g.K.Sink.failures c.args.sink.now) (g.K.Sink.failures c.loop-at.sink) c.loop-at.page c.loop-at.invariant)

pub returns-in_err-page : goal.returns-in_err-page
returns-in_err-page g c =
    let failed = err_from_is_err_and c.from_residual-in_err-page.result c.from_residual-in_err-page.ensures.1 in
    let note = instance_noted c.args.schema.now in
    let from = text_from note c.args.graph.now.instances in
    let slices = slices_of c.args.graph.now.instances c.loop-at.at in
    let here : view_slices c.as_slice-slices.result.now ≡ slices = ap view_slices c.as_slice-slices.ensures ∙ c.instance.ensures.instance in
    let piece = comma_if (nat_lt 0 c.loop-at.at) ++ compact_text (note slices) in
    let longer : c.in_ok-longer.longer.items ≡ c.loop-at.page.items ++ piece =
    c.in_ok-longer.ensures ∙ ap (λ (s : List Slice). c.loop-at.page.items ++ (comma_if (nat_lt 0 c.loop-at.at) ++ compact_text (note s))) here in
    let stops = subst (λ (l : List ℕ). Stops l (g.K.Sink.taken c.loop-at.sink) (g.K.Sink.taken c.turned.new.sink) (g.K.Sink.failures c.loop-at.sink) (g.K.Sink.failures c.turned.new.sink) c.in_err-page.field-0.0) longer c.in_err-page.ensures in
    rw (failed.1, failed.2) (left_stops (c.args.page.items ++ from 0) (from c.loop-at.at) (g.K.Sink.taken c.args.sink.now) (g.K.Sink.taken c.loop-at.sink) (g.K.Sink.taken c.turned.new.sink) (g.K.Sink.failures c.args.sink.now) (g.K.Sink.failures c.loop-at.sink) (g.K.Sink.failures c.turned.new.sink)
    c.loop-at.page c.loop-at.invariant piece (from (c.loop-at.at + 1)) (one_from note c.args.graph.now.instances c.loop-at.at slices [] (omega (arith, c.len-at-end.ensures.len, c.loop-at-test.true)) refl) c.in_err-page.field-0.0 stops)

pub loop-at-preserved : goal.loop-at-preserved
loop-at-preserved g c =
    let note = instance_noted c.args.schema.now in
    let from = text_from note c.args.graph.now.instances in
    let slices = slices_of c.args.graph.now.instances c.loop-at.at in
    let here : view_slices c.as_slice-slices.result.now ≡ slices = ap view_slices c.as_slice-slices.ensures ∙ c.instance.ensures.instance in
    let piece = comma_if (nat_lt 0 c.loop-at.at) ++ compact_text (note slices) in
    let longer : c.in_ok-longer.longer.items ≡ c.loop-at.page.items ++ piece =
    c.in_ok-longer.ensures ∙ ap (λ (s : List Slice). c.loop-at.page.items ++ (comma_if (nat_lt 0 c.loop-at.at) ++ compact_text (note s))) here in
    let tells = subst (λ (l : List ℕ). Tells l (g.K.Sink.taken c.loop-at.sink) (g.K.Sink.taken c.turned.new.sink) (g.K.Sink.failures c.loop-at.sink) (g.K.Sink.failures c.turned.new.sink) (Ok c.in_ok-page.page)) longer c.in_ok-page.ensures in
    less_left (c.args.page.items ++ from 0) (from c.loop-at.at) (g.K.Sink.taken c.args.sink.now) (g.K.Sink.taken c.loop-at.sink) (g.K.Sink.taken c.turned.new.sink) (g.K.Sink.failures c.args.sink.now) (g.K.Sink.failures c.loop-at.sink) (g.K.Sink.failures c.turned.new.sink)
    c.loop-at.page c.loop-at.invariant piece (from (c.loop-at.at + 1)) (one_from note c.args.graph.now.instances c.loop-at.at slices [] (omega (arith, c.len-at-end.ensures.len, c.loop-at-test.true)) refl) c.in_ok-page.page tells

pub returns-in_err-with_text : goal.returns-in_err-with_text
returns-in_err-with_text g c =
    let failed = err_from_is_err_and c.from_residual-in_err-with_text.result c.from_residual-in_err-with_text.ensures.1 in
    let from = text_from (instance_noted c.args.schema.now) c.args.graph.now.instances in
    rw (failed.1, failed.2) (left_without_memory (c.args.page.items ++ from 0) (from c.loop-at.at) (g.K.Sink.taken c.args.sink.now) (g.K.Sink.taken c.loop-at.sink) (g.K.Sink.failures c.args.sink.now) (g.K.Sink.failures c.loop-at.sink) c.loop-at.page c.loop-at.invariant)

pub returns : goal.returns
returns g c =
    let note = instance_noted c.args.schema.now in
    let from = text_from note c.args.graph.now.instances in
    let last = none_from note c.args.graph.now.instances c.loop-at.at (omega (arith, c.len-at-end.ensures.len, c.loop-at-test.false)) in
    none_left (c.args.page.items ++ from 0) (from c.loop-at.at) (g.K.Sink.taken c.args.sink.now) (g.K.Sink.taken c.loop-at.sink) (g.K.Sink.failures c.args.sink.now) (g.K.Sink.failures c.loop-at.sink) c.loop-at.page c.loop-at.invariant
    c.in_ok-with_text.field-0 (c.in_ok-with_text.ensures ∙ ap (λ (l : List ℕ). c.loop-at.page.items ++ l) (sym last))
