use Rattle.std.proofs.Common.{ℕ, List, ◌++◌, ◌≡◌, ap, subst, ◌∙◌, codes}
use Rattle.std.proofs.lemmas.Result.{err_from_is_err_and}
use Rattle.serde_json.specs.Written.{compact_text}
use Rattle.ice_encoding.specs.OptionalMembers.{Members}
use Rattle.value_parts.specs.Shapes.{shape_seen}
use Rattle.graph_json.specs.Contents.{content_noted}
use Rattle.ice_relay.specs.Pages.{TellsAll}
use Rattle.ice_relay.proofs.Pages.{left_all, left_without_memory}
use Rattle.ice_relay.proofs.Lines.{line, head, tail, instances_stop, roots_left}
use Rattle.ice_relay.proofs.line.tell_graph.Goals as goal

pub returns-in_err-page-2 : goal.returns-in_err-page-2
returns-in_err-page-2 g c =
    let failed = err_from_is_err_and c.from_residual-in_err-page-2.result c.from_residual-in_err-page-2.ensures.1 in
    let first : c.in_ok-page.page.items ≡ head c.args.schema.now (shape_seen c.args.fields) c.args.graph.now = c.in_ok-page.ensures ∙ ap (λ (l : List ℕ). l ++ codes "{\"instances\":[") c.new.ensures.items in
    rw (failed.1, failed.2) (instances_stop c.args.schema.now (shape_seen c.args.fields) c.args.graph.now c.in_ok-page.page.items first (g.K.Sink.taken c.args.sink.now) (g.K.Sink.taken c.tell_instances.new.sink) (g.K.Sink.failures c.args.sink.now) (g.K.Sink.failures c.tell_instances.new.sink)
    c.in_err-page-2.field-0.0 c.in_err-page-2.ensures)

pub returns-in_err-with_roots : goal.returns-in_err-with_roots
returns-in_err-with_roots g c =
    let failed = err_from_is_err_and c.from_residual-in_err-with_roots.result c.from_residual-in_err-with_roots.ensures.1 in
    let t = c.args.schema.now in
    let shape = shape_seen c.args.fields in
    let graph = c.args.graph.now in
    let first : c.in_ok-page.page.items ≡ head t shape graph = c.in_ok-page.ensures ∙ ap (λ (l : List ℕ). l ++ codes "{\"instances\":[") c.new.ensures.items in
    let left = roots_left t shape graph c.in_ok-page.page.items first (g.K.Sink.taken c.args.sink.now) (g.K.Sink.taken c.tell_instances.new.sink) (g.K.Sink.failures c.args.sink.now) (g.K.Sink.failures c.tell_instances.new.sink) c.in_ok-page-2.page c.in_ok-page-2.ensures in
    rw (failed.1, failed.2) (left_without_memory (line t shape graph) (tail t shape graph) (g.K.Sink.taken c.args.sink.now) (g.K.Sink.taken c.tell_instances.new.sink) (g.K.Sink.failures c.args.sink.now) (g.K.Sink.failures c.tell_instances.new.sink) c.in_ok-page-2.page left)

pub returns : goal.returns
returns g c =
    let t = c.args.schema.now in
    let shape = shape_seen c.args.fields in
    let graph = c.args.graph.now in
    let first : c.in_ok-page.page.items ≡ head t shape graph = c.in_ok-page.ensures ∙ ap (λ (l : List ℕ). l ++ codes "{\"instances\":[") c.new.ensures.items in
    let left = roots_left t shape graph c.in_ok-page.page.items first (g.K.Sink.taken c.args.sink.now) (g.K.Sink.taken c.tell_instances.new.sink) (g.K.Sink.failures c.args.sink.now) (g.K.Sink.failures c.tell_instances.new.sink) c.in_ok-page-2.page c.in_ok-page-2.ensures in
    let whole : c.in_ok-with_roots.field-0.items ≡ c.in_ok-page-2.page.items ++ tail t shape graph =
    c.in_ok-with_roots.ensures ∙ ap (λ (m : Members). c.in_ok-page-2.page.items ++ (codes ",\"roots\":" ++ (compact_text (content_noted t shape m) ++ codes "}\n"))) c.roots.ensures.roots in
    let ended = subst (λ (l : List ℕ). TellsAll l (g.K.Sink.taken c.tell_instances.new.sink) (g.K.Sink.taken c.ended.new.sink) (g.K.Sink.failures c.tell_instances.new.sink) (g.K.Sink.failures c.ended.new.sink) c.ended.result) whole c.ended.ensures in
    left_all (line t shape graph) (tail t shape graph) (g.K.Sink.taken c.args.sink.now) (g.K.Sink.taken c.tell_instances.new.sink) (g.K.Sink.taken c.ended.new.sink) (g.K.Sink.failures c.args.sink.now) (g.K.Sink.failures c.tell_instances.new.sink) (g.K.Sink.failures c.ended.new.sink)
    c.in_ok-page-2.page left c.ended.result ended
