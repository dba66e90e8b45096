use Rattle.std.proofs.Common.{sym, ap, ◌∙◌}
use Rattle.serde_json.specs.Data.{no_members, put}
use Rattle.graph_json.specs.View.{members_view, view}
use Rattle.graph_json.proofs.Views.{members_view-insert_entry, put_each-push}
use Rattle.graph_json.proofs.sorting.by_name.Goals as goal

pub loop-name-preserved : goal.loop-name-preserved
loop-name-preserved c =
    let l = c.loop-name in
    ap members_view c.in_ok-insert.ensures.entries
    ∙ members_view-insert_entry l.map.entries c.in-Some.name c.in-Some.json
    ∙ ap (put c.in-Some.name.now (view c.in-Some.json)) l.invariant
    ∙ sym (put_each-push l.yielded (c.in-Some.name, c.in-Some.json) no_members)
