use Rattle.std.proofs.Common.{ap, ◌∙◌}
use Rattle.serde_json.specs.Data.{put}
use Rattle.graph_arena.specs.View.{view}
use Rattle.graph_json.specs.Printing.{row_noted}
use Rattle.graph_json.proofs.RisingNames.{row_put}
use Rattle.graph_json.proofs.rows.put_field.Goals as goal

pub returns : goal.returns
returns c = λ write.
    ap (row_noted write) c.in_ok-insert.ensures.entries
    ∙ row_put write c.as_str.result (record { kind = c.args.member.now.kind; value = c.args.value }) c.args.row.now.entries
    ∙ ap (λ name. put name (write c.args.member.now.kind (view c.args.value.now)) (row_noted write c.args.row.now.entries)) c.as_str.ensures
