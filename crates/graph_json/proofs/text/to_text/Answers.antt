use Rattle.value_parts.specs.Shapes.{shape_seen}
use Rattle.graph_json.proofs.Texts.{text_is, text_reads}
use Rattle.graph_json.proofs.text.to_text.Goals as goal

pub returns-clause-text : goal.returns-clause-text
returns-clause-text c =
    text_is c.args.schema.now (shape_seen c.args.fields) c.args.graph c.in_ok-graph.graph c.in_ok-graph.ensures c.printed-text.result c.printed-text.ensures

pub returns-clause-reads_back : goal.returns-clause-reads_back
returns-clause-reads_back c =
    text_reads c.args.schema.now (shape_seen c.args.fields) c.args.graph c.in_ok-graph.graph c.in_ok-graph.ensures c.printed-text.result c.rules.ensures c.printed-text.ensures
