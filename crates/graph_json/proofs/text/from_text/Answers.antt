use Rattle.value_parts.specs.Shapes.{shape_seen}
use Rattle.graph_json.proofs.Texts.{parsed_misfit, parsed_notes}
use Rattle.graph_json.proofs.text.from_text.Goals as goal

pub returns-clause-noted : goal.returns-clause-noted
returns-clause-noted c = parsed_notes c.args.schema.now (shape_seen c.args.fields) c.args.text.now c.parsed.result c.parsed.ensures

pub returns-clause-misfit : goal.returns-clause-misfit
returns-clause-misfit c = parsed_misfit c.args.schema.now (shape_seen c.args.fields) c.args.text.now c.parsed.result c.rules.ensures c.parsed.ensures
