use Rattle.graph_json.proofs.writing.write_slice.Goals as goal

pub returns-in-Unknown : goal.returns-in-Unknown
returns-in-Unknown c = rw (c.in-Unknown.is, ← c.deref.ensures) (c.write_unknown.ensures c.args.schema.now)
