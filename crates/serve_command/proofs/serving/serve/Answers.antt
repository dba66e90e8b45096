use Rattle.node_commands.specs.Ends.{end_of}
use Rattle.serve_command.proofs.serving.serve.Goals as goal

pub returns : goal.returns
returns g c = λ input source.
    let h = c.end_of-ending.ensures input (g.E.Sink.taken c.args.errors.now) (g.E.Sink.taken c.report_ending.new.errors) source (g.E.Sink.failures c.args.errors.now) (g.E.Sink.failures c.report_ending.new.errors) in record {
      end = end_of c.end_of-ending.result h.0;
      comes = h.1;
      returned = c.report_ending.ensures.status h.0;
      line = c.report_ending.ensures.line h.0;
    }
