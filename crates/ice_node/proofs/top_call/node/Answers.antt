use Rattle.std.proofs.Common.{[], Option, subst, refl}
use Rattle.node_commands.specs.Words.{words_of}
use Rattle.call_command.specs.Words.{seen}
use Rattle.gate_command.specs.Words as gates
use Rattle.serve_command.specs.declared.words.ServeCommand.{ServeCommand}
use Rattle.node_commands.specs.Once.{Exactly}
use Rattle.serve_command.specs.Words.{ServeForm, asked_of, command_of}
use Rattle.ice_node.proofs.Ending.{of_call, of_gate, of_serve, of_stay, of_want}
use Rattle.ice_node.proofs.top_call.node.Goals as goal

pub returns-in-Some : goal.returns-in-Some
returns-in-Some g c =
    of_call (words_of c.args.words.now) (seen c.in-Some.command) _ _ _ _ c.call.result
    (λ d form. (form.form.0, form.form.1)) c.in-Some.ensures.asks c.call.ensures

pub returns-in-Some-gate_of : goal.returns-in-Some-gate_of
returns-in-Some-gate_of g c =
    of_gate (words_of c.args.words.now) (gates.seen c.in-Some-gate_of.command) _ _ _ _ c.gate.result c.in-None.ensures.asks c.in-Some-gate_of.ensures.asks
    (c.gate.ensures (g.S.Source.left c.args.source.now) (g.S.Source.failures c.args.source.now))

pub returns-in-Ok-Some : goal.returns-in-Ok-Some
returns-in-Ok-Some g c =
    of_serve (words_of c.args.words.now) (command_of c.in-Ok-Some.command) _ _ _ _ c.serve.result c.in-None.ensures.asks c.in-None-gate_of.ensures.asks
    (subst (λ (asked : Option ServeCommand). Exactly (ServeForm (words_of c.args.words.now)) (asked_of asked)) c.in-Ok-Some.field-0-is c.in-Ok-Some.ensures.asks)
    (c.serve.ensures (g.S.Source.left c.args.source.now) (g.S.Source.failures c.args.source.now))

pub returns-in-Ok-None : goal.returns-in-Ok-None
returns-in-Ok-None g c =
    of_stay (words_of c.args.words.now) _ _ _ c.stay.result c.in-None.ensures.asks c.in-None-gate_of.ensures.asks
    (subst (λ (asked : Option ServeCommand). Exactly (ServeForm (words_of c.args.words.now)) (asked_of asked)) c.in-Ok-None.field-0-is c.in-Ok-None.ensures.asks)
    c.stay.ensures

pub returns-in-Err : goal.returns-in-Err
returns-in-Err g c =
    of_want (words_of c.args.words.now) _ _ _ c.report.result c.in-None.ensures.asks c.in-None-gate_of.ensures.asks
    (record {
      begins = c.in-Err.ensures.memory;
      returned = c.report.ensures.status [];
      none_failed = (refl, refl, refl);
      input = refl;
      output = refl;
      line = c.report.ensures.line [];
    })
