use Rattle.std.proofs.Common.{ℕ, List, Err, subst}
use Rattle.std.proofs.lemmas.Result.{err_from_is_err_and}
use Rattle.instance_writing.specs.Formats.{view_format}
use Rattle.ice_relay.specs.Relaying.{Canonicalizes}
use Rattle.node_commands.specs.declared.words.Task.TheVariants as tasks
use Rattle.node_commands.proofs.Finding.{relay_finds, relay_none, unread}
use Rattle.node_commands.proofs.relay.relay.Goals as goal

pub returns-clause-found : goal.returns-clause-found
returns-clause-found g c =
    (relay_finds c.args.schema.now c.args.kind (g.S.Source.left c.args.source.now) (g.S.Source.left c.read_input.new.source) c.in_ok-input.input.items c.args.format c.in_ok-input.ensures.read c.in_ok-bytes.bytes (rw c.as_slice.ensures.value at c.in_ok-bytes.ensures), c.in_ok-input.ensures.count)

pub returns-in_err-bytes-clause-found : goal.returns-in_err-bytes-clause-found
returns-in_err-bytes-clause-found g c =
    let failed = err_from_is_err_and c.from_residual-in_err-bytes.result c.from_residual-in_err-bytes.ensures.1 in
    let none : Canonicalizes c.args.schema.now c.args.kind (view_format c.args.format) c.in_ok-input.input.items (Err c.in_err-bytes.field-0.0) =
    subst (λ (x : List ℕ). Canonicalizes c.args.schema.now c.args.kind (view_format c.args.format) x (Err c.in_err-bytes.field-0.0)) c.as_slice.ensures.value c.in_err-bytes.ensures in
    rw failed.1 (relay_none c.args.schema.now c.args.kind (g.S.Source.left c.args.source.now) (g.S.Source.left c.read_input.new.source) c.in_ok-input.input.items c.args.format c.in_ok-input.ensures.read (g.S.Source.failures c.args.source.now) (g.S.Source.failures c.read_input.new.source) c.in_err-bytes.field-0.0 failed.0 failed.2 none c.in_ok-input.ensures.count)

pub returns-in_err-input-clause-found : goal.returns-in_err-input-clause-found
returns-in_err-input-clause-found g c =
    let failed = err_from_is_err_and c.from_residual.result c.from_residual.ensures.1 in
    rw failed.1 (unread (tasks.Relay c.args.format) (g.S.Source.left c.args.source.now) c.args.schema.now c.args.kind (g.S.Source.failures c.args.source.now) (g.S.Source.failures c.read_input.new.source) c.in_err-input.field-0.0 failed.0 failed.2 c.in_err-input.ensures.count)
