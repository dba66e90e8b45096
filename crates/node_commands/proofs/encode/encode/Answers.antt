use Rattle.std.proofs.Common.{ℕ, List, Err, subst}
use Rattle.std.proofs.lemmas.Result.{err_from_is_err_and}
use Rattle.instance_writing.specs.Formats.{view_format}
use Rattle.ice_relay.specs.Encoding.{EncodesText}
use Rattle.node_commands.specs.declared.words.Task.TheVariants as tasks
use Rattle.node_commands.proofs.Finding.{encode_finds, encode_none, unread}
use Rattle.node_commands.proofs.encode.encode.Goals as goal

pub returns-clause-found : goal.returns-clause-found
returns-clause-found g c =
    (encode_finds c.args.schema.now c.args.kind (g.S.Source.left c.args.source.now) (g.S.Source.left c.read_text.new.source) c.in_ok-text.text.items c.args.format c.in_ok-text.ensures.read c.in_ok-bytes.bytes (rw c.as_slice.ensures.value at c.in_ok-bytes.ensures), c.in_ok-text.ensures.count)

pub returns-in_err-bytes-clause-found : goal.returns-in_err-bytes-clause-found
returns-in_err-bytes-clause-found g c =
    let failed = err_from_is_err_and c.from_residual-in_err-bytes.result c.from_residual-in_err-bytes.ensures.1 in
    let none : EncodesText c.args.schema.now c.args.kind (view_format c.args.format) c.in_ok-text.text.items (Err c.in_err-bytes.field-0.0) =
    subst (λ (x : List ℕ). EncodesText c.args.schema.now c.args.kind (view_format c.args.format) x (Err c.in_err-bytes.field-0.0)) c.as_slice.ensures.value c.in_err-bytes.ensures in
    rw failed.1 (encode_none c.args.schema.now c.args.kind (g.S.Source.left c.args.source.now) (g.S.Source.left c.read_text.new.source) c.in_ok-text.text.items c.args.format c.in_ok-text.ensures.read (g.S.Source.failures c.args.source.now) (g.S.Source.failures c.read_text.new.source) c.in_err-bytes.field-0.0 failed.0 failed.2 none c.in_ok-text.ensures.count)

pub returns-in_err-text-clause-found : goal.returns-in_err-text-clause-found
returns-in_err-text-clause-found g c =
    let failed = err_from_is_err_and c.from_residual.result c.from_residual.ensures.1 in
    rw failed.1 (unread (tasks.Encode c.args.format) (g.S.Source.left c.args.source.now) c.args.schema.now c.args.kind (g.S.Source.failures c.args.source.now) (g.S.Source.failures c.read_text.new.source) c.in_err-text.field-0.0 failed.0 failed.2 c.in_err-text.ensures.count)
