use Rattle.std.proofs.Common.{ℕ, List, Ok, sym, subst}
use Rattle.std.proofs.lemmas.Result.{err_from_is_err_and}
use Rattle.instance_writing.specs.Formats.{view_format}
use Rattle.graph_json.specs.Contents.{HasOwnNames}
use Rattle.call_command.specs.Steps.{EncodesArguments}
use Rattle.call_command.proofs.Declared.{asked_shape}
use Rattle.call_command.proofs.Encoding.{unread, unwritten, written}
use Rattle.call_command.proofs.arguments.body_of.Goals as goal

pub from_text-requires : goal.from_text-requires
from_text-requires c =
    subst HasOwnNames (sym (asked_shape c.args.schema.now c.args.arguments.now c.as_slice.result.now c.as_slice-2.result.now c.requires.fits c.as_slice.ensures c.as_slice-2.ensures)) c.requires.named

pub returns-in_err-graph : goal.returns-in_err-graph
returns-in_err-graph c =
    let failed = err_from_is_err_and c.from_residual.result c.from_residual.ensures.1 in
    let is = asked_shape c.args.schema.now c.args.arguments.now c.as_slice.result.now c.as_slice-2.result.now c.requires.fits c.as_slice.ensures c.as_slice-2.ensures in
    rw (failed.1, failed.2) (unread c.args.schema.now c.args.arguments.now _ is (view_format c.args.format) c.args.text.now c.in_err-graph.field-0.0 c.in_err-graph.ensures.parses)

pub returns-in_err-bytes : goal.returns-in_err-bytes
returns-in_err-bytes c =
    let failed = err_from_is_err_and c.from_residual-in_err-bytes.result c.from_residual-in_err-bytes.ensures.1 in
    let is = asked_shape c.args.schema.now c.args.arguments.now c.as_slice.result.now c.as_slice-2.result.now c.requires.fits c.as_slice.ensures c.as_slice-2.ensures in
    rw (failed.1, failed.2) (unwritten c.args.schema.now c.args.arguments.now _ is (view_format c.args.format) c.args.text.now c.in_ok-graph.graph c.in_ok-graph.ensures.parses c.in_err-bytes.field-0.0 c.in_err-bytes.ensures)

pub returns : goal.returns
returns c =
    let is = asked_shape c.args.schema.now c.args.arguments.now c.as_slice.result.now c.as_slice-2.result.now c.requires.fits c.as_slice.ensures c.as_slice-2.ensures in
    subst (λ (body : List ℕ). EncodesArguments c.args.schema.now c.args.arguments.now (view_format c.args.format) c.args.text.now (Ok body)) (sym c.from_vec.ensures)
    (written c.args.schema.now c.args.arguments.now _ is (view_format c.args.format) c.args.text.now c.in_ok-graph.graph c.in_ok-graph.ensures.parses c.in_ok-bytes.bytes c.in_ok-bytes.ensures)
