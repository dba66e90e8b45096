use Rattle.std.proofs.Common.{length, sym, ◌∙◌}
use Rattle.std.proofs.lemmas.Bool.{false≢true, eqb-true, eq-eqb}
use Rattle.value_checks.proofs.Walked.{bytes_told, bytes_too_many, no_bytes, some_bytes}
use Rattle.value_checks.proofs.values.is_bytes.Goals as goal

pub returns-then-is_empty : goal.returns-then-is_empty
returns-then-is_empty c =
    bytes_told c.args.schema.now c.args.kind c.in-Seq.at c.args.levels c.seqs.result.now c.in-Some.decl.now c.args.bytes.now c.is_empty.result
    c.in-Seq.is c.seqs.ensures c.in-Some.ensures (c.is_size.ensures.0 c.if-is_size.true)
    (no_bytes c.args.schema.now c.args.levels c.in-Some.decl.now.element c.args.bytes.now c.is_empty.result c.if-is_empty.true (eqb-true (length c.args.bytes.now) 0 (sym c.is_empty.ensures ∙ c.if-is_empty.true)))

pub returns-else-is_empty : goal.returns-else-is_empty
returns-else-is_empty c =
    bytes_told c.args.schema.now c.args.kind c.in-Seq.at c.args.levels c.seqs.result.now c.in-Some.decl.now c.args.bytes.now c.is_byte_type.result
    c.in-Seq.is c.seqs.ensures c.in-Some.ensures (c.is_size.ensures.0 c.if-is_size.true)
    (some_bytes c.args.schema.now c.args.levels c.in-Some.decl.now.element c.args.bytes.now c.is_byte_type.result c.type_inv.bytes (λ e. false≢true (sym c.if-is_empty.false ∙ (c.is_empty.ensures ∙ eq-eqb (length c.args.bytes.now) 0 e))) c.is_byte_type.ensures)

pub returns-else-is_size : goal.returns-else-is_size
returns-else-is_size c = (
  (λ told. absurd (false≢true (sym c.if-is_size.false ∙ told))),
  (λ form. absurd (bytes_too_many c.args.schema.now c.args.kind c.in-Seq.at c.args.levels c.args.bytes.now (λ few. false≢true (sym c.if-is_size.false ∙ c.is_size.ensures.1 few)) form)),
)
