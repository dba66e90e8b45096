use Rattle.slice_compat.proofs.Lacked.{lacks, keeps_rows, keeps_ids}
use Rattle.slice_compat.proofs.lacking.lacks.Goals as goal

pub returns-then-has_rows_of : goal.returns-then-has_rows_of
returns-then-has_rows_of c =
    let t = c.args.schema.now in
    let s = c.args.smaller.now in (
      λ e. lacks t s (c.has_rows_of.ensures.0 c.if-has_rows_of.true) (c.keeps_ids_of.ensures.0 e),
      λ l. c.keeps_ids_of.ensures.1 (keeps_ids t s l),
    )

pub returns-else-has_rows_of : goal.returns-else-has_rows_of
returns-else-has_rows_of c =
    let t = c.args.schema.now in
    let s = c.args.smaller.now in
    (λ e. absurd cc, λ l. let same = c.has_rows_of.ensures.1 (keeps_rows t s l) in absurd cc)
