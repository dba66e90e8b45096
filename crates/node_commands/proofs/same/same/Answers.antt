use Rattle.std.proofs.Common.{ℕ, List, Err, subst}
use Rattle.std.proofs.lemmas.Result.{err_from_is_err_and}
use Rattle.ice_relay.specs.Comparing.{Compares}
use Rattle.node_commands.specs.declared.words.Task.TheVariants as tasks
use Rattle.node_commands.proofs.Finding.{same_finds, same_none, unread}
use Rattle.node_commands.proofs.same.same.Goals as goal

pub returns-clause-found : goal.returns-clause-found
returns-clause-found g c =
    (same_finds c.args.schema.now c.args.kind (g.S.Source.left c.args.source.now) (g.S.Source.left c.read_two.new.source) c.in_ok-input.input.items c.in_ok-input.ensures.read c.in_ok-is_same.is_same (rw c.as_slice.ensures.value at c.in_ok-is_same.ensures), c.in_ok-input.ensures.count)

pub returns-in_err-is_same-clause-found : goal.returns-in_err-is_same-clause-found
returns-in_err-is_same-clause-found g c =
    let failed = err_from_is_err_and c.from_residual-in_err-is_same.result c.from_residual-in_err-is_same.ensures.1 in
    let none : Compares c.args.schema.now c.args.kind c.in_ok-input.input.items (Err c.in_err-is_same.field-0.0) =
    subst (λ (x : List ℕ). Compares c.args.schema.now c.args.kind x (Err c.in_err-is_same.field-0.0)) c.as_slice.ensures.value c.in_err-is_same.ensures in
    rw failed.1 (same_none c.args.schema.now c.args.kind (g.S.Source.left c.args.source.now) (g.S.Source.left c.read_two.new.source) c.in_ok-input.input.items c.in_ok-input.ensures.read (g.S.Source.failures c.args.source.now) (g.S.Source.failures c.read_two.new.source) c.in_err-is_same.field-0.0 failed.0 failed.2 none c.in_ok-input.ensures.count)

pub returns-in_err-input-clause-found : goal.returns-in_err-input-clause-found
returns-in_err-input-clause-found g c =
    let failed = err_from_is_err_and c.from_residual.result c.from_residual.ensures.1 in
    rw failed.1 (unread tasks.Same (g.S.Source.left c.args.source.now) c.args.schema.now c.args.kind (g.S.Source.failures c.args.source.now) (g.S.Source.failures c.read_two.new.source) c.in_err-input.field-0.0 failed.0 failed.2 c.in_err-input.ensures.count)
