use Rattle.std.proofs.Common.{◌≡◌, ℕ, suc, ap, ◌∙◌, arith}
use Rattle.slice_meaning.specs.Names.{Scope}
use Rattle.slice_meaning.specs.Known as meaning
use Rattle.slice_meaning.specs.Numbers.{scope_at}
use Rattle.slice_faults.proofs.Entering.{zero_scope}
use Rattle.slice_faults.proofs.files.next_file.Goals as goal

pub returns : goal.returns
returns c =
    let k = c.args.known.now in
    let make : ℕ → Scope → meaning.Known = λ file scope. record { file = file; scope = scope; declared = k.names; tables = k.rows } in
    let next : c.in_ok-known.field-0 ≡ suc k.file = omega (arith, c.in_ok-known.ensures) in
    ap (λ file. make file (scope_at k.names 0)) next ∙ ap (make (suc k.file)) (zero_scope k.names)
