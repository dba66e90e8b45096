use Rattle.std.proofs.Common.{◌≡◌, ℕ, ◌-◌, Bool, true, false, List, Result, Ok, Err, sym, ap, subst, ◌∙◌}
use Rattle.ice_prims.specs.declared.fault.Fault.{Fault}
use Rattle.ice_prims.specs.Rest.{Rest}
use Rattle.ice_encoding.specs.Slices.{unmarked, without_marker}
use Rattle.preserved.proofs.Marked.{is_marked, is_not_marked}
use Rattle.preserved.proofs.reading.without_marker.Goals as goal

told : (flag : Bool) (bound ahead : Rest) (x : Result (List ℕ) Fault) → flag ≡ true → ahead ≡ bound → unmarked ahead.place ahead.bytes ≡ x → without_marker flag bound ≡ x
told true bound ahead x flagged same is = subst (λ (r : Rest). unmarked r.place r.bytes ≡ x) same is
told false bound ahead x flagged same is = absurd cc

pub returns-then-branch : goal.returns-then-branch
returns-then-branch c =
    let found = is_not_marked c.fork-ahead.result (c.left-length.result - 1) c.in_ok-bytes.bytes.now c.take_bytes-2.new.self c.take_byte.new.self c.in_ok-take_byte.field-0
    (λ e. c.if-length-eq0.false (c.left-length.ensures ∙ e)) (ap (λ (n : ℕ). n - 1) c.left-length.ensures) c.in_ok-bytes.ensures c.in_ok-take_byte.ensures c.if-branch.true in
    told c.args.optionals c.args.bound.now c.fork-ahead.result (Err c.fault-wrong.result) c.if-not-optionals.false c.fork-ahead.ensures (found ∙ ap Err (sym c.fault-wrong.ensures))

pub returns : goal.returns
returns c =
    let found = is_marked c.fork-ahead.result (c.left-length.result - 1) c.in_ok-bytes.bytes.now c.take_bytes-2.new.self c.take_byte.new.self c.in_ok-take_byte.field-0
    (λ e. c.if-length-eq0.false (c.left-length.ensures ∙ e)) (ap (λ (n : ℕ). n - 1) c.left-length.ensures) c.in_ok-bytes.ensures c.in_ok-take_byte.ensures c.if-branch.false in
    told c.args.optionals c.args.bound.now c.fork-ahead.result (Ok c.in_ok-bytes.bytes.now) c.if-not-optionals.false c.fork-ahead.ensures found
