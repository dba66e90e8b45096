use Rattle.std.proofs.Common.{Bool, sym, ap, ◌∙◌}
use Rattle.ice_encoding.specs.Slices.{unknown_bytes}
use Rattle.instance_reading.proofs.Reopened.{whole_along}
use Rattle.instance_reading.proofs.reopening.reopen_bytes.Goals as goal

pub returns-then-not-optionals : goal.returns-then-not-optionals
returns-then-not-optionals c =
    let bytes = c.args.bytes.now in
    whole_along c.args.schema.now c.args.class bytes bytes c.args.optionals c.args.table.now (ap (λ (b : Bool). unknown_bytes b bytes) c.if-not-optionals.true) c.reopen_members.result c.reopen_members.ensures

pub returns : goal.returns
returns c =
    let bytes = c.args.bytes.now in
    whole_along c.args.schema.now c.args.class bytes c.as_slice.result.now c.args.optionals c.args.table.now
    (ap (λ (b : Bool). unknown_bytes b bytes) c.if-not-optionals.false ∙ sym (c.as_slice.ensures.value ∙ c.in_ok-marked.ensures)) c.reopen_members-2.result c.reopen_members-2.ensures
