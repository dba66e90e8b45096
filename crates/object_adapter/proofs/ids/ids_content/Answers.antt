use Rattle.std.proofs.Common.{map, string_bytes, refl, sym, ◌∙◌, arith}
use Rattle.std.proofs.lemmas.List.{length-map}
use Rattle.object_adapter.proofs.Listed.{all_put, ids_listed, too_long, too_many}
use Rattle.object_adapter.proofs.ids.ids_content.Goals as goal

pub returns-then-len : goal.returns-then-len
returns-then-len c =
    let ids = map string_bytes c.in_ok-ids.ids.keys in (
      refl,
      ids,
      ids_listed c.args.schema.now c.args.interface c.in_ok-ids.ids c.len.ensures.ordered c.in_ok-ids.ensures,
      too_many 1000000 ids (omega (arith, c.if-len.true, c.len.ensures.len, length-map c.in_ok-ids.ids.keys string_bytes)),
    )

pub returns-in-Ok : goal.returns-in-Ok
returns-in-Ok c =
    let ids = map string_bytes c.in_ok-ids.ids.keys in (
      ids,
      ids_listed c.args.schema.now c.args.interface c.in_ok-ids.ids c.len.ensures.ordered c.in_ok-ids.ensures,
      all_put c.put_texts.new.out.items c.put_size.new.out.items c.new-out.result.items c.len-2.result ids c.in-Ok.ensures c.in_ok-put_size.ensures.ok c.new-out.ensures.items
          (c.len-2.ensures.len ∙ sym (length-map c.in_ok-ids.ids.keys string_bytes)),
    )

pub returns-in-Err-Refused : goal.returns-in-Err-Refused
returns-in-Err-Refused c =
    let ids = map string_bytes c.in_ok-ids.ids.keys in
    let refused = rw c.in-Err-Refused.field-0-is at c.in-Err-Refused.ensures in (
      refused.0,
      ids,
      ids_listed c.args.schema.now c.args.interface c.in_ok-ids.ids c.len.ensures.ordered c.in_ok-ids.ensures,
      too_long 1000000 ids refused.1,
    )
