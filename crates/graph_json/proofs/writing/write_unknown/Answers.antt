use Rattle.std.proofs.Common.{ℕ, List, refl, subst}
use Rattle.std.proofs.lemmas.Result.{on_ok_weaker}
use Rattle.hex.specs.Hex.{encode_lower}
use Rattle.serde_json.specs.Data.{string}
use Rattle.graph_json.specs.Canonical.{items_noted}
use Rattle.graph_json.specs.ValueNotation.{name_noted}
use Rattle.graph_json.specs.Printing.{Prints, PrintsItems}
use Rattle.graph_json.proofs.Printing.{added, array_printed, member_printed, members_ended, object_printed, wrote}
use Rattle.graph_json.proofs.writing.write_unknown.Goals as goal

pub returns : goal.returns
returns c = λ t.
    let begin = wrote c.begin_object.result c.in_ok-begin_object.field-0 c.in_ok-begin_object.was c.begin_object.ensures in
    let first = wrote c.key.result c.in_ok-key.field-0 c.in_ok-key.was c.key.ensures in
    let second = wrote c.key-2.result c.in_ok-key-2.field-0 c.in_ok-key-2.was c.key-2.ensures in
    let third = wrote c.key-3.result c.in_ok-key-3.field-0 c.in_ok-key-3.was c.key-3.ensures in
    let fourth = wrote c.key-4.result c.in_ok-key-4.field-0 c.in_ok-key-4.was c.key-4.ensures in
    let table = array_printed (wrote c.begin_array.result c.in_ok-begin_array.field-0 c.in_ok-begin_array.was c.begin_array.ensures)
    (subst (λ (l : List ℕ). PrintsItems (items_noted name_noted l) c.begin_array.new.self c.write_names.new.out) c.as_slice-2.ensures c.in_ok-write_names.ensures) in
    let bytes = subst (λ (l : List ℕ). Prints (string (encode_lower l)) c.key.new.self c.write_hex.new.out) c.as_slice.ensures c.in_ok-write_hex.ensures in
    let id = subst (λ (l : List ℕ). Prints (string l) c.key-2.new.self c.write_text.new.out) c.as_str.ensures c.in_ok-write_text.ensures in
    on_ok_weaker c.end_object.result (λ end.
    object_printed ((refl, (refl, (refl, tt))), ((refl, (refl, tt)), ((refl, tt), (tt, tt)))) begin
    (member_printed first bytes
    (member_printed second id
    (member_printed third c.in_ok-write_bool.ensures
    (member_printed fourth table (members_ended end))))))
    (added c.end_object.result c.end_object.ensures)
