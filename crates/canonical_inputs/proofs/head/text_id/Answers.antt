use Rattle.std.proofs.Common.{arith, rules, ◌≡◌, ◌-◌, ◌++◌, ◌∷◌, [], ℕ, List, false, Some, None, Ok, length, drop, sym, ap, ◌∙◌, subst}
use Rattle.std.specs.Prelude.{slice_get}
use Rattle.std.specs.Option.{is_some}
use Rattle.std.proofs.lemmas.List.{take_rest}
use Rattle.ice_prims.specs.Bytes.{text_bytes}
use Rattle.ice_prims.specs.Number.{text_at}
use Rattle.ice_prims.specs.Rest.{whole}
use Rattle.canonical_values.specs.Frames.{Passes}
use Rattle.canonical_inputs.specs.Heads.{number_place}
use Rattle.canonical_inputs.proofs.Fronts.{text_passes, text_rest}
use Rattle.canonical_inputs.proofs.Heads.{text_found, id_is, none_is}
use Rattle.canonical_inputs.proofs.head.text_id.Goals as goal

pub overflow_sub-end : goal.overflow_sub-end
overflow_sub-end c =
    let input = c.args.input.now in
    let at = c.args.at in
    let read : text_at (whole (drop at input)) ≡ Ok (c.in-Ok.text.now, c.take_str.new.self) = rw (take_rest input at) at (sym (ap text_at c.new-cursor.ensures) ∙ c.in-Ok.ensures) in
    omega (arith, c.left.ensures, text_rest input at c.in-Ok.text.now c.take_str.new.self (λ i. omega (arith, c.type_inv.input i)) read)

pub returns-in-Ok-push : goal.returns-in-Ok-push
returns-in-Ok-push c =
    let t = c.args.schema.now in
    let input = c.args.input.now in
    let at = c.args.at in
    let s = c.in-Ok.text.now in
    let ids = c.args.ids.now.items in
    let class = c.in_ok-class.class in
    let row = c.in_ok-decl.decl.now in
    let read : text_at (whole (drop at input)) ≡ Ok (s, c.take_str.new.self) = rw (take_rest input at) at (sym (ap text_at c.new-cursor.ensures) ∙ c.in-Ok.ensures) in
    let passes = text_passes t input at s c.take_str.new.self (λ i. omega (arith, c.type_inv.input i)) c.requires read in
    let passed : Passes t input at (length input - c.left.result) (text_bytes s) = subst (λ (n : ℕ). Passes t input at (length input - n) (text_bytes s)) (sym c.left.ensures) passes in
    let is_row : slice_get t.classes class ≡ Some row = search rules in
    let plain : row.compact ≡ None = none_is row.compact cc in
    let missed : is_some c.place_of.result ≡ false = cc in
    let absent : number_place ids class ≡ None = subst (λ (l : List ℕ). number_place l class ≡ None) c.as_slice.ensures.value (sym c.place_of.ensures ∙ none_is c.place_of.result missed) in
    let grown : c.push.new.self.items ≡ ids ++ class ∷ [] = search rules in
    text_found t c.rules.ensures class row is_row input at (length input - c.left.result) s ids c.push.new.self.items plain absent (id_is t class row s is_row c.in_ok-class.ensures) grown passed
