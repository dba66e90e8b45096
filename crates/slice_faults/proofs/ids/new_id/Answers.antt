use Rattle.std.proofs.Common.{◌≡◌, List, [], ◌∷◌, ℕ, ◌++◌, length, map, sym, ap, ◌∙◌, arith, string_bytes, refl, subst}
use Rattle.std.specs.Str.{IsUtf8}
use Rattle.std.proofs.lemmas.Str.{IsUtf8-string_bytes}
use Rattle.ice_types.specs.Tables.{HasRowId}
use Rattle.slice_faults.specs.Held.{known_of}
use Rattle.slice_faults.proofs.Parts.{part, parts, of_parts, begins}
use Rattle.slice_faults.proofs.Keeping.{is_new_id}
use Rattle.slice_faults.proofs.ids.new_id.Goals as goal

no_items : {A : Type 0} (xs : List A) → length xs ≡ 0 → xs ≡ []
no_items [] h = refl
no_items (x ∷ xs) h = absurd (omega arith)

pub returns-clause-is : goal.returns-clause-is
returns-clause-is c =
    let k = known_of c.args.known.now in
    let so = c.loop-name.invariant in
    let none = no_items c.loop-name.names.items (omega (arith, c.loop-name.names.ok.0, c.in_default.ensures.cases.0)) in
    let all : so.0 ≡ k.scope = sym (ap (λ names. map (λ name. name.now) names ++ so.0) none) ∙ so.1 in
    let text : string_bytes c.add_part-2.new.id ≡ parts k.scope ++ part c.args.word.now.name =
    c.in_ok-add_part-2.ensures ∙ (ap (λ (l : List ℕ). l ++ part c.as_str.result.now) (so.2 ∙ ap parts all) ∙ ap (λ (n : List ℕ). parts k.scope ++ part n) c.as_str.ensures) in
    c.in_ok-id.ensures ∙ (c.as_str-2.ensures.value ∙ (text ∙ sym (of_parts k.scope c.args.word.now.name)))

pub returns-clause-type_id : goal.returns-clause-type_id
returns-clause-type_id c = let k = known_of c.args.known.now in (
  begins c.in_ok-id.id k.scope c.args.word.now.name (returns-clause-is c),
  subst IsUtf8 (sym (c.in_ok-id.ensures ∙ c.as_str-2.ensures.value)) (IsUtf8-string_bytes c.add_part-2.new.id),
)

pub returns-clause-new_id : goal.returns-clause-new_id
returns-clause-new_id c =
    let k = known_of c.args.known.now in
    λ row h. is_new_id k c.args.word.now c.requires.plain c.requires.kept.names c.requires.new row (subst (λ (id : List ℕ). HasRowId k.tables id row) (returns-clause-is c) h)
