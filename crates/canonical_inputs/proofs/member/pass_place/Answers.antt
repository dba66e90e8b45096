use Rattle.std.proofs.Common.{arith, rules, ◌≡◌, ℕ, suc, ◌-◌, ◌++◌, ◌∷◌, [], List, Option, Some, length, take, true, nat_eq, refl, sym, ap, ◌∙◌, subst}
use Rattle.std.specs.Prelude.{slice_get}
use Rattle.std.specs.Option.{option_eq}
use Rattle.std.proofs.lemmas.Option.{slice_get_read}
use Rattle.ice_types.specs.declared.kind.TypeRef.TheVariants as kinds
use Rattle.canonical_inputs.specs.Places.{ValuePut}
use Rattle.canonical_inputs.proofs.Places.{null_put, next_put, again_put, same_option}
use Rattle.canonical_inputs.proofs.member.pass_place.Goals as goal

pub returns-then-size-eq0-clause-put : goal.returns-then-size-eq0-clause-put
returns-then-size-eq0-clause-put c = λ levels.
    null_put c.args.schema.now levels c.args.declared (take c.in_ok-size.taken c.args.bytes.now) c.args.needs.now.items c.in_ok-size.size c.in_ok-size.ensures.2 c.if-size-eq0.true

pub returns-in-Ok-clause-put : goal.returns-in-Ok-clause-put
returns-in-Ok-clause-put c = λ levels.
    let before = c.args.needs.now.items in
    let grown : c.push.new.self.items ≡ before ++ c.args.declared ∷ [] = search rules in
    let next : c.in_ok-size.size ≡ suc (length before) = omega arith in
    let bytes = take c.in_ok-size.taken c.args.bytes.now in
    subst (λ (l : List (Option ℕ)). ValuePut c.args.schema.now (suc levels) (kinds.Class c.args.declared) before l bytes) (sym grown)
    (next_put c.args.schema.now levels c.args.declared bytes before c.in_ok-size.size c.in_ok-size.ensures.2 next)

pub returns-in-Some-clause-put : goal.returns-in-Some-clause-put
returns-in-Some-clause-put c = λ levels.
    let before = c.args.needs.now.items in
    let place = c.in_ok-size.size - 1 in
    let again : c.in_ok-size.size ≡ suc place = omega arith in
    let lookup = c.in-Some.ensures.lookup in
    let found : slice_get before place ≡ Some c.in-Some.need.now =
    subst (λ (l : List (Option ℕ)). slice_get l place ≡ Some c.in-Some.need.now) c.deref.ensures.value (slice_get_read c.deref.result.now (length c.deref.result.now) place c.in-Some.need.now refl lookup.3.0 lookup.1) in
    let same : option_eq nat_eq c.in-Some.need.now c.args.declared ≡ true = cc in
    let there : slice_get before place ≡ Some c.args.declared = found ∙ ap Some (same_option c.in-Some.need.now c.args.declared same) in
    again_put c.args.schema.now levels c.args.declared (take c.in_ok-size.taken c.args.bytes.now) before c.in_ok-size.size place c.in_ok-size.ensures.2 again there
