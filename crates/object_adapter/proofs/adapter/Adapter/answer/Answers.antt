use Rattle.std.proofs.Common.{List, ℕ, Some, length, refl, sym, ap, ◌∙◌, arith}
use Rattle.std.proofs.lemmas.Option.{slice_get_read, slice_get_within}
use Rattle.object_adapter.specs.declared.keys.Found.TheVariants.{At}
use Rattle.object_adapter.specs.Objects.{Objects}
use Rattle.std.proofs.lemmas.List.{length-set}
use Rattle.object_adapter.proofs.adapter.Adapter.answer.Goals as goal

pub invariant_of-self : goal.invariant_of-self
invariant_of-self c = length-set c.self.inside.servants.items c.in-At.at c.answer.new.self ∙ c.self.invariant

pub returns-in_ok-answer-in-At-clause-ok : goal.returns-in_ok-answer-in-At-clause-ok
returns-in_ok-answer-in-At-clause-ok c =
    let servants = c.self.inside.servants.items in
    let there = slice_get_within c.args.self.now.keys c.in-At.at _ c.in-At.ensures in
    let same = ap (λ (o : Objects). length o.keys) c.self.view_is in (
      At c.in-At.at,
      c.in-At.ensures ∙ ap (λ (f : List ℕ). Some (c.args.call.now.identity, f)) c.as_str.ensures,
      (
        c.index_mut.result.now,
        c.answer.new.self,
        rw (sym c.self.view_is) (slice_get_read servants (length servants) c.in-At.at c.index_mut.result.now refl (omega (arith, there, same, c.self.invariant)) c.index_mut.ensures.value),
        c.in_ok-answer-in-At.ensures.ok,
        rw (sym c.self.view_is) refl,
      ),
    )
