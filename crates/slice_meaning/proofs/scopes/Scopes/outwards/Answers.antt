use Rattle.std.proofs.Common.{ℕ, Option, None, Some, sym, ap, ◌∙◌, subst}
use Rattle.slice_meaning.specs.Names.{outwards}
use Rattle.slice_meaning.specs.Numbers.{scope_at, IsLast}
use Rattle.slice_meaning.proofs.Lookup.{outwards_is}
use Rattle.slice_meaning.proofs.scopes.Scopes.outwards.Goals as goal

pub returns-then-at-near : goal.returns-then-at-near
returns-then-at-near c =
    let ds = c.args.self.now in
    let w = c.args.name.now in
    let last : IsLast ds w c.loop-near.at (Some (c.in-Some.near, c.in-Some.number)) = subst (λ (o : Option (ℕ × ℕ)). IsLast ds w c.loop-near.at o) c.in-Some.is c.nearest.ensures in
    outwards_is ds w c.args.scope c.in-Some.near (Some c.in-Some.number) last.1
    (c.loop-near.invariant.same ∙ (c.outer-at.ensures.same w last.2 ∙ ap (λ (n : ℕ). outwards ds w (scope_at ds n)) c.if-at-near.true)) (λ none. absurd cc)

pub returns : goal.returns
returns c =
    let ds = c.args.self.now in
    let w = c.args.name.now in
    let last : IsLast ds w c.loop-near.at None = subst (λ (o : Option (ℕ × ℕ)). IsLast ds w c.loop-near.at o) c.in_default.is c.nearest.ensures in
    (sym (c.loop-near.invariant.same ∙ last), tt)
