use Rattle.std.proofs.Common.{List, ℕ, length, ◌<◌, ◌^◌, sym, subst, ◌∙◌}
use Rattle.instance_writing.specs.Tabling.{IsIndexed}
use Rattle.instance_writing.proofs.Tables.{indexed-empty, few-names}
use Rattle.instance_writing.proofs.table.Table.take.Goals as goal

pub invariant_of-self : goal.invariant_of-self
invariant_of-self c = subst (IsIndexed c.self.inside.places.items) (sym (c.replace.ensures.after ∙ c.new.ensures)) (indexed-empty c.self.inside.places.items c.self.invariant.few)

pub returns-clause-few : goal.returns-clause-few
returns-clause-few c = subst (λ (l : List ℕ). length l < 2 ^ 31) (sym c.replace.ensures.value) (few-names c.self.inside.places.items c.self.inside.names c.self.invariant)
