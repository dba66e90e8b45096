use Rattle.std.proofs.Common.{sym, ◌∙◌, inl, inr}
use Rattle.ice_encoding.specs.Port.{nowhere}
use Rattle.graph_laws.proofs.Breaking.{same_err}
use Rattle.graph_laws.proofs.Heads.{head_broken, head_breaks}
use Rattle.graph_laws.proofs.defect_laws.slice_heads.Goals as goal

pub returns-clause-breaks : goal.returns-clause-breaks
returns-clause-breaks c = head_breaks

pub returns-clause-broken : goal.returns-clause-broken
returns-clause-broken c = λ refer t reach count before s r fault fits h. head_broken refer t reach count before s r fault fits h (λ bad. inl bad) (λ stands q m mid left place inside more. inr stands)

pub returns-clause-one : goal.returns-clause-one
returns-clause-one c = λ t reach before s r a b one two.
    same_err a b (sym (head_breaks (λ at s r. nowhere r) t reach 0 before s r a one) ∙ head_breaks (λ at s r. nowhere r) t reach 0 before s r b two)
