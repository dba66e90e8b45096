use Rattle.std.proofs.Common.{ℕ, zero, suc, List, ◌≡◌, ◌∷◌, ◌++◌, [], arith, refl, sym, ap, ◌∙◌}
use Rattle.ice_encoding.specs.OptionalMembers.{with_optional}
use Rattle.ice_encoding.specs.Visiting.{visit_each, visit_at}
use Rattle.ice_encoding.specs.Tree.{none}
use Rattle.graph_laws.proofs.Upto as laws
use Rattle.canonical_inputs.specs.Fitting.{IsOf}
use Rattle.canonical_inputs.specs.Standing.{upto}
use Rattle.canonical_inputs.proofs.Nested.{sound_roots}
use Rattle.canonical_inputs.proofs.laws.canonical_instances_stay.Goals as goal

same_numbers : (k : ℕ) → upto k ≡ laws.upto k
same_numbers zero = refl
same_numbers (suc k) = ap (λ (l : List ℕ). l ++ k ∷ []) (same_numbers k)

pub returns-clause-written : goal.returns-clause-written
returns-clause-written c = λ t classes g depth names p q bytes news h had. (sound_roots g (IsOf t classes) t depth depth depth (omega arith) (omega arith) names p bytes q news h).are had

pub returns-clause-numbered : goal.returns-clause-numbered
returns-clause-numbered c = λ t classes g levels depth names p q bytes news le h had.
    ap (visit_each (visit_at (suc depth) g) names) (same_numbers p.begun) ∙ (sound_roots g (IsOf t classes) t levels levels depth (omega arith) le names p bytes q news h).order had ∙ sym (same_numbers q.begun)

pub returns-clause-classed : goal.returns-clause-classed
returns-clause-classed c = λ t classes depth names p q bytes news h.
    (sound_roots (record { roots = with_optional none []; instances = [] }) (IsOf t classes) t depth depth depth (omega arith) (omega arith) names p bytes q news h).good
