use Rattle.graph_laws.proofs.relaying_laws.unknown_slices_reopened.Goals as goal

pub returns : goal.returns
returns c = λ t is class bytes optionals table content (raw, uses, members, within, fits, equal). (raw, uses, members, within, equal)
