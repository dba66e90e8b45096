use Rattle.std.proofs.Common.{List, ℕ, slice_index_or, ◌∙◌, ap}
use Rattle.instance_writing.specs.Tabling.{place_at}
use Rattle.instance_writing.proofs.Tables.{few-at}
use Rattle.instance_writing.proofs.table.Table.place.Goals as goal

pub returns-clause-few : goal.returns-clause-few
returns-clause-few c = few-at c.self.inside.places.items c.self.inside.names c.args.name c.place_at.result c.self.invariant
    (c.place_at.ensures ∙ ap (λ (l : List ℕ). place_at l c.args.name c.at_or_first-at.result) c.as_slice-2.ensures
    ∙ ap (place_at c.self.inside.names c.args.name) (c.at_or_first-at.ensures ∙ ap (λ (l : List ℕ). slice_index_or l c.args.name 0) c.as_slice.ensures.value)
    ∙ c.self.invariant.found c.args.name)
