-- How the reading of a text ends.
use Rattle.std.specs.Prelude.{◌≡◌, Result, Err}
use Rattle.graph_json.specs.declared.parsing.Stop.{Stop}
use Rattle.graph_json.specs.declared.parsing.Stop.TheVariants as stops

-- the text was refused, and memory was not at fault
abbrev pub IsRefusal : {T : Type 0} → Result T Stop → Type 0
IsRefusal r = r ≡ Err stops.NotJson
