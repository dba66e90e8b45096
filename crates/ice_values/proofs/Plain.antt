-- Values whose references are numbers, as they are read.
use Rattle.std.proofs.Common.{◌≡◌, ℕ, Option, Result, Ok, Err, refl, ap}
use Rattle.ice_types.specs.declared.kind.TypeRef.{TypeRef}
use Rattle.ice_types.specs.Tables.{Tables}
use Rattle.ice_prims.specs.declared.fault.Fault.{Fault}
use Rattle.ice_prims.specs.Number.{size_at}
use Rattle.ice_prims.specs.Rest.{Rest, ◌>>=◌}
use Rattle.ice_encoding.specs.Port.{Reader, by_number, number_of}
use Rattle.ice_encoding.specs.Reading.{value_at}
use Rattle.ice_encoding.specs.Value.{plain_value_at}
use Rattle.ice_encoding.specs.Pausing.{Met, known, Inside, met, in_place}
use Rattle.ice_values.specs.Going.{whole_at}
use Rattle.value_parts.specs.Numbering.{number_taken}
use Rattle.ice_values.specs.Numbering.{stateless}

abbrev as_known : Unit {0} → ℕ × Rest → Result (Met × (Unit {0}) × Rest) Fault
as_known s n = Ok (known (number_of n.0), s, n.1)

abbrev as_reference : Unit {0} → ℕ × Rest → Result (Option ℕ × (Unit {0}) × Rest) Fault
as_reference s n = Ok (number_of n.0, s, n.1)

abbrev met_inside : Inside (Unit {0}) → Met × (Unit {0}) × Rest → Result (Option ℕ × (Unit {0}) × Rest) Fault
met_inside inside x = met inside x.0 x.1 x.2

by_size : (inside : Inside (Unit {0})) (s : Unit {0}) (read : Result (ℕ × Rest) Fault) → ((read >>= as_known s) >>= met_inside inside) ≡ (read >>= as_reference s)
by_size inside s (Ok n) = refl
by_size inside s (Err e) = refl

numbers-read : (inside : Inside (Unit {0})) → in_place number_taken inside ≡ by_number.read
numbers-read inside = λ i at s r. by_size inside s (size_at r) i

pub plain-is : (t : Tables) (inside : Inside (Unit {0})) (kind : TypeRef) (r : Rest) → stateless (whole_at number_taken t inside kind tt r) ≡ plain_value_at t kind r
unfolding plain_value_at whole_at
plain-is t inside kind r = ap (λ (refer : Option ℕ → Reader (Unit {0}) (Option ℕ)). stateless (value_at refer t 100 kind tt r)) (numbers-read inside)
