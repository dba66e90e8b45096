-- Which length stands before a value, as the definitions have it.
use Rattle.ice_encoding.specs.Prefixes.{no_length, own_size, as_size, as_int}
use Rattle.ice_encoding.specs.Prefixes as prefixes
use Rattle.value_parts.specs.declared.prefix.Prefix.{Prefix}
use Rattle.value_parts.specs.declared.prefix.Prefix.TheVariants.{NoLength, OwnSize, AsSize, AsInt}

abbrev pub prefix_seen : Prefix → prefixes.Prefix
prefix_seen NoLength = no_length
prefix_seen OwnSize = own_size
prefix_seen AsSize = as_size
prefix_seen AsInt = as_int
