-- Names stand for rows that the tables have.
use Rattle.std.specs.Prelude.{◌<◌, length}
use Rattle.slice_syntax.specs.Places.{Each}
use Rattle.ice_types.specs.Tables.{Tables}
use Rattle.ice_types.specs.Fits.{IsOf}
use Rattle.slice_meaning.specs.declared.standing.Standing.{Standing}
use Rattle.slice_meaning.specs.declared.standing.Standing.TheVariants as standings
use Rattle.slice_meaning.specs.Known.{Known}

-- the row that a name stands for is there
abbrev pub HasRow : Tables → Standing → Type 0
HasRow t standings.Module = Unit {0}
HasRow t (standings.Type kind) = IsOf t kind
HasRow t (standings.Interface at) = at < length t.interfaces
HasRow t (standings.Exception at) = at < length t.exceptions
HasRow t (standings.Value v) = Unit {0}

-- so of each declared name
abbrev pub KnowsRows : Known → Type 0
KnowsRows k = Each (λ d. HasRow k.tables d.standing) k.declared
