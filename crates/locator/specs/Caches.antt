-- Places that were found, and are kept: the oldest first.
use Rattle.std.specs.Prelude.{List, [], ◌∷◌, length, Option, nat_le, if◌then◌else◌}
use Rattle.std.specs.Map.{lookup, remove_entry}
use Rattle.indexmap.specs.IndexMap.{insert_entry}
use Rattle.ice_types.specs.declared.proxy.Endpoint.{Endpoint}
use Rattle.locator.specs.declared.cache.TheConstants.{MOST_KEPT}
use Rattle.locator.specs.declared.key.Key.{Key}
use Rattle.locator.specs.Keys.{same}

-- endpoints by their keys, in the order in which the keys came
abbrev pub Kept : Type 0
Kept = List (Key × List Endpoint)

-- what is kept by this key
abbrev pub kept_by : Key → Kept → Option (List Endpoint)
kept_by key places = lookup (same key) places

-- all but the oldest
abbrev pub newer : Kept → Kept
newer [] = []
newer (oldest ∷ places) = places

-- without the oldest, where that is one more than is kept
abbrev pub at_most : Kept → Kept
at_most places = if nat_le (length places) MOST_KEPT then places else newer places

-- these endpoints kept by the key: in its place where it is there, else as the newest
abbrev pub keeping : Key → List Endpoint → Kept → Kept
keeping key endpoints places = at_most (insert_entry same places key endpoints)

-- without what is kept by this key
abbrev pub without : Key → Kept → Kept
without key places = remove_entry (same key) places
