-- Where the length of an optional value is put, once the value is written. (Ice manual, "Data Encoding for Optional Values".)
use Rattle.std.specs.Prelude.{ℕ, ◌+◌, ◌≤◌, ◌^◌, List, [], ◌∷◌, ◌++◌, length, take, drop}
use Rattle.ice_encoding.specs.Parts.{size}
use Rattle.ice_encoding.specs.Skipping.{count}
use Rattle.ice_prims.specs.Bytes.{Grows}
use Rattle.ice_encoding.specs.Prefixes.{Prefix, no_length, own_size, as_size, as_int}
use Rattle.value_writing.specs.declared.length_place.LengthPlace.{LengthPlace}
use Rattle.value_writing.specs.declared.length_place.LengthPlace.TheVariants as places

-- the bytes that are held for the length: those of an int, whose number is known before
abbrev pub held : Prefix → List ℕ
held no_length = []
held own_size = []
held as_size = []
held as_int = 0 ∷ 0 ∷ 0 ∷ 0 ∷ []

-- where the length of a value goes whose prefix begins at this place
abbrev pub length_at : Prefix → ℕ → LengthPlace
length_at no_length at = places.Nowhere
length_at own_size at = places.Nowhere
length_at as_size at = places.Size at
length_at as_int at = places.Int at

-- these bytes, with the length of those behind the place
abbrev pub with_length_at : LengthPlace → List ℕ → List ℕ
with_length_at places.Nowhere out = out
with_length_at (places.Size at) out = take at out ++ (size.put (length (drop at out)) ++ drop at out)
with_length_at (places.Int at) out = take at out ++ (count.put (length (drop (at + 4) out)) ++ drop (at + 4) out)

-- the place is among these bytes, with those that are held there
abbrev pub Stands : LengthPlace → List ℕ → Type 0
Stands places.Nowhere out = Unit {0}
Stands (places.Size at) out = at ≤ length out
Stands (places.Int at) out = at + 4 ≤ length out

-- whether putting it may be refused: never where there is none, and an int only where it cannot tell the length
abbrev pub MayBeRefused : LengthPlace → List ℕ → Type 0
MayBeRefused places.Nowhere out = ⊥
MayBeRefused (places.Size at) out = Unit {0}
MayBeRefused (places.Int at) out = 2 ^ 31 ≤ length (drop (at + 4) out)

-- the place is not among the first so many bytes
abbrev pub IsBehind : ℕ → LengthPlace → Type 0
IsBehind n places.Nowhere = Unit {0}
IsBehind n (places.Size at) = n ≤ at
IsBehind n (places.Int at) = n ≤ at

-- the output goes on from these bytes, and no length is put among them
abbrev pub GoesOnFrom : List ℕ → LengthPlace → List ℕ → Type 0
GoesOnFrom base place out = Grows base out × IsBehind (length base) place
