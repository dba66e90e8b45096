-- Which length stands before the value of an optional member. (Ice manual, "Data Encoding for Optional Values".)
use Rattle.std.specs.Prelude.{ℕ, ◌≡◌, ◌==◌, Bool, true, false, List, ◌++◌, length, Option, None, Some, slice_get, if◌then◌else◌}
use Rattle.ice_types.specs.declared.kind.TypeRef.{TypeRef}
use Rattle.ice_types.specs.declared.kind.TypeRef.TheVariants as kinds
use Rattle.ice_types.specs.declared.optional_format.TheConstants.{FORMAT_VSIZE, FORMAT_FSIZE}
use Rattle.ice_types.specs.Tables.{Tables}
use Rattle.ice_types.specs.Measures.{fixed_size}
use Rattle.ice_types.specs.Formats.{optional_format}
use Rattle.ice_prims.specs.Rest.{◌>>=◌}
use Rattle.ice_encoding.specs.Parts.{Part, size}
use Rattle.ice_encoding.specs.Bounds.{ended}
use Rattle.ice_encoding.specs.Skipping.{count, bound_behind}
use Rattle.ice_encoding.specs.Port.{Reader, Speller}

-- the length that stands before the value of an optional member by its type: none, as a size, as an int, or the
-- value's own size where that counts its bytes, as of a text and of a sequence of bytes; and the value behind it,
-- which fills it
pub data Prefix : Type 0 where
  -- none
  no_length : Prefix
  -- the size with which the value begins
  own_size : Prefix
  -- a size
  as_size : Prefix
  -- an int
  as_int : Prefix

-- ---- by type

abbrev pub is_one : Option ℕ → Bool
is_one None = false
is_one (Some n) = n == 1

-- A text, and a sequence of elements of one byte, begins with a size that counts all bytes behind it.
abbrev pub counts_itself : Tables → TypeRef → Bool
counts_itself t kinds.Bool = false
counts_itself t kinds.Byte = false
counts_itself t kinds.Short = false
counts_itself t kinds.Int = false
counts_itself t kinds.Long = false
counts_itself t kinds.Text = true
counts_itself t (kinds.Seq at) = elim (slice_get t.seqs at) [ None ↦ false | Some q ↦ is_one (fixed_size t q.element) ]
counts_itself t (kinds.Dict at) = false
counts_itself t (kinds.Struct at) = false
counts_itself t (kinds.Enum at) = false
counts_itself t (kinds.Proxy at) = false
counts_itself t (kinds.Class at) = false

-- by format, and by whether the value counts itself
abbrev pub prefix_by : Bool → ℕ → Prefix
prefix_by itself format =
    if format == FORMAT_VSIZE then (if itself then own_size else as_size)
    else (if format == FORMAT_FSIZE then as_int else no_length)

-- the prefix of a type
abbrev pub prefix_of : Tables → TypeRef → Prefix
prefix_of t kind = prefix_by (counts_itself t kind) (optional_format t kind)

-- ---- a length, and something that fills as many bytes

abbrev pub prefixed : {R A : Type 0} → Part ℕ → Reader R A → Reader R A
prefixed number read s r = bound_behind number r >>= λ bound. read s bound.0 >>= λ x. ended x.2.bytes x.2.place (x.0, x.1, bound.1)

abbrev pub Prefixed : {S A : Type 0} → Part ℕ → Speller S A → Speller S A
Prefixed number Spells bytes x from to = (front body : List ℕ) × (bytes ≡ front ++ body) × number.Spells front (length body) × Spells body x from to

-- something that begins with its own size, as many bytes as which have to be there
abbrev pub counted : {R A : Type 0} → Reader R A → Reader R A
counted read s r = bound_behind size r >>= λ bound. read s r

-- ---- a value behind its prefix

-- reading a value behind its prefix, which it fills
abbrev pub framed : {R A : Type 0} → Prefix → Reader R A → Reader R A
framed no_length read = read
framed own_size read = counted read
framed as_size read = prefixed size read
framed as_int read = prefixed count read

-- which bytes spell it with its prefix
abbrev pub Framed : {S A : Type 0} → Prefix → Speller S A → Speller S A
Framed no_length Spells = Spells
Framed own_size Spells = Spells
Framed as_size Spells = Prefixed size Spells
Framed as_int Spells = Prefixed count Spells
