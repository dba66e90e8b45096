-- A byte of flags has the flags that it was made of.
use Rattle.std.proofs.Common.{◌≡◌, Bool, true, false, ltb, refl}
use Rattle.ice_encoding.specs.Flags.{IdForm, no_id, as_text, as_index, as_number, flags_of}
use Rattle.ice_encoding.specs.CanonicalGraph.{flags_byte}

-- the flags that it was made of, and clear bits above them
abbrev HasFlags : IdForm → Bool → Bool → Bool → Bool → Type 0
HasFlags form o t s l = (flags_of (flags_byte form o t s l) ≡ record { id = form; has_optional = o; has_table = t; has_size = s; is_last = l }) × (ltb (flags_byte form o t s l) 64 ≡ true)

-- of a last slice, and of another
all : (form : IdForm) (o t s : Bool) → HasFlags form o t s true × HasFlags form o t s false
all no_id true true true = ((refl, refl), (refl, refl))
all no_id true true false = ((refl, refl), (refl, refl))
all no_id true false true = ((refl, refl), (refl, refl))
all no_id true false false = ((refl, refl), (refl, refl))
all no_id false true true = ((refl, refl), (refl, refl))
all no_id false true false = ((refl, refl), (refl, refl))
all no_id false false true = ((refl, refl), (refl, refl))
all no_id false false false = ((refl, refl), (refl, refl))
all as_text true true true = ((refl, refl), (refl, refl))
all as_text true true false = ((refl, refl), (refl, refl))
all as_text true false true = ((refl, refl), (refl, refl))
all as_text true false false = ((refl, refl), (refl, refl))
all as_text false true true = ((refl, refl), (refl, refl))
all as_text false true false = ((refl, refl), (refl, refl))
all as_text false false true = ((refl, refl), (refl, refl))
all as_text false false false = ((refl, refl), (refl, refl))
all as_index true true true = ((refl, refl), (refl, refl))
all as_index true true false = ((refl, refl), (refl, refl))
all as_index true false true = ((refl, refl), (refl, refl))
all as_index true false false = ((refl, refl), (refl, refl))
all as_index false true true = ((refl, refl), (refl, refl))
all as_index false true false = ((refl, refl), (refl, refl))
all as_index false false true = ((refl, refl), (refl, refl))
all as_index false false false = ((refl, refl), (refl, refl))
all as_number true true true = ((refl, refl), (refl, refl))
all as_number true true false = ((refl, refl), (refl, refl))
all as_number true false true = ((refl, refl), (refl, refl))
all as_number true false false = ((refl, refl), (refl, refl))
all as_number false true true = ((refl, refl), (refl, refl))
all as_number false true false = ((refl, refl), (refl, refl))
all as_number false false true = ((refl, refl), (refl, refl))
all as_number false false false = ((refl, refl), (refl, refl))

has_flags : (form : IdForm) (o t s l : Bool) → HasFlags form o t s l
has_flags form o t s true = (all form o t s).0
has_flags form o t s false = (all form o t s).1

pub flags_back : (form : IdForm) (o t s l : Bool) → flags_of (flags_byte form o t s l) ≡ record { id = form; has_optional = o; has_table = t; has_size = s; is_last = l }
flags_back form o t s l = (has_flags form o t s l).0

pub flags_small : (form : IdForm) (o t s l : Bool) → ltb (flags_byte form o t s l) 64 ≡ true
flags_small form o t s l = (has_flags form o t s l).1
