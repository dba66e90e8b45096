-- What stands before an optional member: its tag and its format, in a leading byte and behind it. (Ice manual, "Data Encoding for Optional Values".)
use Rattle.std.specs.Prelude.{ℕ, ◌+◌, ◌*◌, ◌/◌, ◌%◌, ◌==◌, Bool, true, false, ◌||◌, List, [], ◌∷◌, Option, None, Some, Result, Ok, nat_lt, nat_le, if◌then◌else◌}
use Rattle.ice_prims.specs.declared.fault.Fault.{Fault}
use Rattle.ice_prims.specs.declared.fault.Kind.TheVariants.{BadTag}
use Rattle.ice_prims.specs.Rest.{Rest, fault, ◌>>=◌, after}
use Rattle.ice_encoding.specs.Parts.{Part, byte, size, nothing, made, tested, chosen}

-- ---- a tag and its format

-- The tag times 8 and the format for tags below 30, else 30 times 8 and the format. Bytes above 247 are none of these.
abbrev pub leading_byte : ℕ → ℕ → ℕ
leading_byte tag format = (if nat_lt tag 30 then tag else 30) * 8 + format

-- what stands behind the leading byte: nothing, or a tag as a size
abbrev pub tag_by : Bool → ℕ → Part ℕ
tag_by true b = nothing (b / 8)
tag_by false b = size

-- the tag behind a leading byte
abbrev pub behind_leading : ℕ → Part ℕ
behind_leading b = tag_by (nat_lt b 240) b

-- a tag as a size is at least 30
abbrev pub is_in_form : ℕ × ℕ → Bool
is_in_form x = nat_lt x.0 240 || nat_le 30 x.1

-- a leading byte, and the tag
abbrev pub leading : Part (ℕ × ℕ)
leading = tested is_in_form BadTag (chosen (tested (λ b. nat_lt b 248) BadTag byte) (λ b. made (λ tag. (b, tag)) (λ x. x.1) (behind_leading b)) (λ x. x.0))

-- a tag, and its format
abbrev pub tag : Part (ℕ × ℕ)
tag = made (λ x. (x.1, x.0 % 8)) (λ t. (leading_byte t.0 t.1, t.0)) leading

-- ---- which tag stands next

-- a tag is above the one before it
abbrev pub rises : Option ℕ → ℕ → Bool
rises None n = true
rises (Some last) n = nat_lt last n

-- a tag above the last one, with its format
abbrev pub rising_at : Option ℕ → Rest → Result (Option (ℕ × ℕ) × Rest) Fault
rising_at last r = tag.read r >>= λ t. if rises last t.0.0 then Ok (Some t.0, t.1) else fault r.place BadTag

-- Members of a slice go on up to a marker, the byte 255, others to the end of the bound.
abbrev pub next_tag_from : Option ℕ → Bool → List ℕ → Rest → Result (Option (ℕ × ℕ) × Rest) Fault
next_tag_from last true [] r = rising_at last r
next_tag_from last true (b ∷ bs) r = if b == 255 then Ok (None, after r 1) else rising_at last r
next_tag_from last false [] r = Ok (None, r)
next_tag_from last false (b ∷ bs) r = rising_at last r

-- the tag that stands next and its format, None at the marker or at the end
abbrev pub next_tag_at : Option ℕ → Bool → Rest → Result (Option (ℕ × ℕ) × Rest) Fault
next_tag_at last marked r = next_tag_from last marked r.bytes r
