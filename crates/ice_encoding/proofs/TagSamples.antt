-- What the definitions of encapsulations, of tags and of passing over answer at bytes that are written out.
use Rattle.std.proofs.Common.{◌≡◌, ℕ, List, [], ◌∷◌, Option, None, Some, true, false, Result, Ok, refl}
use Rattle.ice_prims.specs.declared.fault.Fault.{Fault}
use Rattle.ice_prims.specs.declared.fault.Kind.TheVariants.{Short, TooLarge, BadSize, BadVersion, BadTag}
use Rattle.ice_prims.specs.Rest.{Rest, fault, whole}
use Rattle.ice_encoding.specs.Opening.{opened_at, encapsulated_bytes}
use Rattle.ice_encoding.specs.Tags.{tag, next_tag_at}
use Rattle.ice_encoding.specs.Skipping.{passed_at}

-- where reading stands, and the bytes left
abbrev at : ℕ → List ℕ → Rest
at place bytes = record { place = place; bytes = bytes }

-- ---- encapsulations

-- three bytes of content, and one byte behind
opened : opened_at (whole (9 ∷ 0 ∷ 0 ∷ 0 ∷ 1 ∷ 1 ∷ 7 ∷ 8 ∷ 9 ∷ 5 ∷ [])) ≡ Ok (at 6 (7 ∷ 8 ∷ 9 ∷ []), at 9 (5 ∷ []))
opened = refl

wrapped : encapsulated_bytes (7 ∷ 8 ∷ 9 ∷ []) ≡ 9 ∷ 0 ∷ 0 ∷ 0 ∷ 1 ∷ 1 ∷ 7 ∷ 8 ∷ 9 ∷ []
wrapped = refl

nothing_wrapped : encapsulated_bytes [] ≡ 6 ∷ 0 ∷ 0 ∷ 0 ∷ 1 ∷ 1 ∷ []
nothing_wrapped = refl

below_six : opened_at (whole (5 ∷ 0 ∷ 0 ∷ 0 ∷ 1 ∷ 1 ∷ [])) ≡ fault 0 BadSize
below_six = refl

past_the_end : opened_at (whole (7 ∷ 0 ∷ 0 ∷ 0 ∷ 1 ∷ 1 ∷ [])) ≡ fault 0 Short
past_the_end = refl

-- 1,048,577
too_large : opened_at (whole (1 ∷ 0 ∷ 16 ∷ 0 ∷ 1 ∷ 1 ∷ [])) ≡ fault 0 TooLarge
too_large = refl

version_1_0 : opened_at (whole (6 ∷ 0 ∷ 0 ∷ 0 ∷ 1 ∷ 0 ∷ [])) ≡ fault 4 BadVersion
version_1_0 = refl

-- ---- tags

abbrev stands : Result (Option (ℕ × ℕ) × Rest) Fault → ℕ → ℕ → Rest → Type 0
stands read number format behind = read ≡ Ok (Some (number, format), behind)

first_tag : stands (next_tag_at None false (whole (10 ∷ []))) 1 2 (at 1 [])
first_tag = refl

-- 30 in its long form
long_tag : stands (next_tag_at None true (whole (242 ∷ 30 ∷ []))) 30 2 (at 2 [])
long_tag = refl

long_form_of_1 : next_tag_at None true (whole (242 ∷ 1 ∷ [])) ≡ fault 0 BadTag
long_form_of_1 = refl

-- a fault of the size is at its own place
cut_behind_leading : next_tag_at None false (whole (242 ∷ [])) ≡ fault 1 Short
cut_behind_leading = refl

size_of_another_form : next_tag_at None false (whole (242 ∷ 255 ∷ 254 ∷ 0 ∷ 0 ∷ 0 ∷ [])) ≡ fault 1 BadSize
size_of_another_form = refl

put_29 : tag.put (29, 7) ≡ 239 ∷ []
put_29 = refl

put_30 : tag.put (30, 7) ≡ 247 ∷ 30 ∷ []
put_30 = refl

-- tag 1 behind tag 1, and behind tag 0
same_again : next_tag_at (Some 1) true (whole (10 ∷ [])) ≡ fault 0 BadTag
same_again = refl

rises_by_one : stands (next_tag_at (Some 0) true (whole (10 ∷ []))) 1 2 (at 1 [])
rises_by_one = refl

-- a long tag that does not rise is wrong at its leading byte
long_falls : next_tag_at (Some 31) true (at 8 (242 ∷ 30 ∷ [])) ≡ fault 8 BadTag
long_falls = refl

-- ---- the end of them

marker : next_tag_at (Some 4) true (whole (255 ∷ 9 ∷ [])) ≡ Ok (None, at 1 (9 ∷ []))
marker = refl

no_marker_here : next_tag_at None false (whole (255 ∷ [])) ≡ fault 0 BadTag
no_marker_here = refl

end_of_bound : next_tag_at None false (at 3 []) ≡ Ok (None, at 3 [])
end_of_bound = refl

marker_lacks : next_tag_at None true (at 3 []) ≡ fault 3 Short
marker_lacks = refl

-- ---- bytes above 247 that lead nothing

leads_248 : next_tag_at None true (whole (248 ∷ 30 ∷ [])) ≡ fault 0 BadTag
leads_248 = refl

leads_254 : next_tag_at None true (whole (254 ∷ 30 ∷ [])) ≡ fault 0 BadTag
leads_254 = refl

-- ---- values that are passed over

passed_byte : passed_at 0 (whole (5 ∷ 6 ∷ [])) ≡ Ok (at 1 (6 ∷ []))
passed_byte = refl

passed_eight : passed_at 3 (whole (1 ∷ 2 ∷ 3 ∷ 4 ∷ 5 ∷ 6 ∷ 7 ∷ [])) ≡ fault 0 Short
passed_eight = refl

passed_size : passed_at 4 (whole (255 ∷ 0 ∷ 1 ∷ 0 ∷ 0 ∷ 6 ∷ [])) ≡ Ok (at 5 (6 ∷ []))
passed_size = refl

passed_behind_size : passed_at 5 (whole (2 ∷ 7 ∷ 8 ∷ 6 ∷ [])) ≡ Ok (at 3 (6 ∷ []))
passed_behind_size = refl

size_passes_bound : passed_at 5 (at 4 (3 ∷ 7 ∷ 8 ∷ [])) ≡ fault 4 Short
size_passes_bound = refl

long_size_of_2 : passed_at 5 (whole (255 ∷ 2 ∷ 0 ∷ 0 ∷ 0 ∷ 7 ∷ 8 ∷ [])) ≡ fault 0 BadSize
long_size_of_2 = refl

passed_behind_int : passed_at 6 (whole (2 ∷ 0 ∷ 0 ∷ 0 ∷ 7 ∷ 8 ∷ [])) ≡ Ok (at 6 [])
passed_behind_int = refl

int_passes_bound : passed_at 6 (at 4 (3 ∷ 0 ∷ 0 ∷ 0 ∷ 7 ∷ 8 ∷ [])) ≡ fault 4 Short
int_passes_bound = refl

negative_int : passed_at 6 (whole (255 ∷ 255 ∷ 255 ∷ 255 ∷ [])) ≡ fault 0 BadSize
negative_int = refl
