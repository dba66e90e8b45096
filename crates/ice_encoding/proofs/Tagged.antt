-- Tags are read as they are spelled, and what is put spells them.
use Rattle.std.proofs.Common.{◌≡◌, ℕ, ◌+◌, ◌*◌, ◌/◌, ◌%◌, ◌<◌, ◌≤◌, ◌^◌, Bool, true, false, ◌||◌, ltb, leb, length, refl, sym, ap, arith}
use Rattle.std.proofs.lemmas.Bool.{ltb-true, ltb-false, leb-true, lt-ltb, le-ltb, le-leb}
use Rattle.ice_encoding.specs.Parts.{IsLawful}
use Rattle.ice_encoding.specs.Tags.{leading_byte, tag_by, behind_leading, leading, tag}
use Rattle.ice_encoding.proofs.Joined.{byte_lawful, size_lawful, nothing_lawful, made_sorted, made_lawful, tested_lawful, chosen_lawful}

-- ---- a leading byte, and the tag

by_lawful : (b : Bool) (byte : ℕ) → IsLawful (tag_by b byte)
by_lawful true byte = nothing_lawful (byte / 8)
by_lawful false byte = size_lawful

leading_lawful : IsLawful leading
leading_lawful = tested_lawful _ _ _ (chosen_lawful _ _ _ (tested_lawful _ _ _ byte_lawful) (λ b. made_lawful (λ tag. (b, tag)) (λ x. x.1) (behind_leading b) (λ tag. refl) (by_lawful (ltb b 240) b))
    (λ b first second x is_byte is_tag. rw is_tag.1 refl))

-- the byte is that of the tag and of its own lowest bits
made_again : (b : Bool) (byte tag : ℕ) → ltb byte 240 ≡ b → byte < 248 → (tag_by b byte).Is tag → (b || leb 30 tag) ≡ true → leading_byte tag (byte % 8) ≡ byte
made_again true byte tag test small is form =
    let below : byte < 240 = ltb-true _ _ test in
    let few : ltb tag 30 ≡ true = lt-ltb _ _ (omega (arith, below, is)) in
    rw few (omega (arith, is))
made_again false byte tag test small is form =
    let above : 240 ≤ byte = ltb-false _ _ test in
    let many : ltb tag 30 ≡ false = le-ltb _ _ (leb-true _ _ form) in
    rw many (omega (arith, above, small))

same_leading : (x : ℕ × ℕ) → leading.Is x → leading_byte x.1 (x.0 % 8) ≡ x.0
same_leading x is = made_again (ltb x.0 240) x.0 x.1 refl (ltb-true _ _ is.0.0.1) is.0.1.0 is.1

abbrev tag_of : ℕ × ℕ → ℕ × ℕ
tag_of x = (x.1, x.0 % 8)

abbrev lead_of : ℕ × ℕ → ℕ × ℕ
lead_of t = (leading_byte t.0 t.1, t.0)

tag_again : (x : ℕ × ℕ) → leading.Is x → leading.Is (lead_of (tag_of x)) × (tag_of x ≡ tag_of (lead_of (tag_of x)))
tag_again x is = rw (same_leading x is) (is, refl)

tag_short : (x : ℕ × ℕ) → leading.Is x → length (leading.put (lead_of (tag_of x))) ≤ length (leading.put x)
tag_short x is = rw (same_leading x is) (omega arith)

pub tag_lawful : IsLawful tag
tag_lawful = made_sorted _ _ _ tag_again tag_short leading_lawful

-- ---- which there are

-- what a leading byte says of the tag and of the format
lead_is : (small : Bool) (byte tag : ℕ) → ltb byte 240 ≡ small → byte < 248 → (tag_by small byte).Is tag → (small || leb 30 tag) ≡ true → leading.Is (byte, tag)
lead_is small byte tag test below is form = rw test (((omega (arith, below), lt-ltb _ _ below), (is, refl)), form)

tag_by_test : (few : Bool) (tag format : ℕ) → ltb tag 30 ≡ few → tag < 2 ^ 31 → format ≤ 7 → leading.Is (leading_byte tag format, tag) × (leading_byte tag format % 8 ≡ format)
tag_by_test true tag format test small bits =
    let below : tag < 30 = ltb-true _ _ test in
    rw test (lead_is true (tag * 8 + format) tag (lt-ltb _ _ (omega (arith, below, bits))) (omega (arith, below, bits)) (omega (arith, bits)) refl, omega (arith, bits))
tag_by_test false tag format test small bits =
    let above : 30 ≤ tag = ltb-false _ _ test in
    rw test (lead_is false (240 + format) tag (le-ltb _ _ (omega arith)) (omega (arith, bits)) small (le-leb _ _ above), omega (arith, bits))

-- each tag that is a size, with each format
pub tag_is : (t : ℕ × ℕ) → t.0 < 2 ^ 31 → t.1 ≤ 7 → tag.Is t
tag_is t small bits = let h = tag_by_test (ltb t.0 30) t.0 t.1 refl small bits in (h.0, ap (λ (f : ℕ). pair t.0 f) (sym h.1))
  where
    pair : ℕ → ℕ → ℕ × ℕ
    pair a b = (a, b)

-- and no other
pub tag_within : (t : ℕ × ℕ) → tag.Is t → (t.0 < 2 ^ 31) × (t.1 ≤ 7)
tag_within t is = let h : t.1 ≡ leading_byte t.0 t.1 % 8 = ap (λ (x : ℕ × ℕ). x.1) is.1 in (below (ltb (leading_byte t.0 t.1) 240) is.0.0.0.0 is.0.0.1.0, omega (arith, h))
  where
    below : (small : Bool) → leading_byte t.0 t.1 < 256 → (tag_by small (leading_byte t.0 t.1)).Is t.0 → t.0 < 2 ^ 31
    below true byte same = omega (arith, byte, same)
    below false byte size = size
