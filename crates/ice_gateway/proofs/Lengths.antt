-- What is put of parts is no longer than what spelled them.
use Rattle.std.proofs.Common.{◌≡◌, ℕ, ℤ, zero, suc, ◌+◌, ◌≤◌, List, [], ◌∷◌, ◌++◌, length, refl, ap, arith, inl, inr, length-append}
use Rattle.std.proofs.lemmas.Bool.{lt-ltb, le-ltb}
use Rattle.ice_types.specs.declared.identity.Identity.{Identity}
use Rattle.ice_prims.specs.Bytes.{size_bytes, text_bytes}
use Rattle.ice_prims.specs.Number.{SpellsSize, SpellsText}
use Rattle.ice_encoding.specs.Parts.{SpellsTimes}
use Rattle.ice_encoding.specs.Identity as names
use Rattle.ice_encoding.proofs.SpelledSizes.{size_long}
use Rattle.ice_messages.specs.Messages.{header, magic, versions}

magic_long : (bytes : List ℕ) (x : Unit {0}) → magic.Spells bytes x → length bytes ≡ 4
magic_long bytes x h = let o = h.2 in rw (o.2, o.3, o.4.2, o.4.3, o.4.4.2, o.4.4.3, o.4.4.4) refl

versions_long : (bytes : List ℕ) (x : Unit {0}) → versions.Spells bytes x → length bytes ≡ 4
versions_long bytes x h = let o = h.2 in rw (o.2, o.3, o.4) refl

pub header_long : (bytes : List ℕ) (x : ℕ × ℤ) → header.Spells bytes x → length bytes ≡ 14
header_long bytes x h =
    let parts = h.2 in
    let versions_are = parts.4 in
    let type_is = versions_are.4 in
    let one : length type_is.0 ≡ 1 = ap length type_is.3.0.1 in
    let status_is = type_is.4 in
    let two : length status_is.0 ≡ 1 = ap length status_is.3.2.0.0.1 in
    omega (
      arith,
      magic_long parts.0 _ parts.3,
      versions_long versions_are.0 _ versions_are.3,
      one,
      two,
      status_is.4.0,
      ap length parts.2,
      ap length versions_are.2,
      ap length type_is.2,
      ap length status_is.2,
      length-append parts.0 parts.1,
      length-append versions_are.0 versions_are.1,
      length-append type_is.0 type_is.1,
      length-append status_is.0 status_is.1,
    )

size_length : (front : List ℕ) (n : ℕ) → SpellsSize front n → length (size_bytes n) ≡ length front
size_length front n (inl h) = let short = lt-ltb n 255 h.0 in rw (short, h.1) refl
size_length front n (inr h) = let long = le-ltb n 255 h.0 in rw (long, h.5) (omega (arith, h.3))

pub text_length : (bytes s : List ℕ) → SpellsText bytes s → length (text_bytes s) ≡ length bytes
text_length bytes s h = omega (arith, size_length h.0 (length s) h.1, ap length h.3, length-append h.0 s, length-append (size_bytes (length s)) s)

pub identity_length : (bytes : List ℕ) (i : Identity) → names.identity.Spells bytes i → length (names.identity.put i) ≡ length bytes
identity_length bytes i (x, is, (a, b, parts, name, category)) =
    rw is (omega (arith, ap length parts, length-append a b, text_length a x.0 name, text_length b x.1 category, length-append (text_bytes x.0) (text_bytes x.1)))

facet_by : (n : ℕ) (front bytes : List ℕ) (fs : List (List ℕ)) → SpellsSize front n → SpellsTimes SpellsText n bytes fs → length (names.facet.put (names.facet_of fs)) ≤ length front + length bytes
facet_by zero front bytes fs size each = let one = size_long front 0 size in rw each.1 (omega (arith, one))
facet_by (suc n) front bytes fs size ([], xs, a, b, is, parts, first, others) = let one = size_long front (suc n) size in rw is (omega (arith, one))
facet_by (suc n) front bytes fs size (c ∷ cs, xs, a, b, is, parts, first, others) =
    let one = size_long front (suc n) size in
    let put : length (names.facet.put (c ∷ cs)) ≡ suc (length (text_bytes (c ∷ cs) ++ [])) = refl in
    rw is (omega (arith, one, put, length-append (text_bytes (c ∷ cs)) [], text_length a (c ∷ cs) first, ap length parts, length-append a b))

pub facet_length : (bytes f : List ℕ) → names.facet.Spells bytes f → length (names.facet.put f) ≤ length bytes
facet_length bytes f (fs, is, (n, front, rest, parts, size, each)) =
    rw is (omega (arith, facet_by n front rest fs size.0 each, ap length parts, length-append front rest))
