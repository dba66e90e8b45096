-- A header is read with the fault of its first byte that may not stand there.
use Rattle.std.proofs.Common.{◌≡◌, ◌≢◌, ℕ, ◌+◌, ◌≤◌, ◌<◌, Bool, true, false, leb, List, [], ◌∷◌, ◌++◌, length, Ok, refl, sym, ap, ◌∙◌, arith}
use Rattle.std.specs.Str.{bytes_eq}
use Rattle.std.proofs.lemmas.Bool.{lt-leb, le-leb}
use Rattle.std.proofs.lemmas.List.{length-append}
use Rattle.std.proofs.lemmas.Slice.Eq.{bytes_eq-Decides}
use Rattle.ice_prims.specs.declared.fault.Kind.{Kind}
use Rattle.ice_prims.specs.declared.fault.Kind.TheVariants.{BadMagic, BadVersion, BadMessage, Compressed, BadStatus}
use Rattle.ice_prims.proofs.Parts.{bytes_only}
use Rattle.ice_encoding.specs.Parts.{byte, exactly}
use Rattle.ice_encoding.proofs.Joined.{exactly_lawful}
use Rattle.ice_messages.specs.Messages.{header, magic, versions, message_type}
use Rattle.ice_messages.specs.Breaks.{magic_bytes, version_bytes}
use Rattle.ice_messages.proofs.Settled.{at}
use Rattle.ice_messages.proofs.Breaking.{failed}

-- ---- bytes that are others than the known ones

pub not_equal : (a known : List ℕ) → a ≢ known → (b : Bool) → bytes_eq a known ≡ b → bytes_eq a known ≡ false
not_equal a known ne true e = absurd (ne ((bytes_eq-Decides a known).0 e))
not_equal a known ne false e = e

other_bytes : (place : ℕ) (known a more : List ℕ) (kind : Kind) → length a ≡ length known → a ≢ known → (exactly known kind).read (at place (a ++ more)) ≡ failed (record { place = place; kind = kind })
other_bytes place known a more kind long ne =
    let stands = bytes_only (length known) (at place (a ++ more)) (at (place + length a) more) a long (record { parts = refl; moved = refl }) in
    let differs : bytes_eq a known ≡ false = not_equal a known ne (bytes_eq a known) refl in
    rw (stands, differs) refl

same_bytes : (place : ℕ) (known more : List ℕ) (kind : Kind) → (exactly known kind).read (at place (known ++ more)) ≡ Ok (tt, at (place + length known) more)
same_bytes place known more kind = (exactly_lawful known kind).only (at place (known ++ more)) (at (place + length known) more) known tt (record { parts = refl; moved = refl }) refl

other_byte : (place k b : ℕ) (more : List ℕ) (kind : Kind) → b ≢ k → (exactly (k ∷ []) kind).read (at place (b ∷ more)) ≡ failed (record { place = place; kind = kind })
other_byte place k b more kind ne = other_bytes place (k ∷ []) (b ∷ []) more kind refl (λ e. let same : b ≡ k = cc in ne same)

-- ---- `IceP`

magic_other : (same : List ℕ) (b due : ℕ) (more left : List ℕ) → magic_bytes ≡ same ++ due ∷ left → b ≢ due → magic.read (at 0 (same ++ b ∷ more)) ≡ failed (record { place = length same; kind = BadMagic })
magic_other [] b due more left e ne =
    let k : due ≡ 73 = cc in
    rw (other_byte 0 73 b more BadMagic (λ h. ne (h ∙ sym k))) refl
magic_other (i ∷ []) b due more left e ne =
    let i_is : i ≡ 73 = cc in let k : due ≡ 99 = cc in
    rw (i_is, same_bytes 0 (73 ∷ []) (b ∷ more) BadMagic, other_byte 1 99 b more BadMagic (λ h. ne (h ∙ sym k))) refl
magic_other (i ∷ (c ∷ [])) b due more left e ne =
    let i_is : i ≡ 73 = cc in let c_is : c ≡ 99 = cc in let k : due ≡ 101 = cc in
    rw (i_is, c_is, same_bytes 0 (73 ∷ []) (99 ∷ b ∷ more) BadMagic, same_bytes 1 (99 ∷ []) (b ∷ more) BadMagic, other_byte 2 101 b more BadMagic (λ h. ne (h ∙ sym k))) refl
magic_other (i ∷ (c ∷ (x ∷ []))) b due more left e ne =
    let i_is : i ≡ 73 = cc in let c_is : c ≡ 99 = cc in let x_is : x ≡ 101 = cc in let k : due ≡ 80 = cc in
    rw (i_is, c_is, x_is, same_bytes 0 (73 ∷ []) (99 ∷ 101 ∷ b ∷ more) BadMagic, same_bytes 1 (99 ∷ []) (101 ∷ b ∷ more) BadMagic, same_bytes 2 (101 ∷ []) (b ∷ more) BadMagic, other_byte 3 80 b more BadMagic (λ h. ne (h ∙ sym k))) refl
magic_other (i ∷ (c ∷ (x ∷ (p ∷ rest)))) b due more left e ne = absurd (omega (arith, ap length e, length-append rest (due ∷ left)))

magic_same : (more : List ℕ) → magic.read (at 0 (magic_bytes ++ more)) ≡ Ok (tt, at 4 more)
magic_same more = rw (same_bytes 0 (73 ∷ []) (99 ∷ 101 ∷ 80 ∷ more) BadMagic, same_bytes 1 (99 ∷ []) (101 ∷ 80 ∷ more) BadMagic, same_bytes 2 (101 ∷ []) (80 ∷ more) BadMagic, same_bytes 3 (80 ∷ []) more BadMagic) refl

-- ---- a version, two bytes that are one part

-- a first byte that is another one, or a second one behind a 1
version_other : (place : ℕ) (same : List ℕ) (b due : ℕ) (more left : List ℕ) → version_bytes ≡ same ++ due ∷ left → b ≢ due → 1 ≤ length more
    → (exactly version_bytes BadVersion).read (at place (same ++ b ∷ more)) ≡ failed (record { place = place; kind = BadVersion })
version_other place [] b due [] left e ne some = absurd (omega (arith, some))
version_other place [] b due (c ∷ more) left e ne some =
    let k : due ≡ 1 = cc in
    other_bytes place version_bytes (b ∷ c ∷ []) more BadVersion refl (λ h. let first : b ≡ 1 = cc in ne (first ∙ sym k))
version_other place (x ∷ []) b due more left e ne some =
    let k : due ≡ 0 = cc in
    other_bytes place version_bytes (x ∷ b ∷ []) more BadVersion refl (λ h. let second : b ≡ 0 = cc in ne (second ∙ sym k))
version_other place (x ∷ (y ∷ rest)) b due more left e ne some = absurd (omega (arith, ap length e, length-append rest (due ∷ left)))

-- ---- the header, whose bytes are all there

pub header_magic : (same : List ℕ) (b due : ℕ) (more left : List ℕ) → magic_bytes ≡ same ++ due ∷ left → b ≢ due → header.read (at 0 (same ++ b ∷ more)) ≡ failed (record { place = length same; kind = BadMagic })
header_magic same b due more left e ne = rw (magic_other same b due more left e ne) refl

pub header_protocol : (same : List ℕ) (b due : ℕ) (more left : List ℕ) → version_bytes ≡ same ++ due ∷ left → b ≢ due → 1 ≤ length more
    → header.read (at 0 (magic_bytes ++ (same ++ b ∷ more))) ≡ failed (record { place = 4; kind = BadVersion })
header_protocol same b due more left e ne some = rw (magic_same (same ++ b ∷ more), version_other 4 same b due more left e ne some) refl

pub header_encoding : (same : List ℕ) (b due : ℕ) (more left : List ℕ) → version_bytes ≡ same ++ due ∷ left → b ≢ due → 1 ≤ length more
    → header.read (at 0 (magic_bytes ++ (version_bytes ++ (same ++ b ∷ more)))) ≡ failed (record { place = 6; kind = BadVersion })
header_encoding same b due more left e ne some =
    rw (magic_same (version_bytes ++ (same ++ b ∷ more)), same_bytes 4 version_bytes (same ++ b ∷ more) BadVersion, version_other 6 same b due more left e ne some) refl

versions_same : (more : List ℕ) → versions.read (at 4 (version_bytes ++ (version_bytes ++ more))) ≡ Ok (tt, at 8 more)
versions_same more = rw (same_bytes 4 version_bytes (version_bytes ++ more) BadVersion, same_bytes 6 version_bytes more BadVersion) refl

one_byte : (place b : ℕ) (more : List ℕ) → byte.read (at place (b ∷ more)) ≡ Ok (b, at (place + 1) more)
one_byte place b more =
    let stands = bytes_only 1 (at place (b ∷ more)) (at (place + 1) more) (b ∷ []) refl (record { parts = refl; moved = refl }) in
    rw stands refl

pub header_type : (t : ℕ) (more : List ℕ) → 4 < t → header.read (at 0 (magic_bytes ++ (version_bytes ++ (version_bytes ++ t ∷ more)))) ≡ failed (record { place = 8; kind = BadMessage })
header_type t more large =
    let off : leb t 4 ≡ false = lt-leb _ _ large in
    rw (magic_same (version_bytes ++ (version_bytes ++ t ∷ more)), versions_same (t ∷ more), one_byte 8 t more, off) refl

type_same : (t : ℕ) (more : List ℕ) → t ≤ 4 → message_type.read (at 8 (t ∷ more)) ≡ Ok (t, at 9 more)
type_same t more small = let fine : leb t 4 ≡ true = le-leb _ _ small in rw (one_byte 8 t more, fine) refl

pub header_compressed : (t : ℕ) (more : List ℕ) → t ≤ 4 → header.read (at 0 (magic_bytes ++ (version_bytes ++ (version_bytes ++ t ∷ 2 ∷ more)))) ≡ failed (record { place = 9; kind = Compressed })
header_compressed t more small =
    rw (magic_same (version_bytes ++ (version_bytes ++ t ∷ 2 ∷ more)), versions_same (t ∷ 2 ∷ more), type_same t (2 ∷ more) small, one_byte 9 2 more) refl

pub header_compression : (t s : ℕ) (more : List ℕ) → t ≤ 4 → 2 < s → header.read (at 0 (magic_bytes ++ (version_bytes ++ (version_bytes ++ t ∷ s ∷ more)))) ≡ failed (record { place = 9; kind = BadStatus })
header_compression t s more small large =
    let off : leb s 2 ≡ false = lt-leb _ _ large in
    rw (magic_same (version_bytes ++ (version_bytes ++ t ∷ s ∷ more)), versions_same (t ∷ s ∷ more), type_same t (s ∷ more) small, one_byte 9 s more, off) refl
