-- Bytes that are noted as the items of a sequence.
use Rattle.std.proofs.Common.{◌≡◌, ℕ, zero, suc, ◌<◌, ◌↔◌, Bool, true, false, IsTrue, if◌then◌else◌, map, List, [], ◌∷◌, refl, ap, ◌∙◌, arith}
use Rattle.std.proofs.lemmas.Bool.{false≢true}
use Rattle.serde_json.specs.Data.{Data, item, null, number, unsigned}
use Rattle.serde_json.specs.View.{items_of}
use Rattle.ice_types.specs.declared.kind.TypeRef.{TypeRef}
use Rattle.ice_types.specs.declared.kind.TypeRef.TheVariants as kinds
use Rattle.ice_types.specs.Tables.{Tables}
use Rattle.ice_encoding.specs.Tree.{byte}
use Rattle.graph_arena.specs.View.{byte_trees}
use Rattle.graph_json.specs.CanonicalValues.{each_noted, notation_levels, notation_step}

not_a_byte : (t : Tables) (levels : ℕ) (kind : TypeRef) (n : ℕ) → (kind ≡ kinds.Byte → ⊥) → null ≡ notation_step t (notation_levels t levels) kind (byte n)
not_a_byte t levels kinds.Bool n other = refl
not_a_byte t levels kinds.Byte n other = absurd (other refl)
not_a_byte t levels kinds.Short n other = refl
not_a_byte t levels kinds.Int n other = refl
not_a_byte t levels kinds.Long n other = refl
not_a_byte t levels kinds.Text n other = refl
not_a_byte t levels (kinds.Seq at) n other = refl
not_a_byte t levels (kinds.Dict at) n other = refl
not_a_byte t levels (kinds.Struct at) n other = refl
not_a_byte t levels (kinds.Enum at) n other = refl
not_a_byte t levels (kinds.Proxy at) n other = refl
not_a_byte t levels (kinds.Class declared) n other = refl

-- a byte as a number, or null where it is not of the type
abbrev pub byte_noted : Bool → ℕ → Data
byte_noted is_of n = if is_of then number (unsigned n) else null

byte_is : (t : Tables) (levels : ℕ) (kind : TypeRef) (is_of : Bool) (n : ℕ) → (IsTrue is_of ↔ ((0 < levels) × (kind ≡ kinds.Byte))) → byte_noted is_of n ≡ notation_levels t levels kind (byte n)
byte_is t zero kind true n h = absurd (omega (arith, (h.0 refl).0))
byte_is t zero kind false n h = refl
byte_is t (suc levels) kind true n h = rw (h.0 refl).1 refl
byte_is t (suc levels) kind false n h = not_a_byte t levels kind n (λ is. absurd (false≢true (h.1 (omega arith, is))))

pub each_byte : (t : Tables) (levels : ℕ) (kind : TypeRef) (is_of : Bool) (bytes : List ℕ) → (IsTrue is_of ↔ ((0 < levels) × (kind ≡ kinds.Byte))) → items_of (map (byte_noted is_of) bytes) ≡ each_noted (notation_levels t levels kind) (byte_trees bytes)
each_byte t levels kind is_of [] h = refl
each_byte t levels kind is_of (n ∷ bytes) h =
    ap (λ (d : Data). item d (items_of (map (byte_noted is_of) bytes))) (byte_is t levels kind is_of n h) ∙ ap (item (notation_levels t levels kind (byte n))) (each_byte t levels kind is_of bytes h)
