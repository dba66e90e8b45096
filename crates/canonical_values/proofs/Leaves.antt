-- Values without parts: what is found at the front is what is put for it.
use Rattle.std.proofs.Common.{◌≡◌, ◌<◌, ◌^◌, ℕ, ℤ, Bool, List, [], ◌∷◌, length, take, Option, None, Some, refl, sym, ◌∙◌, arith}
use Rattle.std.specs.Prelude.{slice_get, IfSome}
use Rattle.std.specs.Int.{w16, w32, w64, cast_signed, from_le_bytes}
use Rattle.ice_types.specs.declared.kind.TypeRef.TheVariants as kinds
use Rattle.ice_types.specs.declared.kind.TypeRef.{TypeRef}
use Rattle.ice_types.specs.declared.declarations.EnumDecl.{EnumDecl}
use Rattle.ice_types.specs.Tables.{Tables}
use Rattle.ice_prims.specs.Bytes.{bool_bytes, size_bytes, text_bytes}
use Rattle.ice_prims.specs.Laws.{IsTextSize, any}
use Rattle.ice_prims.specs.Rest.{IsBytes}
use Rattle.ice_prims.proofs.Spelled.{short_exact, int_exact, long_exact}
use Rattle.ice_encoding.specs.Tree.{boolean, byte, short, int, long, text, enumerator, reference}
use Rattle.ice_encoding.specs.Enum.{HasNumber}
use Rattle.canonical_values.specs.Fronts.{IsFront}
use Rattle.canonical_values.specs.Standing.{LeafStands, number_length}

pub number_stands : (t : Tables) (kind : TypeRef) (n : ℕ) → number_length kind ≡ Some n → (bytes : List ℕ) → IsBytes bytes → length bytes ≡ n → LeafStands t kind bytes
number_stands t kinds.Byte n e bytes fits many levels = one bytes (many ∙ sym cc) fits levels
  where
    one : (bytes : List ℕ) → length bytes ≡ 1 → IsBytes bytes → LeafStands t kinds.Byte bytes
    one [] is fits levels = absurd (omega (arith, is))
    one (b ∷ []) is fits levels = (byte b, (b, fits 0, refl), refl)
    one (b ∷ c ∷ bs) is fits levels = absurd (omega (arith, is))
number_stands t kinds.Short n e bytes fits many levels =
    let two : length bytes ≡ 2 = many ∙ sym cc in
    let z : ℤ = cast_signed w16 (from_le_bytes w16 bytes) in
    (short z, (z, short_exact.sort bytes z fits (two, refl), refl), short_exact.once bytes z fits (two, refl))
number_stands t kinds.Int n e bytes fits many levels =
    let four : length bytes ≡ 4 = many ∙ sym cc in
    let z : ℤ = cast_signed w32 (from_le_bytes w32 bytes) in
    (int z, (z, int_exact.sort bytes z fits (four, refl), refl), int_exact.once bytes z fits (four, refl))
number_stands t kinds.Long n e bytes fits many levels =
    let eight : length bytes ≡ 8 = many ∙ sym cc in
    let z : ℤ = cast_signed w64 (from_le_bytes w64 bytes) in
    (long z, (z, long_exact.sort bytes z fits (eight, refl), refl), long_exact.once bytes z fits (eight, refl))
number_stands t kinds.Bool n e bytes fits many levels = absurd cc
number_stands t kinds.Text n e bytes fits many levels = absurd cc
number_stands t (kinds.Seq at) n e bytes fits many levels = absurd cc
number_stands t (kinds.Dict at) n e bytes fits many levels = absurd cc
number_stands t (kinds.Struct at) n e bytes fits many levels = absurd cc
number_stands t (kinds.Enum at) n e bytes fits many levels = absurd cc
number_stands t (kinds.Proxy at) n e bytes fits many levels = absurd cc
number_stands t (kinds.Class at) n e bytes fits many levels = absurd cc

pub bool_stands : (t : Tables) (bytes : List ℕ) (b : Bool) (n : ℕ) → IsFront any bool_bytes bytes b n → LeafStands t kinds.Bool (take n bytes)
bool_stands t bytes b n front levels = (boolean b, (b, refl), front.2)

pub text_stands : (t : Tables) (bytes s : List ℕ) (n : ℕ) → IsFront IsTextSize text_bytes bytes s n → LeafStands t kinds.Text (take n bytes)
text_stands t bytes s n front levels = (text s, (s, front.1.0, front.1.1, refl), front.2)

pub enum_stands : (t : Tables) (at : ℕ) (d : EnumDecl) (bytes : List ℕ) (number n : ℕ) → slice_get t.enums at ≡ Some d → HasNumber d.entries number
    → IsFront (λ m. m < 2 ^ 31) size_bytes bytes number n → LeafStands t (kinds.Enum at) (take n bytes)
enum_stands t at d bytes number n row has front levels = (enumerator number, (d, row, number, has, front.1, refl), front.2)

pub null_stands : (t : Tables) (declared : Option ℕ) (bytes : List ℕ) (n : ℕ) → IsFront (λ m. m < 2 ^ 31) size_bytes bytes 0 n → LeafStands t (kinds.Class declared) (take n bytes)
null_stands t declared bytes n front levels = (reference None, (None, refl, refl), front.2)

-- what is found of a bool, and of a text
pub bool_found : (t : Tables) (bytes : List ℕ) (found : Option ℕ) → IfSome found (λ n. (b : Bool) × IsFront any bool_bytes bytes b n) → IfSome found (λ n. LeafStands t kinds.Bool (take n bytes))
bool_found t bytes None h = tt
bool_found t bytes (Some n) (b, front) = bool_stands t bytes b n front

pub text_found : (t : Tables) (bytes : List ℕ) (found : Option ℕ) → IfSome found (λ n. (s : List ℕ) × IsFront IsTextSize text_bytes bytes s n) → IfSome found (λ n. LeafStands t kinds.Text (take n bytes))
text_found t bytes None h = tt
text_found t bytes (Some n) (s, front) = text_stands t bytes s n front
