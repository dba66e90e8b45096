-- Ids that are written spell themselves.
use Rattle.std.proofs.Common.{ℕ, zero, suc, ◌<◌, ◌≤◌, ◌^◌, ◌≡◌, false, List, [], ◌∷◌, length, refl, arith, Option, Some, None, inr}
use Rattle.std.specs.Prelude.{slice_get}
use Rattle.ice_types.specs.Tables.{Tables}
use Rattle.ice_types.specs.CompactIds.{numbered_id, is_numbered, IsSliceId}
use Rattle.ice_prims.specs.Bytes.{text_bytes, size_bytes}
use Rattle.ice_encoding.specs.Graph.{Slice, known, unknown}
use Rattle.ice_encoding.specs.References.{State, GoesBack}
use Rattle.ice_encoding.specs.Flags.{as_text, as_index, as_number, Reach}
use Rattle.ice_encoding.specs.TypeIds.{with_id, SpellsId}
use Rattle.ice_encoding.specs.Instances.{instances}
use Rattle.ice_encoding.specs.CanonicalGraph.{id_in, row_id}
use Rattle.graph_laws.proofs.ClassIds.{IsText}
use Rattle.graph_laws.proofs.WrittenValues.{size_spelled}

abbrev pub Spelled : Type 0
Spelled = State (Unit {0})

-- each slice of a known class is written under an id
abbrev pub HaveTexts : Tables → List Slice → Type 0
HaveTexts t [] = Unit {0}
HaveTexts t (known class content ∷ ss) = IsSliceId (row_id (slice_get t.classes class)) × HaveTexts t ss
HaveTexts t (unknown id bytes optionals table ∷ ss) = HaveTexts t ss

-- each slice of an exception is written under a type id as a text
abbrev pub HaveTypeTexts : Tables → List Slice → Type 0
HaveTypeTexts t [] = Unit {0}
HaveTypeTexts t (known class content ∷ ss) = IsText (id_in (slice_get t.classes class)) × HaveTypeTexts t ss
HaveTypeTexts t (unknown id bytes optionals table ∷ ss) = (is_numbered id ≡ false) × HaveTypeTexts t ss

pub text_spelled : (id : List ℕ) (s : Spelled) → IsText id → length id < 2 ^ 31 → SpellsId as_text (text_bytes id) id s (with_id id s)
text_spelled id s text lt = (((size_bytes (length id), size_spelled (length id) lt, text.0, refl), text.1), refl)

pub index_spelled : (i : ℕ) (id : List ℕ) (s : Spelled) → suc i < 2 ^ 31 → slice_get s.ids i ≡ Some id → SpellsId as_index (size_bytes (suc i)) id s s
index_spelled i id s lt row = (i, size_spelled (suc i) lt, row, refl)

pub number_spelled : (n : ℕ) (id : List ℕ) (s : Spelled) → n ≤ 2147483647 → id ≡ numbered_id n → SpellsId as_number (size_bytes n) id s s
number_spelled n id s le is = (n, size_spelled n (omega (arith, le)), is, refl)

-- ---- what stands at a reference

module _ (t : Tables) (reach : Reach) (room : ℕ) where
  pub null_at : (more : ℕ) (declared : Option ℕ) (s : Spelled) → (instances t reach room more).Spells declared (size_bytes 0) None s s
  null_at zero declared s = (size_spelled 0 (omega arith), refl)
  null_at (suc more) declared s = (size_spelled 0 (omega arith), refl)

  pub back_at : (more : ℕ) (declared : Option ℕ) (bytes : List ℕ) (n : ℕ) (from to : Spelled) → GoesBack room declared bytes n from to → (instances t reach room more).Spells declared bytes (Some n) from to
  back_at zero declared bytes n from to h = inr h
  back_at (suc more) declared bytes n from to h = inr h
