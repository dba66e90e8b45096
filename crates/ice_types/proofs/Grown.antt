-- Tables that have grown keep the rules.
use Rattle.std.proofs.Common.{◌≡◌, ℕ, List, [], ◌∷◌, ◌++◌, length, Some, subst, ◌⊎◌, inl, inr, ◌<◌}
use Rattle.std.specs.Prelude.{slice_get}
use Rattle.ice_types.specs.Tables.{Tables, compact_ids}
use Rattle.ice_types.specs.Fits.{SeqFits, DictFits, StructFits, EnumFits, ClassFits, ExceptionFits, InterfaceFits}
use Rattle.ice_types.specs.Bases.{class_base, exception_base, HasBases}
use Rattle.ice_types.specs.Rules.{HasRoom, EachRow, IsSchema}
use Rattle.ice_types.proofs.Items.{slice_get-push}
use Rattle.ice_types.proofs.RowIds.{AreIds}
use Rattle.ice_types.proofs.CompactIds.{AreCompactIds}
use Rattle.ice_types.proofs.Staying.{Grows, seq_stays, dict_stays, struct_stays, class_stays, exception_stays, interface_stays}

-- each row is an old one at its place, or is so
abbrev pub OldOr : {A : Type 0} → List A → List A → (A → Type 0) → Type 0
OldOr {A} old rows Is = (at : ℕ) (row : A) → slice_get rows at ≡ Some row → (slice_get old at ≡ Some row) ⊎ Is row

pub all_old : {A : Type 0} (rows : List A) (Is : A → Type 0) → OldOr rows rows Is
all_old rows Is at row is = inl is

pub one_new : {A : Type 0} (rows : List A) (Is : A → Type 0) (new : A) → Is new → OldOr rows (rows ++ new ∷ []) Is
one_new rows Is new fits at row is = elim (slice_get-push rows new at row is) [
  | inl old ↦ inl old
  | inr last ↦ inr (subst Is last.1 fits)
]

each_row : {A : Type 0} (old rows : List A) (Was Is : A → Type 0) → EachRow old Was → OldOr old rows Was → ((row : A) → Was row → Is row) → EachRow rows Is
each_row old rows Was Is were from stays at row is = elim (from at row is) [
  | inl there ↦ stays row (were at row there)
  | inr new ↦ stays row new
]

-- Each row is one of before, or fits what was there before.
pub record IsGrown (t u : Tables) : Type 0 where
  pub grows : Grows t u
  pub room : HasRoom u
  pub class_flags : length u.defined_classes ≡ length u.classes
  pub interface_flags : length u.defined_interfaces ≡ length u.interfaces
  pub ids : AreIds u
  pub compact : AreCompactIds (compact_ids u)
  pub seqs : OldOr t.seqs u.seqs (λ q. SeqFits t q.element)
  pub dicts : OldOr t.dicts u.dicts (λ d. DictFits t d.key d.value)
  pub structs : OldOr t.structs u.structs (λ d. StructFits t d.members)
  pub enums : OldOr t.enums u.enums (λ e. EnumFits e.entries)
  pub classes : OldOr t.classes u.classes (λ c. ClassFits t c.base c.members)
  pub exceptions : OldOr t.exceptions u.exceptions (λ e. ExceptionFits t e.base e.members)
  pub interfaces : OldOr t.interfaces u.interfaces (λ i. InterfaceFits t i.bases i.ops)
  pub class_bases : (at : ℕ) → at < length u.classes → (bases : ℕ) × HasBases (class_base u) at bases
  pub exception_bases : (at : ℕ) → at < length u.exceptions → (bases : ℕ) × HasBases (exception_base u) at bases

pub IsSchema-grown : (t u : Tables) → IsSchema t → IsGrown t u → IsSchema u
IsSchema-grown t u kept grown = record {
  room = grown.room;
  class_flags = grown.class_flags;
  interface_flags = grown.interface_flags;
  type_ids = grown.ids.type_ids;
  apart = grown.ids.apart;
  compact_ids = grown.compact.most;
  compact_apart = grown.compact.apart;
  seqs = each_row t.seqs u.seqs (λ q. SeqFits t q.element) (λ q. SeqFits u q.element) kept.seqs grown.seqs (λ q. seq_stays t u grown.grows q.element);
  dicts = each_row t.dicts u.dicts (λ d. DictFits t d.key d.value) (λ d. DictFits u d.key d.value) kept.dicts grown.dicts (λ d. dict_stays t u grown.grows d.key d.value);
  structs = each_row t.structs u.structs (λ d. StructFits t d.members) (λ d. StructFits u d.members) kept.structs grown.structs (λ d. struct_stays t u grown.grows d.members);
  enums = each_row t.enums u.enums (λ e. EnumFits e.entries) (λ e. EnumFits e.entries) kept.enums grown.enums (λ e fits. fits);
  classes = each_row t.classes u.classes (λ c. ClassFits t c.base c.members) (λ c. ClassFits u c.base c.members) kept.classes grown.classes (λ c. class_stays t u grown.grows c.base c.members);
  exceptions = each_row t.exceptions u.exceptions (λ e. ExceptionFits t e.base e.members) (λ e. ExceptionFits u e.base e.members) kept.exceptions grown.exceptions (λ e. exception_stays t u grown.grows e.base e.members);
  interfaces = each_row t.interfaces u.interfaces (λ i. InterfaceFits t i.bases i.ops) (λ i. InterfaceFits u i.bases i.ops) kept.interfaces grown.interfaces (λ i. interface_stays t u grown.grows i.bases i.ops);
  class_bases = grown.class_bases;
  exception_bases = grown.exception_bases;
}
