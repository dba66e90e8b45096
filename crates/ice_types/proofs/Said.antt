-- What is said of each row, and kept beside it.
use Rattle.std.proofs.Common.{◌≡◌, ℕ, zero, suc, max, List, [], ◌∷◌, ◌++◌, length, Option, Some, None, refl, sym, ap, ◌∙◌, arith, inl, inr}
use Rattle.std.specs.Prelude.{slice_get, ◌&&◌}
use Rattle.std.proofs.lemmas.List.{length-append}
use Rattle.ice_types.specs.declared.declarations.SeqDecl.{SeqDecl}
use Rattle.ice_types.specs.declared.declarations.DictDecl.{DictDecl}
use Rattle.ice_types.specs.declared.declarations.StructDecl.{StructDecl}
use Rattle.ice_types.specs.declared.declarations.EnumDecl.{EnumDecl}
use Rattle.ice_types.specs.declared.kind.TypeRef.TheVariants as kinds
use Rattle.ice_types.specs.declared.measure.Measure.{Measure}
use Rattle.ice_types.specs.Tables.{Tables}
use Rattle.ice_types.specs.Measures.{measure, measure_members, container, enumeration, structure, sequence_of, dictionary_of, struct_of}
use Rattle.ice_types.specs.Rules.{IsSchema}
use Rattle.ice_types.proofs.Items.{slice_get-push, both_end, AreBoth, one_length}

-- ---- what is kept beside the rows

-- of each row something is said, and of nothing else
pub record Says {A : Type 0} (rows : List A) (says : ℕ → Option Measure) : Type 0 where
  pub row : (at : ℕ) (x : A) → slice_get rows at ≡ Some x → (m : Measure) × (says at ≡ Some m)
  pub none : (at : ℕ) → slice_get rows at ≡ None → says at ≡ None

module _ {A : Type 0} (rows : List A) (found : List Measure) (says later : ℕ → Option Measure) (told : Says rows says) (are : (at : ℕ) → slice_get found at ≡ says at)
    (stays : (at : ℕ) (m : Measure) → says at ≡ Some m → later at ≡ Some m) where
  pub are_kept : ((at : ℕ) → slice_get rows at ≡ None → later at ≡ None) → (at : ℕ) → slice_get found at ≡ later at
  are_kept none at = by_row (slice_get rows at) refl
    where
      by_row : (row : Option A) → slice_get rows at ≡ row → slice_get found at ≡ later at
      by_row None e = are at ∙ told.none at e ∙ sym (none at e)
      by_row (Some x) e = let m = told.row at x e in are at ∙ m.1 ∙ sym (stays at m.0 m.1)

  pub as_many : length rows ≡ length found
  unfolding AreBoth
  as_many = one_length rows found (λ at. ((λ x e. let m = told.row at x e in (m.0, are at ∙ m.1)), (λ e. are at ∙ told.none at e)))

  pub are_pushed : (new : A) (m : Measure) → later (length rows) ≡ Some m → ((at : ℕ) → slice_get (rows ++ new ∷ []) at ≡ None → later at ≡ None) → (at : ℕ) → slice_get (found ++ m ∷ []) at ≡ later at
  are_pushed new m last none at = by_item (slice_get (found ++ m ∷ []) at) refl
    where
      by_item : (item : Option Measure) → slice_get (found ++ m ∷ []) at ≡ item → slice_get (found ++ m ∷ []) at ≡ later at
      by_item None e = e ∙ sym (none at (both_end (found ++ m ∷ []) (rows ++ new ∷ []) (omega (arith, length-append found (m ∷ []), length-append rows (new ∷ []), as_many)) at e))
      by_item (Some x) e = elim (slice_get-push found m at x e) [
        | inl there ↦ e ∙ sym (stays at x (sym (are at) ∙ there))
        | inr new ↦ e ∙ sym (ap Some new.1) ∙ sym last ∙ ap later (as_many ∙ sym new.0)
      ]

-- ---- what is said of a row

pub seq_says : (t : Tables) (levels at : ℕ) (q : SeqDecl) (m : Measure) → slice_get t.seqs at ≡ Some q → sequence_of (measure t levels q.element) ≡ Some m → measure t (suc levels) (kinds.Seq at) ≡ Some m
unfolding measure
seq_says t levels at q m row e = rw row e

pub dict_says : (t : Tables) (levels at : ℕ) (d : DictDecl) (m : Measure) → slice_get t.dicts at ≡ Some d → dictionary_of (measure t levels d.key) (measure t levels d.value) ≡ Some m → measure t (suc (suc levels)) (kinds.Dict at) ≡ Some m
unfolding measure
dict_says t levels at d m row e = rw row e

pub struct_says : (t : Tables) (levels at : ℕ) (d : StructDecl) (m : Measure) → slice_get t.structs at ≡ Some d → struct_of (measure_members (measure t levels) d.members) ≡ Some m → measure t (suc levels) (kinds.Struct at) ≡ Some m
unfolding measure
struct_says t levels at d m row e = rw row e

pub no_seq : (t : Tables) (levels at : ℕ) → slice_get t.seqs at ≡ None → measure t levels (kinds.Seq at) ≡ None
unfolding measure
no_seq t zero at e = refl
no_seq t (suc levels) at e = rw e refl

pub no_dict : (t : Tables) (levels at : ℕ) → slice_get t.dicts at ≡ None → measure t levels (kinds.Dict at) ≡ None
unfolding measure
no_dict t zero at e = refl
no_dict t (suc zero) at e = refl
no_dict t (suc (suc levels)) at e = rw e refl

pub no_struct : (t : Tables) (levels at : ℕ) → slice_get t.structs at ≡ None → measure t levels (kinds.Struct at) ≡ None
unfolding measure
no_struct t zero at e = refl
no_struct t (suc levels) at e = rw e refl

pub enum_says : (t : Tables) (levels at : ℕ) (x : EnumDecl) → slice_get t.enums at ≡ Some x → measure t (suc levels) (kinds.Enum at) ≡ Some enumeration
unfolding measure
enum_says t levels at x row = rw row refl

pub no_enum : (t : Tables) (levels at : ℕ) → slice_get t.enums at ≡ None → measure t levels (kinds.Enum at) ≡ None
unfolding measure
no_enum t zero at e = refl
no_enum t (suc levels) at e = rw e refl

pub of_seqs_says : (t : Tables) → IsSchema t → Says t.seqs (λ at. measure t 100 (kinds.Seq at))
of_seqs_says t kept = record {
  row = λ at q e. let fits = kept.seqs at q e in (container (suc fits.0.depth) fits.0.is_built, seq_says t 99 at q (container (suc fits.0.depth) fits.0.is_built) e (rw fits.1 refl));
  none = no_seq t 100;
}

pub of_dicts_says : (t : Tables) → IsSchema t → Says t.dicts (λ at. measure t 100 (kinds.Dict at))
of_dicts_says t kept = record {
  row = λ at d e. let fits = kept.dicts at d e in (container (suc (suc (max fits.0.depth fits.1.depth))) (fits.0.is_built && fits.1.is_built), dict_says t 98 at d (container (suc (suc (max fits.0.depth fits.1.depth))) (fits.0.is_built && fits.1.is_built)) e (rw (fits.2, fits.4) refl));
  none = no_dict t 100;
}

pub of_structs_says : (t : Tables) → IsSchema t → Says t.structs (λ at. measure t 100 (kinds.Struct at))
of_structs_says t kept = record {
  row = λ at d e. let fits = kept.structs at d e in (structure fits.0, struct_says t 99 at d (structure fits.0) e (rw fits.1 refl));
  none = no_struct t 100;
}

pub of_enums_says : (t : Tables) → Says t.enums (λ at. measure t 100 (kinds.Enum at))
of_enums_says t = record {
  row = λ at x e. (enumeration, enum_says t 99 at x e);
  none = no_enum t 100;
}
