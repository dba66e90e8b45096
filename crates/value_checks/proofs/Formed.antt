-- A value is of a type where it is so by its form.
use Rattle.std.proofs.Common.{ℕ, suc, ◌≡◌, IsTrue, ◌↔◌, Bool, refl, sym, subst}
use Rattle.ice_types.specs.declared.kind.TypeRef.{TypeRef}
use Rattle.ice_types.specs.declared.kind.TypeRef.TheVariants as kinds
use Rattle.ice_types.specs.Tables.{Tables}
use Rattle.ice_encoding.specs.Tree.{Tree, boolean, byte, short, int, long, text, sequence, dictionary, struct, enumerator, proxy, reference}
use Rattle.ice_encoding.specs.Typed.{Refers, HasType}
use Rattle.value_checks.specs.Forms.{HasForm}

module _ (t : Tables) (Refer : Refers) (levels : ℕ) where
  abbrev pub Form : TypeRef → Tree → Type 0
  Form = HasForm t Refer levels

  pub to_form : (kind : TypeRef) (v : Tree) → HasType t Refer (suc levels) kind v → Form kind v
  to_form kinds.Bool v (b, is) = subst (Form kinds.Bool) (sym is) refl
  to_form kinds.Byte v (n, fits, is) = subst (Form kinds.Byte) (sym is) (refl, fits)
  to_form kinds.Short v (z, fits, is) = subst (Form kinds.Short) (sym is) (refl, fits)
  to_form kinds.Int v (z, fits, is) = subst (Form kinds.Int) (sym is) (refl, fits)
  to_form kinds.Long v (z, fits, is) = subst (Form kinds.Long) (sym is) (refl, fits)
  to_form kinds.Text v (s, valid, few, is) = subst (Form kinds.Text) (sym is) (refl, valid, few)
  to_form (kinds.Seq at) v (q, row, items, is, few, all) = subst (Form (kinds.Seq at)) (sym is) (at, refl, q, row, few, all)
  to_form (kinds.Dict at) v (d, row, pairs, is, few, rising, all) = subst (Form (kinds.Dict at)) (sym is) (at, refl, d, row, few, rising, all)
  to_form (kinds.Struct at) v (d, row, members, is, all) = subst (Form (kinds.Struct at)) (sym is) (at, refl, d, row, all)
  to_form (kinds.Enum at) v (e, row, n, has, small, is) = subst (Form (kinds.Enum at)) (sym is) (at, refl, e, row, has, small)
  to_form (kinds.Proxy at) v (p, fits, is) = subst (Form (kinds.Proxy at)) (sym is) (at, refl, fits)
  to_form (kinds.Class declared) v (n, stands, is) = subst (Form (kinds.Class declared)) (sym is) (declared, refl, stands)

  abbrev pub Of : Tree → TypeRef → Type 0
  Of v kind = HasType t Refer (suc levels) kind v

  pub from_form : (kind : TypeRef) (v : Tree) → Form kind v → HasType t Refer (suc levels) kind v
  from_form kind (boolean b) is = subst (Of (boolean b)) (sym is) (b, refl)
  from_form kind (byte n) (is, fits) = subst (Of (byte n)) (sym is) (n, fits, refl)
  from_form kind (short z) (is, fits) = subst (Of (short z)) (sym is) (z, fits, refl)
  from_form kind (int z) (is, fits) = subst (Of (int z)) (sym is) (z, fits, refl)
  from_form kind (long z) (is, fits) = subst (Of (long z)) (sym is) (z, fits, refl)
  from_form kind (text s) (is, valid, few) = subst (Of (text s)) (sym is) (s, valid, few, refl)
  from_form kind (sequence items) (at, is, q, row, few, all) = subst (Of (sequence items)) (sym is) (q, row, items, refl, few, all)
  from_form kind (dictionary pairs) (at, is, d, row, few, rising, all) = subst (Of (dictionary pairs)) (sym is) (d, row, pairs, refl, few, rising, all)
  from_form kind (struct members) (at, is, d, row, all) = subst (Of (struct members)) (sym is) (d, row, members, refl, all)
  from_form kind (enumerator n) (at, is, e, row, has, small) = subst (Of (enumerator n)) (sym is) (e, row, n, has, small, refl)
  from_form kind (proxy p) (at, is, fits) = subst (Of (proxy p)) (sym is) (p, fits, refl)
  from_form kind (reference n) (declared, is, stands) = subst (Of (reference n)) (sym is) (n, stands, refl)

pub typed_as_formed : (t : Tables) (Refer : Refers) (levels less : ℕ) (kind : TypeRef) (v : Tree) (tells : Bool) → levels ≡ suc less → (IsTrue tells ↔ HasForm t Refer less kind v)
    → IsTrue tells ↔ HasType t Refer levels kind v
typed_as_formed t Refer levels less kind v tells is h =
    subst (λ (n : ℕ). IsTrue tells ↔ HasType t Refer n kind v) (sym is) ((λ f. from_form t Refer less kind v (h.0 f)), (λ of. h.1 (to_form t Refer less kind v of)))
