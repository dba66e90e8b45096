-- What is the same in two schemas is so from the other side.
use Rattle.std.proofs.Common.{ℕ, List, [], ◌∷◌, refl, sym, subst, Option, Some, None}
use Rattle.ice_types.specs.declared.kind.TypeRef.{TypeRef}
use Rattle.ice_types.specs.declared.kind.TypeRef.TheVariants as kinds
use Rattle.ice_types.specs.declared.kind.RowRef.{RowRef}
use Rattle.ice_types.specs.declared.kind.RowRef.TheVariants as rows
use Rattle.ice_types.specs.declared.declarations.Entry.{Entry}
use Rattle.ice_types.specs.declared.declarations.Member.{Member}
use Rattle.ice_types.specs.declared.declarations.Shape.{Shape}
use Rattle.ice_types.specs.Tables.{Tables}
use Rattle.ice_types.specs.Lacking.{AreSame, SameEntry, SameId, SameKind, SameMember, SameShape, SameBase}
use Rattle.graph_laws.proofs.Rows.{Agrees}

each_flipped : {A : Type 0} (One Two : A → A → Type 0) → ((x y : A) → One x y → Two y x) → (xs ys : List A) → AreSame One xs ys → AreSame Two ys xs
each_flipped One Two flip [] [] h = tt
each_flipped One Two flip [] (y ∷ ys) h = absurd h
each_flipped One Two flip (x ∷ xs) [] h = absurd h
each_flipped One Two flip (x ∷ xs) (y ∷ ys) h = (flip x y h.0, each_flipped One Two flip xs ys h.1)

module _ (t u : Tables) where
  pub id_flipped : (a b : RowRef) → SameId t u a b → SameId u t b a
  id_flipped a b (id, here, there) = (id, there, here)

  pub base_flipped : (o p : Option ℕ) → SameBase t u rows.Class o p → SameBase u t rows.Class p o
  base_flipped None p none = subst (λ (p : Option ℕ). SameBase u t rows.Class p None) (sym none) refl
  base_flipped (Some a) p (b, is, same) = subst (λ (p : Option ℕ). SameBase u t rows.Class p (Some a)) (sym is) (a, refl, id_flipped (rows.Class a) (rows.Class b) same)

  kind_flipped : (k l : TypeRef) → SameKind t u k l → SameKind u t l k
  kind_flipped kinds.Bool l e = subst (λ (l : TypeRef). SameKind u t l kinds.Bool) (sym e) refl
  kind_flipped kinds.Byte l e = subst (λ (l : TypeRef). SameKind u t l kinds.Byte) (sym e) refl
  kind_flipped kinds.Short l e = subst (λ (l : TypeRef). SameKind u t l kinds.Short) (sym e) refl
  kind_flipped kinds.Int l e = subst (λ (l : TypeRef). SameKind u t l kinds.Int) (sym e) refl
  kind_flipped kinds.Long l e = subst (λ (l : TypeRef). SameKind u t l kinds.Long) (sym e) refl
  kind_flipped kinds.Text l e = subst (λ (l : TypeRef). SameKind u t l kinds.Text) (sym e) refl
  kind_flipped (kinds.Seq a) l (b, is, same) = subst (λ (l : TypeRef). SameKind u t l (kinds.Seq a)) (sym is) (a, refl, id_flipped (rows.Seq a) (rows.Seq b) same)
  kind_flipped (kinds.Dict a) l (b, is, same) = subst (λ (l : TypeRef). SameKind u t l (kinds.Dict a)) (sym is) (a, refl, id_flipped (rows.Dict a) (rows.Dict b) same)
  kind_flipped (kinds.Struct a) l (b, is, same) = subst (λ (l : TypeRef). SameKind u t l (kinds.Struct a)) (sym is) (a, refl, id_flipped (rows.Struct a) (rows.Struct b) same)
  kind_flipped (kinds.Enum a) l (b, is, same) = subst (λ (l : TypeRef). SameKind u t l (kinds.Enum a)) (sym is) (a, refl, id_flipped (rows.Enum a) (rows.Enum b) same)
  kind_flipped (kinds.Proxy None) l e = subst (λ (l : TypeRef). SameKind u t l (kinds.Proxy None)) (sym e) refl
  kind_flipped (kinds.Proxy (Some a)) l (b, is, same) = subst (λ (l : TypeRef). SameKind u t l (kinds.Proxy (Some a))) (sym is) (a, refl, id_flipped (rows.Interface a) (rows.Interface b) same)
  kind_flipped (kinds.Class None) l e = subst (λ (l : TypeRef). SameKind u t l (kinds.Class None)) (sym e) refl
  kind_flipped (kinds.Class (Some a)) l (b, is, same) = subst (λ (l : TypeRef). SameKind u t l (kinds.Class (Some a))) (sym is) (a, refl, id_flipped (rows.Class a) (rows.Class b) same)

  member_flipped : (m n : Member) → SameMember t u m n → SameMember u t n m
  member_flipped m n h = (sym h.0, kind_flipped m.kind n.kind h.1, sym h.2)

  members_flipped : (ms ns : List Member) → AreSame (SameMember t u) ms ns → AreSame (SameMember u t) ns ms
  members_flipped = each_flipped (SameMember t u) (SameMember u t) member_flipped

  pub shape_flipped : (shape other : Shape) → SameShape t u shape other → SameShape u t other shape
  shape_flipped shape other h = (members_flipped shape.required other.required h.0, members_flipped shape.optional other.optional h.1)

  entry_flipped : (x y : Entry) → SameEntry x y → SameEntry y x
  entry_flipped x y h = (sym h.0, sym h.1)

  pub rows_flipped : Agrees t u → Agrees u t
  rows_flipped rs = record {
    seqs = λ a b s. let r = rs.seqs b a (s.0, s.2, s.1) in (r.1, r.0, r.3, r.2, kind_flipped r.0.element r.1.element r.4);
    dicts = λ a b s. let r = rs.dicts b a (s.0, s.2, s.1) in (r.1, r.0, r.3, r.2, (kind_flipped r.0.key r.1.key r.4.0, kind_flipped r.0.value r.1.value r.4.1));
    structs = λ a b s. let r = rs.structs b a (s.0, s.2, s.1) in (r.1, r.0, r.3, r.2, members_flipped r.0.members r.1.members r.4);
    enums = λ a b s. let r = rs.enums b a (s.0, s.2, s.1) in (r.1, r.0, r.3, r.2, each_flipped SameEntry SameEntry entry_flipped r.0.entries r.1.entries r.4);
    classes = λ a b s. let r = rs.classes b a (s.0, s.2, s.1) in (r.1, r.0, r.3, r.2, (base_flipped r.0.base r.1.base r.4.0, members_flipped r.0.members r.1.members r.4.1, sym r.4.2));
  }
