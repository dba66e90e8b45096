-- What a walk over the parts of a value tells of the value.
use Rattle.std.proofs.Common.{◌≡◌, ℕ, zero, suc, ◌<◌, ◌≤◌, ◌^◌, Bool, IsTrue, ◌↔◌, List, [], ◌∷◌, length, map, drop, nat_eq, slice_index_or, Fits, w8, refl, sym, ap, ◌∙◌, subst, arith, Some}
use Rattle.std.specs.Prelude.{slice_get}
use Rattle.std.proofs.lemmas.Bool.{eqb-true, eq-eqb}
use Rattle.ice_types.specs.declared.kind.TypeRef.{TypeRef}
use Rattle.ice_types.specs.declared.kind.TypeRef.TheVariants as kinds
use Rattle.ice_types.specs.declared.declarations.SeqDecl.{SeqDecl}
use Rattle.ice_types.specs.declared.declarations.DictDecl.{DictDecl}
use Rattle.ice_types.specs.declared.declarations.EnumDecl.{EnumDecl}
use Rattle.ice_types.specs.declared.declarations.Entry.{Entry}
use Rattle.ice_types.specs.declared.declarations.Member.{Member}
use Rattle.ice_types.specs.Tables.{Tables}
use Rattle.ice_encoding.specs.Enum.{HasNumber}
use Rattle.ice_encoding.specs.Order.{IsRising}
use Rattle.ice_encoding.specs.Tree.{Tree, byte, sequence, dictionary, Trees, tree_count}
use Rattle.ice_encoding.specs.Typed.{AllOf, EachOf, PairsOf, Refers, no_reference, HasType}
use Rattle.graph_arena.specs.declared.value.Value.{Value}
use Rattle.graph_arena.specs.declared.value.Value.TheVariants as variants
use Rattle.graph_arena.proofs.Shapes.{view_bytes}
use Rattle.graph_arena.specs.View.{byte_trees, view, view_all, view_pairs}
use Rattle.graph_arena.proofs.Shapes.{count_all, count_pairs}
use Rattle.value_checks.specs.Forms.{HasForm, IsEnumerator}
use Rattle.value_checks.proofs.Formed.{to_form, from_form}

-- ---- one row of a table

same_row : {A : Type 0} (rows table : List A) (at other : ℕ) (x y : A) → rows ≡ table → Some x ≡ slice_get rows at → other ≡ at → slice_get table other ≡ Some y → y ≡ x
same_row rows table at other x y same here is there =
    let both : Some x ≡ Some y = here ∙ (ap (λ l. slice_get l at) same ∙ (ap (slice_get table) (sym is) ∙ there)) in
    cc

seq_place : (a b : ℕ) → kinds.Seq a ≡ kinds.Seq b → a ≡ b
seq_place a b e = cc

dict_place : (a b : ℕ) → kinds.Dict a ≡ kinds.Dict b → a ≡ b
dict_place a b e = cc

enum_place : (a b : ℕ) → kinds.Enum a ≡ kinds.Enum b → a ≡ b
enum_place a b e = cc

count_bytes : (bytes : List ℕ) → tree_count (byte_trees bytes) ≡ length bytes
count_bytes [] = refl
count_bytes (n ∷ bytes) = ap suc (count_bytes bytes)

module _ (t : Tables) (kind : TypeRef) (at : ℕ) where
  trees_told : (Refer : Refers) (levels : ℕ) (rows : List SeqDecl) (q : SeqDecl) (items : Trees) (tells : Bool)
      → kind ≡ kinds.Seq at → rows ≡ t.seqs → Some q ≡ slice_get rows at → tree_count items < 2 ^ 31
      → (IsTrue tells ↔ AllOf (HasType t Refer levels q.element) items) → IsTrue tells ↔ HasForm t Refer levels kind (sequence items)
  trees_told Refer levels rows q items tells is same row few h = (
    (λ e. (at, is, q, ap (λ l. slice_get l at) (sym same) ∙ sym row, few, h.0 e)),
    (λ f. h.1 (subst (λ (x : SeqDecl). AllOf (HasType t Refer levels x.element) items) (same_row rows t.seqs at f.0 q f.2 same row (seq_place f.0 at (sym f.1 ∙ is)) f.3) f.5)),
  )

  pub sequence_told : (Refer : Refers) (levels : ℕ) (rows : List SeqDecl) (q : SeqDecl) (items : List Value) (tells : Bool)
      → kind ≡ kinds.Seq at → rows ≡ t.seqs → Some q ≡ slice_get rows at → length items < 2 ^ 31
      → (IsTrue tells ↔ AllOf (HasType t Refer levels q.element) (view_all items)) → IsTrue tells ↔ HasForm t Refer levels kind (sequence (view_all items))
  sequence_told Refer levels rows q items tells is same row few h = trees_told Refer levels rows q (view_all items) tells is same row (subst (λ (n : ℕ). n < 2 ^ 31) (sym (count_all items)) few) h

  pub bytes_told : (levels : ℕ) (rows : List SeqDecl) (q : SeqDecl) (bytes : List ℕ) (tells : Bool)
      → kind ≡ kinds.Seq at → rows ≡ t.seqs → Some q ≡ slice_get rows at → length bytes < 2 ^ 31
      → (IsTrue tells ↔ AllOf (HasType t no_reference levels q.element) (byte_trees bytes)) → IsTrue tells ↔ HasForm t no_reference levels kind (sequence (byte_trees bytes))
  bytes_told levels rows q bytes tells is same row few h = trees_told no_reference levels rows q (byte_trees bytes) tells is same row (subst (λ (n : ℕ). n < 2 ^ 31) (sym (count_bytes bytes)) few) h

  -- too many for a size
  pub bytes_too_many : (levels : ℕ) (bytes : List ℕ) → (length bytes < 2 ^ 31 → ⊥) → HasForm t no_reference levels kind (sequence (byte_trees bytes)) → ⊥
  bytes_too_many levels bytes many f = many (subst (λ (n : ℕ). n < 2 ^ 31) (count_bytes bytes) f.4)

  pub dictionary_told : (Refer : Refers) (levels : ℕ) (rows : List DictDecl) (d : DictDecl) (pairs : List (Value × Value)) (tells : Bool)
      → kind ≡ kinds.Dict at → rows ≡ t.dicts → Some d ≡ slice_get rows at → length pairs < 2 ^ 31 → IsRising (view_pairs pairs)
      → (IsTrue tells ↔ PairsOf (HasType t no_reference levels d.key) (HasType t Refer levels d.value) (view_pairs pairs)) → IsTrue tells ↔ HasForm t Refer levels kind (dictionary (view_pairs pairs))
  dictionary_told Refer levels rows d pairs tells is same row few rising h = (
    (λ e. (at, is, d, ap (λ l. slice_get l at) (sym same) ∙ sym row, subst (λ (n : ℕ). n < 2 ^ 31) (sym (count_pairs pairs)) few, rising, h.0 e)),
    (λ f. h.1 (subst (λ (x : DictDecl). PairsOf (HasType t no_reference levels x.key) (HasType t Refer levels x.value) (view_pairs pairs)) (same_row rows t.dicts at f.0 d f.2 same row (dict_place f.0 at (sym f.1 ∙ is)) f.3) f.6)),
  )

  pub enumerator_told : (rows : List EnumDecl) (e : EnumDecl) (entries : List Entry) (n : ℕ) (tells : Bool)
      → kind ≡ kinds.Enum at → rows ≡ t.enums → Some e ≡ slice_get rows at → entries ≡ e.entries → n < 2 ^ 31 → (IsTrue tells ↔ HasNumber entries n) → IsTrue tells ↔ IsEnumerator t kind n
  enumerator_told rows e entries n tells is same row all few h = (
    (λ b. (at, is, e, ap (λ l. slice_get l at) (sym same) ∙ sym row, subst (λ (es : List Entry). HasNumber es n) all (h.0 b), few)),
    (λ f.
        let told = same_row rows t.enums at f.0 e f.2 same row (enum_place f.0 at (sym f.1 ∙ is)) f.3 in
        h.1 (subst (λ (es : List Entry). HasNumber es n) (ap (λ x. x.entries) told ∙ sym all) f.4)),
  )

-- ---- bytes

module _ (t : Tables) where
  byte_anywhere : (Refer Other : Refers) (levels : ℕ) (kind : TypeRef) (n : ℕ) → HasType t Refer levels kind (byte n) → HasType t Other levels kind (byte n)
  byte_anywhere Refer Other zero kind n h = absurd h
  byte_anywhere Refer Other (suc levels) kind n h = from_form t Other levels kind (byte n) (to_form t Refer levels kind (byte n) h)

  each_anywhere : (Refer Other : Refers) (levels : ℕ) (kind : TypeRef) (bytes : List ℕ) → AllOf (HasType t Refer levels kind) (byte_trees bytes) → AllOf (HasType t Other levels kind) (byte_trees bytes)
  each_anywhere Refer Other levels kind [] h = tt
  each_anywhere Refer Other levels kind (n ∷ bytes) h = (byte_anywhere Refer Other levels kind n h.0, each_anywhere Refer Other levels kind bytes h.1)

  form_anywhere : (Refer Other : Refers) (levels : ℕ) (kind : TypeRef) (bytes : List ℕ) → HasForm t Refer levels kind (sequence (byte_trees bytes)) → HasForm t Other levels kind (sequence (byte_trees bytes))
  form_anywhere Refer Other levels kind bytes (at, is, q, row, few, all) = (at, is, q, row, few, each_anywhere Refer Other levels q.element bytes all)

  -- no reference stands in bytes, so any may
  pub bytes_anywhere : (Refer : Refers) (levels : ℕ) (kind : TypeRef) (value : Value) (bytes lent : List ℕ) (tells : Bool) → value ≡ variants.Bytes bytes → lent ≡ bytes
      → (IsTrue tells ↔ HasForm t no_reference levels kind (sequence (byte_trees lent))) → IsTrue tells ↔ HasForm t Refer levels kind (view value)
  bytes_anywhere Refer levels kind value bytes lent tells is same h =
      let shape : sequence (byte_trees lent) ≡ view value = ap (λ (l : List ℕ). sequence (byte_trees l)) same ∙ (sym (view_bytes bytes) ∙ ap view (sym is)) in
      subst (λ (v : Tree). IsTrue tells ↔ HasForm t Refer levels kind v) shape ((λ e. form_anywhere no_reference Refer levels kind lent (h.0 e)), (λ f. h.1 (form_anywhere Refer no_reference levels kind lent f)))

  are_bytes : (levels : ℕ) (kind : TypeRef) (bytes : List ℕ) → ((i : ℕ) → Fits w8 (slice_index_or bytes i 0)) → 0 < levels → kind ≡ kinds.Byte → AllOf (HasType t no_reference levels kind) (byte_trees bytes)
  are_bytes zero kind bytes fit some is = absurd (omega (arith, some))
  are_bytes (suc levels) kind [] fit some is = tt
  are_bytes (suc levels) kind (n ∷ bytes) fit some is = (from_form t no_reference levels kind (byte n) (is, (fit 0).fits), are_bytes (suc levels) kind bytes (λ i. fit (suc i)) some is)

  byte_kind : (levels : ℕ) (kind : TypeRef) (n : ℕ) → HasType t no_reference levels kind (byte n) → (0 < levels) × (kind ≡ kinds.Byte)
  byte_kind zero kind n h = absurd h
  byte_kind (suc levels) kind n h = (omega arith, (to_form t no_reference levels kind (byte n) h).0)

  pub no_bytes : (levels : ℕ) (kind : TypeRef) (bytes : List ℕ) (tells : Bool) → IsTrue tells → length bytes ≡ 0 → IsTrue tells ↔ AllOf (HasType t no_reference levels kind) (byte_trees bytes)
  no_bytes levels kind [] tells told e = ((λ h. tt), (λ a. told))
  no_bytes levels kind (n ∷ bytes) tells told e = absurd (omega (arith, e))

  pub some_bytes : (levels : ℕ) (kind : TypeRef) (bytes : List ℕ) (tells : Bool) → ((i : ℕ) → Fits w8 (slice_index_or bytes i 0)) → (length bytes ≡ 0 → ⊥) → (IsTrue tells ↔ ((0 < levels) × (kind ≡ kinds.Byte)))
      → IsTrue tells ↔ AllOf (HasType t no_reference levels kind) (byte_trees bytes)
  some_bytes levels kind [] tells fit some h = absurd (some refl)
  some_bytes levels kind (n ∷ bytes) tells fit some h = ((λ e. are_bytes levels kind (n ∷ bytes) fit (h.0 e).0 (h.0 e).1), (λ a. h.1 (byte_kind levels kind n a.0)))

-- ---- the end of a loop over members and values

module _ (One : TypeRef → Tree → Type 0) where
  ends : (ms : List Member) (vs : List Value) (i : ℕ) → i ≤ length ms → i ≤ length vs → length vs ≤ i → (length vs ≡ length ms) ↔ EachOf One (map (λ m. m.kind) (drop i ms)) (view_all (drop i vs))
  ends [] [] zero p q e = (λ h. refl, λ h. refl)
  ends (m ∷ ms) [] zero p q e = (λ h. absurd (omega (arith, h)), λ h. absurd cc)
  ends ms (v ∷ vs) zero p q e = absurd (omega (arith, e))
  ends [] vs (suc i) p q e = absurd (omega (arith, p))
  ends (m ∷ ms) [] (suc i) p q e = absurd (omega (arith, q))
  ends (m ∷ ms) (v ∷ vs) (suc i) p q e =
      let h = ends ms vs i (omega (arith, p)) (omega (arith, q)) (omega (arith, e)) in
      (λ same. h.0 (omega (arith, same)), λ all. ap suc (h.1 all))

  pub members_end : (ms : List Member) (vs : List Value) (i : ℕ) → i ≤ length ms → i ≤ length vs → length vs ≤ i
      → (EachOf One (map (λ m. m.kind) ms) (view_all vs) ↔ EachOf One (map (λ m. m.kind) (drop i ms)) (view_all (drop i vs)))
      → IsTrue (nat_eq (length vs) (length ms)) ↔ EachOf One (map (λ m. m.kind) ms) (view_all vs)
  members_end ms vs i p q e all =
      let h = ends ms vs i p q e in
      (λ b. all.1 (h.0 (eqb-true (length vs) (length ms) b)), λ each. eq-eqb (length vs) (length ms) (h.1 (all.0 each)))
