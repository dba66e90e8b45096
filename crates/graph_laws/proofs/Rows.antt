-- Rows of one type id say the same in both schemas, and each row of a schema is the same as itself.
use Rattle.std.proofs.Common.{ℕ, zero, suc, ◌≡◌, List, [], ◌∷◌, map, refl, sym, ap, ◌∙◌, subst, arith, Option, Some, None}
use Rattle.std.specs.Prelude.{slice_get}
use Rattle.std.specs.Option.{option_map}
use Rattle.std.proofs.lemmas.Option.{slice_get-map}
use Rattle.std.proofs.lemmas.List.Elements.{recursion_from_All}
use Rattle.std.specs.List.{AllByRecursion}
use Rattle.ice_types.specs.declared.kind.TypeRef.{TypeRef}
use Rattle.ice_types.specs.declared.kind.TypeRef.TheVariants as kinds
use Rattle.ice_types.specs.declared.kind.RowRef.{RowRef}
use Rattle.ice_types.specs.declared.kind.RowRef.TheVariants as rows
use Rattle.ice_types.specs.declared.declarations.Entry.{Entry}
use Rattle.ice_types.specs.declared.declarations.Member.{Member}
use Rattle.ice_types.specs.declared.measure.Measure.{Measure}
use Rattle.ice_types.specs.declared.schema.TheConstants.{MOST_DEPTH}
use Rattle.ice_types.specs.Tables.{Tables, HasId, HasRowId, class_ids}
use Rattle.ice_types.specs.Measures.{measure, measured, measure_members, with_member, sequence_of, dictionary_of, struct_of, enumeration, proxy, reference}
use Rattle.ice_types.specs.Fits.{IsOf, ClassBaseFits}
use Rattle.ice_types.specs.Rules.{IsSchema}
use Rattle.ice_types.specs.Lacking.{AreSame, BothAre, SameEntry, SameId, SameKind, SameMember, SameBase, SameSeq, SameDict, SameStruct, SameEnum, SameClass, SameRow, Lacks}
use Rattle.ice_types.proofs.Levels.{found_by}
use Rattle.ice_types.proofs.BaseChains.{row_of_base, flag_within, get_within}
use Rattle.graph_laws.specs.Seeing.{SameClassId}

-- ---- what rows of one id say

pub record Agrees (t u : Tables) : Type 0 where
  pub seqs : (a b : ℕ) → SameId t u (rows.Seq a) (rows.Seq b) → BothAre (SameSeq t u) (slice_get t.seqs a) (slice_get u.seqs b)
  pub dicts : (a b : ℕ) → SameId t u (rows.Dict a) (rows.Dict b) → BothAre (SameDict t u) (slice_get t.dicts a) (slice_get u.dicts b)
  pub structs : (a b : ℕ) → SameId t u (rows.Struct a) (rows.Struct b) → BothAre (SameStruct t u) (slice_get t.structs a) (slice_get u.structs b)
  pub enums : (a b : ℕ) → SameId t u (rows.Enum a) (rows.Enum b) → BothAre (SameEnum t u) (slice_get t.enums a) (slice_get u.enums b)
  pub classes : (a b : ℕ) → SameClassId t u a b → BothAre (SameClass t u) (slice_get t.classes a) (slice_get u.classes b)

module _ (t u : Tables) (rules : IsSchema t) (lacks : Lacks t u) where
  one_row : (a b : RowRef) → SameId t u a b → SameRow t u a b
  one_row a b (id, here, there) = let k = lacks.kept id b there in subst (λ (r : RowRef). SameRow t u r b) (rules.apart id k.0 a k.1 here) k.2

  seqs_agree : (a b : ℕ) → SameRow t u (rows.Seq a) (rows.Seq b) → BothAre (SameSeq t u) (slice_get t.seqs a) (slice_get u.seqs b)
  seqs_agree a b (c, is, both) = let e : c ≡ b = cc in subst (λ (k : ℕ). BothAre (SameSeq t u) (slice_get t.seqs a) (slice_get u.seqs k)) e both

  dicts_agree : (a b : ℕ) → SameRow t u (rows.Dict a) (rows.Dict b) → BothAre (SameDict t u) (slice_get t.dicts a) (slice_get u.dicts b)
  dicts_agree a b (c, is, both) = let e : c ≡ b = cc in subst (λ (k : ℕ). BothAre (SameDict t u) (slice_get t.dicts a) (slice_get u.dicts k)) e both

  structs_agree : (a b : ℕ) → SameRow t u (rows.Struct a) (rows.Struct b) → BothAre (SameStruct t u) (slice_get t.structs a) (slice_get u.structs b)
  structs_agree a b (c, is, both) = let e : c ≡ b = cc in subst (λ (k : ℕ). BothAre (SameStruct t u) (slice_get t.structs a) (slice_get u.structs k)) e both

  enums_agree : (a b : ℕ) → SameRow t u (rows.Enum a) (rows.Enum b) → BothAre (SameEnum t u) (slice_get t.enums a) (slice_get u.enums b)
  enums_agree a b (c, is, both) = let e : c ≡ b = cc in subst (λ (k : ℕ). BothAre (SameEnum t u) (slice_get t.enums a) (slice_get u.enums k)) e both

  classes_agree : (a b : ℕ) → SameRow t u (rows.Class a) (rows.Class b) → BothAre (SameClass t u) (slice_get t.classes a) (slice_get u.classes b)
  classes_agree a b (c, is, both) = let e : c ≡ b = cc in subst (λ (k : ℕ). BothAre (SameClass t u) (slice_get t.classes a) (slice_get u.classes k)) e both

  pub agrees : Agrees t u
  agrees = record {
    seqs = λ a b same. seqs_agree a b (one_row (rows.Seq a) (rows.Seq b) same);
    dicts = λ a b same. dicts_agree a b (one_row (rows.Dict a) (rows.Dict b) same);
    structs = λ a b same. structs_agree a b (one_row (rows.Struct a) (rows.Struct b) same);
    enums = λ a b same. enums_agree a b (one_row (rows.Enum a) (rows.Enum b) same);
    classes = λ a b same. classes_agree a b (one_row (rows.Class a) (rows.Class b) same);
  }

  class_own : (id : List ℕ) (b : ℕ) (own : RowRef) → HasRowId t id own → SameRow t u own (rows.Class b) → (a : ℕ) × HasId (class_ids t) id a
  class_own id b (rows.Seq a) h s = absurd cc (s.1)
  class_own id b (rows.Dict a) h s = absurd cc (s.1)
  class_own id b (rows.Struct a) h s = absurd cc (s.1)
  class_own id b (rows.Enum a) h s = absurd cc (s.1)
  class_own id b (rows.Class a) h s = (a, h)
  class_own id b (rows.Exception a) h s = absurd cc (s.1)
  class_own id b (rows.Interface a) h s = absurd cc (s.1)

  -- each class of the second schema is one of the first
  pub own_class : (id : List ℕ) (b : ℕ) → HasId (class_ids u) id b → (a : ℕ) × HasId (class_ids t) id a
  own_class id b there = let k = lacks.kept id (rows.Class b) there in class_own id b k.0 k.1 k.2

-- ---- a schema agrees with itself

pub same_each : {A : Type 0} (Same : A → A → Type 0) (xs : List A) → ((at : ℕ) (x : A) → slice_get xs at ≡ Some x → Same x x) → AreSame Same xs xs
same_each Same [] same = tt
same_each Same (x ∷ xs) same = (same 0 x refl, same_each Same xs (λ at y is. same (suc at) y is))

pub id_there : {A : Type 0} (id : A → List ℕ) (xs : List A) (at : ℕ) (x : A) → slice_get xs at ≡ Some x → HasId (map id xs) (id x) at
id_there id xs at x is = slice_get-map id xs at ∙ ap (option_map id) is

pub row_there : {A : Type 0} (id : A → List ℕ) (xs : List A) (at : ℕ) (other : List ℕ) → HasId (map id xs) other at → (x : A) × (slice_get xs at ≡ Some x) × (id x ≡ other)
row_there id xs at other h = row_of_base id (slice_get xs at) other (sym (slice_get-map id xs at) ∙ h)

module _ (t : Tables) where
  kind_itself : (levels : ℕ) (kind : TypeRef) (m : Measure) → measure t levels kind ≡ Some m → SameKind t t kind kind
  unfolding measure
  kind_itself zero kind m e = absurd cc
  kind_itself (suc levels) kinds.Bool m e = refl
  kind_itself (suc levels) kinds.Byte m e = refl
  kind_itself (suc levels) kinds.Short m e = refl
  kind_itself (suc levels) kinds.Int m e = refl
  kind_itself (suc levels) kinds.Long m e = refl
  kind_itself (suc levels) kinds.Text m e = refl
  kind_itself (suc levels) (kinds.Seq at) m e = found_by (slice_get t.seqs at) (λ q. sequence_of (measure t levels q.element)) m e
      (λ q is rest. let id = id_there (λ q. q.id) t.seqs at q is in (at, refl, (q.id, id, id)))
  kind_itself (suc zero) (kinds.Dict at) m e = absurd cc
  kind_itself (suc (suc levels)) (kinds.Dict at) m e = found_by (slice_get t.dicts at) (λ d. dictionary_of (measure t levels d.key) (measure t levels d.value)) m e
      (λ d is rest. let id = id_there (λ d. d.id) t.dicts at d is in (at, refl, (d.id, id, id)))
  kind_itself (suc levels) (kinds.Struct at) m e = found_by (slice_get t.structs at) (λ d. struct_of (measure_members (measure t levels) d.members)) m e
      (λ d is rest. let id = id_there (λ d. d.id) t.structs at d is in (at, refl, (d.id, id, id)))
  kind_itself (suc levels) (kinds.Enum at) m e = found_by (slice_get t.enums at) (λ _. Some enumeration) m e
      (λ d is rest. let id = id_there (λ d. d.id) t.enums at d is in (at, refl, (d.id, id, id)))
  kind_itself (suc levels) (kinds.Proxy None) m e = refl
  kind_itself (suc levels) (kinds.Proxy (Some at)) m e = found_by (slice_get t.interfaces at) (λ _. Some proxy) m e
      (λ d is rest. let id = id_there (λ d. d.id) t.interfaces at d is in (at, refl, (d.id, id, id)))
  kind_itself (suc levels) (kinds.Class None) m e = refl
  kind_itself (suc levels) (kinds.Class (Some at)) m e = found_by (slice_get t.classes at) (λ _. Some reference) m e
      (λ d is rest. let id = id_there (λ d. d.id) t.classes at d is in (at, refl, (d.id, id, id)))

  members_itself : (levels : ℕ) (ms : List Member) (m : Measure) → measure_members (measure t levels) ms ≡ Some m → AreSame (SameMember t t) ms ms
  members_itself levels [] m e = tt
  members_itself levels (x ∷ ms) m e = found_by (measure t levels x.kind) (λ first. measured (measure_members (measure t levels) ms) (λ others. Some (with_member first others))) m e
      (λ first is rest. found_by (measure_members (measure t levels) ms) (λ others. Some (with_member first others)) m rest
      (λ others are last. ((refl, kind_itself levels x.kind first is, refl), members_itself levels ms others are)))

  of_itself : (ms : List Member) → AllByRecursion (λ m. IsOf t m.kind) ms → AreSame (SameMember t t) ms ms
  of_itself [] h = tt
  of_itself (m ∷ ms) h = ((refl, kind_itself MOST_DEPTH m.kind h.0.0 h.0.1, refl), of_itself ms h.1)

  entries_itself : (es : List Entry) → AreSame SameEntry es es
  entries_itself [] = tt
  entries_itself (e ∷ es) = ((refl, refl), entries_itself es)

  module _ (rules : IsSchema t) where
    base_itself : (base : Option ℕ) → ClassBaseFits t base → SameBase t t rows.Class base base
    base_itself None h = refl
    base_itself (Some base) h =
        let row = get_within t.classes base (omega (arith, flag_within t.defined_classes base h, rules.class_flags)) in
        let id = id_there (λ c. c.id) t.classes base row.0 row.1 in
        (base, refl, (row.0.id, id, id))

    -- of rows of one id there is one
    pub one_class : (a b : ℕ) → SameClassId t t a b → a ≡ b
    one_class a b (id, here, there) = let same : rows.Class a ≡ rows.Class b = rules.apart id (rows.Class a) (rows.Class b) here there in cc

    itself : {A : Type 0} (id : A → List ℕ) (xs : List A) (Same : A → A → Type 0) → ((at : ℕ) (x : A) → slice_get xs at ≡ Some x → Same x x)
        → (a b : ℕ) (i : List ℕ) → HasId (map id xs) i a → a ≡ b → BothAre Same (slice_get xs a) (slice_get xs b)
    itself id xs Same same a b i here e =
        let row = row_there id xs a i here in
        (row.0, row.0, row.1, ap (slice_get xs) (sym e) ∙ row.1, same a row.0 row.1)

    pub agrees_itself : Agrees t t
    agrees_itself = record {
      seqs = λ a b s. itself (λ q. q.id) t.seqs (SameSeq t t) (λ at q is. let f = rules.seqs at q is in kind_itself _ q.element f.0 f.1) a b s.0 s.1
          (let same : rows.Seq a ≡ rows.Seq b = rules.apart s.0 (rows.Seq a) (rows.Seq b) s.1 s.2 in cc);
      dicts = λ a b s. itself (λ d. d.id) t.dicts (SameDict t t) (λ at d is. let f = rules.dicts at d is in (kind_itself _ d.key f.0 f.2, kind_itself _ d.value f.1 f.4)) a b s.0 s.1
          (let same : rows.Dict a ≡ rows.Dict b = rules.apart s.0 (rows.Dict a) (rows.Dict b) s.1 s.2 in cc);
      structs = λ a b s. itself (λ d. d.id) t.structs (SameStruct t t) (λ at d is. let f = rules.structs at d is in members_itself _ d.members f.0 f.1) a b s.0 s.1
          (let same : rows.Struct a ≡ rows.Struct b = rules.apart s.0 (rows.Struct a) (rows.Struct b) s.1 s.2 in cc);
      enums = λ a b s. itself (λ e. e.id) t.enums (SameEnum t t) (λ at e is. entries_itself e.entries) a b s.0 s.1
          (let same : rows.Enum a ≡ rows.Enum b = rules.apart s.0 (rows.Enum a) (rows.Enum b) s.1 s.2 in cc);
      classes = λ a b s. itself (λ c. c.id) t.classes (SameClass t t)
          (λ at c is. let f = rules.classes at c is in (base_itself c.base f.0, of_itself c.members (recursion_from_All _ c.members f.1.0), refl)) a b s.0 s.1 (one_class a b s);
    }
