-- The slices of an instance, and ids that a schema lacks.
use Rattle.std.proofs.Common.{◌≡◌, ℕ, ◌+◌, ◌-◌, ◌==◌, ◌↔◌, IsTrue, Bool, true, false, not, if◌then◌else◌, List, [], ◌∷◌, length, map, take, drop, Option, None, Some, refl, sym, ap, subst, ◌∙◌, arith, inl, inr, bytes_eq}
use Rattle.std.specs.Option.{is_some}
use Rattle.std.specs.Str.{IsUtf8}
use Rattle.std.proofs.lemmas.List.{length-drop, take_all}
use Rattle.ice_types.specs.declared.declarations.ExceptionDecl.{ExceptionDecl}
use Rattle.ice_types.specs.Tables.{Tables, Finds, HasId, class_ids, compact_ids, exception_ids}
use Rattle.ice_types.specs.CompactIds.{is_numbered, number_in, compact_text, ids_like, IsSliceId, IsKeptId}
use Rattle.ice_types.proofs.SliceIds.{number_found, number_there}
use Rattle.ice_encoding.specs.Typed.{Refers}
use Rattle.ice_encoding.specs.Classes.{base_of, class_by_id, one_further, place_of}
use Rattle.ice_encoding.specs.Exceptions.{as_class, of_exceptions}
use Rattle.ice_encoding.specs.Graph.{Slice, known, unknown}
use Rattle.ice_encoding.specs.TypedGraph.{AreBases, IsInstance, IsKnown}
use Rattle.graph_arena.specs.declared.instance.Members.{Members}
use Rattle.graph_arena.specs.declared.instance.Slice as seen
use Rattle.graph_arena.specs.declared.instance.Slice.TheVariants.{Known}
use Rattle.graph_arena.specs.Seen.{view_content, view_slices}
use Rattle.graph_laws.proofs.ClassIds.{plain_named}
use Rattle.value_parts.proofs.RowsNamed.{at_none, none_at, same_ids}
use Rattle.value_parts.specs.SlicedType.{rows_of}
use Rattle.value_parts.specs.declared.sliced_type.SlicedType.{SlicedType}
use Rattle.value_parts.specs.declared.sliced_type.SlicedType.TheVariants.{Class, Exception}
use Rattle.value_checks.specs.First.{AreSlices}

-- ---- an id that the schema lacks

abbrev Lacks : Tables → List ℕ → Type 0
Lacks u id = (class_by_id u id ≡ None) × IsSliceId id

-- among the classes
pub kept_told : (sort : SlicedType) (t : Tables) (id text : List ℕ) (tells : Bool) → sort ≡ Class → text ≡ id → (IsTrue tells ↔ IsKeptId t text) → IsTrue tells ↔ Lacks (rows_of sort t) id
kept_told Class t id text tells is same told =
    subst (λ (s : List ℕ). IsTrue tells ↔ Lacks t s) same
    ((λ b. let k = told.0 b in (none_at (ids_like t text) text k.1, k.0)), (λ h. told.1 (h.1, at_none (ids_like t text) text h.0)))
kept_told Exception t id text tells is same told = absurd cc

-- an exception has no compact id
no_compact_id : (es : List ExceptionDecl) (id : List ℕ) → is_numbered id ≡ true → place_of (map compact_text (map (λ c. c.compact) (map as_class es))) id ≡ None
no_compact_id [] id hash = refl
no_compact_id (e ∷ es) id hash =
    ap (λ (b : Bool). if b then Some 0 else one_further (place_of (map compact_text (map (λ c. c.compact) (map as_class es))) id)) (differs id hash) ∙ ap one_further (no_compact_id es id hash)
  where
    differs : (id : List ℕ) → is_numbered id ≡ true → bytes_eq [] id ≡ false
    differs [] hash = absurd cc
    differs (c ∷ cs) hash = refl

no_exception : (t : Tables) (id : List ℕ) → is_numbered id ≡ true → class_by_id (of_exceptions t) id ≡ None
no_exception t id hash =
    let u = of_exceptions t in
    ap (λ (b : Bool). place_of (if b then map compact_text (compact_ids u) else class_ids u) id) hash ∙ no_compact_id t.exceptions id hash

-- so a number that can be one is lacked
pub number_told : (sort : SlicedType) (t : Tables) (id text : List ℕ) (number : Option ℕ) (tells : Bool) → sort ≡ Exception → text ≡ id → IsUtf8 text → is_numbered text ≡ true → number ≡ number_in text → tells ≡ is_some number
    → IsTrue tells ↔ Lacks (rows_of sort t) id
number_told Class t id text number tells is same utf8 hash found told = absurd cc
number_told Exception t id text number tells is same utf8 hash found told =
    subst (λ (s : List ℕ). IsTrue tells ↔ Lacks (of_exceptions t) s) same (by_number number tells found told)
  where
    none_some : (n : ℕ) → None ≡ Some n → ⊥
    none_some n e = cc

    clash : (b : Bool) → b ≡ true → b ≡ false → ⊥
    clash b p q = cc

    by_number : (number : Option ℕ) (tells : Bool) → number ≡ number_in text → tells ≡ is_some number → IsTrue tells ↔ Lacks (of_exceptions t) text
    by_number None true found told = absurd cc
    by_number None false found told = (
      λ b. absurd cc,
      λ h. absurd (elim h.1.1 [
        | inl plain ↦ clash (is_numbered text) hash plain
        | inr n ↦ none_some n.0 (found ∙ ap number_in n.2 ∙ number_there n.0 n.1)
      ]),
    )
    by_number (Some n) true found told = let k = number_found text n (sym found) in ((λ b. (no_exception t text hash, (utf8, inr (n, k.0, k.1)))), λ h. refl)
    by_number (Some n) false found told = absurd cc

-- a type id that no exception has
exception_place : (t : Tables) (id : List ℕ) → is_numbered id ≡ false → class_by_id (of_exceptions t) id ≡ place_of (exception_ids t) id
exception_place t id plain = plain_named (of_exceptions t) id plain ∙ ap (λ (ids : List (List ℕ)). place_of ids id) (same_ids t.exceptions)

pub type_id_told : (sort : SlicedType) (t : Tables) (id text : List ℕ) (found : Option ℕ) (tells : Bool) → sort ≡ Exception → text ≡ id → IsUtf8 text → is_numbered text ≡ false → Finds (HasId (exception_ids t) text) found → is_some found ≡ not tells
    → IsTrue tells ↔ Lacks (rows_of sort t) id
type_id_told Class t id text found tells is same utf8 plain finds told = absurd cc
type_id_told Exception t id text found tells is same utf8 plain finds told =
    subst (λ (s : List ℕ). IsTrue tells ↔ Lacks (of_exceptions t) s) same (by_place found tells finds told)
  where
    by_place : (found : Option ℕ) (tells : Bool) → Finds (HasId (exception_ids t) text) found → is_some found ≡ not tells → IsTrue tells ↔ Lacks (of_exceptions t) text
    by_place None true nowhere told = ((λ b. (exception_place t text plain ∙ none_at (exception_ids t) text nowhere, (utf8, inl plain))), λ h. refl)
    by_place None false nowhere told = absurd cc
    by_place (Some at) true there told = absurd cc
    by_place (Some at) false there told = ((λ b. absurd cc), λ h. absurd (at_none (exception_ids t) text (sym (exception_place t text plain) ∙ h.0) at there))

-- whether a text does not begin with `#`
pub plain_told : (id text : List ℕ) (starts : Bool) → text ≡ id → starts ≡ is_numbered text → IsTrue (not starts) ↔ (is_numbered id ≡ false)
plain_told id text starts same is = subst (λ (s : List ℕ). IsTrue (not starts) ↔ (is_numbered s ≡ false)) same (by_test starts (is_numbered text) is)
  where
    by_test : (a b : Bool) → a ≡ b → IsTrue (not a) ↔ (b ≡ false)
    by_test true true e = ((λ h. absurd cc), λ h. absurd cc)
    by_test true false e = absurd cc
    by_test false true e = absurd cc
    by_test false false e = ((λ h. refl), λ h. refl)

-- ---- one slice at least

module _ (u : Tables) (Refer : Refers) where
  pub some_slices : (ss : List Slice) → (ss ≡ [] → ⊥) → AreSlices u Refer ss ↔ IsInstance u Refer ss
  some_slices [] some = absurd (some refl)
  some_slices (known class content ∷ ss) some = (λ h. h, λ h. h)
  some_slices (unknown id bytes optionals table ∷ []) some = (λ h. h.0, λ h. (h, tt))
  some_slices (unknown id bytes optionals table ∷ s ∷ ss) some =
      let rest = some_slices (s ∷ ss) (λ e. absurd cc) in
      (λ h. (h.0, rest.0 h.1), λ h. (h.0, rest.1 h.1))

  abbrev pub Behind : ℕ → Members → List seen.Slice → Type 0
  Behind class members bases = IsKnown u Refer class (view_content members) × AreBases u Refer (base_of u class) (view_slices bases)

  -- a known class behind the slices that were kept
  pub known_next : (slices : List seen.Slice) (at class : ℕ) (members : Members) (tells : Bool) → drop at slices ≡ Known class members ∷ drop (at + 1) slices
      → (AreSlices u Refer (view_slices slices) ↔ AreSlices u Refer (view_slices (drop at slices)))
      → (IsTrue tells ↔ Behind class members (take (length slices - (at + 1)) (drop (at + 1) slices)))
      → IsTrue tells ↔ AreSlices u Refer (view_slices slices)
  known_next slices at class members tells here rest told =
      let first = subst (λ (l : List seen.Slice). AreSlices u Refer (view_slices slices) ↔ AreSlices u Refer (view_slices l)) here rest in
      let all = take_all (length slices - (at + 1)) (drop (at + 1) slices) (omega (arith, length-drop (at + 1) slices)) in
      let behind = subst (λ (l : List seen.Slice). IsTrue tells ↔ Behind class members l) all told in
      (λ b. first.1 (behind.0 b), λ h. behind.1 (first.0 h))

pub not_empty : (slices : List seen.Slice) → false ≡ (length slices == 0) → view_slices slices ≡ [] → ⊥
not_empty [] some e = absurd cc
not_empty (s ∷ ss) some e = absurd cc
