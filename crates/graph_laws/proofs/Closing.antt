-- Canonical bytes as one sees them who lacks classes: a slice of such a class is kept as it is written.
use Rattle.std.proofs.Common.{ℕ, zero, suc, ◌≡◌, ◌<◌, ◌⊎◌, Bool, List, [], ◌∷◌, ◌++◌, length, refl, sym, ap, ◌∙◌, subst, Option, Some, None, inl, inr, arith}
use Rattle.std.proofs.lemmas.List.{append_assoc}
use Rattle.ice_types.specs.declared.declarations.Member.{Member}
use Rattle.ice_types.specs.declared.declarations.Shape.{Shape}
use Rattle.ice_types.specs.Tables.{Tables}
use Rattle.ice_types.specs.CompactIds.{HasSliceId}
use Rattle.ice_encoding.specs.Writing.{Writer, written_each}
use Rattle.ice_encoding.specs.Optionals.{Present, kind_tagged}
use Rattle.ice_encoding.specs.OptionalMembers.{Members}
use Rattle.ice_encoding.specs.Classes.{class_by_id, base_of, own_members}
use Rattle.ice_encoding.specs.Graph.{Slice, known, unknown}
use Rattle.ice_encoding.specs.Names.{renamed_members, renamed_present}
use Rattle.ice_encoding.specs.Slices.{unknown_bytes}
use Rattle.ice_encoding.specs.Instances.{slices_of}
use Rattle.ice_encoding.specs.Visiting.{place}
use Rattle.ice_encoding.specs.Members.{written_option, written_options, marked_options, written_slice_members}
use Rattle.ice_encoding.specs.CanonicalGraph.{is_there, by_size, table_of, sized_bytes, row_id, written_id}
use Rattle.graph_laws.proofs.Bases.{IsRow}
use Rattle.graph_laws.specs.Seeing.{SameClassId}
use Rattle.graph_laws.proofs.ClassIds.{id_named, named_id, spelled_there}
use Rattle.graph_laws.proofs.Classed.{Both, none_some, own_slice, tied_by_id}
use Rattle.graph_laws.proofs.Standing.{Follow, Stands}
use Rattle.graph_laws.proofs.RelayedFitting.{LikeAs, AllLike}

-- ---- an end marker stands behind the members of a slice where the flag of optional ones does

module _ {P : Type 0} (refer : Writer P (Option ℕ)) (t : Tables) where
  options_end : (members : List Member) (end : List ℕ) (os : Present) (p : P) → (x : List ℕ) × ((written_options refer t members end os p).0 ≡ x ++ end)
  options_end members end [] p = ([], refl)
  options_end members end (o ∷ os) p =
      let head = written_option refer t o.0 (kind_tagged o.0 members) o.1 p in
      let rest = options_end members end os head.1 in
      (head.0 ++ rest.0, ap (λ (l : List ℕ). head.0 ++ l) rest.1 ∙ sym (append_assoc head.0 rest.0 end))

  slice_marked : (shape : Shape) (c : Members) (p : P) → (x : List ℕ) × ((written_slice_members refer t shape c p).0 ≡ unknown_bytes (is_there c.optional) x)
  slice_marked shape c p = by_optional c.optional
    where
      by_optional : (os : Present) → (x : List ℕ) × ((written_each refer c.required p).0 ++ (marked_options refer t shape.optional os (written_each refer c.required p).1).0 ≡ unknown_bytes (is_there os) x)
      by_optional [] = ((written_each refer c.required p).0 ++ [], refl)
      by_optional (o ∷ os) =
          let front = (written_each refer c.required p).0 in
          let rest = options_end shape.optional (255 ∷ []) (o ∷ os) (written_each refer c.required p).1 in
          (front ++ rest.0, ap (λ (l : List ℕ). front ++ l) rest.1 ∙ sym (append_assoc front rest.0 (255 ∷ [])))

there_still : (f : ℕ → ℕ) (os : Present) → is_there (renamed_present f os) ≡ is_there os
there_still f [] = refl
there_still f (o ∷ os) = refl

sized_marked : (t : Tables) (a : ℕ) (content : Members) → (x : List ℕ) × (sized_bytes t (known a content) ≡ unknown_bytes (is_there content.optional) x)
sized_marked t a content =
    let g = slice_marked by_size t (own_members t a) (renamed_members (place (table_of (known a content))) content) tt in
    (g.0, g.1 ∙ ap (λ (b : Bool). unknown_bytes b g.0) (there_still (place (table_of (known a content))) content.optional))

module _ (t u : Tables) where
  -- a slice of a class that the second schema lacks, kept as it is written
  abbrev pub UnknownWritten : ℕ → Members → Slice → Type 0
  UnknownWritten a content r = (x : List ℕ) × (r ≡ unknown (written_id t (known a content)) x (is_there content.optional) (table_of (known a content)))
      × (class_by_id t (written_id t (known a content)) ≡ Some a) × (class_by_id u (written_id t (known a content)) ≡ None) × (unknown_bytes (is_there content.optional) x ≡ sized_bytes t (known a content))

  abbrev pub ClosedAs : Slice → Slice → Type 0
  ClosedAs (known a content) r = ((b : ℕ) × (r ≡ known b content) × SameClassId t u a b) ⊎ UnknownWritten a content r
  ClosedAs (unknown id bytes optionals table) r = (r ≡ unknown id bytes optionals table) × (class_by_id u id ≡ None)

  abbrev pub AllClosed : List Slice → List Slice → Type 0
  AllClosed [] others = others ≡ []
  AllClosed (s ∷ ss) others = (r : Slice) × (rs : List Slice) × (others ≡ r ∷ rs) × ClosedAs s r × AllClosed ss rs

  abbrev pub EachClosed : List (List Slice) → List (List Slice) → Type 0
  EachClosed [] others = others ≡ []
  EachClosed (i ∷ is) others = (j : List Slice) × (js : List (List Slice)) × (others ≡ j ∷ js) × AllClosed i j × EachClosed is js

  pub closed_slices : (is js : List (List Slice)) (n : ℕ) → EachClosed is js → AllClosed (slices_of is n) (slices_of js n)
  closed_slices [] js n e = ap (λ (l : List (List Slice)). slices_of l n) e
  closed_slices (i ∷ is) js zero (j, others, same, one, rest) = subst (λ (l : List (List Slice)). AllClosed i (slices_of l 0)) (sym same) one
  closed_slices (i ∷ is) js (suc n) (j, others, same, one, rest) = subst (λ (l : List (List Slice)). AllClosed (slices_of is n) (slices_of l (suc n))) (sym same) (closed_slices is others n rest)

  pub closed_length : (is js : List (List Slice)) → EachClosed is js → length js ≡ length is
  closed_length [] js e = ap length e
  closed_length (i ∷ is) js (j, others, is_list, one, rest) = ap length is_list ∙ ap suc (closed_length is others rest)

  -- by their classes
  like_closed : (s r : Slice) → ClosedAs s r → LikeAs t u s r
  like_closed (known a content) r (inl (b, is, tied)) = inl (b, content, is, tied)
  like_closed (known a content) r (inr (x, is, named, hidden, bytes)) = inr (written_id t (known a content), x, is_there content.optional, table_of (known a content), is, named, hidden)
  like_closed (unknown id bytes optionals table) r h = h.0

  pub all_like_closed : (ss rs : List Slice) → AllClosed ss rs → AllLike t u ss rs
  all_like_closed [] rs e = e
  all_like_closed (s ∷ ss) rs (r, others, is, one, rest) = (r, others, is, like_closed s r one, all_like_closed ss others rest)

  -- ---- there is such a slice for each

  module _ (both : Both t u) where
    close_known : (a : ℕ) (content : Members) → IsRow t.classes a → (r : Slice) × ClosedAs (known a content) r
    close_known a content (d, row) = by_class (class_by_id u (written_id t (known a content))) refl
      where
        id : List ℕ
        id = written_id t (known a content)

        here : HasSliceId t id a
        here = subst (λ (i : List ℕ). HasSliceId t i a) (sym (ap row_id row)) (spelled_there t both.reader a d row)

        by_class : (o : Option ℕ) → class_by_id u id ≡ o → (r : Slice) × ClosedAs (known a content) r
        by_class None e = let x = sized_marked t a content in (unknown id x.0 (is_there content.optional) (table_of (known a content)), inr (x.0, refl, named_id t both.reader id a here, e, sym x.1))
        by_class (Some b) e = (known b content, inl (b, refl, tied_by_id t u both id a b here (id_named u id b e)))

    close_unknown : (id bytes : List ℕ) (optionals : Bool) (table : List ℕ) → class_by_id t id ≡ None → ClosedAs (unknown id bytes optionals table) (unknown id bytes optionals table)
    close_unknown id bytes optionals table none = (refl, by_class (class_by_id u id) refl)
      where
        by_class : (o : Option ℕ) → class_by_id u id ≡ o → class_by_id u id ≡ None
        by_class None e = e
        by_class (Some b) e = let a = own_slice t u both id b (id_named u id b e) in none_some (class_by_id t id) a.0 none (named_id t both.reader id a.0 a.1)

    close_follow : (o : Option ℕ) (ss : List Slice) → Follow t o ss → (rs : List Slice) × AllClosed ss rs
    close_follow None ss h = ([], subst (λ (l : List Slice). AllClosed l []) (sym h) refl)
    close_follow (Some a) [] h = absurd h
    close_follow (Some a) (unknown id bytes optionals table ∷ ss) h = absurd h
    close_follow (Some a) (known b content ∷ ss) h =
        let one = close_known b content (subst (IsRow t.classes) (sym h.0) h.1) in
        let rest = close_follow (base_of t a) ss h.2 in
        (one.0 ∷ rest.0, (one.0, rest.0, refl, one.1, rest.1))

    close_all : (ss : List Slice) → Stands t ss → (rs : List Slice) × AllClosed ss rs
    close_all [] h = absurd h
    close_all (unknown id bytes optionals table ∷ []) h = (unknown id bytes optionals table ∷ [], (unknown id bytes optionals table, [], refl, close_unknown id bytes optionals table h, refl))
    close_all (unknown id bytes optionals table ∷ s ∷ ss) h =
        let rest = close_all (s ∷ ss) h.1 in
        (unknown id bytes optionals table ∷ rest.0, (unknown id bytes optionals table, rest.0, refl, close_unknown id bytes optionals table h.0, rest.1))
    close_all (known a content ∷ ss) h =
        let one = close_known a content h.0 in
        let rest = close_follow (base_of t a) ss h.1 in
        (one.0 ∷ rest.0, (one.0, rest.0, refl, one.1, rest.1))

    pub close_each : (is : List (List Slice)) → ((n : ℕ) → n < length is → Stands t (slices_of is n)) → (js : List (List Slice)) × EachClosed is js
    close_each [] stands = ([], refl)
    close_each (i ∷ is) stands =
        let one = close_all i (stands 0 (omega arith)) in
        let rest = close_each is (λ n lt. stands (suc n) (omega (arith, lt))) in
        (one.0 ∷ rest.0, (one.0, rest.0, refl, one.1, rest.1))
