-- Slices under the schema that lacks classes, read again under the whole one: which class each is of, and what stands before it.
use Rattle.std.proofs.Common.{ℕ, zero, suc, ◌≡◌, ◌⊎◌, Bool, true, false, List, [], ◌∷◌, refl, sym, ap, ◌∙◌, subst, Option, Some, None, inl, inr}
use Rattle.std.specs.Prelude.{is_none}
use Rattle.std.proofs.lemmas.Bool.{eq-eqb}
use Rattle.ice_types.specs.declared.kind.RowRef.TheVariants as rows
use Rattle.ice_types.specs.Tables.{Tables}
use Rattle.ice_types.specs.Lacking.{SameBase}
use Rattle.ice_encoding.specs.Port.{Port}
use Rattle.ice_encoding.specs.OptionalMembers.{Members}
use Rattle.ice_encoding.specs.Classes.{class_by_id, base_of}
use Rattle.ice_encoding.specs.Graph.{Slice, known, unknown}
use Rattle.ice_encoding.specs.References.{State}
use Rattle.ice_encoding.specs.Flags.{Flags, all_slices, Before, first, only_unknown, derived, may_stand}
use Rattle.ice_encoding.specs.TypeIds.{class_in, is_base, can_be_read, ends_well, same_bool, before_base, before_next}
use Rattle.ice_encoding.specs.Slices.{SpellsBody, SpellsSlices}
use Rattle.ice_encoding.specs.Slices.{Behind as Others}
use Rattle.graph_laws.proofs.Bases.{IsRow}
use Rattle.graph_laws.proofs.TypeIds.{Spelled}
use Rattle.graph_laws.specs.Seeing.{SameClassId, SeenAs, AllSeen}
use Rattle.graph_laws.proofs.Classed.{Both, tied_named, tied_base}
use Rattle.graph_laws.proofs.Standing.{Follow, Stands}

pub known_is : {C : Type 0} (a b : ℕ) (x y : Members) → known a x ≡ known b y → (a ≡ b → C) → C
known_is a b x y e go = go cc

pub unknown_id : {C : Type 0} (i j x y : List ℕ) (o p : Bool) (k l : List ℕ) → unknown i x o k ≡ unknown j y p l → (i ≡ j → C) → C
unknown_id i j x y o p k l e go = go cc

pub known_unknown : {C : Type 0} (a : ℕ) (c : Members) (i x : List ℕ) (o : Bool) (k : List ℕ) → known a c ≡ unknown i x o k → C
known_unknown a c i x o k e = absurd cc

-- the class of a slice
abbrev pub slice_class : Slice → Option ℕ
slice_class (known class content) = Some class
slice_class (unknown id bytes optionals table) = None

-- a slice is of the class of its type id, or kept with it
abbrev pub FormedAs : List ℕ → Bool → Option ℕ → Slice → Type 0
FormedAs id sized d r = ((d ≡ None) × (sized ≡ true) × (x : List ℕ) × (o : Bool) × (table : List ℕ) × (r ≡ unknown id x o table)) ⊎ ((e : ℕ) × (content : Members) × (d ≡ Some e) × (r ≡ known e content))

pub body_form : (port : Port (State ℕ) Spelled) (u : Tables) (f : Flags) (id : List ℕ) (sized : Bool) (d : Option ℕ) (bytes : List ℕ) (r : Slice) (from to : Spelled) → SpellsBody port u f id sized d bytes r from to → FormedAs id sized d r
body_form port u f id true (Some e) bytes r from to (raw, uses, a, b, parts, members, (table, is, h)) = inr (e, _, refl, is)
body_form port u f id true None bytes r from to (x, a, b, mid, parts, front, (table, is, h)) = inl (refl, refl, x, f.has_optional, table, is)
body_form port u f id false (Some e) bytes r from to (content, is, h) = inr (e, content, refl, is)
body_form port u f id false None bytes r from to h = absurd h

module _ (t u : Tables) (both : Both t u) (ks : List (List Slice)) where
  abbrev pub BackAs : Before → Before → Type 0
  BackAs y first = y ≡ first
  BackAs y only_unknown = y ≡ only_unknown
  BackAs y (derived z a) = ((z ≡ true) × (y ≡ only_unknown)) ⊎ ((b : ℕ) × (y ≡ derived z b) × SameClassId t u a b)

  -- what may come is what there is
  abbrev pub Ready : Before → List Slice → Type 0
  Ready first ss = Stands t ss
  Ready only_unknown ss = Stands t ss
  Ready (derived z a) ss = Follow t (Some a) ss

  pub flags_back : (y x : Before) → BackAs y x → (f : Flags) → may_stand y f ≡ may_stand x f
  flags_back y first e f = ap (λ (y : Before). may_stand y f) e
  flags_back y only_unknown e f = ap (λ (y : Before). may_stand y f) e
  flags_back y (derived true a) (inl e) f = ap (λ (y : Before). may_stand y f) e.1
  flags_back y (derived false a) (inl e) f = absurd cc
  flags_back y (derived true a) (inr (b, e, tied)) f = ap (λ (y : Before). may_stand y f) e
  flags_back y (derived false a) (inr (b, e, tied)) f = ap (λ (y : Before). may_stand y f) e

  named_both : (y x : Before) → BackAs y x → (id : List ℕ)
      → ((class_in t x id ≡ class_by_id t id) × (class_in u y id ≡ class_by_id u id)) ⊎ ((a b : ℕ) × (x ≡ derived false a) × (class_in t x id ≡ Some a) × (class_in u y id ≡ Some b) × SameClassId t u a b)
  named_both y first e id = inl (refl, ap (λ (y : Before). class_in u y id) e)
  named_both y only_unknown e id = inl (refl, ap (λ (y : Before). class_in u y id) e)
  named_both y (derived true a) (inl e) id = inl (refl, ap (λ (y : Before). class_in u y id) e.1)
  named_both y (derived false a) (inl e) id = absurd cc
  named_both y (derived true a) (inr (b, e, tied)) id = inl (refl, ap (λ (y : Before). class_in u y id) e)
  named_both y (derived false a) (inr (b, e, tied)) id = inr (a, b, refl, refl, ap (λ (y : Before). class_in u y id) e, tied)

  -- ---- the first slice, by what it is to be

  unknown_ready : (x : Before) (id bytes : List ℕ) (o : Bool) (table : List ℕ) (ss : List Slice) → Ready x (unknown id bytes o table ∷ ss) → (class_by_id t id ≡ None) × ((x ≡ first) ⊎ (x ≡ only_unknown))
  unknown_ready first id bytes o table [] h = (h, inl refl)
  unknown_ready first id bytes o table (s ∷ ss) h = (h.0, inl refl)
  unknown_ready only_unknown id bytes o table [] h = (h, inr refl)
  unknown_ready only_unknown id bytes o table (s ∷ ss) h = (h.0, inr refl)
  unknown_ready (derived z a) id bytes o table ss h = absurd h

  pub known_ready : (x : Before) (a : ℕ) (content : Members) (ss : List Slice) → Ready x (known a content ∷ ss) → Follow t (base_of t a) ss × IsRow t.classes a
  known_ready first a content ss h = (h.1, h.0)
  known_ready only_unknown a content ss h = (h.1, h.0)
  known_ready (derived z b) a content ss h = subst (λ (k : ℕ). Follow t (base_of t k) ss × IsRow t.classes k) (sym h.0) (h.2, h.1)

  pub base_ready : (x : Before) (s : Slice) (ss : List Slice) → Ready x (s ∷ ss) → is_base x (slice_class s) ≡ true
  base_ready first s ss h = refl
  base_ready only_unknown s ss h = refl
  base_ready (derived z b) (known a content) ss h = eq-eqb a b h.0
  base_ready (derived z b) (unknown id bytes o table) ss h = absurd h

  not_plain : {C : Type 0} (x : Before) (a : ℕ) → x ≡ derived false a → (x ≡ first) ⊎ (x ≡ only_unknown) → C
  not_plain x a e (inl f) = let h : derived false a ≡ first = sym e ∙ f in absurd cc
  not_plain x a e (inr f) = let h : derived false a ≡ only_unknown = sym e ∙ f in absurd cc

  pub class_back : (y x : Before) → BackAs y x → (id : List ℕ) (sized : Bool) (s r : Slice) (ss : List Slice) → SeenAs t u ks s r → Ready x (s ∷ ss) → FormedAs id sized (class_in u y id) r → class_in t x id ≡ slice_class s
  class_back y x sees id sized (unknown i b o k) r ss (r_is, hidden) ready (inr (e, content, is, form)) = known_unknown e content i b o k (sym form ∙ r_is)
  class_back y x sees id sized (unknown i b o k) r ss (r_is, hidden) ready (inl (is, big, x2, o2, k2, form)) =
      unknown_id id i x2 b o2 o k2 k (sym form ∙ r_is) λ same.
      let h = unknown_ready x i b o k ss ready in
      elim (named_both y x sees id) [
        | inl n ↦ n.0 ∙ ap (class_by_id t) same ∙ h.0
        | inr (a, c, plain, one, two, tied) ↦ not_plain x a plain h.1
      ]
  class_back y x sees id sized (known a content) r ss (inl (b, r_is, tied)) ready (inl (is, big, x2, o2, k2, form)) = known_unknown b content id x2 o2 k2 (sym r_is ∙ form)
  class_back y x sees id sized (known a content) r ss (inl (b, r_is, tied)) ready (inr (e, other, is, form)) =
      known_is e b other content (sym form ∙ r_is) λ same.
      elim (named_both y x sees id) [
        | inl n ↦ n.0 ∙ tied_named t u both id a b (sym n.1 ∙ is ∙ ap Some same) tied
        | inr (c, d, plain, one, two, other_tied) ↦ one ∙ ap Some (sym (bases_same x c a content ss plain ready))
      ]
    where
      bases_same : (x : Before) (c a : ℕ) (content : Members) (ss : List Slice) → x ≡ derived false c → Ready x (known a content ∷ ss) → a ≡ c
      bases_same x c a content ss e h = (subst (λ (x : Before). Ready x (known a content ∷ ss)) e h).0
  class_back y x sees id sized (known a content) r ss (inr (i, b, o, k, r_is, named, hidden, opens)) ready (inr (e, other, is, form)) = known_unknown e other i b o k (sym form ∙ r_is)
  class_back y x sees id sized (known a content) r ss (inr (i, b, o, k, r_is, named, hidden, opens)) ready (inl (is, big, x2, o2, k2, form)) =
      unknown_id id i x2 b o2 o k2 k (sym form ∙ r_is) λ same.
      elim (named_both y x sees id) [
        | inl n ↦ n.0 ∙ ap (class_by_id t) same ∙ named
        | inr (c, d, plain, one, two, tied) ↦ (let h : Some d ≡ None = sym two ∙ is in absurd cc)
      ]

  pub read_back : (f : Flags) (id : List ℕ) (s r : Slice) (d : Option ℕ) → SeenAs t u ks s r → FormedAs id f.has_size d r → can_be_read all_slices (slice_class s) f ≡ true
  read_back f id (known a content) r d seen form = refl
  read_back f id (unknown i b o k) r d (r_is, hidden) (inl (is, big, x2, o2, k2, form)) = big
  read_back f id (unknown i b o k) r d (r_is, hidden) (inr (e, content, is, form)) = known_unknown e content i b o k (sym form ∙ r_is)

  pub before_back : (f : Flags) (id : List ℕ) (s r : Slice) (d : Option ℕ) → SeenAs t u ks s r → FormedAs id f.has_size d r → BackAs (before_next u d f) (before_next t (slice_class s) f)
  before_back f id (unknown i b o k) r d (r_is, hidden) (inr (e, content, is, form)) = known_unknown e content i b o k (sym form ∙ r_is)
  before_back f id (unknown i b o k) r d (r_is, hidden) (inl (is, big, x2, o2, k2, form)) = ap (λ (d : Option ℕ). before_next u d f) is
  before_back f id (known a content) r d (inl (b, r_is, tied)) (inl (is, big, x2, o2, k2, form)) = known_unknown b content id x2 o2 k2 (sym r_is ∙ form)
  before_back f id (known a content) r d (inl (b, r_is, tied)) (inr (e, other, is, form)) =
      known_is e b other content (sym form ∙ r_is) λ same.
      subst (λ (d : Option ℕ). BackAs (before_next u d f) (before_base f.has_size (base_of t a))) (sym (is ∙ ap Some same)) (by_bases (base_of t a) (base_of u b) (tied_base t u both a b tied))
    where
      by_bases : (o p : Option ℕ) → SameBase t u rows.Class o p → BackAs (before_base f.has_size p) (before_base f.has_size o)
      by_bases None p e = ap (before_base f.has_size) e
      by_bases (Some x) p (y, e, tied) = inr (y, ap (before_base f.has_size) e, tied)
  before_back f id (known a content) r d (inr (i, b, o, k, r_is, named, hidden, opens)) (inr (e, other, is, form)) = known_unknown e other i b o k (sym form ∙ r_is)
  before_back f id (known a content) r d (inr (i, b, o, k, r_is, named, hidden, opens)) (inl (is, big, x2, o2, k2, form)) =
      subst (λ (d : Option ℕ). BackAs (before_next u d f) (before_base f.has_size (base_of t a))) (sym is) (by_base (base_of t a))
    where
      by_base : (o : Option ℕ) → BackAs only_unknown (before_base f.has_size o)
      by_base None = refl
      by_base (Some x) = inl (big, refl)

  -- ---- what stands behind

  pub none_back : (ss rs : List Slice) → AllSeen t u ks ss rs → rs ≡ [] → ss ≡ []
  none_back [] rs seen e = refl
  none_back (s ∷ ss) rs (r, others, is, one, rest) e = let h : r ∷ others ≡ [] = sym is ∙ e in absurd cc

  pub slices_some : {C : Type 0} (port : Port (State ℕ) Spelled) (n : ℕ) (y : Before) (bytes : List ℕ) (rs : List Slice) (from to : Spelled) → SpellsSlices port u all_slices n y bytes rs from to → rs ≡ [] → C
  slices_some port zero y bytes rs from to h e = absurd h
  slices_some port (suc n) y bytes rs from to (f, a, b, mid, parts, flags, (id, c, d, next, cut, is_id, (base, (read, (ends, (slice, g, h, end, pieces, body, (others, is, rest))))))) e =
      let h : slice ∷ others ≡ [] = sym is ∙ e in absurd cc

  module _ (port : Port (State ℕ) Spelled) (n : ℕ) (y : Before) (bytes : List ℕ) (ss rs : List Slice) (from to : Spelled) (seen : AllSeen t u ks ss rs) where
    ends_back : (last : Bool) → Others port u (SpellsSlices port u all_slices n) last y bytes rs from to → (o : Option ℕ) → Follow t o ss → same_bool last (is_none o) ≡ true
    ends_back true h None bases = refl
    ends_back true h (Some a) bases = absurd (subst (Follow t (Some a)) (none_back ss rs seen h.1) bases)
    ends_back false h (Some a) bases = refl
    ends_back false h None bases = slices_some port n y bytes rs from to h (no_more ss rs seen bases)
      where
        no_more : (ss rs : List Slice) → AllSeen t u ks ss rs → ss ≡ [] → rs ≡ []
        no_more [] rs seen e = seen
        no_more (s ∷ ss) rs seen e = absurd cc

    pub well_back : (f : Flags) (x : Before) (s : Slice) → Ready x (s ∷ ss) → Others port u (SpellsSlices port u all_slices n) f.is_last y bytes rs from to → ends_well t (slice_class s) f ≡ true
    well_back f x (unknown i b o k) ready h = refl
    well_back f x (known a content) ready h = ends_back f.is_last h (base_of t a) (known_ready x a content ss ready).0
