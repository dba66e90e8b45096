-- What fits its place in one of both schemas fits it in the other: a class that the second lacks is never the base of one
-- that it has.
use Rattle.std.proofs.Common.{ℕ, zero, suc, ◌≡◌, ◌<◌, Bool, true, false, ◌||◌, ◌⊎◌, List, [], ◌∷◌, length, refl, sym, ap, ◌∙◌, subst, Option, Some, None, inl, inr}
use Rattle.std.specs.Prelude.{nat_eq}
use Rattle.std.proofs.lemmas.Bool.{cases_lt, eqb-true, eq-eqb}
use Rattle.ice_types.specs.declared.kind.RowRef.TheVariants as rows
use Rattle.ice_types.specs.Tables.{Tables, HasId, class_ids}
use Rattle.ice_types.specs.Rules.{IsSchema}
use Rattle.ice_types.specs.Lacking.{SameBase}
use Rattle.ice_types.proofs.RowIdentity.{one_id}
use Rattle.ice_encoding.specs.OptionalMembers.{Members}
use Rattle.ice_encoding.specs.Classes.{class_by_id, base_of, holds_of, leads_to, is_a}
use Rattle.ice_encoding.specs.Graph.{Slice, known, unknown}
use Rattle.ice_encoding.specs.Instances.{class_of, comes_from, class_fits, slices_of, AllFit}
use Rattle.graph_laws.proofs.Related.{related, to_base}
use Rattle.graph_laws.specs.Seeing.{SameClassId, SeenAs, AllSeen, EachSeen}
use Rattle.graph_laws.proofs.Classed.{Both, tied_once, tied_base, hidden_untied}
use Rattle.graph_laws.proofs.Standing.{Follow, Stands}
use Rattle.graph_laws.proofs.RelayedRelated.{AllTied, each_slices}
use Rattle.graph_laws.proofs.Stays.{Uses, past_end}

or_else : {C : Type 0} (a b : Bool) → (a || b) ≡ true → (a ≡ true → C) → (b ≡ true → C) → C
or_else true b e here there = here refl
or_else false b e here there = there e

or_left : (a b : Bool) → a ≡ true → (a || b) ≡ true
or_left a b e = subst (λ (x : Bool). (x || b) ≡ true) (sym e) refl

or_right : (a b : Bool) → b ≡ true → (a || b) ≡ true
or_right true b e = refl
or_right false b e = e

-- no chain of bases is longer than the table
short : (t : Tables) → IsSchema t → (n base class : ℕ) → leads_to t n base class ≡ true → is_a t class base ≡ true
short t rules n base class h = (related t class base rules).1 (to_base t n base class h)

module _ (t u : Tables) where
  -- by their classes alone, a slice in the one schema and in the other
  abbrev pub LikeAs : Slice → Slice → Type 0
  LikeAs (known a content) r = ((b : ℕ) × (c : Members) × (r ≡ known b c) × SameClassId t u a b)
      ⊎ ((id bytes : List ℕ) × (optionals : Bool) × (table : List ℕ) × (r ≡ unknown id bytes optionals table) × (class_by_id t id ≡ Some a) × (class_by_id u id ≡ None))
  LikeAs (unknown id bytes optionals table) r = r ≡ unknown id bytes optionals table

  abbrev pub AllLike : List Slice → List Slice → Type 0
  AllLike [] others = others ≡ []
  AllLike (s ∷ ss) others = (r : Slice) × (rs : List Slice) × (others ≡ r ∷ rs) × LikeAs s r × AllLike ss rs

  slice_like : (ks : List (List Slice)) (s r : Slice) → SeenAs t u ks s r → LikeAs s r
  slice_like ks (known a content) r (inl (b, is, tied)) = inl (b, content, is, tied)
  slice_like ks (known a content) r (inr (id, bytes, optionals, table, is, named, hidden, opens)) = inr (id, bytes, optionals, table, is, named, hidden)
  slice_like ks (unknown id bytes optionals table) r h = h.0

  all_like : (ks : List (List Slice)) (ss rs : List Slice) → AllSeen t u ks ss rs → AllLike ss rs
  all_like ks [] rs e = e
  all_like ks (s ∷ ss) rs (r, others, is, one, rest) = (r, others, is, slice_like ks s r one, all_like ks ss others rest)

  pub each_like : (ks js : List (List Slice)) → EachSeen t u ks ks js → (n : ℕ) → AllLike (slices_of ks n) (slices_of js n)
  each_like ks js seen n = all_like ks (slices_of ks n) (slices_of js n) (each_slices t u ks ks js n seen)

module _ (t u : Tables) (both : Both t u) where
  -- ---- from the first to the second

  on_base : (n d e : ℕ) → ((x y : ℕ) → SameClassId t u x y → leads_to t n d x ≡ true → leads_to u n e y ≡ true) → (o p : Option ℕ) → SameBase t u rows.Class o p → holds_of o (leads_to t n d) ≡ true → holds_of p (leads_to u n e) ≡ true
  on_base n d e go None p none h = absurd cc
  on_base n d e go (Some x) p (y, is, tied) h = subst (λ (p : Option ℕ). holds_of p (leads_to u n e) ≡ true) (sym is) (go x y tied h)

  leads_tied : (n c b d e : ℕ) → SameClassId t u c b → SameClassId t u d e → leads_to t n d c ≡ true → leads_to u n e b ≡ true
  leads_tied zero c b d e tied end h = absurd cc
  leads_tied (suc n) c b d e tied end h = or_else (nat_eq c d) (holds_of (base_of t c) (leads_to t n d)) h
      (λ same. or_left (nat_eq b e) (holds_of (base_of u b) (leads_to u n e)) (eq-eqb b e (tied_once t u both c b e tied (subst (λ (k : ℕ). SameClassId t u k e) (sym (eqb-true c d same)) end))))
      (λ later. or_right (nat_eq b e) (holds_of (base_of u b) (leads_to u n e)) (on_base n d e (λ x y tied h. leads_tied n x y d e tied end h) (base_of t c) (base_of u b) (tied_base t u both c b tied) later))

  -- the first class that is left comes from where it comes from
  abbrev Comes : ℕ → List Slice → Type 0
  Comes e rs = (n b : ℕ) × (class_of rs ≡ Some b) × (leads_to u n e b ≡ true)

  chain_seen : (n d e : ℕ) → SameClassId t u d e → (o : Option ℕ) (ss rs : List Slice) → Follow t o ss → AllLike t u ss rs → holds_of o (leads_to t n d) ≡ true → Comes e rs
  chain_seen n d e tied None ss rs bases seen h = absurd cc
  chain_seen n d e tied (Some c) [] rs bases seen h = absurd bases
  chain_seen n d e tied (Some c) (unknown id bytes optionals table ∷ ss) rs bases seen h = absurd bases
  chain_seen zero d e tied (Some c) (known other content ∷ ss) rs bases seen h = absurd cc
  chain_seen (suc n) d e tied (Some c) (known other content ∷ ss) rs (same, row, bases) (r, others, is, inl (b, own, r_is, here), rest) h =
      (suc n, b, ap class_of is ∙ ap (λ (s : Slice). class_of (s ∷ others)) r_is, leads_tied (suc n) c b d e (subst (λ (k : ℕ). SameClassId t u k b) same here) tied h)
  chain_seen (suc n) d e tied (Some c) (known other content ∷ ss) rs (same, row, bases) (r, others, is, inr (id, bytes, optionals, table, r_is, named, hidden), rest) h =
      or_else (nat_eq c d) (holds_of (base_of t c) (leads_to t n d)) h
      (λ equal. hidden_untied t u both id other e named hidden (subst (λ (k : ℕ). SameClassId t u k e) (sym (eqb-true c d equal) ∙ sym same) tied))
      (λ later. let g = chain_seen n d e tied (base_of t c) ss others bases rest later in
      (g.0, g.1, ap class_of is ∙ ap (λ (s : Slice). class_of (s ∷ others)) r_is ∙ g.2, g.3))

  instance_seen : (d e : ℕ) → SameClassId t u d e → (ss rs : List Slice) → Stands t ss → AllLike t u ss rs → comes_from t d (class_of ss) ≡ true → Comes e rs
  instance_seen d e tied [] rs one seen h = absurd one
  instance_seen d e tied (known c content ∷ ss) rs one seen h = chain_seen (suc (length t.classes)) d e tied (Some c) (known c content ∷ ss) rs (refl, one.0, one.1) seen h
  instance_seen d e tied (unknown id bytes optionals table ∷ []) rs one seen h = absurd cc
  instance_seen d e tied (unknown id bytes optionals table ∷ s ∷ ss) rs one (r, others, is, r_is, rest) h =
      let g = instance_seen d e tied (s ∷ ss) others one.1 rest h in
      (g.0, g.1, ap class_of is ∙ ap (λ (x : Slice). class_of (x ∷ others)) r_is ∙ g.2, g.3)

  -- ---- from the second to the first

  once_tied : (a c b : ℕ) → SameClassId t u a b → SameClassId t u c b → a ≡ c
  once_tied a c b (id, here, there) (other, also, again) =
      let e : rows.Class a ≡ rows.Class c = both.reader.apart id (rows.Class a) (rows.Class c) here (subst (λ (i : List ℕ). HasId (class_ids t) i c) (one_id u (rows.Class b) other id again there) also) in cc

  on_other : (n d e : ℕ) → ((x y : ℕ) → SameClassId t u x y → leads_to u n e y ≡ true → leads_to t n d x ≡ true) → (o p : Option ℕ) → SameBase t u rows.Class o p → holds_of p (leads_to u n e) ≡ true → holds_of o (leads_to t n d) ≡ true
  on_other n d e go None p none h = let no : holds_of None (leads_to u n e) ≡ true = subst (λ (p : Option ℕ). holds_of p (leads_to u n e) ≡ true) none h in absurd cc
  on_other n d e go (Some x) p (y, is, tied) h = go x y tied (subst (λ (p : Option ℕ). holds_of p (leads_to u n e) ≡ true) is h)

  leads_back : (n c b d e : ℕ) → SameClassId t u c b → SameClassId t u d e → leads_to u n e b ≡ true → leads_to t n d c ≡ true
  leads_back zero c b d e tied end h = absurd cc
  leads_back (suc n) c b d e tied end h = or_else (nat_eq b e) (holds_of (base_of u b) (leads_to u n e)) h
      (λ same. or_left (nat_eq c d) (holds_of (base_of t c) (leads_to t n d)) (eq-eqb c d (once_tied c d b tied (subst (SameClassId t u d) (sym (eqb-true b e same)) end))))
      (λ later. or_right (nat_eq c d) (holds_of (base_of t c) (leads_to t n d)) (on_other n d e (λ x y tied h. leads_back n x y d e tied end h) (base_of t c) (base_of u b) (tied_base t u both c b tied) later))

  comes_some : {C : Type 0} (e : ℕ) (o : Option ℕ) → comes_from u e o ≡ true → ((b : ℕ) → o ≡ Some b → is_a u b e ≡ true → C) → C
  comes_some e None h go = absurd cc
  comes_some e (Some b) h go = go b refl h

  some_one : (a b : ℕ) → Some a ≡ Some b → a ≡ b
  some_one a b e = cc

  -- bases lead to the declared class
  chain_back : (d e : ℕ) → SameClassId t u d e → (o : Option ℕ) (ss rs : List Slice) → Follow t o ss → AllLike t u ss rs → comes_from u e (class_of rs) ≡ true → (n : ℕ) × (holds_of o (leads_to t n d) ≡ true)
  chain_back d e tied None ss rs bases seen h =
      let none : rs ≡ [] = subst (λ (l : List Slice). AllLike t u l rs) bases seen in
      let no : comes_from u e (class_of []) ≡ true = subst (λ (l : List Slice). comes_from u e (class_of l) ≡ true) none h in
      absurd cc
  chain_back d e tied (Some c) [] rs bases seen h = absurd bases
  chain_back d e tied (Some c) (unknown id bytes optionals table ∷ ss) rs bases seen h = absurd bases
  chain_back d e tied (Some c) (known other content ∷ ss) rs (same, row, bases) (r, others, is, inl (b, own, r_is, here), rest) h =
      let at : class_of rs ≡ Some b = ap class_of is ∙ ap (λ (s : Slice). class_of (s ∷ others)) r_is in
      (suc (length u.classes), leads_back (suc (length u.classes)) c b d e (subst (λ (k : ℕ). SameClassId t u k b) same here) tied (subst (λ (o : Option ℕ). comes_from u e o ≡ true) at h))
  chain_back d e tied (Some c) (known other content ∷ ss) rs (same, row, bases) (r, others, is, inr (id, bytes, optionals, table, r_is, named, hidden), rest) h =
      let at : class_of rs ≡ class_of others = ap class_of is ∙ ap (λ (s : Slice). class_of (s ∷ others)) r_is in
      let g = chain_back d e tied (base_of t c) ss others bases rest (subst (λ (o : Option ℕ). comes_from u e o ≡ true) at h) in
      (suc g.0, or_right (nat_eq c d) (holds_of (base_of t c) (leads_to t g.0 d)) g.1)

  instance_back : (d e : ℕ) → SameClassId t u d e → (ss rs : List Slice) → Stands t ss → AllLike t u ss rs → comes_from u e (class_of rs) ≡ true → comes_from t d (class_of ss) ≡ true
  instance_back d e tied [] rs one seen h = absurd one
  instance_back d e tied (known c content ∷ ss) rs one seen h =
      let g = chain_back d e tied (Some c) (known c content ∷ ss) rs (refl, one.0, one.1) seen h in
      short t both.reader g.0 d c g.1
  instance_back d e tied (unknown id bytes optionals table ∷ []) rs one (r, others, is, r_is, rest) h =
      let at : class_of rs ≡ None = ap class_of is ∙ ap (λ (x : Slice). class_of (x ∷ others)) r_is ∙ ap class_of rest in
      let no : comes_from u e None ≡ true = subst (λ (o : Option ℕ). comes_from u e o ≡ true) at h in
      absurd cc
  instance_back d e tied (unknown id bytes optionals table ∷ s ∷ ss) rs one (r, others, is, r_is, rest) h =
      let at : class_of rs ≡ class_of others = ap class_of is ∙ ap (λ (x : Slice). class_of (x ∷ others)) r_is in
      instance_back d e tied (s ∷ ss) others one.1 rest (subst (λ (o : Option ℕ). comes_from u e o ≡ true) at h)

  -- ---- in a graph

  module _ (ks js : List (List Slice)) (like : (n : ℕ) → AllLike t u (slices_of ks n) (slices_of js n)) (stands : (n : ℕ) → n < length ks → Stands t (slices_of ks n)) where
    comes_short : (e : ℕ) (rs : List Slice) → Comes e rs → comes_from u e (class_of rs) ≡ true
    comes_short e rs (n, b, is_some, leads) = subst (λ (o : Option ℕ). comes_from u e o ≡ true) (sym is_some) (short u both.node n e b leads)

    one_fits : (d e n : ℕ) → SameClassId t u d e → comes_from t d (class_of (slices_of ks n)) ≡ true → comes_from u e (class_of (slices_of js n)) ≡ true
    one_fits d e n tied h = elim (cases_lt n (length ks)) [
      | inl lt ↦ comes_short e (slices_of js n) (instance_seen d e tied (slices_of ks n) (slices_of js n) (stands n lt) (like n) h)
      | inr le ↦ (let none : comes_from t d (class_of []) ≡ true = subst (λ (l : List Slice). comes_from t d (class_of l) ≡ true) (past_end ks n le) h in absurd cc)
    ]

    pub fits_there : (declared here : Option ℕ) (n : ℕ) → SameBase t u rows.Class declared here → class_fits t declared (class_of (slices_of ks n)) ≡ true → class_fits u here (class_of (slices_of js n)) ≡ true
    fits_there None here n none h = subst (λ (o : Option ℕ). class_fits u o (class_of (slices_of js n)) ≡ true) (sym none) refl
    fits_there (Some d) here n (e, is_some, tied) h = subst (λ (o : Option ℕ). class_fits u o (class_of (slices_of js n)) ≡ true) (sym is_some) (one_fits d e n tied h)

    pub all_fit_seen : (ms : Uses) → AllTied t u ks ms → AllFit u js ms
    all_fit_seen [] h = tt
    all_fit_seen (m ∷ ms) h = (fits_there h.0.0 m.declared m.name h.0.1 h.0.2, all_fit_seen ms h.1)

    one_back : (d e n : ℕ) → SameClassId t u d e → comes_from u e (class_of (slices_of js n)) ≡ true → comes_from t d (class_of (slices_of ks n)) ≡ true
    one_back d e n tied h = elim (cases_lt n (length ks)) [
      | inl lt ↦ instance_back d e tied (slices_of ks n) (slices_of js n) (stands n lt) (like n) h
      | inr le ↦ (
          let none : slices_of js n ≡ [] = subst (λ (l : List Slice). AllLike t u l (slices_of js n)) (past_end ks n le) (like n) in
          let no : comes_from u e (class_of []) ≡ true = subst (λ (l : List Slice). comes_from u e (class_of l) ≡ true) none h in absurd cc)
    ]

    -- what fits in the second schema, by the declared class that is the one in the first, fits there
    pub fits_back : (declared here : Option ℕ) (n : ℕ) → SameBase t u rows.Class declared here → class_fits u here (class_of (slices_of js n)) ≡ true → class_fits t declared (class_of (slices_of ks n)) ≡ true
    fits_back None here n none h = refl
    fits_back (Some d) here n (e, is_some, tied) h = one_back d e n tied (subst (λ (o : Option ℕ). class_fits u o (class_of (slices_of js n)) ≡ true) is_some h)
