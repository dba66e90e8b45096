-- What is kept as it is written is of its type under the schema that lacks classes.
use Rattle.std.proofs.Common.{◌≤◌, ℕ, zero, suc, ◌≡◌, ◌<◌, Bool, ◌⊎◌, List, [], ◌∷◌, length, map, refl, sym, ap, ◌∙◌, subst, Option, Some, None, inl, inr, arith}
use Rattle.std.specs.Prelude.{slice_get}
use Rattle.ice_types.specs.declared.kind.TypeRef.{TypeRef}
use Rattle.ice_types.specs.declared.kind.TypeRef.TheVariants as kinds
use Rattle.ice_types.specs.declared.kind.RowRef.TheVariants as rows
use Rattle.ice_types.specs.declared.declarations.Entry.{Entry}
use Rattle.ice_types.specs.declared.declarations.Member.{Member}
use Rattle.ice_types.specs.declared.declarations.Shape.{Shape}
use Rattle.ice_types.specs.declared.schema.TheConstants.{MOST_DEPTH}
use Rattle.ice_types.specs.Tables.{Tables}
use Rattle.ice_types.specs.Lacking.{SameKind, SameShape, SameBase}
use Rattle.ice_encoding.specs.Tree.{Tree, Trees, none, tree, Entries, no_entry, entry}
use Rattle.ice_encoding.specs.Typed.{AllOf, EachOf, PairsOf, Refers, no_reference, HasType}
use Rattle.ice_encoding.proofs.Within.{proxy_grown}
use Rattle.ice_encoding.specs.Enum.{HasNumber}
use Rattle.ice_encoding.specs.Optionals.{Present, kind_tagged}
use Rattle.ice_encoding.specs.OptionalMembers.{Members, required_kinds}
use Rattle.ice_encoding.specs.Classes.{class_by_id, base_of, own_members}
use Rattle.ice_encoding.specs.Graph.{Slice, known, unknown, Graph}
use Rattle.ice_encoding.specs.Names.{names_of, instance_names}
use Rattle.ice_encoding.specs.Instances.{slices_of}
use Rattle.ice_encoding.specs.TypedGraph.{AreReferred, AreOptions, AreMembers, IsKnown, AreBases, IsUnknown, IsInstance, IsHeldIn, RefersIn, OfType}
use Rattle.ice_encoding.specs.Slices.{unknown_bytes}
use Rattle.ice_encoding.specs.CanonicalGraph.{is_there, written_id, table_of, sized_bytes}
use Rattle.ice_prims.specs.Rest.{IsBytes}
use Rattle.graph_laws.proofs.PutBytes.{kept_bytes}
use Rattle.graph_laws.proofs.WrittenBytes.{sized_fit}
use Rattle.graph_arena.specs.Arena.{AreBelow}
use Rattle.graph_arena.proofs.Agreeing.{below-left, below-right}
use Rattle.graph_laws.proofs.Once.{once-below}
use Rattle.graph_laws.specs.Seeing.{SameClassId}
use Rattle.graph_laws.proofs.Rows.{Agrees, row_there}
use Rattle.graph_laws.proofs.Measured.{SameKinds, SameMembers, TiedOption, same_entries, kinds_same, required_same, tagged_same, own_same}
use Rattle.graph_laws.proofs.ClassIds.{id_named, is_slice_id}
use Rattle.graph_laws.proofs.Classed.{Both, rows_agree, tied_base, tied_once, hidden_untied}
use Rattle.graph_laws.proofs.RelayedFitting.{fits_there}
use Rattle.graph_laws.proofs.Closing.{AllClosed, EachClosed, closed_slices, closed_length, all_like_closed}
use Rattle.graph_laws.proofs.Standing.{Stands}
use Rattle.graph_laws.proofs.There.{stands_in}

-- what may stand as a reference may stand there in the other schema, and each endpoint too
abbrev Moves : Tables → Tables → Refers → Refers → Type 0
Moves t u Refer Other = (Refer.most ≤ Other.most) × ((a b n : Option ℕ) → SameBase t u rows.Class a b → Refer.Held a n → Other.Held b n)

module _ (t u : Tables) (agrees : Agrees t u) where
  all_typed : (One Two : Tree → Type 0) → ((v : Tree) → One v → Two v) → (vs : Trees) → AllOf One vs → AllOf Two vs
  all_typed One Two go none h = tt
  all_typed One Two go (tree v vs) h = (go v h.0, all_typed One Two go vs h.1)

  pairs_typed : (Key Held Key' Held' : Tree → Type 0) → ((v : Tree) → Key v → Key' v) → ((v : Tree) → Held v → Held' v) → (ps : Entries) → PairsOf Key Held ps → PairsOf Key' Held' ps
  pairs_typed Key Held Key' Held' key held no_entry h = tt
  pairs_typed Key Held Key' Held' key held (entry k v ps) h = (key k h.0, held v h.1, pairs_typed Key Held Key' Held' key held ps h.2)

  each_typed : (One Two : TypeRef → Tree → Type 0) → ((k l : TypeRef) → SameKind t u k l → (v : Tree) → One k v → Two l v) → (ks ls : List TypeRef) → SameKinds t u ks ls → (vs : Trees) → EachOf One ks vs → EachOf Two ls vs
  each_typed One Two go [] [] tied vs h = h
  each_typed One Two go [] (l ∷ ls) tied vs h = absurd tied
  each_typed One Two go (k ∷ ks) [] tied vs h = absurd tied
  each_typed One Two go (k ∷ ks) (l ∷ ls) tied vs h = (h.0, h.1, h.2, go k l tied.0 h.0 h.3, each_typed One Two go ks ls tied.1 h.1 h.4)

  same_one : {A : Type 0} {C : Type 0} (a b : A) (o : Option A) → o ≡ Some a → o ≡ Some b → (a ≡ b → C) → C
  same_one a b o e f go = let both : Some a ≡ Some b = sym e ∙ f in go cc

  value_typed : (Refer Other : Refers) → Moves t u Refer Other → (levels : ℕ) (k l : TypeRef) → SameKind t u k l → (v : Tree) → HasType t Refer levels k v → HasType u Other levels l v
  value_typed Refer Other moves zero k l tied v h = h
  value_typed Refer Other moves (suc levels) kinds.Bool l e v h = subst (λ (l : TypeRef). HasType u Other (suc levels) l v) (sym e) h
  value_typed Refer Other moves (suc levels) kinds.Byte l e v h = subst (λ (l : TypeRef). HasType u Other (suc levels) l v) (sym e) h
  value_typed Refer Other moves (suc levels) kinds.Short l e v h = subst (λ (l : TypeRef). HasType u Other (suc levels) l v) (sym e) h
  value_typed Refer Other moves (suc levels) kinds.Int l e v h = subst (λ (l : TypeRef). HasType u Other (suc levels) l v) (sym e) h
  value_typed Refer Other moves (suc levels) kinds.Long l e v h = subst (λ (l : TypeRef). HasType u Other (suc levels) l v) (sym e) h
  value_typed Refer Other moves (suc levels) kinds.Text l e v h = subst (λ (l : TypeRef). HasType u Other (suc levels) l v) (sym e) h
  value_typed Refer Other moves (suc levels) (kinds.Proxy None) l e v h = subst (λ (l : TypeRef). HasType u Other (suc levels) l v) (sym e) (h.0, proxy_grown Refer.most Other.most moves.0 h.0 h.1, h.2)
  value_typed Refer Other moves (suc levels) (kinds.Proxy (Some a)) l (b, is, same) v h = subst (λ (l : TypeRef). HasType u Other (suc levels) l v) (sym is) (h.0, proxy_grown Refer.most Other.most moves.0 h.0 h.1, h.2)
  value_typed Refer Other moves (suc levels) (kinds.Class None) l e v (n, refers, v_is) = subst (λ (l : TypeRef). HasType u Other (suc levels) l v) (sym e) (n, moves.1 None None n refl refers, v_is)
  value_typed Refer Other moves (suc levels) (kinds.Class (Some a)) l (b, is, same) v (n, refers, v_is) =
      subst (λ (l : TypeRef). HasType u Other (suc levels) l v) (sym is) (n, moves.1 (Some a) (Some b) n (b, refl, same) refers, v_is)
  value_typed Refer Other moves (suc levels) (kinds.Enum a) l (b, is, same) v (e, row, n, has, small, v_is) =
      let r = agrees.enums a b same in
      same_one r.0 e (slice_get t.enums a) r.2 row λ one.
      let entries : e.entries ≡ r.1.entries = ap (λ (d : _). d.entries) (sym one) ∙ same_entries r.0.entries r.1.entries r.4 in
      subst (λ (l : TypeRef). HasType u Other (suc levels) l v) (sym is) (r.1, r.3, n, subst (λ (es : List Entry). HasNumber es n) entries has, small, v_is)
  value_typed Refer Other moves (suc levels) (kinds.Seq a) l (b, is, same) v (q, row, items, v_is, many, all) =
      let r = agrees.seqs a b same in
      same_one r.0 q (slice_get t.seqs a) r.2 row λ one.
      let kind : SameKind t u q.element r.1.element = subst (λ (d : _). SameKind t u d.element r.1.element) one r.4 in
      subst (λ (l : TypeRef). HasType u Other (suc levels) l v) (sym is)
      (r.1, r.3, items, v_is, many, all_typed (HasType t Refer levels q.element) (HasType u Other levels r.1.element) (value_typed Refer Other moves levels q.element r.1.element kind) items all)
  value_typed Refer Other moves (suc levels) (kinds.Dict a) l (b, is, same) v (d, row, pairs, v_is, many, rising, all) =
      let r = agrees.dicts a b same in
      same_one r.0 d (slice_get t.dicts a) r.2 row λ one.
      let both : SameKind t u d.key r.1.key × SameKind t u d.value r.1.value = subst (λ (d : _). SameKind t u d.key r.1.key × SameKind t u d.value r.1.value) one r.4 in
      subst (λ (l : TypeRef). HasType u Other (suc levels) l v) (sym is) (
        r.1,
        r.3,
        pairs,
        v_is,
        many,
        rising,
        pairs_typed (HasType t no_reference levels d.key) (HasType t Refer levels d.value) (HasType u no_reference levels r.1.key) (HasType u Other levels r.1.value)
            (value_typed no_reference no_reference (omega arith, λ a b n tied h. h) levels d.key r.1.key both.0) (value_typed Refer Other moves levels d.value r.1.value both.1) pairs all,
      )
  value_typed Refer Other moves (suc levels) (kinds.Struct a) l (b, is, same) v (d, row, members, v_is, all) =
      let r = agrees.structs a b same in
      same_one r.0 d (slice_get t.structs a) r.2 row λ one.
      let both : SameMembers t u d.members r.1.members = subst (λ (d : _). SameMembers t u d.members r.1.members) one r.4 in
      subst (λ (l : TypeRef). HasType u Other (suc levels) l v) (sym is) (
        r.1,
        r.3,
        members,
        v_is,
        each_typed (HasType t Refer levels) (HasType u Other levels) (value_typed Refer Other moves levels) (map (λ m. m.kind) d.members) (map (λ m. m.kind) r.1.members) (kinds_same t u d.members r.1.members both) members all,
      )

  module _ (Refer Other : Refers) (moves : Moves t u Refer Other) where
    by_tag : (o p : Option TypeRef) → TiedOption t u o p → (k : TypeRef) → o ≡ Some k → (l : TypeRef) × (p ≡ Some l) × SameKind t u k l
    by_tag None p e k is = absurd cc
    by_tag (Some m) p (l, p_is, tied) k is = (l, p_is, (let e : m ≡ k = cc in subst (λ (m : TypeRef). SameKind t u m l) e tied))

    options_typed : (ms ns : List Member) → SameMembers t u ms ns → (last : Option ℕ) (os : Present) → AreOptions t Refer ms last os → AreOptions u Other ns last os
    options_typed ms ns tied last [] h = tt
    options_typed ms ns tied last (o ∷ os) h =
        let g = by_tag (kind_tagged o.0 ms) (kind_tagged o.0 ns) (tagged_same t u o.0 ms ns tied) h.2 h.3 in
        (h.0, h.1, g.0, g.1, value_typed Refer Other moves MOST_DEPTH h.2 g.0 g.2 o.1 h.4, options_typed ms ns tied (Some o.0) os h.5)

    pub members_typed : (shape other : Shape) → SameShape t u shape other → (c : Members) → AreMembers t Refer shape c → AreMembers u Other other c
    members_typed shape other tied c h = record {
      required = each_typed (HasType t Refer MOST_DEPTH) (HasType u Other MOST_DEPTH) (value_typed Refer Other moves MOST_DEPTH) (required_kinds shape) (required_kinds other) (required_same t u shape other tied) c.required h.required;
      optional = options_typed shape.optional other.optional tied.1 None c.optional h.optional;
    }

-- ---- instances

module _ (t u : Tables) (both : Both t u) (ks js : List (List Slice)) (closed : EachClosed t u ks js) (stands : (n : ℕ) → n < length ks → Stands t (slices_of ks n)) where
  abbrev Refer : Refers
  Refer = RefersIn t ks

  abbrev Other : Refers
  Other = RefersIn u js

  held_there : (a b n : Option ℕ) → SameBase t u rows.Class a b → IsHeldIn t ks a n → IsHeldIn u js b n
  held_there a b None tied h = tt
  held_there a b (Some n) tied h =
      (omega (arith, h.0, closed_length t u ks js closed), fits_there t u both ks js (λ m. all_like_closed t u (slices_of ks m) (slices_of js m) (closed_slices t u ks js m closed)) stands a b n tied h.1)

  moves_there : Moves t u Refer Other
  moves_there = (omega arith, held_there)

  known_there : (a b : ℕ) (content : Members) → SameClassId t u a b → IsKnown t Refer a content → IsKnown u Other b content
  known_there a b content tied h =
      let q = row_there (λ c. c.id) u.classes b tied.0 tied.2 in
      (q.0, q.1, members_typed t u (rows_agree t u both) Refer Other moves_there (own_members t a) (own_members u b) (own_same t u (rows_agree t u both) a b tied) content h.2)

  referred : (table : List ℕ) → AreBelow (length ks) table → AreReferred Other table
  referred [] h = tt
  referred (n ∷ ns) h = ((omega (arith, h.0, closed_length t u ks js closed), refl), referred ns h.1)

  referred_there : (table : List ℕ) → AreReferred Refer table → AreReferred Other table
  referred_there [] h = tt
  referred_there (n ∷ ns) h = (held_there None None (Some n) refl h.0, referred_there ns h.1)

  -- a slice that is kept as it is written
  unknown_there : (a : ℕ) (content : Members) (id bytes : List ℕ) (o : Bool) → class_by_id t id ≡ Some a → class_by_id u id ≡ None → unknown_bytes o bytes ≡ sized_bytes t (known a content) → IsKnown t Refer a content → AreBelow (length ks) (names_of content)
      → IsUnknown u Other id bytes (table_of (known a content))
  unknown_there a content id bytes o named hidden written is_known below = (
    hidden,
    is_slice_id t both.reader id a (id_named t id a named),
    referred (table_of (known a content)) (once-below (length ks) [] (names_of content) below),
    kept_bytes o bytes (subst IsBytes (sym written) (sized_fit t Refer a content is_known)),
  )

  before : (id bytes : List ℕ) (o : Bool) (table : List ℕ) (rs : List Slice) → IsUnknown u Other id bytes table → (rs ≡ []) ⊎ IsInstance u Other rs → IsInstance u Other (unknown id bytes o table ∷ rs)
  before id bytes o table rs k (inl e) = subst (λ (l : List Slice). IsInstance u Other (unknown id bytes o table ∷ l)) (sym e) k
  before id bytes o table [] k (inr h) = absurd h
  before id bytes o table (r ∷ rs) k (inr h) = (k, h)

  bases_there : (o p : Option ℕ) → SameBase t u rows.Class o p → (ss rs : List Slice) → AreBases t Refer o ss → AllClosed t u ss rs → AreBases u Other p rs
  bases_there None p lone ss rs bases all =
      subst (λ (p : Option ℕ). AreBases u Other p rs) (sym lone) (subst (λ (l : List Slice). AllClosed t u l rs) bases all)
  bases_there (Some a) p (q, is, tied) [] rs bases all = absurd bases
  bases_there (Some a) p (q, is, tied) (unknown id bytes o table ∷ ss) rs bases all = absurd bases
  bases_there (Some a) p (q, is, tied) (known b content ∷ ss) rs (same, is_known, bases) (r, others, split, inl (c, r_is, here), rest) =
      let one : c ≡ q = tied_once t u both a c q (subst (λ (k : ℕ). SameClassId t u k c) same here) tied in
      subst (λ (p : Option ℕ). AreBases u Other p rs) (sym is) (subst (AreBases u Other (Some q)) (sym split) (subst (λ (s : Slice). AreBases u Other (Some q) (s ∷ others)) (sym r_is)
      (one, known_there a q content tied is_known, bases_there (base_of t a) (base_of u q) (tied_base t u both a q tied) ss others bases rest)))
  bases_there (Some a) p (q, is, tied) (known b content ∷ ss) rs (same, is_known, bases) (r, others, split, inr (x, r_is, named, hidden, written), rest) =
      hidden_untied t u both (written_id t (known b content)) b q named hidden (subst (λ (k : ℕ). SameClassId t u k q) (sym same) tied)

  -- bases behind a slice that is kept, of which more may be so
  follow_there : (o : Option ℕ) (ss rs : List Slice) → AreBases t Refer o ss → AreBelow (length ks) (instance_names ss) → AllClosed t u ss rs → (rs ≡ []) ⊎ IsInstance u Other rs
  follow_there None ss rs bases below all = inl (subst (λ (l : List Slice). AllClosed t u l rs) bases all)
  follow_there (Some a) [] rs bases below all = absurd bases
  follow_there (Some a) (unknown id bytes o table ∷ ss) rs bases below all = absurd bases
  follow_there (Some a) (known b content ∷ ss) rs (same, is_known, bases) below (r, others, split, inl (c, r_is, here), rest) =
      let tied : SameClassId t u a c = subst (λ (k : ℕ). SameClassId t u k c) same here in
      inr (subst (IsInstance u Other) (sym split) (subst (λ (s : Slice). IsInstance u Other (s ∷ others)) (sym r_is)
      (known_there a c content tied is_known, bases_there (base_of t a) (base_of u c) (tied_base t u both a c tied) ss others bases rest)))
  follow_there (Some a) (known b content ∷ ss) rs (same, is_known, bases) below (r, others, split, inr (x, r_is, named, hidden, written), rest) =
      let more = follow_there (base_of t a) ss others bases (below-right (length ks) (names_of content) (instance_names ss) below) rest in
      inr (subst (IsInstance u Other) (sym split) (subst (λ (s : Slice). IsInstance u Other (s ∷ others)) (sym r_is)
      (before (written_id t (known b content)) x (is_there content.optional) (table_of (known b content)) others (unknown_there b content (written_id t (known b content)) x (is_there content.optional) named hidden written (subst (λ (k : ℕ). IsKnown t Refer k content) (sym same) is_known) (below-left (length ks) (names_of content) (instance_names ss) below)) more)))

  instance_there : (ss rs : List Slice) → IsInstance t Refer ss → AreBelow (length ks) (instance_names ss) → AllClosed t u ss rs → IsInstance u Other rs
  instance_there [] rs h below all = absurd h
  instance_there (unknown id bytes o table ∷ []) rs h below (r, others, split, is, rest) =
      subst (IsInstance u Other) (sym split) (subst (λ (s : Slice). IsInstance u Other (s ∷ others)) (sym is.0)
      (before id bytes o table others (is.1, h.1, referred_there table h.2, h.3) (inl rest)))
  instance_there (unknown id bytes o table ∷ s ∷ ss) rs h below (r, others, split, is, rest) =
      let more = instance_there (s ∷ ss) others h.1 (below-right (length ks) table (instance_names (s ∷ ss)) below) rest in
      subst (IsInstance u Other) (sym split) (subst (λ (s : Slice). IsInstance u Other (s ∷ others)) (sym is.0)
      (before id bytes o table others (is.1, h.0.1, referred_there table h.0.2, h.0.3) (inr more)))
  instance_there (known a content ∷ ss) rs h below (r, others, split, inl (c, r_is, tied), rest) =
      subst (IsInstance u Other) (sym split) (subst (λ (s : Slice). IsInstance u Other (s ∷ others)) (sym r_is)
      (known_there a c content tied h.0, bases_there (base_of t a) (base_of u c) (tied_base t u both a c tied) ss others h.1 rest))
  instance_there (known a content ∷ ss) rs h below (r, others, split, inr (x, r_is, named, hidden, written), rest) =
      let more = follow_there (base_of t a) ss others h.1 (below-right (length ks) (names_of content) (instance_names ss) below) rest in
      subst (IsInstance u Other) (sym split) (subst (λ (s : Slice). IsInstance u Other (s ∷ others)) (sym r_is)
      (before (written_id t (known a content)) x (is_there content.optional) (table_of (known a content)) others (unknown_there a content (written_id t (known a content)) x (is_there content.optional) named hidden written h.0 (below-left (length ks) (names_of content) (instance_names ss) below)) more))

-- the graph that is closed is of its type
pub closed_typed : (t u : Tables) (both : Both t u) (shape other : Shape) → SameShape t u shape other → (k h : Graph) → h.roots ≡ k.roots → EachClosed t u k.instances h.instances
    → OfType t shape k → ((n : ℕ) → n < length k.instances → AreBelow (length k.instances) (instance_names (slices_of k.instances n))) → OfType u other h
closed_typed t u both shape other tied k h roots closed typed range =
    let stands = stands_in t shape k typed in
    record {
      roots = subst (AreMembers u (RefersIn u h.instances) other) (sym roots)
          (members_typed t u (rows_agree t u both) (RefersIn t k.instances) (RefersIn u h.instances) (moves_there t u both k.instances h.instances closed stands) shape other tied k.roots typed.roots);
      instances = λ n lt.
          let inside : n < length k.instances = omega (arith, lt, closed_length t u k.instances h.instances closed) in
          instance_there t u both k.instances h.instances closed stands (slices_of k.instances n) (slices_of h.instances n) (typed.instances n inside) (range n inside) (closed_slices t u k.instances h.instances n closed);
    }
