-- An id in both schemas, and what stands before a slice in both.
use Rattle.std.proofs.Common.{ℕ, ◌≡◌, Bool, true, false, ◌&&◌, ◌⊎◌, List, refl, sym, ap, ◌∙◌, subst, Option, Some, None, inl, inr}
use Rattle.std.specs.Prelude.{is_none, option_and_then}
use Rattle.std.proofs.lemmas.Bool.{eqb-true, eq-eqb}
use Rattle.ice_types.specs.declared.kind.RowRef.TheVariants as rows
use Rattle.ice_types.specs.declared.declarations.ClassDecl.{ClassDecl}
use Rattle.ice_types.specs.Tables.{Tables, HasId, class_ids}
use Rattle.ice_types.specs.CompactIds.{is_numbered, HasSliceId}
use Rattle.ice_types.specs.Rules.{IsSchema}
use Rattle.ice_types.specs.Lacking.{SameBase, Lacks}
use Rattle.ice_types.proofs.RowIdentity.{one_id}
use Rattle.ice_types.proofs.SliceIds.{number_text, number_of_class, one_class}
use Rattle.ice_encoding.specs.Classes.{class_by_id, base_of}
use Rattle.ice_encoding.specs.Flags.{Flags, all_slices, has_id, Before, first, only_unknown, derived, may_stand}
use Rattle.ice_encoding.specs.TypeIds.{class_in, is_base, same_class, can_be_read, same_bool, ends_well, before_base, before_next}
use Rattle.graph_laws.proofs.ClassIds.{id_named, named_id, plain_id, id_plain, compact_row, row_compact, slice_row}
use Rattle.graph_laws.specs.Seeing.{SameClassId}
use Rattle.graph_laws.proofs.Rows.{Agrees, agrees, own_class, id_there}

pub none_some : {C : Type 0} (o : Option ℕ) (n : ℕ) → o ≡ None → o ≡ Some n → C
none_some o n e f = let h : Some n ≡ None = sym f ∙ e in absurd cc

-- a schema, and one that lacks some of its classes
pub record Both (t u : Tables) : Type 0 where
  pub reader : IsSchema t
  pub node : IsSchema u
  pub lacks : Lacks t u

pub rows_agree : (t u : Tables) → Both t u → Agrees t u
rows_agree t u both = agrees t u both.reader both.lacks

module _ (t u : Tables) (both : Both t u) where
  -- what an id stands for in both: no class, one that the second lacks, or one that is left
  abbrev pub ClassAs : List ℕ → Option ℕ → Option ℕ → Type 0
  ClassAs id None y = (y ≡ None) × (class_by_id u id ≡ None)
  ClassAs id (Some a) y = ((y ≡ None) × (class_by_id t id ≡ Some a) × (class_by_id u id ≡ None)) ⊎ ((b : ℕ) × (y ≡ Some b) × SameClassId t u a b)

  -- ---- a class of both has the same ids in both

  carried_id : (id : List ℕ) (a b : ℕ) → SameClassId t u a b → HasSliceId t id a → HasSliceId u id b
  carried_id id a b (other, here, there) h = by_test (is_numbered id) refl
    where
      by_test : (k : Bool) → is_numbered id ≡ k → HasSliceId u id b
      by_test true hash =
          let n = number_of_class t both.reader id a hash h in
          let r = (rows_agree t u both).classes a b (other, here, there) in
          subst (λ (i : List ℕ). HasSliceId u i b) (sym n.2) (number_text u n.0 b (compact_row u b r.1 r.3 ∙ ap Some (sym r.4.2 ∙ row_compact t a n.0 r.0 r.2 n.3)))
      by_test false plain = id_plain u id b plain (subst (λ (i : List ℕ). HasId (class_ids u) i b) (one_id t (rows.Class a) other id here (plain_id t id a plain h)) there)

  back_id : (id : List ℕ) (a b : ℕ) → SameClassId t u a b → HasSliceId u id b → HasSliceId t id a
  back_id id a b (other, here, there) h = by_test (is_numbered id) refl
    where
      by_test : (k : Bool) → is_numbered id ≡ k → HasSliceId t id a
      by_test true hash =
          let n = number_of_class u both.node id b hash h in
          let r = (rows_agree t u both).classes a b (other, here, there) in
          subst (λ (i : List ℕ). HasSliceId t i a) (sym n.2) (number_text t n.0 a (compact_row t a r.0 r.2 ∙ ap Some (r.4.2 ∙ row_compact u b n.0 r.1 r.3 n.3)))
      by_test false plain = id_plain t id a plain (subst (λ (i : List ℕ). HasId (class_ids t) i a) (one_id u (rows.Class b) other id there (plain_id u id b plain h)) here)

  -- each class of the second schema is one of the first
  pub own_slice : (id : List ℕ) (b : ℕ) → HasSliceId u id b → (a : ℕ) × HasSliceId t id a × SameClassId t u a b
  own_slice id b h =
      let row = slice_row u id b h in
      let there = id_there (λ (c : ClassDecl). c.id) u.classes b row.0 row.1 in
      let own = own_class t u both.reader both.lacks row.0.id b there in
      let tied : SameClassId t u own.0 b = (row.0.id, own.1, there) in
      (own.0, back_id id own.0 b tied h, tied)

  pub tied_by_id : (id : List ℕ) (a b : ℕ) → HasSliceId t id a → HasSliceId u id b → SameClassId t u a b
  tied_by_id id a b here there =
      let own = own_slice id b there in
      subst (λ (k : ℕ). SameClassId t u k b) (one_class t both.reader id own.0 a own.1 here) own.2

  -- found by an id in the second schema, it is found by that in the first
  pub tied_named : (id : List ℕ) (a b : ℕ) → class_by_id u id ≡ Some b → SameClassId t u a b → class_by_id t id ≡ Some a
  tied_named id a b named tied = named_id t both.reader id a (back_id id a b tied (id_named u id b named))

  both_named : (id : List ℕ) (x y : Option ℕ) → class_by_id t id ≡ x → class_by_id u id ≡ y → ClassAs id x y
  both_named id None None e f = (refl, f)
  both_named id None (Some b) e f =
      let a = own_slice id b (id_named u id b f) in
      none_some (class_by_id t id) a.0 e (named_id t both.reader id a.0 a.1)
  both_named id (Some a) None e f = inl (refl, e, f)
  both_named id (Some a) (Some b) e f = inr (b, refl, tied_by_id id a b (id_named t id a e) (id_named u id b f))

  pub class_as : (id : List ℕ) → ClassAs id (class_by_id t id) (class_by_id u id)
  class_as id = both_named id (class_by_id t id) (class_by_id u id) refl refl

  -- ---- before a slice

  abbrev pub BeforeAs : Before → Before → Type 0
  BeforeAs first y = y ≡ first
  BeforeAs only_unknown y = y ≡ only_unknown
  BeforeAs (derived true a) y = (y ≡ only_unknown) ⊎ ((b : ℕ) × (y ≡ derived true b) × SameClassId t u a b)
  BeforeAs (derived false a) y = (b : ℕ) × (y ≡ derived false b) × SameClassId t u a b

  pub class_before : (x y : Before) → BeforeAs x y → (id : List ℕ) → ClassAs id (class_in t x id) (class_in u y id)
  class_before first y sees id = subst (λ (y : Before). ClassAs id (class_by_id t id) (class_in u y id)) (sym sees) (class_as id)
  class_before only_unknown y sees id = subst (λ (y : Before). ClassAs id (class_by_id t id) (class_in u y id)) (sym sees) (class_as id)
  class_before (derived true a) y (inl sees) id = subst (λ (y : Before). ClassAs id (class_by_id t id) (class_in u y id)) (sym sees) (class_as id)
  class_before (derived true a) y (inr (b, sees, tied)) id = subst (λ (y : Before). ClassAs id (class_by_id t id) (class_in u y id)) (sym sees) (class_as id)
  class_before (derived false a) y (b, sees, tied) id = subst (λ (y : Before). ClassAs id (Some a) (class_in u y id)) (sym sees) (inr (b, refl, tied))

  class_of_row : (a b : ℕ) → rows.Class a ≡ rows.Class b → a ≡ b
  class_of_row a b e = cc

  -- the class that one is tied to is one alone
  pub tied_once : (a b c : ℕ) → SameClassId t u a b → SameClassId t u a c → b ≡ c
  tied_once a b c (id, here, there) (other, again, also) =
      class_of_row b c (both.node.apart id (rows.Class b) (rows.Class c) there (subst (λ (i : List ℕ). HasId (class_ids u) i c) (one_id t (rows.Class a) other id again here) also))

  -- a class that the second lacks is tied to none
  pub hidden_untied : {C : Type 0} (id : List ℕ) (a b : ℕ) → class_by_id t id ≡ Some a → class_by_id u id ≡ None → SameClassId t u a b → C
  hidden_untied id a b named hidden tied = none_some (class_by_id u id) b hidden (named_id u both.node id b (carried_id id a b tied (id_named t id a named)))

  base_tied : (sized : Bool) (a b : ℕ) (id : List ℕ) (c d : Option ℕ) → SameClassId t u a b → ClassAs id c d → is_base (derived sized a) c ≡ true → is_base (derived sized b) d ≡ true
  base_tied sized a b id None d tied class h = absurd cc
  base_tied sized a b id (Some c) d tied (inl (is, named, hidden)) h = hidden_untied id c b named hidden (subst (λ (k : ℕ). SameClassId t u k b) (sym (eqb-true c a h)) tied)
  base_tied sized a b id (Some c) d tied (inr (e, is, other)) h = subst (λ (d : Option ℕ). same_class d b ≡ true) (sym is)
      (eq-eqb e b (tied_once a e b (subst (λ (k : ℕ). SameClassId t u k e) (eqb-true c a h) other) tied))

  pub base_as : (x y : Before) → BeforeAs x y → (id : List ℕ) (c d : Option ℕ) → ClassAs id c d → is_base x c ≡ true → is_base y d ≡ true
  base_as first y sees id c d class h = subst (λ (y : Before). is_base y d ≡ true) (sym sees) refl
  base_as only_unknown y sees id c d class h = subst (λ (y : Before). is_base y d ≡ true) (sym sees) refl
  base_as (derived true a) y (inl sees) id c d class h = subst (λ (y : Before). is_base y d ≡ true) (sym sees) refl
  base_as (derived true a) y (inr (b, sees, tied)) id c d class h = subst (λ (y : Before). is_base y d ≡ true) (sym sees) (base_tied true a b id c d tied class h)
  base_as (derived false a) y (b, sees, tied) id c d class h = subst (λ (y : Before). is_base y d ≡ true) (sym sees) (base_tied false a b id c d tied class h)

  -- it has a size, or a class that the second has
  abbrev pub SizedOr : Bool → Option ℕ → Type 0
  SizedOr sized d = (sized ≡ true) ⊎ ((b : ℕ) × (d ≡ Some b))

  pub read_as : (f : Flags) (d : Option ℕ) → SizedOr f.has_size d → can_be_read all_slices d f ≡ true
  read_as f None (inl sized) = sized
  read_as f None (inr (b, is)) = absurd cc
  read_as f (Some d) h = refl

  -- ---- bases

  pub tied_base : (a b : ℕ) → SameClassId t u a b → SameBase t u rows.Class (base_of t a) (base_of u b)
  tied_base a b same =
      let r = (rows_agree t u both).classes a b same in
      subst (λ (o : Option ClassDecl). SameBase t u rows.Class (option_and_then (λ c. c.base) o) (base_of u b)) (sym r.2)
      (subst (λ (o : Option ClassDecl). SameBase t u rows.Class r.0.base (option_and_then (λ c. c.base) o)) (sym r.3) r.4.0)

  none_tied : (o p : Option ℕ) → SameBase t u rows.Class o p → is_none o ≡ is_none p
  none_tied None p e = ap is_none (sym e)
  none_tied (Some a) p (b, is, tied) = ap is_none (sym is)

  pub ends_as : (f : Flags) (id : List ℕ) (c d : Option ℕ) → ClassAs id c d → ends_well t c f ≡ true → ends_well u d f ≡ true
  ends_as f id None d class h = subst (λ (d : Option ℕ). ends_well u d f ≡ true) (sym class.0) refl
  ends_as f id (Some c) d (inl (is, named, hidden)) h = subst (λ (d : Option ℕ). ends_well u d f ≡ true) (sym is) refl
  ends_as f id (Some c) d (inr (e, is, tied)) h = subst (λ (d : Option ℕ). ends_well u d f ≡ true) (sym is)
      (subst (λ (b : Bool). same_bool f.is_last b ≡ true) (none_tied (base_of t c) (base_of u e) (tied_base c e tied)) h)

  before_hidden : (sized : Bool) → sized ≡ true → (o : Option ℕ) → BeforeAs (before_base sized o) only_unknown
  before_hidden sized e None = refl
  before_hidden sized e (Some a) = subst (λ (b : Bool). BeforeAs (derived b a) only_unknown) (sym e) (inl refl)

  before_shown : (sized : Bool) (o p : Option ℕ) → SameBase t u rows.Class o p → BeforeAs (before_base sized o) (before_base sized p)
  before_shown sized None p lone = subst (λ (p : Option ℕ). BeforeAs only_unknown (before_base sized p)) (sym lone) refl
  before_shown true (Some a) p (b, is, tied) = subst (λ (p : Option ℕ). BeforeAs (derived true a) (before_base true p)) (sym is) (inr (b, refl, tied))
  before_shown false (Some a) p (b, is, tied) = subst (λ (p : Option ℕ). BeforeAs (derived false a) (before_base false p)) (sym is) (b, refl, tied)

  pub next_as : (f : Flags) (id : List ℕ) (c d : Option ℕ) → SizedOr f.has_size d → ClassAs id c d → BeforeAs (before_next t c f) (before_next u d f)
  next_as f id None d sized class = subst (λ (d : Option ℕ). BeforeAs only_unknown (before_next u d f)) (sym class.0) refl
  next_as f id (Some c) d (inl sized) (inl (is, named, hidden)) = subst (λ (d : Option ℕ). BeforeAs (before_base f.has_size (base_of t c)) (before_next u d f)) (sym is) (before_hidden f.has_size sized (base_of t c))
  next_as f id (Some c) d (inr (b, here)) (inl (is, named, hidden)) = none_some d b is here
  next_as f id (Some c) d sized (inr (e, is, tied)) =
      subst (λ (d : Option ℕ). BeforeAs (before_base f.has_size (base_of t c)) (before_next u d f)) (sym is) (before_shown f.has_size (base_of t c) (base_of u e) (tied_base c e tied))

  -- ---- flags

  and_both : (a b : Bool) → (a && b) ≡ true → (a ≡ true) × (b ≡ true)
  and_both true b e = (refl, e)
  and_both false b e = absurd cc

  -- every slice behind one that can be read can be read
  pub sized_before : (x y : Before) → BeforeAs x y → (f : Flags) (id : List ℕ) → may_stand x f ≡ true → (x ≡ first → SizedOr f.has_size (class_in u y id)) → SizedOr f.has_size (class_in u y id)
  sized_before first y sees f id h start = start refl
  sized_before only_unknown y sees f id h start = inl (and_both (has_id f.id) f.has_size h).1
  sized_before (derived true a) y sees f id h start = inl (and_both (has_id f.id) f.has_size h).1
  sized_before (derived false a) y (b, sees, tied) f id h start = inr (b, ap (λ (y : Before). class_in u y id) sees)

  pub stands_as : (x y : Before) → BeforeAs x y → (f : Flags) → may_stand x f ≡ may_stand y f
  stands_as first y sees f = ap (λ (y : Before). may_stand y f) (sym sees)
  stands_as only_unknown y sees f = ap (λ (y : Before). may_stand y f) (sym sees)
  stands_as (derived true a) y (inl sees) f = ap (λ (y : Before). may_stand y f) (sym sees)
  stands_as (derived true a) y (inr (b, sees, tied)) f = ap (λ (y : Before). may_stand y f) (sym sees)
  stands_as (derived false a) y (b, sees, tied) f = ap (λ (y : Before). may_stand y f) (sym sees)

  pub not_first : (f : Flags) (o : Option ℕ) → before_next t o f ≡ first → ⊥
  not_first f None e = absurd cc
  not_first f (Some c) e = by_base (base_of t c) e
    where
      by_base : (o : Option ℕ) → before_base f.has_size o ≡ first → ⊥
      by_base None e = absurd cc
      by_base (Some b) e = absurd cc
