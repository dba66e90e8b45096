-- The members of which no two have one tag: whether an optional one can be read hangs on the type of its tag alone.
use Rattle.std.proofs.Common.{ℕ, ◌≡◌, ◌≢◌, ◌==◌, ◌+◌, ◌<◌, Bool, true, false, cond, List, [], ◌∷◌, All, Option, None, Some, drop, get_or, length, refl, sym, ◌∙◌, ap, subst}
use Rattle.std.specs.Prelude.{◌↔◌}
use Rattle.std.specs.Cmp.{unsigned_tied}
use Rattle.std.specs.Ordering.{is_eq, nat_cmp}
use Rattle.std.specs.BTreeMap.{BTreeMap, get}
use Rattle.std.proofs.lemmas.Bool.{eqb-true, eq-eqb}
use Rattle.std.proofs.lemmas.Option.{none-some, same_Some}
use Rattle.std.proofs.lemmas.List.{drop_more}
use Rattle.std.proofs.lemmas.List.Elements.{All-head, All-tail}
use Rattle.ice_types.specs.declared.kind.TypeRef.{TypeRef}
use Rattle.ice_types.specs.declared.declarations.Member.{Member}
use Rattle.ice_types.specs.Fits.{ClassFits, DifferFrom, tags_of}
use Rattle.ice_types.specs.Tables.{Tables}
use Rattle.slice_compat.specs.Tagged.{AreKinds, HasKinds, HaveOwnTags, ReadsWhere, kind_tagged}
use Rattle.slice_compat.specs.Tests.{HaveOneTag, ReadsOption}

abbrev Differs : ℕ → ℕ → Type 0
Differs n other = other ≢ n

tags_none : (n : Member) (ns : List Member) → n.tag ≡ None → tags_of (n ∷ ns) ≡ tags_of ns
tags_none n ns is = rw is refl

tags_some : (n : Member) (ns : List Member) (k : ℕ) → n.tag ≡ Some k → tags_of (n ∷ ns) ≡ k ∷ tags_of ns
tags_some n ns k is = rw is refl

kind_none : (tag : ℕ) (n : Member) (ns : List Member) → n.tag ≡ None → kind_tagged tag (n ∷ ns) ≡ kind_tagged tag ns
kind_none tag n ns is = rw is refl

kind_some : (tag : ℕ) (n : Member) (ns : List Member) (k : ℕ) → n.tag ≡ Some k → kind_tagged tag (n ∷ ns) ≡ cond (k == tag) (Some n.kind) (kind_tagged tag ns)
kind_some tag n ns k is = rw is refl

-- no two members of a class of a schema have one tag
pub own_tags : (u : Tables) (base : Option ℕ) (ms : List Member) → ClassFits u base ms → HaveOwnTags ms
own_tags u base ms (there, (of, names, (small, apart))) = apart

-- ---- the map

pub put_tagged : (old new : BTreeMap ℕ TypeRef) (m : Member) (tag : ℕ) (ms : List Member) → m.tag ≡ Some tag → ((q : ℕ) → get nat_cmp new q ≡ cond (is_eq (nat_cmp tag q)) (Some m.kind) (get nat_cmp old q))
    → HasKinds old ms → HasKinds new (m ∷ ms)
put_tagged old new m tag ms is puts had q =
    puts q ∙ ap (λ (b : Bool). cond b (Some m.kind) (get nat_cmp old q)) (unsigned_tied tag q) ∙ ap (λ (o : Option TypeRef). cond (tag == q) (Some m.kind) o) (had q) ∙ sym (kind_some q m ms tag is)

pub put_none : (kinds : BTreeMap ℕ TypeRef) (m : Member) (ms : List Member) → m.tag ≡ None → HasKinds kinds ms → HasKinds kinds (m ∷ ms)
put_none kinds m ms is had q = had q ∙ sym (kind_none q m ms is)

pub one_more : (kinds : BTreeMap ℕ TypeRef) (ms : List Member) (at : ℕ) (x : Member) → at < length ms → x ≡ get_or ms at x → HasKinds kinds (x ∷ drop (at + 1) ms) → HasKinds kinds (drop at ms)
one_more kinds ms at x lt is h = subst (λ (l : List Member). HasKinds kinds l) (sym (drop_more ms at x lt ∙ ap (λ (y : Member). y ∷ drop (at + 1) ms) (sym is))) h

-- ---- whether an optional member can be read

module _ (t u : Tables) (m : Member) (tag : ℕ) (has : m.tag ≡ Some tag) where
  -- a member without a tag, or of another one
  no_pair : (n : Member) → n.tag ≡ None → HaveOneTag m n → ⊥
  no_pair n is one = none-some one.0 (sym is ∙ one.2)

  other_pair : (n : Member) (k : ℕ) → n.tag ≡ Some k → tag ≢ k → HaveOneTag m n → ⊥
  other_pair n k is apart one = apart (same_Some tag one.0 (sym has ∙ one.1) ∙ same_Some one.0 k (sym one.2 ∙ is))

  -- behind a member that has the tag
  others_at : (o : Option ℕ) (before : List ℕ) (n : Member) (ns : List Member) → n.tag ≡ o → ((k : ℕ) → All (Differs k) before → tag ≢ k) → DifferFrom before (tags_of (n ∷ ns))
      → ((after : List ℕ) → ((k : ℕ) → All (Differs k) after → tag ≢ k) → DifferFrom after (tags_of ns) → ReadsOption t u m ns) → ReadsOption t u m (n ∷ ns)
  others_at None before n ns is met differ later = (λ one. absurd (no_pair n is one), later before met (subst (DifferFrom before) (tags_none n ns is) differ))
  others_at (Some k) before n ns is met differ later =
      let parts = subst (DifferFrom before) (tags_some n ns k is) differ in
      (λ one. absurd (other_pair n k is (met k parts.0) one), later (k ∷ before) (λ y free. met y (All-tail (Differs y) k before free)) parts.1)

  others : (before : List ℕ) (ns : List Member) → ((k : ℕ) → All (Differs k) before → tag ≢ k) → DifferFrom before (tags_of ns) → ReadsOption t u m ns
  others before [] met differ = tt
  others before (n ∷ ns) met differ = others_at n.tag before n ns refl met differ (λ after free d. others after ns free d)

  -- the type of its tag decides
  abbrev Decides : List Member → Type 0
  Decides ns = ReadsWhere t u m.kind (kind_tagged tag ns) ↔ ReadsOption t u m ns

  at_kind : (o other : Option TypeRef) → o ≡ other → ReadsWhere t u m.kind o → ReadsWhere t u m.kind other
  at_kind o other is h = subst (λ (w : Option TypeRef). ReadsWhere t u m.kind w) is h

  passed : (n : Member) (ns : List Member) → kind_tagged tag (n ∷ ns) ≡ kind_tagged tag ns → (HaveOneTag m n → ⊥) → Decides ns → Decides (n ∷ ns)
  passed n ns is apart rest = (
    λ h. (λ one. absurd (apart one), rest.0 (at_kind (kind_tagged tag (n ∷ ns)) (kind_tagged tag ns) is h)),
    λ h. at_kind (kind_tagged tag ns) (kind_tagged tag (n ∷ ns)) (sym is) (rest.1 h.1),
  )

  test_at : (b : Bool) (before : List ℕ) (n : Member) (ns : List Member) (k : ℕ) → n.tag ≡ Some k → (k == tag) ≡ b → DifferFrom (k ∷ before) (tags_of ns) → Decides ns → Decides (n ∷ ns)
  test_at true before n ns k is test differ rest =
      let same : k ≡ tag = eqb-true k tag test in
      let kind : kind_tagged tag (n ∷ ns) ≡ Some n.kind = kind_some tag n ns k is ∙ ap (λ (b : Bool). cond b (Some n.kind) (kind_tagged tag ns)) test in (
        λ h. (
          λ one. at_kind (kind_tagged tag (n ∷ ns)) (Some n.kind) kind h,
          others (k ∷ before) ns (λ y free. subst (λ (j : ℕ). j ≢ y) same (All-head (Differs y) k before free)) differ,
        ),
        λ h. at_kind (Some n.kind) (kind_tagged tag (n ∷ ns)) (sym kind) (h.0 (tag, has, is ∙ ap (λ (j : ℕ). Some j) same)),
      )
  test_at false before n ns k is test differ rest =
      passed n ns (kind_some tag n ns k is ∙ ap (λ (b : Bool). cond b (Some n.kind) (kind_tagged tag ns)) test)
      (other_pair n k is (λ same. let equal : (k == tag) ≡ true = eq-eqb k tag (sym same) in let both : true ≡ false = sym equal ∙ test in cc)) rest

  decides_at : (o : Option ℕ) (before : List ℕ) (n : Member) (ns : List Member) → n.tag ≡ o → DifferFrom before (tags_of (n ∷ ns)) → ((after : List ℕ) → DifferFrom after (tags_of ns) → Decides ns) → Decides (n ∷ ns)
  decides_at None before n ns is differ later = passed n ns (kind_none tag n ns is) (no_pair n is) (later before (subst (DifferFrom before) (tags_none n ns is) differ))
  decides_at (Some k) before n ns is differ later =
      let parts = subst (DifferFrom before) (tags_some n ns k is) differ in
      test_at (k == tag) before n ns k is refl parts.1 (later (k ∷ before) parts.1)

  decides : (before : List ℕ) (ns : List Member) → DifferFrom before (tags_of ns) → Decides ns
  decides before [] differ = (λ h. tt, λ h. tt)
  decides before (n ∷ ns) differ = decides_at n.tag before n ns refl differ (λ after d. decides after ns d)

  -- what the map has under the tag
  module _ (kinds : BTreeMap ℕ TypeRef) (ns : List Member) (are : AreKinds kinds ns) (o : Option TypeRef) (is : o ≡ get nat_cmp kinds tag) where
    pub by_kind : ReadsWhere t u m.kind o ↔ ReadsOption t u m ns
    by_kind =
        let d = decides [] ns are.apart in
        let same : o ≡ kind_tagged tag ns = is ∙ are.found tag in
        (λ h. d.0 (at_kind o (kind_tagged tag ns) same h), λ h. at_kind (kind_tagged tag ns) o (sym same) (d.1 h))
