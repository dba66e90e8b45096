-- There is one verdict on a type of two schemas.
use Rattle.std.proofs.Common.{◌≡◌, ◌⊎◌, ℕ, List, length, Option, Some, refl, sym, ap, subst, ◌∙◌, inl, inr, arith}
use Rattle.std.specs.Prelude.{slice_get}
use Rattle.std.proofs.lemmas.Bool.{cases_order}
use Rattle.ice_types.specs.declared.kind.TypeRef.{TypeRef}
use Rattle.ice_types.specs.declared.kind.RowRef.TheVariants as rows
use Rattle.ice_types.specs.declared.declarations.ClassDecl.{ClassDecl}
use Rattle.ice_types.specs.declared.declarations.Member.{Member}
use Rattle.ice_types.specs.Tables.{Tables, HasId, class_ids}
use Rattle.ice_types.specs.Lacking.{BothAre, SameId}
use Rattle.ice_types.specs.Rules.{IsSchema}
use Rattle.ice_types.proofs.RowIdentity.{one_id}
use Rattle.slice_compat.specs.declared.verdict.Why.{Why}
use Rattle.slice_compat.specs.declared.verdict.Why.TheVariants.{Missing, Base, CompactId, Members, Required, Optional}
use Rattle.slice_compat.specs.declared.verdict.Verdict.{Verdict}
use Rattle.slice_compat.specs.declared.verdict.Verdict.TheVariants.{Yes, NoRoot, NoClass}
use Rattle.slice_compat.specs.Tests.{required_of, FirstUnread, IsLeastUnread, ClassReads, Fails, FailsThere, ClassPasses, ClassFails}
use Rattle.slice_compat.specs.Verdicts.{IsVerdict, FirstFailing}

same_row : {A : Type 0} (o : Option A) (x y : A) → o ≡ Some x → o ≡ Some y → x ≡ y
same_row o x y e f = let both : Some x ≡ Some y = sym e ∙ f in cc

-- ---- one class beside another

module _ (t u : Tables) (c d : ClassDecl) where
  -- a class that stands every test fails none
  never_both : (why : Why) → ClassReads t u c d → Fails t u c d why → ⊥
  never_both Missing r f = f
  never_both Base r f = f r.base
  never_both CompactId r f = f.1 r.compact
  never_both Members r f = f.2 r.as_many
  never_both (Required place) r f = f.3.unread (r.required place f.3.within)
  never_both (Optional tag) r (base, compact, as_many, required, ((place, m, lt, is, has, unread), least)) = unread (r.optional place m lt is)

  one_place : (ks ls : List TypeRef) (a b : ℕ) → FirstUnread t u ks ls a → FirstUnread t u ks ls b → a ≡ b
  one_place ks ls a b p q = elim (cases_order a b) [
    | inl same ↦ same
    | inr (inl before) ↦ absurd (p.unread (q.earlier a before))
    | inr (inr behind) ↦ absurd (q.unread (p.earlier b behind))
  ]

  one_tag : (count : ℕ) (ms ns : List Member) (a b : ℕ) → IsLeastUnread t u count ms ns (Some a) → IsLeastUnread t u count ms ns (Some b) → a ≡ b
  one_tag count ms ns a b p q = omega (arith, p.1 b q.0, q.1 a p.0)

  -- one test is the first to fail
  one_failing : (a b : Why) → Fails t u c d a → Fails t u c d b → a ≡ b
  one_failing Missing b p q = absurd p
  one_failing a Missing p q = absurd q
  one_failing Base Base p q = refl
  one_failing Base CompactId p q = absurd (p q.0)
  one_failing Base Members p q = absurd (p q.0)
  one_failing Base (Required k) p q = absurd (p q.0)
  one_failing Base (Optional k) p q = absurd (p q.0)
  one_failing CompactId Base p q = absurd (q p.0)
  one_failing CompactId CompactId p q = refl
  one_failing CompactId Members p q = absurd (p.1 q.1)
  one_failing CompactId (Required k) p q = absurd (p.1 q.1)
  one_failing CompactId (Optional k) p q = absurd (p.1 q.1)
  one_failing Members Base p q = absurd (q p.0)
  one_failing Members CompactId p q = absurd (q.1 p.1)
  one_failing Members Members p q = refl
  one_failing Members (Required k) p q = absurd (p.2 q.2)
  one_failing Members (Optional k) p q = absurd (p.2 q.2)
  one_failing (Required j) Base p q = absurd (q p.0)
  one_failing (Required j) CompactId p q = absurd (q.1 p.1)
  one_failing (Required j) Members p q = absurd (q.2 p.2)
  one_failing (Required j) (Required k) p q = ap (λ (n : ℕ). Required n) (one_place (required_of c.members) (required_of d.members) j k p.3 q.3)
  one_failing (Required j) (Optional k) p q = absurd (p.3.unread (q.3 j p.3.within))
  one_failing (Optional j) Base p q = absurd (q p.0)
  one_failing (Optional j) CompactId p q = absurd (q.1 p.1)
  one_failing (Optional j) Members p q = absurd (q.2 p.2)
  one_failing (Optional j) (Required k) p q = absurd (q.3.unread (p.3 k q.3.within))
  one_failing (Optional j) (Optional k) p q = ap (λ (n : ℕ). Optional n) (one_tag (length c.members) c.members d.members j k p.4 q.4)

-- ---- a class and the one of its type id

module _ (t u : Tables) (rules : IsSchema u) (at : ℕ) where
  -- there is one of it
  one_class : (a b : ℕ) → SameId t u (rows.Class at) (rows.Class a) → SameId t u (rows.Class at) (rows.Class b) → a ≡ b
  one_class a b (id, here, there) (other, here_too, there_too) =
      let same : other ≡ id = one_id t (rows.Class at) other id here_too here in
      let both : rows.Class a ≡ rows.Class b = rules.apart id (rows.Class a) (rows.Class b) there (subst (λ (x : List ℕ). HasId (class_ids u) x b) same there_too) in
      cc

  -- what is said of it in two ways is said of one pair
  module _ (P Q : ClassDecl → ClassDecl → Type 0) where
    pair_of : {Out : Type 0} → ((c d : ClassDecl) → P c d → Q c d → Out) → (a b : ℕ) → SameId t u (rows.Class at) (rows.Class a) → SameId t u (rows.Class at) (rows.Class b) → BothAre P (slice_get t.classes at) (slice_get u.classes a)
        → BothAre Q (slice_get t.classes at) (slice_get u.classes b) → Out
    pair_of go a b x y (c, d, c_is, d_is, p) (e, f, e_is, f_is, q) =
        let place : a ≡ b = one_class a b x y in
        let first : e ≡ c = same_row (slice_get t.classes at) e c e_is c_is in
        let second : f ≡ d = same_row (slice_get u.classes b) f d f_is (subst (λ (k : ℕ). slice_get u.classes k ≡ Some d) place d_is) in
        go c d p (subst (λ (z : ClassDecl). Q c z) second (subst (λ (z : ClassDecl). Q z f) first q))

  fails_there : (a b : Why) → FailsThere t u at a → FailsThere t u at b → a ≡ b
  fails_there a b (j, x, p) (k, y, q) = pair_of (λ c d. Fails t u c d a) (λ c d. Fails t u c d b) (λ c d. one_failing t u c d a b) j k x y p q

  passes_there : (why : Why) → ClassPasses t u at → FailsThere t u at why → ⊥
  passes_there why (j, x, p) (k, y, q) = pair_of (ClassReads t u) (λ c d. Fails t u c d why) (λ c d. never_both t u c d why) j k x y p q

  -- a class that fails, fails one test first
  one_why : (a b : Why) → ClassFails t u at a → ClassFails t u at b → a ≡ b
  one_why Missing Missing p q = refl
  one_why Missing Base p (k, x, q) = absurd (p k x)
  one_why Missing CompactId p (k, x, q) = absurd (p k x)
  one_why Missing Members p (k, x, q) = absurd (p k x)
  one_why Missing (Required n) p (k, x, q) = absurd (p k x)
  one_why Missing (Optional n) p (k, x, q) = absurd (p k x)
  one_why Base b p q = by b q
    where
      by : (b : Why) → ClassFails t u at b → Base ≡ b
      by Missing q = absurd (q p.0 p.1)
      by Base q = refl
      by CompactId q = fails_there Base CompactId p q
      by Members q = fails_there Base Members p q
      by (Required n) q = fails_there Base (Required n) p q
      by (Optional n) q = fails_there Base (Optional n) p q
  one_why CompactId b p q = by b q
    where
      by : (b : Why) → ClassFails t u at b → CompactId ≡ b
      by Missing q = absurd (q p.0 p.1)
      by Base q = fails_there CompactId Base p q
      by CompactId q = refl
      by Members q = fails_there CompactId Members p q
      by (Required n) q = fails_there CompactId (Required n) p q
      by (Optional n) q = fails_there CompactId (Optional n) p q
  one_why Members b p q = by b q
    where
      by : (b : Why) → ClassFails t u at b → Members ≡ b
      by Missing q = absurd (q p.0 p.1)
      by Base q = fails_there Members Base p q
      by CompactId q = fails_there Members CompactId p q
      by Members q = refl
      by (Required n) q = fails_there Members (Required n) p q
      by (Optional n) q = fails_there Members (Optional n) p q
  one_why (Required m) b p q = by b q
    where
      by : (b : Why) → ClassFails t u at b → Required m ≡ b
      by Missing q = absurd (q p.0 p.1)
      by Base q = fails_there (Required m) Base p q
      by CompactId q = fails_there (Required m) CompactId p q
      by Members q = fails_there (Required m) Members p q
      by (Required n) q = fails_there (Required m) (Required n) p q
      by (Optional n) q = fails_there (Required m) (Optional n) p q
  one_why (Optional m) b p q = by b q
    where
      by : (b : Why) → ClassFails t u at b → Optional m ≡ b
      by Missing q = absurd (q p.0 p.1)
      by Base q = fails_there (Optional m) Base p q
      by CompactId q = fails_there (Optional m) CompactId p q
      by Members q = fails_there (Optional m) Members p q
      by (Required n) q = fails_there (Optional m) (Required n) p q
      by (Optional n) q = fails_there (Optional m) (Optional n) p q

  -- and none where it passes
  never_passes : (why : Why) → ClassPasses t u at → ClassFails t u at why → ⊥
  never_passes Missing p q = q p.0 p.1
  never_passes Base p q = passes_there Base p q
  never_passes CompactId p q = passes_there CompactId p q
  never_passes Members p q = passes_there Members p q
  never_passes (Required n) p q = passes_there (Required n) p q
  never_passes (Optional n) p q = passes_there (Optional n) p q

-- ---- the verdict

module _ (t u : Tables) (rules : IsSchema u) (kind other : TypeRef) where
  -- the first class that fails is one, with its first failing test
  one_first : (a b : ℕ) (v w : Why) → FirstFailing t u kind other a v → FirstFailing t u kind other b w → NoClass a v ≡ NoClass b w
  one_first a b v w p q = elim (cases_order a b) [
    | inl same ↦
        let fails : ClassFails t u b v = subst (λ (k : ℕ). ClassFails t u k v) same p.fails in
        let why : v ≡ w = one_why t u rules b v w fails q.fails in
        (λ i. NoClass (same i) (why i))
    | inr (inl before) ↦ absurd (never_passes t u rules a v (q.earlier a before p.reached) p.fails)
    | inr (inr behind) ↦ absurd (never_passes t u rules b w (p.earlier b behind q.reached) q.fails)
  ]

  pub one_compat : (a b : Verdict) → IsVerdict t u kind other a → IsVerdict t u kind other b → a ≡ b
  one_compat Yes Yes p q = refl
  one_compat Yes NoRoot p q = absurd (q p.root)
  one_compat Yes (NoClass b w) p q = absurd (never_passes t u rules b w (p.classes b q.reached) q.fails)
  one_compat NoRoot Yes p q = absurd (p q.root)
  one_compat NoRoot NoRoot p q = refl
  one_compat NoRoot (NoClass b w) p q = absurd (p q.root)
  one_compat (NoClass a v) Yes p q = absurd (never_passes t u rules a v (q.classes a p.reached) p.fails)
  one_compat (NoClass a v) NoRoot p q = absurd (q p.root)
  one_compat (NoClass a v) (NoClass b w) p q = one_first a b v w p q
