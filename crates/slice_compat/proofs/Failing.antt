-- The tests of a class: what each answer says of those before it.
use Rattle.std.proofs.Common.{ℕ, ◌+◌, ◌<◌, ◌≤◌, ◌≡◌, ◌⊎◌, List, [], ◌∷◌, length, Option, None, Some, MatchOption, refl, sym, ◌∙◌, ap, subst, inl, inr, arith}
use Rattle.std.specs.Prelude.{slice_get}
use Rattle.std.specs.Option.{option_map}
use Rattle.std.proofs.lemmas.Bool.{cases_eq}
use Rattle.std.proofs.lemmas.Option.{slice_get-map, slice_get_within}
use Rattle.ice_types.specs.declared.kind.TypeRef.{TypeRef}
use Rattle.ice_types.specs.declared.kind.RowRef.TheVariants as rows
use Rattle.ice_types.specs.declared.declarations.ClassDecl.{ClassDecl}
use Rattle.ice_types.specs.declared.declarations.Member.{Member}
use Rattle.ice_types.specs.Tables.{Tables, HasId, class_ids}
use Rattle.ice_types.specs.Lacking.{SameId}
use Rattle.ice_types.proofs.RowIdentity.{one_id}
use Rattle.slice_compat.specs.declared.verdict.Why.{Why}
use Rattle.slice_compat.specs.declared.verdict.Why.TheVariants as causes
use Rattle.slice_compat.specs.Reading.{Reads}
use Rattle.slice_compat.specs.Tests.{ReadsAt, ReadsEach, ReadsOption, IsUnreadTag, IsAtMost, IsLeastUnread, FirstUnread, KeepsBase, KeepsCompactId, HasAsMany, required_of, ClassReads, Fails, ClassPasses, ClassFails}
use Rattle.slice_compat.proofs.Spreading.{either}

same_row : {A : Type 0} (o : Option A) (x y : A) → o ≡ Some x → o ≡ Some y → x ≡ y
same_row o x y e f = let both : Some x ≡ Some y = sym e ∙ f in cc

-- ---- types at one place

module _ (t u : Tables) (ks ls : List TypeRef) (place : ℕ) (x y : TypeRef) (first : slice_get ks place ≡ Some x) (second : slice_get ls place ≡ Some y) where
  pub reads_there : Reads t u x y → ReadsAt t u ks ls place
  reads_there h = (x, y, first, second, h)

  pub reads_not : (Reads t u x y → ⊥) → ReadsAt t u ks ls place → ⊥
  reads_not none (k, l, k_is, l_is, h) =
      none (subst (λ (z : TypeRef). Reads t u x z) (same_row (slice_get ls place) l y l_is second) (subst (λ (z : TypeRef). Reads t u z l) (same_row (slice_get ks place) k x k_is first) h))

-- each place before the next one
pub read_more : (t u : Tables) (ks ls : List TypeRef) (at : ℕ) → ((place : ℕ) → place < at → ReadsAt t u ks ls place) → ReadsAt t u ks ls at → (place : ℕ) → place < at + 1 → ReadsAt t u ks ls place
read_more t u ks ls at earlier here place lt = either (cases_eq place at)
    (λ is. subst (λ (k : ℕ). ReadsAt t u ks ls k) (sym is) here)
    (λ apart. earlier place (omega (arith, lt, apart)))

-- ---- optional members

-- one without a tag
pub tagless_reads : (t u : Tables) (m : Member) (ns : List Member) → m.tag ≡ None → ReadsOption t u m ns
tagless_reads t u m [] e = tt
tagless_reads t u m (n ∷ ns) e = (λ one. let is : m.tag ≡ Some one.0 = one.1 in absurd cc, tagless_reads t u m ns e)

module _ (t u : Tables) (ms ns : List Member) (at : ℕ) (m : Member) (row : slice_get ms at ≡ Some m) where
  before : (place : ℕ) → place < at + 1 → (place ≡ at → ⊥) → place < at
  before place lt apart = omega (arith, lt, apart)

  unread_more : (tag : ℕ) → IsUnreadTag t u at ms ns tag → IsUnreadTag t u (at + 1) ms ns tag
  unread_more tag (place, x, lt, is, has, unread) = (place, x, omega (arith, lt), is, has, unread)

  unread_less : (tag : ℕ) → IsUnreadTag t u (at + 1) ms ns tag → IsUnreadTag t u at ms ns tag ⊎ ((m.tag ≡ Some tag) × (ReadsOption t u m ns → ⊥))
  unread_less tag (place, x, lt, is, has, unread) = either (cases_eq place at)
      (λ same.
      let x_is : x ≡ m = same_row (slice_get ms at) x m (subst (λ (k : ℕ). slice_get ms k ≡ Some x) same is) row in
      inr (subst (λ (y : Member). y.tag ≡ Some tag) x_is has, subst (λ (y : Member). ReadsOption t u y ns → ⊥) x_is unread))
      (λ apart. inl (place, x, before place lt apart, is, has, unread))

  pub read_on : (least : Option ℕ) → ReadsOption t u m ns → IsLeastUnread t u at ms ns least → IsLeastUnread t u (at + 1) ms ns least
  read_on None reads h = λ place x lt is. either (cases_eq place at)
      (λ same. subst (λ (y : Member). ReadsOption t u y ns) (same_row (slice_get ms at) m x row (subst (λ (k : ℕ). slice_get ms k ≡ Some x) same is)) reads)
      (λ apart. h place x (before place lt apart) is)
  read_on (Some tag) reads h = (unread_more tag h.0, λ other un. either (unread_less other un) (λ old. h.1 other old) (λ new. absurd (new.1 reads)))

  pub not_below : (other tag : ℕ) → m.tag ≡ Some tag → other ≤ tag → IsLeastUnread t u at ms ns (Some other) → IsLeastUnread t u (at + 1) ms ns (Some other)
  not_below other tag has le h = (
    unread_more other h.0,
    λ k un. either (unread_less k un) (λ old. h.1 k old)
        (λ new. let both : Some tag ≡ Some k = sym has ∙ new.0 in let same : tag ≡ k = cc in omega (arith, same, le)),
  )

  pub now_least : (least : Option ℕ) (tag : ℕ) → m.tag ≡ Some tag → (ReadsOption t u m ns → ⊥) → ((other : ℕ) → least ≡ Some other → tag ≤ other) → IsLeastUnread t u at ms ns least
      → IsLeastUnread t u (at + 1) ms ns (Some tag)
  now_least least tag has unread above h = (
    (at, m, omega arith, row, has, unread),
    λ k un. either (unread_less k un)
        (λ old. by_least least above h k old)
        (λ new. let both : Some tag ≡ Some k = sym has ∙ new.0 in let same : tag ≡ k = cc in omega (arith, same)),
  )
    where
      by_least : (o : Option ℕ) → ((other : ℕ) → o ≡ Some other → tag ≤ other) → IsLeastUnread t u at ms ns o → (k : ℕ) → IsUnreadTag t u at ms ns k → tag ≤ k
      by_least None up all k (place, x, lt, is, has_it, not_read) = absurd (not_read (all place x lt is))
      by_least (Some other) up found k un = omega (arith, up other refl, found.1 k un)

  pub still_least : (least : Option ℕ) (tag : ℕ) → m.tag ≡ Some tag → IsAtMost least tag → IsLeastUnread t u at ms ns least → IsLeastUnread t u (at + 1) ms ns least
  still_least None tag has le h = absurd le
  still_least (Some other) tag has le h = not_below other tag has le h

  pub less_now : (least : Option ℕ) (tag : ℕ) → m.tag ≡ Some tag → (ReadsOption t u m ns → ⊥) → (IsAtMost least tag → ⊥) → IsLeastUnread t u at ms ns least → IsLeastUnread t u (at + 1) ms ns (Some tag)
  less_now least tag has unread above h = now_least least tag has unread
      (λ other is. let no : other ≤ tag → ⊥ = λ (le : other ≤ tag). above (subst (λ (o : Option ℕ). IsAtMost o tag) (sym is) le) in omega (arith, no)) h

-- behind the last member
pub least_of_all : (t u : Tables) (ms ns : List Member) (count : ℕ) → length ms ≤ count → (least : Option ℕ) → IsLeastUnread t u count ms ns least → IsLeastUnread t u (length ms) ms ns least
least_of_all t u ms ns count le None h = λ place m lt is. h place m (omega (arith, lt, le)) is
least_of_all t u ms ns count le (Some tag) h = (
  (h.0.0, h.0.1, slice_get_within ms h.0.0 h.0.1 h.0.3, h.0.3, h.0.4, h.0.5),
  λ other un. h.1 other (un.0, un.1, omega (arith, un.2, le), un.3, un.4, un.5),
)

-- ---- a class whose base and compact id stand, by the types of its required members and by its optional ones

module _ (t u : Tables) (c d : ClassDecl) (base : KeepsBase t u c d) (compact : KeepsCompactId t u c d) (ms ns : List Member) (own : ms ≡ c.members) (other : ns ≡ d.members)
    (ks ls : List TypeRef) (kinds : ks ≡ required_of ms) (others : ls ≡ required_of ns) where
  own_kinds : ks ≡ required_of c.members
  own_kinds = kinds ∙ ap required_of own

  other_kinds : ls ≡ required_of d.members
  other_kinds = others ∙ ap required_of other

  pub members_fail : (length ks ≡ length ls → ⊥) → Fails t u c d causes.Members
  members_fail apart = (base, compact, λ same. apart (ap length own_kinds ∙ same ∙ ap length (sym other_kinds)))

  module _ (same : length ks ≡ length ls) where
    as_many : HasAsMany t u c d
    as_many = ap length (sym own_kinds) ∙ same ∙ ap length other_kinds

    pub required_fails : (place : ℕ) → FirstUnread t u ks ls place → Fails t u c d (causes.Required place)
    required_fails place h = (
      base,
      compact,
      as_many,
      subst (λ (xs : List TypeRef). FirstUnread t u xs (required_of d.members) place) own_kinds (subst (λ (ys : List TypeRef). FirstUnread t u ks ys place) other_kinds h),
    )

    module _ (each : ReadsEach t u ks ls) where
      required : ReadsEach t u (required_of c.members) (required_of d.members)
      required = subst (λ (xs : List TypeRef). ReadsEach t u xs (required_of d.members)) own_kinds (subst (λ (ys : List TypeRef). ReadsEach t u ks ys) other_kinds each)

      optional : (least : Option ℕ) → IsLeastUnread t u (length ms) ms ns least → IsLeastUnread t u (length c.members) c.members d.members least
      optional least h = subst (λ (xs : List Member). IsLeastUnread t u (length xs) xs d.members least) own (subst (λ (ys : List Member). IsLeastUnread t u (length ms) ms ys least) other h)

      pub optional_fails : (tag : ℕ) → IsLeastUnread t u (length ms) ms ns (Some tag) → Fails t u c d (causes.Optional tag)
      optional_fails tag h = (base, compact, as_many, required, optional (Some tag) h)

      pub members_read : IsLeastUnread t u (length ms) ms ns None → ClassReads t u c d
      members_read h = record { base = base; compact = compact; as_many = as_many; required = required; optional = optional None h }

-- ---- a class and the one of its type id

module _ (t u : Tables) (at : ℕ) where
  -- there is no class at this place
  pub no_class : slice_get t.classes at ≡ None → ClassFails t u at causes.Missing
  no_class none b (id, here, there) =
      let is : slice_get (class_ids t) at ≡ None = slice_get-map (λ (c : ClassDecl). c.id) t.classes at ∙ ap (option_map (λ (c : ClassDecl). c.id)) none in
      let both : Some id ≡ None = sym here ∙ is in cc

  module _ (own : ClassDecl) (row : slice_get t.classes at ≡ Some own) where
    own_id : HasId (class_ids t) own.id at
    own_id = slice_get-map (λ (c : ClassDecl). c.id) t.classes at ∙ ap (option_map (λ (c : ClassDecl). c.id)) row

    -- the other schema has none of its type id
    pub no_other : ((b : ℕ) → HasId (class_ids u) own.id b → ⊥) → ClassFails t u at causes.Missing
    no_other none b (id, here, there) = none b (subst (λ (i : List ℕ). HasId (class_ids u) i b) (one_id t (rows.Class at) id own.id here own_id) there)

    module _ (place : ℕ) (there : HasId (class_ids u) own.id place) where
      -- a class of a type id has a row
      pub has_row : slice_get u.classes place ≡ None → ⊥
      has_row none =
          let is : slice_get (class_ids u) place ≡ None = slice_get-map (λ (c : ClassDecl). c.id) u.classes place ∙ ap (option_map (λ (c : ClassDecl). c.id)) none in
          let both : Some own.id ≡ None = sym there ∙ is in cc

      module _ (decl : ClassDecl) (other : slice_get u.classes place ≡ Some decl) where
        pair : SameId t u (rows.Class at) (rows.Class place)
        pair = (own.id, own_id, there)

        pub told : (why : Option Why) → MatchOption why (ClassReads t u own decl) (Fails t u own decl) → MatchOption why (ClassPasses t u at) (ClassFails t u at)
        told None h = (place, pair, (own, decl, row, other, h))
        told (Some causes.Missing) h = absurd h
        told (Some causes.Base) h = (place, pair, (own, decl, row, other, h))
        told (Some causes.CompactId) h = (place, pair, (own, decl, row, other, h))
        told (Some causes.Members) h = (place, pair, (own, decl, row, other, h))
        told (Some (causes.Required k)) h = (place, pair, (own, decl, row, other, h))
        told (Some (causes.Optional k)) h = (place, pair, (own, decl, row, other, h))
