-- A class that was reached, and the class of its type id in the other schema: their bases, their members and what may stand for them.
use Rattle.std.proofs.Common.{ℕ, zero, suc, ◌≡◌, ◌==◌, Bool, true, false, List, [], ◌∷◌, length, filter, arith, refl, sym, ap, ◌∙◌, subst, Option, Some, None}
use Rattle.std.specs.Prelude.{cond, is_none, slice_get, option_and_then, if◌then◌else◌}
use Rattle.std.specs.Option.{is_some}
use Rattle.std.proofs.lemmas.Bool.{eqb-true, eq-eqb}
use Rattle.std.proofs.lemmas.Option.{same_Some, slice_get_within}
use Rattle.ice_types.specs.declared.kind.TypeRef.{TypeRef}
use Rattle.ice_types.specs.declared.kind.RowRef.TheVariants as rows
use Rattle.ice_types.specs.declared.declarations.ClassDecl.{ClassDecl}
use Rattle.ice_types.specs.declared.declarations.Member.{Member}
use Rattle.ice_types.specs.declared.schema.TheConstants.{MOST_DEPTH}
use Rattle.ice_types.specs.Tables.{Tables, HasId, class_ids}
use Rattle.ice_types.specs.Rules.{IsSchema}
use Rattle.ice_types.specs.Lacking.{AreSame, SameId, SameBase}
use Rattle.ice_types.proofs.RowIdentity.{one_id}
use Rattle.ice_encoding.specs.Optionals.{kind_tagged}
use Rattle.ice_encoding.specs.OptionalMembers.{required_kinds, shape_of}
use Rattle.ice_encoding.specs.Classes.{class_by_id, base_of, members_in, own_members}
use Rattle.ice_encoding.specs.Flags.{Flags, Before, first, only_unknown, derived, may_stand}
use Rattle.ice_encoding.specs.TypeIds.{class_in, is_base, same_bool, ends_well, before_base, before_next}
use Rattle.ice_types.specs.CompactIds.{is_numbered, HasSliceId}
use Rattle.ice_types.proofs.SliceIds.{number_text, number_of_class}
use Rattle.graph_laws.proofs.ClassIds.{id_named, named_id, plain_id, id_plain, compact_row, row_compact}
use Rattle.slice_compat.specs.Reading.{Reads, ReadsWithin}
use Rattle.slice_compat.specs.Reached.{IsReached}
use Rattle.slice_compat.specs.Tests.{ClassReads, ClassPasses, HaveOneTag, KeepsNumber, ReadsEach, ReadsOption, ReadsOptions, required_of}

class_of_row : (a b : ℕ) → rows.Class a ≡ rows.Class b → a ≡ b
class_of_row a b e = cc

-- ---- members

-- the member of a tag
abbrev HasTag : ℕ → List Member → TypeRef → Type 0
HasTag number ms k = (i : ℕ) × (m : Member) × (slice_get ms i ≡ Some m) × (m.tag ≡ Some number) × (m.kind ≡ k)

tagged_member : (number : ℕ) (ms : List Member) (k : TypeRef) → kind_tagged number ms ≡ Some k → HasTag number ms k
tagged_member number [] k e = absurd cc
tagged_member number (m ∷ ms) k e = by_tag (λ e. let r = tagged_member number ms k e in (suc r.0, r.1, r.2, r.3, r.4)) m.tag refl e
  where
    by_test : (kind_tagged number ms ≡ Some k → HasTag number (m ∷ ms) k) → (other : ℕ) (b : Bool) → m.tag ≡ Some other → (number == other) ≡ b → (if b then Some m.kind else kind_tagged number ms) ≡ Some k → HasTag number (m ∷ ms) k
    by_test later other true has same e = (0, m, refl, has ∙ ap Some (sym (eqb-true number other same)), (let both : Some m.kind ≡ Some k = e in cc))
    by_test later other false has same e = later e

    by_tag : (kind_tagged number ms ≡ Some k → HasTag number (m ∷ ms) k) → (tag : Option ℕ) → m.tag ≡ tag → (elim tag [ None ↦ kind_tagged number ms | Some other ↦ if number == other then Some m.kind else kind_tagged number ms ]) ≡ Some k → HasTag number (m ∷ ms) k
    by_tag later None has e = later e
    by_tag later (Some other) has e = by_test later other (number == other) has refl e

-- those without a tag are under none
filter_tagged : (number : ℕ) (ms : List Member) → kind_tagged number (filter (λ m. is_some m.tag) ms) ≡ kind_tagged number ms
filter_tagged number [] = refl
filter_tagged number (m ∷ ms) = by_tag (filter_tagged number ms) m.tag refl
  where
    by_tag : kind_tagged number (filter (λ m. is_some m.tag) ms) ≡ kind_tagged number ms → (tag : Option ℕ) → m.tag ≡ tag → kind_tagged number (cond (is_some m.tag) (m ∷ filter (λ m. is_some m.tag) ms) (filter (λ m. is_some m.tag) ms)) ≡ kind_tagged number (m ∷ ms)
    by_tag rest None has = rw has rest
    by_tag rest (Some other) has = rw has (ap (λ (o : Option TypeRef). if number == other then Some m.kind else o) rest)

-- as many types, each of which can be read as the one at its place
kinds_read : (t u : Tables) (ks ls : List TypeRef) → length ks ≡ length ls → ReadsEach t u ks ls → AreSame (ReadsWithin t u MOST_DEPTH) ks ls
unfolding Reads
kinds_read t u [] [] e h = tt
kinds_read t u [] (l ∷ ls) e h = absurd (omega (arith, e))
kinds_read t u (k ∷ ks) [] e h = absurd (omega (arith, e))
kinds_read t u (k ∷ ks) (l ∷ ls) e h = (first (h 0 (omega arith)), kinds_read t u ks ls (omega (arith, e)) (λ place lt. h (suc place) (omega (arith, lt))))
  where
    first : (x y : TypeRef) × (Some k ≡ Some x) × (Some l ≡ Some y) × ReadsWithin t u MOST_DEPTH x y → ReadsWithin t u MOST_DEPTH k l
    first (x, y, k_is, l_is, reads) = subst (λ (z : TypeRef). ReadsWithin t u MOST_DEPTH z l) (same_Some x k (sym k_is)) (subst (λ (z : TypeRef). ReadsWithin t u MOST_DEPTH x z) (same_Some y l (sym l_is)) reads)

read_at : (t u : Tables) (m : Member) (ns : List Member) (j : ℕ) (n : Member) → ReadsOption t u m ns → slice_get ns j ≡ Some n → HaveOneTag m n → Reads t u m.kind n.kind
read_at t u m [] j n h e tag = absurd cc
read_at t u m (x ∷ ns) zero n h e tag = let same : x ≡ n = cc in subst (λ (x : Member). HaveOneTag m x → Reads t u m.kind x.kind) same h.0 tag
read_at t u m (x ∷ ns) (suc j) n h e tag = read_at t u m ns j n h.1 e tag

tags_read : (t u : Tables) (ms ns : List Member) → ReadsOptions t u (length ms) ms ns → (number : ℕ) (k l : TypeRef) → kind_tagged number ms ≡ Some k → kind_tagged number ns ≡ Some l → ReadsWithin t u MOST_DEPTH k l
unfolding Reads
tags_read t u ms ns reads number k l here there =
    let m = tagged_member number ms k here in
    let n = tagged_member number ns l there in
    subst (λ (x : TypeRef). ReadsWithin t u MOST_DEPTH x l) m.4 (subst (λ (x : TypeRef). ReadsWithin t u MOST_DEPTH m.1.kind x) n.4
    (read_at t u m.1 ns n.0 n.1 (reads m.0 m.1 (slice_get_within ms m.0 m.1 m.2) m.2) n.2 (number, m.3, n.3)))

module _ (t u : Tables) (here : IsSchema t) (there : IsSchema u) (root : TypeRef) (passes : (a : ℕ) → IsReached t root a → ClassPasses t u a) where
  abbrev pub Tied : ℕ → ℕ → Type 0
  Tied a b = SameId t u (rows.Class a) (rows.Class b)

  -- the class that one is tied to is one alone
  pub tied_once : (a b c : ℕ) → Tied a b → Tied a c → b ≡ c
  tied_once a b c (id, own, other) (id', own', other') =
      class_of_row b c (there.apart id (rows.Class b) (rows.Class c) other (subst (λ (i : List ℕ). HasId (class_ids u) i c) (one_id t (rows.Class a) id' id own' own) other'))

  abbrev pub Pair : ℕ → ℕ → Type 0
  Pair a b = (c d : ClassDecl) × (slice_get t.classes a ≡ Some c) × (slice_get u.classes b ≡ Some d) × ClassReads t u c d

  pub pair_of : (a b : ℕ) → IsReached t root a → Tied a b → Pair a b
  pair_of a b reached tied = let p = passes a reached in subst (λ (k : ℕ). Pair a k) (tied_once a p.0 b p.1 tied) p.2

  -- the class of the id, which it has there too
  slice_id_there : (id : List ℕ) (a b : ℕ) → Tied a b → Pair a b → HasSliceId t id a → HasSliceId u id b
  slice_id_there id a b (other, here_too, there_too) (c, d, row, its_row, reads) h = by_test (is_numbered id) refl
    where
      kept : (number : ℕ) → c.compact ≡ Some number → KeepsNumber c.compact d.compact → d.compact ≡ Some number
      kept number e keeps = subst (λ (o : Option ℕ). KeepsNumber o d.compact) e keeps

      by_test : (hash : Bool) → is_numbered id ≡ hash → HasSliceId u id b
      by_test true hash =
          let n = number_of_class t here id a hash h in
          subst (λ (i : List ℕ). HasSliceId u i b) (sym n.2) (number_text u n.0 b (compact_row u b d its_row ∙ ap Some (kept n.0 (row_compact t a n.0 c row n.3) reads.compact)))
      by_test false plain = id_plain u id b plain (subst (λ (i : List ℕ). HasId (class_ids u) i b) (one_id t (rows.Class a) other id here_too (plain_id t id a plain h)) there_too)

  pub named_there : (id : List ℕ) (a : ℕ) → class_by_id t id ≡ Some a → IsReached t root a → (b : ℕ) × (class_by_id u id ≡ Some b) × Tied a b
  named_there id a named reached =
      let p = passes a reached in
      (p.0, named_id u there id p.0 (slice_id_there id a p.0 p.1 p.2 (id_named t id a named)), p.1)

  -- ---- members

  pub required_read : (a b : ℕ) → Pair a b → AreSame (ReadsWithin t u MOST_DEPTH) (required_kinds (own_members t a)) (required_kinds (own_members u b))
  required_read a b (c, d, row, other, reads) =
      subst (λ (o : Option ClassDecl). AreSame (ReadsWithin t u MOST_DEPTH) (required_kinds (shape_of (members_in o))) (required_kinds (own_members u b))) (sym row)
      (subst (λ (o : Option ClassDecl). AreSame (ReadsWithin t u MOST_DEPTH) (required_kinds (shape_of c.members)) (required_kinds (shape_of (members_in o)))) (sym other)
      (kinds_read t u (required_of c.members) (required_of d.members) reads.as_many reads.required))

  tagged_of : (s : Tables) (a : ℕ) (c : ClassDecl) (number : ℕ) → slice_get s.classes a ≡ Some c → kind_tagged number ((own_members s a).optional) ≡ kind_tagged number c.members
  tagged_of s a c number row = ap (λ (o : Option ClassDecl). kind_tagged number ((shape_of (members_in o)).optional)) row ∙ filter_tagged number c.members

  pub options_read : (a b : ℕ) → Pair a b → (number : ℕ) (k l : TypeRef) → kind_tagged number ((own_members t a).optional) ≡ Some k → kind_tagged number ((own_members u b).optional) ≡ Some l → ReadsWithin t u MOST_DEPTH k l
  options_read a b (c, d, row, other, reads) number k l e f =
      tags_read t u c.members d.members reads.optional number k l (sym (tagged_of t a c number row) ∙ e) (sym (tagged_of u b d number other) ∙ f)

  -- ---- bases

  pub base_pair : (a b : ℕ) → Pair a b → SameBase t u rows.Class (base_of t a) (base_of u b)
  base_pair a b (c, d, row, other, reads) =
      subst (λ (o : Option ClassDecl). SameBase t u rows.Class (option_and_then (λ c. c.base) o) (base_of u b)) (sym row)
      (subst (λ (o : Option ClassDecl). SameBase t u rows.Class c.base (option_and_then (λ c. c.base) o)) (sym other) reads.base)

  none_tied : (o p : Option ℕ) → SameBase t u rows.Class o p → is_none o ≡ is_none p
  none_tied None p e = ap is_none (sym e)
  none_tied (Some a) p (b, is, tied) = ap is_none (sym is)

  pub ends_there : (f : Flags) (a b : ℕ) → Pair a b → ends_well t (Some a) f ≡ true → ends_well u (Some b) f ≡ true
  ends_there f a b pair h = subst (λ (x : Bool). same_bool f.is_last x ≡ true) (none_tied (base_of t a) (base_of u b) (base_pair a b pair)) h

  -- ---- before a slice

  abbrev pub BeforeAs : Before → Before → Type 0
  BeforeAs first y = y ≡ first
  BeforeAs only_unknown y = y ≡ only_unknown
  BeforeAs (derived sized a) y = (b : ℕ) × (y ≡ derived sized b) × Tied a b

  pub class_there : (x y : Before) → BeforeAs x y → (id : List ℕ) (a : ℕ) → class_in t x id ≡ Some a → IsReached t root a → (b : ℕ) × (class_in u y id ≡ Some b) × Tied a b
  class_there first y sees id a named reached = subst (λ (y : Before). (b : ℕ) × (class_in u y id ≡ Some b) × Tied a b) (sym sees) (named_there id a named reached)
  class_there only_unknown y sees id a named reached = subst (λ (y : Before). (b : ℕ) × (class_in u y id ≡ Some b) × Tied a b) (sym sees) (named_there id a named reached)
  class_there (derived true o) y (p, is, tied) id a named reached = subst (λ (y : Before). (b : ℕ) × (class_in u y id ≡ Some b) × Tied a b) (sym is) (named_there id a named reached)
  class_there (derived false o) y (p, is, tied) id a named reached = subst (λ (y : Before). (b : ℕ) × (class_in u y id ≡ Some b) × Tied a b) (sym is)
      (p, refl, (let same : o ≡ a = cc in subst (λ (k : ℕ). Tied k p) same tied))

  pub base_there : (x y : Before) → BeforeAs x y → (a b : ℕ) → Tied a b → is_base x (Some a) ≡ true → is_base y (Some b) ≡ true
  base_there first y sees a b tied h = subst (λ (y : Before). is_base y (Some b) ≡ true) (sym sees) refl
  base_there only_unknown y sees a b tied h = subst (λ (y : Before). is_base y (Some b) ≡ true) (sym sees) refl
  base_there (derived sized o) y (p, is, other) a b tied h = subst (λ (y : Before). is_base y (Some b) ≡ true) (sym is)
      (eq-eqb b p (tied_once a b p tied (subst (λ (k : ℕ). Tied k p) (sym (eqb-true a o h)) other)))

  pub next_there : (f : Flags) (a b : ℕ) → Pair a b → BeforeAs (before_next t (Some a) f) (before_next u (Some b) f)
  next_there f a b pair = by_base (base_of t a) (base_of u b) (base_pair a b pair)
    where
      by_base : (o p : Option ℕ) → SameBase t u rows.Class o p → BeforeAs (before_base f.has_size o) (before_base f.has_size p)
      by_base None p e = subst (λ (p : Option ℕ). BeforeAs only_unknown (before_base f.has_size p)) (sym e) refl
      by_base (Some o) p (q, is, tied) = subst (λ (p : Option ℕ). BeforeAs (derived f.has_size o) (before_base f.has_size p)) (sym is) (q, refl, tied)

  pub stands_there : (x y : Before) → BeforeAs x y → (f : Flags) → may_stand x f ≡ may_stand y f
  stands_there first y sees f = ap (λ (y : Before). may_stand y f) (sym sees)
  stands_there only_unknown y sees f = ap (λ (y : Before). may_stand y f) (sym sees)
  stands_there (derived true o) y (p, is, tied) f = ap (λ (y : Before). may_stand y f) (sym is)
  stands_there (derived false o) y (p, is, tied) f = ap (λ (y : Before). may_stand y f) (sym is)
