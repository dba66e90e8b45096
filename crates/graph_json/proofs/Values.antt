-- What JSON lists are values of the types of their members.
use Rattle.std.proofs.Common.{Less, Greater, ◌≡◌, ◌<◌, ◌^◌, ℕ, ◌==◌, Bool, true, false, cond, List, [], ◌∷◌, Option, Some, None, Equal, refl, sym, ap, ◌∙◌, subst, inl, inr, ◌⊎◌, arith}
use Rattle.std.specs.Cmp.{nat_cmp_is}
use Rattle.std.specs.Ordering.{nat_cmp}
use Rattle.std.proofs.lemmas.Bool.{cases_eq, cases_lt, lt-ltb}
use Rattle.std.proofs.lemmas.Option.{none-some, same_Some}
use Rattle.serde_json.specs.Data as json
use Rattle.serde_json.specs.Data.{Data, Items, no_items, item}
use Rattle.ice_types.specs.declared.kind.TypeRef.{TypeRef}
use Rattle.ice_types.specs.declared.declarations.Member.{Member}
use Rattle.ice_types.specs.declared.declarations.Shape.{Shape}
use Rattle.ice_types.specs.declared.schema.TheConstants.{MOST_DEPTH}
use Rattle.ice_types.specs.Tables.{Tables}
use Rattle.ice_types.specs.Rules.{IsSchema}
use Rattle.ice_encoding.specs.Tags.{rises}
use Rattle.ice_encoding.specs.Tree.{Tree}
use Rattle.ice_encoding.specs.Typed.{by_size, HasType}
use Rattle.ice_encoding.specs.Optionals.{Present, kind_tagged}
use Rattle.ice_encoding.specs.OptionalMembers.{Members}
use Rattle.ice_encoding.specs.Classes.{own_members}
use Rattle.ice_encoding.specs.Graph.{Slice, known, unknown, Graph}
use Rattle.ice_encoding.specs.TypedGraph.{AreReferred, AreOptions, AreMembers}
use Rattle.graph_laws.proofs.Bases.{row_of_id}
use Rattle.graph_json.specs.ValueNotation.{NotesName, Notes}
use Rattle.graph_json.specs.Contents.{HasOwnNames, put_at, NotesOption, NotesOptions, NotesContent, member_tagged}
use Rattle.graph_json.proofs.ContentTyped.{content_is_typed}
use Rattle.graph_json.proofs.OfType.{members_typed, noted_type}
use Rattle.graph_json.specs.Notation.{NotesEach, NotesSlice, NotesInstance, NotesListed}
use Rattle.graph_json.specs.Typed.{SliceHasValues, InstanceHasValues, HaveValues}
use Rattle.graph_json.proofs.Tagged.{Each, HaveTags, Own, own_tags}
use Rattle.graph_json.proofs.ContentCanon.{Above, Rising, put_rises}
use Rattle.graph_json.proofs.Fitting.{AreSmall, class_fits}

-- ---- a member's type by its tag

type_of : Member → Option TypeRef
type_of m = Some m.kind

kind_by : (n other : ℕ) (x m : Member) (ms : List Member) (test : Bool) → elim test [ true ↦ Some x | false ↦ member_tagged n ms ] ≡ Some m → (member_tagged n ms ≡ Some m → kind_tagged n ms ≡ Some m.kind) → cond test (Some x.kind) (kind_tagged n ms) ≡ Some m.kind
unfolding type_of
kind_by n other x m ms true e later = ap type_of (same_Some x m e)
kind_by n other x m ms false e later = later e

kind_at : (n : ℕ) (x m : Member) (ms : List Member) (o : Option ℕ) → elim o [ None ↦ member_tagged n ms | Some other ↦ elim (n == other) [ true ↦ Some x | false ↦ member_tagged n ms ] ] ≡ Some m → (member_tagged n ms ≡ Some m → kind_tagged n ms ≡ Some m.kind)
    → elim o [ None ↦ kind_tagged n ms | Some other ↦ cond (n == other) (Some x.kind) (kind_tagged n ms) ] ≡ Some m.kind
kind_at n x m ms None e later = later e
kind_at n x m ms (Some other) e later = kind_by n other x m ms (n == other) e later

member_kind : (n : ℕ) (ms : List Member) (m : Member) → member_tagged n ms ≡ Some m → kind_tagged n ms ≡ Some m.kind
member_kind n [] m e = absurd (none-some m e)
member_kind n (x ∷ ms) m e = kind_at n x m ms x.tag e (member_kind n ms m)

-- ---- values by rising tag

less : (a b : ℕ) → a < b → nat_cmp a b ≡ Less
less a b lt = sym (nat_cmp_is a b Less lt)

greater : (a b : ℕ) → b < a → nat_cmp a b ≡ Greater
greater a b lt = sym (nat_cmp_is a b Greater lt)

equal : (a b : ℕ) → a ≡ b → nat_cmp a b ≡ Equal
equal a b e = sym (nat_cmp_is a b Equal e)

compared : (n k : ℕ) → (n < k) ⊎ ((n ≡ k) ⊎ (k < n))
compared n k = elim (cases_lt n k) [ inl lt ↦ inl lt | inr le ↦ elim (cases_eq n k) [ inl e ↦ inr (inl e) | inr other ↦ inr (inr (omega (arith, le, other))) ] ]

module _ (t : Tables) (all : List Member) where
  -- a value of the member with its tag
  abbrev IsOption : ℕ → Tree → Type 0
  IsOption n v = (n < 2 ^ 31) × (kind : TypeRef) × (kind_tagged n all ≡ Some kind) × HasType t by_size MOST_DEPTH kind v

  abbrev AllOptions : Present → Type 0
  AllOptions [] = Unit {0}
  AllOptions (o ∷ os) = IsOption o.0 o.1 × AllOptions os

  put_options : (n : ℕ) (v : Tree) (os : Present) → IsOption n v → AllOptions os → AllOptions (put_at n v os)
  put_options n v [] is are = (is, tt)
  put_options n v (o ∷ os) is are = elim (compared n o.0) [
    | inl first ↦ rw (less n o.0 first) (is, are)
    | inr (inl same) ↦ rw (equal n o.0 same) (subst (λ (k : ℕ). IsOption k v) same is, are.1)
    | inr (inr later) ↦ rw (greater n o.0 later) (are.0, put_options n v os is are.1)
  ]

  abbrev ComesAfter : Option ℕ → Present → Type 0
  ComesAfter None os = Unit {0}
  ComesAfter (Some k) os = Above k os

  rises_after : (last : Option ℕ) (o : ℕ × Tree) (os : Present) → ComesAfter last (o ∷ os) → rises last o.0 ≡ true
  rises_after None o os after = refl
  rises_after (Some k) o os after = lt-ltb k o.0 after.0

  are_options : (last : Option ℕ) (os : Present) → ComesAfter last os → Rising os → AllOptions os → AreOptions t by_size all last os
  are_options last [] after rise are = tt
  are_options last (o ∷ os) after rise are = (rises_after last o os after, are.0.0, are.0.1, are.0.2, are.0.3, are_options (Some o.0) os rise.0 rise.1 are.1)

-- ---- members

module _ (t : Tables) (rules : IsSchema t) (all : List Member) (found : json.Members) where
  option_is : (m : Member) (before after : Present) → (tag : ℕ) × (m.tag ≡ Some tag) × (member_tagged tag all ≡ Some m) → ((tag : ℕ) → m.tag ≡ Some tag → tag < 2 ^ 31) → NotesOption (Notes t) m found before after
      → Rising before × AllOptions t all before → Rising after × AllOptions t all after
  option_is m before after own small (inl h) good = subst (λ (os : Present). Rising os × AllOptions t all os) (sym h.1) good
  option_is m before after own small (inr h) good =
      let same : own.0 ≡ h.1 = same_Some own.0 h.1 (sym own.1 ∙ h.4) in
      let kind : kind_tagged h.1 all ≡ Some m.kind = member_kind h.1 all m (ap (λ (k : ℕ). member_tagged k all) (sym same) ∙ own.2) in
      let is : IsOption t all h.1 h.2 = (small h.1 h.4, m.kind, kind, noted_type t rules m.kind h.0 h.2 h.5) in
      subst (λ (os : Present). Rising os × AllOptions t all os) (sym h.6) (put_rises h.1 h.2 before good.0, put_options t all h.1 h.2 before is good.1)

  options_are : (ms : List Member) (before present : Present) → Own all ms → Each (λ m. (tag : ℕ) → m.tag ≡ Some tag → tag < 2 ^ 31) ms → NotesOptions (Notes t) ms found before present
      → Rising before × AllOptions t all before → Rising present × AllOptions t all present
  options_are [] before present own small h good = subst (λ (os : Present). Rising os × AllOptions t all os) (sym h) good
  options_are (m ∷ ms) before present own small h good = options_are ms h.0 present own.1 small.1 h.2 (option_is m before h.0 own.0 small.0 h.1 good)

content_values : (t : Tables) → IsSchema t → (shape : Shape) → HaveTags shape.optional → AreSmall shape.optional → (d : Data) (c : Members) → NotesContent t shape d c → AreMembers t by_size shape c
content_values t rules shape tags small d c h =
    let good = options_are t rules shape.optional h.0 shape.optional [] c.optional (own_tags shape.optional tags) small h.3 (tt, tt) in
    record {
      required = members_typed (Notes t) (HasType t by_size MOST_DEPTH) (noted_type t rules) shape.required h.0 c.required h.2;
      optional = are_options t shape.optional None c.optional tt good.0 good.1;
    }

-- ---- instances

names_are : (ds : Items) (ns : List ℕ) → NotesEach NotesName ds ns → AreReferred by_size ns
names_are no_items ns h = subst (AreReferred by_size) (sym h) tt
names_are (item d ds) ns h = subst (AreReferred by_size) (sym h.2) (h.3.0, names_are ds h.1 h.4)

module _ (t : Tables) (rules : IsSchema t) where
  slice_values : (d : Data) (s : Slice) → NotesSlice t d s → SliceHasValues t s
  slice_values d (known class content) h =
      let row = row_of_id t.classes h.2 class h.4 in
      let fits = class_fits t rules class row.0 row.1 in
      (row.0, row.1, content_values t rules (own_members t class) fits.tags fits.small h.5 content h.7)
  slice_values d (unknown id bytes optionals table) h = names_are h.9.0 table h.9.2

  slices_values : (ds : Items) (ss : List Slice) → NotesEach (NotesSlice t) ds ss → InstanceHasValues t ss
  slices_values no_items ss h = subst (InstanceHasValues t) (sym h) tt
  slices_values (item d ds) ss h = subst (InstanceHasValues t) (sym h.2) (slice_values d h.0 h.3, slices_values ds h.1 h.4)

  instances_values : (ds : Items) (is : List (List Slice)) → NotesEach (NotesInstance t) ds is → HaveValues t is
  instances_values no_items is h = subst (HaveValues t) (sym h) tt
  instances_values (item d ds) is h = subst (HaveValues t) (sym h.2) (slices_values h.3.4.0 h.0 h.3.4.2, instances_values ds h.1 h.4)

pub listed_values : (t : Tables) (shape : Shape) (d : Data) (g : Graph) → IsSchema t → HasOwnNames shape → NotesListed t shape d g → AreMembers t by_size shape g.roots × HaveValues t g.instances
listed_values t shape d g rules own h = (content_is_typed t shape h.5 g.roots rules own h.7, instances_values t rules h.4.0 g.instances h.4.2)
