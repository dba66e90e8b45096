-- The canonical notation of members notes them, where they have names and tags of their own.
use Rattle.std.proofs.Common.{◌≡◌, ◌≢◌, ℕ, suc, ◌+◌, ◌<◌, Bool, true, false, cond, List, [], ◌∷◌, ◌++◌, length, map, All, Option, Some, None, Ordering, Less, Equal, Greater, refl, sym, ap, subst, ◌∙◌, inl, inr, ◌⊎◌, arith}
use Rattle.std.specs.Prelude.{nat_eq, option_map}
use Rattle.std.specs.Ordering.{nat_cmp, match_ordering, MatchOrdering}
use Rattle.std.specs.Cmp.{ranked}
use Rattle.std.proofs.lemmas.Bool.{eqb-true, eq-eqb, ne_eqb, ltb-true}
use Rattle.std.proofs.lemmas.Option.{none-some, same_Some}
use Rattle.std.proofs.lemmas.List.Elements.{All-head, All-tail}
use Rattle.serde_json.specs.Data as json
use Rattle.serde_json.specs.Data.{Data, no_members, put}
use Rattle.serde_json.specs.Find.{get_member}
use Rattle.serde_json.specs.Events.{members_len}
use Rattle.serde_json.proofs.Views.{get_member-put, get_member-put_other}
use Rattle.ice_types.specs.declared.kind.TypeRef.{TypeRef}
use Rattle.ice_types.specs.declared.declarations.Member.{Member}
use Rattle.ice_types.specs.declared.declarations.Shape.{Shape}
use Rattle.ice_types.specs.declared.schema.TheConstants.{MOST_DEPTH}
use Rattle.ice_types.specs.Fits.{names_of, tags_of, DifferFrom}
use Rattle.ice_types.specs.Tables.{Tables}
use Rattle.ice_types.specs.Rules.{IsSchema}
use Rattle.ice_encoding.specs.Tree.{Tree, Trees, tree_count, InEach}
use Rattle.ice_encoding.specs.Typed.{EachOf, HasType, Refers, by_size}
use Rattle.ice_encoding.specs.TypedGraph.{AreOptions, AreMembers}
use Rattle.ice_encoding.specs.Optionals.{Present, kind_tagged}
use Rattle.ice_encoding.specs.OptionalMembers.{Members}
use Rattle.graph_json.specs.ValueNotation.{Noting, NotesMembers, Notes}
use Rattle.graph_json.specs.CanonicalValues.{Write, members_noted, notation}
use Rattle.graph_json.specs.TypedValues.{IsShort, HasShortTexts}
use Rattle.graph_json.specs.Contents.{AreShort, ContentIsShort, HasOwnNames, put_at, NotesOption, NotesOptions, NotesContent, member_tagged, put_member, options_noted, content_noted}
use Rattle.graph_json.proofs.Names.{LacksName, AreApart, are_apart}
use Rattle.graph_json.proofs.Canon.{AreSizes, put_count, stays, all_new, members_count, members_canon, referring_canon}

-- ---- members of a list

abbrev pub In : Member → List Member → Type 0
In m [] = ⊥
In m (x ∷ xs) = (m ≡ x) ⊎ In m xs

lacks_in : (name : List ℕ) (ms : List Member) (m : Member) → LacksName name (names_of ms) → In m ms → name ≢ m.name
lacks_in name [] m lacks in_it = absurd in_it
lacks_in name (x ∷ xs) m lacks (inl same) = λ e. lacks.0 (e ∙ ap (λ (y : Member). y.name) same)
lacks_in name (x ∷ xs) m lacks (inr later) = lacks_in name xs m lacks.1 later

-- members of different tags have different names
names_differ : (ms : List Member) (a b : Member) → AreApart (names_of ms) → In a ms → In b ms → a.tag ≢ b.tag → a.name ≢ b.name
names_differ [] a b apart in_a in_b other = absurd in_a
names_differ (x ∷ xs) a b apart (inl same) (inl again) other = absurd (other (ap (λ (y : Member). y.tag) (same ∙ sym again)))
names_differ (x ∷ xs) a b apart (inl same) (inr later) other = λ e. lacks_in x.name xs b apart.0 later (sym (ap (λ (y : Member). y.name) same) ∙ e)
names_differ (x ∷ xs) a b apart (inr later) (inl same) other = λ e. lacks_in x.name xs a apart.0 later (sym (ap (λ (y : Member). y.name) same) ∙ sym e)
names_differ (x ∷ xs) a b apart (inr in_a) (inr in_b) other = names_differ xs a b apart.1 in_a in_b other

-- ---- the member of a tag

abbrev member : List ℕ → TypeRef → Option ℕ → Member
member name kind tag = record { name = name; kind = kind; tag = tag }

module _ (tag : ℕ) (xs : List Member) where
  this_of : (name : List ℕ) (kind : TypeRef) (o : Option ℕ) (k : ℕ) → o ≡ Some k → nat_eq tag k ≡ true → member_tagged tag (member name kind o ∷ xs) ≡ Some (member name kind o)
  this_of name kind None k is test = absurd (none-some k is)
  this_of name kind (Some other) k is test = let here : nat_eq tag other ≡ true = ap (nat_eq tag) (same_Some other k is) ∙ test in rw (here, member_tagged) refl

module _ (tag : ℕ) (x : Member) (xs : List Member) where
  no_tag : x.tag ≡ None → member_tagged tag (x ∷ xs) ≡ member_tagged tag xs
  no_tag is = rw is refl

  this_tag : (k : ℕ) → x.tag ≡ Some k → nat_eq tag k ≡ true → member_tagged tag (x ∷ xs) ≡ Some x
  this_tag k is test = this_of tag xs x.name x.kind x.tag k is test

  other_tag : (k : ℕ) → x.tag ≡ Some k → nat_eq tag k ≡ false → member_tagged tag (x ∷ xs) ≡ member_tagged tag xs
  other_tag k is test = rw (is, test) refl

same_tag : (a b : Option ℕ) (k l : ℕ) → a ≡ Some k → b ≡ Some l → k ≡ l → a ≡ b
same_tag a b k l is it same = is ∙ ap (λ (n : ℕ). Some n) same ∙ sym it

tagged_test : (b : Bool) (k tag : ℕ) (x : Member) (xs : List Member) (m : Member) → x.tag ≡ Some k → nat_eq tag k ≡ b → member_tagged tag (x ∷ xs) ≡ Some m
    → (member_tagged tag xs ≡ Some m → In m xs × (m.tag ≡ Some tag)) → In m (x ∷ xs) × (m.tag ≡ Some tag)
tagged_test true k tag x xs m is test e later =
    let same : x ≡ m = same_Some x m (sym (this_tag tag x xs k is test) ∙ e) in
    (inl (sym same), ap (λ (y : Member). y.tag) (sym same) ∙ is ∙ ap (λ (n : ℕ). Some n) (sym (eqb-true tag k test)))
tagged_test false k tag x xs m is test e later = let rest = later (sym (other_tag tag x xs k is test) ∙ e) in (inr rest.0, rest.1)

tagged_at : (o : Option ℕ) (tag : ℕ) (x : Member) (xs : List Member) (m : Member) → x.tag ≡ o → member_tagged tag (x ∷ xs) ≡ Some m
    → (member_tagged tag xs ≡ Some m → In m xs × (m.tag ≡ Some tag)) → In m (x ∷ xs) × (m.tag ≡ Some tag)
tagged_at None tag x xs m is e later = let rest = later (sym (no_tag tag x xs is) ∙ e) in (inr rest.0, rest.1)
tagged_at (Some k) tag x xs m is e later = tagged_test (nat_eq tag k) k tag x xs m is refl e later

tagged_in : (tag : ℕ) (ms : List Member) (m : Member) → member_tagged tag ms ≡ Some m → In m ms × (m.tag ≡ Some tag)
tagged_in tag [] m e = absurd (none-some m e)
tagged_in tag (x ∷ xs) m e = tagged_at x.tag tag x xs m refl e (tagged_in tag xs m)

-- no two members have the same tag
abbrev pub ApartTags : List Member → Type 0
ApartTags [] = Unit {0}
ApartTags (x ∷ xs) = ((m : Member) (k : ℕ) → In m xs → x.tag ≡ Some k → m.tag ≡ Some k → ⊥) × ApartTags xs

pub tags_none : (x : Member) (xs : List Member) → x.tag ≡ None → tags_of (x ∷ xs) ≡ tags_of xs
tags_none x xs is = rw is refl

pub tags_some : (x : Member) (xs : List Member) (k : ℕ) → x.tag ≡ Some k → tags_of (x ∷ xs) ≡ k ∷ tags_of xs
tags_some x xs k is = rw is refl

abbrev Differs : ℕ → ℕ → Type 0
Differs n other = other ≢ n

tag_new_at : (o : Option ℕ) (before : List ℕ) (x : Member) (xs : List Member) (k : ℕ) → x.tag ≡ o → ((n : ℕ) → All (Differs n) before → k ≢ n) → DifferFrom before (tags_of (x ∷ xs))
    → ((after : List ℕ) → ((n : ℕ) → All (Differs n) after → k ≢ n) → DifferFrom after (tags_of xs) → (m : Member) → In m xs → m.tag ≡ Some k → ⊥) → (m : Member) → In m (x ∷ xs) → m.tag ≡ Some k → ⊥
tag_new_at None before x xs k is has differ later m (inl same) it = none-some k (sym is ∙ ap (λ (y : Member). y.tag) (sym same) ∙ it)
tag_new_at None before x xs k is has differ later m (inr in_it) it = later before has (subst (DifferFrom before) (tags_none x xs is) differ) m in_it it
tag_new_at (Some n) before x xs k is has differ later m (inl same) it =
    let parts = subst (DifferFrom before) (tags_some x xs n is) differ in
    has n parts.0 (same_Some k n (sym it ∙ ap (λ (y : Member). y.tag) same ∙ is))
tag_new_at (Some n) before x xs k is has differ later m (inr in_it) it =
    let parts = subst (DifferFrom before) (tags_some x xs n is) differ in
    later (n ∷ before) (λ y free. has y (All-tail (Differs y) n before free)) parts.1 m in_it it

tag_new : (before : List ℕ) (ms : List Member) (k : ℕ) → ((n : ℕ) → All (Differs n) before → k ≢ n) → DifferFrom before (tags_of ms) → (m : Member) → In m ms → m.tag ≡ Some k → ⊥
tag_new before [] k has differ m in_it is = absurd in_it
tag_new before (x ∷ xs) k has differ m in_it is = tag_new_at x.tag before x xs k refl has differ (λ after h d. tag_new after xs k h d) m in_it is

tags_apart_at : (o : Option ℕ) (before : List ℕ) (x : Member) (xs : List Member) → x.tag ≡ o → DifferFrom before (tags_of (x ∷ xs)) → ((after : List ℕ) → DifferFrom after (tags_of xs) → ApartTags xs) → ApartTags (x ∷ xs)
tags_apart_at None before x xs is differ later = (λ m k in_it a b. none-some k (sym is ∙ a), later before (subst (DifferFrom before) (tags_none x xs is) differ))
tags_apart_at (Some n) before x xs is differ later =
    let parts = subst (DifferFrom before) (tags_some x xs n is) differ in (
      λ m k in_it a b. tag_new (n ∷ before) xs n (λ y free same. All-head (Differs y) n before free same) parts.1 m in_it (b ∙ sym a ∙ is),
      later (n ∷ before) parts.1,
    )

pub tags_apart : (before : List ℕ) (ms : List Member) → DifferFrom before (tags_of ms) → ApartTags ms
tags_apart before [] differ = tt
tags_apart before (x ∷ xs) differ = tags_apart_at x.tag before x xs refl differ (λ after d. tags_apart after xs d)

own_test : (b : Bool) (k tag : ℕ) (x : Member) (xs : List Member) (m : Member) → x.tag ≡ Some k → nat_eq tag k ≡ b → ApartTags (x ∷ xs) → In m xs → m.tag ≡ Some tag → member_tagged tag xs ≡ Some m → member_tagged tag (x ∷ xs) ≡ Some m
own_test true k tag x xs m is test apart later it found = absurd (apart.0 m tag later (is ∙ ap (λ (n : ℕ). Some n) (sym (eqb-true tag k test))) it)
own_test false k tag x xs m is test apart later it found = other_tag tag x xs k is test ∙ found

own_at : (o : Option ℕ) (tag : ℕ) (x : Member) (xs : List Member) (m : Member) → x.tag ≡ o → ApartTags (x ∷ xs) → In m xs → m.tag ≡ Some tag → member_tagged tag xs ≡ Some m → member_tagged tag (x ∷ xs) ≡ Some m
own_at None tag x xs m is apart later it found = no_tag tag x xs is ∙ found
own_at (Some k) tag x xs m is apart later it found = own_test (nat_eq tag k) k tag x xs m is refl apart later it found

pub tagged_own : (tag : ℕ) (ms : List Member) (m : Member) → ApartTags ms → In m ms → m.tag ≡ Some tag → member_tagged tag ms ≡ Some m
tagged_own tag [] m apart in_it is = absurd in_it
tagged_own tag (x ∷ xs) m apart (inl same) is = this_tag tag x xs tag (ap (λ (y : Member). y.tag) (sym same) ∙ is) (eq-eqb tag tag refl) ∙ ap (λ (y : Member). Some y) (sym same)
tagged_own tag (x ∷ xs) m apart (inr later) is = own_at x.tag tag x xs m refl apart later is (tagged_own tag xs m apart.1 later is)

-- ---- values by tag

abbrev pub value_tagged : ℕ → Present → Option Tree
value_tagged k [] = None
value_tagged k (o ∷ os) = cond (nat_eq k o.0) (Some o.1) (value_tagged k os)

abbrev pub value_for : Option ℕ → Present → Option Tree
value_for None ps = None
value_for (Some k) ps = value_tagged k ps

-- each tag is above this one
abbrev pub Above : ℕ → Present → Type 0
Above k [] = Unit {0}
Above k (o ∷ os) = (k < o.0) × Above k os

abbrev pub Rising : Present → Type 0
Rising [] = Unit {0}
Rising (o ∷ os) = Above o.0 os × Rising os

pub none_above : (k : ℕ) (ps : Present) → Above k ps → value_tagged k ps ≡ None
none_above k [] above = refl
none_above k (o ∷ os) above =
    let other : nat_eq k o.0 ≡ false = ne_eqb k o.0 (λ e. absurd (omega (arith, above.0, e))) in
    rw other (none_above k os above.1)

abbrev or_else : {A : Type 0} → Option A → Option A → Option A
or_else None y = y
or_else (Some x) y = Some x

module _ (write : TypeRef → Write) (os : List Member) where
  member_unknown : (name : List ℕ) (r : Option Member) (v : Tree) (f : json.Members) → ((m : Member) → r ≡ Some m → name ≢ m.name) → get_member name (put_member write r v f) ≡ get_member name f
  member_unknown name None v f other = refl
  member_unknown name (Some m) v f other = get_member-put_other name m.name (write m.kind v) f (other m refl)

  -- what stands at a name of no optional member stays there
  pub unknown : (name : List ℕ) (ps : Present) (f : json.Members) → ((k : ℕ) (m : Member) → member_tagged k os ≡ Some m → name ≢ m.name) → get_member name (options_noted write f os ps) ≡ get_member name f
  unknown name [] f other = refl
  unknown name (o ∷ ps) f other = unknown name ps (put_member write (member_tagged o.0 os) o.1 f) other ∙ member_unknown name (member_tagged o.0 os) o.1 f (other o.0)

  module _ (apart : AreApart (names_of os)) (tags : ApartTags os) (m : Member) (in_it : In m os) where
    got_at : (b : Bool) (k : ℕ) (o : ℕ × Tree) (ps : Present) (f : json.Members) → m.tag ≡ Some k → nat_eq k o.0 ≡ b → Above o.0 ps
        → get_member m.name (options_noted write (put_member write (member_tagged o.0 os) o.1 f) os ps) ≡ or_else (option_map (write m.kind) (value_tagged k ps)) (get_member m.name (put_member write (member_tagged o.0 os) o.1 f))
        → get_member m.name (options_noted write f os (o ∷ ps)) ≡ or_else (option_map (write m.kind) (cond b (Some o.1) (value_tagged k ps))) (get_member m.name f)
    got_at true k o ps f is test above later =
        let same = eqb-true k o.0 test in
        let none_left : value_tagged k ps ≡ None = ap (λ (n : ℕ). value_tagged n ps) same ∙ none_above o.0 ps above in
        let found : member_tagged o.0 os ≡ Some m = tagged_own o.0 os m tags in_it (is ∙ ap (λ (n : ℕ). Some n) same) in
        let here : get_member m.name (put_member write (member_tagged o.0 os) o.1 f) ≡ Some (write m.kind o.1) = rw found (get_member-put m.name (write m.kind o.1) f) in
        later ∙ rw none_left here
    got_at false k o ps f is test above later =
        let other = λ (x : Member) (e : member_tagged o.0 os ≡ Some x). names_differ os m x apart in_it (tagged_in o.0 os x e).0
        (λ same. different k o.0 test (same_Some k o.0 (sym is ∙ same ∙ (tagged_in o.0 os x e).1))) in
        later ∙ ap (or_else (option_map (write m.kind) (value_tagged k ps))) (member_unknown m.name (member_tagged o.0 os) o.1 f other)
      where
        different : (k l : ℕ) → nat_eq k l ≡ false → k ≡ l → ⊥
        different k l test e = clash (nat_eq k l) (eq-eqb k l e) test
          where
            clash : (b : Bool) → b ≡ true → b ≡ false → ⊥
            clash b p q = absurd cc

    -- at a member's name its value stands, where it is present
    got : (k : ℕ) (ps : Present) (f : json.Members) → m.tag ≡ Some k → Rising ps → get_member m.name (options_noted write f os ps) ≡ or_else (option_map (write m.kind) (value_tagged k ps)) (get_member m.name f)
    got k [] f is rising = refl
    got k (o ∷ ps) f is rising = got_at (nat_eq k o.0) k o ps f is refl rising.0 (got k ps (put_member write (member_tagged o.0 os) o.1 f) is rising.1)

    got_by : (t : Option ℕ) (ps : Present) (f : json.Members) → m.tag ≡ t → Rising ps → get_member m.name f ≡ None → get_member m.name (options_noted write f os ps) ≡ option_map (write m.kind) (value_for t ps)
    got_by None ps f is rising lacks = unknown m.name ps f (λ k x e. names_differ os m x apart in_it (tagged_in k os x e).0 (λ same. none-some k (sym is ∙ same ∙ (tagged_in k os x e).1))) ∙ lacks
    got_by (Some k) ps f is rising lacks = got k ps f is rising ∙ rw lacks (plain (option_map (write m.kind) (value_tagged k ps)))
      where
        plain : (x : Option Data) → or_else x None ≡ x
        plain None = refl
        plain (Some y) = refl

-- ---- a value put at its place

later_above : (k l : ℕ) (ps : Present) → k < l → Above l ps → Above k ps
later_above k l [] lt above = tt
later_above k l (o ∷ ps) lt above = (omega (arith, lt, above.0), later_above k l ps lt above.1)

put_above_at : (r : Ordering) (l k : ℕ) (v : Tree) (o : ℕ × Tree) (ps : Present) → l < k → Above l (o ∷ ps) → Above l (put_at k v ps) → Above l (match_ordering r ((k, v) ∷ o ∷ ps) ((o.0, v) ∷ ps) (o ∷ put_at k v ps))
put_above_at Less l k v o ps lt above later = (lt, above)
put_above_at Equal l k v o ps lt above later = above
put_above_at Greater l k v o ps lt above later = (above.0, later)

put_above : (l k : ℕ) (v : Tree) (ps : Present) → l < k → Above l ps → Above l (put_at k v ps)
put_above l k v [] lt above = (lt, tt)
put_above l k v (o ∷ ps) lt above = put_above_at (nat_cmp k o.0) l k v o ps lt above (put_above l k v ps lt above.1)

put_rises_at : (r : Ordering) (k : ℕ) (v : Tree) (o : ℕ × Tree) (ps : Present) → MatchOrdering r (k < o.0) (k ≡ o.0) (o.0 < k) → Rising (o ∷ ps) → Rising (put_at k v ps) → Rising (match_ordering r ((k, v) ∷ o ∷ ps) ((o.0, v) ∷ ps) (o ∷ put_at k v ps))
put_rises_at Less k v o ps is rising later = ((is, later_above k o.0 ps is rising.0), rising)
put_rises_at Equal k v o ps is rising later = rising
put_rises_at Greater k v o ps is rising later = (put_above o.0 k v ps is rising.0, later)

pub put_rises : (k : ℕ) (v : Tree) (ps : Present) → Rising ps → Rising (put_at k v ps)
put_rises k v [] rising = (tt, tt)
put_rises k v (o ∷ ps) rising = put_rises_at (nat_cmp k o.0) k v o ps (ranked k o.0 (nat_cmp k o.0) refl) rising (put_rises k v ps rising.1)

-- one number, or two
apart_numbers : (k l : ℕ) → k ≢ l → nat_eq k l ≡ false
apart_numbers k l other = ne_eqb k l other

put_found_at : (r : Ordering) (k : ℕ) (v : Tree) (o : ℕ × Tree) (ps : Present) → MatchOrdering r (k < o.0) (k ≡ o.0) (o.0 < k) → value_tagged k (put_at k v ps) ≡ Some v
    → value_tagged k (match_ordering r ((k, v) ∷ o ∷ ps) ((o.0, v) ∷ ps) (o ∷ put_at k v ps)) ≡ Some v
put_found_at Less k v o ps is later = rw (eq-eqb k k refl) refl
put_found_at Equal k v o ps is later = rw (eq-eqb k o.0 is) refl
put_found_at Greater k v o ps is later = rw (apart_numbers k o.0 (λ e. absurd (omega (arith, is, e)))) later

pub put_found : (k : ℕ) (v : Tree) (ps : Present) → value_tagged k (put_at k v ps) ≡ Some v
put_found k v [] = rw (eq-eqb k k refl) refl
put_found k v (o ∷ ps) = put_found_at (nat_cmp k o.0) k v o ps (ranked k o.0 (nat_cmp k o.0) refl) (put_found k v ps)

put_others_at : (r : Ordering) (q k : ℕ) (v : Tree) (o : ℕ × Tree) (ps : Present) → MatchOrdering r (k < o.0) (k ≡ o.0) (o.0 < k) → nat_eq q k ≡ false → value_tagged q (put_at k v ps) ≡ value_tagged q ps
    → value_tagged q (match_ordering r ((k, v) ∷ o ∷ ps) ((o.0, v) ∷ ps) (o ∷ put_at k v ps)) ≡ value_tagged q (o ∷ ps)
put_others_at Less q k v o ps is other later = rw other refl
put_others_at Equal q k v o ps is other later = let here : nat_eq q o.0 ≡ false = ap (nat_eq q) (sym is) ∙ other in rw here refl
put_others_at Greater q k v o ps is other later = ap (cond (nat_eq q o.0) (Some o.1)) later

pub put_others : (q k : ℕ) (v : Tree) (ps : Present) → nat_eq q k ≡ false → value_tagged q (put_at k v ps) ≡ value_tagged q ps
put_others q k v [] other = rw other refl
put_others q k v (o ∷ ps) other = put_others_at (nat_cmp k o.0) q k v o ps (ranked k o.0 (nat_cmp k o.0) refl) other (put_others q k v ps other)

-- ---- values in rising order are told by what stands at each tag

pub stands : (o : ℕ × Tree) (ps : Present) → value_tagged o.0 (o ∷ ps) ≡ Some o.1
stands o ps = rw (eq-eqb o.0 o.0 refl) refl

pub passes : (q : ℕ) (o : ℕ × Tree) (ps : Present) → nat_eq q o.0 ≡ false → value_tagged q (o ∷ ps) ≡ value_tagged q ps
passes q o ps other = rw other refl

abbrev SameAt : Present → Present → Type 0
SameAt as' bs = (q : ℕ) → value_tagged q as' ≡ value_tagged q bs

-- no value of the first tag stands in the other
less_apart : (o p : ℕ × Tree) (as' bs : Present) → o.0 < p.0 → Rising (p ∷ bs) → SameAt (o ∷ as') (p ∷ bs) → ⊥
less_apart o p as' bs lt rising same =
    let other : nat_eq o.0 p.0 ≡ false = ne_eqb o.0 p.0 (λ e. absurd (omega (arith, lt, e))) in
    none-some o.1 (sym (passes o.0 p bs other ∙ none_above o.0 bs (later_above o.0 p.0 bs lt rising.0)) ∙ sym (same o.0) ∙ stands o as')

tails_at : (b : Bool) (q : ℕ) (o p : ℕ × Tree) (as' bs : Present) → nat_eq q o.0 ≡ b → o.0 ≡ p.0 → Rising (o ∷ as') → Rising (p ∷ bs) → SameAt (o ∷ as') (p ∷ bs) → value_tagged q as' ≡ value_tagged q bs
tails_at true q o p as' bs test is rising up same =
    let here = eqb-true q o.0 test in
    ap (λ (n : ℕ). value_tagged n as') here ∙ none_above o.0 as' rising.0 ∙ sym (ap (λ (n : ℕ). value_tagged n bs) (here ∙ is) ∙ none_above p.0 bs up.0)
tails_at false q o p as' bs test is rising up same = sym (passes q o as' test) ∙ same q ∙ passes q p bs (ap (nat_eq q) (sym is) ∙ test)

told_by_at : (r : Ordering) (o p : ℕ × Tree) (as' bs : Present) → MatchOrdering r (o.0 < p.0) (o.0 ≡ p.0) (p.0 < o.0) → Rising (o ∷ as') → Rising (p ∷ bs) → SameAt (o ∷ as') (p ∷ bs)
    → (SameAt as' bs → as' ≡ bs) → (o ∷ as') ≡ (p ∷ bs)
told_by_at Less o p as' bs is rising up same later = absurd (less_apart o p as' bs is up same)
told_by_at Equal o p as' bs is rising up same later =
    let value : o.1 ≡ p.1 = same_Some o.1 p.1 (sym (stands o as') ∙ same o.0 ∙ ap (λ (n : ℕ). value_tagged n (p ∷ bs)) is ∙ stands p bs) in
    let rest = later (λ q. tails_at (nat_eq q o.0) q o p as' bs refl is rising up same) in
    ap (λ (n : ℕ). (n, o.1) ∷ as') is ∙ ap (λ (v : Tree). (p.0, v) ∷ as') value ∙ ap (λ (l : Present). p ∷ l) rest
told_by_at Greater o p as' bs is rising up same later = absurd (less_apart p o bs as' is rising (λ q. sym (same q)))

told_by : (as' bs : Present) → Rising as' → Rising bs → SameAt as' bs → as' ≡ bs
told_by [] [] rising up same = refl
told_by [] (p ∷ bs) rising up same = absurd (none-some p.1 (sym (sym (same p.0)) ∙ stands p bs))
told_by (o ∷ as') [] rising up same = absurd (none-some o.1 (sym (same o.0) ∙ stands o as'))
told_by (o ∷ as') (p ∷ bs) rising up same = told_by_at (nat_cmp o.0 p.0) o p as' bs (ranked o.0 p.0 (nat_cmp o.0 p.0) refl) rising up same (told_by as' bs rising.1 up.1)

-- ---- the values, put at their places member by member

abbrev add : Option ℕ → Option Tree → Present → Present
add None v before = before
add (Some k) None before = before
add (Some k) (Some v) before = put_at k v before

abbrev selected : List Member → Present → Present → Present
selected [] ps before = before
selected (m ∷ ms) ps before = selected ms ps (add m.tag (value_for m.tag ps) before)

module _ (One : TypeRef → Noting Tree) (write : TypeRef → Write) (found : json.Members) (ps : Present) where
  option_noted : (m : Member) (before : Present) (t : Option ℕ) (r : Option Tree) → m.tag ≡ t → value_for t ps ≡ r → get_member m.name found ≡ option_map (write m.kind) r → ((v : Tree) → r ≡ Some v → One m.kind (write m.kind v) v) → NotesOption One m found before (add t r before)
  option_noted m before None r is here there one = inl (there ∙ ap (option_map (write m.kind)) (sym here), refl)
  option_noted m before (Some k) None is here there one = inl (there, refl)
  option_noted m before (Some k) (Some v) is here there one = inr (write m.kind v, k, v, there, is, one v refl, refl)

  all_noted : (ms : List Member) (before : Present) → ((m : Member) → In m ms → get_member m.name found ≡ option_map (write m.kind) (value_for m.tag ps)) → ((m : Member) (v : Tree) → In m ms → value_for m.tag ps ≡ Some v → One m.kind (write m.kind v) v)
      → NotesOptions One ms found before (selected ms ps before)
  all_noted [] before there one = refl
  all_noted (m ∷ ms) before there one = (
    add m.tag (value_for m.tag ps) before,
    option_noted m before m.tag (value_for m.tag ps) refl refl (there m (inl refl)) (λ v e. one m v (inl refl) e),
    all_noted ms (add m.tag (value_for m.tag ps) before) (λ x in_it. there x (inr in_it)) (λ x v in_it e. one x v (inr in_it) e),
  )

-- ---- and so all of them

-- some of the members has this tag
abbrev Has : ℕ → List Member → Type 0
Has q ms = (m : Member) × In m ms × (m.tag ≡ Some q)

module _ (q : ℕ) (ps : Present) where
  -- what stands at a tag so far: what is to stand there, or nothing while its member is still to come
  abbrev SoFar : List Member → Present → Type 0
  SoFar ms before = (value_tagged q before ≡ value_tagged q ps) ⊎ ((value_tagged q before ≡ None) × Has q ms)

  step_same : (m : Member) (ms : List Member) (before : Present) (k : ℕ) (r : Option Tree) → q ≡ k → value_tagged k ps ≡ r → SoFar (m ∷ ms) before → SoFar ms (add (Some k) r before)
  step_same m ms before k None same here (inl e) = inl e
  step_same m ms before k None same here (inr h) = inl (h.0 ∙ sym (ap (λ (n : ℕ). value_tagged n ps) same ∙ here))
  step_same m ms before k (Some v) same here h = inl (ap (λ (n : ℕ). value_tagged n (put_at k v before)) same ∙ put_found k v before ∙ sym (ap (λ (n : ℕ). value_tagged n ps) same ∙ here))

  unknown_at : (before : Present) (k : ℕ) (r : Option Tree) → nat_eq q k ≡ false → value_tagged q (add (Some k) r before) ≡ value_tagged q before
  unknown_at before k None other = refl
  unknown_at before k (Some v) other = put_others q k v before other

  step_other : (m : Member) (ms : List Member) (before : Present) (k : ℕ) (r : Option Tree) → m.tag ≡ Some k → nat_eq q k ≡ false → SoFar (m ∷ ms) before → SoFar ms (add (Some k) r before)
  step_other m ms before k r is other (inl e) = inl (unknown_at before k r other ∙ e)
  step_other m ms before k r is other (inr (n, (x, inl same, it))) = absurd (clash (nat_eq q k) (eq-eqb q k (same_Some q k (sym it ∙ ap (λ (y : Member). y.tag) same ∙ is))) other)
    where
      clash : (b : Bool) → b ≡ true → b ≡ false → ⊥
      clash b p r' = absurd cc
  step_other m ms before k r is other (inr (n, (x, inr later, it))) = inr (unknown_at before k r other ∙ n, (x, later, it))

  step_test : (b : Bool) (m : Member) (ms : List Member) (before : Present) (k : ℕ) → m.tag ≡ Some k → nat_eq q k ≡ b → SoFar (m ∷ ms) before → SoFar ms (add (Some k) (value_tagged k ps) before)
  step_test true m ms before k is test h = step_same m ms before k (value_tagged k ps) (eqb-true q k test) refl h
  step_test false m ms before k is test h = step_other m ms before k (value_tagged k ps) is test h

  step_at : (t : Option ℕ) (m : Member) (ms : List Member) (before : Present) → m.tag ≡ t → SoFar (m ∷ ms) before → SoFar ms (add t (value_for t ps) before)
  step_at None m ms before is (inl e) = inl e
  step_at None m ms before is (inr (n, (x, inl same, it))) = absurd (none-some q (sym is ∙ ap (λ (y : Member). y.tag) (sym same) ∙ it))
  step_at None m ms before is (inr (n, (x, inr later, it))) = inr (n, (x, later, it))
  step_at (Some k) m ms before is h = step_test (nat_eq q k) m ms before k is refl h

  all_stand : (ms : List Member) (before : Present) → SoFar ms before → value_tagged q (selected ms ps before) ≡ value_tagged q ps
  all_stand [] before (inl e) = e
  all_stand [] before (inr h) = absurd h.1.1
  all_stand (m ∷ ms) before h = all_stand ms (add m.tag (value_for m.tag ps) before) (step_at m.tag m ms before refl h)

add_rises : (t : Option ℕ) (r : Option Tree) (before : Present) → Rising before → Rising (add t r before)
add_rises None r before rising = rising
add_rises (Some k) None before rising = rising
add_rises (Some k) (Some v) before rising = put_rises k v before rising

selected_rise : (ms : List Member) (ps before : Present) → Rising before → Rising (selected ms ps before)
selected_rise [] ps before rising = rising
selected_rise (m ∷ ms) ps before rising = selected_rise ms ps (add m.tag (value_for m.tag ps) before) (add_rises m.tag (value_for m.tag ps) before rising)

-- each value's tag is that of a member
abbrev pub AreKnown : List Member → Present → Type 0
AreKnown ms [] = Unit {0}
AreKnown ms (o ∷ ps) = Has o.0 ms × AreKnown ms ps

known_has_at : (b : Bool) (q : ℕ) (ms : List Member) (o : ℕ × Tree) (ps : Present) (v : Tree) → nat_eq q o.0 ≡ b → cond b (Some o.1) (value_tagged q ps) ≡ Some v → AreKnown ms (o ∷ ps) → (value_tagged q ps ≡ Some v → Has q ms) → Has q ms
known_has_at true q ms o ps v test e known later = (known.0.0, known.0.1, known.0.2 ∙ ap (λ (n : ℕ). Some n) (sym (eqb-true q o.0 test)))
known_has_at false q ms o ps v test e known later = later e

known_has : (q : ℕ) (ms : List Member) (ps : Present) (v : Tree) → AreKnown ms ps → value_tagged q ps ≡ Some v → Has q ms
known_has q ms [] v known e = absurd (none-some v e)
known_has q ms (o ∷ ps) v known e = known_has_at (nat_eq q o.0) q ms o ps v refl e known (known_has q ms ps v known.1)

begins : (q : ℕ) (ms : List Member) (ps : Present) (r : Option Tree) → value_tagged q ps ≡ r → AreKnown ms ps → SoFar q ps ms []
begins q ms ps None here known = inl (sym here)
begins q ms ps (Some v) here known = inr (refl, known_has q ms ps v known here)

pub selected_all : (ms : List Member) (ps : Present) → Rising ps → AreKnown ms ps → selected ms ps [] ≡ ps
selected_all ms ps rising known = told_by (selected ms ps []) ps (selected_rise ms ps [] tt) rising (λ q. all_stand q ps ms [] (begins q ms ps (value_tagged q ps) refl known))

-- ---- what a content tells of its values

kind_at : (o : Option ℕ) (b : Bool) (tag : ℕ) (x : Member) (xs : List Member) → x.tag ≡ o → ((k : ℕ) → o ≡ Some k → nat_eq tag k ≡ b) → kind_tagged tag xs ≡ option_map (λ (m : Member). m.kind) (member_tagged tag xs)
    → kind_tagged tag (x ∷ xs) ≡ option_map (λ (m : Member). m.kind) (member_tagged tag (x ∷ xs))
kind_at None b tag x xs is test later = kind_none ∙ later ∙ sym (ap (option_map (λ (m : Member). m.kind)) (no_tag tag x xs is))
  where
    kind_none : kind_tagged tag (x ∷ xs) ≡ kind_tagged tag xs
    kind_none = rw is refl
kind_at (Some k) true tag x xs is test later = kind_here ∙ sym (ap (option_map (λ (m : Member). m.kind)) (this_tag tag x xs k is (test k refl)))
  where
    kind_here : kind_tagged tag (x ∷ xs) ≡ Some x.kind
    kind_here = rw (is, test k refl) refl
kind_at (Some k) false tag x xs is test later = kind_later ∙ later ∙ sym (ap (option_map (λ (m : Member). m.kind)) (other_tag tag x xs k is (test k refl)))
  where
    kind_later : kind_tagged tag (x ∷ xs) ≡ kind_tagged tag xs
    kind_later = rw (is, test k refl) refl

test_of : (o : Option ℕ) (tag : ℕ) → (b : Bool) × ((k : ℕ) → o ≡ Some k → nat_eq tag k ≡ b)
test_of None tag = (true, λ k e. absurd (none-some k e))
test_of (Some n) tag = (nat_eq tag n, λ k e. ap (nat_eq tag) (sym (same_Some n k e)))

pub kind_is : (tag : ℕ) (ms : List Member) → kind_tagged tag ms ≡ option_map (λ (m : Member). m.kind) (member_tagged tag ms)
kind_is tag [] = refl
kind_is tag (x ∷ xs) = let test = test_of x.tag tag in kind_at x.tag test.0 tag x xs refl test.1 (kind_is tag xs)

found_member : (r : Option Member) (kind : TypeRef) → option_map (λ (m : Member). m.kind) r ≡ Some kind → (m : Member) × (r ≡ Some m) × (m.kind ≡ kind)
found_member None kind e = absurd (none-some kind e)
found_member (Some m) kind e = (m, refl, same_Some m.kind kind e)

module _ (t : Tables) (Refer : Refers) (ms : List Member) where
  above_of : (last : ℕ) (ps : Present) → AreOptions t Refer ms (Some last) ps → Above last ps
  above_of last [] h = tt
  above_of last (o ∷ ps) h = let lt = ltb-true last o.0 h.0 in (lt, later_above last o.0 ps lt (above_of o.0 ps h.5))

  rising_of : (last : Option ℕ) (ps : Present) → AreOptions t Refer ms last ps → Rising ps
  rising_of last [] h = tt
  rising_of last (o ∷ ps) h = (above_of o.0 ps h.5, rising_of (Some o.0) ps h.5)

  known_of : (last : Option ℕ) (ps : Present) → AreOptions t Refer ms last ps → AreKnown ms ps
  known_of last [] h = tt
  known_of last (o ∷ ps) h =
      let m = found_member (member_tagged o.0 ms) h.2 (sym (kind_is o.0 ms) ∙ h.3) in
      let there = tagged_in o.0 ms m.0 m.1 in
      ((m.0, there.0, there.1), known_of (Some o.0) ps h.5)

-- ---- names of both lists

in_right : (m : Member) (ms os : List Member) → In m os → In m (ms ++ os)
in_right m [] os in_it = in_it
in_right m (x ∷ xs) os in_it = inr (in_right m xs os in_it)

cross : (ms os : List Member) (m : Member) → AreApart (names_of (ms ++ os)) → In m os → LacksName m.name (names_of ms)
cross [] os m apart in_it = tt
cross (x ∷ xs) os m apart in_it = (λ e. lacks_in x.name (xs ++ os) m apart.0 (in_right m xs os in_it) (sym e), cross xs os m apart.1 in_it)

lacks_left : (name : List ℕ) (ms os : List Member) → LacksName name (names_of (ms ++ os)) → LacksName name (names_of ms)
lacks_left name [] os lacks = tt
lacks_left name (x ∷ xs) os lacks = (lacks.0, lacks_left name xs os lacks.1)

apart_left : (ms os : List Member) → AreApart (names_of (ms ++ os)) → AreApart (names_of ms)
apart_left [] os apart = tt
apart_left (x ∷ xs) os apart = (lacks_left x.name xs os apart.0, apart_left xs os apart.1)

apart_right : (ms os : List Member) → AreApart (names_of (ms ++ os)) → AreApart (names_of os)
apart_right [] os apart = apart
apart_right (x ∷ xs) os apart = apart_right xs os apart.1

-- what notes members does so wherever the same stands at their names
agree : (One : TypeRef → Noting Tree) (ms : List Member) (f g : json.Members) (vs : Trees) → ((m : Member) → In m ms → get_member m.name g ≡ get_member m.name f) → NotesMembers One ms f vs → NotesMembers One ms g vs
agree One [] f g vs same h = h
agree One (m ∷ ms) f g vs same h = (h.0, h.1, h.2, h.3, same m (inl refl) ∙ h.4, h.5, agree One ms f g h.2 (λ x in_it. same x (inr in_it)) h.6)

all_count : (Of : TypeRef → Tree → Type 0) (ms : List Member) (vs : Trees) → EachOf Of (map (λ m. m.kind) ms) vs → tree_count vs ≡ length ms
all_count Of [] vs h = rw h refl
all_count Of (m ∷ ms) vs h = rw h.2 (ap suc (all_count Of ms h.1 h.4))

-- ---- how many names there are

module _ (write : TypeRef → Write) (os : List Member) (apart : AreApart (names_of os)) (tags : ApartTags os) where
  -- nothing stands yet at the names of those that are present
  abbrev Fresh : json.Members → Present → Type 0
  Fresh f ps = (k : ℕ) (v : Tree) (m : Member) → value_tagged k ps ≡ Some v → member_tagged k os ≡ Some m → get_member m.name f ≡ None

  fresh_next : (o : ℕ × Tree) (ps : Present) (f : json.Members) (x : Member) → member_tagged o.0 os ≡ Some x → Above o.0 ps → Fresh f (o ∷ ps) → Fresh (put x.name (write x.kind o.1) f) ps
  fresh_next o ps f x is above fresh k v m here found =
      let other : k ≢ o.0 = λ e. none-some v (sym (none_above o.0 ps above) ∙ ap (λ (n : ℕ). value_tagged n ps) (sym e) ∙ here) in
      let differ : m.name ≢ x.name = names_differ os m x apart (tagged_in k os m found).0 (tagged_in o.0 os x is).0 (λ e. other (same_Some k o.0 (sym (tagged_in k os m found).1 ∙ e ∙ (tagged_in o.0 os x is).1))) in
      get_member-put_other m.name x.name (write x.kind o.1) f differ ∙ fresh k v m (passes k o ps (ne_eqb k o.0 other) ∙ here) found

  options_count : (ps : Present) (f : json.Members) → Rising ps → AreKnown os ps → Fresh f ps → members_len (options_noted write f os ps) ≡ members_len f + length ps
  options_count [] f rising known fresh = omega arith
  options_count (o ∷ ps) f rising known fresh =
      let x = known.0.0 in
      let is = tagged_own o.0 os x tags known.0.1 known.0.2 in
      let one = put_count x.name (write x.kind o.1) f (fresh o.0 o.1 x (stands o ps) is) in
      let rest = options_count ps (put x.name (write x.kind o.1) f) rising.1 known.1 (fresh_next o ps f x is rising.0 fresh) in
      rw is (rest ∙ omega (arith, one))

-- ---- a value that is present

module _ (t : Tables) (Refer : Refers) (ms : List Member) (tags : ApartTags ms) where
  own_kind : (k : ℕ) (m : Member) (kind : TypeRef) → In m ms → m.tag ≡ Some k → kind_tagged k ms ≡ Some kind → kind ≡ m.kind
  own_kind k m kind in_it is e = same_Some kind m.kind (sym e ∙ kind_is k ms ∙ ap (option_map (λ (x : Member). x.kind)) (tagged_own k ms m tags in_it is))

  present_at : (b : Bool) (o : ℕ × Tree) (ps : Present) (k : ℕ) (v : Tree) (m : Member) (kind : TypeRef) → nat_eq k o.0 ≡ b → cond b (Some o.1) (value_tagged k ps) ≡ Some v → In m ms → m.tag ≡ Some k
      → kind_tagged o.0 ms ≡ Some kind → HasType t Refer MOST_DEPTH kind o.1 → HasShortTexts o.1 → (value_tagged k ps ≡ Some v → HasType t Refer MOST_DEPTH m.kind v × HasShortTexts v) → HasType t Refer MOST_DEPTH m.kind v × HasShortTexts v
  present_at true o ps k v m kind test e in_it is own h short later =
      let value : o.1 ≡ v = same_Some o.1 v e in
      let same = own_kind o.0 m kind in_it (is ∙ ap (λ (n : ℕ). Some n) (eqb-true k o.0 test)) own in
      (subst (λ (w : Tree). HasType t Refer MOST_DEPTH m.kind w) value (subst (λ (x : TypeRef). HasType t Refer MOST_DEPTH x o.1) same h), subst HasShortTexts value short)
  present_at false o ps k v m kind test e in_it is own h short later = later e

  present_typed : (last : Option ℕ) (ps : Present) (k : ℕ) (v : Tree) (m : Member) → AreOptions t Refer ms last ps → AreShort ps → value_tagged k ps ≡ Some v → In m ms → m.tag ≡ Some k → HasType t Refer MOST_DEPTH m.kind v × HasShortTexts v
  present_typed last [] k v m h short e in_it is = absurd (none-some v e)
  present_typed last (o ∷ ps) k v m h short e in_it is =
      present_at (nat_eq k o.0) o ps k v m h.2 refl e in_it is h.3 h.4 short.0 (λ later. present_typed (Some o.0) ps k v m h.5 short.1 later in_it is)

  by_tag : (ps : Present) (m : Member) (o : Option ℕ) (v : Tree) → m.tag ≡ o → AreOptions t Refer ms None ps → AreShort ps → value_for o ps ≡ Some v → In m ms → HasType t Refer MOST_DEPTH m.kind v × HasShortTexts v
  by_tag ps m None v is h short e in_it = absurd (none-some v e)
  by_tag ps m (Some k) v is h short e in_it = present_typed None ps k v m h short e in_it is

-- ---- the whole

module _ (t : Tables) (rules : IsSchema t) (Refer : Refers) (sizes : AreSizes Refer) (shape : Shape) (apart : AreApart (names_of (shape.required ++ shape.optional))) (tags : ApartTags shape.optional)
    (c : Members) (typed : AreMembers t Refer shape c) (required_short : InEach IsShort c.required) (optional_short : AreShort c.optional) where
  names : AreApart (names_of shape.optional)
  names = apart_right shape.required shape.optional apart

  absent : (m : Member) → In m shape.optional → get_member m.name (members_noted (notation t) no_members shape.required c.required) ≡ None
  absent m in_it = stays (notation t) m.name no_members shape.required c.required (cross shape.required shape.optional m apart in_it)

  pub content_canon : NotesContent t shape (content_noted t shape c) c
  content_canon =
      let write = notation t in
      let start = members_noted write no_members shape.required c.required in
      let found = options_noted write start shape.optional c.optional in
      let one = λ (kind : TypeRef) (v : Tree) (h : HasType t Refer MOST_DEPTH kind v) (short : HasShortTexts v). referring_canon t rules Refer sizes kind v h short in
      let left = apart_left shape.required shape.optional apart in
      let rising = rising_of t Refer shape.optional None c.optional typed.optional in
      let known = known_of t Refer shape.optional None c.optional typed.optional in
      let required = members_canon (HasType t Refer MOST_DEPTH) write (Notes t) one no_members shape.required c.required typed.required left required_short in
      let same = λ (m : Member) (in_it : In m shape.required). unknown write shape.optional m.name c.optional start
      (λ k x e same. lacks_in x.name shape.required m (cross shape.required shape.optional x apart (tagged_in k shape.optional x e).0) in_it (sym same)) in
      let there = λ (m : Member) (in_it : In m shape.optional). got_by write shape.optional names tags m in_it m.tag c.optional start refl rising (absent m in_it) in
      let each = λ (m : Member) (v : Tree) (in_it : In m shape.optional) (e : value_for m.tag c.optional ≡ Some v).
      let h = by_tag t Refer shape.optional tags c.optional m m.tag v refl typed.optional optional_short e in_it in one m.kind v h.0 h.1 in
      let options : NotesOptions (Notes t) shape.optional found [] c.optional =
      subst (NotesOptions (Notes t) shape.optional found []) (selected_all shape.optional c.optional rising known) (all_noted (Notes t) write found c.optional shape.optional [] there each) in
      let more = options_count write shape.optional names tags c.optional start rising known (λ k v m e is. absent m (tagged_in k shape.optional m is).0) in
      let few = members_count (HasType t Refer MOST_DEPTH) write no_members shape.required c.required typed.required left (all_new shape.required) in
      let all = all_count (HasType t Refer MOST_DEPTH) shape.required c.required typed.required in
      (found, refl, agree (Notes t) shape.required start found c.required same required, options, omega (arith, more, few, all))

pub own_canon : (t : Tables) (shape : Shape) (c : Members) → IsSchema t → HasOwnNames shape → AreMembers t by_size shape c → ContentIsShort c → NotesContent t shape (content_noted t shape c) c
own_canon t shape c rules own typed short =
    content_canon t rules by_size (λ declared n small. small) shape (are_apart [] (names_of (shape.required ++ shape.optional)) own.names) (tags_apart [] shape.optional own.tags.1) c typed short.0 short.1
