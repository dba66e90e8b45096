-- The members of a class of a schema can be told apart by name and by tag.
use Rattle.std.proofs.Common.{ap, ◌≡◌, ◌≢◌, ◌^◌, ◌<◌, ◌≤◌, ℕ, Bool, true, false, cond, List, [], ◌∷◌, ◌++◌, Option, Some, None, refl, sym, ◌∙◌, subst, inl, inr, arith}
use Rattle.std.specs.Prelude.{All, slice_get}
use Rattle.std.specs.List.{filter}
use Rattle.std.specs.Option.{is_none, is_some}
use Rattle.std.proofs.lemmas.Option.{none-some, same_Some}
use Rattle.std.proofs.lemmas.List.Elements.{All-head, All-tail}
use Rattle.ice_types.specs.declared.declarations.Member.{Member}
use Rattle.ice_types.specs.declared.declarations.Shape.{Shape}
use Rattle.ice_types.specs.declared.declarations.ClassDecl.{ClassDecl}
use Rattle.ice_types.specs.declared.schema.TheConstants.{MOST_NUMBER}
use Rattle.ice_types.specs.Fits.{names_of, tags_of, DifferFrom, MembersFit}
use Rattle.ice_types.specs.Tables.{Tables}
use Rattle.ice_types.specs.Rules.{IsSchema}
use Rattle.ice_encoding.specs.OptionalMembers.{shape_of}
use Rattle.ice_encoding.specs.Classes.{members_in, own_members}
use Rattle.graph_json.proofs.ContentCanon.{In, ApartTags}
use Rattle.graph_json.proofs.Names.{LacksName, AreApart, are_apart}
use Rattle.graph_json.proofs.Tagged.{Each, each_moves, lacks_each, LacksTag, HaveTags}

-- ---- some of the members

each_both : (P Q : Member → Type 0) (ms : List Member) → Each P ms → Each Q ms → Each (λ m. P m × Q m) ms
each_both P Q [] p q = tt
each_both P Q (m ∷ ms) p q = ((p.0, q.0), each_both P Q ms p.1 q.1)

module _ (test : Member → Bool) where
  lacks_by : (name : List ℕ) (m : Member) (rest : List Member) (b : Bool) → name ≢ m.name → LacksName name (names_of rest) → LacksName name (names_of (cond b (m ∷ rest) rest))
  lacks_by name m rest true other lacks = (other, lacks)
  lacks_by name m rest false other lacks = lacks

  lacks_filtered : (name : List ℕ) (ms : List Member) → LacksName name (names_of ms) → LacksName name (names_of (filter test ms))
  lacks_filtered name [] lacks = tt
  lacks_filtered name (m ∷ ms) lacks = lacks_by name m (filter test ms) (test m) lacks.0 (lacks_filtered name ms lacks.1)

  apart_by : (m : Member) (rest : List Member) (b : Bool) → LacksName m.name (names_of rest) → AreApart (names_of rest) → AreApart (names_of (cond b (m ∷ rest) rest))
  apart_by m rest true lacks apart = (lacks, apart)
  apart_by m rest false lacks apart = apart

  apart_filtered : (ms : List Member) → AreApart (names_of ms) → AreApart (names_of (filter test ms))
  apart_filtered [] apart = tt
  apart_filtered (m ∷ ms) apart = apart_by m (filter test ms) (test m) (lacks_filtered m.name ms apart.0) (apart_filtered ms apart.1)

  each_by : (P : Member → Type 0) (m : Member) (rest : List Member) (b : Bool) → P m → Each P rest → Each P (cond b (m ∷ rest) rest)
  each_by P m rest true p all = (p, all)
  each_by P m rest false p all = all

  each_filtered : (P : Member → Type 0) (ms : List Member) → Each P ms → Each P (filter test ms)
  each_filtered P [] all = tt
  each_filtered P (m ∷ ms) all = each_by P m (filter test ms) (test m) all.0 (each_filtered P ms all.1)

-- ---- required members beside optional ones

-- the name of each is that of none of the others
abbrev AreBeside : List Member → List Member → Type 0
AreBeside ms others = Each (λ m. LacksName m.name (names_of others)) ms

beside_by : (x : Member) (a b : List Member) (o : Option ℕ) → LacksName x.name (names_of a) → LacksName x.name (names_of b) → AreBeside a b → AreBeside (cond (is_none o) (x ∷ a) a) (cond (is_some o) (x ∷ b) b)
beside_by x a b None first second h = (second, h)
beside_by x a b (Some tag) first second h =
    each_both (λ m. m.name ≢ x.name) (λ m. LacksName m.name (names_of b)) a (each_moves (λ m. x.name ≢ m.name) (λ m. m.name ≢ x.name) (λ m other e. other (sym e)) a (lacks_each x.name a first)) h

abbrev has_none : Member → Bool
has_none m = is_none m.tag

abbrev has_tag : Member → Bool
has_tag m = is_some m.tag

parted : (ms : List Member) → AreApart (names_of ms) → AreBeside (filter has_none ms) (filter has_tag ms)
parted [] apart = tt
parted (x ∷ ms) apart =
    beside_by x (filter has_none ms) (filter has_tag ms) x.tag (lacks_filtered has_none x.name ms apart.0) (lacks_filtered has_tag x.name ms apart.0) (parted ms apart.1)

-- ---- tags

abbrev LacksNumber : ℕ → List ℕ → Type 0
LacksNumber n [] = Unit {0}
LacksNumber n (k ∷ ks) = (n ≢ k) × LacksNumber n ks

abbrev AreDistinct : List ℕ → Type 0
AreDistinct [] = Unit {0}
AreDistinct (n ∷ ns) = LacksNumber n ns × AreDistinct ns

lacks_number : (n : ℕ) (before ns : List ℕ) → ((k : ℕ) → All (λ other. other ≢ k) before → n ≢ k) → DifferFrom before ns → LacksNumber n ns
lacks_number n before [] has differ = tt
lacks_number n before (k ∷ ks) has differ = (has k differ.0, lacks_number n (k ∷ before) ks (λ j all. has j (All-tail (λ other. other ≢ j) k before all)) differ.1)

are_distinct : (before ns : List ℕ) → DifferFrom before ns → AreDistinct ns
are_distinct before [] differ = tt
are_distinct before (n ∷ ns) differ = (lacks_number n (n ∷ before) ns (λ k all. All-head (λ other. other ≢ k) n before all) differ.1, are_distinct (n ∷ before) ns differ.1)

abbrev some : ℕ → Option ℕ
some n = Some n

lacks_tags_by : (n : ℕ) (x : Member) (ms : List Member) (o : Option ℕ) → x.tag ≡ o → LacksNumber n (elim o [ None ↦ tags_of ms | Some tag ↦ tag ∷ tags_of ms ]) → (x.tag ≢ Some n) × LacksNumber n (tags_of ms)
lacks_tags_by n x ms None is lacks = (λ e. none-some n (sym is ∙ e), lacks)
lacks_tags_by n x ms (Some tag) is lacks = (λ e. lacks.0 (same_Some n tag (sym e ∙ is)), lacks.1)

lacks_tags : (n : ℕ) (ms : List Member) → LacksNumber n (tags_of ms) → LacksTag n ms
lacks_tags n [] lacks = tt
lacks_tags n (x ∷ ms) lacks = let both = lacks_tags_by n x ms x.tag refl lacks in (both.0, lacks_tags n ms both.1)

tags_by : (x : Member) (ms : List Member) (o : Option ℕ) → x.tag ≡ o → AreDistinct (elim o [ None ↦ tags_of ms | Some tag ↦ tag ∷ tags_of ms ]) → (AreDistinct (tags_of ms) → HaveTags (filter has_tag ms)) → HaveTags (cond (is_some o) (x ∷ filter has_tag ms) (filter has_tag ms))
tags_by x ms None is distinct later = later distinct
tags_by x ms (Some tag) is distinct later = (tag, is, each_filtered has_tag (λ m. m.tag ≢ some tag) ms (lacks_tags tag ms distinct.0), later distinct.1)

tags_apart : (ms : List Member) → AreDistinct (tags_of ms) → HaveTags (filter has_tag ms)
tags_apart [] distinct = tt
tags_apart (x ∷ ms) distinct = tags_by x ms x.tag refl distinct (tags_apart ms)

-- tags that are no larger than a number may be
abbrev pub AreSmall : List Member → Type 0
AreSmall ms = Each (λ m. (tag : ℕ) → m.tag ≡ Some tag → tag < 2 ^ 31) ms

small_by : (x : Member) (ms : List Member) (o : Option ℕ) → x.tag ≡ o → All (λ n. n ≤ MOST_NUMBER) (elim o [ None ↦ tags_of ms | Some tag ↦ tag ∷ tags_of ms ]) → ((tag : ℕ) → x.tag ≡ Some tag → tag < 2 ^ 31) × All (λ n. n ≤ MOST_NUMBER) (tags_of ms)
small_by x ms None is all = ((λ tag e. absurd (none-some tag (sym is ∙ e))), all)
small_by x ms (Some k) is all =
    ((λ tag e. (let le = All-head (λ n. n ≤ MOST_NUMBER) k (tags_of ms) all in let same = same_Some k tag (sym is ∙ e) in omega (arith, le, same))), All-tail (λ n. n ≤ MOST_NUMBER) k (tags_of ms) all)

small_tags : (ms : List Member) → All (λ n. n ≤ MOST_NUMBER) (tags_of ms) → Each (λ m. (tag : ℕ) → m.tag ≡ Some tag → tag < 2 ^ 31) ms
small_tags [] all = tt
small_tags (x ∷ ms) all = let both = small_by x ms x.tag refl all in (both.0, small_tags ms both.1)

-- ---- together

lacks_append : (name : List ℕ) (ms os : List Member) → LacksName name (names_of ms) → LacksName name (names_of os) → LacksName name (names_of (ms ++ os))
lacks_append name [] os first second = second
lacks_append name (m ∷ ms) os first second = (first.0, lacks_append name ms os first.1 second)

apart_append : (ms os : List Member) → AreApart (names_of ms) → AreApart (names_of os) → AreBeside ms os → AreApart (names_of (ms ++ os))
apart_append [] os first second h = second
apart_append (m ∷ ms) os first second h = (lacks_append m.name ms os first.0 h.0, apart_append ms os first.1 second h.1)

lacks_in : (tag : ℕ) (ms : List Member) (m : Member) → LacksTag tag ms → In m ms → m.tag ≢ Some tag
lacks_in tag [] m lacks h = absurd h
lacks_in tag (x ∷ ms) m lacks (inl same) = subst (λ (y : Member). y.tag ≢ some tag) (sym same) lacks.0
lacks_in tag (x ∷ ms) m lacks (inr later) = lacks_in tag ms m lacks.1 later

own_apart : (ms : List Member) → HaveTags ms → ApartTags ms
own_apart [] tags = tt
own_apart (x ∷ ms) tags =
    ((λ m k there here it. lacks_in tags.0 ms m tags.2 there (it ∙ ap some (same_Some k tags.0 (sym here ∙ tags.1)))), own_apart ms tags.3)

-- names that differ, and tags of their own for the optional members
pub record Fits (shape : Shape) : Type 0 where
  pub names : AreApart (names_of (shape.required ++ shape.optional))
  pub apart : ApartTags shape.optional
  pub tags : HaveTags shape.optional
  pub small : AreSmall shape.optional

members_fit : (t : Tables) (ms : List Member) → MembersFit t ms → Fits (shape_of ms)
members_fit t ms fit =
    let apart = are_apart [] (names_of ms) fit.1 in
    let tags = tags_apart ms (are_distinct [] (tags_of ms) fit.2.1) in
    record {
      names = apart_append (filter has_none ms) (filter has_tag ms) (apart_filtered has_none ms apart) (apart_filtered has_tag ms apart) (parted ms apart);
      apart = own_apart (filter has_tag ms) tags;
      tags = tags;
      small = each_filtered has_tag (λ m. (tag : ℕ) → m.tag ≡ some tag → tag < 2 ^ 31) ms (small_tags ms fit.2.0);
    }

-- the members of a class itself
pub class_fits : (t : Tables) → IsSchema t → (class : ℕ) (d : ClassDecl) → slice_get t.classes class ≡ Some d → Fits (own_members t class)
class_fits t rules class d is = subst (λ (row : Option ClassDecl). Fits (shape_of (members_in row))) (sym is) (members_fit t d.members (rules.classes class d is).1)
