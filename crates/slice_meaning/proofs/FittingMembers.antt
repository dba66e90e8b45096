-- What has no fault may be added to the schema: exceptions and classes.
use Rattle.std.proofs.Common.{◌≡◌, ℕ, zero, suc, ◌≤◌, ◌+◌, Bool, true, false, not, List, [], ◌∷◌, ◌++◌, map, Option, Some, None, Result, Ok, Err, refl, sym, ap, ◌∙◌, subst, arith}
use Rattle.std.specs.Prelude.{All, IsTrue, flat_map, slice_get, ◌||◌}
use Rattle.std.specs.Bool.{nat_eq}
use Rattle.std.specs.List.{list_any}
use Rattle.std.proofs.lemmas.Bool.{eq-eqb, eqb-true}
use Rattle.std.proofs.lemmas.List.Elements.{All-nil, All-cons}
use Rattle.slice_syntax.specs.declared.tree.Word.{Word}
use Rattle.slice_syntax.specs.declared.tree.Path.{Path}
use Rattle.slice_syntax.specs.declared.tree.Constant.{Constant}
use Rattle.slice_syntax.specs.declared.tree.Field.{Field}
use Rattle.slice_syntax.specs.declared.tree.Item.TheVariants as items
use Rattle.ice_types.specs.declared.kind.TypeRef.{TypeRef}
use Rattle.ice_types.specs.declared.declarations.ClassDecl.{ClassDecl}
use Rattle.ice_types.specs.declared.declarations.Member.{Member}
use Rattle.ice_types.specs.Tables.{is_defined}
use Rattle.ice_types.specs.Fits.{IsOf, AreOf, NumbersFit, MembersFit, ClassBaseFits, ClassFits, CompactIdFits, ExceptionBaseFits, ExceptionFits, names_of, tags_of}
use Rattle.slice_meaning.specs.declared.fault.CheckKind.{CheckKind}
use Rattle.slice_meaning.specs.declared.fault.CheckKind.TheVariants as rows
use Rattle.slice_meaning.specs.declared.fault.Fault.{Fault}
use Rattle.slice_meaning.specs.Known.{Known, with_class_name}
use Rattle.slice_meaning.specs.Uses.{type_of, class_named, exception_of}
use Rattle.slice_meaning.specs.Values.{number_of}
use Rattle.slice_meaning.specs.Clashes.{new_name, reopened_name, second_names, is_class}
use Rattle.slice_meaning.specs.Members.{has_number, new_number, with_number, numbers_of, compact_faults, compact_of, tag_faults, field_faults, fields_faults, tag_of, members_of, with_field}
use Rattle.slice_meaning.specs.Faults.{faults, as_class_base, class_base_faults, exception_base_faults}
use Rattle.slice_meaning.specs.After.{meant, base_at}
use Rattle.slice_meaning.specs.Rows.{KnowsRows}
use Rattle.slice_meaning.proofs.NoFaults.{both_none, test_off}
use Rattle.slice_meaning.proofs.Counting.{count, is_number, differ, number_more, are_new}
use Rattle.slice_meaning.proofs.Fitting.{number_within, new_off, fields_new}
use Rattle.slice_meaning.proofs.KnownNames.{type_row, exception_row}
use Rattle.slice_meaning.proofs.Shapes.{Within}

-- ---- types

field_of : (k : Known) → KnowsRows k → (f : Field) (r : Result TypeRef CheckKind) (members : List Member) → ((kind : TypeRef) → r ≡ Ok kind → IsOf k.tables kind) → AreOf k.tables members → AreOf k.tables (with_field k f r members)
field_of k knows f (Err row) members is h = h
field_of k knows f (Ok kind) members is h = All-cons (λ (m : Member). IsOf k.tables m.kind) (record { name = f.word.name; kind = kind; tag = tag_of k f.tag }) members (is kind refl) h

-- each member's type is one of the tables
pub members_are_of : (k : Known) → KnowsRows k → (fields : List Field) → AreOf k.tables (members_of k fields)
members_are_of k knows [] = All-nil (λ (m : Member). IsOf k.tables m.kind)
members_are_of k knows (f ∷ fields) = field_of k knows f (type_of k f.kind) (members_of k fields) (type_row k knows f.kind) (members_are_of k knows fields)

-- ---- tags

-- the numbers of tags
abbrev pub numbers_in : Known → List (Option Constant) → List ℕ
numbers_in k [] = []
numbers_in k (None ∷ tags) = numbers_in k tags
numbers_in k (Some c ∷ tags) = with_number (number_of k rows.BadTag c) (numbers_in k tags)

-- tags without faults differ, after some
pub tags_apart : (q : ℕ) (k : Known) (before : List ℕ) (tags : List (Option Constant)) → tag_faults k before tags ≡ [] → count (is_number q) before ≤ 1 → count (is_number q) before + count (is_number q) (numbers_in k tags) ≤ 1
tags_apart q k before [] h le = omega (arith, le)
tags_apart q k before (None ∷ tags) h le = tags_apart q k before tags h le
tags_apart q k before (Some c ∷ tags) h le =
    let r = number_of k rows.BadTag c in
    let parts = both_none (new_number rows.BadTag c.place before r) (tag_faults k (with_number r before) tags) h in
    let new = new_off rows.BadTag c.place before r parts.0 in
    by_number r new.0 new.1 new.2 (tags_apart q k (with_number r before) tags parts.1)
  where
    by_number : (r : Result ℕ CheckKind) (n : ℕ) → r ≡ Ok n → has_number before n ≡ false
        → (count (is_number q) (with_number r before) ≤ 1 → count (is_number q) (with_number r before) + count (is_number q) (numbers_in k tags) ≤ 1)
        → count (is_number q) before + count (is_number q) (with_number r (numbers_in k tags)) ≤ 1
    by_number (Err row) n is fresh rest = absurd cc
    by_number (Ok m) n is fresh rest =
        let same : m ≡ n = cc in
        let more = rest (number_more q m before (subst (λ (x : ℕ). has_number before x ≡ false) (sym same) fresh) le) in
        omega (arith, more)

-- a member's tag is that of its field
tag_count : (q : ℕ) (k : Known) (f : Field) (tag : Option Constant) (r : Result TypeRef CheckKind) (members : List Member) → f.tag ≡ tag
    → count (is_number q) (tags_of (with_field k f r members)) ≤ count (is_number q) (numbers_in k (tag ∷ [])) + count (is_number q) (tags_of members)
tag_count q k f tag (Err row) members is = omega arith
tag_count q k f tag (Ok kind) members is = by_tag (f.tag) is
  where
    by_number : (r : Result ℕ CheckKind) → count (is_number q) (tags_of (record { name = f.word.name; kind = kind; tag = elim r as (λ _. Option ℕ) [ Err row ↦ None | Ok n ↦ Some n ] } ∷ members))
        ≤ count (is_number q) (with_number r []) + count (is_number q) (tags_of members)
    by_number (Err row) = omega arith
    by_number (Ok n) = omega arith

    by_tag : (found : Option Constant) → found ≡ tag → count (is_number q) (tags_of (record { name = f.word.name; kind = kind; tag = tag_of k found } ∷ members)) ≤ count (is_number q) (numbers_in k (tag ∷ [])) + count (is_number q) (tags_of members)
    by_tag None is = omega arith
    by_tag (Some c) is = subst (λ (t : Option Constant). count (is_number q) (tags_of (record { name = f.word.name; kind = kind; tag = tag_of k (Some c) } ∷ members)) ≤ count (is_number q) (numbers_in k (t ∷ [])) + count (is_number q) (tags_of members))
        is (by_number (number_of k rows.BadTag c))

pub numbers_more : (q : ℕ) (k : Known) (tag : Option Constant) (tags : List (Option Constant)) → count (is_number q) (numbers_in k (tag ∷ tags)) ≡ count (is_number q) (numbers_in k (tag ∷ [])) + count (is_number q) (numbers_in k tags)
numbers_more q k None tags = omega arith
numbers_more q k (Some c) tags = by_number (number_of k rows.BadTag c)
  where
    by_number : (r : Result ℕ CheckKind) → count (is_number q) (with_number r (numbers_in k tags)) ≡ count (is_number q) (with_number r []) + count (is_number q) (numbers_in k tags)
    by_number (Err row) = omega arith
    by_number (Ok n) = omega arith

-- no more members than fields have a tag
pub tags_count : (q : ℕ) (k : Known) (fields : List Field) → count (is_number q) (tags_of (members_of k fields)) ≤ count (is_number q) (numbers_in k (map (λ f. f.tag) fields))
tags_count q k [] = omega arith
tags_count q k (f ∷ fields) =
    let first = tag_count q k f f.tag (type_of k f.kind) (members_of k fields) refl in
    let rest = tags_count q k fields in
    let more = numbers_more q k f.tag (map (λ f. f.tag) fields) in
    omega (arith, first, rest, more)

tag_within : (k : Known) (f : Field) (r : Result TypeRef CheckKind) (members : List Member) → All Within (tags_of members) → All Within (tags_of (with_field k f r members))
tag_within k f (Err row) members h = h
tag_within k f (Ok kind) members h = by_tag f.tag
  where
    by_number : (c : Constant) (r : Result ℕ CheckKind) → number_of k rows.BadTag c ≡ r → All Within (tags_of (record { name = f.word.name; kind = kind; tag = elim r as (λ _. Option ℕ) [ Err row ↦ None | Ok n ↦ Some n ] } ∷ members))
    by_number c (Err row) is = h
    by_number c (Ok n) is = All-cons Within n (tags_of members) (number_within k rows.BadTag c n is) h

    by_tag : (found : Option Constant) → All Within (tags_of (record { name = f.word.name; kind = kind; tag = tag_of k found } ∷ members))
    by_tag None = h
    by_tag (Some c) = by_number c (number_of k rows.BadTag c) refl

pub tags_within : (k : Known) (fields : List Field) → All Within (tags_of (members_of k fields))
tags_within k [] = All-nil Within
tags_within k (f ∷ fields) = tag_within k f (type_of k f.kind) (members_of k fields) (tags_within k fields)

-- ---- members of one definition

pub members_fit : (k : Known) (fields : List Field) → KnowsRows k → fields_faults k fields ≡ [] → MembersFit k.tables (members_of k fields)
members_fit k fields knows h =
    let tags : List Fault = tag_faults k [] (map (λ f. f.tag) fields) in
    let types : List Fault = flat_map (field_faults k) fields in
    let names : List Fault = second_names [] (map (λ f. f.word) fields) in
    let a = both_none tags (types ++ names) h in
    let b = both_none types names a.1 in
    let numbers : NumbersFit (tags_of (members_of k fields)) = (
      tags_within k fields,
      differ [] (tags_of (members_of k fields)) (λ q. let n : count (is_number q) [] + count (is_number q) (numbers_in k (map (λ f. f.tag) fields)) ≤ 1 = tags_apart q k [] (map (λ f. f.tag) fields) a.0 (omega arith) in let le = tags_count q k fields in omega (arith, n, le)),
    ) in
    (members_are_of k knows fields, are_new [] (names_of (members_of k fields)) (λ q. let n = fields_new k fields b.1 q in omega (arith, n)), numbers)

exception_base_fits : (k : Known) → KnowsRows k → (base : Option Path) → ExceptionBaseFits k.tables (base_at (exception_of k) base)
exception_base_fits k knows None = tt
exception_base_fits k knows (Some path) = by_meaning (exception_of k path) refl
  where
    by_meaning : (r : Result ℕ CheckKind) → exception_of k path ≡ r → ExceptionBaseFits k.tables (meant r)
    by_meaning (Err row) is = tt
    by_meaning (Ok at) is = exception_row k knows path at is

pub exception_fits : (k : Known) (word : Word) (base : Option Path) (fields : List Field) → KnowsRows k → faults k (items.Exception word base fields) ≡ []
    → ExceptionFits k.tables (base_at (exception_of k) base) (members_of k fields)
exception_fits k word base fields knows h =
    let a = both_none (new_name k word) (exception_base_faults k base ++ fields_faults k fields) h in
    let b = both_none (exception_base_faults k base) (fields_faults k fields) a.1 in
    (exception_base_fits k knows base, members_fit k fields knows b.1)

class_base_fits : (k : Known) (base : Option Path) → class_base_faults k base ≡ [] → ClassBaseFits k.tables (base_at (class_named k) base)
class_base_fits k None h = tt
class_base_fits k (Some path) h = by_meaning (class_named k path) h
  where
    by_flag : (b : Bool) → not b ≡ false → IsTrue b
    by_flag true h = refl
    by_flag false h = absurd cc

    by_meaning : (r : Result ℕ CheckKind) → as_class_base k path.place r ≡ [] → ClassBaseFits k.tables (meant r)
    by_meaning (Err row) h = absurd cc
    by_meaning (Ok at) h = by_flag (is_defined k.tables.defined_classes at) (test_off (not (is_defined k.tables.defined_classes at)) path.place rows.BadBase h)

-- ---- compact ids

-- the compact id of a class is among those that classes have
pub number_among : (classes : List ClassDecl) (n at : ℕ) → slice_get (map (λ (c : ClassDecl). c.compact) classes) at ≡ Some (Some n) → has_number (numbers_of classes) n ≡ true
number_among [] n at e = absurd cc
number_among (c ∷ cs) n zero e = by_compact c.compact (some_is c.compact e)
  where
    some_is : (o : Option ℕ) → Some o ≡ Some (Some n) → o ≡ Some n
    some_is o e = cc

    by_compact : (o : Option ℕ) → o ≡ Some n → has_number (elim o [ None ↦ numbers_of cs | Some m ↦ m ∷ numbers_of cs ]) n ≡ true
    by_compact None e = absurd cc
    by_compact (Some m) e = let same : m ≡ n = cc in ap (λ (b : Bool). b || list_any (nat_eq n) (numbers_of cs)) (eq-eqb n m (sym same))
number_among (c ∷ cs) n (suc at) e = by_compact (number_among cs n at e) c.compact
  where
    by_compact : has_number (numbers_of cs) n ≡ true → (o : Option ℕ) → has_number (elim o [ None ↦ numbers_of cs | Some m ↦ m ∷ numbers_of cs ]) n ≡ true
    by_compact later None = later
    by_compact later (Some m) = or_second (nat_eq n m) (list_any (nat_eq n) (numbers_of cs)) later
      where
        or_second : (a b : Bool) → b ≡ true → (a || b) ≡ true
        or_second true b e = refl
        or_second false b e = e

-- what is among those of the classes behind the first is among all
abbrev Further : List ClassDecl → ClassDecl → ℕ → Type 0
Further cs c n = has_number (numbers_of cs) n ≡ true → (at : ℕ) × (slice_get (map (λ (c : ClassDecl). c.compact) (c ∷ cs)) at ≡ Some (Some n))

-- and each of those is one of a class
pub number_at : (classes : List ClassDecl) (n : ℕ) → has_number (numbers_of classes) n ≡ true → (at : ℕ) × (slice_get (map (λ (c : ClassDecl). c.compact) classes) at ≡ Some (Some n))
number_at [] n e = absurd cc
number_at (c ∷ cs) n e = by_compact (λ h. let later = number_at cs n h in (suc later.0, later.1)) c.compact refl e
  where
    by_test : Further cs c n → (m : ℕ) (b : Bool) → c.compact ≡ Some m → nat_eq n m ≡ b → (b || list_any (nat_eq n) (numbers_of cs)) ≡ true → (at : ℕ) × (slice_get (map (λ (c : ClassDecl). c.compact) (c ∷ cs)) at ≡ Some (Some n))
    by_test further m true is same e = (0, ap Some is ∙ ap (λ (k : ℕ). Some (Some k)) (sym (eqb-true n m same)))
    by_test further m false is differ e = further e

    by_compact : Further cs c n → (o : Option ℕ) → c.compact ≡ o → has_number (elim o [ None ↦ numbers_of cs | Some m ↦ m ∷ numbers_of cs ]) n ≡ true → (at : ℕ) × (slice_get (map (λ (c : ClassDecl). c.compact) (c ∷ cs)) at ≡ Some (Some n))
    by_compact further None is e = further e
    by_compact further (Some m) is e = by_test further m (nat_eq n m) is refl e

compact_id_fits : (k : Known) (compact : Option Constant) → compact_faults k compact ≡ [] → CompactIdFits k.tables (compact_of k compact)
compact_id_fits k None h = tt
compact_id_fits k (Some c) h =
    let new = new_off rows.BadCompactId c.place (numbers_of k.tables.classes) (number_of k rows.BadCompactId c) h in
    by_number (number_of k rows.BadCompactId c) new.0 new.1 (number_within k rows.BadCompactId c new.0 new.1) new.2
  where
    clash : (b : Bool) → b ≡ true → b ≡ false → ⊥
    clash b p q = cc

    by_number : (r : Result ℕ CheckKind) (n : ℕ) → r ≡ Ok n → n ≤ 2147483647 → has_number (numbers_of k.tables.classes) n ≡ false → CompactIdFits k.tables (elim r [ Err row ↦ None | Ok n ↦ Some n ])
    by_number (Err row) n e le lacks = absurd cc
    by_number (Ok m) n e le lacks =
        let same : m ≡ n = cc in (
          subst (λ (k : ℕ). k ≤ 2147483647) (sym same) le,
          λ at has. clash (has_number (numbers_of k.tables.classes) m) (number_among k.tables.classes m at has) (ap (has_number (numbers_of k.tables.classes)) same ∙ lacks),
        )

pub compact_fits : (k : Known) (word : Word) (compact : Option Constant) (base : Option Path) (fields : List Field) → faults k (items.Class word compact base (Some fields)) ≡ []
    → CompactIdFits (with_class_name k word).tables (compact_of (with_class_name k word) compact)
compact_fits k word compact base fields h =
    let inner : Known = with_class_name k word in
    let a = both_none (reopened_name k (is_class k true) word) (compact_faults inner compact ++ (class_base_faults inner base ++ fields_faults inner fields)) h in
    let b = both_none (compact_faults inner compact) (class_base_faults inner base ++ fields_faults inner fields) a.1 in
    compact_id_fits inner compact b.0

pub class_fits : (k : Known) (word : Word) (compact : Option Constant) (base : Option Path) (fields : List Field) → KnowsRows (with_class_name k word) → faults k (items.Class word compact base (Some fields)) ≡ []
    → ClassFits (with_class_name k word).tables (base_at (class_named (with_class_name k word)) base) (members_of (with_class_name k word) fields)
class_fits k word compact base fields knows h =
    let inner : Known = with_class_name k word in
    let a = both_none (reopened_name k (is_class k true) word) (compact_faults inner compact ++ (class_base_faults inner base ++ fields_faults inner fields)) h in
    let b = both_none (compact_faults inner compact) (class_base_faults inner base ++ fields_faults inner fields) a.1 in
    let c = both_none (class_base_faults inner base) (fields_faults inner fields) b.1 in
    (class_base_fits inner base c.0, members_fit inner fields knows c.1)
