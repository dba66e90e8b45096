-- The faults of a class, part by part.
use Rattle.std.proofs.Common.{◌≡◌, ℕ, refl, Bool, true, false, not, List, [], ◌++◌, length, Option, Some, None, sym, ap, ◌∙◌, subst}
use Rattle.std.specs.Option.{is_some}
use Rattle.slice_syntax.specs.declared.tree.Word.{Word}
use Rattle.slice_syntax.specs.declared.tree.Path.{Path}
use Rattle.slice_syntax.specs.declared.tree.Constant.{Constant}
use Rattle.slice_syntax.specs.declared.tree.Field.{Field}
use Rattle.slice_syntax.specs.declared.tree.Item.TheVariants as items
use Rattle.ice_types.specs.Tables.{Tables, Finds, HasCompactId, is_defined}
use Rattle.slice_meaning.specs.declared.fault.Fault.{Fault}
use Rattle.slice_meaning.specs.Known.{Known, standing_here, with_class_name}
use Rattle.slice_meaning.specs.Clashes.{reopened_name, is_class}
use Rattle.ice_types.specs.declared.declarations.Member.{Member}
use Rattle.ice_types.specs.Fits.{ClassFits, CompactIdFits}
use Rattle.slice_meaning.specs.Uses.{class_named}
use Rattle.slice_meaning.proofs.FittingMembers.{number_among, number_at}
use Rattle.slice_meaning.specs.Members.{has_number, numbers_of, compact_faults, compact_of, fields_faults, members_of}
use Rattle.slice_meaning.specs.Faults.{faults, class_base_faults}
use Rattle.slice_meaning.specs.After.{class_at, base_at}
use Rattle.slice_meaning.specs.Rows.{KnowsRows}
use Rattle.slice_meaning.specs.Checking.{noted}
use Rattle.slice_faults.proofs.Noting.{joined}
use Rattle.slice_faults.proofs.Free.{unfaulted, both_none}
use Rattle.slice_faults.proofs.Reopened.{IsOpen, class_open}

-- the name, then the compact id, the base and the members, once the class has its name
pub class_noted : (k m : Known) (word : Word) (compact : Option Constant) (base : Option Path) (fields slice : List Field) (before name number bases all : Option Fault) → before ≡ None → slice ≡ fields → m ≡ with_class_name k word
    → name ≡ noted before (reopened_name k (is_class k true) word) → number ≡ noted name (compact_faults m compact) → bases ≡ noted number (class_base_faults m base) → all ≡ noted bases (fields_faults m slice)
    → all ≡ noted None (faults k (items.Class word compact base (Some fields)))
class_noted k m word compact base fields slice before name number bases all start whole same a n b c =
    let inner : Known = with_class_name k word in
    joined None name all (reopened_name k (is_class k true) word) (compact_faults inner compact ++ (class_base_faults inner base ++ fields_faults inner fields))
    (a ∙ ap (λ o. noted o (reopened_name k (is_class k true) word)) start)
    (subst (λ (m : Known). all ≡ noted name (compact_faults m compact ++ (class_base_faults m base ++ fields_faults m fields))) same
    (joined name number all (compact_faults m compact) (class_base_faults m base ++ fields_faults m fields) n
    (joined number bases all (class_base_faults m base) (fields_faults m fields) b (c ∙ ap (λ l. noted bases (fields_faults m l)) whole))))

-- without a fault the class may be defined
pub class_ready : (k m : Known) (word : Word) (compact : Option Constant) (base : Option Path) (fields : List Field) (all : Option Fault) (none : Bool) → m ≡ with_class_name k word → KnowsRows m → (standing_here k word ≡ None → is_defined m.tables.defined_classes (class_at m word) ≡ false)
    → is_some all ≡ not none → none ≡ true → all ≡ noted None (faults k (items.Class word compact base (Some fields))) → IsOpen m.tables.defined_classes (class_at m word) (length m.tables.classes)
class_ready k m word compact base fields all none same knows fresh is h so =
    class_open k word m same (both_none (reopened_name k (is_class k true) word) _ (unfaulted all none (faults k (items.Class word compact base (Some fields))) is h so)).0 knows fresh

-- and what it holds fits
pub class_fits : (k m : Known) (word : Word) (compact : Option Constant) (base : Option Path) (fields slice : List Field) (all : Option Fault) (none : Bool) → slice ≡ fields → m ≡ with_class_name k word → KnowsRows m
    → (KnowsRows (with_class_name k word) → faults k (items.Class word compact base (Some fields)) ≡ [] → ClassFits (with_class_name k word).tables (base_at (class_named (with_class_name k word)) base) (members_of (with_class_name k word) fields))
    → is_some all ≡ not none → none ≡ true → all ≡ noted None (faults k (items.Class word compact base (Some fields))) → ClassFits m.tables (base_at (class_named m) base) (members_of m slice)
class_fits k m word compact base fields slice all none whole same knows law is h so =
    subst (λ (l : List Field). ClassFits m.tables (base_at (class_named m) base) (members_of m l)) (sym whole)
    (subst (λ (m : Known). ClassFits m.tables (base_at (class_named m) base) (members_of m fields)) (sym same)
    (law (subst KnowsRows same knows) (unfaulted all none (faults k (items.Class word compact base (Some fields))) is h so)))

-- and so does its compact id
pub compact_fits : (k m : Known) (word : Word) (compact : Option Constant) (base : Option Path) (fields : List Field) (all : Option Fault) (none : Bool) → m ≡ with_class_name k word
    → (faults k (items.Class word compact base (Some fields)) ≡ [] → CompactIdFits (with_class_name k word).tables (compact_of (with_class_name k word) compact))
    → is_some all ≡ not none → none ≡ true → all ≡ noted None (faults k (items.Class word compact base (Some fields))) → CompactIdFits m.tables (compact_of m compact)
compact_fits k m word compact base fields all none same law is h so =
    subst (λ (m : Known). CompactIdFits m.tables (compact_of m compact)) (sym same) (law (unfaulted all none (faults k (items.Class word compact base (Some fields))) is h so))

-- whether a number is that of a class, as a look-up tells
pub number_taken : (t : Tables) (n : ℕ) (found : Option ℕ) → Finds (HasCompactId t n) found → has_number (numbers_of t.classes) n ≡ is_some found
number_taken t n None nowhere = absent (has_number (numbers_of t.classes) n) refl
  where
    absent : (b : Bool) → has_number (numbers_of t.classes) n ≡ b → b ≡ false
    absent false e = refl
    absent true e = let has = number_at t.classes n e in absurd (nowhere has.0 has.1)
number_taken t n (Some at) has = number_among t.classes n at has

pub same_fits : (k : Known) (path : Option Path) (fields : List Field) (base : Option ℕ) (members : List Member) → base ≡ base_at (class_named k) path → members ≡ members_of k fields
    → ClassFits k.tables (base_at (class_named k) path) (members_of k fields) → ClassFits k.tables base members
same_fits k path fields base members b m fits =
    subst (λ (o : Option ℕ). ClassFits k.tables o members) (sym b) (subst (λ (ms : List Member). ClassFits k.tables (base_at (class_named k) path) ms) (sym m) fits)
