-- Declarations, one after the other.
use Rattle.std.proofs.Common.{◌≡◌, ℕ, ◌+◌, ◌≤◌, false, List, ◌∷◌, length, drop, Option, Some, None, Result, refl, sym, ap, ◌∙◌, subst}
use Rattle.std.specs.Option.{option_or, is_some}
use Rattle.slice_syntax.specs.declared.tree.Item.{Item}
use Rattle.slice_syntax.specs.declared.tree.File.{File}
use Rattle.ice_types.specs.Tables.{Tables}
use Rattle.slice_syntax.specs.Places.{Each}
use Rattle.slice_meaning.specs.declared.fault.Fault.{Fault}
use Rattle.slice_meaning.specs.Known.{Known}
use Rattle.slice_meaning.specs.Faults.{faults}
use Rattle.slice_meaning.specs.After.{after, after_all}
use Rattle.slice_meaning.specs.Meaning.{next_file}
use Rattle.slice_meaning.specs.Checking.{noted, broken, or_later, checked_from}
use Rattle.slice_faults.proofs.Noting.{drop_end}

-- what holds of each holds of those behind some, and of the first of them
pub each_next : {A : Type 0} (Holds : A → Type 0) (xs rest : List A) (x : A) → xs ≡ x ∷ rest → Each Holds xs → Holds x × Each Holds rest
each_next Holds xs rest x is h = subst (λ (l : List _). Each Holds l) is h

-- a declaration without a fault
pub broken_next : (k now : Known) (items : List Item) (i : ℕ) (item : Item) (all : Option Fault) → drop i items ≡ item ∷ drop (i + 1) items
    → noted None (faults k item) ≡ None → now ≡ after k item → broken k (drop i items) ≡ all → broken now (drop (i + 1) items) ≡ all
broken_next k now items i item all at none is so =
    ap (λ (x : Known). broken x (drop (i + 1) items)) is
    ∙ (sym (ap (λ (o : Option Fault). option_or o (broken (after k item) (drop (i + 1) items))) none) ∙ (sym (ap (broken k) at) ∙ so))

pub after_next : (k now : Known) (items : List Item) (i : ℕ) (item : Item) (all : Known) → drop i items ≡ item ∷ drop (i + 1) items
    → now ≡ after k item → after_all k (drop i items) ≡ all → after_all now (drop (i + 1) items) ≡ all
after_next k now items i item all at is so = ap (λ (x : Known). after_all x (drop (i + 1) items)) is ∙ (sym (ap (after_all k) at) ∙ so)

-- the first declaration with a fault
pub broken_here : (k : Known) (items : List Item) (i : ℕ) (item : Item) (fault : Fault) (found all : Option Fault) → drop i items ≡ item ∷ drop (i + 1) items
    → found ≡ noted None (faults k item) → found ≡ Some fault → broken k (drop i items) ≡ all → found ≡ all
broken_here k items i item fault found all at is some so =
    some ∙ (sym (ap (λ (o : Option Fault). option_or o (broken (after k item) (drop (i + 1) items))) (sym is ∙ some)) ∙ (sym (ap (broken k) at) ∙ so))

pub broken_end : (k : Known) (items : List Item) (i : ℕ) (all : Option Fault) → length items ≤ i → broken k (drop i items) ≡ all → None ≡ all
broken_end k items i all h so = sym (ap (broken k) (drop_end items i h)) ∙ so

pub after_end : (k : Known) (items : List Item) (i : ℕ) (all : Known) → length items ≤ i → after_all k (drop i items) ≡ all → k ≡ all
after_end k items i all h so = sym (ap (after_all k) (drop_end items i h)) ∙ so

-- a file without a fault
pub checked_next : (k now : Known) (files : List File) (i : ℕ) (file : File) (all : Result Tables (ℕ × Fault)) → drop i files ≡ file ∷ drop (i + 1) files
    → broken k file.items ≡ None → now ≡ next_file (after_all k file.items) → checked_from k (drop i files) ≡ all → checked_from now (drop (i + 1) files) ≡ all
checked_next k now files i file all at none is so =
    let rest = drop (i + 1) files in
    ap (λ (x : Known). checked_from x rest) is
    ∙ (sym (ap (λ (o : Option Fault). or_later k.file o (checked_from (next_file (after_all k file.items)) rest)) none) ∙ (sym (ap (checked_from k) at) ∙ so))

pub none_of : (o : Option Fault) → is_some o ≡ false → o ≡ None
none_of None h = refl
none_of (Some f) h = absurd cc
