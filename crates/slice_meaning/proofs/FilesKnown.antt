-- Each declaration stands in one of the files.
use Rattle.std.proofs.Common.{◌≡◌, ℕ, zero, suc, ◌<◌, ◌≤◌, ◌+◌, Bool, true, false, List, [], ◌∷◌, length, Option, Some, None, Result, Ok, Err, ap, subst, inl, inr, arith, length-append}
use Rattle.std.specs.Prelude.{cond, filter, slice_index_or}
use Rattle.slice_syntax.specs.declared.tree.Word.{Word}
use Rattle.slice_syntax.specs.declared.tree.Path.{Path}
use Rattle.slice_syntax.specs.declared.tree.Constant.{Constant}
use Rattle.slice_syntax.specs.declared.tree.Field.{Field}
use Rattle.slice_syntax.specs.declared.tree.OpTree.{OpTree}
use Rattle.slice_syntax.specs.declared.tree.Item.{Item}
use Rattle.slice_syntax.specs.declared.tree.Item.TheVariants as items
use Rattle.slice_syntax.specs.declared.tree.File.{File}
use Rattle.slice_syntax.specs.Places.{Each}
use Rattle.slice_meaning.specs.declared.standing.Standing.{Standing}
use Rattle.slice_meaning.specs.declared.standing.Standing.TheVariants as standings
use Rattle.slice_meaning.specs.declared.standing.Value.{Value}
use Rattle.slice_meaning.specs.declared.fault.CheckKind.{CheckKind}
use Rattle.slice_meaning.specs.declared.fault.Fault.{Fault}
use Rattle.slice_meaning.specs.Names.{Scope, Declared}
use Rattle.slice_meaning.specs.Known.{Known, nothing_known, with_name, with_new_class, with_new_interface, with_class_name, with_interface_name, standing_here}
use Rattle.slice_meaning.specs.Values.{typed}
use Rattle.slice_meaning.specs.After.{after, after_all, kind_of, with_entries, with_enum_name, with_class_body, with_interface_body, enumerator}
use Rattle.slice_meaning.specs.Meaning.{CheckBreaks, is_undefined, after_files, next_file}
use Rattle.slice_meaning.proofs.Files.{file_after, file_after_all}

-- each declaration stands in a file before this one
abbrev Before : ℕ → List Declared → Type 0
Before n ds = Each (λ (d : Declared). d.file < n) ds

by_name : (n : ℕ) (k j : Known) (o : Option Standing) → Before n j.declared → Before n k.declared → Before n (elim o as (λ _. Known) [ None ↦ j | Some s ↦ k ]).declared
by_name n k j None a h = a
by_name n k j (Some s) a h = h

by_value : (n : ℕ) (k : Known) (word : Word) (r : Result Value CheckKind) → k.file < n → Before n k.declared → Before n (elim r as (λ _. Known) [ Err row ↦ k | Ok v ↦ with_name k word (standings.Value v) ]).declared
by_value n k word (Err row) lt h = h
by_value n k word (Ok v) lt h = (lt, h)

entries_before : (n file at : ℕ) (inside : Scope) (es : List (Word × Option Constant)) (ds : List Declared) → file < n → Before n ds → Before n (with_entries file at inside es ds)
entries_before n file at inside [] ds lt h = h
entries_before n file at inside (e ∷ es) ds lt h = entries_before n file at inside es (enumerator file at inside e.0 ∷ ds) lt (lt, h)

class_before : (n : ℕ) (k : Known) (word : Word) → k.file < n → Before n k.declared → Before n (with_class_name k word).declared
class_before n k word lt h = by_name n k (with_new_class k word) (standing_here k word) (lt, h) h

interface_before : (n : ℕ) (k : Known) (word : Word) → k.file < n → Before n k.declared → Before n (with_interface_name k word).declared
interface_before n k word lt h = by_name n k (with_new_interface k word) (standing_here k word) (lt, h) h

class_body : (n : ℕ) (k : Known) (word : Word) (compact : Option Constant) (base : Option Path) (fields : Option (List Field)) → Before n k.declared → Before n (with_class_body k word compact base fields).declared
class_body n k word compact base None h = h
class_body n k word compact base (Some fields) h = h

interface_body : (n : ℕ) (k : Known) (word : Word) (bases : List Path) (ops : Option (List OpTree)) → Before n k.declared → Before n (with_interface_body k word bases ops).declared
interface_body n k word bases None h = h
interface_body n k word bases (Some ops) h = h

after_before : (n : ℕ) (k : Known) (item : Item) → k.file < n → Before n k.declared → Before n (after k item).declared
after_before n k (items.Enter word) lt h = by_name n k (with_name k word standings.Module) (standing_here k word) (lt, h) h
after_before n k items.Exit lt h = h
after_before n k (items.Const kind word value) lt h = by_value n k word (typed k (kind_of k kind) value.value) lt h
after_before n k (items.Enum word entries) lt h = entries_before n k.file (length k.tables.enums) (word.name ∷ k.scope) entries (with_enum_name k word entries).declared lt (lt, h)
after_before n k (items.Struct word fields) lt h = (lt, h)
after_before n k (items.Seq word element) lt h = (lt, h)
after_before n k (items.Dict word key value) lt h = (lt, h)
after_before n k (items.Class word compact base fields) lt h = class_body n (with_class_name k word) word compact base fields (class_before n k word lt h)
after_before n k (items.Exception word base fields) lt h = (lt, h)
after_before n k (items.Interface word bases ops) lt h = interface_body n (with_interface_name k word) word bases ops (interface_before n k word lt h)

all_before : (n : ℕ) (k : Known) (is : List Item) → k.file < n → Before n k.declared → Before n (after_all k is).declared
all_before n k [] lt h = h
all_before n k (i ∷ is) lt h = all_before n (after k i) is (let e = file_after k i in omega (arith, e, lt)) (after_before n k i lt h)

files_before : (n : ℕ) (k : Known) (fs : List File) → k.file + length fs ≤ n → Before n k.declared → Before n (after_files k fs).declared
files_before n k [] le h = h
files_before n k (f ∷ fs) le h =
    let e = file_after_all k f.items in
    files_before n (next_file (after_all k f.items)) fs (omega (arith, e, le)) (all_before n k f.items (omega (arith, le)) h)

kept_before : (n : ℕ) (p : Declared → Bool) (ds : List Declared) → Before n ds → Before n (filter p ds)
kept_before n p [] h = tt
kept_before n p (d ∷ ds) h = by_test (p d) (kept_before n p ds h.1)
  where
    by_test : (b : Bool) → Before n (filter p ds) → Before n (cond b (d ∷ filter p ds) (filter p ds))
    by_test true rest = (h.0, rest)
    by_test false rest = rest

one_of : (n : ℕ) (ds : List Declared) (d : Declared) (k : ℕ) → k < length ds → slice_index_or ds k d ≡ d → Before n ds → d.file < n
one_of n [] d k lt e h = absurd (omega (arith, lt))
one_of n (x ∷ xs) d zero lt e h = subst (λ (y : Declared). y.file < n) e h.0
one_of n (x ∷ xs) d (suc k) lt e h = one_of n xs d k (omega (arith, lt)) e h.1

-- the first fault stands in one of the files
pub break_within : (files : List File) (at : ℕ) (fault : Fault) → CheckBreaks files at fault → at < length files
break_within files at fault (inl b) =
    let whole = ap length b.parts in
    let parts = length-append b.before (b.file ∷ b.behind) in
    let here = b.count in
    omega (arith, whole, parts, here)
break_within files at fault (inr l) =
    let all = files_before (length files) nothing_known files (omega arith) tt in
    let undefined_ones = kept_before (length files) (is_undefined (after_files nothing_known files).tables) (after_files nothing_known files).declared all in
    let lt = one_of (length files) _ l.class l.among.0 l.among.1 l.among.2 undefined_ones in
    let e = l.file in
    omega (arith, lt, e)
