-- A fault of the checker is in one of the files.
use Rattle.std.proofs.Common.{◌≡◌, ℕ, suc, ◌+◌, ◌<◌, ◌≤◌, List, [], ◌∷◌, length, Option, None, Some, Result, Ok, Err, refl, ap, subst, inl, inr, arith}
use Rattle.std.specs.List.{AllByRecursion}
use Rattle.std.proofs.lemmas.List.{length-append}
use Rattle.std.proofs.lemmas.List.Elements.{All-from_recursion, All-filter, All-contains}
use Rattle.slice_syntax.specs.declared.tree.Word.{Word}
use Rattle.slice_syntax.specs.declared.tree.Path.{Path}
use Rattle.slice_syntax.specs.declared.tree.Constant.{Constant}
use Rattle.slice_syntax.specs.declared.tree.Field.{Field}
use Rattle.slice_syntax.specs.declared.tree.OpTree.{OpTree}
use Rattle.slice_syntax.specs.declared.tree.Item.{Item}
use Rattle.slice_syntax.specs.declared.tree.Item.TheVariants as items
use Rattle.slice_syntax.specs.declared.tree.File.{File}
use Rattle.slice_meaning.specs.declared.standing.Standing.{Standing}
use Rattle.slice_meaning.specs.declared.standing.Standing.TheVariants as standings
use Rattle.slice_meaning.specs.declared.standing.Value.{Value}
use Rattle.slice_meaning.specs.declared.fault.CheckKind.{CheckKind}
use Rattle.slice_meaning.specs.declared.fault.Fault.{Fault}
use Rattle.slice_meaning.specs.Names.{Scope, Declared}
use Rattle.slice_meaning.specs.Known.{Known, nothing_known, standing_here, with_name, with_new_class, with_new_interface, with_class_name, with_interface_name}
use Rattle.slice_meaning.specs.Values.{typed}
use Rattle.slice_meaning.specs.After.{after, after_all, kind_of, with_entries, with_class_body, with_interface_body}
use Rattle.slice_meaning.specs.Meaning.{CheckBreaks, next_file, after_files, undefined, is_undefined}

-- what is declared is of the files up to this one, which is read
abbrev Reaches : ℕ → Known → Type 0
Reaches n k = (k.file ≡ n) × AllByRecursion (λ d. d.file ≤ n) k.declared

name_reaches : (n : ℕ) (k : Known) (word : Word) (s : Standing) → Reaches n k → Reaches n (with_name k word s)
name_reaches n k word s h = (h.0, (omega (arith, h.0), h.1))

entered_reaches : (n : ℕ) (k : Known) (word : Word) (s : Option Standing) → Reaches n k → Reaches n (elim s [ None ↦ with_name k word standings.Module | Some s ↦ k ])
entered_reaches n k word None h = name_reaches n k word standings.Module h
entered_reaches n k word (Some s) h = h

constant_reaches : (n : ℕ) (k : Known) (word : Word) (v : Result Value CheckKind) → Reaches n k → Reaches n (elim v [ Err row ↦ k | Ok v ↦ with_name k word (standings.Value v) ])
constant_reaches n k word (Err row) h = h
constant_reaches n k word (Ok v) h = name_reaches n k word (standings.Value v) h

entries_reach : (n file at : ℕ) (inside : Scope) (entries : List (Word × Option Constant)) (ds : List Declared) → file ≡ n → AllByRecursion (λ d. d.file ≤ n) ds → AllByRecursion (λ d. d.file ≤ n) (with_entries file at inside entries ds)
entries_reach n file at inside [] ds e h = h
entries_reach n file at inside (x ∷ xs) ds e h = entries_reach n file at inside xs _ e (omega (arith, e), h)

class_reaches : (n : ℕ) (k : Known) (word : Word) (s : Option Standing) → Reaches n k → Reaches n (elim s [ None ↦ with_new_class k word | Some s ↦ k ])
class_reaches n k word None h = name_reaches n k word standings.Module h
class_reaches n k word (Some s) h = h

class_body_reaches : (n : ℕ) (k : Known) (word : Word) (compact : Option Constant) (base : Option Path) (fields : Option (List Field)) → Reaches n k → Reaches n (with_class_body k word compact base fields)
class_body_reaches n k word compact base None h = h
class_body_reaches n k word compact base (Some fields) h = h

interface_reaches : (n : ℕ) (k : Known) (word : Word) (s : Option Standing) → Reaches n k → Reaches n (elim s [ None ↦ with_new_interface k word | Some s ↦ k ])
interface_reaches n k word None h = name_reaches n k word standings.Module h
interface_reaches n k word (Some s) h = h

interface_body_reaches : (n : ℕ) (k : Known) (word : Word) (bases : List Path) (ops : Option (List OpTree)) → Reaches n k → Reaches n (with_interface_body k word bases ops)
interface_body_reaches n k word bases None h = h
interface_body_reaches n k word bases (Some ops) h = h

after_reaches : (n : ℕ) (k : Known) (item : Item) → Reaches n k → Reaches n (after k item)
after_reaches n k (items.Enter word) h = entered_reaches n k word (standing_here k word) h
after_reaches n k items.Exit h = h
after_reaches n k (items.Const kind word value) h = constant_reaches n k word (typed k (kind_of k kind) value.value) h
after_reaches n k (items.Enum word entries) h = (h.0, entries_reach n k.file _ _ entries _ h.0 (omega (arith, h.0), h.1))
after_reaches n k (items.Struct word fields) h = name_reaches n k word standings.Module h
after_reaches n k (items.Seq word element) h = name_reaches n k word standings.Module h
after_reaches n k (items.Dict word key value) h = name_reaches n k word standings.Module h
after_reaches n k (items.Class word compact base fields) h = class_body_reaches n (with_class_name k word) word compact base fields (class_reaches n k word (standing_here k word) h)
after_reaches n k (items.Exception word base fields) h = name_reaches n k word standings.Module h
after_reaches n k (items.Interface word bases ops) h = interface_body_reaches n (with_interface_name k word) word bases ops (interface_reaches n k word (standing_here k word) h)

all_reach : (n : ℕ) (k : Known) (is : List Item) → Reaches n k → Reaches n (after_all k is)
all_reach n k [] h = h
all_reach n k (i ∷ is) h = all_reach n (after k i) is (after_reaches n k i h)

-- what is declared is of the files before this one, of which nothing is read
abbrev Reached : ℕ → Known → Type 0
Reached n k = (k.file ≡ n) × AllByRecursion (λ d. d.file < n) k.declared

up_to : (n : ℕ) (ds : List Declared) → AllByRecursion (λ d. d.file < n) ds → AllByRecursion (λ d. d.file ≤ n) ds
up_to n [] h = tt
up_to n (d ∷ ds) h = (omega (arith, h.0), up_to n ds h.1)

below : (n : ℕ) (ds : List Declared) → AllByRecursion (λ d. d.file ≤ n) ds → AllByRecursion (λ d. d.file < suc n) ds
below n [] h = tt
below n (d ∷ ds) h = (omega (arith, h.0), below n ds h.1)

file_reached : (n : ℕ) (k : Known) (f : File) → Reached n k → Reached (suc n) (next_file (after_all k f.items))
file_reached n k f h = let r = all_reach n k f.items (h.0, up_to n k.declared h.1) in (ap suc r.0, below n (after_all k f.items).declared r.1)

files_reached : (n : ℕ) (k : Known) (files : List File) → Reached n k → Reached (n + length files) (after_files k files)
files_reached n k [] h = subst (λ (m : ℕ). Reached m k) (omega arith) h
files_reached n k (f ∷ fs) h = subst (λ (m : ℕ). Reached m (after_files k (f ∷ fs))) (omega arith) (files_reached (suc n) (next_file (after_all k f.items)) fs (file_reached n k f h))

-- a fault is in one of the files
pub breaks_within : (files : List File) (at : ℕ) (fault : Fault) → CheckBreaks files at fault → at < length files
breaks_within files at fault (inl b) = omega (arith, b.count, ap length b.parts, length-append b.before (b.file ∷ b.behind))
breaks_within files at fault (inr l) =
    let known = after_files nothing_known files in
    let reached = files_reached 0 nothing_known files (refl, tt) in
    let all = All-filter (is_undefined known.tables) (λ (d : Declared). d.file < 0 + length files) known.declared (All-from_recursion (λ (d : Declared). d.file < 0 + length files) known.declared reached.1) in
    omega (arith, l.file, All-contains (λ (d : Declared). d.file < 0 + length files) (undefined known) l.class all l.among)
