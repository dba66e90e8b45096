-- The entries of an enum, one after the other.
use Rattle.std.proofs.Common.{◌≡◌, ℕ, ◌+◌, ◌≤◌, List, ◌∷◌, ◌++◌, drop, Option, Result, Ok, Err, refl, sym, ap, ◌∙◌, append_assoc, arith}
use Rattle.std.specs.Prelude.{IfOk}
use Rattle.slice_syntax.specs.declared.tree.Word.{Word}
use Rattle.slice_syntax.specs.declared.tree.Constant.{Constant}
use Rattle.ice_types.specs.declared.declarations.Entry.{Entry}
use Rattle.slice_meaning.specs.declared.fault.CheckKind.{CheckKind}
use Rattle.slice_meaning.specs.declared.fault.CheckKind.TheVariants as rows
use Rattle.slice_meaning.specs.declared.fault.Fault.{Fault}
use Rattle.slice_meaning.specs.Known.{Known}
use Rattle.slice_meaning.specs.Members.{new_number, with_number, entry_number, entry_place, after_entry, entry_faults, with_entry, entries_of}
use Rattle.slice_meaning.specs.Checking.{noted}
use Rattle.slice_faults.specs.Held.{entry_rows}
use Rattle.slice_faults.proofs.Noting.{noted_more}

abbrev Tree : Type 0
Tree = Word × Option Constant

-- the faults of an entry more
pub entry_next : (k : Known) (next : ℕ) (before : List ℕ) (entries : List Tree) (i : ℕ) (e : Tree) (number : Result ℕ CheckKind) (found now all : Option Fault)
    → drop i entries ≡ e ∷ drop (i + 1) entries → number ≡ entry_number k next e.1
    → noted found (entry_faults k next before (drop i entries)) ≡ all → now ≡ noted found (new_number rows.BadValue (entry_place e.0 e.1) before number)
    → noted now (entry_faults k (after_entry next number) (with_number number before) (drop (i + 1) entries)) ≡ all
entry_next k next before entries i e number found now all at is so step =
    let tail : Result ℕ CheckKind → List Fault = λ r. entry_faults k (after_entry next r) (with_number r before) (drop (i + 1) entries) in
    let here : Result ℕ CheckKind → List Fault = λ r. new_number rows.BadValue (entry_place e.0 e.1) before r in
    let r = entry_number k next e.1 in
    ap (λ o. noted o (tail number)) step
    ∙ (sym (noted_more found (here number) (tail number))
    ∙ (ap (λ x. noted found (here x ++ tail x)) is
    ∙ (sym (ap (λ l. noted found (entry_faults k next before l)) at) ∙ so)))

row_more : (k : Known) (next : ℕ) (word : Word) (es : List Tree) (r : Result ℕ CheckKind)
    → with_entry word r (entries_of k (after_entry next r) es) ≡ entry_rows word r ++ entries_of k (after_entry next r) es
row_more k next word es (Ok n) = refl
row_more k next word es (Err row) = refl

-- the row of an entry more
pub rows_next : (k : Known) (next : ℕ) (entries : List Tree) (i : ℕ) (e : Tree) (number : Result ℕ CheckKind) (held now all : List Entry)
    → drop i entries ≡ e ∷ drop (i + 1) entries → number ≡ entry_number k next e.1
    → held ++ entries_of k next (drop i entries) ≡ all → now ≡ held ++ entry_rows e.0 number
    → now ++ entries_of k (after_entry next number) (drop (i + 1) entries) ≡ all
rows_next k next entries i e number held now all at is so step =
    let tail : Result ℕ CheckKind → List Entry = λ r. entries_of k (after_entry next r) (drop (i + 1) entries) in
    let r = entry_number k next e.1 in
    ap (λ l. l ++ tail number) step
    ∙ (append_assoc held (entry_rows e.0 number) (tail number)
    ∙ (ap (λ x. held ++ (entry_rows e.0 x ++ tail x)) is
    ∙ (sym (ap (λ l. held ++ l) (row_more k next e.0 (drop (i + 1) entries) r))
    ∙ (sym (ap (λ l. held ++ entries_of k next l) at) ∙ so))))

-- the next number is at most one more than the largest
pub next_within : (next now : ℕ) (number : Result ℕ CheckKind) → next ≤ 2147483648 → IfOk number (λ n. n ≤ 2147483647) → now ≡ after_entry next number → now ≤ 2147483648
next_within next now (Ok n) h most is = omega (arith, most)
next_within next now (Err row) h most is = omega arith
