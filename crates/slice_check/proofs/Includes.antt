-- What comes of the include of a file that is not loaded yet.
use Rattle.std.proofs.Common.{◌≡◌, ℕ, ◌<◌, ◌≤◌, List, length, Option, Some, None, Result, Ok, Err, String, Global, Contains, codes, sym, subst, ◌∙◌}
use Rattle.std.specs.Option.{IfSome}
use Rattle.std.specs.Result.{IsErrAnd}
use Rattle.std.specs.BTreeSet.{BTreeSet}
use Rattle.slice_check.specs.declared.open.Open.{Open}
use Rattle.ice_ports.specs.Files.{file_named}
use Rattle.slice_meaning.specs.Names.{Name}
use Rattle.slice_meaning.specs.declared.limits.TheConstants.{MOST_FILES}
use Rattle.slice_meaning.specs.Printed.{LoadBreak, broken_at}
use Rattle.slice_meaning.specs.Loading.{Shelf, no_file, too_many, in_text}
use Rattle.slice_check.specs.declared.fault.LoadFault.{LoadFault}
use Rattle.slice_check.specs.declared.fault.LoadFault.TheVariants as faults
use Rattle.slice_check.specs.Answers.{IfText, IsFault, Parses}
use Rattle.slice_check.specs.Opening.{Told, BreaksThere, Opens}

-- the fault that is answered is of the sort of this one
pub answered : (Breaks : LoadBreak → Type 0) (broken : LoadBreak) (answer : LoadFault) → Breaks broken → IsFault broken answer → IfText Breaks answer
answered Breaks broken (faults.Text file place kind) h e = subst Breaks e h
answered Breaks broken faults.Shelf h e = tt
answered Breaks broken faults.Memory h e = tt

-- what holds of the files that are told
pub told : (files : Option Shelf) (Holds : Shelf → Type 0) → IfSome files Holds → Told files Holds
told files Holds h shelf e = subst (λ (f : Option Shelf). IfSome f Holds) e h

pub missing : (files : Option Shelf) (loaded : List Name) (user name : Name) (place : ℕ) (found : Option (List ℕ)) (answer : LoadFault) → (Contains loaded name → ⊥)
    → IfSome files (λ known. found ≡ file_named known name) → found ≡ None → IsFault (broken_at user place (codes "NoFile")) answer
    → IfText (BreaksThere files loaded user name place) answer
missing files loaded user name place found answer fresh h none e =
    answered (BreaksThere files loaded user name place) _ answer (λ shelf is others. no_file loaded user name place others fresh (sym (told files _ h shelf is) ∙ none)) e

pub excess : (files : Option Shelf) (loaded : List Name) (user name : Name) (place : ℕ) (found : Option (List ℕ)) (text : List ℕ) (answer : LoadFault) → (Contains loaded name → ⊥)
    → IfSome files (λ known. found ≡ file_named known name) → found ≡ Some text → MOST_FILES ≤ length loaded → IsFault (broken_at user place (codes "TooManyFiles")) answer
    → IfText (BreaksThere files loaded user name place) answer
excess files loaded user name place found text answer fresh h some many e =
    answered (BreaksThere files loaded user name place) _ answer (λ shelf is others. too_many loaded user name place others text fresh (sym (told files _ h shelf is) ∙ some) many) e

pub faulty : (files : Option Shelf) (loaded : List Name) (user name : Name) (place : ℕ) (found : Option (List ℕ)) (text : List ℕ) (answer : LoadFault) → (Contains loaded name → ⊥) → length loaded < MOST_FILES
    → IfSome files (λ known. found ≡ file_named known name) → found ≡ Some text → Parses name text (Err answer) → IfText (BreaksThere files loaded user name place) answer
faulty files loaded user name place found text (faults.Text file at kind) fresh room h some breaks = λ shelf is others.
    in_text loaded user name place others text _ (record { new = fresh; found = sym (told files _ h shelf is) ∙ some; room = room }) breaks
faulty files loaded user name place found text faults.Shelf fresh room h some breaks = tt
faulty files loaded user name place found text faults.Memory fresh room h some breaks = tt

-- a fault of the text goes on
pub passed : (files : Option Shelf) (loaded : List Name) (user name : Name) (place : ℕ) (names : BTreeSet (String Global)) (found : Option (List ℕ)) (text : List ℕ) (fault : LoadFault) (answer : Result Open LoadFault)
    → (Contains loaded name → ⊥) → length loaded < MOST_FILES → IfSome files (λ known. found ≡ file_named known name) → found ≡ Some text → Parses name text (Err fault) → IsErrAnd answer (λ e. e ≡ fault) → Opens files loaded user name place names answer
passed files loaded user name place names found text fault (Ok o) fresh room h some breaks e = absurd e
passed files loaded user name place names found text fault (Err other) fresh room h some breaks e =
    subst (IfText (BreaksThere files loaded user name place)) (sym e) (faulty files loaded user name place found text fault fresh room h some breaks)
