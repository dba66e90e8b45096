-- What the scopes of some files hold, and the declarations that they stand for.
use Rattle.std.specs.Prelude.{ℕ, zero, suc, ◌≡◌, ◌≤◌, Bool, ◌&&◌, List, [], ◌∷◌, length, Option, None, Some, cond, ◌==◌, bytes_eq}
use Rattle.std.specs.List.{list_any}
use Rattle.std.specs.Str.{str_to_ascii_lowercase}
use Rattle.slice_meaning.specs.Names.{Name, Declared}
use Rattle.slice_meaning.specs.declared.entry.Entry.{Entry}
use Rattle.slice_meaning.specs.declared.by_name.ByName.{ByName}
use Rattle.slice_meaning.specs.declared.lowered.Lowered.{Lowered}
use Rattle.slice_meaning.specs.Finding.{number_at, has_lowered}
use Rattle.slice_meaning.specs.Numbers.{scope_at}

-- the declaration of an entry behind some
abbrev pub declared : Entry → List Declared → Declared
declared e ds = record { scope = scope_at ds e.around; name = e.name.now; standing = e.standing; file = e.file; place = e.place }

-- the declarations of entries, the newest first
abbrev pub declarations : List Entry → List Declared
declarations [] = []
declarations (e ∷ es) = declared e (declarations es) ∷ declarations es

-- the number of the entry of this name in the scope of a number
abbrev pub number_in : List Entry → ℕ → Name → Option ℕ
number_in [] n word = None
number_in (e ∷ es) n word = cond (e.around == n && bytes_eq e.name.now word) (Some (suc (length es))) (number_in es n word)

-- some name in the scope of this number is this one in lower case
abbrev pub lowered_in : List Entry → ℕ → Name → Bool
lowered_in es n lowered = list_any (λ e. e.around == n && bytes_eq (str_to_ascii_lowercase e.name.now) lowered) es

-- Entries stand in scopes of earlier ones, and none has the name of another of its scope.
abbrev pub AreEntries : List Entry → Type 0
AreEntries [] = Unit {0}
AreEntries (e ∷ es) = (e.around ≤ length es) × (number_in es e.around e.name.now ≡ None) × AreEntries es

-- the number of the scope round that of a number; the outermost has itself
abbrev pub around_of : List Entry → ℕ → ℕ
around_of [] n = 0
around_of (e ∷ es) n = cond (n == suc (length es)) e.around (around_of es n)

-- the number of the scope so many steps outwards
abbrev pub outer_by : List Entry → ℕ → ℕ → ℕ
outer_by es zero n = n
outer_by es (suc steps) n = outer_by es steps (around_of es n)

-- the one scope is the other, or round it
abbrev pub IsOuter : List Entry → ℕ → ℕ → Type 0
IsOuter es inner outer = (steps : ℕ) × (outer_by es steps inner ≡ outer)

-- the steps over several scopes lead outwards
abbrev pub AreSkips : List Entry → Type 0
AreSkips [] = Unit {0}
AreSkips (e ∷ es) = IsOuter es e.around e.skip.to × AreSkips es

-- the maps find the entries
pub record AreFound (es : List Entry) (by_name : ByName) (folded : Lowered) : Type 0 where
  pub entries : AreEntries es
  pub skips : AreSkips es
  pub found : (word : Name) (n : ℕ) → number_at by_name word n ≡ number_in es n word
  pub lowered : (word : Name) (n : ℕ) → has_lowered folded word n ≡ lowered_in es n word
