-- Names of one scope. Slice compares them without regard to case. (Ice manual, "Lexical Rules": "Case Sensitivity".)
use Rattle.std.specs.Prelude.{ℕ, ◌≡◌, ◌≢◌, Bool, true, false, List, [], ◌∷◌, All, if◌then◌else◌, String}
use Rattle.std.specs.Str.{bytes_eq, str_to_ascii_lowercase}
use Rattle.std.specs.BTreeSet.{BTreeSet, contains_text}

-- none of the names is equal to this one without regard to case
abbrev pub IsFree : List (List ℕ) → List ℕ → Type 0
IsFree names name = All (λ other. str_to_ascii_lowercase other ≢ str_to_ascii_lowercase name) names

-- each name is none of those before it
abbrev pub AreNew : List (List ℕ) → List (List ℕ) → Type 0
AreNew before [] = Unit {0}
AreNew before (name ∷ names) = IsFree before name × AreNew (name ∷ before) names

-- one of the names is this one in lower case
abbrev pub has : List (List ℕ) → List ℕ → Bool
has [] lowered = false
has (name ∷ names) lowered = if bytes_eq (str_to_ascii_lowercase name) lowered then true else has names lowered

-- the set is that of the names in lower case
abbrev pub HoldsNames : {Y : Type 0} → BTreeSet (String Y) → List (List ℕ) → Type 0
HoldsNames held names = (lowered : List ℕ) → contains_text held lowered ≡ has names lowered
