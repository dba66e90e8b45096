-- Files by name.
use Rattle.std.specs.Prelude.{◌≡◌, ℕ, List, [], ◌∷◌, Bool, true, false, Option, None, Some, Result, Ok, Err, IfOk, IfSome, IsSome, ◌⊎◌, take}
use Rattle.std.specs.declared.io.ErrorKind.{ErrorKind}
use Rattle.std.specs.declared.io.ErrorKind.TheVariants as kinds
use Rattle.std.specs.Str.{bytes_eq}
use Rattle.ice_ports.specs.declared.ports.PortFault.{PortFault}
use Rattle.ice_ports.specs.declared.ports.PortFault.TheVariants.{Failed, Memory}

-- the content of the first file of this name
abbrev pub file_named : List (List ℕ × List ℕ) → List ℕ → Option (List ℕ)
file_named [] name = None
file_named (file ∷ others) name =
    elim (bytes_eq file.0 name) [ true ↦ Some file.1 | false ↦ file_named others name ]

-- the object itself failed
abbrev pub is_failed : {T : Type 0} → Result T PortFault → Bool
is_failed (Ok answer) = false
is_failed (Err Failed) = true
is_failed (Err Memory) = false

-- where the files are known, the answer is the file of this name
abbrev pub Finds : {E : Type 0} → Option (List (List ℕ × List ℕ)) → List ℕ
    → Result (Option (List ℕ)) E → Type 0
Finds files name result =
    IfOk result (λ answer. IfSome files (λ known. answer ≡ file_named known name))

-- where the files are known, one has the name
abbrev pub IsThere : Option (List (List ℕ × List ℕ)) → List ℕ → Type 0
IsThere files name = IfSome files (λ known. IsSome (file_named known name))

-- ---- files of the system

-- what says that no file has the path, or that none can have it
abbrev pub IsMissing : ErrorKind → Type 0
IsMissing kind = (kind ≡ kinds.NotFound) ⊎ ((kind ≡ kinds.NotADirectory)
    ⊎ ((kind ≡ kinds.InvalidFilename) ⊎ (kind ≡ kinds.InvalidInput)))

-- the answer to a file that was opened, of which these bytes are left: so many of them, if known
abbrev pub IsPrefix : {E : Type 0} → Option (List ℕ) → ℕ → Result (Option (List ℕ)) E → Type 0
IsPrefix left most (Ok (Some content)) = IfSome left (λ known. content ≡ take most known)
IsPrefix left most (Ok None) = ⊥
IsPrefix left most (Err fault) = Unit {0}

-- the answer to a path that was not opened, for this cause: nothing where no file has it, else a
-- fault
abbrev pub IsNotOpened : {E : Type 0} → ErrorKind → Result (Option (List ℕ)) E → Type 0
IsNotOpened cause (Ok (Some content)) = ⊥
IsNotOpened cause (Ok None) = IsMissing cause
IsNotOpened cause (Err fault) = IsMissing cause → ⊥
