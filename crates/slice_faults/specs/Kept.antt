-- What holds of what is known before each declaration.
use Rattle.std.specs.Prelude.{ℕ, ◌≡◌, ◌⊎◌, List, [], ◌∷◌, IsTrue}
use Rattle.std.specs.Option.{is_some}
use Rattle.slice_syntax.specs.Places.{Each, IsPlain}
use Rattle.ice_types.specs.declared.kind.RowRef.{RowRef}
use Rattle.ice_types.specs.Tables.{HasRowId}
use Rattle.slice_meaning.specs.Names.{Scope, Declared, declared_in, type_id}
use Rattle.slice_meaning.specs.Known.{Known}
use Rattle.slice_meaning.specs.Rows.{KnowsRows}

-- a declaration has this type id
abbrev pub IsDeclared : List Declared → List ℕ → Type 0
IsDeclared [] id = ⊥
IsDeclared (d ∷ ds) id = (id ≡ type_id d.scope d.name) ⊎ IsDeclared ds id

-- the outermost scope, or one inside a declaration in such a scope
abbrev pub IsInside : List Declared → Scope → Type 0
IsInside ds [] = Unit {0}
IsInside ds (name ∷ scope) = IsTrue (is_some (declared_in ds name scope)) × IsInside ds scope

-- a declaration's name and those round it are letters, digits and `_`
abbrev pub HasPlainName : Declared → Type 0
HasPlainName d = Each IsPlain (d.name ∷ d.scope)

-- the names
pub record HasNames (k : Known) : Type 0 where
  -- each row has the type id of a declaration
  pub ids : (id : List ℕ) (row : RowRef) → HasRowId k.tables id row → IsDeclared k.declared id
  -- names are letters, digits and `_`
  pub names : Each HasPlainName k.declared
  pub scope : Each IsPlain k.scope
  -- what is declared stands inside declarations, and so does the innermost open scope
  pub inside : Each (λ d. IsInside k.declared d.scope) k.declared
  pub innermost : IsInside k.declared k.scope

-- names and what they stand for
pub record IsKept (k : Known) : Type 0 where
  pub names : HasNames k
  pub rows : KnowsRows k
