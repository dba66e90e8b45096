-- What a reader under another schema finds in bytes that were spelled under one that it can read.
use Rattle.std.specs.Prelude.{List, [], ◌∷◌, None, ℕ}
use Rattle.ice_types.specs.declared.kind.TypeRef.{TypeRef}
use Rattle.ice_types.specs.declared.declarations.Shape.{Shape}
use Rattle.ice_types.specs.Tables.{Tables}
use Rattle.ice_types.specs.Rules.{IsSchema}
use Rattle.ice_encoding.specs.Graph.{Graph}
use Rattle.ice_encoding.specs.Flags.{all_slices}
use Rattle.ice_encoding.specs.Instances.{SpellsNumbered}
use Rattle.slice_compat.specs.Verdicts.{Compat}
use Rattle.graph_laws.specs.PlainSlices.{SpellsPlainNumbered}
use Rattle.graph_laws.specs.SeeingOther.{Seen}

-- one required member
abbrev pub alone : TypeRef → Shape
alone kind = record { required = record { name = []; kind = kind; tag = None } ∷ []; optional = [] }

module _ (t u : Tables) (kind other : TypeRef) where
  -- the schema that was written under, and the reader's, which can read the type
  pub record CanRead : Type 0 where
    pub writer : IsSchema t
    pub reader : IsSchema u
    pub compat : Compat t u kind other

  -- the bytes spell the same graph without the optional members that the reader's classes lack
  abbrev pub IsReadThere : Type 0
  IsReadThere = (bytes : List ℕ) (g : Graph) → CanRead → SpellsPlainNumbered t u kind bytes g
      → (h : Graph) × SpellsNumbered u all_slices (alone other) bytes h × Seen t u kind g h
