-- The first fault of an encapsulation, by that of its content. (Ice manual, "Basic Data Encoding", "Encapsulations".)
use Rattle.std.specs.Prelude.{ℕ, ◌≡◌, ◌≢◌, ◌⊎◌, List, [], ◌∷◌, ◌++◌, length}
use Rattle.ice_types.specs.declared.kind.TypeRef.{TypeRef}
use Rattle.ice_types.specs.Tables.{Tables}
use Rattle.ice_prims.specs.declared.fault.Kind.{Kind}
use Rattle.ice_prims.specs.declared.fault.Kind.TheVariants.{BadVersion}
use Rattle.ice_encoding.specs.Encapsulation.{Encapsulated}
use Rattle.ice_encoding.specs.Opening.{encoding}
use Rattle.ice_encoding.specs.Value.{SpellsPlainValue}
use Rattle.graph_laws.specs.Defects.{Defect, At, Lacks, Then, InBound, EnclosedBreaks}
use Rattle.graph_laws.specs.Values.{PlainValueBreaks}

-- these bytes lack, or others stand there
abbrev pub OtherBytes : List ℕ → Kind → Defect
OtherBytes known kind = λ place bytes fault. Lacks (length known) place bytes fault
    ⊎ ((a rest : List ℕ) × (bytes ≡ a ++ rest) × (length a ≡ length known) × (a ≢ known) × At place kind fault)

-- the version 1.1 of the encoding
abbrev pub VersionBreaks : Defect
VersionBreaks = OtherBytes (1 ∷ 1 ∷ []) BadVersion

-- its size, its version or its content has the defect
abbrev pub EncapsulatedBreaks : Defect → Defect
EncapsulatedBreaks Inside = EnclosedBreaks (Then encoding VersionBreaks (λ v. Inside))

-- The same of an input that has to be one; bytes behind it come last.
abbrev pub InputBreaks : {A : Type 0} → (List ℕ → A → Type 0) → Defect → Defect
InputBreaks Spells Inside = InBound (Encapsulated Spells) (EncapsulatedBreaks Inside)

-- of an encapsulation of a value by itself, which fills it, as an input
abbrev pub ValueInputBreaks : Tables → TypeRef → Defect
ValueInputBreaks t kind = InputBreaks (SpellsPlainValue t kind) (InBound (SpellsPlainValue t kind) (PlainValueBreaks t kind))
