-- What is still to be passed over.
use Rattle.std.specs.Prelude.{suc, ℕ, ◌≡◌, ◌≤◌, List, [], ◌∷◌, ◌++◌, length, drop, replicate, Option, None, Some, slice_get, slice_range}
use Rattle.ice_types.specs.declared.kind.TypeRef.{TypeRef}
use Rattle.ice_types.specs.Tables.{Tables}
use Rattle.ice_encoding.specs.Tree.{Tree}
use Rattle.ice_encoding.specs.Typed.{HasType, no_reference}
use Rattle.ice_encoding.specs.Canonical.{canonical}
use Rattle.canonical_values.specs.declared.frame.Left.{Left}
use Rattle.canonical_values.specs.declared.frame.Left.TheVariants.{Items, Members, Pairs}
use Rattle.canonical_values.specs.declared.frame.Frame.{Frame}
use Rattle.canonical_values.specs.declared.frame.Part.{Part}
use Rattle.canonical_values.specs.declared.frame.Part.TheVariants as found
use Rattle.canonical_values.specs.declared.frame.Step.{Step}
use Rattle.canonical_values.specs.declared.frame.Step.TheVariants as steps
use Rattle.canonical_values.specs.Standing.{Stands, StandEach, StandPairs, IsAbove, members_of}

-- the bytes between two places, where there are two
abbrev pub key_in : List ℕ → Option (ℕ × ℕ) → Option (List ℕ)
key_in input None = None
key_in input (Some r) = Some (slice_range input r.0 r.1)

module _ (t : Tables) (input : List ℕ) where
  -- the bytes are put for the parts that are left
  abbrev pub LeftFills : ℕ → Left → List ℕ → Type 0
  LeftFills levels (Items kind n) bytes = StandEach t levels (replicate n kind) bytes
  LeftFills levels (Members at next) bytes = StandEach t levels (drop next (members_of (slice_get t.structs at))) bytes
  LeftFills levels (Pairs key value n last) bytes = StandPairs t levels key value n (key_in input last) bytes

  -- the bytes are what the frame waits for
  abbrev pub Fills : Frame → List ℕ → Type 0
  Fills f bytes = LeftFills f.levels f.left bytes

  -- Frames one inside the other, the outermost first. What the innermost waits for comes first.
  abbrev pub FillAll : List Frame → List ℕ → Type 0
  FillAll [] bytes = bytes ≡ []
  FillAll (f ∷ fs) bytes = (inner own : List ℕ) × (bytes ≡ inner ++ own) × FillAll fs inner × Fills f own

  -- from the one place to the other, these bytes stand
  abbrev pub Passes : ℕ → ℕ → List ℕ → Type 0
  Passes at next front = (next ≤ length input) × (drop at input ≡ front ++ drop next input)

  -- a value of the type that begins here: whole, or its front and what is inside it
  abbrev pub PartFound : ℕ → TypeRef → ℕ → Part → Type 0
  PartFound levels kind at (found.Over next) = (front : List ℕ) × Passes at next front × Stands t levels kind front
  PartFound levels kind at (found.Into next inside) = (front : List ℕ) × Passes at next front
      × ((inner : List ℕ) → Fills inside inner → Stands t levels kind (front ++ inner))
  PartFound levels kind at found.Stop = Unit {0}

  -- one look at the innermost frame
  abbrev pub Steps : ℕ → Frame → Step → Type 0
  Steps at old (steps.On next new) = (front : List ℕ) × Passes at next front × ((more : List ℕ) → Fills new more → Fills old (front ++ more))
  Steps at old (steps.Into next new inside) = (front : List ℕ) × Passes at next front
      × ((inner more : List ℕ) → Fills inside inner → Fills new more → Fills old (front ++ (inner ++ more)))
  Steps at old steps.Done = Fills old []
  Steps at old steps.Stop = Unit {0}

  -- a key that ends there, above the one before it
  abbrev pub KeyFound : ℕ → TypeRef → Option (List ℕ) → ℕ → ℕ → Type 0
  KeyFound levels key last at end = (k : Tree) × Passes at end (canonical k) × HasType t no_reference levels key k
      × IsAbove t levels key last k × (slice_range input at end ≡ canonical k)

  -- of so many values without parts of the type, those up to here stand, and so many are left
  abbrev pub ItemsPassed : TypeRef → ℕ → ℕ → ℕ → ℕ → Type 0
  ItemsPassed kind count at left next = (levels : ℕ) → (front : List ℕ) × Passes at next front
      × ((more : List ℕ) → StandEach t (suc levels) (replicate left kind) more → StandEach t (suc levels) (replicate count kind) (front ++ more))

  -- of values of these types, those from the first to before the next stand up to here
  abbrev pub MembersPassed : List TypeRef → ℕ → ℕ → ℕ → ℕ → Type 0
  MembersPassed kinds first at behind next = (levels : ℕ) → (front : List ℕ) × Passes at next front
      × ((more : List ℕ) → StandEach t (suc levels) (drop behind kinds) more → StandEach t (suc levels) (drop first kinds) (front ++ more))

-- the first of these types, or none
abbrev pub NextKind : List TypeRef → Option TypeRef → Type 0
NextKind kinds None = kinds ≡ []
NextKind kinds (Some kind) = (others : List TypeRef) × (kinds ≡ kind ∷ others)

-- the step over a part, behind which this is left
abbrev pub as_step : Part → Frame → Step
as_step (found.Over next) rest = steps.On next rest
as_step (found.Into next inside) rest = steps.Into next rest inside
as_step found.Stop rest = steps.Stop
