-- What is still read of a value that has begun, and what the calls that read on answer.
use Rattle.std.specs.Prelude.{ℕ, ◌≡◌, List, [], ◌∷◌, ◌++◌, Option, None, Some, Result, Ok, Err}
use Rattle.ice_prims.specs.declared.fault.Fault.{Fault}
use Rattle.ice_prims.specs.declared.fault.ReadFault.{ReadFault}
use Rattle.ice_prims.specs.declared.fault.ReadFault.TheVariants as faults
use Rattle.ice_prims.specs.Rest.{Rest}
use Rattle.ice_prims.specs.Taking.{Fails}
use Rattle.ice_types.specs.declared.kind.TypeRef.{TypeRef}
use Rattle.ice_types.specs.declared.schema.TheConstants.{MOST_DEPTH}
use Rattle.ice_types.specs.Tables.{Tables}
use Rattle.graph_arena.specs.declared.value.Value.{Value}
use Rattle.ice_encoding.specs.Tree.{Tree, reference}
use Rattle.graph_arena.specs.View.{view}
use Rattle.ice_encoding.specs.Port.{Reader}
use Rattle.ice_encoding.specs.Reading.{made, value_at, value_step}
use Rattle.ice_encoding.specs.Pausing.{Met, Inside, in_place}
use Rattle.ice_values.specs.declared.frame.Assembly.TheVariants as sorts
use Rattle.ice_values.specs.declared.left.Left.TheVariants as lefts
use Rattle.ice_values.specs.declared.frame.Parts.TheVariants as parts
use Rattle.ice_values.specs.declared.frame.Frame.{Frame}
use Rattle.value_parts.specs.declared.paused.Step.{Step}
use Rattle.value_parts.specs.declared.paused.Step.TheVariants as steps
use Rattle.ice_values.specs.declared.reader.ValueReader.{ValueReader}
use Rattle.ice_values.specs.Frames.{opened, given, whole, IsOver}
use Rattle.ice_values.specs.Rests.{then, value_in, rest_of}
use Rattle.ice_values.specs.Pauses.{StepsReading}

abbrev pub whole_value : {S : Type 0} → Tree → Reader S Tree
whole_value v s r = Ok (v, s, r)

module _ {S : Type 0} (take : Option ℕ → Reader S Met) (t : Tables) (inside : Inside S) where
  -- what is read once a value inside these is there; the outermost of them stands first
  abbrev pub onward : (Tree → Reader S Tree) → List Frame → Tree → Reader S Tree
  onward last [] = last
  onward last (f ∷ fs) = onward (λ v s r. then (rest_of take t inside (given (opened f) v) s r) last) fs

  abbrev pub left_in : Frame → List Frame → Reader S Tree
  left_in top below s r = then (rest_of take t inside (opened top) s r) (onward whole_value below)

  -- what a reader still reads
  abbrev pub left_of : ValueReader → Reader S Tree
  left_of reader = left_in reader.top reader.below

-- a value of a type
unfoldable pub whole_at : {S : Type 0} → (Option ℕ → Reader S Met) → Tables → Inside S → TypeRef → Reader S Tree
whole_at take t inside kind s r = value_at (in_place take inside) t MOST_DEPTH kind s r

-- a reader before the first byte of a value
abbrev pub fresh : TypeRef → ValueReader
fresh kind = record { top = record { levels = MOST_DEPTH; parts = parts.Each (record { sort = sorts.Whole; left = lefts.Items kind 1; done = [] }) }; below = [] }

-- ---- what a step reads first

-- a part of the type that nests at most so deep
abbrev pub part_within : {S : Type 0} → ℕ → TypeRef → (Option ℕ → Reader S Met) → Tables → Inside S → Reader S Tree
part_within levels kind take t inside = value_in take t inside levels kind

-- a part of the type whose own parts nest at most so deep
abbrev pub part_of : {S : Type 0} → ℕ → TypeRef → (Option ℕ → Reader S Met) → Tables → Inside S → Reader S Tree
part_of levels kind take t inside = value_step (in_place take inside) t (value_in take t inside levels) kind

-- a reference where this class is declared
abbrev pub reference_to : {S : Type 0} → Option ℕ → (Option ℕ → Reader S Met) → Tables → Inside S → Reader S Tree
reference_to declared take t inside = made reference (in_place take inside declared)

-- What was to be read in the innermost value is this first, and then what is around it; a step of it was taken. It is so
-- however the instances are read that begin.
abbrev pub StepsFrom : {S : Type 0} → ((Option ℕ → Reader S Met) → Tables → Inside S → Reader S Tree) → (Option ℕ → Reader S Met) → Tables → ValueReader → S → Rest → Result (Step Value) ReadFault → ValueReader → S → Rest → Type 0
StepsFrom {S} first take t old s r result new s' r' =
    (inside : Inside S) → StepsReading inside (left_of take t inside new) view result (then (first take t inside s r) (onward take t inside whole_value (old.below ++ old.top ∷ []))) s' r'

-- ---- what the calls answer

-- the innermost value has got this part
abbrev pub Gives : Tree → ValueReader → ValueReader → Type 0
Gives v old new = (new.below ≡ old.below) × (opened new.top ≡ given (opened old.top) v)

-- The value that is made of the innermost one's parts is given to the one around it, or it is all.
abbrev pub Closes : ValueReader → ValueReader → Result (Step Value) ReadFault → Type 0
Closes old new (Ok steps.On) = (f : Frame) × (old.below ≡ new.below ++ f ∷ []) × (opened new.top ≡ given (opened f) (whole (opened old.top)))
Closes old new (Ok (steps.Done v)) = (old.below ≡ []) × (view v ≡ whole (opened old.top))
Closes old new (Ok (steps.Begins n)) = ⊥
Closes old new (Err e) = e ≡ faults.Memory

-- nothing is left to read, and this is the value; or the reader is as it was
abbrev pub Ends : ValueReader → ValueReader → Option Value → Type 0
Ends old new (Some v) = (old.below ≡ []) × IsOver (opened old.top) × (view v ≡ whole (opened old.top))
Ends old new None = new ≡ old

-- the value, or the fault
abbrev pub ReadsValue : {S : Type 0} → Result Value ReadFault → Result (Tree × S × Rest) Fault → S → Rest → Type 0
ReadsValue (Ok v) read s r = read ≡ Ok (view v, s, r)
ReadsValue (Err e) read s r = Fails e read
