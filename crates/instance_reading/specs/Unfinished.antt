-- An instance that has begun and is not read whole: what is still read of it, and what reading on answers.
use Rattle.std.specs.Prelude.{ℕ, ◌≡◌, ◌+◌, ◌*◌, ◌^◌, ◌-◌, List, [], ◌∷◌, ◌++◌, length, Option, Result}
use Rattle.ice_types.specs.Tables.{Tables}
use Rattle.ice_prims.specs.declared.fault.Fault.{Fault}
use Rattle.ice_prims.specs.declared.fault.ReadFault.{ReadFault}
use Rattle.ice_prims.specs.Rest.{Rest}
use Rattle.ice_encoding.specs.Port.{Reader}
use Rattle.ice_encoding.specs.Pausing.{Inside}
use Rattle.ice_encoding.specs.Reading.{made}
use Rattle.ice_encoding.specs.Graph as graphs
use Rattle.ice_encoding.specs.Flags as flags
use Rattle.ice_encoding.specs.References.{State}
use Rattle.ice_encoding.specs.Instances.{most_instances}
use Rattle.graph_arena.specs.declared.instance.Slice.{Slice}
use Rattle.graph_arena.specs.Seen.{view_slices}
use Rattle.value_parts.specs.declared.paused.Paused.{Paused}
use Rattle.value_parts.specs.declared.paused.Step.{Step}
use Rattle.value_parts.specs.declared.sliced_type.SlicedType.{SlicedType}
use Rattle.ice_values.specs.Pauses.{GoesOnReading, StepsReading}
use Rattle.slice_heads.specs.declared.before.Before.TheVariants as befores
use Rattle.instance_reading.specs.declared.slice.CompactSlice.{CompactSlice}
use Rattle.instance_reading.specs.declared.slice.Stage.{Stage}
use Rattle.instance_reading.specs.declared.slice.Stage.TheVariants as stages
use Rattle.instance_reading.specs.declared.sized.OpenSlice.{OpenSlice}
use Rattle.instance_reading.specs.Slices.{Open, opened, refer_by, left_compact, left_next, left_stage, stage_work}
use Rattle.instance_reading.specs.declared.unfinished.Unfinished.{Unfinished}

-- slices before others
abbrev pub behind : List graphs.Slice → List graphs.Slice → List graphs.Slice
behind had others = had ++ others

module _ (inside : Inside (State ℕ)) (sort : SlicedType) (t : Tables) where
  -- all slices, with these that are read, from the next one on
  abbrev pub left_behind : ℕ → List Slice → Option flags.Before → Reader (State ℕ) (List graphs.Slice)
  left_behind steps had next = made (behind (view_slices had)) (left_next (refer_by inside) sort t steps next)

  -- the same from a stage on
  abbrev pub left_by : Unfinished → Stage → Reader (State ℕ) (List graphs.Slice)
  left_by u stage = made (behind (view_slices u.slices)) (left_stage inside sort t u.steps stage)

  -- what is still read of an instance that has begun
  abbrev pub left_slices : Unfinished → Reader (State ℕ) (List graphs.Slice)
  left_slices u = left_by u u.stage

-- before the first slice
abbrev pub begun : ℕ → Rest → Unfinished
begun name r = record { name = name; steps = length r.bytes; slices = []; stage = stages.Next befores.First }

-- the slice has one entry more in its table, and nothing else has changed
abbrev pub Keeps : Unfinished → Unfinished → Open → ℕ → Type 0
Keeps old new o name = (unknown : OpenSlice) × (new ≡ record { name = old.name; steps = old.steps; slices = old.slices; stage = stages.Open unknown })
    × (opened unknown ≡ record { front = o.front; next = o.next; table = o.table ++ name ∷ []; left = o.left - 1 })

-- What is left with the members of this slice is what is now left, and reading stands anywhere.
abbrev pub Pauses : SlicedType → Tables → Unfinished → Unfinished → CompactSlice → Type 0
Pauses sort t old new slice = (inside : Inside (State ℕ)) (s : State ℕ) (r : Rest)
    → made (behind (view_slices old.slices)) (left_compact inside sort t old.steps slice) s r ≡ left_slices inside sort t new s r

-- what was to be read, by what a step answered: what is now left; or all slices; or an instance that begins, and then what is left
abbrev pub Advances : Inside (State ℕ) → SlicedType → Tables → Unfinished → Result (Step (Unit {0})) ReadFault → Result (List graphs.Slice × State ℕ × Rest) Fault → State ℕ → Rest → Type 0
Advances inside sort t now result read s r = StepsReading inside (left_slices inside sort t now) (λ _. view_slices now.slices) result read s r

-- what a call answers that reads on, of all that is left; however the instances are read that begin
abbrev pub ReadsOn : SlicedType → Tables → Unfinished → Unfinished → Result (Paused (Unit {0})) ReadFault → State ℕ → Rest → State ℕ → Rest → Type 0
ReadsOn sort t old now result s r s' r' = (inside : Inside (State ℕ)) → GoesOnReading inside (left_slices inside sort t now) (λ _. view_slices now.slices) result (left_slices inside sort t old s r) s' r'

-- a step, of what is left from a stage on
abbrev pub StepsOn : SlicedType → Tables → Unfinished → Stage → Unfinished → Result (Step (Unit {0})) ReadFault → State ℕ → Rest → State ℕ → Rest → Type 0
StepsOn sort t old stage now result s r s' r' = (inside : Inside (State ℕ)) → Advances inside sort t now result (left_by inside sort t old stage s r) s' r'

-- What is left behind a slice more is what is now left.
abbrev pub Completes : Unfinished → Slice → Option flags.Before → Unfinished → Type 0
Completes old slice next now = (inside : Inside (State ℕ)) (sort : SlicedType) (t : Tables) (s : State ℕ) (r : Rest)
    → left_behind inside sort t old.steps (old.slices ++ slice ∷ []) next s r ≡ left_slices inside sort t now s r

-- ---- that reading ends

-- how many instances may still begin
abbrev pub room : State ℕ → ℕ
room s = most_instances - length s.instances

-- the slice that has begun, and then slices
abbrev pub work_left : Unfinished → ℕ
work_left u = u.steps * (2 ^ 33) + stage_work u.stage
