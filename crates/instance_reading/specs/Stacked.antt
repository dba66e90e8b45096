-- What is still read where instances have begun in one another, and what reading a whole content or exception answers.
use Rattle.std.specs.Prelude.{ℕ, zero, suc, ◌≡◌, ◌+◌, ◌*◌, ◌≤◌, List, [], ◌∷◌, length, map, Option, Result, Ok, Err}
use Rattle.ice_types.specs.declared.declarations.Shape.{Shape}
use Rattle.ice_types.specs.Tables.{Tables}
use Rattle.ice_prims.specs.declared.fault.Fault.{Fault}
use Rattle.ice_prims.specs.declared.fault.ReadFault.{ReadFault}
use Rattle.ice_prims.specs.Rest.{Rest, ◌>>=◌}
use Rattle.ice_prims.specs.Taking.{Fails}
use Rattle.ice_encoding.specs.Port.{Reader, nowhere}
use Rattle.ice_encoding.specs.Pausing.{Inside}
use Rattle.ice_encoding.specs.OptionalMembers as defs
use Rattle.ice_encoding.specs.Exceptions.{UserException, of_exceptions, user_exception_slices}
use Rattle.ice_encoding.specs.Graph as graphs
use Rattle.ice_encoding.specs.Flags.{first, all_slices}
use Rattle.ice_encoding.specs.References.{State, instance_by, with_ended}
use Rattle.ice_encoding.specs.Instances.{most_instances, instances, references}
use Rattle.ice_encoding.specs.Slices.{instance_at}
use Rattle.graph_arena.specs.declared.instance.Members.{Members}
use Rattle.graph_arena.specs.declared.instance.Slice.{Slice}
use Rattle.graph_arena.specs.Seen.{view_content, view_instance, view_slices}
use Rattle.value_parts.specs.declared.sliced_type.SlicedType.TheVariants as sorts
use Rattle.slice_heads.specs.declared.before.Before.TheVariants as befores
use Rattle.instance_reading.specs.declared.slice.Stage.TheVariants as stages
use Rattle.instance_reading.specs.declared.unfinished.Unfinished.{Unfinished}
use Rattle.instance_reading.specs.declared.waiting.Waiting.{Waiting}
use Rattle.instance_reading.specs.declared.waiting.Waiting.TheVariants as waits
use Rattle.instance_reading.specs.declared.decoder.Content.{Content}
use Rattle.instance_reading.specs.declared.exception.UserExceptionContent.{UserExceptionContent}
use Rattle.instance_reading.specs.Unfinished.{left_slices, room}

-- how references are read where so many more instances may begin in one another
abbrev pub refer_within : Tables → ℕ → Option ℕ → Reader (State ℕ) (Option ℕ)
refer_within t more = (instances t all_slices most_instances more).read

-- an instance that begins where so many more may
unfoldable pub instance_within : Tables → ℕ → Inside (State ℕ)
instance_within t zero = instance_by most_instances (λ s r. nowhere r)
instance_within t (suc more) = instance_by most_instances (instance_at (refer_within t more) t all_slices)

-- what is left of an instance, which has ended then
abbrev pub left_instance : Tables → ℕ → Unfinished → State ℕ → Rest → Result (State ℕ × Rest) Fault
left_instance t more u s r = left_slices (instance_within t more) sorts.Class t u s r >>= λ x. Ok (with_ended u.name x.0 x.1, x.2)

-- an instance that waits, where it is read on
abbrev pub resumed : Waiting → Unfinished
resumed (waits.Begun name steps) = record { name = name; steps = steps; slices = []; stage = stages.Next befores.First }
resumed (waits.Whole name slices) = record { name = name; steps = 0; slices = slices; stage = stages.Over }
resumed (waits.Open u) = u.value

-- the same is left of it, by the same name
pub record WaitsFor (u : Unfinished) (w : Waiting) : Type 0 where
  pub name : (resumed w).name ≡ u.name
  pub left : (inside : Inside (State ℕ)) (t : Tables) (s : State ℕ) (r : Rest) → left_slices inside sorts.Class t (resumed w) s r ≡ left_slices inside sorts.Class t u s r

-- What is left of the instances on the stack, where so many more may begin in one another. The outermost stands first.
abbrev pub left_stack : Tables → ℕ → List Unfinished → State ℕ → Rest → Result (State ℕ × Rest) Fault
left_stack t more [] s r = Ok (s, r)
left_stack t zero (u ∷ us) s r = nowhere r
left_stack t (suc more) (u ∷ us) s r = left_stack t more us s r >>= λ x. left_instance t more u x.0 x.1

unfoldable pub stack_left : Tables → List Unfinished → State ℕ → Rest → Result (State ℕ × Rest) Fault
stack_left t stack = left_stack t most_instances stack

-- ---- what a step answers

-- what is then left, or the fault
abbrev pub StepsNesting : {X : Type 0} → Tables → Result X ReadFault → Result (State ℕ × Rest) Fault → List Unfinished → State ℕ → Rest → Type 0
StepsNesting t (Ok x) read stack s r = read ≡ stack_left t stack s r
StepsNesting t (Err e) read stack s r = Fails e read

-- an instance is read whole, or it is the fault
abbrev pub ReadsInstance : {X : Type 0} → Result X ReadFault → Result (State ℕ × Rest) Fault → State ℕ → Rest → Type 0
ReadsInstance (Ok x) read s r = read ≡ Ok (s, r)
ReadsInstance (Err e) read s r = Fails e read

-- the instances that have not ended, and those that may still begin, are no more than there may be
abbrev pub is_within : List Unfinished → State ℕ → Type 0
is_within stack s = length stack + room s ≤ most_instances

-- how many steps are left
abbrev pub steps_left : List Unfinished → State ℕ → ℕ
steps_left stack s = 2 * room s + length stack

-- ---- a whole content

-- the members and what was met, or the fault
abbrev pub ReadsRoots : Result Members ReadFault → Result (defs.Members × State ℕ × Rest) Fault → State ℕ → Rest → Type 0
ReadsRoots (Ok m) read s r = read ≡ Ok (view_content m, s, r)
ReadsRoots (Err e) read s r = Fails e read

abbrev pub roots_at : Tables → Shape → Reader (State ℕ) defs.Members
roots_at t shape = defs.content_at (references t all_slices).read t shape

abbrev pub view_graph : Content → graphs.Graph
view_graph c = record { roots = view_content c.roots; instances = map view_instance c.instances.items }

-- the graph, or the fault
abbrev pub ReadsGraph : Result Content ReadFault → Result (graphs.Graph × Rest) Fault → Rest → Type 0
ReadsGraph (Ok c) read r = read ≡ Ok (view_graph c, r)
ReadsGraph (Err e) read r = Fails e read

-- ---- a whole exception

-- the slices and what was met, or the fault
abbrev pub ReadsSlices : Result (List Slice) ReadFault → Result (List graphs.Slice × State ℕ × Rest) Fault → State ℕ → Rest → Type 0
ReadsSlices (Ok slices) read s r = read ≡ Ok (view_slices slices, s, r)
ReadsSlices (Err e) read s r = Fails e read

abbrev pub exception_slices : Tables → Reader (State ℕ) (List graphs.Slice)
exception_slices t s r = user_exception_slices (references t all_slices) (of_exceptions t) all_slices (length r.bytes) first s r

abbrev pub view_user_exception : UserExceptionContent → UserException
view_user_exception c = record { slices = view_slices c.slices; instances = map view_instance c.instances.items }

-- the exception, or the fault
abbrev pub ReadsUserException : Result UserExceptionContent ReadFault → Result (UserException × Rest) Fault → Rest → Type 0
ReadsUserException (Ok c) read r = read ≡ Ok (view_user_exception c, r)
ReadsUserException (Err e) read r = Fails e read
