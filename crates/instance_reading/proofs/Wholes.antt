-- A whole content and a whole exception, by what is left of them.
use Rattle.std.proofs.Common.{◌≡◌, ℕ, zero, suc, List, [], length, Option, None, Some, Result, Ok, Err, refl, ap, ◌∙◌}
use Rattle.ice_types.specs.declared.declarations.Shape.{Shape}
use Rattle.ice_types.specs.Tables.{Tables}
use Rattle.ice_prims.specs.declared.fault.Fault.{Fault}
use Rattle.ice_prims.specs.declared.fault.ReadFault.{ReadFault}
use Rattle.ice_prims.specs.Rest.{Rest, fault, ◌>>=◌}
use Rattle.ice_prims.specs.declared.fault.Kind.TheVariants.{Short, WrongClass}
use Rattle.ice_prims.specs.Taking.{Fails}
use Rattle.ice_encoding.specs.Bounds.{ended}
use Rattle.ice_encoding.specs.Port.{Port, Reader}
use Rattle.ice_encoding.specs.Reading.{plain}
use Rattle.ice_encoding.specs.Steps.{followed}
use Rattle.ice_encoding.specs.OptionalMembers as defs
use Rattle.ice_encoding.specs.Classes.{class_named}
use Rattle.ice_encoding.specs.Exceptions.{UserException, of_exceptions, may_be_raised, may_be_last, is_known_last, behind_user_exception, user_exception_slices, user_exception_at}
use Rattle.ice_encoding.specs.Graph.{Slice, Graph}
use Rattle.ice_encoding.specs.Flags.{first, all_slices, flags_at}
use Rattle.ice_encoding.specs.Instances.{most_instances, references, graph_at, misfit, unless_misfit}
use Rattle.ice_encoding.specs.Joining.{placed}
use Rattle.ice_encoding.specs.References.{State, inline_at, opening}
use Rattle.ice_encoding.specs.Slices.{from_id}
use Rattle.ice_encoding.specs.TypeIds.{type_id_at, before_next}
use Rattle.value_parts.specs.declared.fields.Optionals.TheVariants.{ToEnd}
use Rattle.ice_values.specs.Advancing.{fresh_members}
use Rattle.value_parts.specs.Shapes.{told_apart}
use Rattle.ice_values.specs.Unread.{left_of_members}
use Rattle.ice_values.proofs.Stages.{left-content}
use Rattle.value_parts.specs.declared.sliced_type.SlicedType.TheVariants as sorts
use Rattle.instance_reading.specs.Slices.{refer_by}
use Rattle.slice_heads.specs.Sorts.{port_by}
use Rattle.instance_reading.specs.Unfinished.{begun, left_slices}
use Rattle.instance_reading.specs.Stacked.{instance_within, roots_at, exception_slices}
use Rattle.instance_reading.proofs.Heads.{fails_then}
use Rattle.instance_reading.proofs.Reopened.{IsLeftOver}
use Rattle.instance_reading.proofs.Stack.{refer_is, whole_slices}

-- ---- before the first byte

-- slices are read by how their port reads
same_port : (port : Port (State ℕ) (State (Unit {0}))) (refer : Option ℕ → Reader (State ℕ) (Option ℕ)) (u : Tables) → port.read ≡ refer → (steps : ℕ) → user_exception_slices port u all_slices steps ≡ user_exception_slices (port_by refer) u all_slices steps
same_port port refer u e zero = λ i before s r. fault r.place Short
same_port port refer u e (suc steps) = λ i before. placed (λ flags_place. followed (plain (flags_at (may_be_raised before))) (λ f. placed (λ id_place. followed (plain type_id_at)
    (λ id. let class = class_named u id in from_id (e i) u all_slices (behind_user_exception (same_port port refer u e steps i (before_next u class f)) (is_known_last u class f) class) (may_be_last u class f) before f flags_place id_place id class))))

module _ (t : Tables) where
  pub content-fresh : (handed : Shape) (s : State ℕ) (r : Rest) → roots_at t (told_apart handed) s r ≡ left_of_members (inline_at most_instances) t (instance_within t most_instances) handed (fresh_members ToEnd) s r
  content-fresh handed s r =
      ap (λ (refer : Option ℕ → Reader (State ℕ) (Option ℕ)). defs.content_at refer t (told_apart handed) s r) (refer_is t most_instances)
      ∙ left-content (inline_at most_instances) t (instance_within t most_instances) handed s r

  pub exception-fresh : (s : State ℕ) (r : Rest) → exception_slices t s r ≡ left_slices (instance_within t most_instances) sorts.Exception t (begun 0 r) s r
  exception-fresh s r =
      (λ i. same_port (references t all_slices) (refer_by (instance_within t most_instances)) (of_exceptions t) (refer_is t most_instances) (length r.bytes) i first s r)
      ∙ whole_slices (user_exception_slices (port_by (refer_by (instance_within t most_instances))) (of_exceptions t) all_slices (length r.bytes) first s r)

-- the first place where a class does not fit has the fault
abbrev pub Misfits : Tables → State ℕ → Fault → Type 0
Misfits t s e = (place : ℕ) × (misfit t s.instances s.met ≡ Some place) × (e ≡ record { place = place; kind = WrongClass })

-- ---- a whole content

module _ (t : Tables) (shape : Shape) (r : Rest) where
  abbrev fitted : defs.Members × State ℕ × Rest → Result (Graph × Rest) Fault
  fitted x = unless_misfit (misfit t x.1.instances x.1.met) (record { roots = x.0; instances = x.1.instances }, x.2)

  pub graph_refused : (e : ReadFault) → Fails e (roots_at t shape opening r) → Fails e (graph_at t all_slices shape r)
  unfolding graph_at
  graph_refused e h = fails_then e (roots_at t shape opening r) fitted h

  module _ (roots : defs.Members) (s : State ℕ) (after : Rest) (is : roots_at t shape opening r ≡ Ok (roots, s, after)) where
    pub graph_fits : misfit t s.instances s.met ≡ None → graph_at t all_slices shape r ≡ Ok (record { roots = roots; instances = s.instances }, after)
    unfolding graph_at
    graph_fits fits = ap (λ (x : Result (defs.Members × State ℕ × Rest) Fault). x >>= fitted) is ∙ rw fits refl

    pub graph_misfits : (e : Fault) → Misfits t s e → graph_at t all_slices shape r ≡ Err e
    unfolding graph_at
    graph_misfits e (place, misfits, same) = ap (λ (x : Result (defs.Members × State ℕ × Rest) Fault). x >>= fitted) is ∙ rw (misfits, same) refl

-- ---- a whole exception

module _ (t : Tables) (r : Rest) where
  abbrev fit : List Slice × State ℕ × Rest → Result (UserException × Rest) Fault
  fit x = unless_misfit (misfit t x.1.instances x.1.met) (record { slices = x.0; instances = x.1.instances }, x.2)

  abbrev at_end : List Slice × State ℕ × Rest → Result (UserException × Rest) Fault
  at_end x = ended x.2.bytes x.2.place x >>= fit

  pub user_exception_refused : (e : ReadFault) → Fails e (exception_slices t opening r) → Fails e (user_exception_at t all_slices r)
  unfolding user_exception_at
  user_exception_refused e h = fails_then e (exception_slices t opening r) at_end h

  module _ (slices : List Slice) (s : State ℕ) (after : Rest) (is : exception_slices t opening r ≡ Ok (slices, s, after)) where
    abbrev read : List Slice × State ℕ × Rest
    read = (slices, s, after)

    behind_slices : user_exception_at t all_slices r ≡ at_end read
    unfolding user_exception_at
    behind_slices = ap (λ (x : Result (List Slice × State ℕ × Rest) Fault). x >>= at_end) is

    pub user_exception_longer : (e : Fault) → IsLeftOver after e → user_exception_at t all_slices r ≡ Err e
    user_exception_longer e (byte, bytes, left, e_is) = behind_slices ∙ rw (left, e_is) refl

    pub user_exception_fits : after.bytes ≡ [] → misfit t s.instances s.met ≡ None → user_exception_at t all_slices r ≡ Ok (record { slices = slices; instances = s.instances }, after)
    user_exception_fits empty fits = behind_slices ∙ ap (λ (bytes : List ℕ). ended bytes after.place read >>= fit) empty ∙ rw fits refl

    pub user_exception_misfits : (e : Fault) → after.bytes ≡ [] → Misfits t s e → user_exception_at t all_slices r ≡ Err e
    user_exception_misfits e empty (place, misfits, same) = behind_slices ∙ ap (λ (bytes : List ℕ). ended bytes after.place read >>= fit) empty ∙ rw (misfits, same) refl
