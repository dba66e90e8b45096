-- A user exception: slices in the same way. Each has its type id as a text, with both bits of a type id clear, and that is not counted.
-- (Ice manual, "Data Encoding for Class and Exception Types".)
use Rattle.std.specs.Prelude.{ℕ, zero, suc, ◌≡◌, ◌≢◌, Bool, true, false, not, ◌&&◌, ◌||◌, List, [], ◌∷◌, length, map, Option, None, Some, is_none, Result}
use Rattle.ice_types.specs.declared.declarations.ClassDecl.{ClassDecl}
use Rattle.ice_types.specs.declared.declarations.ExceptionDecl.{ExceptionDecl}
use Rattle.ice_types.specs.Tables.{Tables}
use Rattle.ice_prims.specs.declared.fault.Fault.{Fault}
use Rattle.ice_prims.specs.declared.fault.Kind.TheVariants.{Short}
use Rattle.ice_prims.specs.Rest.{Rest, fault, ◌>>=◌}
use Rattle.ice_encoding.specs.Bounds.{ended, filled}
use Rattle.ice_encoding.specs.Encapsulation.{Encapsulated, encapsulated_at}
use Rattle.ice_encoding.specs.Port.{Port, Reader, Speller}
use Rattle.ice_encoding.specs.Spelling.{Plain}
use Rattle.ice_encoding.specs.Reading.{plain}
use Rattle.ice_encoding.specs.Steps.{followed, Followed, given, Given}
use Rattle.ice_encoding.specs.Classes.{class_named, base_of}
use Rattle.ice_encoding.specs.Graph.{Slice}
use Rattle.ice_encoding.specs.Joining.{placed}
use Rattle.ice_encoding.specs.References.{State, opening}
use Rattle.ice_encoding.specs.Flags.{Flags, Reach, has_id, Before, first, only_unknown, derived, SpellsFlags, flags_at}
use Rattle.ice_encoding.specs.TypeIds.{SpellsTypeId, type_id_at, before_next}
use Rattle.ice_encoding.specs.Slices.{FromId, from_id}
use Rattle.ice_encoding.specs.Instances.{references, AllFit, misfit, unless_misfit}

-- the tables in which the classes of slices are the exceptions
abbrev pub as_class : ExceptionDecl → ClassDecl
as_class e = record { id = e.id; base = e.base; compact = None; members = e.members }

-- tables in which the exceptions are the classes
abbrev pub of_exceptions : Tables → Tables
of_exceptions t = record t { classes = map as_class t.exceptions }

-- no bits of a type id; sizes and tables as in an instance
abbrev pub may_be_raised : Before → Flags → Bool
may_be_raised first f = not (has_id f.id) && (f.has_size || not f.has_table)
may_be_raised only_unknown f = not (has_id f.id) && f.has_size
may_be_raised (derived true base) f = not (has_id f.id) && f.has_size
may_be_raised (derived false base) f = not (has_id f.id) && (not f.has_size && not f.has_table)

-- ---- the last slice. Some writers leave its flag out, and there alone that is no fault.

-- a known exception with a base is not the last
abbrev pub may_be_last : Tables → Option ℕ → Flags → Bool
may_be_last t None f = true
may_be_last t (Some exception) f = not f.is_last || is_none (base_of t exception)

-- whether the flag says so, or it is a known exception without a base
abbrev pub is_known_last : Tables → Option ℕ → Flags → Bool
is_known_last t None f = f.is_last
is_known_last t (Some exception) f = is_none (base_of t exception)

-- Behind the last nothing stands. An unknown one without the flag is the last where the content ends behind it.
abbrev pub BehindUserException : Speller (State (Unit {0})) (List Slice) → Bool → Option ℕ → Speller (State (Unit {0})) (List Slice)
BehindUserException Next true exception = Given []
BehindUserException Next false (Some exception) = Next
BehindUserException Next false None = λ bytes slices from to. (bytes ≡ [] → Given [] bytes slices from to) × (bytes ≢ [] → Next bytes slices from to)

abbrev pub unless_ended : Reader (State ℕ) (List Slice) → List ℕ → Reader (State ℕ) (List Slice)
unless_ended next [] = given []
unless_ended next (b ∷ bs) = next

abbrev pub behind_user_exception : Reader (State ℕ) (List Slice) → Bool → Option ℕ → Reader (State ℕ) (List Slice)
behind_user_exception next true exception = given []
behind_user_exception next false (Some exception) = next
behind_user_exception next false None = λ s r. unless_ended next r.bytes s r

module _ (port : Port (State ℕ) (State (Unit {0}))) (t : Tables) (reach : Reach) where
  -- so many slices, up to the last
  abbrev pub UserExceptionSlices : ℕ → Before → Speller (State (Unit {0})) (List Slice)
  UserExceptionSlices zero before bytes slices from to = ⊥
  UserExceptionSlices (suc n) before bytes slices from to = Followed (Plain (SpellsFlags (may_be_raised before))) (λ f. Followed (Plain SpellsTypeId)
      (λ id. let class = class_named t id in FromId port t reach (BehindUserException (UserExceptionSlices n (before_next t class f)) (is_known_last t class f) class) (may_be_last t class f) before f id class)) bytes slices from to

  -- the same, within so many steps
  abbrev pub user_exception_slices : ℕ → Before → Reader (State ℕ) (List Slice)
  user_exception_slices zero before s r = fault r.place Short
  user_exception_slices (suc steps) before s r = placed (λ flags_place. followed (plain (flags_at (may_be_raised before))) (λ f. placed (λ id_place. followed (plain type_id_at)
      (λ id. let class = class_named t id in from_id port.read t reach (behind_user_exception (user_exception_slices steps (before_next t class f)) (is_known_last t class f) class) (may_be_last t class f) before f flags_place id_place id class)))) s r

-- ---- an exception as a whole

-- its slices, and the instances that begin in them
pub record UserException : Type 0 where
  pub slices : List Slice
  pub instances : List (List Slice)

-- the slices of an exception, and what begins in them
unfoldable pub SpellsUserException : Tables → Reach → List ℕ → UserException → Type 0
SpellsUserException t reach bytes x = (end : State (Unit {0})) × (n : ℕ) × UserExceptionSlices (references t reach) (of_exceptions t) reach n first bytes x.slices opening end
    × (end.instances ≡ x.instances) × AllFit t end.instances end.met

-- Whether classes fit is tested where all else is spelled, the end among it.
unfoldable pub user_exception_at : Tables → Reach → Rest → Result (UserException × Rest) Fault
user_exception_at t reach r = user_exception_slices (references t reach) (of_exceptions t) reach (length r.bytes) first opening r >>= λ x.
    ended x.2.bytes x.2.place x >>= λ x. unless_misfit (misfit t x.1.instances x.1.met) (record { slices = x.0; instances = x.1.instances }, x.2)

-- an encapsulation that holds the exception alone
abbrev pub SpellsException : Tables → Reach → List ℕ → UserException → Type 0
SpellsException t reach = Encapsulated (SpellsUserException t reach)

-- reading an encapsulation that holds one alone
abbrev pub exception_at : Tables → Reach → Rest → Result UserException Fault
exception_at t reach = filled (encapsulated_at (user_exception_at t reach))
