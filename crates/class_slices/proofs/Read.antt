-- What is read is an exception of its type, and the graph of its instances is sound.
use Rattle.std.proofs.Common.{◌≡◌, ℕ, ◌≤◌, List, [], length, Ok, refl, sym, ap, subst, ◌∙◌}
use Rattle.ice_types.specs.declared.declarations.Shape.{Shape}
use Rattle.ice_types.specs.Tables.{Tables}
use Rattle.ice_types.specs.Rules.{IsSchema}
use Rattle.ice_prims.specs.Rest.{Rest, whole, ◌>>=◌, IsBytes}
use Rattle.ice_prims.proofs.Parts.{then_ok}
use Rattle.ice_encoding.specs.Bounds.{ended}
use Rattle.ice_encoding.specs.Opening.{opened_at}
use Rattle.ice_encoding.specs.Encapsulation.{encapsulated_at}
use Rattle.ice_encoding.specs.OptionalMembers.{Members}
use Rattle.ice_encoding.specs.Exceptions.{of_exceptions, UserException, user_exception_slices, user_exception_at, exception_at}
use Rattle.ice_encoding.specs.Flags.{Reach, first}
use Rattle.ice_encoding.specs.Graph.{Slice, Graph}
use Rattle.ice_encoding.specs.Instances.{references, most_instances, misfit, unless_misfit}
use Rattle.ice_encoding.specs.UserExceptionTyped.{OfUserException}
use Rattle.ice_encoding.specs.References.{State, opening}
use Rattle.ice_encoding.specs.TypedGraph.{OfType}
use Rattle.ice_encoding.proofs.Ending.{ended_ok}
use Rattle.ice_encoding.proofs.Exceptions.{exception_found}
use Rattle.ice_encoding.proofs.Graphs.{unless_ok}
use Rattle.graph_arena.specs.Arena.{IsSound}
use Rattle.graph_laws.proofs.SoundExceptions.{user_exception_sound}
use Rattle.class_slices.proofs.Sound.{typed-sound}
use Rattle.class_slices.specs.Seen.{no_members}

-- nothing is left behind the slices
user_exception-ends : (t : Tables) (reach : Reach) (r : Rest) (y : UserException × Rest) → user_exception_at t reach r ≡ Ok y → y.1.bytes ≡ []
unfolding user_exception_at
user_exception-ends t reach r y e =
    then_ok (user_exception_slices (references t reach) (of_exceptions t) reach (length r.bytes) first opening r)
    (λ x. ended x.2.bytes x.2.place x >>= λ x. unless_misfit (misfit t x.1.instances x.1.met) (record { slices = x.0; instances = x.1.instances }, x.2)) y e λ x x_is later.
    then_ok (ended x.2.bytes x.2.place x) (λ x. unless_misfit (misfit t x.1.instances x.1.met) (record { slices = x.0; instances = x.1.instances }, x.2)) y later λ z z_is last.
    ended_ok x.2.bytes x.2.place x z z_is λ empty x_z.
    unless_ok (misfit t z.1.instances z.1.met) (record { slices = z.0; instances = z.1.instances }, z.2) y last λ none same.
    ap (λ (w : UserException × Rest). w.1.bytes) (sym same) ∙ (ap (λ (w : List Slice × State ℕ × Rest). w.2.bytes) (sym x_z) ∙ empty)

-- ---- the graph of its instances has no roots

abbrev empty : Shape
empty = record { required = []; optional = [] }

abbrev pub instances_of : UserException → Graph
instances_of x = record { roots = no_members; instances = x.instances }

instances-sound : (t : Tables) (x : UserException) → OfUserException t x → length x.instances ≤ most_instances → IsSound (instances_of x)
instances-sound t x typed few =
    let of_type : OfType t empty (instances_of x) = record { roots = record { required = refl; optional = tt }; instances = typed.instances } in
    typed-sound t empty (instances_of x) of_type few

pub with-roots : (x : UserException) (roots : Members) → roots ≡ no_members → IsSound (instances_of x) → IsSound (record { roots = roots; instances = x.instances })
with-roots x roots is sound = subst (λ (m : Members). IsSound (record { roots = m; instances = x.instances })) (sym is) sound

-- ---- the encapsulation

pub taken : (t : Tables) (reach : Reach) (from start inside behind rest : Rest) (x : UserException) → start ≡ from → opened_at start ≡ Ok (inside, behind) → user_exception_at t reach inside ≡ Ok (x, rest)
    → encapsulated_at (user_exception_at t reach) from ≡ Ok (x, behind)
taken t reach from start inside behind rest x same opened is =
    let ends : rest.bytes ≡ [] = user_exception-ends t reach inside (x, rest) is in
    let here : encapsulated_at (user_exception_at t reach) start ≡ Ok (x, behind) = rw (opened, is, ends) refl in
    subst (λ (r : Rest). encapsulated_at (user_exception_at t reach) r ≡ Ok (x, behind)) same here

whole-is : (t : Tables) (reach : Reach) (start behind : Rest) (x : UserException) → encapsulated_at (user_exception_at t reach) start ≡ Ok (x, behind) → behind.bytes ≡ [] → exception_at t reach start ≡ Ok x
whole-is t reach start behind x is none = rw (is, none) refl

-- what is read, from what each step of reading answers
pub record IsRead (t : Tables) (reach : Reach) (bytes : List ℕ) (x : UserException) : Type 0 where
  pub reads : exception_at t reach (whole bytes) ≡ Ok x
  pub typed : OfUserException t x
  pub sound : IsSound (instances_of x)

pub read-is : (t : Tables) (reach : Reach) (bytes : List ℕ) (start behind : Rest) (x : UserException) → IsSchema t → start ≡ whole bytes → IsBytes start.bytes → encapsulated_at (user_exception_at t reach) start ≡ Ok (x, behind) → behind.bytes ≡ []
    → IsRead t reach bytes x
read-is t reach bytes start behind x rules from fits is none =
    let reads : exception_at t reach (whole bytes) ≡ Ok x = subst (λ (r : Rest). exception_at t reach r ≡ Ok x) from (whole-is t reach start behind x is none) in
    let inside : IsBytes bytes = subst (λ (r : Rest). IsBytes r.bytes) from fits in
    let h = user_exception_sound t reach rules bytes x inside (exception_found t reach bytes x inside reads) in
    record { reads = reads; typed = h.0; sound = instances-sound t x h.0 h.1 }
