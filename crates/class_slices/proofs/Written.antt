-- What comes of writing an exception.
use Rattle.std.proofs.Common.{◌≡◌, ℕ, List, [], ◌++◌, ◌∙◌, subst, Ok, Err}
use Rattle.std.specs.Prelude.{Vec}
use Rattle.std.specs.declared.alloc.Global.{Global}
use Rattle.ice_types.specs.Tables.{Tables}
use Rattle.ice_encoding.specs.CanonicalGraph.{Format, sliced, compact}
use Rattle.ice_encoding.specs.Exceptions.{of_exceptions, UserException}
use Rattle.ice_encoding.specs.Graph.{Slice, Graph}
use Rattle.ice_encoding.specs.UserExceptionTyped.{OfUserException}
use Rattle.ice_encoding.specs.UserExceptionWritten.{graph_of, form_of, user_exception_bytes, canonical_user_exception, CanBeWritten}
use Rattle.ice_encoding.specs.TypedGraph.{RefersIn}
use Rattle.graph_arena.specs.Arena.{IsSound}
use Rattle.graph_laws.proofs.UserExceptionForms.{shape_of, graph_typed}
use Rattle.class_slices.specs.Enclosing.{Closes, unsized}
use Rattle.class_slices.proofs.FirstUnknown.{first_known, writable}
use Rattle.class_slices.specs.declared.user_exception_fault.UserExceptionFault.TheVariants.{TooLong}
use Rattle.class_slices.specs.ExceptionEncoding.{EncodesException}
use Rattle.class_slices.specs.ExceptionUnknown.{Carries}

-- ---- what the format can carry

can-be-written : (t : Tables) (x : UserException) → OfUserException t x → IsSound (graph_of x) → (f : Format) → Carries f x.slices (graph_of x) → CanBeWritten f x
can-be-written t x typed sound sliced carries = (tt, writable t (shape_of x) sliced (graph_of x) (graph_typed t x typed) sound (λ none. none))
can-be-written t x typed sound compact carries =
    (first_known (of_exceptions t) (RefersIn t x.instances) x.slices typed.slices carries.0, writable t (shape_of x) compact (graph_of x) (graph_typed t x typed) sound (λ (n, reached). carries.1 n reached))

pub allowed : (t : Tables) (x : UserException) → OfUserException t x → (arena : Graph) → arena ≡ graph_of x → IsSound arena → (f : Format) (slices : List Slice) → slices ≡ x.slices → Carries f slices arena → CanBeWritten f x
allowed t x typed arena rooted sound f slices same carries =
    can-be-written t x typed (subst IsSound rooted sound) f (subst (Carries f x.slices) rooted (subst (λ (l : List Slice). Carries f l arena) same carries))

-- ---- the bytes

module _ (t : Tables) (f : Format) (x : UserException) (typed : OfUserException t x) (can : CanBeWritten f x) (limit : ℕ) where
  content-is : (k : UserException) (begun out : List ℕ) → k ≡ form_of x → begun ≡ unsized [] → out ≡ begun ++ user_exception_bytes t f k → out ≡ unsized (canonical_user_exception t f x)
  unfolding canonical_user_exception
  content-is k begun out is begun_is out_is = out_is ∙ (λ i. begun_is i ++ user_exception_bytes t f (is i))

  pub closed : (k : UserException) (begun bytes : List ℕ) (out : Vec ℕ Global) → k ≡ form_of x → begun ≡ unsized [] → bytes ≡ begun ++ user_exception_bytes t f k → Closes bytes limit (Ok out) → EncodesException t f x limit (Ok out)
  closed k begun bytes out is begun_is out_is closes =
      let h = closes (canonical_user_exception t f x) (content-is k begun bytes is begun_is out_is) in
      (typed, can, h.0, h.1)

  pub too-long : (k : UserException) (begun bytes : List ℕ) (n : ℕ) → k ≡ form_of x → begun ≡ unsized [] → bytes ≡ begun ++ user_exception_bytes t f k → Closes bytes limit (Err n) → EncodesException t f x limit (Err (TooLong n))
  too-long k begun bytes n is begun_is out_is closes =
      let h = closes (canonical_user_exception t f x) (content-is k begun bytes is begun_is out_is) in
      (typed, can, h.0, h.1)
