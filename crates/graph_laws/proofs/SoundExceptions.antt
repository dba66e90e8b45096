-- An exception that is read is of its type, and within the limit of instances.
use Rattle.std.proofs.Common.{arith, ℕ, pos, ◌+◌, ◌≤◌, List, [], ◌∷◌, length, refl, subst}
use Rattle.std.specs.Int.{w32}
use Rattle.ice_types.specs.Tables.{Tables}
use Rattle.ice_types.specs.Rules.{IsSchema}
use Rattle.ice_prims.specs.Rest.{IsBytes}
use Rattle.ice_prims.specs.Bytes.{signed_bytes}
use Rattle.ice_encoding.specs.declared.limits.TheConstants.{LARGEST, SMALLEST}
use Rattle.ice_encoding.specs.Exceptions.{of_exceptions, UserException, SpellsUserException, SpellsException}
use Rattle.ice_encoding.specs.Graph.{Slice}
use Rattle.ice_encoding.specs.Flags.{Reach, first}
use Rattle.ice_encoding.specs.References.{opening}
use Rattle.ice_encoding.specs.Instances.{most_instances, instances, slices_of, AllFit}
use Rattle.graph_laws.proofs.Carried.{rest_fits}
use Rattle.ice_encoding.specs.TypedGraph.{RefersIn, RefersUpTo}
use Rattle.ice_encoding.specs.UserExceptionTyped.{OfUserException}
use Rattle.graph_laws.proofs.Wider.{instance_wider}
use Rattle.graph_laws.proofs.Texts.{instances_texts}
use Rattle.graph_laws.proofs.UserExceptionTexts.{user_exception_texts}
use Rattle.graph_laws.proofs.UserExceptionStates.{exception_typed}

module _ (t : Tables) (reach : Reach) (rules : IsSchema t) where
  content_of : (bytes : List ℕ) (x : UserException) → IsBytes bytes → SpellsUserException t reach bytes x → OfUserException t x × (length x.instances ≤ most_instances)
  unfolding SpellsUserException
  content_of bytes x fits (end, n, h, same, fit) =
      let fit_x : AllFit t x.instances end.met = subst (λ (is : List (List Slice)). AllFit t is end.met) same fit in
      let utf8 = user_exception_texts reach (of_exceptions t) (instances t reach most_instances most_instances) (instances_texts t reach most_instances most_instances) n first bytes x.slices opening end fits h tt in
      let r = exception_typed t rules reach x.instances most_instances most_instances n bytes x.slices end fits h same fit_x utf8 in
      (record { slices = instance_wider (of_exceptions t) (RefersUpTo t LARGEST x.instances) (RefersIn t x.instances) (omega arith) (λ declared m held. held) x.slices r.0; type_ids = r.1; instances = λ m lt. instance_wider t (RefersUpTo t LARGEST x.instances) (RefersIn t x.instances) (omega arith) (λ declared i held. held) (slices_of x.instances m) (r.2 m lt) }, r.3)

  pub user_exception_sound : (bytes : List ℕ) (x : UserException) → IsBytes bytes → SpellsException t reach bytes x → OfUserException t x × (length x.instances ≤ most_instances)
  user_exception_sound bytes x fits (content, is, short, h) =
      let inside = rest_fits bytes (signed_bytes w32 (pos (SMALLEST + length content))) (1 ∷ 1 ∷ content) is fits in
      content_of content x (rest_fits (1 ∷ 1 ∷ content) (1 ∷ 1 ∷ []) content refl inside) h
