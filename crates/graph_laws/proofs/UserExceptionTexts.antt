-- Type ids that stood as texts are UTF-8, in an exception too.
use Rattle.std.proofs.Common.{ℕ, zero, suc, Bool, true, false, List, [], ◌∷◌, refl, Option, Some, None}
use Rattle.ice_types.specs.Tables.{Tables}
use Rattle.ice_prims.specs.Rest.{IsBytes}
use Rattle.ice_encoding.specs.Port.{Port, Speller}
use Rattle.ice_encoding.specs.Exceptions.{BehindUserException, UserExceptionSlices}
use Rattle.ice_encoding.specs.Graph.{Slice}
use Rattle.ice_encoding.specs.References.{State}
use Rattle.ice_encoding.specs.Flags.{Reach, Before}
use Rattle.graph_laws.proofs.Carried.{front_fits, rest_fits}
use Rattle.graph_laws.proofs.Texts.{Spelled, Texts, stay, body_texts}

module _ (reach : Reach) (t : Tables) (port : Port (State ℕ) Spelled) (port_texts : (declared n : Option ℕ) (bytes : List ℕ) (from to : Spelled) → IsBytes bytes → port.Spells declared bytes n from to → Texts from to) where
  user_exception_behind : (Next : Speller Spelled (List Slice)) → ((bytes : List ℕ) (ss : List Slice) (from to : Spelled) → IsBytes bytes → Next bytes ss from to → Texts from to)
      → (last : Bool) (exception : Option ℕ) (bytes : List ℕ) (ss : List Slice) (from to : Spelled) → IsBytes bytes → BehindUserException Next last exception bytes ss from to → Texts from to
  user_exception_behind Next next true exception bytes ss from to fits h u = stay from to h.2 u
  user_exception_behind Next next false (Some exception) bytes ss from to fits h u = next bytes ss from to fits h u
  user_exception_behind Next next false None [] ss from to fits h u = stay from to (h.0 refl).2 u
  user_exception_behind Next next false None (b ∷ bs) ss from to fits h u = next (b ∷ bs) ss from to fits (h.1 (λ e. absurd cc)) u

  pub user_exception_texts : (n : ℕ) (ahead : Before) (bytes : List ℕ) (ss : List Slice) (from to : Spelled) → IsBytes bytes → UserExceptionSlices port t reach n ahead bytes ss from to → Texts from to
  user_exception_texts zero ahead bytes ss from to fits h u = absurd h
  user_exception_texts (suc n) ahead bytes ss from to fits (f, a, b, mid, parts, (flags, first_is), (id, c, d, next, cut, (is_id, second_is), (base, (read, (ends, (slice, g, h, end, pieces, body, (others, is, rest))))))) u =
      let fits_d = rest_fits b c d cut (rest_fits bytes a b parts fits) in
      user_exception_behind (UserExceptionSlices port t reach n _) (user_exception_texts n _) _ _ h others end to (rest_fits d g h pieces fits_d) rest
      (body_texts t reach port port_texts f id f.has_size _ g slice next end (front_fits d g h pieces fits_d) body (stay mid next second_is (stay from mid first_is u)))
