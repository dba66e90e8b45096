-- What an operation that every object has gives, from its parts.
use Rattle.std.proofs.Common.{ℕ, true, List, Ok, Err, refl, sym, subst}
use Rattle.std.specs.Prelude.{Result}
use Rattle.ice_types.specs.Tables.{Tables}
use Rattle.ice_encoding.specs.Graph.{Graph}
use Rattle.ice_messages.specs.declared.message.Call.{Call}
use Rattle.object_adapter.specs.declared.refusal.Refusal.{Refusal}
use Rattle.object_adapter.specs.declared.refusal.Unanswered.{Unanswered}
use Rattle.object_adapter.specs.declared.refusal.Unanswered.TheVariants.{Refused, Memory}
use Rattle.object_adapter.specs.declared.own.Own.{Own}
use Rattle.object_adapter.specs.Refusals.{Outcome}
use Rattle.object_adapter.specs.Admitting.{Comes, IsEnclosed, IsRefusedLength}
use Rattle.object_adapter.specs.Own.{OwnActs, OwnGives, OwnGivesIn, OwnOverflows, OwnRefuses, own_shape}

module _ (t : Tables) (interface : ℕ) (own : Own) (g : Graph) where
  -- from what the results hold
  pub own_enclosed : (content : List ℕ) (r : Result (List ℕ) Unanswered) → OwnGives t interface own g content → Outcome (IsEnclosed content) (IsRefusedLength content) r
      → Outcome (OwnGivesIn t interface own g) (OwnOverflows t interface own g) r
  own_enclosed content (Ok results) gives is = (content, gives, is)
  own_enclosed content (Err (Refused refusal)) gives is = (is.0, (content, gives, is.1))
  own_enclosed content (Err Memory) gives is = tt

  -- from the arguments
  pub own_acted : (call : Call) (r : Result (List ℕ) Unanswered) → Comes t true (own_shape own) call g → Outcome (OwnGivesIn t interface own g) (OwnOverflows t interface own g) r
      → Outcome (OwnActs t interface own call) (OwnRefuses t interface own call) r
  own_acted call (Ok results) comes (content, gives, is) = (g, content, comes, gives, is)
  own_acted call (Err (Refused refusal)) comes over = subst (λ (f : Refusal). OwnRefuses t interface own call f) (sym over.0) (g, comes, (refl, over.1))
  own_acted call (Err Memory) comes over = tt
