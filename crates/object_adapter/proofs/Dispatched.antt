-- No object answers that the object or the facet of a call is not there.
use Rattle.std.proofs.Common.{◌≡◌, ◌≢◌, ℕ, List, ap, sym, inl, inr, ◌∙◌}
use Rattle.ice_messages.specs.declared.message.Call.{Call}
use Rattle.ice_messages.specs.declared.message.Answer.{Answer}
use Rattle.ice_messages.specs.declared.message.Answer.TheVariants.{Done}
use Rattle.ice_messages.specs.Calls.{status_of}
use Rattle.object_adapter.specs.declared.servant.Servant.{Servant}
use Rattle.object_adapter.specs.declared.servant.Servant.TheVariants.{Store, Echo, Locator}
use Rattle.object_adapter.specs.declared.refusal.Refusal.{Refusal}
use Rattle.object_adapter.specs.declared.refusal.Refusal.TheVariants.{NoOperation, BadMode, BadArguments, TooLong}
use Rattle.object_adapter.specs.Refusals.{told}
use Rattle.object_adapter.specs.Servants.{Does}
use Rattle.object_adapter.specs.Laws.{IsDispatched, ObjectsAreThere}

-- a status that is neither
other : (answer : Answer) (n : ℕ) → status_of answer ≡ n → n ≢ 2 → n ≢ 3 → IsDispatched answer
other answer n is two three = (λ e. two (sym is ∙ e), λ e. three (sym is ∙ e))

done : (answer : Answer) (results : List ℕ) → answer ≡ Done results → IsDispatched answer
done answer results is = other answer 0 (ap status_of is) (λ e. cc) (λ e. cc)

refused : (call : Call) (refusal : Refusal) → IsDispatched (told call refusal)
refused call NoOperation = (λ e. cc, λ e. cc)
refused call BadMode = (λ e. cc, λ e. cc)
refused call (BadArguments fault) = (λ e. cc, λ e. cc)
refused call TooLong = (λ e. cc, λ e. cc)

does : (old : Servant) (call : Call) (answer : Answer) (new : Servant) → Does old call answer new → IsDispatched answer
does (Store s) call answer new (results, after, is, then, same, acts) = done answer results is
does (Echo e) call answer new (results, is, same, acts) = done answer results is
does (Locator l) call answer new (same, (sought, g, name, comes, inl (p, found, (results, enclosed, is)))) = done answer results is
does (Locator l) call answer new (same, (sought, g, name, comes, inr (none, (is, short)))) = other answer 1 (ap status_of is) (λ e. cc) (λ e. cc)

pub dispatched : ObjectsAreThere
dispatched old call answer new (inl (inl (own, results, name, acts, is, same))) = done answer results is
dispatched old call answer new (inl (inr (name, gives))) = does old call answer new gives
dispatched old call answer new (inr (refusal, is, refuses, same)) = let told_is = refused call refusal in other answer (status_of (told call refusal)) (ap status_of is) told_is.0 told_is.1
