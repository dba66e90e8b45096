-- What a net tells of messages that were tried, one after the other.
use Rattle.std.proofs.Common.{◌≡◌, ℕ, List, [], ◌∷◌, ◌++◌, Option, refl, sym, ap, ◌∙◌}
use Rattle.ice_types.specs.declared.proxy.Endpoint.{Endpoint}
use Rattle.ice_ports.specs.Nets.{ToldNet}
use Rattle.ice_client.specs.ClientDid.{Tried, Made, attempted_all, failures_after}
use Rattle.ice_gateway.specs.Runs.{NetSeen, Ran, told_after_runs, failed_after_runs}

pub ran_none : (endpoints : List Endpoint) (n : NetSeen) → Ran endpoints [] n n
ran_none endpoints n = record { told = refl; failures = refl; listens = refl }

pub ran_one : (endpoints : List Endpoint) (tried : List Tried) (old new : NetSeen) → Made endpoints tried old.told new.told old.failures new.failures → new.listen_failures ≡ old.listen_failures
    → Ran endpoints (tried ∷ []) old new
ran_one endpoints tried old new made kept = record { told = made.net; failures = made.failures; listens = kept }

told_append : (endpoints : List Endpoint) (a b : List (List Tried)) (n : Option ToldNet) → told_after_runs endpoints (a ++ b) n ≡ told_after_runs endpoints b (told_after_runs endpoints a n)
told_append endpoints [] b n = refl
told_append endpoints (t ∷ a) b n = told_append endpoints a b (attempted_all endpoints 0 t n)

failed_append : (a b : List (List Tried)) (n : ℕ) → failed_after_runs (a ++ b) n ≡ failed_after_runs b (failed_after_runs a n)
failed_append [] b n = refl
failed_append (t ∷ a) b n = failed_append a b (failures_after t n)

pub ran_then : (endpoints : List Endpoint) (a b : List (List Tried)) (x y z : NetSeen) → Ran endpoints a x y → Ran endpoints b y z → Ran endpoints (a ++ b) x z
ran_then endpoints a b x y z one two = record {
  told = two.told ∙ (ap (λ (n : Option ToldNet). told_after_runs endpoints b n) one.told ∙ sym (told_append endpoints a b x.told));
  failures = two.failures ∙ (ap (λ (n : ℕ). failed_after_runs b n) one.failures ∙ sym (failed_append a b x.failures));
  listens = two.listens ∙ one.listens;
}
