-- What a net tells of messages that were tried, one after the other, at the endpoints of one proxy.
use Rattle.std.specs.Prelude.{ℕ, ◌≡◌, List, [], ◌∷◌, Option}
use Rattle.ice_types.specs.declared.proxy.Endpoint.{Endpoint}
use Rattle.ice_ports.specs.Nets.{ToldNet}
use Rattle.ice_client.specs.ClientDid.{Tried, attempted_all, failures_after}

-- what a net tells, and how many of its calls failed
pub record NetSeen : Type 0 where
  pub told : Option ToldNet
  pub failures : ℕ
  -- those of listeners
  pub listen_failures : ℕ

abbrev pub net_seen : Option ToldNet → (failures listen_failures : ℕ) → NetSeen
net_seen told failures listen_failures = record { told = told; failures = failures; listen_failures = listen_failures }

-- what it tells after the attempts at each
abbrev pub told_after_runs : List Endpoint → List (List Tried) → Option ToldNet → Option ToldNet
told_after_runs endpoints [] told = told
told_after_runs endpoints (tried ∷ runs) told = told_after_runs endpoints runs (attempted_all endpoints 0 tried told)

-- and how many of its calls failed
abbrev pub failed_after_runs : List (List Tried) → ℕ → ℕ
failed_after_runs [] n = n
failed_after_runs (tried ∷ runs) n = failed_after_runs runs (failures_after tried n)

-- each connect was asked at its endpoint, each link was handed back, each failure was counted, in this order
pub record Ran (endpoints : List Endpoint) (runs : List (List Tried)) (old new : NetSeen) : Type 0 where
  pub told : new.told ≡ told_after_runs endpoints runs old.told
  pub failures : new.failures ≡ failed_after_runs runs old.failures
  pub listens : new.listen_failures ≡ old.listen_failures
