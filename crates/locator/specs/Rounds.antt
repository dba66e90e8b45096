-- What went over connections: rounds of attempts, each round at the endpoints of one proxy.
use Rattle.std.specs.Prelude.{ℕ, ◌≡◌, List, [], ◌∷◌, Option}
use Rattle.ice_types.specs.declared.proxy.Endpoint.{Endpoint}
use Rattle.ice_types.specs.declared.proxy.Proxy.{Proxy}
use Rattle.ice_encoding.specs.Parts.{Each}
use Rattle.ice_ports.specs.Nets.{ToldNet}
use Rattle.ice_client.specs.ClientDid.{Tried, attempted_all, failures_after}

-- attempts one after the other, with numbers from this one on, each at the endpoint with its number
pub record Round : Type 0 where
  pub endpoints : List Endpoint
  pub number : ℕ
  pub tried : List Tried

-- what the net tells after them
abbrev pub net_after : List Round → Option ToldNet → Option ToldNet
net_after [] net = net
net_after (r ∷ rs) net = net_after rs (attempted_all r.endpoints r.number r.tried net)

-- its count of failures after them
abbrev pub failed_after : List Round → ℕ → ℕ
failed_after [] n = n
failed_after (r ∷ rs) n = failed_after rs (failures_after r.tried n)

-- each connect was asked at its endpoint, each link was handed back, each failure was counted, in this order
pub record WereMade (rounds : List Round) (before after : Option ToldNet) (failures_before failures_then : ℕ) : Type 0 where
  pub net : after ≡ net_after rounds before
  pub failures : failures_then ≡ failed_after rounds failures_before

-- the attempts of an invocation at the proxy
abbrev pub round : Proxy → List Tried → Round
round p tried = record { endpoints = p.endpoints; number = 0; tried = tried }

-- one attempt at it, with this number
abbrev pub attempt : Proxy → ℕ → Tried → Round
attempt p number t = record { endpoints = p.endpoints; number = number; tried = t ∷ [] }

-- each is of an invocation at the proxy
abbrev pub IsAt : Proxy → Round → Type 0
IsAt p r = (r.endpoints ≡ p.endpoints) × (r.number ≡ 0)

abbrev pub AreAt : Proxy → List Round → Type 0
AreAt p rounds = Each (IsAt p) rounds
