-- What is decided before the net is asked, step by step: each step decides only what those before it let through.
use Rattle.std.specs.Prelude.{ℕ, ◌≡◌, ◌<◌, ◌⊎◌, length, Option, Result, Ok, Err}
use Rattle.ice_types.specs.declared.proxy.Proxy.{Proxy}
use Rattle.ice_types.specs.Tables.{Tables, HasId, interface_ids}
use Rattle.ice_gateway.specs.Gate.{Gate}
use Rattle.ice_proxy.specs.Grammar.{proxy_text}
use Rattle.node_commands.specs.Words.{Word}
use Rattle.node_commands.specs.Outside.{Files}
use Rattle.node_commands.specs.Answers.{Answer, usage, no_such_name, text_refused}
use Rattle.node_commands.specs.Decided.{IsSchema, WithSchema}
use Rattle.node_commands.specs.Interfaces.{IsInterface}
use Rattle.gate_command.specs.Words.{GateWords}

-- ---- the steps

-- a proxy without endpoints is in no form of `gate`
abbrev pub IsListed : Result Proxy ℕ → Type 0
IsListed (Ok p) = 0 < length p.endpoints
IsListed (Err place) = Unit {0}

abbrev pub WithListed : Result Proxy ℕ → Answer → Type 0 → Type 0
WithListed parsed answer Next = ((IsListed parsed → ⊥) × (answer ≡ usage)) ⊎ (IsListed parsed × Next)

-- INTERFACE names none, or an interface, from which it goes on
abbrev pub WithInterface : Tables → Word → Answer → (ℕ → Type 0) → Type 0
WithInterface t word answer Next =
    (((at : ℕ) → HasId (interface_ids t) word at → ⊥) × (answer ≡ no_such_name word))
    ⊎ ((at : ℕ) × IsInterface t word at × Next at)

-- PROXY is the text of no proxy, or is that of one
abbrev pub WithProxy : Result Proxy ℕ → Answer → (Proxy → Type 0) → Type 0
WithProxy parsed answer Next =
    ((place : ℕ) × (parsed ≡ Err place) × (answer ≡ text_refused place))
    ⊎ ((p : Proxy) × (parsed ≡ Ok p) × Next p)

-- ---- all of them

-- The words are refused with this answer: PROXY without endpoints comes first, then the Slice file, INTERFACE, and PROXY's text.
abbrev pub Refuses : GateWords → Option Files → Answer → Type 0
Refuses c files answer =
    WithListed (proxy_text c.proxy) answer (
    WithSchema files c.file answer (λ t.
    WithInterface t c.interface answer (λ at.
    WithProxy (proxy_text c.proxy) answer (λ p. ⊥))))

-- calls are forwarded by this schema and this interface, to these servers
abbrev pub gate_with : GateWords → Tables → ℕ → Proxy → Gate
gate_with c t at p = record { tables = t; interface = at; endpoints = p.endpoints; retries = c.retries }

-- This is the gate of the words: FILE's schema, INTERFACE in it, and the endpoints of PROXY. No more of PROXY is used.
pub record Sets (c : GateWords) (files : Option Files) (gate : Gate) : Type 0 where
  pub tables : Tables
  pub interface : ℕ
  pub upstream : Proxy
  pub loads : IsSchema files c.file tables
  pub names : IsInterface tables c.interface interface
  pub reads : proxy_text c.proxy ≡ Ok upstream
  pub listed : 0 < length upstream.endpoints
  pub gate_is : gate ≡ gate_with c tables interface upstream
