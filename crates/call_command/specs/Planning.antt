-- What is sent to whom, how often, and by what it is told what it came to.
use Rattle.std.specs.Prelude.{ℕ, List, Option, Some, None, Result, Ok, Err}
use Rattle.ice_types.specs.declared.declarations.Shape.{Shape}
use Rattle.ice_types.specs.declared.proxy.Proxy.{Proxy}
use Rattle.ice_types.specs.Tables.{Tables}
use Rattle.ice_messages.specs.declared.message.Message.{Message}
use Rattle.locator_types.specs.Locator.{find_object, locator_tables}
use Rattle.locator.specs.Steps.{Target}
use Rattle.locator.specs.Through.{target}
use Rattle.call_command.specs.declared.callee.Callee.{Callee}
use Rattle.call_command.specs.declared.preparing.Expected.{Expected as Seen}
use Rattle.call_command.specs.declared.preparing.Plan.{Plan as Written}
use Rattle.call_command.specs.Words.{CallWords}
use Rattle.call_command.specs.Operations.{Operation}
use Rattle.call_command.specs.Messages.{call_of, message_of, rounds_of, calls_of}

-- ---- to whom

abbrev pub with_proxy : Option Proxy → Result Proxy ℕ → Result Callee ℕ
with_proxy locator (Ok p) = Ok (record { locator = locator; proxy = p })
with_proxy locator (Err place) = Err place

-- by what the text of a locator says, if one is given, and that of the object's proxy: both proxies, or the place of the
-- first word that cannot stand, in the first text that has one
abbrev pub callee_of : Option (Result Proxy ℕ) → Result Proxy ℕ → Result Callee ℕ
callee_of (Some (Ok locator)) proxy = with_proxy (Some locator) proxy
callee_of (Some (Err place)) proxy = Err place
callee_of None proxy = with_proxy None proxy

-- ---- by what it is told

-- the types and the results of the operation, and how many calls the message has
pub record Expected : Type 0 where
  pub tables : Tables
  pub results : Shape
  pub calls : ℕ

-- wherever they lie in memory
abbrev pub expected_of : Seen → Expected
expected_of e = record { tables = e.schema.now; results = e.results.now; calls = e.calls }

-- of a question to a locator; both of its operations have the same results
abbrev pub of_locator : Expected
of_locator = record { tables = locator_tables; results = find_object.results; calls = 1 }

-- ---- the plan

pub record Plan : Type 0 where
  pub expected : Expected
  pub callee : Callee
  pub message : Message
  pub retries : ℕ
  -- how many messages there are, one after the other
  pub rounds : ℕ

-- the plan of a call of the operation, with arguments in this encapsulation
abbrev pub plan_of : CallWords → Operation → Callee → List ℕ → Plan
plan_of c o callee body = record {
  expected = record { tables = o.tables; results = o.declared.results; calls = calls_of callee.proxy.mode c.times };
  callee = callee;
  message = message_of callee.proxy.mode c.times (call_of callee.proxy c.operation o.mode body);
  retries = c.retries;
  rounds = rounds_of callee.proxy.mode c.times;
}

-- to whom its message goes, by which locator, and how often it is tried again
abbrev pub target_of : Plan → Target
target_of plan = target plan.callee.locator plan.callee.proxy plan.retries

-- wherever its parts lie in memory
abbrev pub seen : Written → Plan
seen p = record { expected = expected_of p.expected; callee = p.callee.now; message = p.message; retries = p.retries; rounds = p.rounds }
