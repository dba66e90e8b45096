-- What is decided before the net is asked, from what its steps came to.
use Rattle.std.proofs.Common.{◌≡◌, ℕ, Option, Result, Ok, Err, refl, sym, subst, ◌∙◌, inl, inr}
use Rattle.ice_types.specs.declared.proxy.Proxy.{Proxy}
use Rattle.ice_types.specs.Tables.{Tables}
use Rattle.ice_proxy.specs.Grammar.{proxy_text}
use Rattle.node_commands.specs.declared.outcome.Outcome.{Outcome}
use Rattle.node_commands.specs.Outside.{Files}
use Rattle.node_commands.specs.Answers.{Answer, done, different, usage, no_such_name, slice_refused, input_refused, json_refused, too_long, needs_sliced, text_refused, read_failed, write_failed, no_memory, refused_after, read_failed_after, no_memory_after}
use Rattle.node_commands.specs.Decided.{IsSchema}
use Rattle.node_commands.specs.Outcomes.{GivesNoSchema}
use Rattle.gate_command.specs.declared.plan.Plan.{Plan}
use Rattle.gate_command.specs.Words.{GateWords}
use Rattle.gate_command.specs.Decided.{IsListed, WithInterface, WithProxy}
use Rattle.gate_command.specs.Steps.{FindsUpstream, MakesNone, MakesPlan, SchemaMakes, answered_by}

module _ (c : GateWords) (files : Option Files) (before after : ℕ) where
  -- PROXY has no endpoints, or memory lacked
  pub unlisted : (outcome : Outcome) → FindsUpstream (proxy_text c.proxy) (Err outcome) → MakesNone c files before before (answered_by outcome)
  unlisted outcome (inl h) = inl (inl h, refl)
  unlisted outcome (inr h) = inr (inr (h, refl))

  -- FILE gave no schema
  pub unloaded : IsListed (proxy_text c.proxy) → (answer : Answer) → GivesNoSchema files c.file before after answer → MakesNone c files before after answer
  unloaded listed (slice_refused broken) h = inl (inr (listed, inl (broken, h.0, refl)), h.1)
  unloaded listed read_failed h = inr (inl (refl, h))
  unloaded listed no_memory h = inr (inr (refl, h))
  unloaded listed (done bytes) h = absurd h
  unloaded listed (different bytes) h = absurd h
  unloaded listed usage h = absurd h
  unloaded listed (no_such_name word) h = absurd h
  unloaded listed (input_refused fault) h = absurd h
  unloaded listed (json_refused why) h = absurd h
  unloaded listed (too_long length) h = absurd h
  unloaded listed needs_sliced h = absurd h
  unloaded listed (text_refused place) h = absurd h
  unloaded listed (write_failed bytes) h = absurd h
  unloaded listed (refused_after written fault) h = absurd h
  unloaded listed (read_failed_after written) h = absurd h
  unloaded listed (no_memory_after written) h = absurd h

  -- with the schema of FILE
  pub planned : (t : Tables) (found : Result Proxy ℕ) (result : Result Plan Outcome) → proxy_text c.proxy ≡ found → IsListed (proxy_text c.proxy) → IsSchema files c.file t → after ≡ before
      → SchemaMakes c found t result → MakesPlan c files before after result
  planned t found (Ok plan) is listed loads same (names, reads, schema, retries, object) = (
    record {
      tables = t;
      interface = plan.interface;
      upstream = plan.upstream;
      loads = loads;
      names = names;
      reads = is ∙ reads;
      listed = subst IsListed (is ∙ reads) listed;
      gate_is = λ i. record { tables = schema i; interface = plan.interface; endpoints = plan.upstream.endpoints; retries = retries i };
    },
    object,
    same,
  )
  planned t found (Err outcome) is listed loads same (inl refusal) =
      inl (inr (listed, inr (t, loads, subst (λ (p : Result Proxy ℕ). WithInterface t c.interface (answered_by outcome) (λ at. WithProxy p (answered_by outcome) (λ q. ⊥))) (sym is) refusal)), same)
  planned t found (Err outcome) is listed loads same (inr memory) = inr (inr (memory, same))
