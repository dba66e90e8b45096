-- What is decided by some of the steps is decided by all of them.
use Rattle.std.proofs.Common.{◌≡◌, ◌⊎◌, ℕ, List, [], Option, Some, None, Result, Ok, Err, refl, sym, ap, subst, inl, inr}
use Rattle.std.specs.Prelude.{option_map}
use Rattle.std.proofs.KnownBytes.{Appends-nil}
use Rattle.ice_types.specs.declared.proxy.Proxy.{Proxy}
use Rattle.ice_types.specs.Tables.{Tables, HasId, interface_ids}
use Rattle.node_commands.specs.Outside.{Files, Failures, counts}
use Rattle.node_commands.specs.Answers.{Answer, done, different, usage, no_such_name, slice_refused, input_refused, json_refused, too_long, needs_sliced, text_refused, read_failed, write_failed, no_memory, refused_after, read_failed_after, no_memory_after}
use Rattle.node_commands.specs.Decided.{IsSchema}
use Rattle.node_commands.specs.Effects.{GetsText}
use Rattle.node_commands.specs.Outcomes.{GivesNoSchema}
use Rattle.node_commands.proofs.Keeping.{keeps_itself}
use Rattle.ice_proxy.specs.Grammar.{proxy_text}
use Rattle.call_command.specs.declared.callee.Callee.{Callee}
use Rattle.call_command.specs.declared.stop.Stop.{Stop}
use Rattle.call_command.specs.Words.{CallWords}
use Rattle.call_command.specs.Operations.{Operation, operation_of}
use Rattle.call_command.specs.Planning.{Plan, callee_of, with_proxy}
use Rattle.call_command.specs.Endings.{Ended, finished, refused, twoway_only, stopped}
use Rattle.node_commands.specs.Interfaces.{IsInterface}
use Rattle.call_command.specs.Decided.{IsListed, IsListedCallee, LacksReply, Plans, Decides, callee_named}
use Rattle.call_command.specs.Rounds.{NetSeen, sink_seen, Finishes, Stops}
use Rattle.call_command.specs.Called.{Steps, WantsInput, Comes, TakesInput}
use Rattle.call_command.specs.Steps.{KnownDecides, KnownWants, SchemaDecides, SchemaWants, FoundDecides, FoundWants, LacksPlan, LooksFor, CarriesOut}

abbrev answer_in : Ended → Answer
answer_in finished = no_memory
answer_in (refused answer) = answer
answer_in (twoway_only word) = no_memory
answer_in (stopped stop) = no_memory

-- the same answer was refused
same_answer : (a b : Answer) → refused a ≡ refused b → a ≡ b
same_answer a b e = ap answer_in e

-- ---- of the operation and the object

module _ (c : CallWords) (input : Option (List ℕ)) (o : Operation) (callee : Callee) (came : Ended) (P Q : Plan → Type 0) (f : (plan : Plan) → P plan → Q plan) where
  plans_then : Plans c input came P o callee → Plans c input came Q o callee
  plans_then (inl refusal) = inl refusal
  plans_then (inr (g, lists, inl needs)) = inr (g, lists, inl needs)
  plans_then (inr (g, lists, inr (writable, inl long))) = inr (g, lists, inr (writable, inl long))
  plans_then (inr (g, lists, inr (writable, inr (short, inl long)))) = inr (g, lists, inr (writable, inr (short, inl long)))
  plans_then (inr (g, lists, inr (writable, inr (short, inr (fits, next))))) = inr (g, lists, inr (writable, inr (short, inr (fits, f _ next))))

  pub known_then : KnownDecides c input o callee came P → KnownDecides c input o callee came Q
  known_then (inl lacks) = inl lacks
  known_then (inr (replies, plans)) = inr (replies, plans_then plans)

-- ---- from some steps to all

module _ (A B : Steps) (V W : Type 0) (chain : (came : Ended) (Next : Plan → Type 0) → A came Next → B came Next) (wants : V → W) (before after : Failures) (old new : Option (List ℕ)) (net now : NetSeen) where
  pub comes_so : (came : Ended) → Comes A V before after old new net now came → Comes B W before after old new net now came
  comes_so (refused answer) (inl (decided, none), kept, same) = (inl (chain (refused answer) (λ plan. ⊥) decided, none), kept, same)
  comes_so (refused answer) (inr (inl (is, inl shelf)), kept, same) = (inr (inl (is, inl shelf)), kept, same)
  comes_so (refused answer) (inr (inl (is, inr (wanted, source))), kept, same) = (inr (inl (is, inr (wants wanted, source))), kept, same)
  comes_so (refused answer) (inr (inr memory), kept, same) = (inr (inr memory), kept, same)
  comes_so (twoway_only word) (decided, none, kept, same) = (chain (twoway_only word) (λ plan. ⊥) decided, none, kept, same)
  comes_so finished (decided, none) = (chain finished _ decided, none)
  comes_so (stopped stop) (decided, none) = (chain (stopped stop) _ decided, none)

pub takes_so : (V W : Type 0) → (V → W) → (old new : Option (List ℕ)) → TakesInput V old new → TakesInput W old new
takes_so V W wants old new (inl kept) = inl kept
takes_so V W wants old new (inr (wanted, taken)) = inr (wants wanted, taken)

-- ---- where there is no plan

module _ (c : CallWords) (input : Option (List ℕ)) (o : Operation) (callee : Callee) (shelf source now sink : ℕ) (old : Option (List ℕ)) (net : NetSeen) where
  pub unplanned : (came : Ended) → LacksPlan c input o callee source now came → Comes (KnownDecides c input o callee) (KnownWants c o callee) (counts shelf source sink) (counts shelf now sink) old old net net came
  unplanned (refused answer) (inl (decided, same)) = (inl (decided, (refl, same, refl)), keeps_itself old, refl)
  unplanned (refused answer) (inr (inl (is, wanted, rose))) = (inr (inl (same_answer answer read_failed is, inr (wanted, (refl, rose, refl)))), keeps_itself old, refl)
  unplanned (refused answer) (inr (inr (is, same))) = (inr (inr (same_answer answer no_memory is, (refl, same, refl))), keeps_itself old, refl)
  unplanned (twoway_only word) (inl (decided, same)) = (decided, (refl, same, refl), keeps_itself old, refl)
  unplanned (twoway_only word) (inr (inl (is, wanted, rose))) = absurd cc
  unplanned (twoway_only word) (inr (inr (is, same))) = absurd cc
  unplanned finished (inl (decided, same)) = (known_then c input o callee finished (λ plan. ⊥) (λ plan. Finishes plan (sink_seen old sink) (sink_seen old sink) net net) (λ plan never. absurd never) decided, (refl, same))
  unplanned finished (inr (inl (is, wanted, rose))) = absurd cc
  unplanned finished (inr (inr (is, same))) = absurd cc
  unplanned (stopped stop) (inl (decided, same)) = (known_then c input o callee (stopped stop) (λ plan. ⊥) (λ plan. Stops plan (sink_seen old sink) (sink_seen old sink) net net stop) (λ plan never. absurd never) decided, (refl, same))
  unplanned (stopped stop) (inr (inl (is, wanted, rose))) = absurd cc
  unplanned (stopped stop) (inr (inr (is, same))) = absurd cc

-- the input is looked for where a reply can come
pub looked_for : (c : CallWords) (o : Operation) (callee : Callee) (old new : Option (List ℕ)) → LooksFor (LacksReply callee.proxy o.declared) old new → TakesInput (KnownWants c o callee) old new
looked_for c o callee old new (inl kept) = inl kept
looked_for c o callee old new (inr (replies, taken)) = inr (inr (replies, tt), taken)

-- ---- where there is no schema

module _ (c : CallWords) (files : Option Files) (input : Option (List ℕ)) (shelf now source sink : ℕ) (old : Option (List ℕ)) (net : NetSeen) where
  pub unloaded : IsListed (proxy_text c.proxy) → (answer : Answer) → GivesNoSchema files c.file shelf now answer
      → Comes (Decides c files input) (WantsInput c files) (counts shelf source sink) (counts now source sink) old old net net (refused answer)
  unloaded listed (slice_refused broken) h = (inl (inr (listed, inl (broken, h.0, refl)), (h.1, refl, refl)), keeps_itself old, refl)
  unloaded listed read_failed h = (inr (inl (refl, inl (h, refl, refl))), keeps_itself old, refl)
  unloaded listed no_memory h = (inr (inr (refl, (h, refl, refl))), keeps_itself old, refl)
  unloaded listed (done bytes) h = absurd h
  unloaded listed (different bytes) h = absurd h
  unloaded listed usage h = absurd h
  unloaded listed (no_such_name word) h = absurd h
  unloaded listed (input_refused fault) h = absurd h
  unloaded listed (json_refused why) h = absurd h
  unloaded listed (too_long length) h = absurd h
  unloaded listed needs_sliced h = absurd h
  unloaded listed (text_refused place) h = absurd h
  unloaded listed (write_failed bytes) h = absurd h
  unloaded listed (refused_after written fault) h = absurd h
  unloaded listed (read_failed_after written) h = absurd h
  unloaded listed (no_memory_after written) h = absurd h

  pub unlisted : (came : Ended) → ((IsListed (proxy_text c.proxy) → ⊥) × (came ≡ refused usage)) ⊎ (came ≡ refused no_memory)
      → Comes (Decides c files input) (WantsInput c files) (counts shelf source sink) (counts shelf source sink) old old net net came
  unlisted (refused answer) (inl (not, is)) = (inl (inl (not, is), (refl, refl, refl)), keeps_itself old, refl)
  unlisted (refused answer) (inr is) = (inr (inr (same_answer answer no_memory is, (refl, refl, refl))), keeps_itself old, refl)
  unlisted (twoway_only word) (inl (not, is)) = absurd cc
  unlisted (twoway_only word) (inr is) = absurd cc
  unlisted finished (inl (not, is)) = absurd cc
  unlisted finished (inr is) = absurd cc
  unlisted (stopped stop) (inl (not, is)) = absurd cc
  unlisted (stopped stop) (inr is) = absurd cc

-- ---- where there is a plan

module _ (c : CallWords) (input : Option (List ℕ)) (o : Operation) (callee : Callee) (shelf source now sink after : ℕ) (old new : Option (List ℕ)) (net later : NetSeen) (plan : Plan)
    (given : (came : Ended) → KnownDecides c input o callee came (λ q. q ≡ plan)) (same : now ≡ source) where
  finished_so : Finishes plan (sink_seen old sink) (sink_seen new after) net later
      → Comes (KnownDecides c input o callee) (KnownWants c o callee) (counts shelf source sink) (counts shelf now after) old new net later finished
  finished_so h = (
    known_then c input o callee finished (λ q. q ≡ plan) (λ q. Finishes q (sink_seen old sink) (sink_seen new after) net later)
        (λ q is. subst (λ (x : Plan). Finishes x (sink_seen old sink) (sink_seen new after) net later) (sym is) h) (given finished),
    (refl, same),
  )

  stopped_so : (stop : Stop) → Stops plan (sink_seen old sink) (sink_seen new after) net later stop
      → Comes (KnownDecides c input o callee) (KnownWants c o callee) (counts shelf source sink) (counts shelf now after) old new net later (stopped stop)
  stopped_so stop h = (
    known_then c input o callee (stopped stop) (λ q. q ≡ plan) (λ q. Stops q (sink_seen old sink) (sink_seen new after) net later stop)
        (λ q is. subst (λ (x : Plan). Stops x (sink_seen old sink) (sink_seen new after) net later stop) (sym is) h) (given (stopped stop)),
    (refl, same),
  )

  pub carried_so : (came : Ended) → CarriesOut plan (sink_seen old sink) (sink_seen new after) net later came
      → Comes (KnownDecides c input o callee) (KnownWants c o callee) (counts shelf source sink) (counts shelf now after) old new net later came
  carried_so finished h = finished_so h
  carried_so (stopped stop) h = stopped_so stop h
  carried_so (refused answer) h = absurd h
  carried_so (twoway_only word) h = absurd h

-- ---- where a name or the text of a proxy is refused

module _ (c : CallWords) (input : Option (List ℕ)) (found : Option Operation) (parsed : Result Callee ℕ) (shelf source sink : ℕ) (old : Option (List ℕ)) (net : NetSeen) where
  abbrev pub RefusedFound : Answer → Type 0
  RefusedFound answer = Comes (FoundDecides c input found parsed) (FoundWants c found parsed) (counts shelf source sink) (counts shelf source sink) old old net net (refused answer)

  pub no_operation : found ≡ None → RefusedFound (no_such_name c.operation)
  no_operation none = (inl (inl (none, refl), (refl, refl, refl)), keeps_itself old, refl)

  pub no_callee : (o : Operation) → found ≡ Some o → (place : ℕ) → parsed ≡ Err place → RefusedFound (text_refused place)
  no_callee o is place text = (inl (inr (o, is, inl (place, text, refl)), (refl, refl, refl)), keeps_itself old, refl)

module _ (c : CallWords) (input : Option (List ℕ)) (parsed : Result Callee ℕ) (t : Tables) (shelf source sink : ℕ) (old : Option (List ℕ)) (net : NetSeen) where
  abbrev pub RefusedHere : Answer → Type 0
  RefusedHere answer = Comes (SchemaDecides c input parsed t) (SchemaWants c parsed t) (counts shelf source sink) (counts shelf source sink) old old net net (refused answer)

  pub no_interface : ((at : ℕ) → HasId (interface_ids t) c.interface at → ⊥) → RefusedHere (no_such_name c.interface)
  no_interface none = (inl (inl (none, refl), (refl, refl, refl)), keeps_itself old, refl)

  pub out_of_memory : RefusedHere no_memory
  out_of_memory = (inr (inr (refl, (refl, refl, refl))), keeps_itself old, refl)

-- ---- the steps before the operation and the object

module _ (c : CallWords) (input : Option (List ℕ)) (found : Option Operation) (parsed : Result Callee ℕ)
    (o : Operation) (is : found ≡ Some o) (callee : Callee) (text : parsed ≡ Ok callee) where
  pub found_decides : (came : Ended) (Next : Plan → Type 0) → KnownDecides c input o callee came Next → FoundDecides c input found parsed came Next
  found_decides came Next h = inr (o, is, inr (callee, text, h))

  pub found_wants : KnownWants c o callee → FoundWants c found parsed
  found_wants h = inr (o, is, inr (callee, text, h))

module _ (c : CallWords) (input : Option (List ℕ)) (parsed : Result Callee ℕ) (t : Tables) (at : ℕ) (names : IsInterface t c.interface at)
    (found : Option Operation) (is : found ≡ operation_of t at c.operation) where
  pub schema_decides : (came : Ended) (Next : Plan → Type 0) → FoundDecides c input found parsed came Next → SchemaDecides c input parsed t came Next
  schema_decides came Next h = inr (at, names, subst (λ (x : Option Operation). FoundDecides c input x parsed came Next) is h)

  pub schema_wants : FoundWants c found parsed → SchemaWants c parsed t
  schema_wants h = inr (at, names, subst (λ (x : Option Operation). FoundWants c x parsed) is h)

module _ (c : CallWords) (files : Option Files) (input : Option (List ℕ)) (parsed : Result Callee ℕ) (t : Tables)
    (text : callee_named c ≡ parsed) (listed : IsListed (proxy_text c.proxy)) (means : IsSchema files c.file t) where
  pub all_decide : (came : Ended) (Next : Plan → Type 0) → SchemaDecides c input parsed t came Next → Decides c files input came Next
  all_decide came Next h = inr (listed, inr (t, means, subst (λ (x : Result Callee ℕ). SchemaDecides c input x t came Next) (sym text) h))

  pub all_want : SchemaWants c parsed t → WantsInput c files
  all_want h = inr (listed, inr (t, means, subst (λ (x : Result Callee ℕ). SchemaWants c x t) (sym text) h))

-- ---- the line of a success is none

pub no_line : (old : Option (List ℕ)) (n : ℕ) → GetsText old old n n []
no_line old n = inl (Appends-nil old, refl)

-- ---- the mode of the callee's proxy

by_proxy : (locator : Option Proxy) (proxy : Result Proxy ℕ) → IsListed proxy → IsListedCallee (with_proxy locator proxy)
by_proxy locator (Ok p) listed = listed
by_proxy locator (Err place) listed = tt

listed_so : (located : Option (Result Proxy ℕ)) (proxy : Result Proxy ℕ) → IsListed proxy → IsListedCallee (callee_of located proxy)
listed_so (Some (Ok locator)) proxy listed = by_proxy (Some locator) proxy listed
listed_so (Some (Err place)) proxy listed = tt
listed_so None proxy listed = by_proxy None proxy listed

pub listed_callee : (c : CallWords) (found : Result Callee ℕ) → callee_named c ≡ found → IsListed (proxy_text c.proxy) → IsListedCallee found
listed_callee c found is listed = subst IsListedCallee is (listed_so (option_map proxy_text c.locator) (proxy_text c.proxy) listed)
