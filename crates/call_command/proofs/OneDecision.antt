-- Words, files and input decide one end, or one plan.
use Rattle.std.proofs.Common.{◌≡◌, ◌⊎◌, ℕ, List, [], ◌∷◌, Option, None, Some, Result, Ok, Err, refl, sym, ap, subst, ◌∙◌, inl, inr, arith, length}
use Rattle.std.proofs.lemmas.Option.{same_Some}
use Rattle.ice_types.specs.declared.proxy.Proxy.{Proxy}
use Rattle.call_command.specs.declared.callee.Callee.{Callee}
use Rattle.ice_types.specs.declared.declarations.OpDecl.{OpDecl}
use Rattle.ice_types.specs.declared.declarations.Shape.{Shape}
use Rattle.ice_types.specs.Tables.{Tables}
use Rattle.ice_encoding.specs.Graph.{Graph, Slice, known, unknown}
use Rattle.ice_encoding.specs.Instances.{slices_of}
use Rattle.ice_encoding.specs.CanonicalGraph.{Format, sliced, compact, Compact, IsWritable, graph_bytes}
use Rattle.instance_writing.specs.Formats.{view_format}
use Rattle.class_slices.specs.Encoding.{BeginsUnknown, NeedsSliced}
use Rattle.graph_json.proofs.TextsApart.{one_listed, one_reason, never_refused}
use Rattle.ice_messages.specs.declared.message.Message.{Message}
use Rattle.ice_messages.specs.Messages.{message_bytes}
use Rattle.ice_messages.specs.Written.{told}
use Rattle.ice_proxy.specs.Grammar.{proxy_text}
use Rattle.slice_meaning.proofs.Loads.{one_meaning, one_break, never_both}
use Rattle.node_commands.specs.Words.{Word}
use Rattle.node_commands.specs.Outside.{Files, Failures}
use Rattle.node_commands.specs.Answers.{Answer, usage, no_such_name, slice_refused, text_refused, json_refused, too_long, needs_sliced}
use Rattle.call_command.specs.declared.stop.Stop.{Stop}
use Rattle.call_command.specs.Words.{CallWords}
use Rattle.call_command.specs.Operations.{Operation}
use Rattle.call_command.specs.Planning.{Plan, plan_of}
use Rattle.call_command.specs.Endings.{Ended, finished, refused, twoway_only, stopped}
use Rattle.call_command.specs.Decided.{WithListed, WithSchema, WithInterface, WithOperation, WithCallee, WithReply, WithArguments, WithBody, WithMessage, Plans, Decides, callee_named}
use Rattle.call_command.specs.Rounds.{NetSeen, sink_seen, Finishes, Stops}
use Rattle.call_command.specs.Called.{Comes, Refuses, WantsInput}
use Rattle.call_command.specs.Laws.{IsRefusedBy, IsPlanned, AreDecidedOnce, IsHindered, EndsAsDecided}

-- the end of a call that connects nothing
abbrev pub IsRefusal : Ended → Type 0
IsRefusal finished = ⊥
IsRefusal (refused answer) = Unit {0}
IsRefusal (twoway_only word) = Unit {0}
IsRefusal (stopped stop) = ⊥

-- what begins with an unknown slice cannot be written in compact format
never_unknown : (slices : List Slice) → BeginsUnknown slices → Compact slices → ⊥
never_unknown [] begins fits = begins
never_unknown (known class content ∷ ss) begins fits = begins
never_unknown (unknown id bytes optionals table ∷ ss) begins fits = fits

never_writable : (f : Format) (g : Graph) → NeedsSliced f g → IsWritable f g → ⊥
never_writable sliced g needs fits = needs
never_writable compact g (n, (reached, begins)) fits = never_unknown (slices_of g.instances n) begins (fits n reached)

none_some : {X : Type 0} {x : X} → None ≡ Some x → ⊥
none_some e = cc

err_ok : {X E : Type 0} {x : X} {e : E} → Err e ≡ Ok x → ⊥
err_ok e = cc

-- of what was parsed
one_callee : (parsed : Result Callee ℕ) (p q : Callee) → parsed ≡ Ok p → parsed ≡ Ok q → p ≡ q
one_callee parsed p q e f = cc (e, f)

one_fault : (parsed : Result Callee ℕ) (p q : ℕ) → parsed ≡ Err p → parsed ≡ Err q → p ≡ q
one_fault parsed p q e f = cc (e, f)

-- ---- a step of two ends: both are refused by it alike, or both go on alike

module _ {G : Type 0} (a b : Ended) (alike : (r : Ended) → IsRefusal r → a ≡ r → b ≡ r → G) where
  listed_apart : (parsed : Result Proxy ℕ) (Next Other : Type 0) → (Next → Other → G) → WithListed parsed a Next → WithListed parsed b Other → G
  listed_apart parsed Next Other one (inl p) (inl q) = alike (refused usage) tt p.1 q.1
  listed_apart parsed Next Other one (inl p) (inr q) = absurd (p.0 q.0)
  listed_apart parsed Next Other one (inr p) (inl q) = absurd (q.0 p.0)
  listed_apart parsed Next Other one (inr p) (inr q) = one p.1 q.1

  schema_apart : (files : Files) (file : Word) (Next Other : Tables → Type 0) → ((t : Tables) → Next t → Other t → G) → WithSchema (Some files) file a Next → WithSchema (Some files) file b Other → G
  schema_apart files file Next Other one (inl p) (inl q) =
      alike (refused (slice_refused q.0)) tt (p.2 ∙ ap (λ x. refused (slice_refused x)) (one_break files file p.0 q.0 p.1 q.1)) q.2
  schema_apart files file Next Other one (inl p) (inr q) = absurd (never_both files file q.0 p.0 q.1 p.1)
  schema_apart files file Next Other one (inr p) (inl q) = absurd (never_both files file p.0 q.0 p.1 q.1)
  schema_apart files file Next Other one (inr p) (inr q) = one q.0 (subst Next (one_meaning files file p.0 q.0 p.1 q.1) p.2) q.2

  interface_apart : (t : Tables) (word : Word) (Next Other : ℕ → Type 0) → ((at : ℕ) → Next at → Other at → G) → WithInterface t word a Next → WithInterface t word b Other → G
  interface_apart t word Next Other one (inl p) (inl q) = alike (refused (no_such_name word)) tt p.1 q.1
  interface_apart t word Next Other one (inl p) (inr q) = absurd (p.0 q.0 q.1.0)
  interface_apart t word Next Other one (inr p) (inl q) = absurd (q.0 p.0 p.1.0)
  interface_apart t word Next Other one (inr p) (inr q) = one q.0 (subst Next (q.1.1 p.0 p.1.0) p.2) q.2

  operation_apart : (t : Tables) (at : ℕ) (word : Word) (Next Other : Operation → Type 0) → ((o : Operation) → Next o → Other o → G) → WithOperation t at word a Next → WithOperation t at word b Other → G
  operation_apart t at word Next Other one (inl p) (inl q) = alike (refused (no_such_name word)) tt p.1 q.1
  operation_apart t at word Next Other one (inl p) (inr q) = absurd (none_some (sym p.0 ∙ q.1))
  operation_apart t at word Next Other one (inr p) (inl q) = absurd (none_some (sym q.0 ∙ p.1))
  operation_apart t at word Next Other one (inr p) (inr q) = one q.0 (subst Next (same_Some p.0 q.0 (sym p.1 ∙ q.1)) p.2) q.2

  callee_apart : (parsed : Result Callee ℕ) (Next Other : Callee → Type 0) → ((callee : Callee) → Next callee → Other callee → G) → WithCallee parsed a Next → WithCallee parsed b Other → G
  callee_apart parsed Next Other one (inl p) (inl q) = alike (refused (text_refused q.0)) tt (p.2 ∙ ap (λ x. refused (text_refused x)) (one_fault parsed p.0 q.0 p.1 q.1)) q.2
  callee_apart parsed Next Other one (inl p) (inr q) = absurd (err_ok (sym p.1 ∙ q.1))
  callee_apart parsed Next Other one (inr p) (inl q) = absurd (err_ok (sym q.1 ∙ p.1))
  callee_apart parsed Next Other one (inr p) (inr q) = one q.0 (subst Next (one_callee parsed p.0 q.0 p.1 q.1) p.2) q.2

  reply_apart : (p : Proxy) (op : OpDecl) (word : Word) (Next Other : Type 0) → (Next → Other → G) → WithReply p op word a Next → WithReply p op word b Other → G
  reply_apart p op word Next Other one (inl x) (inl y) = alike (twoway_only word) tt x.1 y.1
  reply_apart p op word Next Other one (inl x) (inr y) = absurd (y.0 x.0)
  reply_apart p op word Next Other one (inr x) (inl y) = absurd (x.0 y.0)
  reply_apart p op word Next Other one (inr x) (inr y) = one x.1 y.1

  arguments_apart : (input : List ℕ) (t : Tables) (shape : Shape) (Next Other : Graph → Type 0) → ((g : Graph) → Next g → Other g → G) → WithArguments (Some input) t shape a Next → WithArguments (Some input) t shape b Other → G
  arguments_apart input t shape Next Other one (inl p) (inl q) = alike (refused (json_refused q.0)) tt (p.2 ∙ ap (λ x. refused (json_refused x)) (one_reason t shape input p.0 q.0 p.1 q.1)) q.2
  arguments_apart input t shape Next Other one (inl p) (inr q) = absurd (never_refused t shape input q.0 p.0 q.1 p.1)
  arguments_apart input t shape Next Other one (inr p) (inl q) = absurd (never_refused t shape input p.0 q.0 p.1 q.1)
  arguments_apart input t shape Next Other one (inr p) (inr q) = one q.0 (subst Next (one_listed t shape input p.0 q.0 p.1 q.1) p.2) q.2

  body_apart : (f : Format) (t : Tables) (shape : Shape) (g : Graph) (Next Other : List ℕ → Type 0) → ((body : List ℕ) → Next body → Other body → G) → WithBody f t shape g a Next → WithBody f t shape g b Other → G
  body_apart f t shape g Next Other one (inl p) (inl q) = alike (refused needs_sliced) tt p.1 q.1
  body_apart f t shape g Next Other one (inl p) (inr q) = absurd (never_writable f g p.0 q.0)
  body_apart f t shape g Next Other one (inr p) (inl q) = absurd (never_writable f g q.0 p.0)
  body_apart f t shape g Next Other one (inr (x, inl p)) (inr (y, inl q)) = alike (refused (too_long (length (graph_bytes t shape f g)))) tt p.1 q.1
  body_apart f t shape g Next Other one (inr (x, inl p)) (inr (y, inr q)) = absurd (omega (arith, p.0, q.0))
  body_apart f t shape g Next Other one (inr (x, inr p)) (inr (y, inl q)) = absurd (omega (arith, p.0, q.0))
  body_apart f t shape g Next Other one (inr (x, inr p)) (inr (y, inr q)) = one (graph_bytes t shape f g) p.1 q.1

  message_apart : (m : Message) (Next Other : Type 0) → (Next → Other → G) → WithMessage m a Next → WithMessage m b Other → G
  message_apart m Next Other one (inl p) (inl q) = alike (refused (too_long (told (length (message_bytes m))))) tt p.1 q.1
  message_apart m Next Other one (inl p) (inr q) = absurd (omega (arith, p.0, q.0))
  message_apart m Next Other one (inr p) (inl q) = absurd (omega (arith, p.0, q.0))
  message_apart m Next Other one (inr p) (inr q) = one p.1 q.1

  -- ---- all steps

  plans_apart : (c : CallWords) (input : List ℕ) (o : Operation) (callee : Callee) (Next Other : Plan → Type 0) → ((plan : Plan) → Next plan → Other plan → G) → Plans c (Some input) a Next o callee → Plans c (Some input) b Other o callee → G
  plans_apart c input o callee Next Other one =
      arguments_apart input o.tables o.declared.arguments _ _ (λ g.
      body_apart (view_format c.format) o.tables o.declared.arguments g _ _ (λ body.
      message_apart (plan_of c o callee body).message _ _ (one (plan_of c o callee body))))

  pub decides_apart : (c : CallWords) (files : Files) (input : List ℕ) (Next Other : Plan → Type 0) → ((plan : Plan) → Next plan → Other plan → G) → Decides c (Some files) (Some input) a Next → Decides c (Some files) (Some input) b Other → G
  decides_apart c files input Next Other one =
      listed_apart (proxy_text c.proxy) _ _ (
      schema_apart files c.file _ _ (λ t.
      interface_apart t c.interface _ _ (λ at.
      operation_apart t at c.operation _ _ (λ o.
      callee_apart (callee_named c) _ _ (λ callee.
      reply_apart callee.proxy o.declared c.operation _ _ (plans_apart c input o callee Next Other one))))))

-- ---- one end, or one plan

refusal_no_finish : (r : Ended) → IsRefusal r → finished ≡ r → ⊥
refusal_no_finish r is e = subst IsRefusal (sym e) is

refusal_no_stop : (stop : Stop) (r : Ended) → IsRefusal r → stopped stop ≡ r → ⊥
refusal_no_stop stop r is e = subst IsRefusal (sym e) is

module _ (c : CallWords) (files : Files) (input : List ℕ) where
  one_end : (a b : Ended) → IsRefusedBy c files input a → IsRefusedBy c files input b → a ≡ b
  one_end a b = decides_apart a b (λ r is e f. e ∙ sym f) c files input (λ plan. ⊥) (λ plan. ⊥) (λ plan x y. absurd x)

  one_plan : (p q : Plan) → IsPlanned c files input p → IsPlanned c files input q → p ≡ q
  one_plan p q x y =
      decides_apart finished finished (λ r is e f. absurd (refusal_no_finish r is e)) c files input (λ plan. plan ≡ p) (λ plan. plan ≡ q) (λ plan u v. sym u ∙ v) (x finished) (y finished)

  -- an end and a plan
  never_planned : (a : Ended) (p : Plan) → IsRefusedBy c files input a → IsPlanned c files input p → ⊥
  never_planned a p x y =
      decides_apart a finished (λ r is e f. refusal_no_finish r is f) c files input (λ plan. ⊥) (λ plan. plan ≡ p) (λ plan u v. u) x (y finished)

pub decided_once : AreDecidedOnce
decided_once c files input = (one_end c files input, one_plan c files input, never_planned c files input)

-- ---- the end that came

-- it is refused, or hindered
module _ (c : CallWords) (files : Files) (input : List ℕ) where
  refused_so : (Wants : Type 0) (before after : Failures) (answer : Answer) → Refuses (Decides c (Some files) (Some input)) Wants before after answer
      → IsRefusedBy c files input (refused answer) ⊎ IsHindered (refused answer)
  refused_so Wants before after answer (inl (is, kept)) = inl is
  refused_so Wants before after answer (inr (inl (is, failed))) = inr (inl (ap refused is))
  refused_so Wants before after answer (inr (inr (is, kept))) = inr (inr (ap refused is))

  module _ (before after : Failures) (old new : Option (List ℕ)) (net now : NetSeen) where
    abbrev CameSo : Ended → Type 0
    CameSo came = Comes (Decides c (Some files) (Some input)) (WantsInput c (Some files)) before after old new net now came

    ends_so : (came end : Ended) → CameSo came → IsRefusedBy c files input end → (came ≡ end) ⊎ IsHindered came
    ends_so finished end h is =
        absurd (decides_apart finished end (λ r refuses e f. refusal_no_finish r refuses e) c files input (λ plan. Finishes plan (sink_seen old before.sink) (sink_seen new after.sink) net now) (λ plan. ⊥) (λ plan x y. y) h.0 is)
    ends_so (refused answer) end h is = elim (refused_so (WantsInput c (Some files)) before after answer h.0) [
      | inl decided ↦ inl (one_end c files input (refused answer) end decided is)
      | inr hindered ↦ inr hindered
    ]
    ends_so (twoway_only word) end h is = inl (one_end c files input (twoway_only word) end h.0 is)
    ends_so (stopped stop) end h is =
        absurd (decides_apart (stopped stop) end (λ r refuses e f. refusal_no_stop stop r refuses e) c files input (λ plan. Stops plan (sink_seen old before.sink) (sink_seen new after.sink) net now stop) (λ plan. ⊥) (λ plan x y. y) h.0 is)

    abbrev FollowsSo : Plan → Ended → Type 0
    FollowsSo plan end = ((end ≡ finished) × Finishes plan (sink_seen old before.sink) (sink_seen new after.sink) net now)
        ⊎ ((stop : Stop) × (end ≡ stopped stop) × Stops plan (sink_seen old before.sink) (sink_seen new after.sink) net now stop)

    follows_so : (came : Ended) (plan : Plan) → CameSo came → IsPlanned c files input plan → FollowsSo plan came ⊎ IsHindered came
    follows_so finished plan h is =
        inl (inl (
          refl,
          decides_apart finished finished (λ r refuses e f. absurd (refusal_no_finish r refuses e)) c files input (λ p. Finishes p (sink_seen old before.sink) (sink_seen new after.sink) net now) (λ p. p ≡ plan)
              (λ p did same. subst (λ (x : Plan). Finishes x (sink_seen old before.sink) (sink_seen new after.sink) net now) same did) h.0 (is finished),
        ))
    follows_so (refused answer) plan h is = elim (refused_so (WantsInput c (Some files)) before after answer h.0) [
      | inl decided ↦ absurd (never_planned c files input (refused answer) plan decided is)
      | inr hindered ↦ inr hindered
    ]
    follows_so (twoway_only word) plan h is = absurd (never_planned c files input (twoway_only word) plan h.0 is)
    follows_so (stopped stop) plan h is =
        inl (inr (
          stop,
          refl,
          decides_apart (stopped stop) finished (λ r refuses e f. absurd (refusal_no_finish r refuses f)) c files input (λ p. Stops p (sink_seen old before.sink) (sink_seen new after.sink) net now stop) (λ p. p ≡ plan)
              (λ p did same. subst (λ (x : Plan). Stops x (sink_seen old before.sink) (sink_seen new after.sink) net now stop) same did) h.0 (is finished),
        ))

pub ends_as_decided : EndsAsDecided
ends_as_decided c before after net now result files input of_files of_input called =
    let came = subst (λ (x : Option (List ℕ)). Comes (Decides c (Some files) x) (WantsInput c (Some files)) before.failures after.failures before.output after.output net now called.ended) of_input
    (subst (λ (x : Option Files). Comes (Decides c x before.input) (WantsInput c x) before.failures after.failures before.output after.output net now called.ended) of_files called.comes) in (
      λ end is. ends_so c files input before.failures after.failures before.output after.output net now called.ended end came is,
      λ plan is. follows_so c files input before.failures after.failures before.output after.output net now called.ended plan came is,
    )
