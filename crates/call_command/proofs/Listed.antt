-- Why there is no plan, and that the plan is the one that is decided.
use Rattle.std.proofs.Common.{◌≡◌, ◌≤◌, ◌<◌, ℕ, List, [], length, Option, None, Some, Ok, Err, refl, sym, ap, subst, inl, inr}
use Rattle.std.specs.Prelude.{IfSome}
use Rattle.ice_types.specs.declared.declarations.Shape.{Shape}
use Rattle.call_command.specs.declared.callee.Callee.{Callee}
use Rattle.ice_types.specs.Tables.{Tables}
use Rattle.ice_encoding.specs.declared.limits.TheConstants.{LARGEST}
use Rattle.ice_encoding.specs.Graph.{Graph}
use Rattle.instance_writing.specs.Formats.{view_format}
use Rattle.graph_json.specs.declared.fault.JsonKind.{JsonKind}
use Rattle.graph_json.specs.Texts.{IsRefused, Lists}
use Rattle.ice_messages.specs.declared.message.Message.{Message}
use Rattle.ice_messages.specs.Messages.{message_bytes}
use Rattle.ice_relay.specs.TextStreams.{ReadsText}
use Rattle.ice_relay.specs.declared.fault.RelayFault.{RelayFault}
use Rattle.ice_relay.specs.declared.fault.RelayFault.TheVariants as faults
use Rattle.ice_relay.proofs.Deciding.{listed_whole, refused_whole}
use Rattle.node_commands.specs.Answers.{too_long}
use Rattle.node_commands.specs.Outcomes.{answer_of, of_relay}
use Rattle.call_command.specs.declared.arguments.TheConstants.{MOST_OF_ARGUMENTS}
use Rattle.call_command.specs.Words.{CallWords}
use Rattle.call_command.specs.Operations.{Operation}
use Rattle.call_command.specs.Planning.{Plan, plan_of}
use Rattle.call_command.specs.Messages.{message_of, call_of, rounds_of, calls_of}
use Rattle.call_command.specs.Endings.{Ended, refused}
use Rattle.call_command.specs.Decided.{LacksReply, WithMessage}
use Rattle.call_command.specs.Steps.{KnownDecides, LacksPlan, EncodesArguments, MakesMessage}

-- ---- what was read decides all of the input

all_listed : (t : Tables) (s : Shape) (input now : Option (List ℕ)) (got : List ℕ) (g : Graph) → ReadsText input now got → Lists t s got g → IfSome input (λ known. Lists t s known g)
all_listed t s None now got g read lists = tt
all_listed t s (Some known) now got g read lists = listed_whole t s known got now g read lists

all_refused : (t : Tables) (s : Shape) (input now : Option (List ℕ)) (got : List ℕ) (why : JsonKind) → ReadsText input now got → IsRefused t s got why → IfSome input (λ known. IsRefused t s known why)
all_refused t s None now got why read refusal = tt
all_refused t s (Some known) now got why read refusal = refused_whole t s known got now why read refusal

module _ (c : CallWords) (input : Option (List ℕ)) (o : Operation) (callee : Callee) (before after : ℕ) where
  -- ---- where there is no plan

  module _ (replies : LacksReply callee.proxy o.declared → ⊥) where
    module _ (now : Option (List ℕ)) (got : List ℕ) (read : ReadsText input now got) where
      pub unlisted : (fault : RelayFault) → EncodesArguments o.tables o.declared.arguments (view_format c.format) got (Err fault) → after ≡ before
          → LacksPlan c input o callee before after (refused (answer_of (of_relay fault) []))
      unlisted (faults.Broken fault) never same = absurd never
      unlisted (faults.TextRefused why) refusal same = inl (inr (replies, inl (why, all_refused o.tables o.declared.arguments input now got why read refusal, refl)), same)
      unlisted faults.NeedsSliced (g, lists, needs) same = inl (inr (replies, inr (g, all_listed o.tables o.declared.arguments input now got g read lists, inl (needs, refl))), same)
      unlisted (faults.TooLong n) (g, lists, writable, is, above) same =
          inl (
            inr (
              replies,
              inr (
                g,
                all_listed o.tables o.declared.arguments input now got g read lists,
                inr (writable, inl (subst (λ (m : ℕ). MOST_OF_ARGUMENTS < m) is above, ap (λ (m : ℕ). refused (too_long m)) is)),
              ),
            ),
            same,
          )
      unlisted faults.Memory listed same = inr (inr (refl, same))

      -- ---- with the body

      module _ (body : List ℕ) where
        decided : (came : Ended) (Next : Plan → Type 0) → EncodesArguments o.tables o.declared.arguments (view_format c.format) got (Ok body)
            → WithMessage (plan_of c o callee body).message came (Next (plan_of c o callee body)) → KnownDecides c input o callee came Next
        decided came Next (g, lists, writable, is, short) next =
            inr (
              replies,
              inr (
                g,
                all_listed o.tables o.declared.arguments input now got g read lists,
                inr (
                  writable,
                  inr (
                    subst (λ (b : List ℕ). length b ≤ MOST_OF_ARGUMENTS) is short,
                    subst (λ (b : List ℕ). WithMessage (plan_of c o callee b).message came (Next (plan_of c o callee b))) is next,
                  ),
                ),
              ),
            )

        module _ (encoded : EncodesArguments o.tables o.declared.arguments (view_format c.format) got (Ok body)) where
          pub unsent : (fault : RelayFault) → MakesMessage (message_of callee.proxy.mode c.times (call_of callee.proxy c.operation o.mode body)) (Err fault) → after ≡ before
              → LacksPlan c input o callee before after (refused (answer_of (of_relay fault) []))
          unsent (faults.Broken fault) never same = absurd never
          unsent (faults.TextRefused why) never same = absurd never
          unsent faults.NeedsSliced never same = absurd never
          unsent (faults.TooLong n) (long, is) same = inl (decided (refused (too_long n)) (λ plan. ⊥) encoded (inl (long, ap (λ (m : ℕ). refused (too_long m)) is)), same)
          unsent faults.Memory made same = inr (inr (refl, same))

          -- ---- the plan

          pub planned : (m : Message) (rounds calls : ℕ) → m ≡ message_of callee.proxy.mode c.times (call_of callee.proxy c.operation o.mode body) → length (message_bytes m) ≤ LARGEST
              → rounds ≡ rounds_of callee.proxy.mode c.times → calls ≡ calls_of callee.proxy.mode c.times → (came : Ended)
              → KnownDecides c input o callee came (λ q. q ≡ record { expected = record { tables = o.tables; results = o.declared.results; calls = calls }; callee = callee; message = m; retries = c.retries; rounds = rounds })
          planned m rounds calls is short many each came =
              let whole : Plan = record { expected = record { tables = o.tables; results = o.declared.results; calls = calls }; callee = callee; message = m; retries = c.retries; rounds = rounds } in
              let same : plan_of c o callee body ≡ whole = (λ i. record { expected = record { tables = o.tables; results = o.declared.results; calls = sym each i }; callee = callee; message = sym is i; retries = c.retries; rounds = sym many i }) in
              decided came (λ q. q ≡ whole) encoded (inr (subst (λ (x : Message). length (message_bytes x) ≤ LARGEST) is short, same))
