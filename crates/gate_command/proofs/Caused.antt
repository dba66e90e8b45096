-- How `gate` ended, by what its words and files decide and by what failed; and that each call went out once.
use Rattle.std.proofs.Common.{◌≡◌, ◌⊎◌, ◌++◌, ℕ, Bool, true, false, List, [], ◌∷◌, Option, None, Some, sym, subst, ap, ◌∙◌, inl, inr}
use Rattle.ice_encoding.specs.Parts.{Each}
use Rattle.ice_client.specs.Sending.{IsIdempotent}
use Rattle.ice_client.specs.ClientDid.{Tried, ClientDid, ClientStarved, is_uncached}
use Rattle.ice_ports.specs.Failures.{one_more, count_after}
use Rattle.ice_gateway.specs.Gate.{Gate}
use Rattle.ice_gateway.specs.Runs.{NetSeen}
use Rattle.ice_messages.specs.declared.message.Message.{Message}
use Rattle.talking.specs.declared.end.End as connections
use Rattle.ice_gateway.specs.Handled.{Handled, Invocation, WasHandled, WasForwarded, DueStarved, AreLeft}
use Rattle.ice_gateway.specs.GateDid.{IsLeft}
use Rattle.ice_gateway.specs.Forwarded.{forwarded}
use Rattle.ice_gateway.specs.Sessions.{Session, AllDid}
use Rattle.ice_gateway.specs.Laws.{ForwardsOnce, OnlyLastCounts}
use Rattle.node_commands.specs.Outside.{Files, Outside, ShelfFailed, SinkFailed}
use Rattle.node_commands.specs.Answers.{Answer, read_failed, no_memory}
use Rattle.node_commands.specs.declared.limits.TheConstants.{MOST_MESSAGES}
use Rattle.node_commands.specs.Ends.{End, answered}
use Rattle.node_commands.specs.Lines.{WritesEnd, listening, served}
use Rattle.gate_command.specs.Words.{GateWords}
use Rattle.gate_command.specs.Decided.{Refuses, Sets}
use Rattle.gate_command.specs.Gated.{Comes, refused, unread, starved, unheard, untold, ended}
use Rattle.gate_command.specs.Laws.{EndsAsRefused, IsDone, EndsForCause, IsSentOnce, IsLeftOnce, AreSentOnce, GatesOnce}
use Rattle.gate_command.proofs.OneRefusal.{refused_once, refused_or_set}

-- ---- words that are refused

module _ (c : GateWords) (before after : Outside) (net later : NetSeen) (files : Files) (answer : Answer) (known : before.files ≡ Some files) (is : Refuses c (Some files) answer) where
  never_set : (gate : Gate) → Sets c before.files gate → ⊥
  never_set gate sets = refused_or_set c files answer gate (subst (λ (x : Option Files). Sets c x gate) known sets) is

  ends_so : (end : End) → Comes c before after net later end → (end ≡ answered answer) ⊎ ((end ≡ answered read_failed) ⊎ (end ≡ answered no_memory))
  ends_so end (refused other so why none keeps same) =
      inl (so ∙ ap answered (refused_once c files other answer (subst (λ (x : Option Files). Refuses c x other) known why) is))
  ends_so end (unread so failed keeps same) = inr (inl so)
  ends_so end (starved so none keeps same) = inr (inr so)
  ends_so end (unheard gate so sets none keeps after_is) = absurd (never_set gate sets)
  ends_so end (untold gate port so sets is_port failed prefix unused) = absurd (never_set gate sets)
  ends_so end (ended gate port count failed lacked sets is_port sessions writes) = absurd (never_set gate sets)

pub ends_as_refused : EndsAsRefused
ends_as_refused c before after net later result files answer known is h = ends_so c before after net later files answer known is h.end h.comes

-- ---- what keeps it from success

module _ (c : GateWords) (before after : Outside) (net later : NetSeen) where
  abbrev Caused : End → Type 0
  Caused end = IsDone end
      ⊎ (((answer : Answer) × Refuses c before.files answer × (end ≡ answered answer))
      ⊎ ((end ≡ answered no_memory)
      ⊎ (ShelfFailed before.failures after.failures
      ⊎ (SinkFailed before.failures after.failures
      ⊎ (later.listen_failures ≡ one_more net.listen_failures)))))

  served_so : (port count : ℕ) (failed lacked : Bool) (end : End) → later.listen_failures ≡ count_after net.listen_failures failed
      → WritesEnd before after (listening port ++ served count) (listening port) failed lacked end → Caused end
  served_so port count failed true end counted writes = inr (inr (inl writes.0))
  served_so port count true false end counted writes = inr (inr (inr (inr (inr counted))))
  served_so port count false false end counted (inl writes) = inl (port, count, writes.0)
  served_so port count false false end counted (inr writes) = inr (inr (inr (inr (inl writes.1))))

  cause_of : (end : End) → Comes c before after net later end → Caused end
  cause_of end (refused answer so why none keeps same) = inr (inl (answer, why, so))
  cause_of end (unread so failed keeps same) = inr (inr (inr (inl failed)))
  cause_of end (starved so none keeps same) = inr (inr (inl so))
  cause_of end (unheard gate so sets none keeps after_is) = inr (inr (inr (inr (inr (ap (λ (n : NetSeen). n.listen_failures) after_is)))))
  cause_of end (untold gate port so sets is_port failed prefix unused) = inr (inr (inr (inr (inl failed))))
  cause_of end (ended gate port count failed lacked sets is_port sessions writes) =
      served_so port count failed lacked end (sessions.heard.counted ∙ ap (λ (n : ℕ). count_after n failed) sessions.heard.all.ran.listens) writes

pub ends_for_cause : EndsForCause
ends_for_cause c before after net later result h = cause_of c before after net later h.end h.comes

-- ---- each call once

module _ (once : ForwardsOnce) (gate : Gate) where
  sent_once : (due : Option Message) (i : Option Invocation) → WasForwarded gate due i → IsSentOnce i
  sent_once due None was = tt
  sent_once None (Some i) was = absurd was
  sent_once (Some m) (Some i) (is, did, uncached) = λ never.
      once.done i.message gate.retries i.tried i.outcome never (subst (λ (x : Message). ClientDid x gate.retries i.tried (Some i.outcome)) (sym is) did) uncached

  due_once : (n : Message) (cut : List (List Tried)) (tried : List Tried) → DueStarved gate (Some n) cut → cut ≡ tried ∷ [] → (IsIdempotent n → ⊥) → OnlyLastCounts n tried
  due_once n cut tried (inl none) is never = absurd (let e : [] ≡ tried ∷ [] = sym none ∙ is in cc)
  due_once n cut tried (inr (other, are, uncached, inl ran_out)) is never =
      let e : other ∷ [] ≡ tried ∷ [] = sym are ∙ is in
      let same : other ≡ tried = cc in
      once.starved n gate.retries tried never (subst (ClientStarved n gate.retries) same ran_out) (subst (Each is_uncached) same uncached)
  due_once n cut tried (inr (other, are, uncached, inr (outcome, did))) is never =
      let e : other ∷ [] ≡ tried ∷ [] = sym are ∙ is in
      let same : other ≡ tried = cc in
      once.done n gate.retries tried outcome never (subst (λ (z : List Tried). ClientDid n gate.retries z (Some outcome)) same did) (subst (Each is_uncached) same uncached)

  left_once : (rest : List Message) (cut : List (List Tried)) → AreLeft gate rest cut → IsLeftOnce gate rest cut
  left_once [] cut left = λ m n tried one due are never. absurd cc
  left_once (x ∷ []) cut left = λ m n tried one due are never.
      let same : x ≡ m = cc in
      due_once n cut tried (subst (λ (d : Option Message). DueStarved gate d cut) (ap (λ (y : Message). forwarded gate y) same ∙ due) left) are never
  left_once (x ∷ y ∷ ms) cut left = absurd left

  cut_once : (end : Option connections.End) (rest : List Message) (cut : List (List Tried)) → IsLeft gate end rest cut → IsLeftOnce gate rest cut
  cut_once None rest cut left = left_once rest cut left
  cut_once (Some end) rest cut left = λ m n tried one due are never. absurd (let e : [] ≡ m ∷ [] = sym left.0 ∙ one in cc)

pub gates_once_by : ForwardsOnce → GatesOnce
gates_once_by once c gate net later count failed lacked h = all h.heard.all.sessions h.heard.all.did
  where
    handled_once : (hs : List Handled) → Each (WasHandled gate) hs → Each (λ (x : Handled). IsSentOnce x.invocation) hs
    handled_once [] did = tt
    handled_once (x ∷ xs) did = (sent_once once gate (forwarded gate x.message) x.invocation did.0.0, handled_once xs did.1)

    all : (ss : List Session) (did : AllDid gate MOST_MESSAGES ss) → AreSentOnce gate MOST_MESSAGES ss did
    all [] did = tt
    all (s ∷ ss) did = (handled_once did.0.handled did.0.did, cut_once once gate s.end did.0.rest did.0.cut did.0.is_left, all ss did.1)
