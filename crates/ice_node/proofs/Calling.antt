-- What `call` sends to wherever a proxy leads is what a client does, also where memory ran out.
use Rattle.std.proofs.Common.{◌≤◌, ◌⊎◌, ℕ, List, length, map, Option, None, Result, Ok, Err, refl, sym, subst, inl, inr, arith}
use Rattle.ice_messages.specs.declared.fault.WriteFault.{WriteFault}
use Rattle.ice_messages.specs.declared.fault.WriteFault.TheVariants.{TooLong, Memory}
use Rattle.ice_messages.specs.declared.message.Message.{Message}
use Rattle.ice_client.specs.declared.outcome.Outcome.{Outcome}
use Rattle.ice_client.specs.ClientDid.{ClientDid, Tried, had}
use Rattle.locator.specs.declared.through.Through.{Through}
use Rattle.locator.specs.declared.through.Through.TheVariants.{Invoked, NotLocated, LocatorFailed}
use Rattle.locator.specs.Caches.{Kept}
use Rattle.locator.specs.Rounds.{Round}
use Rattle.locator.specs.Steps.{Target}
use Rattle.locator.specs.Through.{GoesThrough, Starves}
use Rattle.once_law.specs.Ends.{Delivery, IsSent, RunsOut, tried_of}
use Rattle.once_law.specs.Laws.{HasSingleTurns}
use Rattle.ice_node.specs.Through.{IsCalled, CalledTurnsAreSingle, tries, cut_by}
use Rattle.ice_node.proofs.Passing.{by_outcome, by_want}

cut_short : (t : Target) (number : ℕ) (old : Kept) (rest : List Round) (new : Kept) (end : Starves t number old rest new) → length (cut_by t number old rest new end) ≤ 1
cut_short t number old rest new (inl resolved) = omega arith
cut_short t number old rest new (inr (asked, place, cached, cut, tail, resolved)) = omega arith

-- what the attempts are: with an outcome or none, or up to where memory ran out
Is : Message → ℕ → List Tried → Type 0
Is m retries tried = ((outcome : Option Outcome) × ClientDid m retries tried outcome) ⊎ RunsOut m retries tried

went_so : (m : Message) (t : Target) (old : Kept) (rounds : List Round) (new : Kept) (came : Result Through WriteFault) (went : GoesThrough m t old rounds new came) → Is m t.retries (tries m t old rounds new came went)
unfolding Is
went_so m t old rounds new (Ok (Invoked r)) (h, few) = inl (had r.outcome, h.2.did)
went_so m t old rounds new (Ok NotLocated) (h, few) = inl (None, h.1.did)
went_so m t old rounds new (Ok (LocatorFailed r)) (h, few) = inl (None, h.1.did)
went_so m t old rounds new (Err (TooLong n)) went = inr (inl refl)
went_so m t old rounds new (Err Memory) (inl nothing, few) = inr (inl refl)
went_so m t old rounds new (Err Memory) (inr (legs, delivered), few) =
    let cut = cut_by t (length legs) delivered.mid delivered.rest new delivered.end in
    inr (inr (map (λ l. l.tried) legs, cut, refl, cut_short t (length legs) delivered.mid delivered.rest new delivered.end, delivered.did))

module _ (m : Message) (t : Target) (old : Kept) (rounds : List Round) (new : Kept) (came : Result Through WriteFault) (d : Delivery) (c : IsCalled m t old rounds new came d) where
  sent : IsSent d.message
  sent = subst IsSent (sym c.message_is) c.sent

  by : Is d.message d.retries (map tried_of d.attempts) → HasSingleTurns d
  unfolding Is
  by (inl (outcome, did)) = by_outcome d sent c.ends outcome did
  by (inr out) = by_want d sent c.ends out

pub called_turns : CalledTurnsAreSingle
called_turns m t old rounds new came d c =
    by m t old rounds new came d c (subst (λ (x : Message × ℕ × List Tried). Is x.0 x.1 x.2)
    (λ j. (sym c.message_is j, sym c.retries_are j, sym c.attempts_are j)) (went_so m t old rounds new came c.went))
