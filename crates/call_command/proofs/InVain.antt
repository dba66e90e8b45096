-- A locator that failed gave no results.
use Rattle.std.proofs.Common.{◌≡◌, ℕ, Bool, false, List, [], ◌∷◌, Option, None, Some, Ok, refl, sym, ap, subst, ◌∙◌, inl, inr}
use Rattle.std.proofs.lemmas.Bool.{false≢true}
use Rattle.ice_types.specs.declared.proxy.Proxy.{Proxy}
use Rattle.ice_types.specs.declared.kind.TypeRef.TheVariants as kinds
use Rattle.ice_types.specs.declared.schema.TheConstants.{MOST_DEPTH}
use Rattle.ice_encoding.specs.Tree.{Trees, none, tree, proxy}
use Rattle.ice_encoding.specs.Typed.{HasType, EachOf, Refers}
use Rattle.ice_encoding.specs.Flags.{all_slices}
use Rattle.ice_encoding.specs.Graph.{Graph}
use Rattle.ice_encoding.specs.Instances.{SpellsNumbered}
use Rattle.ice_encoding.specs.TypedGraph.{RefersIn}
use Rattle.ice_encoding.proofs.Graphs.{numbered_only}
use Rattle.ice_ports.specs.declared.talk.Talk.{Talk}
use Rattle.ice_messages.specs.declared.message.Answer.TheVariants as answers
use Rattle.retry_core.specs.declared.attempt.Attempt.{Attempt}
use Rattle.retry_core.specs.declared.attempt.Attempt.TheVariants as tries
use Rattle.ice_client.specs.declared.outcome.Invoked.{Invoked as Came}
use Rattle.ice_client.specs.declared.outgoing.Outgoing.{Outgoing}
use Rattle.ice_client.specs.declared.outcome.Outcome.{Outcome}
use Rattle.ice_client.specs.declared.outcome.Outcome.TheVariants as outcomes
use Rattle.ice_client.specs.Rows.{IsLoss}
use Rattle.ice_client.specs.Asking.{HasRow}
use Rattle.ice_client.specs.ClientDid.{Tried, Invokes, Ended, had}
use Rattle.locator_types.specs.Locator.{find_object, locator_tables}
use Rattle.locator.specs.declared.asking.Told.{Told}
use Rattle.locator.specs.declared.asking.Told.TheVariants as tellings
use Rattle.locator.specs.declared.asking.Next.{Next}
use Rattle.locator.specs.declared.asking.Next.TheVariants.{Ask, Over}
use Rattle.locator.specs.declared.asking.Found.TheVariants as founds
use Rattle.locator.specs.declared.key.Key.{Key}
use Rattle.locator.specs.declared.key.Key.TheVariants.{Object, Adapter}
use Rattle.locator.specs.declared.lead.Lead.{Lead}
use Rattle.locator.specs.declared.lead.Lead.TheVariants as leads
use Rattle.locator.specs.declared.resolving.Resolved.TheVariants.{Failed}
use Rattle.locator.specs.declared.through.Through.{Through}
use Rattle.locator.specs.declared.through.Through.TheVariants.{Invoked, NotLocated, LocatorFailed}
use Rattle.locator.specs.Caches.{Kept}
use Rattle.locator.specs.Keys.{key_of}
use Rattle.locator.specs.Leads.{lead_of, of_members, of_results, results_at}
use Rattle.locator.specs.Questions.{request}
use Rattle.locator.specs.Asking.{Asked, Finds, Follows, found, next, told, told_by}
use Rattle.locator.specs.Resolving.{By, Route, by_itself, from_cache, by_locator, no_route, route}
use Rattle.locator.specs.Rounds.{Round}
use Rattle.call_command.specs.Planning.{Plan, of_locator, target_of}
use Rattle.call_command.specs.Replies.{IsLine}
use Rattle.call_command.specs.Rounds.{Delivered}
use Rattle.call_command.specs.Steps.{IsInVain}

-- ---- results that are of their type lead somewhere

none_some : {X : Type 0} {x : X} → None ≡ Some x → ⊥
none_some e = cc

results_lead : (Refer : Refers) (roots : Trees) → EachOf (HasType locator_tables Refer MOST_DEPTH) (kinds.Proxy None ∷ []) roots → None ≡ of_members roots → ⊥
results_lead Refer roots (v, vs, is, (p, fine, same), rest) e =
    let there : roots ≡ tree (proxy p) none = is ∙ (λ i. tree (same i) (rest i)) in
    none_some (e ∙ ap of_members there)

led : (body : List ℕ) (g : Graph) → SpellsNumbered locator_tables all_slices find_object.results body g → results_at body ≡ Ok g
unfolding results_at
led body g spelled = numbered_only locator_tables all_slices find_object.results body g spelled

-- ---- what a question comes to

-- a request with an id is answered, or lost
module _ (o : Outgoing) (cached : Bool) where
  no_loss : (t : Talk) → IsLoss outcomes.Sent t → ⊥
  no_loss t (inl h) = let e : outcomes.Sent ≡ outcomes.NetFailed = h.0 in cc
  no_loss t (inr h) = let e : outcomes.Sent ≡ outcomes.Ended = h.0 in cc

  unanswered : (a : Attempt) (talk : Option Talk) → HasRow o cached a outcomes.Sent talk → o.replies ≡ false
  unanswered a None h = absurd (let e : outcomes.Sent ≡ outcomes.NetFailed = h.1 in cc)
  unanswered tries.NotConnected (Some t) h = absurd h.0
  unanswered tries.NotWhole (Some t) h = absurd (no_loss t h.0.2)
  unanswered tries.Sent (Some t) h = h.0.1
  unanswered tries.Lost (Some t) h = absurd (no_loss t h.0.4)
  unanswered tries.Closed (Some t) h = absurd (let e : outcomes.Sent ≡ outcomes.Closed = h.0.2 in cc)
  unanswered tries.Stale (Some t) h = absurd (let e : outcomes.Sent ≡ outcomes.Replied h.0.0 = h.0.2 in cc)
  unanswered tries.Broke (Some t) h = absurd (let e : outcomes.Sent ≡ outcomes.Broke h.0.0 = h.0.2 in cc)
  unanswered tries.Replied (Some t) h = absurd (let e : outcomes.Sent ≡ outcomes.Replied h.0.0 = h.0.2 in cc)

module _ (locator : Proxy) (retries : ℕ) (key : Key) where
  never_sent : (tried : List Tried) (r : Came) → Invokes (request locator key) locator.endpoints retries tried (Ok r) → r.outcome ≡ outcomes.Sent → ⊥
  never_sent tried r (attempts, did, placed, uncached, short) is =
      let ended : Ended did.outgoing retries tried (Some outcomes.Sent) = subst (λ (x : Outcome). Ended did.outgoing retries tried (had x)) is did.ended in
      false≢true (sym (unanswered did.outgoing ended.1.cached ended.1.attempt ended.1.talk ended.4) ∙ did.is_of.replies)

  no_line : (outcome : Outcome) (line : List ℕ) → lead_of outcome ≡ None → (outcome ≡ outcomes.Sent → ⊥) → IsLine of_locator outcome line → ⊥
  no_line (outcomes.Replied (answers.Done body)) line nowhere unsent (g, spelled, typed, is) =
      results_lead (RefersIn locator_tables g.instances) g.roots.required typed.roots.required (sym nowhere ∙ ap of_results (led body g spelled))
  no_line (outcomes.Replied (answers.Raised body)) line nowhere unsent won = won
  no_line (outcomes.Replied (answers.Missing status i f o)) line nowhere unsent won = won
  no_line (outcomes.Replied (answers.Unknown status what)) line nowhere unsent won = won
  no_line outcomes.Sent line nowhere unsent won = unsent refl
  no_line outcomes.NetFailed line nowhere unsent won = won
  no_line outcomes.Ended line nowhere unsent won = won
  no_line outcomes.Closed line nowhere unsent won = won
  no_line (outcomes.Broke fault) line nowhere unsent won = won
  no_line outcomes.NoEndpoint line nowhere unsent won = won

  abbrev IsVain : Came → Type 0
  IsVain r = (line : List ℕ) → IsLine of_locator r.outcome line → ⊥

  -- an answer that leads nowhere is none
  failed_so : (s r : Came) (rounds : List Round) → Asked locator retries key rounds (Some s) → (lead : Option Lead) → lead_of s.outcome ≡ lead → told_by lead s ≡ tellings.Failed r → IsVain r
  failed_so s r rounds (can, (tried, are, invokes)) None is e =
      let same : s ≡ r = cc e in
      subst IsVain same (λ line. no_line s.outcome line is (never_sent tried s invokes))
  failed_so s r rounds asked (Some lead) is e = absurd cc

  asked_in_vain : (answer : Option Came) (r : Came) (rounds : List Round) → Asked locator retries key rounds answer → told answer ≡ tellings.Failed r → IsVain r
  asked_in_vain None r rounds asked e = absurd cc
  asked_in_vain (Some s) r rounds asked e = failed_so s r rounds asked (lead_of s.outcome) refl e

-- ---- both questions

found_failed : (t : Told) (r : Came) → found t ≡ founds.Failed r → t ≡ tellings.Failed r
found_failed (tellings.Leads (leads.At endpoints)) r e = absurd cc
found_failed (tellings.Leads (leads.Behind id)) r e = absurd cc
found_failed (tellings.Leads leads.Nowhere) r e = absurd cc
found_failed (tellings.Failed s) r e = let same : s ≡ r = cc e in ap tellings.Failed same

next_failed : (key : Key) (t : Told) (r : Came) → next key t ≡ Over (founds.Failed r) → t ≡ tellings.Failed r
next_failed (Object identity) (tellings.Leads (leads.At endpoints)) r e = absurd cc
next_failed (Object identity) (tellings.Leads (leads.Behind id)) r e = absurd cc
next_failed (Object identity) (tellings.Leads leads.Nowhere) r e = absurd cc
next_failed (Object identity) (tellings.Failed s) r e = let same : s ≡ r = cc e in ap tellings.Failed same
next_failed (Adapter id) t r e = let same : found t ≡ founds.Failed r = cc e in found_failed t r same

module _ (locator : Proxy) (retries : ℕ) (key : Key) (r : Came) where
  follows_in_vain : (answer : Option Came) (first second : List Round) → Asked locator retries key first answer → (n : Next) → next key (told answer) ≡ n → Follows locator retries n second (founds.Failed r)
      → (line : List ℕ) → IsLine of_locator r.outcome line → ⊥
  follows_in_vain answer first second asked (Ask id) is (other, also, f) = asked_in_vain locator retries (Adapter id) other r second also (found_failed (told other) r (sym f))
  follows_in_vain answer first second asked (Over end) is (nothing, f) = asked_in_vain locator retries key answer r first asked (next_failed key (told answer) r (is ∙ sym (ap Over f)))

  finds_in_vain : (rounds : List Round) → Finds locator retries key rounds (founds.Failed r) → (line : List ℕ) → IsLine of_locator r.outcome line → ⊥
  finds_in_vain rounds (first, second, answer, are, asked, follows) = follows_in_vain answer first second asked (next key (told answer)) refl follows

-- ---- a resolution

module _ (old : Kept) (p : Proxy) (retries : ℕ) (rounds : List Round) (new : Kept) (r : Came) where
  resolves_in_vain : (w : Route) → By w old p retries rounds new (Some (Failed r)) → (line : List ℕ) → IsLine of_locator r.outcome line → ⊥
  resolves_in_vain by_itself (nothing, unchanged, is) = absurd cc
  resolves_in_vain (from_cache endpoints) (nothing, unchanged, is) = absurd cc
  resolves_in_vain (by_locator locator) (founds.At endpoints, finds, (kept, is)) = absurd cc
  resolves_in_vain (by_locator locator) (founds.Nowhere, finds, (kept, is)) = absurd cc
  resolves_in_vain (by_locator locator) (founds.Failed s, finds, (kept, is)) =
      let same : s ≡ r = cc (sym is) in
      finds_in_vain locator retries (key_of p) r rounds (subst (λ (x : Came). Finds locator retries (key_of p) rounds (founds.Failed x)) same finds)
  resolves_in_vain no_route (nothing, unchanged, is) = absurd cc

pub in_vain : (plan : Plan) (old : Kept) (rounds : List Round) (new : Kept) (through : Through) → Delivered plan old rounds new through → IsInVain through
in_vain plan old rounds new (Invoked r) went = tt
in_vain plan old rounds new NotLocated went = tt
in_vain plan old rounds new (LocatorFailed r) ((legs, d), short) =
    let t = target_of plan in
    resolves_in_vain d.mid t.proxy t.retries d.rest new r (route d.mid t.locator t.proxy) d.end
