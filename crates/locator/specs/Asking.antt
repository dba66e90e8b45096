-- Questions put to a locator, and what they find. (Ice manual, "Locators".)
use Rattle.std.specs.Prelude.{ℕ, ◌≡◌, List, [], ◌∷◌, ◌++◌, Option, None, Some, Result, Ok, Err}
use Rattle.ice_types.specs.declared.proxy.Proxy.{Proxy}
use Rattle.ice_client.specs.ClientDid.{Tried, Invokes}
use Rattle.ice_client.specs.declared.outcome.Invoked.{Invoked}
use Rattle.ice_client.specs.declared.outcome.Outcome.TheVariants.{NetFailed}
use Rattle.locator.specs.declared.key.Key.{Key}
use Rattle.locator.specs.declared.key.Key.TheVariants.{Object, Adapter}
use Rattle.locator.specs.declared.lead.Lead.{Lead}
use Rattle.locator.specs.declared.lead.Lead.TheVariants as leads
use Rattle.locator.specs.declared.asking.Told.{Told}
use Rattle.locator.specs.declared.asking.Told.TheVariants as tellings
use Rattle.locator.specs.declared.asking.Next.{Next}
use Rattle.locator.specs.declared.asking.Next.TheVariants.{Ask, Over}
use Rattle.locator.specs.declared.asking.Found.{Found}
use Rattle.locator.specs.declared.asking.Found.TheVariants as founds
use Rattle.locator.specs.Leads.{lead_of}
use Rattle.locator.specs.Questions.{request, CanBeAsked}
use Rattle.locator.specs.Rounds.{Round, round, AreAt}

-- ---- one question

-- One question: an invocation of the locator, as any other; none is made where its request may not be so long.
abbrev pub Asked : Proxy → ℕ → Key → List Round → Option Invoked → Type 0
Asked locator retries key rounds None = (CanBeAsked locator key → ⊥) × (rounds ≡ [])
Asked locator retries key rounds (Some r) = CanBeAsked locator key
    × ((tried : List Tried) × (rounds ≡ round locator tried ∷ []) × Invokes (request locator key) locator.endpoints retries tried (Ok r))

abbrev pub told_by : Option Lead → Invoked → Told
told_by None r = tellings.Failed r
told_by (Some lead) r = tellings.Leads lead

abbrev pub told_by_invoked : Invoked → Told
told_by_invoked r = told_by (lead_of r.outcome) r

-- what it came to; what is not asked for counts as not found
abbrev pub told : Option Invoked → Told
told None = tellings.Leads leads.Nowhere
told (Some r) = told_by_invoked r

-- ---- both questions

-- what is found where no question follows: an adapter is no endpoints
abbrev pub found : Told → Found
found (tellings.Leads (leads.At endpoints)) = founds.At endpoints
found (tellings.Leads (leads.Behind id)) = founds.Nowhere
found (tellings.Leads leads.Nowhere) = founds.Nowhere
found (tellings.Failed r) = founds.Failed r

-- an object behind an adapter leads to a second question, for that adapter
abbrev pub next_of_object : Told → Next
next_of_object (tellings.Leads (leads.At endpoints)) = Over (founds.At endpoints)
next_of_object (tellings.Leads (leads.Behind id)) = Ask id
next_of_object (tellings.Leads leads.Nowhere) = Over founds.Nowhere
next_of_object (tellings.Failed r) = Over (founds.Failed r)

-- and an adapter behind an adapter does not
abbrev pub next : Key → Told → Next
next (Object identity) t = next_of_object t
next (Adapter id) t = Over (found t)

abbrev pub Follows : Proxy → ℕ → Next → List Round → Found → Type 0
Follows locator retries (Ask id) rounds f = (answer : Option Invoked) × Asked locator retries (Adapter id) rounds answer × (f ≡ found (told answer))
Follows locator retries (Over end) rounds f = (rounds ≡ []) × (f ≡ end)

-- what the locator finds for the key
abbrev pub Finds : Proxy → ℕ → Key → List Round → Found → Type 0
Finds locator retries key rounds f = (first second : List Round) × (answer : Option Invoked) × (rounds ≡ first ++ second)
    × Asked locator retries key first answer × Follows locator retries (next key (told answer)) second f

-- ---- the same, or want of memory

abbrev pub Puts : {E : Type 0} → Proxy → ℕ → Key → List Round → Result (Option Invoked) E → Type 0
Puts locator retries key rounds (Ok answer) = Asked locator retries key rounds answer
Puts locator retries key rounds (Err e) = AreAt locator rounds

abbrev pub Asks : {E : Type 0} → Proxy → ℕ → Key → List Round → Result Told E → Type 0
Asks locator retries key rounds (Ok t) = (answer : Option Invoked) × Asked locator retries key rounds answer × (t ≡ told answer)
Asks locator retries key rounds (Err e) = AreAt locator rounds

abbrev pub FindsOrEnds : {E : Type 0} → Proxy → ℕ → Key → List Round → Result Found E → Type 0
FindsOrEnds locator retries key rounds (Ok f) = Finds locator retries key rounds f
FindsOrEnds locator retries key rounds (Err e) = AreAt locator rounds

abbrev pub FollowsOrEnds : {E : Type 0} → Proxy → ℕ → List ℕ → List Round → Result Found E → Type 0
FollowsOrEnds locator retries id rounds (Ok f) = Follows locator retries (Ask id) rounds f
FollowsOrEnds locator retries id rounds (Err e) = AreAt locator rounds

-- ---- the net failed

abbrev pub IsNetFailure : Option Invoked → Type 0
IsNetFailure None = ⊥
IsNetFailure (Some r) = r.outcome ≡ NetFailed

abbrev pub HasFailed : Told → Type 0
HasFailed (tellings.Leads lead) = ⊥
HasFailed (tellings.Failed r) = r.outcome ≡ NetFailed

abbrev pub FindsFailure : Found → Type 0
FindsFailure (founds.At endpoints) = ⊥
FindsFailure founds.Nowhere = ⊥
FindsFailure (founds.Failed r) = r.outcome ≡ NetFailed
