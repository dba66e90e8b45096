-- A message to wherever its proxy leads: resolved anew before each attempt. (Ice manual, "Locators" and "Automatic Retries".)
use Rattle.std.specs.Prelude.{ℕ, suc, ◌≡◌, ◌≤◌, ◌<◌, ◌⊎◌, Bool, List, [], ◌∷◌, ◌++◌, length, map, Option, None, Some, IsSome, Result, Ok, Err}
use Rattle.ice_types.specs.declared.proxy.Proxy.{Proxy}
use Rattle.ice_encoding.specs.declared.limits.TheConstants.{LARGEST}
use Rattle.ice_messages.specs.declared.fault.WriteFault.{WriteFault}
use Rattle.ice_messages.specs.declared.fault.WriteFault.TheVariants.{TooLong, Memory}
use Rattle.ice_messages.specs.declared.message.Message.{Message}
use Rattle.ice_messages.specs.Messages.{message_bytes}
use Rattle.ice_messages.specs.Written.{told}
use Rattle.encaps_optionals.specs.Usable.{tcp_at}
use Rattle.retry_core.specs.Client.{Invoking}
use Rattle.ice_client.specs.ClientDid.{Tried, ClientDid, attempts_of, had}
use Rattle.ice_client.specs.declared.outcome.Outcome.{Outcome}
use Rattle.ice_client.specs.declared.outcome.Outcome.TheVariants.{NetFailed}
use Rattle.locator.specs.declared.resolving.Resolved.{Resolved}
use Rattle.locator.specs.declared.resolving.Resolved.TheVariants.{Direct, Unknown, Failed}
use Rattle.locator.specs.declared.through.Through.{Through}
use Rattle.locator.specs.declared.through.Through.TheVariants.{Invoked, NotLocated, LocatorFailed}
use Rattle.locator.specs.Caches.{Kept}
use Rattle.locator.specs.Keys.{key_of}
use Rattle.locator.specs.Resolving.{Resolves}
use Rattle.locator.specs.Rounds.{Round, attempt}
use Rattle.locator.specs.Steps.{Target, left_by}

abbrev pub target : Option Proxy → Proxy → ℕ → Target
target locator p retries = record { locator = locator; proxy = p; retries = retries }

-- ---- attempts, each behind a resolution

-- one attempt: what was asked of the locator before it, the place that this led to, and what was tried there
pub record Leg : Type 0 where
  pub asked : List Round
  pub place : Proxy
  pub tried : Tried

abbrev pub tried_of : List Leg → List Tried
tried_of legs = map (λ (l : Leg). l.tried) legs

-- what went over connections, from the attempt with this number on
abbrev pub rounds_of : ℕ → List Leg → List Round
rounds_of number [] = []
rounds_of number (l ∷ ls) = l.asked ++ (attempt l.place number l.tried ∷ rounds_of (suc number) ls)

-- Each attempt was made at an endpoint of the place that the resolution before it led to; it is cached as that says. The
-- places that are kept change by the resolutions, and by what is forgotten after an attempt.
abbrev pub Went : Target → ℕ → Kept → List Leg → Kept → Type 0
Went t number old [] new = new ≡ old
Went t number old (l ∷ ls) new = (mid : Kept) × Resolves old t.locator t.proxy t.retries l.asked mid (Some (Direct l.place l.tried.cached))
    × IsSome (tcp_at number l.place.endpoints) × Went t (suc number) (left_by (key_of t.proxy) l.tried.cached l.tried.attempt mid) ls new

-- ---- how it ends

-- by the last attempt: nothing was done behind it
abbrev pub Nothing : ℕ → Kept → List Round → Kept → Type 0
Nothing number old rest new = (rest ≡ []) × (new ≡ old)

-- by a resolution that leads to no place
abbrev pub Leads : Target → Resolved → ℕ → Kept → List Round → Kept → Type 0
Leads t r number old rest new = Resolves old t.locator t.proxy t.retries rest new (Some r)

-- by a resolution that leads to a place without an endpoint that can be used
abbrev pub Lacks : Target → ℕ → Kept → List Round → Kept → Type 0
Lacks t number old rest new = (place : Proxy) × (cached : Bool) × Resolves old t.locator t.proxy t.retries rest new (Some (Direct place cached))
    × (tcp_at number place.endpoints ≡ None)

-- by want of memory, in a resolution or in the attempt behind it
abbrev pub Starves : Target → ℕ → Kept → List Round → Kept → Type 0
Starves t number old rest new = Resolves old t.locator t.proxy t.retries rest new None
    ⊎ ((asked : List Round) × (place : Proxy) × (cached : Bool) × (cut : Tried) × (rest ≡ asked ++ (attempt place number cut ∷ []))
    × Resolves old t.locator t.proxy t.retries asked new (Some (Direct place cached)))

-- a message that has an outcome ends by its last attempt, one without by the lack of an endpoint
abbrev pub EndsBy : Target → Option Outcome → ℕ → Kept → List Round → Kept → Type 0
EndsBy t (Some outcome) = Nothing
EndsBy t None = Lacks t

-- The attempts, of which this holds together, and what ended them.
pub record Delivered (Did : List Tried → Type 0) (End : ℕ → Kept → List Round → Kept → Type 0) (t : Target) (legs : List Leg) (old : Kept) (rounds : List Round) (new : Kept) : Type 0 where
  pub rest : List Round
  pub mid : Kept
  pub rounds_are : rounds ≡ rounds_of 0 legs ++ rest
  pub went : Went t 0 old legs mid
  pub did : Did (tried_of legs)
  pub end : End (length legs) mid rest new

-- what was answered, by what holds of attempts with an outcome; None is want of memory
abbrev pub Delivers : (List Tried → Option Outcome → Type 0) → Target → Kept → List Round → Kept → Option Through → Type 0
Delivers Did t old rounds new (Some (Invoked r)) =
    (legs : List Leg) × (r.attempts ≡ attempts_of (tried_of legs)) × Delivered (λ tried. Did tried (had r.outcome)) (EndsBy t (had r.outcome)) t legs old rounds new
Delivers Did t old rounds new (Some NotLocated) = (legs : List Leg) × Delivered (λ tried. Did tried None) (Leads t Unknown) t legs old rounds new
Delivers Did t old rounds new (Some (LocatorFailed r)) = (legs : List Leg) × Delivered (λ tried. Did tried None) (Leads t (Failed r)) t legs old rounds new
Delivers Did t old rounds new None = (legs : List Leg) × Delivered (λ tried. Did tried None) (Starves t) t legs old rounds new

-- The message was tried at the places that the proxy leads to: together that is what a client does. One that is too long is
-- refused with its length, and nothing is done; want of memory may come before, between and behind resolutions and attempts.
abbrev pub GoesThrough : Message → Target → Kept → List Round → Kept → Result Through WriteFault → Type 0
GoesThrough m t old rounds new (Ok x) = Delivers (ClientDid m t.retries) t old rounds new (Some x) × (length (message_bytes m) ≤ LARGEST)
GoesThrough m t old rounds new (Err (TooLong n)) = (rounds ≡ []) × (new ≡ old) × (LARGEST < length (message_bytes m)) × (n ≡ told (length (message_bytes m)))
GoesThrough m t old rounds new (Err Memory) = (((rounds ≡ []) × (new ≡ old)) ⊎ Delivers (ClientDid m t.retries) t old rounds new None)
    × (length (message_bytes m) ≤ LARGEST)

-- ---- answers

abbrev pub invoked : Outcome → Invoking → Through
invoked outcome i = Invoked (record { outcome = outcome; attempts = i.attempts })

-- the net failed the last attempt, or the locator's invocation
abbrev pub IsFailure : Through → Type 0
IsFailure (Invoked r) = r.outcome ≡ NetFailed
IsFailure NotLocated = ⊥
IsFailure (LocatorFailed r) = r.outcome ≡ NetFailed
