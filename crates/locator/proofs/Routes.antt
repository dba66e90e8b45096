-- Resolutions.
use Rattle.std.proofs.Common.{ℕ, ◌≡◌, true, false, List, [], ◌∷◌, Option, None, Some, Result, Ok, Err, refl, sym, subst, ap, ◌∙◌}
use Rattle.std.specs.Prelude.{IfOk, IfSome, IsTrue, ◌↔◌}
use Rattle.ice_types.specs.declared.proxy.Endpoint.{Endpoint}
use Rattle.ice_types.specs.declared.proxy.Proxy.{Proxy}
use Rattle.locator.specs.declared.key.Key.{Key}
use Rattle.locator.specs.declared.asking.Found.{Found}
use Rattle.locator.specs.declared.asking.Found.TheVariants as founds
use Rattle.locator.specs.declared.resolving.Resolved.{Resolved}
use Rattle.locator.specs.declared.resolving.Resolved.TheVariants.{Direct}
use Rattle.locator.specs.Asking.{Finds, FindsFailure}
use Rattle.locator.specs.Caches.{Kept, kept_by}
use Rattle.locator.specs.Keys.{key_of}
use Rattle.locator.specs.Resolving.{Route, by_itself, from_cache, by_locator, no_route, beyond, route_by, route, By, Resolves, Settles, SettlesOrEnds, IsFailure, placed, got}
use Rattle.locator.specs.Rounds.{Round, AreAt}

-- ---- which route

itself_by : (endpoints : List Endpoint) (kept : Option (List Endpoint)) (locator : Option Proxy) → (endpoints ≡ [] → ⊥) → route_by endpoints kept locator ≡ by_itself
itself_by [] kept locator some = absurd (some refl)
itself_by (e ∷ es) kept locator some = refl

is_itself : (places : Kept) (locator : Option Proxy) (p : Proxy) → (p.endpoints ≡ [] → ⊥) → route places locator p ≡ by_itself
is_itself places locator p some = itself_by p.endpoints (kept_by (key_of p) places) locator some

is_route : (places : Kept) (locator : Option Proxy) (p : Proxy) (kept : Option (List Endpoint)) → p.endpoints ≡ [] → kept_by (key_of p) places ≡ kept → route places locator p ≡ route_by [] kept locator
is_route places locator p kept none is = ap (λ (es : List Endpoint). route_by es (kept_by (key_of p) places) locator) none ∙ ap (λ (k : Option (List Endpoint)). route_by [] k locator) is

-- ---- what comes of it

by_route : (r : Route) (old : Kept) (locator : Option Proxy) (p : Proxy) (retries : ℕ) (rounds : List Round) (new : Kept) (x : Option Resolved) → route old locator p ≡ r → By r old p retries rounds new x
    → Resolves old locator p retries rounds new x
by_route r old locator p retries rounds new x is h = subst (λ (q : Route). By q old p retries rounds new x) (sym is) h

starved_by : (r : Route) (old : Kept) (p : Proxy) (retries : ℕ) → By r old p retries [] old None
starved_by by_itself old p retries = (refl, refl, tt)
starved_by (from_cache es) old p retries = (refl, refl, tt)
starved_by (by_locator l) old p retries = (tt, refl)
starved_by no_route old p retries = (refl, refl, tt)

-- memory may run out before anything is done
pub starved : (old : Kept) (locator : Option Proxy) (p : Proxy) (retries : ℕ) → Resolves old locator p retries [] old None
starved old locator p retries = starved_by (route old locator p) old p retries

got_if : {E : Type 0} (P : Resolved → Type 0) (x : Result Resolved E) → IfOk x P → IfSome (got x) P
got_if P (Ok r) h = h
got_if P (Err e) h = tt

-- by its own endpoints
pub by_its_own : {E : Type 0} (old : Kept) (locator : Option Proxy) (p : Proxy) (retries : ℕ) (x : Result Resolved E) → (p.endpoints ≡ [] → ⊥) → IfOk x (λ r. r ≡ Direct p false) → Resolves old locator p retries [] old (got x)
by_its_own old locator p retries x some is = by_route by_itself old locator p retries [] old (got x) (is_itself old locator p some) (refl, refl, got_if (λ (r : Resolved). r ≡ Direct p false) x is)

-- by those that are kept
pub by_kept : {E : Type 0} (old : Kept) (locator : Option Proxy) (p : Proxy) (retries : ℕ) (endpoints : List Endpoint) (x : Result Resolved E) → p.endpoints ≡ [] → kept_by (key_of p) old ≡ Some endpoints
    → IfOk x (λ r. r ≡ Direct (placed p endpoints) true) → Resolves old locator p retries [] old (got x)
by_kept old locator p retries endpoints x none kept is =
    by_route (from_cache endpoints) old locator p retries [] old (got x) (is_route old locator p (Some endpoints) none kept) (refl, refl, got_if (λ (r : Resolved). r ≡ Direct (placed p endpoints) true) x is)

-- by a locator, or by nothing
pub by_beyond : (old : Kept) (locator : Option Proxy) (p : Proxy) (retries : ℕ) (rounds : List Round) (new : Kept) (x : Option Resolved) → p.endpoints ≡ [] → kept_by (key_of p) old ≡ None → By (beyond locator) old p retries rounds new x
    → Resolves old locator p retries rounds new x
by_beyond old locator p retries rounds new x none kept h = by_route (beyond locator) old locator p retries rounds new x (is_route old locator p None none kept) h

-- ---- tests

pub not_none : {P : Type 0} → IsTrue false ↔ P → P → ⊥
not_none h p = absurd (let z : false ≡ true = h.1 p in cc)

pub none_then : {P : Type 0} → IsTrue true ↔ P → P
none_then h = h.0 refl

pub kept_at : (key : Key) (p : Proxy) (old : Kept) (x : Option (List Endpoint)) → x ≡ kept_by key old → key ≡ key_of p → kept_by (key_of p) old ≡ x
kept_at key p old x is same = ap (λ (k : Key). kept_by k old) (sym same) ∙ sym is

-- ---- what a locator found

-- it is kept, or memory ran out
pub settled : (l : Proxy) (old : Kept) (p : Proxy) (retries : ℕ) (rounds : List Round) (new : Kept) (f : Found) (x : Option Resolved) → AreAt l rounds → Finds l retries (key_of p) rounds f → SettlesOrEnds old p f new x
    → By (by_locator l) old p retries rounds new x
settled l old p retries rounds new f None at finds settles = (at, settles)
settled l old p retries rounds new f (Some r) at finds settles = (f, finds, settles)

failed_so : (old : Kept) (p : Proxy) (new : Kept) (f : Found) (r : Resolved) → Settles old p f new r → IsFailure r → FindsFailure f
failed_so old p new (founds.At endpoints) r settles failed = absurd (subst IsFailure settles.1 failed)
failed_so old p new founds.Nowhere r settles failed = absurd (subst IsFailure settles.1 failed)
failed_so old p new (founds.Failed invoked) r settles failed = subst IsFailure settles.1 failed

-- a failure of the net is one of what was found
pub failed_settled : {E : Type 0} (P : Type 0) (old : Kept) (p : Proxy) (new : Kept) (f : Found) (x : Result Resolved E) → SettlesOrEnds old p f new (got x) → (FindsFailure f → P) → IfOk x (λ r. IsFailure r → P)
failed_settled P old p new f (Ok r) settles then = λ failed. then (failed_so old p new f r settles failed)
failed_settled P old p new f (Err e) settles then = tt
