-- Runs on one connection, with free objects.
use Rattle.std.proofs.Common.{◌≡◌, ℕ, List, [], ◌∷◌, ◌++◌, length, Option, Some, refl, ap, sym, ◌∙◌, subst, Bool}
use Rattle.call_world.specs.Service.{Rules, free_rules}
use Rattle.call_world.specs.World.{World, Connection, Seat, Turn, Dispatched, Refused, Invocation, put_at}
use Rattle.call_world.specs.Connection.{ConnectionEvent, ConnectionStep, IsReady, turned, refused}
use Rattle.call_world.specs.Step.{Event, Dispatches, Refuses, On, Step, Run}
use Rattle.once_law.proofs.Lists.{put_here, put_there}
use Rattle.once_law.proofs.Links.{IsAllowed}

-- some events lead there
abbrev pub Reach : {C R O : Type 0} → Rules C R O → World C R O → World C R O → Type 0
Reach {C} {R} {O} rules a b = (es : List (Event C R O)) × Run rules a es b

pub reach_run : {C R O : Type 0} (rules : Rules C R O) (a : World C R O) (es : List (Event C R O)) (b c : World C R O) → Run rules a es b → Reach rules b c → Reach rules a c
reach_run rules a [] b c e r = subst (λ x. Reach rules x c) (sym e) r
reach_run rules a (e ∷ es) b c (mid, step, rest) r =
    let t = reach_run rules mid es b c rest r in
    (e ∷ t.0, (mid, step, t.1))

pub reach_more : {C R O : Type 0} (rules : Rules C R O) (a b c : World C R O) → Reach rules a b → Reach rules b c → Reach rules a c
reach_more rules a b c one two = reach_run rules a one.0 b c one.1 two

pub reach_step : {C R O : Type 0} (rules : Rules C R O) (a : World C R O) (e : Event C R O) (b : World C R O) → Step rules a e b → Reach rules a b
reach_step rules a e b step = (e ∷ [], (b, step, refl))

-- from w a world is reached in which connection c is k; all else, but for dispatches and objects, is as in w
pub record Moved {C R O : Type 0} (rules : Rules C R O) (w : World C R O) (c : ℕ) (k : Connection R) : Type 0 where
  pub world : World C R O
  pub reach : Reach rules w world
  pub here : world.connections c ≡ k
  pub others : (d : ℕ) → ¬ (d ≡ c) → world.connections d ≡ w.connections d
  pub same : world.invocations ≡ w.invocations

pub unmoved : {C R O : Type 0} (rules : Rules C R O) (w : World C R O) (c : ℕ) (k : Connection R) → w.connections c ≡ k → Moved rules w c k
unmoved rules w c k here = record { world = w; reach = ([], refl); here = here; others = λ d other. refl; same = refl }

-- one step more, whose world has k' at c
moved_more : {C R O : Type 0} (rules : Rules C R O) (w : World C R O) (c : ℕ) (k k' : Connection R) (m : Moved rules w c k) (e : Event C R O) (w' : World C R O)
    → Step rules m.world e w' → w'.connections ≡ put_at m.world.connections c k' → w'.invocations ≡ m.world.invocations → Moved rules w c k'
moved_more {C} {R} {O} rules w c k k' m e w' step conns invs =
    let at : (d : ℕ) → w'.connections d ≡ put_at m.world.connections c k' d = λ d. ap (λ (f : ℕ → Connection R). f d) conns in
    record {
      world = w';
      reach = reach_more rules w m.world w' m.reach (reach_step rules m.world e w' step);
      here = at c ∙ put_here m.world.connections c k';
      others = λ d other. at d ∙ (put_there m.world.connections c k' d other ∙ m.others d other);
      same = invs ∙ m.same;
    }

pub moved_on : {C R O : Type 0} (rules : Rules C R O) (w : World C R O) (c : ℕ) (k : Connection R) (e : ConnectionEvent R) (k' : Connection R)
    → ConnectionStep k e k' → Moved rules w c k → Moved rules w c k'
moved_on {C} {R} {O} rules w c k e k' step m =
    let w' : World C R O = record m.world { connections = put_at m.world.connections c k' } in
    moved_more rules w c k k' m (On c e) w' (k', subst (λ (x : Connection R). ConnectionStep x e k') (sym m.here) step, refl) refl refl

-- the seat whose turn it is has this turn; a refusal is answered where a reply is asked
abbrev pub has_turn : {R : Type 0} → Connection R → Bool → Turn R → Connection R
has_turn k twoway (Dispatched r) = turned k (Dispatched r)
has_turn k twoway (Refused r) = refused k twoway r

pub moved_turn : {C R : Type 0} (status : R → ℕ) (w : World C R (Unit {0})) (c : ℕ) (v : Invocation C R) (k : Connection R) (seat : Seat) (t : Turn R)
    → IsReady k seat → w.invocations seat.invocation ≡ Some v → IsAllowed status t
    → Moved (free_rules status) w c k → Moved (free_rules status) w c (has_turn k seat.twoway t)
unfolding free_rules
moved_turn {C} {R} status w c v k seat (Dispatched r) ready at allowed m =
    let k0 = m.world.connections c in
    let w' : World C R (Unit {0}) = record m.world {
      connections = put_at m.world.connections c (turned k0 (Dispatched r));
      dispatches = m.world.dispatches ++ record { connection = c; seat = length k0.turns; reply = r } ∷ [];
      objects = tt;
    } in
    moved_more (free_rules status) w c k (turned k (Dispatched r)) m (Dispatches c r tt) w' (
      seat,
      v,
      subst (λ (x : Connection R). IsReady x seat) (sym m.here) ready,
      ap (λ (f : ℕ → Option (Invocation C R)). f seat.invocation) m.same ∙ at,
      tt,
      allowed,
      refl,
    )
    (ap (λ (x : Connection R). put_at m.world.connections c (turned x (Dispatched r))) m.here) refl
moved_turn {C} {R} status w c v k seat (Refused r) ready at allowed m =
    let k0 = m.world.connections c in
    let w' : World C R (Unit {0}) = record m.world { connections = put_at m.world.connections c (refused k0 seat.twoway r) } in
    moved_more (free_rules status) w c k (refused k seat.twoway r) m (Refuses c r) w' (
      seat,
      v,
      subst (λ (x : Connection R). IsReady x seat) (sym m.here) ready,
      ap (λ (f : ℕ → Option (Invocation C R)). f seat.invocation) m.same ∙ at,
      tt,
      allowed,
      refl,
    )
    (ap (λ (x : Connection R). put_at m.world.connections c (refused x seat.twoway r)) m.here) refl
