-- What clauses say of one pass of each turnstile of a row.
use Rattle.std.specs.Prelude.{◌≡◌, ℕ, ◌==◌, if◌then◌else◌, List, [], ◌∷◌, ◌++◌}
use Rattle.turnstile.specs.declared.history.Entry.{Entry}
use Rattle.turnstile.specs.declared.turned.Turned.{Ghosts}
use Rattle.turnstile.specs.declared.ticket_lock.Turnstile.{Turnstile}
use Rattle.turnstile.specs.declared.passes.Pass.{Pass}
use Rattle.turnstile.specs.History.{EachOnce, AreTicketsOf, tickets, IsLegal}
use Rattle.turnstile.specs.Passes.{IsPassOf, opening, seen, own, SameShare, SharesOf, DidJoin}
use Rattle.dispatch_pool.specs.Abreast.{Beside, Abreast}

-- ---- calls in histories

module _ {C R : Type 0} where
  -- the history has these entries, one behind the other
  abbrev pub HasInOrder : List (Entry C R) → List (Entry C R) → Type 0
  HasInOrder history [] = Unit {0}
  HasInOrder history (e ∷ es) = (front back : List (Entry C R)) × (history ≡ front ++ e ∷ back) × HasInOrder back es

-- a turn of the object at this place
pub record Turn (C R : Type 0) : Type 0 where
  pub place : ℕ
  pub entry : Entry C R

module _ {C R : Type 0} where
  -- the entries of the turns at one place, in order
  abbrev pub at_place : ℕ → List (Turn C R) → List (Entry C R)
  at_place i [] = []
  at_place i (t ∷ ts) = if t.place == i then t.entry ∷ at_place i ts else at_place i ts

module _ {X C R : Type 0} {g : Ghosts X C R} where
  -- ---- one pass

  -- it is a pass of this turnstile, has seen a legal history, and its own tickets are of entries that it has seen, each once
  pub record Fits (t : Turnstile X C R) (p : Pass X C R g) : Type 0 where
    pub of : IsPassOf t p
    pub legal : IsLegal g.turns (opening t) (seen p)
    pub own_seen : AreTicketsOf (own p) (seen p)
    pub once : EachOnce (own p)

  -- the pass p became q: it has seen more, and its own calls are those before and then these, in this order
  pub record PassGrew (p q : Pass X C R g) (calls : List (Entry C R)) : Type 0 where
    pub more : List (Entry C R)
    pub seen_is : seen q ≡ seen p ++ more
    pub has_calls : HasInOrder more calls
    pub own_is : own q ≡ own p ++ tickets calls
    pub share : SameShare p q

  -- the pass p became q when r was split off: all have seen the same, and r made no call
  abbrev pub HasSplit : Pass X C R g → Pass X C R g → Pass X C R g → Type 0
  HasSplit p r q = (seen q ≡ seen p) × (own q ≡ own p) × (seen r ≡ seen p) × (own r ≡ []) × SharesOf q r p

  -- the pass p became q when r was joined into it
  abbrev pub HasJoined : Turnstile X C R → Pass X C R g → Pass X C R g → Pass X C R g → Type 0
  HasJoined t p r q = DidJoin t p r q × SharesOf p r q

  -- ---- rows of passes

  -- one pass of each turnstile
  abbrev pub RowFits : List (Turnstile X C R) → List (Pass X C R g) → Type 0
  RowFits ts ps = Beside {A = Turnstile X C R} {B = Pass X C R g} (λ i t p. Fits t p) ts ps

  -- the passes became these by exactly these turns, in this order
  abbrev pub RowGrew : List (Pass X C R g) → List (Pass X C R g) → List (Turn C R) → Type 0
  RowGrew ps qs turns = Beside {A = Pass X C R g} {B = Pass X C R g} (λ i p q. PassGrew p q (at_place i turns)) ps qs

  abbrev pub RowSplit : List (Pass X C R g) → List (Pass X C R g) → List (Pass X C R g) → Type 0
  RowSplit ps rs qs = Abreast {A = Pass X C R g} {B = Pass X C R g} {C = Pass X C R g} (λ i p r q. HasSplit p r q) ps rs qs
