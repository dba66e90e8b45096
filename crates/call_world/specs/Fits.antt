-- Which worlds show what was captured of one connection.
use Rattle.std.specs.Prelude.{◌≡◌, ℕ, Bool, List, [], ◌++◌, Some, slice_get, length}
use Rattle.call_world.specs.World.{World, Seat, Sent, Invocation}
use Rattle.call_world.specs.Asked.{Asked, Wanted, wanted, total}

-- the seat s is that of the call x
pub record IsCallOf {C R O : Type 0} (repeatable : C → Bool) (w : World C R O) (s : Seat) (x : Wanted C) : Type 0 where
  pub invocation : Invocation C R
  pub started : w.invocations s.invocation ≡ Some invocation
  pub call : invocation.call ≡ x.call
  pub repeats : invocation.idempotent ≡ repeatable x.call
  pub twoway : invocation.twoway ≡ x.twoway
  pub asks : s.twoway ≡ x.twoway
  pub ends : s.ends ≡ x.ends

-- connection 0 has these calls, each an invocation of its own, and no other connection has any
pub record HasAsked {C R O : Type 0} (idempotent : C → Bool) (items : List (Wanted C)) (w : World C R O) : Type 0 where
  pub number : length (w.connections 0).asked ≡ length items
  pub calls :
      (n : ℕ) (s : Seat) (x : Wanted C) → slice_get (w.connections 0).asked n ≡ Some s → slice_get items n ≡ Some x
      → IsCallOf idempotent w s x
  pub own :
      (m n : ℕ) (s t : Seat) → slice_get (w.connections 0).asked m ≡ Some s → slice_get (w.connections 0).asked n ≡ Some t
      → s.invocation ≡ t.invocation → m ≡ n
  pub alone : (c : ℕ) → ¬ (c ≡ 0) → (w.connections c).asked ≡ []

-- the client asked this and handed it over whole, and the server began to send this, and perhaps more
pub record Fits {C R O : Type 0} (idempotent : C → Bool) (client : List (Asked C)) (sent : List (Sent R)) (w : World C R O) : Type 0 where
  pub asked : HasAsked idempotent (wanted 0 client) w
  pub handed : (w.connections 0).handed ≡ total 0 client
  pub more : List (Sent R)
  pub answered : (w.connections 0).answered ≡ sent ++ more
