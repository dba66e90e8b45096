-- How lanes end.
use Rattle.std.specs.Prelude.{◌≡◌, ℕ, ◌<◌, List, length, slice_index_or}
use Rattle.turnstile.specs.declared.turned.Turned.{Ghosts}
use Rattle.turnstile.specs.declared.passes.Pass.{Pass}
use Rattle.turnstile.specs.declared.passes.Stray as strays
use Rattle.turnstile.specs.Passes.{Closes, Strays}
use Rattle.ice_messages.specs.declared.message.Call.{Call}
use Rattle.ice_messages.specs.declared.message.Answer.{Answer}
use Rattle.object_adapter.specs.declared.servant.Servant.{Servant}
use Rattle.dispatch_pool.specs.declared.object.Object.{Object}
use Rattle.dispatch_pool.specs.declared.lanes.Lanes.{Lanes}
use Rattle.dispatch_pool.specs.declared.lanes.LanePasses.{LanePasses}
use Rattle.dispatch_pool.specs.declared.lanes.Unclosed.{Unclosed}
use Rattle.dispatch_pool.specs.declared.lanes.Unclosed.TheVariants.{Memory, Stray}
use Rattle.dispatch_pool.specs.Abreast.{AllThree}
use Rattle.dispatch_pool.specs.Lanes.{Stile}

module _ {g : Ghosts Object Call Answer} where
  -- the turnstile closes with this object, which the history led to
  abbrev pub ClosesWith : Stile → Pass Object Call Answer g → Servant → Type 0
  ClosesWith t p s = (object : Object) × Closes t p object × (object.servant ≡ s)

  -- those below the place n close with these objects
  abbrev pub ClosesBelow : ℕ → List Stile → List (Pass Object Call Answer g) → List Servant → Type 0
  ClosesBelow n ts ps servants = AllThree {A = Stile} {B = Pass Object Call Answer g} {C = Servant} (λ i t p s. ClosesWith t p s) n ts ps servants

  abbrev pub RowCloses : List Stile → List (Pass Object Call Answer g) → List Servant → Type 0
  RowCloses ts ps servants = (length servants ≡ length ts) × ClosesBelow (length ts) ts ps servants

  -- the first turnstile that does not close, and why
  abbrev pub StaysOpen : List Stile → List (Pass Object Call Answer g) → ℕ → strays.Stray → Type 0
  StaysOpen ts ps object stray =
      (object < length ts)
      × ((t : Stile) (p : Pass Object Call Answer g) → Strays (slice_index_or ts object t) (slice_index_or ps object p) stray)
      × ((servants : List Servant) × ClosesBelow object ts ps servants)

-- each object is what its history led to, and the passes' own calls are all calls of it
abbrev pub ClosesAll : Lanes → LanePasses → List Servant → Type 0
ClosesAll lanes passes servants = RowCloses lanes.stiles.items passes.passes.items servants

-- everything is handed back; or there is a stray
abbrev pub Remains : Lanes → LanePasses → Unclosed → Type 0
Remains old given (Memory lanes passes) = (lanes ≡ old) × (passes ≡ given)
Remains old given (Stray object stray) = StaysOpen old.stiles.items given.passes.items object stray

abbrev pub IsMemory : Unclosed → Type 0
IsMemory (Memory lanes passes) = Unit {0}
IsMemory (Stray object stray) = ⊥
