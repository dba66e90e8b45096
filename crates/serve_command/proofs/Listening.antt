-- Listening and serving, from what their steps came to.
use Rattle.std.proofs.Common.{◌≡◌, ◌≤◌, ◌⊎◌, ℕ, Bool, false, subst}
use Rattle.std.specs.Prelude.{nat_lt, Option, Some}
use Rattle.ice_ports.specs.Failures.{count_after}
use Rattle.ice_ports.specs.Nets.{ToldNet, ToldListener, came_back, gathered_of}
use Rattle.dispatch_pool.specs.declared.lanes.Lanes.{Lanes}
use Rattle.dispatch_pool.specs.declared.lanes.LanePasses.{LanePasses}
use Rattle.dispatch_pool.specs.Lanes.{AreWhole}
use Rattle.dispatch_pool.specs.Sessions.{AllServed}
use Rattle.talking.specs.Told.{NoneToCome}
use Rattle.node_commands.specs.declared.limits.TheConstants.{MOST_MESSAGES}
use Rattle.serve_command.specs.Words.{Serve}
use Rattle.serve_command.specs.Served.{network, Heard}
use Rattle.node_commands.proofs.Counts.{retired, why_ended}

module _ (c : Serve) (lanes : Lanes) (begun : LanePasses) where
  -- sessions were served
  pub heard_of : {A B : Type 0} (passes : LanePasses) (first last : Option ToldListener) (told now : Option ToldNet) (failures counted none more wanted count : ℕ) (failed starved : Bool)
      → AllServed lanes MOST_MESSAGES first (Some begun) count last passes count starved → AreWhole passes → count ≤ wanted
      → (failed ≡ false → starved ≡ false → ((count ≡ wanted) × A) ⊎ (B × NoneToCome last))
      → now ≡ came_back (gathered_of last) told → counted ≡ count_after failures (nat_lt 0 more) → more ≡ count_after none failed → none ≡ 0 → wanted ≡ c.connections
      → Heard c lanes begun first (network told failures) (network now counted) count failed starved
  heard_of passes first last told now failures counted none more wanted count failed starved all whole few ended back retires accepts new same = record {
    last = last;
    passes = passes;
    all = all;
    whole = whole;
    few = subst (λ (z : ℕ). count ≤ z) same few;
    ended = λ f s. subst (λ (z : ℕ). (count ≡ z) ⊎ NoneToCome last) same (why_ended (ended f s));
    told = back;
    counted = retired failures counted more none failed retires accepts new;
  }
