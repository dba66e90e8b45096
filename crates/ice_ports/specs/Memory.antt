-- What contracts see of the objects in memory.
use Rattle.std.specs.Prelude.{ℕ, List, length, Bool, nat_le, nat_lt, ◌&&◌, ◌||◌}
use Rattle.ice_ports.specs.Plan.{fails_now}
use Rattle.ice_ports.specs.declared.fault_plan.FaultPlan.{FaultPlan}

-- a source: the bytes not read yet, and how many a read gives at most
pub record Supply : Type 0 where
  pub left : List ℕ
  pub piece : ℕ
  pub plan : FaultPlan

-- a sink: the bytes taken, and how many it takes in all
pub record Store : Type 0 where
  pub taken : List ℕ
  pub room : ℕ
  pub plan : FaultPlan

-- a shelf: names and contents in order
pub record Folder : Type 0 where
  pub files : List (List ℕ × List ℕ)
  pub plan : FaultPlan

-- a piece of this length is not empty, and there is no room for a byte of it
abbrev pub lacks_room : Store → ℕ → Bool
lacks_room s n = nat_le s.room (length s.taken) && nat_lt 0 n

-- a write of a piece of this length fails: it is listed, or there is no room
abbrev pub write_fails : Store → ℕ → Bool
write_fails s n = fails_now s.plan || lacks_room s n
