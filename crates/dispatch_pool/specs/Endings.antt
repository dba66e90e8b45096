-- Why accepting has ended.
use Rattle.std.specs.Prelude.{Bool, true, false}
use Rattle.dispatch_pool.specs.declared.ending.Ending.{Ending}
use Rattle.dispatch_pool.specs.declared.ending.Ending.TheVariants.{Open, Reached, NoMore, Failed}

-- an accept failed
abbrev pub has_failed : Ending → Bool
has_failed Open = false
has_failed Reached = false
has_failed NoMore = false
has_failed Failed = true

-- an accept answered None
abbrev pub has_run_out : Ending → Bool
has_run_out Open = false
has_run_out Reached = false
has_run_out NoMore = true
has_run_out Failed = false
