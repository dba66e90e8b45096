-- Which attempts may be followed by another. (Ice manual, "Automatic Retries".)
use Rattle.std.specs.Prelude.{Bool, true, false}
use Rattle.retry_core.specs.declared.attempt.Attempt.{Attempt}
use Rattle.retry_core.specs.declared.attempt.Attempt.TheVariants.{NotConnected, NotWhole, Sent, Lost, Closed, Stale, Broke, Replied}

-- whether an attempt that ended so may be followed by another, of a message that is idempotent or not
abbrev pub may_follow : Bool → Attempt → Bool
may_follow idempotent NotConnected = true
may_follow idempotent NotWhole = true
may_follow idempotent Sent = false
may_follow idempotent Lost = idempotent
may_follow idempotent Closed = true
may_follow idempotent Stale = true
may_follow idempotent Broke = false
may_follow idempotent Replied = false
