-- How `serve` ended, by what its words and files decide and by what failed.
use Rattle.std.proofs.Common.{◌≡◌, ◌⊎◌, ◌++◌, ℕ, Bool, true, false, Option, Some, subst, ap, ◌∙◌, inl, inr}
use Rattle.ice_ports.specs.Failures.{one_more, count_after}
use Rattle.object_adapter.specs.Objects.{Objects}
use Rattle.node_commands.specs.Outside.{Files, Outside, ShelfFailed, SinkFailed}
use Rattle.node_commands.specs.Answers.{Answer, read_failed, no_memory}
use Rattle.serve_command.specs.Words.{Serve}
use Rattle.node_commands.specs.Ends.{End, answered}
use Rattle.node_commands.specs.Lines.{WritesEnd, listening, served}
use Rattle.serve_command.specs.Served.{Network, Refuses, Sets, Comes, refused, unread, starved, unheard, untold, ended}
use Rattle.serve_command.specs.Laws.{EndsAsRefused, IsDone, EndsForCause}
use Rattle.serve_command.proofs.OneRefusal.{refused_once, refused_or_set}

-- ---- words that are refused

module _ (c : Serve) (before after : Outside) (net later : Network) (files : Files) (answer : Answer) (known : before.files ≡ Some files) (is : Refuses c (Some files) answer) where
  never_set : (o : Objects) → Sets c before.files o → ⊥
  never_set o sets = refused_or_set c files answer o is (subst (λ (x : Option Files). Sets c x o) known sets)

  ends_so : (end : End) → Comes c before after net later end → (end ≡ answered answer) ⊎ ((end ≡ answered read_failed) ⊎ (end ≡ answered no_memory))
  ends_so end (refused other so why none keeps same) =
      inl (so ∙ ap answered (refused_once c files other answer (subst (λ (x : Option Files). Refuses c x other) known why) is))
  ends_so end (unread so failed keeps same) = inr (inl so)
  ends_so end (starved so none keeps same) = inr (inr so)
  ends_so end (unheard o so sets none keeps told counted) = absurd (never_set o sets)
  ends_so end (untold o port so sets is_port failed prefix unused) = absurd (never_set o sets)
  ends_so end (ended o port count failed lacked sets is_port sessions writes) = absurd (never_set o sets)

pub ends_as_refused : EndsAsRefused
ends_as_refused c before after net later result files answer known is h = ends_so c before after net later files answer known is h.end h.comes

-- ---- what keeps it from success

module _ (c : Serve) (before after : Outside) (net later : Network) where
  abbrev Caused : End → Type 0
  Caused end = IsDone end
      ⊎ (((answer : Answer) × Refuses c before.files answer × (end ≡ answered answer))
      ⊎ ((end ≡ answered no_memory)
      ⊎ (ShelfFailed before.failures after.failures
      ⊎ (SinkFailed before.failures after.failures
      ⊎ (later.failures ≡ one_more net.failures)))))

  served_so : (port count : ℕ) (failed lacked : Bool) (end : End) → later.failures ≡ count_after net.failures failed
      → WritesEnd before after (listening port ++ served count) (listening port) failed lacked end → Caused end
  served_so port count failed true end counted writes = inr (inr (inl writes.0))
  served_so port count true false end counted writes = inr (inr (inr (inr (inr counted))))
  served_so port count false false end counted (inl writes) = inl (port, count, writes.0)
  served_so port count false false end counted (inr writes) = inr (inr (inr (inr (inl writes.1))))

  cause_of : (end : End) → Comes c before after net later end → Caused end
  cause_of end (refused answer so why none keeps same) = inr (inl (answer, why, so))
  cause_of end (unread so failed keeps same) = inr (inr (inr (inl failed)))
  cause_of end (starved so none keeps same) = inr (inr (inl so))
  cause_of end (unheard o so sets none keeps told counted) = inr (inr (inr (inr (inr counted))))
  cause_of end (untold o port so sets is_port failed prefix unused) = inr (inr (inr (inr (inl failed))))
  cause_of end (ended o port count failed lacked sets is_port sessions writes) = served_so port count failed lacked end sessions.heard.counted writes

pub ends_for_cause : EndsForCause
ends_for_cause c before after net later result h = cause_of c before after net later h.end h.comes
