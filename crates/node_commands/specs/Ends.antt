-- How connections that were served or forwarded end: the statuses, with the line of each.
use Rattle.std.specs.Prelude.{ℕ, List, codes}
use Rattle.node_commands.specs.declared.ending.Ending.{Ending}
use Rattle.node_commands.specs.declared.ending.Ending.TheVariants as endings
use Rattle.node_commands.specs.Answers.{Answer, status, error_line}
use Rattle.node_commands.specs.Outcomes.{answer_of}

-- with an answer that other commands have too, or because the net failed
pub data End : Type 0 where
  answered : Answer → End
  network_failed : End

abbrev pub end_status : End → ℕ
end_status (answered answer) = status answer
end_status network_failed = 7

-- the line on the sink of errors
abbrev pub end_line : End → List ℕ
end_line (answered answer) = error_line answer
end_line network_failed = codes "ice: network failed\n"

-- the end, with the bytes that were to be written
abbrev pub end_of : Ending → List ℕ → End
end_of (endings.Known outcome) bytes = answered (answer_of outcome bytes)
end_of endings.NetworkFailed bytes = network_failed
