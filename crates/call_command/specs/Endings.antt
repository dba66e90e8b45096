-- How a call ends: its status, and the line on the sink of errors.
use Rattle.std.specs.Prelude.{ℕ, List, [], ◌++◌, codes, Result, Ok, Err}
use Rattle.std.specs.Fmt.{decimal}
use Rattle.node_commands.specs.Words.{Word}
use Rattle.node_commands.specs.Answers.{Answer, status, error_line, input_text}
use Rattle.node_commands.specs.Outcomes.{answer_of}
use Rattle.call_command.specs.declared.stop.Reason.{Reason}
use Rattle.call_command.specs.declared.stop.Reason.TheVariants as reasons
use Rattle.call_command.specs.declared.stop.Stop.{Stop}
use Rattle.call_command.specs.declared.stop.Stop.TheVariants as stops
use Rattle.call_command.specs.declared.ending.Ending.{Ending}
use Rattle.call_command.specs.declared.ending.Ending.TheVariants as endings

pub data Ended : Type 0 where
  -- each message succeeded
  finished : Ended
  -- as any command is refused, before anything is connected
  refused : Answer → Ended
  -- the operation of this name has results or throws, and the proxy asks for no reply
  twoway_only : Word → Ended
  -- a message was sent, or tried to be, and this stopped it
  stopped : Stop → Ended

abbrev pub stop_status : Stop → ℕ
stop_status stops.WriteFailed = 6
stop_status stops.NetFailed = 7
stop_status (stops.Ended reason) = 8
stop_status stops.Memory = 9

abbrev pub status_of : Ended → ℕ
status_of finished = 0
status_of (refused answer) = status answer
status_of (twoway_only operation) = 2
status_of (stopped stop) = stop_status stop

-- why a call ended
abbrev pub reason_text : Reason → List ℕ
reason_text (reasons.Raised id) = codes "raised " ++ id
reason_text (reasons.Missing status) = codes "missing " ++ decimal status
reason_text (reasons.Unknown status text) = codes "unknown " ++ (decimal status ++ (codes " " ++ text))
reason_text reasons.NoEndpoint = codes "no endpoint"
reason_text reasons.NotLocated = codes "not located"
reason_text reasons.Closed = codes "closed"
reason_text reasons.Ended = codes "ended"
reason_text (reasons.Broke fault) = codes "broke at " ++ input_text fault

abbrev pub stop_line : Stop → List ℕ
stop_line stops.WriteFailed = codes "ice: write failed\n"
stop_line stops.NetFailed = codes "ice: network failed\n"
stop_line (stops.Ended reason) = codes "ice: call ended: " ++ (reason_text reason ++ codes "\n")
stop_line stops.Memory = codes "ice: no memory\n"

abbrev pub line_of : Ended → List ℕ
line_of finished = []
line_of (refused answer) = error_line answer
line_of (twoway_only operation) = codes "ice: twoway only " ++ (operation ++ codes "\n")
line_of (stopped stop) = stop_line stop

-- wherever its texts lie in memory
abbrev pub ending_seen : Ending → Ended
ending_seen (endings.Refused outcome) = refused (answer_of outcome [])
ending_seen (endings.TwowayOnly operation) = twoway_only operation.now
ending_seen (endings.Stopped stop) = stopped stop

abbrev pub ended_of : {X : Type 0} → Result X Ending → Ended
ended_of (Ok x) = finished
ended_of (Err ending) = ending_seen ending
