-- What the program answers: the table of statuses, with the line of each.
use Rattle.std.specs.Prelude.{ℕ, List, [], ◌++◌, codes}
use Rattle.std.specs.Fmt.{decimal}
use Rattle.ice_prims.specs.declared.fault.Fault.{Fault}
use Rattle.ice_prims.specs.Kinds.{kind_name}
use Rattle.graph_json.specs.declared.fault.JsonKind.{JsonKind}
use Rattle.graph_json.specs.Texts.{kind_name as json_kind_name}
use Rattle.slice_meaning.specs.Printed.{LoadBreak}
use Rattle.node_commands.specs.Words.{Word}

-- the answers of the program
pub data Answer : Type 0 where
  -- these bytes were written
  done : List ℕ → Answer
  -- these bytes were written, and they say no
  different : List ℕ → Answer
  -- the words are none of the listed forms
  usage : Answer
  -- the word names no type, or no file
  no_such_name : Word → Answer
  -- the Slice file, or one that it includes, has this fault
  slice_refused : LoadBreak → Answer
  -- the input has this fault
  input_refused : Fault → Answer
  -- the text of JSON is refused, for this reason
  json_refused : JsonKind → Answer
  -- an instance has an unknown slice, which compact format cannot carry
  needs_sliced : Answer
  -- the bytes to be written are so many, which is more than the limit
  too_long : ℕ → Answer
  -- the word that begins here cannot stand in the text of a proxy
  text_refused : ℕ → Answer
  read_failed : Answer
  -- a prefix of these bytes was written
  write_failed : List ℕ → Answer
  no_memory : Answer
  -- these bytes were written, and then: the input has this fault, a read failed, memory ran out
  refused_after : List ℕ → Fault → Answer
  read_failed_after : List ℕ → Answer
  no_memory_after : List ℕ → Answer

-- the status of each
abbrev pub status : Answer → ℕ
status (done bytes) = 0
status (different bytes) = 1
status usage = 2
status (no_such_name word) = 2
status (slice_refused broken) = 3
status (input_refused fault) = 4
status (json_refused why) = 4
status (too_long length) = 4
status needs_sliced = 4
status (text_refused place) = 4
status read_failed = 5
status (write_failed bytes) = 6
status no_memory = 9
status (refused_after written fault) = 4
status (read_failed_after written) = 5
status (no_memory_after written) = 9

-- where a fault of a Slice text stands: FILE:PLACE: KIND
abbrev pub fault_text : LoadBreak → List ℕ
fault_text broken = broken.file ++ (codes ":" ++ (decimal broken.place ++ (codes ": " ++ broken.kind)))

-- where a fault of an input stands: PLACE: KIND
abbrev pub input_text : Fault → List ℕ
input_text fault = decimal fault.place ++ (codes ": " ++ kind_name fault.kind)

-- the line that says so
abbrev pub refusal : Fault → List ℕ
refusal fault = codes "ice: input refused at " ++ (input_text fault ++ codes "\n")

-- the line on the sink of errors
abbrev pub error_line : Answer → List ℕ
error_line (done bytes) = []
error_line (different bytes) = []
error_line usage = codes "ice: usage\n"
error_line (no_such_name word) = codes "ice: no such name " ++ (word ++ codes "\n")
error_line (slice_refused broken) = codes "ice: " ++ (fault_text broken ++ codes "\n")
error_line (input_refused fault) = refusal fault
error_line (json_refused why) = codes "ice: text refused: " ++ (json_kind_name why ++ codes "\n")
error_line (too_long length) = codes "ice: answer too long: " ++ (decimal length ++ codes "\n")
error_line needs_sliced = codes "ice: kept slice needs sliced format\n"
error_line (text_refused place) = codes "ice: text refused at " ++ (decimal place ++ codes "\n")
error_line read_failed = codes "ice: read failed\n"
error_line (write_failed bytes) = codes "ice: write failed\n"
error_line no_memory = codes "ice: no memory\n"
error_line (refused_after written fault) = refusal fault
error_line (read_failed_after written) = codes "ice: read failed\n"
error_line (no_memory_after written) = codes "ice: no memory\n"
