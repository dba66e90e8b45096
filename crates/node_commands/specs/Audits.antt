-- What `audit` writes of a capture.
use Rattle.std.specs.Prelude.{ℕ, Bool, true, false, List, ◌++◌, codes}
use Rattle.std.specs.Fmt.{decimal, signed_decimal}
use Rattle.std.specs.List.{flat_map}
use Rattle.ice_prims.specs.Kinds.{kind_name}
use Rattle.ice_audit.specs.declared.verdict.Seen.{Seen}
use Rattle.ice_audit.specs.declared.verdict.Seen.TheVariants.{Once, Never, Either}
use Rattle.ice_audit.specs.declared.verdict.Line.{Line}
use Rattle.ice_audit.specs.declared.verdict.Side.{Side}
use Rattle.ice_audit.specs.declared.verdict.Side.TheVariants.{Client, Server}
use Rattle.ice_audit.specs.declared.verdict.Why.{Why}
use Rattle.ice_audit.specs.declared.verdict.Why.TheVariants.{Bytes, AfterClose, TooLong}
use Rattle.ice_audit.specs.declared.verdict.Verdict.{Verdict}
use Rattle.ice_audit.specs.declared.verdict.Verdict.TheVariants.{Yes, No}
use Rattle.message_dump.specs.Lines.{◌&◌}

-- how often a call was dispatched
abbrev pub seen_words : Seen → List ℕ
seen_words Once = codes "1"
seen_words Never = codes "0"
seen_words Either = codes "0 or 1"

-- what was asked: a request by its id, a batch by how many calls it is
abbrev pub asked_words : Bool → Line → List ℕ
asked_words false line = codes "request" & signed_decimal line.id
asked_words true line = codes "batch" & decimal line.calls

-- `request ID N` or `batch COUNT N`
abbrev pub capture_line : Line → List ℕ
capture_line line = (asked_words line.batch line & seen_words line.seen) ++ codes "\n"

abbrev pub side_word : Side → List ℕ
side_word Client = codes "client"
side_word Server = codes "server"

abbrev pub cause_word : Why → List ℕ
cause_word (Bytes kind) = kind_name kind
cause_word AfterClose = codes "AfterClose"
cause_word TooLong = codes "TooLong"

-- `no SIDE PLACE: KIND`
abbrev pub denial : Side → ℕ → Why → List ℕ
denial side place why = (codes "no" & (side_word side & decimal place)) ++ (codes ": " ++ (cause_word why ++ codes "\n"))

-- the lines of a capture that is good, and then that it is; or what is wrong first, and where
abbrev pub verdict_text : Verdict → List ℕ
verdict_text (Yes lines) = flat_map capture_line lines ++ codes "yes\n"
verdict_text (No side place why) = denial side place why
