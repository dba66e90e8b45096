-- The lines of a capture, in one pass over what the client asked and the statuses of the replies.
use Rattle.std.specs.Prelude.{ℕ, pos, Bool, true, false, List, [], ◌∷◌}
use Rattle.ice_audit.specs.declared.client.Posed.{Posed}
use Rattle.ice_audit.specs.declared.client.Posed.TheVariants.{Request, Batch}
use Rattle.ice_audit.specs.declared.verdict.Seen.{Seen}
use Rattle.ice_audit.specs.declared.verdict.Seen.TheVariants.{Never, Either}
use Rattle.ice_audit.specs.declared.verdict.Line.{Line}
use Rattle.ice_audit.specs.Captured.{is_asked}
use Rattle.ice_audit.specs.Traces.{seen_by}

-- by the next reply, where there is one, else by whether the server's close stands
abbrev pub next_seen : List ℕ → Bool → Seen
next_seen [] true = Never
next_seen [] false = Either
next_seen (s ∷ ss) closed = seen_by s

abbrev pub request_seen : Bool → List ℕ → Bool → Seen
request_seen true ss closed = next_seen ss closed
request_seen false ss closed = Either

abbrev pub line_by : Posed → List ℕ → Bool → Line
line_by (Request id) ss closed = record { id = id; calls = 1; batch = false; seen = request_seen (is_asked id) ss closed }
line_by (Batch calls) ss closed = record { id = pos 0; calls = calls; batch = true; seen = Either }

abbrev pub rest_of : {A : Type 0} → List A → List A
rest_of [] = []
rest_of (x ∷ xs) = xs

abbrev pub left_if : Bool → List ℕ → List ℕ
left_if true ss = rest_of ss
left_if false ss = ss

-- the replies that are to what was asked behind it
abbrev pub left_by : Posed → List ℕ → List ℕ
left_by (Request id) ss = left_if (is_asked id) ss
left_by (Batch calls) ss = ss

abbrev pub lines_of : List Posed → List ℕ → Bool → List Line
lines_of [] ss closed = []
lines_of (x ∷ xs) ss closed = line_by x ss closed ∷ lines_of xs (left_by x ss) closed
