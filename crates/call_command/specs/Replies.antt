-- What a message came to, as a line or as a reason. (Ice manual, "Reply Message".)
use Rattle.std.specs.Prelude.{ℕ, ◌≡◌, List, [], ◌∷◌, ◌++◌, codes, Option, Some, None, slice_get, Result, Ok, Err}
use Rattle.ice_types.specs.declared.declarations.ExceptionDecl.{ExceptionDecl}
use Rattle.ice_types.specs.Tables.{Tables}
use Rattle.ice_prims.specs.declared.fault.Fault.{Fault}
use Rattle.ice_prims.specs.Rest.{whole}
use Rattle.ice_encoding.specs.Graph.{Graph, Slice, known, unknown}
use Rattle.ice_encoding.specs.Flags.{all_slices}
use Rattle.ice_encoding.specs.Instances.{SpellsNumbered, numbered_at}
use Rattle.ice_encoding.specs.TypedGraph.{OfType}
use Rattle.ice_encoding.specs.Exceptions.{UserException, exception_at}
use Rattle.graph_json.specs.Texts.{graph_text}
use Rattle.ice_proxy.specs.PrintedWords.{quoted_text}
use Rattle.ice_messages.specs.declared.message.Answer.TheVariants as answers
use Rattle.ice_client.specs.declared.outcome.Outcome.{Outcome}
use Rattle.ice_client.specs.declared.outcome.Outcome.TheVariants as outcomes
use Rattle.locator.specs.declared.through.Through.{Through}
use Rattle.locator.specs.declared.through.Through.TheVariants.{Invoked, NotLocated, LocatorFailed}
use Rattle.call_command.specs.declared.stop.Reason.{Reason}
use Rattle.call_command.specs.declared.stop.Reason.TheVariants as reasons
use Rattle.call_command.specs.Messages.{sent_line}
use Rattle.call_command.specs.Planning.{Expected, Plan, of_locator}

-- ---- success

-- the line of JSON that tells the results which the encapsulation spells, which are of their types
abbrev pub TellsResults : Expected → List ℕ → List ℕ → Type 0
TellsResults e body line = (g : Graph) × SpellsNumbered e.tables all_slices e.results body g × OfType e.tables e.results g
    × (line ≡ graph_text e.tables e.results g ++ codes "\n")

-- the line on an outcome that is a success: the results, or that calls were sent
abbrev pub IsLine : Expected → Outcome → List ℕ → Type 0
IsLine e (outcomes.Replied (answers.Done body)) line = TellsResults e body line
IsLine e (outcomes.Replied (answers.Raised body)) line = ⊥
IsLine e (outcomes.Replied (answers.Missing status i f o)) line = ⊥
IsLine e (outcomes.Replied (answers.Unknown status what)) line = ⊥
IsLine e outcomes.Sent line = line ≡ sent_line e.calls
IsLine e outcomes.NetFailed line = ⊥
IsLine e outcomes.Ended line = ⊥
IsLine e outcomes.Closed line = ⊥
IsLine e (outcomes.Broke fault) line = ⊥
IsLine e outcomes.NoEndpoint line = ⊥

-- the line on a message that succeeded
abbrev pub HasLine : Plan → Through → List ℕ → Type 0
HasLine plan (Invoked r) line = IsLine plan.expected r.outcome line
HasLine plan NotLocated line = ⊥
HasLine plan (LocatorFailed r) line = ⊥

-- ---- the reasons

-- the type id of an exception at its place in the table, and nothing where none is
abbrev pub id_in : Option ExceptionDecl → List ℕ
id_in None = []
id_in (Some decl) = decl.id

-- the type id of the first slice; an exception that was read has one
abbrev pub first_id : Tables → List Slice → List ℕ
first_id t [] = []
first_id t (known at members ∷ slices) = id_in (slice_get t.exceptions at)
first_id t (unknown id bytes optionals table ∷ slices) = id

-- of an exception that was read, or of the first fault in its encapsulation
abbrev pub raised : Tables → Result UserException Fault → Reason
raised t (Ok x) = reasons.Raised (first_id t x.slices)
raised t (Err fault) = reasons.Broke fault

-- why an outcome is no success. Places count from the first byte of the message that breaks a rule, or of the encapsulation
-- in a reply.
abbrev pub IsReason : Expected → Outcome → Reason → Type 0
IsReason e (outcomes.Replied (answers.Done body)) reason = (fault : Fault) × (numbered_at e.tables all_slices e.results (whole body) ≡ Err fault) × (reason ≡ reasons.Broke fault)
IsReason e (outcomes.Replied (answers.Raised body)) reason = reason ≡ raised e.tables (exception_at e.tables all_slices (whole body))
IsReason e (outcomes.Replied (answers.Missing status i f o)) reason = reason ≡ reasons.Missing status
IsReason e (outcomes.Replied (answers.Unknown status what)) reason = reason ≡ reasons.Unknown status (quoted_text what)
IsReason e outcomes.Sent reason = ⊥
IsReason e outcomes.NetFailed reason = ⊥
IsReason e outcomes.Ended reason = reason ≡ reasons.Ended
IsReason e outcomes.Closed reason = reason ≡ reasons.Closed
IsReason e (outcomes.Broke fault) reason = reason ≡ reasons.Broke fault
IsReason e outcomes.NoEndpoint reason = reason ≡ reasons.NoEndpoint

-- why a message did not succeed: by what its attempts or the locator's invocation came to, or since no endpoints were found
abbrev pub HasReason : Plan → Through → Reason → Type 0
HasReason plan (Invoked r) reason = IsReason plan.expected r.outcome reason
HasReason plan NotLocated reason = reason ≡ reasons.NotLocated
HasReason plan (LocatorFailed r) reason = IsReason of_locator r.outcome reason
