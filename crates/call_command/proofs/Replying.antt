-- What the results of a call come to: a line, or what stops the call.
use Rattle.std.proofs.Common.{◌≡◌, ℕ, List, ◌++◌, Ok, Err, refl, ap, subst, ◌∙◌, codes}
use Rattle.ice_types.specs.declared.declarations.Shape.{Shape}
use Rattle.ice_prims.specs.Rest.{whole, IsBytes}
use Rattle.ice_prims.specs.Taking.{Fails}
use Rattle.ice_prims.specs.declared.fault.ReadFault.{ReadFault}
use Rattle.ice_prims.specs.declared.fault.ReadFault.TheVariants as read_faults
use Rattle.ice_encoding.specs.Graph.{Graph}
use Rattle.ice_encoding.specs.Flags.{all_slices}
use Rattle.ice_encoding.specs.TypedGraph.{OfType}
use Rattle.ice_encoding.specs.Instances.{numbered_at}
use Rattle.ice_encoding.proofs.Graphs.{numbered_found}
use Rattle.graph_json.specs.Texts.{graph_text}
use Rattle.ice_messages.specs.declared.message.Answer.TheVariants as answers
use Rattle.ice_client.specs.declared.outcome.Outcome.TheVariants as outcomes
use Rattle.call_command.specs.Planning.{Expected}
use Rattle.call_command.specs.Replies.{TellsResults}
use Rattle.call_command.specs.Steps.{LacksLine, of_read}

module _ (e : Expected) (asked : Shape) (is : asked ≡ e.results) (body : List ℕ) where
  pub told_line : IsBytes body → (g : Graph) (line : List ℕ) → numbered_at e.tables all_slices asked (whole body) ≡ Ok g → OfType e.tables asked g
      → line ≡ graph_text e.tables asked g ++ codes "\n" → TellsResults e body line
  told_line fits g line read typed printed = (
    g,
    numbered_found e.tables all_slices e.results body g fits (subst (λ (x : Shape). numbered_at e.tables all_slices x (whole body) ≡ Ok g) is read),
    subst (λ (x : Shape). OfType e.tables x g) is typed,
    printed ∙ ap (λ (x : Shape). graph_text e.tables x g ++ codes "\n") is,
  )

  pub told_fault : (fault : ReadFault) → Fails fault (numbered_at e.tables all_slices asked (whole body))
      → LacksLine e (outcomes.Replied (answers.Done body)) (of_read fault)
  told_fault (read_faults.Broken fault) read = (fault, subst (λ (x : Shape). numbered_at e.tables all_slices x (whole body) ≡ Err fault) is read, refl)
  told_fault read_faults.Memory read = tt
