-- Each graph that a text notes has the bytes of the one that it lists.
use Rattle.std.proofs.Common.{◌≡◌, List, ℕ, sym, ◌∙◌, subst}
use Rattle.std.proofs.lemmas.Option.{same_Some}
use Rattle.serde_json.specs.Data.{Data}
use Rattle.ice_types.specs.declared.declarations.Shape.{Shape}
use Rattle.ice_types.specs.Tables.{Tables}
use Rattle.ice_types.specs.Rules.{IsSchema}
use Rattle.ice_encoding.specs.CanonicalGraph.{Format, graph_bytes}
use Rattle.ice_encoding.specs.Graph.{Graph}
use Rattle.ice_encoding.specs.SameGraph.{Same}
use Rattle.graph_laws.proofs.Canonicity.{same_bytes}
use Rattle.graph_json.specs.Notation.{NotesGraph}
use Rattle.graph_json.specs.Texts.{Lists, NotesText}
use Rattle.graph_json.proofs.Noted.{read_only}
use Rattle.graph_json.proofs.TextsApart.{one_json}

pub bytes_same : (t : Tables) (shape : Shape) (f : Format) (text : List ℕ) (g h : Graph) → IsSchema t → Lists t shape text g → NotesText t shape text h → graph_bytes t shape f g ≡ graph_bytes t shape f h
bytes_same t shape f text g h rules (le, d, is, (few, listed, typed)) (e, is', notes) =
    let found = read_only t shape d h rules (subst (λ (x : Data). NotesGraph t shape x h) (one_json text e d is' is) notes) in
    let one : found.0 ≡ g = same_Some found.0 g (sym found.1 ∙ listed) in
    same_bytes t shape f g h (subst (λ (k : Graph). Same k h) one found.3)
