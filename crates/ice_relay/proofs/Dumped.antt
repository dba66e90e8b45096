-- What an input holds is noted by its canonical notation, and encoded from that as it is relayed.
use Rattle.std.proofs.Common.{◌≡◌, ℕ, List}
use Rattle.std.proofs.lemmas.List.Elements.{All-nil}
use Rattle.ice_types.specs.declared.kind.TypeRef.{TypeRef}
use Rattle.ice_types.specs.Tables.{Tables}
use Rattle.ice_types.specs.Rules.{IsSchema}
use Rattle.ice_prims.specs.Rest.{IsBytes}
use Rattle.ice_encoding.specs.CanonicalGraph.{Format}
use Rattle.ice_encoding.specs.Flags.{all_slices}
use Rattle.ice_encoding.specs.Graph.{Graph}
use Rattle.graph_json.specs.Canonical.{canonical_noted}
use Rattle.graph_json.specs.Contents.{HasOwnNames}
use Rattle.graph_json.specs.Texts.{IsJson, Lists, NotesText}
use Rattle.graph_json.proofs.Dumped.{dump_notes, dump_encodes}
use Rattle.ice_relay.specs.Relaying.{Holds, canonical_bytes, one_value}

own_name : (kind : TypeRef) → HasOwnNames (one_value kind)
own_name kind = record { names = (All-nil _, tt); tags = (All-nil _, tt) }

module _ (t : Tables) (kind : TypeRef) (input text : List ℕ) (g : Graph) (rules : IsSchema t) (fits : IsBytes input) (holds : Holds t kind input g) (is : IsJson text (canonical_noted t (one_value kind) g)) where
  pub noted_again : NotesText t (one_value kind) text g
  noted_again = (canonical_noted t (one_value kind) g, is, dump_notes t all_slices (one_value kind) rules (own_name kind) input g fits holds)

  pub encoded_again : (f : Format) (k : Graph) → Lists t (one_value kind) text k → canonical_bytes t kind f k ≡ canonical_bytes t kind f g
  encoded_again f k lists = dump_encodes t all_slices (one_value kind) rules (own_name kind) input g fits holds f text k is lists
