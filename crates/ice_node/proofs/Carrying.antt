-- What is decided for `relay` is for each reader the graph that came in.
use Rattle.std.proofs.Common.{◌≡◌, ◌≤◌, ◌∙◌, ℕ, List, [], ◌∷◌, length, Some, None, Option, refl, sym, subst, inl, inr, codes}
use Rattle.ice_types.specs.declared.kind.TypeRef.{TypeRef}
use Rattle.ice_types.specs.Tables.{Tables}
use Rattle.ice_prims.specs.Rest.{IsBytes}
use Rattle.ice_encoding.specs.declared.limits.TheConstants.{LARGEST}
use Rattle.std.specs.Io.KnownBytes.{Appends}
use Rattle.ice_encoding.specs.Graph.{Graph}
use Rattle.ice_encoding.specs.Flags.{all_slices}
use Rattle.ice_encoding.specs.CanonicalGraph.{sliced}
use Rattle.graph_laws.specs.Relaying.{Relays}
use Rattle.ice_encoding.specs.SameGraph.{Spells}
use Rattle.graph_laws.specs.Sized.{SpellsSized}
use Rattle.graph_laws.proofs.Relayed.{spelled_back}
use Rattle.graph_laws.proofs.There.{reached_there, same_itself}
use Rattle.instance_writing.specs.declared.format.Format.TheVariants as formats
use Rattle.ice_relay.specs.Relaying.{one_value, Holds, canonical_bytes}
use Rattle.slice_meaning.proofs.Loads.{one_meaning}
use Rattle.node_commands.specs.declared.words.Task.TheVariants as tasks
use Rattle.node_commands.specs.Words.{Word, Command, values, check, proxy, audit, compat, drill, messages, help, version, Asks}
use Rattle.node_commands.specs.Outside.{Files, Outside}
use Rattle.node_commands.specs.Answers.{Answer, done, different, usage, no_such_name, slice_refused, input_refused, json_refused, too_long, needs_sliced, text_refused, read_failed, write_failed, no_memory, refused_after, read_failed_after, no_memory_after, status}
use Rattle.node_commands.specs.Decided.{DoesTask, Decides, Decided}
use Rattle.ice_node.specs.Carrying.{IsReader, Carries}
use Rattle.node_commands.specs.Statuses.{Answered}
use Rattle.node_commands.specs.TypeWords.{IsTypeWord}
use Rattle.node_commands.proofs.CommandForms.{page_no_task, values_apart, no_task}

done_is : (a b : List ℕ) → done a ≡ done b → a ≡ b
done_is a b e = cc

module _ (files : Files) (input : List ℕ) (fits : IsBytes input) (t : Tables) (kind : TypeRef) (g : Graph) where
  -- a graph that the node holds is written as the reader's
  held_back : (u : Tables) (other : TypeRef) (h : Graph) (out : List ℕ) → Relays t u (one_value kind) (one_value other) → Spells t all_slices (one_value kind) input g → Holds u other input h
      → length (canonical_bytes u other sliced h) ≤ LARGEST → out ≡ canonical_bytes u other sliced h → SpellsSized t (one_value kind) out g
  held_back u other h out relays spelled holds small is =
      let itself = same_itself h (reached_there u all_slices (one_value other) input h relays.node fits holds) in
      subst (λ (l : List ℕ). SpellsSized t (one_value kind) l g) (sym is) (spelled_back t u (one_value kind) (one_value other) input g h relays fits spelled (h, holds, itself) small)

  module _ (file word : Word) (reader : IsReader files file word input t kind g) (out : List ℕ) where
    carried : DoesTask (tasks.Relay formats.Sliced) (Some files) (Some input) file word (done out) → SpellsSized t (one_value kind) out g
    carried (inl (broken, fault, is)) = absurd cc
    carried (inr (u, loads, inl (unnamed, is))) = absurd cc
    carried (inr (u, loads, inr (other, named, inl (fault, broken, is)))) = absurd cc
    carried (inr (u, loads, inr (other, named, inr (h, holds, inl (needs, is))))) = absurd needs
    carried (inr (u, loads, inr (other, named, inr (h, holds, inr (writable, inr (long, is)))))) = absurd cc
    carried (inr (u, loads, inr (other, named, inr (h, holds, inr (writable, inl (small, is)))))) =
        let node : reader.node ≡ u = one_meaning files file reader.node u reader.loads loads in
        let kinds : reader.other ≡ other = named.1 reader.other (subst (λ (s : Tables). IsTypeWord s word reader.other) node reader.named) in
        held_back u other h out (subst (λ (x : Tables × TypeRef). Relays t x.0 (one_value kind) (one_value x.1)) (λ i. (node i, kinds i)) reader.relays) reader.spelled holds small (done_is out _ is)

    -- the words ask for nothing else
    by_command : (words : List Word) (asked : Option Command) → words ≡ codes "relay" ∷ file ∷ word ∷ [] → Asks words asked → Decides asked (Some files) (Some input) (done out) → SpellsSized t (one_value kind) out g
    by_command words (Some (values task f k)) are form decides =
        carried (subst (λ (c : Command). Decides (Some c) (Some files) (Some input) (done out)) (values_apart words task (tasks.Relay formats.Sliced) f file k word form.0 are) decides)
    by_command words (Some (check f)) are form decides = absurd (no_task words _ (tasks.Relay formats.Sliced) file word are form.0 refl)
    by_command words (Some (proxy f)) are form decides = absurd (no_task words _ (tasks.Relay formats.Sliced) file word are form.0 refl)
    by_command words (Some (audit f g)) are form decides = absurd (no_task words _ (tasks.Relay formats.Sliced) file word are form.0 refl)
    by_command words (Some (compat f g k)) are form decides = absurd (no_task words _ (tasks.Relay formats.Sliced) file word are form.0 refl)
    by_command words (Some (drill start count)) are form decides = absurd (no_task words _ (tasks.Relay formats.Sliced) file word are form.0 refl)
    by_command words (Some messages) are form decides = absurd (no_task words _ (tasks.Relay formats.Sliced) file word are form refl)
    by_command words (Some (help page)) are form decides = absurd (no_task words _ (tasks.Relay formats.Sliced) file word are form (page_no_task page))
    by_command words (Some version) are form decides = absurd (no_task words _ (tasks.Relay formats.Sliced) file word are form refl)
    by_command words None are form decides = absurd cc

pub relay_carries : (words : List Word) (files : Files) (input out : List ℕ) → IsBytes input → Decided words files input (done out) → Carries words files input out
relay_carries words files input out fits (asked, asks, decides) file word t kind g are reader = by_command files input fits t kind g file word reader out words asked are asks decides

-- ---- of the answer that came

done_at_zero : (came : Answer) → status came ≡ 0 → (out : List ℕ) × (came ≡ done out)
done_at_zero (done out) e = (out, refl)
done_at_zero (different bytes) e = absurd cc
done_at_zero usage e = absurd cc
done_at_zero (no_such_name word) e = absurd cc
done_at_zero (slice_refused broken) e = absurd cc
done_at_zero (input_refused fault) e = absurd cc
done_at_zero (json_refused why) e = absurd cc
done_at_zero (too_long length) e = absurd cc
done_at_zero needs_sliced e = absurd cc
done_at_zero (text_refused place) e = absurd cc
done_at_zero read_failed e = absurd cc
done_at_zero (write_failed bytes) e = absurd cc
done_at_zero no_memory e = absurd cc
done_at_zero (refused_after written fault) e = absurd cc
done_at_zero (read_failed_after written) e = absurd cc
done_at_zero (no_memory_after written) e = absurd cc

pub answer_carries : (words : List Word) (before after : Outside) (result : ℕ) (came : Answer) → Answered words before after result came → (files : Files) (input : List ℕ) → before.files ≡ Some files → before.input ≡ Some input
    → IsBytes input → result ≡ 0 → (out : List ℕ) × Appends before.output after.output out × Carries words files input out
answer_carries words before after result came a files input shelf source fits zero =
    let d = done_at_zero came (sym a.returned ∙ zero) in
    let told : Answered words before after result (done d.0) = subst (λ (x : Answer). Answered words before after result x) d.1 a in
    let decides = subst (λ (x : Option Files). Decides told.asked x (Some input) (done d.0)) shelf (subst (λ (x : Option (List ℕ)). Decides told.asked before.files x (done d.0)) source told.cause.0) in
    (d.0, told.output, relay_carries words files input d.0 fits (told.asked, told.asks, decides))
