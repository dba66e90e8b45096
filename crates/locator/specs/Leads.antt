-- Where the locator's answers lead. (Ice manual, "Locators".)
use Rattle.std.specs.Prelude.{ℕ, List, [], ◌∷◌, Option, None, Some, Result, Ok, Err}
use Rattle.ice_types.specs.declared.proxy.Endpoint.{Endpoint}
use Rattle.ice_types.specs.declared.proxy.Proxy.{Proxy}
use Rattle.ice_prims.specs.declared.fault.Fault.{Fault}
use Rattle.ice_prims.specs.Rest.{whole}
use Rattle.ice_encoding.specs.Tree.{Tree, boolean, byte, short, int, long, text, sequence, dictionary, struct, enumerator, proxy, reference, Trees, none, tree}
use Rattle.ice_encoding.specs.Exceptions.{UserException, exception_at}
use Rattle.ice_encoding.specs.Flags.{all_slices}
use Rattle.ice_encoding.specs.Graph.{Graph, Slice, known, unknown}
use Rattle.ice_encoding.specs.Instances.{numbered_at}
use Rattle.value_parts.specs.Shapes.{told_apart}
use Rattle.ice_messages.specs.declared.message.Answer.{Answer}
use Rattle.ice_messages.specs.declared.message.Answer.TheVariants.{Done, Raised, Missing, Unknown}
use Rattle.ice_client.specs.declared.outcome.Outcome.{Outcome}
use Rattle.ice_client.specs.declared.outcome.Outcome.TheVariants as outcomes
use Rattle.locator_types.specs.Locator.{find_object, locator_tables}
use Rattle.locator.specs.declared.lead.Lead.{Lead}
use Rattle.locator.specs.declared.lead.Lead.TheVariants.{At, Behind, Nowhere}

-- ---- of results

abbrev pub place_by : List Endpoint → List ℕ → Lead
place_by (e ∷ es) adapter = At (e ∷ es)
place_by [] (c ∷ cs) = Behind (c ∷ cs)
place_by [] [] = Nowhere

-- to its endpoints, else to its adapter
abbrev pub of_proxy : Proxy → Lead
of_proxy p = place_by p.endpoints p.adapter

abbrev pub of_pointer : Option Proxy → Lead
of_pointer None = Nowhere
of_pointer (Some p) = of_proxy p

-- of a proxy, null or not; any other value is no answer
abbrev pub of_value : Tree → Option Lead
of_value (boolean b) = None
of_value (byte n) = None
of_value (short z) = None
of_value (int z) = None
of_value (long z) = None
of_value (text s) = None
of_value (sequence items) = None
of_value (dictionary pairs) = None
of_value (struct members) = None
of_value (enumerator n) = None
of_value (proxy p) = Some (of_pointer p)
of_value (reference n) = None

abbrev pub of_members : Trees → Option Lead
of_members none = None
of_members (tree v none) = of_value v
of_members (tree v (tree w vs)) = None

-- the results of a body, which both operations have in one form
unfoldable pub results_at : List ℕ → Result Graph Fault
results_at body = numbered_at locator_tables all_slices (told_apart find_object.results) (whole body)

abbrev pub of_results : Result Graph Fault → Option Lead
of_results (Ok g) = of_members g.roots.required
of_results (Err fault) = None

-- ---- of an exception

-- the two that a locator raises are all that it knows, and they say that nothing was found
abbrev pub of_slice : Slice → Option Lead
of_slice (known exception members) = Some Nowhere
of_slice (unknown id bytes optionals table) = None

-- by the first slice
abbrev pub of_slices : List Slice → Option Lead
of_slices [] = None
of_slices (first ∷ slices) = of_slice first

unfoldable pub raised_at : List ℕ → Result UserException Fault
raised_at body = exception_at locator_tables all_slices (whole body)

abbrev pub of_raised : Result UserException Fault → Option Lead
of_raised (Ok x) = of_slices x.slices
of_raised (Err fault) = None

-- ---- of what a question came to

abbrev pub of_answer : Answer → Option Lead
of_answer (Done body) = of_results (results_at body)
of_answer (Raised body) = of_raised (raised_at body)
of_answer (Missing status i f o) = None
of_answer (Unknown status what) = None

-- none where it gave neither a proxy nor one of the two exceptions
abbrev pub lead_of : Outcome → Option Lead
lead_of (outcomes.Replied answer) = of_answer answer
lead_of outcomes.Sent = None
lead_of outcomes.NetFailed = None
lead_of outcomes.Ended = None
lead_of outcomes.Closed = None
lead_of (outcomes.Broke fault) = None
lead_of outcomes.NoEndpoint = None
