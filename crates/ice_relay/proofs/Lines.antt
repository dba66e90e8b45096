-- The line of a graph in pieces, and what comes of telling it.
use Rattle.std.proofs.Common.{◌≡◌, ℕ, List, ◌++◌, Option, Ok, Err, Vec, codes, false, sym, ap, subst, ◌∙◌, append_assoc}
use Rattle.std.specs.declared.alloc.Global.{Global}
use Rattle.std.specs.Io.KnownBytes.{Appends}
use Rattle.json.specs.Print.{escape_byte}
use Rattle.serde_json.specs.Written.{compact_text, items_text}
use Rattle.ice_types.specs.declared.kind.TypeRef.{TypeRef}
use Rattle.ice_types.specs.declared.declarations.Member.{Member}
use Rattle.ice_types.specs.declared.declarations.Shape.{Shape}
use Rattle.ice_types.specs.Tables.{Tables}
use Rattle.ice_prims.specs.Rest.{whole, IsBytes}
use Rattle.ice_encoding.specs.Graph.{Graph}
use Rattle.ice_encoding.specs.Flags.{all_slices}
use Rattle.ice_encoding.specs.Instances.{numbered_at}
use Rattle.ice_encoding.specs.SameGraph.{form}
use Rattle.graph_json.specs.Canonical.{graph_noted, instance_noted, items_noted}
use Rattle.graph_json.specs.Contents.{content_noted}
use Rattle.ice_relay.specs.Dumping.{DumpsTo, dump_line}
use Rattle.ice_relay.specs.Pages.{Stops, Tells, TellsAll, of_tell}
use Rattle.ice_relay.specs.Relaying.{root_of, one_value}
use Rattle.ice_ports.specs.declared.ports.PortFault.{PortFault}
use Rattle.ice_ports.specs.declared.ports.PortFault.TheVariants as faults
use Rattle.ice_relay.proofs.Holding.{asked, asked_is, holds}
use Rattle.ice_relay.proofs.Pages.{IsLeft, longer_stops}

module _ (t : Tables) (shape : Shape) (g : Graph) where
  abbrev pub line : List ℕ
  line = compact_text (graph_noted t shape g) ++ codes "\n"

  abbrev pub head : List ℕ
  head = codes "{\"instances\":["

  abbrev pub instances : List ℕ
  instances = items_text false (items_noted (instance_noted t) g.instances)

  abbrev roots : List ℕ
  roots = compact_text (content_noted t shape g.roots)

  abbrev pub tail : List ℕ
  tail = codes ",\"roots\":" ++ (roots ++ codes "}\n")

  line_in_pieces : head ++ (instances ++ tail) ≡ line
  unfolding escape_byte
  line_in_pieces =
      sym (ap (λ (l : List ℕ). head ++ l)
      (append_assoc instances (codes ",\"roots\":" ++ (roots ++ codes "}")) (codes "\n")
      ∙ ap (λ (l : List ℕ). instances ++ (codes ",\"roots\":" ++ l)) (append_assoc roots (codes "}") (codes "\n"))))

  module _ (first : List ℕ) (is : first ≡ head) where
    with_tail : (first ++ instances) ++ tail ≡ line
    with_tail = ap (λ (l : List ℕ). (l ++ instances) ++ tail) is ∙ append_assoc head instances tail ∙ line_in_pieces

    pub instances_stop : (old new : Option (List ℕ)) (before after : ℕ) (fault : PortFault) → Stops (first ++ instances) old new before after fault → Stops line old new before after fault
    instances_stop old new before after fault stops =
        subst (λ (l : List ℕ). Stops l old new before after fault) with_tail (longer_stops (first ++ instances) tail old new before after fault stops)

    pub roots_left : (old new : Option (List ℕ)) (before after : ℕ) (page : Vec ℕ Global) → Tells (first ++ instances) old new before after (Ok page) → IsLeft line tail old new before after page
    roots_left old new before after page tells = record { told = first ++ instances; tells = tells; completes = with_tail }

module _ (t : Tables) (kind : TypeRef) (root : Member) (is : root ≡ root_of kind) (input : List ℕ) (g h : Graph) (fits : IsBytes input)
    (read : numbered_at t all_slices (asked t kind root is) (whole input) ≡ Ok g) (formed : h ≡ form g) where
  its_line : line t (asked t kind root is) h ≡ dump_line t kind g
  its_line = ap (λ (s : Shape). line t s h) (asked_is t kind root is) ∙ ap (λ (x : Graph). line t (one_value kind) x) formed

  pub dumped : (old new : Option (List ℕ)) (before after : ℕ) (x : Unit {0}) → TellsAll (line t (asked t kind root is) h) old new before after (Ok x) → DumpsTo t kind input old new before after (Ok x)
  dumped old new before after x (got, count) = (g, holds t kind root is input g fits read, subst (λ (l : List ℕ). Appends old new l) its_line got, count)

  stopped : (old new : Option (List ℕ)) (before after : ℕ) (fault : PortFault) → Stops (dump_line t kind g) old new before after fault → DumpsTo t kind input old new before after (Err (of_tell fault))
  stopped old new before after faults.Failed (got, count) = (g, holds t kind root is input g fits read, got, count)
  stopped old new before after faults.Memory (got, count) = (g, holds t kind root is input g fits read, got, count)

  pub dump_stops : (old new : Option (List ℕ)) (before after : ℕ) (fault : PortFault) → Stops (line t (asked t kind root is) h) old new before after fault → DumpsTo t kind input old new before after (Err (of_tell fault))
  dump_stops old new before after fault stops = stopped old new before after fault (subst (λ (l : List ℕ). Stops l old new before after fault) its_line stops)
