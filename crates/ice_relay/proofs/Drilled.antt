-- The line is that of the graph that is drawn.
use Rattle.std.proofs.Common.{◌≡◌, ℕ, ◌<◌, ◌≤◌, List, [], ◌∷◌, length, Result, sym, subst}
use Rattle.std.specs.Prelude.{String}
use Rattle.std.specs.declared.alloc.Global.{Global}
use Rattle.ice_types.specs.declared.declarations.Member.{Member}
use Rattle.ice_types.specs.declared.declarations.Shape.{Shape}
use Rattle.ice_types.specs.Tables.{Tables}
use Rattle.ice_encoding.specs.Graph.{Graph}
use Rattle.ice_encoding.specs.Instances.{most_instances}
use Rattle.ice_encoding.specs.TypedGraph.{OfType}
use Rattle.ice_encoding.specs.CanonicalGraph.{compact, IsWritable}
use Rattle.value_parts.specs.Shapes.{told_apart}
use Rattle.ice_relay.specs.declared.drilling.TheConstants.{MOST_NODES}
use Rattle.ice_relay.specs.declared.drill_fault.DrillFault.{DrillFault}
use Rattle.ice_relay.specs.Drawn.{drawn}
use Rattle.ice_relay.specs.Nodes.{drill_tables, one_node, root}
use Rattle.ice_relay.specs.Telling.{Tells, Drills}
use Rattle.ice_relay.proofs.Fitting.{drawn-typed, drawn-writable, drawn-few}

abbrev asked : Member → Shape
asked m = told_apart (record { required = m ∷ []; optional = [] })

module _ (start count : ℕ) (t : Tables) (t_is : t ≡ drill_tables) (m : Member) (m_is : m ≡ root) (g : Graph) (g_is : g ≡ drawn start count) where
  pub typed : 0 < count → OfType t (asked m) g
  typed some =
      subst (λ (u : Tables). OfType u (asked m) g) (sym t_is)
      (subst (λ (n : Member). OfType drill_tables (asked n) g) (sym m_is)
      (subst (OfType drill_tables one_node) (sym g_is) (drawn-typed start count some)))

  pub writable : 0 < count → count ≤ MOST_NODES → IsWritable compact g
  writable some few = subst (IsWritable compact) (sym g_is) (drawn-writable start count some few)

  pub within : count ≤ MOST_NODES → length g.instances ≤ most_instances
  within few = subst (λ (h : Graph). length h.instances ≤ most_instances) (sym g_is) (drawn-few start count few)

  pub drills : (result : Result (String Global) DrillFault) → Tells t (asked m) count g result → Drills start count result
  drills result h =
      subst (λ (k : Graph). Tells drill_tables one_node count k result) g_is
      (subst (λ (n : Member). Tells drill_tables (asked n) count g result) m_is
      (subst (λ (u : Tables). Tells u (asked m) count g result) t_is h))
