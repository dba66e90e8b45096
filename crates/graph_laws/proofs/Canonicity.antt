-- Equal canonical bytes are sameness.
use Rattle.std.proofs.Common.{ℕ, ◌+◌, ◌<◌, ◌≤◌, ◌^◌, ◌≡◌, List, [], length, map, drop, Ok, refl, sym, ap, ◌∙◌, subst, arith}
use Rattle.std.proofs.lemmas.List.{length-map}
use Rattle.ice_types.specs.declared.declarations.Shape.{Shape}
use Rattle.ice_types.specs.Tables.{Tables}
use Rattle.ice_prims.specs.Rest.{Rest, whole}
use Rattle.ice_prims.proofs.Parts.{ok_is}
use Rattle.ice_encoding.specs.declared.limits.TheConstants.{LARGEST}
use Rattle.ice_encoding.specs.Opening.{encapsulated_bytes}
use Rattle.ice_encoding.specs.Port.{Port}
use Rattle.ice_encoding.specs.OptionalMembers.{Members, SpellsContent, content_at}
use Rattle.ice_encoding.proofs.Contents.{content_only}
use Rattle.ice_encoding.specs.Graph.{Slice, Graph}
use Rattle.ice_encoding.specs.Names.{renamed_slice}
use Rattle.ice_encoding.specs.References.{State, opening, seen}
use Rattle.ice_encoding.specs.Flags.{Reach, all_slices}
use Rattle.ice_encoding.specs.Instances.{instances, slices_of, most_instances, AllFit, SpellsGraph, SpellsNumbered}
use Rattle.ice_encoding.specs.Visiting.{place, order, most}
use Rattle.ice_encoding.specs.SameGraph.{Same, form, numbered, Spells}
use Rattle.ice_encoding.specs.TypedGraph.{OfTypeTo, OfType}
use Rattle.ice_encoding.specs.CanonicalGraph.{Format, bytes_of, canonical_graph, graph_bytes}
use Rattle.ice_encoding.proofs.Slices.{instances_seen, instances_lawful}
use Rattle.graph_laws.proofs.TypeIds.{Spelled}
use Rattle.graph_laws.proofs.Weaker.{content_weaker}
use Rattle.graph_laws.proofs.ClassIds.{AreSpelled}
use Rattle.graph_laws.proofs.Renumbered.{form-same}
use Rattle.graph_laws.proofs.Formed.{EachAsked, Reached, form-in_order, form-typed, form-same-graph}
use Rattle.graph_laws.proofs.WrittenValues.{Limits, written_limits}
use Rattle.graph_laws.proofs.WrittenGraphs.{content_spelled}

-- ---- no bytes spell two numbered graphs

module _ (t : Tables) (reach : Reach) (shape : Shape) (room more : ℕ) where
  abbrev port : Port (State ℕ) Spelled
  port = instances t reach room more

  abbrev Contents : List ℕ → Members → Spelled → Type 0
  Contents bytes roots end = SpellsContent port t shape bytes roots opening end

  read_is : (bytes : List ℕ) (roots : Members) (end : Spelled) → Contents bytes roots end
      → (last : State ℕ) × (seen last ≡ end) × (content_at port.read t shape opening (whole bytes) ≡ Ok (roots, last, record { place = 0 + length bytes; bytes = [] }))
  read_is bytes roots end h =
      let start : SpellsContent port t shape bytes roots (port.seen opening) end =
      subst (λ (see : State ℕ → Spelled). SpellsContent port t shape bytes roots (see opening) end) (sym (instances_seen t reach room more)) h in
      let o = content_only port (instances_lawful t reach room more) t shape opening end (whole bytes) roots start in
      (o.0, ap (λ (see : State ℕ → Spelled). see o.0) (sym (instances_seen t reach room more)) ∙ o.1, o.2)

  spelled_once : (bytes : List ℕ) (a b : Members) (x y : Spelled) → Contents bytes a x → Contents bytes b y → (a ≡ b) × (x ≡ y)
  spelled_once bytes a b x y p q =
      let one = read_is bytes a x p in
      let two = read_is bytes b y q in
      let same : (a, one.0, record { place = 0 + length bytes; bytes = [] }) ≡ (b, two.0, record { place = 0 + length bytes; bytes = [] }) = ok_is {A = Members × State ℕ × Rest} _ _ (sym one.2 ∙ two.2) in
      (ap (λ (z : Members × State ℕ × Rest). z.0) same, sym one.1 ∙ ap (λ (z : Members × State ℕ × Rest). seen z.1) same ∙ two.1)

-- ---- graphs that are the same have one form

pub six_more : (content : List ℕ) → length (encapsulated_bytes content) ≡ 6 + length content
six_more content = omega arith

inside_is : (a b : List ℕ) → encapsulated_bytes a ≡ encapsulated_bytes b → a ≡ b
inside_is a b e = ap (drop 6) e

module _ (t : Tables) (shape : Shape) (format : Format) where
  pub same_bytes : (g h : Graph) → Same g h → graph_bytes t shape format g ≡ graph_bytes t shape format h
  unfolding canonical_graph
  same_bytes g h s = ap (λ (k : Graph). encapsulated_bytes (bytes_of t shape format k)) (form-same g h s)

  longer : (g : Graph) → length (graph_bytes t shape format g) ≡ 6 + length (canonical_graph t shape format g)
  longer g = six_more (canonical_graph t shape format g)

-- ---- the form

form_fewer : (g : Graph) → length (form g).instances ≡ length (order g)
unfolding form
form_fewer g = length-map (order g) (λ n. map (renamed_slice (place (order g))) (slices_of g.instances n))

same_from_form : (g h : Graph) → Reached g → Reached h → form g ≡ form h → Same g h
unfolding form
same_from_form g h g-in h-in e = record { left = order g; right = order h; left_holds = g-in.is.holds; right_holds = h-in.is.holds; equal = e }

-- ---- the form is spelled

module _ (l : Limits) (t : Tables) (named : AreSpelled t) (shape : Shape) (reach : Reach) (format : Format) where
  form_spelled : (room more : ℕ) (g : Graph) → Reached g → OfTypeTo t l.most shape g → EachAsked t reach format g → length (form g).instances ≤ room → length (form g).instances ≤ more → length (canonical_graph t shape format g) ≤ l.bound
      → (end : Spelled) × SpellsContent (instances t reach room more) t shape (canonical_graph t shape format g) (form g).roots opening end × (end.instances ≡ (form g).instances) × AllFit t (form g).instances end.met
  unfolding canonical_graph form order most
  form_spelled room more g reached typed asked fits wide small =
      let k : Graph = numbered (order g) g in
      let in_order = form-in_order g reached in
      let of_type = form-typed t l.most shape reach format g reached typed asked in
      content_spelled t named reach format l k room fits (omega (arith, in_order.size)) of_type.typed.instances of_type.asked in_order.instances more shape of_type.typed.roots in_order.size wide in_order.order small

form_small : (g : Graph) → Reached g → length (form g).instances ≤ most
form_small g reached = omega (arith, form_fewer g, reached.few)

pub same_from_bytes : (l : Limits) (t : Tables) → AreSpelled t → (shape : Shape) (reach : Reach) (format : Format) (g h : Graph) → Reached g → Reached h → OfTypeTo t l.most shape g → OfTypeTo t l.most shape h → EachAsked t reach format g → EachAsked t reach format h
    → length (graph_bytes t shape format g) ≤ l.bound → graph_bytes t shape format g ≡ graph_bytes t shape format h → Same g h
same_from_bytes l t named shape reach format g h g-in h-in g-typed h-typed g-can h-can small equal =
    let e = inside_is (canonical_graph t shape format g) (canonical_graph t shape format h) equal in
    let content_small : length (canonical_graph t shape format g) ≤ l.bound = omega (arith, longer t shape format g, small) in
    let one = form_spelled l t named shape reach format most most g g-in g-typed g-can (form_small g g-in) (form_small g g-in) content_small in
    let two = form_spelled l t named shape reach format most most h h-in h-typed h-can (form_small h h-in) (form_small h h-in) (subst (λ (b : List ℕ). length b ≤ l.bound) e content_small) in
    let same = spelled_once t reach shape most most (canonical_graph t shape format g) (form g).roots (form h).roots one.0 two.0 one.1
    (subst (λ (b : List ℕ). SpellsContent (instances t reach most most) t shape b (form h).roots opening two.0) (sym e) two.1) in
    let instances_are : (form g).instances ≡ (form h).instances = sym one.2 ∙ ap (λ (s : Spelled). s.instances) same.1 ∙ two.2 in
    same_from_form g h g-in h-in (λ i. record { roots = same.0 i; instances = instances_are i })

-- within the limits, no other graph is read from the canonical encapsulation, whatever is read
pub read_is_form : (t : Tables) → AreSpelled t → (reach : Reach) (shape : Shape) (format : Format) (g h : Graph) → Reached g → OfType t shape g → EachAsked t all_slices format g → length (order g) ≤ most_instances
    → SpellsNumbered t reach shape (graph_bytes t shape format g) h → h ≡ form g
unfolding SpellsGraph
read_is_form t named reach shape format g h reached typed asked few (content, is, short, (end, spelled, instances_are, fit)) =
    let c = canonical_graph t shape format g in
    let fewer : length (form g).instances ≤ most_instances = omega (arith, form_fewer g, few) in
    let one = form_spelled written_limits t named shape all_slices format most_instances most_instances g reached typed asked fewer fewer (omega (arith, longer t shape format g, short)) in
    let two : SpellsContent (instances t all_slices most_instances most_instances) t shape c h.roots opening end =
    subst (λ (b : List ℕ). SpellsContent (instances t all_slices most_instances most_instances) t shape b h.roots opening end) (sym (inside_is c content is)) (content_weaker t reach most_instances most_instances shape content h.roots opening end spelled) in
    let same = spelled_once t all_slices shape most_instances most_instances c (form g).roots h.roots one.0 end one.1 two in
    let all_instances : (form g).instances ≡ h.instances = sym one.2 ∙ ap (λ (s : Spelled). s.instances) same.1 ∙ instances_are in
    let form_is : form g ≡ h = λ i. record { roots = same.0 i; instances = all_instances i } in
    sym form_is

pub read_is_same : (t : Tables) → AreSpelled t → (reach : Reach) (shape : Shape) (format : Format) (g h : Graph) → Reached g → OfType t shape g → EachAsked t all_slices format g → length (order g) ≤ most_instances
    → SpellsNumbered t reach shape (graph_bytes t shape format g) h → Same h g
read_is_same t named reach shape format g h reached typed asked few held =
    subst (λ (x : Graph). Same x g) (sym (read_is_form t named reach shape format g h reached typed asked few held)) (form-same-graph g reached)

module _ (t : Tables) (named : AreSpelled t) (shape : Shape) (reach : Reach) (format : Format) where
  -- within the limits, the canonical encapsulation spells the form
  pub numbered_spelled : (g : Graph) → Reached g → OfType t shape g → EachAsked t reach format g → length (order g) ≤ most_instances → length (graph_bytes t shape format g) ≤ LARGEST → SpellsNumbered t reach shape (graph_bytes t shape format g) (form g)
  unfolding SpellsGraph
  numbered_spelled g reached typed asked few small =
      let c = canonical_graph t shape format g in
      let fewer : length (form g).instances ≤ most_instances = omega (arith, form_fewer g, few) in
      let one = form_spelled written_limits t named shape reach format most_instances most_instances g reached typed asked fewer fewer (omega (arith, longer t shape format g, small)) in
      (c, refl, small, (one.0, one.1, one.2, subst (λ (is : List (List Slice)). AllFit t is one.0.met) (sym one.2) one.3))

  pub graph_spelled : (g : Graph) → Reached g → OfType t shape g → EachAsked t reach format g → length (order g) ≤ most_instances → length (graph_bytes t shape format g) ≤ LARGEST → Spells t reach shape (graph_bytes t shape format g) g
  graph_spelled g reached typed asked few small = (form g, numbered_spelled g reached typed asked few small, form-same-graph g reached)
