-- What is read is a graph of its type, and sound.
use Rattle.std.proofs.Common.{◌≡◌, ℕ, zero, suc, ◌<◌, ◌≤◌, List, [], ◌∷◌, length, refl, sym, subst, arith, Option, Some, None, Ok}
use Rattle.ice_types.specs.declared.declarations.Shape.{Shape}
use Rattle.ice_types.specs.Tables.{Tables}
use Rattle.ice_types.specs.Rules.{IsSchema}
use Rattle.ice_prims.specs.Rest.{Rest, IsBytes}
use Rattle.ice_prims.proofs.Parts.{Took-fits}
use Rattle.ice_encoding.specs.Opening.{opened_at}
use Rattle.ice_encoding.specs.Encapsulation.{encapsulated_at}
use Rattle.ice_encoding.specs.Order.{KeysRise}
use Rattle.ice_encoding.specs.Optionals.{Present}
use Rattle.ice_encoding.specs.OptionalMembers.{Members}
use Rattle.ice_encoding.specs.Classes.{base_of, own_members}
use Rattle.ice_encoding.specs.Graph.{Slice, known, unknown, Graph}
use Rattle.ice_encoding.specs.Flags.{Reach}
use Rattle.ice_encoding.specs.Instances.{slices_of, most_instances, graph_at}
use Rattle.ice_encoding.specs.Visiting.{most}
use Rattle.ice_encoding.specs.TypedGraph.{AreMembers, IsKnown, AreBases, IsInstance, RefersIn, OfType}
use Rattle.ice_encoding.proofs.Graphs.{next_found}
use Rattle.graph_laws.proofs.Fitting.{InPresent, members_ordered}
use Rattle.graph_laws.proofs.Ranged as ranged
use Rattle.graph_laws.proofs.Sound.{numbered_typed}
use Rattle.graph_arena.specs.Arena.{AreBelow, AreOrdered, HasOrder, HaveOrder, InstanceFits, EachFits, IsSound}

few-enough : (n : ℕ) → n ≤ most_instances → n ≤ most
unfolding most_instances most
few-enough n le = omega (arith, le)

pub below : (limit : ℕ) (ns : List ℕ) → ranged.AreBelow limit ns → AreBelow limit ns
below limit [] h = tt
below limit (n ∷ ns) h = (h.0, below limit ns h.1)

ordered : (os : Present) → InPresent KeysRise os → AreOrdered os
ordered [] h = tt
ordered (o ∷ os) h = (h.0, ordered os h.1)

module _ (t : Tables) (is : List (List Slice)) where
  members-order : (shape : Shape) (c : Members) → AreMembers t (RefersIn t is) shape c → HasOrder c
  members-order shape c h = let all = members_ordered t is shape c h in (all.0, ordered c.optional all.1)

  known-order : (class : ℕ) (content : Members) → IsKnown t (RefersIn t is) class content → HasOrder content
  known-order class content h = members-order (own_members t class) content h.2

  bases-order : (base : Option ℕ) (ss : List Slice) → AreBases t (RefersIn t is) base ss → HaveOrder ss
  bases-order None ss h = subst HaveOrder (sym h) tt
  bases-order (Some class) [] h = absurd h
  bases-order (Some class) (unknown id bytes optionals table ∷ ss) h = absurd h
  bases-order (Some class) (known other content ∷ ss) h = (known-order class content h.1, bases-order (base_of t class) ss h.2)

  instance-order : (ss : List Slice) → IsInstance t (RefersIn t is) ss → HaveOrder ss
  instance-order [] h = absurd h
  instance-order (unknown id bytes optionals table ∷ []) h = (tt, tt)
  instance-order (unknown id bytes optionals table ∷ s ∷ ss) h = (tt, instance-order (s ∷ ss) h.1)
  instance-order (known class content ∷ ss) h = (known-order class content h.0, bases-order (base_of t class) ss h.1)

each-fits : (count : ℕ) (is : List (List Slice)) → ((n : ℕ) → n < length is → InstanceFits count (slices_of is n)) → EachFits count is
each-fits count [] one = tt
each-fits count (i ∷ is) one = (one zero (omega arith), each-fits count is (λ n lt. one (suc n) (omega (arith, lt))))

-- a graph of a type is sound
pub typed-sound : (t : Tables) (shape : Shape) (g : Graph) → OfType t shape g → length g.instances ≤ most_instances → IsSound g
typed-sound t shape g h le =
    let range = ranged.in_range t shape g h in
    let count = length g.instances in
    record {
      few = few-enough count le;
      roots = record { names = below count _ range.roots; order = members-order t g.instances shape g.roots h.roots };
      instances = each-fits count g.instances (λ n lt. record { names = below count _ (range.instances n lt); order = instance-order t g.instances (slices_of g.instances n) (h.instances n lt) });
    }

next-is : (t : Tables) (reach : Reach) (shape : Shape) (start inside behind rest : Rest) (g : Graph) → opened_at start ≡ Ok (inside, behind) → graph_at t reach shape inside ≡ Ok (g, rest) → rest.bytes ≡ []
    → encapsulated_at (graph_at t reach shape) start ≡ Ok (g, behind)
next-is t reach shape start inside behind rest g opened is none = rw (opened, is, none) refl

-- from what each step of reading answers, what is read is of its type, and sound
pub steps-typed : (t : Tables) (reach : Reach) (shape : Shape) (start inside behind rest : Rest) (g : Graph) → IsSchema t → IsBytes start.bytes → opened_at start ≡ Ok (inside, behind)
    → graph_at t reach shape inside ≡ Ok (g, rest) → rest.bytes ≡ [] → OfType t shape g × IsSound g
steps-typed t reach shape start inside behind rest g rules fits opened is none =
    let found = next_found t reach shape start (g, behind) fits (next-is t reach shape start inside behind rest g opened is none) in
    let typed = numbered_typed t reach shape rules found.0 g (Took-fits start behind found.0 fits found.1).0 found.2 in
    (typed.0, typed-sound t shape g typed.0 typed.1)
