-- A graph as the second reader sees it: each reference names an instance whose class fits there, too.
use Rattle.std.proofs.Common.{ℕ, ◌≡◌, true, List, [], ◌∷◌, refl, sym, ap, ◌∙◌, subst, Option, Some, None, inl, inr}
use Rattle.std.proofs.lemmas.List.{append-nil}
use Rattle.ice_types.specs.declared.kind.TypeRef.{TypeRef}
use Rattle.ice_types.specs.declared.kind.RowRef.TheVariants as rows
use Rattle.ice_types.specs.declared.schema.TheConstants.{MOST_DEPTH}
use Rattle.ice_types.specs.Tables.{Tables}
use Rattle.ice_types.specs.Rules.{IsSchema}
use Rattle.ice_types.specs.Inherited.{IsA, Here, Onward}
use Rattle.ice_types.specs.Lacking.{SameBase}
use Rattle.ice_encoding.specs.Tree.{none, tree}
use Rattle.ice_encoding.specs.OptionalMembers.{with_optional}
use Rattle.ice_encoding.specs.Classes.{base_of}
use Rattle.ice_encoding.specs.Graph.{Slice, known, unknown, Graph}
use Rattle.ice_encoding.specs.Flags.{all_slices}
use Rattle.ice_encoding.specs.Instances.{class_of, slices_of, class_fits, AllFit, SpellsGraph, most_instances}
use Rattle.graph_laws.proofs.Related.{related}
use Rattle.graph_laws.proofs.Stays.{Uses}
use Rattle.slice_compat.specs.Reading.{Reads, ReadsClass}
use Rattle.slice_compat.specs.Reached.{IsReached}
use Rattle.slice_compat.proofs.Reaching.{chain_joined, base_reached}
use Rattle.slice_compat.specs.Tests.{ClassPasses}
use Rattle.graph_laws.specs.PlainSlices.{SpellsPlainGraph}
use Rattle.graph_laws.specs.SeeingOther.{AllSeen, EachSeen, Seen}
use Rattle.graph_laws.specs.ReadingThere.{alone, CanRead, IsReadThere}
use Rattle.graph_laws.proofs.RelatedThere.{AreSome, each_slices}
use Rattle.graph_laws.proofs.Classes.{Tied, tied_once, pair_of, base_pair}
use Rattle.graph_laws.proofs.SlicesThere.{value_seen}

-- ---- bases

module _ (t u : Tables) (here : IsSchema t) (there : IsSchema u) (root : TypeRef) (passes : (a : ℕ) → IsReached t root a → ClassPasses t u a) where
  base_step : (o p : Option ℕ) (n : ℕ) → o ≡ Some n → SameBase t u rows.Class o p → (m : ℕ) × (p ≡ Some m) × Tied t u here there root passes n m
  base_step None p n e h = absurd cc
  base_step (Some a) p n e (b, is, tied) = let same : a ≡ n = cc in (b, is, subst (λ (k : ℕ). Tied t u here there root passes k b) same tied)

  -- a class and its base are also so there
  chain_there : (c a d : ℕ) → IsA t.classes c a → IsReached t root c → Tied t u here there root passes c d → (e : ℕ) × Tied t u here there root passes a e × IsA u.classes d e
  chain_there c a d (Here _) reached tied = (d, tied, Here d)
  chain_there c a d (Onward _ next _ step rest) reached tied =
      let b = base_step (base_of t c) (base_of u d) next step (base_pair t u here there root passes c d (pair_of t u here there root passes c d reached tied)) in
      let r = chain_there next a b.0 rest (base_reached t here c next step root reached) b.2 in
      (r.0, r.1, Onward d b.0 r.0 b.1 r.2)

  fits_there : (a b : Option ℕ) (ss rs : List Slice) → AllSeen t u root ss rs → ReadsClass t u a b → class_fits t a (class_of ss) ≡ true → class_fits u b (class_of rs) ≡ true
  fits_there a None ss rs seen read fit = refl
  fits_there None (Some b) ss rs seen read fit = absurd read
  fits_there (Some a) (Some b) [] rs seen read fit = absurd cc
  fits_there (Some a) (Some b) (unknown id bytes optionals table ∷ ss) rs seen read fit = absurd (seen.3)
  fits_there (Some a) (Some b) (known c content ∷ ss) rs (r, others, is, (d, reached, tied, r_is), rest) (e, own, above) fit =
      let k = chain_there c a d ((related t c a here).0 fit) reached tied in
      let same : k.0 ≡ e = tied_once t u here there root passes a k.0 e k.1 own in
      subst (λ (l : List Slice). class_fits u (Some b) (class_of l) ≡ true) (sym (is ∙ ap (λ (s : Slice). s ∷ others) r_is))
      ((related u d b there).1 (chain_joined u.classes d e b (subst (λ (x : ℕ). IsA u.classes d x) same k.2) above))

  all_fit : (is js : List (List Slice)) → EachSeen t u root is js → (ms ns : Uses) → AreSome t u ms ns → AllFit t is ms → AllFit u js ns
  all_fit is js seen [] ns e h = subst (λ (l : Uses). AllFit u js l) (sym e) tt
  all_fit is js seen (m ∷ ms) ns (inl rest) h = all_fit is js seen ms ns rest h.1
  all_fit is js seen (m ∷ ms) ns (inr (n, others, same, name, class, rest)) h = subst (λ (l : Uses). AllFit u js l) (sym same) (
    fits_there m.declared n.declared (slices_of is n.name) (slices_of js n.name) (each_slices t u root is js n.name seen) class (subst (λ (k : ℕ). class_fits t m.declared (class_of (slices_of is k)) ≡ true) (sym name) h.0),
    all_fit is js seen ms others rest h.1,
  )

graph_there : (t u : Tables) (kind other : TypeRef) (bytes : List ℕ) (g : Graph) → CanRead t u kind other → SpellsPlainGraph t u kind bytes g → (h : Graph) × SpellsGraph u all_slices (alone other) bytes h × Seen t u kind g h
unfolding SpellsPlainGraph SpellsGraph Reads
graph_there t u kind other bytes g can (v, end, h, roots, same, fit) =
    let s = value_seen t u can.writer can.reader kind can.compat.classes most_instances most_instances MOST_DEPTH kind other can.compat.root bytes v end h in
    let seen : EachSeen t u kind g.instances s.0.instances = subst (λ (is : List (List Slice)). EachSeen t u kind is s.0.instances) same s.2.instances in
    let good : AllFit t g.instances end.met = subst (λ (is : List (List Slice)). AllFit t is end.met) same fit in (
      record { roots = with_optional (tree v none) []; instances = s.0.instances },
      (
        s.0,
        (tree v none, bytes, [], s.0, sym (append-nil bytes), (v, none, bytes, [], s.0, refl, sym (append-nil bytes), s.1, (refl, refl, refl)), ([], refl, (0, (refl, refl, refl)))),
        refl,
        all_fit t u can.writer can.reader kind can.compat.classes g.instances s.0.instances seen end.met s.0.met s.2.met good,
      ),
      record { roots = sym roots; instances = seen },
    )

pub numbered_there : (t u : Tables) (kind other : TypeRef) → IsReadThere t u kind other
numbered_there t u kind other bytes g can (content, is, small, h) = let s = graph_there t u kind other content g can h in (s.0, (content, is, small, s.1), s.2)
