-- States of both readers: the same type ids, instances slice by slice, and references of which the second has no more.
use Rattle.std.proofs.Common.{ℕ, zero, suc, ◌≡◌, ◌<◌, ◌⊎◌, Bool, true, false, List, [], ◌∷◌, ◌++◌, length, refl, sym, ap, ◌∙◌, subst, Option, Some, None, inl, inr}
use Rattle.std.proofs.lemmas.List.{append-nil}
use Rattle.ice_types.specs.declared.kind.TypeRef.{TypeRef}
use Rattle.ice_types.specs.Tables.{Tables}
use Rattle.ice_encoding.specs.Port.{Port}
use Rattle.ice_encoding.specs.Graph.{Slice}
use Rattle.ice_encoding.specs.References.{State, Reference, met_at, with_met, with_begun, with_ended, replaced, resolved, entry_in, in_table, AreWithin, SpellsEntries, SpellsTable}
use Rattle.ice_encoding.specs.Instances.{slices_of}
use Rattle.graph_laws.proofs.TypeIds.{Spelled}
use Rattle.graph_laws.proofs.Stays.{Uses}
use Rattle.slice_compat.specs.Reading.{ReadsClass}
use Rattle.graph_laws.specs.SeeingOther.{AllSeen, EachSeen}
use Rattle.graph_laws.proofs.CarriedOver.{Goes}

module _ (t u : Tables) where
  -- some of the references, each by a declared class that can read the one here
  abbrev pub AreSome : Uses → Uses → Type 0
  AreSome [] others = others ≡ []
  AreSome (m ∷ ms) others = AreSome ms others ⊎ ((n : Reference (Unit {0})) × (ns : Uses) × (others ≡ n ∷ ns) × (n.name ≡ m.name) × ReadsClass t u m.declared n.declared × AreSome ms ns)

  pub none_of : (ms : Uses) → AreSome ms []
  none_of [] = refl
  none_of (m ∷ ms) = inl (none_of ms)

  pub some_more : (ms others more gone : Uses) → AreSome ms others → AreSome more gone → AreSome (ms ++ more) (others ++ gone)
  some_more [] others more gone e h = subst (λ (l : Uses). AreSome more (l ++ gone)) (sym e) h
  some_more (m ∷ ms) others more gone (inl rest) h = inl (some_more ms others more gone rest h)
  some_more (m ∷ ms) others more gone (inr (n, ns, is, name, class, rest)) h = inr (n, ns ++ gone, ap (λ (l : Uses). l ++ gone) is, name, class, some_more ms ns more gone rest h)

  pub some_one : (a b : Option ℕ) (k : ℕ) → ReadsClass t u a b → AreSome (met_at tt a k ∷ []) (met_at tt b k ∷ [])
  some_one a b k tied = inr (met_at tt b k, [], refl, refl, tied, refl)

  pub some_grown : (ms others more : Uses) → AreSome ms others → AreSome (ms ++ more) others
  some_grown ms others more h = subst (λ (l : Uses). AreSome (ms ++ more) l) (append-nil others) (some_more ms others more [] h (none_of more))

  pub some_within : (limit : ℕ) (ms others : Uses) → AreSome ms others → AreWithin limit ms → AreWithin limit others
  some_within limit [] others e h = subst (λ (l : Uses). AreWithin limit l) (sym e) tt
  some_within limit (m ∷ ms) others (inl rest) h = some_within limit ms others rest h.1
  some_within limit (m ∷ ms) others (inr (n, ns, is, name, class, rest)) h = subst (λ (l : Uses). AreWithin limit l) (sym is) (subst (λ (k : ℕ). k < limit) (sym name) h.0, some_within limit ms ns rest h.1)

  pub some_resolved : (table : List ℕ) (ms others : Uses) → AreSome ms others → AreSome (resolved table ms) (resolved table others)
  some_resolved table [] others e = ap (resolved table) e
  some_resolved table (m ∷ ms) others (inl rest) = inl (some_resolved table ms others rest)
  some_resolved table (m ∷ ms) others (inr (n, ns, is, name, class, rest)) = inr (met_at tt n.declared (entry_in table n.name), resolved table ns, ap (resolved table) is, ap (entry_in table) name, class, some_resolved table ms ns rest)

  -- ---- places in a table

  pub entries_carried : (tabled : Bool) (a b : Option ℕ) → ReadsClass t u a b → Goes AreSome ((in_table tabled).Spells a) ((in_table tabled).Spells b)
  entries_carried tabled a b tied bytes None from to begin h r = (begin, (h.0, refl), subst (λ (s : Uses). AreSome s begin) (sym h.1) r)
  entries_carried tabled a b tied bytes (Some n) from to begin h r =
      (begin ++ met_at tt b n ∷ [], (h.0, h.1, refl), subst (λ (s : Uses). AreSome s (begin ++ met_at tt b n ∷ [])) (sym h.2) (some_more from begin (met_at tt a n ∷ []) (met_at tt b n ∷ []) r (some_one a b n tied)))

  module _ (root : TypeRef) where
    pub record Related (a b : Spelled) : Type 0 where
      pub ids : b.ids ≡ a.ids
      pub instances : EachSeen t u root a.instances b.instances
      pub met : AreSome a.met b.met

    -- ---- lists of instances

    pub each_length : (is js : List (List Slice)) → EachSeen t u root is js → length js ≡ length is
    each_length [] js e = ap length e
    each_length (i ∷ is) js (j, others, is_list, one, rest) = ap length is_list ∙ ap suc (each_length is others rest)

    each_begun : (is js : List (List Slice)) → EachSeen t u root is js → EachSeen t u root (is ++ [] ∷ []) (js ++ [] ∷ [])
    each_begun [] js e = ([], [], ap (λ (l : List (List Slice)). l ++ [] ∷ []) e, refl, refl)
    each_begun (i ∷ is) js (j, others, is_list, one, rest) = (j, others ++ [] ∷ [], ap (λ (l : List (List Slice)). l ++ [] ∷ []) is_list, one, each_begun is others rest)

    each_ended : (n : ℕ) (x y : List Slice) → AllSeen t u root x y → (is js : List (List Slice)) → EachSeen t u root is js → EachSeen t u root (replaced n x is) (replaced n y js)
    each_ended zero x y seen [] js e = ap (replaced 0 y) e
    each_ended (suc n) x y seen [] js e = ap (replaced (suc n) y) e
    each_ended zero x y seen (i ∷ is) js (j, others, is_list, one, rest) = (y, others, ap (replaced 0 y) is_list, seen, rest)
    each_ended (suc n) x y seen (i ∷ is) js (j, others, is_list, one, rest) = (j, replaced n y others, ap (replaced (suc n) y) is_list, one, each_ended n x y seen is others rest)

    pub each_slices : (is js : List (List Slice)) (n : ℕ) → EachSeen t u root is js → AllSeen t u root (slices_of is n) (slices_of js n)
    each_slices [] js n e = ap (λ (l : List (List Slice)). slices_of l n) e
    each_slices (i ∷ is) js zero (j, others, same, one, rest) = subst (λ (l : List (List Slice)). AllSeen t u root i (slices_of l 0)) (sym same) one
    each_slices (i ∷ is) js (suc n) (j, others, same, one, rest) = subst (λ (l : List (List Slice)). AllSeen t u root (slices_of is n) (slices_of l (suc n))) (sym same) (each_slices is others n rest)

    -- ---- states

    pub related_met : (a b : Spelled) (x y : Uses) → AreSome x y → Related a b → Related (with_met x a) (with_met y b)
    related_met a b x y m r = record { ids = r.ids; instances = r.instances; met = some_more a.met b.met x y r.met m }

    pub related_begun : (a b : Spelled) → Related a b → Related (with_begun a) (with_begun b)
    related_begun a b r = record { ids = r.ids; instances = each_begun a.instances b.instances r.instances; met = r.met }

    pub related_ended : (n : ℕ) (x y : List Slice) (a b : Spelled) → AllSeen t u root x y → Related a b → Related (with_ended n x a) (with_ended n y b)
    related_ended n x y a b seen r = record { ids = r.ids; instances = each_ended n x y seen a.instances b.instances r.instances; met = r.met }

    -- ---- tables

    module _ (one two : Port (State ℕ) Spelled) (refer : (a b : Option ℕ) → ReadsClass t u a b → Goes Related (one.Spells a) (two.Spells b)) where
      names_carried : (n : ℕ) → Goes Related (SpellsEntries one n) (SpellsEntries two n)
      names_carried zero bytes names from to begin h r = (begin, (h.0, h.1, refl), subst (λ (s : Spelled). Related s begin) (sym h.2) r)
      names_carried (suc n) bytes names from to begin h r =
          let p = refer None None tt h.2 (Some h.0) from h.4 begin h.7 r in
          let q = names_carried n h.3 h.1 h.4 to p.0 h.8 p.2 in
          (q.0, (h.0, h.1, h.2, h.3, p.0, h.5, h.6, p.1, q.1), q.2)

      pub table_carried : (tabled : Bool) (x y : Uses) → AreSome x y → Goes Related (SpellsTable one tabled x) (SpellsTable two tabled y)
      table_carried false x y some bytes table from to begin h r = (begin, (h.0, h.1, refl), subst (λ (s : Spelled). Related s begin) (sym h.2) r)
      table_carried true x y some bytes table from to begin h r =
          let p = names_carried h.0 h.2 table from h.3 begin h.7 r in (
            with_met (resolved table y) p.0,
            (h.0, h.1, h.2, p.0, h.4, h.5, some_within h.0 x y some h.6, p.1, refl),
            subst (λ (s : Spelled). Related s (with_met (resolved table y) p.0)) (sym h.8) (related_met h.3 p.0 (resolved table x) (resolved table y) (some_resolved table x y some) p.2),
          )
