-- States of both schemas, in a graph with these instances: the same type ids, instances slice by slice, and references of
-- which the second has no more.
use Rattle.std.proofs.Common.{ℕ, zero, suc, ◌≡◌, ◌<◌, Bool, true, false, List, [], ◌∷◌, ◌++◌, length, refl, sym, ap, ◌∙◌, subst, Option, Some, None}
use Rattle.ice_types.specs.declared.kind.RowRef.TheVariants as rows
use Rattle.ice_types.specs.Tables.{Tables}
use Rattle.ice_types.specs.Lacking.{SameBase}
use Rattle.ice_encoding.specs.Port.{Port}
use Rattle.ice_encoding.specs.Graph.{Slice}
use Rattle.ice_encoding.specs.References.{State, Reference, met_at, with_met, with_begun, with_ended, replaced, resolved, entry_in, in_table, AreWithin, SpellsEntries, SpellsTable}
use Rattle.ice_encoding.specs.Instances.{class_of, slices_of, class_fits, AllFit}
use Rattle.graph_laws.proofs.Carried.{Steps}
use Rattle.graph_laws.proofs.TypeIds.{Spelled}
use Rattle.graph_laws.specs.Seeing.{AllSeen, EachSeen}
use Rattle.graph_laws.proofs.Rows.{Agrees}
use Rattle.graph_laws.proofs.RelayedCarried.{Carries}
use Rattle.graph_laws.proofs.Stays.{Uses, Stays, stays_same, stays_joined, fit_before, entries_stay, noted}

-- no more is asked than that it is spelled
abbrev pub any_steps : {S : Type 0} → Steps S
any_steps {S} = record { Fine = λ s. Unit {0}; Step = λ a b. Unit {0}; same = λ s. tt; joined = λ a b c p q. tt; back = λ a b p h. tt }

module _ (t u : Tables) (ks : List (List Slice)) where
  -- a reference that fits in the first schema, by a declared class that is the one here
  abbrev pub TiedFits : Reference (Unit {0}) → Type 0
  TiedFits m = (declared : Option ℕ) × SameBase t u rows.Class declared m.declared × (class_fits t declared (class_of (slices_of ks m.name)) ≡ true)

  abbrev pub AllTied : Uses → Type 0
  AllTied [] = Unit {0}
  AllTied (m ∷ ms) = TiedFits m × AllTied ms

  pub record Related (a b : Spelled) : Type 0 where
    pub ids : b.ids ≡ a.ids
    pub instances : EachSeen t u ks a.instances b.instances
    pub met : AllTied b.met

  -- it leads well where each reference fits
  abbrev pub fit_steps : Steps Spelled
  fit_steps = record { Fine = λ s. AllFit t ks s.met; Step = Stays; same = stays_same; joined = stays_joined; back = fit_before t ks }

  pub tied_more : (a b : Uses) → AllTied a → AllTied b → AllTied (a ++ b)
  tied_more [] b p q = q
  tied_more (m ∷ a) b p q = (p.0, tied_more a b p.1 q)

  -- ---- lists of instances

  pub each_length : (is js : List (List Slice)) → EachSeen t u ks is js → length js ≡ length is
  each_length [] js e = ap length e
  each_length (i ∷ is) js (j, others, is_list, one, rest) = ap length is_list ∙ ap suc (each_length is others rest)

  each_begun : (is js : List (List Slice)) → EachSeen t u ks is js → EachSeen t u ks (is ++ [] ∷ []) (js ++ [] ∷ [])
  each_begun [] js e = ([], [], ap (λ (l : List (List Slice)). l ++ [] ∷ []) e, refl, refl)
  each_begun (i ∷ is) js (j, others, is_list, one, rest) = (j, others ++ [] ∷ [], ap (λ (l : List (List Slice)). l ++ [] ∷ []) is_list, one, each_begun is others rest)

  each_ended : (n : ℕ) (x y : List Slice) → AllSeen t u ks x y → (is js : List (List Slice)) → EachSeen t u ks is js → EachSeen t u ks (replaced n x is) (replaced n y js)
  each_ended zero x y seen [] js e = ap (replaced 0 y) e
  each_ended (suc n) x y seen [] js e = ap (replaced (suc n) y) e
  each_ended zero x y seen (i ∷ is) js (j, others, is_list, one, rest) = (y, others, ap (replaced 0 y) is_list, seen, rest)
  each_ended (suc n) x y seen (i ∷ is) js (j, others, is_list, one, rest) = (j, replaced n y others, ap (replaced (suc n) y) is_list, one, each_ended n x y seen is others rest)

  pub each_slices : (is js : List (List Slice)) (n : ℕ) → EachSeen t u ks is js → AllSeen t u ks (slices_of is n) (slices_of js n)
  each_slices [] js n e = ap (λ (l : List (List Slice)). slices_of l n) e
  each_slices (i ∷ is) js zero (j, others, same, one, rest) = subst (λ (l : List (List Slice)). AllSeen t u ks i (slices_of l 0)) (sym same) one
  each_slices (i ∷ is) js (suc n) (j, others, same, one, rest) = subst (λ (l : List (List Slice)). AllSeen t u ks (slices_of is n) (slices_of l (suc n))) (sym same) (each_slices is others n rest)

  -- ---- states

  pub related_met : (a b : Spelled) (x y : Uses) → AllTied y → Related a b → Related (with_met x a) (with_met y b)
  related_met a b x y m r = record { ids = r.ids; instances = r.instances; met = tied_more b.met y r.met m }

  pub related_begun : (a b : Spelled) → Related a b → Related (with_begun a) (with_begun b)
  related_begun a b r = record { ids = r.ids; instances = each_begun a.instances b.instances r.instances; met = r.met }

  pub related_ended : (n : ℕ) (x y : List Slice) (a b : Spelled) → AllSeen t u ks x y → Related a b → Related (with_ended n x a) (with_ended n y b)
  related_ended n x y a b seen r = record { ids = r.ids; instances = each_ended n x y seen a.instances b.instances r.instances; met = r.met }

  -- ---- places in a table

  abbrev pub TiedUses : Uses → Uses → Type 0
  TiedUses [] others = others ≡ []
  TiedUses (m ∷ ms) others = (n : Reference (Unit {0})) × (ns : Uses) × (others ≡ n ∷ ns) × (n.name ≡ m.name) × SameBase t u rows.Class m.declared n.declared × TiedUses ms ns

  uses_more : (a b : Option ℕ) (n : ℕ) → SameBase t u rows.Class a b → (ms ns : Uses) → TiedUses ms ns → TiedUses (ms ++ met_at tt a n ∷ []) (ns ++ met_at tt b n ∷ [])
  uses_more a b n tied [] ns e = (met_at tt b n, [], ap (λ (l : Uses). l ++ met_at tt b n ∷ []) e, refl, tied, refl)
  uses_more a b n tied (m ∷ ms) ns (o, others, is, name, class, rest) = (o, others ++ met_at tt b n ∷ [], ap (λ (l : Uses). l ++ met_at tt b n ∷ []) is, name, class, uses_more a b n tied ms others rest)

  pub entries_carried : (tabled : Bool) (a b : Option ℕ) → SameBase t u rows.Class a b → Carries any_steps TiedUses ((in_table tabled).Spells a) ((in_table tabled).Spells b)
  entries_carried tabled a b tied bytes None from to h = (tt, λ begin r good. (begin, (h.0, refl), subst (λ (s : Uses). TiedUses s begin) (sym h.1) r))
  entries_carried tabled a b tied bytes (Some n) from to h =
      (tt, λ begin r good. (begin ++ met_at tt b n ∷ [], (h.0, h.1, refl), subst (λ (s : Uses). TiedUses s (begin ++ met_at tt b n ∷ [])) (sym h.2) (uses_more a b n tied from begin r)))

  pub uses_within : (n : ℕ) (ms ns : Uses) → TiedUses ms ns → AreWithin n ms → AreWithin n ns
  uses_within n [] ns e h = subst (λ (l : Uses). AreWithin n l) (sym e) tt
  uses_within n (m ∷ ms) ns (o, others, is, name, class, rest) h = subst (λ (l : Uses). AreWithin n l) (sym is) (subst (λ (k : ℕ). k < n) (sym name) h.0, uses_within n ms others rest h.1)

  pub uses_tied : (table : List ℕ) (ms ns : Uses) → TiedUses ms ns → AllFit t ks (resolved table ms) → AllTied (resolved table ns)
  uses_tied table [] ns e h = subst (λ (l : Uses). AllTied (resolved table l)) (sym e) tt
  uses_tied table (m ∷ ms) ns (o, others, same, name, class, rest) h = subst (λ (l : Uses). AllTied (resolved table l)) (sym same)
      ((m.declared, class, subst (λ (k : ℕ). class_fits t m.declared (class_of (slices_of ks (entry_in table k))) ≡ true) (sym name) h.0), uses_tied table ms others rest h.1)

  -- ---- tables

  module _ (own : Agrees t t) (one two : Port (State ℕ) Spelled) (stays : (declared n : Option ℕ) (bytes : List ℕ) (from to : Spelled) → one.Spells declared bytes n from to → Stays from to)
      (refer : (a b : Option ℕ) → SameBase t u rows.Class a b → Carries fit_steps Related (one.Spells a) (two.Spells b)) where
    names_carried : (n : ℕ) (bytes names : List ℕ) (from to begin : Spelled) → SpellsEntries one n bytes names from to → Related from begin → AllFit t ks to.met → (end : Spelled) × SpellsEntries two n bytes names begin end × Related to end
    names_carried zero bytes names from to begin h r good = (begin, (h.0, h.1, refl), subst (λ (s : Spelled). Related s begin) (sym h.2) r)
    names_carried (suc n) bytes names from to begin h r good =
        let p = (refer None None refl h.2 (Some h.0) from h.4 h.7).1 begin r (fit_before t ks h.4 to (entries_stay t own one stays n h.3 h.1 h.4 to h.8) good) in
        let q = names_carried n h.3 h.1 h.4 to p.0 h.8 p.2 good in
        (q.0, (h.0, h.1, h.2, h.3, p.0, h.5, h.6, p.1, q.1), q.2)

    pub table_carried : (tabled : Bool) (x y : Uses) → ((n : ℕ) → AreWithin n x → AreWithin n y) → (bytes table : List ℕ) (from to begin : Spelled)
        → SpellsTable one tabled x bytes table from to → Related from begin → AllFit t ks to.met → AllTied (resolved table y) → (end : Spelled) × SpellsTable two tabled y bytes table begin end × Related to end
    table_carried false x y within bytes table from to begin h r good tied = (begin, (h.0, h.1, refl), subst (λ (s : Spelled). Related s begin) (sym h.2) r)
    table_carried true x y within bytes table from to begin h r good tied =
        let p = names_carried h.0 h.2 table from h.3 begin h.7 r (fit_before t ks h.3 to (subst (λ (s : Spelled). Stays h.3 s) (sym h.8) (noted h.3 (resolved table x))) good) in (
          with_met (resolved table y) p.0,
          (h.0, h.1, h.2, p.0, h.4, h.5, within h.0 h.6, p.1, refl),
          subst (λ (s : Spelled). Related s (with_met (resolved table y) p.0)) (sym h.8) (related_met h.3 p.0 (resolved table x) (resolved table y) tied p.2),
        )
