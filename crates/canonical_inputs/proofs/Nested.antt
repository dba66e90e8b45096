-- Whichever graph has the instances that begin in a stretch: the stretch is what is written for them, and a visit comes to them first
-- in the order of their numbers.
use Rattle.std.proofs.Common.{◌≡◌, ℕ, zero, suc, ◌+◌, ◌-◌, ◌<◌, ◌≤◌, List, [], ◌∷◌, ◌++◌, length, get_or, Option, None, Some, refl, sym, ap, ◌∙◌, subst, arith, inl, inr, append_assoc}
use Rattle.std.proofs.lemmas.Bool.{cases_lt, lt-ltb, le-ltb}
use Rattle.std.proofs.lemmas.List.{append-nil, length-append, get_or-append-add, get_or_append_left}
use Rattle.ice_types.specs.Tables.{Tables}
use Rattle.ice_types.specs.CompactIds.{number_in}
use Rattle.ice_prims.specs.Bytes.{size_bytes}
use Rattle.ice_encoding.specs.Writing.{Writer}
use Rattle.ice_encoding.specs.Pausing.{Put, written_begun, written_in_place}
use Rattle.ice_encoding.specs.Graph.{Slice, Graph}
use Rattle.ice_encoding.specs.Instances.{slices_of}
use Rattle.ice_encoding.specs.Names.{slice_names, instance_names}
use Rattle.ice_encoding.specs.Visiting.{visit_each, visit_at}
use Rattle.ice_encoding.specs.CanonicalGraph.{Pen, sliced, put_inline, written_instance, with_one_begun, written_names, written_table, written_slices, table_of, written_id, head_as, head_under, written_head}
use Rattle.ice_encoding.specs.Classes.{place_of}
use Rattle.ice_encoding.specs.Flags.{IdForm}
use Rattle.graph_arena.specs.Arena.{AreBelow}
use Rattle.graph_laws.proofs.Entries.{below_both}
use Rattle.graph_laws.proofs.Upto.{upto, each-append}
use Rattle.graph_laws.proofs.Once.{listed-stays}
use Rattle.canonical_inputs.specs.Standing.{Stretch, Nothing, Then, Instances, ReferenceStands, NamesStand, TableStands, head_of, counted, SliceStands, SlicesStand, InstanceStands, Has, AreGood}
use Rattle.canonical_inputs.proofs.Visits.{not_visited, table_visited, table_below, more_below}

-- the id of a slice changes no number
head_begun : (flags : IdForm → ℕ) (id : List ℕ) (p : Pen) → (written_head flags id p).1.begun ≡ p.begun
head_begun flags id p = by_number (number_in id)
  where
    by_place : (found : Option ℕ) → (head_as found flags id p).1.begun ≡ p.begun
    by_place None = refl
    by_place (Some i) = refl

    by_number : (number : Option ℕ) → (head_under number flags id p).1.begun ≡ p.begun
    by_number (Some n) = refl
    by_number None = by_place (place_of p.ids id)

module _ (g : Graph) where
  pub has_front : (k : ℕ) (a b : List (List Slice)) → Has g k (a ++ b) → Has g k a
  has_front k a b h i lt = h i (omega (arith, lt, length-append a b)) ∙ get_or_append_left a b [] i lt

  pub has_rest : (k : ℕ) (a b : List (List Slice)) → Has g k (a ++ b) → Has g (k + length a) b
  has_rest k a b h i lt =
      let e : (k + length a) + i ≡ k + (length a + i) = omega arith in
      ap (slices_of g.instances) e ∙ h (length a + i) (omega (arith, lt, length-append a b)) ∙ get_or-append-add a b i []

  pub has_more : (k : ℕ) (s : List Slice) (inner : List (List Slice)) → Has g k (s ∷ inner) → Has g (suc k) inner
  has_more k s inner h i lt = let e : suc k + i ≡ k + suc i = omega arith in ap (slices_of g.instances) e ∙ h (suc i) (omega (arith, lt))

  pub has_first : (k : ℕ) (s : List Slice) (inner : List (List Slice)) → Has g k (s ∷ inner) → slices_of g.instances k ≡ s
  has_first k s inner h = let e : k ≡ k + 0 = omega arith in ap (slices_of g.instances) e ∙ h 0 (omega arith)

  -- ---- what holds of each instance that begins

  each_both : (P : ℕ → List Slice → Type 0) (k : ℕ) (a b : List (List Slice)) → AreGood P k a → AreGood P (k + length a) b → AreGood P k (a ++ b)
  each_both P k a b one other i lt = elim (cases_lt i (length a)) [
    | inl less ↦ subst (P (k + i)) (sym (get_or_append_left a b [] i less)) (one i less)
    | inr le ↦ behind i le lt
  ]
    where
      behind : (i : ℕ) → length a ≤ i → i < length (a ++ b) → P (k + i) (get_or (a ++ b) i [])
      behind i le lt =
          let j = i - length a in
          let at : length a + j ≡ i = omega (arith, le) in
          let number : (k + length a) + j ≡ k + (length a + j) = omega arith in
          subst (λ (n : ℕ). P (k + n) (get_or (a ++ b) n [])) at
          (subst (λ (s : List Slice). P (k + (length a + j)) s) (sym (get_or-append-add a b j []))
          (subst (λ (n : ℕ). P n (get_or b j [])) number (other j (omega (arith, lt, le, length-append a b)))))

  -- so many begin; if the graph has them, these are the bytes, and a visit of the names goes on from the one number to the other
  pub record Says (Good : Instances) (write : Pen → List ℕ × Pen) (visit : ℕ → List ℕ → List ℕ) (names : List ℕ) (p : Pen) (bytes : List ℕ) (q : Pen) (news : List (List Slice)) : Type 0 where
    pub begun : q.begun ≡ p.begun + length news
    pub are : Has g p.begun news → write p ≡ (bytes, q)
    pub order : Has g p.begun news → visit_each visit names (upto p.begun) ≡ upto q.begun
    pub below : AreBelow q.begun names
    pub inside : AreGood (λ n s. AreBelow q.begun (instance_names s)) p.begun news
    pub good : AreGood Good p.begun news

  module _ (Good : Instances) where
    abbrev Sound : (Pen → List ℕ × Pen) → (ℕ → List ℕ → List ℕ) → List ℕ → Stretch → Type 0
    Sound write visit names Stands = (p : Pen) (bytes : List ℕ) (q : Pen) (news : List (List Slice)) → Stands p bytes q news → Says Good write visit names p bytes q news

    none_begin : (P : Instances) (k : ℕ) (news : List (List Slice)) → news ≡ [] → AreGood P k news
    none_begin P k news few i lt = let e : length news ≡ 0 = ap length few in absurd (omega (arith, lt, e))

    sound_nothing : (visit : ℕ → List ℕ → List ℕ) → Sound (λ p. ([], p)) visit [] Nothing
    sound_nothing visit p bytes q news (nil, same, few) = record {
      begun = ap (λ (x : Pen). x.begun) same ∙ (let e : length news ≡ 0 = ap length few in omega (arith, e));
      are = λ h. ap (λ (l : List ℕ). (l, p)) (sym nil) ∙ ap (λ (x : Pen). (bytes, x)) (sym same);
      order = λ h. ap (λ (x : Pen). upto x.begun) (sym same);
      below = tt;
      inside = none_begin (λ n s. AreBelow q.begun (instance_names s)) p.begun news few;
      good = none_begin Good p.begun news few;
    }

    sound_then : (visit : ℕ → List ℕ → List ℕ) (ns ms : List ℕ) (write next : Pen → List ℕ × Pen) (First Next : Stretch) → Sound write visit ns First → Sound next visit ms Next
        → Sound (λ p. ((write p).0 ++ (next (write p).1).0, (next (write p).1).1)) visit (ns ++ ms) (Then First Next)
    sound_then visit ns ms write next First Next one other p bytes q news (a, b, mid, first, others, parts, all, f, n) =
        let x = one p a mid first f in
        let y = other mid b q others n in
        let le : mid.begun ≤ q.begun = omega (arith, y.begun) in
        let at : p.begun + length first ≡ mid.begun = sym x.begun in
        let Inner : Instances = λ n s. AreBelow q.begun (instance_names s) in
        let lifted : AreGood Inner p.begun first = λ i lt. more_below mid.begun q.begun le (instance_names (get_or first i [])) (x.inside i lt) in
        let here : (h : Has g p.begun news) → Has g p.begun first = λ h. has_front p.begun first others (subst (λ (l : List (List Slice)). Has g p.begun l) all h) in
        let there : (h : Has g p.begun news) → Has g mid.begun others = λ h. subst (λ (k : ℕ). Has g k others) at (has_rest p.begun first others (subst (λ (l : List (List Slice)). Has g p.begun l) all h)) in
        record {
          begun = let e : length news ≡ length first + length others = ap length all ∙ length-append first others in omega (arith, x.begun, y.begun, e);
          are = λ h.
              ap (λ (r : List ℕ × Pen). (r.0 ++ (next r.1).0, (next r.1).1)) (x.are (here h)) ∙ ap (λ (r : List ℕ × Pen). (a ++ r.0, r.1)) (y.are (there h)) ∙ ap (λ (l : List ℕ). (l, q)) (sym parts);
          order = λ h. each-append visit ns ms (upto p.begun) ∙ ap (visit_each visit ms) (x.order (here h)) ∙ y.order (there h);
          below = below_both q.begun ns ms (more_below mid.begun q.begun le ns x.below) y.below;
          inside = subst (AreGood Inner p.begun) (sym all) (each_both Inner p.begun first others lifted (subst (λ (k : ℕ). AreGood Inner k others) (sym at) y.inside));
          good = subst (AreGood Good p.begun) (sym all) (each_both Good p.begun first others x.good (subst (λ (k : ℕ). AreGood Good k others) (sym at) y.good));
        }

    -- ---- references, names and tables, by what is written for the instance that begins

    module _ (depth : ℕ) (write : List Slice → Pen → List ℕ × Pen) (Inside : List Slice → Stretch)
        (inside : (slices : List Slice) → Sound (write slices) (visit_at depth g) (instance_names slices) (Inside slices))
        (refer : Writer Pen (Option ℕ)) (back : (n : ℕ) (p : Pen) → n < p.begun → refer (Some n) p ≡ (size_bytes (suc (suc n)), p))
        (begins : (p : Pen) → refer (Some p.begun) p ≡ (size_bytes 1 ++ (write (slices_of g.instances p.begun) (with_one_begun p)).0, (write (slices_of g.instances p.begun) (with_one_begun p)).1)) where
      abbrev visit : ℕ → List ℕ → List ℕ
      visit = visit_at (suc depth) g

      first_and : (P : Instances) (k : ℕ) (s : List Slice) (inner : List (List Slice)) → P k s → AreGood P (suc k) inner → AreGood P k (s ∷ inner)
      first_and P k s inner one others zero lt = let e : k ≡ k + 0 = omega arith in subst (λ (n : ℕ). P n s) e one
      first_and P k s inner one others (suc i) lt = let e : suc k + i ≡ k + suc i = omega arith in subst (λ (n : ℕ). P n (get_or inner i [])) e (others i (omega (arith, lt)))

      sound_reference : (n : ℕ) → Sound (refer (Some n)) visit (n ∷ []) (ReferenceStands Good Inside n)
      sound_reference n p bytes q news (inl (lt, is, same, few)) = record {
        begun = ap (λ (x : Pen). x.begun) same ∙ (let e : length news ≡ 0 = ap length few in omega (arith, e));
        are = λ h. back n p lt ∙ ap (λ (l : List ℕ). (l, p)) (sym is) ∙ ap (λ (x : Pen). (bytes, x)) (sym same);
        order = λ h. listed-stays (suc depth) g n p.begun lt ∙ ap (λ (x : Pen). upto x.begun) (sym same);
        below = (subst (λ (x : Pen). n < x.begun) (sym same) lt, tt);
        inside = none_begin (λ n s. AreBelow q.begun (instance_names s)) p.begun news few;
        good = none_begin Good p.begun news few;
      }
      sound_reference n p bytes q news (inr (at, slices, rest, inner, parts, all, good, h)) =
          let x = inside slices (with_one_begun p) rest q inner h in
          let Inner : Instances = λ n s. AreBelow q.begun (instance_names s) in
          record {
            begun = let e : length news ≡ suc (length inner) = ap length all in omega (arith, x.begun, e);
            are = λ had.
                let had' = subst (λ (l : List (List Slice)). Has g p.begun l) all had in
                let wrote = x.are (has_more p.begun slices inner had') in
                let mine = has_first p.begun slices inner had' in
                ap (λ (m : ℕ). refer (Some m) p) at ∙ begins p
                ∙ ap (λ (s : List Slice). (size_bytes 1 ++ (write s (with_one_begun p)).0, (write s (with_one_begun p)).1)) mine
                ∙ ap (λ (r : List ℕ × Pen). (size_bytes 1 ++ r.0, r.1)) wrote ∙ ap (λ (l : List ℕ). (l, q)) (sym parts);
            order = λ had.
                let had' = subst (λ (l : List (List Slice)). Has g p.begun l) all had in
                let behind = x.order (has_more p.begun slices inner had') in
                ap (λ (m : ℕ). visit_at (suc depth) g m (upto p.begun)) at ∙ not_visited g depth p.begun
                ∙ ap (λ (s : List Slice). visit_each (visit_at depth g) (instance_names s) (upto (suc p.begun))) (has_first p.begun slices inner had') ∙ behind;
            below = (omega (arith, at, x.begun), tt);
            inside = subst (AreGood Inner p.begun) (sym all) (first_and Inner p.begun slices inner x.below x.inside);
            good = subst (AreGood Good p.begun) (sym all) (first_and Good p.begun slices inner (subst (λ (m : ℕ). Good m slices) at good) x.good);
          }

      sound_names : (t : Tables) (ns : List ℕ) → Sound (written_names t refer ns) visit ns (NamesStand Good Inside ns)
      sound_names t [] = sound_nothing visit
      sound_names t (n ∷ ns) = sound_then visit (n ∷ []) ns (refer (Some n)) (written_names t refer ns) (ReferenceStands Good Inside n) (NamesStand Good Inside ns) (sound_reference n) (sound_names t ns)

      sound_table : (t : Tables) (ns : List ℕ) → Sound (written_table t refer ns) visit ns (TableStands Good Inside ns)
      sound_table t [] p bytes q news h = sound_nothing visit p bytes q news h
      sound_table t (n ∷ ns) p bytes q news (body, parts, h) =
          let x = sound_names t (n ∷ ns) p body q news h in
          record {
            begun = x.begun;
            are = λ had. ap (λ (r : List ℕ × Pen). (size_bytes (length (n ∷ ns)) ++ r.0, r.1)) (x.are had) ∙ ap (λ (l : List ℕ). (l, q)) (sym parts);
            order = x.order;
            below = x.below;
            inside = x.inside;
            good = x.good;
          }

      -- ---- slices

      module _ (t : Tables) where
        abbrev one_slice : Slice → List Slice → Pen → List ℕ × Pen
        one_slice s ss p = let h = head_of Good Inside t s ss p in let b = written_table t refer (table_of s) h.1 in (h.0 ++ (counted Good Inside t s ++ b.0), b.1)

        sound_slice : (s : Slice) (ss : List Slice) → Sound (one_slice s ss) visit (slice_names s) (SliceStands Good Inside t s ss)
        sound_slice s ss p bytes q news (table, parts, h) =
            let head = head_of Good Inside t s ss p in
            let x = sound_table t (table_of s) head.1 table q news h in
            let same : head.1.begun ≡ p.begun = head_begun _ (written_id t s) p in
            record {
              begun = x.begun ∙ ap (λ (n : ℕ). n + length news) same;
              are = λ had. ap (λ (r : List ℕ × Pen). (head.0 ++ (counted Good Inside t s ++ r.0), r.1)) (x.are (subst (λ (k : ℕ). Has g k news) (sym same) had)) ∙ ap (λ (l : List ℕ). (l, q)) (sym parts);
              order = λ had.
                  table_visited g depth s (upto p.begun) ∙ ap (λ (k : ℕ). visit_each visit (table_of s) (upto k)) (sym same) ∙ x.order (subst (λ (k : ℕ). Has g k news) (sym same) had);
              below = table_below q.begun s x.below;
              inside = subst (λ (k : ℕ). AreGood (λ n s. AreBelow q.begun (instance_names s)) k news) same x.inside;
              good = subst (λ (k : ℕ). AreGood Good k news) same x.good;
            }

        grouped : (s : Slice) (ss : List Slice) (p : Pen)
            → written_slices t refer (s ∷ ss) p ≡ ((one_slice s ss p).0 ++ (written_slices t refer ss (one_slice s ss p).1).0, (written_slices t refer ss (one_slice s ss p).1).1)
        grouped s [] p =
            let h = head_of Good Inside t s [] p in let b = written_table t refer (table_of s) h.1 in
            ap (λ (l : List ℕ). (l, b.1)) (sym (append_assoc h.0 (counted Good Inside t s ++ b.0) []))
        grouped s (r ∷ rs) p =
            let h = head_of Good Inside t s (r ∷ rs) p in let b = written_table t refer (table_of s) h.1 in let c = written_slices t refer (r ∷ rs) b.1 in
            ap (λ (l : List ℕ). (l, c.1)) (sym (append_assoc h.0 (counted Good Inside t s ++ b.0) c.0))

        sound_slices : (ss : List Slice) → Sound (written_slices t refer ss) visit (instance_names ss) (SlicesStand Good Inside t ss)
        sound_slices [] p bytes q news h = sound_nothing visit p bytes q news h
        sound_slices (s ∷ ss) p bytes q news h =
            let x = sound_then visit (slice_names s) (instance_names ss) (one_slice s ss) (written_slices t refer ss) (SliceStands Good Inside t s ss) (SlicesStand Good Inside t ss) (sound_slice s ss) (sound_slices ss) p bytes q news h in
            record { begun = x.begun; are = λ had. grouped s ss p ∙ x.are had; order = x.order; below = x.below; inside = x.inside; good = x.good }

    -- ---- instances in one another

    module _ (t : Tables) where
      abbrev pub refer_at : ℕ → Writer Pen (Option ℕ)
      refer_at depth = written_in_place put_inline (written_instance t sliced g depth)

      abbrev less_one : ℕ → ℕ
      less_one zero = zero
      less_one (suc n) = n

      abbrev written_inside : ℕ → List Slice → Pen → List ℕ × Pen
      written_inside zero slices p = ([], record { begun = less_one p.begun; ids = p.ids })
      written_inside (suc depth) slices p = written_slices t (refer_at depth) slices p

      put_back : (n : ℕ) (p : Pen) → n < p.begun → put_inline (Some n) p ≡ record { bytes = size_bytes (suc (suc n)); begun = None; after = p }
      put_back n p lt = rw (lt-ltb n p.begun lt, put_inline) refl

      put_next : (p : Pen) → put_inline (Some p.begun) p ≡ record { bytes = size_bytes 1; begun = Some p.begun; after = p }
      put_next p = rw (le-ltb p.begun p.begun (omega arith), put_inline) refl

      abbrev finished : ℕ → Put Pen → List ℕ × Pen
      finished depth x = let b = written_begun (written_instance t sliced g depth) x.begun x.after in (x.bytes ++ b.0, b.1)

      back_at : (depth n : ℕ) (p : Pen) → n < p.begun → refer_at depth (Some n) p ≡ (size_bytes (suc (suc n)), p)
      back_at depth n p lt = ap (finished depth) (put_back n p lt) ∙ ap (λ (l : List ℕ). (l, p)) (append-nil (size_bytes (suc (suc n))))

      begins_at : (depth : ℕ) (p : Pen) → refer_at depth (Some p.begun) p
          ≡ (size_bytes 1 ++ (written_inside depth (slices_of g.instances p.begun) (with_one_begun p)).0, (written_inside depth (slices_of g.instances p.begun) (with_one_begun p)).1)
      begins_at zero p = ap (finished zero) (put_next p)
      begins_at (suc depth) p = ap (finished (suc depth)) (put_next p)

      -- within so many levels, an instance is written as it stands and visited in order
      sound_instance : (levels deep depth : ℕ) → levels ≤ deep → levels ≤ depth → (slices : List Slice) → Sound (written_inside deep slices) (visit_at depth g) (instance_names slices) (InstanceStands t Good levels slices)
      sound_instance zero deep depth le few slices p bytes q news h = absurd h
      sound_instance (suc levels) zero depth le few slices p bytes q news h = absurd (omega (arith, le))
      sound_instance (suc levels) (suc deep) zero le few slices p bytes q news h = absurd (omega (arith, few))
      sound_instance (suc levels) (suc deep) (suc depth) le few slices p bytes q news h =
          sound_slices depth (written_inside deep) (InstanceStands t Good levels) (sound_instance levels deep depth (omega (arith, le)) (omega (arith, few))) (refer_at deep) (back_at deep) (begins_at deep) t slices p bytes q news h

      -- and so are references, one after the other
      pub sound_roots : (levels deep depth : ℕ) → levels ≤ deep → levels ≤ depth → (ns : List ℕ) → Sound (written_names t (refer_at deep) ns) (visit_at (suc depth) g) ns (NamesStand Good (InstanceStands t Good levels) ns)
      sound_roots levels deep depth le few = sound_names depth (written_inside deep) (InstanceStands t Good levels) (sound_instance levels deep depth le few) (refer_at deep) (back_at deep) (begins_at deep) t
