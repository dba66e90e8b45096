-- What goes well where references stand inline: what is appended is spelled, as many instances have begun as the visits list,
-- and each that has ended is that of the graph.
use Rattle.std.proofs.Common.{ℕ, suc, ◌+◌, ◌<◌, ◌≤◌, ◌^◌, ◌≡◌, true, List, [], ◌∷◌, ◌++◌, length, refl, sym, ap, ◌∙◌, subst, arith, inl, inr, Option, Some, None}
use Rattle.std.specs.Prelude.{slice_get}
use Rattle.std.proofs.lemmas.Bool.{cases_lt}
use Rattle.std.proofs.lemmas.List.{length-append}
use Rattle.ice_types.specs.Tables.{Tables}
use Rattle.ice_types.specs.CompactIds.{number_in, numbered_id, IsSliceId}
use Rattle.ice_types.proofs.SliceIds.{number_there, not_numbered}
use Rattle.ice_encoding.specs.Classes.{place_of}
use Rattle.ice_prims.specs.Bytes.{size_bytes, text_bytes}
use Rattle.ice_encoding.specs.Graph.{Slice, Graph}
use Rattle.ice_encoding.specs.References.{Reference, with_met}
use Rattle.ice_encoding.specs.Flags.{IdForm, no_id, as_text, as_index, as_number, has_id}
use Rattle.ice_encoding.specs.TypeIds.{with_id, SpellsId}
use Rattle.ice_encoding.specs.Instances.{slices_of, AllFit}
use Rattle.ice_encoding.specs.Visiting.{visit_each}
use Rattle.ice_encoding.specs.CanonicalGraph.{Pen, head_as, head_under, written_head}
use Rattle.ice_encoding.specs.Parts.{Part}
use Rattle.ice_encoding.specs.Writing.{Piece, exactly, ◌>>◌}
use Rattle.ice_encoding.specs.Members.{with_length}
use Rattle.graph_laws.proofs.ClassIds.{IsText, place_is}
use Rattle.graph_laws.proofs.TypeIds.{Spelled, text_spelled, index_spelled, number_spelled}
use Rattle.graph_laws.proofs.Upto.{upto, upto-one, Grows, parts}
use Rattle.graph_laws.proofs.WrittenValues.{Relation, Chain, Behind, Limits, Rules}

pub all_fit_more : (t : Tables) (is : List (List Slice)) (a b : List (Reference (Unit {0}))) → AllFit t is a → AllFit t is b → AllFit t is (a ++ b)
all_fit_more t is [] b p q = q
all_fit_more t is (m ∷ a) b p q = (p.0, all_fit_more t is a b p.1 q)

-- the instances of these numbers are the same
abbrev pub Agree : List (List Slice) → List (List Slice) → ℕ → ℕ → Type 0
Agree is js low high = (n : ℕ) → low ≤ n → n < high → slices_of js n ≡ slices_of is n

-- the earlier instances stay
abbrev pub Stay : List (List Slice) → List (List Slice) → Type 0
Stay is js = (n : ℕ) → n < length is → slices_of js n ≡ slices_of is n

earlier_both : (is js ks : List (List Slice)) → length is ≤ length js → Stay is js → Stay js ks → Stay is ks
earlier_both is js ks le one two n lt = two n (omega (arith, le, lt)) ∙ one n lt

inside_both : (of js ks : List (List Slice)) (low mid high : ℕ) → length js ≡ mid → Agree of js low mid → Stay js ks → Agree of ks (length js) high → Agree of ks low high
inside_both of js ks low mid high count one stay two n le lt = elim (cases_lt n mid) [ inl less ↦ stay n (omega (arith, count, less)) ∙ one n le less | inr more ↦ two n (omega (arith, count, more)) lt ]

module _ (t : Tables) (k : Graph) where
  pub record Goes (R : Relation Spelled) (from : Spelled) (p : Pen) (out : List ℕ × Pen) (j : ℕ) : Type 0 where
    pub end : Spelled
    pub spelled : R out.0 from end
    pub count : length end.instances ≡ j
    pub begun : out.1.begun ≡ j
    pub ids : end.ids ≡ out.1.ids
    pub many : length out.1.ids ≤ length p.ids + length out.0
    pub earlier : Stay from.instances end.instances
    pub inside : Agree k.instances end.instances (length from.instances) j
    pub fit : AllFit t k.instances from.met → AllFit t k.instances end.met

  pub record Stands (from : Spelled) (p : Pen) : Type 0 where
    pub count : length from.instances ≡ p.begun
    pub ids : from.ids ≡ p.ids

  -- nothing has begun or ended
  pub still : (R : Relation Spelled) (from end : Spelled) (p q : Pen) (bytes : List ℕ) (j : ℕ) → Stands from p → upto p.begun ≡ upto j → R bytes from end → end.instances ≡ from.instances → end.met ≡ from.met → q.begun ≡ p.begun → end.ids ≡ q.ids → length q.ids ≤ length p.ids + length bytes
      → Goes R from p (bytes, q) j
  still R from end p q bytes j stands run h same met begun ids many =
      let j_is = upto-one p.begun j run in
      record {
        end = end;
        spelled = h;
        count = ap length same ∙ stands.count ∙ j_is;
        begun = begun ∙ j_is;
        ids = ids;
        many = many;
        earlier = λ n lt. ap (λ (is : List (List Slice)). slices_of is n) same;
        inside = λ n le lt. absurd (omega (arith, le, lt, stands.count, j_is));
        fit = λ h. subst (AllFit t k.instances) (sym met) h;
      }

  module _ (l : Limits) (visit : ℕ → List ℕ → List ℕ) (grows : Grows visit) (Ready : ℕ → Type 0) (ready : (i j : ℕ) → Ready i → i ≤ j → Ready j) where
    abbrev pub Good : Piece Pen → List ℕ → Relation Spelled → Type 0
    Good w ns R = (from : Spelled) (p : Pen) (j : ℕ) → Stands from p → Ready p.begun → visit_each visit ns (upto p.begun) ≡ upto j → length p.ids + length (w p).0 ≤ l.bound → Goes R from p (w p) j

    pub exact_good : (bytes : List ℕ) (R : Relation Spelled) → (length bytes ≤ l.bound → (s : Spelled) → R bytes s s) → Good (exactly bytes) [] R
    exact_good bytes R h from p j stands is_ready run small =
        let few : length p.ids + length bytes ≤ l.bound = small in
        still R from from p p bytes j stands run (h (omega (arith, few)) from) refl refl refl stands.ids (omega arith)

    pub joined_good : (w w' : Piece Pen) (a b : List ℕ) (R R' : Relation Spelled) → Good w a R → Good w' b R' → Good (w >> w') (a ++ b) (Chain R R')
    joined_good w w' a b R R' first second from p j stands is_ready run small =
        let s = parts visit grows a b p.begun j run in
        let x = w p in
        let y = w' x.1 in
        let long = length-append x.0 y.0 in
        let one = first from p s.mid stands is_ready s.first (omega (arith, small, long)) in
        let run' : visit_each visit b (upto x.1.begun) ≡ upto j = subst (λ (i : ℕ). visit_each visit b (upto i) ≡ upto j) (sym one.begun) s.second in
        let is_ready' : Ready x.1.begun = subst Ready (sym one.begun) (ready p.begun s.mid is_ready s.low) in
        let two = second one.end x.1 j (record { count = one.count ∙ sym one.begun; ids = one.ids }) is_ready' run' (omega (arith, small, long, one.many)) in
        record {
          end = two.end;
          spelled = (x.0, y.0, one.end, refl, one.spelled, two.spelled);
          count = two.count;
          begun = two.begun;
          ids = two.ids;
          many = omega (arith, long, one.many, two.many);
          earlier = earlier_both from.instances one.end.instances two.end.instances (omega (arith, one.count, s.low, stands.count)) one.earlier two.earlier;
          inside = inside_both k.instances one.end.instances two.end.instances (length from.instances) s.mid j one.count one.inside two.earlier two.inside;
          fit = λ h. two.fit (one.fit h);
        }

    pub mapped_good : (w : Piece Pen) (ns : List ℕ) (R R' : Relation Spelled) → ((bytes : List ℕ) (from to : Spelled) → R bytes from to → R' bytes from to) → Good w ns R → Good w ns R'
    mapped_good w ns R R' f good from p j stands is_ready run small =
        let g = good from p j stands is_ready run small in
        record { end = g.end; spelled = f (w p).0 from g.end g.spelled; count = g.count; begun = g.begun; ids = g.ids; many = g.many; earlier = g.earlier; inside = g.inside; fit = g.fit }

    pub behind_good : (number : Part ℕ) → ((n : ℕ) → n < 2 ^ 31 → number.Spells (number.put n) n) → (w : Piece Pen) (ns : List ℕ) (R : Relation Spelled) → Good w ns R → Good (with_length number w) ns (Behind number R)
    behind_good number spelled w ns R good from p j stands is_ready run small =
        let x = w p in
        let long = length-append (number.put (length x.0)) x.0 in
        let g = good from p j stands is_ready run (omega (arith, small, long)) in
        record {
          end = g.end;
          spelled = (number.put (length x.0), x.0, refl, spelled (length x.0) (omega (arith, l.bounded, small, long)), g.spelled);
          count = g.count;
          begun = g.begun;
          ids = g.ids;
          many = omega (arith, g.many, long);
          earlier = g.earlier;
          inside = g.inside;
          fit = g.fit;
        }

    abbrev pub inline_rules : Rules Pen Spelled l
    inline_rules = record { Good = Good; exact = λ bytes R fits h. exact_good bytes R h; joined = joined_good; mapped = mapped_good; behind = λ number spelled fits w ns R good. behind_good number spelled w ns R good }

    -- references are known, each to a class that fits
    pub noted_good : (w : Piece Pen) (ns : List ℕ) (R : Relation Spelled) (ms : List (Reference (Unit {0}))) → AllFit t k.instances ms → Good w ns R → Good w ns (λ b from to. (end : Spelled) × R b from end × (to ≡ with_met ms end))
    noted_good w ns R ms fits good from p j stands is_ready run small =
        let g = good from p j stands is_ready run small in
        record { end = with_met ms g.end; spelled = (g.end, g.spelled, refl); count = g.count; begun = g.begun; ids = g.ids; many = g.many; earlier = g.earlier; inside = g.inside; fit = λ h. all_fit_more t k.instances g.end.met ms (g.fit h) fits }

    -- the flags, and the id
    abbrev pub Head : (IdForm → Type 0) → (IdForm → ℕ) → List ℕ → Relation Spelled
    Head Ok flags id b from to = (form : IdForm) × Ok form × (id_bytes : List ℕ) × (b ≡ flags form ∷ id_bytes) × SpellsId form id_bytes id from to

    abbrev pub HasId : IdForm → Type 0
    HasId form = has_id form ≡ true

    head_cases : (flags : IdForm → ℕ) (id : List ℕ) → IsText id → (from : Spelled) (p : Pen) (j : ℕ) → Stands from p → upto p.begun ≡ upto j → (o : Option ℕ) → place_of p.ids id ≡ o → length p.ids + length (head_as o flags id p).0 ≤ l.bound
        → Goes (Head HasId flags id) from p (head_as o flags id p) j
    head_cases flags id text from p j stands run (Some i) e small =
        let at = place_is p.ids id i e in
        let row : slice_get from.ids i ≡ Some id = ap (λ (ids : List (List ℕ)). slice_get ids i) stands.ids ∙ at.0 in
        still (Head HasId flags id) from from p p (flags as_index ∷ size_bytes (suc i)) j stands run (as_index, refl, size_bytes (suc i), refl, index_spelled i id from (omega (arith, l.bounded, at.1, small)) row) refl refl refl stands.ids (omega arith)
    head_cases flags id text from p j stands run None e small =
        let q : Pen = record { begun = p.begun; ids = p.ids ++ id ∷ [] } in
        let lt : length id < 2 ^ 31 = omega (arith, l.bounded, small, length-append (size_bytes (length id)) id) in
        still (Head HasId flags id) from (with_id id from) p q (flags as_text ∷ text_bytes id) j stands run
        (as_text, refl, text_bytes id, refl, text_spelled id from text lt) refl refl refl (ap (λ (ids : List (List ℕ)). ids ++ id ∷ []) stands.ids) (omega (arith, length-append p.ids (id ∷ [])))

    -- by its number, or as a text that is no number
    by_number : (flags : IdForm → ℕ) (id : List ℕ) → IsSliceId id → (number : Option ℕ) → number_in id ≡ number → (from : Spelled) (p : Pen) (j : ℕ) → Stands from p → upto p.begun ≡ upto j → length p.ids + length (head_under number flags id p).0 ≤ l.bound
        → Goes (Head HasId flags id) from p (head_under number flags id p) j
    by_number flags id (utf8, inl plain) None e from p j stands run small = head_cases flags id (utf8, plain) from p j stands run (place_of p.ids id) refl small
    by_number flags id (utf8, inl plain) (Some n) e from p j stands run small = let none : None ≡ Some n = sym (not_numbered id plain) ∙ e in absurd cc
    by_number flags id (utf8, inr (m, le, is)) None e from p j stands run small = let some : Some m ≡ None = sym (number_there m le) ∙ ap number_in (sym is) ∙ e in absurd cc
    by_number flags id (utf8, inr (m, le, is)) (Some n) e from p j stands run small =
        let both : Some m ≡ Some n = sym (number_there m le) ∙ ap number_in (sym is) ∙ e in
        let same : m ≡ n = cc in
        still (Head HasId flags id) from from p p (flags as_number ∷ size_bytes n) j stands run
        (as_number, refl, size_bytes n, refl, number_spelled n id from (subst (λ (k : ℕ). k ≤ 2147483647) same le) (is ∙ ap numbered_id same)) refl refl refl stands.ids (omega arith)

    pub head_good : (flags : IdForm → ℕ) (id : List ℕ) → IsSliceId id → Good (written_head flags id) [] (Head HasId flags id)
    head_good flags id is_id from p j stands is_ready run small = by_number flags id is_id (number_in id) refl from p j stands run small

    abbrev pub IsNone : IdForm → Type 0
    IsNone form = form ≡ no_id

    -- no type id
    pub bare_good : (flags : IdForm → ℕ) → Good (exactly (flags no_id ∷ [])) [] (Head IsNone flags [])
    bare_good flags = exact_good (flags no_id ∷ []) (Head IsNone flags []) (λ small s. (no_id, refl, [], refl, (refl, refl, refl)))
