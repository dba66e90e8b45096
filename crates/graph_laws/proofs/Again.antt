-- A content under the schema that lacks classes, each instance sized, read again under the whole one.
use Rattle.std.proofs.Common.{ℕ, zero, suc, ◌+◌, ◌≡◌, ◌<◌, ◌≤◌, ◌⊎◌, true, List, [], ◌∷◌, ◌++◌, length, refl, sym, ap, ◌∙◌, subst, Option, Some, None, inl, inr, arith}
use Rattle.std.proofs.lemmas.Bool.{cases_lt, cases_eq}
use Rattle.std.proofs.lemmas.List.{length-append, get_or_append_left}
use Rattle.ice_types.specs.declared.kind.RowRef.TheVariants as rows
use Rattle.ice_types.specs.declared.declarations.Shape.{Shape}
use Rattle.ice_types.specs.Tables.{Tables}
use Rattle.ice_types.specs.Lacking.{SameBase, SameShape}
use Rattle.ice_encoding.specs.Port.{Speller}
use Rattle.ice_encoding.specs.OptionalMembers.{Members, SpellsContent}
use Rattle.ice_encoding.specs.Graph.{Slice}
use Rattle.ice_encoding.specs.References.{met_at, with_met, with_ended, beginning, opening, SpellsInline}
use Rattle.ice_encoding.specs.Flags.{all_slices, first}
use Rattle.ice_encoding.specs.Slices.{SpellsInstance}
use Rattle.ice_encoding.specs.Instances.{slices_of, class_of, class_fits, AllFit}
use Rattle.graph_laws.proofs.TypeIds.{Spelled}
use Rattle.graph_laws.proofs.InlineRules.{all_fit_more}
use Rattle.graph_laws.proofs.WrittenGraphs.{replaced_length, replaced_at}
use Rattle.graph_laws.specs.Sized.{starts_sized, sized_instances}
use Rattle.graph_laws.specs.Seeing.{AllSeen, EachSeen}
use Rattle.graph_laws.proofs.Rows.{Agrees, agrees_itself}
use Rattle.graph_laws.proofs.RelayedCarried.{Carries, content_carried}
use Rattle.graph_laws.proofs.Stays.{Stays, past_end, others_stay, fit_rest, slices_stay, sized_stay, EndAs}
use Rattle.graph_laws.proofs.RelayedRelated.{each_length, each_slices}
use Rattle.graph_laws.proofs.Classed.{Both, rows_agree}
use Rattle.graph_laws.proofs.Standing.{Stands}
use Rattle.graph_laws.proofs.RelayedFitting.{each_like, fits_back}
use Rattle.graph_laws.proofs.Flipped.{base_flipped, shape_flipped, rows_flipped}
use Rattle.graph_laws.proofs.Back.{none_back, slices_some}
use Rattle.graph_laws.proofs.Returned.{Returns, EndsWell, well_before, end_steps, slices_back}

new_empty : (is : List (List Slice)) (m : ℕ) → length is ≤ m → slices_of (is ++ [] ∷ []) m ≡ []
new_empty [] zero le = refl
new_empty [] (suc m) le = refl
new_empty (i ∷ is) zero le = absurd (omega (arith, le))
new_empty (i ∷ is) (suc m) le = new_empty is m (omega (arith, le))

all_equal : (xs ys : List (List Slice)) → length xs ≡ length ys → ((m : ℕ) → slices_of xs m ≡ slices_of ys m) → xs ≡ ys
all_equal [] [] e same = refl
all_equal [] (y ∷ ys) e same = absurd cc
all_equal (x ∷ xs) [] e same = absurd cc
all_equal (x ∷ xs) (y ∷ ys) e same = ap (λ (z : List Slice). z ∷ xs) (same 0) ∙ ap (λ (l : List (List Slice)). y ∷ l) (all_equal xs ys (omega (arith, e)) (λ m. same (suc m)))

module _ (t u : Tables) (both : Both t u) (ks hs : List (List Slice)) (seen : EachSeen t u ks ks hs) (stands : (n : ℕ) → n < length ks → Stands t (slices_of ks n)) where
  abbrev own : Agrees u u
  own = agrees_itself u both.node

  abbrev Rel : Spelled → Spelled → Type 0
  Rel = Returns t ks

  abbrev Fine : Spelled → Type 0
  Fine = EndsWell u hs

  begun_back : (b a : Option ℕ) (from begin : Spelled) → class_fits t a (class_of (slices_of ks (length begin.instances))) ≡ true → Rel from begin → Rel (beginning tt b from) (beginning tt a begin)
  begun_back b a from begin fits r = record {
    ids = r.ids;
    count = omega (arith, r.count, length-append from.instances ([] ∷ []), length-append begin.instances ([] ∷ []));
    each = λ m. elim (cases_lt m (length from.instances)) [
      | inl lt ↦ subst (λ (l : List Slice). ((l ≡ []) × (slices_of (begin.instances ++ [] ∷ []) m ≡ [])) ⊎ (slices_of (begin.instances ++ [] ∷ []) m ≡ slices_of ks m)) (sym (get_or_append_left from.instances ([] ∷ []) [] m lt))
          (subst (λ (l : List Slice). ((slices_of from.instances m ≡ []) × (l ≡ [])) ⊎ (l ≡ slices_of ks m)) (sym (get_or_append_left begin.instances ([] ∷ []) [] m (omega (arith, lt, r.count)))) (r.each m))
      | inr le ↦ inl (new_empty from.instances m le, new_empty begin.instances m (omega (arith, le, r.count)))
    ];
    met = all_fit_more t ks begin.met (met_at tt a (length begin.instances) ∷ []) r.met (fits, tt);
  }

  ended_back : (n : ℕ) (rs : List Slice) (end last : Spelled) → n < length end.instances → Rel end last → Rel (with_ended n rs end) (with_ended n (slices_of ks n) last)
  ended_back n rs end last lt r = record {
    ids = r.ids;
    count = omega (arith, r.count, replaced_length n rs end.instances, replaced_length n (slices_of ks n) last.instances);
    each = λ m. elim (cases_eq m n) [
      | inl e ↦ inr (subst (λ (k : ℕ). slices_of (with_ended n (slices_of ks n) last).instances k ≡ slices_of ks k) (sym e) (replaced_at n (slices_of ks n) last.instances (omega (arith, lt, r.count))))
      | inr apart ↦ subst (λ (l : List Slice). ((l ≡ []) × (slices_of (with_ended n (slices_of ks n) last).instances m ≡ [])) ⊎ (slices_of (with_ended n (slices_of ks n) last).instances m ≡ slices_of ks m)) (sym (others_stay n rs end.instances m apart))
          (subst (λ (l : List Slice). ((slices_of end.instances m ≡ []) × (l ≡ [])) ⊎ (l ≡ slices_of ks m)) (sym (others_stay n (slices_of ks n) last.instances m apart)) (r.each m))
    ];
    met = r.met;
  }

  -- an instance that ends has the slices of the graph
  end_is : (n : ℕ) (rs : List Slice) → (rs ≡ [] → ⊥) → (rs ≡ []) ⊎ (rs ≡ slices_of hs n) → rs ≡ slices_of hs n
  end_is n rs some (inl e) = absurd (some e)
  end_is n rs some (inr e) = e

  there_is : (n : ℕ) (rs : List Slice) → (rs ≡ [] → ⊥) → rs ≡ slices_of hs n → Stands t (slices_of ks n)
  there_is n rs some e = elim (cases_lt n (length ks)) [
    | inl lt ↦ stands n lt
    | inr le ↦ absurd (some (e ∙ past_end hs n (omega (arith, le, each_length t u ks ks hs seen))))
  ]

  inline_back : (limit : ℕ) (Slices Other : Speller Spelled (List Slice)) → ((bytes : List ℕ) (rs : List Slice) (from to : Spelled) → Slices bytes rs from to → (rs ≡ [] → ⊥) × Stays from to)
      → ((bytes : List ℕ) (ss rs : List Slice) (from to begin : Spelled) → Slices bytes rs from to → AllSeen t u ks ss rs → Stands t ss → Rel from begin → Fine to → (end : Spelled) × Other bytes ss begin end × Rel to end)
      → (b a : Option ℕ) → SameBase t u rows.Class a b → (bytes : List ℕ) (n : Option ℕ) (from to begin : Spelled) → SpellsInline limit Slices b bytes n from to → Rel from begin → Fine to → (end : Spelled) × SpellsInline limit Other a bytes n begin end × Rel to end
  inline_back limit Slices Other facts go b a tied bytes None from to begin h r good = (begin, (h.0, refl), subst (λ (s : Spelled). Rel s begin) (sym h.1) r)
  inline_back limit Slices Other facts go b a tied bytes (Some n) from to begin (inr h) r good =
      let fine : Fine (with_met (met_at tt b n ∷ []) from) = subst (λ (s : Spelled). Fine s) h.2 good in
      let there = fit_rest u hs from.met (met_at tt b n ∷ []) fine.1 in
      let fits = fits_back t u both ks hs (each_like t u ks hs seen) stands a b n tied there.0 in (
        with_met (met_at tt a n ∷ []) begin,
        inr (h.0, omega (arith, h.1, r.count), refl),
        subst (λ (s : Spelled). Rel s (with_met (met_at tt a n ∷ []) begin)) (sym h.2) (record { ids = r.ids; count = r.count; each = r.each; met = all_fit_more t ks begin.met (met_at tt a n ∷ []) r.met (fits, tt) }),
      )
  inline_back limit Slices Other facts go b a tied bytes (Some n) from to begin (inl (rs, front, rest, end, parts, size, number, room, h, ends)) r good =
      let f = facts rest rs (beginning tt b from) end h in
      let more : length (from.instances ++ [] ∷ []) ≡ length from.instances + 1 = length-append from.instances ([] ∷ []) in
      let lt : n < length end.instances = omega (arith, number, more, f.1.longer) in
      let good_end : Fine (with_ended n rs end) = subst (λ (s : Spelled). Fine s) ends good in
      let this : rs ≡ slices_of hs n = end_is n rs f.0 (subst (λ (l : List Slice). (l ≡ []) ⊎ (l ≡ slices_of hs n)) (replaced_at n rs end.instances lt) (good_end.0 n)) in
      let open_here : slices_of end.instances n ≡ [] = f.1.earlier n (omega (arith, number, more)) ∙ new_empty from.instances n (omega (arith, number)) in
      let ends_inside : EndAs hs end = λ m. elim (cases_eq m n) [
        | inl e ↦ inl (ap (slices_of end.instances) e ∙ open_here)
        | inr apart ↦ subst (λ (l : List Slice). (l ≡ []) ⊎ (l ≡ slices_of hs m)) (others_stay n rs end.instances m apart) (good_end.0 m)
      ] in
      let good_inside : Fine end = (ends_inside, good_end.1) in
      let good_start : Fine (beginning tt b from) = well_before u hs (beginning tt b from) end f.1 good_inside in
      let there = fit_rest u hs from.met (met_at tt b (length from.instances) ∷ []) good_start.1 in
      let fits = subst (λ (k : ℕ). class_fits t a (class_of (slices_of ks k)) ≡ true) (sym r.count) (fits_back t u both ks hs (each_like t u ks hs seen) stands a b (length from.instances) tied there.0) in
      let all_seen : AllSeen t u ks (slices_of ks n) rs = subst (λ (l : List Slice). AllSeen t u ks (slices_of ks n) l) (sym this) (each_slices t u ks ks hs n seen) in
      let g = go rest (slices_of ks n) rs (beginning tt b from) end (beginning tt a begin) h all_seen (there_is n rs f.0 this) (begun_back b a from begin fits r) good_inside in (
        with_ended n (slices_of ks n) g.0,
        inl (slices_of ks n, front, rest, g.0, parts, size, number ∙ sym r.count, room, g.1, refl),
        subst (λ (s : Spelled). Rel s (with_ended n (slices_of ks n) g.0)) (sym ends) (ended_back n rs end g.0 lt g.2),
      )

  -- so many bytes are sized as before
  abbrev Sized : Tables → ℕ → ℕ → Speller Spelled (List Slice)
  Sized x limit more bytes slices from to = (starts_sized bytes ≡ true) × SpellsInstance (sized_instances x limit more) x all_slices bytes slices from to

  instances_back : (limit more : ℕ) (b a : Option ℕ) → SameBase u t rows.Class b a → Carries (end_steps u hs) Rel ((sized_instances u limit more).Spells b) ((sized_instances t limit more).Spells a)
  instances_back limit zero b a tied bytes n from to h = (
    sized_stay u own limit zero b n bytes from to h,
    λ begin r good.
        inline_back limit (λ bytes slices from to. ⊥) (λ bytes slices from to. ⊥) (λ bytes rs from to h. absurd h) (λ bytes ss rs from to begin h s i r good. absurd h) b a (base_flipped u t b a tied) bytes n from to begin h r good,
  )
  instances_back limit (suc more) b a tied bytes n from to h = (
    sized_stay u own limit (suc more) b n bytes from to h,
    λ begin r good.
        inline_back limit (Sized u limit more) (Sized t limit more)
        (λ bytes rs from to h. (λ e. slices_some t u both ks (sized_instances u limit more) h.1.0 first bytes rs from to h.1.1 e, slices_stay u own (sized_instances u limit more) (sized_stay u own limit more) h.1.0 first bytes rs from to h.1.1))
        (λ bytes ss rs from to begin h s i r good.
        let g = slices_back t u both ks hs seen stands (sized_instances u limit more) (sized_instances t limit more) (sized_stay u own limit more) (instances_back limit more) h.1.0 first first refl bytes ss rs from to begin h.1.1 s i r good in
        (g.0, (h.0, (h.1.0, g.1)), g.2)) b a (base_flipped u t b a tied) bytes n from to begin h r good,
  )

  -- the instances at the end are those of the graph
  all_back : (end last : Spelled) → end.instances ≡ hs → Rel end last → last.instances ≡ ks
  all_back end last is r = all_equal last.instances ks (r.count ∙ ap length is ∙ each_length t u ks ks hs seen) (λ m. by_case m (r.each m))
    where
      by_case : (m : ℕ) → ((slices_of end.instances m ≡ []) × (slices_of last.instances m ≡ [])) ⊎ (slices_of last.instances m ≡ slices_of ks m) → slices_of last.instances m ≡ slices_of ks m
      by_case m (inr e) = e
      by_case m (inl e) = e.1 ∙ sym (none_back t u both ks (slices_of ks m) (slices_of hs m) (each_slices t u ks ks hs m seen) (ap (λ (l : List (List Slice)). slices_of l m) (sym is) ∙ e.0))

  pub content_back : (limit more : ℕ) (shape other : Shape) → SameShape t u shape other → (bytes : List ℕ) (c : Members) (end : Spelled) → SpellsContent (sized_instances u limit more) u other bytes c opening end → end.instances ≡ hs → AllFit u hs end.met
      → (last : Spelled) × SpellsContent (sized_instances t limit more) t shape bytes c opening last × (last.instances ≡ ks) × AllFit t ks last.met
  content_back limit more shape other tied bytes c end h is fit =
      let g = (content_carried (end_steps u hs) Rel (sized_instances u limit more) (sized_instances t limit more) u t (rows_flipped t u (rows_agree t u both)) (instances_back limit more)
      other shape (shape_flipped t u shape other tied) bytes c opening end h).1 opening (record { ids = refl; count = refl; each = λ m. inl (refl, refl); met = tt }) ((λ m. inr (ap (λ (l : List (List Slice)). slices_of l m) is)), fit) in
      (g.0, g.1, all_back end g.0 is g.2, g.2.met)
