-- A name among names that rise: at the place where those before it are below it, or nowhere.
use Rattle.std.proofs.Common.{◌≡◌, ℕ, ◌+◌, ◌-◌, ◌<◌, ◌≤◌, List, [], ◌∷◌, length, get_or, drop, Option, None, Some, option_map, Ordering, Less, Equal, Greater, nat_cmp, is_eq, is_lt, Bool, true, false, true≢false, bytes_eq, refl, sym, ap, ◌∙◌, subst, ⊎_elim, arith}
use Rattle.std.specs.Prelude.{slice_get}
use Rattle.std.specs.Cmp.{IsTotalOrder}
use Rattle.std.specs.Cmp.Lexicographic.{slice_cmp}
use Rattle.std.specs.List.Sorted.{IsStrictlySortedBy}
use Rattle.std.specs.Map.{keys_of}
use Rattle.std.specs.Ordering.{match_ordering, ordering_reverse}
use Rattle.std.proofs.lemmas.Bool.{cases_lt}
use Rattle.std.proofs.lemmas.Cmp.{nat_list_cmp_total, eq_by_cmp_equiv, tied_itself}
use Rattle.std.proofs.lemmas.List.{drop_more}
use Rattle.std.proofs.lemmas.Map.Entries.{length-keys_of, lookup_at_gap, lookup_from_place}
use Rattle.std.proofs.lemmas.Map.Keys.{IsDistinct-from_sorted, Less-from_sorted, sorted_from_all_adjacent}
use Rattle.std.proofs.lemmas.Map.Text.{is_eq-slice_cmp}
use Rattle.std.proofs.lemmas.Option.{get_or_from_slice_get, slice_get_within, same_Some}
use Rattle.std.proofs.lemmas.Slice.Eq.{bytes_eq-Decides}
use Rattle.std.proofs.Math.ListN.{get_or-map}
use Rattle.serde_json.specs.Data.{Data}
use Rattle.serde_json.specs.Find.{get_member}
use Rattle.graph_json.specs.View.{Lent, lent_cmp, Entry, view, members_view, NamesRise, IsPlace}
use Rattle.graph_json.proofs.Views.{view-lookup}

pub lent_total : IsTotalOrder lent_cmp
lent_total = record {
  antisymm = λ x y. nat_list_cmp_total.antisymm x.now y.now;
  trans = λ x y z. nat_list_cmp_total.trans x.now y.now z.now;
  congr = λ x y z. nat_list_cmp_total.congr x.now y.now z.now;
}

-- texts that are equal, either way round
pub same_text : (xs ys : List ℕ) → bytes_eq xs ys ≡ true → xs ≡ ys
same_text xs ys e = (bytes_eq-Decides xs ys).0 e

other_text : (xs ys : List ℕ) (b : Bool) → bytes_eq ys xs ≡ b → bytes_eq xs ys ≡ false → b ≡ false
other_text xs ys true e apart = absurd (true≢false (sym ((bytes_eq-Decides xs ys).1 (sym (same_text ys xs e))) ∙ apart))
other_text xs ys false e apart = refl

pub less : (o : Ordering) → is_lt o ≡ true → o ≡ Less
less Less e = refl
less Equal e = absurd (true≢false (sym e))
less Greater e = absurd (true≢false (sym e))

name_at : (es : List Entry) (i : ℕ) (e : Entry) → get_or (keys_of es) i e.0 ≡ (get_or es i e).0
name_at es i e = get_or-map (λ (x : Entry). x.0) es i e

-- ---- whether names rise

pub rise_by_neighbours : (es : List Entry) (n : ℕ) → length es ≤ n
    → ((k : ℕ) (e : Entry) → k + 1 < n → k + 1 < length es → is_lt (slice_cmp nat_cmp (get_or es k e).0.now (get_or es (k + 1) e).0.now) ≡ true) → NamesRise es
unfolding IsStrictlySortedBy
rise_by_neighbours [] n le h = tt
rise_by_neighbours (e ∷ es) n le h = sorted_from_all_adjacent lent_total (keys_of (e ∷ es)) e.0 (λ k lt.
    let within : k + 1 < length (e ∷ es) = omega (arith, lt, length-keys_of (e ∷ es)) in
    rw (name_at (e ∷ es) k e, name_at (e ∷ es) (k + 1) e) (less _ (h k e (omega arith) within)))

-- ---- a place

module _ (q : Lent) (es : List Entry) (rise : NamesRise es) (i : ℕ) (place : IsPlace q.now es i) where
  before : (j : ℕ) (e : Entry) → j < i → slice_get es j ≡ Some e → lent_cmp e.0 q ≡ Less
  before j e lt here =
      let last : lent_cmp (get_or es (i - 1) e).0 q ≡ Less = less _ (place.1 e (omega arith)) in
      let this : get_or es j e ≡ e = get_or_from_slice_get es j e e here in
      ⊎_elim
      (λ (far : j < i - 1).
      let step : lent_cmp (get_or (keys_of es) j e.0) (get_or (keys_of es) (i - 1) e.0) ≡ Less =
      Less-from_sorted lent_cmp (keys_of es) j (i - 1) e.0 rise far (omega (arith, place.0, length-keys_of es)) in
      let named : lent_cmp e.0 (get_or es (i - 1) e).0 ≡ Less =
      ap (λ (x : Entry). lent_cmp x.0 (get_or es (i - 1) e).0) (sym this) ∙ sym (rw (name_at es j e, name_at es (i - 1) e) refl) ∙ step in
      lent_total.trans e.0 (get_or es (i - 1) e).0 q named last)
      (λ (near : i - 1 ≤ j).
      let same : j ≡ i - 1 = omega (arith, near, lt) in
      ap (λ (x : Entry). lent_cmp x.0 q) (sym this ∙ ap (λ k. get_or es k e) same) ∙ last)
      (cases_lt j (i - 1))

  above : (j : ℕ) (e : Entry) → j < i → slice_get es j ≡ Some e → lent_cmp q e.0 ≡ Greater
  above j e lt here = lent_total.antisymm q e.0 ∙ ap ordering_reverse (before j e lt here)

  -- nothing stands there where the place is behind all names
  pub absent : length es ≤ i → None ≡ get_member q.now (members_view es)
  absent le =
      ap (option_map view) (sym (lookup_at_gap lent_total q es i rise above (λ e here. absurd (omega (arith, le, slice_get_within es i e here))))) ∙ view-lookup q es

  -- ordered otherwise, and not below
  gap : (e : Entry) → (o : Ordering) → lent_cmp q e.0 ≡ ordering_reverse o → is_lt o ≡ false → is_eq o ≡ false → lent_cmp q e.0 ≡ Less
  gap e Less is high apart = absurd (true≢false high)
  gap e Equal is high apart = absurd (true≢false apart)
  gap e Greater is high apart = is

  same : (e f : Entry) → Some e ≡ Some f → e ≡ f
  same e f h = same_Some e f h

  -- nor where another name stands at the place
  pub other : (e : Entry) → slice_get es i ≡ Some e → bytes_eq e.0.now q.now ≡ false → None ≡ get_member q.now (members_view es)
  other e here apart =
      let within : i < length es = slice_get_within es i e here in
      let at : get_or es i e ≡ e = get_or_from_slice_get es i e e here in
      let high : is_lt (lent_cmp e.0 q) ≡ false = ap (λ (x : Entry). is_lt (lent_cmp x.0 q)) (sym at) ∙ place.2 e within in
      let differ : is_eq (lent_cmp e.0 q) ≡ false = is_eq-slice_cmp e.0.now q.now ∙ apart in
      let less = gap e (lent_cmp e.0 q) (lent_total.antisymm q e.0) high differ in
      ap (option_map view) (sym (lookup_at_gap lent_total q es i rise above (λ f there. subst (λ (x : Entry). lent_cmp q x.0 ≡ Less) (same e f (sym here ∙ there)) less))) ∙ view-lookup q es

-- what stands at a name that is there
pub there : (es : List Entry) → NamesRise es → (i : ℕ) (e : Entry) (name : List ℕ) → slice_get es i ≡ Some e → bytes_eq e.0.now name ≡ true → Some (view e.1) ≡ get_member name (members_view es)
there es rise i e name here is =
    ap (option_map view) (sym (lookup_from_place (eq_by_cmp_equiv lent_total) es i e.0 e.1 (IsDistinct-from_sorted lent_cmp (keys_of es) rise) here)) ∙ view-lookup e.0 es ∙ ap (λ n. get_member n (members_view es)) (same_text e.0.now name is)

-- ---- names in any order, of which the first one counts

module _ (name : List ℕ) (es : List Entry) (i : ℕ) (e : Entry) (lt : i < length es) (is : e ≡ get_or es i e) (left : get_member name (members_view (drop i es)) ≡ get_member name (members_view es)) where
  here : get_member name (members_view (drop i es)) ≡ get_member name (members_view (e ∷ drop (i + 1) es))
  here = ap (λ l. get_member name (members_view l)) (drop_more es i e lt ∙ ap (λ (x : Entry). x ∷ drop (i + 1) es) (sym is))

  pub first_there : bytes_eq e.0.now name ≡ true → Some (view e.1) ≡ get_member name (members_view es)
  first_there equal =
      let same : e.0.now ≡ name = same_text e.0.now name equal in
      let tied : slice_cmp nat_cmp name e.0.now ≡ Equal = ap (slice_cmp nat_cmp name) same ∙ tied_itself nat_list_cmp_total name in
      let found : get_member name (members_view (e ∷ drop (i + 1) es)) ≡ Some (view e.1) = rw tied refl in
      sym found ∙ sym here ∙ left

  skipped : (o : Ordering) (rest : Option Data) → is_eq o ≡ false → match_ordering o rest (Some (view e.1)) rest ≡ rest
  skipped Less rest apart = refl
  skipped Equal rest apart = absurd (true≢false apart)
  skipped Greater rest apart = refl

  pub next_left : bytes_eq e.0.now name ≡ false → get_member name (members_view (drop (i + 1) es)) ≡ get_member name (members_view es)
  next_left apart = sym (skipped (slice_cmp nat_cmp name e.0.now) (get_member name (members_view (drop (i + 1) es))) (is_eq-slice_cmp name e.0.now ∙ other_text e.0.now name (bytes_eq name e.0.now) refl apart)) ∙ sym here ∙ left
