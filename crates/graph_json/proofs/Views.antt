-- JSON, level by level, and the names of an object in order.
use Rattle.std.proofs.Common.{◌≡◌, suc, List, [], ◌∷◌, ◌++◌, length, Option, None, Some, option_map, Vec, Global, Ordering, Less, Equal, Greater, nat_cmp, is_eq, cond, Bor, refl, sym, ap, ◌∙◌, subst, rules}
use Rattle.std.specs.Cmp.Lexicographic.{slice_cmp}
use Rattle.std.specs.List.{AllByRecursion}
use Rattle.std.specs.List.Sorted.{IsStrictlySortedBy}
use Rattle.std.specs.Map.{keys_of, lookup}
use Rattle.std.specs.Ordering.{match_ordering, ordering_reverse}
use Rattle.std.specs.BTreeMap.{insert_entry, is_at}
use Rattle.std.proofs.lemmas.Cmp.{nat_list_cmp_total}
use Rattle.std.proofs.lemmas.List.{append_assoc, append-nil}
use Rattle.serde_json.specs.Data.{Data, array, object, Members, no_members, member, put}
use Rattle.serde_json.specs.Find.{get_member}
use Rattle.serde_json.specs.Events.{items_len, members_len}
use Rattle.graph_json.specs.View.{Lent, lent_cmp, Entry, view, items_view, members_view, NamesRise, put_each}
use Rattle.graph_json.specs.declared.tree.Json.{Json, Array, Object, the_lemmas}

pub view-Array : (v : Vec Json Global) → view (Array v) ≡ array (items_view v.items)
view-Array v = search (rules, the_lemmas)

pub view-Object : (v : Vec Entry Global) → view (Object v) ≡ object (members_view v.items)
view-Object v = search (rules, the_lemmas)

pub items_len-items_view : (vs : List Json) → items_len (items_view vs) ≡ length vs
items_len-items_view [] = refl
items_len-items_view (v ∷ vs) = ap suc (items_len-items_view vs)

pub members_len-members_view : (es : List Entry) → members_len (members_view es) ≡ length es
members_len-members_view [] = refl
members_len-members_view (e ∷ es) = ap suc (members_len-members_view es)

pub view_of_ref : (r : Option (Bor Json)) → option_map (λ x. view x.now) r ≡ option_map view (option_map (λ x. x.now) r)
view_of_ref None = refl
view_of_ref (Some x) = refl

-- ---- entries in a map

module _ (k : Lent) (v : Json) (e : Entry) (es : List Entry) where
  at : (o : Ordering) → members_view (insert_entry lent_cmp es k v) ≡ put k.now (view v) (members_view es)
      → members_view (match_ordering o ((k, v) ∷ e ∷ es) ((e.0, v) ∷ es) (e ∷ insert_entry lent_cmp es k v))
      ≡ match_ordering o (member k.now (view v) (members_view (e ∷ es))) (member e.0.now (view v) (members_view es)) (member e.0.now (view e.1) (put k.now (view v) (members_view es)))
  at Less later = refl
  at Equal later = refl
  at Greater later = ap (member e.0.now (view e.1)) later

-- what is inserted in a map is put in the object
pub members_view-insert_entry : (es : List Entry) (k : Lent) (v : Json) → members_view (insert_entry lent_cmp es k v) ≡ put k.now (view v) (members_view es)
members_view-insert_entry [] k v = refl
members_view-insert_entry (e ∷ es) k v = at k v e es (lent_cmp k e.0) (members_view-insert_entry es k v)

-- ---- names that rise

below_middle : (first : Entry) (es : List Entry) (e : Entry) (more : List Entry) → AllByRecursion (λ y. lent_cmp first.0 y ≡ Less) (keys_of (es ++ e ∷ more)) → lent_cmp first.0 e.0 ≡ Less
below_middle first [] e more h = h.0
below_middle first (x ∷ es) e more h = below_middle first es e more h.1

-- a name above those before it goes last
put_last : (done : List Entry) (e : Entry) (more : List Entry) → NamesRise (done ++ e ∷ more) → put e.0.now (view e.1) (members_view done) ≡ members_view (done ++ e ∷ [])
unfolding IsStrictlySortedBy
put_last [] e more h = refl
put_last (first ∷ done) e more h =
    let above : slice_cmp nat_cmp e.0.now first.0.now ≡ Greater =
    nat_list_cmp_total.antisymm e.0.now first.0.now ∙ ap ordering_reverse (below_middle first done e more h.0) in
    rw above (ap (member first.0.now (view first.1)) (put_last done e more h.1))

put_rest : (done rest : List Entry) → NamesRise (done ++ rest) → put_each rest (members_view done) ≡ members_view (done ++ rest)
put_rest done [] h = ap members_view (sym (append-nil done))
put_rest done (e ∷ rest) h =
    let same : (done ++ e ∷ []) ++ rest ≡ done ++ e ∷ rest = append_assoc done (e ∷ []) rest in
    ap (put_each rest) (put_last done e rest h) ∙ put_rest (done ++ e ∷ []) rest (subst NamesRise (sym same) h) ∙ ap members_view same

-- entries whose names rise are the members as they stand
pub put_each-rising : (es : List Entry) → NamesRise es → put_each es no_members ≡ members_view es
put_each-rising es h = put_rest [] es h

-- ---- a look-up

found_or : (o : Ordering) (v : Json) (rest : Option Json) (d : Option Data) → option_map view rest ≡ d → option_map view (cond (is_eq o) (Some v) rest) ≡ match_ordering o d (Some (view v)) d
found_or Less v rest d e = e
found_or Equal v rest d e = refl
found_or Greater v rest d e = e

pub view-lookup : (name : Lent) (es : List Entry) → option_map view (lookup (is_at (lent_cmp name)) es) ≡ get_member name.now (members_view es)
view-lookup name [] = refl
view-lookup name (e ∷ es) = found_or (lent_cmp name e.0) e.1 _ _ (view-lookup name es)

-- one more entry
pub put_each-push : (es : List Entry) (e : Entry) (found : Members) → put_each (es ++ e ∷ []) found ≡ put e.0.now (view e.1) (put_each es found)
put_each-push [] e found = refl
put_each-push (x ∷ es) e found = put_each-push es e (put x.0.now (view x.1) found)
