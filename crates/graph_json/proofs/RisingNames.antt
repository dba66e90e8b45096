-- The values of members at their names, as a map holds them.
use Rattle.std.proofs.Common.{◌≡◌, ℕ, List, [], ◌∷◌, Bor, Ordering, Less, Equal, Greater, refl, ap}
use Rattle.std.specs.Ordering.{nat_cmp, match_ordering}
use Rattle.std.specs.BTreeMap.{insert_entry}
use Rattle.std.specs.Cmp.Lexicographic.{slice_cmp}
use Rattle.std.specs.List.{AllByRecursion}
use Rattle.std.specs.List.Sorted.{IsStrictlySortedBy}
use Rattle.std.specs.Map.{keys_of}
use Rattle.serde_json.specs.Data.{Data, member, put}
use Rattle.ice_types.specs.declared.kind.TypeRef.{TypeRef}
use Rattle.graph_arena.specs.View.{view}
use Rattle.graph_json.specs.CanonicalValues.{Write}
use Rattle.graph_json.specs.Printing.{row_noted}
use Rattle.graph_json.specs.declared.rows.Field.{Field}
use Rattle.graph_json.proofs.Printing.{IsBelow, AreRising}

-- a name that is lent
abbrev Lent : Type 0
Lent = Bor (List ℕ)

abbrev pub lent_cmp : Lent → Lent → Ordering
lent_cmp a b = slice_cmp nat_cmp a.now b.now

module _ (write : TypeRef → Write) where
  abbrev value : Field → Data
  value f = write f.kind (view f.value.now)

  put_at : (k : Lent) (v : Field) (e : Lent × Field) (es : List (Lent × Field)) (o : Ordering)
      → row_noted write (insert_entry lent_cmp es k v) ≡ put k.now (value v) (row_noted write es)
      → row_noted write (match_ordering o ((k, v) ∷ e ∷ es) ((e.0, v) ∷ es) (e ∷ insert_entry lent_cmp es k v))
      ≡ match_ordering o (member k.now (value v) (member e.0.now (value e.1) (row_noted write es))) (member e.0.now (value v) (row_noted write es))
      (member e.0.now (value e.1) (put k.now (value v) (row_noted write es)))
  put_at k v e es Less later = refl
  put_at k v e es Equal later = refl
  put_at k v e es Greater later = ap (member e.0.now (value e.1)) later

  -- what is inserted in the map is put in the object
  pub row_put : (k : Lent) (v : Field) (es : List (Lent × Field)) → row_noted write (insert_entry lent_cmp es k v) ≡ put k.now (value v) (row_noted write es)
  row_put k v [] = refl
  row_put k v (e ∷ es) = put_at k v e es (slice_cmp nat_cmp k.now e.0.now) (row_put k v es)

  below : (k : Lent) (es : List (Lent × Field)) → AllByRecursion (λ y. lent_cmp k y ≡ Less) (keys_of es) → IsBelow k.now (row_noted write es)
  below k [] h = tt
  below k (e ∷ es) h = (h.0, below k es h.1)

  -- the names of a map rise
  pub row_rising : (es : List (Lent × Field)) → IsStrictlySortedBy lent_cmp (keys_of es) → AreRising (row_noted write es)
  unfolding IsStrictlySortedBy
  row_rising [] h = tt
  row_rising (e ∷ es) h = (below e.0 es h.0, row_rising es h.1)
