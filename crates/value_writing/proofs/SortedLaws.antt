-- What is sorted has its dictionaries in rising key order, and what has them so is sorted already.
use Rattle.std.proofs.Common.{◌≡◌, Bool, true, false, ◌||◌, refl, sym, ap, subst, ◌∙◌}
use Rattle.ice_encoding.specs.Tree.{Tree, boolean, byte, short, int, long, text, sequence, dictionary, struct, enumerator, proxy, reference, Trees, none, tree, Entries, no_entry, entry, InEach, InPairs}
use Rattle.ice_encoding.specs.Order.{IsRising, KeysRise, IsOrdered, insert, has_key, AreBelow}
use Rattle.ice_encoding.proofs.Order.{less_then, is_new, has_none, insert_rising}
use Rattle.ice_encoding.proofs.Inserting.{insert_inside, join, join_none, join_join, insert_last, lacks_above}
use Rattle.value_writing.specs.Sorted.{sorted, sorted_each, sorted_onto, has_equal_keys, some_has_equal_keys}
use Rattle.value_writing.proofs.Sorting.{equal_onto, equal_is}

neither : (a b : Bool) → (a || b) ≡ false → (a ≡ false) × (b ≡ false)
neither true b e = absurd cc
neither false b e = (refl, e)

mutual
  pub sorted_is : (t : Tree) → has_equal_keys t ≡ false → IsOrdered (sorted t)
  sorted_is (boolean b) e = tt
  sorted_is (byte n) e = tt
  sorted_is (short z) e = tt
  sorted_is (int z) e = tt
  sorted_is (long z) e = tt
  sorted_is (text s) e = tt
  sorted_is (enumerator n) e = tt
  sorted_is (proxy p) e = tt
  sorted_is (reference n) e = tt
  sorted_is (sequence items) e = (tt, each_is items e)
  sorted_is (dictionary pairs) e = onto_is no_entry pairs tt tt (equal_is pairs ∙ e)
  sorted_is (struct members) e = (tt, each_is members e)

  each_is : (vs : Trees) → some_has_equal_keys vs ≡ false → InEach KeysRise (sorted_each vs)
  each_is none e = tt
  each_is (tree v vs) e = let h = neither (has_equal_keys v) (some_has_equal_keys vs) e in (sorted_is v h.0, each_is vs h.1)

  onto_is : (before ps : Entries) → IsRising before → InPairs KeysRise before → equal_onto before ps ≡ false → IsRising (sorted_onto before ps) × InPairs KeysRise (sorted_onto before ps)
  onto_is before no_entry r s e = (r, s)
  onto_is before (entry k v rest) r s e =
      let h = neither (has_key (sorted k) before) (has_equal_keys k || (has_equal_keys v || equal_onto (insert (sorted k) (sorted v) before) rest)) e in
      let f = neither (has_equal_keys k) (has_equal_keys v || equal_onto (insert (sorted k) (sorted v) before) rest) h.1 in
      let g = neither (has_equal_keys v) (equal_onto (insert (sorted k) (sorted v) before) rest) f.1 in
      onto_is (insert (sorted k) (sorted v) before) rest (insert_rising (sorted k) (sorted v) before (is_new (sorted k) before h.0) r)
      (insert_inside KeysRise (sorted k) (sorted v) before (sorted_is k f.0) (sorted_is v g.0) s) g.1

-- ---- what stands in order stays as it is

all_below : (k v : Tree) (before rest : Entries) → IsRising (join before (entry k v rest)) → AreBelow before k
all_below k v no_entry rest h = tt
all_below k v (entry l w no_entry) rest h = (h.0, tt)
all_below k v (entry l w (entry m x more)) rest h =
    let later : AreBelow (entry m x more) k = all_below k v (entry m x more) rest h.1 in
    (less_then l m k h.0 later.0, later)

put_last : (j k v w : Tree) (before rest : Entries) → IsRising (join before (entry k v rest)) → j ≡ k → w ≡ v → insert j w before ≡ join before (entry k v no_entry)
put_last j k v w before rest r key same = rw (key, same) (insert_last k v before (all_below k v before rest r))

mutual
  pub stays : (t : Tree) → IsOrdered t → sorted t ≡ t
  stays (boolean b) h = refl
  stays (byte n) h = refl
  stays (short z) h = refl
  stays (int z) h = refl
  stays (long z) h = refl
  stays (text s) h = refl
  stays (enumerator n) h = refl
  stays (proxy p) h = refl
  stays (reference n) h = refl
  stays (sequence items) h = ap sequence (each_stays items h.1)
  stays (dictionary pairs) h = ap dictionary (onto_stays no_entry pairs h.0 h.1)
  stays (struct members) h = ap struct (each_stays members h.1)

  each_stays : (vs : Trees) → InEach KeysRise vs → sorted_each vs ≡ vs
  each_stays none h = refl
  each_stays (tree v vs) h = rw (stays v h.0, each_stays vs h.1) refl

  onto_stays : (before ps : Entries) → IsRising (join before ps) → InPairs KeysRise ps → sorted_onto before ps ≡ join before ps
  onto_stays before no_entry r s = sym (join_none before)
  onto_stays before (entry k v rest) r s =
      ap (λ (b : Entries). sorted_onto b rest) (put_last (sorted k) k v (sorted v) before rest r (stays k s.0) (stays v s.1))
      ∙ onto_stays (join before (entry k v no_entry)) rest (subst IsRising (sym (join_join before k v rest)) r) s.2 ∙ join_join before k v rest

mutual
  pub differ : (t : Tree) → IsOrdered t → has_equal_keys t ≡ false
  differ (boolean b) h = refl
  differ (byte n) h = refl
  differ (short z) h = refl
  differ (int z) h = refl
  differ (long z) h = refl
  differ (text s) h = refl
  differ (enumerator n) h = refl
  differ (proxy p) h = refl
  differ (reference n) h = refl
  differ (sequence items) h = each_differ items h.1
  differ (dictionary pairs) h = sym (equal_is pairs) ∙ onto_differ no_entry pairs h.0 h.1
  differ (struct members) h = each_differ members h.1

  each_differ : (vs : Trees) → InEach KeysRise vs → some_has_equal_keys vs ≡ false
  each_differ none h = refl
  each_differ (tree v vs) h = rw (differ v h.0) (each_differ vs h.1)

  onto_differ : (before ps : Entries) → IsRising (join before ps) → InPairs KeysRise ps → equal_onto before ps ≡ false
  onto_differ before no_entry r s = refl
  onto_differ before (entry k v rest) r s =
      let key = stays k s.0 in
      let put = put_last (sorted k) k v (sorted v) before rest r key (stays v s.1) in
      let none : has_key (sorted k) before ≡ false = rw key (has_none k before (lacks_above k before (all_below k v before rest r))) in
      rw (none, differ k s.0, differ v s.1, put)
      (onto_differ (join before (entry k v no_entry)) rest (subst IsRising (sym (join_join before k v rest)) r) s.2)
