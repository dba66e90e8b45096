-- What putting a pair at its place keeps.
use Rattle.std.proofs.Common.{◌≡◌, suc, Bool, true, false, cond, refl, sym, ap, subst}
use Rattle.std.specs.Ordering.{is_lt}
use Rattle.std.specs.declared.cmp.Ordering.TheVariants.{Less}
use Rattle.ice_encoding.specs.Tree.{Tree, Entries, no_entry, entry, entry_count, Everywhere, InPairs}
use Rattle.ice_encoding.specs.Order.{tree_cmp, AreBelow, insert, LacksKey}
use Rattle.ice_encoding.proofs.Order.{turns, less_then}

pub by_test : (b : Bool) (P : Entries → Type 0) (x y : Entries) → P x → P y → P (cond b x y)
by_test true P x y p q = p
by_test false P x y p q = q

-- what holds of each pair
abbrev pub AllPairs : (Tree → Tree → Type 0) → Entries → Type 0
AllPairs P no_entry = Unit {0}
AllPairs P (entry k v rest) = P k v × AllPairs P rest

pub insert_all : (P : Tree → Tree → Type 0) (k v : Tree) (ps : Entries) → P k v → AllPairs P ps → AllPairs P (insert k v ps)
insert_all P k v no_entry p h = (p, tt)
insert_all P k v (entry l w rest) p h =
    by_test (is_lt (tree_cmp k l)) (AllPairs P) (entry k v (entry l w rest)) (entry l w (insert k v rest)) (p, h) (h.0, insert_all P k v rest p h.1)

pub insert_inside : (P : Tree → Type 0) (k v : Tree) (ps : Entries) → Everywhere P k → Everywhere P v → InPairs P ps → InPairs P (insert k v ps)
insert_inside P k v no_entry p q h = (p, q, tt)
insert_inside P k v (entry l w rest) p q h =
    by_test (is_lt (tree_cmp k l)) (InPairs P) (entry k v (entry l w rest)) (entry l w (insert k v rest)) (p, q, h) (h.0, h.1, insert_inside P k v rest p q h.2)

pub insert_count : (k v : Tree) (ps : Entries) → entry_count (insert k v ps) ≡ suc (entry_count ps)
insert_count k v no_entry = refl
insert_count k v (entry l w rest) =
    by_test (is_lt (tree_cmp k l)) (λ ps. entry_count ps ≡ suc (suc (entry_count rest))) (entry k v (entry l w rest)) (entry l w (insert k v rest)) refl (ap suc (insert_count k v rest))

-- ---- pairs in rising order are put one after the other

abbrev pub join : Entries → Entries → Entries
join no_entry others = others
join (entry k v rest) others = entry k v (join rest others)

-- each key is below this one

not_lt : (k l : Tree) → tree_cmp l k ≡ Less → is_lt (tree_cmp k l) ≡ false
not_lt k l lt = rw (turns k l, lt) refl

pub insert_last : (k v : Tree) (ps : Entries) → AreBelow ps k → insert k v ps ≡ join ps (entry k v no_entry)
insert_last k v no_entry h = refl
insert_last k v (entry l w rest) h = rw (not_lt k l h.0) (ap (entry l w) (insert_last k v rest h.1))

pub lacks_above : (k : Tree) (ps : Entries) → AreBelow ps k → LacksKey k ps
lacks_above k no_entry h = tt
lacks_above k (entry l w rest) h = (λ same. differ (subst (λ (z : Tree). tree_cmp z k ≡ Less) (sym same) h.0), lacks_above k rest h.1)
  where
    differ : tree_cmp k k ≡ Less → ⊥
    differ lt = let other = turns k k in absurd cc

pub join_join : (ps : Entries) (k v : Tree) (others : Entries) → join (join ps (entry k v no_entry)) others ≡ join ps (entry k v others)
join_join no_entry k v others = refl
join_join (entry l w rest) k v others = ap (entry l w) (join_join rest k v others)

pub join_none : (ps : Entries) → join ps no_entry ≡ ps
join_none no_entry = refl
join_none (entry k v rest) = ap (entry k v) (join_none rest)

pub below_next : (ps : Entries) (k l v : Tree) → AreBelow ps k → tree_cmp k l ≡ Less → AreBelow (join ps (entry k v no_entry)) l
below_next no_entry k l v h lt = (lt, tt)
below_next (entry m x rest) k l v h lt = (less_then m k l h.0 lt, below_next rest k l v h.1 lt)
