-- What is written for a value of a type spells it, where each reference in it is written so.
use Rattle.std.proofs.Common.{ℕ, suc, zero, ◌≡◌, ◌≤◌, arith, List, [], ◌∷◌, map, replicate, refl, sym, subst, Option}
use Rattle.ice_types.specs.declared.kind.TypeRef.{TypeRef}
use Rattle.ice_types.specs.declared.kind.TypeRef.TheVariants as kinds
use Rattle.ice_types.specs.Tables.{Tables}
use Rattle.ice_encoding.specs.declared.limits.TheConstants.{LARGEST}
use Rattle.ice_encoding.proofs.Proxied.{proxy_lawful}
use Rattle.ice_encoding.proofs.Within.{proxy_grown}
use Rattle.ice_prims.proofs.Spelled.{bool_exact, short_exact, int_exact, long_exact, size_exact, text_exact}
use Rattle.ice_encoding.specs.Tree.{Tree, boolean, byte, short, int, long, text, sequence, dictionary, struct, enumerator, proxy, reference, Trees, none, tree, tree_count, Entries, no_entry, entry, entry_count}
use Rattle.ice_encoding.specs.Order.{IsRising, insert, AreBelow}
use Rattle.ice_encoding.specs.Port.{Port, Speller, size_of, by_number}
use Rattle.ice_encoding.specs.Spelling.{Each, Pairs, SpellsValue}
use Rattle.ice_encoding.specs.Typed.{AllOf, EachOf, PairsOf, Refers, no_reference, HasType, sized_to}
use Rattle.ice_encoding.specs.Writing.{Writer, written, written_each, written_pairs, as_number}
use Rattle.ice_encoding.proofs.Order.{tail_rising}
use Rattle.ice_encoding.proofs.Inserting.{AllPairs, join, join_none, join_join, insert_last, lacks_above, below_next}

-- what is written for it spells it, from every state, where spelling sees the states of writing so
abbrev IsWritten : {W S A : Type 0} → (W → S) → Writer W A → Speller S A → A → Type 0
IsWritten {W} {S} {A} seen write Spells x = (s : W) → Spells (write x s).0 x (seen s) (seen (write x s).1)

-- the first key is above those before
abbrev pub Follows : Entries → Entries → Type 0
Follows before no_entry = Unit {0}
Follows before (entry k v rest) = AreBelow before k

next_follows : (before : Entries) (k v : Tree) (rest : Entries) → AreBelow before k → IsRising (entry k v rest) → Follows (join before (entry k v no_entry)) rest
next_follows before k v no_entry below h = tt
next_follows before k v (entry l w others) below h = below_next before k l v below h.0

pub nothing_before : (pairs : Entries) → Follows no_entry pairs
nothing_before no_entry = tt
nothing_before (entry k v rest) = tt

module _ {S W : Type 0} (refer : Writer W (Option ℕ)) (seen : W → S) where
  abbrev Written : Speller S Tree → Tree → Type 0
  Written Spells v = IsWritten seen (written refer) Spells v

  all_written : (One : Tree → Type 0) (kind : TypeRef) (Spells : TypeRef → Speller S Tree) → ((v : Tree) → One v → Written (Spells kind) v)
      → (vs : Trees) → AllOf One vs → IsWritten seen (written_each refer) (Each Spells (replicate (tree_count vs) kind)) vs
  all_written One kind Spells one none h s = (refl, refl, refl)
  all_written One kind Spells one (tree v vs) h s =
      let first = written refer v s in
      (v, vs, first.0, (written_each refer vs first.1).0, seen first.1, refl, refl, one v h.0 s, all_written One kind Spells one vs h.1 first.1)

  each_written : (One : TypeRef → Tree → Type 0) (Spells : TypeRef → Speller S Tree) → ((kind : TypeRef) (v : Tree) → One kind v → Written (Spells kind) v)
      → (ks : List TypeRef) (vs : Trees) → EachOf One ks vs → IsWritten seen (written_each refer) (Each Spells ks) vs
  each_written One Spells one [] vs h = subst (IsWritten seen (written_each refer) (Each Spells [])) (sym h) (λ s. (refl, refl, refl))
  each_written One Spells one (kind ∷ ks) vs (v, others, is, h, more) =
      subst (IsWritten seen (written_each refer) (Each Spells (kind ∷ ks))) (sym is) (λ s.
      let first = written refer v s in
      (v, others, first.0, (written_each refer others first.1).0, seen first.1, refl, refl, one kind v h s, each_written One Spells one ks others more first.1))

  abbrev pub WrittenPair : Speller S Tree → Speller S Tree → Tree → Tree → Type 0
  WrittenPair Key Held k v = Written Key k × Written Held v

  -- pairs in rising order are put one after the other
  pub pairs_written : (Key Held : Speller S Tree) (before rest : Entries) → Follows before rest → IsRising rest → AllPairs (WrittenPair Key Held) rest
      → (s : W) → Pairs Key Held (entry_count rest) before (written_pairs refer rest s).0 (join before rest) (seen s) (seen (written_pairs refer rest s).1)
  pairs_written Key Held before no_entry follows rising all s = (refl, join_none before, refl)
  pairs_written Key Held before (entry k v rest) follows rising all s =
      let key = written refer k s in
      let held = written refer v key.1 in
      let last = written_pairs refer rest held.1 in
      let placed = join before (entry k v no_entry) in
      let others = pairs_written Key Held placed rest (next_follows before k v rest follows rising) (tail_rising k v rest rising) all.1 held.1 in
      let joined : Pairs Key Held (entry_count rest) placed last.0 (join before (entry k v rest)) (seen held.1) (seen last.1)
      = subst (λ (ps : Entries). Pairs Key Held (entry_count rest) placed last.0 ps (seen held.1) (seen last.1)) (join_join before k v rest) others in
      let put : Pairs Key Held (entry_count rest) (insert k v before) last.0 (join before (entry k v rest)) (seen held.1) (seen last.1)
      = subst (λ (ps : Entries). Pairs Key Held (entry_count rest) ps last.0 (join before (entry k v rest)) (seen held.1) (seen last.1)) (sym (insert_last k v before follows)) joined in
      (k, v, key.0, held.0, last.0, seen key.1, seen held.1, refl, all.0.0 s, lacks_above k before follows, all.0.1 key.1, put)

  all_pairs : (Key Held : Speller S Tree) (IsKey IsHeld : Tree → Type 0) → ((v : Tree) → IsKey v → Written Key v) → ((v : Tree) → IsHeld v → Written Held v)
      → (ps : Entries) → PairsOf IsKey IsHeld ps → AllPairs (WrittenPair Key Held) ps
  all_pairs Key Held IsKey IsHeld key held no_entry h = tt
  all_pairs Key Held IsKey IsHeld key held (entry k v rest) h = ((key k h.0, held v h.1), all_pairs Key Held IsKey IsHeld key held rest h.2)

module _ {R S W : Type 0} (port : Port R S) (t : Tables) (refer : Writer W (Option ℕ)) (seen : W → S) where
  abbrev Value : ℕ → TypeRef → Tree → Type 0
  Value levels kind v = IsWritten seen (written refer) (SpellsValue port t levels kind) v

  -- each reference that may stand is written so that it is spelled
  abbrev pub AreWritten : Refers → Type 0
  AreWritten Refer = (Refer.most ≤ LARGEST) × ((declared n : Option ℕ) → Refer.Held declared n → IsWritten seen refer (port.Spells declared) n)

  never : AreWritten no_reference
  never = (omega arith, λ declared n h. absurd h)

  -- by the value that it is
  as_it_is : (levels : ℕ) (kind : TypeRef) (v w : Tree) → v ≡ w → Value levels kind w → Value levels kind v
  as_it_is levels kind v w e h = subst (Value levels kind) (sym e) h

  pub value_written : (Refer : Refers) → AreWritten Refer → (levels : ℕ) (kind : TypeRef) (v : Tree) → HasType t Refer levels kind v → Value levels kind v
  value_written Refer good zero kind v h = absurd h
  value_written Refer good (suc levels) kinds.Bool v (b, is) = as_it_is (suc levels) kinds.Bool v (boolean b) is (λ s. (b, refl, (bool_exact.put b tt, refl)))
  value_written Refer good (suc levels) kinds.Byte v (n, lt, is) = as_it_is (suc levels) kinds.Byte v (byte n) is (λ s. (n, refl, ((lt, refl), refl)))
  value_written Refer good (suc levels) kinds.Short v (z, fits, is) = as_it_is (suc levels) kinds.Short v (short z) is (λ s. (z, refl, (short_exact.put z fits, refl)))
  value_written Refer good (suc levels) kinds.Int v (z, fits, is) = as_it_is (suc levels) kinds.Int v (int z) is (λ s. (z, refl, (int_exact.put z fits, refl)))
  value_written Refer good (suc levels) kinds.Long v (z, fits, is) = as_it_is (suc levels) kinds.Long v (long z) is (λ s. (z, refl, (long_exact.put z fits, refl)))
  value_written Refer good (suc levels) kinds.Text v (x, utf8, lt, is) = as_it_is (suc levels) kinds.Text v (text x) is (λ s. (x, refl, (text_exact.put x (utf8, lt), refl)))
  value_written Refer good (suc levels) (kinds.Enum at) v (e, row, n, has, lt, is) = as_it_is (suc levels) (kinds.Enum at) v (enumerator n) is (λ s. (e, row, (n, refl, ((size_exact.put n lt, has), refl))))
  value_written Refer good (suc levels) (kinds.Proxy at) v (p, there, is) = as_it_is (suc levels) (kinds.Proxy at) v (proxy p) is (λ s. (p, refl, (proxy_lawful.put p (proxy_grown Refer.most LARGEST good.0 p there), refl)))
  value_written Refer good (suc levels) (kinds.Class declared) v (n, refers, is) = as_it_is (suc levels) (kinds.Class declared) v (reference n) is (λ s. (n, refl, good.1 declared n refers s))
  value_written Refer good (suc levels) (kinds.Seq at) v (q, row, items, is, many, all) =
      let each = all_written refer seen (HasType t Refer levels q.element) q.element (SpellsValue port t levels) (value_written Refer good levels q.element) items all in
      as_it_is (suc levels) (kinds.Seq at) v (sequence items) is (λ s. (q, row, (items, refl, (tree_count items, _, _, refl, size_exact.put (tree_count items) many, each s))))
  value_written Refer good (suc levels) (kinds.Dict at) v (d, row, pairs, is, many, rising, all) =
      let Key = SpellsValue port t levels d.key in
      let Held = SpellsValue port t levels d.value in
      let each = all_pairs refer seen Key Held (HasType t no_reference levels d.key) (HasType t Refer levels d.value) (value_written no_reference never levels d.key) (value_written Refer good levels d.value) pairs all in
      as_it_is (suc levels) (kinds.Dict at) v (dictionary pairs) is
      (λ s. (d, row, (pairs, refl, (entry_count pairs, _, _, refl, size_exact.put (entry_count pairs) many, pairs_written refer seen Key Held no_entry pairs (nothing_before pairs) rising each s))))
  value_written Refer good (suc levels) (kinds.Struct at) v (d, row, members, is, all) =
      let each = each_written refer seen (HasType t Refer levels) (SpellsValue port t levels) (value_written Refer good levels) (map (λ m. m.kind) d.members) members all in
      as_it_is (suc levels) (kinds.Struct at) v (struct members) is (λ s. (d, row, (members, refl, each s)))

-- ---- a value by itself

pub number_written : (t : Tables) → AreWritten by_number t as_number (λ u. u) (sized_to LARGEST)
number_written t = (omega arith, λ declared n lt s. (size_exact.put (size_of n) lt, refl))
