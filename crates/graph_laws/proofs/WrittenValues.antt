-- What is written for values and members spells them, under whatever rules of what goes well.
use Rattle.std.proofs.Common.{◌≤◌, ◌⊎◌, inl, inr, arith, ℕ, pos, zero, suc, ◌<◌, ◌^◌, ◌≡◌, List, [], ◌∷◌, ◌++◌, length, map, replicate, refl, sym, ap, ◌∙◌, subst, Option}
use Rattle.std.specs.Int.{w16, w32, w64}
use Rattle.std.proofs.lemmas.Int.{fits_signed_from_abs}
use Rattle.ice_types.specs.declared.kind.TypeRef.{TypeRef}
use Rattle.ice_types.specs.declared.kind.TypeRef.TheVariants as kinds
use Rattle.ice_types.specs.Tables.{Tables}
use Rattle.ice_prims.specs.Rest.{IsBytes}
use Rattle.ice_prims.specs.Number.{SpellsBool, SpellsByte, SpellsSigned, SpellsSize, SpellsText}
use Rattle.ice_prims.specs.Bytes.{bool_bytes, signed_bytes, size_bytes, text_bytes}
use Rattle.ice_prims.proofs.Spelled.{bool_exact, short_exact, int_exact, long_exact, size_exact, text_exact}
use Rattle.ice_encoding.specs.Parts.{Part}
use Rattle.ice_encoding.specs.Proxy as parts
use Rattle.ice_encoding.specs.Skipping.{count}
use Rattle.ice_encoding.proofs.Passed.{count_lawful}
use Rattle.ice_types.specs.declared.proxy.Proxy.{Proxy}
use Rattle.ice_encoding.specs.declared.limits.TheConstants.{GREATEST, LARGEST}
use Rattle.ice_encoding.proofs.Proxied.{proxy_lawful}
use Rattle.ice_encoding.proofs.Within.{proxy_small}
use Rattle.ice_encoding.specs.Enum.{SpellsEnumerator}
use Rattle.ice_encoding.specs.Tree.{Tree, boolean, byte, short, int, long, text, sequence, dictionary, struct, enumerator, proxy, reference, Trees, none, tree, tree_count, Entries, no_entry, entry, entry_count}
use Rattle.ice_encoding.specs.Order.{IsRising, insert, AreBelow}
use Rattle.ice_encoding.specs.Port.{Port, Speller}
use Rattle.ice_encoding.specs.Spelling.{Plain, Made, Each, Pairs, SpellsValue}
use Rattle.ice_encoding.specs.Typed.{AllOf, EachOf, PairsOf, Refers, no_reference, HasType}
use Rattle.ice_encoding.specs.Writing.{Piece, exactly, ◌>>◌, written, written_each, written_pairs}
use Rattle.ice_encoding.proofs.Order.{tail_rising}
use Rattle.ice_encoding.proofs.Inserting.{join, join_none, join_join, insert_last, lacks_above, below_next}
use Rattle.ice_encoding.proofs.Written.{Follows, nothing_before}
use Rattle.ice_encoding.specs.Names.{listed_name, names, names_each, names_pairs}
use Rattle.ice_encoding.specs.Members.{with_length}
use Rattle.graph_laws.proofs.PutBytes.{none_bytes, more_bytes, signed_put, bool_put, size_put, text_put, proxy_put}

pub size_spelled : (n : ℕ) → n < 2 ^ 31 → SpellsSize (size_bytes n) n
size_spelled n lt = size_exact.put n lt

pub count_spelled : (n : ℕ) → n < 2 ^ 31 → count.Spells (count.put n) n
count_spelled n lt = count_lawful.put n ((fits_signed_from_abs w32 (pos n) lt, refl), refl)

-- ---- what goes well

abbrev pub Relation : Type 0 → Type 1
Relation S = List ℕ → S → S → Type 0

abbrev pub Chain : {S : Type 0} → Relation S → Relation S → Relation S
Chain {S} R R' bytes from to = (a b : List ℕ) × (mid : S) × (bytes ≡ a ++ b) × R a from mid × R' b mid to

-- a number, and as many bytes as it says
abbrev pub Behind : {S : Type 0} → Part ℕ → Relation S → Relation S
Behind number R bytes from to = (front body : List ℕ) × (bytes ≡ front ++ body) × number.Spells front (length body) × R body from to

-- The greatest size of an endpoint, and that of all that is written: one of them is no greater than what can be read.
pub record Limits : Type 0 where
  pub most : ℕ
  pub bound : ℕ
  pub bounded : bound < 2 ^ 31
  pub fit : (most ≤ LARGEST) ⊎ (bound ≤ LARGEST)

-- of what can be written, where it is no longer than what can be read
abbrev pub written_limits : Limits
written_limits = record { most = GREATEST; bound = LARGEST; bounded = omega arith; fit = inr (omega arith) }

-- of what can be read, however long it is
abbrev pub read_limits : Limits
read_limits = record { most = LARGEST; bound = GREATEST; bounded = omega arith; fit = inl (omega arith) }

-- pieces that write what spells something and name these instances, and how they are joined
pub record Rules (P S : Type 0) (l : Limits) : Type 1 where
  pub Good : Piece P → List ℕ → Relation S → Type 0
  pub exact : (bytes : List ℕ) (R : Relation S) → IsBytes bytes → (length bytes ≤ l.bound → (s : S) → R bytes s s) → Good (exactly bytes) [] R
  pub joined : (w w' : Piece P) (a b : List ℕ) (R R' : Relation S) → Good w a R → Good w' b R' → Good (w >> w') (a ++ b) (Chain R R')
  pub mapped : (w : Piece P) (ns : List ℕ) (R R' : Relation S) → ((bytes : List ℕ) (from to : S) → R bytes from to → R' bytes from to) → Good w ns R → Good w ns R'
  pub behind : (number : Part ℕ) → ((n : ℕ) → n < 2 ^ 31 → number.Spells (number.put n) n) → ((n : ℕ) → IsBytes (number.put n)) → (w : Piece P) (ns : List ℕ) (R : Relation S) → Good w ns R → Good (with_length number w) ns (Behind number R)

-- ---- keys name nothing

all_nameless : (One : Tree → Type 0) → ((v : Tree) → One v → names v ≡ []) → (vs : Trees) → AllOf One vs → names_each vs ≡ []
all_nameless One one none h = refl
all_nameless One one (tree v vs) h = ap (λ (l : List ℕ). l ++ names_each vs) (one v h.0) ∙ all_nameless One one vs h.1

each_nameless : (One : TypeRef → Tree → Type 0) → ((kind : TypeRef) (v : Tree) → One kind v → names v ≡ []) → (ks : List TypeRef) (vs : Trees) → EachOf One ks vs → names_each vs ≡ []
each_nameless One one [] vs h = ap names_each h
each_nameless One one (kind ∷ ks) vs h = ap names_each h.2 ∙ ap (λ (l : List ℕ). l ++ names_each h.1) (one kind h.0 h.3) ∙ each_nameless One one ks h.1 h.4

pairs_nameless : (Key Held : Tree → Type 0) → ((v : Tree) → Held v → names v ≡ []) → (ps : Entries) → PairsOf Key Held ps → names_pairs ps ≡ []
pairs_nameless Key Held one no_entry h = refl
pairs_nameless Key Held one (entry k v ps) h = ap (λ (l : List ℕ). l ++ names_pairs ps) (one v h.1) ∙ pairs_nameless Key Held one ps h.2

nameless : (t : Tables) (levels : ℕ) (kind : TypeRef) (v : Tree) → HasType t no_reference levels kind v → names v ≡ []
nameless t zero kind v h = absurd h
nameless t (suc levels) kinds.Bool v h = ap names h.1
nameless t (suc levels) kinds.Byte v h = ap names h.2
nameless t (suc levels) kinds.Short v h = ap names h.2
nameless t (suc levels) kinds.Int v h = ap names h.2
nameless t (suc levels) kinds.Long v h = ap names h.2
nameless t (suc levels) kinds.Text v h = ap names h.3
nameless t (suc levels) (kinds.Enum at) v h = ap names h.5
nameless t (suc levels) (kinds.Proxy at) v h = ap names h.2
nameless t (suc levels) (kinds.Class declared) v h = absurd h.1
nameless t (suc levels) (kinds.Seq at) v (q, row, items, is, many, all) = ap names is ∙ all_nameless (HasType t no_reference levels q.element) (nameless t levels q.element) items all
nameless t (suc levels) (kinds.Dict at) v (d, row, pairs, is, many, rising, all) = ap names is ∙ pairs_nameless (HasType t no_reference levels d.key) (HasType t no_reference levels d.value) (nameless t levels d.value) pairs all
nameless t (suc levels) (kinds.Struct at) v (d, row, members, is, all) = ap names is ∙ each_nameless (HasType t no_reference levels) (nameless t levels) (map (λ m. m.kind) d.members) members all

next_follows : (before : Entries) (k v : Tree) (rest : Entries) → AreBelow before k → IsRising (entry k v rest) → Follows (join before (entry k v no_entry)) rest
next_follows before k v no_entry below h = tt
next_follows before k v (entry l w others) below h = below_next before k l v below h.0

module _ {P R S : Type 0} {l : Limits} (rules : Rules P S l) (t : Tables) (port : Port R S) (refer : Option ℕ → Piece P) where
  abbrev Good : Piece P → List ℕ → Relation S → Type 0
  Good = rules.Good

  abbrev Spelled : ℕ → TypeRef → Tree → Relation S
  Spelled levels kind v bytes from to = SpellsValue port t levels kind bytes v from to

  -- something that changes no state, under a constructor
  exactly_small : {A : Type 0} (make : A → Tree) (Spells : List ℕ → A → Type 0) (x : A) (bytes : List ℕ) → IsBytes bytes → (length bytes ≤ l.bound → Spells bytes x) → Good (exactly bytes) [] (λ b from to. Made make (Plain Spells) b (make x) from to)
  exactly_small make Spells x bytes fits h = rules.exact bytes (λ b from to. Made make (Plain Spells) b (make x) from to) fits (λ small s. (x, refl, (h small, refl)))

  exactly_good : {A : Type 0} (make : A → Tree) (Spells : List ℕ → A → Type 0) (x : A) (bytes : List ℕ) → IsBytes bytes → Spells bytes x → Good (exactly bytes) [] (λ b from to. Made make (Plain Spells) b (make x) from to)
  exactly_good make Spells x bytes fits h = exactly_small make Spells x bytes fits (λ small. h)

  -- a proxy that can be read again
  proxy_again : (most : ℕ) → (most ≤ LARGEST) ⊎ (l.bound ≤ LARGEST) → (p : Option Proxy) → (parts.proxy_to most).Is p → length (parts.proxy.put p) ≤ l.bound → parts.proxy.Is p
  proxy_again most (inl le) p is small = proxy_small most LARGEST p is (inl le)
  proxy_again most (inr le) p is small = proxy_small most LARGEST p is (inr (omega (arith, le, small)))

  -- a size, and then so many
  counted_good : (n : ℕ) (w : Piece P) (ns : List ℕ) (Inner : Relation S) → n < 2 ^ 31 → Good w ns Inner → Good (exactly (size_bytes n) >> w) ns (λ b from to. (front body : List ℕ) × (b ≡ front ++ body) × SpellsSize front n × Inner body from to)
  counted_good n w ns Inner lt good =
      let Size : Relation S = λ b from to. SpellsSize b n × (to ≡ from) in
      rules.mapped (exactly (size_bytes n) >> w) ns (Chain Size Inner) (λ b from to. (front body : List ℕ) × (b ≡ front ++ body) × SpellsSize front n × Inner body from to)
      (λ b from to z. (z.0, z.1, z.3, z.4.0, subst (λ (s : S). Inner z.1 s to) z.4.1 z.5))
      (rules.joined (exactly (size_bytes n)) w [] ns Size Inner (rules.exact (size_bytes n) Size (size_put n) (λ small s. (size_spelled n lt, refl))) good)

  all_good : (One : Tree → Type 0) (kind : TypeRef) (Spells : TypeRef → Speller S Tree) → ((v : Tree) → One v → Good (written refer v) (names v) (λ b from to. Spells kind b v from to))
      → (vs : Trees) → AllOf One vs → Good (written_each refer vs) (names_each vs) (λ b from to. Each Spells (replicate (tree_count vs) kind) b vs from to)
  all_good One kind Spells one none h = rules.exact [] (λ b from to. Each Spells [] b none from to) none_bytes (λ small s. (refl, refl, refl))
  all_good One kind Spells one (tree v vs) h =
      rules.mapped (written refer v >> written_each refer vs) (names v ++ names_each vs) (Chain (λ b from to. Spells kind b v from to) (λ b from to. Each Spells (replicate (tree_count vs) kind) b vs from to)) (λ b from to. Each Spells (kind ∷ replicate (tree_count vs) kind) b (tree v vs) from to)
      (λ b from to z. (v, vs, z.0, z.1, z.2, refl, z.3, z.4, z.5))
      (rules.joined (written refer v) (written_each refer vs) (names v) (names_each vs) _ _ (one v h.0) (all_good One kind Spells one vs h.1))

  pub each_good : (One : TypeRef → Tree → Type 0) (Spells : TypeRef → Speller S Tree) → ((kind : TypeRef) (v : Tree) → One kind v → Good (written refer v) (names v) (λ b from to. Spells kind b v from to))
      → (ks : List TypeRef) (vs : Trees) → EachOf One ks vs → Good (written_each refer vs) (names_each vs) (λ b from to. Each Spells ks b vs from to)
  each_good One Spells one [] vs h =
      subst (λ (ws : Trees). Good (written_each refer ws) (names_each ws) (λ b from to. Each Spells [] b ws from to)) (sym h) (rules.exact [] (λ b from to. Each Spells [] b none from to) none_bytes (λ small s. (refl, refl, refl)))
  each_good One Spells one (kind ∷ ks) vs (v, others, is, h, more) =
      subst (λ (ws : Trees). Good (written_each refer ws) (names_each ws) (λ b from to. Each Spells (kind ∷ ks) b ws from to)) (sym is)
      (rules.mapped (written refer v >> written_each refer others) (names v ++ names_each others) (Chain (λ b from to. Spells kind b v from to) (λ b from to. Each Spells ks b others from to)) (λ b from to. Each Spells (kind ∷ ks) b (tree v others) from to)
      (λ b from to z. (v, others, z.0, z.1, z.2, refl, z.3, z.4, z.5))
      (rules.joined (written refer v) (written_each refer others) (names v) (names_each others) _ _ (one kind v h) (each_good One Spells one ks others more)))

  pairs_good : (Key Held : Tree → Type 0) (SpellsKey SpellsHeld : Speller S Tree) → ((v : Tree) → Key v → Good (written refer v) [] (λ b from to. SpellsKey b v from to)) → ((v : Tree) → Held v → Good (written refer v) (names v) (λ b from to. SpellsHeld b v from to))
      → (ready rest : Entries) → Follows ready rest → IsRising rest → PairsOf Key Held rest → Good (written_pairs refer rest) (names_pairs rest) (λ b from to. Pairs SpellsKey SpellsHeld (entry_count rest) ready b (join ready rest) from to)
  pairs_good Key Held SpellsKey SpellsHeld key held ready no_entry follows rising h =
      rules.exact [] (λ b from to. Pairs SpellsKey SpellsHeld 0 ready b (join ready no_entry) from to) none_bytes (λ small s. (refl, join_none ready, refl))
  pairs_good Key Held SpellsKey SpellsHeld key held ready (entry k v rest) follows rising h =
      let placed : Entries = join ready (entry k v no_entry) in
      let put : insert k v ready ≡ placed = insert_last k v ready follows in
      let Rest : Relation S = λ b from to. Pairs SpellsKey SpellsHeld (entry_count rest) placed b (join placed rest) from to in
      rules.mapped (written refer k >> (written refer v >> written_pairs refer rest)) (names v ++ names_pairs rest) (Chain (λ b from to. SpellsKey b k from to) (Chain (λ b from to. SpellsHeld b v from to) Rest))
      (λ b from to. Pairs SpellsKey SpellsHeld (suc (entry_count rest)) ready b (join ready (entry k v rest)) from to)
      (λ b from to z.
      let more : Pairs SpellsKey SpellsHeld (entry_count rest) (insert k v ready) z.5.1 (join ready (entry k v rest)) z.5.2 to =
      subst (λ (ps : Entries). Pairs SpellsKey SpellsHeld (entry_count rest) ps z.5.1 (join ready (entry k v rest)) z.5.2 to) (sym put) (subst (λ (ps : Entries). Pairs SpellsKey SpellsHeld (entry_count rest) placed z.5.1 ps z.5.2 to) (join_join ready k v rest) z.5.5) in
      (k, v, z.0, z.5.0, z.5.1, z.2, z.5.2, z.3 ∙ ap (λ (l : List ℕ). z.0 ++ l) z.5.3, z.4, lacks_above k ready follows, z.5.4, more))
      (rules.joined (written refer k) (written refer v >> written_pairs refer rest) [] (names v ++ names_pairs rest) (λ b from to. SpellsKey b k from to) (Chain (λ b from to. SpellsHeld b v from to) Rest) (key k h.0)
      (rules.joined (written refer v) (written_pairs refer rest) (names v) (names_pairs rest) (λ b from to. SpellsHeld b v from to) Rest (held v h.1)
      (pairs_good Key Held SpellsKey SpellsHeld key held placed rest (next_follows ready k v rest follows rising) (tail_rising k v rest rising) h.2)))

  abbrev pub ReferGood : Refers → Type 0
  ReferGood Refer = ((Refer.most ≤ LARGEST) ⊎ (l.bound ≤ LARGEST)) × ((declared n : Option ℕ) → Refer.Held declared n → Good (refer n) (listed_name n) (λ b from to. port.Spells declared b n from to))

  never : ReferGood no_reference
  never = (inl (omega arith), λ declared n h. absurd h)

  ValueGood : Refers → ℕ → Type 0
  ValueGood Refer levels = (kind : TypeRef) (v : Tree) → HasType t Refer levels kind v → Good (written refer v) (names v) (Spelled levels kind v)

  -- by the value that it is
  as_it_is : (levels : ℕ) (kind : TypeRef) (v w : Tree) → v ≡ w → Good (written refer w) (names w) (Spelled levels kind w) → Good (written refer v) (names v) (Spelled levels kind v)
  as_it_is levels kind v w e h = subst (λ (u : Tree). Good (written refer u) (names u) (Spelled levels kind u)) (sym e) h

  pub value_good : (Refer : Refers) → ReferGood Refer → (levels : ℕ) (kind : TypeRef) (v : Tree) → HasType t Refer levels kind v → Good (written refer v) (names v) (Spelled levels kind v)
  value_good Refer good zero kind v h = absurd h
  value_good Refer good (suc levels) kinds.Bool v (x, is) = as_it_is (suc levels) kinds.Bool v (boolean x) is (exactly_good boolean SpellsBool x (bool_bytes x) (bool_put x) (bool_exact.put x tt))
  value_good Refer good (suc levels) kinds.Byte v (x, lt, is) = as_it_is (suc levels) kinds.Byte v (byte x) is (exactly_good byte SpellsByte x (x ∷ []) (more_bytes x [] lt none_bytes) (lt, refl))
  value_good Refer good (suc levels) kinds.Short v (x, fits, is) = as_it_is (suc levels) kinds.Short v (short x) is (exactly_good short (SpellsSigned w16) x (signed_bytes w16 x) (signed_put w16 x) (short_exact.put x fits))
  value_good Refer good (suc levels) kinds.Int v (x, fits, is) = as_it_is (suc levels) kinds.Int v (int x) is (exactly_good int (SpellsSigned w32) x (signed_bytes w32 x) (signed_put w32 x) (int_exact.put x fits))
  value_good Refer good (suc levels) kinds.Long v (x, fits, is) = as_it_is (suc levels) kinds.Long v (long x) is (exactly_good long (SpellsSigned w64) x (signed_bytes w64 x) (signed_put w64 x) (long_exact.put x fits))
  value_good Refer good (suc levels) kinds.Text v (x, utf8, lt, is) = as_it_is (suc levels) kinds.Text v (text x) is (exactly_good text SpellsText x (text_bytes x) (text_put x utf8) (text_exact.put x (utf8, lt)))
  value_good Refer good (suc levels) (kinds.Enum at) v (e, row, n, has, lt, is) =
      as_it_is (suc levels) (kinds.Enum at) v (enumerator n) is
      (rules.mapped (exactly (size_bytes n)) [] (λ b from to. Made enumerator (Plain (SpellsEnumerator e.entries)) b (enumerator n) from to) (Spelled (suc levels) (kinds.Enum at) (enumerator n)) (λ b from to z. (e, row, z))
      (exactly_good enumerator (SpellsEnumerator e.entries) n (size_bytes n) (size_put n) (size_exact.put n lt, has)))
  value_good Refer good (suc levels) (kinds.Proxy at) v (p, there, is) = as_it_is (suc levels) (kinds.Proxy at) v (proxy p) is (exactly_small proxy parts.proxy.Spells p (parts.proxy.put p) (proxy_put Refer.most p there) (λ small. proxy_lawful.put p (proxy_again Refer.most good.0 p there small)))
  value_good Refer good (suc levels) (kinds.Class declared) v (n, refers, is) =
      as_it_is (suc levels) (kinds.Class declared) v (reference n) is
      (rules.mapped (refer n) (listed_name n) (λ b from to. port.Spells declared b n from to) (Spelled (suc levels) (kinds.Class declared) (reference n)) (λ b from to z. (n, refl, z)) (good.1 declared n refers))
  value_good Refer good (suc levels) (kinds.Seq at) v (q, row, items, is, many, all) =
      let Items : Relation S = λ b from to. Each (SpellsValue port t levels) (replicate (tree_count items) q.element) b items from to in
      as_it_is (suc levels) (kinds.Seq at) v (sequence items) is
      (rules.mapped (exactly (size_bytes (tree_count items)) >> written_each refer items) (names_each items) (λ b from to. (front body : List ℕ) × (b ≡ front ++ body) × SpellsSize front (tree_count items) × Items body from to) (Spelled (suc levels) (kinds.Seq at) (sequence items))
      (λ b from to z. (q, row, (items, refl, (tree_count items, z.0, z.1, z.2, z.3, z.4))))
      (counted_good (tree_count items) (written_each refer items) (names_each items) Items many (all_good (HasType t Refer levels q.element) q.element (SpellsValue port t levels) (value_good Refer good levels q.element) items all)))
  value_good Refer good (suc levels) (kinds.Dict at) v (d, row, pairs, is, many, rising, all) =
      let Inner : Relation S = λ b from to. Pairs (SpellsValue port t levels d.key) (SpellsValue port t levels d.value) (entry_count pairs) no_entry b pairs from to in
      as_it_is (suc levels) (kinds.Dict at) v (dictionary pairs) is
      (rules.mapped (exactly (size_bytes (entry_count pairs)) >> written_pairs refer pairs) (names_pairs pairs) (λ b from to. (front body : List ℕ) × (b ≡ front ++ body) × SpellsSize front (entry_count pairs) × Inner body from to) (Spelled (suc levels) (kinds.Dict at) (dictionary pairs))
      (λ b from to z. (d, row, (pairs, refl, (entry_count pairs, z.0, z.1, z.2, z.3, z.4))))
      (counted_good (entry_count pairs) (written_pairs refer pairs) (names_pairs pairs) Inner many
      (pairs_good (HasType t no_reference levels d.key) (HasType t Refer levels d.value) (SpellsValue port t levels d.key) (SpellsValue port t levels d.value)
      (λ k h. subst (λ (ns : List ℕ). Good (written refer k) ns (Spelled levels d.key k)) (nameless t levels d.key k h) (value_good no_reference never levels d.key k h)) (value_good Refer good levels d.value) no_entry pairs (nothing_before pairs) rising all)))
  value_good Refer good (suc levels) (kinds.Struct at) v (d, row, members, is, all) =
      as_it_is (suc levels) (kinds.Struct at) v (struct members) is
      (rules.mapped (written_each refer members) (names_each members) (λ b from to. Each (SpellsValue port t levels) (map (λ m. m.kind) d.members) b members from to) (Spelled (suc levels) (kinds.Struct at) (struct members))
      (λ b from to z. (d, row, (members, refl, z)))
      (each_good (HasType t Refer levels) (SpellsValue port t levels) (value_good Refer good levels) (map (λ m. m.kind) d.members) members all))
