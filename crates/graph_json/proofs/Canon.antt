-- The canonical notation of a value notes it.
use Rattle.std.proofs.Common.{◌≡◌, ℕ, ℤ, pos, negsuc, zero, suc, ◌+◌, ◌<◌, ◌^◌, List, [], ◌∷◌, length, map, Option, Some, None, Ordering, Less, Equal, Greater, refl, sym, ap, subst, ◌∙◌, arith}
use Rattle.std.specs.Ordering.{nat_cmp, match_ordering}
use Rattle.std.specs.Cmp.Lexicographic.{slice_cmp}
use Rattle.std.proofs.lemmas.Option.{none-some}
use Rattle.serde_json.specs.Data.{Data, Members, no_members, member, put}
use Rattle.serde_json.specs.Find.{as_integer, of_integer, get_member}
use Rattle.serde_json.specs.Events.{items_len, members_len}
use Rattle.serde_json.proofs.Views.{get_member-put, get_member-put_other}
use Rattle.ice_types.specs.declared.kind.TypeRef.{TypeRef}
use Rattle.ice_types.specs.declared.kind.TypeRef.TheVariants as kinds
use Rattle.ice_types.specs.declared.declarations.Member.{Member}
use Rattle.ice_types.specs.declared.proxy.Proxy.{Proxy}
use Rattle.ice_types.specs.declared.schema.TheConstants.{MOST_DEPTH}
use Rattle.ice_types.specs.Fits.{names_of}
use Rattle.ice_types.specs.Tables.{Tables}
use Rattle.ice_types.specs.Rules.{IsSchema}
use Rattle.ice_encoding.specs.Proxy as parts
use Rattle.ice_encoding.specs.Tree.{Tree, Trees, none, tree, tree_count, Entries, no_entry, entry, entry_count, InEach, InPairs}
use Rattle.ice_encoding.specs.Order.{IsRising, AreBelow, insert}
use Rattle.ice_encoding.specs.Port.{size_of}
use Rattle.ice_encoding.specs.Typed.{AllOf, EachOf, PairsOf, Refers, no_reference, by_size, HasType, IsValue}
use Rattle.ice_encoding.proofs.Order.{tail_rising}
use Rattle.ice_encoding.proofs.Inserting.{join, join_none, join_join, insert_last, lacks_above, below_next}
use Rattle.graph_json.specs.ValueNotation.{Noting, NotesProxy, NotesReference, NotesEach, NotesMembers, NotesPairs, NotesLevels, Notes}
use Rattle.graph_json.specs.CanonicalValues.{Write, proxy_noted, reference_noted, each_noted, pairs_noted, members_noted, notation_levels, notation}
use Rattle.graph_json.specs.TypedValues.{HasShortText, IsShort, HasShortTexts}
use Rattle.graph_json.proofs.Names.{LacksName, AreApart, are_apart, numbered}
use Rattle.graph_json.proofs.Proxies.{proxy_again}

integer_again : (z : ℤ) → as_integer (of_integer z) ≡ Some z
integer_again (pos n) = refl
integer_again (negsuc n) = refl

-- ---- items

each_count : (write : Write) (vs : Trees) → items_len (each_noted write vs) ≡ tree_count vs
each_count write none = refl
each_count write (tree v vs) = ap suc (each_count write vs)

pairs_count : (key held : Write) (ps : Entries) → items_len (pairs_noted key held ps) ≡ entry_count ps
pairs_count key held no_entry = refl
pairs_count key held (entry k v rest) = ap suc (pairs_count key held rest)

-- what is noted by its notation, where the texts of its proxies are short
abbrev pub Canon : (Tree → Type 0) → Noting Tree → Write → Type 0
Canon Of One write = (v : Tree) → Of v → HasShortTexts v → One (write v) v

each_canon : (Of : Tree → Type 0) (One : Noting Tree) (write : Write) → Canon Of One write → (vs : Trees) → AllOf Of vs → InEach IsShort vs → NotesEach One (each_noted write vs) vs
each_canon Of One write one none h short = refl
each_canon Of One write one (tree v vs) h short = (v, vs, refl, one v h.0 short.0, each_canon Of One write one vs h.1 short.1)

-- ---- pairs in rising order

abbrev Follows : Entries → Entries → Type 0
Follows before no_entry = Unit {0}
Follows before (entry k v rest) = AreBelow before k

next_follows : (before : Entries) (k v : Tree) (rest : Entries) → AreBelow before k → IsRising (entry k v rest) → Follows (join before (entry k v no_entry)) rest
next_follows before k v no_entry below h = tt
next_follows before k v (entry l w others) below h = below_next before k l v below h.0

nothing_before : (ps : Entries) → Follows no_entry ps
nothing_before no_entry = tt
nothing_before (entry k v rest) = tt

module _ (OfKey OfHeld : Tree → Type 0) (Key Held : Noting Tree) (key held : Write) (one : Canon OfKey Key key) (two : Canon OfHeld Held held) where
  pairs_canon : (before rest : Entries) → Follows before rest → IsRising rest → PairsOf OfKey OfHeld rest → InPairs IsShort rest → NotesPairs Key Held before (pairs_noted key held rest) (join before rest)
  pairs_canon before no_entry follows rising h short = join_none before
  pairs_canon before (entry k v rest) follows rising h short =
      let others = pairs_canon (join before (entry k v no_entry)) rest (next_follows before k v rest follows rising) (tail_rising k v rest rising) h.2 short.2 in
      let placed : NotesPairs Key Held (insert k v before) (pairs_noted key held rest) (join before (entry k v rest)) =
      rw (insert_last k v before follows) (subst (λ (ps : Entries). NotesPairs Key Held (join before (entry k v no_entry)) (pairs_noted key held rest) ps) (join_join before k v rest) others) in
      (key k, held v, k, v, refl, one k h.0 short.0, lacks_above k before follows, two v h.1 short.1, placed)

-- ---- members

put_count_at : (o : Ordering) (k l : List ℕ) (d e : Data) (ms : Members) → match_ordering o (get_member k ms) (Some e) (get_member k ms) ≡ None
    → (get_member k ms ≡ None → members_len (put k d ms) ≡ suc (members_len ms)) → members_len (match_ordering o (member k d (member l e ms)) (member l d ms) (member l e (put k d ms))) ≡ suc (suc (members_len ms))
put_count_at Less k l d e ms new later = refl
put_count_at Equal k l d e ms new later = absurd (none-some e (sym new))
put_count_at Greater k l d e ms new later = ap suc (later new)

pub put_count : (k : List ℕ) (d : Data) (ms : Members) → get_member k ms ≡ None → members_len (put k d ms) ≡ suc (members_len ms)
put_count k d no_members new = refl
put_count k d (member l e ms) new = put_count_at (slice_cmp nat_cmp k l) k l d e ms new (put_count k d ms)

-- none of the names stands there yet
abbrev pub AreAbsent : List Member → Members → Type 0
AreAbsent [] found = Unit {0}
AreAbsent (m ∷ ms) found = (get_member m.name found ≡ None) × AreAbsent ms found

pub still_new : (name : List ℕ) (d : Data) (ms : List Member) (found : Members) → LacksName name (names_of ms) → AreAbsent ms found → AreAbsent ms (put name d found)
still_new name d [] found lacks new = tt
still_new name d (m ∷ ms) found lacks new = (get_member-put_other m.name name d found (λ e. lacks.0 (sym e)) ∙ new.0, still_new name d ms found lacks.1 new.1)

-- what stands at a name stays there
pub stays : (write : TypeRef → Write) (name : List ℕ) (found : Members) (ms : List Member) (vs : Trees) → LacksName name (names_of ms) → get_member name (members_noted write found ms vs) ≡ get_member name found
stays write name found [] vs lacks = refl
stays write name found (m ∷ ms) none lacks = refl
stays write name found (m ∷ ms) (tree v vs) lacks = stays write name (put m.name (write m.kind v) found) ms vs lacks.1 ∙ get_member-put_other name m.name (write m.kind v) found lacks.0

module _ (Of : TypeRef → Tree → Type 0) (write : TypeRef → Write) where
  pub members_count : (found : Members) (ms : List Member) (vs : Trees) → EachOf Of (map (λ m. m.kind) ms) vs → AreApart (names_of ms) → AreAbsent ms found → members_len (members_noted write found ms vs) ≡ members_len found + length ms
  members_count found [] vs h distinct new = omega arith
  members_count found (m ∷ ms) vs h distinct new =
      let count = put_count m.name (write m.kind h.0) found new.0 in
      let rest = members_count (put m.name (write m.kind h.0) found) ms h.1 h.4 distinct.1 (still_new m.name (write m.kind h.0) ms found distinct.0 new.1) in
      rw h.2 (rest ∙ omega (arith, count))

  pub members_canon : (One : TypeRef → Noting Tree) → ((kind : TypeRef) → Canon (Of kind) (One kind) (write kind)) → (found : Members) (ms : List Member) (vs : Trees) → EachOf Of (map (λ m. m.kind) ms) vs → AreApart (names_of ms) → InEach IsShort vs → NotesMembers One ms (members_noted write found ms vs) vs
  members_canon One one found [] vs h distinct short = h
  members_canon One one found (m ∷ ms) vs h distinct short =
      let d = write m.kind h.0 in
      let there : get_member m.name (members_noted write (put m.name d found) ms h.1) ≡ Some d = stays write m.name (put m.name d found) ms h.1 distinct.0 ∙ get_member-put m.name d found in
      let parts : HasShortTexts h.0 × InEach IsShort h.1 = subst (InEach IsShort) h.2 short in
      let rest = members_canon One one (put m.name d found) ms h.1 h.4 distinct.1 parts.1 in
      rw h.2 (d, h.0, h.1, refl, there, one m.kind h.0 h.3 parts.0, rest)

pub all_new : (ms : List Member) → AreAbsent ms no_members
all_new [] = tt
all_new (m ∷ ms) = (refl, all_new ms)

-- ---- proxies, references

proxy_canon : (most : ℕ) (p : Option Proxy) → (parts.proxy_to most).Is p → HasShortText p → NotesProxy (proxy_noted p) p
proxy_canon most None is short = refl
proxy_canon most (Some p) is short = (_, refl, short, proxy_again most p is)

reference_canon : (n : Option ℕ) → size_of n < 2 ^ 31 → NotesReference (reference_noted n) n
reference_canon None small = refl
reference_canon (Some n) small = (small, refl)

-- ---- a value

-- each reference that may stand is a size
abbrev pub AreSizes : Refers → Type 0
AreSizes Refer = (declared n : Option ℕ) → Refer.Held declared n → size_of n < 2 ^ 31

module _ (t : Tables) (rules : IsSchema t) where
  pub value_canon : (Refer : Refers) → AreSizes Refer → (levels : ℕ) (kind : TypeRef) → Canon (HasType t Refer levels kind) (NotesLevels t levels kind) (notation_levels t levels kind)
  value_canon Refer sizes zero kind v h short = absurd h
  value_canon Refer sizes (suc n) kinds.Bool v h short = rw h.1 (h.0, refl, refl)
  value_canon Refer sizes (suc n) kinds.Byte v h short = rw h.2 (h.0, (_, refl, refl), h.1, refl)
  value_canon Refer sizes (suc n) kinds.Short v h short = rw h.2 (h.0, (of_integer h.0, refl, integer_again h.0), h.1, refl)
  value_canon Refer sizes (suc n) kinds.Int v h short = rw h.2 (h.0, (of_integer h.0, refl, integer_again h.0), h.1, refl)
  value_canon Refer sizes (suc n) kinds.Long v h short = rw h.2 (h.0, (of_integer h.0, refl, integer_again h.0), h.1, refl)
  value_canon Refer sizes (suc n) kinds.Text v h short = rw h.3 (h.0, refl, h.1, h.2, refl)
  value_canon Refer sizes (suc n) (kinds.Seq at) v (q, row, items, is, many, all) short =
      let write = notation_levels t n q.element in
      let size : items_len (each_noted write items) < 2 ^ 31 = omega (arith, many, each_count write items) in
      let parts = subst HasShortTexts is short in
      rw (is, row) (q, refl, each_noted write items, refl, size, items, refl, each_canon (HasType t Refer n q.element) (NotesLevels t n q.element) write (value_canon Refer sizes n q.element) items all parts.1)
  value_canon Refer sizes (suc n) (kinds.Dict at) v (d, row, pairs, is, many, rising, all) short =
      let key = notation_levels t n d.key in
      let held = notation_levels t n d.value in
      let size : items_len (pairs_noted key held pairs) < 2 ^ 31 = omega (arith, many, pairs_count key held pairs) in
      let parts = subst HasShortTexts is short in
      rw (is, row) (
        d,
        refl,
        pairs_noted key held pairs,
        refl,
        size,
        pairs,
        refl,
        pairs_canon (HasType t no_reference n d.key) (HasType t Refer n d.value) (NotesLevels t n d.key) (NotesLevels t n d.value) key held (value_canon no_reference (λ declared m none. absurd none) n d.key) (value_canon Refer sizes n d.value)
            no_entry pairs (nothing_before pairs) rising all parts.1,
      )
  value_canon Refer sizes (suc n) (kinds.Struct at) v (d, row, members, is, all) short =
      let write = notation_levels t n in
      let apart = are_apart [] (names_of d.members) (rules.structs at d row).4 in
      let found = members_noted write no_members d.members members in
      let size : members_len found ≡ length d.members = members_count (HasType t Refer n) write no_members d.members members all apart (all_new d.members) ∙ omega arith in
      let parts = subst HasShortTexts is short in
      rw (is, row) (d, refl, found, refl, size, members, refl, members_canon (HasType t Refer n) write (NotesLevels t n) (value_canon Refer sizes n) no_members d.members members all apart parts.1)
  value_canon Refer sizes (suc n) (kinds.Enum at) v (e, row, k, has, small, is) short =
      let found = numbered k e.entries has in
      rw (is, row, found.1) (e, refl, k, (found.0, refl, found.2), refl)
  value_canon Refer sizes (suc n) (kinds.Proxy at) v (p, there, is) short =
      let brief = subst HasShortTexts is short in
      rw is (p, proxy_canon Refer.most p there brief, refl)
  value_canon Refer sizes (suc n) (kinds.Class declared) v (k, refers, is) short = rw is (k, reference_canon k (sizes declared k refers), refl)

pub plain_canon : (t : Tables) (kind : TypeRef) (v : Tree) → IsSchema t → IsValue t kind v → HasShortTexts v → Notes t kind (notation t kind v) v
unfolding notation Notes IsValue
plain_canon t kind v rules h short = value_canon t rules by_size (λ declared n small. small) MOST_DEPTH kind v h short

-- whichever references may stand
pub referring_canon : (t : Tables) → IsSchema t → (Refer : Refers) → AreSizes Refer → (kind : TypeRef) (v : Tree) → HasType t Refer MOST_DEPTH kind v → HasShortTexts v → Notes t kind (notation t kind v) v
unfolding notation Notes
referring_canon t rules Refer sizes kind v h short = value_canon t rules Refer sizes MOST_DEPTH kind v h short
