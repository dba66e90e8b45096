-- What is spelled of a type under one schema is spelled of a type that can read it under another, where references are: the
-- same bytes, the same value, and states that stay related.
use Rattle.std.proofs.Common.{ℕ, zero, suc, ◌≡◌, ◌==◌, true, List, [], ◌∷◌, map, replicate, refl, sym, ◌∙◌, ap, subst, arith, Option, Some}
use Rattle.std.specs.Prelude.{slice_get}
use Rattle.std.proofs.lemmas.Bool.{eqb-true}
use Rattle.std.proofs.lemmas.List.Folds.{Any-from_list_any}
use Rattle.std.specs.Int.{w16, w32, w64}
use Rattle.ice_types.specs.declared.kind.TypeRef.{TypeRef}
use Rattle.ice_types.specs.declared.kind.TypeRef.TheVariants as kinds
use Rattle.ice_types.specs.declared.declarations.Entry.{Entry}
use Rattle.ice_types.specs.declared.declarations.Member.{Member}
use Rattle.ice_types.specs.Tables.{Tables}
use Rattle.ice_types.specs.Lacking.{AreSame}
use Rattle.ice_prims.specs.Number.{SpellsBool, SpellsByte, SpellsSigned, SpellsText}
use Rattle.ice_encoding.specs.Proxy as parts
use Rattle.ice_encoding.specs.Tree.{Tree, boolean, byte, short, int, long, text, proxy, Entries, no_entry}
use Rattle.ice_encoding.specs.Order.{insert}
use Rattle.ice_encoding.specs.Port.{Port, Speller}
use Rattle.ice_encoding.specs.Enum.{HasNumber}
use Rattle.ice_encoding.specs.Spelling.{Plain, Made, Each, Pairs, SpellsValue}
use Rattle.ice_encoding.specs.Prefixes.{Prefix, no_length, own_size, as_size, as_int, Framed}
use Rattle.slice_compat.specs.Reading.{HaveEntries, has_entry, ReadsClass, ReadsMembers, ReadsWithin}

-- what is spelled here is spelled there from a related state, as what the function makes of it
abbrev pub GoesAs : {S Z A B : Type 0} → (S → Z → Type 0) → (A → B) → Speller S A → Speller Z B → Type 0
GoesAs {S} {Z} {A} {B} Rel f One Two = (bytes : List ℕ) (x : A) (from to : S) (begin : Z) → One bytes x from to → Rel from begin
    → (end : Z) × Two bytes (f x) begin end × Rel to end

abbrev pub Goes : {S Z A : Type 0} → (S → Z → Type 0) → Speller S A → Speller Z A → Type 0
Goes {S} {Z} {A} Rel One Two = GoesAs Rel (λ (x : A). x) One Two

some_same : {A : Type 0} (o : Option A) (x y : A) → o ≡ Some x → o ≡ Some y → x ≡ y
some_same o x y e f = let both : Some x ≡ Some y = sym e ∙ f in cc

-- an entry that is there has its number
has_number : (fs : List Entry) (a b : ℕ) → a ≡ b → has_entry fs a ≡ true → HasNumber fs b
has_number fs a b e h =
    let found = Any-from_list_any (λ (f : Entry). f.number == a) fs h in
    subst (λ (n : ℕ). HasNumber fs n) e (found.0, found.1, found.2, found.3, eqb-true found.1.number a found.4)

module _ {R S Q Z : Type 0} (Rel : S → Z → Type 0) (one : Port R S) (two : Port Q Z) (t u : Tables)
    (refer : (a b : Option ℕ) → ReadsClass t u a b → Goes Rel (one.Spells a) (two.Spells b)) where
  moved : (from to : S) (begin : Z) → to ≡ from → Rel from begin → Rel to begin
  moved from to begin e r = subst (λ (s : S). Rel s begin) (sym e) r

  each_carried : (Read : TypeRef → TypeRef → Type 0) (One : TypeRef → Speller S Tree) (Two : TypeRef → Speller Z Tree) → ((k l : TypeRef) → Read k l → Goes Rel (One k) (Two l))
      → (ks ls : List TypeRef) → AreSame Read ks ls → Goes Rel (Each One ks) (Each Two ls)
  each_carried Read One Two go [] [] tied bytes x from to begin h r = (begin, (h.0, h.1, refl), moved from to begin h.2 r)
  each_carried Read One Two go [] (l ∷ ls) tied bytes x from to begin h r = absurd tied
  each_carried Read One Two go (k ∷ ks) [] tied bytes x from to begin h r = absurd tied
  each_carried Read One Two go (k ∷ ks) (l ∷ ls) tied bytes x from to begin h r =
      let a = go k l tied.0 h.2 h.0 from h.4 begin h.7 r in
      let b = each_carried Read One Two go ks ls tied.1 h.3 h.1 h.4 to a.0 h.8 a.2 in
      (b.0, (h.0, h.1, h.2, h.3, a.0, h.5, h.6, a.1, b.1), b.2)

  pairs_carried : (X H : Speller S Tree) (L I : Speller Z Tree) → Goes Rel X L → Goes Rel H I → (n : ℕ) (earlier : Entries) → Goes Rel (Pairs X H n earlier) (Pairs L I n earlier)
  pairs_carried X H L I key held zero earlier bytes x from to begin h r = (begin, (h.0, h.1, refl), moved from to begin h.2 r)
  pairs_carried X H L I key held (suc n) earlier bytes x from to begin (k, v, a, b, c, mid, last, parts, is_key, lacks_key, is_held, rest) r =
      let p = key a k from mid begin is_key r in
      let q = held b v mid last p.0 is_held p.2 in
      let s = pairs_carried X H L I key held n (insert k v earlier) c x last to q.0 rest q.2 in
      (s.0, (k, v, a, b, c, p.0, q.0, parts, p.1, lacks_key, q.1, s.1), s.2)

  plain_carried : {A : Type 0} (make : A → Tree) (Spells : List ℕ → A → Type 0) → Goes Rel (Made make (Plain Spells)) (Made make (Plain Spells))
  plain_carried make Spells bytes v from to begin h r = (begin, (h.0, h.1, (h.2.0, refl)), moved from to begin h.2.1 r)

  repeated : (Read : TypeRef → TypeRef → Type 0) (k l : TypeRef) → Read k l → (n : ℕ) → AreSame Read (replicate n k) (replicate n l)
  repeated Read k l tied zero = tt
  repeated Read k l tied (suc n) = (tied, repeated Read k l tied n)

  pub kinds_read : (Read : TypeRef → TypeRef → Type 0) (ms ns : List Member) → ReadsMembers t u Read ms ns → AreSame Read (map (λ m. m.kind) ms) (map (λ m. m.kind) ns)
  kinds_read Read [] [] h = tt
  kinds_read Read [] (n ∷ ns) h = absurd h
  kinds_read Read (m ∷ ms) [] h = absurd h
  kinds_read Read (m ∷ ms) (n ∷ ns) h = (h.0, kinds_read Read ms ns h.1)

  numbered : (es fs : List Entry) (n : ℕ) → HaveEntries es fs → HasNumber es n → HasNumber fs n
  numbered [] fs n all h = absurd (none_there h)
    where
      none_there : HasNumber [] n → ⊥
      none_there h = omega (arith, h.2)
  numbered (e ∷ es) fs n all (zero, x, lt, is, same) = has_number fs e.number n (ap (λ (y : Entry). y.number) is ∙ same) all.0
  numbered (e ∷ es) fs n all (suc k, x, lt, is, same) = numbered es fs n all.1 (k, x, omega (arith, lt), is, same)

  pub value_carried : (levels : ℕ) (k l : TypeRef) → ReadsWithin t u levels k l → Goes Rel (SpellsValue one t levels k) (SpellsValue two u levels l)
  value_carried zero k l tied = λ bytes v from to begin h r. absurd h
  value_carried (suc levels) kinds.Bool l e = subst (λ (l : TypeRef). Goes Rel (SpellsValue one t (suc levels) kinds.Bool) (SpellsValue two u (suc levels) l)) (sym e) (plain_carried boolean SpellsBool)
  value_carried (suc levels) kinds.Byte l e = subst (λ (l : TypeRef). Goes Rel (SpellsValue one t (suc levels) kinds.Byte) (SpellsValue two u (suc levels) l)) (sym e) (plain_carried byte SpellsByte)
  value_carried (suc levels) kinds.Short l e = subst (λ (l : TypeRef). Goes Rel (SpellsValue one t (suc levels) kinds.Short) (SpellsValue two u (suc levels) l)) (sym e) (plain_carried short (SpellsSigned w16))
  value_carried (suc levels) kinds.Int l e = subst (λ (l : TypeRef). Goes Rel (SpellsValue one t (suc levels) kinds.Int) (SpellsValue two u (suc levels) l)) (sym e) (plain_carried int (SpellsSigned w32))
  value_carried (suc levels) kinds.Long l e = subst (λ (l : TypeRef). Goes Rel (SpellsValue one t (suc levels) kinds.Long) (SpellsValue two u (suc levels) l)) (sym e) (plain_carried long (SpellsSigned w64))
  value_carried (suc levels) kinds.Text l e = subst (λ (l : TypeRef). Goes Rel (SpellsValue one t (suc levels) kinds.Text) (SpellsValue two u (suc levels) l)) (sym e) (plain_carried text SpellsText)
  value_carried (suc levels) (kinds.Proxy a) l (b, is) = subst (λ (l : TypeRef). Goes Rel (SpellsValue one t (suc levels) (kinds.Proxy a)) (SpellsValue two u (suc levels) l)) (sym is) (plain_carried proxy parts.proxy.Spells)
  value_carried (suc levels) (kinds.Enum a) l (b, is, (d, e, here, there, all)) = subst (λ (l : TypeRef). Goes Rel (SpellsValue one t (suc levels) (kinds.Enum a)) (SpellsValue two u (suc levels) l)) (sym is)
      (λ bytes v from to begin (x, row, (n, v_is, ((size, has), still))) r.
      let same = some_same (slice_get t.enums a) x d row here in
      (begin, (e, there, (n, v_is, ((size, numbered d.entries e.entries n all (subst (λ (x : _). HasNumber x.entries n) same has)), refl))), moved from to begin still r))
  value_carried (suc levels) (kinds.Class a) l (b, is, below) = subst (λ (l : TypeRef). Goes Rel (SpellsValue one t (suc levels) (kinds.Class a)) (SpellsValue two u (suc levels) l)) (sym is)
      (λ bytes v from to begin h r. let p = refer a b below bytes h.0 from to begin h.2 r in (p.0, (h.0, h.1, p.1), p.2))
  value_carried (suc levels) (kinds.Seq a) l (b, is, (d, e, here, there, element)) = subst (λ (l : TypeRef). Goes Rel (SpellsValue one t (suc levels) (kinds.Seq a)) (SpellsValue two u (suc levels) l)) (sym is)
      (λ bytes v from to begin (q, row, (items, v_is, (n, front, body, parts, size, each))) r.
      let kind = subst (λ (x : _). ReadsWithin t u levels x.element e.element) (sym (some_same (slice_get t.seqs a) q d row here)) element in
      let p = each_carried (ReadsWithin t u levels) (SpellsValue one t levels) (SpellsValue two u levels) (value_carried levels) (replicate n q.element) (replicate n e.element) (repeated (ReadsWithin t u levels) q.element e.element kind n)
      body items from to begin each r in
      (p.0, (e, there, (items, v_is, (n, front, body, parts, size, p.1))), p.2))
  value_carried (suc levels) (kinds.Dict a) l (b, is, (d, e, here, there, both)) = subst (λ (l : TypeRef). Goes Rel (SpellsValue one t (suc levels) (kinds.Dict a)) (SpellsValue two u (suc levels) l)) (sym is)
      (λ bytes v from to begin (q, row, (pairs, v_is, (n, front, body, parts, size, some))) r.
      let two_kinds = subst (λ (x : _). ReadsWithin t u levels x.key e.key × ReadsWithin t u levels x.value e.value) (sym (some_same (slice_get t.dicts a) q d row here)) both in
      let p = pairs_carried (SpellsValue one t levels q.key) (SpellsValue one t levels q.value) (SpellsValue two u levels e.key) (SpellsValue two u levels e.value)
      (value_carried levels q.key e.key two_kinds.0) (value_carried levels q.value e.value two_kinds.1) n no_entry body pairs from to begin some r in
      (p.0, (e, there, (pairs, v_is, (n, front, body, parts, size, p.1))), p.2))
  value_carried (suc levels) (kinds.Struct a) l (b, is, (d, e, here, there, all)) = subst (λ (l : TypeRef). Goes Rel (SpellsValue one t (suc levels) (kinds.Struct a)) (SpellsValue two u (suc levels) l)) (sym is)
      (λ bytes v from to begin (q, row, (members, v_is, each)) r.
      let kinds = subst (λ (x : _). AreSame (ReadsWithin t u levels) (map (λ m. m.kind) x.members) (map (λ m. m.kind) e.members)) (sym (some_same (slice_get t.structs a) q d row here))
      (kinds_read (ReadsWithin t u levels) d.members e.members all) in
      let p = each_carried (ReadsWithin t u levels) (SpellsValue one t levels) (SpellsValue two u levels) (value_carried levels) (map (λ m. m.kind) q.members) (map (λ m. m.kind) e.members) kinds bytes members from to begin each r in
      (p.0, (e, there, (members, v_is, p.1)), p.2))

  pub framed_carried : (prefix : Prefix) (X : Speller S Tree) (Y : Speller Z Tree) → Goes Rel X Y → Goes Rel (Framed prefix X) (Framed prefix Y)
  framed_carried no_length X Y go = go
  framed_carried own_size X Y go = go
  framed_carried as_size X Y go = λ bytes v from to begin h r. let p = go h.1 v from to begin h.4 r in (p.0, (h.0, h.1, h.2, h.3, p.1), p.2)
  framed_carried as_int X Y go = λ bytes v from to begin h r. let p = go h.1 v from to begin h.4 r in (p.0, (h.0, h.1, h.2, h.3, p.1), p.2)

  -- of types in order
  pub required_carried : (levels : ℕ) (ks ls : List TypeRef) → AreSame (ReadsWithin t u levels) ks ls → Goes Rel (Each (SpellsValue one t levels) ks) (Each (SpellsValue two u levels) ls)
  required_carried levels ks ls tied = each_carried (ReadsWithin t u levels) (SpellsValue one t levels) (SpellsValue two u levels) (value_carried levels) ks ls tied
