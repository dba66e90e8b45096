-- The same bytes spelled under both schemas: no spelling begins another, so parts end where they end in the other.
use Rattle.std.proofs.Common.{ℕ, zero, suc, ◌≡◌, ◌==◌, Bool, true, false, List, [], ◌∷◌, ◌++◌, length, map, replicate, refl, sym, ap, ◌∙◌, subst, Option, Some, None, Ok, arith}
use Rattle.std.specs.Prelude.{Result, slice_get}
use Rattle.std.specs.Int.{w16, w32, w64}
use Rattle.std.proofs.lemmas.List.{append_assoc, append_cancel_left}
use Rattle.ice_types.specs.declared.kind.TypeRef.{TypeRef}
use Rattle.ice_types.specs.declared.kind.TypeRef.TheVariants as kinds
use Rattle.ice_types.specs.declared.kind.RowRef.TheVariants as rows
use Rattle.ice_types.specs.declared.declarations.Entry.{Entry}
use Rattle.ice_types.specs.declared.declarations.Member.{Member}
use Rattle.ice_types.specs.declared.declarations.Shape.{Shape}
use Rattle.ice_types.specs.declared.optional_format.TheConstants.{FORMAT_CLASS}
use Rattle.ice_types.specs.declared.schema.TheConstants.{MOST_DEPTH}
use Rattle.ice_types.specs.Tables.{Tables}
use Rattle.ice_types.specs.Lacking.{SameKind, SameShape, SameBase}
use Rattle.ice_prims.specs.declared.fault.Fault.{Fault}
use Rattle.ice_prims.specs.Rest.{Rest, ◌>>=◌}
use Rattle.ice_prims.specs.Number.{SpellsBool, SpellsByte, SpellsSigned, SpellsText, signed_at}
use Rattle.ice_prims.proofs.Numbers.{signed_found, signed_only}
use Rattle.ice_encoding.specs.Parts.{Part, IsLawful, size}
use Rattle.ice_encoding.specs.Proxy as parts
use Rattle.ice_encoding.specs.Skipping.{Passes, passed_at, count}
use Rattle.ice_encoding.specs.Tags.{tag}
use Rattle.ice_encoding.proofs.Joined.{size_lawful}
use Rattle.ice_encoding.proofs.Passed.{count_lawful, passed_only}
use Rattle.ice_encoding.proofs.Proxied.{proxy_lawful}
use Rattle.ice_encoding.proofs.Tagged.{tag_lawful}
use Rattle.ice_encoding.specs.Tree.{Tree, boolean, byte, short, int, long, text, proxy, Entries, no_entry}
use Rattle.ice_encoding.specs.Order.{insert}
use Rattle.ice_encoding.specs.Port.{Port, Speller, Only}
use Rattle.ice_encoding.specs.Enum.{SpellsEnumerator}
use Rattle.ice_encoding.specs.Spelling.{Plain, Made, Each, Pairs, SpellsValue}
use Rattle.ice_encoding.specs.Reading.{plain}
use Rattle.ice_encoding.proofs.Values.{LawfulPart, plain_lawful, bool_lawful, byte_lawful, text_lawful, enumerator_lawful, spelled_apart}
use Rattle.ice_encoding.specs.Prefixes.{Prefix, no_length, own_size, as_size, as_int, prefix_of, Framed}
use Rattle.ice_encoding.specs.Optionals.{Present, kind_tagged, SpellsEnd, SkippedBy, Tagged, Options, AllOptions}
use Rattle.ice_encoding.specs.OptionalMembers.{Members, required_kinds, IfFlagged, SpellsSliceMembers, SpellsContent}
use Rattle.ice_encoding.proofs.Nexts.{tag_leads}
use Rattle.graph_laws.proofs.Rows.{Agrees}
use Rattle.graph_laws.proofs.Measured.{SameKinds, SameMembers, same_entries, repeated, kinds_same, required_same, TiedOption, tagged_same, same_prefix}

-- ---- parts

pub law_of : {A : Type 0} (part : Part A) → IsLawful part → LawfulPart part.read part.Spells
law_of part law = record { found = law.found; only = law.only }

pub part_apart : {A : Type 0} (read : Rest → Result (A × Rest) Fault) (Spells : List ℕ → A → Type 0) → LawfulPart read Spells → (a b r s : List ℕ) (v w : A) → a ++ r ≡ b ++ s → Spells a v → Spells b w → (a ≡ b) × (v ≡ w)
part_apart {A} read Spells law a b r s v w e h g =
    let x = spelled_apart {R = Unit {0}} {S = Unit {0}} (λ z. z) (plain read) (Plain Spells) (plain_lawful (λ z. z) read Spells law).only a b r s v w tt tt tt (h, refl) (g, refl) e in
    (x.0, x.1)

pub joined : {X Y : Type 0} (a b r s p q i j : List ℕ) → a ≡ p ++ q → b ≡ i ++ j → a ++ r ≡ b ++ s → (p ++ (q ++ r) ≡ i ++ (j ++ s) → (p ≡ i) × X) → (X → q ++ r ≡ j ++ s → (q ≡ j) × Y) → (a ≡ b) × X × Y
joined a b r s p q i j here there e first second =
    let whole : p ++ (q ++ r) ≡ i ++ (j ++ s) = sym (append_assoc p q r) ∙ ap (λ (l : List ℕ). l ++ r) (sym here) ∙ e ∙ ap (λ (l : List ℕ). l ++ s) there ∙ append_assoc i j s in
    let f = first whole in
    let rest : q ++ r ≡ j ++ s = append_cancel_left i (q ++ r) (j ++ s) (ap (λ (l : List ℕ). l ++ (q ++ r)) (sym f.0) ∙ whole) in
    let g = second f.1 rest in
    (here ∙ ap (λ (l : List ℕ). l ++ q) f.0 ∙ ap (λ (l : List ℕ). i ++ l) g.0 ∙ sym there, f.1, g.1)

-- the same, of what is itself two
pub inside : {X Y : Type 0} (a b r s p q i j : List ℕ) → a ≡ p ++ q → b ≡ i ++ j → a ++ r ≡ b ++ s → (p ++ (q ++ r) ≡ i ++ (j ++ s) → (p ≡ i) × X) → (X → q ++ r ≡ j ++ s → (q ≡ j) × Y) → (a ≡ b) × (X × Y)
inside a b r s p q i j here there e first second = let m = joined a b r s p q i j here there e first second in (m.0, (m.1, m.2))

-- values of one format
abbrev passed : ℕ → Unit {0} → Rest → Result (List ℕ × Unit {0} × Rest) Fault
passed format z r = passed_at format r >>= λ behind. Ok ([], z, behind)

passed_read : (format : ℕ) → Only {R = Unit {0}} {S = Unit {0}} {A = List ℕ} (λ z. z) (passed format) (λ bytes v from to. Passes format bytes × (v ≡ []) × (to ≡ from))
passed_read format z to r after bytes v took h = (z, sym h.2, rw (passed_only format r after bytes took h.0, h.1) refl)

passes_apart : (format : ℕ) (a b r s : List ℕ) → a ++ r ≡ b ++ s → Passes format a → Passes format b → a ≡ b
passes_apart format a b r s e h g =
    (spelled_apart {R = Unit {0}} {S = Unit {0}} {A = List ℕ} (λ z. z) (passed format) (λ bytes v from to. Passes format bytes × (v ≡ []) × (to ≡ from)) (passed_read format) a b r s [] [] tt tt tt (h, refl, refl) (g, refl, refl) e).0

-- ---- where the bytes end

no_tag : {C : Type 0} (marked : Bool) (a b r s lead rest : List ℕ) (it : ℕ × ℕ) → SpellsEnd marked a → (marked ≡ false → r ≡ []) → a ++ r ≡ b ++ s → b ≡ lead ++ rest → tag.Spells lead it → C
no_tag true a b r s lead rest it ends bound e parts is =
    let l = tag_leads lead it is in
    let same : 255 ∷ r ≡ l.0 ∷ ((l.1 ++ rest) ++ s) = ap (λ (x : List ℕ). x ++ r) (sym ends) ∙ e ∙ ap (λ (x : List ℕ). x ++ s) (parts ∙ ap (λ (x : List ℕ). x ++ rest) l.2) in
    let first : 255 ≡ l.0 = cc in
    absurd (omega (arith, first, l.3))
no_tag false a b r s lead rest it ends bound e parts is =
    let l = tag_leads lead it is in
    let same : [] ≡ l.0 ∷ ((l.1 ++ rest) ++ s) = sym (ap (λ (x : List ℕ). x ++ r) ends ∙ bound refl) ∙ e ∙ ap (λ (x : List ℕ). x ++ s) (parts ∙ ap (λ (x : List ℕ). x ++ rest) l.2) in
    absurd cc

-- ---- what two spell so is spelled by a third as by the first, from related states to related states

abbrev pub Locks : {S Z A B : Type 0} → (S → Z → Type 0) → Speller S A → Speller Z B → Speller S A → Type 0
Locks {S} {Z} {A} {B} Rel One Two Three = (a b r s : List ℕ) (x : A) (y : B) (from to : S) (begin end : Z) → a ++ r ≡ b ++ s → One a x from to → Two b y begin end → Rel from begin
    → (a ≡ b) × (Rel to end × Three a x from to)

module _ {R S Q Z : Type 0} (Rel : S → Z → Type 0) (one three : Port R S) (two : Port Q Z) (t u : Tables) (agrees : Agrees t u)
    (refer : (a b : Option ℕ) → SameBase t u rows.Class a b → Locks Rel (one.Spells a) (two.Spells b) (three.Spells a)) where
  still : (from to : S) (begin end : Z) → to ≡ from → end ≡ begin → Rel from begin → Rel to end
  still from to begin end e f r = subst (λ (s : S). Rel s end) (sym e) (subst (Rel from) (sym f) r)

  each_locked : (One Three : TypeRef → Speller S Tree) (Two : TypeRef → Speller Z Tree) → ((k l : TypeRef) → SameKind t u k l → Locks Rel (One k) (Two l) (Three k))
      → (ks ls : List TypeRef) → SameKinds t u ks ls → Locks Rel (Each One ks) (Each Two ls) (Each Three ks)
  each_locked One Three Two go [] [] tied a b r s x y from to begin end e h g rel = (h.0 ∙ sym g.0, (still from to begin end h.2 g.2 rel, h))
  each_locked One Three Two go [] (l ∷ ls) tied a b r s x y from to begin end e h g rel = absurd tied
  each_locked One Three Two go (k ∷ ks) [] tied a b r s x y from to begin end e h g rel = absurd tied
  each_locked One Three Two go (k ∷ ks) (l ∷ ls) tied a b r s x y from to begin end e h g rel =
      let m = joined a b r s h.2 h.3 g.2 g.3 h.6 g.6 e
      (λ e. go k l tied.0 h.2 g.2 (h.3 ++ r) (g.3 ++ s) h.0 g.0 from h.4 begin g.4 e h.7 g.7 rel)
      (λ p e. each_locked One Three Two go ks ls tied.1 h.3 g.3 r s h.1 g.1 h.4 to g.4 end e h.8 g.8 p.0) in
      (m.0, (m.2.0, (h.0, h.1, h.2, h.3, h.4, h.5, h.6, m.1.1, m.2.1)))

  pairs_locked : (X H X' H' : Speller S Tree) (L I : Speller Z Tree) → Locks Rel X L X' → Locks Rel H I H' → (n : ℕ) (earlier other : Entries) → Locks Rel (Pairs X H n earlier) (Pairs L I n other) (Pairs X' H' n earlier)
  pairs_locked X H X' H' L I key held zero earlier other a b r s x y from to begin end e h g rel = (h.0 ∙ sym g.0, (still from to begin end h.2 g.2 rel, h))
  pairs_locked X H X' H' L I key held (suc n) earlier other a b r s x y from to begin end e h g rel =
      let m = joined a b r s h.2 (h.3 ++ h.4) g.2 (g.3 ++ g.4) h.7 g.7 e
      (λ e. key h.2 g.2 ((h.3 ++ h.4) ++ r) ((g.3 ++ g.4) ++ s) h.0 g.0 from h.5 begin g.5 e h.8 g.8 rel)
      (λ p e. inside (h.3 ++ h.4) (g.3 ++ g.4) r s h.3 h.4 g.3 g.4 refl refl e
      (λ e. held h.3 g.3 (h.4 ++ r) (g.4 ++ s) h.1 g.1 h.5 h.6 g.5 g.6 e h.10 g.10 p.0)
      (λ q e. pairs_locked X H X' H' L I key held n (insert h.0 h.1 earlier) (insert g.0 g.1 other) h.4 g.4 r s x y h.6 to g.6 end e h.11 g.11 q.0)) in
      (m.0, (m.2.1.0, (h.0, h.1, h.2, h.3, h.4, h.5, h.6, h.7, m.1.1, h.9, m.2.0.1, m.2.1.1)))

  plain_locked : {A : Type 0} (make : A → Tree) (read : Rest → Result (A × Rest) Fault) (Spells : List ℕ → A → Type 0) → LawfulPart read Spells → Locks Rel (Made make (Plain Spells)) (Made make (Plain Spells)) (Made make (Plain Spells))
  plain_locked make read Spells law a b r s x y from to begin end e h g rel = ((part_apart read Spells law a b r s h.0 g.0 e h.2.0 g.2.0).0, (still from to begin end h.2.1 g.2.1 rel, h))

  same_row : {A : Type 0} {C : Type 0} (a b : A) (o : Option A) → o ≡ Some a → o ≡ Some b → (a ≡ b → C) → C
  same_row a b o e f go = let both : Some a ≡ Some b = sym e ∙ f in go cc

  abbrev Value : ℕ → TypeRef → TypeRef → Type 0
  Value levels k l = Locks Rel (SpellsValue one t levels k) (SpellsValue two u levels l) (SpellsValue three t levels k)

  value_locked : (levels : ℕ) (k l : TypeRef) → SameKind t u k l → Value levels k l
  value_locked zero k l tied = λ a b r s x y from to begin end e h g rel. absurd h
  value_locked (suc levels) kinds.Bool l e = subst (Value (suc levels) kinds.Bool) (sym e) (plain_locked boolean _ SpellsBool bool_lawful)
  value_locked (suc levels) kinds.Byte l e = subst (Value (suc levels) kinds.Byte) (sym e) (plain_locked byte _ SpellsByte byte_lawful)
  value_locked (suc levels) kinds.Short l e = subst (Value (suc levels) kinds.Short) (sym e) (plain_locked short (signed_at w16) (SpellsSigned w16) (record { found = signed_found w16; only = signed_only w16 }))
  value_locked (suc levels) kinds.Int l e = subst (Value (suc levels) kinds.Int) (sym e) (plain_locked int (signed_at w32) (SpellsSigned w32) (record { found = signed_found w32; only = signed_only w32 }))
  value_locked (suc levels) kinds.Long l e = subst (Value (suc levels) kinds.Long) (sym e) (plain_locked long (signed_at w64) (SpellsSigned w64) (record { found = signed_found w64; only = signed_only w64 }))
  value_locked (suc levels) kinds.Text l e = subst (Value (suc levels) kinds.Text) (sym e) (plain_locked text _ SpellsText text_lawful)
  value_locked (suc levels) (kinds.Proxy None) l e = subst (Value (suc levels) (kinds.Proxy None)) (sym e) (plain_locked proxy parts.proxy.read parts.proxy.Spells (law_of parts.proxy proxy_lawful))
  value_locked (suc levels) (kinds.Proxy (Some a)) l (b, is, same) = subst (Value (suc levels) (kinds.Proxy (Some a))) (sym is) (plain_locked proxy parts.proxy.read parts.proxy.Spells (law_of parts.proxy proxy_lawful))
  value_locked (suc levels) (kinds.Class None) l e = subst (Value (suc levels) (kinds.Class None)) (sym e)
      (λ a b r s x y from to begin end e h g rel. let m = refer None None refl a b r s h.0 g.0 from to begin end e h.2 g.2 rel in (m.0, (m.1.0, (h.0, h.1, m.1.1))))
  value_locked (suc levels) (kinds.Class (Some c)) l (d, is, same) = subst (Value (suc levels) (kinds.Class (Some c))) (sym is)
      (λ a b r s x y from to begin end e h g rel. let m = refer (Some c) (Some d) (d, refl, same) a b r s h.0 g.0 from to begin end e h.2 g.2 rel in (m.0, (m.1.0, (h.0, h.1, m.1.1))))
  value_locked (suc levels) (kinds.Enum c) l (d, is, same) = subst (Value (suc levels) (kinds.Enum c)) (sym is)
      (λ a b r s x y from to begin end e h g rel.
      let row = agrees.enums c d same in
      same_row row.0 h.0 (slice_get t.enums c) row.2 h.1 λ here.
      same_row row.1 g.0 (slice_get u.enums d) row.3 g.1 λ there.
      let entries : g.0.entries ≡ h.0.entries = ap (λ (x : _). x.entries) (sym there) ∙ sym (same_entries row.0.entries row.1.entries row.4) ∙ ap (λ (x : _). x.entries) here in
      ((part_apart _ (SpellsEnumerator h.0.entries) (enumerator_lawful h.0.entries) a b r s h.2.0 g.2.0 e h.2.2.0 (subst (λ (es : List Entry). SpellsEnumerator es b g.2.0) entries g.2.2.0)).0, (still from to begin end h.2.2.1 g.2.2.1 rel, h)))
  value_locked (suc levels) (kinds.Seq c) l (d, is, same) = subst (Value (suc levels) (kinds.Seq c)) (sym is)
      (λ a b r s x y from to begin end e (q, q_row, (items, v_is, (n, front, body, cut, many, each))) (p, p_row, (others, w_is, (m, lead, rest, cut', many', each'))) rel.
      let row = agrees.seqs c d same in
      same_row row.0 q (slice_get t.seqs c) row.2 q_row λ here.
      same_row row.1 p (slice_get u.seqs d) row.3 p_row λ there.
      let kind : SameKind t u q.element p.element = subst (λ (x : _). SameKind t u x.element p.element) here (subst (λ (x : _). SameKind t u row.0.element x.element) there row.4) in
      let g = joined a b r s front body lead rest cut cut' e (λ e. part_apart size.read size.Spells (law_of size size_lawful) front lead (body ++ r) (rest ++ s) n m e many many')
      (λ same e. each_locked (SpellsValue one t levels) (SpellsValue three t levels) (SpellsValue two u levels) (value_locked levels) (replicate n q.element) (replicate n p.element) (repeated t u q.element p.element kind n) body rest r s items others from to begin end e each
      (subst (λ (k : ℕ). Each (SpellsValue two u levels) (replicate k p.element) rest others begin end) (sym same) each') rel) in
      (g.0, (g.2.0, (q, q_row, (items, v_is, (n, front, body, cut, many, g.2.1))))))
  value_locked (suc levels) (kinds.Dict c) l (d, is, same) = subst (Value (suc levels) (kinds.Dict c)) (sym is)
      (λ a b r s x y from to begin end e (q, q_row, (items, v_is, (n, front, body, cut, many, some))) (p, p_row, (others, w_is, (m, lead, rest, cut', many', some'))) rel.
      let row = agrees.dicts c d same in
      same_row row.0 q (slice_get t.dicts c) row.2 q_row λ here.
      same_row row.1 p (slice_get u.dicts d) row.3 p_row λ there.
      let both : SameKind t u q.key p.key × SameKind t u q.value p.value = subst (λ (x : _). SameKind t u x.key p.key × SameKind t u x.value p.value) here (subst (λ (x : _). SameKind t u row.0.key x.key × SameKind t u row.0.value x.value) there row.4) in
      let g = joined a b r s front body lead rest cut cut' e (λ e. part_apart size.read size.Spells (law_of size size_lawful) front lead (body ++ r) (rest ++ s) n m e many many')
      (λ same e. pairs_locked (SpellsValue one t levels q.key) (SpellsValue one t levels q.value) (SpellsValue three t levels q.key) (SpellsValue three t levels q.value) (SpellsValue two u levels p.key) (SpellsValue two u levels p.value)
      (value_locked levels q.key p.key both.0) (value_locked levels q.value p.value both.1) n no_entry no_entry body rest r s items others from to begin end e some
      (subst (λ (k : ℕ). Pairs (SpellsValue two u levels p.key) (SpellsValue two u levels p.value) k no_entry rest others begin end) (sym same) some') rel) in
      (g.0, (g.2.0, (q, q_row, (items, v_is, (n, front, body, cut, many, g.2.1))))))
  value_locked (suc levels) (kinds.Struct c) l (d, is, same) = subst (Value (suc levels) (kinds.Struct c)) (sym is)
      (λ a b r s x y from to begin end e (q, q_row, (items, v_is, each)) (p, p_row, (others, w_is, each')) rel.
      let row = agrees.structs c d same in
      same_row row.0 q (slice_get t.structs c) row.2 q_row λ here.
      same_row row.1 p (slice_get u.structs d) row.3 p_row λ there.
      let both : SameMembers t u q.members p.members = subst (λ (x : _). SameMembers t u x.members p.members) here (subst (λ (x : _). SameMembers t u row.0.members x.members) there row.4) in
      let g = each_locked (SpellsValue one t levels) (SpellsValue three t levels) (SpellsValue two u levels) (value_locked levels) (map (λ m. m.kind) q.members) (map (λ m. m.kind) p.members) (kinds_same t u q.members p.members both) a b r s items others from to begin end e each each' rel in
      (g.0, (g.1.0, (q, q_row, (items, v_is, g.1.1)))))

  -- ---- optional members

  prefixed_locked : (number : Part ℕ) → IsLawful number → (X X' : Speller S Tree) (Y : Speller Z Tree) → Locks Rel X Y X' → (a b r s : List ℕ) (x y : Tree) (from to : S) (begin end : Z) → a ++ r ≡ b ++ s
      → (h : (front body : List ℕ) × (a ≡ front ++ body) × number.Spells front (length body) × X body x from to) → (g : (front body : List ℕ) × (b ≡ front ++ body) × number.Spells front (length body) × Y body y begin end) → Rel from begin
      → (a ≡ b) × (Rel to end × ((front body : List ℕ) × (a ≡ front ++ body) × number.Spells front (length body) × X' body x from to))
  prefixed_locked number law X X' Y go a b r s x y from to begin end e h g rel =
      let m = joined a b r s h.0 h.1 g.0 g.1 h.2 g.2 e (λ e. part_apart number.read number.Spells (law_of number law) h.0 g.0 (h.1 ++ r) (g.1 ++ s) (length h.1) (length g.1) e h.3 g.3)
      (λ same e. go h.1 g.1 r s x y from to begin end e h.4 g.4 rel) in
      (m.0, (m.2.0, (h.0, h.1, h.2, h.3, m.2.1)))

  framed_locked : (prefix : Prefix) (X X' : Speller S Tree) (Y : Speller Z Tree) → Locks Rel X Y X' → Locks Rel (Framed prefix X) (Framed prefix Y) (Framed prefix X')
  framed_locked no_length X X' Y go = go
  framed_locked own_size X X' Y go = go
  framed_locked as_size X X' Y go = prefixed_locked size size_lawful X X' Y go
  framed_locked as_int X X' Y go = prefixed_locked count count_lawful X X' Y go

  skipped_locked : (reference : Bool) (format : ℕ) → Locks Rel (SkippedBy one t reference format) (SkippedBy two u reference format) (SkippedBy three t reference format)
  skipped_locked true format a b r s x y from to begin end e h g rel = let m = refer None None refl a b r s h.0 g.0 from to begin end e h.2 g.2 rel in (m.0, (m.1.0, (h.0, h.1, m.1.1)))
  skipped_locked false format a b r s x y from to begin end e h g rel = (passes_apart format a b r s e h.0 g.0, (still from to begin end h.2 g.2 rel, h))

  tagged_locked : (k l : Option TypeRef) → TiedOption t u k l → (format : ℕ) → Locks Rel (Tagged one t k format) (Tagged two u l format) (Tagged three t k format)
  tagged_locked None l e format = subst (λ (l : Option TypeRef). Locks Rel (Tagged one t None format) (Tagged two u l format) (Tagged three t None format)) (sym e) (skipped_locked (format == FORMAT_CLASS) format)
  tagged_locked (Some k) l (other, is, tied) format = subst (λ (l : Option TypeRef). Locks Rel (Tagged one t (Some k) format) (Tagged two u l format) (Tagged three t (Some k) format)) (sym is)
      (λ a b r s x y from to begin end e (test, (v, v_is, h)) (test', (w, w_is, g)) rel.
      let m = framed_locked (prefix_of t k) (SpellsValue one t MOST_DEPTH k) (SpellsValue three t MOST_DEPTH k) (SpellsValue two u MOST_DEPTH other) (value_locked MOST_DEPTH k other tied) a b r s v w from to begin end e h
      (subst (λ (prefix : Prefix). Framed prefix (SpellsValue two u MOST_DEPTH other) b w begin end) (sym (same_prefix t u agrees k other tied)) g) rel in
      (m.0, (m.1.0, (test, (v, v_is, m.1.1)))))

  options_locked : (marked : Bool) (ms ns : List Member) → SameMembers t u ms ns → (n m : ℕ) (last before : Option ℕ) (a b r s : List ℕ) (x y : Present) (from to : S) (begin end : Z) → (marked ≡ false → (r ≡ []) × (s ≡ [])) → a ++ r ≡ b ++ s
      → Options one t marked ms n last a x from to → Options two u marked ns m before b y begin end → Rel from begin → (a ≡ b) × (Rel to end × Options three t marked ms n last a x from to)
  options_locked marked ms ns tied zero zero last before a b r s x y from to begin end bound e h g rel = (ends marked h.0 g.0, (still from to begin end h.2 g.2 rel, h))
    where
      ends : (marked : Bool) → SpellsEnd marked a → SpellsEnd marked b → a ≡ b
      ends true p q = p ∙ sym q
      ends false p q = p ∙ sym q
  options_locked marked ms ns tied zero (suc m) last before a b r s x y from to begin end bound e h (number, format, v, others, lead, p, q, mid, parts, is_tag, rise, is_value, is_list, rest) rel =
      no_tag marked a b r s lead (p ++ q) (number, format) h.0 (λ e. (bound e).0) e parts is_tag
  options_locked marked ms ns tied (suc n) zero last before a b r s x y from to begin end bound e (number, format, v, others, lead, p, q, mid, parts, is_tag, rise, is_value, is_list, rest) g rel =
      no_tag marked b a s r lead (p ++ q) (number, format) g.0 (λ e. (bound e).1) (sym e) parts is_tag
  options_locked marked ms ns tied (suc n) (suc m) last before a b r s x y from to begin end bound e (number, format, v, others, lead, p, q, mid, parts, is_tag, rise, is_value, is_list, rest) (number', format', v', others', lead', p', q', mid', parts', is_tag', rise', is_value', is_list', rest') rel =
      let g = joined a b r s lead (p ++ q) lead' (p' ++ q') parts parts' e
      (λ e. part_apart tag.read tag.Spells (law_of tag tag_lawful) lead lead' ((p ++ q) ++ r) ((p' ++ q') ++ s) (number, format) (number', format') e is_tag is_tag')
      (λ same e. inside (p ++ q) (p' ++ q') r s p q p' q' refl refl e
      (λ e. tagged_locked (kind_tagged number ms) (kind_tagged number ns) (tagged_same t u number ms ns tied) format p p' (q ++ r) (q' ++ s) v v' from mid begin mid' e is_value
      (subst (λ (it : ℕ × ℕ). Tagged two u (kind_tagged it.0 ns) it.1 p' v' begin mid') (sym same) is_value') rel)
      (λ x e. options_locked marked ms ns tied n m (Some number) (Some number') q q' r s others others' mid to mid' end bound e rest rest' x.0)) in
      (g.0, (g.2.1.0, (number, format, v, others, lead, p, q, mid, parts, is_tag, rise, g.2.0.1, is_list, g.2.1.1)))

  flagged_locked : (flagged : Bool) (ms ns : List Member) → SameMembers t u ms ns → Locks Rel (IfFlagged one t flagged (AllOptions one t true ms)) (IfFlagged two u flagged (AllOptions two u true ns)) (IfFlagged three t flagged (AllOptions three t true ms))
  flagged_locked true ms ns tied a b r s x y from to begin end e h g rel =
      let m = options_locked true ms ns tied h.0 g.0 None None a b r s x y from to begin end (λ e. absurd cc) e h.1 g.1 rel in
      (m.0, (m.1.0, (h.0, m.1.1)))
  flagged_locked false ms ns tied a b r s x y from to begin end e h g rel = (h.0 ∙ sym g.0, (still from to begin end h.2 g.2 rel, h))

  pub slice_locked : (flagged : Bool) (shape other : Shape) → SameShape t u shape other → Locks Rel (SpellsSliceMembers one t flagged shape) (SpellsSliceMembers two u flagged other) (SpellsSliceMembers three t flagged shape)
  slice_locked flagged shape other tied a b r s x y from to begin end e (required, p, q, mid, cut, each, (optional, is, h)) (required', p', q', mid', cut', each', (optional', is', g)) rel =
      let m = joined a b r s p q p' q' cut cut' e
      (λ e. each_locked (SpellsValue one t MOST_DEPTH) (SpellsValue three t MOST_DEPTH) (SpellsValue two u MOST_DEPTH) (value_locked MOST_DEPTH) (required_kinds shape) (required_kinds other) (required_same t u shape other tied) p p' (q ++ r) (q' ++ s) required required' from mid begin mid' e each each' rel)
      (λ x e. flagged_locked flagged shape.optional other.optional tied.1 q q' r s optional optional' mid to mid' end e h g x.0) in
      (m.0, (m.2.0, (required, p, q, mid, cut, m.1.1, (optional, is, m.2.1))))

  all_locked : (ms ns : List Member) → SameMembers t u ms ns → (a b : List ℕ) (x y : Present) (from to : S) (begin end : Z) → a ++ [] ≡ b ++ [] → AllOptions one t false ms a x from to → AllOptions two u false ns b y begin end → Rel from begin
      → (a ≡ b) × (Rel to end × AllOptions three t false ms a x from to)
  all_locked ms ns tied a b x y from to begin end e h g rel =
      let m = options_locked false ms ns tied h.0 g.0 None None a b [] [] x y from to begin end (λ e. (refl, refl)) e h.1 g.1 rel in
      (m.0, (m.1.0, (h.0, m.1.1)))

  -- a whole content, behind which nothing stands
  pub content_locked : (shape other : Shape) → SameShape t u shape other → (a : List ℕ) (x y : Members) (from to : S) (begin end : Z) → SpellsContent one t shape a x from to → SpellsContent two u other a y begin end → Rel from begin → Rel to end × SpellsContent three t shape a x from to
  content_locked shape other tied a x y from to begin end (required, p, q, mid, cut, each, (optional, is, h)) (required', p', q', mid', cut', each', (optional', is', g)) rel =
      let m = joined a a [] [] p q p' q' cut cut' refl
      (λ e. each_locked (SpellsValue one t MOST_DEPTH) (SpellsValue three t MOST_DEPTH) (SpellsValue two u MOST_DEPTH) (value_locked MOST_DEPTH) (required_kinds shape) (required_kinds other) (required_same t u shape other tied) p p' (q ++ []) (q' ++ []) required required' from mid begin mid' e each each' rel)
      (λ x e. all_locked shape.optional other.optional tied.1 q q' optional optional' mid to mid' end e h g x.0) in
      (m.2.0, (required, p, q, mid, cut, m.1.1, (optional, is, m.2.1)))
