-- What is spelled under one schema by one port is spelled under another by another, where references are: the same bytes, the
-- same values, and states that stay related.
use Rattle.std.proofs.Common.{ℕ, zero, suc, ◌≡◌, ◌==◌, Bool, true, false, List, [], ◌∷◌, map, replicate, refl, sym, ◌∙◌, ap, subst, Option, Some, None}
use Rattle.std.specs.Int.{w16, w32, w64}
use Rattle.ice_types.specs.declared.kind.TypeRef.{TypeRef}
use Rattle.ice_types.specs.declared.kind.TypeRef.TheVariants as kinds
use Rattle.ice_types.specs.declared.kind.RowRef.TheVariants as rows
use Rattle.ice_types.specs.declared.declarations.Entry.{Entry}
use Rattle.ice_types.specs.declared.declarations.Member.{Member}
use Rattle.ice_types.specs.declared.declarations.Shape.{Shape}
use Rattle.ice_types.specs.declared.optional_format.TheConstants.{FORMAT_CLASS}
use Rattle.ice_types.specs.declared.schema.TheConstants.{MOST_DEPTH}
use Rattle.ice_types.specs.Tables.{Tables}
use Rattle.ice_types.specs.Lacking.{SameKind, SameShape, SameBase}
use Rattle.ice_prims.specs.Number.{SpellsBool, SpellsByte, SpellsSigned, SpellsText}
use Rattle.ice_encoding.specs.Proxy as parts
use Rattle.ice_encoding.specs.Tree.{Tree, boolean, byte, short, int, long, text, proxy, Entries, no_entry}
use Rattle.ice_encoding.specs.Order.{insert}
use Rattle.ice_encoding.specs.Port.{Port, Speller}
use Rattle.ice_encoding.specs.Enum.{SpellsEnumerator}
use Rattle.ice_encoding.specs.Spelling.{Plain, Made, Each, Pairs, SpellsValue}
use Rattle.ice_encoding.specs.Prefixes.{Prefix, no_length, own_size, as_size, as_int, prefix_of, Framed}
use Rattle.ice_encoding.specs.Optionals.{kind_tagged, SkippedBy, Tagged, Options, AllOptions}
use Rattle.ice_encoding.specs.OptionalMembers.{required_kinds, IfFlagged, SpellsSliceMembers, SpellsContent}
use Rattle.graph_laws.proofs.Carried.{Steps}
use Rattle.graph_laws.proofs.Rows.{Agrees}
use Rattle.graph_laws.proofs.Measured.{SameKinds, SameMembers, same_entries, repeated, kinds_same, required_same, TiedOption, tagged_same, same_optional, same_prefix}

-- What is spelled here is a step, and from a related state it is spelled there, where it leads well.
abbrev pub Carries : {S Z A : Type 0} → Steps S → (S → Z → Type 0) → Speller S A → Speller Z A → Type 0
Carries {S} {Z} {A} steps Rel One Two = (bytes : List ℕ) (x : A) (from to : S) → One bytes x from to
    → steps.Step from to × ((begin : Z) → Rel from begin → steps.Fine to → (end : Z) × Two bytes x begin end × Rel to end)

module _ {R S Q Z : Type 0} (steps : Steps S) (Rel : S → Z → Type 0) (one : Port R S) (two : Port Q Z) (t u : Tables) (agrees : Agrees t u)
    (refer : (a b : Option ℕ) → SameBase t u rows.Class a b → Carries steps Rel (one.Spells a) (two.Spells b)) where
  still : (from to : S) → to ≡ from → steps.Step from to
  still from to e = subst (λ (s : S). steps.Step from s) (sym e) (steps.same from)

  moved : (from to : S) (begin : Z) → to ≡ from → Rel from begin → Rel to begin
  moved from to begin e r = subst (λ (s : S). Rel s begin) (sym e) r

  abbrev Goes : {A : Type 0} → Speller S A → Speller Z A → Type 0
  Goes {A} One Two = Carries steps Rel One Two

  each_carried : (One : TypeRef → Speller S Tree) (Two : TypeRef → Speller Z Tree) → ((k l : TypeRef) → SameKind t u k l → Goes (One k) (Two l))
      → (ks ls : List TypeRef) → SameKinds t u ks ls → Goes (Each One ks) (Each Two ls)
  each_carried One Two go [] [] tied bytes x from to h = (still from to h.2, λ begin r good. (begin, (h.0, h.1, refl), moved from to begin h.2 r))
  each_carried One Two go [] (l ∷ ls) tied bytes x from to h = absurd tied
  each_carried One Two go (k ∷ ks) [] tied bytes x from to h = absurd tied
  each_carried One Two go (k ∷ ks) (l ∷ ls) tied bytes x from to h =
      let rest = each_carried One Two go ks ls tied.1 h.3 h.1 h.4 to h.8 in
      let head = go k l tied.0 h.2 h.0 from h.4 h.7 in (
        steps.joined from h.4 to head.0 rest.0,
        λ begin r good.
            let a = head.1 begin r (steps.back h.4 to rest.0 good) in
            let b = rest.1 a.0 a.2 good in
            (b.0, (h.0, h.1, h.2, h.3, a.0, h.5, h.6, a.1, b.1), b.2),
      )

  pairs_carried : (X H : Speller S Tree) (L I : Speller Z Tree) → Goes X L → Goes H I → (n : ℕ) (earlier : Entries) → Goes (Pairs X H n earlier) (Pairs L I n earlier)
  pairs_carried X H L I key held zero earlier bytes x from to h = (still from to h.2, λ begin r good. (begin, (h.0, h.1, refl), moved from to begin h.2 r))
  pairs_carried X H L I key held (suc n) earlier bytes x from to (k, v, a, b, c, mid, last, parts, is_key, lacks_key, is_held, rest) =
      let more = pairs_carried X H L I key held n (insert k v earlier) c x last to rest in
      let value = held b v mid last is_held in
      let head = key a k from mid is_key in (
        steps.joined from mid to head.0 (steps.joined mid last to value.0 more.0),
        λ begin r good.
            let fine = steps.back last to more.0 good in
            let p = head.1 begin r (steps.back mid last value.0 fine) in
            let q = value.1 p.0 p.2 fine in
            let s = more.1 q.0 q.2 good in
            (s.0, (k, v, a, b, c, p.0, q.0, parts, p.1, lacks_key, q.1, s.1), s.2),
      )

  plain_carried : {A : Type 0} (make : A → Tree) (Spells : List ℕ → A → Type 0) → Goes (Made make (Plain Spells)) (Made make (Plain Spells))
  plain_carried make Spells bytes v from to h = (still from to h.2.1, λ begin r good. (begin, (h.0, h.1, (h.2.0, refl)), moved from to begin h.2.1 r))

  value_carried : (levels : ℕ) (k l : TypeRef) → SameKind t u k l → Goes (SpellsValue one t levels k) (SpellsValue two u levels l)
  value_carried zero k l tied = λ bytes v from to h. absurd h
  value_carried (suc levels) kinds.Bool l e = subst (λ (l : TypeRef). Goes (SpellsValue one t (suc levels) kinds.Bool) (SpellsValue two u (suc levels) l)) (sym e) (plain_carried boolean SpellsBool)
  value_carried (suc levels) kinds.Byte l e = subst (λ (l : TypeRef). Goes (SpellsValue one t (suc levels) kinds.Byte) (SpellsValue two u (suc levels) l)) (sym e) (plain_carried byte SpellsByte)
  value_carried (suc levels) kinds.Short l e = subst (λ (l : TypeRef). Goes (SpellsValue one t (suc levels) kinds.Short) (SpellsValue two u (suc levels) l)) (sym e) (plain_carried short (SpellsSigned w16))
  value_carried (suc levels) kinds.Int l e = subst (λ (l : TypeRef). Goes (SpellsValue one t (suc levels) kinds.Int) (SpellsValue two u (suc levels) l)) (sym e) (plain_carried int (SpellsSigned w32))
  value_carried (suc levels) kinds.Long l e = subst (λ (l : TypeRef). Goes (SpellsValue one t (suc levels) kinds.Long) (SpellsValue two u (suc levels) l)) (sym e) (plain_carried long (SpellsSigned w64))
  value_carried (suc levels) kinds.Text l e = subst (λ (l : TypeRef). Goes (SpellsValue one t (suc levels) kinds.Text) (SpellsValue two u (suc levels) l)) (sym e) (plain_carried text SpellsText)
  value_carried (suc levels) (kinds.Proxy None) l e = subst (λ (l : TypeRef). Goes (SpellsValue one t (suc levels) (kinds.Proxy None)) (SpellsValue two u (suc levels) l)) (sym e) (plain_carried proxy parts.proxy.Spells)
  value_carried (suc levels) (kinds.Proxy (Some a)) l (b, is, same) = subst (λ (l : TypeRef). Goes (SpellsValue one t (suc levels) (kinds.Proxy (Some a))) (SpellsValue two u (suc levels) l)) (sym is) (plain_carried proxy parts.proxy.Spells)
  value_carried (suc levels) (kinds.Enum a) l (b, is, same) = subst (λ (l : TypeRef). Goes (SpellsValue one t (suc levels) (kinds.Enum a)) (SpellsValue two u (suc levels) l)) (sym is)
      (λ bytes v from to h.
      let r = agrees.enums a b same in
      let row : Some r.0 ≡ Some h.0 = sym r.2 ∙ h.1 in
      let entries : h.0.entries ≡ r.1.entries = ap (λ (o : Option _). elim o [ None ↦ [] | Some e ↦ e.entries ]) (sym row) ∙ same_entries r.0.entries r.1.entries r.4 in (
        still from to h.2.2.1,
        λ begin s good. (
          begin,
          (r.1, r.3, (h.2.0, h.2.1, (subst (λ (es : List Entry). SpellsEnumerator es bytes h.2.0) entries h.2.2.0, refl))),
          moved from to begin h.2.2.1 s,
        ),
      ))
  value_carried (suc levels) (kinds.Class None) l e = subst (λ (l : TypeRef). Goes (SpellsValue one t (suc levels) (kinds.Class None)) (SpellsValue two u (suc levels) l)) (sym e)
      (λ bytes v from to h.
      let g = refer None None refl bytes h.0 from to h.2 in
      (g.0, λ begin r good. let p = g.1 begin r good in (p.0, (h.0, h.1, p.1), p.2)))
  value_carried (suc levels) (kinds.Class (Some a)) l (b, is, same) = subst (λ (l : TypeRef). Goes (SpellsValue one t (suc levels) (kinds.Class (Some a))) (SpellsValue two u (suc levels) l)) (sym is)
      (λ bytes v from to h.
      let g = refer (Some a) (Some b) (b, refl, same) bytes h.0 from to h.2 in
      (g.0, λ begin r good. let p = g.1 begin r good in (p.0, (h.0, h.1, p.1), p.2)))
  value_carried (suc levels) (kinds.Seq a) l (b, is, same) = subst (λ (l : TypeRef). Goes (SpellsValue one t (suc levels) (kinds.Seq a)) (SpellsValue two u (suc levels) l)) (sym is)
      (λ bytes v from to (q, row, (items, v_is, (n, front, body, parts, size, each))).
      let r = agrees.seqs a b same in
      let there : Some r.0 ≡ Some q = sym r.2 ∙ row in
      let kind : SameKind t u q.element r.1.element = let e : r.0 ≡ q = cc in subst (λ (d : _). SameKind t u d.element r.1.element) e r.4 in
      let g = each_carried (SpellsValue one t levels) (SpellsValue two u levels) (value_carried levels) (replicate n q.element) (replicate n r.1.element) (repeated t u q.element r.1.element kind n) body items from to each in
      (g.0, λ begin s good. let p = g.1 begin s good in (p.0, (r.1, r.3, (items, v_is, (n, front, body, parts, size, p.1))), p.2)))
  value_carried (suc levels) (kinds.Dict a) l (b, is, same) = subst (λ (l : TypeRef). Goes (SpellsValue one t (suc levels) (kinds.Dict a)) (SpellsValue two u (suc levels) l)) (sym is)
      (λ bytes v from to (d, row, (pairs, v_is, (n, front, body, parts, size, some))).
      let r = agrees.dicts a b same in
      let there : Some r.0 ≡ Some d = sym r.2 ∙ row in
      let both : SameKind t u d.key r.1.key × SameKind t u d.value r.1.value = let e : r.0 ≡ d = cc in subst (λ (d : _). SameKind t u d.key r.1.key × SameKind t u d.value r.1.value) e r.4 in
      let g = pairs_carried (SpellsValue one t levels d.key) (SpellsValue one t levels d.value) (SpellsValue two u levels r.1.key) (SpellsValue two u levels r.1.value)
      (value_carried levels d.key r.1.key both.0) (value_carried levels d.value r.1.value both.1) n no_entry body pairs from to some in
      (g.0, λ begin s good. let p = g.1 begin s good in (p.0, (r.1, r.3, (pairs, v_is, (n, front, body, parts, size, p.1))), p.2)))
  value_carried (suc levels) (kinds.Struct a) l (b, is, same) = subst (λ (l : TypeRef). Goes (SpellsValue one t (suc levels) (kinds.Struct a)) (SpellsValue two u (suc levels) l)) (sym is)
      (λ bytes v from to (d, row, (members, v_is, each)).
      let r = agrees.structs a b same in
      let there : Some r.0 ≡ Some d = sym r.2 ∙ row in
      let both : SameMembers t u d.members r.1.members = let e : r.0 ≡ d = cc in subst (λ (d : _). SameMembers t u d.members r.1.members) e r.4 in
      let g = each_carried (SpellsValue one t levels) (SpellsValue two u levels) (value_carried levels) (map (λ m. m.kind) d.members) (map (λ m. m.kind) r.1.members) (kinds_same t u d.members r.1.members both) bytes members from to each in
      (g.0, λ begin s good. let p = g.1 begin s good in (p.0, (r.1, r.3, (members, v_is, p.1)), p.2)))

  -- ---- optional members

  framed_carried : (prefix : Prefix) (X : Speller S Tree) (Y : Speller Z Tree) → Goes X Y → Goes (Framed prefix X) (Framed prefix Y)
  framed_carried no_length X Y go = go
  framed_carried own_size X Y go = go
  framed_carried as_size X Y go = λ bytes v from to h. let g = go h.1 v from to h.4 in (g.0, λ begin r good. let p = g.1 begin r good in (p.0, (h.0, h.1, h.2, h.3, p.1), p.2))
  framed_carried as_int X Y go = λ bytes v from to h. let g = go h.1 v from to h.4 in (g.0, λ begin r good. let p = g.1 begin r good in (p.0, (h.0, h.1, h.2, h.3, p.1), p.2))

  skipped_carried : (reference : Bool) (format : ℕ) → Goes (SkippedBy one t reference format) (SkippedBy two u reference format)
  skipped_carried true format bytes v from to h =
      let g = refer None None refl bytes h.0 from to h.2 in
      (g.0, λ begin r good. let p = g.1 begin r good in (p.0, (h.0, h.1, p.1), p.2))
  skipped_carried false format bytes v from to h = (still from to h.2, λ begin r good. (begin, (h.0, h.1, refl), moved from to begin h.2 r))

  tagged_carried : (k l : Option TypeRef) → TiedOption t u k l → (format : ℕ) → Goes (Tagged one t k format) (Tagged two u l format)
  tagged_carried None l e format = subst (λ (l : Option TypeRef). Goes (Tagged one t None format) (Tagged two u l format)) (sym e) (skipped_carried (format == FORMAT_CLASS) format)
  tagged_carried (Some k) l (other, is, tied) format = subst (λ (l : Option TypeRef). Goes (Tagged one t (Some k) format) (Tagged two u l format)) (sym is)
      (λ bytes v from to (test, (x, v_is, h)).
      let g = framed_carried (prefix_of t k) (SpellsValue one t MOST_DEPTH k) (SpellsValue two u MOST_DEPTH other) (value_carried MOST_DEPTH k other tied) bytes x from to h in (
        g.0,
        λ begin r good.
            let p = g.1 begin r good in (
              p.0,
              (
                subst (λ (f : ℕ). (format == f) ≡ true) (same_optional t u agrees k other tied) test,
                (x, v_is, subst (λ (prefix : Prefix). Framed prefix (SpellsValue two u MOST_DEPTH other) bytes x begin p.0) (same_prefix t u agrees k other tied) p.1),
              ),
              p.2,
            ),
      ))

  options_carried : (marked : Bool) (ms ns : List Member) → SameMembers t u ms ns → (n : ℕ) (last : Option ℕ) → Goes (Options one t marked ms n last) (Options two u marked ns n last)
  options_carried marked ms ns tied zero last bytes x from to h = (still from to h.2, λ begin r good. (begin, (h.0, h.1, refl), moved from to begin h.2 r))
  options_carried marked ms ns tied (suc n) last bytes x from to (number, format, v, others, lead, a, b, mid, parts, is_tag, rise, is_value, is_list, rest) =
      let more = options_carried marked ms ns tied n (Some number) b others mid to rest in
      let head = tagged_carried (kind_tagged number ms) (kind_tagged number ns) (tagged_same t u number ms ns tied) format a v from mid is_value in (
        steps.joined from mid to head.0 more.0,
        λ begin r good.
            let p = head.1 begin r (steps.back mid to more.0 good) in
            let q = more.1 p.0 p.2 good in
            (q.0, (number, format, v, others, lead, a, b, p.0, parts, is_tag, rise, p.1, is_list, q.1), q.2),
      )

  all_carried : (marked : Bool) (ms ns : List Member) → SameMembers t u ms ns → Goes (AllOptions one t marked ms) (AllOptions two u marked ns)
  all_carried marked ms ns tied bytes x from to h =
      let g = options_carried marked ms ns tied h.0 None bytes x from to h.1 in
      (g.0, λ begin r good. let p = g.1 begin r good in (p.0, (h.0, p.1), p.2))

  flagged_carried : (flagged : Bool) (ms ns : List Member) → SameMembers t u ms ns → Goes (IfFlagged one t flagged (AllOptions one t true ms)) (IfFlagged two u flagged (AllOptions two u true ns))
  flagged_carried true ms ns tied = all_carried true ms ns tied
  flagged_carried false ms ns tied = λ bytes x from to h. (still from to h.2, λ begin r good. (begin, (h.0, h.1, refl), moved from to begin h.2 r))

  pub slice_carried : (flagged : Bool) (shape other : Shape) → SameShape t u shape other → Goes (SpellsSliceMembers one t flagged shape) (SpellsSliceMembers two u flagged other)
  slice_carried flagged shape other tied bytes c from to (required, a, b, mid, parts, each, (optional, is, h)) =
      let more = flagged_carried flagged shape.optional other.optional tied.1 b optional mid to h in
      let head = each_carried (SpellsValue one t MOST_DEPTH) (SpellsValue two u MOST_DEPTH) (value_carried MOST_DEPTH) (required_kinds shape) (required_kinds other) (required_same t u shape other tied) a required from mid each in (
        steps.joined from mid to head.0 more.0,
        λ begin r good.
            let p = head.1 begin r (steps.back mid to more.0 good) in
            let q = more.1 p.0 p.2 good in
            (q.0, (required, a, b, p.0, parts, p.1, (optional, is, q.1)), q.2),
      )

  pub content_carried : (shape other : Shape) → SameShape t u shape other → Goes (SpellsContent one t shape) (SpellsContent two u other)
  content_carried shape other tied bytes c from to (required, a, b, mid, parts, each, (optional, is, h)) =
      let more = all_carried false shape.optional other.optional tied.1 b optional mid to h in
      let head = each_carried (SpellsValue one t MOST_DEPTH) (SpellsValue two u MOST_DEPTH) (value_carried MOST_DEPTH) (required_kinds shape) (required_kinds other) (required_same t u shape other tied) a required from mid each in (
        steps.joined from mid to head.0 more.0,
        λ begin r good.
            let p = head.1 begin r (steps.back mid to more.0 good) in
            let q = more.1 p.0 p.2 good in
            (q.0, (required, a, b, p.0, parts, p.1, (optional, is, q.1)), q.2),
      )
