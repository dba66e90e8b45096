-- Types that are the same in both schemas are of one measure, so their optional members stand in one format.
use Rattle.std.proofs.Common.{ℕ, zero, suc, ◌≡◌, ◌==◌, Bool, true, false, List, [], ◌∷◌, map, replicate, refl, sym, ap, ◌∙◌, subst, Option, Some, None}
use Rattle.std.specs.Prelude.{cond, filter, ◌&&◌, if◌then◌else◌}
use Rattle.std.specs.Option.{is_some, is_none}
use Rattle.ice_types.specs.declared.kind.TypeRef.{TypeRef}
use Rattle.ice_types.specs.declared.kind.TypeRef.TheVariants as kinds
use Rattle.ice_types.specs.declared.declarations.Member.{Member}
use Rattle.ice_types.specs.declared.declarations.Shape.{Shape}
use Rattle.ice_types.specs.declared.declarations.Entry.{Entry}
use Rattle.ice_types.specs.declared.declarations.ClassDecl.{ClassDecl}
use Rattle.ice_types.specs.declared.measure.Measure.{Measure}
use Rattle.ice_types.specs.declared.optional_format.TheConstants.{FORMAT_FSIZE}
use Rattle.ice_types.specs.declared.schema.TheConstants.{MOST_DEPTH}
use Rattle.ice_types.specs.Tables.{Tables}
use Rattle.ice_types.specs.Measures.{measure, measured, measure_members, with_member, sequence_of, dictionary_of, struct_of, fixed_size, enumeration, proxy, reference}
use Rattle.ice_types.specs.Formats.{optional_format, of_parts, is_fixed}
use Rattle.ice_types.specs.Lacking.{AreSame, SameEntry, SameKind, SameMember, SameShape}
use Rattle.ice_encoding.specs.Optionals.{kind_tagged}
use Rattle.ice_encoding.specs.OptionalMembers.{shape_of, required_kinds}
use Rattle.ice_encoding.specs.Prefixes.{counts_itself, is_one, prefix_by, prefix_of}
use Rattle.ice_encoding.specs.Classes.{members_in, own_members}
use Rattle.graph_laws.specs.Seeing.{SameClassId}
use Rattle.graph_laws.proofs.Rows.{Agrees, row_there}

pub same_entries : (es fs : List Entry) → AreSame SameEntry es fs → es ≡ fs
same_entries [] [] h = refl
same_entries [] (f ∷ fs) h = absurd h
same_entries (e ∷ es) [] h = absurd h
same_entries (e ∷ es) (f ∷ fs) h = let rest = same_entries es fs h.1 in λ i. record { name = h.0.0 i; number = h.0.1 i } ∷ rest i

module _ (t u : Tables) where
  -- ---- types one by one

  abbrev pub SameKinds : List TypeRef → List TypeRef → Type 0
  SameKinds ks ls = AreSame (SameKind t u) ks ls

  abbrev pub SameMembers : List Member → List Member → Type 0
  SameMembers ms ns = AreSame (SameMember t u) ms ns

  pub repeated : (k l : TypeRef) → SameKind t u k l → (n : ℕ) → SameKinds (replicate n k) (replicate n l)
  repeated k l tied zero = tt
  repeated k l tied (suc n) = (tied, repeated k l tied n)

  pub kinds_same : (ms ns : List Member) → SameMembers ms ns → SameKinds (map (λ m. m.kind) ms) (map (λ m. m.kind) ns)
  kinds_same [] [] h = tt
  kinds_same [] (n ∷ ns) h = absurd h
  kinds_same (m ∷ ms) [] h = absurd h
  kinds_same (m ∷ ms) (n ∷ ns) h = (h.0.1, kinds_same ms ns h.1)

  pub required_same : (shape other : Shape) → SameShape t u shape other → SameKinds (required_kinds shape) (required_kinds other)
  required_same shape other h = kinds_same shape.required other.required h.0

  -- the type under a tag
  abbrev pub TiedOption : Option TypeRef → Option TypeRef → Type 0
  TiedOption None other = other ≡ None
  TiedOption (Some k) other = (l : TypeRef) × (other ≡ Some l) × SameKind t u k l

  by_test : (here : Bool) (k l : TypeRef) (o p : Option TypeRef) → SameKind t u k l → TiedOption o p → TiedOption (if here then Some k else o) (if here then Some l else p)
  by_test true k l o p tied rest = (l, refl, tied)
  by_test false k l o p tied rest = rest

  by_tag : (number : ℕ) (tag : Option ℕ) (k l : TypeRef) (o p : Option TypeRef) → SameKind t u k l → TiedOption o p
      → TiedOption (elim tag [ None ↦ o | Some other ↦ if number == other then Some k else o ]) (elim tag [ None ↦ p | Some other ↦ if number == other then Some l else p ])
  by_tag number None k l o p tied rest = rest
  by_tag number (Some other) k l o p tied rest = by_test (number == other) k l o p tied rest

  pub tagged_same : (number : ℕ) (ms ns : List Member) → SameMembers ms ns → TiedOption (kind_tagged number ms) (kind_tagged number ns)
  tagged_same number [] [] h = refl
  tagged_same number [] (n ∷ ns) h = absurd h
  tagged_same number (m ∷ ms) [] h = absurd h
  tagged_same number (m ∷ ms) (n ∷ ns) h =
      subst (λ (tag : Option ℕ). TiedOption (kind_tagged number (m ∷ ms)) (elim tag [ None ↦ kind_tagged number ns | Some other ↦ if number == other then Some n.kind else kind_tagged number ns ])) h.0.2
      (by_tag number m.tag m.kind n.kind (kind_tagged number ms) (kind_tagged number ns) h.0.1 (tagged_same number ms ns h.1))

  -- ---- the members of a class, those without a tag and those with one

  by_unknown : (b : Bool) (m n : Member) (ms ns : List Member) → SameMember t u m n → SameMembers ms ns → SameMembers (cond b (m ∷ ms) ms) (cond b (n ∷ ns) ns)
  by_unknown true m n ms ns same rest = (same, rest)
  by_unknown false m n ms ns same rest = rest

  filtered : (test : Option ℕ → Bool) (ms ns : List Member) → SameMembers ms ns → SameMembers (filter (λ m. test m.tag) ms) (filter (λ m. test m.tag) ns)
  filtered test [] [] h = tt
  filtered test [] (n ∷ ns) h = absurd h
  filtered test (m ∷ ms) [] h = absurd h
  filtered test (m ∷ ms) (n ∷ ns) h =
      subst (λ (b : Bool). SameMembers (filter (λ m. test m.tag) (m ∷ ms)) (cond b (n ∷ filter (λ m. test m.tag) ns) (filter (λ m. test m.tag) ns))) (ap test h.0.2)
      (by_unknown (test m.tag) m n (filter (λ m. test m.tag) ms) (filter (λ m. test m.tag) ns) h.0 (filtered test ms ns h.1))

  pub shapes_same : (ms ns : List Member) → SameMembers ms ns → SameShape t u (shape_of ms) (shape_of ns)
  shapes_same ms ns h = (filtered is_none ms ns h, filtered is_some ms ns h)

  -- ---- measures

  module _ (agrees : Agrees t u) where
    pub own_same : (a b : ℕ) → SameClassId t u a b → SameShape t u (own_members t a) (own_members u b)
    own_same a b same =
        let r = agrees.classes a b same in
        subst (λ (o : Option ClassDecl). SameShape t u (shape_of (members_in o)) (own_members u b)) (sym r.2)
        (subst (λ (o : Option ClassDecl). SameShape t u (shape_of r.0.members) (shape_of (members_in o))) (sym r.3) (shapes_same r.0.members r.1.members r.4.1))

    same_members : (one two : TypeRef → Option Measure) → ((k l : TypeRef) → SameKind t u k l → one k ≡ two l) → (ms ns : List Member) → SameMembers ms ns → measure_members one ms ≡ measure_members two ns
    same_members one two same [] [] h = refl
    same_members one two same [] (n ∷ ns) h = absurd h
    same_members one two same (m ∷ ms) [] h = absurd h
    same_members one two same (m ∷ ms) (n ∷ ns) h =
        ap (λ (o : Option Measure). measured o (λ first. measured (measure_members one ms) (λ others. Some (with_member first others)))) (same m.kind n.kind h.0.1)
        ∙ ap (λ (o : Option Measure). measured (two n.kind) (λ first. measured o (λ others. Some (with_member first others)))) (same_members one two same ms ns h.1)

    pub same_measure : (levels : ℕ) (k l : TypeRef) → SameKind t u k l → measure t levels k ≡ measure u levels l
    unfolding measure
    same_measure zero k l tied = refl
    same_measure (suc levels) kinds.Bool l e = ap (measure u (suc levels)) (sym e)
    same_measure (suc levels) kinds.Byte l e = ap (measure u (suc levels)) (sym e)
    same_measure (suc levels) kinds.Short l e = ap (measure u (suc levels)) (sym e)
    same_measure (suc levels) kinds.Int l e = ap (measure u (suc levels)) (sym e)
    same_measure (suc levels) kinds.Long l e = ap (measure u (suc levels)) (sym e)
    same_measure (suc levels) kinds.Text l e = ap (measure u (suc levels)) (sym e)
    same_measure (suc levels) (kinds.Seq a) l (b, is, same) =
        let r = agrees.seqs a b same in
        rw r.2 (ap sequence_of (same_measure levels r.0.element r.1.element r.4)
        ∙ ap (λ (o : Option _). measured o (λ q. sequence_of (measure u levels q.element))) (sym r.3) ∙ ap (measure u (suc levels)) (sym is))
    same_measure (suc zero) (kinds.Dict a) l (b, is, same) = ap (measure u 1) (sym is)
    same_measure (suc (suc levels)) (kinds.Dict a) l (b, is, same) =
        let r = agrees.dicts a b same in
        rw r.2 (ap (λ (o : Option Measure). dictionary_of o (measure t levels r.0.value)) (same_measure levels r.0.key r.1.key r.4.0)
        ∙ ap (λ (o : Option Measure). dictionary_of (measure u levels r.1.key) o) (same_measure levels r.0.value r.1.value r.4.1)
        ∙ ap (λ (o : Option _). measured o (λ d. dictionary_of (measure u levels d.key) (measure u levels d.value))) (sym r.3) ∙ ap (measure u (suc (suc levels))) (sym is))
    same_measure (suc levels) (kinds.Struct a) l (b, is, same) =
        let r = agrees.structs a b same in
        rw r.2 (ap struct_of (same_members (measure t levels) (measure u levels) (same_measure levels) r.0.members r.1.members r.4)
        ∙ ap (λ (o : Option _). measured o (λ d. struct_of (measure_members (measure u levels) d.members))) (sym r.3) ∙ ap (measure u (suc levels)) (sym is))
    same_measure (suc levels) (kinds.Enum a) l (b, is, same) =
        let r = agrees.enums a b same in
        rw r.2 (ap (λ (o : Option _). measured o (λ _. Some enumeration)) (sym r.3) ∙ ap (measure u (suc levels)) (sym is))
    same_measure (suc levels) (kinds.Proxy None) l e = ap (measure u (suc levels)) (sym e)
    same_measure (suc levels) (kinds.Proxy (Some a)) l (b, is, (id, here, there)) =
        let p = row_there (λ i. i.id) t.interfaces a id here in
        let q = row_there (λ i. i.id) u.interfaces b id there in
        rw p.1 (ap (λ (o : Option _). measured o (λ _. Some proxy)) (sym q.1) ∙ ap (measure u (suc levels)) (sym is))
    same_measure (suc levels) (kinds.Class None) l e = ap (measure u (suc levels)) (sym e)
    same_measure (suc levels) (kinds.Class (Some a)) l (b, is, (id, here, there)) =
        let p = row_there (λ c. c.id) t.classes a id here in
        let q = row_there (λ c. c.id) u.classes b id there in
        rw p.1 (ap (λ (o : Option _). measured o (λ _. Some reference)) (sym q.1) ∙ ap (measure u (suc levels)) (sym is))

    pub same_fixed : (k l : TypeRef) → SameKind t u k l → fixed_size t k ≡ fixed_size u l
    same_fixed k l tied = ap (λ (o : Option Measure). measured o (λ m. if m.is_fixed then Some m.smallest else None)) (same_measure MOST_DEPTH k l tied)

    pub same_optional : (k l : TypeRef) → SameKind t u k l → optional_format t k ≡ optional_format u l
    same_optional kinds.Bool l e = ap (optional_format u) (sym e)
    same_optional kinds.Byte l e = ap (optional_format u) (sym e)
    same_optional kinds.Short l e = ap (optional_format u) (sym e)
    same_optional kinds.Int l e = ap (optional_format u) (sym e)
    same_optional kinds.Long l e = ap (optional_format u) (sym e)
    same_optional kinds.Text l e = ap (optional_format u) (sym e)
    same_optional (kinds.Enum a) l (b, is, same) = ap (optional_format u) (sym is)
    same_optional (kinds.Proxy None) l e = ap (optional_format u) (sym e)
    same_optional (kinds.Proxy (Some a)) l (b, is, same) = ap (optional_format u) (sym is)
    same_optional (kinds.Class None) l e = ap (optional_format u) (sym e)
    same_optional (kinds.Class (Some a)) l (b, is, same) = ap (optional_format u) (sym is)
    same_optional (kinds.Seq a) l (b, is, same) =
        let r = agrees.seqs a b same in
        rw (r.2, optional_format) (ap (λ (o : Option ℕ). of_parts (is_some o)) (same_fixed r.0.element r.1.element r.4)
        ∙ ap (λ (o : Option _). elim o [ None ↦ FORMAT_FSIZE | Some q ↦ of_parts (is_fixed u q.element) ]) (sym r.3) ∙ ap (optional_format u) (sym is))
    same_optional (kinds.Dict a) l (b, is, same) =
        let r = agrees.dicts a b same in
        rw (r.2, optional_format) (ap (λ (o : Option ℕ). of_parts (is_some o && is_fixed t r.0.value)) (same_fixed r.0.key r.1.key r.4.0)
        ∙ ap (λ (o : Option ℕ). of_parts (is_fixed u r.1.key && is_some o)) (same_fixed r.0.value r.1.value r.4.1)
        ∙ ap (λ (o : Option _). elim o [ None ↦ FORMAT_FSIZE | Some d ↦ of_parts (is_fixed u d.key && is_fixed u d.value) ]) (sym r.3) ∙ ap (optional_format u) (sym is))
    same_optional (kinds.Struct a) l (b, is, same) = ap (λ (o : Option ℕ). of_parts (is_some o)) (same_fixed (kinds.Struct a) (kinds.Struct b) (b, refl, same)) ∙ ap (optional_format u) (sym is)

    same_counts : (k l : TypeRef) → SameKind t u k l → counts_itself t k ≡ counts_itself u l
    same_counts kinds.Bool l e = ap (counts_itself u) (sym e)
    same_counts kinds.Byte l e = ap (counts_itself u) (sym e)
    same_counts kinds.Short l e = ap (counts_itself u) (sym e)
    same_counts kinds.Int l e = ap (counts_itself u) (sym e)
    same_counts kinds.Long l e = ap (counts_itself u) (sym e)
    same_counts kinds.Text l e = ap (counts_itself u) (sym e)
    same_counts (kinds.Dict a) l (b, is, same) = ap (counts_itself u) (sym is)
    same_counts (kinds.Struct a) l (b, is, same) = ap (counts_itself u) (sym is)
    same_counts (kinds.Enum a) l (b, is, same) = ap (counts_itself u) (sym is)
    same_counts (kinds.Proxy None) l e = ap (counts_itself u) (sym e)
    same_counts (kinds.Proxy (Some a)) l (b, is, same) = ap (counts_itself u) (sym is)
    same_counts (kinds.Class None) l e = ap (counts_itself u) (sym e)
    same_counts (kinds.Class (Some a)) l (b, is, same) = ap (counts_itself u) (sym is)
    same_counts (kinds.Seq a) l (b, is, same) =
        let r = agrees.seqs a b same in
        rw (r.2, counts_itself) (ap is_one (same_fixed r.0.element r.1.element r.4)
        ∙ ap (λ (o : Option _). elim o [ None ↦ false | Some q ↦ is_one (fixed_size u q.element) ]) (sym r.3) ∙ ap (counts_itself u) (sym is))

    pub same_prefix : (k l : TypeRef) → SameKind t u k l → prefix_of t k ≡ prefix_of u l
    same_prefix k l tied = ap (λ (b : Bool). prefix_by b (optional_format t k)) (same_counts k l tied) ∙ ap (prefix_by (counts_itself u l)) (same_optional k l tied)
