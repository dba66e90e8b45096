-- Parts one after the other, and the steps over them.
use Rattle.std.proofs.Common.{◌≡◌, ℕ, zero, suc, ◌+◌, ◌-◌, ◌*◌, ◌<◌, ◌≤◌, ◌^◌, List, [], ◌∷◌, ◌++◌, length, take, drop, replicate, Option, None, Some, refl, sym, ap, ◌∙◌, subst, arith, append_assoc}
use Rattle.std.specs.Prelude.{slice_get, slice_range}
use Rattle.std.proofs.lemmas.List.{take-append-drop, length-take-le, length-drop, drop-drop}
use Rattle.ice_types.specs.declared.kind.TypeRef.{TypeRef}
use Rattle.ice_types.specs.declared.kind.TypeRef.TheVariants as kinds
use Rattle.ice_types.specs.declared.declarations.Member.{Member}
use Rattle.ice_types.specs.declared.declarations.SeqDecl.{SeqDecl}
use Rattle.ice_types.specs.declared.declarations.DictDecl.{DictDecl}
use Rattle.ice_types.specs.declared.declarations.StructDecl.{StructDecl}
use Rattle.ice_types.specs.Tables.{Tables}
use Rattle.ice_prims.specs.Rest.{IsBytes}
use Rattle.ice_prims.specs.Bytes.{size_bytes}
use Rattle.ice_encoding.specs.Tree.{Tree, dictionary, Entries, no_entry, entry, entry_count}
use Rattle.ice_encoding.specs.Writing.{written_pairs, as_number}
use Rattle.ice_encoding.specs.Typed.{HasType, PairsOf, no_reference}
use Rattle.ice_encoding.specs.Canonical.{canonical}
use Rattle.ice_encoding.specs.Order.{IsRising}
use Rattle.canonical_values.specs.declared.frame.Left.TheVariants.{Items, Members, Pairs}
use Rattle.canonical_values.specs.declared.frame.Frame.{Frame}
use Rattle.canonical_values.specs.declared.frame.Part.{Part}
use Rattle.canonical_values.specs.declared.frame.Part.TheVariants as found
use Rattle.canonical_values.specs.declared.frame.Step.{Step}
use Rattle.canonical_values.specs.Fronts.{IsFront}
use Rattle.canonical_values.specs.Standing.{Stands, StandEach, StandPairs, IsAbove, IsPlain, LeafStands, only_null, members_of, kinds_of}
use Rattle.canonical_values.specs.Keys.{KeyStands}
use Rattle.canonical_values.specs.Frames.{Fills, Passes, PartFound, KeyFound, Steps, NextKind, as_step, key_in}
use Rattle.canonical_values.proofs.Fronts.{front_fits, rest_fits}
use Rattle.canonical_values.proofs.Rows.{each_less, sequence_stands, struct_stands, rows_stand}

-- ---- dictionaries

abbrev pub pairs_bytes : Entries → List ℕ
pairs_bytes ps = (written_pairs as_number ps tt).0

module _ (t : Tables) (levels : ℕ) (key value : TypeRef) where
  abbrev pub Follows : Option (List ℕ) → Entries → Type 0
  Follows last no_entry = Unit {0}
  Follows last (entry k v rest) = IsAbove t levels key last k

  pub record PairValues (n : ℕ) (last : Option (List ℕ)) (bytes : List ℕ) : Type 0 where
    pub pairs : Entries
    pub typed : PairsOf (HasType t no_reference levels key) (HasType t only_null levels value) pairs
    pub many : entry_count pairs ≡ n
    pub rise : IsRising pairs
    pub follow : Follows last pairs
    pub are : bytes ≡ pairs_bytes pairs

  rise_more : (k v : Tree) (rest : Entries) → HasType t no_reference levels key k → Follows (Some (canonical k)) rest → IsRising rest → IsRising (entry k v rest)
  rise_more k v no_entry typed follow rise = tt
  rise_more k v (entry l w rest) typed follow rise = (follow k typed refl, rise)

  pub pairs_of : (n : ℕ) (last : Option (List ℕ)) (bytes : List ℕ) → StandPairs t levels key value n last bytes → PairValues n last bytes
  pairs_of zero last bytes e = record { pairs = no_entry; typed = tt; many = refl; rise = tt; follow = tt; are = e }
  pairs_of (suc n) last bytes (k, v, rest, parts, typed, above, (w, held, is), more) =
      let others = pairs_of n (Some (canonical k)) rest more in
      record {
        pairs = entry k w others.pairs;
        typed = (typed, held, others.typed);
        many = ap suc others.many;
        rise = rise_more k w others.pairs typed others.follow others.rise;
        follow = above;
        are = parts ∙ ap (λ (l : List ℕ). canonical k ++ (l ++ rest)) is ∙ ap (λ (l : List ℕ). canonical k ++ (canonical w ++ l)) others.are;
      }

pub dictionary_stands : (t : Tables) (levels at n : ℕ) (d : DictDecl) (front body : List ℕ) → slice_get t.dicts at ≡ Some d → n < 2 ^ 31 → front ≡ size_bytes n
    → StandPairs t levels d.key d.value n None body → Stands t (suc levels) (kinds.Dict at) (front ++ body)
dictionary_stands t levels at n d front body row fits is each =
    let all = pairs_of t levels d.key d.value n None body each in (
      dictionary all.pairs,
      (d, row, all.pairs, refl, subst (λ (m : ℕ). m < 2 ^ 31) (sym all.many) fits, all.rise, all.typed),
      ap (λ (l : List ℕ). l ++ body) (is ∙ ap size_bytes (sym all.many)) ∙ ap (λ (l : List ℕ). size_bytes (entry_count all.pairs) ++ l) all.are,
    )

-- the bytes of a range
pub range_is : (input : List ℕ) (at n : ℕ) → slice_range input at (at + n) ≡ take n (drop at input)
range_is input at n = let e : (at + n) - at ≡ n = omega arith in rw e refl

-- the first of the members that are left
pub next_kind : (t : Tables) (place next : ℕ) (d : StructDecl) (member : Member) → slice_get t.structs place ≡ Some d → slice_get d.members next ≡ Some member
    → NextKind (drop next (members_of (slice_get t.structs place))) (Some member.kind)
next_kind t place next d member row is = subst (λ (o : Option StructDecl). NextKind (drop next (members_of o)) (Some member.kind)) (sym row) (first d.members next is)
  where
    first : (members : List Member) (next : ℕ) → slice_get members next ≡ Some member → NextKind (drop next (kinds_of members)) (Some member.kind)
    first [] zero e = absurd cc
    first [] (suc next) e = absurd cc
    first (m ∷ ms) zero e = let same : m ≡ member = cc in (kinds_of ms, ap (λ (x : Member). x.kind ∷ kinds_of ms) same)
    first (m ∷ ms) (suc next) e = first ms next e

-- ---- one part

module _ (t : Tables) (input : List ℕ) where
  pub passes_none : (at : ℕ) → at ≤ length input → Passes t input at at []
  passes_none at le = (le, refl)

  pub passes_front : (at n : ℕ) → at ≤ length input → n ≤ length (drop at input) → Passes t input at (at + n) (take n (drop at input))
  passes_front at n le few =
      (omega (arith, length-drop at input), sym (take-append-drop n (drop at input)) ∙ ap (λ (l : List ℕ). take n (drop at input) ++ l) (drop-drop n at input))

  pub passes_then : (at mid end : ℕ) (a b : List ℕ) → Passes t input at mid a → Passes t input mid end b → Passes t input at end (a ++ b)
  passes_then at mid end a b p q = (q.0, p.1 ∙ ap (λ (l : List ℕ). a ++ l) q.1 ∙ sym (append_assoc a b (drop end input)))

  -- the size at a place
  abbrev pub SizeAt : ℕ → ℕ → ℕ → Type 0
  SizeAt at n taken = IsFront (λ m. m < 2 ^ 31) size_bytes (drop at input) n taken

  pub leaf_part : (levels at n : ℕ) (kind : TypeRef) → 0 < levels → at ≤ length input → n ≤ length (drop at input) → LeafStands t kind (take n (drop at input)) → PartFound t input levels kind at (found.Over (at + n))
  leaf_part zero at n kind deep le few stands = absurd (omega (arith, deep))
  leaf_part (suc levels) at n kind deep le few stands = (take n (drop at input), passes_front at n le few, stands levels)

  pub struct_part : (levels at place : ℕ) (d : StructDecl) → at ≤ length input → slice_get t.structs place ≡ Some d
      → PartFound t input (suc levels) (kinds.Struct place) at (found.Into at (record { levels = levels; left = Members place 0 }))
  struct_part levels at place d le row =
      ([], (le, refl), λ inner h. struct_stands t only_null levels place d inner row (subst (λ (o : Option StructDecl). StandEach t levels (members_of o) inner) row h))

  pub sequence_part : (levels at place n taken : ℕ) (q : SeqDecl) → at ≤ length input → slice_get t.seqs place ≡ Some q → SizeAt at n taken
      → PartFound t input (suc levels) (kinds.Seq place) at (found.Into (at + taken) (record { levels = levels; left = Items q.element n }))
  sequence_part levels at place n taken q le row (few, fits, is) =
      (take taken (drop at input), passes_front at taken le few, λ inner h. sequence_stands t only_null levels place n q (take taken (drop at input)) inner row fits is h)

  pub rows_part : (levels at place n taken one : ℕ) (q : SeqDecl) → 2 ≤ levels → IsBytes input → at ≤ length input → slice_get t.seqs place ≡ Some q → SizeAt at n taken
      → ((levels : ℕ) → IsPlain t (suc (suc levels)) q.element one) → n * one ≤ length (drop (at + taken) input)
      → PartFound t input (suc levels) (kinds.Seq place) at (found.Over ((at + taken) + n * one))
  rows_part zero at place n taken one q deep fits le row size plain long = absurd (omega (arith, deep))
  rows_part (suc zero) at place n taken one q deep fits le row size plain long = absurd (omega (arith, deep))
  rows_part (suc (suc levels)) at place n taken one q deep fits le row (few, small, is) plain long =
      let next = at + taken in
      let body = take (n * one) (drop next input) in
      let front = passes_front at taken le few in
      let back = passes_front next (n * one) front.0 long in
      let rows = rows_stand t (suc (suc levels)) one q.element (plain levels) n body (front_fits (n * one) (drop next input) (rest_fits next input fits)) (length-take-le (n * one) (drop next input) long) in (
        take taken (drop at input) ++ body,
        passes_then at next (next + n * one) (take taken (drop at input)) body front back,
        sequence_stands t only_null (suc (suc levels)) place n q (take taken (drop at input)) body row small is rows,
      )

  pub dictionary_part : (levels at place n taken : ℕ) (d : DictDecl) → at ≤ length input → slice_get t.dicts place ≡ Some d → SizeAt at n taken
      → PartFound t input (suc levels) (kinds.Dict place) at (found.Into (at + taken) (record { levels = levels; left = Pairs d.key d.value n None }))
  dictionary_part levels at place n taken d le row (few, fits, is) =
      (take taken (drop at input), passes_front at taken le few, λ inner h. dictionary_stands t levels place n d (take taken (drop at input)) inner row fits is h)

  -- ---- keys

  pub key_found : (levels at n : ℕ) (key : TypeRef) (last : Option (List ℕ)) → at ≤ length input → n ≤ length (drop at input) → KeyStands t levels key (take n (drop at input))
      → slice_range input at (at + n) ≡ take n (drop at input)
      → ((k : Tree) → HasType t no_reference levels key k → take n (drop at input) ≡ canonical k → IsAbove t levels key last k) → KeyFound t input levels key last at (at + n)
  key_found levels at n key last le few (k, typed, is) range above =
      (k, subst (λ (l : List ℕ). Passes t input at (at + n) l) is (passes_front at n le few), typed, above k typed is, range ∙ is)

  -- ---- steps

  -- a part behind these bytes, and then what is left
  pub step_over : (at mid levels : ℕ) (kind : TypeRef) (first : List ℕ) (old new : Frame) (p : Part) → Passes t input at mid first
      → ((a b : List ℕ) → Stands t levels kind a → Fills t input new b → Fills t input old (first ++ (a ++ b)))
      → PartFound t input levels kind mid p → Steps t input at old (as_step p new)
  step_over at mid levels kind first old new (found.Over next) before grow (front, passes, stands) =
      (first ++ front, passes_then at mid next first front before passes, λ more h. subst (λ (l : List ℕ). Fills t input old l) (sym (append_assoc first front more)) (grow front more stands h))
  step_over at mid levels kind first old new (found.Into next inside) before grow (front, passes, within) = (
    first ++ front,
    passes_then at mid next first front before passes,
    λ inner more h g.
        let parts : first ++ ((front ++ inner) ++ more) ≡ (first ++ front) ++ (inner ++ more) = ap (λ (l : List ℕ). first ++ l) (append_assoc front inner more) ∙ sym (append_assoc first front (inner ++ more)) in
        subst (λ (l : List ℕ). Fills t input old l) parts (grow (front ++ inner) more (within inner h) g),
  )
  step_over at mid levels kind first old new found.Stop before grow h = tt

  pub items_less : (levels n : ℕ) (kind : TypeRef) → 0 < n → (a b : List ℕ) → Stands t levels kind a → StandEach t levels (replicate (n - 1) kind) b → StandEach t levels (replicate n kind) (a ++ b)
  items_less levels zero kind lt a b h g = absurd (omega (arith, lt))
  items_less levels (suc n) kind lt a b h g = let e : suc n - 1 ≡ n = omega arith in (a, b, refl, h, subst (λ (m : ℕ). StandEach t levels (replicate m kind) b) e g)

  pub items_step : (at levels n : ℕ) (kind : TypeRef) (p : Part) → at ≤ length input → 0 < n → PartFound t input levels kind at p
      → Steps t input at (record { levels = levels; left = Items kind n }) (as_step p (record { levels = levels; left = Items kind (n - 1) }))
  items_step at levels n kind p le lt found =
      step_over at at levels kind [] (record { levels = levels; left = Items kind n }) (record { levels = levels; left = Items kind (n - 1) }) p (passes_none at le) (items_less levels n kind lt) found

  pub members_step : (at levels place next : ℕ) (kind : TypeRef) (p : Part) → at ≤ length input → NextKind (drop next (members_of (slice_get t.structs place))) (Some kind) → PartFound t input levels kind at p
      → Steps t input at (record { levels = levels; left = Members place next }) (as_step p (record { levels = levels; left = Members place (next + 1) }))
  members_step at levels place next kind p le (others, first) found =
      step_over at at levels kind [] (record { levels = levels; left = Members place next }) (record { levels = levels; left = Members place (next + 1) }) p (passes_none at le)
      (each_less t only_null levels next (members_of (slice_get t.structs place)) others kind first) found

  pub pairs_step : (levels at end n : ℕ) (key value : TypeRef) (last : Option (ℕ × ℕ)) (p : Part) → 0 < n → KeyFound t input levels key (key_in input last) at end → PartFound t input levels value end p
      → Steps t input at (record { levels = levels; left = Pairs key value n last }) (as_step p (record { levels = levels; left = Pairs key value (n - 1) (Some (at, end)) }))
  pairs_step levels at end zero key value last p lt h found = absurd (omega (arith, lt))
  pairs_step levels at end (suc n) key value last p lt (k, passes, typed, above, range) found =
      let e : suc n - 1 ≡ n = omega arith in
      step_over at end levels value (canonical k) (record { levels = levels; left = Pairs key value (suc n) last }) (record { levels = levels; left = Pairs key value (suc n - 1) (Some (at, end)) }) p passes
      (λ a b h g. (
        k,
        a,
        b,
        refl,
        typed,
        above,
        h,
        subst (λ (l : List ℕ). StandPairs t levels key value n (Some l) b) range (subst (λ (m : ℕ). StandPairs t levels key value m (Some (slice_range input at end)) b) e g),
      )) found

  -- the step that was made of the part
  pub by_step : (at : ℕ) (old new : Frame) (p : Part) (s : Step) → s ≡ as_step p new → Steps t input at old (as_step p new) → Steps t input at old s
  by_step at old new p s e h = subst (λ (x : Step). Steps t input at old x) (sym e) h
