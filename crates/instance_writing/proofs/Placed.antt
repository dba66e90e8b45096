-- What is written for members whose references are put as places, which are listed on the way.
use Rattle.std.proofs.Common.{◌≡◌, ℕ, suc, ◌<◌, Bool, true, false, IsTrue, ◌||◌, List, [], ◌∷◌, ◌++◌, length, Option, Some, None, refl, sym, ap, ◌∙◌, subst, inl, inr, append_assoc}
use Rattle.std.proofs.lemmas.Bool.{cases_eq, false≢true, eq-eqb, ne_eqb, lt-ltb}
use Rattle.std.proofs.lemmas.Bool.Decides.{Decides-ltb}
use Rattle.std.proofs.lemmas.List.{append-nil}
use Rattle.std.specs.Option.{is_some}
use Rattle.ice_types.specs.declared.kind.TypeRef.{TypeRef}
use Rattle.ice_types.specs.declared.declarations.Member.{Member}
use Rattle.ice_types.specs.declared.declarations.Shape.{Shape}
use Rattle.ice_types.specs.Tables.{Tables}
use Rattle.ice_types.specs.Formats.{optional_format}
use Rattle.ice_prims.specs.Bytes.{size_bytes}
use Rattle.ice_encoding.specs.Parts.{size}
use Rattle.ice_encoding.specs.Skipping.{count as number_of_bytes}
use Rattle.ice_encoding.specs.Tags.{tag}
use Rattle.ice_encoding.specs.Tree.{Tree, boolean, byte, short, int, long, text, sequence, dictionary, struct, enumerator, proxy, reference, Trees, none, tree, tree_count, Entries, no_entry, entry, entry_count, InEach, InPairs, Everywhere}
use Rattle.ice_encoding.specs.Writing.{Piece, Writer, exactly, ◌>>◌, written, written_each, written_pairs}
use Rattle.ice_encoding.specs.Pausing.{Put, written_begun, written_in_place}
use Rattle.ice_encoding.specs.Prefixes.{Prefix, no_length, own_size, as_size, as_int, prefix_of}
use Rattle.ice_encoding.specs.Optionals.{Present, kind_tagged}
use Rattle.ice_encoding.specs.OptionalMembers.{Members}
use Rattle.ice_encoding.specs.Members.{framing, written_option, written_options, marked_options, written_slice_members}
use Rattle.ice_encoding.specs.Names.{names, names_each, names_pairs, names_present, names_of, renamed, renamed_each, renamed_pairs, renamed_present, renamed_members}
use Rattle.ice_encoding.specs.Visiting.{place, is_listed}
use Rattle.ice_encoding.specs.Classes.{own_members}
use Rattle.ice_encoding.specs.Graph.{known}
use Rattle.ice_encoding.specs.CanonicalGraph.{each_once, by_size, table_of, sized_bytes}
use Rattle.graph_arena.specs.Arena.{AreBelow}
use Rattle.graph_arena.proofs.Listed.{listed-cons, listed-new, listed-other}
use Rattle.value_writing.specs.Putting.{InsideWritten}
use Rattle.instance_writing.specs.Tabling.{Listed, no_names, with_name, place_put, name_put, null_put, KeysNameNothing, HasPlainKeys, AreOptions, HasPlaces}
use Rattle.instance_writing.proofs.Tables.{place-stays}

-- ---- names listed one after the other

abbrev pub with_names : List ℕ → List ℕ → List ℕ
with_names table [] = table
with_names table (n ∷ ns) = with_names (with_name n table) ns

names-joined : (table ns ms : List ℕ) → with_names table (ns ++ ms) ≡ with_names (with_names table ns) ms
names-joined table [] ms = refl
names-joined table (n ∷ ns) ms = names-joined (with_name n table) ns ms

-- what a list goes on to
abbrev pub GoesOnTo : List ℕ → List ℕ → Type 0
GoesOnTo table final = (more : List ℕ) × (final ≡ table ++ more)

with-listed : (n : ℕ) (table : List ℕ) → is_listed table n ≡ true → with_name n table ≡ table
with-listed n table is = ap (λ (b : Bool). elim b [ true ↦ table | false ↦ table ++ n ∷ [] ]) is

with-new : (n : ℕ) (table : List ℕ) → is_listed table n ≡ false → with_name n table ≡ table ++ n ∷ []
with-new n table is = ap (λ (b : Bool). elim b [ true ↦ table | false ↦ table ++ n ∷ [] ]) is

one-before : (n : ℕ) (table final : List ℕ) (b : Bool) → is_listed table n ≡ b → GoesOnTo (with_name n table) final → GoesOnTo table final
one-before n table final true listed h = subst (λ (l : List ℕ). GoesOnTo l final) (with-listed n table listed) h
one-before n table final false new h = let h' = subst (λ (l : List ℕ). GoesOnTo l final) (with-new n table new) h in (n ∷ h'.0, h'.1 ∙ append_assoc table (n ∷ []) h'.0)

before : (table ns final : List ℕ) → GoesOnTo (with_names table ns) final → GoesOnTo table final
before table [] final h = h
before table (n ∷ ns) final h = one-before n table final (is_listed table n) refl (before (with_name n table) ns final h)

-- the same names, each once
same-listed : (n : ℕ) (seen table : List ℕ) → ((m : ℕ) → is_listed seen m ≡ is_listed table m) → (m : ℕ) → is_listed (n ∷ seen) m ≡ is_listed (table ++ n ∷ []) m
same-listed n seen table same m = elim (cases_eq n m) [
  | inl is ↦ listed-cons n seen m ∙ ap (λ (b : Bool). b || is_listed seen m) (eq-eqb n m is) ∙ sym (subst (λ (k : ℕ). is_listed (table ++ n ∷ []) k ≡ true) is (listed-new table n))
  | inr apart ↦ listed-cons n seen m ∙ ap (λ (b : Bool). b || is_listed seen m) (ne_eqb n m apart) ∙ same m ∙ sym (listed-other table n m apart)
]

once-more : (n : ℕ) (seen ns : List ℕ) (b : Bool) → is_listed seen n ≡ b → each_once seen (n ∷ ns) ≡ elim b [ true ↦ each_once seen ns | false ↦ n ∷ each_once (n ∷ seen) ns ]
once-more n seen ns b is = ap (λ (c : Bool). elim c [ true ↦ each_once seen ns | false ↦ n ∷ each_once (n ∷ seen) ns ]) is

once-step : (n : ℕ) (seen table ns : List ℕ) (b : Bool) → is_listed table n ≡ b → is_listed seen n ≡ is_listed table n
    → with_names table ns ≡ table ++ each_once seen ns → with_names (table ++ n ∷ []) ns ≡ (table ++ n ∷ []) ++ each_once (n ∷ seen) ns
    → with_names table (n ∷ ns) ≡ table ++ each_once seen (n ∷ ns)
once-step n seen table ns true listed same stays more = ap (λ (l : List ℕ). with_names l ns) (with-listed n table listed) ∙ stays ∙ ap (λ (l : List ℕ). table ++ l) (sym (once-more n seen ns true (same ∙ listed)))
once-step n seen table ns false new same stays more =
    ap (λ (l : List ℕ). with_names l ns) (with-new n table new) ∙ more ∙ append_assoc table (n ∷ []) (each_once (n ∷ seen) ns) ∙ ap (λ (l : List ℕ). table ++ l) (sym (once-more n seen ns false (same ∙ new)))

once : (seen table ns : List ℕ) → ((m : ℕ) → is_listed seen m ≡ is_listed table m) → with_names table ns ≡ table ++ each_once seen ns
once seen table [] same = sym (append-nil table)
once seen table (n ∷ ns) same = once-step n seen table ns (is_listed table n) refl (same n) (once seen table ns same) (once (n ∷ seen) (table ++ n ∷ []) ns (same-listed n seen table same))

-- ---- how many there are, with other names

count-renamed : (f : ℕ → ℕ) (vs : Trees) → tree_count (renamed_each f vs) ≡ tree_count vs
count-renamed f none = refl
count-renamed f (tree v vs) = ap suc (count-renamed f vs)

entries-renamed : (f : ℕ → ℕ) (ps : Entries) → entry_count (renamed_pairs f ps) ≡ entry_count ps
entries-renamed f no_entry = refl
entries-renamed f (entry k v ps) = ap suc (entries-renamed f ps)

pub below-both : (limit : ℕ) (ns ms : List ℕ) → AreBelow limit (ns ++ ms) → AreBelow limit ns × AreBelow limit ms
below-both limit [] ms h = (tt, h)
below-both limit (n ∷ ns) ms h = let rest = below-both limit ns ms h.1 in ((h.0, rest.0), rest.1)

-- ---- without references nothing gets another name

some_there : (n : ℕ) (ns : List ℕ) → n ∷ ns ≡ [] → ⊥
some_there n ns h = cc

none_of : (ns ms : List ℕ) → ns ++ ms ≡ [] → (ns ≡ []) × (ms ≡ [])
none_of [] ms h = (refl, h)
none_of (n ∷ ns) ms h = absurd (some_there n (ns ++ ms) h)

mutual
  renamed-nothing : (f : ℕ → ℕ) (v : Tree) → names v ≡ [] → renamed f v ≡ v
  renamed-nothing f (boolean b) h = refl
  renamed-nothing f (byte n) h = refl
  renamed-nothing f (short z) h = refl
  renamed-nothing f (int z) h = refl
  renamed-nothing f (long z) h = refl
  renamed-nothing f (text s) h = refl
  renamed-nothing f (enumerator n) h = refl
  renamed-nothing f (proxy p) h = refl
  renamed-nothing f (reference None) h = refl
  renamed-nothing f (reference (Some n)) h = absurd (some_there n [] h)
  renamed-nothing f (sequence items) h = ap sequence (renamed-none f items h)
  renamed-nothing f (struct members) h = ap struct (renamed-none f members h)
  renamed-nothing f (dictionary pairs) h = ap dictionary (renamed-no_pairs f pairs h)

  renamed-none : (f : ℕ → ℕ) (vs : Trees) → names_each vs ≡ [] → renamed_each f vs ≡ vs
  renamed-none f none h = refl
  renamed-none f (tree v vs) h = let both = none_of (names v) (names_each vs) h in ap (λ (w : Tree). tree w (renamed_each f vs)) (renamed-nothing f v both.0) ∙ ap (tree v) (renamed-none f vs both.1)

  renamed-no_pairs : (f : ℕ → ℕ) (ps : Entries) → names_pairs ps ≡ [] → renamed_pairs f ps ≡ ps
  renamed-no_pairs f no_entry h = refl
  renamed-no_pairs f (entry k v rest) h = let both = none_of (names v) (names_pairs rest) h in ap (λ (w : Tree). entry k w (renamed_pairs f rest)) (renamed-nothing f v both.0) ∙ ap (entry k v) (renamed-no_pairs f rest both.1)

-- ---- the piece at the port, and the bytes by size

module _ (count : ℕ) (inside : InsideWritten Listed) (final : List ℕ) where
  abbrev refer : Writer Listed (Option ℕ)
  refer = written_in_place place_put inside

  abbrev at : List ℕ → Listed
  at table = record { count = count; names = table }

  abbrev f : ℕ → ℕ
  f n = place final n

  -- these bytes, and the names are listed
  abbrev Lists : Piece Listed → Piece (Unit {0}) → List ℕ → List ℕ → Type 0
  Lists piece plain table ns = piece (at table) ≡ ((plain tt).0, at (with_names table ns))

  lists-then : (a b : Piece Listed) (c d : Piece (Unit {0})) (table ns ms : List ℕ) → Lists a c table ns → Lists b d (with_names table ns) ms → Lists (a >> b) (c >> d) table (ns ++ ms)
  lists-then a b c d table ns ms one two =
      ap (λ (x : List ℕ × Listed). (x.0 ++ (b x.1).0, (b x.1).1)) one
      ∙ ap (λ (y : List ℕ × Listed). ((c tt).0 ++ y.0, y.1)) two
      ∙ ap (λ (l : List ℕ). ((c tt).0 ++ (d tt).0, at l)) (sym (names-joined table ns ms))

  name-listed : (n : ℕ) (table : List ℕ) (b : Bool) → is_listed table n ≡ b → is_listed (with_name n table) n ≡ true
  name-listed n table true listed = ap (λ (l : List ℕ). is_listed l n) (with-listed n table listed) ∙ listed
  name-listed n table false new = ap (λ (l : List ℕ). is_listed l n) (with-new n table new) ∙ listed-new table n

  final-place : (n : ℕ) (table : List ℕ) → is_listed table n ≡ true → GoesOnTo table final → place table n ≡ place final n
  final-place n table listed h = sym (place-stays table h.0 n ((Decides-ltb (place table n) (length table)).0 listed)) ∙ ap (λ (l : List ℕ). place l n) (sym h.1)

  name-lists : (n : ℕ) (table : List ℕ) → n < count → GoesOnTo (with_name n table) final → Lists (refer (Some n)) (by_size (Some (f n))) table (n ∷ [])
  name-lists n table lt h =
      ap (λ (b : Bool). let p : Put Listed = elim b [ true ↦ name_put n (at (with_name n table)) | false ↦ null_put (at table) ] in let b = written_begun inside p.begun p.after in (p.bytes ++ b.0, b.1)) (lt-ltb n count lt)
      ∙ ap (λ (l : List ℕ). (l, at (with_name n table))) (append-nil (size_bytes (suc (place (with_name n table) n))) ∙ ap (λ (k : ℕ). size_bytes (suc k)) (final-place n (with_name n table) (name-listed n table (is_listed table n) refl) h))

  -- a key has no reference
  key-lists : (k : Tree) (table : List ℕ) → names k ≡ [] → Lists (written refer k) (written by_size (renamed f k)) table (names k) → Lists (written refer k) (written by_size k) table []
  key-lists k table nameless h = h ∙ ap (λ (v : Tree). ((written by_size v tt).0, at (with_names table (names k)))) (renamed-nothing f k nameless) ∙ ap (λ (ns : List ℕ). ((written by_size k tt).0, at (with_names table ns))) nameless

  mutual
    value-lists : (v : Tree) (table : List ℕ) → AreBelow count (names v) → Everywhere HasPlainKeys v → GoesOnTo (with_names table (names v)) final → Lists (written refer v) (written by_size (renamed f v)) table (names v)
    value-lists (boolean b) table below plain h = refl
    value-lists (byte n) table below plain h = refl
    value-lists (short z) table below plain h = refl
    value-lists (int z) table below plain h = refl
    value-lists (long z) table below plain h = refl
    value-lists (text s) table below plain h = refl
    value-lists (enumerator n) table below plain h = refl
    value-lists (proxy p) table below plain h = refl
    value-lists (reference None) table below plain h = refl
    value-lists (reference (Some n)) table below plain h = name-lists n table below.0 h
    value-lists (struct members) table below plain h = each-lists members table below plain.1 h
    value-lists (sequence items) table below plain h =
        lists-then (exactly (size_bytes (tree_count items))) (written_each refer items) (exactly (size_bytes (tree_count (renamed_each f items)))) (written_each by_size (renamed_each f items)) table [] (names_each items)
        (ap (λ (n : ℕ). (size_bytes n, at table)) (sym (count-renamed f items))) (each-lists items table below plain.1 h)
    value-lists (dictionary pairs) table below plain h =
        lists-then (exactly (size_bytes (entry_count pairs))) (written_pairs refer pairs) (exactly (size_bytes (entry_count (renamed_pairs f pairs)))) (written_pairs by_size (renamed_pairs f pairs)) table [] (names_pairs pairs)
        (ap (λ (n : ℕ). (size_bytes n, at table)) (sym (entries-renamed f pairs))) (pairs-lists pairs table below plain.0 plain.1 h)

    each-lists : (vs : Trees) (table : List ℕ) → AreBelow count (names_each vs) → InEach HasPlainKeys vs → GoesOnTo (with_names table (names_each vs)) final → Lists (written_each refer vs) (written_each by_size (renamed_each f vs)) table (names_each vs)
    each-lists none table below plain h = refl
    each-lists (tree v vs) table below plain h =
        let h' : GoesOnTo (with_names (with_names table (names v)) (names_each vs)) final = subst (λ (l : List ℕ). GoesOnTo l final) (names-joined table (names v) (names_each vs)) h in
        let parts = below-both count (names v) (names_each vs) below in
        lists-then (written refer v) (written_each refer vs) (written by_size (renamed f v)) (written_each by_size (renamed_each f vs)) table (names v) (names_each vs)
        (value-lists v table parts.0 plain.0 (before (with_names table (names v)) (names_each vs) final h'))
        (each-lists vs (with_names table (names v)) parts.1 plain.1 h')

    pairs-lists : (ps : Entries) (table : List ℕ) → AreBelow count (names_pairs ps) → KeysNameNothing ps → InPairs HasPlainKeys ps → GoesOnTo (with_names table (names_pairs ps)) final → Lists (written_pairs refer ps) (written_pairs by_size (renamed_pairs f ps)) table (names_pairs ps)
    pairs-lists no_entry table below keys plain h = refl
    pairs-lists (entry k v rest) table below keys plain h =
        let h' : GoesOnTo (with_names (with_names table (names v)) (names_pairs rest)) final = subst (λ (l : List ℕ). GoesOnTo l final) (names-joined table (names v) (names_pairs rest)) h in
        let parts = below-both count (names v) (names_pairs rest) below in
        let after_value = before (with_names table (names v)) (names_pairs rest) final h' in
        lists-then (written refer k) (written refer v >> written_pairs refer rest) (written by_size k) (written by_size (renamed f v) >> written_pairs by_size (renamed_pairs f rest)) table [] (names v ++ names_pairs rest)
        (key-lists k table keys.0 (value-lists k table (subst (AreBelow count) (sym keys.0) tt) plain.0 (subst (λ (ns : List ℕ). GoesOnTo (with_names table ns) final) (sym keys.0) (before table (names v) final after_value))))
        (lists-then (written refer v) (written_pairs refer rest) (written by_size (renamed f v)) (written_pairs by_size (renamed_pairs f rest)) table (names v) (names_pairs rest)
        (value-lists v table parts.0 plain.1 after_value)
        (pairs-lists rest (with_names table (names v)) parts.1 keys.1 plain.2 h'))

  module _ (t : Tables) where
    framing-lists : (prefix : Prefix) (a : Piece Listed) (c : Piece (Unit {0})) (table ns : List ℕ) → Lists a c table ns → Lists (framing prefix a) (framing prefix c) table ns
    framing-lists no_length a c table ns h = h
    framing-lists own_size a c table ns h = h
    framing-lists as_size a c table ns h = ap (λ (x : List ℕ × Listed). (size.put (length x.0) ++ x.0, x.1)) h
    framing-lists as_int a c table ns h = ap (λ (x : List ℕ × Listed). (number_of_bytes.put (length x.0) ++ x.0, x.1)) h

    option-lists : (number : ℕ) (kind : Option TypeRef) (v : Tree) (table : List ℕ) → IsTrue (is_some kind) → Lists (written refer v) (written by_size (renamed f v)) table (names v)
        → Lists (written_option refer t number kind v) (written_option by_size t number kind (renamed f v)) table (names v)
    option-lists number None v table is h = absurd (false≢true is)
    option-lists number (Some kind) v table is h =
        lists-then (exactly (tag.put (number, optional_format t kind))) (framing (prefix_of t kind) (written refer v)) (exactly (tag.put (number, optional_format t kind))) (framing (prefix_of t kind) (written by_size (renamed f v))) table [] (names v)
        refl (framing-lists (prefix_of t kind) (written refer v) (written by_size (renamed f v)) table (names v) h)

    options-lists : (members : List Member) (end : List ℕ) (os : Present) (table : List ℕ) → AreBelow count (names_present os) → AreOptions members os → GoesOnTo (with_names table (names_present os)) final
        → Lists (written_options refer t members end os) (written_options by_size t members end (renamed_present f os)) table (names_present os)
    options-lists members end [] table below plain h = refl
    options-lists members end (o ∷ os) table below plain h =
        let h' : GoesOnTo (with_names (with_names table (names o.1)) (names_present os)) final = subst (λ (l : List ℕ). GoesOnTo l final) (names-joined table (names o.1) (names_present os)) h in
        let parts = below-both count (names o.1) (names_present os) below in
        lists-then (written_option refer t o.0 (kind_tagged o.0 members) o.1) (written_options refer t members end os)
        (written_option by_size t o.0 (kind_tagged o.0 members) (renamed f o.1)) (written_options by_size t members end (renamed_present f os)) table (names o.1) (names_present os)
        (option-lists o.0 (kind_tagged o.0 members) o.1 table plain.0 (value-lists o.1 table parts.0 plain.1 (before (with_names table (names o.1)) (names_present os) final h')))
        (options-lists members end os (with_names table (names o.1)) parts.1 plain.2 h')

    marked-lists : (members : List Member) (os : Present) (table : List ℕ) → AreBelow count (names_present os) → AreOptions members os → GoesOnTo (with_names table (names_present os)) final
        → Lists (marked_options refer t members os) (marked_options by_size t members (renamed_present f os)) table (names_present os)
    marked-lists members [] table below plain h = refl
    marked-lists members (o ∷ os) table below plain h = options-lists members (255 ∷ []) (o ∷ os) table below plain h

    members-list : (shape : Shape) (c : Members) (table : List ℕ) → AreBelow count (names_of c) → HasPlaces shape.optional c → GoesOnTo (with_names table (names_of c)) final
        → Lists (written_slice_members refer t shape c) (written_slice_members by_size t shape (renamed_members f c)) table (names_of c)
    members-list shape c table below plain h =
        let h' : GoesOnTo (with_names (with_names table (names_each c.required)) (names_present c.optional)) final = subst (λ (l : List ℕ). GoesOnTo l final) (names-joined table (names_each c.required) (names_present c.optional)) h in
        let parts = below-both count (names_each c.required) (names_present c.optional) below in
        lists-then (written_each refer c.required) (marked_options refer t shape.optional c.optional) (written_each by_size (renamed_each f c.required)) (marked_options by_size t shape.optional (renamed_present f c.optional)) table (names_each c.required) (names_present c.optional)
        (each-lists c.required table parts.0 plain.0 (before (with_names table (names_each c.required)) (names_present c.optional) final h'))
        (marked-lists shape.optional c.optional (with_names table (names_each c.required)) parts.1 plain.1 h')

-- The members of a slice, with its table empty before: the bytes are those by size, and the table is that of the slice.
pub slice-listed : (t : Tables) (inside : InsideWritten Listed) (count class : ℕ) (c : Members) → AreBelow count (names_of c) → HasPlaces (own_members t class).optional c
    → written_slice_members (written_in_place place_put inside) t (own_members t class) c (no_names count) ≡ (sized_bytes t (known class c), record { count = count; names = table_of (known class c) })
slice-listed t inside count class c below plain =
    let all : with_names [] (names_of c) ≡ each_once [] (names_of c) = once [] [] (names_of c) (λ m. refl) in
    members-list count inside (each_once [] (names_of c)) t (own_members t class) c [] below plain ([], sym all ∙ sym (append-nil (with_names [] (names_of c))))
    ∙ ap (λ (l : List ℕ). (sized_bytes t (known class c), record { count = count; names = l })) all
