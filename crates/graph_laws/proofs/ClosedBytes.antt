-- What is kept as it is written is written so again: the canonical bytes of a graph are those of what one sees of it who lacks classes.
use Rattle.std.proofs.Common.{ℕ, zero, suc, ◌≡◌, Bool, true, List, [], ◌∷◌, ◌++◌, length, refl, sym, ap, ◌∙◌, subst, Option, Some, None, inl, inr}
use Rattle.std.specs.Prelude.{slice_get}
use Rattle.ice_types.specs.declared.kind.TypeRef.{TypeRef}
use Rattle.ice_types.specs.declared.declarations.Member.{Member}
use Rattle.ice_types.specs.declared.declarations.Shape.{Shape}
use Rattle.ice_types.specs.declared.declarations.ClassDecl.{ClassDecl}
use Rattle.ice_types.specs.Tables.{Tables, HasId, class_ids}
use Rattle.ice_types.specs.CompactIds.{numbered_id}
use Rattle.ice_types.specs.Formats.{optional_format}
use Rattle.ice_types.specs.Lacking.{SameShape}
use Rattle.ice_prims.specs.Bytes.{size_bytes}
use Rattle.ice_encoding.specs.Tags.{tag}
use Rattle.ice_encoding.specs.Tree.{Tree}
use Rattle.ice_encoding.specs.Writing.{Piece, Writer, exactly, ◌>>◌, written, written_each}
use Rattle.ice_encoding.specs.Pausing.{written_in_place}
use Rattle.ice_encoding.specs.Prefixes.{Prefix, prefix_of}
use Rattle.ice_encoding.specs.Optionals.{Present, kind_tagged}
use Rattle.ice_encoding.specs.OptionalMembers.{Members}
use Rattle.ice_encoding.specs.Classes.{own_members}
use Rattle.ice_encoding.specs.Graph.{Slice, known, unknown, Graph}
use Rattle.ice_encoding.specs.Names.{renamed_members}
use Rattle.ice_encoding.specs.Slices.{slice_size}
use Rattle.ice_encoding.specs.Instances.{slices_of}
use Rattle.ice_encoding.specs.Visiting.{place, most}
use Rattle.ice_encoding.specs.Members.{framing, written_option, written_options, marked_options, written_slice_members, written_content}
use Rattle.ice_encoding.specs.CanonicalGraph.{Pen, by_size, table_of, sized_bytes, is_there, spelled_by, row_id, written_id, has_optional, flags_byte, written_head, sliced, written_names, written_table, is_end, sized_body, written_slices, with_one_begun, put_inline, written_instance, blank, bytes_of}
use Rattle.graph_laws.proofs.Rows.{Agrees}
use Rattle.graph_laws.proofs.Measured.{SameMembers, TiedOption, tagged_same, own_same, same_optional, same_prefix}
use Rattle.graph_laws.specs.Seeing.{SameClassId}
use Rattle.graph_laws.proofs.Named.{id_of_row}
use Rattle.graph_laws.proofs.Closing.{ClosedAs, AllClosed, EachClosed, closed_slices}

-- a row that has a type id has it in its own words
own_id : (t : Tables) (at : ℕ) (d : ClassDecl) → slice_get t.classes at ≡ Some d → (id : List ℕ) → HasId (class_ids t) id at → d.id ≡ id
own_id t at d is id h = some_is (sym (id_of_row t.classes at d is) ∙ h)
  where
    some_is : Some d.id ≡ Some id → d.id ≡ id
    some_is e = cc

same_spelled : (c d : ClassDecl) → d.id ≡ c.id → d.compact ≡ c.compact → spelled_by d ≡ spelled_by c
same_spelled c d ids numbers = λ i. elim (numbers i) [ None ↦ ids i | Some number ↦ numbered_id number ]

module _ (t u : Tables) (agrees : Agrees t u) where
  -- ---- members

  module _ {P : Type 0} (refer : Writer P (Option ℕ)) where
    option_same : (number : ℕ) (k l : Option TypeRef) (v : Tree) → TiedOption t u k l → written_option refer t number k v ≡ written_option refer u number l v
    option_same number None l v e = ap (λ (o : Option TypeRef). written_option refer u number o v) (sym e)
    option_same number (Some k) l v (other, is, tied) =
        ap (λ (f : ℕ). exactly (tag.put (number, f)) >> framing (prefix_of t k) (written refer v)) (same_optional t u agrees k other tied)
        ∙ ap (λ (p : Prefix). exactly (tag.put (number, optional_format u other)) >> framing p (written refer v)) (same_prefix t u agrees k other tied)
        ∙ ap (λ (o : Option TypeRef). written_option refer u number o v) (sym is)

    options_same : (ms ns : List Member) → SameMembers t u ms ns → (end : List ℕ) (os : Present) → written_options refer t ms end os ≡ written_options refer u ns end os
    options_same ms ns tied end [] = refl
    options_same ms ns tied end (o ∷ os) =
        ap (λ (w : Piece P). w >> written_options refer t ms end os) (option_same o.0 (kind_tagged o.0 ms) (kind_tagged o.0 ns) o.1 (tagged_same t u o.0 ms ns tied))
        ∙ ap (λ (w : Piece P). written_option refer u o.0 (kind_tagged o.0 ns) o.1 >> w) (options_same ms ns tied end os)

    marked_same : (ms ns : List Member) → SameMembers t u ms ns → (os : Present) → marked_options refer t ms os ≡ marked_options refer u ns os
    marked_same ms ns tied [] = refl
    marked_same ms ns tied (o ∷ os) = options_same ms ns tied (255 ∷ []) (o ∷ os)

    members_same : (shape other : Shape) → SameShape t u shape other → (c : Members) → written_slice_members refer t shape c ≡ written_slice_members refer u other c
    members_same shape other tied c = ap (λ (w : Piece P). written_each refer c.required >> w) (marked_same shape.optional other.optional tied.1 c.optional)

    content_same : (shape other : Shape) → SameShape t u shape other → (c : Members) → written_content refer t shape c ≡ written_content refer u other c
    content_same shape other tied c = ap (λ (w : Piece P). written_each refer c.required >> w) (options_same shape.optional other.optional tied.1 [] c.optional)

  -- ---- slices

  record WrittenAs (s r : Slice) : Type 0 where
    optional : has_optional r ≡ has_optional s
    table : table_of r ≡ table_of s
    id : written_id u r ≡ written_id t s
    bytes : sized_bytes u r ≡ sized_bytes t s

  -- a class of both is written under the same id
  same_id : (a b : ℕ) → SameClassId t u a b → row_id (slice_get u.classes b) ≡ row_id (slice_get t.classes a)
  same_id a b (id, here, there) =
      let r = agrees.classes a b (id, here, there) in
      let ids : r.1.id ≡ r.0.id = own_id u b r.1 r.3 id there ∙ sym (own_id t a r.0 r.2 id here) in
      ap row_id r.3 ∙ same_spelled r.0 r.1 ids (sym r.4.2) ∙ sym (ap row_id r.2)

  closed_written : (s r : Slice) → ClosedAs t u s r → WrittenAs s r
  closed_written (unknown i x o k) r (is, hidden) = subst (WrittenAs (unknown i x o k)) (sym is) (record { optional = refl; table = refl; id = refl; bytes = refl })
  closed_written (known a content) r (inl (b, is, (id, here, there))) = subst (WrittenAs (known a content)) (sym is) (record {
    optional = refl;
    table = refl;
    id = same_id a b (id, here, there);
    bytes = ap (λ (w : Piece (Unit {0})). (w tt).0) (sym (members_same by_size (own_members t a) (own_members u b) (own_same t u agrees a b (id, here, there)) (renamed_members (place (table_of (known a content))) content)));
  })
  closed_written (known a content) r (inr (x, is, named, hidden, bytes)) = subst (WrittenAs (known a content)) (sym is) (record { optional = refl; table = refl; id = refl; bytes = bytes })

  names_same : (refer : Option ℕ → Piece Pen) (ns : List ℕ) → written_names t refer ns ≡ written_names u refer ns
  names_same refer [] = refl
  names_same refer (n ∷ ns) = ap (λ (w : Piece Pen). refer (Some n) >> w) (names_same refer ns)

  table_same : (refer : Option ℕ → Piece Pen) (ns : List ℕ) → written_table t refer ns ≡ written_table u refer ns
  table_same refer [] = refl
  table_same refer (n ∷ ns) = ap (λ (w : Piece Pen). exactly (size_bytes (length (n ∷ ns))) >> w) (names_same refer (n ∷ ns))

  end_same : (ss rs : List Slice) → AllClosed t u ss rs → (refer : Option ℕ → Piece Pen) → is_end u refer rs ≡ is_end t refer ss
  end_same [] rs e refer = ap (is_end u refer) e
  end_same (s ∷ ss) rs (r, others, is, one, rest) refer = ap (is_end u refer) is

  slices_same : (refer : Option ℕ → Piece Pen) (ss rs : List Slice) → AllClosed t u ss rs → written_slices t refer ss ≡ written_slices u refer rs
  slices_same refer [] rs e = ap (written_slices u refer) (sym e)
  slices_same refer (s ∷ ss) rs (r, others, is, one, rest) =
      let w = closed_written s r one in
      ap (λ (x : Piece Pen). written_head (λ form. flags_byte form (has_optional s) (is_there (table_of s)) true (is_end t refer ss)) (written_id t s) >> ((exactly (slice_size.put (length (sized_bytes t s)) ++ sized_bytes t s) >> x) >> written_slices t refer ss)) (table_same refer (table_of s))
      ∙ ap (λ (o : Bool). written_head (λ form. flags_byte form o (is_there (table_of s)) true (is_end t refer ss)) (written_id t s) >> ((exactly (slice_size.put (length (sized_bytes t s)) ++ sized_bytes t s) >> written_table u refer (table_of s)) >> written_slices t refer ss)) (sym w.optional)
      ∙ ap (λ (k : List ℕ). written_head (λ form. flags_byte form (has_optional r) (is_there k) true (is_end t refer ss)) (written_id t s) >> ((exactly (slice_size.put (length (sized_bytes t s)) ++ sized_bytes t s) >> written_table u refer k) >> written_slices t refer ss)) (sym w.table)
      ∙ ap (λ (b : Bool). written_head (λ form. flags_byte form (has_optional r) (is_there (table_of r)) true b) (written_id t s) >> ((exactly (slice_size.put (length (sized_bytes t s)) ++ sized_bytes t s) >> written_table u refer (table_of r)) >> written_slices t refer ss)) (sym (end_same ss others rest refer))
      ∙ ap (λ (i : List ℕ). written_head (λ form. flags_byte form (has_optional r) (is_there (table_of r)) true (is_end u refer others)) i >> ((exactly (slice_size.put (length (sized_bytes t s)) ++ sized_bytes t s) >> written_table u refer (table_of r)) >> written_slices t refer ss)) (sym w.id)
      ∙ ap (λ (b : List ℕ). written_head (λ form. flags_byte form (has_optional r) (is_there (table_of r)) true (is_end u refer others)) (written_id u r) >> ((exactly (slice_size.put (length b) ++ b) >> written_table u refer (table_of r)) >> written_slices t refer ss)) (sym w.bytes)
      ∙ ap (λ (x : Piece Pen). written_head (λ form. flags_byte form (has_optional r) (is_there (table_of r)) true (is_end u refer others)) (written_id u r) >> (sized_body u refer r >> x)) (slices_same refer ss others rest)
      ∙ ap (written_slices u refer) (sym is)

  -- ---- instances

  module _ (k h : Graph) (closed : EachClosed t u k.instances h.instances) where
    abbrev refer : Tables → Graph → ℕ → Option ℕ → Piece Pen
    refer x g depth = written_in_place put_inline (written_instance x sliced g depth)

    one_same : (depth : ℕ) → written_instance t sliced k depth ≡ written_instance u sliced h depth → (n : ℕ) → written_slices t (refer t k depth) (slices_of k.instances n) ≡ written_slices u (refer u h depth) (slices_of h.instances n)
    one_same depth same n = slices_same (refer t k depth) (slices_of k.instances n) (slices_of h.instances n) (closed_slices t u k.instances h.instances n closed)
        ∙ ap (λ (w : ℕ → Piece Pen). written_slices u (written_in_place put_inline w) (slices_of h.instances n)) same

    instance_same : (depth : ℕ) → written_instance t sliced k depth ≡ written_instance u sliced h depth
    instance_same zero = refl
    instance_same (suc depth) = λ i n p. one_same depth (instance_same depth) n i (with_one_begun p)

    pub bytes_same : (shape other : Shape) → SameShape t u shape other → h.roots ≡ k.roots → bytes_of t shape sliced k ≡ bytes_of u other sliced h
    bytes_same shape other tied roots =
        ap (λ (w : Piece Pen). (w blank).0) (content_same (refer t k most) shape other tied k.roots)
        ∙ ap (λ (w : ℕ → Piece Pen). (written_content (written_in_place put_inline w) u other k.roots blank).0) (instance_same most)
        ∙ ap (λ (c : Members). (written_content (refer u h most) u other c blank).0) (sym roots)
