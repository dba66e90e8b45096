-- How what is still written of an instance or an exception changes with a step.
use Rattle.std.proofs.Common.{◌≡◌, ℕ, suc, ◌^◌, ◌<◌, ◌≤◌, Bool, true, false, not, List, [], ◌∷◌, ◌++◌, length, drop, slice_get, Option, Some, None, Result, Ok, Err, refl, sym, ap, ◌∙◌, subst, arith, append_assoc}
use Rattle.std.specs.declared.alloc.AllocError.{AllocError}
use Rattle.std.proofs.lemmas.Bool.{eq-eqb, ne_eqb, false≢true}
use Rattle.std.specs.Bool.{◌==◌}
use Rattle.std.specs.Prelude.{IfOk, OnOk}
use Rattle.std.proofs.lemmas.List.{append-nil}
use Rattle.ice_types.specs.declared.declarations.Member.{Member}
use Rattle.ice_types.specs.declared.declarations.Shape.{Shape}
use Rattle.ice_types.specs.Tables.{Tables}
use Rattle.ice_encoding.specs.Writing.{Piece, exactly, ◌>>◌}
use Rattle.ice_encoding.specs.Pausing.{Put, written_begun}
use Rattle.ice_encoding.specs.Graph.{Slice, known, unknown}
use Rattle.ice_encoding.specs.Names.{names_of, slice_names, instance_names}
use Rattle.ice_encoding.specs.Visiting.{is_listed, most}
use Rattle.ice_encoding.specs.Slices.{slice_size}
use Rattle.ice_prims.specs.Bytes.{text_bytes}
use Rattle.ice_encoding.specs.CanonicalGraph as spec
use Rattle.ice_encoding.specs.CanonicalGraph.{flags_byte, has_optional, Pen, Format, sliced, compact, each_once, table_of, sized_bytes, is_there, written_names, written_table, sized_body, members_bytes, written_as, written_slices, written_bases, is_end}
use Rattle.ice_encoding.specs.Exceptions.{of_exceptions}
use Rattle.ice_encoding.specs.Flags.{no_id}
use Rattle.ice_encoding.specs.UserExceptionWritten.{user_exception_slices, user_exception_plain}
use Rattle.ice_encoding.proofs.Agreeing.{written_same}
use Rattle.graph_arena.specs.declared.instance.Slice as arena
use Rattle.graph_arena.specs.Arena.{AreBelow}
use Rattle.graph_arena.specs.Seen.{view_slices}
use Rattle.ice_encoding.specs.OptionalMembers.{Members, shape_of}
use Rattle.ice_encoding.specs.Members.{written_slice_members}
use Rattle.ice_encoding.specs.Classes.{members_in, own_members}
use Rattle.value_writing.proofs.WritingSteps.{fits-grown, all-left}
use Rattle.value_writing.specs.declared.ending.Ending.TheVariants.{Marked}
use Rattle.value_writing.specs.WritingMembers.{Remaining, remaining, all_of, members_left}
use Rattle.value_writing.specs.Putting.{InsideWritten, Written, onto}
use Rattle.value_writing.proofs.Levels.{onto-then, onto-nothing}
use Rattle.value_parts.specs.declared.sliced_type.SlicedType.{SlicedType}
use Rattle.value_parts.specs.declared.sliced_type.SlicedType.TheVariants.{Class, Exception}
use Rattle.value_parts.specs.SlicedType.{rows_of}
use Rattle.instance_writing.specs.declared.open_slice.OpenSlice.{OpenSlice}
use Rattle.instance_writing.specs.declared.open_slice.OpenSlice.TheVariants.{Nothing, Found, Lent}
use Rattle.instance_writing.specs.declared.open_slice.OpenSlice.TheVariants as opens
use Rattle.instance_writing.specs.declared.unfinished.Unfinished.{Unfinished}
use Rattle.instance_writing.specs.Pens.{put_counted}
use Rattle.instance_writing.specs.Opened.{refer_to, entries_in, is_first, HasEntries, IsTabled, open_left, OpenFits}
use Rattle.instance_writing.specs.Sorts.{slice_head, plain_head}
use Rattle.instance_writing.specs.Remains.{slice_front, table_size, one_slice, others_left, instance_left, Fits, BeginsNext}
use Rattle.instance_writing.specs.Writable.{SlicesCanBeWritten}
use Rattle.instance_writing.proofs.Placed.{below-both}
use Rattle.instance_writing.proofs.WrittenIds.{exception_id}

-- ---- the entries of a table

-- a reference, and what begins there
abbrev put_on : {S : Type 0} → InsideWritten S → Option ℕ → Put S → List ℕ → Written S
put_on inside begun p out = let b = written_begun inside begun p.after in (b.1, out ++ (p.bytes ++ b.0))

put-none : {S : Type 0} (inside : InsideWritten S) (p : Put S) (s' : S) (out out' : List ℕ) → out' ≡ out ++ p.bytes → p.begun ≡ None → p.after ≡ s' → put_on inside p.begun p out ≡ (s', out')
put-none {S} inside p s' out out' bytes begun after =
    ap (λ (o : Option ℕ). put_on inside o p out) begun ∙ ap (λ (l : List ℕ). (p.after, out ++ l)) (append-nil p.bytes)
    ∙ ap (λ (l : List ℕ). (p.after, l)) (sym bytes) ∙ ap (λ (x : S). (x, out')) after

put-begins : {S : Type 0} (inside : InsideWritten S) (p : Put S) (n : ℕ) (s' : S) (out out' : List ℕ) → out' ≡ out ++ p.bytes → p.begun ≡ Some n → p.after ≡ s' → put_on inside p.begun p out ≡ onto (inside n) (s', out')
put-begins {S} inside p n s' out out' bytes begun after =
    ap (λ (o : Option ℕ). put_on inside o p out) begun
    ∙ ap (λ (l : List ℕ). ((inside n p.after).1, l)) (sym (append_assoc out p.bytes (inside n p.after).0))
    ∙ ap (λ (l : List ℕ). ((inside n p.after).1, l ++ (inside n p.after).0)) (sym bytes)
    ∙ ap (λ (s : S). onto (inside n) (s, out')) after

module _ (t : Tables) (inside : InsideWritten Pen) (n : ℕ) (ns all : List ℕ) (s s' : Pen) (out out' : List ℕ) (is : all ≡ n ∷ ns) (bytes : out' ≡ out ++ (put_counted (Some n) s).bytes) (after : (put_counted (Some n) s).after ≡ s') where
  entry-first : onto (written_names t (refer_to inside) all) (s, out) ≡ onto (written_names t (refer_to inside) ns) (onto (refer_to inside (Some n)) (s, out))
  entry-first = ap (λ (l : List ℕ). onto (written_names t (refer_to inside) l) (s, out)) is
      ∙ onto-then (refer_to inside (Some n)) (written_names t (refer_to inside) ns) (s, out)

  entry-known : (put_counted (Some n) s).begun ≡ None → onto (written_names t (refer_to inside) all) (s, out) ≡ onto (written_names t (refer_to inside) ns) (s', out')
  entry-known begun = entry-first ∙ ap (onto (written_names t (refer_to inside) ns)) (put-none inside (put_counted (Some n) s) s' out out' bytes begun after)

  entry-begins : (b : ℕ) → (put_counted (Some n) s).begun ≡ Some b → onto (written_names t (refer_to inside) all) (s, out) ≡ onto (written_names t (refer_to inside) ns) (onto (inside b) (s', out'))
  entry-begins b begun = entry-first ∙ ap (onto (written_names t (refer_to inside) ns)) (put-begins inside (put_counted (Some n) s) b s' out out' bytes begun after)

-- ---- what is left of a slice with a table

pub entries-left : (t : Tables) (inside : InsideWritten Pen) (o : OpenSlice) (w : Written Pen) → IsTabled o → open_left t inside o w ≡ onto (written_names t (refer_to inside) (entries_in o)) w
entries-left t inside Nothing w h = sym (onto-nothing w)
entries-left t inside (Found next names) w h = refl
entries-left t inside (Lent names) w h = refl
entries-left t inside (opens.Members m) w h = absurd h

pub entries-below : (count : ℕ) (o : OpenSlice) (out : List ℕ) → OpenFits count o out → AreBelow count (entries_in o)
entries-below count Nothing out h = tt
entries-below count (Found next names) out h = h.0
entries-below count (Lent names) out h = h
entries-below count (opens.Members m) out h = tt

pub below-fits : (count : ℕ) (o : OpenSlice) (out : List ℕ) → IsTabled o → AreBelow count (entries_in o) → OpenFits count o out
below-fits count Nothing out h below = tt
below-fits count (Found next names) out h below = (below, h)
below-fits count (Lent names) out h below = below
below-fits count (opens.Members m) out h below = absurd h

module _ (t : Tables) (inside : InsideWritten Pen) (old now : OpenSlice) (n : ℕ) (s s' : Pen) (out out' : List ℕ) (before : IsTabled old) (tabled : IsTabled now) (is : entries_in old ≡ n ∷ entries_in now)
    (puts : (out' ≡ out ++ (put_counted (Some n) s).bytes) × ((put_counted (Some n) s).after ≡ s')) where
  -- an entry of one that has begun
  pub entry-put : (put_counted (Some n) s).begun ≡ None → open_left t inside old (s, out) ≡ open_left t inside now (s', out')
  entry-put begun = entries-left t inside old (s, out) before ∙ entry-known t inside n (entries_in now) (entries_in old) s s' out out' is puts.0 puts.1 begun ∙ sym (entries-left t inside now (s', out') tabled)

  -- one begins at it
  pub entry-goes : (b : ℕ) → (put_counted (Some n) s).begun ≡ Some b → open_left t inside old (s, out) ≡ open_left t inside now (onto (inside b) (s', out'))
  entry-goes b begun =
      entries-left t inside old (s, out) before ∙ entry-begins t inside n (entries_in now) (entries_in old) s s' out out' is puts.0 puts.1 b begun
      ∙ sym (entries-left t inside now (onto (inside b) (s', out')) tabled)

-- no entry is left
pub entries-end : (t : Tables) (inside : InsideWritten Pen) (o : OpenSlice) (w : Written Pen) → IsTabled o → entries_in o ≡ [] → open_left t inside o w ≡ w
entries-end t inside o w h ended = entries-left t inside o w h ∙ ap (λ (l : List ℕ). onto (written_names t (refer_to inside) l) w) ended ∙ onto-nothing w

-- the output has grown
pub open-grown : (count : ℕ) (o : OpenSlice) (out out' : List ℕ) → OpenFits count o out → length out ≤ length out' → OpenFits count o out'
open-grown count Nothing out out' h longer = tt
open-grown count (Found next names) out out' h longer = h
open-grown count (Lent names) out out' h longer = h
open-grown count (opens.Members m) out out' h longer = fits-grown (remaining m.value.writer) out out' h longer

-- ---- a slice begins

-- What stands in no row is the same by the tables of either sort.
names-same : (u t : Tables) (refer : Option ℕ → Piece Pen) (ns : List ℕ) → written_names u refer ns ≡ written_names t refer ns
names-same u t refer [] = refl
names-same u t refer (n ∷ ns) = ap (λ (p : Piece Pen). refer (Some n) >> p) (names-same u t refer ns)

pub members-same : {S : Type 0} (sort : SlicedType) (t : Tables) (refer : Option ℕ → Piece S) (shape : Shape) (c : Members) → written_slice_members refer (rows_of sort t) shape c ≡ written_slice_members refer t shape c
members-same {S} Class t refer shape c = refl
members-same {S} Exception t refer shape c = written_same t refer shape c

table-then : (u t : Tables) (refer : Option ℕ → Piece Pen) (ns : List ℕ) (w : Written Pen) → onto (written_table u refer ns) w ≡ onto (written_names t refer ns) (onto (exactly (table_size ns)) w)
table-then u t refer [] w = sym (ap (onto (exactly [])) (onto-nothing w))
table-then u t refer (n ∷ ns) w =
    onto-then (exactly (table_size (n ∷ ns))) (written_names u refer (n ∷ ns)) w
    ∙ ap (λ (p : Piece Pen). onto p (onto (exactly (table_size (n ∷ ns))) w)) (names-same u t refer (n ∷ ns))

exactly-then : (a b : List ℕ) (w : Written Pen) → onto (exactly (a ++ b)) w ≡ onto (exactly b) (onto (exactly a) w)
exactly-then a b w = onto-then (exactly a) (exactly b) w

-- in sliced format, up to the entries of its table
slice-fronted : (sort : SlicedType) (t : Tables) (refer : Option ℕ → Piece Pen) (s : Slice) (first last : Bool) (w : Written Pen)
    → onto (one_slice sort t refer sliced first last s) w ≡ onto (written_names t refer (table_of s)) (onto (slice_front sort t last s) w)
slice-fronted sort t refer s first last w =
    let u = rows_of sort t in
    let head = slice_head sort t (is_there (table_of s)) true last s in
    let sized = slice_size.put (length (sized_bytes u s)) ++ sized_bytes u s in
    onto-then head (sized_body u refer s) w
    ∙ onto-then (exactly sized) (written_table u refer (table_of s)) (onto head w)
    ∙ table-then u t refer (table_of s) (onto (exactly sized) (onto head w))
    ∙ ap (onto (written_names t refer (table_of s))) (sym (exactly-then sized (table_size (table_of s)) (onto head w)))
    ∙ ap (onto (written_names t refer (table_of s))) (sym (onto-then head (exactly (sized ++ table_size (table_of s))) w))

has-left : (t : Tables) (inside : InsideWritten Pen) (o : OpenSlice) (entries : List ℕ) (w : Written Pen) → HasEntries entries o → open_left t inside o w ≡ onto (written_names t (refer_to inside) entries) w
has-left t inside Nothing entries w h = absurd h
has-left t inside (Found next names) entries w h = ap (λ (l : List ℕ). onto (written_names t (refer_to inside) l) w) h.0
has-left t inside (Lent names) entries w h = ap (λ (l : List ℕ). onto (written_names t (refer_to inside) l) w) h
has-left t inside (opens.Members m) entries w h = absurd h

has-fits : (count : ℕ) (o : OpenSlice) (entries out : List ℕ) → HasEntries entries o → AreBelow count entries → OpenFits count o out
has-fits count Nothing entries out h below = absurd h
has-fits count (Found next names) entries out h below = (subst (AreBelow count) (sym h.0) below, h.1)
has-fits count (Lent names) entries out h below = subst (AreBelow count) (sym h) below
has-fits count (opens.Members m) entries out h below = absurd h

pub slice-begun : (sort : SlicedType) (t : Tables) (inside : InsideWritten Pen) (s : Slice) (first last : Bool) (o : OpenSlice) (w w' : Written Pen) → HasEntries (table_of s) o → w' ≡ onto (slice_front sort t last s) w
    → onto (one_slice sort t (refer_to inside) sliced first last s) w ≡ open_left t inside o w'
slice-begun sort t inside s first last o w w' has wrote =
    slice-fronted sort t (refer_to inside) s first last w ∙ ap (onto (written_names t (refer_to inside) (table_of s))) (sym wrote) ∙ sym (has-left t inside o (table_of s) w' has)

-- names of a table are among those of its slice
once-step : (b : Bool) (limit n : ℕ) (a c : List ℕ) → n < limit → AreBelow limit a → AreBelow limit c → AreBelow limit (elim b [ true ↦ a | false ↦ n ∷ c ])
once-step true limit n a c lt one other = one
once-step false limit n a c lt one other = (lt, other)

once-below : (limit : ℕ) (seen ns : List ℕ) → AreBelow limit ns → AreBelow limit (each_once seen ns)
once-below limit seen [] h = tt
once-below limit seen (n ∷ ns) h = once-step (is_listed seen n) limit n (each_once seen ns) (each_once (n ∷ seen) ns) h.0 (once-below limit seen ns h.1) (once-below limit (n ∷ seen) ns h.1)

pub table-below : (limit : ℕ) (s : Slice) → AreBelow limit (slice_names s) → AreBelow limit (table_of s)
table-below limit (known class c) h = once-below limit [] (names_of c) h
table-below limit (unknown id bytes optionals table) h = h

pub slice-fits : (count : ℕ) (s : Slice) (o : OpenSlice) (out : List ℕ) → HasEntries (table_of s) o → AreBelow count (slice_names s) → OpenFits count o out
slice-fits count s o out has below = has-fits count o (table_of s) out has (table-below count s below)

pub sliced-begun : (sort : SlicedType) (t : Tables) (inside : InsideWritten Pen) (s : Slice) (f : Format) (first last : Bool) (result : Result OpenSlice AllocError) (w w' : Written Pen) → f ≡ sliced → IfOk result (HasEntries (table_of s)) → OnOk result (w' ≡ onto (slice_front sort t last s) w)
    → IfOk result (λ o. onto (one_slice sort t (refer_to inside) f first last s) w ≡ open_left t inside o w')
sliced-begun sort t inside s f first last (Ok o) w w' is has wrote = ap (λ (form : Format). onto (one_slice sort t (refer_to inside) form first last s) w) is ∙ slice-begun sort t inside s first last o w w' has wrote
sliced-begun sort t inside s f first last (Err e) w w' is has wrote = tt

pub sliced-fits : (count : ℕ) (s : Slice) (result : Result OpenSlice AllocError) (out : List ℕ) → IfOk result (HasEntries (table_of s)) → AreBelow count (slice_names s) → IfOk result (λ o. OpenFits count o out)
sliced-fits count s (Ok o) out has below = slice-fits count s o out has below
sliced-fits count s (Err e) out has below = tt

-- in compact format, up to its members
pub onto-is : (piece : Piece Pen) (p p' : Pen) (out out' : List ℕ) → (out' ≡ out ++ (piece p).0) × (p' ≡ (piece p).1) → (p', out') ≡ onto piece (p, out)
onto-is piece p p' out out' h = ap (λ (l : List ℕ). (p', l)) h.0 ∙ ap (λ (q : Pen). (q, out ++ (piece p).0)) h.1

pub plain-begun : (sort : SlicedType) (t : Tables) (inside : InsideWritten Pen) (s : Slice) (f : Format) (first last : Bool) (result : Result OpenSlice AllocError) (w w' : Written Pen) → f ≡ compact → w' ≡ onto (plain_head sort t first last s) w
    → IfOk result (λ o. open_left t inside o w' ≡ onto (members_bytes (rows_of sort t) (refer_to inside) s) w') → IfOk result (λ o. onto (one_slice sort t (refer_to inside) f first last s) w ≡ open_left t inside o w')
plain-begun sort t inside s f first last (Ok o) w w' is wrote opened =
    ap (λ (form : Format). onto (one_slice sort t (refer_to inside) form first last s) w) is
    ∙ onto-then (plain_head sort t first last s) (members_bytes (rows_of sort t) (refer_to inside) s) w
    ∙ ap (onto (members_bytes (rows_of sort t) (refer_to inside) s)) (sym wrote) ∙ sym opened
plain-begun sort t inside s f first last (Err e) w w' is wrote opened = tt

pub members-open : (sort : SlicedType) (t : Tables) (inside : InsideWritten Pen) (at : ℕ) (c : Members) (own : List Member) (r : Remaining) (w : Written Pen) → own ≡ members_in (slice_get (rows_of sort t).classes at) → r ≡ all_of Marked c
    → members_left put_counted inside t own r w ≡ onto (members_bytes (rows_of sort t) (refer_to inside) (known at c)) w
members-open sort t inside at c own r w is fresh =
    ap (λ (x : Remaining). members_left put_counted inside t own x w) fresh ∙ all-left put_counted inside t own Marked c w
    ∙ ap (λ (ms : List Member). onto (written_slice_members (refer_to inside) t (shape_of ms) c) w) is
    ∙ ap (λ (p : Piece Pen). onto p w) (sym (members-same sort t (refer_to inside) (own_members (rows_of sort t) at) c))

-- ---- the slices of an instance, or of an exception

in-turn : (head body others : Piece Pen) (w : Written Pen) → onto (head >> (body >> others)) w ≡ onto others (onto (head >> body) w)
in-turn head body others w = onto-then head (body >> others) w ∙ onto-then body others (onto head w) ∙ ap (onto others) (sym (onto-then head body w))

last-same : (t : Tables) (refer : Option ℕ → Piece Pen) (ss : List Slice) → not (is_there ss) ≡ is_end t refer ss
last-same t refer [] = refl
last-same t refer (s ∷ ss) = refl

-- an exception's slice has its type id
exception-head : (t : Tables) (tabled sized last : Bool) (s : Slice) (behind : Piece Pen) (w : Written Pen)
    → onto (exactly (flags_byte no_id (has_optional s) tabled sized last ∷ text_bytes (spec.id_of (of_exceptions t) s)) >> behind) w ≡ onto (slice_head Exception t tabled sized last s >> behind) w
exception-head t tabled sized last s behind w =
    ap (λ (id : List ℕ). onto (exactly (flags_byte no_id (has_optional s) tabled sized last ∷ text_bytes id) >> behind) w) (exception_id t s)

-- the first of those that have not begun, and those behind it
pub next-slice : (sort : SlicedType) (t : Tables) (refer : Option ℕ → Piece Pen) (f : Format) (first : Bool) (s : Slice) (ss : List Slice) (w : Written Pen)
    → onto (others_left sort t refer f first (s ∷ ss)) w ≡ onto (others_left sort t refer f false ss) (onto (one_slice sort t refer f first (is_end t refer ss) s) w)
next-slice Class t refer sliced first s ss w = in-turn (slice_head Class t (is_there (table_of s)) true (is_end t refer ss) s) (sized_body t refer s) (written_slices t refer ss) w
next-slice Class t refer compact true s ss w = in-turn (plain_head Class t true (is_end t refer ss) s) (members_bytes t refer s) (written_bases t refer ss) w
next-slice Class t refer compact false s ss w = in-turn (plain_head Class t false (is_end t refer ss) s) (members_bytes t refer s) (written_bases t refer ss) w
next-slice Exception t refer sliced first s ss w =
    exception-head t (is_there (table_of s)) true (not (is_there ss)) s (sized_body (rows_of Exception t) refer s >> user_exception_slices t refer ss) w
    ∙ in-turn (slice_head Exception t (is_there (table_of s)) true (not (is_there ss)) s) (sized_body (rows_of Exception t) refer s) (user_exception_slices t refer ss) w
    ∙ ap (λ (last : Bool). onto (user_exception_slices t refer ss) (onto (one_slice Exception t refer sliced first last s) w)) (last-same t refer ss)
next-slice Exception t refer compact first s ss w =
    exception-head t false false (not (is_there ss)) s (members_bytes (rows_of Exception t) refer s >> user_exception_plain t refer ss) w
    ∙ in-turn (plain_head Exception t first (not (is_there ss)) s) (members_bytes (rows_of Exception t) refer s) (user_exception_plain t refer ss) w
    ∙ ap (λ (last : Bool). onto (user_exception_plain t refer ss) (onto (one_slice Exception t refer compact first last s) w)) (last-same t refer ss)

pub all-slices : (t : Tables) (refer : Option ℕ → Piece Pen) (f : Format) (ss : List Slice) (w : Written Pen) → onto (others_left Class t refer f true ss) w ≡ onto (written_as t refer f ss) w
all-slices t refer sliced ss w = refl
all-slices t refer compact ss w = refl

pub first-below : (count : ℕ) (s : Slice) (ss all : List Slice) → AreBelow count (instance_names all) → all ≡ s ∷ ss → AreBelow count (slice_names s) × AreBelow count (instance_names ss)
first-below count s ss all h is = below-both count (slice_names s) (instance_names ss) (subst (λ (l : List Slice). AreBelow count (instance_names l)) is h)

-- the next one has begun
pub begun-next : (sort : SlicedType) (t : Tables) (f : Format) (inside : InsideWritten Pen) (first said last : Bool) (s : Slice) (ss all : List Slice) (o : OpenSlice) (w w' : Written Pen) → said ≡ first → all ≡ s ∷ ss → last ≡ is_end t (refer_to inside) ss → is_first o ≡ false
    → onto (one_slice sort t (refer_to inside) f said last s) w ≡ open_left t inside o w'
    → onto (others_left sort t (refer_to inside) f first all) w ≡ onto (others_left sort t (refer_to inside) f (is_first o) ss) (open_left t inside o w')
begun-next sort t f inside first said last s ss all o w w' same is end begun wrote =
    let refer = refer_to inside in
    ap (λ (l : List Slice). onto (others_left sort t refer f first l) w) is
    ∙ next-slice sort t refer f first s ss w
    ∙ ap (λ (b : Bool). onto (others_left sort t refer f false ss) (onto (one_slice sort t refer f b (is_end t refer ss) s) w)) (sym same)
    ∙ ap (λ (b : Bool). onto (others_left sort t refer f false ss) (onto (one_slice sort t refer f said b s) w)) (sym end)
    ∙ ap (onto (others_left sort t refer f false ss)) wrote
    ∙ ap (λ (b : Bool). onto (others_left sort t refer f b ss) (open_left t inside o w')) (sym begun)

-- one is written whole
pub slice-done : (sort : SlicedType) (t : Tables) (f : Format) (inside : InsideWritten Pen) (u : Unfinished) (o : OpenSlice) (w w' : Written Pen) → open_left t inside u.current w ≡ w' → is_first o ≡ is_first u.current
    → instance_left sort t f inside u w ≡ onto (others_left sort t (refer_to inside) f (is_first o) (view_slices u.slices.now)) w'
slice-done sort t f inside u o w w' done first =
    ap (onto (others_left sort t (refer_to inside) f (is_first u.current) (view_slices u.slices.now))) done
    ∙ ap (λ (b : Bool). onto (others_left sort t (refer_to inside) f b (view_slices u.slices.now)) w') (sym first)

module _ (sort : SlicedType) (t : Tables) (f : Format) (inside : InsideWritten Pen) (old new : Unfinished) (w w' : Written Pen) where
  pub next-ended : (b : Bool) → b ≡ false → BeginsNext sort t f inside (Ok b) old new w w' → onto (others_left sort t (refer_to inside) f (is_first old.current) (view_slices old.slices.now)) w ≡ w'
  next-ended true is h = absurd (false≢true (sym is))
  next-ended false is h = h

  pub next-begun : (b : Bool) → b ≡ true → BeginsNext sort t f inside (Ok b) old new w w' → onto (others_left sort t (refer_to inside) f (is_first old.current) (view_slices old.slices.now)) w ≡ instance_left sort t f inside new w'
  next-begun true is h = h
  next-begun false is h = absurd (false≢true is)

pub begun-fits : (t : Tables) (count : ℕ) (s : Slice) (ss all : List Slice) (o : OpenSlice) (u : Unfinished) (out : List ℕ) → AreBelow count (instance_names all) → SlicesCanBeWritten t all → all ≡ s ∷ ss → u.current ≡ o → view_slices u.slices.now ≡ ss → OpenFits count o out → Fits t count u out
begun-fits t count s ss all o u out names can is current behind fits = record {
  current = subst (λ (x : OpenSlice). OpenFits count x out) (sym current) fits;
  names = subst (λ (l : List Slice). AreBelow count (instance_names l)) (sym behind) (first-below count s ss all names is).1;
  slices = subst (SlicesCanBeWritten t) (sym behind) (subst (SlicesCanBeWritten t) is can).1;
}

-- whether no slice follows
pub none-left : (t : Tables) (refer : Option ℕ → Piece Pen) (slices : List arena.Slice) (b : Bool) → b ≡ (length slices == 0) → b ≡ is_end t refer (view_slices slices)
none-left t refer [] b is = is ∙ eq-eqb 0 0 refl
none-left t refer (s ∷ ss) b is = is ∙ ne_eqb (suc (length ss)) 0 (λ e. absurd (omega (arith, e)))

-- ---- names of instances

pub most-few : (n : ℕ) → n < most → suc n < 2 ^ 31
unfolding most
most-few n lt = omega (arith, lt)

pub below-most : (count : ℕ) (ns : List ℕ) → count ≤ most → AreBelow count ns → AreBelow most ns
below-most count [] few h = tt
below-most count (n ∷ ns) few h = (omega (arith, h.0, few), below-most count ns few h.1)

pub open-most : (count : ℕ) (o : OpenSlice) (out : List ℕ) → count ≤ most → OpenFits count o out → OpenFits most o out
open-most count Nothing out few h = tt
open-most count (Found next names) out few h = (below-most count (drop next names) few h.0, h.1)
open-most count (Lent names) out few h = below-most count names.now few h
open-most count (opens.Members m) out few h = h
