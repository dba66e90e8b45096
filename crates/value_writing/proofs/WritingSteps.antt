-- How what is still written of members changes with a step.
use Rattle.std.proofs.Common.{◌≡◌, ℕ, ◌+◌, ◌≤◌, Bool, true, false, List, [], ◌∷◌, ◌++◌, length, take, drop, Option, Some, None, refl, sym, ap, ◌∙◌, subst, append_assoc, arith, length-append, length-drop, suc, zero}
use Rattle.std.proofs.lemmas.List.{append-nil, take_at, drop_at, take-append-drop, length-take-le}
use Rattle.ice_types.specs.declared.kind.TypeRef.{TypeRef}
use Rattle.ice_types.specs.declared.declarations.Member.{Member}
use Rattle.ice_types.specs.Tables.{Tables}
use Rattle.ice_types.specs.Formats.{optional_format}
use Rattle.ice_encoding.specs.Parts.{size}
use Rattle.ice_encoding.specs.Skipping.{count}
use Rattle.ice_encoding.specs.Tags.{tag}
use Rattle.ice_prims.specs.Bytes.{Grows}
use Rattle.ice_encoding.specs.Tree.{Tree, Trees, none, tree}
use Rattle.ice_encoding.specs.Canonical.{HasSizes}
use Rattle.ice_encoding.specs.Writing.{Piece, Writer, exactly, ◌>>◌, written, written_each}
use Rattle.ice_encoding.specs.Pausing.{Put, written_in_place}
use Rattle.ice_encoding.specs.Prefixes.{Prefix, no_length, own_size, as_size, as_int, prefix_of}
use Rattle.ice_encoding.specs.Optionals.{Present, kind_tagged}
use Rattle.ice_encoding.specs.OptionalMembers.{Members, with_optional, shape_of}
use Rattle.ice_encoding.specs.Members.{framing, written_option, written_options}
use Rattle.value_writing.specs.Putting.{InsideWritten, Written, onto, Waiting, Values, left_written, all_fit}
use Rattle.value_writing.proofs.Levels.{onto-then, onto-nothing, Grows-then, one-written, left-push}
use Rattle.value_writing.specs.declared.ending.Ending.{Ending}
use Rattle.value_writing.specs.declared.ending.Ending.TheVariants.{Marked, Bound}
use Rattle.value_writing.specs.declared.length_place.LengthPlace.{LengthPlace}
use Rattle.value_writing.specs.declared.length_place.LengthPlace.TheVariants as places
use Rattle.value_writing.specs.WritingLengths.{held, length_at, with_length_at, Stands, IsBehind, GoesOnFrom}
use Rattle.value_writing.specs.WritingMembers.{Remaining, measured, marker, behind_written, members_left, values_of, place_of, tag_bytes, held_bytes, OptionsFit, ContentCanBeWritten, RemainingFits, tagged, all_of, members_written}

-- ---- a value behind its prefix

inserted : (put : ℕ → List ℕ) (out bytes : List ℕ) → out ++ (put (length bytes) ++ bytes) ≡ take (length out) (out ++ bytes) ++ (put (length (drop (length out) (out ++ bytes))) ++ drop (length out) (out ++ bytes))
inserted put out bytes = rw (take_at out bytes (length out) refl, drop_at out bytes (length out) refl) refl

patched : (put : ℕ → List ℕ) (out over bytes : List ℕ) (n : ℕ) → n ≡ length out + length over → out ++ (put (length bytes) ++ bytes) ≡ take (length out) ((out ++ over) ++ bytes) ++ (put (length (drop n ((out ++ over) ++ bytes))) ++ drop n ((out ++ over) ++ bytes))
patched put out over bytes n is =
    let whole : n ≡ length (out ++ over) = is ∙ sym (length-append out over) in
    rw (drop_at (out ++ over) bytes n (sym whole), append_assoc out over bytes, take_at out (over ++ bytes) (length out) refl) refl

pub framing-measured : {S : Type 0} (prefix : Prefix) (p : Piece S) (s : S) (out : List ℕ) → onto (framing prefix p) (s, out) ≡ measured (length_at prefix (length out)) (onto p (s, out ++ held prefix))
framing-measured no_length p s out = rw append-nil refl
framing-measured own_size p s out = rw append-nil refl
framing-measured as_size p s out = rw (append-nil out) (ap (λ (l : List ℕ). ((p s).1, l)) (inserted size.put out (p s).0))
framing-measured as_int p s out = ap (λ (l : List ℕ). ((p s).1, l)) (patched count.put out (0 ∷ 0 ∷ 0 ∷ 0 ∷ []) (p s).0 (length out + 4) refl)

-- ---- an optional member

module _ {S : Type 0} (put : Option ℕ → S → Put S) (inside : InsideWritten S) (t : Tables) where
  -- by the type of the member that has its tag
  option-begun : (kind : Option TypeRef) (number : ℕ) (v : Tree) (s : S) (out : List ℕ)
      → onto (written_option (written_in_place put inside) t number kind v) (s, out)
      ≡ measured (place_of t kind (length (out ++ tag_bytes t number kind))) (onto (left_written put inside (values_of kind v)) (s, (out ++ tag_bytes t number kind) ++ held_bytes t kind))
  option-begun None number v s out = ap (λ (l : List ℕ). (s, l)) (simp append-nil)
  option-begun (Some kind) number v s out =
      let front = out ++ tag.put (number, optional_format t kind) in
      let piece = written (written_in_place put inside) v in
      onto-then (exactly (tag.put (number, optional_format t kind))) (framing (prefix_of t kind) piece) (s, out)
      ∙ framing-measured (prefix_of t kind) piece s front
      ∙ ap (measured (length_at (prefix_of t kind) (length front)))
      (sym (one-written put inside [] (Values (tree v none) ∷ []) v (s, front ++ held (prefix_of t kind)) refl ∙ onto-nothing (onto piece (s, front ++ held (prefix_of t kind)))))

  module _ (members : List Member) where
    -- the values at hand are written, and then their length, and the next optional member begins
    pub next-begun : (r now : Remaining) (w : Written S) (number : ℕ) (v : Tree) (others : Present) (s : S) (out out' out'' : List ℕ)
        → onto (left_written put inside r.values) w ≡ (s, out) → out' ≡ with_length_at r.place out → r.optional ≡ (number, v) ∷ others
        → now.values ≡ values_of (kind_tagged number members) v
        → now.place ≡ place_of t (kind_tagged number members) (length (out' ++ tag_bytes t number (kind_tagged number members)))
        → now.optional ≡ others → now.marked ≡ r.marked
        → out'' ≡ (out' ++ tag_bytes t number (kind_tagged number members)) ++ held_bytes t (kind_tagged number members)
        → members_left put inside t members r w ≡ members_left put inside t members now (s, out'')
    next-begun r now w number v others s out out' out'' gone length-put first values place rest same front =
        let refer = written_in_place put inside in
        ap (behind_written put inside t members r) gone
        ∙ ap (λ (l : List ℕ). onto (written_options refer t members (marker r.marked) r.optional) (s, l)) (sym length-put)
        ∙ ap (λ (os : Present). onto (written_options refer t members (marker r.marked) os) (s, out')) first
        ∙ onto-then (written_option refer t number (kind_tagged number members) v) (written_options refer t members (marker r.marked) others) (s, out')
        ∙ ap (onto (written_options refer t members (marker r.marked) others)) (option-begun (kind_tagged number members) number v s out')
        ∙ rw (values, place, rest, same, front) refl

    -- or the end is written
    pub all-written : (r : Remaining) (w : Written S) (s : S) (out out' out'' : List ℕ)
        → onto (left_written put inside r.values) w ≡ (s, out) → out' ≡ with_length_at r.place out → r.optional ≡ [] → out'' ≡ out' ++ marker r.marked
        → members_left put inside t members r w ≡ (s, out'')
    all-written r w s out out' out'' gone length-put ended marked =
        let refer = written_in_place put inside in
        ap (behind_written put inside t members r) gone
        ∙ ap (λ (l : List ℕ). onto (written_options refer t members (marker r.marked) r.optional) (s, l)) (sym length-put)
        ∙ ap (λ (os : Present). onto (written_options refer t members (marker r.marked) os) (s, out')) ended
        ∙ ap (λ (l : List ℕ). (s, l)) (sym marked)

-- ---- places of lengths

pub grows-longer : (old new : List ℕ) → Grows old new → length old ≤ length new
grows-longer old new (more, is) = omega (arith, ap length is, length-append old more)

between-longer : (out front middle behind : List ℕ) → front ++ behind ≡ out → length out ≤ length (front ++ (middle ++ behind))
between-longer out front middle behind is = omega (arith, ap length is, length-append front behind, length-append front (middle ++ behind), length-append middle behind)

over-longer : (a b c d at : ℕ) (out : List ℕ) → at + 4 ≤ length out → length out ≤ length (take at out ++ (a ∷ b ∷ c ∷ d ∷ drop (at + 4) out))
over-longer a b c d at out stands = omega (arith, length-append (take at out) (a ∷ b ∷ c ∷ d ∷ drop (at + 4) out), length-take-le at out (omega arith), length-drop (at + 4) out)

pub longer-put : (place : LengthPlace) (out : List ℕ) → Stands place out → length out ≤ length (with_length_at place out)
longer-put places.Nowhere out stands = omega arith
longer-put (places.Size at) out stands = between-longer out (take at out) (size.put (length (drop at out))) (drop at out) (take-append-drop at out)
longer-put (places.Int at) out stands = over-longer _ _ _ _ at out stands

front-kept : (base more : List ℕ) (at : ℕ) → length base ≤ at → (rest : List ℕ) × (take at (base ++ more) ≡ base ++ rest)
front-kept [] more at le = (take at more, refl)
front-kept (b ∷ bs) more zero le = absurd (omega (arith, le))
front-kept (b ∷ bs) more (suc at) le = let f = front-kept bs more at (omega arith) in (f.0, ap (λ (l : List ℕ). b ∷ l) f.1)

front-grows : (base out rest : List ℕ) (at : ℕ) → Grows base out → length base ≤ at → Grows base (take at out ++ rest)
front-grows base out rest at (more, is) le =
    let f = front-kept base more at le in
    (f.0 ++ rest, ap (λ (l : List ℕ). l ++ rest) (ap (take at) is ∙ f.1) ∙ append_assoc base f.0 rest)

grown-put : (base : List ℕ) (place : LengthPlace) (out : List ℕ) → Grows base out → IsBehind (length base) place → Grows base (with_length_at place out)
grown-put base places.Nowhere out grows behind = grows
grown-put base (places.Size at) out grows behind = front-grows base out (size.put (length (drop at out)) ++ drop at out) at grows behind
grown-put base (places.Int at) out grows behind = front-grows base out (count.put (length (drop (at + 4) out)) ++ drop (at + 4) out) at grows behind

pub stands-grown : (place : LengthPlace) (out out' : List ℕ) → Stands place out → length out ≤ length out' → Stands place out'
stands-grown places.Nowhere out out' stands h = tt
stands-grown (places.Size at) out out' stands h = omega arith
stands-grown (places.Int at) out out' stands h = omega arith

-- values are written behind the output, and then their length
pub put-grows : (base : List ℕ) (place : LengthPlace) (out mid now : List ℕ) → GoesOnFrom base place out → Grows out mid → now ≡ with_length_at place mid → Grows base now
put-grows base place out mid now h grows is = subst (λ (l : List ℕ). Grows base l) (sym is) (grown-put base place mid (Grows-then base out mid h.0 grows) h.1)

pub put-longer : (place : LengthPlace) (out mid now : List ℕ) → Stands place out → Grows out mid → now ≡ with_length_at place mid → length out ≤ length now
put-longer place out mid now stands grows is =
    let longer = grows-longer out mid grows in
    let after : length mid ≤ length now = rw is (longer-put place mid (stands-grown place out mid stands longer)) in
    omega arith

-- the place of a length that is held
held-stands : (prefix : Prefix) (out : List ℕ) → Stands (length_at prefix (length out)) (out ++ held prefix)
held-stands no_length out = tt
held-stands own_size out = tt
held-stands as_size out = rw append-nil (omega arith)
held-stands as_int out = rw (length-append out (0 ∷ 0 ∷ 0 ∷ 0 ∷ [])) (omega arith)

kind-stands : (t : Tables) (kind : Option TypeRef) (out : List ℕ) → Stands (place_of t kind (length out)) (out ++ held_bytes t kind)
kind-stands t None out = tt
kind-stands t (Some kind) out = held-stands (prefix_of t kind) out

pub begun-stands : (t : Tables) (kind : Option TypeRef) (out now : List ℕ) (place : LengthPlace) → place ≡ place_of t kind (length out) → now ≡ out ++ held_bytes t kind → Stands place now
begun-stands t kind out now place is front = rw (is, front) (kind-stands t kind out)

held-behind : (prefix : Prefix) (n at : ℕ) → n ≤ at → IsBehind n (length_at prefix at)
held-behind no_length n at le = tt
held-behind own_size n at le = tt
held-behind as_size n at le = le
held-behind as_int n at le = le

kind-behind : (t : Tables) (kind : Option TypeRef) (n at : ℕ) → n ≤ at → IsBehind n (place_of t kind at)
kind-behind t None n at le = tt
kind-behind t (Some kind) n at le = held-behind (prefix_of t kind) n at le

pub begun-behind : (t : Tables) (kind : Option TypeRef) (base out front : List ℕ) (place : LengthPlace) → Grows base out → place ≡ place_of t kind (length (out ++ front)) → IsBehind (length base) place
begun-behind t kind base out front place grows is =
    let longer = grows-longer base out grows in
    rw is (kind-behind t kind (length base) (length (out ++ front)) (omega (arith, length-append out front)))

-- ---- sizes

pub values-fit : (kind : Option TypeRef) (v : Tree) (values : List Waiting) → values ≡ values_of kind v → HasSizes v → all_fit values
values-fit None v values is fits = rw is (tt, tt)
values-fit (Some kind) v values is fits = rw is ((fits, tt), tt)

pub first-fits : (number : ℕ) (v : Tree) (options others : Present) → options ≡ (number, v) ∷ others → OptionsFit options → HasSizes v × OptionsFit others
first-fits number v options others is fits = let apart : OptionsFit ((number, v) ∷ others) = subst OptionsFit is fits in (apart.1, apart.2)

-- ---- members by themselves

-- members without a tag have no part in it
kind-step : (number : ℕ) (m : Member) (ms : List Member) (own : Option ℕ) → m.tag ≡ own → kind_tagged number (tagged ms) ≡ kind_tagged number ms → kind_tagged number (tagged (m ∷ ms)) ≡ kind_tagged number (m ∷ ms)
kind-step number m ms None is others = simp (is, others)
kind-step number m ms (Some own) is others = simp (is, others)

pub kind-among-tagged : (number : ℕ) (ms : List Member) → kind_tagged number (tagged ms) ≡ kind_tagged number ms
kind-among-tagged number [] = refl
kind-among-tagged number (m ∷ ms) = kind-step number m ms m.tag refl (kind-among-tagged number ms)

pub options-of-tagged : {S : Type 0} (refer : Writer S (Option ℕ)) (t : Tables) (members : List Member) (end : List ℕ) (os : Present) → written_options refer t members end os ≡ written_options refer t (tagged members) end os
options-of-tagged refer t members end [] = refl
options-of-tagged refer t members end (o ∷ os) =
    ap (λ (p : Piece _). written_option refer t o.0 (kind_tagged o.0 members) o.1 >> p) (options-of-tagged refer t members end os)
    ∙ ap (λ (kind : Option TypeRef). written_option refer t o.0 kind o.1 >> written_options refer t (tagged members) end os) (sym (kind-among-tagged o.0 members))

module _ {S : Type 0} (put : Option ℕ → S → Put S) (inside : InsideWritten S) (t : Tables) (members : List Member) where
  all-by : (required : Trees) (os : Present) (marked : Bool) (ended : Piece S) (w : Written S) → written_options (written_in_place put inside) t members (marker marked) os ≡ ended
      → members_left put inside t members (record { values = Values required ∷ []; place = places.Nowhere; optional = os; marked = marked }) w ≡ onto (written_each (written_in_place put inside) required >> ended) w
  all-by required os marked ended w is =
      let refer = written_in_place put inside in
      ap (onto (written_options refer t members (marker marked) os)) (left-push put inside [] (Values required) w ∙ onto-nothing (onto (written_each refer required) w))
      ∙ ap (λ (p : Piece S). onto p (onto (written_each refer required) w)) is
      ∙ sym (onto-then (written_each refer required) ended w)

  marked-left : (required : Trees) (os : Present) (w : Written S) → members_left put inside t members (all_of Marked (with_optional required os)) w ≡ onto (members_written (written_in_place put inside) t Marked (shape_of members) (with_optional required os)) w
  marked-left required [] w = all-by required [] false (exactly []) w refl
  marked-left required (o ∷ os) w = all-by required (o ∷ os) true _ w (options-of-tagged (written_in_place put inside) t members (255 ∷ []) (o ∷ os))

  bound-left : (required : Trees) (os : Present) (w : Written S) → members_left put inside t members (all_of Bound (with_optional required os)) w ≡ onto (members_written (written_in_place put inside) t Bound (shape_of members) (with_optional required os)) w
  bound-left required [] w = all-by required [] false _ w (options-of-tagged (written_in_place put inside) t members [] [])
  bound-left required (o ∷ os) w = all-by required (o ∷ os) false _ w (options-of-tagged (written_in_place put inside) t members [] (o ∷ os))

  -- What is left before the first byte is the members by themselves: those of a slice, or those of a whole content.
  pub all-left : (ending : Ending) (c : Members) (w : Written S) → members_left put inside t members (all_of ending c) w ≡ onto (members_written (written_in_place put inside) t ending (shape_of members) c) w
  all-left Marked c w = marked-left c.required c.optional w
  all-left Bound c w = bound-left c.required c.optional w

pub fresh-goes : (r : Remaining) (ending : Ending) (c : Members) (out : List ℕ) → r ≡ all_of ending c → GoesOnFrom out r.place out
fresh-goes r ending c out is = rw is (([], sym (append-nil out)), tt)

pub fresh-fits : (r : Remaining) (ending : Ending) (c : Members) (out : List ℕ) → r ≡ all_of ending c → ContentCanBeWritten c → RemainingFits r out
fresh-fits r ending c out is fits = rw is ((fits.0, tt), fits.1, tt)

-- the output has grown behind what is left, by an instance
pub fits-grown : (r : Remaining) (out out' : List ℕ) → RemainingFits r out → length out ≤ length out' → RemainingFits r out'
fits-grown r out out' fits longer = (fits.0, fits.1, stands-grown r.place out out' fits.2 longer)
