-- How what is still written of instances in one another changes where one begins or ends, and what is written of the roots or
-- of an exception around them.
use Rattle.std.proofs.Common.{◌≡◌, ℕ, zero, suc, ◌+◌, ◌-◌, ◌≤◌, Bool, true, false, nat_lt, List, [], ◌∷◌, ◌++◌, length, Option, Some, None, refl, sym, ap, ◌∙◌, subst, arith, length-append}
use Rattle.ice_types.specs.declared.declarations.Member.{Member}
use Rattle.ice_types.specs.Tables.{Tables}
use Rattle.ice_prims.specs.Bytes.{size_bytes, Grows}
use Rattle.ice_encoding.specs.Writing.{Piece, exactly, ◌>>◌, written_each}
use Rattle.ice_encoding.specs.Pausing.{Put, written_begun, written_in_place}
use Rattle.ice_encoding.specs.OptionalMembers.{Members, shape_of}
use Rattle.ice_encoding.specs.Graph.{Slice, Graph}
use Rattle.ice_encoding.specs.Instances.{slices_of}
use Rattle.ice_encoding.specs.Visiting.{most}
use Rattle.ice_encoding.specs.Members.{written_content}
use Rattle.ice_encoding.specs.CanonicalGraph.{Pen, Format, blank, bytes_of, put_inline, with_one_begun, written_as, written_instance}
use Rattle.ice_encoding.specs.Exceptions.{of_exceptions}
use Rattle.ice_encoding.specs.UserExceptionWritten.{graph_of, user_exception_as, user_exception_bytes}
use Rattle.ice_encoding.specs.Names.{instance_names}
use Rattle.graph_arena.specs.Arena.{AreBelow}
use Rattle.graph_arena.specs.Seen.{view_slices}
use Rattle.value_writing.specs.Putting.{InsideWritten, Written, onto}
use Rattle.value_writing.proofs.WritingSteps.{options-of-tagged, all-left, stands-grown, grows-longer}
use Rattle.value_writing.specs.declared.ending.Ending.TheVariants.{Bound}
use Rattle.value_writing.specs.WritingMembers.{Remaining, all_of, members_left, RemainingFits}
use Rattle.value_parts.specs.declared.sliced_type.SlicedType.TheVariants.{Class, Exception}
use Rattle.instance_writing.specs.declared.open_slice.OpenSlice.{OpenSlice}
use Rattle.instance_writing.specs.declared.open_slice.OpenSlice.TheVariants as opens
use Rattle.instance_writing.specs.declared.unfinished.Unfinished.{Unfinished}
use Rattle.instance_writing.specs.Pens.{put_counted, begun_put, beginning_put}
use Rattle.instance_writing.specs.Opened.{refer_to, is_first, open_left, OpenFits}
use Rattle.instance_writing.specs.Remains.{others_left, instance_left, inside_at, stack_left, Fits, AllFit, with_options}
use Rattle.instance_writing.specs.Writable.{SlicesCanBeWritten, GraphCanBeWritten, UserExceptionCanBeWritten, user_exception_of}
use Rattle.instance_writing.proofs.Steps.{all-slices, open-grown}

most-more : most ≡ suc (most - 1)
unfolding most
most-more = refl

-- ---- counted with its reference, or where it is written

abbrev of_put : InsideWritten Pen → Put Pen → List ℕ × Pen
of_put inside p = let b = written_begun inside p.begun p.after in (p.bytes ++ b.0, b.1)

module _ (t : Tables) (f : Format) (g : Graph) where
  begins-same : (depth n : ℕ) (p : Pen) → of_put (written_instance t f g depth) (record { bytes = size_bytes 1; begun = Some n; after = p }) ≡ of_put (inside_at t f g depth) (beginning_put n p)
  begins-same zero n p = refl
  begins-same (suc depth) n p = refl

  same-by : (depth n : ℕ) (p : Pen) (b : Bool) → of_put (written_instance t f g depth) (elim b [ true ↦ record { bytes = size_bytes (suc (suc n)); begun = None; after = p } | false ↦ record { bytes = size_bytes 1; begun = Some n; after = p } ])
      ≡ of_put (inside_at t f g depth) (elim b [ true ↦ begun_put n p | false ↦ beginning_put n p ])
  same-by depth n p true = refl
  same-by depth n p false = begins-same depth n p

  same-at : (depth : ℕ) (name : Option ℕ) (p : Pen) → written_in_place put_inline (written_instance t f g depth) name p ≡ written_in_place put_counted (inside_at t f g depth) name p
  same-at depth None p = refl
  same-at depth (Some n) p = same-by depth n p (nat_lt n p.begun)

  pub same-refer : (depth : ℕ) → written_in_place put_inline (written_instance t f g depth) ≡ written_in_place put_counted (inside_at t f g depth)
  same-refer depth = λ i name p. same-at depth name p i

  -- an instance that begins is all its slices, in which one fewer may begin
  inside-more : (depth n : ℕ) (w : Written Pen) → onto (inside_at t f g (suc depth) n) w ≡ onto (written_as t (refer_to (inside_at t f g depth)) f (slices_of g.instances n)) w
  inside-more depth n w = ap (λ (r : Option ℕ → Piece Pen). onto (written_as t r f (slices_of g.instances n)) w) (same-refer depth)

  -- one of which no slice has begun
  fresh-left : (inside : InsideWritten Pen) (n : ℕ) (u : Unfinished) (w : Written Pen) → (u.current ≡ opens.Nothing) × (view_slices u.slices.now ≡ slices_of g.instances n) → onto (written_as t (refer_to inside) f (slices_of g.instances n)) w ≡ instance_left Class t f inside u w
  fresh-left inside n u w fresh =
      sym (all-slices t (refer_to inside) f (slices_of g.instances n) w)
      ∙ ap (λ (ss : List Slice). onto (others_left Class t (refer_to inside) f true ss) w) (sym fresh.1)
      ∙ ap (λ (o : OpenSlice). onto (others_left Class t (refer_to inside) f (is_first o) (view_slices u.slices.now)) (open_left t inside o w)) (sym fresh.0)

  -- ---- the stack

  stack-push : (depth : ℕ) (us : List Unfinished) (u : Unfinished) (w : Written Pen) → stack_left t f g depth (us ++ u ∷ []) w ≡ stack_left t f g depth us (instance_left Class t f (inside_at t f g (depth - length us)) u w)
  stack-push depth [] u w = let e : depth ≡ depth - 0 = omega arith in ap (λ (d : ℕ). instance_left Class t f (inside_at t f g d) u w) e
  stack-push depth (v ∷ us) u w =
      let e : depth - 1 - length us ≡ depth - suc (length us) = omega arith in
      ap (instance_left Class t f (inside_at t f g depth) v)
      (stack-push (depth - 1) us u w ∙ ap (λ (d : ℕ). stack_left t f g (depth - 1) us (instance_left Class t f (inside_at t f g d) u w)) e)

  -- the innermost instance is written whole
  pub instance-ends : (depth : ℕ) (us : List Unfinished) (old : Unfinished) (w w' : Written Pen) → ((inside : InsideWritten Pen) → instance_left Class t f inside old w ≡ w')
      → stack_left t f g depth (us ++ old ∷ []) w ≡ stack_left t f g depth us w'
  instance-ends depth us old w w' wrote = stack-push depth us old w ∙ ap (stack_left t f g depth us) (wrote (inside_at t f g (depth - length us)))

  -- one begins in it
  pub instance-begins : (depth : ℕ) (us mid all : List Unfinished) (old now next : Unfinished) (n : ℕ) (w w' : Written Pen) → length us + 1 ≤ depth → mid ≡ us ++ now ∷ [] → all ≡ mid ++ next ∷ []
      → (next.current ≡ opens.Nothing) × (view_slices next.slices.now ≡ slices_of g.instances n)
      → ((inside : InsideWritten Pen) → instance_left Class t f inside old w ≡ instance_left Class t f inside now (onto (inside n) w'))
      → stack_left t f g depth (us ++ old ∷ []) w ≡ stack_left t f g depth all w'
  instance-begins depth us mid all old now next n w w' room mid_is all_is fresh wrote =
      let d = depth - length mid in
      let e : depth - length us ≡ suc d = rw mid_is (omega (arith, length-append us (now ∷ []), room)) in
      stack-push depth us old w
      ∙ ap (stack_left t f g depth us) (wrote (inside_at t f g (depth - length us)))
      ∙ sym (stack-push depth us now (onto (inside_at t f g (depth - length us) n) w'))
      ∙ ap (λ (l : List Unfinished). stack_left t f g depth l (onto (inside_at t f g (depth - length us) n) w')) (sym mid_is)
      ∙ ap (λ (k : ℕ). stack_left t f g depth mid (onto (inside_at t f g k n) w')) e
      ∙ ap (stack_left t f g depth mid) (inside-more d n w' ∙ fresh-left (inside_at t f g d) n next w' fresh)
      ∙ sym (stack-push depth mid next w')
      ∙ ap (λ (l : List Unfinished). stack_left t f g depth l w') (sym all_is)

  -- one that is alone
  pub one-begins : (all : List Unfinished) (u : Unfinished) (n : ℕ) (w : Written Pen) → all ≡ u ∷ [] → (u.current ≡ opens.Nothing) × (view_slices u.slices.now ≡ slices_of g.instances n) → onto (inside_at t f g most n) w ≡ stack_left t f g (most - 1) all w
  one-begins all u n w is fresh =
      ap (λ (k : ℕ). onto (inside_at t f g k n) w) most-more ∙ inside-more (most - 1) n w
      ∙ fresh-left (inside_at t f g (most - 1)) n u w fresh
      ∙ ap (λ (l : List Unfinished). stack_left t f g (most - 1) l w) (sym is)

-- ---- what fits

module _ (t : Tables) (count : ℕ) where
  pub fits-push : (us : List Unfinished) (u : Unfinished) (out : List ℕ) → AllFit t count us out → Fits t count u out → AllFit t count (us ++ u ∷ []) out
  fits-push [] u out all fit = (fit, tt)
  fits-push (v ∷ us) u out all fit = (all.0, fits-push us u out all.1 fit)

  pub fits-pop : (us : List Unfinished) (u : Unfinished) (out : List ℕ) → AllFit t count (us ++ u ∷ []) out → AllFit t count us out × Fits t count u out
  fits-pop [] u out all = (tt, all.0)
  fits-pop (v ∷ us) u out all = let rest = fits-pop us u out all.1 in ((all.0, rest.0), rest.1)

  one-grown : (u : Unfinished) (out out' : List ℕ) → Fits t count u out → length out ≤ length out' → Fits t count u out'
  one-grown u out out' h longer = record { current = open-grown count u.current out out' h.current longer; names = h.names; slices = h.slices }

  -- the output has grown
  pub all-grown : (us : List Unfinished) (out out' : List ℕ) → AllFit t count us out → length out ≤ length out' → AllFit t count us out'
  all-grown [] out out' all longer = tt
  all-grown (u ∷ us) out out' all longer = (one-grown u out out' all.0 longer, all-grown us out out' all.1 longer)

-- ---- the whole content

pub content-written : (t : Tables) (f : Format) (g : Graph) (optional : List Member) → (written_content (written_in_place put_counted (inside_at t f g most)) t (shape_of optional) g.roots blank).0 ≡ bytes_of t (with_options optional) f g
content-written t f g optional =
    ap (λ (r : Option ℕ → Piece Pen). (written_content r t (shape_of optional) g.roots blank).0) (sym (same-refer t f g most))
    ∙ ap (λ (p : Piece Pen). ((written_each (written_in_place put_inline (written_instance t f g most)) g.roots.required >> p) blank).0) (sym (options-of-tagged (written_in_place put_inline (written_instance t f g most)) t optional [] g.roots.optional))

pub onto-grows : (piece : Piece Pen) (w w' : Written Pen) → w' ≡ onto piece w → Grows w.1 w'.1
onto-grows piece w w' is = ((piece w.0).0, ap (λ (x : Written Pen). x.1) is)

pub fresh-fits : (t : Tables) (g : Graph) (u : Unfinished) (n : ℕ) (out : List ℕ) → (u.current ≡ opens.Nothing) × (view_slices u.slices.now ≡ slices_of g.instances n) → AreBelow (length g.instances) (instance_names (slices_of g.instances n)) → ((n : ℕ) → SlicesCanBeWritten t (slices_of g.instances n))
    → Fits t (length g.instances) u out
fresh-fits t g u n out fresh below can = record {
  current = subst (λ (o : OpenSlice). OpenFits (length g.instances) o out) (sym fresh.0) tt;
  names = subst (λ (ss : List Slice). AreBelow (length g.instances) (instance_names ss)) (sym fresh.1) below;
  slices = subst (SlicesCanBeWritten t) (sym fresh.1) (can n);
}

pub content-begun : (t : Tables) (f : Format) (g : Graph) (optional : List Member) (r : Remaining) (c : Members) (p : Pen) (out : List ℕ) → r ≡ all_of Bound c → c ≡ g.roots → p ≡ blank
    → onto (written_content (written_in_place put_counted (inside_at t f g most)) t (shape_of optional) g.roots) (blank, out) ≡ members_left put_counted (inside_at t f g most) t optional r (p, out)
content-begun t f g optional r c p out is roots nothing =
    sym (all-left put_counted (inside_at t f g most) t optional Bound g.roots (blank, out))
    ∙ ap (λ (x : Remaining). members_left put_counted (inside_at t f g most) t optional x (blank, out)) (sym (is ∙ ap (all_of Bound) roots))
    ∙ ap (λ (q : Pen). members_left put_counted (inside_at t f g most) t optional r (q, out)) (sym nothing)

pub content-fits : (t : Tables) (g : Graph) (r : Remaining) (c : Members) (out : List ℕ) → r ≡ all_of Bound c → c ≡ g.roots → GraphCanBeWritten t g → RemainingFits r out
content-fits t g r c out is roots can = subst (λ (x : Remaining). RemainingFits x out) (sym (is ∙ ap (all_of Bound) roots)) ((can.roots.0, tt), can.roots.1, tt)

-- what is left can still be written behind an instance
pub remains-fit : (piece : Piece Pen) (r : Remaining) (p p' : Pen) (out out' : List ℕ) → (p', out') ≡ onto piece (p, out) → RemainingFits r out → RemainingFits r out'
remains-fit piece r p p' out out' wrote fits = (fits.0, fits.1, stands-grown r.place out out' fits.2 (grows-longer out out' (onto-grows piece (p, out) (p', out') wrote)))

-- ---- an exception

-- Of a graph the instances alone are used.
pub instances-only : (t : Tables) (f : Format) (g h : Graph) → g.instances ≡ h.instances → (depth : ℕ) → written_instance t f g depth ≡ written_instance t f h depth
instances-only t f g h same zero = λ i n. exactly []
instances-only t f g h same (suc depth) = λ i n p. written_as t (written_in_place put_inline (instances-only t f g h same depth i)) f (slices_of (same i) n) (with_one_begun p)

pub user_exception-written : (t : Tables) (f : Format) (g : Graph) (slices : List Slice) → (user_exception_as t (refer_to (inside_at t f g most)) f slices blank).0 ≡ user_exception_bytes t f (user_exception_of slices g)
user_exception-written t f g slices =
    ap (λ (r : Option ℕ → Piece Pen). (user_exception_as t r f slices blank).0) (sym (same-refer t f g most))
    ∙ ap (λ (begins : ℕ → Piece Pen). (user_exception_as t (written_in_place put_inline begins) f slices blank).0) (instances-only t f g (graph_of (user_exception_of slices g)) refl most)

module _ (t : Tables) (g : Graph) (slices : List Slice) (u : Unfinished) (fresh : (u.current ≡ opens.Nothing) × (view_slices u.slices.now ≡ slices)) where
  -- no slice of it has begun
  pub user_exception-begun : (f : Format) (inside : InsideWritten Pen) (p : Pen) (out : List ℕ) → p ≡ blank → onto (user_exception_as t (refer_to inside) f slices) (blank, out) ≡ instance_left Exception t f inside u (p, out)
  user_exception-begun f inside p out nothing =
      ap (λ (ss : List Slice). onto (user_exception_as t (refer_to inside) f ss) (blank, out)) (sym fresh.1)
      ∙ ap (λ (o : OpenSlice). onto (user_exception_as t (refer_to inside) f (view_slices u.slices.now)) (open_left t inside o (blank, out))) (sym fresh.0)
      ∙ ap (λ (q : Pen). instance_left Exception t f inside u (q, out)) (sym nothing)

  pub user_exception-fits : (out : List ℕ) → UserExceptionCanBeWritten t (user_exception_of slices g) → Fits (of_exceptions t) (length g.instances) u out
  user_exception-fits out can = record {
    current = subst (λ (o : OpenSlice). OpenFits (length g.instances) o out) (sym fresh.0) tt;
    names = subst (λ (ss : List Slice). AreBelow (length g.instances) (instance_names ss)) (sym fresh.1) can.names;
    slices = subst (SlicesCanBeWritten (of_exceptions t)) (sym fresh.1) can.slices;
  }

-- the output has grown by an instance
pub user_exception-grown : (t : Tables) (count : ℕ) (piece : Piece Pen) (u : Unfinished) (p p' : Pen) (out out' : List ℕ) → (p', out') ≡ onto piece (p, out) → Fits t count u out → Fits t count u out'
user_exception-grown t count piece u p p' out out' wrote fits = one-grown t count u out out' fits (grows-longer out out' (onto-grows piece (p, out) (p', out') wrote))
