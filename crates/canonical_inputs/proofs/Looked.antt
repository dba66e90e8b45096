-- One look at an instance that has begun: what is left behind it, with what was passed, is what was left before it.
use Rattle.std.proofs.Common.{◌≡◌, ℕ, zero, suc, ◌+◌, ◌-◌, ◌<◌, ◌≤◌, List, [], ◌∷◌, ◌++◌, length, drop, get_or, Option, None, Some, refl, sym, ap, ◌∙◌, subst, arith, inl, inr, append_assoc}
use Rattle.std.specs.Prelude.{slice_get}
use Rattle.std.proofs.lemmas.List.{append-nil, length-append, drop_more, drop_all}
use Rattle.std.proofs.lemmas.Option.{slice_get_within}
use Rattle.ice_types.specs.Tables.{Tables}
use Rattle.ice_prims.specs.Bytes.{size_bytes}
use Rattle.ice_encoding.specs.Classes.{base_of}
use Rattle.ice_encoding.specs.Graph.{Slice, known}
use Rattle.ice_encoding.specs.Instances.{class_fits}
use Rattle.ice_encoding.specs.TypedGraph.{AreBases}
use Rattle.ice_encoding.specs.CanonicalGraph.{Pen, with_one_begun}
use Rattle.canonical_values.specs.Frames.{Passes}
use Rattle.canonical_values.proofs.Joined.{passes_then}
use Rattle.canonical_inputs.specs.declared.slice.Passed.{Passed}
use Rattle.canonical_inputs.specs.declared.frame.Frame.{Frame}
use Rattle.canonical_inputs.specs.declared.frame.Met.{Met}
use Rattle.canonical_inputs.specs.declared.frame.Step.TheVariants as steps
use Rattle.canonical_inputs.specs.Standing.{Stretch, Then, ReferenceStands, InstanceStands}
use Rattle.canonical_inputs.specs.Heads.{pen_at}
use Rattle.canonical_inputs.specs.Slices.{SliceFound}
use Rattle.canonical_inputs.specs.Fitting.{Classes, by_class, IsOf, AreEntries, EntriesStand, BasesStand}
use Rattle.canonical_inputs.specs.Frames.{Agree, pen_of, Later, Steps}
use Rattle.canonical_inputs.specs.Looks.{IsNext, frame_of, named}
use Rattle.canonical_inputs.proofs.Sliced.{found_front, found_base, slice_found}

-- ---- stretches one after the other

then_front : (First Second Third : Stretch) (p mid q : Pen) (a b : List ℕ) (first others : List (List Slice)) → First p a mid first → Then Second Third mid b q others → Then (Then First Second) Third p (a ++ b) q (first ++ others)
then_front First Second Third p mid q a b first others h (c, d, mid', second, third, parts, all, k, l) = (
  a ++ c,
  d,
  mid',
  first ++ second,
  third,
  ap (λ (x : List ℕ). a ++ x) parts ∙ sym (append_assoc a c d),
  ap (λ (x : List (List Slice)). first ++ x) all ∙ sym (append_assoc first second third),
  (a, c, mid, first, second, refl, refl, h, k),
  l,
)

there_front : (a b : List ℕ) (i x : ℕ) → slice_get a i ≡ Some x → slice_get (a ++ b) i ≡ Some x
there_front [] b i x e = absurd cc
there_front (y ∷ a) b zero x e = e
there_front (y ∷ a) b (suc i) x e = there_front a b i x e

there_last : (a : List ℕ) (x : ℕ) → slice_get (a ++ x ∷ []) (length a) ≡ Some x
there_last [] x = refl
there_last (y ∷ a) x = there_last a x

-- the classes of the instances that have begun are those of all
module _ (classes : Classes) where
  pub agree_front : (a b : List ℕ) → Agree classes (a ++ b) → Agree classes a
  agree_front a b h n lt = by_place (slice_get a n) refl
    where
      at : n < length (a ++ b)
      at = omega (arith, lt, length-append a b)

      by_place : (o : Option ℕ) → slice_get a n ≡ o → classes n ≡ slice_get a n
      by_place (Some x) e = h n at ∙ there_front a b n x e ∙ sym e
      by_place None e = absurd (no_more a n lt e)
        where
          no_more : (l : List ℕ) (i : ℕ) → i < length l → slice_get l i ≡ None → ⊥
          no_more [] i lt e = omega (arith, lt)
          no_more (y ∷ l) zero lt e = cc
          no_more (y ∷ l) (suc i) lt e = no_more l i (omega (arith, lt)) e

pub later_same : (met : Met) → Later met met
later_same met = record { classes = ([], sym (append-nil met.classes.items)); few = λ h. h }

module _ (t : Tables) (input : List ℕ) where
  -- ---- an entry

  got : (xs : List (Option ℕ)) (i : ℕ) (x : Option ℕ) → slice_get xs i ≡ Some x → x ≡ get_or xs i x
  got [] i x e = absurd cc
  got (y ∷ ys) zero x e = cc
  got (y ∷ ys) (suc i) x e = got ys i x e

  pub entry_first : (classes : Classes) (f : Frame) (name class : ℕ) (names : List ℕ) → IsNext t f name class → classes name ≡ Some class
      → AreEntries t classes (drop (f.next + 1) f.needs.items) (Some name) names → AreEntries t classes (drop f.next f.needs.items) f.last (name ∷ names)
  entry_first classes f name class names next is h =
      let lt = slice_get_within f.needs.items f.next next.need next.there in
      subst (λ (needs : List (Option ℕ)). AreEntries t classes needs f.last (name ∷ names))
      (sym (drop_more f.needs.items f.next next.need lt ∙ ap (λ (d : Option ℕ). d ∷ drop (f.next + 1) f.needs.items) (sym (got f.needs.items f.next next.need next.there))))
      (next.above, ap (class_fits t next.need) is ∙ next.fits, h)

  pub gone_back : (at end name class : ℕ) (met : Met) (f : Frame) → Passes t input at end (size_bytes (suc (suc name))) → slice_get met.classes.items name ≡ Some class → IsNext t f name class
      → Steps t input at met f met (named f name) (steps.On end)
  gone_back at end name class met f passes there next = (
    later_same met,
    size_bytes (suc (suc name)),
    passes,
    λ classes more q agree (names, slices, news, entries, bases, stands).
        let below = slice_get_within met.classes.items name class there in (
          name ∷ names,
          slices,
          news,
          entry_first classes f name class names next (agree name below ∙ there) entries,
          bases,
          then_front (ReferenceStands (IsOf t classes) (InstanceStands t (IsOf t classes) f.depth) name) (EntriesStand t classes f.depth names) (BasesStand t classes f.depth slices) (pen_of t met) (pen_of t met) q
              (size_bytes (suc (suc name))) more [] news (inl (below, refl, refl, refl)) stands,
        ),
  )

  -- the pen with one more that has begun
  one_begun : (before : Met) (more : List ℕ) (classes : List ℕ) (class : ℕ) → classes ≡ before.classes.items ++ class ∷ [] → with_one_begun (pen_of t before) ≡ pen_at t (length classes) before.ids.items
  one_begun before more classes class e =
      let many : suc (length before.classes.items) ≡ length classes = sym (ap length e ∙ length-append before.classes.items (class ∷ []) ∙ omega arith) in
      ap (λ (n : ℕ). pen_at t n before.ids.items) many

  has_begun : (at front : ℕ) (before behind : Met) (f : Frame) (s : Passed) → 0 < f.depth → length before.classes.items < 100000 → Passes t input at front (size_bytes 1) → IsNext t f (length before.classes.items) s.class
      → SliceFound t input front before.ids.items behind.ids.items s → behind.classes.items ≡ before.classes.items ++ s.class ∷ []
      → Steps t input at before f behind (named f (length before.classes.items)) (steps.Into s.end (frame_of (f.depth - 1) s))
  has_begun at front before behind f s deep few passes next found grown = (
    record { classes = (s.class ∷ [], grown); few = λ h. let many : length behind.classes.items ≡ length before.classes.items + 1 = ap length grown ∙ length-append before.classes.items (s.class ∷ []) in omega (arith, many, few) },
    size_bytes 1 ++ found_front t input front before.ids.items behind.ids.items s found,
    passes_then t input at front s.end (size_bytes 1) (found_front t input front before.ids.items behind.ids.items s found) passes found.passes,
    λ classes inner more mid q agree (names', slices', news', entries', bases', stands') (names, slices, news, entries, bases, stands).
        let name = length before.classes.items in
        let own = slice_found t input front before.ids.items behind.ids.items s found classes (f.depth - 1) (length behind.classes.items) names' slices' inner mid news' entries' bases' stands' in
        let mine = known s.class own.content ∷ slices' in
        let last : slice_get behind.classes.items name ≡ Some s.class = ap (λ (l : List ℕ). slice_get l name) grown ∙ there_last before.classes.items s.class in
        let class : classes name ≡ Some s.class = agree name (omega (arith, ap length grown, length-append before.classes.items (s.class ∷ []))) ∙ last in
        let base : s.base ≡ base_of t s.class = found.base ∙ sym (found_base t s.class found.row found.is_row) in
        let level : suc (f.depth - 1) ≡ f.depth = omega (arith, deep) in
        let rest = found_front t input front before.ids.items behind.ids.items s found in
        let inside : InstanceStands t (IsOf t classes) f.depth mine (with_one_begun (pen_of t before)) (rest ++ inner) mid news' =
        subst (λ (d : ℕ). InstanceStands t (IsOf t classes) d mine (with_one_begun (pen_of t before)) (rest ++ inner) mid news') level
        (subst (λ (p : Pen). BasesStand t classes (f.depth - 1) mine p (rest ++ inner) mid news') (sym (one_begun before [] behind.classes.items s.class grown)) own.stands) in
        let good : IsOf t classes name mine = (sym class, (own.typed, subst (λ (o : Option ℕ). AreBases t (by_class t classes) o slices') base bases')) in (
          name ∷ names,
          slices,
          (mine ∷ news') ++ news,
          entry_first classes f name s.class names next class entries,
          bases,
          subst (λ (l : List ℕ). Then (EntriesStand t classes f.depth (name ∷ names)) (BasesStand t classes f.depth slices) (pen_of t before) l q ((mine ∷ news') ++ news)) (parts (size_bytes 1) rest inner more)
              (then_front (ReferenceStands (IsOf t classes) (InstanceStands t (IsOf t classes) f.depth) name) (EntriesStand t classes f.depth names) (BasesStand t classes f.depth slices) (pen_of t before) mid q
              (size_bytes 1 ++ (rest ++ inner)) more (mine ∷ news') news (inr (refl, mine, rest ++ inner, news', refl, refl, good, inside)) stands),
        ),
  )
    where
      parts : (one rest inner more : List ℕ) → (one ++ (rest ++ inner)) ++ more ≡ (one ++ rest) ++ (inner ++ more)
      parts one rest inner more = ap (λ (l : List ℕ). l ++ more) (sym (append_assoc one rest inner)) ∙ append_assoc (one ++ rest) inner more

  pub begun_as : (at front : ℕ) (before behind : Met) (f inside : Frame) (s : Passed) (name : ℕ) → name ≡ length before.classes.items → inside ≡ frame_of (f.depth - 1) s → 0 < f.depth → length before.classes.items < 100000
      → Passes t input at front (size_bytes 1) → IsNext t f name s.class → SliceFound t input front before.ids.items behind.ids.items s → behind.classes.items ≡ before.classes.items ++ s.class ∷ []
      → Steps t input at before f behind (named f name) (steps.Into s.end inside)
  begun_as at front before behind f inside s name many is deep few passes next found grown =
      subst (λ (g : Frame). Steps t input at before f behind (named f name) (steps.Into s.end g)) (sym is)
      (subst (λ (n : ℕ). Steps t input at before f behind (named f n) (steps.Into s.end (frame_of (f.depth - 1) s))) (sym many)
      (has_begun at front before behind f s deep few passes (subst (λ (n : ℕ). IsNext t f n s.class) many next) found grown))

  -- ---- the slice of a base

  nothing_first : (Next : Stretch) (p q : Pen) (bytes : List ℕ) (news : List (List Slice)) → Next p bytes q news → Then (λ p bytes q news. (bytes ≡ []) × (q ≡ p) × (news ≡ [])) Next p bytes q news
  nothing_first Next p q bytes news h = ([], bytes, p, [], news, refl, refl, (refl, refl, refl), h)

  based : (at class : ℕ) (before behind : Met) (f : Frame) (s : Passed) → length f.needs.items ≤ f.next → f.base ≡ Some class → s.class ≡ class → SliceFound t input at before.ids.items behind.ids.items s
      → behind.classes.items ≡ before.classes.items → Steps t input at before f behind (frame_of f.depth s) (steps.On s.end)
  based at class before behind f s none is same found kept = (
    record { classes = ([], kept ∙ sym (append-nil before.classes.items)); few = λ h. subst (λ (l : List ℕ). length l ≤ 100000) (sym kept) h },
    found_front t input at before.ids.items behind.ids.items s found,
    found.passes,
    λ classes more q agree (names, slices, news, entries, bases, stands).
        let own = slice_found t input at before.ids.items behind.ids.items s found classes f.depth (length behind.classes.items) names slices more q news entries bases stands in
        let mine = known s.class own.content ∷ slices in
        let base : s.base ≡ base_of t s.class = found.base ∙ sym (found_base t s.class found.row found.is_row) in
        let front = found_front t input at before.ids.items behind.ids.items s found in
        let here : BasesStand t classes f.depth mine (pen_of t before) (front ++ more) q news = subst (λ (l : List ℕ). BasesStand t classes f.depth mine (pen_at t (length l) before.ids.items) (front ++ more) q news) kept own.stands in
        let fit : AreBases t (by_class t classes) (Some s.class) mine = (refl, own.typed, subst (λ (o : Option ℕ). AreBases t (by_class t classes) o slices) base bases) in (
          [],
          mine,
          news,
          subst (λ (needs : List (Option ℕ)). AreEntries t classes needs f.last []) (sym (drop_all f.next f.needs.items none)) tt,
          subst (λ (o : Option ℕ). AreBases t (by_class t classes) o mine) (sym (is ∙ ap Some (sym same))) fit,
          nothing_first (BasesStand t classes f.depth mine) (pen_of t before) q (front ++ more) news here,
        ),
  )

  pub based_as : (at class : ℕ) (before behind : Met) (f new : Frame) (s : Passed) → new ≡ frame_of f.depth s → length f.needs.items ≤ f.next → f.base ≡ Some class → s.class ≡ class → SliceFound t input at before.ids.items behind.ids.items s
      → behind.classes.items ≡ before.classes.items → Steps t input at before f behind new (steps.On s.end)
  based_as at class before behind f new s made none is same found kept =
      subst (λ (g : Frame). Steps t input at before f behind g (steps.On s.end)) (sym made) (based at class before behind f s none is same found kept)

  -- ---- the end

  pub done : (at : ℕ) (met : Met) (f : Frame) → length f.needs.items ≤ f.next → f.base ≡ None → Steps t input at met f met f steps.Done
  done at met f none is = (
    refl,
    λ classes p. (
      [],
      [],
      [],
      subst (λ (needs : List (Option ℕ)). AreEntries t classes needs f.last []) (sym (drop_all f.next f.needs.items none)) tt,
      subst (λ (o : Option ℕ). AreBases t (by_class t classes) o []) (sym is) refl,
      nothing_first (BasesStand t classes f.depth []) p p [] [] (refl, refl, refl),
    ),
  )
