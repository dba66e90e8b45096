-- What the walk keeps: if what follows is what the frames wait for, then with it what was passed is the reference to the first instance.
use Rattle.std.proofs.Common.{◌≡◌, ℕ, ◌≤◌, List, [], ◌∷◌, ◌++◌, length, take, drop, map, Option, None, refl, sym, ap, ◌∙◌, subst, arith, append_assoc}
use Rattle.std.specs.Prelude.{slice_get}
use Rattle.std.proofs.lemmas.List.{append-nil, take-append-drop, take_at, length-append, length-drop}
use Rattle.ice_types.specs.Tables.{Tables}
use Rattle.ice_encoding.specs.CanonicalGraph.{Pen, blank, id_in}
use Rattle.canonical_values.specs.Frames.{Passes}
use Rattle.canonical_inputs.specs.declared.frame.Frame.{Frame}
use Rattle.canonical_inputs.specs.declared.frame.Met.{Met}
use Rattle.canonical_inputs.specs.declared.frame.Step.{Step}
use Rattle.canonical_inputs.specs.declared.frame.Step.TheVariants as steps
use Rattle.canonical_inputs.specs.Fitting.{deepest, Classes, Rests, Whole}
use Rattle.canonical_inputs.specs.Frames.{Fills, FillAll, Agree, pen_of, Steps}
use Rattle.canonical_inputs.proofs.Looked.{agree_front}

module _ (t : Tables) (classes : Classes) where
  -- ---- frames one inside the other

  opened : (fs : List Frame) (f : Frame) (p : Pen) (bytes : List ℕ) (q : Pen) → FillAll t classes (fs ++ f ∷ []) p bytes q → (a b : List ℕ) × (mid : Pen) × (bytes ≡ a ++ b) × Fills t classes f p a mid × FillAll t classes fs mid b q
  opened [] f p bytes q (inner, own, mid, e, (nil, same), h) =
      (own, [], q, e ∙ ap (λ (l : List ℕ). l ++ own) nil ∙ sym (append-nil own), subst (λ (m : Pen). Fills t classes f m own q) same h, (refl, refl))
  opened (g ∷ fs) f p bytes q (inner, own, mid, e, all, h) =
      let r = opened fs f p inner mid all in
      (r.0, r.1 ++ own, r.2, e ∙ ap (λ (l : List ℕ). l ++ own) r.3 ∙ append_assoc r.0 r.1 own, r.4, (r.1, own, mid, refl, r.5, h))

  pub closed : (fs : List Frame) (f : Frame) (p mid q : Pen) (a b : List ℕ) → Fills t classes f p a mid → FillAll t classes fs mid b q → FillAll t classes (fs ++ f ∷ []) p (a ++ b) q
  closed [] f p mid q a b h (nil, same) = ([], a, p, ap (λ (l : List ℕ). a ++ l) nil ∙ append-nil a, (refl, refl), subst (λ (m : Pen). Fills t classes f p a m) (sym same) h)
  closed (g ∷ fs) f p mid q a b h (inner, own, mid', e, all, k) =
      (a ++ inner, own, mid', ap (λ (l : List ℕ). a ++ l) e ∙ sym (append_assoc a inner own), closed fs f p mid mid' a inner h all, k)

  pub went_on : (fs : List Frame) (old new : Frame) (p p' q : Pen) (front more : List ℕ) → ((more : List ℕ) (q : Pen) → Fills t classes new p' more q → Fills t classes old p (front ++ more) q)
      → FillAll t classes (fs ++ new ∷ []) p' more q → FillAll t classes (fs ++ old ∷ []) p (front ++ more) q
  went_on fs old new p p' q front more grow h =
      let o = opened fs new p' more q h in
      subst (λ (l : List ℕ). FillAll t classes (fs ++ old ∷ []) p l q) (sym (ap (λ (l : List ℕ). front ++ l) o.3 ∙ sym (append_assoc front o.0 o.1)))
      (closed fs old p o.2 q (front ++ o.0) o.1 (grow o.0 o.2 o.4) o.5)

  pub went_in : (fs : List Frame) (old new inside : Frame) (p p' q : Pen) (front more : List ℕ)
      → ((inner more : List ℕ) (mid q : Pen) → Fills t classes inside p' inner mid → Fills t classes new mid more q → Fills t classes old p (front ++ (inner ++ more)) q)
      → FillAll t classes ((fs ++ new ∷ []) ++ inside ∷ []) p' more q → FillAll t classes (fs ++ old ∷ []) p (front ++ more) q
  went_in fs old new inside p p' q front more grow h =
      let o = opened (fs ++ new ∷ []) inside p' more q h in
      let r = opened fs new o.2 o.1 q o.5 in
      let parts : front ++ more ≡ (front ++ (o.0 ++ r.0)) ++ r.1 = ap (λ (l : List ℕ). front ++ l) (o.3 ∙ ap (λ (l : List ℕ). o.0 ++ l) r.3 ∙ sym (append_assoc o.0 r.0 r.1)) ∙ sym (append_assoc front (o.0 ++ r.0) r.1) in
      subst (λ (l : List ℕ). FillAll t classes (fs ++ old ∷ []) p l q) (sym parts) (closed fs old p r.2 q (front ++ (o.0 ++ r.0)) r.1 (grow o.0 r.0 o.2 r.2 o.4 r.4) r.5)

-- what was passed is the bytes in between
passed_take : (t : Tables) (input : List ℕ) (at next : ℕ) (front : List ℕ) → at ≤ length input → Passes t input at next front → take next input ≡ take at input ++ front
passed_take t input at next front le (few, is) =
    let parts : input ≡ (take at input ++ front) ++ drop next input = sym (take-append-drop at input) ∙ ap (λ (l : List ℕ). take at input ++ l) is ∙ sym (append_assoc (take at input) front (drop next input)) in
    let many : length (take at input ++ front) ≡ next = omega (arith, ap length parts, length-append (take at input ++ front) (drop next input), length-drop next input, few) in
    ap (take next) parts ∙ take_at (take at input ++ front) (drop next input) next many

-- ---- what is kept

-- whichever classes those have that are still to begin: what the frames wait for makes it whole
abbrev pub Promises : Tables → Option ℕ → List ℕ → List Frame → Frame → Met → ℕ → Type 0
Promises t declared input fs top met at = (classes : Classes) (more : List ℕ) (q : Pen) → Agree classes met.classes.items → FillAll t classes (fs ++ top ∷ []) (pen_of t met) more q → Whole t declared classes (take at input ++ more) q

pub record Kept (t : Tables) (declared : Option ℕ) (input : List ℕ) (fs : List Frame) (top : Frame) (met : Met) (at : ℕ) : Type 0 where
  pub within : at ≤ length input
  pub few : length met.classes.items ≤ 100000
  pub promises : Promises t declared input fs top met at

module _ (t : Tables) (declared : Option ℕ) (input : List ℕ) where
  pub kept_at_first : (fs : List Frame) (top : Frame) (met : Met) → fs ≡ [] → met.classes.items ≡ [] → met.ids.items ≡ [] → top.depth ≡ deepest → top.needs.items ≡ declared ∷ [] → top.next ≡ 0 → top.last ≡ None → top.base ≡ None
      → Kept t declared input fs top met 0
  kept_at_first fs top met none no_class no_id depth needs next last base = record {
    within = omega arith;
    few = let e : length met.classes.items ≡ 0 = ap length no_class in omega (arith, e);
    promises = λ classes more q agree all. first classes more q (subst (λ (gs : List Frame). FillAll t classes (gs ++ top ∷ []) (pen_of t met) more q) none all);
  }
    where
      start : pen_of t met ≡ blank
      start = λ i. record { begun = length (no_class i); ids = map (λ class. id_in (slice_get t.classes class)) (no_id i) }

      first : (classes : Classes) (more : List ℕ) (q : Pen) → FillAll t classes (top ∷ []) (pen_of t met) more q → Whole t declared classes more q
      first classes more q (inner, own, mid, e, (nil, same), h) =
          let is : own ≡ more = sym (e ∙ ap (λ (l : List ℕ). l ++ own) nil) in
          let here : Fills t classes top blank more q = subst (λ (p : Pen). Fills t classes top p more q) (same ∙ start) (subst (λ (l : List ℕ). Fills t classes top mid l q) is h) in
          subst (λ (d : ℕ). Rests t classes d (declared ∷ []) None None blank more q) depth
          (subst (λ (o : Option ℕ). Rests t classes top.depth (declared ∷ []) None o blank more q) base
          (subst (λ (o : Option ℕ). Rests t classes top.depth (declared ∷ []) o top.base blank more q) last
          (subst (λ (l : List (Option ℕ)). Rests t classes top.depth l top.last top.base blank more q) (ap (λ (n : ℕ). drop n top.needs.items) next ∙ needs) here)))

  further : (classes : Classes) (q : Pen) (at next : ℕ) (front more : List ℕ) → take next input ≡ take at input ++ front → Whole t declared classes (take at input ++ (front ++ more)) q → Whole t declared classes (take next input ++ more) q
  further classes q at next front more is h =
      subst (λ (l : List ℕ). Whole t declared classes l q) (sym (append_assoc (take at input) front more) ∙ ap (λ (l : List ℕ). l ++ more) (sym is)) h

  earlier : (before behind : Met) (classes : Classes) → ((more : List ℕ) × (behind.classes.items ≡ before.classes.items ++ more)) → Agree classes behind.classes.items → Agree classes before.classes.items
  earlier before behind classes (more, e) agree = agree_front classes before.classes.items more (subst (Agree classes) e agree)

  pub kept_on : (fs : List Frame) (old new : Frame) (before behind : Met) (at next : ℕ) (s : Step) → s ≡ steps.On next → Steps t input at before old behind new s → Kept t declared input fs old before at → Kept t declared input fs new behind next
  kept_on fs old new before behind at next s is h k =
      let g : Steps t input at before old behind new (steps.On next) = subst (λ (x : Step). Steps t input at before old behind new x) is h in
      record {
        within = g.2.0;
        few = g.0.few k.few;
        promises = λ classes more q agree all.
            further classes q at next g.1 more (passed_take t input at next g.1 k.within g.2)
            (k.promises classes (g.1 ++ more) q (earlier before behind classes g.0.classes agree) (went_on t classes fs old new (pen_of t before) (pen_of t behind) q g.1 more (λ more q. g.3 classes more q agree) all));
      }

  pub kept_in : (fs gs : List Frame) (old new inside : Frame) (before behind : Met) (at next : ℕ) (s : Step) → s ≡ steps.Into next inside → gs ≡ fs ++ new ∷ [] → Steps t input at before old behind new s
      → Kept t declared input fs old before at → Kept t declared input gs inside behind next
  kept_in fs gs old new inside before behind at next s is e h k =
      let g : Steps t input at before old behind new (steps.Into next inside) = subst (λ (x : Step). Steps t input at before old behind new x) is h in
      subst (λ (xs : List Frame). Kept t declared input xs inside behind next) (sym e) (record {
        within = g.2.0;
        few = g.0.few k.few;
        promises = λ classes more q agree all.
            further classes q at next g.1 more (passed_take t input at next g.1 k.within g.2)
            (k.promises classes (g.1 ++ more) q (earlier before behind classes g.0.classes agree)
            (went_in t classes fs old new inside (pen_of t before) (pen_of t behind) q g.1 more (λ inner more mid q. g.3 classes inner more mid q agree) all));
      })

  pub kept_out : (fs gs : List Frame) (old new top : Frame) (before behind : Met) (at : ℕ) (s : Step) → s ≡ steps.Done → fs ≡ gs ++ top ∷ [] → Steps t input at before old behind new s
      → Kept t declared input fs old before at → Kept t declared input gs top behind at
  kept_out fs gs old new top before behind at s is e h k =
      let g : Steps t input at before old behind new steps.Done = subst (λ (x : Step). Steps t input at before old behind new x) is h in
      let here : Kept t declared input gs top before at = record {
        within = k.within;
        few = k.few;
        promises = λ classes more q agree all.
            k.promises classes more q agree (closed t classes fs old (pen_of t before) (pen_of t before) q [] more (g.1 classes (pen_of t before)) (subst (λ (xs : List Frame). FillAll t classes xs (pen_of t before) more q) (sym e) all));
      } in
      subst (λ (m : Met). Kept t declared input gs top m at) (sym g.0) here

  -- where the outermost has ended, all that was passed is the reference
  pub kept_at_last : (fs : List Frame) (old new : Frame) (before behind : Met) (at : ℕ) (s : Step) → s ≡ steps.Done → fs ≡ [] → Steps t input at before old behind new s → Kept t declared input fs old before at
      → (classes : Classes) → Agree classes before.classes.items → Whole t declared classes (take at input) (pen_of t before)
  kept_at_last fs old new before behind at s is e h k classes agree =
      let g : Steps t input at before old behind new steps.Done = subst (λ (x : Step). Steps t input at before old behind new x) is h in
      let p = pen_of t before in
      subst (λ (l : List ℕ). Whole t declared classes l p) (append-nil (take at input))
      (k.promises classes [] p agree (subst (λ (xs : List Frame). FillAll t classes (xs ++ old ∷ []) p [] p) (sym e) ([], [], p, refl, (refl, refl), g.1 classes p)))

  pub same_place : (fs gs : List Frame) (top other : Frame) (met : Met) (at place : ℕ) → fs ≡ gs → top ≡ other → at ≡ place → Kept t declared input gs other met place → Kept t declared input fs top met at
  same_place fs gs top other met at place e f g h =
      subst (λ (n : ℕ). Kept t declared input fs top met n) (sym g) (subst (λ (x : Frame). Kept t declared input fs x met place) (sym f) (subst (λ (xs : List Frame). Kept t declared input xs other met place) (sym e) h))
