-- Operations, part by part.
use Rattle.std.proofs.Common.{◌≡◌, ℕ, ◌+◌, ◌≤◌, Bool, true, false, not, cond, List, [], ◌∷◌, ◌++◌, length, drop, map, Option, refl, sym, ap, ◌∙◌}
use Rattle.std.specs.Prelude.{flat_map, ◌&&◌, ◌||◌}
use Rattle.slice_syntax.specs.declared.tree.Constant.{Constant}
use Rattle.slice_syntax.specs.declared.tree.Path.{Path}
use Rattle.slice_syntax.specs.declared.tree.Param.{Param}
use Rattle.slice_syntax.specs.Places.{type_place}
use Rattle.slice_meaning.specs.declared.fault.CheckKind.TheVariants as rows
use Rattle.slice_meaning.specs.declared.fault.Fault.{Fault}
use Rattle.slice_meaning.specs.Known.{Known}
use Rattle.slice_meaning.specs.Uses.{where_true, interface_named}
use Rattle.slice_meaning.specs.Faults.{bases_faults, as_interface_base, with_base}
use Rattle.slice_meaning.specs.Members.{tag_fault, with_tag, tag_faults, order_faults}
use Rattle.slice_meaning.specs.Checking.{noted}
use Rattle.slice_faults.specs.Sides.{is_side, side}
use Rattle.slice_faults.proofs.Noting.{noted_more, drop_end}

-- a part more of those that are noted one by one
pub flat_next : {A : Type 0} (f : A → List Fault) (xs : List A) (i : ℕ) (x : A) (found now all : Option Fault) → drop i xs ≡ x ∷ drop (i + 1) xs
    → noted found (flat_map f (drop i xs)) ≡ all → now ≡ noted found (f x) → noted now (flat_map f (drop (i + 1) xs)) ≡ all
flat_next f xs i x found now all at so step =
    let rest = flat_map f (drop (i + 1) xs) in
    ap (λ o. noted o rest) step ∙ (sym (noted_more found (f x) rest) ∙ (sym (ap (λ l. noted found (flat_map f l)) at) ∙ so))

-- no part is left
pub flat_end : {A : Type 0} (f : A → List Fault) (xs : List A) (i : ℕ) (found all : Option Fault) → length xs ≤ i → noted found (flat_map f (drop i xs)) ≡ all → found ≡ all
flat_end f xs i found all h so = sym (ap (λ l. noted found (flat_map f l)) (drop_end xs i h)) ∙ so

-- ---- tags

-- the tags of one side, with a parameter first
side_more : (k : Known) (before : List ℕ) (out : Bool) (p : Param) (ps : List Param)
    → tag_faults k before (map (λ f. f.tag) (side out (p ∷ ps)))
    ≡ cond (is_side out p) (tag_fault k before p.field.tag) [] ++ tag_faults k (cond (is_side out p) (with_tag k before p.field.tag) before) (map (λ f. f.tag) (side out ps))
side_more k before true p ps = by_out p.out
  where
    by_out : (b : Bool) → tag_faults k before (map (λ f. f.tag) (cond b (p.field ∷ side true ps) (side true ps)))
        ≡ cond b (tag_fault k before p.field.tag) [] ++ tag_faults k (cond b (with_tag k before p.field.tag) before) (map (λ f. f.tag) (side true ps))
    by_out true = refl
    by_out false = refl
side_more k before false p ps = by_out p.out
  where
    by_out : (b : Bool) → tag_faults k before (map (λ f. f.tag) (cond b (side false ps) (p.field ∷ side false ps)))
        ≡ cond (not b) (tag_fault k before p.field.tag) [] ++ tag_faults k (cond (not b) (with_tag k before p.field.tag) before) (map (λ f. f.tag) (side false ps))
    by_out true = refl
    by_out false = refl

-- a parameter more
pub side_next : (k : Known) (before : List ℕ) (out : Bool) (params : List Param) (i : ℕ) (p : Param) (found now all : Option Fault) → drop i params ≡ p ∷ drop (i + 1) params
    → noted found (tag_faults k before (map (λ f. f.tag) (side out (drop i params)))) ≡ all → now ≡ noted found (cond (is_side out p) (tag_fault k before p.field.tag) [])
    → noted now (tag_faults k (cond (is_side out p) (with_tag k before p.field.tag) before) (map (λ f. f.tag) (side out (drop (i + 1) params)))) ≡ all
side_next k before out params i p found now all at so step =
    let rest = tag_faults k (cond (is_side out p) (with_tag k before p.field.tag) before) (map (λ f. f.tag) (side out (drop (i + 1) params))) in
    ap (λ o. noted o rest) step
    ∙ (sym (noted_more found (cond (is_side out p) (tag_fault k before p.field.tag) []) rest)
    ∙ (sym (ap (noted found) (side_more k before out p (drop (i + 1) params)))
    ∙ (sym (ap (λ l. noted found (tag_faults k before (map (λ f. f.tag) (side out l)))) at) ∙ so)))

-- no parameter is left
pub side_end : (k : Known) (before : List ℕ) (out : Bool) (params : List Param) (i : ℕ) (found all : Option Fault) → length params ≤ i
    → noted found (tag_faults k before (map (λ f. f.tag) (side out (drop i params)))) ≡ all → found ≡ all
side_end k before true params i found all h so = sym (ap (λ l. noted found (tag_faults k before (map (λ f. f.tag) (side true l)))) (drop_end params i h)) ∙ so
side_end k before false params i found all h so = sym (ap (λ l. noted found (tag_faults k before (map (λ f. f.tag) (side false l)))) (drop_end params i h)) ∙ so

-- ---- the order of parameters

pub order_next : (after next : Bool) (params : List Param) (i : ℕ) (p : Param) (found now all : Option Fault) → drop i params ≡ p ∷ drop (i + 1) params
    → noted found (order_faults after (drop i params)) ≡ all → now ≡ noted found (where_true (after && not p.out) (type_place p.field.kind) rows.BadValue) → next ≡ after || p.out
    → noted now (order_faults next (drop (i + 1) params)) ≡ all
order_next after next params i p found now all at so step is =
    let rest = order_faults (after || p.out) (drop (i + 1) params) in
    ap (λ b. noted now (order_faults b (drop (i + 1) params))) is
    ∙ (ap (λ o. noted o rest) step
    ∙ (sym (noted_more found (where_true (after && not p.out) (type_place p.field.kind) rows.BadValue) rest)
    ∙ (sym (ap (λ l. noted found (order_faults after l)) at) ∙ so)))

pub order_end : (after : Bool) (params : List Param) (i : ℕ) (found all : Option Fault) → length params ≤ i → noted found (order_faults after (drop i params)) ≡ all → found ≡ all
order_end after params i found all h so = sym (ap (λ l. noted found (order_faults after l)) (drop_end params i h)) ∙ so

-- ---- a first tag, and bases

pub first_tag : (k : Known) (tag : Option Constant) (tags : List (Option Constant)) (found now : Option Fault) → now ≡ noted found (tag_fault k [] tag) → noted now (tag_faults k (with_tag k [] tag) tags) ≡ noted found (tag_faults k [] (tag ∷ tags))
first_tag k tag tags found now step = ap (λ o. noted o (tag_faults k (with_tag k [] tag) tags)) step ∙ sym (noted_more found (tag_fault k [] tag) (tag_faults k (with_tag k [] tag) tags))

pub base_next : (k : Known) (before : List ℕ) (bases : List Path) (i : ℕ) (path : Path) (found now all : Option Fault) → drop i bases ≡ path ∷ drop (i + 1) bases
    → noted found (bases_faults k before (drop i bases)) ≡ all → now ≡ noted found (as_interface_base k before path.place (interface_named k path))
    → noted now (bases_faults k (with_base before (interface_named k path)) (drop (i + 1) bases)) ≡ all
base_next k before bases i path found now all at so step =
    let rest = bases_faults k (with_base before (interface_named k path)) (drop (i + 1) bases) in
    ap (λ o. noted o rest) step
    ∙ (sym (noted_more found (as_interface_base k before path.place (interface_named k path)) rest)
    ∙ (sym (ap (λ l. noted found (bases_faults k before l)) at) ∙ so))
