-- A file of a shelf has one meaning with all that it includes, or one first fault, and never both.
use Rattle.std.proofs.Common.{◌≡◌, ℕ, ◌<◌, ◌⊎◌, List, [], length, Some, refl, sym, ap, ◌∙◌, subst, inl, inr}
use Rattle.std.specs.Prelude.{slice_get}
use Rattle.std.proofs.lemmas.List.{length-map}
use Rattle.ice_types.specs.Tables.{Tables}
use Rattle.slice_meaning.specs.declared.fault.Fault.{Fault}
use Rattle.slice_meaning.specs.Names.{Name}
use Rattle.slice_meaning.specs.Meaning.{Means, CheckBreaks}
use Rattle.slice_meaning.specs.Printed.{LoadBreak, broken_at, row_name}
use Rattle.slice_meaning.specs.Loading.{Shelf, Loaded, trees_of, Walk, whole, Loads, MeansNothing, LoadBreaks}
use Rattle.slice_meaning.proofs.Files.{meaning_or_break, one_meaning as one_of_files, one_break as one_of_faults, never_both as never_both_of_files}
use Rattle.slice_meaning.proofs.FilesKnown.{break_within}
use Rattle.slice_meaning.proofs.KnownNames.{got_there}
use Rattle.slice_meaning.proofs.Walks.{one_walk, walk_no_break, one_walk_break}
use Rattle.slice_meaning.proofs.WalkEnds.{walk_or_break}

by_meaning : (shelf : Shelf) (file : Name) (loaded : List Name) (trees : List Loaded) → Walk shelf [] (whole file) loaded trees
    → (((t : Tables) × Means (trees_of trees) t) ⊎ ((at : ℕ) × (fault : Fault) × CheckBreaks (trees_of trees) at fault))
    → ((t : Tables) × Loads shelf file t) ⊎ ((broken : LoadBreak) × LoadBreaks shelf file broken)
by_meaning shelf file loaded trees w (inl m) = inl (m.0, record { loaded = loaded; trees = trees; walk = w; meaning = m.1 })
by_meaning shelf file loaded trees w (inr b) =
    let at : ℕ = b.0 in
    let fault : Fault = b.1 in
    let lt : at < length trees = subst (λ (n : ℕ). at < n) (length-map trees (λ (l : Loaded). l.1)) (break_within (trees_of trees) at fault b.2) in
    let tree = got_there trees at lt in
    inr (
      broken_at tree.0.0 fault.place (row_name fault.kind),
      inr (record { loaded = loaded; trees = trees; walk = w; at = at; fault = fault; breaks = b.2; tree = tree.0; place = tree.1; is = refl }),
    )

pub load_or_break : (shelf : Shelf) (file : Name) → ((t : Tables) × Loads shelf file t) ⊎ ((broken : LoadBreak) × LoadBreaks shelf file broken)
load_or_break shelf file = elim (walk_or_break shelf file (whole file)) [
  | inl w ↦ by_meaning shelf file w.0 w.1 w.2 (meaning_or_break (trees_of w.1))
  | inr b ↦ inr (b.0, inl b.1)
]

same_trees : (shelf : Shelf) (file : Name) (loaded others : List Name) (trees more : List Loaded) → Walk shelf [] (whole file) loaded trees → Walk shelf [] (whole file) others more → trees ≡ more
same_trees shelf file loaded others trees more w v = (one_walk shelf [] (whole file) loaded others trees more w v).files

pub one_meaning : (shelf : Shelf) (file : Name) (t u : Tables) → Loads shelf file t → Loads shelf file u → t ≡ u
one_meaning shelf file t u a b =
    let same = same_trees shelf file a.loaded b.loaded a.trees b.trees a.walk b.walk in
    one_of_files (trees_of b.trees) t u (subst (λ (l : List Loaded). Means (trees_of l) t) same a.meaning) b.meaning

pub never_both : (shelf : Shelf) (file : Name) (t : Tables) (broken : LoadBreak) → Loads shelf file t → LoadBreaks shelf file broken → ⊥
never_both shelf file t broken a (inl b) = walk_no_break shelf [] file (whole file) a.loaded a.trees broken a.walk b
never_both shelf file t broken a (inr b) =
    let same = same_trees shelf file a.loaded b.loaded a.trees b.trees a.walk b.walk in
    never_both_of_files (trees_of b.trees) t b.at b.fault (subst (λ (l : List Loaded). Means (trees_of l) t) same a.meaning) b.breaks

one_fault : (shelf : Shelf) (file : Name) (broken another : LoadBreak) → MeansNothing shelf file broken → MeansNothing shelf file another → broken ≡ another
one_fault shelf file broken another a b =
    let same = same_trees shelf file a.loaded b.loaded a.trees b.trees a.walk b.walk in
    let one = one_of_faults (trees_of b.trees) a.at b.at a.fault b.fault (subst (λ (l : List Loaded). CheckBreaks (trees_of l) a.at a.fault) same a.breaks) b.breaks in
    let found : slice_get b.trees b.at ≡ Some a.tree = subst (λ (n : ℕ). slice_get b.trees n ≡ Some a.tree) one.0 (subst (λ (l : List Loaded). slice_get l a.at ≡ Some a.tree) same a.place) in
    let tree : a.tree ≡ b.tree = (let both : Some a.tree ≡ Some b.tree = sym found ∙ b.place in cc) in
    a.is ∙ (ap (λ (l : Loaded). broken_at l.0 a.fault.place (row_name a.fault.kind)) tree ∙ (ap (λ (f : Fault). broken_at b.tree.0 f.place (row_name f.kind)) one.1 ∙ sym b.is))

pub one_break : (shelf : Shelf) (file : Name) (broken another : LoadBreak) → LoadBreaks shelf file broken → LoadBreaks shelf file another → broken ≡ another
one_break shelf file broken another (inl a) (inl b) = one_walk_break shelf [] file (whole file) broken another a b
one_break shelf file broken another (inl a) (inr b) = absurd (walk_no_break shelf [] file (whole file) b.loaded b.trees broken b.walk a)
one_break shelf file broken another (inr a) (inl b) = absurd (walk_no_break shelf [] file (whole file) a.loaded a.trees another a.walk b)
one_break shelf file broken another (inr a) (inr b) = one_fault shelf file broken another a b
