-- The walk over includes ends in one way: with trees, or with a fault.
use Rattle.std.proofs.Common.{◌≡◌, ℕ, zero, suc, ◌<◌, ◌⊎◌, Bool, true, false, List, [], ◌∷◌, ◌++◌, length, Some, None, refl, sym, ap, ◌∙◌, subst, inl, inr, arith}
use Rattle.std.specs.Prelude.{Contains, bytes_eq, slice_index_or}
use Rattle.std.proofs.lemmas.Slice.Eq.{bytes_eq-Decides}
use Rattle.ice_ports.specs.Files.{file_named}
use Rattle.slice_syntax.specs.declared.tree.File.{File}
use Rattle.slice_meaning.specs.Names.{Name}
use Rattle.slice_meaning.specs.Printed.{LoadBreak}
use Rattle.slice_meaning.specs.Loading.{Shelf, Includes, Loaded, IsTree, TextBreaks, IsNext, Walk, done, old, new, WalkBreaks, no_file, too_many, in_text, inside, after_old, after_new}
use Rattle.slice_meaning.proofs.TextFaults.{one_tree, one_text_break, tree_no_break}

-- ---- names that are loaded

contains_head : (x y : Name) (xs : List Name) → x ≡ y → Contains (x ∷ xs) y
contains_head x y xs h = (0, omega arith, h)

contains_tail : (x y : Name) (xs : List Name) → Contains xs y → Contains (x ∷ xs) y
contains_tail x y xs h = (suc h.0, (let a = h.1 in omega arith), h.2)

contains_by : (x y : Name) (xs : List Name) (k : ℕ) → k < length (x ∷ xs) → slice_index_or (x ∷ xs) k y ≡ y → (x ≡ y) ⊎ Contains xs y
contains_by x y xs zero lt e = inl e
contains_by x y xs (suc k) lt e = inr (k, omega arith, e)

pub is_loaded : (loaded : List Name) (name : Name) → Contains loaded name ⊎ (Contains loaded name → ⊥)
is_loaded [] name = inr (λ h. omega (arith, h.1))
is_loaded (other ∷ others) name = by_test (bytes_eq other name) refl (is_loaded others name)
  where
    by_test : (b : Bool) → bytes_eq other name ≡ b → (Contains others name ⊎ (Contains others name → ⊥)) → Contains (other ∷ others) name ⊎ (Contains (other ∷ others) name → ⊥)
    by_test true e rest = inl (contains_head other name others ((bytes_eq-Decides other name).0 e))
    by_test false e (inl c) = inl (contains_tail other name others c)
    by_test false e (inr lacks) = inr (λ c. elim (contains_by other name others c.0 c.1 c.2) [
      | inl same ↦ (let yes : bytes_eq other name ≡ true = (bytes_eq-Decides other name).1 same in cc)
      | inr there ↦ lacks there
    ])

-- ---- one walk

same_text : (shelf : Shelf) (name : Name) (a b : List ℕ) → file_named shelf name ≡ Some a → file_named shelf name ≡ Some b → a ≡ b
same_text shelf name a b p q = let both : Some a ≡ Some b = sym p ∙ q in cc

same_tree : (shelf : Shelf) (one other : List Name) (name : Name) (text also : List ℕ) (tree another : File) → IsNext shelf one name text → IsNext shelf other name also → IsTree text tree → IsTree also another → tree ≡ another
same_tree shelf one other name text also tree another n m t u = one_tree also tree another (subst (λ (x : List ℕ). IsTree x tree) (same_text shelf name text also n.found m.found) t) u

pub record SameWalk (after later : List Name) (trees others : List Loaded) : Type 0 where
  pub names : after ≡ later
  pub files : trees ≡ others

pub one_walk : (shelf : Shelf) (loaded : List Name) (is : Includes) (after later : List Name) (trees others : List Loaded) → Walk shelf loaded is after trees → Walk shelf loaded is later others → SameWalk after later trees others
one_walk shelf loaded [] _ _ _ _ (done _) (done _) = record { names = refl; files = refl }
one_walk shelf loaded ((name, place) ∷ is) after later trees others (old _ _ _ _ _ _ c w) (old _ _ _ _ _ _ d v) = one_walk shelf loaded is after later trees others w v
one_walk shelf loaded ((name, place) ∷ is) after later trees others (old _ _ _ _ _ _ c w) (new _ _ _ _ _ _ _ _ _ _ n t v u) = absurd (n.new c)
one_walk shelf loaded ((name, place) ∷ is) after later trees others (new _ _ _ _ _ _ _ _ _ _ n t w x) (old _ _ _ _ _ _ d v) = absurd (n.new d)
one_walk shelf loaded ((name, place) ∷ is) after later _ _ (new _ within _ _ _ _ text tree inner more n t w x) (new _ within2 _ _ _ _ also another inner2 more2 m u v y) =
    let same : tree ≡ another = same_tree shelf loaded loaded name text also tree another n m t u in
    let walked = one_walk shelf (name ∷ loaded) another.included within within2 inner inner2 (subst (λ (f : File). Walk shelf (name ∷ loaded) f.included within inner) same w) v in
    let rest = one_walk shelf within2 is after later more more2 (subst (λ (l : List Name). Walk shelf l is after more) walked.names x) y in
    record {
      names = rest.names;
      files = ap (λ (f : File). inner ++ ((name, f) ∷ more)) same ∙ (ap (λ (l : List Loaded). l ++ ((name, another) ∷ more)) walked.files ∙ ap (λ (l : List Loaded). inner2 ++ ((name, another) ∷ l)) rest.files);
    }

-- a walk with trees has no fault
pub walk_no_break : (shelf : Shelf) (loaded : List Name) (user : Name) (is : Includes) (after : List Name) (trees : List Loaded) (fault : LoadBreak) → Walk shelf loaded is after trees → WalkBreaks shelf loaded user is fault → ⊥
walk_no_break shelf loaded user [] after trees fault w b = elim b [ ]
walk_no_break shelf loaded user ((name, place) ∷ is) after trees _ (old _ _ _ _ _ _ c w) (no_file _ _ _ _ _ lacks none) = lacks c
walk_no_break shelf loaded user ((name, place) ∷ is) after trees _ (old _ _ _ _ _ _ c w) (too_many _ _ _ _ _ _ lacks some many) = lacks c
walk_no_break shelf loaded user ((name, place) ∷ is) after trees fault (old _ _ _ _ _ _ c w) (in_text _ _ _ _ _ _ _ n b) = n.new c
walk_no_break shelf loaded user ((name, place) ∷ is) after trees fault (old _ _ _ _ _ _ c w) (inside _ _ _ _ _ _ _ _ n t b) = n.new c
walk_no_break shelf loaded user ((name, place) ∷ is) after trees fault (old _ _ _ _ _ _ c w) (after_old _ _ _ _ _ _ d b) = walk_no_break shelf loaded user is after trees fault w b
walk_no_break shelf loaded user ((name, place) ∷ is) after trees fault (old _ _ _ _ _ _ c w) (after_new _ _ _ _ _ _ _ _ _ _ n t v b) = n.new c
walk_no_break shelf loaded user ((name, place) ∷ is) after _ _ (new _ _ _ _ _ _ text tree inner more n t w x) (no_file _ _ _ _ _ lacks none) = let both : Some text ≡ None = sym n.found ∙ none in cc
walk_no_break shelf loaded user ((name, place) ∷ is) after _ _ (new _ _ _ _ _ _ text tree inner more n t w x) (too_many _ _ _ _ _ _ lacks some many) = omega (arith, n.room, many)
walk_no_break shelf loaded user ((name, place) ∷ is) after _ fault (new _ _ _ _ _ _ text tree inner more n t w x) (in_text _ _ _ _ _ also _ m b) =
    tree_no_break name also tree fault (subst (λ (l : List ℕ). IsTree l tree) (same_text shelf name text also n.found m.found) t) b
walk_no_break shelf loaded user ((name, place) ∷ is) after _ fault (new _ within _ _ _ _ text tree inner more n t w x) (inside _ _ _ _ _ also another _ m u b) =
    let same : tree ≡ another = same_tree shelf loaded loaded name text also tree another n m t u in
    walk_no_break shelf (name ∷ loaded) name tree.included within inner fault w (subst (λ (f : File). WalkBreaks shelf (name ∷ loaded) name f.included fault) (sym same) b)
walk_no_break shelf loaded user ((name, place) ∷ is) after _ fault (new _ _ _ _ _ _ text tree inner more n t w x) (after_old _ _ _ _ _ _ c b) = n.new c
walk_no_break shelf loaded user ((name, place) ∷ is) after _ fault (new _ within _ _ _ _ text tree inner more n t w x) (after_new _ within2 _ _ _ _ also another inner2 _ m u v b) =
    let same : tree ≡ another = same_tree shelf loaded loaded name text also tree another n m t u in
    let walked = one_walk shelf (name ∷ loaded) another.included within within2 inner inner2 (subst (λ (f : File). Walk shelf (name ∷ loaded) f.included within inner) same w) v in
    walk_no_break shelf within user is after more fault x (subst (λ (l : List Name). WalkBreaks shelf l user is fault) (sym walked.names) b)

-- ---- one fault

module _ (shelf : Shelf) where
  -- a new name has one way to go
  found_once : (name : Name) (text : List ℕ) → file_named shelf name ≡ Some text → file_named shelf name ≡ None → ⊥
  found_once name text some none = let both : Some text ≡ None = sym some ∙ none in cc

  text_break : (loaded : List Name) (name : Name) (text also : List ℕ) (tree : File) (fault : LoadBreak) → IsNext shelf loaded name text → IsNext shelf loaded name also → IsTree text tree → TextBreaks name also fault → ⊥
  text_break loaded name text also tree fault n m t b = tree_no_break name also tree fault (subst (λ (l : List ℕ). IsTree l tree) (same_text shelf name text also n.found m.found) t) b

  pub one_walk_break : (loaded : List Name) (user : Name) (is : Includes) (a b : LoadBreak) → WalkBreaks shelf loaded user is a → WalkBreaks shelf loaded user is b → a ≡ b
  one_walk_break loaded user [] a b v w = elim v [ ]
  one_walk_break loaded user ((name, place) ∷ is) _ _ (no_file _ _ _ _ _ lacks none) (no_file _ _ _ _ _ lacks2 none2) = refl
  one_walk_break loaded user ((name, place) ∷ is) _ _ (no_file _ _ _ _ _ lacks none) (too_many _ _ _ _ _ text lacks2 some many) = absurd (found_once name text some none)
  one_walk_break loaded user ((name, place) ∷ is) _ b (no_file _ _ _ _ _ lacks none) (in_text _ _ _ _ _ text _ n t) = absurd (found_once name text n.found none)
  one_walk_break loaded user ((name, place) ∷ is) _ b (no_file _ _ _ _ _ lacks none) (inside _ _ _ _ _ text _ _ n t w) = absurd (found_once name text n.found none)
  one_walk_break loaded user ((name, place) ∷ is) _ b (no_file _ _ _ _ _ lacks none) (after_old _ _ _ _ _ _ c w) = absurd (lacks c)
  one_walk_break loaded user ((name, place) ∷ is) _ b (no_file _ _ _ _ _ lacks none) (after_new _ _ _ _ _ _ text _ _ _ n t w v) = absurd (found_once name text n.found none)
  one_walk_break loaded user ((name, place) ∷ is) _ _ (too_many _ _ _ _ _ text lacks some many) (no_file _ _ _ _ _ lacks2 none) = absurd (found_once name text some none)
  one_walk_break loaded user ((name, place) ∷ is) _ _ (too_many _ _ _ _ _ text lacks some many) (too_many _ _ _ _ _ text2 lacks2 some2 many2) = refl
  one_walk_break loaded user ((name, place) ∷ is) _ b (too_many _ _ _ _ _ text lacks some many) (in_text _ _ _ _ _ _ _ n t) = absurd (omega (arith, n.room, many))
  one_walk_break loaded user ((name, place) ∷ is) _ b (too_many _ _ _ _ _ text lacks some many) (inside _ _ _ _ _ _ _ _ n t w) = absurd (omega (arith, n.room, many))
  one_walk_break loaded user ((name, place) ∷ is) _ b (too_many _ _ _ _ _ text lacks some many) (after_old _ _ _ _ _ _ c w) = absurd (lacks c)
  one_walk_break loaded user ((name, place) ∷ is) _ b (too_many _ _ _ _ _ text lacks some many) (after_new _ _ _ _ _ _ _ _ _ _ n t w v) = absurd (omega (arith, n.room, many))
  one_walk_break loaded user ((name, place) ∷ is) a _ (in_text _ _ _ _ _ text _ n t) (no_file _ _ _ _ _ lacks none) = absurd (found_once name text n.found none)
  one_walk_break loaded user ((name, place) ∷ is) a _ (in_text _ _ _ _ _ text _ n t) (too_many _ _ _ _ _ _ lacks some many) = absurd (omega (arith, n.room, many))
  one_walk_break loaded user ((name, place) ∷ is) a b (in_text _ _ _ _ _ text _ n t) (in_text _ _ _ _ _ also _ m u) =
      one_text_break name also a b (subst (λ (l : List ℕ). TextBreaks name l a) (same_text shelf name text also n.found m.found) t) u
  one_walk_break loaded user ((name, place) ∷ is) a b (in_text _ _ _ _ _ text _ n t) (inside _ _ _ _ _ also tree _ m u w) = absurd (text_break loaded name also text tree a m n u t)
  one_walk_break loaded user ((name, place) ∷ is) a b (in_text _ _ _ _ _ text _ n t) (after_old _ _ _ _ _ _ c w) = absurd (n.new c)
  one_walk_break loaded user ((name, place) ∷ is) a b (in_text _ _ _ _ _ text _ n t) (after_new _ _ _ _ _ _ also tree _ _ m u w v) = absurd (text_break loaded name also text tree a m n u t)
  one_walk_break loaded user ((name, place) ∷ is) a _ (inside _ _ _ _ _ text tree _ n t w) (no_file _ _ _ _ _ lacks none) = absurd (found_once name text n.found none)
  one_walk_break loaded user ((name, place) ∷ is) a _ (inside _ _ _ _ _ text tree _ n t w) (too_many _ _ _ _ _ _ lacks some many) = absurd (omega (arith, n.room, many))
  one_walk_break loaded user ((name, place) ∷ is) a b (inside _ _ _ _ _ text tree _ n t w) (in_text _ _ _ _ _ also _ m u) = absurd (text_break loaded name text also tree b n m t u)
  one_walk_break loaded user ((name, place) ∷ is) a b (inside _ _ _ _ _ text tree _ n t w) (inside _ _ _ _ _ also another _ m u v) =
      let same : tree ≡ another = same_tree shelf loaded loaded name text also tree another n m t u in
      one_walk_break (name ∷ loaded) name tree.included a b w (subst (λ (f : File). WalkBreaks shelf (name ∷ loaded) name f.included b) (sym same) v)
  one_walk_break loaded user ((name, place) ∷ is) a b (inside _ _ _ _ _ text tree _ n t w) (after_old _ _ _ _ _ _ c v) = absurd (n.new c)
  one_walk_break loaded user ((name, place) ∷ is) a b (inside _ _ _ _ _ text tree _ n t w) (after_new _ within _ _ _ _ also another inner _ m u v x) =
      let same : tree ≡ another = same_tree shelf loaded loaded name text also tree another n m t u in
      absurd (walk_no_break shelf (name ∷ loaded) name another.included within inner a v (subst (λ (f : File). WalkBreaks shelf (name ∷ loaded) name f.included a) same w))
  one_walk_break loaded user ((name, place) ∷ is) a _ (after_old _ _ _ _ _ _ c w) (no_file _ _ _ _ _ lacks none) = absurd (lacks c)
  one_walk_break loaded user ((name, place) ∷ is) a _ (after_old _ _ _ _ _ _ c w) (too_many _ _ _ _ _ _ lacks some many) = absurd (lacks c)
  one_walk_break loaded user ((name, place) ∷ is) a b (after_old _ _ _ _ _ _ c w) (in_text _ _ _ _ _ _ _ n t) = absurd (n.new c)
  one_walk_break loaded user ((name, place) ∷ is) a b (after_old _ _ _ _ _ _ c w) (inside _ _ _ _ _ _ _ _ n t v) = absurd (n.new c)
  one_walk_break loaded user ((name, place) ∷ is) a b (after_old _ _ _ _ _ _ c w) (after_old _ _ _ _ _ _ d v) = one_walk_break loaded user is a b w v
  one_walk_break loaded user ((name, place) ∷ is) a b (after_old _ _ _ _ _ _ c w) (after_new _ _ _ _ _ _ _ _ _ _ n t v x) = absurd (n.new c)
  one_walk_break loaded user ((name, place) ∷ is) a _ (after_new _ _ _ _ _ _ text tree inner _ n t w x) (no_file _ _ _ _ _ lacks none) = absurd (found_once name text n.found none)
  one_walk_break loaded user ((name, place) ∷ is) a _ (after_new _ _ _ _ _ _ text tree inner _ n t w x) (too_many _ _ _ _ _ _ lacks some many) = absurd (omega (arith, n.room, many))
  one_walk_break loaded user ((name, place) ∷ is) a b (after_new _ _ _ _ _ _ text tree inner _ n t w x) (in_text _ _ _ _ _ also _ m u) = absurd (text_break loaded name text also tree b n m t u)
  one_walk_break loaded user ((name, place) ∷ is) a b (after_new _ within _ _ _ _ text tree inner _ n t w x) (inside _ _ _ _ _ also another _ m u v) =
      let same : tree ≡ another = same_tree shelf loaded loaded name text also tree another n m t u in
      absurd (walk_no_break shelf (name ∷ loaded) name tree.included within inner b w (subst (λ (f : File). WalkBreaks shelf (name ∷ loaded) name f.included b) (sym same) v))
  one_walk_break loaded user ((name, place) ∷ is) a b (after_new _ _ _ _ _ _ text tree inner _ n t w x) (after_old _ _ _ _ _ _ c v) = absurd (n.new c)
  one_walk_break loaded user ((name, place) ∷ is) a b (after_new _ within _ _ _ _ text tree inner _ n t w x) (after_new _ within2 _ _ _ _ also another inner2 _ m u v y) =
      let same : tree ≡ another = same_tree shelf loaded loaded name text also tree another n m t u in
      let walked = one_walk shelf (name ∷ loaded) another.included within within2 inner inner2 (subst (λ (f : File). Walk shelf (name ∷ loaded) f.included within inner) same w) v in
      one_walk_break within user is a b x (subst (λ (l : List Name). WalkBreaks shelf l user is b) (sym walked.names) y)
