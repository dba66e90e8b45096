-- The walk over includes ends: with trees, or with a fault.
use Rattle.std.proofs.Common.{◌≡◌, ℕ, zero, suc, ◌≤◌, ◌+◌, ◌⊎◌, Bool, true, false, List, [], ◌∷◌, ◌++◌, length, Option, Some, None, refl, inl, inr, arith}
use Rattle.std.specs.Prelude.{Contains, codes, nat_lt}
use Rattle.std.proofs.lemmas.Bool.Decides.{nat_tests}
use Rattle.ice_ports.specs.Files.{file_named}
use Rattle.slice_syntax.specs.declared.tree.File.{File}
use Rattle.slice_meaning.specs.declared.limits.TheConstants.{MOST_FILES}
use Rattle.slice_meaning.specs.Names.{Name}
use Rattle.slice_meaning.specs.Printed.{LoadBreak, broken_at}
use Rattle.slice_meaning.specs.Loading.{Shelf, Includes, Loaded, IsTree, IsNext, Walk, done, old, new, WalkBreaks, no_file, too_many, in_text, inside, after_old, after_new}
use Rattle.slice_meaning.proofs.TextFaults.{tree_or_break}
use Rattle.slice_meaning.proofs.Walks.{is_loaded}

-- no walk loses a name
longer : (shelf : Shelf) (loaded : List Name) (is : Includes) (after : List Name) (trees : List Loaded) → Walk shelf loaded is after trees → length loaded ≤ length after
longer shelf loaded [] _ _ (done _) = omega arith
longer shelf loaded ((name, place) ∷ is) after trees (old _ _ _ _ _ _ c w) = longer shelf loaded is after trees w
longer shelf loaded ((name, place) ∷ is) after _ (new _ within _ _ _ _ text tree inner more n t w x) =
    let a = longer shelf (name ∷ loaded) tree.included within inner w in
    let b = longer shelf within is after more x in
    omega (arith, a, b)

module _ (shelf : Shelf) where
  -- trees or a fault
  abbrev pub Ends : List Name → Name → Includes → Type 0
  Ends loaded user is = ((after : List Name) × (trees : List Loaded) × Walk shelf loaded is after trees) ⊎ ((fault : LoadBreak) × WalkBreaks shelf loaded user is fault)

  -- where so many more names may be loaded at most
  abbrev AllEnd : ℕ → Type 0
  AllEnd more = (loaded : List Name) (user : Name) (is : Includes) → MOST_FILES ≤ length loaded + more → Ends loaded user is

  -- and one is loaded now
  abbrev Fewer : ℕ → Type 0
  Fewer more = (loaded : List Name) (user : Name) (is : Includes) → length loaded ≤ MOST_FILES → suc MOST_FILES ≤ length loaded + more → Ends loaded user is

  -- a name that is loaded already
  goes_on : (loaded : List Name) (user name : Name) (place : ℕ) (is : Includes) → Contains loaded name → Ends loaded user is → Ends loaded user ((name, place) ∷ is)
  goes_on loaded user name place is c (inl w) = inl (w.0, w.1, old loaded w.0 name place is w.1 c w.2)
  goes_on loaded user name place is c (inr b) = inr (b.0, after_old loaded user name place is b.0 c b.1)

  -- the others behind a new file
  goes_further : (loaded within : List Name) (user name : Name) (place : ℕ) (is : Includes) (text : List ℕ) (tree : File) (inner : List Loaded) → IsNext shelf loaded name text → IsTree text tree
      → Walk shelf (name ∷ loaded) tree.included within inner → Ends within user is → Ends loaded user ((name, place) ∷ is)
  goes_further loaded within user name place is text tree inner n t w (inl x) = inl (x.0, inner ++ ((name, tree) ∷ x.1), new loaded within x.0 name place is text tree inner x.1 n t w x.2)
  goes_further loaded within user name place is text tree inner n t w (inr b) = inr (b.0, after_new loaded within user name place is text tree inner b.0 n t w b.1)

  enters : (more : ℕ) (loaded : List Name) (user name : Name) (place : ℕ) (is : Includes) (text : List ℕ) (tree : File) → MOST_FILES ≤ length loaded + more → IsNext shelf loaded name text → IsTree text tree
      → ((within : List Name) → MOST_FILES ≤ length within + more → Ends within user is) → Ends (name ∷ loaded) name tree.included → Ends loaded user ((name, place) ∷ is)
  enters more loaded user name place is text tree le n t others (inl w) =
      goes_further loaded w.0 user name place is text tree w.1 n t w.2 (others w.0 (let a = longer shelf (name ∷ loaded) tree.included w.0 w.1 w.2 in omega (arith, a, le)))
  enters more loaded user name place is text tree le n t others (inr b) = inr (b.0, inside loaded user name place is text tree b.0 n t b.1)

  meets : (more : ℕ) → Fewer more → (loaded : List Name) (user name : Name) (place : ℕ) (is : Includes) (text : List ℕ) → MOST_FILES ≤ length loaded + more → IsNext shelf loaded name text
      → ((within : List Name) → MOST_FILES ≤ length within + more → Ends within user is) → Ends loaded user ((name, place) ∷ is)
  meets more fewer loaded user name place is text le n others = elim (tree_or_break name text) [
    | inl t ↦ enters more loaded user name place is text t.0 le n t.1 others (fewer (name ∷ loaded) name t.0.included (let a = n.room in omega (arith, a)) (omega (arith, le)))
    | inr b ↦ inr (b.0, in_text loaded user name place is text b.0 n b.1)
  ]

  is_found : (more : ℕ) → Fewer more → (loaded : List Name) (user name : Name) (place : ℕ) (is : Includes) (o : Option (List ℕ)) → file_named shelf name ≡ o → MOST_FILES ≤ length loaded + more → (Contains loaded name → ⊥)
      → ((within : List Name) → MOST_FILES ≤ length within + more → Ends within user is) → Ends loaded user ((name, place) ∷ is)
  is_found more fewer loaded user name place is None e le lacks others = inr (broken_at user place (codes "NoFile"), no_file loaded user name place is lacks e)
  is_found more fewer loaded user name place is (Some text) e le lacks others = by_room (nat_lt (length loaded) MOST_FILES) refl
    where
      by_room : (b : Bool) → nat_lt (length loaded) MOST_FILES ≡ b → Ends loaded user ((name, place) ∷ is)
      by_room true r = meets more fewer loaded user name place is text le (record { new = lacks; found = e; room = grind (arith, nat_tests) }) others
      by_room false r = inr (broken_at user place (codes "TooManyFiles"), too_many loaded user name place is text lacks e (grind (arith, nat_tests)))

  steps : (more : ℕ) → Fewer more → (is : Includes) (loaded : List Name) (user : Name) → MOST_FILES ≤ length loaded + more → Ends loaded user is
  steps more fewer [] loaded user le = inl (loaded, [], done loaded)
  steps more fewer ((name, place) ∷ is) loaded user le = elim (is_loaded loaded name) [
    | inl c ↦ goes_on loaded user name place is c (steps more fewer is loaded user le)
    | inr lacks ↦ is_found more fewer loaded user name place is (file_named shelf name) refl le lacks (λ within enough. steps more fewer is within user enough)
  ]

  fewer_end : (more : ℕ) → Fewer more
  fewer_end zero loaded user is most le = absurd (omega (arith, most, le))
  fewer_end (suc more) loaded user is most le = steps more (fewer_end more) is loaded user (omega (arith, le))

  pub walk_or_break : (user : Name) (is : Includes) → Ends [] user is
  walk_or_break user is = fewer_end (suc MOST_FILES) [] user is (omega arith) (omega arith)
