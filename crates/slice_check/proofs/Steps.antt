-- The steps of a walk, from the rest of it to the whole.
use Rattle.std.proofs.Common.{◌≡◌, ℕ, List, [], ◌∷◌, ◌++◌, Some, refl, sym, ap, ◌∙◌, subst, inl, inr, arith}
use Rattle.std.specs.List.{Contains, AllByRecursion}
use Rattle.std.proofs.lemmas.List.{append-nil, append_assoc}
use Rattle.ice_ports.specs.Files.{file_named}
use Rattle.slice_syntax.specs.declared.tree.File.{File}
use Rattle.slice_meaning.specs.Names.{Name}
use Rattle.slice_meaning.specs.Printed.{LoadBreak}
use Rattle.slice_meaning.specs.Loading.{Shelf, Includes, Loaded, IsTree, IsNext, Walk, WalkBreaks, whole, done, old, new, inside, after_old, after_new}
use Rattle.slice_check.specs.Walking.{Inside, Breaks, GoesOn}

-- the same walk under equal names and trees
walk_as : (shelf : Shelf) (loaded after other : List Name) (includes : Includes) (trees others : List Loaded) → after ≡ other → trees ≡ others → Walk shelf loaded includes after trees
    → Walk shelf loaded includes other others
walk_as shelf loaded after other includes trees others e f w =
    subst (λ (t : List Loaded). Walk shelf loaded includes other t) f (subst (λ (a : List Name). Walk shelf loaded includes a trees) e w)

-- no includes are left
walk_none : (shelf : Shelf) (loaded : List Name) (includes : Includes) → includes ≡ [] → Walk shelf loaded includes loaded []
walk_none shelf loaded includes e = subst (λ (i : Includes). Walk shelf loaded i loaded []) (sym e) (done loaded)

-- FILE itself is next where nothing is loaded
first_next : (shelf : Shelf) (file : Name) (text : List ℕ) → file_named shelf file ≡ Some text → IsNext shelf [] file text
first_next shelf file text found = record { new = λ h. omega (arith, h.1); found = found; room = omega arith }

-- FILE itself is loaded
pub starts : (shelf : Shelf) (file : Name) (text : List ℕ) (tree : File) → file_named shelf file ≡ Some text → IsTree text tree
    → GoesOn shelf file (file ∷ []) [] (record { name = file; tree = tree; left = tree.included } ∷ [])
starts shelf file text tree found is = record {
  ends = λ after trees e. walk_as shelf [] e.0 after (whole file) _ trees (sym e.4.0)
      (ap (λ (o : List Loaded). e.1 ++ ((file, tree) ∷ o)) (sym e.4.1) ∙ sym e.5)
      (new [] e.0 e.0 file 0 [] text tree e.1 [] (first_next shelf file text found) is e.3 (done e.0));
  breaks = λ broken b. started broken b;
}
  where
    started : (broken : LoadBreak) → Breaks shelf (file ∷ []) (record { name = file; tree = tree; left = tree.included } ∷ []) broken → WalkBreaks shelf [] file (whole file) broken
    started broken (inl w) = inside [] file file 0 [] text tree broken (first_next shelf file text found) is w
    started broken (inr w) = absurd w.3

-- a file without includes that are left is complete
pub completes : (shelf : Shelf) (file : Name) (loaded : List Name) (complete : List Loaded) (o : Inside) (around : List Inside) → o.left ≡ [] → GoesOn shelf file loaded complete (o ∷ around)
    → GoesOn shelf file loaded (complete ++ (o.name, o.tree) ∷ []) around
completes shelf file loaded complete o around e g = record {
  ends = λ after trees rest. walk_as shelf [] after after (whole file) _ _ refl (sym (append_assoc complete ((o.name, o.tree) ∷ []) trees))
      (g.ends after ((o.name, o.tree) ∷ trees) (loaded, [], trees, walk_none shelf loaded o.left e, rest, refl));
  breaks = λ broken rest. g.breaks broken (inr (loaded, [], walk_none shelf loaded o.left e, rest));
}

-- includes of loaded files are passed over
walk_behind : (shelf : Shelf) (loaded after : List Name) (skipped left : Includes) (trees : List Loaded) → AllByRecursion (λ i. Contains loaded i.0) skipped → Walk shelf loaded left after trees
    → Walk shelf loaded (skipped ++ left) after trees
walk_behind shelf loaded after [] left trees h w = w
walk_behind shelf loaded after (i ∷ skipped) left trees h w = old loaded after i.0 i.1 (skipped ++ left) trees h.0 (walk_behind shelf loaded after skipped left trees h.1 w)

breaks_behind : (shelf : Shelf) (loaded : List Name) (user : Name) (skipped left : Includes) (broken : LoadBreak) → AllByRecursion (λ i. Contains loaded i.0) skipped → WalkBreaks shelf loaded user left broken
    → WalkBreaks shelf loaded user (skipped ++ left) broken
breaks_behind shelf loaded user [] left broken h w = w
breaks_behind shelf loaded user (i ∷ skipped) left broken h w = after_old loaded user i.0 i.1 (skipped ++ left) broken h.0 (breaks_behind shelf loaded user skipped left broken h.1 w)

pub passes : (shelf : Shelf) (file : Name) (loaded : List Name) (complete : List Loaded) (name : Name) (tree : File) (skipped left : Includes) (around : List Inside)
    → AllByRecursion (λ i. Contains loaded i.0) skipped → GoesOn shelf file loaded complete (record { name = name; tree = tree; left = skipped ++ left } ∷ around)
    → GoesOn shelf file loaded complete (record { name = name; tree = tree; left = left } ∷ around)
passes shelf file loaded complete name tree skipped left around h g = record {
  ends = λ after trees e. g.ends after trees (e.0, e.1, e.2, walk_behind shelf loaded e.0 skipped left e.1 h e.3, e.4, e.5);
  breaks = λ broken b. g.breaks broken (passed broken b);
}
  where
    passed : (broken : LoadBreak) → Breaks shelf loaded (record { name = name; tree = tree; left = left } ∷ around) broken → Breaks shelf loaded (record { name = name; tree = tree; left = skipped ++ left } ∷ around) broken
    passed broken (inl w) = inl (breaks_behind shelf loaded name skipped left broken h w)
    passed broken (inr w) = inr (w.0, w.1, walk_behind shelf loaded w.0 skipped left w.1 h w.2, w.3)

-- the file of the next include is loaded
pub enters : (shelf : Shelf) (file : Name) (loaded : List Name) (complete : List Loaded) (user : Name) (tree : File) (name : Name) (place : ℕ) (others : Includes) (text : List ℕ) (included : File)
    (around : List Inside) → IsNext shelf loaded name text → IsTree text included
    → GoesOn shelf file loaded complete (record { name = user; tree = tree; left = (name, place) ∷ others } ∷ around)
    → GoesOn shelf file (name ∷ loaded) complete (record { name = name; tree = included; left = included.included } ∷ record { name = user; tree = tree; left = others } ∷ around)
enters shelf file loaded complete user tree name place others text included around next is g = record {
  ends = λ after trees e. g.ends after trees (
    e.4.0,
    e.1 ++ ((name, included) ∷ e.4.1),
    e.4.2,
    new loaded e.0 e.4.0 name place others text included e.1 e.4.1 next is e.3 e.4.3,
    e.4.4,
    e.5 ∙ ap (λ (o : List Loaded). e.1 ++ ((name, included) ∷ o)) e.4.5 ∙ sym (append_assoc e.1 ((name, included) ∷ e.4.1) ((user, tree) ∷ e.4.2)),
  );
  breaks = λ broken b. g.breaks broken (entered broken b);
}
  where
    entered : (broken : LoadBreak)
        → Breaks shelf (name ∷ loaded) (record { name = name; tree = included; left = included.included } ∷ record { name = user; tree = tree; left = others } ∷ around) broken
        → Breaks shelf loaded (record { name = user; tree = tree; left = (name, place) ∷ others } ∷ around) broken
    entered broken (inl w) = inl (inside loaded user name place others text included broken next is w)
    entered broken (inr (then, inner, w, inl v)) = inl (after_new loaded then user name place others text included inner broken next is w v)
    entered broken (inr (then, inner, w, inr v)) = inr (v.0, inner ++ ((name, included) ∷ v.1), new loaded then v.0 name place others text included inner v.1 next is w v.2, v.3)

-- no file is open
pub ended : (shelf : Shelf) (file : Name) (loaded : List Name) (complete : List Loaded) → GoesOn shelf file loaded complete [] → Walk shelf [] (whole file) loaded complete
ended shelf file loaded complete g = walk_as shelf [] loaded loaded (whole file) _ _ refl (append-nil complete) (g.ends loaded [] (refl, refl))

-- the first include that is left has a fault
pub fails : (shelf : Shelf) (file : Name) (loaded : List Name) (complete : List Loaded) (o : Inside) (around : List Inside) (broken : LoadBreak) → GoesOn shelf file loaded complete (o ∷ around)
    → WalkBreaks shelf loaded o.name o.left broken → WalkBreaks shelf [] file (whole file) broken
fails shelf file loaded complete o around broken g w = g.breaks broken (inl w)
