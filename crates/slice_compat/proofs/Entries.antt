-- The entries of an enum that are left to look at.
use Rattle.std.proofs.Common.{◌≡◌, ℕ, ◌+◌, ◌<◌, true, false, List, ◌∷◌, drop, get_or, length, sym, ap, ◌∙◌, subst}
use Rattle.std.specs.Prelude.{◌↔◌}
use Rattle.std.proofs.lemmas.List.{drop_more}
use Rattle.ice_types.specs.declared.declarations.Entry.{Entry}
use Rattle.slice_compat.specs.Reading.{HaveEntries, has_entry}

first_left : {W : Type 0} (own others : List Entry) (at : ℕ) (x : Entry) → at < length own → x ≡ get_or own at x
    → (HaveEntries (drop at own) others ↔ W) → HaveEntries (x ∷ drop (at + 1) own) others ↔ W
first_left {W} own others at x lt is h =
    let e : drop at own ≡ x ∷ drop (at + 1) own = drop_more own at x lt ∙ ap (λ (y : Entry). y ∷ drop (at + 1) own) (sym is) in
    subst (λ (l : List Entry). HaveEntries l others ↔ W) e h

-- one that is there
pub one_less : {W : Type 0} (own others : List Entry) (at : ℕ) (x : Entry) → at < length own → x ≡ get_or own at x → has_entry others x.number ≡ true
    → (HaveEntries (drop at own) others ↔ W) → HaveEntries (drop (at + 1) own) others ↔ W
one_less own others at x lt is here h = let g = first_left own others at x lt is h in (λ rest. g.0 (here, rest), λ w. (g.1 w).1)

-- one that is not
pub none_left : {W : Type 0} (own others : List Entry) (at : ℕ) (x : Entry) → at < length own → x ≡ get_or own at x → has_entry others x.number ≡ false
    → (HaveEntries (drop at own) others ↔ W) → W → ⊥
none_left own others at x lt is lacks h w = let g = first_left own others at x lt is h in let here : has_entry others x.number ≡ true = (g.1 w).0 in cc
