-- Lists of the classes that extend a class, with one class more.
use Rattle.std.proofs.Common.{ℕ, suc, ◌+◌, ◌<◌, ◌≡◌, ◌⊎◌, List, length, replicate, set, get_or, Option, None, Some, refl, sym, ◌∙◌, ap, subst, inl, inr, arith}
use Rattle.std.specs.Prelude.{◌↔◌, ◌≢◌, option_and_then, unwrap_or}
use Rattle.std.proofs.lemmas.Bool.{cases_eq, cases_lt}
use Rattle.std.proofs.lemmas.List.{length-replicate, get_or-replicate, get_or-set_same, get_or-set_other, length-set}
use Rattle.std.proofs.lemmas.Option.{slice_get_past, slice_get-get_or, unwrap_or-slice_get}
use Rattle.ice_types.specs.declared.declarations.ClassDecl.{ClassDecl}
use Rattle.ice_types.specs.Inherited.{base_in}
use Rattle.slice_compat.specs.Children.{link_at, OnList, First, Later, AreLinked}
use Rattle.slice_compat.proofs.Spreading.{either}

-- ---- links

link_none : (count at : ℕ) → link_at (replicate count None) at ≡ None
link_none count at = either (cases_lt at count)
    (λ lt. unwrap_or-slice_get (replicate count None) at None ∙ get_or-replicate count at None None lt)
    (λ past. ap (λ (o : Option (Option ℕ)). unwrap_or o None) (slice_get_past (replicate count None) at (omega (arith, past, length-replicate {A = Option ℕ} count None))))

link_here : (links : List (Option ℕ)) (at : ℕ) (link : Option ℕ) → at < length links → link_at (set links at link) at ≡ link
link_here links at link lt = unwrap_or-slice_get (set links at link) at None ∙ get_or-set_same links at link None lt

link_elsewhere : (links : List (Option ℕ)) (at other : ℕ) (link : Option ℕ) → other ≢ at → link_at (set links at link) other ≡ link_at links other
link_elsewhere links at other link apart = unwrap_or-slice_get (set links at link) other None ∙ get_or-set_other links at other link None apart ∙ sym (unwrap_or-slice_get links other None)

-- ---- how far a link is from the end

abbrev pub still : Option ℕ → ℕ
still None = 0
still (Some class) = suc class

-- each step leads nearer
pub nearer : (next : List (Option ℕ)) → ((class other : ℕ) → link_at next class ≡ Some other → other < class) → (head : ℕ) (link : Option ℕ) → link ≡ link_at next head → still link < suc head
nearer next falls head None is = omega arith
nearer next falls head (Some other) is = omega (arith, falls head other (sym is))

-- ---- what stands on a list

abbrev OnSome : List (Option ℕ) → Option ℕ → ℕ → Type 0
OnSome next None other = ⊥
OnSome next (Some class) other = (class ≡ other) ⊎ OnList next (link_at next class) other

on_some : (next : List (Option ℕ)) (link : Option ℕ) (other : ℕ) → OnList next link other → OnSome next link other
on_some next link other (First _) = inl refl
on_some next link other (Later class _ rest) = inr rest

-- A list does not change where a link behind all of it does.
module _ (next : List (Option ℕ)) (at : ℕ) (link : Option ℕ) (falls : (class other : ℕ) → link_at next class ≡ Some other → other < class) where
  kept : (from : Option ℕ) (other : ℕ) → ((class : ℕ) → from ≡ Some class → class < at) → OnList next from other → OnList (set next at link) from other
  kept from other below (First _) = First other
  kept from other below (Later class _ rest) =
      let lt : class < at = below class refl in
      let same : link_at (set next at link) class ≡ link_at next class = link_elsewhere next at class link (λ is. omega (arith, is, lt)) in
      Later class other (subst (λ (from : Option ℕ). OnList (set next at link) from other) (sym same)
      (kept (link_at next class) other (λ further is. omega (arith, falls class further is, lt)) rest))

  back : (from : Option ℕ) (other : ℕ) → ((class : ℕ) → from ≡ Some class → class < at) → OnList (set next at link) from other → OnList next from other
  back from other below (First _) = First other
  back from other below (Later class _ rest) =
      let lt : class < at = below class refl in
      let same : link_at (set next at link) class ≡ link_at next class = link_elsewhere next at class link (λ is. omega (arith, is, lt)) in
      Later class other (subst (λ (from : Option ℕ). OnList next from other) same
      (back (link_at (set next at link) class) other (λ further is. omega (arith, falls class further (sym same ∙ is), lt)) rest))

-- ---- the base that a row states

pub own_base : (classes : List ClassDecl) (at : ℕ) (row : ClassDecl) (base : Option ℕ) → at < length classes → (get_or classes at row).base ≡ base → base_in classes at ≡ base
own_base classes at row base lt stated = ap (option_and_then (λ (c : ClassDecl). c.base)) (slice_get-get_or classes at row lt) ∙ stated

-- ---- nothing is linked

pub nothing_linked : (classes : List ClassDecl) → AreLinked classes 0 (replicate (length classes) None) (replicate (length classes) None)
nothing_linked classes = record {
  bases = length-replicate (length classes) None;
  places = length-replicate (length classes) None;
  listed = λ base class. (
    λ on. absurd (subst (λ (link : Option ℕ). OnSome (replicate (length classes) None) link class) (link_none (length classes) base)
        (on_some (replicate (length classes) None) (link_at (replicate (length classes) None) base) class on)),
    λ h. absurd (omega (arith, h.0)),
  );
  falls = λ class other e. let none = link_none (length classes) class in absurd cc;
  begins = λ base class e. let none = link_none (length classes) base in absurd cc;
}

-- ---- one class more

module _ (classes : List ClassDecl) (at : ℕ) (first next : List (Option ℕ)) (linked : AreLinked classes at first next) where
  -- without a base
  pub without_base : base_in classes at ≡ None → AreLinked classes (at + 1) first next
  without_base none = record {
    bases = linked.bases;
    places = linked.places;
    listed = λ base class. (
      λ on. let h = (linked.listed base class).0 on in (omega (arith, h.0), h.1),
      λ h. either (cases_eq class at)
          (λ is. let here : base_in classes at ≡ Some base = subst (λ (k : ℕ). base_in classes k ≡ Some base) is h.1 in absurd cc)
          (λ apart. (linked.listed base class).1 (below class h.0 apart, h.1)),
    );
    falls = linked.falls;
    begins = λ base class e. omega (arith, linked.begins base class e);
  }
    where
      below : (class : ℕ) → class < at + 1 → class ≢ at → class < at
      below class lt apart = omega (arith, lt, apart)

  module _ (base : ℕ) (own : base_in classes at ≡ Some base) (there : base < length classes) (lt : at < length classes) where
    under : (class : ℕ) → class < at + 1 → class ≢ at → class < at
    under class le apart = omega (arith, le, apart)

    begins_below : (other class : ℕ) → link_at first other ≡ Some class → class < at
    begins_below other class e = linked.begins other class e

    -- on the list of its own base
    here_on : (class : ℕ) → OnList (set next at (link_at first base)) (Some at) class → (class < at + 1) × (base_in classes class ≡ Some base)
    here_on class on = either (on_some (set next at (link_at first base)) (Some at) class on)
        (λ is. (omega (arith, is), subst (λ (k : ℕ). base_in classes k ≡ Some base) is own))
        (λ rest.
        let tail : OnList (set next at (link_at first base)) (link_at first base) class = subst (λ (from : Option ℕ). OnList (set next at (link_at first base)) from class)
        (link_here next at (link_at first base) (omega (arith, lt, linked.places))) rest in
        let h = (linked.listed base class).0 (back next at (link_at first base) linked.falls (link_at first base) class (begins_below base) tail) in
        (omega (arith, h.0), h.1))

    here_back : (class : ℕ) → class < at + 1 → base_in classes class ≡ Some base → OnList (set next at (link_at first base)) (Some at) class
    here_back class le e = either (cases_eq class at)
        (λ is. subst (λ (k : ℕ). OnList (set next at (link_at first base)) (Some at) k) (sym is) (First at))
        (λ apart. Later at class (subst (λ (from : Option ℕ). OnList (set next at (link_at first base)) from class)
        (sym (link_here next at (link_at first base) (omega (arith, lt, linked.places))))
        (kept next at (link_at first base) linked.falls (link_at first base) class (begins_below base) ((linked.listed base class).1 (under class le apart, e)))))

    same_base : (other : ℕ) → base_in classes at ≡ Some other → other ≡ base
    same_base other e = let both : Some other ≡ Some base = sym e ∙ own in cc

    on_each : (other class : ℕ) → OnList (set next at (link_at first base)) (link_at (set first base (Some at)) other) class ↔ ((class < at + 1) × (base_in classes class ≡ Some other))
    on_each other class = either (cases_eq other base)
        (λ is. subst (λ (k : ℕ). OnList (set next at (link_at first base)) (link_at (set first base (Some at)) k) class ↔ ((class < at + 1) × (base_in classes class ≡ Some k))) (sym is)
        (subst (λ (from : Option ℕ). OnList (set next at (link_at first base)) from class ↔ ((class < at + 1) × (base_in classes class ≡ Some base)))
        (sym (link_here first base (Some at) (omega (arith, there, linked.bases))))
        (here_on class, λ h. here_back class h.0 h.1)))
        (λ apart. subst (λ (from : Option ℕ). OnList (set next at (link_at first base)) from class ↔ ((class < at + 1) × (base_in classes class ≡ Some other)))
        (sym (link_elsewhere first base other (Some at) apart)) (
          λ on. let h = (linked.listed other class).0 (back next at (link_at first base) linked.falls (link_at first other) class (begins_below other) on) in (omega (arith, h.0), h.1),
          λ h. kept next at (link_at first base) linked.falls (link_at first other) class (begins_below other)
              ((linked.listed other class).1 (under class h.0 (λ is. apart (same_base other (subst (λ (k : ℕ). base_in classes k ≡ Some other) is h.1))), h.1)),
        ))

    falls_still : (class other : ℕ) → link_at (set next at (link_at first base)) class ≡ Some other → other < class
    falls_still class other e = either (cases_eq class at)
        (λ is. subst (λ (k : ℕ). other < k) (sym is) (linked.begins base other
        (sym (link_here next at (link_at first base) (omega (arith, lt, linked.places))) ∙ subst (λ (k : ℕ). link_at (set next at (link_at first base)) k ≡ Some other) is e)))
        (λ apart. linked.falls class other (sym (link_elsewhere next at class (link_at first base) apart) ∙ e))

    begins_still : (other class : ℕ) → link_at (set first base (Some at)) other ≡ Some class → class < at + 1
    begins_still other class e = either (cases_eq other base)
        (λ is. let now : Some at ≡ Some class = sym (link_here first base (Some at) (omega (arith, there, linked.bases))) ∙ subst (λ (k : ℕ). link_at (set first base (Some at)) k ≡ Some class) is e in
        let same : at ≡ class = cc in omega (arith, same))
        (λ apart. omega (arith, linked.begins other class (sym (link_elsewhere first base other (Some at) apart) ∙ e)))

    pub with_base : AreLinked classes (at + 1) (set first base (Some at)) (set next at (link_at first base))
    with_base = record {
      bases = length-set first base (Some at) ∙ linked.bases;
      places = length-set next at (link_at first base) ∙ linked.places;
      listed = on_each;
      falls = falls_still;
      begins = begins_still;
    }
