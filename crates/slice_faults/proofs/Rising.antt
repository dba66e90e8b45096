-- Optional members by rising tag, out of a map by tags.
use Rattle.std.proofs.Common.{◌≡◌, ℕ, ◌+◌, ◌-◌, ◌<◌, ◌≤◌, Bool, true, false, cond, List, [], ◌∷◌, ◌++◌, reverse, Option, Some, None, Ordering, Less, Equal, Greater, refl, sym, ap, ◌∙◌, subst, inl, inr, arith}
use Rattle.std.specs.Prelude.{nat_lt, unwrap_or}
use Rattle.std.specs.Option.{is_none, is_some}
use Rattle.std.specs.Map.{values_of}
use Rattle.std.specs.Ordering.{ordering_then, nat_cmp, match_ordering}
use Rattle.std.specs.Cmp.{nat_cmp_is}
use Rattle.std.specs.BTreeMap.{insert_entry}
use Rattle.std.proofs.lemmas.Bool.{cases_order}
use Rattle.std.proofs.lemmas.Bool.Decides.{nat_tests}
use Rattle.std.proofs.lemmas.List.{reverse-append}
use Rattle.ice_types.specs.declared.declarations.Member.{Member}
use Rattle.slice_meaning.specs.Members.{required, put, optional}
use Rattle.slice_faults.specs.Sides.{put_in}

-- an entry of the map
abbrev pub Keyed : Type 0
Keyed = (ℕ × ℕ) × Member

-- the order of the keys
abbrev pub key_cmp : ℕ × ℕ → ℕ × ℕ → Ordering
key_cmp x y = ordering_then (nat_cmp x.0 y.0) (nat_cmp x.1 y.1)

-- each key is the tag of its member, with a number below this one
abbrev pub AreKeyed : List Keyed → ℕ → Type 0
AreKeyed [] most = Unit {0}
AreKeyed (e ∷ es) most = (e.0.0 ≡ unwrap_or e.1.tag 0) × (e.0.1 < most) × AreKeyed es most

pub keyed_below : (es : List Keyed) (most more : ℕ) → most ≤ more → AreKeyed es most → AreKeyed es more
keyed_below [] most more h keyed = tt
keyed_below (e ∷ es) most more h keyed = (keyed.0, (let k = keyed.1 in omega arith), keyed_below es most more h keyed.2)

record Added (es : List Keyed) (tag place : ℕ) (m : Member) (most : ℕ) : Type 0 where
  values : values_of (insert_entry key_cmp es (tag, place) m) ≡ put m (values_of es)
  keyed : AreKeyed (insert_entry key_cmp es (tag, place) m) most

-- what an ordering leads to, in the map and in the list
added_by : (e : Keyed) (es : List Keyed) (tag place : ℕ) (m : Member) (most : ℕ) (o : Ordering) (b : Bool) → key_cmp (tag, place) e.0 ≡ o → nat_lt (unwrap_or m.tag 0) (unwrap_or e.1.tag 0) ≡ b
    → values_of (match_ordering o (((tag, place), m) ∷ e ∷ es) ((e.0, m) ∷ es) (e ∷ insert_entry key_cmp es (tag, place) m)) ≡ cond b (m ∷ e.1 ∷ values_of es) (e.1 ∷ put m (values_of es))
    → AreKeyed (match_ordering o (((tag, place), m) ∷ e ∷ es) ((e.0, m) ∷ es) (e ∷ insert_entry key_cmp es (tag, place) m)) most → Added (e ∷ es) tag place m most
added_by e es tag place m most o b order test values keyed = record {
  values = ap (λ (r : Ordering). values_of (match_ordering r (((tag, place), m) ∷ e ∷ es) ((e.0, m) ∷ es) (e ∷ insert_entry key_cmp es (tag, place) m))) order
      ∙ (values ∙ sym (ap (λ (t : Bool). cond t (m ∷ e.1 ∷ values_of es) (e.1 ∷ put m (values_of es))) test));
  keyed = subst (λ (r : Ordering). AreKeyed (match_ordering r (((tag, place), m) ∷ e ∷ es) ((e.0, m) ∷ es) (e ∷ insert_entry key_cmp es (tag, place) m)) most) (sym order) keyed;
}

lt_true : (a b c d : ℕ) → a ≡ c → b ≡ d → c < d → nat_lt a b ≡ true
lt_true a b c d e f h = grind (arith, nat_tests)

lt_false : (a b c d : ℕ) → a ≡ c → b ≡ d → d ≤ c → nat_lt a b ≡ false
lt_false a b c d e f h = grind (arith, nat_tests)

added : (es : List Keyed) (tag place : ℕ) (m : Member) → unwrap_or m.tag 0 ≡ tag → AreKeyed es place → Added es tag place m (place + 1)
added [] tag place m is keyed = record { values = refl; keyed = (sym is, omega arith, tt) }
added (e ∷ es) tag place m is keyed =
    let later = added es tag place m is keyed.2 in
    let first : e.0.1 < place + 1 = (let k = keyed.1 in omega arith) in
    let others = keyed_below es place (place + 1) (omega arith) keyed.2 in
    elim (cases_order tag e.0.0) [
      | inl same ↦ added_by e es tag place m (place + 1) Greater false
          (ap (λ (o : Ordering). ordering_then o (nat_cmp place e.0.1)) (sym (nat_cmp_is tag e.0.0 Equal same)) ∙ sym (nat_cmp_is place e.0.1 Greater keyed.1))
          (lt_false (unwrap_or m.tag 0) (unwrap_or e.1.tag 0) tag e.0.0 is (sym keyed.0) (omega arith)) (ap (λ (l : List Member). e.1 ∷ l) later.values) (keyed.0, first, later.keyed)
      | inr apart ↦ elim apart [
        | inl below ↦ added_by e es tag place m (place + 1) Less true (ap (λ (o : Ordering). ordering_then o (nat_cmp place e.0.1)) (sym (nat_cmp_is tag e.0.0 Less below)))
            (lt_true (unwrap_or m.tag 0) (unwrap_or e.1.tag 0) tag e.0.0 is (sym keyed.0) below) refl (sym is, omega arith, (keyed.0, first, others))
        | inr above ↦ added_by e es tag place m (place + 1) Greater false (ap (λ (o : Ordering). ordering_then o (nat_cmp place e.0.1)) (sym (nat_cmp_is tag e.0.0 Greater above)))
            (lt_false (unwrap_or m.tag 0) (unwrap_or e.1.tag 0) tag e.0.0 is (sym keyed.0) (omega arith)) (ap (λ (l : List Member). e.1 ∷ l) later.values) (keyed.0, first, later.keyed)
      ]
    ]

-- ---- a member more, from the back

reverse_push : {A : Type 0} (xs : List A) (x : A) → reverse (xs ++ x ∷ []) ≡ x ∷ reverse xs
reverse_push xs x = reverse-append xs (x ∷ [])

pub required_next : (items now done : List Member) (m : Member) → reverse items ≡ required done → now ≡ cond (is_none m.tag) (items ++ m ∷ []) items → reverse now ≡ required (m ∷ done)
required_next items now done m held step = by_tag (is_none m.tag) refl step
  where
    by_tag : (b : Bool) → is_none m.tag ≡ b → now ≡ cond b (items ++ m ∷ []) items → reverse now ≡ required (m ∷ done)
    by_tag true is step = ap reverse step ∙ (reverse_push items m ∙ (ap (λ l. m ∷ l) held ∙ sym (ap (λ (b : Bool). cond b (m ∷ required done) (required done)) is)))
    by_tag false is step = ap reverse step ∙ (held ∙ sym (ap (λ (b : Bool). cond b (m ∷ required done) (required done)) is))

pub optional_next : (es now : List Keyed) (done : List Member) (m : Member) (place : ℕ) → values_of es ≡ optional done → AreKeyed es place → now ≡ put_in es place m → values_of now ≡ optional (m ∷ done)
optional_next es now done m place held keyed step = by_tag m.tag refl step
  where
    by_tag : (o : Option ℕ) → m.tag ≡ o → now ≡ elim o [ None ↦ es | Some tag ↦ insert_entry key_cmp es (tag, place) m ] → values_of now ≡ optional (m ∷ done)
    by_tag None is step = ap values_of step ∙ (held ∙ sym (ap (λ (o : Option ℕ). cond (is_some o) (put m (optional done)) (optional done)) is))
    by_tag (Some tag) is step = ap values_of step ∙ ((added es tag place m (ap (λ (o : Option ℕ). unwrap_or o 0) is) keyed).values
        ∙ (ap (put m) held ∙ sym (ap (λ (o : Option ℕ). cond (is_some o) (put m (optional done)) (optional done)) is)))

pub keyed_next : (es now : List Keyed) (m : Member) (place : ℕ) → AreKeyed es place → now ≡ put_in es place m → AreKeyed now (place + 1)
keyed_next es now m place keyed step = by_tag m.tag refl step
  where
    by_tag : (o : Option ℕ) → m.tag ≡ o → now ≡ elim o [ None ↦ es | Some tag ↦ insert_entry key_cmp es (tag, place) m ] → AreKeyed now (place + 1)
    by_tag None is step = subst (λ (l : List Keyed). AreKeyed l (place + 1)) (sym step) (keyed_below es place (place + 1) (omega arith) keyed)
    by_tag (Some tag) is step = subst (λ (l : List Keyed). AreKeyed l (place + 1)) (sym step) (added es tag place m (ap (λ (o : Option ℕ). unwrap_or o 0) is) keyed).keyed

-- ---- what is left of all

pub below_next : (total now left len : ℕ) → now ≡ left + 1 → len ≡ left → now ≤ total → total - now + 1 ≤ total - len
below_next total now left len a b h = omega arith

pub above_next : (total left len : ℕ) → len ≡ left → total - len + 1 ≤ total - left + 1
above_next total left len h = omega arith
