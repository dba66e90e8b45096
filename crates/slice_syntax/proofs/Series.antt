-- Reading a series, step by step.
use Rattle.std.proofs.Common.{◌≡◌, ◌<◌, Bool, true, false, not, ◌&&◌, List, [], ◌∷◌, ◌++◌, length, Ok, Err, refl, sym, ap, ◌∙◌}
use Rattle.slice_syntax.specs.Lexemes.{Lexemes, begins}
use Rattle.slice_syntax.specs.Grammar.{Grammar, series, Spells, Where, ◌▸◌}
use Rattle.slice_syntax.specs.Reading.{Reading, ◌>>=◌, is_empty, starts, starts_where, read, runs_at, gather}
use Rattle.slice_syntax.proofs.Sets.{disjoint, both_true}
use Rattle.slice_syntax.proofs.Laws.{Lawful}
use Rattle.slice_syntax.proofs.Loops.{whole_more, whole_err, whole_end, whole_less}
use Rattle.slice_syntax.proofs.Fitting.{goes, fits, lawful, full, not_true, series_steps, series_clear, series_ends, series_steps_end, series_done}

module _ {A : Type 0} (more : A → Bool) (g : Grammar A) (h : fits (series more g) ≡ true) where
  parts : (not (is_empty g) ≡ true) × (disjoint (goes g) (starts g) ≡ true) × (fits g ≡ true)
  parts =
      let one = both_true (not (is_empty g)) (disjoint (goes g) (starts g) && fits g) h in
      let two = both_true (disjoint (goes g) (starts g)) (fits g) one.1 in
      (one.0, two.0, two.1)

  laws : Lawful (Spells g) (read g) false (starts g) (goes g)
  laws = full (Spells g) (read g) (is_empty g) (starts g) (goes g) (not_true (is_empty g) parts.0) (lawful g parts.2)

  abbrev pub rows : Bool → Lexemes → Reading (List A)
  rows s ls = runs_at (starts_where (starts g)) (λ t. read g) (λ t x. more x) (λ t. true) (length ls) s ls

  abbrev put : A → List A × Lexemes → Reading (List A)
  put x xs = Ok (x ∷ xs.0, xs.1)

  pub rows_more : (ls mid : Lexemes) (x : A) → begins (starts g) ls ≡ true → read g ls ≡ Ok (x, mid) → rows true ls ≡ (rows (more x) mid >>= put x)
  rows_more ls mid x begun e = whole_more (Where (Spells g)) (λ t. read g) (λ t y. more y) (λ t. true) (starts_where (starts g)) (λ t. goes g) (goes g ++ starts g) (series_steps more g laws parts.1) (series_clear more g laws parts.1) (series_ends more g laws parts.1)
      (series_steps_end more g laws parts.1) (series_done more g laws parts.1) true ls mid x begun e

  pub rows_less : (ls mid : Lexemes) (x : A) → begins (starts g) ls ≡ true → read g ls ≡ Ok (x, mid) → length mid < length ls
  rows_less ls mid x begun e = whole_less (Where (Spells g)) (λ t. read g) (λ t y. more y) (λ t. true) (starts_where (starts g)) (λ t. goes g) (goes g ++ starts g) (series_steps more g laws parts.1) (series_clear more g laws parts.1) (series_ends more g laws parts.1)
      (series_steps_end more g laws parts.1) (series_done more g laws parts.1) true ls mid x begun e

  pub rows_err : (ls left : Lexemes) → begins (starts g) ls ≡ true → read g ls ≡ Err left → rows true ls ≡ Err left
  rows_err ls left begun e = whole_err (Where (Spells g)) (λ t. read g) (λ t y. more y) (λ t. true) (starts_where (starts g)) (λ t. goes g) (goes g ++ starts g) (series_steps more g laws parts.1) (series_clear more g laws parts.1) (series_ends more g laws parts.1)
      (series_steps_end more g laws parts.1) (series_done more g laws parts.1) true ls left begun e

  pub rows_end : (ls : Lexemes) → begins (starts g) ls ≡ false → rows true ls ≡ Ok ([], ls)
  rows_end ls none = whole_end (Where (Spells g)) (λ t. read g) (λ t y. more y) (λ t. true) (starts_where (starts g)) (λ t. goes g) (goes g ++ starts g) (series_steps more g laws parts.1) (series_clear more g laws parts.1) (series_ends more g laws parts.1)
      (series_steps_end more g laws parts.1) (series_done more g laws parts.1) true ls none

  none_begins : (ls : Lexemes) → begins [] ls ≡ false
  none_begins [] = refl
  none_begins (l ∷ ls) = refl

  pub rows_shut : (ls : Lexemes) → rows false ls ≡ Ok ([], ls)
  rows_shut ls = whole_end (Where (Spells g)) (λ t. read g) (λ t y. more y) (λ t. true) (starts_where (starts g)) (λ t. goes g) (goes g ++ starts g) (series_steps more g laws parts.1) (series_clear more g laws parts.1) (series_ends more g laws parts.1)
      (series_steps_end more g laws parts.1) (series_done more g laws parts.1) false ls (none_begins ls)

  joined : {B : Type 0} (f others : List A → B) (x : A) (r : Reading (List A)) → ((ys : List A) → others ys ≡ f (x ∷ ys)) → gather others r ≡ gather f (r >>= put x)
  joined {B = B} f others x (Ok ys) same = ap (λ (b : B). ok b ys.1) (same ys.0) where
    ok : B → Lexemes → Reading B
    ok b rest = Ok (b, rest)
  joined f others x (Err left) same = refl

  pub gather_more : {B : Type 0} (f others : List A → B) (ls mid : Lexemes) (x : A) → ((ys : List A) → others ys ≡ f (x ∷ ys)) → begins (starts g) ls ≡ true → read g ls ≡ Ok (x, mid) → gather others (rows (more x) mid) ≡ gather f (rows true ls)
  gather_more f others ls mid x same begun e = joined f others x (rows (more x) mid) same ∙ ap (gather f) (sym (rows_more ls mid x begun e))

  pub gather_err : {B : Type 0} (f : List A → B) (ls left : Lexemes) → begins (starts g) ls ≡ true → read g ls ≡ Err left → gather f (rows true ls) ≡ Err left
  gather_err f ls left begun e = ap (gather f) (rows_err ls left begun e)

  ended : {B : Type 0} (f : List A → B) (b : B) (ls : Lexemes) (r : Reading (List A)) → f [] ≡ b → r ≡ Ok ([], ls) → gather f r ≡ Ok (b, ls)
  ended {B = B} f b ls r same e = ap (gather f) e ∙ ap (λ (c : B). ok c) same where
    ok : B → Reading B
    ok c = Ok (c, ls)

  pub gather_end : {B : Type 0} (f : List A → B) (b : B) (ls : Lexemes) → f [] ≡ b → begins (starts g) ls ≡ false → gather f (rows true ls) ≡ Ok (b, ls)
  gather_end f b ls same none = ended f b ls (rows true ls) same (rows_end ls none)

  pub gather_shut : {B : Type 0} (f : List A → B) (b : B) (ls : Lexemes) → f [] ≡ b → gather f (rows false ls) ≡ Ok (b, ls)
  gather_shut f b ls same = ended f b ls (rows false ls) same (rows_shut ls)

-- nothing was read before
pub none_before : {A : Type 0} (r : Reading (List A)) → gather (λ ys. [] ++ ys) r ≡ r
none_before (Ok x) = refl
none_before (Err left) = refl

-- one part, and then another
pub then_read : {X A : Type 0} (g : Grammar X) (k : Grammar A) (ls mid rest : Lexemes) (x : X) (y : A) → read g ls ≡ Ok (x, mid) → read k mid ≡ Ok (y, rest) → read (g ▸ k) ls ≡ Ok (y, rest)
then_read g k ls mid rest x y e f = rw (e, f) refl

pub then_stop : {X A : Type 0} (g : Grammar X) (k : Grammar A) (ls left : Lexemes) → read g ls ≡ Err left → read (g ▸ k) ls ≡ Err left
then_stop g k ls left e = rw e refl

pub then_stop_behind : {X A : Type 0} (g : Grammar X) (k : Grammar A) (ls mid left : Lexemes) (x : X) → read g ls ≡ Ok (x, mid) → read k mid ≡ Err left → read (g ▸ k) ls ≡ Err left
then_stop_behind g k ls mid left x e f = rw (e, f) refl
