-- Each way of joining parts keeps what ties reading, spelling and what is put.
use Rattle.std.proofs.Common.{◌≡◌, ℕ, zero, suc, ◌+◌, ◌≤◌, Bool, true, false, IsTrue, if◌then◌else◌, List, [], ◌∷◌, ◌++◌, length, Result, Ok, Err, refl, sym, ap, subst, ◌∙◌, arith, take}
use Rattle.std.specs.List.{flat_map}
use Rattle.std.specs.Prelude.{slice_index}
use Rattle.std.specs.Str.{bytes_eq}
use Rattle.std.proofs.lemmas.List.{length-append, take_at}
use Rattle.std.proofs.lemmas.Slice.Eq.{bytes_eq-Decides}
use Rattle.ice_prims.specs.declared.fault.Fault.{Fault}
use Rattle.ice_prims.specs.declared.fault.Kind.{Kind}
use Rattle.ice_prims.specs.Rest.{Rest, whole, fault, ◌>>=◌, Took, IsBytes, bytes_at}
use Rattle.ice_prims.specs.Laws.{IsExact}
use Rattle.ice_prims.proofs.Parts.{then_ok, ok_is, Took-none, Took-none-is, Took-then, between, Took-fits, IsBytes-front, IsBytes-rest, bytes_found, bytes_only}
use Rattle.ice_prims.proofs.Spelled.{bool_exact, byte_exact, short_exact, int_exact, size_exact, text_exact}
use Rattle.ice_encoding.specs.Parts.{Part, IsLawful, bool, byte, short, int, size, text, version, exactly, nothing, both, made, tested, chosen, times, read_times, SpellsTimes}

abbrev pub answer : {A : Type 0} → A → Result A Fault
answer x = Ok x

-- from what was found at some bytes, and what the last step answers
pub lands : {A : Type 0} (Spells : List ℕ → A → Type 0) (r : Rest) (x y : A × Rest) (bytes : List ℕ) → Took r bytes x.1 → Spells bytes x.0 → answer x ≡ answer y → (bytes : List ℕ) × Took r bytes y.1 × Spells bytes y.0
lands {A} Spells r x y bytes took h e = subst (λ (z : A × Rest). (bytes : List ℕ) × Took r bytes z.1 × Spells bytes z.0) (ok_is x y e) (bytes, took, h)

-- no spelling begins another: bytes begin with one at most
pub apart : {A : Type 0} (part : Part A) → IsLawful part → (a b x y : List ℕ) (v w : A) → part.Spells a v → part.Spells b w → a ++ x ≡ b ++ y → (a ≡ b) × (v ≡ w)
apart {A} part law a b x y v w h g e =
    let p = law.only (whole (a ++ x)) (record { place = 0 + length a; bytes = x }) a v (record { parts = refl; moved = refl }) h in
    let q = law.only (whole (b ++ y)) (record { place = 0 + length b; bytes = y }) b w (record { parts = refl; moved = refl }) g in
    let one = ok_is _ _ (sym p ∙ ap (λ (bytes : List ℕ). part.read (whole bytes)) e ∙ q) in
    let long : length b ≡ length a = omega (arith, ap (λ (z : A × Rest). z.1.place) one) in
    (sym (take_at a x (length a) refl) ∙ ap (take (length a)) e ∙ take_at b y (length a) long, ap (λ (z : A × Rest). z.0) one)

-- ---- parts of the encoding

-- equal bytes are not longer
pub not_longer : (put bytes : List ℕ) → bytes ≡ put → length put ≤ length bytes
not_longer put bytes same = omega (arith, ap length same)

-- a part with one spelling, which is what is put
exact_lawful : {A : Type 0} (part : Part A) → IsExact part.read part.Spells part.Is part.put → IsLawful part
exact_lawful part law = record {
  found = law.found;
  only = law.only;
  sort = law.sort;
  put = law.put;
  shortest = λ bytes x fits h. not_longer (part.put x) bytes (law.once bytes x fits h);
}

pub bool_lawful : IsLawful bool
bool_lawful = exact_lawful bool bool_exact

pub byte_lawful : IsLawful byte
byte_lawful = exact_lawful byte byte_exact

pub short_lawful : IsLawful short
short_lawful = exact_lawful short short_exact

pub int_lawful : IsLawful int
int_lawful = exact_lawful int int_exact

pub size_lawful : IsLawful size
size_lawful = exact_lawful size size_exact

pub text_lawful : IsLawful text
text_lawful = exact_lawful text text_exact

pub nothing_lawful : {A : Type 0} (x : A) → IsLawful (nothing x)
nothing_lawful x = record {
  found = λ r y fits e. lands (nothing x).Spells r (x, r) y [] (Took-none r) (refl, refl) e;
  only = λ r s bytes v k h. rw (Took-none-is r s (rw (← h.0) k), h.1) refl;
  sort = λ bytes y fits h. h.1;
  put = λ y is. (refl, is);
  shortest = λ bytes y fits h. not_longer [] bytes h.0;
}

two_of : (l : List ℕ) → length l ≡ 2 → (a b : ℕ) × (l ≡ a ∷ b ∷ [])
two_of [] e = absurd cc
two_of (a ∷ []) e = absurd cc
two_of (a ∷ (b ∷ [])) e = (a, b, refl)
two_of (a ∷ (b ∷ (c ∷ l))) e = absurd cc

pub version_lawful : IsLawful version
version_lawful = record {
  found = λ r y fits e.
      then_ok (bytes_at 2 r) (λ b. Ok ((slice_index b.0 0, slice_index b.0 1), b.1)) y e λ b b_is last.
      let f = bytes_found 2 r b b_is in
      let two = two_of b.0 f.1 in
      lands version.Spells r ((slice_index b.0 0, slice_index b.0 1), b.1) y b.0 f.0 (rw two.2 refl) last;
  only = λ r s bytes v k h. rw (bytes_only 2 r s (v.0 ∷ v.1 ∷ []) refl (rw (← h) k)) refl;
  sort = λ bytes v fits h. let both_fit : IsBytes (v.0 ∷ v.1 ∷ []) = rw (← h) fits in (both_fit 0, both_fit 1);
  put = λ v is. refl;
  shortest = λ bytes v fits h. not_longer (v.0 ∷ v.1 ∷ []) bytes h;
}

-- ---- joined

-- two that are not longer than two
pub not_longer_both : (a b x y bytes : List ℕ) → bytes ≡ a ++ b → length x ≤ length a → length y ≤ length b → length (x ++ y) ≤ length bytes
not_longer_both a b x y bytes parts one two = omega (arith, ap length parts, length-append a b, length-append x y, one, two)

pub both_lawful : {A B : Type 0} (first : Part A) (second : Part B) → IsLawful first → IsLawful second → IsLawful (both first second)
both_lawful first second one two = record {
  found = λ r x fits e.
      then_ok (first.read r) (λ a. second.read a.1 >>= λ b. Ok ((a.0, b.0), b.1)) x e λ a a_is later.
      then_ok (second.read a.1) (λ b. Ok ((a.0, b.0), b.1)) x later λ b b_is last.
      let f = one.found r a fits a_is in
      let g = two.found a.1 b ((Took-fits r a.1 f.0 fits f.1).1) b_is in
      lands (both first second).Spells r ((a.0, b.0), b.1) x (f.0 ++ g.0) (Took-then r a.1 b.1 f.0 g.0 f.1 g.1) (f.0, g.0, refl, f.2, g.2) last;
  only = λ r s bytes v k h.
      let m = between r s h.0 h.1 (rw (← h.2) k) in
      rw (one.only r m.0 h.0 v.0 m.1 h.3, two.only m.0 s h.1 v.1 m.2 h.4) refl;
  sort = λ bytes x fits h. let parts : IsBytes (h.0 ++ h.1) = rw (← h.2) fits in
      (one.sort h.0 x.0 (IsBytes-front h.0 h.1 parts) h.3, two.sort h.1 x.1 (IsBytes-rest h.0 h.1 parts) h.4);
  put = λ x is. (first.put x.0, second.put x.1, refl, one.put x.0 is.0, two.put x.1 is.1);
  shortest = λ bytes x fits h. let parts : IsBytes (h.0 ++ h.1) = rw (← h.2) fits in
      not_longer_both h.0 h.1 (first.put x.0) (second.put x.1) bytes h.2 (one.shortest h.0 x.0 (IsBytes-front h.0 h.1 parts) h.3) (two.shortest h.1 x.1 (IsBytes-rest h.0 h.1 parts) h.4);
}

at_most : (a b c : ℕ) → a ≤ b → b ≤ c → a ≤ c
at_most a b c p q = omega (arith, p, q)

-- what is made of a part, where what it is made of can be told again, in no more bytes
pub made_sorted : {A B : Type 0} (make : A → B) (of : B → A) (one : Part A) → ((x : A) → one.Is x → one.Is (of (make x)) × (make x ≡ make (of (make x))))
    → ((x : A) → one.Is x → length (one.put (of (make x))) ≤ length (one.put x)) → IsLawful one → IsLawful (made make of one)
made_sorted {A} {B} make of one again short law = record {
  found = λ r y fits e.
      then_ok (one.read r) (λ x. Ok (make x.0, x.1)) y e λ x x_is last.
      let f = law.found r x fits x_is in
      lands (made make of one).Spells r (make x.0, x.1) y f.0 f.1 (x.0, refl, f.2) last;
  only = λ r s bytes v k h. rw (law.only r s bytes h.0 k h.2, h.1) refl;
  sort = λ bytes y fits h. rw h.1 (again h.0 (law.sort bytes h.0 fits h.2));
  put = λ y is. (of y, is.1, law.put (of y) is.0);
  shortest = λ bytes y fits h. subst (λ (z : B). length (one.put (of z)) ≤ length bytes) (sym h.1)
      (at_most _ _ _ (short h.0 (law.sort bytes h.0 fits h.2)) (law.shortest bytes h.0 fits h.2));
}

pub made_lawful : {A B : Type 0} (make : A → B) (of : B → A) (one : Part A) → ((x : A) → of (make x) ≡ x) → IsLawful one → IsLawful (made make of one)
made_lawful make of one undo law = made_sorted make of one (λ x is. rw (undo x) (is, refl)) (λ x is. rw (undo x) (omega arith)) law

-- a test that was passed
passed : {A : Type 0} {C : Type 0} (b : Bool) (d : Fault) (x y : A) → (if b then Ok x else Err d) ≡ Ok y → (IsTrue b → x ≡ y → C) → C
passed true d x y e go = go refl (ok_is x y e)
passed false d x y e go = absurd cc

pub tested_lawful : {A : Type 0} (test : A → Bool) (kind : Kind) (one : Part A) → IsLawful one → IsLawful (tested test kind one)
tested_lawful {A} test kind one law = record {
  found = λ r y fits e.
      then_ok (one.read r) (λ x. if test x.0 then Ok x else fault r.place kind) y e λ x x_is last.
      passed (test x.0) (record { place = r.place; kind = kind }) x y last λ true_is same.
      let f = law.found r x fits x_is in
      subst (λ (z : A × Rest). (bytes : List ℕ) × Took r bytes z.1 × (one.Spells bytes z.0 × IsTrue (test z.0))) same (f.0, f.1, (f.2, true_is));
  only = λ r s bytes v k h. rw (law.only r s bytes v k h.0, h.1) refl;
  sort = λ bytes x fits h. (law.sort bytes x fits h.0, h.1);
  put = λ x is. (law.put x is.0, is.1);
  shortest = λ bytes x fits h. law.shortest bytes x fits h.0;
}

pub chosen_lawful : {A B : Type 0} (first : Part A) (second : A → Part B) (which : B → A) → IsLawful first → ((x : A) → IsLawful (second x))
    → ((x : A) (a b : List ℕ) (y : B) → first.Spells a x → (second x).Spells b y → which y ≡ x) → IsLawful (chosen first second which)
chosen_lawful {A} {B} first second which one two tells = record {
  found = λ r y fits e.
      then_ok (first.read r) (λ a. (second a.0).read a.1) y e λ a a_is last.
      let f = one.found r a fits a_is in
      let g = (two a.0).found a.1 y ((Took-fits r a.1 f.0 fits f.1).1) last in
      (f.0 ++ g.0, Took-then r a.1 y.1 f.0 g.0 f.1 g.1, (a.0, f.0, g.0, refl, f.2, g.2));
  only = λ r s bytes v k h.
      let m = between r s h.1 h.2 (rw (← h.3) k) in
      rw (one.only r m.0 h.1 h.0 m.1 h.4) ((two h.0).only m.0 s h.2 v m.2 h.5);
  sort = λ bytes y fits h. let parts : IsBytes (h.1 ++ h.2) = rw (← h.3) fits in
      rw (tells h.0 h.1 h.2 y h.4 h.5) (one.sort h.1 h.0 (IsBytes-front h.1 h.2 parts) h.4, (two h.0).sort h.2 y (IsBytes-rest h.1 h.2 parts) h.5);
  put = λ y is. (which y, first.put (which y), (second (which y)).put y, refl, one.put (which y) is.0, (two (which y)).put y is.1);
  shortest = λ bytes y fits h. let parts : IsBytes (h.1 ++ h.2) = rw (← h.3) fits in
      subst (λ (x : A). length (first.put x ++ (second x).put y) ≤ length bytes) (sym (tells h.0 h.1 h.2 y h.4 h.5))
      (not_longer_both h.1 h.2 (first.put h.0) ((second h.0).put y) bytes h.3 (one.shortest h.1 h.0 (IsBytes-front h.1 h.2 parts) h.4) ((two h.0).shortest h.2 y (IsBytes-rest h.1 h.2 parts) h.5));
}

pub exactly_lawful : (known : List ℕ) (kind : Kind) → IsLawful (exactly known kind)
exactly_lawful known kind = record {
  found = λ r y fits e.
      then_ok (bytes_at (length known) r) (λ b. if bytes_eq b.0 known then Ok (tt, b.1) else fault r.place kind) y e λ b b_is last.
      passed (bytes_eq b.0 known) (record { place = r.place; kind = kind }) (tt, b.1) y last λ true_is same.
      let f = bytes_found (length known) r b b_is in
      subst (λ (z : Unit {0} × Rest). (bytes : List ℕ) × Took r bytes z.1 × (bytes ≡ known)) same (b.0, f.0, (bytes_eq-Decides b.0 known).0 true_is);
  only = λ r s bytes v k h. rw (bytes_only (length known) r s known refl (rw (← h) k), (bytes_eq-Decides known known).1 refl) refl;
  sort = λ bytes x fits h. tt;
  put = λ x is. refl;
  shortest = λ bytes x fits h. not_longer known bytes h;
}

-- ---- one after the other

none_put : {A : Type 0} (one : Part A) (x : List A) → length x ≡ 0 → (flat_map one.put x ≡ []) × (x ≡ [])
none_put one [] e = (refl, refl)
none_put one (x ∷ xs) e = absurd cc

more_put : {A : Type 0} (one : Part A) → IsLawful one → (n : ℕ) → ((x : List A) → (times one n).Is x → (times one n).Spells (flat_map one.put x) x) → (x : List A) → (times one (suc n)).Is x → (times one (suc n)).Spells (flat_map one.put x) x
more_put one law n others [] is = absurd cc
more_put one law n others (x ∷ xs) is = (x, xs, one.put x, flat_map one.put xs, refl, refl, law.put x is.1.0, others xs (cc, is.1.1))

pub times_lawful : {A : Type 0} (one : Part A) → IsLawful one → (n : ℕ) → IsLawful (times one n)
times_lawful {A} one law zero = record {
  found = λ r y fits e. lands (times one 0).Spells r ([], r) y [] (Took-none r) (refl, refl) e;
  only = λ r s bytes v k h. rw (Took-none-is r s (rw (← h.0) k), h.1) refl;
  sort = λ bytes x fits h. rw h.1 (refl, tt);
  put = λ x is. none_put one x is.0;
  shortest = λ bytes x fits h. rw h.1 (not_longer [] bytes h.0);
}
times_lawful {A} one law (suc n) = record {
  found = λ r y fits e.
      then_ok (one.read r) (λ first. read_times one.read n first.1 >>= λ others. Ok (first.0 ∷ others.0, others.1)) y e λ a a_is later.
      then_ok (read_times one.read n a.1) (λ others. Ok (a.0 ∷ others.0, others.1)) y later λ b b_is last.
      let f = law.found r a fits a_is in
      let g = (times_lawful one law n).found a.1 b ((Took-fits r a.1 f.0 fits f.1).1) b_is in
      lands (times one (suc n)).Spells r (a.0 ∷ b.0, b.1) y (f.0 ++ g.0) (Took-then r a.1 b.1 f.0 g.0 f.1 g.1) (a.0, b.0, f.0, g.0, refl, refl, f.2, g.2) last;
  only = λ r s bytes v k h.
      let m = between r s h.2 h.3 (rw (← h.5) k) in
      rw (law.only r m.0 h.2 h.0 m.1 h.6, (times_lawful one law n).only m.0 s h.3 h.1 m.2 h.7, h.4) refl;
  sort = λ bytes x fits h. let parts : IsBytes (h.2 ++ h.3) = rw (← h.5) fits in
      let others = (times_lawful one law n).sort h.3 h.1 (IsBytes-rest h.2 h.3 parts) h.7 in
      rw h.4 (ap suc others.0, (law.sort h.2 h.0 (IsBytes-front h.2 h.3 parts) h.6, others.1));
  put = λ x is. more_put one law n ((times_lawful one law n).put) x is;
  shortest = λ bytes x fits h. let parts : IsBytes (h.2 ++ h.3) = rw (← h.5) fits in
      subst (λ (items : List A). length (flat_map one.put items) ≤ length bytes) (sym h.4)
      (not_longer_both h.2 h.3 (one.put h.0) (flat_map one.put h.1) bytes h.5 (law.shortest h.2 h.0 (IsBytes-front h.2 h.3 parts) h.6)
      ((times_lawful one law n).shortest h.3 h.1 (IsBytes-rest h.2 h.3 parts) h.7));
}

-- so many are so many
pub times_length : {A : Type 0} (Spells : List ℕ → A → Type 0) (n : ℕ) (bytes : List ℕ) (items : List A) → SpellsTimes Spells n bytes items → length items ≡ n
times_length Spells zero bytes items h = rw h.1 refl
times_length Spells (suc n) bytes items h = rw h.4 (ap suc (times_length Spells n h.3 h.1 h.7))
