-- What reading by a rule and its spellings have to do with one another, and how that passes from the parts of a rule to the rule.
use Rattle.std.proofs.Common.{◌≡◌, Bool, true, false, IsTrue, cond, ◌&&◌, ◌||◌, List, [], ◌∷◌, ◌++◌, Some, None, Ok, Err, ◌⊎◌, inl, inr, refl, sym, ap, subst, ◌∙◌, append_assoc}
use Rattle.std.proofs.lemmas.Bool.{false≢true}
use Rattle.std.proofs.lemmas.List.Folds.{list_any-append}
use Rattle.slice_syntax.specs.declared.terminal.Terminal.{Terminal}
use Rattle.slice_syntax.specs.Lexemes.{IsAlone, AreTokens, Lexeme, Lexemes, has, begins, next, terminal_of, is_terminal}
use Rattle.slice_syntax.specs.Reading.{Reading, ◌>>=◌, token_at, or_at}
use Rattle.slice_syntax.proofs.Sets.{disjoint, apart, begins_append, begins_next, next_append}

-- Reading went over tokens that spell the value, and looked at no token after the next one.
pub record Took {A : Type 0} (P : Lexemes → A → Type 0) (r : Lexemes → Reading A) (ls : Lexemes) (x : A) (rest : Lexemes) : Type 0 where
  pub taken : Lexemes
  pub parts : ls ≡ taken ++ rest
  pub spelled : P taken x
  pub kept : (other : Lexemes) → next rest ≡ next other → r (taken ++ other) ≡ Ok (x, other)

-- Reading refused a token, after tokens that can be completed, and looked at no token after it.
pub record Stopped {A : Type 0} (P : Lexemes → A → Type 0) (r : Lexemes → Reading A) (ls left : Lexemes) : Type 0 where
  pub front : Lexemes
  pub parts : ls ≡ front ++ left
  pub kept : (other : Lexemes) → next left ≡ next other → r (front ++ other) ≡ Err other
  pub more : Lexemes
  pub real : AreTokens more
  pub value : A
  pub spelled : P (front ++ more) value

-- The reading is that of the spellings: `bare` says whether no token may be one, `starts` has what they begin with, `goes` what they may go on with.
pub record Lawful {A : Type 0} (P : Lexemes → A → Type 0) (r : Lexemes → Reading A) (bare : Bool) (starts goes : List Terminal) : Type 0 where
  pub empty : (x : A) → P [] x → bare ≡ true
  pub first : (l : Lexeme) (ls : Lexemes) (x : A) → P (l ∷ ls) x → has starts (terminal_of l) ≡ true
  pub some : Lexemes
  pub real : AreTokens some
  pub value : A
  pub spelled : P some value
  pub found : (ls rest : Lexemes) (x : A) → r ls ≡ Ok (x, rest) → Took P r ls x rest
  pub stopped : (ls left : Lexemes) → r ls ≡ Err left → Stopped P r ls left
  pub only : (taken rest : Lexemes) (x : A) → P taken x → begins goes rest ≡ false → r (taken ++ rest) ≡ Ok (x, rest)

pub are_append : (a b : Lexemes) → AreTokens a → AreTokens b → AreTokens (a ++ b)
are_append [] b h k = k
are_append (l ∷ a) b h k = (h.0, are_append a b h.1 k)

-- What reading of two parts gives.
pub then_ok : {A B : Type 0} (C : Type 0) (r : Reading A) (f : A × Lexemes → Reading B) (y : B × Lexemes) → (r >>= f) ≡ Ok y → ((x : A) (mid : Lexemes) → r ≡ Ok (x, mid) → f (x, mid) ≡ Ok y → C) → C
then_ok C (Ok x) f y e k = k x.0 x.1 refl e
then_ok C (Err left) f y e k = absurd cc

pub then_err : {A B : Type 0} (C : Type 0) (r : Reading A) (f : A × Lexemes → Reading B) (left : Lexemes) → (r >>= f) ≡ Err left → (r ≡ Err left → C) → ((x : A) (mid : Lexemes) → r ≡ Ok (x, mid) → f (x, mid) ≡ Err left → C) → C
then_err C (Ok x) f left e k h = h x.0 x.1 refl e
then_err C (Err other) f left e k h = k cc

or_right : (a b : Bool) → b ≡ true → (a || b) ≡ true
or_right true b e = refl
or_right false b e = e

has_left : (a b : List Terminal) (s : Terminal) → has a s ≡ true → has (a ++ b) s ≡ true
has_left a b s e = list_any-append (λ other. is_terminal other s) a b ∙ rw e refl

has_right : (a b : List Terminal) (s : Terminal) → has b s ≡ true → has (a ++ b) s ≡ true
has_right a b s e = list_any-append (λ other. is_terminal other s) a b ∙ or_right (has a s) (has b s) e

pub ok_parts : {A : Type 0} (x y : A) (ls rest : Lexemes) → ◌≡◌ {A = Reading A} (Ok (x, ls)) (Ok (y, rest)) → (x ≡ y) × (ls ≡ rest)
ok_parts {A = A} x y ls rest e = let p : (x, ls) ≡ (y, rest) = cc in (ap (λ (q : A × Lexemes). q.0) p, ap (λ (q : A × Lexemes). q.1) p)

-- Nothing.
module _ {A : Type 0} (a : A) where
  abbrev Nothing : Lexemes → A → Type 0
  Nothing ls x = (ls ≡ []) × (x ≡ a)

  abbrev ok : A → Lexemes → Reading A
  ok v other = Ok (v, other)

  abbrev nothing_at : Lexemes → Reading A
  nothing_at ls = Ok (a, ls)

  pub lawful_nothing : Lawful Nothing nothing_at true [] []
  lawful_nothing = record {
    empty = λ x h. refl;
    first = λ l ls x h. absurd cc;
    some = [];
    real = tt;
    value = a;
    spelled = (refl, refl);
    found = λ ls rest x e. let is = ok_parts a x ls rest e in record { taken = []; parts = is.1; spelled = (refl, sym is.0); kept = λ other n. ap (λ (v : A). ok v other) is.0 };
    stopped = λ ls left e. absurd cc;
    only = λ taken rest x h none. let same : a ≡ x = sym h.1 in rw (h.0, same) refl;
  }

-- One token.
module _ {A : Type 0} (terminals : List Terminal) (view : Lexeme → A) where
  abbrev One : Lexemes → A → Type 0
  One ls x = (l : Lexeme) × (ls ≡ l ∷ []) × IsTrue (has terminals (terminal_of l)) × (x ≡ view l)

  one_first : (l : Lexeme) (ls : Lexemes) (x : A) → One (l ∷ ls) x → has terminals (terminal_of l) ≡ true
  one_first l ls x h = let e = h.1 in let same : h.0 ≡ l = cc in subst (λ (t : Lexeme). has terminals (terminal_of t) ≡ true) same h.2

  one_found : (l : Lexeme) (ls rest : Lexemes) (x : A) (b : Bool) → has terminals (terminal_of l) ≡ b → cond {A = Reading A} b (Ok (view l, ls)) (Err (l ∷ ls)) ≡ Ok (x, rest) → Took One (token_at terminals view) (l ∷ ls) x rest
  one_found l ls rest x true test e =
      let is = ok_parts (view l) x ls rest e in
      let same = is.0 in
      record { taken = l ∷ []; parts = ap (λ (t : Lexemes). l ∷ t) is.1; spelled = (l, refl, test, sym same); kept = λ other n. rw (test, same) refl }
  one_found l ls rest x false test e = absurd cc

  one_stopped : (sample : Lexeme) → IsAlone sample → has terminals (terminal_of sample) ≡ true → (l : Lexeme) (ls left : Lexemes) (b : Bool) → has terminals (terminal_of l) ≡ b → cond {A = Reading A} b (Ok (view l, ls)) (Err (l ∷ ls)) ≡ Err left
      → Stopped One (token_at terminals view) (l ∷ ls) left
  one_stopped sample alone fits l ls left true test e = absurd cc
  one_stopped sample alone fits l ls left false test e =
      let same : l ∷ ls ≡ left = cc in
      record { front = []; parts = same; kept = λ other n. refuse other (ap next same ∙ n); more = sample ∷ []; real = (alone, tt); value = view sample; spelled = (sample, refl, fits, refl) } where
        refuse : (other : Lexemes) → Some l ≡ next other → token_at terminals view other ≡ Err other
        refuse [] n = absurd cc
        refuse (o ∷ others) n = let is : l ≡ o = cc in rw (sym is, test) refl

  end_stopped : (sample : Lexeme) → IsAlone sample → has terminals (terminal_of sample) ≡ true → (left : Lexemes) → ◌≡◌ {A = Reading A} (Err []) (Err left) → Stopped One (token_at terminals view) [] left
  end_stopped sample alone fits left e =
      let same : [] ≡ left = cc in
      record { front = []; parts = same; kept = λ other n. refuse other (ap next same ∙ n); more = sample ∷ []; real = (alone, tt); value = view sample; spelled = (sample, refl, fits, refl) } where
        refuse : (other : Lexemes) → None ≡ next other → token_at terminals view other ≡ Err other
        refuse [] n = refl
        refuse (o ∷ others) n = absurd cc

  pub lawful_token : (sample : Lexeme) → IsAlone sample → has terminals (terminal_of sample) ≡ true → Lawful One (token_at terminals view) false terminals []
  lawful_token sample alone fits = record {
    empty = λ x h. let e = h.1 in absurd cc;
    first = one_first;
    some = sample ∷ [];
    real = (alone, tt);
    value = view sample;
    spelled = (sample, refl, fits, refl);
    found = found;
    stopped = stopped;
    only = λ taken rest x h none. let l = h.0 in let test = h.2 in let is = sym h.3 in rw (h.1, test, is) refl;
  } where
    found : (ls rest : Lexemes) (x : A) → token_at terminals view ls ≡ Ok (x, rest) → Took One (token_at terminals view) ls x rest
    found [] rest x e = absurd cc
    found (l ∷ ls) rest x e = one_found l ls rest x (has terminals (terminal_of l)) refl e

    stopped : (ls left : Lexemes) → token_at terminals view ls ≡ Err left → Stopped One (token_at terminals view) ls left
    stopped [] left e = end_stopped sample alone fits left e
    stopped (l ∷ ls) left e = one_stopped sample alone fits l ls left (has terminals (terminal_of l)) refl e

-- The same spellings for other values.
module _ {X A : Type 0} (view : X → A) (P : Lexemes → X → Type 0) (p : Lexemes → Reading X) where
  abbrev Made : Lexemes → A → Type 0
  Made ls a = (x : X) × P ls x × (a ≡ view x)

  abbrev made_at : Lexemes → Reading A
  made_at ls = p ls >>= (λ x. Ok (view x.0, x.1))

  pub lawful_made : (bare : Bool) (starts goes : List Terminal) → Lawful P p bare starts goes → Lawful Made made_at bare starts goes
  lawful_made bare starts goes g = record {
    empty = λ a h. g.empty h.0 h.1;
    first = λ l ls a h. g.first l ls h.0 h.1;
    some = g.some;
    real = g.real;
    value = view g.value;
    spelled = (g.value, g.spelled, refl);
    found = λ ls rest a e. then_ok (Took Made made_at ls a rest) (p ls) (λ x. Ok (view x.0, x.1)) (a, rest) e (λ x mid d f.
        let t = g.found ls mid x d in
        let is = ok_parts (view x) a mid rest f in
        let same = is.0 in
        let tail = is.1 in
        record {
          taken = t.taken;
          parts = rw (← tail) t.parts;
          spelled = (x, t.spelled, sym same);
          kept = λ other n. let k = t.kept other (ap next tail ∙ n) in rw (k, same) refl;
        });
    stopped = λ ls left e. then_err (Stopped Made made_at ls left) (p ls) (λ x. Ok (view x.0, x.1)) left e (λ d.
        let s = g.stopped ls left d in
        record { front = s.front; parts = s.parts; kept = λ other n. let k = s.kept other n in rw k refl; more = s.more; real = s.real; value = view s.value; spelled = (s.value, s.spelled, refl) })
        (λ x mid d f. absurd cc);
    only = λ taken rest a h none. let k = g.only taken rest h.0 h.1 none in let is = sym h.2 in rw (k, is) refl;
  }

-- One after the other, where the second may depend on the value of the first.
module _ {X Y A : Type 0} (make : X → Y → A) (P : Lexemes → X → Type 0) (p : Lexemes → Reading X) (Q : X → Lexemes → Y → Type 0) (q : X → Lexemes → Reading Y) where
  abbrev Both : Lexemes → A → Type 0
  Both ls a = (x : X) × (y : Y) × (before behind : Lexemes) × (ls ≡ before ++ behind) × P before x × Q x behind y × (a ≡ make x y)

  abbrev both_at : Lexemes → Reading A
  both_at ls = p ls >>= (λ x. q x.0 x.1 >>= (λ y. Ok (make x.0 y.0, y.1)))

  abbrev second : X → Lexemes → Reading A
  second x mid = q x mid >>= (λ y. Ok (make x y.0, y.1))

  module _ (bare : Bool) (starts goes : List Terminal) (bare2 : Bool) (starts2 goes2 : List Terminal) (g : Lawful P p bare starts goes) (h : (x : X) → Lawful (Q x) (q x) bare2 starts2 goes2)
      (clear : disjoint goes starts2 ≡ true) where
    both_empty : (before behind : Lexemes) → [] ≡ before ++ behind → (before ≡ []) × (behind ≡ [])
    both_empty [] behind e = (refl, sym e)
    both_empty (l ∷ before) behind e = absurd cc

    join_true : (a b : Bool) → a ≡ true → b ≡ true → (a && b) ≡ true
    join_true a b d e = rw (d, e) refl

    empty : (a : A) → Both [] a → (bare && bare2) ≡ true
    empty a s =
        let e = both_empty s.2 s.3 s.4 in
        join_true bare bare2 (g.empty s.0 (subst (λ (t : Lexemes). P t s.0) e.0 s.5)) ((h s.0).empty s.1 (subst (λ (t : Lexemes). Q s.0 t s.1) e.1 s.6))

    first_of : (l : Lexeme) (x : X) (y : Y) (before behind ls : Lexemes) → l ∷ ls ≡ before ++ behind → P before x → Q x behind y → has (cond bare (starts ++ starts2) starts) (terminal_of l) ≡ true
    first_of l x y [] behind ls e s t =
        let none = g.empty x s in
        let second : has starts2 (terminal_of l) ≡ true = (h x).first l ls y (subst (λ (z : Lexemes). Q x z y) (sym e) t) in
        rw none (has_right starts starts2 (terminal_of l) second)
    first_of l x y (b ∷ before) behind ls e s t =
        let same : l ≡ b = cc in
        let here : has starts (terminal_of l) ≡ true = subst (λ (z : Lexeme). has starts (terminal_of z) ≡ true) (sym same) (g.first b before x s) in
        widened bare here where
          widened : (b : Bool) → has starts (terminal_of l) ≡ true → has (cond b (starts ++ starts2) starts) (terminal_of l) ≡ true
          widened true here = has_left starts starts2 (terminal_of l) here
          widened false here = here

    -- what a first part is not mistaken to go on with
    clear_of : (x : X) (y : Y) (behind rest : Lexemes) → Q x behind y → begins (goes2 ++ cond bare2 goes []) rest ≡ false → begins goes (behind ++ rest) ≡ false
    clear_of x y [] rest t none =
        let bare_is = (h x).empty y t in
        let tail = (begins_append goes2 (cond bare2 goes []) rest none).1 in
        rw bare_is at tail
    clear_of x y (l ∷ behind) rest t none = apart_of (has goes (terminal_of l)) refl where
      apart_of : (b : Bool) → has goes (terminal_of l) ≡ b → has goes (terminal_of l) ≡ false
      apart_of true e = absurd (differ ((h x).first l behind y t) (apart goes starts2 (terminal_of l) clear e)) where
        differ : has starts2 (terminal_of l) ≡ true → has starts2 (terminal_of l) ≡ false → ⊥
        differ d e = cc
      apart_of false e = e

    pub lawful_both : Lawful Both both_at (bare && bare2) (cond bare (starts ++ starts2) starts) (goes2 ++ cond bare2 goes [])
    lawful_both = record {
      empty = empty;
      first = λ l ls a s. first_of l s.0 s.1 s.2 s.3 ls s.4 s.5 s.6;
      some = g.some ++ (h g.value).some;
      real = are_append g.some (h g.value).some g.real (h g.value).real;
      value = make g.value (h g.value).value;
      spelled = (g.value, (h g.value).value, g.some, (h g.value).some, refl, g.spelled, (h g.value).spelled, refl);
      found = λ ls rest a e. then_ok (Took Both both_at ls a rest) (p ls) (λ x. second x.0 x.1) (a, rest) e (λ x mid d f.
          then_ok (Took Both both_at ls a rest) (q x mid) (λ y. Ok (make x y.0, y.1)) (a, rest) f (λ y end k m.
          let t = g.found ls mid x d in
          let u = (h x).found mid end y k in
          let is = ok_parts (make x y) a end rest m in
          let same = is.0 in
          let tail = is.1 in
          record {
            taken = t.taken ++ u.taken;
            parts = t.parts ∙ ap (λ (z : Lexemes). t.taken ++ z) u.parts ∙ sym (append_assoc t.taken u.taken end) ∙ ap (λ (z : Lexemes). (t.taken ++ u.taken) ++ z) tail;
            spelled = (x, y, t.taken, u.taken, refl, t.spelled, u.spelled, sym same);
            kept = λ other n.
                let tails : next end ≡ next other = ap next tail ∙ n in
                let middle : next mid ≡ next (u.taken ++ other) = ap next u.parts ∙ next_append u.taken end other tails in
                let one = t.kept (u.taken ++ other) middle in
                let two = u.kept other tails in
                let grouped = append_assoc t.taken u.taken other in
                rw (grouped, one, two, same) refl;
          }));
      stopped = λ ls left e. then_err (Stopped Both both_at ls left) (p ls) (λ x. second x.0 x.1) left e
          (λ d.
          let s = g.stopped ls left d in
          record {
            front = s.front;
            parts = s.parts;
            kept = λ other n. let one = s.kept other n in rw one refl;
            more = s.more ++ (h s.value).some;
            real = are_append s.more (h s.value).some s.real (h s.value).real;
            value = make s.value (h s.value).value;
            spelled = (s.value, (h s.value).value, s.front ++ s.more, (h s.value).some, sym (append_assoc s.front s.more (h s.value).some), s.spelled, (h s.value).spelled, refl);
          })
          (λ x mid d f. then_err (Stopped Both both_at ls left) (q x mid) (λ y. Ok (make x y.0, y.1)) left f
          (λ k.
          let t = g.found ls mid x d in
          let s = (h x).stopped mid left k in
          record {
            front = t.taken ++ s.front;
            parts = t.parts ∙ ap (λ (z : Lexemes). t.taken ++ z) s.parts ∙ sym (append_assoc t.taken s.front left);
            kept = λ other n.
                let middle : next mid ≡ next (s.front ++ other) = ap next s.parts ∙ next_append s.front left other n in
                let one = t.kept (s.front ++ other) middle in
                let two = s.kept other n in
                let grouped = append_assoc t.taken s.front other in
                rw (grouped, one, two) refl;
            more = s.more;
            real = s.real;
            value = make x s.value;
            spelled = (x, s.value, t.taken, s.front ++ s.more, append_assoc t.taken s.front s.more, t.spelled, s.spelled, refl);
          })
          (λ y end k m. absurd cc));
      only = λ taken rest a s none.
          let one = g.only s.2 (s.3 ++ rest) s.0 s.5 (clear_of s.0 s.1 s.3 rest s.6 none) in
          let two = (h s.0).only s.3 rest s.1 s.6 (begins_append goes2 (cond bare2 goes []) rest none).0 in
          let grouped = append_assoc s.2 s.3 rest in
          let is = sym s.7 in
          rw (s.4, grouped, one, two, is) refl;
    }

-- The one or the other.
module _ {A : Type 0} (P : Lexemes → A → Type 0) (p : Lexemes → Reading A) (Q : Lexemes → A → Type 0) (q : Lexemes → Reading A) where
  abbrev Either : Lexemes → A → Type 0
  Either ls a = P ls a ⊎ Q ls a

  module _ (starts goes : List Terminal) (bare2 : Bool) (starts2 goes2 : List Terminal) (g : Lawful P p false starts goes) (h : Lawful Q q bare2 starts2 goes2) (clear : disjoint starts starts2 ≡ true) where
    abbrev either_at : Lexemes → Reading A
    either_at ls = or_at (begins starts ls) p q ls

    or_first : (l : Lexeme) (ls : Lexemes) (x : A) → Either (l ∷ ls) x → has (starts ++ starts2) (terminal_of l) ≡ true
    or_first l ls x (inl s) = has_left starts starts2 (terminal_of l) (g.first l ls x s)
    or_first l ls x (inr t) = has_right starts starts2 (terminal_of l) (h.first l ls x t)

    or_empty : (x : A) → Either [] x → bare2 ≡ true
    or_empty x (inl s) = absurd (false≢true (g.empty x s))
    or_empty x (inr t) = h.empty x t

    or_found : (ls rest : Lexemes) (x : A) (b : Bool) → begins starts ls ≡ b → or_at b p q ls ≡ Ok (x, rest) → Took Either either_at ls x rest
    or_found ls rest x true test e =
        let t = g.found ls rest x e in
        record {
          taken = t.taken;
          parts = t.parts;
          spelled = inl t.spelled;
          kept = λ other n.
              let same = begins_next starts (t.taken ++ other) (t.taken ++ rest) (sym (next_append t.taken rest other n)) in
              let begun : begins starts (t.taken ++ other) ≡ true = same ∙ ap (begins starts) (sym t.parts) ∙ test in
              rw begun (t.kept other n);
        }
    or_found ls rest x false test e =
        let t = h.found ls rest x e in
        record {
          taken = t.taken;
          parts = t.parts;
          spelled = inr t.spelled;
          kept = λ other n.
              let same = begins_next starts (t.taken ++ other) (t.taken ++ rest) (sym (next_append t.taken rest other n)) in
              let begun : begins starts (t.taken ++ other) ≡ false = same ∙ ap (begins starts) (sym t.parts) ∙ test in
              rw begun (t.kept other n);
        }

    or_stopped : (ls left : Lexemes) (b : Bool) → begins starts ls ≡ b → or_at b p q ls ≡ Err left → Stopped Either either_at ls left
    or_stopped ls left true test e =
        let s = g.stopped ls left e in
        record {
          front = s.front;
          parts = s.parts;
          more = s.more;
          real = s.real;
          value = s.value;
          spelled = inl s.spelled;
          kept = λ other n.
              let same = begins_next starts (s.front ++ other) (s.front ++ left) (sym (next_append s.front left other n)) in
              let begun : begins starts (s.front ++ other) ≡ true = same ∙ ap (begins starts) (sym s.parts) ∙ test in
              rw begun (s.kept other n);
        }
    or_stopped ls left false test e =
        let s = h.stopped ls left e in
        record {
          front = s.front;
          parts = s.parts;
          more = s.more;
          real = s.real;
          value = s.value;
          spelled = inr s.spelled;
          kept = λ other n.
              let same = begins_next starts (s.front ++ other) (s.front ++ left) (sym (next_append s.front left other n)) in
              let begun : begins starts (s.front ++ other) ≡ false = same ∙ ap (begins starts) (sym s.parts) ∙ test in
              rw begun (s.kept other n);
        }

    or_only : (taken rest : Lexemes) (x : A) → Either taken x → begins (goes ++ (goes2 ++ cond bare2 starts [])) rest ≡ false → either_at (taken ++ rest) ≡ Ok (x, rest)
    or_only [] rest x (inl s) none = absurd (false≢true (g.empty x s))
    or_only (l ∷ taken) rest x (inl s) none = let begun = g.first l taken x s in rw begun (g.only (l ∷ taken) rest x s (begins_append goes (goes2 ++ cond bare2 starts []) rest none).0)
    or_only [] rest x (inr t) none =
        let parts = begins_append goes2 (cond bare2 starts []) rest (begins_append goes (goes2 ++ cond bare2 starts []) rest none).1 in
        let bare_is = h.empty x t in
        let tail = parts.1 in
        let begun : begins starts rest ≡ false = rw bare_is at tail in
        rw begun (h.only [] rest x t parts.0)
    or_only (l ∷ taken) rest x (inr t) none =
        other (has starts (terminal_of l)) refl where
          other : (b : Bool) → has starts (terminal_of l) ≡ b → either_at (l ∷ taken ++ rest) ≡ Ok (x, rest)
          other true e = let f = apart starts starts2 (terminal_of l) clear e in let t2 = h.first l taken x t in absurd cc
          other false e = rw e (h.only (l ∷ taken) rest x t (begins_append goes2 (cond bare2 starts []) rest (begins_append goes (goes2 ++ cond bare2 starts []) rest none).1).0)

    pub lawful_or : Lawful Either either_at bare2 (starts ++ starts2) (goes ++ (goes2 ++ cond bare2 starts []))
    lawful_or = record {
      empty = or_empty;
      first = or_first;
      some = g.some;
      real = g.real;
      value = g.value;
      spelled = inl g.spelled;
      found = λ ls rest x e. or_found ls rest x (begins starts ls) refl e;
      stopped = λ ls left e. or_stopped ls left (begins starts ls) refl e;
      only = or_only;
    }
