-- Reading parts one after the other, and their spellings.
use Rattle.std.proofs.Common.{ℕ, zero, suc, ◌≡◌, ◌<◌, ◌≤◌, Bool, true, false, cond, List, [], ◌∷◌, ◌++◌, length, Ok, Err, refl, sym, ap, subst, ◌∙◌, append_assoc, arith}
use Rattle.std.proofs.lemmas.List.{length-append}
use Rattle.slice_syntax.specs.declared.terminal.Terminal.{Terminal}
use Rattle.slice_syntax.specs.Lexemes.{AreTokens, Lexeme, Lexemes, has, begins, next, terminal_of}
use Rattle.slice_syntax.specs.Grammar.{Runs}
use Rattle.slice_syntax.specs.Reading.{Reading, ◌>>=◌, runs_at}
use Rattle.slice_syntax.proofs.Sets.{begins_next, next_append}
use Rattle.slice_syntax.proofs.Laws.{are_append, Took, Stopped, Lawful, then_ok, then_err, ok_parts}

-- The laws of one part, which is read where it begins.
pub record Stepping {X : Type 0} (P : Lexemes → X → Type 0) (p : Lexemes → Reading X) (starts goes : List Terminal) : Type 0 where
  pub empty : (x : X) → P [] x → ⊥
  pub first : (l : Lexeme) (ls : Lexemes) (x : X) → P (l ∷ ls) x → has starts (terminal_of l) ≡ true
  pub found : (ls rest : Lexemes) (x : X) → begins starts ls ≡ true → p ls ≡ Ok (x, rest) → Took P p ls x rest
  pub stopped : (ls left : Lexemes) → begins starts ls ≡ true → p ls ≡ Err left → Stopped P p ls left
  pub only : (taken rest : Lexemes) (x : X) → P taken x → begins goes rest ≡ false → p (taken ++ rest) ≡ Ok (x, rest)

module _ {S X : Type 0} (Step : S → Lexemes → X → Type 0) (r : S → Lexemes → Reading X) (after : S → X → S) (may_end : S → Bool) (starts : S → List Terminal) where
  abbrev Run : S → Lexemes → List X → Type 0
  Run s ls xs = Runs Step after may_end s ls xs

  abbrev at : ℕ → S → Lexemes → Reading (List X)
  at n s ls = runs_at starts r after may_end n s ls

  abbrev whole : S → Lexemes → Reading (List X)
  whole s ls = at (length ls) s ls

  abbrev stop : S → Lexemes → Reading (List X)
  stop s ls = cond {A = Reading (List X)} (may_end s) (Ok ([], ls)) (Err ls)

  abbrev more : X → List X × Lexemes → Reading (List X)
  more x xs = Ok (x ∷ xs.0, xs.1)

  pub record RunTook (s : S) (ls : Lexemes) (xs : List X) (rest : Lexemes) : Type 0 where
    pub taken : Lexemes
    pub parts : ls ≡ taken ++ rest
    pub spelled : Run s taken xs
    pub kept : (other : Lexemes) (m : ℕ) → length (taken ++ other) ≤ m → next rest ≡ next other → at m s (taken ++ other) ≡ Ok (xs, other)

  pub record RunStopped (s : S) (ls left : Lexemes) : Type 0 where
    pub front : Lexemes
    pub parts : ls ≡ front ++ left
    pub kept : (other : Lexemes) (m : ℕ) → length (front ++ other) ≤ m → next left ≡ next other → at m s (front ++ other) ≡ Err other
    pub more : Lexemes
    pub real : AreTokens more
    pub values : List X
    pub spelled : Run s (front ++ more) values

  at_stop : (m : ℕ) (s : S) (ls : Lexemes) → begins (starts s) ls ≡ false → at m s ls ≡ stop s ls
  at_stop zero s ls none = refl
  at_stop (suc m) s ls none = rw none refl

  some_token : (set : List Terminal) (ls : Lexemes) → begins set ls ≡ true → 0 < length ls
  some_token set [] h = absurd cc
  some_token set (l ∷ ls) h = omega arith

  at_step : (m : ℕ) (s : S) (all mid : Lexemes) (x : X) (result : Reading (List X)) → begins (starts s) all ≡ true → r s all ≡ Ok (x, mid) → length mid < length all → length all ≤ m
      → ((k : ℕ) → length mid ≤ k → at k (after s x) mid ≡ result) → at m s all ≡ (result >>= more x)
  at_step zero s all mid x result begun e shorter enough rest = absurd (omega arith)
  at_step (suc m) s all mid x result begun e shorter enough rest = let here = rest m (omega arith) in rw (begun, e, here) refl

  at_err : (m : ℕ) (s : S) (all left : Lexemes) → begins (starts s) all ≡ true → r s all ≡ Err left → length all ≤ m → at m s all ≡ Err left
  at_err zero s all left begun e enough = let some = some_token (starts s) all begun in absurd (omega arith)
  at_err (suc m) s all left begun e enough = rw (begun, e) refl

  module _ (goes : S → List Terminal) (ending : List Terminal) (laws : (s : S) → Stepping (Step s) (r s) (starts s) (goes s))
      (clear : (s : S) (x : X) (l : Lexeme) → has (goes s) (terminal_of l) ≡ true → has (starts (after s x)) (terminal_of l) ≡ false)
      (ends : (s : S) → may_end s ≡ true → (rest : Lexemes) → begins ending rest ≡ false → begins (starts s) rest ≡ false)
      (steps_end : (s : S) (rest : Lexemes) → begins ending rest ≡ false → begins (goes s) rest ≡ false)
      (done : (s : S) → (ls : Lexemes) × (xs : List X) × Run s ls xs × AreTokens ls) where
    -- what a part takes is not empty
    shorter : (s : S) (x : X) (taken ls mid : Lexemes) → ls ≡ taken ++ mid → Step s taken x → length mid < length ls
    shorter s x [] ls mid e h = absurd ((laws s).empty x h)
    shorter s x (l ∷ taken) ls mid e h = let sizes = ap length e in omega (arith, length-append taken mid)

    stop_found : (s : S) (ls rest : Lexemes) (xs : List X) (b : Bool) → may_end s ≡ b → begins (starts s) ls ≡ false → cond {A = Reading (List X)} b (Ok ([], ls)) (Err ls) ≡ Ok (xs, rest) → RunTook s ls xs rest
    stop_found s ls rest xs true end none e =
        let is = ok_parts [] xs ls rest e in
        record {
          taken = [];
          parts = is.1;
          spelled = subst (λ (ys : List X). Run s [] ys) is.0 (refl, end);
          kept = λ other m enough n.
              let bare : begins (starts s) other ≡ false = sym (begins_next (starts s) ls other (ap next is.1 ∙ n)) ∙ none in
              at_stop m s other bare ∙ rw end (ap (λ (ys : List X). ok ys other) is.0);
        } where
          ok : List X → Lexemes → Reading (List X)
          ok ys other = Ok (ys, other)
    stop_found s ls rest xs false end none e = absurd cc

    stop_stopped : (s : S) (ls left : Lexemes) (b : Bool) → may_end s ≡ b → begins (starts s) ls ≡ false → cond {A = Reading (List X)} b (Ok ([], ls)) (Err ls) ≡ Err left → RunStopped s ls left
    stop_stopped s ls left true end none e = absurd cc
    stop_stopped s ls left false end none e =
        let same : ls ≡ left = cc in
        record {
          front = [];
          parts = same;
          kept = λ other m enough n.
              let bare : begins (starts s) other ≡ false = sym (begins_next (starts s) ls other (ap next same ∙ n)) ∙ none in
              at_stop m s other bare ∙ rw end refl;
          more = (done s).0;
          real = (done s).3;
          values = (done s).1;
          spelled = (done s).2;
        }

    zero_begins : (set : List Terminal) (ls : Lexemes) → length ls ≤ 0 → begins set ls ≡ false
    zero_begins set [] h = refl
    zero_begins set (l ∷ ls) h = absurd (omega arith)

    begun_again : (s : S) (taken rest other : Lexemes) (ls : Lexemes) → ls ≡ taken ++ rest → next rest ≡ next other → begins (starts s) ls ≡ true → begins (starts s) (taken ++ other) ≡ true
    begun_again s taken rest other ls parts n begun = begins_next (starts s) (taken ++ other) (taken ++ rest) (sym (next_append taken rest other n)) ∙ ap (begins (starts s)) (sym parts) ∙ begun

    step_found : (n : ℕ) → ((s : S) (ls rest : Lexemes) (xs : List X) → length ls ≤ n → at n s ls ≡ Ok (xs, rest) → RunTook s ls xs rest) → (s : S) (ls rest : Lexemes) (xs : List X) → length ls ≤ suc n → (b : Bool) → begins (starts s) ls ≡ b → at (suc n) s ls ≡ Ok (xs, rest) → RunTook s ls xs rest
    step_found n ih s ls rest xs enough false begun e = stop_found s ls rest xs (may_end s) refl begun (sym (at_stop (suc n) s ls begun) ∙ e)
    step_found n ih s ls rest xs enough true begun e =
        let opened : (r s ls >>= (λ x. at n (after s x.0) x.1 >>= more x.0)) ≡ Ok (xs, rest) = rw begun at e in
        then_ok (RunTook s ls xs rest) (r s ls) (λ x. at n (after s x.0) x.1 >>= more x.0) (xs, rest) opened (λ x mid d f.
        then_ok (RunTook s ls xs rest) (at n (after s x) mid) (more x) (xs, rest) f (λ ys end k m.
        let t = (laws s).found ls mid x begun d in
        let less = shorter s x t.taken ls mid t.parts t.spelled in
        let u = ih (after s x) mid end ys (omega arith) k in
        let is = ok_parts (x ∷ ys) xs end rest m in
        record {
          taken = t.taken ++ u.taken;
          parts = t.parts ∙ ap (λ (z : Lexemes). t.taken ++ z) u.parts ∙ sym (append_assoc t.taken u.taken end) ∙ ap (λ (z : Lexemes). (t.taken ++ u.taken) ++ z) is.1;
          spelled = subst (λ (zs : List X). Run s (t.taken ++ u.taken) zs) is.0 (t.taken, u.taken, refl, t.spelled, u.spelled);
          kept = λ other p long n2.
              let tails : next end ≡ next other = ap next is.1 ∙ n2 in
              let middle : next mid ≡ next (u.taken ++ other) = ap next u.parts ∙ next_append u.taken end other tails in
              let grouped = append_assoc t.taken u.taken other in
              let all : Lexemes = t.taken ++ (u.taken ++ other) in
              let fits : length all ≤ p = subst (λ (z : Lexemes). length z ≤ p) grouped long in
              let stepped = at_step p s all (u.taken ++ other) x (Ok (ys, other)) (begun_again s t.taken mid (u.taken ++ other) ls t.parts middle begun) (t.kept (u.taken ++ other) middle)
              (shorter s x t.taken all (u.taken ++ other) refl t.spelled) fits (λ q h. u.kept other q h tails) in
              ap (at p s) grouped ∙ stepped ∙ ap (λ (zs : List X). ok zs other) is.0;
        })) where
          ok : List X → Lexemes → Reading (List X)
          ok ys other = Ok (ys, other)

    pub run_found : (n : ℕ) (s : S) (ls rest : Lexemes) (xs : List X) → length ls ≤ n → at n s ls ≡ Ok (xs, rest) → RunTook s ls xs rest
    run_found zero s ls rest xs enough e = stop_found s ls rest xs (may_end s) refl (zero_begins (starts s) ls enough) e
    run_found (suc n) s ls rest xs enough e = step_found n (run_found n) s ls rest xs enough (begins (starts s) ls) refl e

    step_stopped : (n : ℕ) → ((s : S) (ls left : Lexemes) → length ls ≤ n → at n s ls ≡ Err left → RunStopped s ls left) → (s : S) (ls left : Lexemes) → length ls ≤ suc n → (b : Bool) → begins (starts s) ls ≡ b → at (suc n) s ls ≡ Err left → RunStopped s ls left
    step_stopped n ih s ls left enough false begun e = stop_stopped s ls left (may_end s) refl begun (sym (at_stop (suc n) s ls begun) ∙ e)
    step_stopped n ih s ls left enough true begun e =
        let opened : (r s ls >>= (λ x. at n (after s x.0) x.1 >>= more x.0)) ≡ Err left = rw begun at e in
        then_err (RunStopped s ls left) (r s ls) (λ x. at n (after s x.0) x.1 >>= more x.0) left opened
        (λ d.
        let t = (laws s).stopped ls left begun d in
        let rest = done (after s t.value) in
        record {
          front = t.front;
          parts = t.parts;
          kept = λ other p long n2. at_err p s (t.front ++ other) other (begun_again s t.front left other ls t.parts n2 begun) (t.kept other n2) long;
          more = t.more ++ rest.0;
          real = are_append t.more rest.0 t.real rest.3;
          values = t.value ∷ rest.1;
          spelled = (t.front ++ t.more, rest.0, sym (append_assoc t.front t.more rest.0), t.spelled, rest.2);
        })
        (λ x mid d f. then_err (RunStopped s ls left) (at n (after s x) mid) (more x) left f
        (λ k.
        let t = (laws s).found ls mid x begun d in
        let less = shorter s x t.taken ls mid t.parts t.spelled in
        let u = ih (after s x) mid left (omega arith) k in
        record {
          front = t.taken ++ u.front;
          parts = t.parts ∙ ap (λ (z : Lexemes). t.taken ++ z) u.parts ∙ sym (append_assoc t.taken u.front left);
          kept = λ other p long n2.
              let middle : next mid ≡ next (u.front ++ other) = ap next u.parts ∙ next_append u.front left other n2 in
              let grouped = append_assoc t.taken u.front other in
              let all : Lexemes = t.taken ++ (u.front ++ other) in
              let fits : length all ≤ p = subst (λ (z : Lexemes). length z ≤ p) grouped long in
              let stepped = at_step p s all (u.front ++ other) x (Err other) (begun_again s t.taken mid (u.front ++ other) ls t.parts middle begun) (t.kept (u.front ++ other) middle)
              (shorter s x t.taken all (u.front ++ other) refl t.spelled) fits (λ q h. u.kept other q h n2) in
              ap (at p s) grouped ∙ stepped;
          more = u.more;
          real = u.real;
          values = x ∷ u.values;
          spelled = (t.taken, u.front ++ u.more, append_assoc t.taken u.front u.more, t.spelled, u.spelled);
        })
        (λ y end k m. absurd cc))

    pub run_stopped : (n : ℕ) (s : S) (ls left : Lexemes) → length ls ≤ n → at n s ls ≡ Err left → RunStopped s ls left
    run_stopped zero s ls left enough e = stop_stopped s ls left (may_end s) refl (zero_begins (starts s) ls enough) e
    run_stopped (suc n) s ls left enough e = step_stopped n (run_stopped n) s ls left enough (begins (starts s) ls) refl e

    part_first : (s : S) (l : Lexeme) (ls before behind : Lexemes) (x : X) → l ∷ ls ≡ before ++ behind → Step s before x → has (starts s) (terminal_of l) ≡ true
    part_first s l ls [] behind x e h = absurd ((laws s).empty x h)
    part_first s l ls (b ∷ before) behind x e h = let same : l ≡ b = cc in subst (λ (z : Lexeme). has (starts s) (terminal_of z) ≡ true) (sym same) ((laws s).first b before x h)

    run_first : (s : S) (l : Lexeme) (ls : Lexemes) (xs : List X) → Run s (l ∷ ls) xs → has (starts s) (terminal_of l) ≡ true
    run_first s l ls [] h = let e = h.0 in absurd cc
    run_first s l ls (x ∷ xs) h = part_first s l ls h.0 h.1 x h.2 h.3

    run_empty : (s : S) (xs : List X) → Run s [] xs → may_end s ≡ true
    run_empty s [] h = h.1
    run_empty s (x ∷ xs) h = bare h.0 h.1 h.2 h.3 where
      bare : (before behind : Lexemes) → [] ≡ before ++ behind → Step s before x → may_end s ≡ true
      bare [] behind e k = absurd ((laws s).empty x k)
      bare (b ∷ before) behind e k = absurd cc

    -- what a part is not mistaken to go on with
    clear_of : (s : S) (x : X) (xs : List X) (behind rest : Lexemes) → Run (after s x) behind xs → begins ending rest ≡ false → begins (goes s) (behind ++ rest) ≡ false
    clear_of s x xs [] rest h none = steps_end s rest none
    clear_of s x xs (l ∷ behind) rest h none = apart_of (has (goes s) (terminal_of l)) refl where
      apart_of : (b : Bool) → has (goes s) (terminal_of l) ≡ b → has (goes s) (terminal_of l) ≡ false
      apart_of true e = let one = run_first (after s x) l behind xs h in let two = clear s x l e in absurd cc
      apart_of false e = e

    pub run_only : (xs : List X) (s : S) (taken rest : Lexemes) (m : ℕ) → Run s taken xs → begins ending rest ≡ false → length (taken ++ rest) ≤ m → at m s (taken ++ rest) ≡ Ok (xs, rest)
    run_only [] s taken rest m h none enough =
        let bare = ends s h.1 rest none in
        let end = h.1 in
        ap (λ (t : Lexemes). at m s (t ++ rest)) h.0 ∙ at_stop m s rest bare ∙ rw end refl
    run_only (x ∷ xs) s taken rest m h none enough =
        let grouped : taken ++ rest ≡ h.0 ++ (h.1 ++ rest) = ap (λ (t : Lexemes). t ++ rest) h.2 ∙ append_assoc h.0 h.1 rest in
        let all : Lexemes = h.0 ++ (h.1 ++ rest) in
        let fits : length all ≤ m = subst (λ (z : Lexemes). length z ≤ m) grouped enough in
        let read_one = (laws s).only h.0 (h.1 ++ rest) x h.3 (clear_of s x xs h.1 rest h.4 none) in
        ap (at m s) grouped ∙ at_step m s all (h.1 ++ rest) x (Ok (xs, rest)) (begun all h.0 (h.1 ++ rest) refl h.3) read_one (shorter s x h.0 all (h.1 ++ rest) refl h.3) fits
        (λ k long. run_only xs (after s x) h.1 rest k h.4 none long) where
          begun : (all before behind : Lexemes) → all ≡ before ++ behind → Step s before x → begins (starts s) all ≡ true
          begun all [] behind e k = absurd ((laws s).empty x k)
          begun all (b ∷ before) behind e k = ap (begins (starts s)) e ∙ (laws s).first b before x k

    pub lawful_runs : (s : S) → Lawful (Run s) (whole s) (may_end s) (starts s) ending
    lawful_runs s = record {
      empty = λ xs h. run_empty s xs h;
      first = λ l ls xs h. run_first s l ls xs h;
      some = (done s).0;
      real = (done s).3;
      value = (done s).1;
      spelled = (done s).2;
      found = λ ls rest xs e. let t = run_found (length ls) s ls rest xs (omega arith) e in
          record { taken = t.taken; parts = t.parts; spelled = t.spelled; kept = λ other n. t.kept other (length (t.taken ++ other)) (omega arith) n };
      stopped = λ ls left e. let t = run_stopped (length ls) s ls left (omega arith) e in
          record { front = t.front; parts = t.parts; kept = λ other n. t.kept other (length (t.front ++ other)) (omega arith) n; more = t.more; real = t.real; value = t.values; spelled = t.spelled };
      only = λ taken rest xs h none. run_only xs s taken rest (length (taken ++ rest)) h none (omega arith);
    }

    -- reading does not depend on how many steps are allowed
    stable : (s : S) (ls : Lexemes) (k : ℕ) → length ls ≤ k → at k s ls ≡ whole s ls
    stable s ls k enough = by (whole s ls) refl where
      by : (result : Reading (List X)) → whole s ls ≡ result → at k s ls ≡ whole s ls
      by (Ok x) e = let t = run_found (length ls) s ls x.1 x.0 (omega arith) e in ap (at k s) t.parts ∙ t.kept x.1 k (subst (λ (z : Lexemes). length z ≤ k) t.parts enough) refl ∙ sym e
      by (Err left) e = let t = run_stopped (length ls) s ls left (omega arith) e in ap (at k s) t.parts ∙ t.kept left k (subst (λ (z : Lexemes). length z ≤ k) t.parts enough) refl ∙ sym e

    pub whole_more : (s : S) (ls mid : Lexemes) (x : X) → begins (starts s) ls ≡ true → r s ls ≡ Ok (x, mid) → whole s ls ≡ (whole (after s x) mid >>= more x)
    whole_more s ls mid x begun e =
        let t = (laws s).found ls mid x begun e in
        at_step (length ls) s ls mid x (whole (after s x) mid) begun e (shorter s x t.taken ls mid t.parts t.spelled) (omega arith) (λ k h. stable (after s x) mid k h)

    pub whole_err : (s : S) (ls left : Lexemes) → begins (starts s) ls ≡ true → r s ls ≡ Err left → whole s ls ≡ Err left
    whole_err s ls left begun e = at_err (length ls) s ls left begun e (omega arith)

    pub whole_end : (s : S) (ls : Lexemes) → begins (starts s) ls ≡ false → whole s ls ≡ stop s ls
    whole_end s ls none = at_stop (length ls) s ls none

    -- a part that was read leaves fewer tokens
    pub whole_less : (s : S) (ls mid : Lexemes) (x : X) → begins (starts s) ls ≡ true → r s ls ≡ Ok (x, mid) → length mid < length ls
    whole_less s ls mid x begun e = let t = (laws s).found ls mid x begun e in shorter s x t.taken ls mid t.parts t.spelled
