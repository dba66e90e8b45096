-- A call that asks for a reply which does not stand, and no close does: a run of each.
use Rattle.std.proofs.Common.{◌≡◌, ℕ, zero, suc, ◌+◌, inl, inr, List, [], ◌∷◌, ◌++◌, length, None, Some, refl, ap, sym, ◌∙◌, subst, arith, Bool, true, false, append_assoc, append-nil}
use Rattle.std.specs.Prelude.{slice_get}
use Rattle.call_world.specs.World.{World, Seat, Sent, Validate, Answer, Close}
use Rattle.call_world.proofs.Lists.{get_last, get_within, get_cases}
use Rattle.call_world.specs.Asked.{Asked, Wanted, wanted, told, twoways_of, shown}
use Rattle.call_world.specs.Fits.{Fits}
use Rattle.call_world.specs.CaptureLaws.{EitherOpen}
use Rattle.call_world.proofs.Counted.{answered_lem, closed_lem}
use Rattle.call_world.proofs.Showing.{get_some, show_lem}

-- more answers are more messages behind the same
told_more : {R : Type 0} (seat : ℕ) (ts : List Bool) (rs more : List R) → (l : List (Sent R)) × (told seat ts (rs ++ more) ≡ told seat ts rs ++ l)
told_more seat [] rs more = ([], refl)
told_more seat (true ∷ ts) [] more = (told seat (true ∷ ts) more, refl)
told_more seat (true ∷ ts) (r ∷ rs) more = let t = told_more (suc seat) ts rs more in (t.0, ap (λ l. Answer seat r ∷ l) t.1)
told_more seat (false ∷ ts) rs more = told_more (suc seat) ts rs more

-- a call that asks for a reply has it after enough answers
told_reaches : {R : Type 0} (other : R) (seat : ℕ) (ts : List Bool) (rs : List R) (n : ℕ) → slice_get ts n ≡ Some true
    → ((m : ℕ) (r : R) → ¬ (slice_get (told seat ts rs) m ≡ Some (Answer (seat + n) r)))
    → (more : List R) × (m : ℕ) × (slice_get (told seat ts (rs ++ more)) m ≡ Some (Answer (seat + n) other))
told_reaches other seat [] rs n h none = absurd (let z : None ≡ Some true = h in cc)
told_reaches {R} other seat (true ∷ ts) [] zero h none =
    (other ∷ [], 0, ap (λ (n : ℕ). Some (Answer n other)) (let e : seat ≡ seat + 0 = omega arith in e))
told_reaches {R} other seat (true ∷ ts) [] (suc n) h none =
    let e : suc seat + n ≡ seat + suc n = omega arith in
    let t = told_reaches other (suc seat) ts [] n h (λ m r q. nothing (suc seat) ts m (Answer (suc seat + n) r) q) in
    (other ∷ t.0, suc t.1, t.2 ∙ ap (λ (m : ℕ). Some (Answer m other)) e)
  where
    told_none : (seat : ℕ) (ts : List Bool) → told {R = R} seat ts [] ≡ []
    told_none seat [] = refl
    told_none seat (true ∷ ts) = refl
    told_none seat (false ∷ ts) = told_none (suc seat) ts

    nothing : (seat : ℕ) (ts : List Bool) (m : ℕ) (x : Sent R) → ¬ (slice_get (told seat ts []) m ≡ Some x)
    nothing seat ts m x q = let z : None ≡ Some x = ap (λ (l : List (Sent R)). slice_get l m) (sym (told_none seat ts)) ∙ q in cc
told_reaches {R} other seat (true ∷ ts) (r ∷ rs) zero h none =
    absurd (none 0 r (ap (λ (n : ℕ). Some (Answer n r)) (let e : seat ≡ seat + 0 = omega arith in e)))
told_reaches {R} other seat (true ∷ ts) (r ∷ rs) (suc n) h none =
    let e : suc seat + n ≡ seat + suc n = omega arith in
    let t = told_reaches other (suc seat) ts rs n h (λ m q k. none (suc m) q (k ∙ ap (λ (i : ℕ). Some (Answer i q)) e)) in
    (t.0, suc t.1, t.2 ∙ ap (λ (m : ℕ). Some (Answer m other)) e)
told_reaches other seat (false ∷ ts) rs zero h none = absurd (let z : Some false ≡ Some true = h in cc)
told_reaches {R} other seat (false ∷ ts) rs (suc n) h none =
    let e : suc seat + n ≡ seat + suc n = omega arith in
    let t = told_reaches other (suc seat) ts rs n h (λ m q k. none m q (k ∙ ap (λ (i : ℕ). Some (Answer i q)) e)) in
    (t.0, t.1, t.2 ∙ ap (λ (m : ℕ). Some (Answer m other)) e)

pub twoway_at : {C : Type 0} (xs : List (Wanted C)) (n : ℕ) (x : Wanted C) → slice_get xs n ≡ Some x → slice_get (twoways_of xs) n ≡ Some x.twoway
twoway_at [] n x h = absurd (let z : None ≡ Some x = h in cc)
twoway_at {C} (y ∷ xs) zero x h = let e : y ≡ x = cc in ap (λ (z : Wanted C). Some z.twoway) e
twoway_at (y ∷ xs) (suc n) x h = twoway_at xs n x h

-- what shows more shows less
pub fits_front : {C R : Type 0} (repeatable : C → Bool) (client : List (Asked C)) (sent l : List (Sent R)) (w : World C R (Unit {0})) → Fits repeatable client (sent ++ l) w → Fits repeatable client sent w
fits_front repeatable client sent l w f = record {
  asked = f.asked;
  handed = f.handed;
  more = l ++ f.more;
  answered = f.answered ∙ append_assoc sent l f.more;
}

module _ {C R : Type 0} (status : R → ℕ) (repeatable : C → Bool) where
  seat_there : (client : List (Asked C)) (sent : List (Sent R)) (w : World C R (Unit {0})) (seat : ℕ) (x : Wanted C) → Fits repeatable client sent w
      → slice_get (wanted 0 client) seat ≡ Some x → (s : Seat) × (slice_get (w.connections 0).asked seat ≡ Some s)
  seat_there client sent w seat x f h =
      let l = get_within (wanted 0 client) seat x h in
      let n = f.asked.number in
      get_some (w.connections 0).asked seat (omega arith)

  pub either_lem : EitherOpen status repeatable
  either_lem other good client rs seat x h two none zero l =
      let base = Validate ∷ told 0 (twoways_of (wanted 0 client)) rs in
      let open_ : shown client rs false ≡ base = ap (λ (ms : List (Sent R)). Validate ∷ ms) (append-nil (told 0 (twoways_of (wanted 0 client)) rs)) in
      let r = show_lem status repeatable other good client rs true in
      let s = seat_there client (shown client rs true) r.0 seat x r.2 h in
      let missing : (n : ℕ) (q : R) → ¬ (slice_get (shown client rs true) n ≡ Some (Answer seat q)) =
      λ n q k. elim (get_cases base Close n (Answer seat q) k) [
        | inl old ↦ none n q (ap (λ (ms : List (Sent R)). slice_get ms n) open_ ∙ old)
        | inr new ↦ let z = new.1 in cc
      ] in
      let zero_count = closed_lem status repeatable client (shown client rs true) seat (length base) x h two (get_last base Close) missing r.0 s.0 r.1 r.2 s.1 in (
        r.0,
        s.0,
        r.1,
        fits_front repeatable client (shown client rs false) (Close ∷ []) r.0
            (subst (λ (ms : List (Sent R)). Fits repeatable client ms r.0) (ap (λ (ms : List (Sent R)). ms ++ Close ∷ []) (sym open_)) r.2),
        s.1,
        zero_count,
      )
  either_lem other good client rs seat x h two none (suc zero) l =
      let ts = twoways_of (wanted 0 client) in
      let open_ : (qs : List R) → shown client qs false ≡ Validate ∷ told 0 ts qs = λ qs. ap (λ (ms : List (Sent R)). Validate ∷ ms) (append-nil (told 0 ts qs)) in
      let zero_is : 0 + seat ≡ seat = omega arith in
      let t = told_reaches other 0 ts rs seat (twoway_at (wanted 0 client) seat x h ∙ ap (λ (b : Bool). Some b) two)
      (λ m q k. none (suc m) q (ap (λ (ms : List (Sent R)). slice_get ms (suc m)) (open_ rs) ∙ (k ∙ ap (λ (i : ℕ). Some (Answer i q)) zero_is))) in
      let qs = rs ++ t.0 in
      let m = told_more 0 ts rs t.0 in
      let r = show_lem status repeatable other good client qs false in
      let s = seat_there client (shown client qs false) r.0 seat x r.2 h in
      let stands : slice_get (shown client qs false) (suc t.1) ≡ Some (Answer seat other) =
      ap (λ (ms : List (Sent R)). slice_get ms (suc t.1)) (open_ qs) ∙ (t.2 ∙ ap (λ (i : ℕ). Some (Answer i other)) zero_is) in
      let one = answered_lem status repeatable client (shown client qs false) seat (suc t.1) other stands good r.0 s.0 r.1 r.2 s.1 in
      let split : shown client qs false ≡ shown client rs false ++ m.0 =
      open_ qs ∙ (ap (λ (ms : List (Sent R)). Validate ∷ ms) m.1 ∙ ap (λ (ms : List (Sent R)). ms ++ m.0) (sym (open_ rs))) in (
        r.0,
        s.0,
        r.1,
        fits_front repeatable client (shown client rs false) m.0 r.0 (subst (λ (ms : List (Sent R)). Fits repeatable client ms r.0) split r.2),
        s.1,
        one,
      )
  either_lem other good client rs seat x h two none (suc (suc n)) l = absurd (omega arith)
