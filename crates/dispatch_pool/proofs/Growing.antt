-- Passes that grow: by a turn, by none, by a split and by a join.
use Rattle.std.proofs.Common.{◌≡◌, ◌≢◌, ℕ, ◌≤◌, ◌==◌, if◌then◌else◌, Bool, true, false, eq-eqb, ne_eqb, List, [], ◌∷◌, ◌++◌, refl, sym, ap, ◌∙◌, subst, arith, append_assoc, append-nil}
use Rattle.turnstile.specs.declared.history.Entry.{Entry}
use Rattle.turnstile.specs.declared.turned.Turned.{Ghosts}
use Rattle.turnstile.specs.declared.ticket_lock.Turnstile.{Turnstile}
use Rattle.turnstile.specs.declared.passes.Pass.{Pass}
use Rattle.turnstile.specs.History.{times, entry, tickets, LeadsTo, IsLegal}
use Rattle.turnstile.specs.Passes.{IsPassOf, opening, seen, own, SameShare, DidTurn, DidNotTurn}
use Rattle.turnstile.proofs.Histories.{once}
use Rattle.dispatch_pool.specs.Rows.{HasInOrder, Turn, at_place, Fits, PassGrew}

pick_append : {A : Type 0} (b : Bool) (e : A) (xs ys : List A) → (if b then e ∷ (xs ++ ys) else (xs ++ ys)) ≡ (if b then e ∷ xs else xs) ++ ys
pick_append true e xs ys = refl
pick_append false e xs ys = refl

module _ {C R : Type 0} where
  has_after : (all more es : List (Entry C R)) → HasInOrder all es → HasInOrder (all ++ more) es
  has_after all more [] h = tt
  has_after all more (e ∷ es) h =
      (h.0, h.1 ++ more, ap (λ (z : List (Entry C R)). z ++ more) h.2 ∙ append_assoc h.0 (e ∷ h.1) more, has_after h.1 more es h.3)

  has_before : (front all es : List (Entry C R)) → HasInOrder all es → HasInOrder (front ++ all) es
  has_before front all [] h = tt
  has_before front all (e ∷ es) h =
      (front ++ h.0, h.1, ap (λ (z : List (Entry C R)). front ++ z) h.2 ∙ sym (append_assoc front h.0 (e ∷ h.1)), h.3)

  has_both : (a b xs ys : List (Entry C R)) → HasInOrder a xs → HasInOrder b ys → HasInOrder (a ++ b) (xs ++ ys)
  has_both a b [] ys h k = has_before a b ys k
  has_both a b (x ∷ xs) ys h k =
      (h.0, h.1 ++ b, ap (λ (z : List (Entry C R)). z ++ b) h.2 ∙ append_assoc h.0 (x ∷ h.1) b, has_both h.1 b xs ys h.3 k)

  tickets_append : (xs ys : List (Entry C R)) → tickets (xs ++ ys) ≡ tickets xs ++ tickets ys
  tickets_append [] ys = refl
  tickets_append (x ∷ xs) ys = ap (λ (z : List ℕ). x.ticket ∷ z) (tickets_append xs ys)

  pub at_append : (i : ℕ) (xs ys : List (Turn C R)) → at_place i (xs ++ ys) ≡ at_place i xs ++ at_place i ys
  at_append i [] ys = refl
  at_append i (x ∷ xs) ys = ap (λ (z : List (Entry C R)). if (x.place == i) then x.entry ∷ z else z) (at_append i xs ys) ∙ pick_append (x.place == i) x.entry (at_place i xs) (at_place i ys)

  pub at_here : (i : ℕ) (e : Entry C R) → at_place i (record { place = i; entry = e } ∷ []) ≡ e ∷ []
  at_here i e = ap (λ (b : Bool). if b then e ∷ [] else []) (eq-eqb i i refl)

  pub at_else : (i j : ℕ) (e : Entry C R) → j ≢ i → at_place j (record { place = i; entry = e } ∷ []) ≡ []
  at_else i j e ne = ap (λ (b : Bool). if b then e ∷ [] else []) (ne_eqb i j (λ h. ne (sym h)))

module _ {X C R : Type 0} {g : Ghosts X C R} where
  pub fits_by : (t : Turnstile X C R) (p : Pass X C R g) → IsPassOf t p → IsLegal g.turns (opening t) (seen p) → Fits t p
  fits_by t p of legal = record {
    of = of;
    legal = legal;
    own_seen = p.own_seen;
    once = λ n. let a : times n (own p) ≤ times n (tickets (seen p)) = p.own_seen n in let b = once 0 legal.1.0 n (seen p) legal.1.1 in omega arith;
  }

  pub grew_same : (p q : Pass X C R g) → seen q ≡ seen p → own q ≡ own p → SameShare p q → PassGrew p q []
  grew_same p q s o h = record { more = []; seen_is = s ∙ sym (append-nil (seen p)); has_calls = tt; own_is = o ∙ sym (append-nil (own p)); share = h }

  pub grew_still : (p : Pass X C R g) → PassGrew p p []
  grew_still p = grew_same p p refl refl (λ k. refl)

  pub grew_then : (p q r : Pass X C R g) (a b : List (Entry C R)) → PassGrew p q a → PassGrew q r b → PassGrew p r (a ++ b)
  grew_then p q r a b x y = record {
    more = x.more ++ y.more;
    seen_is = y.seen_is ∙ (ap (λ (z : List (Entry C R)). z ++ y.more) x.seen_is ∙ append_assoc (seen p) x.more y.more);
    has_calls = has_both x.more y.more a b x.has_calls y.has_calls;
    own_is = y.own_is ∙ (ap (λ (z : List ℕ). z ++ tickets b) x.own_is ∙ (append_assoc (own p) (tickets a) (tickets b) ∙ ap (λ (z : List ℕ). own p ++ z) (sym (tickets_append a b))));
    share = λ k. y.share k ∙ x.share k;
  }

  pub grew_turn : (t : Turnstile X C R) (p q : Pass X C R g) (call : C) (reply : R) → (d : DidTurn t p q call reply) → PassGrew p q (entry d.0 call reply ∷ [])
  grew_turn t p q call reply d = let e : Entry C R = entry d.0 call reply in record {
    more = d.2.0 ++ e ∷ [];
    seen_is = d.3 ∙ (ap (λ (z : List (Entry C R)). z ++ e ∷ []) d.2.1 ∙ append_assoc (seen p) d.2.0 (e ∷ []));
    has_calls = (d.2.0, [], refl, tt);
    own_is = d.5;
    share = d.6;
  }

  pub grew_none : (t : Turnstile X C R) (p q : Pass X C R g) → DidNotTurn t p q → PassGrew p q []
  grew_none t p q d = record { more = d.0.0; seen_is = d.0.1; has_calls = tt; own_is = d.2 ∙ sym (append-nil (own p)); share = d.3 }

  pub fits_turn : (t : Turnstile X C R) (p q : Pass X C R g) (call : C) (reply : R) → IsPassOf t q → DidTurn t p q call reply → Fits t q
  fits_turn t p q call reply of d = fits_by t q of d.4

  pub fits_none : (t : Turnstile X C R) (p q : Pass X C R g) → IsPassOf t q → DidNotTurn t p q → Fits t q
  fits_none t p q of d = fits_by t q of d.1

  pub fits_same : (t : Turnstile X C R) (p q : Pass X C R g) → Fits t p → IsPassOf t q → seen q ≡ seen p → Fits t q
  fits_same t p q f of s = fits_by t q of (subst (λ (z : List (Entry C R)). IsLegal g.turns (opening t) z) (sym s) f.legal)

  pub fits_first : (t : Turnstile X C R) (p : Pass X C R g) → IsPassOf t p → seen p ≡ [] → Fits t p
  fits_first t p of s = fits_by t p of (subst (λ (z : List (Entry C R)). IsLegal g.turns (opening t) z) (sym s) ((opening t, refl), (0, omega arith)))

-- the last entry of a history is a turn of the object
pub last_turn : {X C R : Type 0} (turns : X → C → R → X → Type 0) (x y : X) (es : List (Entry C R)) (e : Entry C R) → LeadsTo turns x (es ++ e ∷ []) y → (z : X) × (w : X) × turns z e.call e.reply w
last_turn turns x y [] e h = (x, h.0, h.1)
last_turn turns x y (d ∷ es) e h = last_turn turns h.0 y es e h.2
