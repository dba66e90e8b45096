-- How what is met spreads: nothing, one node, and one spreading behind another.
use Rattle.std.proofs.Common.{◌≡◌, ◌⊎◌, Bool, true, false, List, [], ◌∷◌, ◌++◌, length, Option, None, Some, Result, Ok, Err, Vec, refl, sym, ◌∙◌, ap, subst, inl, inr, arith}
use Rattle.std.specs.Prelude.{Contains, OnOk, unwrap_or, slice_get}
use Rattle.std.proofs.lemmas.List.{length-append}
use Rattle.std.proofs.lemmas.List.Elements.{Contains-push, Contains-push_cases, Contains-append_left}
use Rattle.std.specs.declared.alloc.Global.{Global}
use Rattle.slice_compat.specs.declared.marks.Marks.{Marks}
use Rattle.slice_compat.specs.declared.node.Node.{Node}
use Rattle.slice_compat.specs.declared.node.Node.TheVariants as nodes
use Rattle.slice_compat.specs.Marks.{table_of, place_in, is_met, is_done, unmet, Sets, Spreads}

pub either : {A B C : Type 0} → A ⊎ B → (A → C) → (B → C) → C
either (inl a) f g = f a
either (inr b) f g = g b

-- what holds where a call succeeds
pub on_ok : {A E P Q : Type 0} (r : Result A E) → (P → Q) → OnOk r P → OnOk r Q
on_ok (Ok x) go h = go h
on_ok (Err e) go h = tt

-- what is still to be gone through is no flag
pub flags_stay : (m : Marks) (waiting : Vec Node Global) (n : Node) → table_of (record m { pending = waiting }) n ≡ table_of m n
flags_stay m waiting (nodes.Seq at) = refl
flags_stay m waiting (nodes.Dict at) = refl
flags_stay m waiting (nodes.Struct at) = refl
flags_stay m waiting (nodes.Place at) = refl
flags_stay m waiting nodes.Anywhere = refl
flags_stay m waiting (nodes.Class at) = refl

set_there : (flag : Option Bool) → unwrap_or flag false ≡ true → unwrap_or flag true ≡ true
set_there None e = absurd cc
set_there (Some b) e = e

-- what is met is done
pub met_done : (m : Marks) (n : Node) → is_met m n ≡ true → is_done m n ≡ true
met_done m n e = set_there (slice_get (table_of m n) (place_in n)) e

-- ---- nothing more is met

pub nothing_met : (May : Node → Type 0) (m : Marks) → ((n : Node) → May n → is_done m n ≡ true) → Spreads May m m
nothing_met May m all = record {
  rows = refl;
  each = all;
  only = λ n e. inl e;
  fresh = λ n e. inl e;
  added = λ n h. inl h;
  waiting = λ n h. h;
  kept_done = λ n e. e;
  kept_met = λ n e. e;
  total = refl;
}

-- ---- one behind the other

pub both_met : (A B C : Node → Type 0) (x y z : Marks) → ((n : Node) → C n → A n ⊎ B n) → ((n : Node) → A n → C n) → ((n : Node) → B n → C n)
    → Spreads A x y → Spreads B y z → Spreads C x z
both_met A B C x y z parts of_a of_b p q = record {
  rows = q.rows ∙ p.rows;
  each = λ n h. either (parts n h) (λ a. q.kept_done n (p.each n a)) (λ b. q.each n b);
  only = λ n e. either (q.only n e) (λ m. either (p.only n m) (λ o. inl o) (λ a. inr (of_a n a))) (λ b. inr (of_b n b));
  fresh = λ n e. either (q.fresh n e) (λ d. either (p.fresh n d) (λ o. inl o) (λ w. inr (q.waiting n w))) (λ w. inr w);
  added = λ n h. either (q.added n h) (λ w. either (p.added n w) (λ o. inl o) (λ m. inr (q.kept_met n m))) (λ m. inr m);
  waiting = λ n h. q.waiting n (p.waiting n h);
  kept_done = λ n e. q.kept_done n (p.kept_done n e);
  kept_met = λ n e. q.kept_met n (p.kept_met n e);
  total = q.total ∙ p.total;
}

-- the same under another name
pub met_as : (A B : Node → Type 0) (x y : Marks) → ((n : Node) → A n → B n) → ((n : Node) → B n → A n) → Spreads A x y → Spreads B x y
met_as A B x y there back p = record {
  rows = p.rows;
  each = λ n h. p.each n (back n h);
  only = λ n e. either (p.only n e) (λ o. inl o) (λ a. inr (there n a));
  fresh = p.fresh;
  added = p.added;
  waiting = p.waiting;
  kept_done = p.kept_done;
  kept_met = p.kept_met;
  total = p.total;
}

-- ---- one node, which is put behind those that are still to be gone through

module _ (node : Node) (old mid new : Marks) (sets : Sets node old mid) (same : (n : Node) → table_of new n ≡ table_of mid n)
    (rows : length new.classes.items ≡ length mid.classes.items) (count : unmet new ≡ unmet mid) (put : new.pending.items ≡ mid.pending.items ++ node ∷ []) where
  done_as : (n : Node) → is_done new n ≡ is_done mid n
  done_as n = ap (λ (flags : List Bool). unwrap_or (slice_get flags (place_in n)) true) (same n)

  met_same : (n : Node) → is_met new n ≡ is_met mid n
  met_same n = ap (λ (flags : List Bool). unwrap_or (slice_get flags (place_in n)) false) (same n)

  here : is_met new node ≡ true
  here = met_same node ∙ sets.here

  waits : (n : Node) → n ≡ node → Contains new.pending.items n
  waits n is = subst (λ (k : Node). Contains new.pending.items k) (sym is) (subst (λ (ns : List Node). Contains ns node) (sym put) (Contains-push mid.pending.items node))

  was_waiting : (n : Node) → Contains new.pending.items n → Contains old.pending.items n ⊎ (is_met new n ≡ true)
  was_waiting n h = either (Contains-push_cases mid.pending.items node n (subst (λ (ns : List Node). Contains ns n) put h))
      (λ w. inl (subst (λ (ns : List Node). Contains ns n) sets.pending w))
      (λ is. inr (subst (λ (k : Node). is_met new k ≡ true) is here))

  pub one_met : Spreads (λ n. n ≡ node) old new
  one_met = record {
    rows = rows ∙ sets.rows;
    each = λ n is. subst (λ (k : Node). is_done new k ≡ true) (sym is) (met_done new node here);
    only = λ n e. sets.met n (sym (met_same n) ∙ e);
    fresh = λ n e. either (sets.done n (sym (done_as n) ∙ e)) (λ d. inl d) (λ is. inr (waits n is));
    added = was_waiting;
    waiting = λ n h. subst (λ (ns : List Node). Contains ns n) (sym put) (Contains-append_left mid.pending.items (node ∷ []) n (subst (λ (ns : List Node). Contains ns n) (sym sets.pending) h));
    kept_done = λ n e. done_as n ∙ sets.kept_done n e;
    kept_met = λ n e. met_same n ∙ sets.kept_met n e;
    total = omega (arith, count, sets.fewer, ap length put, length-append mid.pending.items (node ∷ []), ap length sets.pending);
  }

-- a flag is set, and then the node is put behind the others
pub met_put : (node : Node) (old mid : Marks) (waiting : Vec Node Global) → Sets node old mid → waiting.items ≡ mid.pending.items ++ node ∷ []
    → Spreads (λ n. n ≡ node) old (record mid { pending = waiting })
met_put node old mid waiting sets put = one_met node old mid (record mid { pending = waiting }) sets (flags_stay mid waiting) refl refl put
