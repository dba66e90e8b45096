-- Each way of joining keeps both laws.
use Rattle.std.proofs.Common.{ℕ, Bool, true, false, [], ◌++◌, refl, sym, subst}
use Rattle.ice_prims.specs.declared.fault.Kind.{Kind}
use Rattle.ice_prims.specs.Rest.{Took}
use Rattle.ice_prims.proofs.Parts.{then_ok, Took-none, Took-none-is, Took-then, between, Took-fits}
use Rattle.ice_encoding.specs.Port.{Reader, Speller}
use Rattle.ice_encoding.proofs.Values.{Lawful, lands}
use Rattle.ice_encoding.specs.Steps.{followed, Followed, given, Given, tested, Where}

module _ {R S : Type 0} (seen : R → S) where
  pub followed_lawful : {A B : Type 0} (read : Reader R A) (Spells : Speller S A) (next : A → Reader R B) (Next : A → Speller S B) → Lawful seen read Spells → ((x : A) → Lawful seen (next x) (Next x))
      → Lawful seen (followed read next) (Followed Spells Next)
  followed_lawful read Spells next Next one two = record {
    found = λ s r y fits e. then_ok (read s r) (λ x. next x.0 x.1 x.2) y e λ x x_is last.
        let f = one.found s r x fits x_is in
        let g = (two x.0).found x.1 x.2 y ((Took-fits r x.2 f.0 fits f.1).1) last in
        (f.0 ++ g.0, Took-then r x.2 y.2 f.0 g.0 f.1 g.1, (x.0, f.0, g.0, seen x.1, refl, f.2, g.2));
    only = λ s to r after bytes v k h.
        let m = between r after h.1 h.2 (subst (λ bytes. Took r bytes after) h.4 k) in
        let o = one.only s h.3 r m.0 h.1 h.0 m.1 h.5 in
        let p = (two h.0).only o.0 to m.0 after h.2 v m.2 (subst (λ (u : S). Next h.0 h.2 v u to) (sym o.1) h.6) in
        (p.0, p.1, rw o.2 p.2);
  }

  pub given_lawful : {A : Type 0} (x : A) → Lawful seen (given x) (Given x)
  given_lawful x = record {
    found = λ s r y fits e. lands seen (Given x) s r (x, s, r) y [] (Took-none r) (refl, refl, refl) e;
    only = λ s to r after bytes v k h. (s, sym h.2, rw (Took-none-is r after (subst (λ bytes. Took r bytes after) h.0 k), h.1) refl);
  }

  pub tested_lawful : {A : Type 0} (test : Bool) (place : ℕ) (kind : Kind) (read : Reader R A) (Spells : Speller S A) → Lawful seen read Spells → Lawful seen (tested test place kind read) (Where test Spells)
  tested_lawful true place kind read Spells one = record {
    found = λ s r x fits e. let f = one.found s r x fits e in (f.0, f.1, (refl, f.2));
    only = λ s to r after bytes v k h. one.only s to r after bytes v k h.1;
  }
  tested_lawful false place kind read Spells one = record {
    found = λ s r x fits e. absurd cc;
    only = λ s to r after bytes v k h. absurd cc;
  }
