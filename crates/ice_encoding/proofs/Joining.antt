-- Further ways of joining keep both laws.
use Rattle.std.proofs.Common.{ℕ, List, ◌++◌, refl, sym, subst}
use Rattle.ice_prims.specs.Rest.{Took}
use Rattle.ice_prims.proofs.Parts.{then_ok, Took-then, between, Took-fits}
use Rattle.ice_encoding.specs.Port.{Reader, Speller}
use Rattle.ice_encoding.proofs.Values.{Lawful}
use Rattle.ice_encoding.specs.Joining.{placed, by_itself, ByItself}

module _ {R S : Type 0} (seen : R → S) where
  pub placed_lawful : {A : Type 0} (read : ℕ → Reader R A) (Spells : Speller S A) → ((place : ℕ) → Lawful seen (read place) Spells) → Lawful seen (placed read) Spells
  placed_lawful read Spells one = record {
    found = λ s r x fits e. (one r.place).found s r x fits e;
    only = λ s to r after bytes v k h. (one r.place).only s to r after bytes v k h;
  }

  pub by_itself_lawful : {Q P A B : Type 0} (see : Q → P) (start : Q) (read : Reader Q A) (Spells : Speller P A) (next : A → Q → Reader R B) (Next : A → P → Speller S B) → Lawful see read Spells
      → ((x : A) (q : Q) → Lawful seen (next x q) (Next x (see q))) → Lawful seen (by_itself start read next) (ByItself (see start) Spells Next)
  by_itself_lawful {P = P} see start read Spells next Next one two = record {
    found = λ s r y fits e. then_ok (read start r) (λ x. next x.0 x.1 s x.2) y e λ x x_is last.
        let f = one.found start r x fits x_is in
        let g = (two x.0 x.1).found s x.2 y ((Took-fits r x.2 f.0 fits f.1).1) last in
        (f.0 ++ g.0, Took-then r x.2 y.2 f.0 g.0 f.1 g.1, (x.0, see x.1, f.0, g.0, refl, f.2, g.2));
    only = λ s to r after bytes v k h.
        let m = between r after h.2 h.3 (subst (λ (l : List ℕ). Took r l after) h.4 k) in
        let o = one.only start h.1 r m.0 h.2 h.0 m.1 h.5 in
        let p = (two h.0 o.0).only s to m.0 after h.3 v m.2 (subst (λ (q : P). Next h.0 q h.3 v (seen s) to) (sym o.1) h.6) in
        (p.0, p.1, rw o.2 p.2);
  }

  -- the same bytes, said otherwise
  pub alike : {A : Type 0} (read : Reader R A) (Spells Other : Speller S A) → ((bytes : List ℕ) (v : A) (from to : S) → Spells bytes v from to → Other bytes v from to)
      → ((bytes : List ℕ) (v : A) (from to : S) → Other bytes v from to → Spells bytes v from to) → Lawful seen read Spells → Lawful seen read Other
  alike read Spells Other there back one = record {
    found = λ s r x fits e. let f = one.found s r x fits e in (f.0, f.1, there f.0 x.0 (seen s) (seen x.1) f.2);
    only = λ s to r after bytes v k h. one.only s to r after bytes v k (back bytes v (seen s) to h);
  }
