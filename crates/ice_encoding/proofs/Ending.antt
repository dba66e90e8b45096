-- What is read to the end of a bound.
use Rattle.std.proofs.Common.{◌≡◌, ℕ, ◌+◌, Bool, true, false, List, [], ◌∷◌, ◌++◌, length, Result, Ok, refl, sym, ap, subst, ◌∙◌, arith, append-nil}
use Rattle.std.proofs.lemmas.List.{length-append}
use Rattle.ice_prims.specs.declared.fault.Fault.{Fault}
use Rattle.ice_prims.specs.declared.fault.Kind.{Kind}
use Rattle.ice_prims.specs.Rest.{Rest, whole, Took, IsBytes}
use Rattle.ice_prims.specs.Laws.{FoundPart, OnlyPart}
use Rattle.ice_prims.proofs.Parts.{then_ok, ok_is, Took-fits}
use Rattle.ice_encoding.specs.Bounds.{ended, filled}
use Rattle.ice_encoding.specs.Port.{Reader, Speller}
use Rattle.ice_encoding.specs.Spelling.{Made}
use Rattle.ice_encoding.specs.Reading.{made}
use Rattle.ice_encoding.proofs.Values.{Lawful}
use Rattle.ice_encoding.specs.Steps as steps
use Rattle.ice_encoding.specs.Steps.{followed, Followed, Where}
use Rattle.ice_encoding.specs.Joining.{placed}

abbrev pub ends : Rest → Rest
ends r = record { place = r.place + length r.bytes; bytes = [] }

pub took_all : (r : Rest) → Took r r.bytes (ends r)
took_all r = record { parts = sym (append-nil r.bytes); moved = refl }

pub ends_is : (r s : Rest) (bytes : List ℕ) → Took r bytes s → s.bytes ≡ [] → s ≡ ends r
ends_is r s bytes k none =
    let long : length r.bytes ≡ length bytes = ap length (k.parts ∙ ap (λ (l : List ℕ). bytes ++ l) none ∙ append-nil bytes) in
    let place : s.place ≡ r.place + length r.bytes = omega (arith, k.moved, long) in
    λ i. record { place = place i; bytes = none i }

pub ended_ok : {A C : Type 0} (bytes : List ℕ) (place : ℕ) (x y : A) → ended bytes place x ≡ Ok y → (bytes ≡ [] → x ≡ y → C) → C
ended_ok [] place x y e go = go refl (ok_is x y e)
ended_ok (byte ∷ bytes) place x y e go = absurd cc

-- ---- an input as a whole

module _ {A : Type 0} (read : Rest → Result (A × Rest) Fault) (Spells : List ℕ → A → Type 0) where
  pub left_found : FoundPart read Spells → (r : Rest) (v : A) → IsBytes r.bytes → filled read r ≡ Ok v → Spells r.bytes v
  left_found found r v fits e =
      then_ok (read r) (λ x. ended x.1.bytes x.1.place x.0) v e λ x x_is last.
      ended_ok x.1.bytes x.1.place x.0 v last λ none same.
      let f = found r x fits x_is in
      let all : f.0 ≡ r.bytes = sym (f.1.parts ∙ ap (λ (l : List ℕ). f.0 ++ l) none ∙ append-nil f.0) in
      subst (λ (l : List ℕ). Spells l v) all (subst (Spells f.0) same f.2)

  pub left_only : OnlyPart read Spells → (r : Rest) (v : A) → Spells r.bytes v → filled read r ≡ Ok v
  left_only only r v h = rw (only r (ends r) r.bytes v (took_all r) h) refl

  pub whole_found : FoundPart read Spells → (bytes : List ℕ) (v : A) → IsBytes bytes → filled read (whole bytes) ≡ Ok v → Spells bytes v
  whole_found found bytes = left_found found (whole bytes)

  pub whole_only : OnlyPart read Spells → (bytes : List ℕ) (v : A) → Spells bytes v → filled read (whole bytes) ≡ Ok v
  whole_only only bytes = left_only only (whole bytes)

-- ---- both laws, where nothing is left

-- What is read, with nothing left, is spelled by all bytes that there were; and what they spell is read.
pub record LawfulToEnd {R S A : Type 0} (seen : R → S) (read : Reader R A) (Spells : Speller S A) : Type 0 where
  pub found : (s : R) (r : Rest) (x : A × R × Rest) → IsBytes r.bytes → read s r ≡ Ok x → x.2.bytes ≡ [] → Spells r.bytes x.0 (seen s) (seen x.1)
  pub only : (s : R) (to : S) (r : Rest) (v : A) → Spells r.bytes v (seen s) to → (end : R) × (seen end ≡ to) × (read s r ≡ Ok (v, end, ends r))

module _ {R S : Type 0} (seen : R → S) where
  pub to_end : {A : Type 0} (read : Reader R A) (Spells : Speller S A) → Lawful seen read Spells → LawfulToEnd seen read Spells
  to_end read Spells one = record {
    found = λ s r x fits e none.
        let f = one.found s r x fits e in
        let all : f.0 ≡ r.bytes = sym (f.1.parts ∙ ap (λ (l : List ℕ). f.0 ++ l) none ∙ append-nil f.0) in
        subst (λ (l : List ℕ). Spells l x.0 (seen s) (seen x.1)) all f.2;
    only = λ s to r v h. one.only s to r (ends r) r.bytes v (took_all r) h;
  }

  pub followed_to_end : {A B : Type 0} (read : Reader R A) (Spells : Speller S A) (next : A → Reader R B) (Next : A → Speller S B) → Lawful seen read Spells → ((x : A) → LawfulToEnd seen (next x) (Next x))
      → LawfulToEnd seen (followed read next) (Followed Spells Next)
  followed_to_end read Spells next Next one two = record {
    found = λ s r y fits e none. then_ok (read s r) (λ x. next x.0 x.1 x.2) y e λ x x_is last.
        let f = one.found s r x fits x_is in
        let g = (two x.0).found x.1 x.2 y ((Took-fits r x.2 f.0 fits f.1).1) last none in
        (x.0, f.0, x.2.bytes, seen x.1, f.1.parts, f.2, g);
    only = λ s to r v h.
        let m : Rest = record { place = r.place + length h.1; bytes = h.2 } in
        let o = one.only s h.3 r m h.1 h.0 (record { parts = h.4; moved = refl }) h.5 in
        let p = (two h.0).only o.0 to m v (subst (λ (u : S). Next h.0 h.2 v u to) (sym o.1) h.6) in
        let place : r.place + length h.1 + length h.2 ≡ r.place + length r.bytes = omega (arith, ap length h.4, length-append h.1 h.2) in
        (p.0, p.1, rw o.2 (p.2 ∙ (λ i. Ok (v, p.0, record { place = place i; bytes = [] }))));
  }

  pub placed_to_end : {A : Type 0} (read : ℕ → Reader R A) (Spells : Speller S A) → ((place : ℕ) → LawfulToEnd seen (read place) Spells) → LawfulToEnd seen (placed read) Spells
  placed_to_end read Spells one = record {
    found = λ s r x fits e none. (one r.place).found s r x fits e none;
    only = λ s to r v h. (one r.place).only s to r v h;
  }

  pub tested_to_end : {A : Type 0} (test : Bool) (place : ℕ) (kind : Kind) (read : Reader R A) (Spells : Speller S A) → LawfulToEnd seen read Spells → LawfulToEnd seen (steps.tested test place kind read) (Where test Spells)
  tested_to_end true place kind read Spells one = record {
    found = λ s r x fits e none. (refl, one.found s r x fits e none);
    only = λ s to r v h. one.only s to r v h.1;
  }
  tested_to_end false place kind read Spells one = record {
    found = λ s r x fits e none. absurd cc;
    only = λ s to r v h. absurd cc;
  }

  pub made_to_end : {A B : Type 0} (make : A → B) (read : Reader R A) (Spells : Speller S A) → LawfulToEnd seen read Spells → LawfulToEnd seen (made make read) (Made make Spells)
  made_to_end {A} {B} make read Spells one = record {
    found = λ s r y fits e none. then_ok (read s r) (λ x. Ok (make x.0, x.1, x.2)) y e λ x x_is last.
        let same = ok_is (make x.0, x.1, x.2) y last in
        let empty : x.2.bytes ≡ [] = ap (λ (z : B × R × Rest). z.2.bytes) same ∙ none in
        subst (λ (z : B × R × Rest). Made make Spells r.bytes z.0 (seen s) (seen z.1)) same (x.0, refl, one.found s r x fits x_is empty);
    only = λ s to r v h. let o = one.only s to r h.0 h.2 in (o.0, o.1, rw (o.2, h.1) refl);
  }

  -- the same bytes, said otherwise
  pub alike_to_end : {A : Type 0} (read : Reader R A) (Spells Other : Speller S A) → ((bytes : List ℕ) (v : A) (from to : S) → Spells bytes v from to → Other bytes v from to)
      → ((bytes : List ℕ) (v : A) (from to : S) → Other bytes v from to → Spells bytes v from to) → LawfulToEnd seen read Spells → LawfulToEnd seen read Other
  alike_to_end read Spells Other there back one = record {
    found = λ s r x fits e none. there r.bytes x.0 (seen s) (seen x.1) (one.found s r x fits e none);
    only = λ s to r v h. one.only s to r v (back r.bytes v (seen s) to h);
  }
