-- Reading from a state answers a fault exactly where something has the defect, for each way of joining.
use Rattle.std.proofs.Common.{◌≡◌, ℕ, ◌+◌, List, length, Result, Ok, Err, refl, sym, ap, subst, ◌∙◌, inl, inr}
use Rattle.ice_prims.specs.declared.fault.Fault.{Fault}
use Rattle.ice_prims.specs.Rest.{Rest, ◌>>=◌, IsBytes}
use Rattle.ice_prims.proofs.Parts.{Took-fits}
use Rattle.ice_encoding.specs.Parts.{Part, IsLawful}
use Rattle.ice_encoding.specs.Port.{Reader, Speller}
use Rattle.ice_encoding.specs.Reading.{plain, made}
use Rattle.ice_encoding.proofs.Values.{Lawful}
use Rattle.ice_encoding.specs.Steps.{followed}
use Rattle.graph_laws.specs.Defects.{Defect, Then, Followed}
use Rattle.graph_laws.proofs.Breaking.{failed, same_err, no_err, then_err, Agrees}

-- a step that did not fail is gone over, and one that failed is the fault
pub goes : {A B : Type 0} (r : Result A Fault) (f : A → Result B Fault) (x : A) → r ≡ Ok x → (r >>= f) ≡ f x
goes r f x is = rw is refl

pub stops : {A B : Type 0} (r : Result A Fault) (f : A → Result B Fault) (e : Fault) → r ≡ failed e → (r >>= f) ≡ failed e
stops r f e is = rw is refl

-- Of states that were reached: a fault that is read is a defect, and each defect is read.
pub record Tells {R S A : Type 0} (seen : R → S) (Good : S → Type 0) (read : Reader R A) (Breaks : S → Defect) : Type 0 where
  pub broken : (s : R) (r : Rest) (e : Fault) → Good (seen s) → IsBytes r.bytes → read s r ≡ failed e → Breaks (seen s) r.place r.bytes e
  pub breaks : (s : R) (r : Rest) (e : Fault) → Breaks (seen s) r.place r.bytes e → read s r ≡ failed e

-- what is spelled leads from such a state to such a state
abbrev pub Keeps : {S A : Type 0} → (S → Type 0) → Speller S A → Type 0
Keeps {S} {A} Good Spells = (bytes : List ℕ) (x : A) (from to : S) → Spells bytes x from to → Good from → Good to

-- of something that changes no state
pub plain_err : {S A B C : Type 0} (r : Result (A × Rest) Fault) (s : S) (f : A × S × Rest → Result B Fault) (e : Fault) → ((r >>= λ x. Ok (x.0, s, x.1)) >>= f) ≡ failed e
    → (r ≡ failed e → C) → ((x : A × Rest) → r ≡ Ok x → f (x.0, s, x.1) ≡ failed e → C) → C
plain_err (Ok x) s f e h one two = two x refl h
plain_err (Err d) s f e h one two = one (ap failed (same_err d e h))

pub plain_is : {S A : Type 0} (read : Rest → Result (A × Rest) Fault) (s : S) (r : Rest) (x : A × Rest) → read r ≡ Ok x → plain read s r ≡ Ok (x.0, s, x.1)
plain_is read s r x is = rw is refl

module _ {R S : Type 0} (seen : R → S) (Good : S → Type 0) where
  pub plain_tells : {A : Type 0} (read : Rest → Result (A × Rest) Fault) (Breaks : Defect) → Agrees read Breaks → Tells seen Good (plain read) (λ from. Breaks)
  plain_tells read Breaks one = record {
    broken = λ s r e good fits h. then_err (read r) (λ x. Ok (x.0, s, x.1)) e h (λ bad. one.broken r e fits bad) (λ x x_is later. no_err (x.0, s, x.1) e later);
    breaks = λ s r e h. rw (one.breaks r e h) refl;
  }

  pub made_tells : {A B : Type 0} (make : A → B) (read : Reader R A) (Breaks : S → Defect) → Tells seen Good read Breaks → Tells seen Good (made make read) Breaks
  made_tells make read Breaks one = record {
    broken = λ s r e good fits h. then_err (read s r) (λ x. Ok (make x.0, x.1, x.2)) e h (λ bad. one.broken s r e good fits bad) (λ x x_is later. no_err (make x.0, x.1, x.2) e later);
    breaks = λ s r e h. rw (one.breaks s r e h) refl;
  }

  module _ {A B : Type 0} (read : Reader R A) (Spells : Speller S A) (law : Lawful seen read Spells) (keeps : Keeps Good Spells) (Here : S → Defect) (here : Tells seen Good read Here)
      (next : A → Reader R B) (Next : A → S → Defect) (behind : (x : A) → Tells seen Good (next x) (Next x)) where
    followed_broken : (s : R) (r : Rest) (e : Fault) → Good (seen s) → IsBytes r.bytes → followed read next s r ≡ failed e → Followed Spells Here Next (seen s) r.place r.bytes e
    followed_broken s r e good fits h = then_err (read s r) (λ x. next x.0 x.1 x.2) e h
        (λ bad. inl (here.broken s r e good fits bad))
        (λ x x_is later.
        let f = law.found s r x fits x_is in
        let left = (Took-fits r x.2 f.0 fits f.1).1 in
        let good_then = keeps f.0 x.0 (seen s) (seen x.1) f.2 good in
        inr (x.0, seen x.1, f.0, x.2.bytes, f.1.parts, f.2, subst (λ (p : ℕ). Next x.0 (seen x.1) p x.2.bytes e) f.1.moved ((behind x.0).broken x.1 x.2 e good_then left later)))

    followed_breaks : (s : R) (r : Rest) (e : Fault) → Followed Spells Here Next (seen s) r.place r.bytes e → followed read next s r ≡ failed e
    followed_breaks s r e (inl h) = stops (read s r) (λ x. next x.0 x.1 x.2) e (here.breaks s r e h)
    followed_breaks s r e (inr (x, mid, a, rest, parts, spells, h)) =
        let m : Rest = record { place = r.place + length a; bytes = rest } in
        let o = law.only s mid r m a x (record { parts = parts; moved = refl }) spells in
        goes (read s r) (λ x. next x.0 x.1 x.2) (x, o.0, m) o.2 ∙ (behind x).breaks o.0 m e (subst (λ (u : S). Next x u (r.place + length a) rest e) (sym o.1) h)

    pub followed_tells : Tells seen Good (followed read next) (Followed Spells Here Next)
    followed_tells = record { broken = followed_broken; breaks = followed_breaks }

  module _ {A B : Type 0} (first : Part A) (law : IsLawful first) (Here : Defect) (here : Agrees first.read Here) (next : A → Reader R B) (Next : A → S → Defect) (behind : (x : A) → Tells seen Good (next x) (Next x)) where
    after_broken : (s : R) (r : Rest) (e : Fault) → Good (seen s) → IsBytes r.bytes → (first.read r >>= λ x. next x.0 s x.1) ≡ failed e → Then first Here (λ x. Next x (seen s)) r.place r.bytes e
    after_broken s r e good fits h = then_err (first.read r) (λ x. next x.0 s x.1) e h
        (λ bad. inl (here.broken r e fits bad))
        (λ x x_is later.
        let f = law.found r x fits x_is in
        let left = (Took-fits r x.1 f.0 fits f.1).1 in
        inr (x.0, f.0, x.1.bytes, f.1.parts, f.2, subst (λ (p : ℕ). Next x.0 (seen s) p x.1.bytes e) f.1.moved ((behind x.0).broken s x.1 e good left later)))

    after_breaks : (s : R) (r : Rest) (e : Fault) → Then first Here (λ x. Next x (seen s)) r.place r.bytes e → (first.read r >>= λ x. next x.0 s x.1) ≡ failed e
    after_breaks s r e (inl h) = stops (first.read r) (λ x. next x.0 s x.1) e (here.breaks r e h)
    after_breaks s r e (inr (x, a, rest, parts, spells, h)) =
        let m : Rest = record { place = r.place + length a; bytes = rest } in
        goes (first.read r) (λ x. next x.0 s x.1) (x, m) (law.only r m a x (record { parts = parts; moved = refl }) spells) ∙ (behind x).breaks s m e h

    pub after_tells : Tells seen Good (λ s r. first.read r >>= λ x. next x.0 s x.1) (λ from. Then first Here (λ x. Next x from))
    after_tells = record { broken = after_broken; breaks = after_breaks }
