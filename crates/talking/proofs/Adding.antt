-- One part of a talk after another.
use Rattle.std.proofs.Common.{◌≡◌, ℕ, zero, suc, ◌+◌, ◌<◌, Bool, true, false, ◌||◌, List, [], ◌∷◌, ◌++◌, length, take, drop, Option, None, Some, Ok, Err, refl, sym, ap, ◌∙◌, append_assoc, append-nil, arith}
use Rattle.std.proofs.Math.Seq.{take-add}
use Rattle.ice_ports.specs.declared.talk.Talk.{Talk}
use Rattle.ice_ports.specs.Talks.{and_then, adds, silent, gives, takes, read_part, write_part}

pub or_twice : (a b c : Bool) → ((a || b) || c) ≡ (a || (b || c))
or_twice true b c = refl
or_twice false b c = refl

pub or_false : (a : Bool) → (a || false) ≡ a
or_false true = refl
or_false false = refl

pub adds_twice : (a : Option Talk) (p q : Talk) → adds (adds a p) q ≡ adds a (and_then p q)
adds_twice None p q = refl
adds_twice (Some t) p q = rw (append_assoc t.given p.given q.given, append_assoc t.taken p.taken q.taken, or_twice t.ended p.ended q.ended, or_twice t.failed p.failed q.failed) refl

-- what a link told, in two parts
pub adds_then : (a b c : Option Talk) (p q : Talk) → b ≡ adds a p → c ≡ adds b q → c ≡ adds a (and_then p q)
adds_then a b c p q one two = two ∙ ap (λ (x : Option Talk). adds x q) one ∙ adds_twice a p q

-- a read of some bytes behind others
pub gives_more : (E : Type 0) (a b c : Option Talk) (got into : List ℕ) (n : ℕ) → 0 < n → b ≡ adds a (gives got) → c ≡ adds b (read_part {E = E} (Ok n) into) → c ≡ adds a (gives (got ++ take n into))
gives_more E a b c got into zero some one two = absurd (omega (arith, some))
gives_more E a b c got into (suc k) some one two = adds_then a b c (gives got) (read_part {E = E} (Ok (suc k)) into) one two

-- nothing was said
pub adds_nothing : (a : Option Talk) → adds a silent ≡ a
adds_nothing None = refl
adds_nothing (Some t) = rw (append-nil t.given, append-nil t.taken, or_false t.ended, or_false t.failed) refl

-- a read that answers the end, behind some bytes
pub ended_more : (E : Type 0) (a b c : Option Talk) (got into : List ℕ) (n : ℕ) → n ≡ 0 → 0 < length into → b ≡ adds a (gives got) → c ≡ adds b (read_part {E = E} (Ok n) into)
    → c ≡ adds a (record { given = got; taken = []; ended = true; failed = false })
ended_more E a b c got [] zero is some one two = absurd (omega (arith, some))
ended_more E a b c got (x ∷ xs) zero is some one two = adds_then a b c (gives got) (record { given = []; taken = []; ended = true; failed = false }) one two ∙ ap (λ (l : List ℕ). adds a (record { given = l; taken = []; ended = true; failed = false })) (append-nil got)
ended_more E a b c got into (suc n) is some one two = absurd (omega (arith, is))

-- a read that failed
pub failed_more : (E : Type 0) (a b c : Option Talk) (got into : List ℕ) (e : E) → b ≡ adds a (gives got) → c ≡ adds b (read_part {E = E} (Err e) into)
    → c ≡ adds a (record { given = got; taken = []; ended = false; failed = true })
failed_more E a b c got into e one two = adds_then a b c (gives got) (record { given = []; taken = []; ended = false; failed = true }) one two ∙ ap (λ (l : List ℕ). adds a (record { given = l; taken = []; ended = false; failed = true })) (append-nil got)

-- a piece was taken behind others
pub takes_more : (E : Type 0) (a b c : Option Talk) (bytes piece : List ℕ) (at n : ℕ) → piece ≡ drop at bytes → b ≡ adds a (takes (take at bytes)) → c ≡ adds b (write_part {E = E} (Ok n) piece) → c ≡ adds a (takes (take (at + n) bytes))
takes_more E a b c bytes piece at n is one two = adds_then a b c (takes (take at bytes)) (takes (take n piece)) one two
    ∙ ap (λ (l : List ℕ). adds a (takes l)) (ap (λ (l : List ℕ). take at bytes ++ take n l) is ∙ sym (take-add at n bytes))
