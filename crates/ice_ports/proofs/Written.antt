-- What was written of pieces when a write of one failed.
use Rattle.std.proofs.Common.{◌≡◌, ℕ, ◌+◌, ◌<◌, List, ◌++◌, length, get_or, take, drop, Option, Result, Err, Bor, sym, ap, subst, ◌∙◌, append_assoc, arith}
use Rattle.std.proofs.Math.Seq.{take-add}
use Rattle.std.specs.List.{flat_map}
use Rattle.std.specs.Io.KnownBytes.{Appends}
use Rattle.std.proofs.lemmas.Grind.{flat_map-append}
use Rattle.std.proofs.lemmas.List.{length-append, take-append-drop, drop_more}
use Rattle.ice_ports.specs.Failures.{one_more}
use Rattle.ice_ports.specs.Writing.{AppendsPrefix, Writes}
use Rattle.std.proofs.KnownBytes.{Appends-trans}

-- a prefix of what is left after a prefix
pub Appends-more : (a b c : Option (List ℕ)) (bytes left : List ℕ) (at n : ℕ) → left ≡ drop at bytes → Appends a b (take at bytes) → Appends b c (take n left) → Appends a c (take (at + n) bytes)
Appends-more a b c bytes left at n is p q =
    let all : take at bytes ++ take n left ≡ take (at + n) bytes = ap (λ (l : List ℕ). take at bytes ++ take n l) is ∙ sym (take-add at n bytes) in
    subst (λ (l : List ℕ). Appends a c l) all (Appends-trans a b c (take at bytes) (take n left) p q)

-- the pieces before one, a prefix of it, and what is left
abbrev seen : Bor (List ℕ) → List ℕ
seen piece = piece.now

pub stops_in : (a b c : Option (List ℕ)) (pieces : List (Bor (List ℕ))) (i : ℕ) (other : Bor (List ℕ)) (text : List ℕ) → i < length pieces → text ≡ (get_or pieces i other).now → Appends a b (flat_map (λ p. p.now) (take i pieces)) → AppendsPrefix b c text
    → AppendsPrefix a c (flat_map (λ p. p.now) pieces)
stops_in a b c pieces i other text lt text_is p q =
    let piece = get_or pieces i other in
    let before = flat_map seen (take i pieces) in
    let rest = flat_map seen (drop (i + 1) pieces) in
    let behind : flat_map seen (drop i pieces) ≡ piece.now ++ rest = ap (flat_map seen) (drop_more pieces i other lt) in
    let all : flat_map seen pieces ≡ before ++ (piece.now ++ rest) = ap (flat_map seen) (sym (take-append-drop i pieces)) ∙ flat_map-append seen (take i pieces) (drop i pieces) ∙ ap (λ (l : List ℕ). before ++ l) behind in
    let cut : piece.now ≡ q.0 ++ q.1 = sym text_is ∙ q.2 in
    (before ++ q.0, q.1 ++ rest, all ∙ ap (λ (l : List ℕ). before ++ (l ++ rest)) cut ∙ simp append_assoc, Appends-trans a b c before q.0 p q.3, omega (arith, q.4, length-append q.1 rest))

pub writes_prefix : {X E : Type 0} (a c : Option (List ℕ)) (before after : ℕ) (r : Result X E) (e : E) (bytes : List ℕ) → r ≡ Err e → AppendsPrefix a c bytes → after ≡ one_more before → Writes a c before after r bytes
writes_prefix a c before after r e bytes is h count = rw is (h, count)
