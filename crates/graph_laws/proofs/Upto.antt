-- Visits that list the numbers from 0 on.
use Rattle.std.proofs.Common.{ℕ, zero, suc, ◌<◌, ◌≤◌, ◌≡◌, Bool, true, false, List, [], ◌∷◌, ◌++◌, length, take, refl, sym, ap, ◌∙◌, subst, arith, inl, inr, append_assoc}
use Rattle.std.proofs.lemmas.Bool.{cases_lt}
use Rattle.std.proofs.lemmas.List.{length-append, append-nil, take-append-le}
use Rattle.std.proofs.Math.Seq.{take-append_seam}
use Rattle.ice_encoding.specs.Visiting.{place, is_listed, visit_each, visit_at}
use Rattle.ice_encoding.specs.Graph.{Graph}
use Rattle.ice_encoding.specs.Names.{instance_names}
use Rattle.ice_encoding.specs.Instances.{slices_of}
use Rattle.graph_arena.proofs.Closed.{place-head, place-tail, place-left, place-right}

abbrev pub upto : ℕ → List ℕ
upto zero = []
upto (suc n) = upto n ++ n ∷ []

pub length-upto : (n : ℕ) → length (upto n) ≡ n
length-upto zero = refl
length-upto (suc n) = omega (arith, length-append (upto n) (n ∷ []), length-upto n)

pub take-upto : (i j : ℕ) → i ≤ j → take i (upto j) ≡ upto i
take-upto zero zero le = refl
take-upto (suc i) zero le = absurd (omega arith)
take-upto i (suc j) le = elim (cases_lt j i) [
  | inl lt ↦ (let e : i ≡ suc j = omega arith in let whole : take (length (upto (suc j))) (upto (suc j) ++ []) ≡ upto (suc j) = take-append_seam (upto (suc j)) [] in
      subst (λ (k : ℕ). take k (upto (suc j)) ≡ upto k) (sym e) (subst (λ (l : List ℕ). take (suc j) l ≡ upto (suc j)) (append-nil (upto (suc j))) (subst (λ (k : ℕ). take k (upto (suc j) ++ []) ≡ upto (suc j)) (length-upto (suc j)) whole)))
  | inr le' ↦ take-append-le {A = ℕ} i (upto j) (j ∷ []) (omega (arith, length-upto j)) ∙ take-upto i j le'
]

pub front-upto : (a b : List ℕ) (j : ℕ) → a ++ b ≡ upto j → (a ≡ upto (length a)) × (length a ≤ j)
front-upto a b j e =
    let le : length a ≤ j = omega (arith, length-append a b, ap length e, length-upto j) in
    (sym (take-append_seam a b) ∙ ap (take (length a)) e ∙ take-upto (length a) j le, le)

pub upto-one : (i j : ℕ) → upto i ≡ upto j → i ≡ j
upto-one i j e = omega (arith, length-upto i, length-upto j, ap length e)

pub unlisted-upto : (j n : ℕ) → j ≤ n → length (upto j) ≤ place (upto j) n
unlisted-upto zero n le = omega arith
unlisted-upto (suc j) n le = omega (arith, place-right (upto j) (j ∷ []) n (unlisted-upto j n (omega arith)), place-tail j [] n (omega arith), length-append (upto j) (j ∷ []))

pub place-upto : (j n : ℕ) → n < j → place (upto j) n ≡ n
place-upto zero n lt = absurd (omega arith)
place-upto (suc j) n lt = elim (cases_lt n j) [
  | inl less ↦ place-left (upto j) (j ∷ []) n (omega (arith, place-upto j n less, length-upto j)) ∙ place-upto j n less
  | inr le ↦ omega (arith, place-right (upto j) (j ∷ []) n (unlisted-upto j n le), place-head j [] n (omega arith), length-upto j)
]

-- ---- what a visit adds stands at the end
abbrev pub Grows : (ℕ → List ℕ → List ℕ) → Type 0
Grows visit = (n : ℕ) (seen : List ℕ) → (more : List ℕ) × (visit n seen ≡ seen ++ more)

pub each-grows : (visit : ℕ → List ℕ → List ℕ) → Grows visit → (xs seen : List ℕ) → (more : List ℕ) × (visit_each visit xs seen ≡ seen ++ more)
each-grows visit grows [] seen = ([], sym (append-nil seen))
each-grows visit grows (x ∷ xs) seen =
    let one = grows x seen in
    let others = each-grows visit grows xs (visit x seen) in
    (one.0 ++ others.0, others.1 ∙ ap (λ (l : List ℕ). l ++ others.0) one.1 ∙ append_assoc seen one.0 others.0)

listed-grows : (seen out : List ℕ) (n : ℕ) (b : Bool) → ((more : List ℕ) × (out ≡ (seen ++ n ∷ []) ++ more)) → (more : List ℕ) × (elim b [ true ↦ seen | false ↦ out ] ≡ seen ++ more)
listed-grows seen out n true m = ([], sym (append-nil seen))
listed-grows seen out n false m = (n ∷ m.0, m.1 ∙ append_assoc seen (n ∷ []) m.0)

pub visit-grows : (depth : ℕ) (g : Graph) → Grows (visit_at depth g)
visit-grows zero g n seen = ([], sym (append-nil seen))
visit-grows (suc depth) g n seen = listed-grows seen (visit_each (visit_at depth g) (instance_names (slices_of g.instances n)) (seen ++ n ∷ [])) n (is_listed seen n) (each-grows (visit_at depth g) (visit-grows depth g) (instance_names (slices_of g.instances n)) (seen ++ n ∷ []))

pub each-append : (visit : ℕ → List ℕ → List ℕ) (a b seen : List ℕ) → visit_each visit (a ++ b) seen ≡ visit_each visit b (visit_each visit a seen)
each-append visit [] b seen = refl
each-append visit (x ∷ a) b seen = each-append visit a b (visit x seen)

-- a run over numbers in two parts
pub record Parts (visit : ℕ → List ℕ → List ℕ) (a b : List ℕ) (i k : ℕ) : Type 0 where
  pub mid : ℕ
  pub first : visit_each visit a (upto i) ≡ upto mid
  pub second : visit_each visit b (upto mid) ≡ upto k
  pub low : i ≤ mid
  pub high : mid ≤ k

pub parts : (visit : ℕ → List ℕ → List ℕ) → Grows visit → (a b : List ℕ) (i k : ℕ) → visit_each visit (a ++ b) (upto i) ≡ upto k → Parts visit a b i k
parts visit grows a b i k e =
    let mid = visit_each visit a (upto i) in
    let one = each-grows visit grows a (upto i) in
    let two = each-grows visit grows b mid in
    let whole : visit_each visit b mid ≡ upto k = sym (each-append visit a b (upto i)) ∙ e in
    let front = front-upto mid two.0 k (sym two.1 ∙ whole) in
    record { mid = length mid; first = front.0; second = subst (λ (l : List ℕ). visit_each visit b l ≡ upto k) front.0 whole; low = omega (arith, ap length one.1, length-append (upto i) one.0, length-upto i); high = front.1 }
