-- A fault of what stands next stays, whatever follows, and lies within the largest message.
use Rattle.std.proofs.Common.{◌≡◌, ℕ, ℤ, ◌+◌, ◌-◌, ◌≤◌, ◌<◌, true, false, List, [], ◌++◌, length, take, drop, Option, None, Some, Result, Ok, Err, refl, sym, ap, subst, ◌∙◌, inl, inr, arith, ltb, append_assoc, append-nil}
use Rattle.std.proofs.lemmas.Bool.{cases_lt, le-ltb, lt-ltb}
use Rattle.std.proofs.lemmas.List.{length-append, length-drop, length-take-le, take-append-drop, take-append-le}
use Rattle.std.proofs.Math.ListN.{drop_of_length-le}
use Rattle.ice_prims.specs.declared.fault.Fault.{Fault}
use Rattle.ice_prims.specs.Rest.{Rest, ◌>>=◌, IsBytes, whole, after}
use Rattle.ice_messages.specs.declared.message.Message.{Message}
use Rattle.ice_encoding.specs.declared.limits.TheConstants.{LARGEST}
use Rattle.ice_encoding.specs.Bounds.{claimed, filled}
use Rattle.ice_encoding.proofs.Bounded.{claimed_ok, claimed_is}
use Rattle.ice_messages.specs.declared.message.TheConstants.{HEADER_BYTES}
use Rattle.ice_messages.specs.Messages.{header, body_by, message_at}
use Rattle.ice_messages.specs.Streams.{good_header, started, counted, next_at, IsFront}
use Rattle.ice_messages.proofs.Streams.{whole_header, next_front}
use Rattle.ice_messages.proofs.Settled.{Verdict, at, header_settled}
use Rattle.ice_messages.proofs.Near.{Within, header_within, body_within, filled_place, claim_place}

abbrev pub Next : Type 0
Next = Result (Option (Message × Rest)) Fault

abbrev pub failed : Fault → Next
failed e = Err e

abbrev pub none_next : Next
none_next = Ok None

pub no_fault : {e : Fault} → none_next ≡ failed e → ⊥
no_fault h = cc

pub same_fault : {d e : Fault} → failed d ≡ failed e → d ≡ e
same_fault h = cc

pub only_first : {A B C : Type 0} (r : Result A Fault) (f : A → B) (g : B → C) (e : Fault) → ((r >>= λ x. Ok (f x)) >>= λ y. Ok (g y)) ≡ Err e → r ≡ Err e
only_first (Ok x) f g e h = absurd cc
only_first (Err d) f g e h = let same : d ≡ e = cc in ap Err same

-- what a fault is that is known
pub record Stands (bytes : List ℕ) (e : Fault) : Type 0 where
  pub stays : (more : List ℕ) → next_at (bytes ++ more) ≡ Err e
  pub near : e.place ≤ LARGEST

-- ---- in the header

placed : (bytes : List ℕ) (e : Fault) → length bytes ≡ HEADER_BYTES → header.read (at 0 bytes) ≡ Err e → e.place ≤ LARGEST
placed bytes e long is = let h = subst (Within (0 + length bytes)) is (header_within (at 0 bytes)) in omega (arith, h, long)

good_long : length good_header ≡ HEADER_BYTES
good_long = refl

-- fewer bytes than a header has
in_front : (bytes : List ℕ) (e : Fault) → length bytes < HEADER_BYTES → Verdict header.read good_header 0 bytes → next_at bytes ≡ Err e → Stands bytes e
in_front bytes e few (inl bad) is =
    let filling = drop (length bytes) good_header in
    let total : HEADER_BYTES ≡ length bytes + length filling = omega (arith, few, length-drop (length bytes) good_header, good_long) in
    let first : started bytes ≡ Err bad.0 = bad.1 filling (omega (arith, total, good_long)) in
    let known : next_at bytes ≡ Err bad.0 = rw first refl in
    let same : bad.0 ≡ e = same_fault (sym known ∙ is) in
    subst (Stands bytes) same (record {
      stays = λ more.
          let left = drop (length (bytes ++ more)) good_header in
          let long : length good_header ≤ length bytes + length (more ++ left) = omega (arith, good_long, length-append more left, length-append bytes more, length-drop (length (bytes ++ more)) good_header) in
          let again : started (bytes ++ more) ≡ Err bad.0 = ap (λ (z : List ℕ). header.read (at 0 z)) (append_assoc bytes more left) ∙ bad.1 (more ++ left) long in
          rw again refl;
      near = placed (bytes ++ filling) bad.0 (omega (arith, total, length-append bytes filling)) first;
    })
in_front bytes e few (inr x) is =
    let filling = drop (length bytes) good_header in
    let first : started bytes ≡ Ok (x.0, at 14 []) = ap (λ (z : List ℕ). header.read (at 0 (bytes ++ z))) (sym (append-nil filling)) ∙ x.1 [] in
    let lacking : ltb (length bytes) HEADER_BYTES ≡ true = lt-ltb _ _ few in
    let known : next_at bytes ≡ Ok None = rw (first, lacking) refl in
    absurd (no_fault (sym known ∙ is))

-- ---- behind a whole header

module _ (head : List ℕ) (long : length head ≡ HEADER_BYTES) where
  header_bad : (d : Fault) → ((behind : List ℕ) → header.read (at 0 (head ++ behind)) ≡ Err d) → (behind : List ℕ) → next_at (head ++ behind) ≡ Err d
  header_bad d bad behind =
      let whole_is = whole_header (head ++ behind) (omega (arith, long, length-append head behind)) ∙ bad behind in
      rw whole_is refl

  module _ (type : ℕ) (z : ℤ) (reads : (behind : List ℕ) → header.read (at 0 (head ++ behind)) ≡ Ok ((type, z), at 14 behind)) where
    pub next_counted : (behind : List ℕ) → next_at (head ++ behind) ≡ (claimed 10 LARGEST HEADER_BYTES z >>= counted (head ++ behind))
    next_counted behind =
        let there : HEADER_BYTES ≤ length (head ++ behind) = omega (arith, long, length-append head behind) in
        let whole_is = whole_header (head ++ behind) there ∙ reads behind in
        let enough : ltb (length (head ++ behind)) HEADER_BYTES ≡ false = le-ltb _ _ there in
        rw (whole_is, enough) refl

    abbrev pub body : List ℕ → ℕ → Result Message Fault
    body behind n = filled (body_by type).read (at 14 (take (n - HEADER_BYTES) behind))

    -- a body that is whole has the fault
    pub next_body : (behind : List ℕ) (n : ℕ) → claimed 10 LARGEST HEADER_BYTES z ≡ Ok n → n ≤ length (head ++ behind)
        → next_at (head ++ behind) ≡ ((body behind n >>= λ m. Ok (m, after (at 14 behind) (n - HEADER_BYTES))) >>= λ m. Ok (Some m))
    next_body behind n claim there =
        claimed_ok 10 LARGEST HEADER_BYTES z n claim λ same most left least.
        let all : ltb (length (head ++ behind)) n ≡ false = le-ltb _ _ there in
        let again : claimed 10 (length (head ++ behind)) HEADER_BYTES z ≡ Ok n = ap (claimed 10 (length (head ++ behind)) HEADER_BYTES) same ∙ claimed_is 10 (length (head ++ behind)) HEADER_BYTES n most there least in
        let inside : ltb (length behind) (n - HEADER_BYTES) ≡ false = le-ltb _ _ (omega (arith, there, long, length-append head behind)) in
        let message : message_at (whole (head ++ behind)) ≡ (body behind n >>= λ m. Ok (m, after (at 14 behind) (n - HEADER_BYTES))) = rw (reads behind, again, inside) refl in
        next_counted behind ∙ ap (λ (r : Result ℕ Fault). r >>= counted (head ++ behind)) claim ∙ (rw (all, message) refl)

    of_claim : (rest : List ℕ) (e : Fault) (claim : Result ℕ Fault) → claimed 10 LARGEST HEADER_BYTES z ≡ claim → next_at (head ++ rest) ≡ Err e → Stands (head ++ rest) e
    of_claim rest e (Err d) claim is =
        let known : (behind : List ℕ) → next_at (head ++ behind) ≡ Err d = λ behind. next_counted behind ∙ ap (λ (r : Result ℕ Fault). r >>= counted (head ++ behind)) claim in
        subst (Stands (head ++ rest)) (same_fault (sym (known rest) ∙ is)) (record {
          stays = λ more. ap next_at (append_assoc head rest more) ∙ known (rest ++ more);
          near = omega (arith, claim_place 10 LARGEST HEADER_BYTES z d claim);
        })
    of_claim rest e (Ok n) claim is = elim (cases_lt (length (head ++ rest)) n) [
      | inl few ↦
          let lacking : ltb (length (head ++ rest)) n ≡ true = lt-ltb _ _ few in
          let known : next_at (head ++ rest) ≡ Ok None = next_counted rest ∙ ap (λ (r : Result ℕ Fault). r >>= counted (head ++ rest)) claim ∙ (rw lacking refl) in
          absurd (no_fault (sym known ∙ is))
      | inr there ↦
          claimed_ok 10 LARGEST HEADER_BYTES z n claim λ same most left least.
          let bad : body rest n ≡ Err e = only_first (body rest n) _ _ e (sym (next_body rest n claim there) ∙ is) in
          let within : n - HEADER_BYTES ≤ length rest = omega (arith, there, long, length-append head rest) in
          record {
            stays = λ more.
                let again : body (rest ++ more) n ≡ Err e = ap (λ (bytes : List ℕ). filled (body_by type).read (at 14 bytes)) (take-append-le (n - HEADER_BYTES) rest more within) ∙ bad in
                ap next_at (append_assoc head rest more) ∙ next_body (rest ++ more) n claim (omega (arith, there, length-append head rest, length-append head (rest ++ more), length-append rest more)) ∙ (rw again refl);
            near = omega (arith, filled_place (body_by type).read (body_within type) (at 14 (take (n - HEADER_BYTES) rest)) e bad, length-take-le (n - HEADER_BYTES) rest within, most, least);
          }
    ]

  of_header : (rest : List ℕ) (e : Fault) → Verdict header.read good_header 0 head → next_at (head ++ rest) ≡ Err e → Stands (head ++ rest) e
  of_header rest e (inl bad) is =
      let first : (behind : List ℕ) → header.read (at 0 (head ++ behind)) ≡ Err bad.0 = λ behind. bad.1 behind (omega (arith, long, good_long)) in
      let known = header_bad bad.0 first in
      let alone : header.read (at 0 head) ≡ Err bad.0 = ap (λ (z : List ℕ). header.read (at 0 z)) (sym (append-nil head)) ∙ first [] in
      subst (Stands (head ++ rest)) (same_fault (sym (known rest) ∙ is)) (record {
        stays = λ more. ap next_at (append_assoc head rest more) ∙ known (rest ++ more);
        near = placed head bad.0 long alone;
      })
  of_header rest e (inr x) is =
      let none : drop (length head) good_header ≡ [] = drop_of_length-le good_header (omega (arith, long, good_long)) in
      let reads : (behind : List ℕ) → header.read (at 0 (head ++ behind)) ≡ Ok (x.0, at 14 behind) =
      λ behind. subst (λ (z : List ℕ). header.read (at 0 (head ++ (z ++ behind))) ≡ Ok (x.0, at 14 behind)) none (x.1 behind) in
      of_claim x.0.0 x.0.1 reads rest e (claimed 10 LARGEST HEADER_BYTES x.0.1) refl is

pub fault_stands : (bytes : List ℕ) (e : Fault) → next_at bytes ≡ Err e → Stands bytes e
fault_stands bytes e is = elim (cases_lt (length bytes) HEADER_BYTES) [
  | inl few ↦ in_front bytes e few (header_settled.front 0 bytes (omega (arith, few, good_long))) is
  | inr long ↦
      let head = take HEADER_BYTES bytes in
      let fourteen : length head ≡ HEADER_BYTES = length-take-le HEADER_BYTES bytes long in
      let all : head ++ drop HEADER_BYTES bytes ≡ bytes = take-append-drop HEADER_BYTES bytes in
      subst (λ (z : List ℕ). Stands z e) all
      (of_header head fourteen (drop HEADER_BYTES bytes) e (header_settled.front 0 head (omega (arith, fourteen, good_long))) (ap next_at all ∙ is))
]

-- ---- bytes that are no whole message

pub waits_short : (bytes : List ℕ) → IsBytes bytes → next_at bytes ≡ Ok None → length bytes < LARGEST
waits_short bytes fits is = by_front (next_front bytes fits is)
  where
    by_front : IsFront bytes → length bytes < LARGEST
    by_front (inl few) = omega (arith, few.3)
    by_front (inr (head, more, type, n, parts, h, least, most, few)) = omega (arith, most, few)
