-- Each list of bytes is told in one way, and in one alone.
use Rattle.std.proofs.Common.{◌≡◌, ℕ, zero, suc, ◌+◌, ◌-◌, ◌≤◌, ◌<◌, ◌⊎◌, List, [], ◌∷◌, ◌++◌, length, Option, None, Some, Ok, Err, refl, sym, ap, subst, ◌∙◌, inl, inr, arith}
use Rattle.std.proofs.lemmas.Bool.{cases_lt}
use Rattle.std.proofs.lemmas.List.{length-append}
use Rattle.ice_prims.specs.declared.fault.Fault.{Fault}
use Rattle.ice_prims.specs.declared.fault.Kind.TheVariants.{Short, Endless}
use Rattle.ice_prims.specs.Rest.{Rest, IsBytes}
use Rattle.ice_prims.proofs.Parts.{IsBytes-rest}
use Rattle.ice_messages.specs.declared.message.Message.{Message}
use Rattle.ice_messages.specs.Messages.{SpellsMessage}
use Rattle.ice_messages.specs.Streams.{next_at}
use Rattle.ice_messages.proofs.Streams.{messages_apart, message_long, next_message}
use Rattle.ice_messages.proofs.Runs.{next_spelled}
use Rattle.message_dump.specs.declared.dump.TheConstants.{MOST_MESSAGES}
use Rattle.message_dump.specs.Lines.{message_line}
use Rattle.message_dump.specs.Dumps.{Tells, EndsInput, IsDump, fault_at, moved}
use Rattle.ice_messages.proofs.Faults.{Next, failed, none_next, no_fault, same_fault}
use Rattle.message_dump.proofs.Decided.{some_left}

-- ---- one way alone

abbrev found : Message × Rest → Next
found x = Ok (Some x)

-- no message that is taken begins what is left
ends_alone : (n place : ℕ) (rest first others : List ℕ) (end : Option Fault) (m : Message) → EndsInput n place rest end → n < MOST_MESSAGES → rest ≡ first ++ others → SpellsMessage first m → ⊥
ends_alone n place rest first others None m h few parts spelled = omega (arith, ap length h, ap length parts, length-append first others, message_long first m spelled)
ends_alone n place rest first others (Some fault) m h few parts spelled = elim h.1 [
  | inl full ↦ omega (arith, few, full.0)
  | inr other ↦ elim other [
    | inl short ↦ no_some (sym short.1 ∙ next)
    | inr bad ↦ some_bad (sym next ∙ bad.2)
  ]
]
  where
    next : next_at rest ≡ Ok (Some (m, record { place = length first; bytes = others }))
    next = ap next_at parts ∙ next_message first others m spelled

    no_some : {x : Message × Rest} → none_next ≡ found x → ⊥
    no_some e = cc

    some_bad : {x : Message × Rest} {e : Fault} → found x ≡ failed e → ⊥
    some_bad e = cc

one_end : (n place : ℕ) (rest : List ℕ) (e f : Option Fault) → EndsInput n place rest e → EndsInput n place rest f → e ≡ f
one_end n place rest None None one two = refl
one_end n place rest None (Some f) one two = absurd (two.0 one)
one_end n place rest (Some e) None one two = absurd (one.0 two)
one_end n place rest (Some e) (Some f) one two = ap Some (one_fault one.1 two.1)
  where
    Why : Fault → Type 0
    Why fault = ((n ≡ MOST_MESSAGES) × (fault ≡ fault_at place Endless))
        ⊎ (((n < MOST_MESSAGES) × (next_at rest ≡ Ok None) × (fault ≡ fault_at place Short))
        ⊎ ((n < MOST_MESSAGES) × (first : Fault) × (next_at rest ≡ Err first) × (fault ≡ moved place first)))

    one_fault : Why e → Why f → e ≡ f
    one_fault (inl a) (inl b) = a.1 ∙ sym b.1
    one_fault (inl a) (inr (inl b)) = absurd (omega (arith, a.0, b.0))
    one_fault (inl a) (inr (inr b)) = absurd (omega (arith, a.0, b.0))
    one_fault (inr (inl a)) (inl b) = absurd (omega (arith, a.0, b.0))
    one_fault (inr (inl a)) (inr (inl b)) = a.2 ∙ sym b.2
    one_fault (inr (inl a)) (inr (inr b)) = absurd (no_fault (sym a.1 ∙ b.2))
    one_fault (inr (inr a)) (inl b) = absurd (omega (arith, a.0, b.0))
    one_fault (inr (inr a)) (inr (inl b)) = absurd (no_fault (sym b.1 ∙ a.2))
    one_fault (inr (inr a)) (inr (inr b)) = a.3 ∙ ap (moved place) (same_fault (sym a.2 ∙ b.2)) ∙ sym b.3

-- behind k messages of an input of so many bytes
module _ (whole : ℕ) where
  one_way : (n m k p q : ℕ) (bytes a b rest left : List ℕ) (e f : Option Fault) → p ≡ k + n → q ≡ k + m → p ≤ MOST_MESSAGES → q ≤ MOST_MESSAGES
      → Tells n bytes a rest → Tells m bytes b left → EndsInput p (whole - length rest) rest e → EndsInput q (whole - length left) left f → (a ≡ b) × (e ≡ f)
  one_way zero zero k p q bytes a b rest left e f p_is q_is few less one two end final =
      let same : left ≡ rest = sym two.1 ∙ one.1 in
      let also : q ≡ p = omega (arith, p_is, q_is) in
      (one.0 ∙ sym two.0, one_end p (whole - length rest) rest e f end (subst (λ (z : List ℕ). EndsInput p (whole - length z) z f) same (subst (λ (z : ℕ). EndsInput z (whole - length left) left f) also final)))
  one_way zero (suc m) k p q bytes a b rest left e f p_is q_is few less one two end final =
      absurd (ends_alone p (whole - length rest) rest two.1 two.2 e two.0 end (omega (arith, p_is, q_is, less)) (sym one.1 ∙ two.4) two.5)
  one_way (suc n) zero k p q bytes a b rest left e f p_is q_is few less one two end final =
      absurd (ends_alone q (whole - length left) left one.1 one.2 f one.0 final (omega (arith, p_is, q_is, few)) (sym two.1 ∙ one.4) one.5)
  one_way (suc n) (suc m) k p q bytes a b rest left e f p_is q_is few less one two end final =
      let same = messages_apart one.1 two.1 one.2 two.2 one.0 two.0 one.5 two.5 (sym one.4 ∙ two.4) in
      let long : length one.1 ≡ length two.1 = omega (arith, ap length (sym one.4 ∙ two.4), length-append one.1 one.2, length-append two.1 two.2, ap length same.1) in
      let others : Tells n two.2 one.3 rest = subst (λ (z : List ℕ). Tells n z one.3 rest) same.1 one.7 in
      let later = one_way n m (suc k) p q two.2 one.3 two.3 rest left e f (omega (arith, p_is)) (omega (arith, q_is)) few less others two.7 end final in
      let line : message_line (length one.1) one.0 ≡ message_line (length two.1) two.0 = ap (λ (z : ℕ). message_line z one.0) long ∙ ap (message_line (length two.1)) same.0 in
      (one.6 ∙ ap (λ (z : List ℕ). z ++ one.3) line ∙ ap (λ (z : List ℕ). message_line (length two.1) two.0 ++ z) later.0 ∙ sym two.6, later.1)

pub one_dump : (input a b : List ℕ) (e f : Option Fault) → IsDump input a e → IsDump input b f → (a ≡ b) × (e ≡ f)
one_dump input a b e f one two = one_way (length input) one.0 two.0 0 one.0 two.0 input a b one.1 two.1 e f (omega arith) (omega arith) one.2 two.2 one.3 two.3 one.4 two.4

-- ---- some way

module _ (whole : ℕ) where
  abbrev Told : ℕ → List ℕ → Type 0
  Told k bytes = (n p : ℕ) × (lines rest : List ℕ) × (end : Option Fault) × (p ≡ k + n) × (p ≤ MOST_MESSAGES) × Tells n bytes lines rest × EndsInput p (whole - length rest) rest end

  -- nothing is taken
  alone : (k : ℕ) (bytes : List ℕ) (end : Option Fault) → k ≤ MOST_MESSAGES → EndsInput k (whole - length bytes) bytes end → Told k bytes
  alone k bytes end few ends = (0, k, [], bytes, end, omega arith, few, (refl, refl), ends)

  full : (k : ℕ) (bytes : List ℕ) → k ≡ MOST_MESSAGES → Told k bytes
  full k [] is = alone k [] None (omega (arith, is)) refl
  full k (b ∷ bs) is = alone k (b ∷ bs) (Some (fault_at (whole - length (b ∷ bs)) Endless)) (omega (arith, is)) (λ e. cc, inl (is, refl))

  waiting : (k : ℕ) (bytes : List ℕ) → k < MOST_MESSAGES → next_at bytes ≡ Ok None → Told k bytes
  waiting k [] few is = alone k [] None (omega (arith, few)) refl
  waiting k (b ∷ bs) few is = alone k (b ∷ bs) (Some (fault_at (whole - length (b ∷ bs)) Short)) (omega (arith, few)) (λ e. cc, inr (inl (few, is, refl)))

  by_next : (x : Next) (k : ℕ) (bytes : List ℕ) → IsBytes bytes → k < MOST_MESSAGES → next_at bytes ≡ x
      → ((first others : List ℕ) (m : Message) → bytes ≡ first ++ others → SpellsMessage first m → Told (suc k) others) → Told k bytes
  by_next (Err e) k bytes fits few is go =
      alone k bytes (Some (moved (whole - length bytes) e)) (omega (arith, few)) (some_left bytes e is, inr (inr (few, e, is, refl)))
  by_next (Ok None) k bytes fits few is go = waiting k bytes few is
  by_next (Ok (Some x)) k bytes fits few is go =
      let next = next_spelled bytes x.0 x.1 fits is in
      let later = go next.0 x.1.bytes x.0 next.1 next.2 in
      (suc later.0, later.1, message_line (length next.0) x.0 ++ later.2, later.3, later.4, omega (arith, later.5), later.6, (x.0, next.0, x.1.bytes, later.2, next.1, next.2, refl, later.7), later.8)

  by_count : (k : ℕ) (bytes : List ℕ) → IsBytes bytes → k ≤ MOST_MESSAGES
      → (k < MOST_MESSAGES → (first others : List ℕ) (m : Message) → bytes ≡ first ++ others → SpellsMessage first m → Told (suc k) others) → Told k bytes
  by_count k bytes fits few go = elim (cases_lt k MOST_MESSAGES) [
    | inr most ↦ full k bytes (omega (arith, few, most))
    | inl less ↦ by_next (next_at bytes) k bytes fits less refl (go less)
  ]

  some_way : (n k : ℕ) (bytes : List ℕ) → length bytes ≤ n → IsBytes bytes → k ≤ MOST_MESSAGES → Told k bytes
  some_way zero k bytes short fits few = by_count k bytes fits few (λ less first others m parts spelled.
      absurd (omega (arith, short, ap length parts, length-append first others, message_long first m spelled)))
  some_way (suc n) k bytes short fits few = by_count k bytes fits few (λ less first others m parts spelled.
      some_way n (suc k) others (omega (arith, short, ap length parts, length-append first others, message_long first m spelled)) (IsBytes-rest first others (subst IsBytes parts fits)) (omega (arith, less)))

pub some_dump : (input : List ℕ) → IsBytes input → (lines : List ℕ) × (end : Option Fault) × IsDump input lines end
some_dump input fits =
    let h = some_way (length input) (length input) 0 input (omega arith) fits (omega arith) in
    let same : h.1 ≡ h.0 = omega (arith, h.5) in
    (h.2, h.4, (h.0, h.3, omega (arith, same, h.6), h.7, subst (λ (n : ℕ). EndsInput n (length input - length h.3) h.3 h.4) same h.8))
