-- An encapsulation that is cut is too short for its size.
use Rattle.std.proofs.Common.{◌≡◌, ℕ, pos, ◌+◌, ◌≤◌, true, false, ltb, List, ◌∷◌, ◌++◌, length, take, drop, Result, refl, sym, ap, ◌∙◌, inl, inr, arith}
use Rattle.std.specs.Int.{w32}
use Rattle.std.proofs.lemmas.Bool.{cases_lt, le-ltb, lt-ltb}
use Rattle.std.proofs.lemmas.List.{length-append, take_at, take-append-drop, take-append-le}
use Rattle.ice_prims.specs.declared.fault.Fault.{Fault}
use Rattle.ice_prims.specs.declared.fault.Kind.TheVariants.{Short}
use Rattle.ice_prims.specs.Rest.{Rest, fault, whole}
use Rattle.ice_prims.specs.Bytes.{signed_bytes}
use Rattle.ice_prims.proofs.Spelled.{int_exact}
use Rattle.ice_encoding.specs.declared.limits.TheConstants.{LARGEST, SMALLEST}
use Rattle.ice_encoding.specs.Bounds.{claimed, filled}
use Rattle.ice_encoding.specs.Encapsulation.{Encapsulated, encapsulated_at}
use Rattle.ice_encoding.specs.Opening.{encapsulated_bytes, opened_at}
use Rattle.ice_encoding.proofs.Encapsulations.{encapsulated_length}

-- bytes at least as long as these, where both begin the same, begin with them
pub begins : (a x b y : List ℕ) → a ++ x ≡ b ++ y → length a ≤ length b → (c : List ℕ) × (b ≡ a ++ c)
begins a x b y e le =
    let front : take (length a) b ≡ a = sym (take-append-le (length a) b y le) ∙ ap (take (length a)) (sym e) ∙ take_at a x (length a) refl in
    (drop (length a) b, sym (take-append-drop (length a) b) ∙ ap (λ (c : List ℕ). c ++ drop (length a) b) front)

pub cut_short : (r : Rest) (more content : List ℕ) → r.bytes ++ more ≡ encapsulated_bytes content → SMALLEST + length content ≤ LARGEST → 1 ≤ length more → opened_at r ≡ fault r.place Short
cut_short r more content same large some =
    let n = SMALLEST + length content in
    let claim = signed_bytes w32 (pos n) in
    let spelled = int_exact.put (pos n) (omega (arith, large)) in
    let few : length r.bytes + length more ≡ n = omega (arith, ap length same, length-append r.bytes more, encapsulated_length content) in
    elim (cases_lt (length r.bytes) 4) [
      | inl lacking ↦ let short : ltb (length r.bytes) 4 ≡ true = lt-ltb _ _ lacking in rw short refl
      | inr there ↦
          let c = begins claim (1 ∷ 1 ∷ content) r.bytes more (sym same) (omega (arith, there, spelled.0)) in
          let behind : Rest = record { place = r.place + length claim; bytes = c.0 } in
          let past : ltb LARGEST n ≡ false = le-ltb _ _ large in
          let short : ltb (length r.bytes) n ≡ true = lt-ltb _ _ (omega (arith, few, some)) in
          let refused : claimed r.place (length r.bytes) SMALLEST (pos n) ≡ fault r.place Short = rw (past, short) refl in
          rw (int_exact.only r behind claim (pos n) (record { parts = c.1; moved = refl }) spelled, refused) refl
    ]

module _ {A : Type 0} (read : Rest → Result (A × Rest) Fault) (Spells : List ℕ → A → Type 0) where
  pub cut_input : (bytes more : List ℕ) (x : A) → Encapsulated Spells (bytes ++ more) x → 1 ≤ length more → filled (encapsulated_at read) (whole bytes) ≡ fault 0 Short
  cut_input bytes more x h some =
      let long = ap length h.1 ∙ encapsulated_length h.0 in
      rw (cut_short (whole bytes) more h.0 h.1 (omega (arith, long, h.2)) some) refl
