-- What stands behind a length that counts it.
use Rattle.std.proofs.Common.{◌≡◌, ℕ, ◌+◌, ◌≤◌, false, ltb, List, [], ◌∷◌, ◌++◌, length, Result, Ok, refl, sym, ap, subst, ◌∙◌, arith, append-nil}
use Rattle.std.proofs.lemmas.Bool.{le-ltb}
use Rattle.std.proofs.lemmas.List.{length-append}
use Rattle.ice_prims.specs.declared.fault.Fault.{Fault}
use Rattle.ice_prims.specs.Rest.{Rest, ◌>>=◌, Took, IsBytes}
use Rattle.ice_prims.specs.Number.{SpellsSize}
use Rattle.ice_prims.proofs.Parts.{then_ok, ok_is, between, Took-fits, IsBytes-rest}
use Rattle.ice_encoding.specs.Parts.{Part, IsLawful, size}
use Rattle.ice_encoding.specs.Bounds.{ended}
use Rattle.ice_encoding.specs.Skipping.{count, bound_behind}
use Rattle.ice_encoding.proofs.Joined.{size_lawful}
use Rattle.ice_encoding.proofs.Passed.{count_lawful, bound_found, bound_only}
use Rattle.ice_encoding.specs.Port.{Reader, Speller}
use Rattle.ice_encoding.proofs.Values.{Lawful}
use Rattle.ice_encoding.specs.Prefixes.{Prefix, no_length, own_size, as_size, as_int, prefixed, Prefixed, counted, framed, Framed}

ended_ok : {A C : Type 0} (bytes : List ℕ) (place : ℕ) (x y : A) → ended bytes place x ≡ Ok y → (bytes ≡ [] → x ≡ y → C) → C
ended_ok [] place x y e go = go refl (ok_is x y e)
ended_ok (byte ∷ bytes) place x y e go = absurd cc

-- it begins with a size, and has as many bytes behind it
abbrev pub HasOwnSize : {S A : Type 0} → Speller S A → Type 0
HasOwnSize {S} {A} Spells = (bytes : List ℕ) (v : A) (from to : S) → Spells bytes v from to → (n : ℕ) × (front body : List ℕ) × (bytes ≡ front ++ body) × SpellsSize front n × (n ≤ length body)

module _ {R S A : Type 0} (seen : R → S) (read : Reader R A) (Spells : Speller S A) (one : Lawful seen read Spells) where
  module _ (number : Part ℕ) (law : IsLawful number) where
    prefixed_found : (s : R) (r : Rest) (y : A × R × Rest) → IsBytes r.bytes → prefixed number read s r ≡ Ok y → (bytes : List ℕ) × Took r bytes y.2 × Prefixed number Spells bytes y.0 (seen s) (seen y.1)
    prefixed_found s r y fits e =
        then_ok (bound_behind number r) (λ bound. read s bound.0 >>= λ x. ended x.2.bytes x.2.place (x.0, x.1, bound.1)) y e λ bound bound_is a.
        then_ok (read s bound.0) (λ x. ended x.2.bytes x.2.place (x.0, x.1, bound.1)) y a λ x x_is last.
        ended_ok x.2.bytes x.2.place (x.0, x.1, bound.1) y last λ none same.
        let b = bound_found number law r bound fits bound_is in
        let inside : IsBytes bound.0.bytes = IsBytes-rest b.0 bound.0.bytes ((Took-fits r bound.1 (b.0 ++ bound.0.bytes) fits b.1).0) in
        let f = one.found s bound.0 x inside x_is in
        let all : f.0 ≡ bound.0.bytes = sym (f.1.parts ∙ ap (λ (rest : List ℕ). f.0 ++ rest) none ∙ append-nil f.0) in
        subst (λ (z : A × R × Rest). (bytes : List ℕ) × Took r bytes z.2 × Prefixed number Spells bytes z.0 (seen s) (seen z.1)) same
        (b.0 ++ bound.0.bytes, b.1, (b.0, bound.0.bytes, refl, b.2, subst (λ (bytes : List ℕ). Spells bytes x.0 (seen s) (seen x.1)) all f.2))

    prefixed_is : (s end : R) (r bound at_end after : Rest) (v : A) → bound_behind number r ≡ Ok (bound, after) → read s bound ≡ Ok (v, end, at_end) → at_end.bytes ≡ [] → prefixed number read s r ≡ Ok (v, end, after)
    prefixed_is s end r bound at_end after v bounds is none = rw (bounds, is, none) refl

    prefixed_only : (s : R) (to : S) (r after : Rest) (bytes : List ℕ) (v : A) → Took r bytes after → Prefixed number Spells bytes v (seen s) to → (end : R) × (seen end ≡ to) × (prefixed number read s r ≡ Ok (v, end, after))
    prefixed_only s to r after bytes v k h =
        let bound : Rest = record { place = r.place + length h.0; bytes = h.1 } in
        let at_end : Rest = record { place = r.place + length h.0 + length h.1; bytes = [] } in
        let took : Took bound h.1 at_end = record { parts = sym (append-nil h.1); moved = refl } in
        let o = one.only s to bound at_end h.1 v took h.4 in
        (o.0, o.1, prefixed_is s o.0 r bound at_end after v (bound_only number law r after h.0 h.1 (subst (λ bytes. Took r bytes after) h.2 k) h.3) o.2 refl)

    pub prefixed_lawful : Lawful seen (prefixed number read) (Prefixed number Spells)
    prefixed_lawful = record { found = prefixed_found; only = prefixed_only }

  -- ---- its own size

  counted_is : (s : R) (r m : Rest) (n : ℕ) (x : Result (A × R × Rest) Fault) → size.read r ≡ Ok (n, m) → ltb (length m.bytes) n ≡ false → read s r ≡ x → counted read s r ≡ x
  counted_is s r m n x is there same = rw (is, there) same

  pub counted_lawful : HasOwnSize Spells → Lawful seen (counted read) Spells
  counted_lawful own = record {
    found = λ s r x fits e. then_ok (bound_behind size r) (λ bound. read s r) x e λ bound bound_is last. one.found s r x fits last;
    only = λ s to r after bytes v k h.
        let o = one.only s to r after bytes v k h in
        let n = own bytes v (seen s) to h in
        let m = between r after n.1 n.2 (subst (λ bytes. Took r bytes after) n.3 k) in
        let there : ltb (length m.0.bytes) n.0 ≡ false = le-ltb _ _ (omega (arith, n.5, ap length m.2.parts, length-append n.2 after.bytes)) in
        (o.0, o.1, counted_is s r m.0 n.0 (Ok (v, o.0, after)) (size_lawful.only r m.0 n.1 n.0 m.1 n.4) there o.2);
  }

  pub framed_lawful : (p : Prefix) → (p ≡ own_size → HasOwnSize Spells) → Lawful seen (framed p read) (Framed p Spells)
  framed_lawful no_length own = one
  framed_lawful own_size own = counted_lawful (own refl)
  framed_lawful as_size own = prefixed_lawful size size_lawful
  framed_lawful as_int own = prefixed_lawful count count_lawful
