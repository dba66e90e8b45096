-- A fault of a length with what it counts is read exactly where it has the defect.
use Rattle.std.proofs.Common.{◌≡◌, ℕ, zero, suc, ◌+◌, ◌<◌, ◌⊎◌, true, false, cond, ltb, List, [], ◌∷◌, ◌++◌, length, take, Result, Ok, Err, refl, sym, ap, subst, ◌∙◌, append_assoc, inl, inr, arith}
use Rattle.std.proofs.lemmas.Bool.{ltb-true, lt-ltb, le-ltb, leb-false, lt-leb}
use Rattle.std.proofs.lemmas.List.{length-append}
use Rattle.ice_prims.specs.declared.fault.Fault.{Fault}
use Rattle.ice_prims.specs.declared.fault.Kind.TheVariants.{Short, BadSize, LeftOver}
use Rattle.ice_prims.specs.Rest.{Rest, fault, ◌>>=◌, IsBytes, after, bytes_at}
use Rattle.ice_prims.proofs.Parts.{chosen as choice, Took-fits, IsBytes-rest}
use Rattle.ice_encoding.specs.Bounds.{ended}
use Rattle.ice_encoding.specs.Parts.{Part, IsLawful, int, size}
use Rattle.ice_encoding.specs.Port.{Reader, Speller}
use Rattle.ice_encoding.specs.Skipping.{is_natural, natural_of, count, bound_behind, behind, over, passed_at}
use Rattle.ice_encoding.proofs.Joined.{int_lawful, size_lawful}
use Rattle.ice_encoding.proofs.Passed.{count_lawful, bound_found, bound_only}
use Rattle.ice_encoding.proofs.Values.{Lawful}
use Rattle.ice_encoding.specs.Prefixes.{Prefix, no_length, own_size, as_size, as_int, prefixed, counted, framed}
use Rattle.ice_encoding.specs.Slices.{slice_size}
use Rattle.graph_laws.specs.Defects.{Defect, At, Lacks, SizeBreaks}
use Rattle.graph_laws.specs.Members.{CountBreaks, BoundBreaks, PrefixedBreaks, CountedBreaks, FramedBreaks, PassBreaks}
use Rattle.graph_laws.specs.Slices.{SliceSizeBreaks}
use Rattle.graph_laws.proofs.Breaking.{failed, same_err, no_err, then_err, Agrees, made_agrees, tested_agrees, bytes_lack, lack_bytes}
use Rattle.graph_laws.proofs.Primitives.{int_agrees, size_agrees}
use Rattle.graph_laws.proofs.From.{goes, stops, Tells}

-- ---- lengths

pub count_agrees : Agrees count.read CountBreaks
count_agrees = made_agrees _ _ (tested_agrees is_natural BadSize int int_lawful (Lacks 4) int_agrees (λ z. is_natural z ≡ false) (λ z h. h) (λ z h. h)) natural_of

pub slice_size_agrees : Agrees slice_size.read SliceSizeBreaks
slice_size_agrees = made_agrees _ _ (tested_agrees _ BadSize count count_lawful CountBreaks count_agrees (λ n. n < 4) (λ n h. leb-false _ _ h) (λ n h. lt-leb _ _ h)) _

module _ (number : Part ℕ) (law : IsLawful number) (NumberBreaks : Defect) (agrees : Agrees number.read NumberBreaks) where
  abbrev opened : Rest → ℕ × Rest → Result (Rest × Rest) Fault
  opened r n = cond (ltb (length n.1.bytes) n.0) (fault r.place Short) (Ok (record { place = n.1.place; bytes = take n.0 n.1.bytes }, after n.1 n.0))

  bound_broken : (r : Rest) (e : Fault) → IsBytes r.bytes → bound_behind number r ≡ failed e → BoundBreaks number NumberBreaks r.place r.bytes e
  bound_broken r e fits h = then_err (number.read r) (opened r) e h
      (λ bad. inl (agrees.broken r e fits bad))
      (λ n n_is later. elim (choice (ltb (length n.1.bytes) n.0) (fault r.place Short) (Ok (record { place = n.1.place; bytes = take n.0 n.1.bytes }, after n.1 n.0)) (Err e) later) [
        | inl bad ↦
            let f = law.found r n fits n_is in
            inr (n.0, f.0, n.1.bytes, f.1.parts, f.2, ltb-true _ _ bad.0, sym (same_err (record { place = r.place; kind = Short }) e bad.1))
        | inr good ↦ no_err _ e good.1
      ])

  bound_breaks : (r : Rest) (e : Fault) → BoundBreaks number NumberBreaks r.place r.bytes e → bound_behind number r ≡ failed e
  bound_breaks r e (inl h) = stops (number.read r) (opened r) e (agrees.breaks r e h)
  bound_breaks r e (inr (n, front, rest, parts, spells, few, at)) =
      let m : Rest = record { place = r.place + length front; bytes = rest } in
      let short : ltb (length rest) n ≡ true = lt-ltb _ _ few in
      goes (number.read r) (opened r) (n, m) (law.only r m front n (record { parts = parts; moved = refl }) spells) ∙ (rw (short, at) refl)

  pub bound_agrees : Agrees (bound_behind number) (BoundBreaks number NumberBreaks)
  bound_agrees = record { broken = bound_broken; breaks = bound_breaks }

  behind_agrees : Agrees (behind number).read (BoundBreaks number NumberBreaks)
  behind_agrees = record {
    broken = λ r e fits h. then_err (bound_behind number r) (λ bound. Ok (bound.0.bytes, bound.1)) e h (λ bad. bound_broken r e fits bad) (λ bound bound_is later. no_err (bound.0.bytes, bound.1) e later);
    breaks = λ r e h. stops (bound_behind number r) (λ bound. Ok (bound.0.bytes, bound.1)) e (bound_breaks r e h);
  }

  -- a bound that was opened, and the bytes behind it
  pub opens : (r : Rest) (front body rest : List ℕ) → r.bytes ≡ front ++ (body ++ rest) → number.Spells front (length body)
      → bound_behind number r ≡ Ok (record { place = r.place + length front; bytes = body }, record { place = r.place + length (front ++ body); bytes = rest })
  opens r front body rest parts spells = bound_only number law r (record { place = r.place + length (front ++ body); bytes = rest }) front body (record { parts = parts ∙ sym (append_assoc front body rest); moved = refl }) spells

  -- ---- what fills it, from a state

  module _ {R S A : Type 0} (seen : R → S) (Good : S → Type 0) (read : Reader R A) (Spells : Speller S A) (one : Lawful seen read Spells) (Inside : S → Defect) (inside : Tells seen Good read Inside) where
    abbrev filling : Rest × Rest → A × R × Rest → Result (A × R × Rest) Fault
    filling bound x = ended x.2.bytes x.2.place (x.0, x.1, bound.1)

    over_end : (left : List ℕ) (place : ℕ) (x : A × R × Rest) (e : Fault) → ended left place x ≡ failed e → (byte : ℕ) × (others : List ℕ) × (left ≡ byte ∷ others) × At place LeftOver e
    over_end [] place x e h = no_err x e h
    over_end (b ∷ bs) place x e h = (b, bs, refl, sym (same_err (record { place = place; kind = LeftOver }) e h))

    abbrev Inner : S → ℕ → List ℕ → Fault → Type 0
    Inner from place body fault = Inside from place body fault
        ⊎ ((x : A) × (to : S) × (a : List ℕ) × (byte : ℕ) × (left : List ℕ) × (body ≡ a ++ byte ∷ left) × Spells a x from to × At (place + length a) LeftOver fault)

    inner_broken : (s : R) (bound behind : Rest) (e : Fault) → Good (seen s) → IsBytes bound.bytes → (read s bound >>= filling (bound, behind)) ≡ failed e → Inner (seen s) bound.place bound.bytes e
    inner_broken s bound behind e good fits h = then_err (read s bound) (filling (bound, behind)) e h
        (λ bad. inl (inside.broken s bound e good fits bad))
        (λ x x_is later.
        let f = one.found s bound x fits x_is in
        let o = over_end x.2.bytes x.2.place (x.0, x.1, behind) e later in
        inr (x.0, seen x.1, f.0, o.0, o.1, f.1.parts ∙ ap (λ (z : List ℕ). f.0 ++ z) o.2, f.2, subst (λ (p : ℕ). At p LeftOver e) f.1.moved o.3))

    inner_breaks : (s : R) (bound behind : Rest) (e : Fault) → Inner (seen s) bound.place bound.bytes e → (read s bound >>= filling (bound, behind)) ≡ failed e
    inner_breaks s bound behind e (inl h) = stops (read s bound) (filling (bound, behind)) e (inside.breaks s bound e h)
    inner_breaks s bound behind e (inr (x, to, a, byte, left, parts, spells, at)) =
        let m : Rest = record { place = bound.place + length a; bytes = byte ∷ left } in
        let o = one.only s to bound m a x (record { parts = parts; moved = refl }) spells in
        goes (read s bound) (filling (bound, behind)) (x, o.0, m) o.2 ∙ (rw at refl)

    prefixed_broken : (s : R) (r : Rest) (e : Fault) → Good (seen s) → IsBytes r.bytes → prefixed number read s r ≡ failed e → PrefixedBreaks number NumberBreaks Spells Inside (seen s) r.place r.bytes e
    prefixed_broken s r e good fits h = then_err (bound_behind number r) (λ bound. read s bound.0 >>= filling bound) e h
        (λ bad. inl (bound_broken r e fits bad))
        (λ bound bound_is later.
        let b = bound_found number law r bound fits bound_is in
        let all = (Took-fits r bound.1 (b.0 ++ bound.0.bytes) fits b.1).0 in
        let d = inner_broken s bound.0 bound.1 e good (IsBytes-rest b.0 bound.0.bytes all) later in
        inr (b.0, bound.0.bytes, bound.1.bytes, b.1.parts ∙ append_assoc b.0 bound.0.bytes bound.1.bytes, b.2, subst (λ (p : ℕ). Inner (seen s) p bound.0.bytes e) b.3 d))

    prefixed_breaks : (s : R) (r : Rest) (e : Fault) → PrefixedBreaks number NumberBreaks Spells Inside (seen s) r.place r.bytes e → prefixed number read s r ≡ failed e
    prefixed_breaks s r e (inl h) = stops (bound_behind number r) (λ bound. read s bound.0 >>= filling bound) e (bound_breaks r e h)
    prefixed_breaks s r e (inr (front, body, rest, parts, spells, h)) =
        let bound : Rest = record { place = r.place + length front; bytes = body } in
        let m : Rest = record { place = r.place + length (front ++ body); bytes = rest } in
        goes (bound_behind number r) (λ bound. read s bound.0 >>= filling bound) (bound, m) (opens r front body rest parts spells) ∙ inner_breaks s bound m e h

    pub prefixed_tells : Tells seen Good (prefixed number read) (PrefixedBreaks number NumberBreaks Spells Inside)
    prefixed_tells = record { broken = prefixed_broken; breaks = prefixed_breaks }

-- ---- with its own size, and by prefix

module _ {R S A : Type 0} (seen : R → S) (Good : S → Type 0) (read : Reader R A) (Spells : Speller S A) (one : Lawful seen read Spells) (Inside : S → Defect) (inside : Tells seen Good read Inside) where
  counted_broken : (s : R) (r : Rest) (e : Fault) → Good (seen s) → IsBytes r.bytes → counted read s r ≡ failed e → CountedBreaks Inside (seen s) r.place r.bytes e
  counted_broken s r e good fits h = then_err (bound_behind size r) (λ bound. read s r) e h
      (λ bad. inl ((bound_agrees size size_lawful SizeBreaks size_agrees).broken r e fits bad))
      (λ bound bound_is later.
      let b = bound_found size size_lawful r bound fits bound_is in
      inr (length bound.0.bytes, b.0, bound.0.bytes ++ bound.1.bytes, b.1.parts ∙ append_assoc b.0 bound.0.bytes bound.1.bytes, b.2, omega (arith, length-append bound.0.bytes bound.1.bytes), inside.broken s r e good fits later))

  counted_breaks : (s : R) (r : Rest) (e : Fault) → CountedBreaks Inside (seen s) r.place r.bytes e → counted read s r ≡ failed e
  counted_breaks s r e (inl h) = stops (bound_behind size r) (λ bound. read s r) e ((bound_agrees size size_lawful SizeBreaks size_agrees).breaks r e h)
  counted_breaks s r e (inr (n, front, rest, parts, spells, there, h)) =
      let m : Rest = record { place = r.place + length front; bytes = rest } in
      let enough : ltb (length rest) n ≡ false = le-ltb _ _ there in
      let stands : size.read r ≡ Ok (n, m) = size_lawful.only r m front n (record { parts = parts; moved = refl }) spells in
      rw (stands, enough) (inside.breaks s r e h)

  pub framed_tells : (p : Prefix) → Tells seen Good (framed p read) (FramedBreaks p Spells Inside)
  framed_tells no_length = inside
  framed_tells own_size = record { broken = counted_broken; breaks = counted_breaks }
  framed_tells as_size = prefixed_tells size size_lawful SizeBreaks size_agrees seen Good read Spells one Inside inside
  framed_tells as_int = prefixed_tells count count_lawful CountBreaks count_agrees seen Good read Spells one Inside inside

-- ---- passed over by format

over_agrees : {A : Type 0} (read : Rest → Result (A × Rest) Fault) (Breaks : Defect) → Agrees read Breaks → Agrees (λ r. over (read r)) Breaks
over_agrees read Breaks one = record {
  broken = λ r e fits h. then_err (read r) (λ x. Ok x.1) e h (λ bad. one.broken r e fits bad) (λ x x_is later. no_err x.1 e later);
  breaks = λ r e h. stops (read r) (λ x. Ok x.1) e (one.breaks r e h);
}

some_agree : (n : ℕ) → Agrees (bytes_at n) (Lacks n)
some_agree n = record { broken = λ r e fits h. bytes_lack n r e h; breaks = λ r e h. lack_bytes n r e h }

pub pass_agrees : (format : ℕ) → Agrees (passed_at format) (PassBreaks format)
pass_agrees zero = over_agrees (bytes_at 1) (Lacks 1) (some_agree 1)
pass_agrees (suc zero) = over_agrees (bytes_at 2) (Lacks 2) (some_agree 2)
pass_agrees (suc (suc zero)) = over_agrees (bytes_at 4) (Lacks 4) (some_agree 4)
pass_agrees (suc (suc (suc zero))) = over_agrees (bytes_at 8) (Lacks 8) (some_agree 8)
pass_agrees (suc (suc (suc (suc zero)))) = over_agrees size.read SizeBreaks size_agrees
pass_agrees (suc (suc (suc (suc (suc zero))))) = over_agrees (behind size).read (BoundBreaks size SizeBreaks) (behind_agrees size size_lawful SizeBreaks size_agrees)
pass_agrees (suc (suc (suc (suc (suc (suc n)))))) = over_agrees (behind count).read (BoundBreaks count CountBreaks) (behind_agrees count count_lawful CountBreaks count_agrees)
