-- So many bytes, counts, and lengths with so many bytes behind them; and what is passed over by its format.
use Rattle.std.proofs.Common.{◌≡◌, ℕ, ℤ, pos, negsuc, zero, suc, ◌+◌, ◌≤◌, true, false, if◌then◌else◌, ltb, List, ◌++◌, length, take, Result, Ok, refl, sym, ap, subst, ◌∙◌, arith}
use Rattle.ice_prims.specs.declared.fault.Fault.{Fault}
use Rattle.ice_prims.specs.declared.fault.Kind.TheVariants.{Short, BadSize}
use Rattle.ice_prims.specs.Rest.{Rest, fault, Took, IsBytes, after, bytes_at}
use Rattle.ice_prims.proofs.Parts.{guard_ok, then_ok, ok_is, Took-then, between, IsBytes-front, IsBytes-rest, bytes_found, bytes_only}
use Rattle.ice_encoding.specs.Parts.{Part, IsLawful, int, size, tested}
use Rattle.ice_encoding.specs.Skipping.{so_many, is_natural, natural_of, count, bound_behind, behind, Passes, one, two, four, eight, sized, behind_size, behind_int, over, passed_at}
use Rattle.ice_encoding.proofs.Joined.{lands, not_longer, not_longer_both, int_lawful, size_lawful, made_sorted, tested_lawful}

-- ---- parts

pub so_many_lawful : (n : ℕ) → IsLawful (so_many n)
so_many_lawful n = record {
  found = λ r x fits e. let f = bytes_found n r x e in (x.0, f.0, (refl, f.1));
  only = λ r s bytes v k h. bytes_only n r s v h.1 (rw (← h.0) k);
  sort = λ bytes x fits h. (h.1, rw (← h.0) fits);
  put = λ x is. (refl, is.0);
  shortest = λ bytes x fits h. not_longer x bytes h.0;
}

abbrev natural : Part ℤ
natural = tested is_natural BadSize int

count_again : (z : ℤ) → natural.Is z → natural.Is (pos (natural_of z)) × (natural_of z ≡ natural_of (pos (natural_of z)))
count_again (pos n) is = (is, refl)
count_again (negsuc n) is = absurd (no is.1)
  where
    no : false ≡ true → ⊥
    no e = cc

count_short : (z : ℤ) → natural.Is z → length (natural.put (pos (natural_of z))) ≤ length (natural.put z)
count_short (pos n) is = omega arith
count_short (negsuc n) is = omega arith

pub count_lawful : IsLawful count
count_lawful = made_sorted _ _ _ count_again count_short (tested_lawful _ _ _ int_lawful)

-- ---- a length, and so many bytes

module _ (number : Part ℕ) (law : IsLawful number) where
  -- a bound was opened: the length and all of its bytes are taken
  pub bound_found : (r : Rest) (y : Rest × Rest) → IsBytes r.bytes → bound_behind number r ≡ Ok y → (front : List ℕ) × Took r (front ++ y.0.bytes) y.1 × number.Spells front (length y.0.bytes) × (y.0.place ≡ r.place + length front)
  bound_found r y fits e =
      then_ok (number.read r) (λ n. if ltb (length n.1.bytes) n.0 then fault r.place Short else Ok (record { place = n.1.place; bytes = take n.0 n.1.bytes }, after n.1 n.0)) y e λ n n_is last.
      let bound : Rest = record { place = n.1.place; bytes = take n.0 n.1.bytes } in
      let g = guard_ok (ltb (length n.1.bytes) n.0) (record { place = r.place; kind = Short }) (bound, after n.1 n.0) y last in
      let f = law.found r n fits n_is in
      let there : bytes_at n.0 n.1 ≡ Ok (take n.0 n.1.bytes, after n.1 n.0) = rw g.0 refl in
      let h = bytes_found n.0 n.1 (take n.0 n.1.bytes, after n.1 n.0) there in
      subst (λ (z : Rest × Rest). (front : List ℕ) × Took r (front ++ z.0.bytes) z.1 × number.Spells front (length z.0.bytes) × (z.0.place ≡ r.place + length front)) g.1
      (f.0, Took-then r n.1 (after n.1 n.0) f.0 (take n.0 n.1.bytes) f.1 h.0, subst (λ (m : ℕ). number.Spells f.0 m) (sym h.1) f.2, f.1.moved)

  bound_is : (r m s : Rest) (x : List ℕ) → number.read r ≡ Ok (length x, m) → bytes_at (length x) m ≡ Ok (x, s) → bound_behind number r ≡ Ok (record { place = m.place; bytes = x }, s)
  bound_is r m s x is there =
      let g = guard_ok (ltb (length m.bytes) (length x)) (record { place = m.place; kind = Short }) (take (length x) m.bytes, after m (length x)) (x, s) there in
      rw (is, g.0) (ap (λ (z : List ℕ × Rest). opened m.place z.0 z.1) g.1)
    where
      opened : ℕ → List ℕ → Rest → Result (Rest × Rest) Fault
      opened place bytes s = Ok (record { place = place; bytes = bytes }, s)

  pub bound_only : (r s : Rest) (front x : List ℕ) → Took r (front ++ x) s → number.Spells front (length x) → bound_behind number r ≡ Ok (record { place = r.place + length front; bytes = x }, s)
  bound_only r s front x k h =
      let m = between r s front x k in
      subst (λ (place : ℕ). bound_behind number r ≡ Ok (record { place = place; bytes = x }, s)) m.1.moved (bound_is r m.0 s x (law.only r m.0 front (length x) m.1 h) (bytes_only (length x) m.0 s x refl m.2))

  behind_found : (r : Rest) (y : List ℕ × Rest) → IsBytes r.bytes → (behind number).read r ≡ Ok y → (bytes : List ℕ) × Took r bytes y.1 × (behind number).Spells bytes y.0
  behind_found r y fits e =
      then_ok (bound_behind number r) (λ bound. Ok (bound.0.bytes, bound.1)) y e λ bound bound_is last.
      let f = bound_found r bound fits bound_is in
      lands (behind number).Spells r (bound.0.bytes, bound.1) y (f.0 ++ bound.0.bytes) f.1 (f.0, refl, f.2) last

  behind_only : (r s : Rest) (bytes x : List ℕ) → Took r bytes s → (behind number).Spells bytes x → (behind number).read r ≡ Ok (x, s)
  behind_only r s bytes x k h = rw (bound_only r s h.0 x (rw (← h.1) k) h.2) refl

  pub behind_lawful : IsLawful (behind number)
  behind_lawful = record {
    found = behind_found;
    only = behind_only;
    sort = λ bytes x fits h. let parts : IsBytes (h.0 ++ x) = rw (← h.1) fits in
        (law.sort h.0 (length x) (IsBytes-front h.0 x parts) h.2, IsBytes-rest h.0 x parts);
    put = λ x is. (number.put (length x), refl, law.put (length x) is.0);
    shortest = λ bytes x fits h. let parts : IsBytes (h.0 ++ x) = rw (← h.1) fits in
        not_longer_both h.0 x (number.put (length x)) x bytes h.1 (law.shortest h.0 (length x) (IsBytes-front h.0 x parts) h.2) (omega arith);
  }

-- ---- by format

-- what was passed over is spelled by the bytes that were taken
over_found : {A : Type 0} (part : Part A) → IsLawful part → (r s : Rest) → IsBytes r.bytes → over (part.read r) ≡ Ok s → (bytes : List ℕ) × Took r bytes s × (x : A) × part.Spells bytes x
over_found {A} part law r s fits e =
    then_ok (part.read r) (λ x. Ok x.1) s e λ x x_is last.
    let f = law.found r x fits x_is in
    subst (λ (z : Rest). (bytes : List ℕ) × Took r bytes z × (y : A) × part.Spells bytes y) (ok_is x.1 s last) (f.0, f.1, x.0, f.2)

over_only : {A : Type 0} (part : Part A) → IsLawful part → (r s : Rest) (bytes : List ℕ) (x : A) → Took r bytes s → part.Spells bytes x → over (part.read r) ≡ Ok s
over_only part law r s bytes x k h = rw (law.only r s bytes x k h) refl

as_long : (n : ℕ) (bytes x : List ℕ) → (so_many n).Spells bytes x → length bytes ≡ n
as_long n bytes x h = ap length h.0 ∙ h.1

pub passed_found : (format : ℕ) (r s : Rest) → format ≤ 6 → IsBytes r.bytes → passed_at format r ≡ Ok s → (bytes : List ℕ) × Took r bytes s × Passes format bytes
passed_found zero r s known fits e = let f = over_found (so_many 1) (so_many_lawful 1) r s fits e in (f.0, f.1, one f.0 (as_long 1 f.0 f.2 f.3))
passed_found (suc zero) r s known fits e = let f = over_found (so_many 2) (so_many_lawful 2) r s fits e in (f.0, f.1, two f.0 (as_long 2 f.0 f.2 f.3))
passed_found (suc (suc zero)) r s known fits e = let f = over_found (so_many 4) (so_many_lawful 4) r s fits e in (f.0, f.1, four f.0 (as_long 4 f.0 f.2 f.3))
passed_found (suc (suc (suc zero))) r s known fits e = let f = over_found (so_many 8) (so_many_lawful 8) r s fits e in (f.0, f.1, eight f.0 (as_long 8 f.0 f.2 f.3))
passed_found (suc (suc (suc (suc zero)))) r s known fits e = let f = over_found size size_lawful r s fits e in (f.0, f.1, sized f.0 f.2 f.3)
passed_found (suc (suc (suc (suc (suc zero))))) r s known fits e =
    let f = over_found (behind size) (behind_lawful size size_lawful) r s fits e in (f.0, f.1, behind_size f.0 f.2 f.3)
passed_found (suc (suc (suc (suc (suc (suc zero)))))) r s known fits e =
    let f = over_found (behind count) (behind_lawful count count_lawful) r s fits e in (f.0, f.1, behind_int f.0 f.2 f.3)
passed_found (suc (suc (suc (suc (suc (suc (suc n))))))) r s known fits e = absurd (omega (arith, known))

pub passed_only : (format : ℕ) (r s : Rest) (bytes : List ℕ) → Took r bytes s → Passes format bytes → passed_at format r ≡ Ok s
passed_only _ r s bytes k (one _ long) = over_only (so_many 1) (so_many_lawful 1) r s bytes bytes k (refl, long)
passed_only _ r s bytes k (two _ long) = over_only (so_many 2) (so_many_lawful 2) r s bytes bytes k (refl, long)
passed_only _ r s bytes k (four _ long) = over_only (so_many 4) (so_many_lawful 4) r s bytes bytes k (refl, long)
passed_only _ r s bytes k (eight _ long) = over_only (so_many 8) (so_many_lawful 8) r s bytes bytes k (refl, long)
passed_only _ r s bytes k (sized _ n h) = over_only size size_lawful r s bytes n k h
passed_only _ r s bytes k (behind_size _ value h) = over_only (behind size) (behind_lawful size size_lawful) r s bytes value k h
passed_only _ r s bytes k (behind_int _ value h) = over_only (behind count) (behind_lawful count count_lawful) r s bytes value k h
