-- What was read is enough, and no more than that was taken.
use Rattle.std.proofs.Common.{◌≡◌, ℕ, ℤ, pos, ◌+◌, ◌-◌, ◌<◌, ◌≤◌, List, [], ◌++◌, length, take, Option, None, Some, Result, Ok, Err, OnErr, refl, sym, ap, subst, ◌∙◌, append_assoc, arith, inl, inr, ◌⊎◌}
use Rattle.std.proofs.lemmas.List.{length-append, length-take}
use Rattle.std.specs.Io.KnownBytes.{Consumes, Keeps, IsAtEnd}
use Rattle.ice_relay.specs.Streams.{ReadsUpTo, TakesUpTo, Claims, GoesOn, ClaimsMore, IsDecided, ReadsInput, TakesFrugally}
use Rattle.std.proofs.KnownBytes.{Consumes-nil, Consumes-trans, Consumes-kept}

pub all_new : (got more : List ℕ) → got ≡ [] ++ more → more ≡ got
all_new got more e = sym e

pub first_is_enough : (before now : Option (List ℕ)) (old got : List ℕ) → old ≡ [] → ReadsUpTo 4 before now old got → ClaimsMore got None → ReadsInput before now got
first_is_enough before now old got none r claims =
    let parts : got ≡ [] ++ r.more = r.parts ∙ ap (λ (l : List ℕ). l ++ r.more) none in
    let consumed : Consumes before now got = subst (λ (l : List ℕ). Consumes before now l) (all_new got r.more parts) r.consumed in
    (consumed, enough claims r.enough, inl r.within)
  where
    enough : (length got < 4) ⊎ ((z : ℤ) × Claims got z × ((n : ℕ) → GoesOn z n → ⊥)) → (length got ≡ 4) ⊎ IsAtEnd now → IsAtEnd now ⊎ IsDecided got
    enough (inl few) (inl four) = absurd (omega arith)
    enough (inl few) (inr end) = inl end
    enough (inr c) e = inr (c.0, c.1, λ n s. absurd (c.2 n s))

pub claims_on : (first got more : List ℕ) (z : ℤ) → got ≡ first ++ more → Claims first z → Claims got z
claims_on first got more z e c = record {
  size = c.size;
  more = c.more ++ more;
  parts = e ∙ ap (λ (l : List ℕ). l ++ more) c.parts ∙ append_assoc c.size c.more more;
  spelled = c.spelled;
}

pub rest_is_enough : (before mid now : Option (List ℕ)) (old first got : List ℕ) (n : ℕ) → old ≡ [] → ReadsUpTo 4 before mid old first → ClaimsMore first (Some n) → ReadsUpTo (n + 1) mid now first got → ReadsInput before now got
rest_is_enough before mid now old first got n none r claims s =
    let parts : first ≡ [] ++ r.more = r.parts ∙ ap (λ (l : List ℕ). l ++ r.more) none in
    let front : Consumes before mid first = subst (λ (l : List ℕ). Consumes before mid l) (all_new first r.more parts) r.consumed in
    let consumed : Consumes before now got = subst (λ (l : List ℕ). Consumes before now l) (sym s.parts) (Consumes-trans before mid now first s.more front s.consumed) in
    let on = claims_on first got s.more claims.0 s.parts claims.1 in
    (consumed, enough on s.enough, inr (claims.0, n, on, claims.2, s.within))
  where
    enough : Claims got claims.0 → (length got ≡ n + 1) ⊎ IsAtEnd now → IsAtEnd now ⊎ IsDecided got
    enough on (inl past) = inr (claims.0, on, λ k size. let same : pos k ≡ pos n = sym size.0 ∙ claims.2.0 in let number : k ≡ n = cc in omega arith)
    enough on (inr end) = inl end

-- ---- what was taken

pub reads_frugally : (before now : Option (List ℕ)) (got : List ℕ) → ReadsInput before now got → TakesFrugally before now
reads_frugally before now got r = (got, r.0, r.2)

pub first_is_frugal : (before now : Option (List ℕ)) (old : List ℕ) → old ≡ [] → TakesUpTo 4 before now old → TakesFrugally before now
first_is_frugal before now old none t = (t.more, t.consumed, inl (omega (arith, t.within)))

pub rest_is_frugal : (before mid now : Option (List ℕ)) (old first : List ℕ) (n : ℕ) → old ≡ [] → ReadsUpTo 4 before mid old first → ClaimsMore first (Some n) → TakesUpTo (n + 1) mid now first → TakesFrugally before now
rest_is_frugal before mid now old first n none r claims t =
    let parts : first ≡ [] ++ r.more = r.parts ∙ ap (λ (l : List ℕ). l ++ r.more) none in
    let front : Consumes before mid first = subst (λ (l : List ℕ). Consumes before mid l) (all_new first r.more parts) r.consumed in
    let on = claims_on first (first ++ t.more) t.more claims.0 refl claims.1 in
    (first ++ t.more, Consumes-trans before mid now first t.more front t.consumed, inr (claims.0, n, on, claims.2, omega (arith, length-append first t.more, t.within)))

pub nothing_is_frugal : (before now : Option (List ℕ)) → Keeps before now → TakesFrugally before now
nothing_is_frugal before now unknown = ([], Consumes-kept before before now [] (Consumes-nil before) unknown, inl (omega arith))

-- a read that failed took nothing more
pub fails_within : (before mid now : Option (List ℕ)) (goal : ℕ) (old more : List ℕ) → length old + length more ≤ goal → Consumes before mid more → Keeps mid now → TakesUpTo goal before now old
fails_within before mid now goal old more within consumed unknown =
    record { more = more; within = within; consumed = Consumes-kept before mid now more consumed unknown }

pub on_err : {T E P : Type 0} (r : Result T E) → P → OnErr r P
on_err (Ok x) p = tt
on_err (Err e) p = p

-- bytes were read, and there was no memory to keep them
pub lost_within : (before mid now : Option (List ℕ)) (goal : ℕ) (old there more piece : List ℕ) (n : ℕ) → there ≡ old ++ more → n ≤ goal - length there → length there ≤ goal → Consumes before mid more → Consumes mid now (take n piece) → TakesUpTo goal before now old
lost_within before mid now goal old there more piece n parts small within first then =
    let long : length there ≡ length old + length more = ap length parts ∙ length-append old more in
    let taken : length (take n piece) ≤ n = omega (arith, length-take n piece) in
    record { more = more ++ take n piece; within = omega (arith, long, taken, small, within, length-append more (take n piece)); consumed = Consumes-trans before mid now more (take n piece) first then }
