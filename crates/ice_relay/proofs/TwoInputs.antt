-- What was read of two encapsulations is enough, and no more than that was taken.
use Rattle.std.proofs.Common.{◌≡◌, ℕ, ℤ, pos, ◌+◌, ◌-◌, ◌<◌, ◌≤◌, List, [], ◌++◌, length, drop, Option, None, Some, refl, sym, ap, subst, ◌∙◌, arith, inl, inr, ◌⊎◌}
use Rattle.std.proofs.lemmas.List.{length-append, length-drop, drop-append-le}
use Rattle.std.specs.Io.KnownBytes.{Consumes, Keeps, IsAtEnd}
use Rattle.std.proofs.KnownBytes.{Consumes-nil, Consumes-trans, Consumes-kept}
use Rattle.ice_relay.specs.Streams.{ReadsUpTo, TakesUpTo, Claims, GoesOn, ClaimsMore, BeginsWith, ReadsTwo, AreDecided, TakesTwoFrugally}
use Rattle.ice_relay.proofs.Inputs.{all_new, claims_on}

-- the first bytes were read
first_front : (before now : Option (List ℕ)) (goal : ℕ) (old got : List ℕ) → old ≡ [] → ReadsUpTo goal before now old got → Consumes before now got
first_front before now goal old got none r =
    let parts : got ≡ [] ++ r.more = r.parts ∙ ap (λ (l : List ℕ). l ++ r.more) none in
    subst (λ (l : List ℕ). Consumes before now l) (all_new got r.more parts) r.consumed

more_front : (before mid now : Option (List ℕ)) (goal : ℕ) (old got : List ℕ) → Consumes before mid old → ReadsUpTo goal mid now old got → Consumes before now got
more_front before mid now goal old got front r = subst (λ (l : List ℕ). Consumes before now l) (sym r.parts) (Consumes-trans before mid now old r.more front r.consumed)

-- more bytes begin with the same encapsulation
begins_on : (first got more : List ℕ) (n : ℕ) → got ≡ first ++ more → ClaimsMore first (Some n) → BeginsWith got n
begins_on first got more n e (z, c, on, four) = (z, claims_on first got more z e c, on)

begins_longer : (first got more : List ℕ) (n : ℕ) → got ≡ first ++ more → BeginsWith first n → BeginsWith got n
begins_longer first got more n e (z, c, on) = (z, claims_on first got more z e c, on)

-- ---- no more than the size of the first

pub first_is_enough : (before now : Option (List ℕ)) (old got : List ℕ) → old ≡ [] → ReadsUpTo 4 before now old got → ClaimsMore got None → ReadsTwo before now got
first_is_enough before now old got none r claims = (first_front before now 4 old got none r, enough claims r.enough, inl r.within)
  where
    enough : (length got < 4) ⊎ ((z : ℤ) × Claims got z × ((n : ℕ) → GoesOn z n → ⊥)) → (length got ≡ 4) ⊎ IsAtEnd now → IsAtEnd now ⊎ AreDecided got
    enough (inl few) (inl four) = absurd (omega arith)
    enough (inl few) (inr end) = inl end
    enough (inr c) e = inr (inl c)

-- ---- no more than the size of the second

-- what is behind the first is no more than a size
few_behind : (got : List ℕ) (n : ℕ) → length got ≤ n + 4 → length (drop n got) ≤ 4
few_behind got n within = omega (arith, length-drop n got, within)

pub size_is_enough : (before mid now : Option (List ℕ)) (old first got : List ℕ) (n : ℕ) → old ≡ [] → ReadsUpTo 4 before mid old first → ClaimsMore first (Some n) → ReadsUpTo (n + 4) mid now first got → ClaimsMore (drop n got) None → ReadsTwo before now got
size_is_enough before mid now old first got n none r claims s second =
    let begins = begins_on first got s.more n s.parts claims in
    (more_front before mid now (n + 4) first got (first_front before mid 4 old first none r) s, enough begins second s.enough, inr (n, begins, inl (few_behind got n s.within)))
  where
    enough : BeginsWith got n → (length (drop n got) < 4) ⊎ ((z : ℤ) × Claims (drop n got) z × ((m : ℕ) → GoesOn z m → ⊥)) → (length got ≡ n + 4) ⊎ IsAtEnd now → IsAtEnd now ⊎ AreDecided got
    enough begins (inl few) (inl all) = absurd (omega (arith, few, all, length-drop n got))
    enough begins (inl few) (inr end) = inl end
    enough begins (inr c) e = inr (inr (n, begins, (c.0, c.1, λ m on. absurd (c.2 m on))))

-- ---- the second

-- what is behind the first, with more behind it
behind_on : (got all more : List ℕ) (n : ℕ) → all ≡ got ++ more → length (drop n got) ≡ 4 → drop n all ≡ drop n got ++ more
behind_on got all more n parts four = ap (drop n) parts ∙ drop-append-le n got more (omega (arith, four, length-drop n got))

pub second_is_enough : (before mid last now : Option (List ℕ)) (old first got all : List ℕ) (n m : ℕ) → old ≡ [] → ReadsUpTo 4 before mid old first → ClaimsMore first (Some n) → ReadsUpTo (n + 4) mid last first got → ClaimsMore (drop n got) (Some m)
    → ReadsUpTo ((n + m) + 1) last now got all → ReadsTwo before now all
second_is_enough before mid last now old first got all n m none r claims s second u =
    let front = more_front before mid last (n + 4) first got (first_front before mid 4 old first none r) s in
    let begins = begins_longer got all u.more n u.parts (begins_on first got s.more n s.parts claims) in
    let four : length (drop n got) ≡ 4 = second.3 in
    let behind = behind_on got all u.more n u.parts four in
    let on : Claims (drop n all) second.0 = claims_on (drop n got) (drop n all) u.more second.0 behind second.1 in
    let here : length (drop n all) ≡ length all - n = length-drop n all in
    (more_front before last now ((n + m) + 1) got all front u, enough begins on u.enough, inr (n, begins, inr (second.0, m, on, second.2, omega (arith, here, u.within))))
  where
    enough : BeginsWith all n → Claims (drop n all) second.0 → (length all ≡ (n + m) + 1) ⊎ IsAtEnd now → IsAtEnd now ⊎ AreDecided all
    enough begins on (inr end) = inl end
    enough begins on (inl past) = inr (inr (n, begins, (second.0, on, λ k size. let same : pos k ≡ pos m = sym size.0 ∙ second.2.0 in let number : k ≡ m = cc in omega (arith, past, length-drop n all))))

-- ---- what was taken

pub reads_two_frugally : (before now : Option (List ℕ)) (got : List ℕ) → ReadsTwo before now got → TakesTwoFrugally before now
reads_two_frugally before now got r = (got, r.0, r.2)

pub first_taken : (before now : Option (List ℕ)) (old : List ℕ) → old ≡ [] → TakesUpTo 4 before now old → TakesTwoFrugally before now
first_taken before now old none t = (t.more, t.consumed, inl (omega (arith, t.within)))

pub size_taken : (before mid now : Option (List ℕ)) (old first : List ℕ) (n : ℕ) → old ≡ [] → ReadsUpTo 4 before mid old first → ClaimsMore first (Some n) → TakesUpTo (n + 4) mid now first → TakesTwoFrugally before now
size_taken before mid now old first n none r claims t =
    let got = first ++ t.more in
    let long : length got ≤ n + 4 = omega (arith, length-append first t.more, t.within) in
    (got, Consumes-trans before mid now first t.more (first_front before mid 4 old first none r) t.consumed, inr (n, begins_on first got t.more n refl claims, inl (few_behind got n long)))

pub second_taken : (before mid last now : Option (List ℕ)) (old first got : List ℕ) (n m : ℕ) → old ≡ [] → ReadsUpTo 4 before mid old first → ClaimsMore first (Some n) → ReadsUpTo (n + 4) mid last first got → ClaimsMore (drop n got) (Some m)
    → TakesUpTo ((n + m) + 1) last now got → TakesTwoFrugally before now
second_taken before mid last now old first got n m none r claims s second t =
    let all = got ++ t.more in
    let front = more_front before mid last (n + 4) first got (first_front before mid 4 old first none r) s in
    let begins = begins_longer got all t.more n refl (begins_on first got s.more n s.parts claims) in
    let on : Claims (drop n all) second.0 = claims_on (drop n got) (drop n all) t.more second.0 (behind_on got all t.more n refl second.3) second.1 in
    (all, Consumes-trans before last now got t.more front t.consumed, inr (n, begins, inr (second.0, m, on, second.2, omega (arith, length-drop n all, length-append got t.more, t.within))))

pub nothing_of_two : (before now : Option (List ℕ)) → Keeps before now → TakesTwoFrugally before now
nothing_of_two before now unknown = ([], Consumes-kept before before now [] (Consumes-nil before) unknown, inl (omega arith))
