-- Pieces stand for something, or break before one of them, and before that one alone.
use Rattle.std.proofs.Common.{◌≡◌, [], ◌∷◌, ◌++◌, Ok, Err, ◌⊎◌, inl, inr, refl, sym, ap, subst, ◌∙◌, append_assoc}
use Rattle.std.proofs.lemmas.List.{append-nil}
use Rattle.ice_proxy.specs.Pieces.{Piece, Pieces}
use Rattle.ice_proxy.specs.Breaks.{Begins, Refuses, Breaks}
use Rattle.ice_proxy.proofs.PieceLaws.{Stop, Reading, first, answered, Lawful}
use Rattle.ice_proxy.proofs.PieceProxy.{AtEnd}

regroup : (before : Pieces) (p : Piece) (more : Pieces) → (before ++ p ∷ []) ++ more ≡ before ++ p ∷ more
regroup before p more = append_assoc before (p ∷ []) more

-- one of two fronts of a list is a front of the other
fronts : (a b c d : Pieces) → a ++ b ≡ c ++ d → ((a ≡ c) × (b ≡ d)) ⊎ (((p : Piece) × (m : Pieces) × (c ≡ a ++ p ∷ m) × (b ≡ (p ∷ m) ++ d)) ⊎ ((p : Piece) × (m : Pieces) × (a ≡ c ++ p ∷ m) × (d ≡ (p ∷ m) ++ b)))
fronts [] b [] d e = inl (refl, e)
fronts [] b (p ∷ c) d e = inr (inl (p, c, refl, e))
fronts (p ∷ a) b [] d e = inr (inr (p, a, refl, sym e))
fronts (x ∷ a) b (y ∷ c) d e =
    let first : x ≡ y = cc in
    let rest : a ++ b ≡ c ++ d = cc in
    elim (fronts a b c d rest) [
      | inl h ↦ let one = h.0 in inl (cc, h.1)
      | inr h ↦ elim h [
        | inl k ↦ let one = k.2 in inr (inl (k.0, k.1, cc, k.3))
        | inr k ↦ let one = k.2 in inr (inr (k.0, k.1, cc, k.3))
      ]
    ]

module _ {A : Type 0} (P : Pieces → A → Type 0) where
  -- what begins something, with fewer pieces
  begins_front : (front more : Pieces) → Begins P (front ++ more) → Begins P front
  begins_front front more h = (more ++ h.0, h.1, subst (λ (z : Pieces). P z h.1) (append_assoc front more h.0) h.2)

  -- a break with fewer pieces before it is none
  shorter_break : (ps before behind front : Pieces) (p : Piece) (m rest : Pieces) → Breaks P ps before behind → before ≡ front ++ p ∷ m → Refuses P front (p ∷ rest) → ⊥
  shorter_break ps before behind front p m rest b e refused =
      let alive = b.alive in
      refused (begins_front (front ++ p ∷ []) m (subst (Begins P) (e ∙ sym (regroup front p m)) (alive.0, alive.1, alive.3)))

  refuses_at : (before behind : Pieces) (p : Piece) (m : Pieces) → behind ≡ p ∷ m → Refuses P before behind → Refuses P before (p ∷ m)
  refuses_at before behind p m e h = subst (λ (z : Pieces). Refuses P before z) e h

  -- pieces break in one place at most
  pub one_break : (ps before behind others rest : Pieces) → Breaks P ps before behind → Breaks P ps others rest → (before ≡ others) × (behind ≡ rest)
  one_break ps before behind others rest a b =
      elim (fronts before behind others rest (sym a.parts ∙ b.parts)) [
        | inl h ↦ h
        | inr h ↦ elim h [
          | inl k ↦ absurd (shorter_break ps others rest before k.0 k.1 (k.1 ++ rest) b k.2 (refuses_at before behind k.0 (k.1 ++ rest) k.3 a.refused))
          | inr k ↦ absurd (shorter_break ps before behind others k.0 k.1 (k.1 ++ behind) a k.2 (refuses_at others rest k.0 (k.1 ++ behind) k.3 b.refused))
        ]
      ]

  -- pieces that stand for something do not break
  pub never_both : (ps : Pieces) (x : A) (before behind : Pieces) → P ps x → Breaks P ps before behind → ⊥
  never_both ps x before behind h b = by behind b.parts b.refused
    where
      by : (behind : Pieces) → ps ≡ before ++ behind → Refuses P before behind → ⊥
      by [] parts refused = refused x (subst (λ (z : Pieces). P z x) (parts ∙ append-nil before) h)
      by (p ∷ behind) parts refused = refused (behind, x, subst (λ (z : Pieces). P z x) (parts ∙ sym (regroup before p behind)) h)

  module _ (r : Pieces → Reading A) (g : Lawful P r AtEnd) where
    pub reads : (ps : Pieces) (x : A) → P ps x → r ps ≡ Ok (x, [])
    reads ps x h = ap r (sym (append-nil ps)) ∙ g.only ps [] x h refl

    pub stands : (ps : Pieces) (x : A) → r ps ≡ Ok (x, []) → P ps x
    stands ps x e =
        let t = g.found ps [] x e in
        subst (λ (z : Pieces). P z x) (sym (t.parts ∙ append-nil t.taken)) t.spelled

    apart : (ps : Pieces) (x : A) (s : Stop) → r ps ≡ Err s → P ps x → ⊥
    apart ps x s e h = let two = reads ps x h in absurd (ok_err (sym two ∙ e))
      where
        ok_err : ◌≡◌ {A = Reading A} (Ok (x, [])) (Err s) → ⊥
        ok_err e = cc

    -- nothing begins with pieces behind which reading refuses the next one
    stuck : (before behind : Pieces) → ((other : Pieces) → first behind ≡ first other → (s : Stop) × (r (before ++ other) ≡ Err s)) → Refuses P before behind
    stuck before [] kept = λ x h. let k = kept [] refl in apart before x k.0 (ap r (sym (append-nil before)) ∙ k.1) h
    stuck before (p ∷ behind) kept = λ h.
        let k = kept (p ∷ h.0) refl in
        apart ((before ++ p ∷ []) ++ h.0) h.1 k.0 (ap r (regroup before p h.0) ∙ k.1) h.2

    pub breaks : (ps : Pieces) (stop : Stop) → r ps ≡ Err stop → (before : Pieces) × Breaks P ps before stop.behind
    breaks ps stop e =
        let s = g.stopped ps stop e in
        (s.front, record { parts = s.parts; alive = (s.more, s.value, s.real, s.spelled); refused = stuck s.front stop.behind s.kept })

    -- what breaks is refused there
    pub refused : (ps before behind : Pieces) → ((x : A) (rest : Pieces) → r ps ≡ Ok (x, rest) → rest ≡ []) → Breaks P ps before behind → (stop : Stop) × (r ps ≡ Err stop) × (stop.behind ≡ behind)
    refused ps before behind ends b = by (r ps) refl
      where
        ended : (x : A) (rest : Pieces) → r ps ≡ Ok (x, rest) → rest ≡ [] → r ps ≡ Ok (x, [])
        ended x rest e none = e ∙ ap (answered x) none

        by : (m : Reading A) → r ps ≡ m → (stop : Stop) × (r ps ≡ Err stop) × (stop.behind ≡ behind)
        by (Ok x) e = absurd (never_both ps x.0 before behind (stands ps x.0 (ended x.0 x.1 e (ends x.0 x.1 e))) b)
        by (Err stop) e = let c = breaks ps stop e in let same = one_break ps c.0 stop.behind before behind c.1 b in (stop, e, same.1)
