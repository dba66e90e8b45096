-- Contents behind a version, and encapsulations of them.
use Rattle.std.proofs.Common.{◌≡◌, ℕ, pos, ◌+◌, ◌-◌, ◌≤◌, List, [], ◌∷◌, ◌++◌, length, Ok, refl, sym, ap, subst, ◌∙◌, arith}
use Rattle.std.specs.Prelude.{FitsSigned}
use Rattle.std.specs.Int.{w32}
use Rattle.std.proofs.lemmas.List.{length-append}
use Rattle.ice_prims.specs.Rest.{Rest, ◌>>=◌, Took, IsBytes, bound_at, bytes_at}
use Rattle.ice_prims.specs.Number.{signed_at, SpellsSigned}
use Rattle.ice_prims.specs.Bytes.{signed_bytes}
use Rattle.ice_prims.proofs.Parts.{then_ok, ok_is, between, Took-then, Took-fits, IsBytes-rest, bytes_found, bytes_only}
use Rattle.ice_prims.proofs.Spelled.{int_exact}
use Rattle.ice_encoding.specs.declared.limits.TheConstants.{LARGEST, SIZE_BYTES, SMALLEST}
use Rattle.ice_encoding.specs.Parts.{IsLawful}
use Rattle.ice_encoding.specs.Bounds.{claimed, Content, IsLawfulContent}
use Rattle.ice_encoding.specs.Opening.{encoding, versioned, encapsulated, opened_at, encapsulated_bytes}
use Rattle.ice_encoding.proofs.Joined.{exactly_lawful, int_lawful}
use Rattle.ice_encoding.proofs.Bounded.{claimed_ok, claimed_is, enclosed_lawful}

pub encoding_lawful : IsLawful encoding
encoding_lawful = exactly_lawful _ _

module _ {A : Type 0} (content : Content A) (law : IsLawfulContent content) where
  versioned_found : (r : Rest) (x : A) → IsBytes r.bytes → (versioned content).read r ≡ Ok x → (versioned content).Spells r.bytes x
  versioned_found r x fits e =
      then_ok (encoding.read r) (λ v. content.read v.1) x e λ v v_is last.
      let f = encoding_lawful.found r v fits v_is in
      (v.1.bytes, f.1.parts ∙ ap (λ (bytes : List ℕ). bytes ++ v.1.bytes) f.2, law.found v.1 x ((Took-fits r v.1 f.0 fits f.1).1) last)

  versioned_only : (r : Rest) (x : A) → (versioned content).Spells r.bytes x → (versioned content).read r ≡ Ok x
  versioned_only r x h =
      let behind : Rest = record { place = r.place + 2; bytes = h.0 } in
      let took : Took r (1 ∷ 1 ∷ []) behind = record { parts = h.1; moved = refl } in
      rw (encoding_lawful.only r behind (1 ∷ 1 ∷ []) tt took refl) (law.only behind x h.2)

  behind_version : (bytes inside : List ℕ) → IsBytes bytes → bytes ≡ 1 ∷ 1 ∷ inside → IsBytes inside
  behind_version bytes inside fits is = IsBytes-rest (1 ∷ 1 ∷ []) inside (subst IsBytes is fits)

  pub versioned_lawful : IsLawfulContent (versioned content)
  versioned_lawful = record {
    found = versioned_found;
    only = versioned_only;
    sort = λ bytes x fits h. law.sort h.0 x (behind_version bytes h.0 fits h.1) h.2;
    put = λ x is. (content.put x, refl, law.put x is);
    shortest = λ bytes x fits h. omega (arith, ap length h.1, law.shortest h.0 x (behind_version bytes h.0 fits h.1) h.2);
  }

  pub encapsulated_lawful : IsLawful (encapsulated content)
  encapsulated_lawful = enclosed_lawful (versioned content) versioned_lawful (λ x is. omega arith)

-- ---- in parts

-- what is put for a content is its bytes, encapsulated
pub encapsulated_is : {A : Type 0} (content : Content A) (x : A) → (encapsulated content).put x ≡ encapsulated_bytes (content.put x)
encapsulated_is content x = let same : SIZE_BYTES + length (1 ∷ 1 ∷ content.put x) ≡ SMALLEST + length (content.put x) = omega arith in rw same refl

-- what was opened
pub record Opens (r : Rest) (x : Rest × Rest) : Type 0 where
  pub taken : Took r (encapsulated_bytes x.0.bytes) x.1
  pub place : x.0.place ≡ r.place + SMALLEST
  pub large : SMALLEST + length x.0.bytes ≤ LARGEST

-- from the size that was read, the bound that it counts, and what stands behind the version in it
opens : (r claimed bound inside behind : Rest) (claim version : List ℕ) (n : ℕ) → Took r claim claimed → SpellsSigned w32 claim (pos n) → IsBytes claim → Took claimed bound.bytes behind → bound.place ≡ claimed.place → length bound.bytes ≡ n - SIZE_BYTES
    → Took bound version inside → version ≡ 1 ∷ 1 ∷ [] → SMALLEST ≤ n → n ≤ LARGEST → Opens r (inside, behind)
opens r claimed bound inside behind claim version n first spelled fits second begins long third is small large =
    let held : bound.bytes ≡ 1 ∷ 1 ∷ inside.bytes = third.parts ∙ ap (λ (bytes : List ℕ). bytes ++ inside.bytes) is in
    let total : n ≡ SMALLEST + length inside.bytes = omega (arith, ap length held, long, small) in
    let size : claim ≡ signed_bytes w32 (pos (SMALLEST + length inside.bytes)) = int_exact.once claim (pos n) fits spelled ∙ ap (λ (m : ℕ). signed_bytes w32 (pos m)) total in
    let all : claim ++ bound.bytes ≡ encapsulated_bytes inside.bytes = ap (λ (bytes : List ℕ). bytes ++ bound.bytes) size ∙ ap (λ (bytes : List ℕ). signed_bytes w32 (pos (SMALLEST + length inside.bytes)) ++ bytes) held in
    record {
      taken = subst (λ (bytes : List ℕ). Took r bytes behind) all (Took-then r claimed behind claim bound.bytes first second);
      place = omega (arith, third.moved, begins, first.moved, spelled.0, ap length is);
      large = omega (arith, total, large);
    }

pub opened_found : (r : Rest) (x : Rest × Rest) → IsBytes r.bytes → opened_at r ≡ Ok x → Opens r x
opened_found r x fits e =
    then_ok (signed_at w32 r) (λ claim. claimed r.place (length r.bytes) SMALLEST claim.0 >>= λ n. bound_at (n - SIZE_BYTES) claim.1 >>= λ bound. encoding.read bound.0 >>= λ version. Ok (version.1, bound.1)) x e λ claim claim_is a.
    then_ok (claimed r.place (length r.bytes) SMALLEST claim.0) (λ n. bound_at (n - SIZE_BYTES) claim.1 >>= λ bound. encoding.read bound.0 >>= λ version. Ok (version.1, bound.1)) x a λ n n_is b.
    claimed_ok r.place (length r.bytes) SMALLEST claim.0 n n_is λ same large there small.
    then_ok (bound_at (n - SIZE_BYTES) claim.1) (λ bound. encoding.read bound.0 >>= λ version. Ok (version.1, bound.1)) x b λ bound bound_is c.
    then_ok (bytes_at (n - SIZE_BYTES) claim.1) (λ bytes. Ok (record { place = claim.1.place; bytes = bytes.0 }, bytes.1)) bound bound_is λ bytes bytes_are at_bound.
    then_ok (encoding.read bound.0) (λ version. Ok (version.1, bound.1)) x c λ version version_is last.
    let f = int_lawful.found r claim fits claim_is in
    let g = bytes_found (n - SIZE_BYTES) claim.1 bytes bytes_are in
    let there_is = ok_is _ _ at_bound in
    let behind = (Took-fits r claim.1 f.0 fits f.1).1 in
    let k = Took-fits claim.1 bytes.1 bytes.0 behind g.0 in
    let h = encoding_lawful.found bound.0 version (subst (λ (z : Rest × Rest). IsBytes z.0.bytes) there_is k.0) version_is in
    subst (λ (z : Rest × Rest). Opens r z) (ok_is _ _ last)
    (opens r claim.1 bound.0 version.1 bound.1 f.0 h.0 n f.1 (subst (λ z. SpellsSigned w32 f.0 z) same f.2) ((Took-fits r claim.1 f.0 fits f.1).0)
    (subst (λ (z : Rest × Rest). Took claim.1 z.0.bytes z.1) there_is g.0) (ap (λ (z : Rest × Rest). z.0.place) (sym there_is)) (ap (λ (z : Rest × Rest). length z.0.bytes) (sym there_is) ∙ g.1)
    h.1 h.2 small large)

pub opened_only : (r s : Rest) (content : List ℕ) → SMALLEST + length content ≤ LARGEST → Took r (encapsulated_bytes content) s → opened_at r ≡ Ok (record { place = r.place + SMALLEST; bytes = content }, s)
opened_only r s content large k =
    let n = SMALLEST + length content in
    let claim = signed_bytes w32 (pos n) in
    let fits : FitsSigned w32 (pos n) = omega (arith, large) in
    let spelled = int_exact.put (pos n) fits in
    let m = between r s claim (1 ∷ 1 ∷ content) k in
    let there : n ≤ length r.bytes = omega (arith, ap length k.parts, length-append (encapsulated_bytes content) s.bytes, length-append claim (1 ∷ 1 ∷ content), spelled.0) in
    let inside : Rest = record { place = r.place + SMALLEST; bytes = content } in
    let bound : Rest = record { place = m.0.place; bytes = 1 ∷ 1 ∷ content } in
    let version : Took bound (1 ∷ 1 ∷ []) inside = record { parts = refl; moved = omega (arith, m.1.moved, spelled.0) } in
    rw (
      int_exact.only r m.0 claim (pos n) m.1 spelled,
      claimed_is r.place (length r.bytes) SMALLEST n large there (omega arith),
      bytes_only (n - SIZE_BYTES) m.0 s (1 ∷ 1 ∷ content) (omega arith) m.2,
      encoding_lawful.only bound inside (1 ∷ 1 ∷ []) tt version refl,
    ) refl
