-- Endpoints are read as they are spelled, and what is put spells them.
use Rattle.std.proofs.Common.{◌≡◌, ℕ, ℤ, pos, negsuc, ◌+◌, ◌≤◌, ◌<◌, Bool, true, false, ◌&&◌, List, [], ◌∷◌, ◌++◌, length, Ok, refl, sym, ap, ◌∙◌, arith}
use Rattle.std.proofs.lemmas.Bool.{eqb-true}
use Rattle.ice_types.specs.declared.proxy.Endpoint.{Endpoint}
use Rattle.ice_types.specs.declared.proxy.Endpoint.TheVariants.{Tcp, Opaque}
use Rattle.ice_prims.specs.Rest.{Rest, Took, IsBytes}
use Rattle.ice_prims.proofs.Parts.{then_ok, ok_is, Took-fits, IsBytes-rest}
use Rattle.ice_encoding.specs.declared.limits.TheConstants.{SMALLEST}
use Rattle.ice_encoding.specs.Parts.{IsLawful, version}
use Rattle.ice_encoding.specs.Bounds.{IsLawfulContent, size_with}
use Rattle.ice_encoding.specs.Endpoint.{is_one, is_tcp, tcp, said_at, SpellsSaid, said_bytes, IsSaid, said, kind_of, endpoint}
use Rattle.ice_encoding.proofs.Joined.{bool_lawful, short_lawful, int_lawful, text_lawful, version_lawful, both_lawful, made_lawful, chosen_lawful}
use Rattle.ice_encoding.proofs.Bounded.{filled_found, filled_only, enclosed_lawful}

tcp_lawful : IsLawful tcp
tcp_lawful = made_lawful _ _ _ (λ x. refl) (both_lawful _ _ text_lawful (both_lawful _ _ int_lawful (both_lawful _ _ int_lawful bool_lawful)))

-- ---- by whether it is TCP

both_true : (a b : Bool) → (a && b) ≡ true → (a ≡ true) × (b ≡ true)
both_true true b e = (refl, e)
both_true false b e = absurd cc

one_is : (kind : ℤ) → is_one kind ≡ true → kind ≡ pos 1
one_is (pos n) e = ap pos (eqb-true n 1 e)
one_is (negsuc n) e = absurd cc

-- TCP has type 1
tcp_is : (kind : ℤ) (v : ℕ × ℕ) → is_tcp kind v ≡ true → kind ≡ pos 1
tcp_is kind v e = one_is kind ((both_true (is_one kind) _ e).0)

at_found : (b : Bool) (kind : ℤ) (v : ℕ × ℕ) (r : Rest) (e : Endpoint) → IsBytes r.bytes → said_at b kind v r ≡ Ok e → SpellsSaid b kind v r.bytes e
at_found true kind v r e fits is = filled_found tcp tcp_lawful r e fits is
at_found false kind v r e fits is = sym (ok_is _ e is)

at_only : (b : Bool) (kind : ℤ) (v : ℕ × ℕ) (r : Rest) (e : Endpoint) → SpellsSaid b kind v r.bytes e → said_at b kind v r ≡ Ok e
at_only true kind v r e h = filled_only tcp tcp_lawful r e h
at_only false kind v r e h = rw h refl

at_kind : (b : Bool) (kind : ℤ) (v : ℕ × ℕ) (bytes : List ℕ) (e : Endpoint) → is_tcp kind v ≡ b → SpellsSaid b kind v bytes e → kind_of e ≡ kind
at_kind true kind v bytes e test h = rw h.1 (sym (tcp_is kind v test))
at_kind false kind v bytes e test h = rw h refl

at_sort : (b : Bool) (kind : ℤ) (v : ℕ × ℕ) (bytes : List ℕ) (e : Endpoint) → is_tcp kind v ≡ b → v.0 < 256 → v.1 < 256 → IsBytes bytes → SpellsSaid b kind v bytes e → IsSaid kind e
at_sort true kind v bytes e test major minor fits h = tcp_sort e (tcp_lawful.sort bytes e fits h) (tcp_is kind v test)
  where
    tcp_sort : (e : Endpoint) → tcp.Is e → kind ≡ pos 1 → IsSaid kind e
    tcp_sort (Tcp host port timeout compress) is same = (same, is)
    tcp_sort (Opaque other major minor bytes) is same = absurd cc
at_sort false kind v bytes e test major minor fits h = rw h (refl, major, minor, test, fits)

at_shortest : (b : Bool) (kind : ℤ) (v : ℕ × ℕ) (bytes : List ℕ) (e : Endpoint) → IsBytes bytes → SpellsSaid b kind v bytes e → length (said_bytes e) ≤ 2 + length bytes
at_shortest true kind v bytes e fits h = rw h.1 (omega (arith, tcp_lawful.shortest bytes _ fits (h.0, refl, h.2)))
at_shortest false kind v bytes e fits h = rw h (omega arith)

-- ---- behind the size

said_found : (kind : ℤ) (r : Rest) (e : Endpoint) → IsBytes r.bytes → (said kind).read r ≡ Ok e → (said kind).Spells r.bytes e
said_found kind r e fits is =
    then_ok (version.read r) (λ v. said_at (is_tcp kind v.0) kind v.0 v.1) e is λ v v_is later.
    let f = version_lawful.found r v fits v_is in
    (v.0, v.1.bytes, f.1.parts ∙ ap (λ (bytes : List ℕ). bytes ++ v.1.bytes) f.2, at_found (is_tcp kind v.0) kind v.0 v.1 e ((Took-fits r v.1 f.0 fits f.1).1) later)

said_only : (kind : ℤ) (r : Rest) (e : Endpoint) → (said kind).Spells r.bytes e → (said kind).read r ≡ Ok e
said_only kind r e h =
    let v = h.0 in
    let behind : Rest = record { place = r.place + 2; bytes = h.1 } in
    let took : Took r (v.0 ∷ v.1 ∷ []) behind = record { parts = h.2; moved = refl } in
    rw (version_lawful.only r behind (v.0 ∷ v.1 ∷ []) v took refl) (at_only (is_tcp kind v) kind v behind e h.3)

said_put : (kind : ℤ) (e : Endpoint) → IsSaid kind e → (said kind).Spells (said_bytes e) e
said_put kind (Tcp host port timeout compress) is = ((1, 1), tcp.put (Tcp host port timeout compress), refl, rw is.0 (tcp_lawful.put (Tcp host port timeout compress) is.1))
said_put kind (Opaque other major minor bytes) is = ((major, minor), bytes, refl, rw (is.3, is.0) refl)

pub said_lawful : (kind : ℤ) → IsLawfulContent (said kind)
said_lawful kind = record {
  found = said_found kind;
  only = said_only kind;
  sort = λ bytes e fits h. let all : IsBytes (h.0.0 ∷ h.0.1 ∷ h.1) = rw (← h.2) fits in
      at_sort (is_tcp kind h.0) kind h.0 h.1 e refl (all 0) (all 1) (IsBytes-rest (h.0.0 ∷ h.0.1 ∷ []) h.1 all) h.3;
  put = said_put kind;
  shortest = λ bytes e fits h. let all : IsBytes (h.0.0 ∷ h.0.1 ∷ h.1) = rw (← h.2) fits in
      omega (arith, ap length h.2, at_shortest (is_tcp kind h.0) kind h.0 h.1 e (IsBytes-rest (h.0.0 ∷ h.0.1 ∷ []) h.1 all) h.3);
}

-- a version at least
said_least : (kind : ℤ) (e : Endpoint) → IsSaid kind e → SMALLEST ≤ size_with (said kind) e
said_least kind (Tcp host port timeout compress) is = omega arith
said_least kind (Opaque other major minor bytes) is = omega arith

pub endpoint_lawful : IsLawful endpoint
endpoint_lawful = chosen_lawful _ _ _ short_lawful (λ kind. enclosed_lawful (said kind) (said_lawful kind) (said_least kind))
    (λ kind a b e first second. at_kind (is_tcp kind second.6.0) kind second.6.0 second.6.1 e refl second.6.3)
