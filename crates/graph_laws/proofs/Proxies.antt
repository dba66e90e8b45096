-- A fault of a bool, an enumerator, a proxy is read exactly where it has the defect.
use Rattle.std.proofs.Common.{◌≡◌, ℕ, ℤ, pos, zero, suc, ◌+◌, ◌-◌, ◌≤◌, ◌<◌, Bool, true, false, cond, List, [], ◌∷◌, ◌++◌, length, Result, Ok, Err, refl, sym, ap, subst, ◌∙◌, inl, inr, arith}
use Rattle.std.specs.Cmp.{unsigned_Decides}
use Rattle.std.specs.Prelude.{nat_eq, slice_index}
use Rattle.std.specs.Int.{w16, w32, cast_signed, from_le_bytes}
use Rattle.std.proofs.lemmas.Bool.{leb-false, lt-leb}
use Rattle.std.proofs.lemmas.List.{length-append}
use Rattle.std.proofs.lemmas.List.Folds.{Any-from_list_any, list_any-from_Any}
use Rattle.ice_types.specs.declared.declarations.Entry.{Entry}
use Rattle.ice_types.specs.declared.proxy.Endpoint.{Endpoint}
use Rattle.ice_types.specs.declared.identity.Identity.{Identity}
use Rattle.ice_prims.specs.declared.fault.Fault.{Fault}
use Rattle.ice_prims.specs.declared.fault.Kind.TheVariants.{BadBool, BadEnum}
use Rattle.ice_prims.specs.Rest.{Rest, fault, ◌>>=◌, IsBytes, bytes_at, bound_at}
use Rattle.ice_prims.specs.Number.{SpellsSigned, bool_of, bool_at, byte_at, signed_at, size_at}
use Rattle.ice_prims.proofs.Parts.{chosen as choice, then_ok, ok_is, Took-fits, bytes_found, bytes_only}
use Rattle.ice_encoding.specs.declared.limits.TheConstants.{LARGEST, SIZE_BYTES, SMALLEST}
use Rattle.ice_encoding.specs.Bounds.{claimed, enclosed}
use Rattle.ice_encoding.specs.Endpoint.{said_at, said, tcp, endpoint, is_tcp}
use Rattle.ice_encoding.specs.Enum.{HasNumber, has_number, enumerator_at}
use Rattle.ice_encoding.specs.Identity.{identity, facet}
use Rattle.ice_encoding.specs.Parts.{IsLawful, bool, byte, int, short, size, text, version, both, times}
use Rattle.ice_encoding.specs.Proxy.{is_whole, located_by, location, mode, details, named, proxy}
use Rattle.ice_encoding.proofs.Bounded.{claimed_ok, claimed_is}
use Rattle.ice_encoding.proofs.Joined.{bool_lawful, byte_lawful, int_lawful, short_lawful, size_lawful, text_lawful, version_lawful, both_lawful, made_lawful, tested_lawful}
use Rattle.ice_encoding.proofs.Named.{identity_lawful, facet_lawful}
use Rattle.ice_encoding.proofs.Proxied.{mode_lawful}
use Rattle.ice_encoding.proofs.Served.{endpoint_lawful}
use Rattle.graph_laws.specs.Defects.{Defect, At, Lacks, Then, SizeBreaks, TextBreaks, EnclosedBreaks}
use Rattle.graph_laws.specs.Proxies.{BoolBreaks, EnumeratorBreaks, IsNameless, IdentityBreaks, facet_count, FacetBreaks, TcpBreaks, SaidBreaks, ServedBreaks, EndpointBreaks, LocatedBreaks, ModeBreaks, DetailsBreak, NamedBreaks, whole_identity, ProxyBreaks}
use Rattle.graph_laws.proofs.Breaking.{failed, same_err, no_err, then_err, Agrees, then_agrees, made_agrees, both_agrees, tested_agrees, times_agrees, bytes_lack, lacks_agrees, claim_broken, claim_breaks, filled_agrees}
use Rattle.graph_laws.proofs.Primitives.{byte_agrees, int_agrees, size_agrees, text_agrees}
use Rattle.graph_laws.proofs.From.{goes, stops}

-- ---- a bool, an enumerator

bool_broken : (r : Rest) (e : Fault) → IsBytes r.bytes → bool_at r ≡ failed e → BoolBreaks r.place r.bytes e
bool_broken r e fits h = then_err (byte_at r) (λ b. bool_of r.place b.0 b.1) e h
    (λ bad. inl (byte_agrees.broken r e fits bad))
    (λ b b_is later.
    let f = byte_lawful.found r b fits b_is in
    let k = off b.0 b.1 later in
    inr (b.0, f.0, b.1.bytes, f.1.parts, f.2, k.0, k.1))
  where
    off : (b : ℕ) (m : Rest) → bool_of r.place b m ≡ failed e → (1 < b) × At r.place BadBool e
    off zero m h = no_err (false, m) e h
    off (suc zero) m h = no_err (true, m) e h
    off (suc (suc b)) m h = (omega arith, sym (same_err (record { place = r.place; kind = BadBool }) e h))

bool_breaks : (r : Rest) (e : Fault) → BoolBreaks r.place r.bytes e → bool_at r ≡ failed e
bool_breaks r e (inl h) = stops (byte_at r) (λ b. bool_of r.place b.0 b.1) e (byte_agrees.breaks r e h)
bool_breaks r e (inr (b, a, rest, parts, spells, off, at)) =
    let m : Rest = record { place = r.place + length a; bytes = rest } in
    goes (byte_at r) (λ b. bool_of r.place b.0 b.1) (b, m) (byte_lawful.only r m a b (record { parts = parts; moved = refl }) spells) ∙ refused b m off
  where
    refused : (b : ℕ) (m : Rest) → 1 < b → bool_of r.place b m ≡ failed e
    refused zero m off = absurd (omega (arith, off))
    refused (suc zero) m off = absurd (omega (arith, off))
    refused (suc (suc b)) m off = rw at refl

pub bool_agrees : Agrees bool_at BoolBreaks
bool_agrees = record { broken = bool_broken; breaks = bool_breaks }

module _ (entries : List Entry) where
  is_listed : (n : ℕ) → has_number entries n ≡ true → HasNumber entries n
  is_listed n e =
      let h = Any-from_list_any (λ x. nat_eq x.number n) entries e in
      (h.0, h.1, h.2, h.3, (unsigned_Decides h.1.number n).0 h.4)

  listed_is : (n : ℕ) → HasNumber entries n → has_number entries n ≡ true
  listed_is n h = list_any-from_Any (λ x. nat_eq x.number n) entries (h.0, h.1, h.2, h.3, (unsigned_Decides h.1.number n).1 h.4)

  unlisted : (n : ℕ) → has_number entries n ≡ false → HasNumber entries n → ⊥
  unlisted n none there = absurd (differ (sym none ∙ listed_is n there))
    where
      differ : false ≡ true → ⊥
      differ e = cc

  is_unlisted : (n : ℕ) → (HasNumber entries n → ⊥) → has_number entries n ≡ false
  is_unlisted n none = by_test (has_number entries n) refl
    where
      by_test : (b : Bool) → has_number entries n ≡ b → has_number entries n ≡ false
      by_test true is = absurd (none (is_listed n is))
      by_test false is = is

  enumerator_broken : (r : Rest) (e : Fault) → IsBytes r.bytes → enumerator_at entries r ≡ failed e → EnumeratorBreaks entries r.place r.bytes e
  enumerator_broken r e fits h = then_err (size_at r) (λ n. cond (has_number entries n.0) (Ok n) (fault r.place BadEnum)) e h
      (λ bad. inl (size_agrees.broken r e fits bad))
      (λ n n_is later. elim (choice (has_number entries n.0) (Ok n) (fault r.place BadEnum) (Err e) later) [
        | inl good ↦ no_err n e good.1
        | inr bad ↦
            let f = size_lawful.found r n fits n_is in
            inr (n.0, f.0, n.1.bytes, f.1.parts, f.2, unlisted n.0 bad.0, sym (same_err (record { place = r.place; kind = BadEnum }) e bad.1))
      ])

  enumerator_breaks : (r : Rest) (e : Fault) → EnumeratorBreaks entries r.place r.bytes e → enumerator_at entries r ≡ failed e
  enumerator_breaks r e (inl h) = rw (size_agrees.breaks r e h) refl
  enumerator_breaks r e (inr (n, a, rest, parts, spells, off, at)) =
      let m : Rest = record { place = r.place + length a; bytes = rest } in
      let stands : size_at r ≡ Ok (n, m) = size_lawful.only r m a n (record { parts = parts; moved = refl }) spells in
      let none : has_number entries n ≡ false = is_unlisted n off in
      rw (stands, none, at) refl

  pub enumerator_agrees : Agrees (enumerator_at entries) (EnumeratorBreaks entries)
  enumerator_agrees = record { broken = enumerator_broken; breaks = enumerator_breaks }

-- ---- an identity and a facet

nameless : (name category : List ℕ) → is_whole (record { name = name; category = category }) ≡ false → IsNameless (record { name = name; category = category })
nameless [] [] e = absurd cc
nameless [] (c ∷ cs) e = (refl, λ same. absurd cc)
nameless (n ∷ ns) [] e = absurd cc
nameless (n ∷ ns) (c ∷ cs) e = absurd cc

is_nameless : (name category : List ℕ) → IsNameless (record { name = name; category = category }) → is_whole (record { name = name; category = category }) ≡ false
is_nameless [] [] h = absurd (h.1 refl)
is_nameless [] (c ∷ cs) h = refl
is_nameless (n ∷ ns) category h = absurd cc

plain_identity : Agrees identity.read (Then text TextBreaks (λ name. TextBreaks))
plain_identity = made_agrees _ _ (both_agrees text text_lawful TextBreaks text_agrees text TextBreaks text_agrees) _

identity_agrees : Agrees whole_identity.read IdentityBreaks
identity_agrees = tested_agrees _ _ identity identity_lawful _ plain_identity IsNameless (λ i h. nameless i.name i.category h) (λ i h. is_nameless i.name i.category h)

facet_agrees : Agrees facet.read FacetBreaks
facet_agrees = made_agrees _ _ (then_agrees facet_count (tested_lawful _ _ _ size_lawful) _
    (tested_agrees _ _ size size_lawful SizeBreaks size_agrees (λ n. 1 < n) (λ n h. leb-false _ _ h) (λ n h. lt-leb _ _ h))
    (λ n. (times text n).read) (λ n. _) (λ n. times_agrees text text_lawful TextBreaks text_agrees n)) _

-- ---- a size, and what stands in its bound

module _ {B : Type 0} (go_on : Rest × Rest → Result B Fault) (Inside : Defect) (inside : (behind : Rest) → Agrees (λ bound. go_on (bound, behind)) Inside) where
  abbrev counted : Rest → Result B Fault
  counted r = signed_at w32 r >>= λ claim. claimed r.place (length r.bytes) SMALLEST claim.0 >>= λ n. bound_at (n - SIZE_BYTES) claim.1 >>= go_on

  -- behind a size that counts no more than there is
  bound_broken : (r m : Rest) (claim : List ℕ) (n : ℕ) (e : Fault) → IsBytes m.bytes → r.bytes ≡ claim ++ m.bytes → m.place ≡ r.place + length claim → SpellsSigned w32 claim (pos n) → n ≤ LARGEST → n ≤ length r.bytes → SMALLEST ≤ n
      → (bound_at (n - SIZE_BYTES) m >>= go_on) ≡ failed e → EnclosedBreaks Inside r.place r.bytes e
  bound_broken r m claim n e fits parts moved spells large there small h =
      let four : length claim ≡ 4 = spells.0 in
      let long : length r.bytes ≡ length claim + length m.bytes = ap length parts ∙ length-append claim m.bytes in
      then_err (bound_at (n - SIZE_BYTES) m) go_on e h
      (λ bad. then_err (bytes_at (n - SIZE_BYTES) m) (λ b. Ok (record { place = m.place; bytes = b.0 }, b.1)) e bad
      (λ few. let k = bytes_lack (n - SIZE_BYTES) m e few in absurd (omega (arith, k.0, there, long, four)))
      (λ b b_is made. no_err (record { place = m.place; bytes = b.0 }, b.1) e made))
      (λ bound bound_is later.
      then_ok (bytes_at (n - SIZE_BYTES) m) (λ b. Ok (record { place = m.place; bytes = b.0 }, b.1)) bound bound_is λ b b_is at_bound.
      let g = bytes_found (n - SIZE_BYTES) m b b_is in
      let stop : go_on (record { place = m.place; bytes = b.0 }, b.1) ≡ failed e = ap go_on (ok_is _ _ at_bound) ∙ later in
      let d = (inside b.1).broken (record { place = m.place; bytes = b.0 }) e ((Took-fits m b.1 b.0 fits g.0).0) stop in
      let at : m.place ≡ r.place + SIZE_BYTES = moved ∙ ap (λ (k : ℕ). r.place + k) four in
      inr (inr (n, claim, b.0, b.1.bytes, parts ∙ ap (λ (z : List ℕ). claim ++ z) g.0.parts, spells, small, large, omega (arith, g.1, small), subst (λ (p : ℕ). Inside p b.0 e) at d)))

  counted_broken : (r : Rest) (e : Fault) → IsBytes r.bytes → counted r ≡ failed e → EnclosedBreaks Inside r.place r.bytes e
  counted_broken r e fits h = then_err (signed_at w32 r) (λ claim. claimed r.place (length r.bytes) SMALLEST claim.0 >>= λ n. bound_at (n - SIZE_BYTES) claim.1 >>= go_on) e h
      (λ bad. inl (int_agrees.broken r e fits bad))
      (λ claim claim_is later.
      let f = int_lawful.found r claim fits claim_is in
      let left = (Took-fits r claim.1 f.0 fits f.1).1 in
      then_err (claimed r.place (length r.bytes) SMALLEST claim.0) (λ n. bound_at (n - SIZE_BYTES) claim.1 >>= go_on) e later
      (λ bad. inr (inl (claim.0, f.0, claim.1.bytes, f.1.parts, f.2, claim_broken r.place (length r.bytes) SMALLEST claim.0 e bad)))
      (λ n n_is more. claimed_ok r.place (length r.bytes) SMALLEST claim.0 n n_is λ same large there small.
      bound_broken r claim.1 f.0 n e left f.1.parts f.1.moved (subst (λ (z : ℤ). SpellsSigned w32 f.0 z) same f.2) large there small more))

  counted_breaks : (r : Rest) (e : Fault) → EnclosedBreaks Inside r.place r.bytes e → counted r ≡ failed e
  counted_breaks r e (inl h) = stops (signed_at w32 r) (λ claim. claimed r.place (length r.bytes) SMALLEST claim.0 >>= λ n. bound_at (n - SIZE_BYTES) claim.1 >>= go_on) e (int_agrees.breaks r e h)
  counted_breaks r e (inr (inl (z, claim, rest, parts, spells, h))) =
      let m : Rest = record { place = r.place + length claim; bytes = rest } in
      goes (signed_at w32 r) (λ claim. claimed r.place (length r.bytes) SMALLEST claim.0 >>= λ n. bound_at (n - SIZE_BYTES) claim.1 >>= go_on) (z, m) (int_lawful.only r m claim z (record { parts = parts; moved = refl }) spells)
      ∙ stops (claimed r.place (length r.bytes) SMALLEST z) (λ n. bound_at (n - SIZE_BYTES) m >>= go_on) e (claim_breaks r.place (length r.bytes) SMALLEST z e h)
  counted_breaks r e (inr (inr (n, claim, inner, rest, parts, spells, small, large, long, h))) =
      let four : length claim ≡ 4 = spells.0 in
      let m : Rest = record { place = r.place + length claim; bytes = inner ++ rest } in
      let q : Rest = record { place = m.place + length inner; bytes = rest } in
      let bound : Rest = record { place = m.place; bytes = inner } in
      let there : n ≤ length r.bytes = omega (arith, ap length parts, length-append claim (inner ++ rest), length-append inner rest, long, four) in
      let opened : bytes_at (n - SIZE_BYTES) m ≡ Ok (inner, q) = bytes_only (n - SIZE_BYTES) m q inner (omega (arith, long)) (record { parts = refl; moved = refl }) in
      let at : r.place + SIZE_BYTES ≡ m.place = ap (λ (k : ℕ). r.place + k) (sym four) in
      goes (signed_at w32 r) (λ claim. claimed r.place (length r.bytes) SMALLEST claim.0 >>= λ n. bound_at (n - SIZE_BYTES) claim.1 >>= go_on) (pos n, m) (int_lawful.only r m claim (pos n) (record { parts = parts; moved = refl }) spells)
      ∙ goes (claimed r.place (length r.bytes) SMALLEST (pos n)) (λ n. bound_at (n - SIZE_BYTES) m >>= go_on) n (claimed_is r.place (length r.bytes) SMALLEST n large there small)
      ∙ goes (bound_at (n - SIZE_BYTES) m) go_on (bound, q) (goes (bytes_at (n - SIZE_BYTES) m) (λ b. Ok (record { place = m.place; bytes = b.0 }, b.1)) (inner, q) opened)
      ∙ (inside q).breaks bound e (subst (λ (p : ℕ). Inside p inner e) at h)

  pub counted_agrees : Agrees counted (EnclosedBreaks Inside)
  counted_agrees = record { broken = counted_broken; breaks = counted_breaks }

-- ---- endpoints

version_agrees : Agrees version.read (Lacks 2)
version_agrees = lacks_agrees 2 (λ b. (slice_index b 0, slice_index b 1))

pub short_agrees : Agrees short.read (Lacks 2)
short_agrees = lacks_agrees 2 (λ b. cast_signed w16 (from_le_bytes w16 b))

tcp_lawful : IsLawful tcp
tcp_lawful = made_lawful _ _ _ (λ x. refl) (both_lawful _ _ text_lawful (both_lawful _ _ int_lawful (both_lawful _ _ int_lawful bool_lawful)))

tcp_agrees : Agrees tcp.read TcpBreaks
tcp_agrees = made_agrees _ _ (both_agrees text text_lawful TextBreaks text_agrees (both int (both int bool)) _
    (both_agrees int int_lawful (Lacks 4) int_agrees (both int bool) _ (both_agrees int int_lawful (Lacks 4) int_agrees bool BoolBreaks bool_agrees))) _

said_agrees : (is_it : Bool) (kind : ℤ) (v : ℕ × ℕ) → Agrees (said_at is_it kind v) (SaidBreaks is_it)
said_agrees true kind v = filled_agrees tcp.read tcp.Spells (record { found = tcp_lawful.found; only = tcp_lawful.only }) TcpBreaks tcp_agrees
said_agrees false kind v = record { broken = λ r e fits h. no_err _ e h; breaks = λ r e h. absurd h }

served_agrees : (kind : ℤ) → Agrees (said kind).read (ServedBreaks kind)
served_agrees kind = then_agrees version version_lawful (Lacks 2) version_agrees (λ v. said_at (is_tcp kind v) kind v) (λ v. SaidBreaks (is_tcp kind v)) (λ v. said_agrees (is_tcp kind v) kind v)

abbrev served : ℤ → Rest × Rest → Result (Endpoint × Rest) Fault
served kind bound = (said kind).read bound.0 >>= λ x. Ok (x, bound.1)

served_behind : (kind : ℤ) (behind : Rest) → Agrees (λ bound. served kind (bound, behind)) (ServedBreaks kind)
served_behind kind behind = record {
  broken = λ r e fits h. then_err ((said kind).read r) (λ x. Ok (x, behind)) e h (λ bad. (served_agrees kind).broken r e fits bad) (λ x x_is later. no_err (x, behind) e later);
  breaks = λ r e h. stops ((said kind).read r) (λ x. Ok (x, behind)) e ((served_agrees kind).breaks r e h);
}

endpoint_agrees : Agrees endpoint.read EndpointBreaks
endpoint_agrees = then_agrees short short_lawful (Lacks 2) short_agrees (λ kind. (enclosed (said kind)).read) (λ kind. EnclosedBreaks (ServedBreaks kind))
    (λ kind. counted_agrees (served kind) (ServedBreaks kind) (served_behind kind))

located_agrees : (n : ℕ) → Agrees (located_by n).read (LocatedBreaks n)
located_agrees zero = made_agrees _ _ text_agrees _
located_agrees (suc n) = made_agrees _ _ (times_agrees endpoint endpoint_lawful EndpointBreaks endpoint_agrees (suc n)) _

-- ---- a proxy

mode_agrees : Agrees mode.read ModeBreaks
mode_agrees = tested_agrees _ _ byte byte_lawful (Lacks 1) byte_agrees (λ m. 4 < m) (λ m h. leb-false _ _ h) (λ m h. lt-leb _ _ h)

details_agree : Agrees details.read DetailsBreak
details_agree = both_agrees facet facet_lawful FacetBreaks facet_agrees (both mode (both bool (both version (both version location)))) _
    (both_agrees mode mode_lawful ModeBreaks mode_agrees (both bool (both version (both version location))) _
    (both_agrees bool bool_lawful BoolBreaks bool_agrees (both version (both version location)) _
    (both_agrees version version_lawful (Lacks 2) version_agrees (both version location) _
    (both_agrees version version_lawful (Lacks 2) version_agrees location _
    (then_agrees size size_lawful SizeBreaks size_agrees (λ n. (located_by n).read) LocatedBreaks located_agrees)))))

named_agree : (i : Identity) (name : List ℕ) → Agrees (named i name).read (NamedBreaks name)
named_agree i [] = record { broken = λ r e fits h. no_err _ e h; breaks = λ r e h. absurd h }
named_agree i (c ∷ cs) = made_agrees _ _ details_agree _

pub proxy_agrees : Agrees proxy.read ProxyBreaks
proxy_agrees = then_agrees whole_identity (tested_lawful _ _ _ identity_lawful) IdentityBreaks identity_agrees (λ i. (named i i.name).read) (λ i. NamedBreaks i.name) (λ i. named_agree i i.name)
