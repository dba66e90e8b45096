-- Replies can be written of answers.
use Rattle.std.proofs.Common.{◌≡◌, ℕ, zero, suc, ◌≤◌, ◌<◌, ◌^◌, List, ◌++◌, length, refl, sym, ap, subst, arith, length-append}
use Rattle.std.specs.Prelude.{codes}
use Rattle.std.specs.Fmt.{decimal}
use Rattle.std.proofs.lemmas.Bool.{leb-true}
use Rattle.ice_types.specs.declared.identity.Identity.{Identity}
use Rattle.ice_prims.specs.declared.fault.Fault.{Fault}
use Rattle.ice_prims.specs.Kinds.{kind_name}
use Rattle.ice_encoding.specs.Parts.{text}
use Rattle.ice_encoding.specs.Identity as names
use Rattle.ice_messages.specs.declared.message.Answer.{Answer}
use Rattle.ice_messages.specs.declared.message.Answer.TheVariants.{Done, Raised, Missing, Unknown}
use Rattle.ice_messages.specs.Calls as form
use Rattle.ice_messages.specs.Written.{IsAnswer}
use Rattle.object_adapter.specs.Replies.{IsReply}
use Rattle.object_adapter.proofs.Short.{short_reply, fault_short}
use Rattle.ice_gateway.specs.Mapped.{results_text}
use Rattle.ice_gateway.specs.Laws.{CameBack}
use Rattle.ice_gateway.proofs.Lengths.{header_long, text_length, identity_length, facet_length}

-- ---- the text on results

pub results_short : (fault : Fault) → fault.place < 2 ^ 64 → length (results_text fault) ≤ 1000
results_short fault fits =
    let behind = kind_name fault.kind ++ (codes " at " ++ decimal fault.place) in
    let twelve : length (codes "bad results ") ≡ 12 = refl in
    let fourteen : length (codes "bad arguments ") ≡ 14 = refl in
    omega (arith, twelve, fourteen, fault_short fault fits, length-append (codes "bad results ") behind, length-append (codes "bad arguments ") behind)

-- ---- an answer that stays as it was

abbrev pub Stays : Answer → Type 0
Stays (Done body) = ⊥
Stays (Raised body) = ⊥
Stays (Missing status i f o) = Unit {0}
Stays (Unknown status what) = Unit {0}

-- a reply can be written of it, and it is no longer than this
abbrev Stands : ℕ → Answer → Type 0
Stands most a = IsAnswer a × (length (form.answer.put a) ≤ suc most)

missing_long : (status : ℕ) (v : List ℕ) (y : Identity × (List ℕ × List ℕ)) → 2 ≤ status → status ≤ 4 → form.missed.Spells v y
    → length (form.answer.put (Missing status y.0 y.1.0 y.1.1)) ≡ suc (length (names.identity.put y.0 ++ (names.facet.put y.1.0 ++ text.put y.1.1))) → Stands (length v) (Missing status y.0 y.1.0 y.1.1)
missing_long status v y low high (a, b, ab, identity, (d, e, de, facet, operation)) put = (
  (low, high),
  omega (
    arith,
    put,
    identity_length a y.0 identity,
    facet_length d y.1.0 facet,
    text_length e y.1.1 operation,
    ap length ab,
    ap length de,
    length-append a b,
    length-append d e,
    length-append (names.identity.put y.0) (names.facet.put y.1.0 ++ text.put y.1.1),
    length-append (names.facet.put y.1.0) (text.put y.1.1),
  ),
)

stands : (status : ℕ) (v : List ℕ) (a : Answer) → status ≤ 7 → (form.answer_by status).Spells v a → Stays a → Stands (length v) a
stands zero v a few (y, is, spelled) stays = absurd (subst Stays is stays)
stands (suc zero) v a few (y, is, spelled) stays = absurd (subst Stays is stays)
stands (suc (suc zero)) v a few (y, is, spelled) stays = subst (Stands (length v)) (sym is) (missing_long 2 v y (omega arith) (omega arith) spelled refl)
stands (suc (suc (suc zero))) v a few (y, is, spelled) stays = subst (Stands (length v)) (sym is) (missing_long 3 v y (omega arith) (omega arith) spelled refl)
stands (suc (suc (suc (suc zero)))) v a few (y, is, spelled) stays = subst (Stands (length v)) (sym is) (missing_long 4 v y (omega arith) (omega arith) spelled refl)
stands (suc (suc (suc (suc (suc n))))) v a few (y, is, spelled) stays =
    let put : length (form.answer.put (Unknown (suc (suc (suc (suc (suc n))))) y)) ≡ suc (length (text.put y)) = refl in
    subst (Stands (length v)) (sym is) ((omega arith, few), omega (arith, put, text_length v y spelled))

pub came_back : (a : Answer) → CameBack a → Stays a → IsReply a
came_back a (bytes, (zero, head, body, parts, opens, most, spelled)) stays = absurd (let e = spelled.1 in cc)
came_back a (bytes, (suc zero, head, body, parts, opens, most, spelled)) stays = absurd (let e = spelled.1 in cc)
came_back a (bytes, (suc (suc zero), head, body, parts, opens, most, (x, is, (u, v, uv, number, (s, p, q, pq, first, second))))) stays =
    let same : a ≡ x.1 = (let e = is in cc) in
    let standing = stands s q x.1 (leb-true _ _ first.1) second (subst Stays same stays) in
    let one : length p ≡ 1 = ap length first.0.1 in
    let four : length u ≡ 4 = number.0 in
    subst IsReply (sym same) (
      standing.0,
      λ id. short_reply id x.1 (length (form.answer.put x.1)) refl
          (omega (arith, standing.1, header_long head _ opens, one, four, ap length parts, length-append head body, ap length uv, length-append u v, ap length pq, length-append p q, most)),
    )
came_back a (bytes, (suc (suc (suc zero)), head, body, parts, opens, most, spelled)) stays = absurd (let e = spelled.1 in cc)
came_back a (bytes, (suc (suc (suc (suc n))), head, body, parts, opens, most, spelled)) stays = absurd (let e = spelled.1 in cc)
