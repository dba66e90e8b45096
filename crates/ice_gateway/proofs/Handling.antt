-- One message that is handled.
use Rattle.std.proofs.Common.{◌≡◌, ◌≢◌, ℕ, ◌-◌, ◌^◌, zero, suc, Bool, true, false, List, [], ◌∷◌, ◌++◌, refl, sym, ap, ◌∙◌, subst, arith, append-nil}
use Rattle.std.specs.Prelude.{ℤ, pos, negsuc, Option, Result, Ok, Err}
use Rattle.std.proofs.Math.Facts.{to_z-of_z}
use Rattle.std.proofs.lemmas.Bool.{ltb-true, ltb-false}
use mir.Val.{SFits, of_z, to_z, sel}
use mir.Syntax.{w32}
use lib.Dec.{ltb}
use Rattle.std.specs.Int.{from_le_bytes}
use Rattle.ice_ports.specs.declared.talk.Talk.{Talk}
use Rattle.ice_ports.specs.Talks.{silent}
use Rattle.ice_messages.specs.declared.message.Call.{Call}
use Rattle.ice_messages.specs.declared.message.Answer.{Answer}
use Rattle.ice_messages.specs.declared.message.Message.{Message}
use Rattle.ice_messages.specs.declared.message.Message.TheVariants.{Request, Reply}
use Rattle.ice_messages.specs.Messages.{SpellsMessage}
use Rattle.ice_client.specs.declared.outcome.Outcome.{Outcome}
use Rattle.ice_client.specs.ClientDid.{Tried}
use Rattle.talking.specs.Said.{Says}
use Rattle.ice_gateway.specs.Gate.{Gate}
use Rattle.ice_gateway.specs.Mapped.{Mapped, admitted}
use Rattle.ice_gateway.specs.Forwarded.{forwarded, going, id_anew, request_anew}
use Rattle.ice_gateway.specs.Handled.{Invocation, WasForwarded, WasAnswered, DueStarved, outcome_of, run_of}
use Rattle.ice_gateway.specs.Parts.{Handling, Leaves, Passed}

-- ---- ids

pub id_zero : (id : ℤ) → SFits w32 id → of_z w32 id ≡ 0 → id ≡ pos 0
id_zero id fits e = sym (to_z-of_z fits) ∙ ap (to_z w32) e

pub id_some : (id : ℤ) → (of_z w32 id ≡ 0 → ⊥) → id ≢ pos 0
id_some id ne e = ne (ap (of_z w32) e)

-- any bits are a signed number of the width
always_fits : (b : Bool) (n : ℕ) → ltb n (2 ^ 31) ≡ b → SFits w32 (sel b (pos n) (negsuc (2 ^ 32 - suc n)))
always_fits true n is = record { sfits = omega (arith, ltb-true n (2 ^ 31) is) }
always_fits false n is = record { sfits = omega (arith, ltb-false n (2 ^ 31) is) }

pub request_fits : (bytes : List ℕ) (id : ℤ) (c : Call) → SpellsMessage bytes (Request id c) → SFits w32 id
request_fits bytes id c (zero, head, body, parts, header, most, spelled) =
    let same : id ≡ spelled.0.0 = (let e = spelled.1 in cc) in
    subst (λ (z : ℤ). SFits w32 z) (sym (same ∙ spelled.2.3.1)) (always_fits _ (from_le_bytes w32 spelled.2.0) refl)
request_fits bytes id c (suc zero, head, body, parts, header, most, spelled) = absurd (let e = spelled.1 in cc)
request_fits bytes id c (suc (suc zero), head, body, parts, header, most, spelled) = absurd (let e = spelled.1 in cc)
request_fits bytes id c (suc (suc (suc zero)), head, body, parts, header, most, spelled) = absurd (let e = spelled.1 in cc)
request_fits bytes id c (suc (suc (suc (suc n))), head, body, parts, header, most, spelled) = absurd (let e = spelled.1 in cc)

-- a reply is asked for
asked_anew : (id : ℤ) → id ≢ pos 0 → id_anew id ≡ pos 1
asked_anew (pos zero) ne = absurd (ne refl)
asked_anew (pos (suc n)) ne = refl
asked_anew (negsuc n) ne = refl

answered : (gate : Gate) (id : ℤ) (c : Call) (o : Option Outcome) (answer : Answer) → id ≢ pos 0 → Mapped gate c o answer → WasAnswered gate (Request id c) o (Reply id answer ∷ [])
answered gate (pos zero) c o answer ne mapped = absurd (ne refl)
answered gate (pos (suc n)) c o answer ne mapped = (answer, refl, mapped)
answered gate (negsuc n) c o answer ne mapped = (answer, refl, mapped)

-- ---- a message that was handled, or cut off

none_left : {E : Type 0} (gate : Gate) (r : Result Bool E) → Leaves gate [] [] r
none_left gate (Ok went) = (refl, refl)
none_left gate (Err e) = refl

pub one_handled : {E : Type 0} (gate : Gate) (m : Message) (runs : List (List Tried)) (i : Option Invocation) (said : List Message) (t : Talk) (r : Result Bool E) → runs ≡ run_of i → WasForwarded gate (forwarded gate m) i
    → WasAnswered gate m (outcome_of i) said → Says said t r → Handling gate m runs t r
one_handled gate m runs i said t r invoked was answer says = record {
  handled = record { message = m; invocation = i; replies = said } ∷ [];
  rest = [];
  cut = [];
  taken = refl;
  did = ((was, answer), tt);
  invoked = invoked ∙ (sym (append-nil (run_of i)) ∙ sym (append-nil (run_of i ++ [])));
  left = none_left gate r;
  says = subst (λ (z : List Message). Says z t r) (sym (append-nil said)) says;
}

pub cut_off : {E : Type 0} (gate : Gate) (m : Message) (runs : List (List Tried)) (e : E) → DueStarved gate (forwarded gate m) runs → Handling {E = E} gate m runs silent (Err e)
cut_off gate m runs e starved = record {
  handled = [];
  rest = m ∷ [];
  cut = runs;
  taken = refl;
  did = tt;
  invoked = refl;
  left = starved;
  says = (refl, refl, (refl, refl));
}

pub oneway_cut_off : {E : Type 0} (gate : Gate) (id : ℤ) (c : Call) (runs : List (List Tried)) (e : E) → id ≡ pos 0 → DueStarved gate (request_anew gate (pos 0) (going (admitted gate c))) runs
    → Handling {E = E} gate (Request id c) runs silent (Err e)
oneway_cut_off {E} gate id c runs e is h = subst (λ (z : ℤ). Handling {E = E} gate (Request z c) runs silent (Err e)) (sym is) (cut_off {E = E} gate (Request (pos 0) c) runs e h)

pub request_cut_off : {E : Type 0} (gate : Gate) (id : ℤ) (c : Call) (runs : List (List Tried)) (e : E) → id ≢ pos 0 → DueStarved gate (request_anew gate (pos 1) (going (admitted gate c))) runs
    → Handling {E = E} gate (Request id c) runs silent (Err e)
request_cut_off gate id c runs e ne h =
    cut_off gate (Request id c) runs e (subst (λ (z : ℤ). DueStarved gate (request_anew gate z (going (admitted gate c))) runs) (sym (asked_anew id ne)) h)

-- ---- a message for which no reply is asked

pub passed : {E : Type 0} (gate : Gate) (m : Message) (due : Option Message) (runs : List (List Tried)) → forwarded gate m ≡ due → ((o : Option Outcome) → WasAnswered gate m o []) → Passed gate due runs
    → Handling {E = E} gate m runs silent (Ok true)
passed {E} gate m due runs is unasked h =
    one_handled {E = E} gate m runs h.0 [] silent (Ok true) h.1 (subst (λ (d : Option Message). WasForwarded gate d h.0) (sym is) h.2) (unasked (outcome_of h.0)) (refl, (refl, tt), (refl, refl))

-- a request with id 0
pub oneway_passed : {E : Type 0} (gate : Gate) (id : ℤ) (c : Call) (runs : List (List Tried)) → id ≡ pos 0 → Passed gate (request_anew gate (pos 0) (going (admitted gate c))) runs
    → Handling {E = E} gate (Request id c) runs silent (Ok true)
oneway_passed {E} gate id c runs is h =
    subst (λ (z : ℤ). Handling {E = E} gate (Request z c) runs silent (Ok true)) (sym is) (passed {E = E} gate (Request (pos 0) c) (request_anew gate (pos 0) (going (admitted gate c))) runs refl (λ o. refl) h)

-- ---- a request that asks for one

-- as `Answers` says it of an answer that is there
abbrev pub CameAnswered : Gate → Option Message → (Option Outcome → Answer → Type 0) → List (List Tried) → Answer → Type 0
CameAnswered gate due Is runs answer = (i : Option Invocation) × (runs ≡ run_of i) × WasForwarded gate due i × Is (outcome_of i) answer

pub request_answered : {E : Type 0} (gate : Gate) (id : ℤ) (c : Call) (runs : List (List Tried)) (answer : Answer) (t : Talk) (r : Result Bool E) → id ≢ pos 0
    → CameAnswered gate (request_anew gate (pos 1) (going (admitted gate c))) (Mapped gate c) runs answer → Says (Reply id answer ∷ []) t r → Handling gate (Request id c) runs t r
request_answered gate id c runs answer t r ne h says =
    one_handled gate (Request id c) runs h.0 (Reply id answer ∷ []) t r h.1
    (subst (λ (z : ℤ). WasForwarded gate (request_anew gate z (going (admitted gate c))) h.0) (sym (asked_anew id ne)) h.2) (answered gate id c (outcome_of h.0) answer ne h.3) says
