-- Messages that are said, one behind the other.
use Rattle.std.proofs.Common.{◌≡◌, ℕ, ◌<◌, ◌≤◌, ◌==◌, inl, inr, Bool, true, false, List, [], ◌∷◌, ◌++◌, length, take, drop, refl, sym, ap, ap₂, ◌∙◌, subst, arith, append_assoc, append-nil, take_all, take-append-drop, length-append, length-drop}
use Rattle.std.proofs.lemmas.Bool.{lt-ltb, le-ltb, eqb-true, eqb-false}
use Rattle.std.specs.Prelude.{Result, Ok, Err}
use Rattle.ice_ports.specs.declared.talk.Talk.{Talk}
use Rattle.ice_messages.specs.declared.message.Message.{Message}
use Rattle.ice_messages.specs.Messages.{message_bytes, SpellsMessage}
use Rattle.talking.specs.Writing.{writes_part}
use Rattle.talking.specs.Said.{bytes_of, all_of, AreSpelled, IsSaid, IsSaidBut, IsBegun, IsCut, Says}
use Rattle.talking.specs.Ends.{IsSingle}

-- ---- messages

pub bytes_append : (a b : List Message) → bytes_of (a ++ b) ≡ bytes_of a ++ bytes_of b
bytes_append [] b = refl
bytes_append (m ∷ a) b = ap (λ (z : List ℕ). message_bytes m ++ z) (bytes_append a b) ∙ sym (append_assoc (message_bytes m) (bytes_of a) (bytes_of b))

pub spelled_both : (a b : List Message) → AreSpelled a → AreSpelled b → AreSpelled (a ++ b)
spelled_both [] b h k = k
spelled_both (m ∷ a) b h k = (h.0, spelled_both a b h.1 k)

pub said_then : (a b : List Message) (x y : List ℕ) → IsSaid a x → IsSaid b y → IsSaid (a ++ b) (x ++ y)
said_then a b x y h k = (ap₂ (λ (u v : List ℕ). u ++ v) h.0 k.0 ∙ sym (bytes_append a b), spelled_both a b h.1 k.1)

-- ---- steps

pub all_append : (a b : List (List Message)) → all_of (a ++ b) ≡ all_of a ++ all_of b
all_append [] b = refl
all_append (s ∷ a) b = ap (λ (z : List Message). s ++ z) (all_append a b) ∙ sym (append_assoc s (all_of a) (all_of b))

pub steps_said : (a b : List (List Message)) (x y : List ℕ) → IsSaid (all_of a) x → IsSaid (all_of b) y → IsSaid (all_of (a ++ b)) (x ++ y)
steps_said a b x y h k = subst (λ (z : List Message). IsSaid z (x ++ y)) (sym (all_append a b)) (said_then (all_of a) (all_of b) x y h k)

pub steps_cut : (a b : List (List Message)) (x y : List ℕ) → IsSaid (all_of a) x → IsCut b y → IsCut (a ++ b) (x ++ y)
steps_cut a b x y h k = record {
  before = a ++ k.before;
  last = k.last;
  parts = ap (λ (z : List (List Message)). a ++ z) k.parts ∙ sym (append_assoc a k.before (k.last ∷ []));
  whole = x ++ k.whole;
  begun = k.begun;
  taken_is = ap (λ (z : List ℕ). x ++ z) k.taken_is ∙ sym (append_assoc x k.whole k.begun);
  is_said = steps_said a k.before x k.whole h k.is_said;
  is_begun = k.is_begun;
}

-- nothing was said of steps behind those that were said
pub steps_but : (a b : List (List Message)) (x y : List ℕ) → IsSaid (all_of a) x → IsSingle b → y ≡ [] → IsSaidBut (a ++ b) (x ++ y)
steps_but a b x y h (inl one) none = (a, b, refl, one, subst (λ (z : List ℕ). IsSaid (all_of a) z) (sym (ap (λ (z : List ℕ). x ++ z) none ∙ append-nil x)) h)
steps_but a b x y h (inr quiet) none = (
  a ++ b,
  [],
  sym (append-nil (a ++ b)),
  omega arith,
  steps_said a b x y h (subst (λ (z : List Message). IsSaid z y) (sym quiet) (none, tt)),
)

-- no message was begun where none is said
none_begun : (y : List ℕ) → IsBegun [] y → ⊥
none_begun y k = let l = ap (λ (z : List Message). length z) k.parts in let m = length-append k.before (k.last ∷ []) in omega arith

pub step_begun : (steps : List (List Message)) (y : List ℕ) → IsSingle steps → IsBegun (all_of steps) y → IsCut steps y
step_begun steps y (inr quiet) k = absurd (none_begun y (subst (λ (z : List Message). IsBegun z y) quiet k))
step_begun [] y (inl one) k = absurd (none_begun y k)
step_begun (s ∷ []) y (inl one) k =
    record { before = []; last = s; parts = refl; whole = []; begun = y; taken_is = refl; is_said = (refl, tt); is_begun = subst (λ (z : List Message). IsBegun z y) (append-nil s) k }
step_begun (s ∷ u ∷ more) y (inl one) k = absurd (omega (arith, one))

-- ---- one message

pub said_by_write : (E : Type 0) (m : Message) (bytes : List ℕ) (n : ℕ) (b : Bool) → bytes ≡ message_bytes m → SpellsMessage bytes m → n ≤ length bytes → (n == length bytes) ≡ b → Says {E = E} (m ∷ []) (writes_part bytes n) (Ok b)
said_by_write E m bytes n true is spelled most same =
    let all : n ≡ length bytes = eqb-true n (length bytes) same in
    (refl, (take_all n bytes (omega (arith, all)) ∙ (is ∙ sym (append-nil (message_bytes m))), (subst (λ (z : List ℕ). SpellsMessage z m) is spelled, tt)), (refl, le-ltb n (length bytes) (omega (arith, all))))
said_by_write E m bytes n false is spelled most same =
    let less : n < length bytes = omega (arith, most, eqb-false n (length bytes) same) in (
      refl,
      record {
        before = [];
        last = m;
        parts = refl;
        spelled = (subst (λ (z : List ℕ). SpellsMessage z m) is spelled, tt);
        begun = take n bytes;
        lacks = drop n bytes;
        taken_is = refl;
        last_is = sym is ∙ sym (take-append-drop n bytes);
        some = λ none. let l = ap (λ (z : List ℕ). length z) none in let d = length-drop n bytes in omega (arith, less);
      },
      lt-ltb n (length bytes) less,
    )

pub quiet : {E : Type 0} (ms : List Message) (t : Talk) (r : Result Bool E) → Says ms t r → t.given ≡ []
quiet ms t (Ok true) h = h.0
quiet ms t (Ok false) h = h.0
quiet ms t (Err e) h = h.0
