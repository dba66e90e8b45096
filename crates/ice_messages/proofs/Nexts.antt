-- What stands next, step by step.
use Rattle.std.proofs.Common.{◌≡◌, ℕ, ℤ, ◌+◌, ◌≤◌, ◌<◌, Bool, true, false, cond, ltb, leb, List, [], ◌∷◌, ◌++◌, length, take, drop, ◌-◌, Option, None, Some, Result, Ok, Err, refl, sym, subst, ap, ◌∙◌, arith}
use Rattle.std.specs.Result.{IfOk}
use Rattle.std.proofs.lemmas.Bool.{le-ltb, lt-ltb, leb-true, leb-false}
use Rattle.std.proofs.lemmas.List.{drop_at, length-append, length-drop}
use Rattle.std.proofs.Math.Seq.{take-length}
use Rattle.ice_prims.specs.declared.fault.Fault.{Fault}
use Rattle.ice_prims.specs.declared.fault.ReadFault.{ReadFault}
use Rattle.ice_prims.specs.declared.fault.ReadFault.TheVariants as faults
use Rattle.ice_prims.specs.Rest.{Rest, ◌>>=◌, IsBytes, whole, after}
use Rattle.ice_prims.specs.Taking.{Fails, GivesUnlessMemory}
use Rattle.ice_encoding.specs.declared.limits.TheConstants.{LARGEST}
use Rattle.ice_encoding.specs.Bounds.{claimed, ended}
use Rattle.ice_messages.specs.declared.message.Message.{Message}
use Rattle.ice_messages.specs.declared.message.TheConstants.{HEADER_BYTES}
use Rattle.ice_messages.specs.Messages.{header, message_at, whole_message_at}
use Rattle.ice_messages.specs.Streams.{good_header, counted, next_at}
use Rattle.ice_messages.specs.Next.{whole_next, size_counted, StandsNext, IsCounted}
use Rattle.ice_prims.proofs.Parts.{Took-fits, then_ok}
use Rattle.ice_messages.specs.Written.{IsOrderly}
use Rattle.ice_messages.proofs.Orderly.{orderly}
use Rattle.ice_messages.proofs.Whole.{message_found, message_sort}
use Rattle.ice_messages.proofs.Streams.{whole_header}

-- fewer bytes than a header has
module _ (bytes : List ℕ) (few : length bytes < HEADER_BYTES) where
  pub few_good : (y : (ℕ × ℤ) × Rest) → header.read (whole (bytes ++ drop (length bytes) good_header)) ≡ Ok y → next_at bytes ≡ Ok None
  few_good y h = let less : ltb (length bytes) HEADER_BYTES ≡ true = lt-ltb _ _ few in rw (h, less) refl

  pub few_bad : (e : Fault) → header.read (whole (bytes ++ drop (length bytes) good_header)) ≡ Err e → next_at bytes ≡ Err e
  few_bad e h = rw h refl

-- a whole header
module _ (bytes : List ℕ) (long : HEADER_BYTES ≤ length bytes) where
  abbrev after_header : (ℕ × ℤ) × Rest → Result (Option (Message × Rest)) Fault
  after_header head = cond (ltb (length bytes) HEADER_BYTES) (Ok None) (claimed 10 LARGEST HEADER_BYTES head.0.1 >>= counted bytes)

  -- by the size that it counts
  by_size : (h : Result ((ℕ × ℤ) × Rest) Fault) → header.read (whole bytes) ≡ h → next_at bytes ≡ ((h >>= λ head. claimed 10 LARGEST HEADER_BYTES head.0.1) >>= counted bytes)
  by_size (Err e) h = ap (λ (s : Result ((ℕ × ℤ) × Rest) Fault). s >>= after_header) (whole_header bytes long ∙ h)
  by_size (Ok y) h =
      let enough : ltb (length bytes) HEADER_BYTES ≡ false = le-ltb _ _ long in
      ap (λ (s : Result ((ℕ × ℤ) × Rest) Fault). s >>= after_header) (whole_header bytes long ∙ h)
      ∙ ap (λ (b : Bool). cond b (Ok None) (claimed 10 LARGEST HEADER_BYTES y.0.1 >>= counted bytes)) enough

  next_counted : (size : Result ℕ Fault) → size_counted bytes ≡ size → next_at bytes ≡ (size >>= counted bytes)
  next_counted size is = by_size (header.read (whole bytes)) refl ∙ ap (λ (q : Result ℕ Fault). q >>= counted bytes) is

  pub size_bad : (e : Fault) → size_counted bytes ≡ Err e → next_at bytes ≡ Err e
  size_bad e is = next_counted (Err e) is

  tested_count : (n : ℕ) (b : Bool) → leb n (length bytes) ≡ b → size_counted bytes ≡ Ok n → next_at bytes ≡ counted bytes n → IsCounted (Ok b) bytes
  tested_count n true e size is = let all : ltb (length bytes) n ≡ false = le-ltb _ _ (leb-true _ _ e) in (is ∙ ap (λ (b : Bool). cond b (Ok None) (whole_next bytes)) all, (n, size, leb-true _ _ e))
  tested_count n false e size is = let less : ltb (length bytes) n ≡ true = lt-ltb _ _ (leb-false _ _ e) in is ∙ ap (λ (b : Bool). cond b (Ok None) (whole_next bytes)) less

  pub is_counted : (n : ℕ) → size_counted bytes ≡ Ok n → IsCounted (Ok (leb n (length bytes))) bytes
  is_counted n is = tested_count n (leb n (length bytes)) refl is (next_counted (Ok n) is)

-- ---- the message

pub next_fails : (e : ReadFault) (bytes : List ℕ) → IsCounted (Ok true) bytes → Fails e (message_at (whole bytes)) → StandsNext (Err e) bytes
next_fails faults.Memory bytes is h = is.1
next_fails (faults.Broken f) bytes is h = is.0 ∙ (rw h refl)

pub next_is : (bytes : List ℕ) (m : Message) (r : Rest) → IsBytes bytes → next_at bytes ≡ whole_next bytes → message_at (whole bytes) ≡ Ok (m, r) → (next_at bytes ≡ Ok (Some (m, after (whole bytes) r.place))) × (r.place ≤ length bytes) × IsOrderly m
next_is bytes m r fits is h =
    let f = message_found (whole bytes) (m, r) fits h in
    let place : r.place ≡ length f.0 = omega (arith, f.1.moved) in
    let behind : drop r.place bytes ≡ r.bytes = ap (λ (z : List ℕ). drop r.place z) f.1.parts ∙ drop_at f.0 r.bytes r.place (sym place) in
    let same : after (whole bytes) r.place ≡ r = ap (λ (z : List ℕ). record { place = 0 + r.place; bytes = z }) behind ∙ ap (λ (p : ℕ). record { place = p; bytes = r.bytes }) (omega arith) in
    (is ∙ (rw (h, same) refl), omega (arith, place, ap length f.1.parts, length-append f.0 r.bytes), orderly m (message_sort f.0 m ((Took-fits (whole bytes) r f.0 fits f.1).0) f.2))

-- all that is left behind a place
pub cut_all : (xs : List ℕ) (n : ℕ) → take (length xs - n) (drop n xs) ≡ drop n xs
cut_all xs n = ap (λ (m : ℕ). take m (drop n xs)) (sym (length-drop n xs)) ∙ take-length (drop n xs)

-- a whole message that was read
ended_same : {A : Type 0} (left : List ℕ) (place : ℕ) (x y : A) → ended left place x ≡ Ok y → x ≡ y
ended_same [] place x y e = cc
ended_same (b ∷ bs) place x y e = absurd cc

pub read_orderly : (bytes : List ℕ) (r : Result Message ReadFault) → IsBytes bytes → GivesUnlessMemory (λ m. m) r (whole_message_at (whole bytes)) → IfOk r IsOrderly
read_orderly bytes (Err e) fits h = tt
read_orderly bytes (Ok m) fits h =
    then_ok (message_at (whole bytes)) (λ x. ended x.1.bytes x.1.place x.0) m h λ x x_is last.
    let f = message_found (whole bytes) x fits x_is in
    subst IsOrderly (ended_same x.1.bytes x.1.place x.0 m last) (orderly x.0 (message_sort f.0 x.0 ((Took-fits (whole bytes) x.1 f.0 fits f.1).0) f.2))
