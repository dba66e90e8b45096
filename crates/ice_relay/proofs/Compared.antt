-- What comes of comparing the graphs of two encapsulations.
use Rattle.std.proofs.Common.{◌≡◌, ℕ, ℤ, pos, ◌+◌, ◌≤◌, ◌<◌, List, [], ◌∷◌, ◌++◌, length, drop, Bool, Result, Ok, Err, Vec, refl, sym, ap, subst, ◌∙◌, arith, inl, inr}
use Rattle.std.proofs.lemmas.List.{drop_at}
use Rattle.std.specs.Prelude.{◌↔◌, IsTrue}
use Rattle.std.specs.declared.alloc.Global.{Global}
use Rattle.ice_types.specs.declared.kind.TypeRef.{TypeRef}
use Rattle.ice_types.specs.declared.declarations.Member.{Member}
use Rattle.ice_types.specs.declared.declarations.Shape.{Shape}
use Rattle.ice_types.specs.Tables.{Tables}
use Rattle.ice_types.specs.Rules.{IsSchema}
use Rattle.ice_prims.specs.declared.fault.Fault.{Fault}
use Rattle.ice_prims.specs.declared.fault.ReadFault.{ReadFault}
use Rattle.ice_prims.specs.declared.fault.ReadFault.TheVariants as read_faults
use Rattle.ice_prims.specs.Rest.{Rest, whole, IsBytes}
use Rattle.ice_prims.specs.Taking.{Fails}
use Rattle.ice_prims.proofs.Parts.{IsBytes-front, IsBytes-rest}
use Rattle.ice_encoding.specs.declared.limits.TheConstants.{SMALLEST}
use Rattle.ice_encoding.proofs.Encapsulations.{encapsulated_length}
use Rattle.ice_encoding.specs.Encapsulation.{encapsulated_at}
use Rattle.ice_encoding.specs.Graph.{Graph}
use Rattle.ice_encoding.specs.Flags.{all_slices}
use Rattle.ice_encoding.specs.Instances.{graph_at, numbered_at}
use Rattle.ice_encoding.specs.CanonicalGraph.{sliced}
use Rattle.ice_encoding.specs.SameGraph.{Same}
use Rattle.ice_encoding.proofs.Graphs.{next_found, next_only, last_found, last_only}
use Rattle.graph_laws.proofs.Schemas.{read_equal_is_same}
use Rattle.value_parts.specs.Shapes.{told_apart}
use Rattle.class_slices.specs.Encoding.{Writes}
use Rattle.class_slices.specs.declared.write_fault.WriteFault.{WriteFault}
use Rattle.class_slices.specs.declared.write_fault.WriteFault.TheVariants as write_faults
use Rattle.ice_relay.specs.declared.comparing.TheConstants.{MOST_COMPARED}
use Rattle.ice_relay.specs.Faults.{of_read, of_write}
use Rattle.ice_relay.specs.Relaying.{root_of, one_value, Holds, canonical_bytes}
use Rattle.ice_relay.specs.Comparing.{HoldTwo, next_held, two_held, size_of, Compares}
use Rattle.ice_relay.specs.Streams.{Claims, GoesOn, IsDecided, AreDecided}
use Rattle.ice_relay.proofs.Holding.{claims_length}
use Rattle.ice_relay.proofs.Decided.{left}
use Rattle.ice_relay.proofs.Twice.{claims_front}

module _ (t : Tables) (kind : TypeRef) (input : List ℕ) where
  -- ---- the graphs

  pub two_found : (g h : Graph) (behind : Rest) → IsBytes input → next_held t kind (whole input) ≡ Ok (g, behind) → numbered_at t all_slices (one_value kind) behind ≡ Ok h → HoldTwo t kind input g h
  two_found g h behind fits first second =
      let found = next_found t all_slices (one_value kind) (whole input) (g, behind) fits first in
      let parts : input ≡ found.0 ++ behind.bytes = found.1.parts in
      let later : IsBytes behind.bytes = IsBytes-rest found.0 behind.bytes (subst IsBytes parts fits) in
      (found.0, behind.bytes, parts, found.2, last_found t all_slices (one_value kind) behind h later second)

  -- ---- why there are none

  first_fails : (fault : ReadFault) → Fails fault (next_held t kind (whole input)) → Compares t kind input (Err (of_read fault))
  first_fails read_faults.Memory e = tt
  first_fails (read_faults.Broken fault) e = rw e refl

  second_fails : (g : Graph) (behind : Rest) (fault : ReadFault) → next_held t kind (whole input) ≡ Ok (g, behind) → Fails fault (numbered_at t all_slices (one_value kind) behind) → Compares t kind input (Err (of_read fault))
  second_fails g behind read_faults.Memory first e = tt
  second_fails g behind (read_faults.Broken fault) first e = rw (first, e) refl

  -- ---- their canonical encapsulations

  module _ (g h : Graph) (both : HoldTwo t kind input g h) where
    first_unwritten : (fault : WriteFault) → Writes t (one_value kind) sliced g MOST_COMPARED (Err fault) → Compares t kind input (Err (of_write fault))
    first_unwritten write_faults.Memory e = tt
    first_unwritten (write_faults.UnknownNeedsSliced n) e = absurd e.0
    first_unwritten (write_faults.TooLong n) e = (g, h, both, (e.2, inl e.1))

    second_unwritten : (a : Vec ℕ Global) (fault : WriteFault) → Writes t (one_value kind) sliced g MOST_COMPARED (Ok a) → Writes t (one_value kind) sliced h MOST_COMPARED (Err fault) → Compares t kind input (Err (of_write fault))
    second_unwritten a write_faults.Memory first e = tt
    second_unwritten a (write_faults.UnknownNeedsSliced n) first e = absurd e.0
    second_unwritten a (write_faults.TooLong n) first e = (g, h, both, (e.2, inr (omega (arith, ap length first.1, first.2), e.1)))

    compared : (a b : Vec ℕ Global) (same : Bool) → IsSchema t → IsBytes input → Writes t (one_value kind) sliced g MOST_COMPARED (Ok a) → Writes t (one_value kind) sliced h MOST_COMPARED (Ok b) → (IsTrue same ↔ (a.items ≡ b.items)) → Compares t kind input (Ok same)
    compared a b same rules fits first second test =
        let all : IsBytes (both.0 ++ both.1) = subst IsBytes both.2 fits in
        let small : size_of t kind g ≤ MOST_COMPARED = omega (arith, ap length first.1, first.2) in
        let other : size_of t kind h ≤ MOST_COMPARED = omega (arith, ap length second.1, second.2) in
        let tell : (canonical_bytes t kind sliced g ≡ canonical_bytes t kind sliced h) ↔ Same g h = read_equal_is_same t all_slices (one_value kind) sliced both.0 both.1 g h rules (IsBytes-front both.0 both.1 all) (IsBytes-rest both.0 both.1 all) both.3 both.4 (λ n lt. tt) (λ n lt. tt) (omega (arith, small)) in
        (g, h, both, (small, other), (λ yes. tell.0 (sym first.1 ∙ test.0 yes ∙ second.1), λ s. test.1 (first.1 ∙ tell.1 s ∙ sym second.1)))

-- ---- what two encapsulations are

-- the first is as long as the first four bytes claim
first_claims : (t : Tables) (kind : TypeRef) (first second : List ℕ) (g : Graph) (z : ℤ) → Holds t kind first g → Claims (first ++ second) z → GoesOn z (length first)
first_claims t kind first second g z h c =
    let long : length first ≡ SMALLEST + length h.0 = ap length h.1 ∙ encapsulated_length h.0 in
    claims_length t kind first g z (claims_front first second z (omega (arith, long)) c) h

module _ (t : Tables) (kind : TypeRef) where
  -- what they hold is read
  pub two_only : (input : List ℕ) (g h : Graph) → HoldTwo t kind input g h → two_held t kind input ≡ Ok (g, h)
  two_only input g h (first, second, parts, one, other) =
      let behind = left (0 + length first) second in
      let read : next_held t kind (whole input) ≡ Ok (g, behind) = next_only t all_slices (one_value kind) (whole input) behind first g (record { parts = parts; moved = refl }) one in
      rw (read, last_only t all_slices (one_value kind) behind h other) refl

  -- and no first fault is decided
  pub never_decided : (got : List ℕ) (g h : Graph) → HoldTwo t kind got g h → AreDecided got → ⊥
  never_decided got g h (first, second, parts, one, other) (inl (z, c, never)) = never (length first) (first_claims t kind first second g z one (subst (λ (l : List ℕ). Claims l z) parts c))
  never_decided got g h (first, second, parts, one, other) (inr (n, (z, c, on), decided)) =
      let claimed = first_claims t kind first second g z one (subst (λ (l : List ℕ). Claims l z) parts c) in
      let number : length first ≡ n = same_number (length first) n (sym claimed.0 ∙ on.0) in
      let behind : drop n got ≡ second = ap (drop n) parts ∙ drop_at first second n number in
      passed second h other (subst IsDecided behind decided)
    where
      same_number : (a b : ℕ) → pos a ≡ pos b → a ≡ b
      same_number a b e = cc

      passed : (second : List ℕ) (h : Graph) → Holds t kind second h → IsDecided second → ⊥
      passed second h other (z, c, past) = let below : length second < length second = past (length second) (claims_length t kind second h z c other) in omega arith

-- ---- from what each step answers, where the member is the one that stands for a value

abbrev shape_of : Member → Shape
shape_of root = told_apart (record { required = root ∷ []; optional = [] })

module _ (t : Tables) (kind : TypeRef) (root : Member) (is : root ≡ root_of kind) (input : List ℕ) (start : Rest) (from : start ≡ whole input) where
  by_shape : (P : Shape → Type 0) → P (shape_of root) → P (one_value kind)
  by_shape P = subst P (ap shape_of is)

  abbrev next_at : Shape → Rest → Result (Graph × Rest) Fault
  next_at shape = encapsulated_at (graph_at t all_slices shape)

  first_is : (g : Graph) (behind : Rest) → next_at (shape_of root) start ≡ Ok (g, behind) → next_held t kind (whole input) ≡ Ok (g, behind)
  first_is g behind e = subst (λ (r : Rest). next_held t kind r ≡ Ok (g, behind)) from (by_shape (λ s. next_at s start ≡ Ok (g, behind)) e)

  pub first_broken : (fault : ReadFault) → Fails fault (next_at (shape_of root) start) → Compares t kind input (Err (of_read fault))
  first_broken fault e = first_fails t kind input fault (subst (λ (r : Rest). Fails fault (next_held t kind r)) from (by_shape (λ s. Fails fault (next_at s start)) e))

  pub second_broken : (g : Graph) (behind : Rest) (fault : ReadFault) → next_at (shape_of root) start ≡ Ok (g, behind) → Fails fault (numbered_at t all_slices (shape_of root) behind) → Compares t kind input (Err (of_read fault))
  second_broken g behind fault first e = second_fails t kind input g behind fault (first_is g behind first) (by_shape (λ s. Fails fault (numbered_at t all_slices s behind)) e)

  module _ (fits : IsBytes input) (g h : Graph) (behind : Rest) (first : next_at (shape_of root) start ≡ Ok (g, behind)) (second : numbered_at t all_slices (shape_of root) behind ≡ Ok h) where
    held : HoldTwo t kind input g h
    held = two_found t kind input g h behind fits (first_is g behind first) (by_shape (λ s. numbered_at t all_slices s behind ≡ Ok h) second)

    written : (k : Graph) (result : Result (Vec ℕ Global) WriteFault) → Writes t (shape_of root) sliced k MOST_COMPARED result → Writes t (one_value kind) sliced k MOST_COMPARED result
    written k result = by_shape (λ s. Writes t s sliced k MOST_COMPARED result)

    pub first_long : (fault : WriteFault) → Writes t (shape_of root) sliced g MOST_COMPARED (Err fault) → Compares t kind input (Err (of_write fault))
    first_long fault e = first_unwritten t kind input g h held fault (written g (Err fault) e)

    pub second_long : (a : Vec ℕ Global) (fault : WriteFault) → Writes t (shape_of root) sliced g MOST_COMPARED (Ok a) → Writes t (shape_of root) sliced h MOST_COMPARED (Err fault) → Compares t kind input (Err (of_write fault))
    second_long a fault e f = second_unwritten t kind input g h held a fault (written g (Ok a) e) (written h (Err fault) f)

    pub both_written : (a b : Vec ℕ Global) (same : Bool) → IsSchema t → Writes t (shape_of root) sliced g MOST_COMPARED (Ok a) → Writes t (shape_of root) sliced h MOST_COMPARED (Ok b) → (IsTrue same ↔ (a.items ≡ b.items)) → Compares t kind input (Ok same)
    both_written a b same rules e f test = compared t kind input g h held a b same rules fits (written g (Ok a) e) (written h (Ok b) f) test
