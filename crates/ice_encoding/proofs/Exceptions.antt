-- The laws of user exceptions: what stands behind a slice is read to the end of the content.
use Rattle.std.proofs.Common.{◌≡◌, ℕ, zero, suc, ◌≤◌, Bool, true, false, List, [], ◌∷◌, ◌++◌, append-nil, length, map, Option, Some, None, Ok, refl, sym, ap, subst, ◌∙◌, arith}
use Rattle.std.proofs.lemmas.List.{length-append}
use Rattle.ice_types.specs.Tables.{Tables}
use Rattle.ice_prims.specs.declared.fault.Kind.TheVariants.{BadLast, WrongBase, UnknownClass}
use Rattle.ice_prims.specs.Rest.{Rest, whole, ◌>>=◌, Took, IsBytes}
use Rattle.ice_prims.specs.Laws.{FoundPart}
use Rattle.ice_prims.proofs.Parts.{then_ok, ok_is}
use Rattle.ice_encoding.specs.Bounds.{ended}
use Rattle.ice_encoding.specs.Port.{Port, IsLawful, Reader, Speller}
use Rattle.ice_encoding.specs.Spelling.{Plain}
use Rattle.ice_encoding.specs.Encapsulation.{encapsulated_at}
use Rattle.ice_encoding.proofs.Encapsulations.{OnlyAtEnd, encapsulated_found, encapsulated_only}
use Rattle.ice_encoding.proofs.Values.{plain_lawful}
use Rattle.ice_encoding.specs.Steps.{Followed}
use Rattle.ice_encoding.proofs.Stepping.{given_lawful}
use Rattle.ice_encoding.specs.Classes.{class_named}
use Rattle.ice_encoding.specs.Graph.{Slice}
use Rattle.ice_encoding.specs.References.{State, opening, seen, unplaced}
use Rattle.ice_encoding.specs.Flags.{Flags, Reach, Before, first, SpellsFlags, flags_at}
use Rattle.ice_encoding.specs.TypeIds.{SpellsTypeId, type_id_at, is_base, can_be_read, before_next}
use Rattle.ice_encoding.specs.Slices.{one_more, FromId, from_id}
use Rattle.ice_encoding.specs.Instances.{references, AllFit, misfit, unless_misfit}
use Rattle.ice_encoding.specs.Exceptions.{of_exceptions, may_be_raised, may_be_last, is_known_last, BehindUserException, unless_ended, behind_user_exception, UserExceptionSlices, user_exception_slices, UserException, SpellsUserException, user_exception_at, SpellsException, exception_at}
use Rattle.ice_encoding.proofs.Ending.{LawfulToEnd, ends, took_all, ends_is, ended_ok, to_end, followed_to_end, placed_to_end, tested_to_end, made_to_end, alike_to_end, whole_found, whole_only}
use Rattle.ice_encoding.proofs.Slices.{flags_lawful, type_id_lawful, body_lawful}
use Rattle.ice_encoding.proofs.Graphs.{references_seen, references_lawful, none_misfits, all_fit, unless_ok}

abbrev Read : Type 0
Read = Reader (State ℕ) (List Slice)

abbrev Spelled : Type 1
Spelled = Speller (State (Unit {0})) (List Slice)

-- ---- behind a slice

clash : {C : Type 0} (bytes : List ℕ) (b : ℕ) (bs : List ℕ) → bytes ≡ b ∷ bs → bytes ≡ [] → C
clash bytes b bs is empty = absurd cc

module _ (next : Read) (Next : Spelled) (one : LawfulToEnd seen next Next) where
  none_follow : LawfulToEnd seen (behind_user_exception next true None) (BehindUserException Next true None)
  none_follow = to_end seen _ _ (given_lawful seen [])

  ends_found : (bytes : List ℕ) (s : State ℕ) (r : Rest) (x : List Slice × State ℕ × Rest) → r.bytes ≡ bytes → IsBytes r.bytes → unless_ended next bytes s r ≡ Ok x → x.2.bytes ≡ [] → BehindUserException Next false None r.bytes x.0 (seen s) (seen x.1)
  ends_found [] s r x is fits e none = (λ empty. none_follow.found s r x fits e none, λ some. absurd (some is))
  ends_found (b ∷ bs) s r x is fits e none = (λ empty. clash r.bytes b bs is empty, λ some. one.found s r x fits e none)

  ends_only : (bytes : List ℕ) (s : State ℕ) (to : State (Unit {0})) (r : Rest) (v : List Slice) → r.bytes ≡ bytes → BehindUserException Next false None r.bytes v (seen s) to → (end : State ℕ) × (seen end ≡ to) × (unless_ended next bytes s r ≡ Ok (v, end, ends r))
  ends_only [] s to r v is h = none_follow.only s to r v (h.0 is)
  ends_only (b ∷ bs) s to r v is h = one.only s to r v (h.1 (λ empty. clash r.bytes b bs is empty))

  behind_lawful : (last : Bool) (exception : Option ℕ) → LawfulToEnd seen (behind_user_exception next last exception) (BehindUserException Next last exception)
  behind_lawful true exception = to_end seen _ _ (given_lawful seen [])
  behind_lawful false (Some exception) = one
  behind_lawful false None = record {
    found = λ s r x fits e none. ends_found r.bytes s r x refl fits e none;
    only = λ s to r v h. ends_only r.bytes s to r v refl h;
  }

-- ---- one slice after the other

module _ (port : Port (State ℕ) (State (Unit {0}))) (same : port.seen ≡ seen) (lawful : IsLawful port) (t : Tables) (reach : Reach) where
  from_lawful : (next : Read) (Next : Spelled) → LawfulToEnd seen next Next → (ends : Bool) (before : Before) (f : Flags) (flags_place id_place : ℕ) (id : List ℕ) (class : Option ℕ)
      → LawfulToEnd seen (from_id port.read t reach next ends before f flags_place id_place id class) (FromId port t reach Next ends before f id class)
  from_lawful next Next one ends before f flags_place id_place id class =
      tested_to_end seen (is_base before class) id_place WrongBase _ _ (tested_to_end seen (can_be_read reach class f) id_place UnknownClass _ _ (tested_to_end seen ends flags_place BadLast _ _
      (followed_to_end seen _ _ _ _ (body_lawful port same lawful t f id f.has_size class) (λ slice. made_to_end seen (one_more slice) _ _ one))))

  -- within so many steps
  abbrev Within : ℕ → Before → Spelled
  Within steps before bytes slices from to = (n : ℕ) × (n ≤ steps) × UserExceptionSlices port t reach n before bytes slices from to

  abbrev Step : (Before → Spelled) → Before → Spelled
  Step Next before = Followed (Plain (SpellsFlags (may_be_raised before))) (λ f. Followed (Plain SpellsTypeId)
      (λ id. let class = class_named t id in FromId port t reach (BehindUserException (Next (before_next t class f)) (is_known_last t class f) class) (may_be_last t class f) before f id class))

  -- what is there of one count for some bytes is there where those follow
  abbrev Counted : ℕ → Before → Bool → Option ℕ → Spelled
  Counted limit before last exception bytes slices from to = (n : ℕ) × (n ≤ limit) × BehindUserException (UserExceptionSlices port t reach n before) last exception bytes slices from to

  counted : (limit : ℕ) (last : Bool) (exception : Option ℕ) (before : Before) (Next : Spelled) (bytes : List ℕ) (slices : List Slice) (from to : State (Unit {0})) → (Next bytes slices from to → Within limit before bytes slices from to)
      → BehindUserException Next last exception bytes slices from to → Counted limit before last exception bytes slices from to
  counted limit true exception before Next bytes slices from to counts h = (0, omega arith, h)
  counted limit false (Some exception) before Next bytes slices from to counts h = counts h
  counted limit false None before Next [] slices from to counts h = (0, omega arith, (h.0, λ some. absurd (some refl)))
  counted limit false None before Next (b ∷ bs) slices from to counts h =
      let w = counts (h.1 (λ empty. clash (b ∷ bs) b bs refl empty)) in
      (w.0, w.1, (λ empty. clash (b ∷ bs) b bs refl empty, λ some. w.2))

  behind_back : (steps n : ℕ) → n ≤ steps → (last : Bool) (exception : Option ℕ) (before : Before) (bytes : List ℕ) (slices : List Slice) (from to : State (Unit {0}))
      → BehindUserException (UserExceptionSlices port t reach n before) last exception bytes slices from to → BehindUserException (Within steps before) last exception bytes slices from to
  behind_back steps n le true exception before bytes slices from to h = h
  behind_back steps n le false (Some exception) before bytes slices from to h = (n, le, h)
  behind_back steps n le false None before bytes slices from to h = (h.0, λ some. (n, le, h.1 some))

  step_there : (steps : ℕ) (before : Before) (bytes : List ℕ) (slices : List Slice) (from to : State (Unit {0})) → Step (Within steps) before bytes slices from to → Within (suc steps) before bytes slices from to
  step_there steps before bytes slices from to (f, a, b, mid, parts, flags, (id, c, d, next, cut, is_id, (base, (read, (ends, (slice, g, h, end, pieces, body, (others, is, rest))))))) =
      let class = class_named t id in
      let more = counted steps (is_known_last t class f) class (before_next t class f) (Within steps (before_next t class f)) h others end to (λ w. w) rest in
      (suc more.0, omega (arith, more.1), (f, a, b, mid, parts, flags, (id, c, d, next, cut, is_id, (base, (read, (ends, (slice, g, h, end, pieces, body, (others, is, more.2))))))))

  step_back : (steps : ℕ) (before : Before) (bytes : List ℕ) (slices : List Slice) (from to : State (Unit {0})) → Within (suc steps) before bytes slices from to → Step (Within steps) before bytes slices from to
  step_back steps before bytes slices from to (zero, le, h) = absurd h
  step_back steps before bytes slices from to (suc n, le, (f, a, b, mid, parts, flags, (id, c, d, next, cut, is_id, (base, (read, (ends, (slice, g, h, end, pieces, body, (others, is, rest)))))))) =
      let class = class_named t id in
      let later = behind_back steps n (omega (arith, le)) (is_known_last t class f) class (before_next t class f) h others end to rest in
      (f, a, b, mid, parts, flags, (id, c, d, next, cut, is_id, (base, (read, (ends, (slice, g, h, end, pieces, body, (others, is, later)))))))

  slices_lawful : (steps : ℕ) (before : Before) → LawfulToEnd seen (user_exception_slices port t reach steps before) (Within steps before)
  slices_lawful zero before = record { found = λ s r x fits e none. absurd cc; only = λ s to r v h. absurd (no r.bytes v (seen s) to h) }
    where
      no : (bytes : List ℕ) (v : List Slice) (from to : State (Unit {0})) → Within 0 before bytes v from to → ⊥
      no bytes v from to (zero, le, h) = h
      no bytes v from to (suc n, le, h) = omega (arith, le)
  slices_lawful (suc steps) before =
      alike_to_end seen (user_exception_slices port t reach (suc steps) before) (Step (Within steps) before) (Within (suc steps) before) (step_there steps before) (step_back steps before)
      (placed_to_end seen _ _ (λ flags_place. followed_to_end seen _ _ _ _ (plain_lawful seen (flags_at (may_be_raised before)) (SpellsFlags (may_be_raised before)) (flags_lawful (may_be_raised before)))
      (λ f. placed_to_end seen _ _ (λ id_place. followed_to_end seen _ _ _ _ (plain_lawful seen type_id_at SpellsTypeId type_id_lawful)
      (λ id. let class = class_named t id in from_lawful _ _ (behind_lawful (user_exception_slices port t reach steps (before_next t class f)) (Within steps (before_next t class f)) (slices_lawful steps (before_next t class f)) (is_known_last t class f) class)
      (may_be_last t class f) before f flags_place id_place id class)))))

  -- Each takes a byte at least, so there are no more of them than bytes.
  pub fewer : (n : ℕ) (before : Before) (bytes : List ℕ) (slices : List Slice) (from to : State (Unit {0})) → UserExceptionSlices port t reach n before bytes slices from to → Within (length bytes) before bytes slices from to
  fewer zero before bytes slices from to h = absurd h
  fewer (suc n) before bytes slices from to (f, a, b, mid, parts, flags, (id, c, d, next, cut, is_id, (base, (read, (ends, (slice, g, h, end, pieces, body, (others, is, rest))))))) =
      let class = class_named t id in
      let later = counted (length h) (is_known_last t class f) class (before_next t class f) (UserExceptionSlices port t reach n (before_next t class f)) h others end to (fewer n (before_next t class f) h others end to) rest in
      let one : length a ≡ 1 = ap length flags.0.1 in (
        suc later.0,
        omega (arith, later.1, ap length parts, length-append a b, ap length cut, length-append c d, ap length pieces, length-append g h, one),
        (f, a, b, mid, parts, flags, (id, c, d, next, cut, is_id, (base, (read, (ends, (slice, g, h, end, pieces, body, (others, is, later.2))))))),
      )

-- ---- a whole exception

module _ (t : Tables) (reach : Reach) where
  abbrev all : Tables
  all = of_exceptions t

  abbrev slices_at : ℕ → Read
  slices_at steps = user_exception_slices (references t reach) all reach steps first

  abbrev result : List Slice × State ℕ × Rest → UserException × Rest
  result x = (record { slices = x.0; instances = x.1.instances }, x.2)

  lawful_at : (steps : ℕ) → LawfulToEnd seen (slices_at steps) (Within (references t reach) (references_seen t reach) (references_lawful t reach) all reach steps first)
  lawful_at steps = slices_lawful (references t reach) (references_seen t reach) (references_lawful t reach) all reach steps first

  user_exception_found : FoundPart (user_exception_at t reach) (SpellsUserException t reach)
  unfolding SpellsUserException user_exception_at
  user_exception_found r y fits e =
      then_ok (slices_at (length r.bytes) opening r) (λ x. ended x.2.bytes x.2.place x >>= λ x. unless_misfit (misfit t x.1.instances x.1.met) (result x)) y e λ x x_is later.
      then_ok (ended x.2.bytes x.2.place x) (λ x. unless_misfit (misfit t x.1.instances x.1.met) (result x)) y later λ z z_is last.
      ended_ok x.2.bytes x.2.place x z z_is λ empty x_z.
      unless_ok (misfit t z.1.instances z.1.met) (result z) y last λ none same.
      let is_z : slices_at (length r.bytes) opening r ≡ Ok z = x_is ∙ (λ i. Ok (x_z i)) in
      let at_none : z.2.bytes ≡ [] = ap (λ (w : List Slice × State ℕ × Rest). w.2.bytes) (sym x_z) ∙ empty in
      let f = (lawful_at (length r.bytes)).found opening r z fits is_z at_none in
      let o = (lawful_at (length r.bytes)).only opening (seen z.1) r z.0 f in
      let at_end : ends r ≡ z.2 = ap (λ (w : List Slice × State ℕ × Rest). w.2) (ok_is (z.0, o.0, ends r) z (sym o.2 ∙ is_z)) in
      subst (λ (w : UserException × Rest). (bytes : List ℕ) × Took r bytes w.1 × SpellsUserException t reach bytes w.0) same
      (r.bytes, subst (λ (s : Rest). Took r r.bytes s) at_end (took_all r), (seen z.1, f.0, f.2, refl, none_misfits t z.1.instances z.1.met none))

  user_exception_is : (r s : Rest) (slices : List Slice) (end : State ℕ) → slices_at (length r.bytes) opening r ≡ Ok (slices, end, s) → s.bytes ≡ [] → misfit t end.instances end.met ≡ None → user_exception_at t reach r ≡ Ok (record { slices = slices; instances = end.instances }, s)
  unfolding user_exception_at
  user_exception_is r s slices end is empty none = rw (is, empty, none) refl

  user_exception_only : OnlyAtEnd (user_exception_at t reach) (SpellsUserException t reach)
  unfolding SpellsUserException
  user_exception_only r s bytes x k empty (end, n, h, same, fit) =
      let all_of : bytes ≡ r.bytes = sym (k.parts ∙ ap (λ (l : List ℕ). bytes ++ l) empty ∙ append-nil bytes) in
      let w = fewer (references t reach) (references_seen t reach) (references_lawful t reach) all reach n first r.bytes x.slices opening end (subst (λ (l : List ℕ). UserExceptionSlices (references t reach) all reach n first l x.slices opening end) all_of h) in
      let o = (lawful_at (length r.bytes)).only opening end r x.slices w in
      let fit_o : AllFit t o.0.instances (map unplaced o.0.met) = subst (λ (u : State (Unit {0})). AllFit t u.instances u.met) (sym o.1) fit in
      let instances_is : o.0.instances ≡ x.instances = ap (λ (u : State (Unit {0})). u.instances) o.1 ∙ same in
      user_exception_is r (ends r) x.slices o.0 o.2 refl (all_fit t o.0.instances o.0.met fit_o) ∙ (λ i. Ok (record { slices = x.slices; instances = instances_is i }, sym (ends_is r s bytes k empty) i))

  pub exception_found : (bytes : List ℕ) (x : UserException) → IsBytes bytes → exception_at t reach (whole bytes) ≡ Ok x → SpellsException t reach bytes x
  exception_found = whole_found (encapsulated_at (user_exception_at t reach)) (SpellsException t reach) (encapsulated_found (user_exception_at t reach) (SpellsUserException t reach) user_exception_found)

  pub exception_only : (bytes : List ℕ) (x : UserException) → SpellsException t reach bytes x → exception_at t reach (whole bytes) ≡ Ok x
  exception_only = whole_only (encapsulated_at (user_exception_at t reach)) (SpellsException t reach) (encapsulated_only (user_exception_at t reach) (SpellsUserException t reach) user_exception_only)

  pub exception_apart : (bytes : List ℕ) (x y : UserException) → SpellsException t reach bytes x → SpellsException t reach bytes y → x ≡ y
  exception_apart bytes x y p q = ok_is x y (sym (exception_only bytes x p) ∙ exception_only bytes y q)
