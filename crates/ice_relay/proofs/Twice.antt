-- Two encapsulations, one after the other: each is read as if it stood alone, and what was read decides both.
use Rattle.std.proofs.Common.{◌≡◌, ℕ, ℤ, pos, ◌+◌, ◌-◌, ◌≤◌, List, [], ◌++◌, length, take, drop, Option, None, Some, Result, Ok, Err, refl, sym, ap, subst, ◌∙◌, append_assoc, append-nil, arith, inl, inr}
use Rattle.std.specs.Int.{w32}
use Rattle.std.proofs.lemmas.List.{length-append, length-take, length-drop, take-append-drop, take-append-le, take_at}
use Rattle.ice_types.specs.declared.kind.TypeRef.{TypeRef}
use Rattle.ice_types.specs.Tables.{Tables}
use Rattle.ice_prims.specs.declared.fault.Fault.{Fault}
use Rattle.ice_prims.specs.Rest.{Rest, whole, ◌>>=◌, bytes_at}
use Rattle.ice_prims.specs.Number.{signed_at}
use Rattle.ice_prims.proofs.Parts.{bytes_only}
use Rattle.ice_encoding.specs.declared.limits.TheConstants.{SMALLEST}
use Rattle.ice_encoding.specs.Bounds.{filled}
use Rattle.ice_encoding.specs.Opening.{encoding}
use Rattle.ice_encoding.proofs.Bounded.{claimed_ok}
use Rattle.ice_encoding.specs.Encapsulation.{encapsulated_at}
use Rattle.ice_encoding.specs.Graph.{Graph}
use Rattle.ice_encoding.specs.Flags.{all_slices}
use Rattle.ice_encoding.specs.Instances.{graph_at}
use Rattle.ice_relay.specs.Relaying.{one_value}
use Rattle.ice_relay.specs.Comparing.{next_held, and_last, two_of, two_held}
use Rattle.ice_relay.specs.Streams.{Claims, IsDecided, IsRefused, BeginsWith, ReadsTwo}
use Rattle.ice_relay.proofs.Decided.{left, beside, behind, at_end, open_bound, size_of, in_content, there, size_alike, front_is, read_alike}

module _ {A : Type 0} (read : Rest → Result (A × Rest) Fault) where
  -- ---- reading from the size on, whatever follows

  abbrev from_size : Rest → Result ℕ Fault → Result (A × Rest) Fault
  from_size s size = (size >>= open_bound s) >>= in_content read

  size_first : (r s : Rest) (z : ℤ) → signed_at w32 r ≡ Ok (z, s) → encapsulated_at read r ≡ from_size s (size_of z r)
  size_first r s z front = rw front refl

  -- ---- the first by itself, and then what follows it

  content_split : (c : Result A Fault) (end later : Rest) → end.bytes ≡ [] → (c >>= beside later) ≡ (((c >>= beside end) >>= at_end) >>= beside later)
  content_split (Ok x) end later none = rw none refl
  content_split (Err e) end later none = refl

  version_split : (v : Result (Unit {0} × Rest) Fault) (end later : Rest) → end.bytes ≡ [] → ((v >>= behind later) >>= in_content read) ≡ ((((v >>= behind end) >>= in_content read) >>= at_end) >>= beside later)
  version_split (Ok v) end later none = content_split (filled read v.1) end later none
  version_split (Err e) end later none = refl

  cut_at : (n place : ℕ) (more later : List ℕ) → length more ≡ n → bytes_at n (left place (more ++ later)) ≡ Ok (more, left (place + length more) later)
  cut_at n place more later long = bytes_only n (left place (more ++ later)) (left (place + length more) later) more long (record { parts = refl; moved = refl })

  all_at : (n place : ℕ) (more : List ℕ) → length more ≡ n → bytes_at n (left place more) ≡ Ok (more, left (place + length more) [])
  all_at n place more long = bytes_only n (left place more) (left (place + length more) []) more long (record { parts = sym (append-nil more); moved = refl })

  size_split : (size : Result ℕ Fault) (place : ℕ) (more later : List ℕ) → ((n : ℕ) → size ≡ Ok n → length more ≡ n - 4)
      → from_size (left place (more ++ later)) size ≡ ((from_size (left place more) size >>= at_end) >>= beside (left (place + length more) later))
  size_split (Err e) place more later long = refl
  size_split (Ok n) place more later long =
      rw (cut_at (n - 4) place more later (long n refl), all_at (n - 4) place more (long n refl))
      (version_split (encoding.read (left place more)) (left (place + length more) []) (left (place + length more) later) refl)

  first_alone : (place : ℕ) (first later : List ℕ) → BeginsWith first (length first) → encapsulated_at read (left place (first ++ later)) ≡ (filled (encapsulated_at read) (left place first) >>= beside (left (place + length first) later))
  first_alone place first later (z, c, on) =
      let long : length first ≡ 4 + length c.more = ap length c.parts ∙ length-append c.size c.more ∙ omega (arith, c.spelled.0) in
      let parts : first ++ later ≡ c.size ++ (c.more ++ later) = ap (λ (l : List ℕ). l ++ later) c.parts ∙ append_assoc c.size c.more later in
      let tested : size_of z (left place (first ++ later)) ≡ size_of z (left place first) = subst (λ (y : ℤ). size_of y (left place (first ++ later)) ≡ size_of y (left place first)) (sym on.0) (there read (length first) place (first ++ later) first (omega (arith, length-append first later)) (omega arith)) in
      let within : (n : ℕ) → size_of z (left place first) ≡ Ok n → length c.more ≡ n - 4 = λ n is.
      claimed_ok place (length first) SMALLEST z n is λ same large fits small.
      let number : length first ≡ n = same_number (length first) n (sym on.0 ∙ same) in
      omega (arith, long, number) in
      let end_is : (place + 4) + length c.more ≡ place + length first = omega (arith, long) in
      size_first (left place (first ++ later)) (left (place + 4) (c.more ++ later)) z (front_is read place (first ++ later) c.size (c.more ++ later) z parts c.spelled)
      ∙ ap (from_size (left (place + 4) (c.more ++ later))) tested
      ∙ size_split (size_of z (left place first)) (place + 4) c.more later within
      ∙ ap (λ (m : ℕ). (from_size (left (place + 4) c.more) (size_of z (left place first)) >>= at_end) >>= beside (left m later)) end_is
      ∙ ap (λ (e : Result (A × Rest) Fault). (e >>= at_end) >>= beside (left (place + length first) later)) (sym (size_first (left place first) (left (place + 4) c.more) z (front_is read place first c.size c.more z c.parts c.spelled)))
    where
      same_number : (a b : ℕ) → pos a ≡ pos b → a ≡ b
      same_number a b e = cc

  -- ---- what follows what was read

  -- a size that is refused by itself
  refused_from : (size : Result ℕ Fault) (r s : Rest) → ((n : ℕ) → size ≡ Ok n → ⊥) → from_size r size ≡ from_size s size
  refused_from (Ok n) r s none = absurd (none n refl)
  refused_from (Err e) r s none = refl

  refused_alike : (got rest : List ℕ) → IsRefused got → encapsulated_at read (whole got) ≡ encapsulated_at read (whole (got ++ rest))
  refused_alike got rest (z, c, never) =
      let long : length got ≡ 4 + length c.more = ap length c.parts ∙ length-append c.size c.more ∙ omega (arith, c.spelled.0) in
      let parts : got ++ rest ≡ c.size ++ (c.more ++ rest) = ap (λ (l : List ℕ). l ++ rest) c.parts ∙ append_assoc c.size c.more rest in
      let tested = size_alike read z 0 got rest (omega (arith, long)) (λ n on. absurd (never n on)) in
      let none : (n : ℕ) → size_of z (whole got) ≡ Ok n → ⊥ = λ n is. claimed_ok 0 (length got) SMALLEST z n is λ same large fits small. never n (same, omega (arith, small), large) in
      size_first (whole got) (left 4 c.more) z (front_is read 0 got c.size c.more z c.parts c.spelled)
      ∙ refused_from (size_of z (whole got)) (left 4 c.more) (left 4 (c.more ++ rest)) none
      ∙ ap (from_size (left 4 (c.more ++ rest))) tested
      ∙ sym (size_first (whole (got ++ rest)) (left 4 (c.more ++ rest)) z (front_is read 0 (got ++ rest) c.size (c.more ++ rest) z parts c.spelled))

  -- the second, of which the first fault is there
  second_alike : (first : Result A Fault) (place : ℕ) (got rest : List ℕ) → IsDecided got
      → ((first >>= beside (left place got)) >>= and_last (encapsulated_at read)) ≡ ((first >>= beside (left place (got ++ rest))) >>= and_last (encapsulated_at read))
  second_alike (Ok g) place got rest decided = ap (pairs g) (read_alike read place got rest decided)
    where
      pairs : A → Result A Fault → Result (A × A) Fault
      pairs g e = e >>= λ y. Ok (g, y)
  second_alike (Err e) place got rest decided = refl

  first_then : (first later : List ℕ) → BeginsWith first (length first)
      → two_of (encapsulated_at read) (whole (first ++ later)) ≡ ((filled (encapsulated_at read) (whole first) >>= beside (left (0 + length first) later)) >>= and_last (encapsulated_at read))
  first_then first later begins = ap (λ (e : Result (A × Rest) Fault). e >>= and_last (encapsulated_at read)) (first_alone 0 first later begins)

  two_alike : (first got rest : List ℕ) → BeginsWith first (length first) → IsDecided got → two_of (encapsulated_at read) (whole (first ++ got)) ≡ two_of (encapsulated_at read) (whole (first ++ (got ++ rest)))
  two_alike first got rest begins decided =
      first_then first got begins ∙ second_alike (filled (encapsulated_at read) (whole first)) (0 + length first) got rest decided ∙ sym (first_then first (got ++ rest) begins)

-- ---- the first encapsulation, cut off

-- the bytes that begin with one, from its first byte to its last
pub claims_front : (first later : List ℕ) (z : ℤ) → 4 ≤ length first → Claims (first ++ later) z → Claims first z
claims_front first later z long c = record { size = c.size; more = drop 4 first; parts = sym (take-append-drop 4 first) ∙ ap (λ (l : List ℕ). l ++ drop 4 first) front; spelled = c.spelled }
  where
    front : take 4 first ≡ c.size
    front = sym (take-append-le 4 first later long) ∙ ap (take 4) c.parts ∙ take_at c.size c.more 4 c.spelled.0

pub cut_first : (got : List ℕ) (n : ℕ) → n ≤ length got → BeginsWith got n → BeginsWith (take n got) (length (take n got)) × (length (take n got) ≡ n)
cut_first got n le (z, c, on) =
    let long : length (take n got) ≡ n = omega (arith, length-take n got, le) in
    let parts : take n got ++ drop n got ≡ got = take-append-drop n got in
    ((z, claims_front (take n got) (drop n got) z (omega (arith, long, on.1)) (subst (λ (l : List ℕ). Claims l z) (sym parts) c), (on.0 ∙ ap pos (sym long), omega (arith, long, on.1), omega (arith, long, on.2))), long)

-- what is decided has the size that it claims
decided_some : (got : List ℕ) → IsDecided got → 4 ≤ length got
decided_some got (z, c, past) = omega (arith, ap length c.parts, length-append c.size c.more, c.spelled.0)

-- as the whole input, what was read holds the two graphs or has the first fault that the input has
pub two_decides : (t : Tables) (kind : TypeRef) (known got : List ℕ) (left : Option (List ℕ)) → ReadsTwo (Some known) left got → two_held t kind got ≡ two_held t kind known
two_decides t kind known got None r = absurd r.0
two_decides t kind known got (Some rest) (all, inl end, frugal) =
    let same : got ≡ known = sym (all ∙ ap (λ (l : List ℕ). got ++ l) end ∙ append-nil got) in
    ap (two_held t kind) same
two_decides t kind known got (Some rest) (all, inr (inl refused), frugal) =
    ap (λ (e : Result (Graph × Rest) Fault). e >>= and_last (next_held t kind)) (refused_alike (graph_at t all_slices (one_value kind)) got rest refused) ∙ ap (two_held t kind) (sym all)
two_decides t kind known got (Some rest) (all, inr (inr (n, begins, decided)), frugal) =
    let long : n ≤ length got = omega (arith, decided_some (drop n got) decided, length-drop n got) in
    let cut = cut_first got n long begins in
    let parts : take n got ++ drop n got ≡ got = take-append-drop n got in
    ap (two_held t kind) (sym parts)
    ∙ two_alike (graph_at t all_slices (one_value kind)) (take n got) (drop n got) rest cut.0 decided
    ∙ ap (two_held t kind) (sym (append_assoc (take n got) (drop n got) rest) ∙ ap (λ (l : List ℕ). l ++ rest) parts ∙ sym all)
