-- What was read decides: bytes that follow it change neither the values nor the first fault.
use Rattle.std.proofs.Common.{◌≡◌, ℕ, ℤ, pos, negsuc, ◌+◌, ◌-◌, ◌<◌, ◌≤◌, Bool, true, false, ltb, List, [], ◌∷◌, ◌++◌, length, take, drop, Option, None, Some, Result, Ok, Err, refl, sym, ap, ◌∙◌, append_assoc, arith, inl, inr}
use Rattle.std.specs.Int.{w32}
use Rattle.std.proofs.lemmas.Bool.{ltb-true, ltb-false, le-ltb}
use Rattle.std.proofs.lemmas.List.{append-nil, length-append, length-take, take-append-drop}
use Rattle.ice_types.specs.declared.kind.TypeRef.{TypeRef}
use Rattle.ice_types.specs.Tables.{Tables}
use Rattle.ice_prims.specs.declared.fault.Fault.{Fault}
use Rattle.ice_prims.specs.Rest.{Rest, ◌>>=◌, bytes_at, bound_at}
use Rattle.ice_prims.specs.Number.{SpellsSigned, signed_at}
use Rattle.ice_prims.proofs.Parts.{bytes_only}
use Rattle.ice_prims.proofs.Numbers.{signed_only}
use Rattle.ice_encoding.specs.declared.limits.TheConstants.{SMALLEST}
use Rattle.ice_encoding.specs.Bounds.{claimed, ended, filled}
use Rattle.ice_encoding.specs.Opening.{encoding}
use Rattle.ice_encoding.proofs.Bounded.{claimed_ok}
use Rattle.ice_encoding.specs.Encapsulation.{encapsulated_at}
use Rattle.ice_encoding.specs.Flags.{all_slices}
use Rattle.ice_encoding.specs.Instances.{graph_at}
use Rattle.ice_relay.specs.Relaying.{one_value, held}
use Rattle.ice_relay.specs.Streams.{GoesOn, IsDecided, ReadsInput}

-- a list that is not empty begins with something
not_empty : (bytes : List ℕ) → 0 < length bytes → (byte : ℕ) × (others : List ℕ) × (bytes ≡ byte ∷ others)
not_empty [] lt = absurd (omega arith)
not_empty (byte ∷ others) lt = (byte, others, refl)

abbrev pub left : ℕ → List ℕ → Rest
left place bytes = record { place = place; bytes = bytes }

-- ---- the steps of reading from the size on, each with what follows it

-- something, and what follows it
abbrev pub beside : {A : Type 0} → Rest → A → Result (A × Rest) Fault
beside after x = Ok (x, after)

-- what follows the version, and what follows the bound
abbrev pub behind : Rest → Unit {0} × Rest → Result (Rest × Rest) Fault
behind after v = Ok (v.1, after)

abbrev pub at_end : {A : Type 0} → A × Rest → Result A Fault
at_end x = ended x.1.bytes x.1.place x.0

abbrev pub open_version : Rest × Rest → Result (Rest × Rest) Fault
open_version bound = encoding.read bound.0 >>= behind bound.1

abbrev pub open_bound : Rest → ℕ → Result (Rest × Rest) Fault
open_bound r n = bound_at (n - 4) r >>= open_version

-- the size that an encapsulation claims here
abbrev pub size_of : ℤ → Rest → Result ℕ Fault
size_of z r = claimed r.place (length r.bytes) SMALLEST z

abbrev open_size : Rest → ℤ × Rest → Result (Rest × Rest) Fault
open_size r size = size_of size.0 r >>= open_bound size.1

module _ {A : Type 0} (read : Rest → Result (A × Rest) Fault) where
  abbrev pub in_content : Rest × Rest → Result (A × Rest) Fault
  in_content parts = filled read parts.0 >>= beside parts.1

  -- the same, each up to the end
  abbrev at_content : Rest × Rest → Result A Fault
  at_content parts = in_content parts >>= at_end

  abbrev at_version : Rest × Rest → Result A Fault
  at_version bound = (encoding.read bound.0 >>= behind bound.1) >>= at_content

  abbrev at_bound : Rest → ℕ → Result A Fault
  at_bound r n = bound_at (n - 4) r >>= at_version

  abbrev at_size : Rest → ℤ × Rest → Result A Fault
  at_size r size = size_of size.0 r >>= at_bound size.1

  by_version : (v : Result (Unit {0} × Rest) Fault) (after : Rest) → (((v >>= behind after) >>= in_content) >>= at_end) ≡ ((v >>= behind after) >>= at_content)
  by_version (Ok content) after = refl
  by_version (Err e) after = refl

  by_bound : (b : Result (Rest × Rest) Fault) → (((b >>= open_version) >>= in_content) >>= at_end) ≡ (b >>= at_version)
  by_bound (Ok bound) = by_version (encoding.read bound.0) bound.1
  by_bound (Err e) = refl

  by_number : (n : Result ℕ Fault) (r : Rest) → (((n >>= open_bound r) >>= in_content) >>= at_end) ≡ (n >>= at_bound r)
  by_number (Ok n) r = by_bound (bound_at (n - 4) r)
  by_number (Err e) r = refl

  by_size : (z : Result (ℤ × Rest) Fault) (r : Rest) → (((z >>= open_size r) >>= in_content) >>= at_end) ≡ (z >>= at_size r)
  by_size (Ok size) r = by_number (size_of size.0 r) size.1
  by_size (Err e) r = refl

  -- one step after the other, whichever are taken together
  regrouped : (r : Rest) → filled (encapsulated_at read) r ≡ (signed_at w32 r >>= at_size r)
  regrouped r = by_size (signed_at w32 r) r

  -- ---- two inputs that are the same up to one byte after the bound

  -- more than nothing is left, at the same place
  ends_alike : (place : ℕ) (a b : List ℕ) (x : A) → 0 < length a → 0 < length b → ended a place x ≡ ended b place x
  ends_alike place a b x some other =
      let p = not_empty a some in
      let q = not_empty b other in
      rw (p.2, q.2) refl

  content_alike : (c : Result A Fault) (place : ℕ) (a b : List ℕ) → 0 < length a → 0 < length b → ((c >>= beside (left place a)) >>= at_end) ≡ ((c >>= beside (left place b)) >>= at_end)
  content_alike (Ok x) place a b some other = ends_alike place a b x some other
  content_alike (Err e) place a b some other = refl

  version_alike : (v : Result (Unit {0} × Rest) Fault) (place : ℕ) (a b : List ℕ) → 0 < length a → 0 < length b → ((v >>= behind (left place a)) >>= at_content) ≡ ((v >>= behind (left place b)) >>= at_content)
  version_alike (Ok v) place a b some other = content_alike (filled read v.1) place a b some other
  version_alike (Err e) place a b some other = refl

  bound_is : (n place : ℕ) (inside later : List ℕ) → length inside ≡ n - 4 → at_bound (left place (inside ++ later)) n ≡ at_version (left place inside, left (place + length inside) later)
  bound_is n place inside later long =
      let r = left place (inside ++ later) in
      let end = left (place + length inside) later in
      let cut : bytes_at (n - 4) r ≡ Ok (inside, end) = bytes_only (n - 4) r end inside long (record { parts = refl; moved = refl }) in
      rw cut refl

  bound_alike : (n place : ℕ) (more rest : List ℕ) → n - 4 < length more → at_bound (left place more) n ≡ at_bound (left place (more ++ rest)) n
  bound_alike n place more rest past =
      let inside = take (n - 4) more in
      let later = drop (n - 4) more in
      let parts : inside ++ later ≡ more = take-append-drop (n - 4) more in
      let long : length inside ≡ n - 4 = omega (arith, length-take (n - 4) more) in
      let some : 0 < length later = omega (arith, ap length parts, length-append inside later) in
      let more_some : 0 < length (later ++ rest) = omega (arith, length-append later rest) in
      let all : more ++ rest ≡ inside ++ (later ++ rest) = ap (λ (l : List ℕ). l ++ rest) (sym parts) ∙ append_assoc inside later rest in
      ap (λ (l : List ℕ). at_bound (left place l) n) (sym parts)
      ∙ bound_is n place inside later long
      ∙ version_alike (encoding.read (left place inside)) (place + length inside) later (later ++ rest) some more_some
      ∙ sym (bound_is n place inside (later ++ rest) long)
      ∙ ap (λ (l : List ℕ). at_bound (left place l) n) (sym all)

  -- ---- the size

  -- a size that is there is tested alike, however many bytes are there
  pub there : (n place : ℕ) (a b : List ℕ) → n ≤ length a → n ≤ length b → size_of (pos n) (left place a) ≡ size_of (pos n) (left place b)
  there n place a b here other =
      let first : ltb (length a) n ≡ false = le-ltb _ _ here in
      let second : ltb (length b) n ≡ false = le-ltb _ _ other in
      rw (first, second) refl

  -- too large, which is told before all else
  large : (n place : ℕ) (a b : List ℕ) → ltb 1048576 n ≡ true → size_of (pos n) (left place a) ≡ size_of (pos n) (left place b)
  large n place a b is = rw is refl

  pub size_alike : (z : ℤ) (place : ℕ) (got rest : List ℕ) → 4 ≤ length got → ((n : ℕ) → GoesOn z n → n < length got) → size_of z (left place got) ≡ size_of z (left place (got ++ rest))
  size_alike (negsuc n) place got rest size past = refl
  size_alike (pos n) place got rest size past = by_test (ltb 1048576 n) refl
    where
      by_test : (test : Bool) → ltb 1048576 n ≡ test → size_of (pos n) (left place got) ≡ size_of (pos n) (left place (got ++ rest))
      by_test true is = large n place got (got ++ rest) is
      by_test false is =
          let most : n ≤ 1048576 = ltb-false _ _ is in
          let here : n ≤ length got = by_more (ltb 4 n) refl most in
          there n place got (got ++ rest) here (omega (arith, here, length-append got rest))
        where
          by_more : (test : Bool) → ltb 4 n ≡ test → n ≤ 1048576 → n ≤ length got
          by_more true more most = let below : n < length got = past n (refl, ltb-true _ _ more, most) in omega (arith, below)
          by_more false none most = omega (arith, size, ltb-false _ _ none)

  -- ---- the whole

  sized_alike : (size : Result ℕ Fault) (place : ℕ) (more rest : List ℕ) → ((n : ℕ) → size ≡ Ok n → n - 4 < length more) → (size >>= at_bound (left place more)) ≡ (size >>= at_bound (left place (more ++ rest)))
  sized_alike (Ok n) place more rest past = bound_alike n place more rest (past n refl)
  sized_alike (Err e) place more rest past = refl

  pub front_is : (place : ℕ) (got size more : List ℕ) (z : ℤ) → got ≡ size ++ more → SpellsSigned w32 size z → signed_at w32 (left place got) ≡ Ok (z, left (place + 4) more)
  front_is place got size more z parts spelled = signed_only w32 (left place got) (left (place + 4) more) size z (record { parts = parts; moved = omega (arith, spelled.0) }) spelled

  begins : (place : ℕ) (got size more : List ℕ) (z : ℤ) → got ≡ size ++ more → SpellsSigned w32 size z → (signed_at w32 (left place got) >>= at_size (left place got)) ≡ at_size (left place got) (z, left (place + 4) more)
  begins place got size more z parts spelled = rw (front_is place got size more z parts spelled) refl

  -- an encapsulation that is all that is left, wherever it begins
  pub read_alike : (place : ℕ) (got rest : List ℕ) → IsDecided got → filled (encapsulated_at read) (left place got) ≡ filled (encapsulated_at read) (left place (got ++ rest))
  read_alike place got rest (z, c, past) =
      let long : length got ≡ 4 + length c.more = ap length c.parts ∙ length-append c.size c.more ∙ omega (arith, c.spelled.0) in
      let whole_parts : got ++ rest ≡ c.size ++ (c.more ++ rest) = ap (λ (l : List ℕ). l ++ rest) c.parts ∙ append_assoc c.size c.more rest in
      let tested = size_alike z place got rest (omega (arith, long)) past in
      let within : (n : ℕ) → size_of z (left place got) ≡ Ok n → n - 4 < length c.more = λ n is.
      claimed_ok place (length got) SMALLEST z n is λ same large there small.
      let below : n < length got = past n (same, omega (arith, small), large) in
      omega (arith, long, below, small) in
      regrouped (left place got)
      ∙ begins place got c.size c.more z c.parts c.spelled
      ∙ sized_alike (size_of z (left place got)) (place + 4) c.more rest within
      ∙ ap (λ (size : Result ℕ Fault). size >>= at_bound (left (place + 4) (c.more ++ rest))) tested
      ∙ sym (begins place (got ++ rest) c.size (c.more ++ rest) z whole_parts c.spelled)
      ∙ sym (regrouped (left place (got ++ rest)))

-- as the whole input, what was read holds the graph or has the first fault that the input has
pub read_decides : (t : Tables) (kind : TypeRef) (known got : List ℕ) (left : Option (List ℕ)) → ReadsInput (Some known) left got → held t kind got ≡ held t kind known
read_decides t kind known got None r = absurd r.0
read_decides t kind known got (Some rest) (all, inl end, frugal) =
    let same : got ≡ known = sym (all ∙ ap (λ (l : List ℕ). got ++ l) end ∙ append-nil got) in
    ap (held t kind) same
read_decides t kind known got (Some rest) (all, inr decided, frugal) =
    read_alike (graph_at t all_slices (one_value kind)) 0 got rest decided ∙ ap (held t kind) (sym all)
