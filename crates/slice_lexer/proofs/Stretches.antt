-- How far runs of bytes, strings and comments reach.
use Rattle.std.proofs.Common.{ℕ, suc, ◌≡◌, ◌+◌, ◌<◌, ◌≤◌, Bool, true, false, not, ◌&&◌, cond, ◌==◌, List, [], ◌∷◌, ◌++◌, length, drop, codes, refl, sym, ap, subst, ◌∙◌, arith, take-append-drop, length-append}
use Rattle.std.specs.List.{list_all, prefix_len, take_while}
use Rattle.std.proofs.lemmas.Bool.Decides.{nat_tests}
use Rattle.std.proofs.lemmas.List.Sums.{take_while-cons}
use Rattle.slice_lexer.specs.Bytes.{newline, quote, backslash, first, begins_with, before_close, string_length}
use Rattle.slice_lexer.specs.Tokens.{Characters, none, plain, escape, LineEnds, HasNoClose}

pub both : (a b : Bool) → (a && b) ≡ true → (a ≡ true) × (b ≡ true)
both true b h = (refl, h)
both false b h = absurd cc

pub equal : (a b : ℕ) → (a == b) ≡ true → a ≡ b
equal a b h = grind (arith, nat_tests)

pub equals : (a b : ℕ) → a ≡ b → (a == b) ≡ true
equals a b h = grind (arith, nat_tests)

pub unequals : (a b : ℕ) → (a == b) ≡ false → a ≡ b → ⊥
unequals a b h e = let t = equals a b e in absurd cc

unequal_by : (a b : ℕ) → (a ≡ b → ⊥) → (t : Bool) → (a == b) ≡ t → (a == b) ≡ false
unequal_by a b h true e = absurd (h (equal a b e))
unequal_by a b h false e = e

pub unequal : (a b : ℕ) → (a ≡ b → ⊥) → (a == b) ≡ false
unequal a b h = unequal_by a b h (a == b) refl

-- what passes stands first in the longest run
pub run_more : (p : ℕ → Bool) (xs rest : List ℕ) → list_all p xs ≡ true → take_while p (xs ++ rest) ≡ xs ++ take_while p rest
run_more p [] rest h = refl
run_more p (x ∷ xs) rest h =
    let parts = both (p x) (list_all p xs) h in
    take_while-cons p x (xs ++ rest) ∙ rw (parts.0) (ap (λ (ys : List ℕ). x ∷ ys) (run_more p xs rest parts.1))

pub run_bound : (p : ℕ → Bool) (xs rest : List ℕ) → list_all p xs ≡ true → length xs ≤ length (take_while p (xs ++ rest))
run_bound p xs rest h = let e = ap (λ (ys : List ℕ). length ys) (run_more p xs rest h) in omega (arith, length-append xs (take_while p rest))

empty : (xs : List ℕ) → length xs ≡ 0 → xs ≡ []
empty [] h = refl
empty (x ∷ xs) h = absurd (omega arith)

-- what passes and is no shorter than the longest run is that run
pub run_whole : (p : ℕ → Bool) (xs rest : List ℕ) → list_all p xs ≡ true → length (take_while p (xs ++ rest)) ≤ length xs → take_while p (xs ++ rest) ≡ xs
run_whole p xs rest h le =
    let more = run_more p xs rest h in
    let e = ap (λ (ys : List ℕ). length ys) more in
    let none : take_while p rest ≡ [] = empty (take_while p rest) (omega (arith, length-append xs (take_while p rest))) in
    more ∙ ap (λ (ys : List ℕ). xs ++ ys) none ∙ nothing xs where
      nothing : (xs : List ℕ) → xs ++ [] ≡ xs
      nothing [] = refl
      nothing (x ∷ xs) = ap (λ (ys : List ℕ). x ∷ ys) (nothing xs)

-- No byte that passes comes next.
abbrev pub Stops : (ℕ → Bool) → List ℕ → Type 0
Stops p [] = Unit {0}
Stops p (x ∷ xs) = p x ≡ false

pub run_stop : (p : ℕ → Bool) (xs rest : List ℕ) → list_all p xs ≡ true → Stops p rest → length (take_while p (xs ++ rest)) ≤ length xs
run_stop p xs [] h s = let e = ap (λ (ys : List ℕ). length ys) (run_more p xs [] h) in omega (arith, length-append xs (take_while p []))
run_stop p xs (y ∷ rest) h s =
    let e = ap (λ (ys : List ℕ). length ys) (run_more p xs (y ∷ rest) h) in
    let stop : take_while p (y ∷ rest) ≡ [] = take_while-cons p y rest ∙ rw s refl in
    let short = ap (λ (ys : List ℕ). length ys) stop in
    omega (arith, length-append xs (take_while p (y ∷ rest)))

run_all_by : (p : ℕ → Bool) (x : ℕ) (xs : List ℕ) → list_all p (take_while p xs) ≡ true → (b : Bool) → p x ≡ b → list_all p (cond b (x ∷ take_while p xs) []) ≡ true
run_all_by p x xs h true e = rw (e, h) refl
run_all_by p x xs h false e = refl

pub run_all : (p : ℕ → Bool) (xs : List ℕ) → list_all p (take_while p xs) ≡ true
run_all p [] = refl
run_all p (x ∷ xs) = subst (λ (ys : List ℕ). list_all p ys ≡ true) (sym (take_while-cons p x xs)) (run_all_by p x xs (run_all p xs) (p x) refl)

pub run_parts : (p : ℕ → Bool) (xs : List ℕ) → xs ≡ take_while p xs ++ drop (prefix_len p xs) xs
run_parts p xs = sym (take-append-drop (prefix_len p xs) xs)

run_stops_by : (p : ℕ → Bool) (x : ℕ) (xs : List ℕ) → Stops p (drop (prefix_len p xs) xs) → (b : Bool) → p x ≡ b → Stops p (drop (prefix_len p (x ∷ xs)) (x ∷ xs))
run_stops_by p x xs h true e =
    let is : prefix_len p (x ∷ xs) ≡ suc (prefix_len p xs) = more ∙ omega arith in
    subst (λ (k : ℕ). Stops p (drop k (x ∷ xs))) (sym is) h where
      more : prefix_len p (x ∷ xs) ≡ 1 + prefix_len p xs
      more = rw e refl
run_stops_by p x xs h false e =
    let is : prefix_len p (x ∷ xs) ≡ 0 = rw e refl in
    subst (λ (k : ℕ). Stops p (drop k (x ∷ xs))) (sym is) e

pub run_stops : (p : ℕ → Bool) (xs : List ℕ) → Stops p (drop (prefix_len p xs) xs)
run_stops p [] = tt
run_stops p (x ∷ xs) = run_stops_by p x xs (run_stops p xs) (p x) refl

not_false : (b : Bool) → not b ≡ false → b ≡ true
not_false true h = refl
not_false false h = absurd cc

pub line_stops : (xs : List ℕ) → Stops (λ byte. not (byte == newline)) xs → LineEnds xs
line_stops [] h = tt
line_stops (x ∷ xs) h = equal x newline (not_false (x == newline) h)

pub line_ends : (xs : List ℕ) → LineEnds xs → Stops (λ byte. not (byte == newline)) xs
line_ends [] h = tt
line_ends (x ∷ xs) h = rw h refl

-- a string reaches to its first quote that no `\` takes
pub string_reach : {inside : List ℕ} → Characters inside → (rest : List ℕ) → string_length false (inside ++ quote ∷ rest) ≡ length inside
string_reach none rest = refl
string_reach (plain byte bytes is more) rest =
    rw (unequal byte newline is.2, unequal byte quote is.0, unequal byte backslash is.1) (ap suc (string_reach more rest))
string_reach (escape byte bytes is more) rest =
    rw (unequal byte newline is) (ap (λ n. suc (suc n)) (string_reach more rest))

abbrev pub StringFound : Bool → List ℕ → Type 0
StringFound false bytes = (inside rest : List ℕ) × (bytes ≡ inside ++ quote ∷ rest) × (length inside ≡ string_length false bytes) × Characters inside
StringFound true bytes = (byte : ℕ) × (inside rest : List ℕ) × (bytes ≡ byte ∷ inside ++ quote ∷ rest) × (suc (length inside) ≡ string_length true bytes) × (byte ≡ newline → ⊥) × Characters inside

abbrev IsClosed : Bool → List ℕ → Type 0
IsClosed taken bytes = (first (drop (string_length taken bytes) bytes) == quote) ≡ true

-- the tests of a byte of a string
string_by : (taken : Bool) (byte : ℕ) (bytes : List ℕ) → ((other : Bool) → IsClosed other bytes → StringFound other bytes) → (a b c : Bool)
    → (byte == newline) ≡ a → (byte == quote) ≡ b → (byte == backslash) ≡ c → IsClosed taken (byte ∷ bytes) → StringFound taken (byte ∷ bytes)
string_by taken byte bytes more true b c e f g h =
    let is : string_length taken (byte ∷ bytes) ≡ 0 = rw e refl in
    let here : (byte == quote) ≡ true = subst (λ (k : ℕ). (first (drop k (byte ∷ bytes)) == quote) ≡ true) is h in
    let one = equal byte newline e in
    let two = equal byte quote here in
    absurd (omega arith)
string_by true byte bytes more false b c e f g h =
    let is : string_length true (byte ∷ bytes) ≡ suc (string_length false bytes) = rw e refl in
    let rest = more false (subst (λ (k : ℕ). (first (drop k (byte ∷ bytes)) == quote) ≡ true) is h) in
    (byte, rest.0, rest.1, ap (λ (ys : List ℕ). byte ∷ ys) rest.2, ap suc rest.3 ∙ sym is, unequals byte newline e, rest.4)
string_by false byte bytes more false true c e f g h =
    let is : string_length false (byte ∷ bytes) ≡ 0 = rw (e, f) refl in
    ([], bytes, ap (λ (x : ℕ). x ∷ bytes) (equal byte quote f), sym is, none)
string_by false byte bytes more false false true e f g h =
    let is : string_length false (byte ∷ bytes) ≡ suc (string_length true bytes) = rw (e, f, g) refl in
    let rest = more true (subst (λ (k : ℕ). (first (drop k (byte ∷ bytes)) == quote) ≡ true) is h) in
    let parts : byte ∷ bytes ≡ backslash ∷ rest.0 ∷ rest.1 ++ quote ∷ rest.2 = ap (λ (ys : List ℕ). byte ∷ ys) rest.3 ∙ ap (λ (x : ℕ). x ∷ rest.0 ∷ rest.1 ++ quote ∷ rest.2) (equal byte backslash g) in
    (backslash ∷ rest.0 ∷ rest.1, rest.2, parts, ap suc rest.4 ∙ sym is, escape rest.0 rest.1 rest.5 rest.6)
string_by false byte bytes more false false false e f g h =
    let is : string_length false (byte ∷ bytes) ≡ suc (string_length false bytes) = rw (e, f, g) refl in
    let rest = more false (subst (λ (k : ℕ). (first (drop k (byte ∷ bytes)) == quote) ≡ true) is h) in
    (byte ∷ rest.0, rest.1, ap (λ (ys : List ℕ). byte ∷ ys) rest.2, ap suc rest.3 ∙ sym is, plain byte rest.0 (unequals byte quote f, unequals byte backslash g, unequals byte newline e) rest.4)

pub string_found : (bytes : List ℕ) (taken : Bool) → IsClosed taken bytes → StringFound taken bytes
string_found [] taken h = absurd (nil taken h) where
  nil : (taken : Bool) → IsClosed taken [] → ⊥
  nil true h = cc
  nil false h = cc
string_found (byte ∷ bytes) taken h =
    string_by taken byte bytes (string_found bytes) (byte == newline) (byte == quote) (byte == backslash) refl refl refl h

-- a comment reaches to its first `*/`
abbrev pub close_here : ℕ → List ℕ → Bool
close_here byte bytes = begins_with (codes "*/") (byte ∷ bytes)

pub close_marks : (byte : ℕ) (bytes : List ℕ) → close_here byte bytes ≡ true → (rest : List ℕ) × (byte ∷ bytes ≡ codes "*/" ++ rest)
close_marks byte [] h = absurd grind (arith, nat_tests)
close_marks byte (next ∷ bytes) h =
    let one : byte ≡ 42 = grind (arith, nat_tests) in
    let two : next ≡ 47 = grind (arith, nat_tests) in
    (bytes, rw (one, two) refl)

no_close_tail : (byte : ℕ) (bytes : List ℕ) → HasNoClose (byte ∷ bytes) → HasNoClose bytes
no_close_tail byte bytes h before after e = h (byte ∷ before) after (ap (λ (ys : List ℕ). byte ∷ ys) e)

close_reach_by : (byte : ℕ) (inside after : List ℕ) → HasNoClose (byte ∷ inside ++ codes "*") → before_close (inside ++ (codes "*/" ++ after)) ≡ length inside
    → (b : Bool) → close_here byte (inside ++ (codes "*/" ++ after)) ≡ b → before_close (byte ∷ inside ++ (codes "*/" ++ after)) ≡ suc (length inside)
close_reach_by byte [] after h more true e = let marks = close_marks byte (codes "*/" ++ after) e in absurd cc
close_reach_by byte (next ∷ inside) after h more true e =
    let marks = close_marks byte (next ∷ inside ++ (codes "*/" ++ after)) e in
    let one : byte ≡ 42 = cc in
    let two : next ≡ 47 = cc in
    absurd (h [] (inside ++ codes "*") (rw (one, two) refl))
close_reach_by byte inside after h more false e =
    let is : before_close (byte ∷ inside ++ (codes "*/" ++ after)) ≡ suc (before_close (inside ++ (codes "*/" ++ after))) = rw e refl in
    is ∙ ap suc more

pub close_reach : (inside after : List ℕ) → HasNoClose (inside ++ codes "*") → before_close (inside ++ (codes "*/" ++ after)) ≡ length inside
close_reach [] after h = refl
close_reach (byte ∷ inside) after h =
    close_reach_by byte inside after h (close_reach inside after (no_close_tail byte (inside ++ codes "*") h)) (close_here byte (inside ++ (codes "*/" ++ after))) refl

abbrev pub CloseFound : List ℕ → Type 0
CloseFound bytes = (inside after : List ℕ) × (bytes ≡ inside ++ (codes "*/" ++ after)) × (length inside ≡ before_close bytes) × HasNoClose (inside ++ codes "*")

star_alone : HasNoClose (codes "*")
star_alone [] after e = cc
star_alone (x ∷ []) after e = cc
star_alone (x ∷ y ∷ before) after e = cc

star_slash : (more : List ℕ) → codes "*" ≡ codes "/" ++ more → ⊥
star_slash more e = cc

no_close_more : (byte : ℕ) (inside after : List ℕ) → close_here byte (inside ++ (codes "*/" ++ after)) ≡ false → HasNoClose (inside ++ codes "*") → HasNoClose (byte ∷ inside ++ codes "*")
no_close_more byte inside after e h (x ∷ before) more same = h before more cc
no_close_more byte [] after e h [] more same = star_slash more (ap (λ (ys : List ℕ). drop 1 ys) same)
no_close_more byte (next ∷ inside) after e h [] more same =
    let one : byte ≡ 42 = cc in
    let two : next ≡ 47 = cc in
    let here : close_here byte (next ∷ inside ++ (codes "*/" ++ after)) ≡ true = rw (one, two) refl in
    absurd cc

close_by : (byte : ℕ) (bytes : List ℕ) → (before_close bytes < length bytes → CloseFound bytes) → (b : Bool) → close_here byte bytes ≡ b
    → before_close (byte ∷ bytes) < length (byte ∷ bytes) → CloseFound (byte ∷ bytes)
close_by byte bytes more true e h =
    let marks = close_marks byte bytes e in
    let is : before_close (byte ∷ bytes) ≡ 0 = rw e refl in
    ([], marks.0, marks.1, sym is, star_alone)
close_by byte bytes more false e h =
    let is : before_close (byte ∷ bytes) ≡ suc (before_close bytes) = rw e refl in
    let rest = more (omega arith) in
    let here : close_here byte (rest.0 ++ (codes "*/" ++ rest.1)) ≡ false = subst (λ (ys : List ℕ). close_here byte ys ≡ false) rest.2 e in
    (byte ∷ rest.0, rest.1, ap (λ (ys : List ℕ). byte ∷ ys) rest.2, ap suc rest.3 ∙ sym is, no_close_more byte rest.0 rest.1 here rest.4)

pub close_found : (bytes : List ℕ) → before_close bytes < length bytes → CloseFound bytes
close_found [] h = absurd (omega arith)
close_found (byte ∷ bytes) h = close_by byte bytes (close_found bytes) (close_here byte bytes) refl h
