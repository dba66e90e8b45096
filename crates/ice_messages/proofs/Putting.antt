-- What is put of a list, one item after the other.
use Rattle.std.proofs.Common.{◌≡◌, ℕ, ◌+◌, ◌≤◌, ◌<◌, get_or, List, [], ◌∷◌, ◌++◌, length, drop, sym, ap, ◌∙◌, append_assoc, append-nil, arith}
use Rattle.std.specs.List.{flat_map}
use Rattle.std.proofs.Math.ListN.{drop_of_length-le}
use Rattle.std.proofs.lemmas.List.{drop_more, length-append}
use Rattle.std.proofs.Common.{Bool, true, false, cond, ltb}
use Rattle.std.specs.Int.{w32, to_le_bytes}
use Rattle.ice_prims.specs.Bytes.{size_bytes}
use Rattle.ice_encoding.specs.Parts.{both, text}
use Rattle.ice_encoding.specs.Identity.{identity, facet}
use Rattle.ice_messages.specs.declared.message.Call.{Call}
use Rattle.ice_messages.specs.Context.{Entry, context}
use Rattle.ice_messages.specs.Calls.{mode, encapsulation, call}

size_some : (n : ℕ) → 1 ≤ length (size_bytes n)
size_some n = some (ltb n 255)
  where
    some : (b : Bool) → 1 ≤ length (cond b (n ∷ []) (255 ∷ to_le_bytes w32 n))
    some true = omega arith
    some false = omega arith

text_some : (s : List ℕ) → 1 ≤ length (text.put s)
text_some s = omega (arith, length-append (size_bytes (length s)) s, size_some (length s))

call_some : (c : Call) → 1 ≤ length (call.put c)
call_some c = omega (arith, length-append (identity.put c.identity) ((both facet (both text (both mode (both context encapsulation)))).put (c.facet, (c.operation, (c.mode, (c.context, c.body))))), length-append (text.put c.identity.name) (text.put c.identity.category), text_some c.identity.name)

module _ {A : Type 0} (put : A → List ℕ) (xs : List A) (i : ℕ) where
  pub cut : (x : A) → i < length xs → x ≡ get_or xs i x → flat_map put (drop i xs) ≡ put x ++ flat_map put (drop (i + 1) xs)
  cut x lt is = ap (flat_map put) (drop_more xs i x lt ∙ ap (λ (y : A). y ∷ drop (i + 1) xs) (sym is))

  pub next_put : (x : A) (old new total : List ℕ) → i < length xs → x ≡ get_or xs i x → new ≡ old ++ put x → old ++ flat_map put (drop i xs) ≡ total → new ++ flat_map put (drop (i + 1) xs) ≡ total
  next_put x old new total lt is grown so_far =
      ap (λ (z : List ℕ). z ++ flat_map put (drop (i + 1) xs)) grown ∙ append_assoc old (put x) (flat_map put (drop (i + 1) xs)) ∙ ap (λ (z : List ℕ). old ++ z) (sym (cut x lt is)) ∙ so_far

  pub next_fits : (x : A) (most : ℕ) → i < length xs → x ≡ get_or xs i x → length (flat_map put (drop i xs)) ≤ most → (length (put x) ≤ most) × (length (flat_map put (drop (i + 1) xs)) ≤ most)
  next_fits x most lt is fits =
      let parts : length (flat_map put (drop i xs)) ≡ length (put x) + length (flat_map put (drop (i + 1) xs)) = ap length (cut x lt is) ∙ length-append (put x) (flat_map put (drop (i + 1) xs)) in
      (omega (arith, parts, fits), omega (arith, parts, fits))

  pub all_put : (old total : List ℕ) → length xs ≤ i → old ++ flat_map put (drop i xs) ≡ total → old ≡ total
  all_put old total le so_far = sym (append-nil old) ∙ ap (λ ys. old ++ flat_map put ys) (sym (drop_of_length-le xs le)) ∙ so_far

-- ---- as many bytes as items, at least

pub entries_few : (es : List Entry) → length es ≤ length (flat_map (both text text).put es)
entries_few [] = omega arith
entries_few (e ∷ es) = omega (arith, entries_few es, length-append ((both text text).put e) (flat_map (both text text).put es), length-append (text.put e.0) (text.put e.1), text_some e.0)

pub calls_few : (cs : List Call) → length cs ≤ length (flat_map call.put cs)
calls_few [] = omega arith
calls_few (c ∷ cs) = omega (arith, calls_few cs, length-append (call.put c) (flat_map call.put cs), call_some c)
