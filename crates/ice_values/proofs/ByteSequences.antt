-- A sequence of bytes is read as its items one by one are.
use Rattle.std.proofs.Common.{◌≡◌, ℕ, zero, suc, ◌+◌, ◌<◌, Bool, true, false, cond, ltb, List, [], ◌∷◌, length, take, replicate, slice_get, Option, None, Some, Result, Ok, Err, inl, inr, refl, sym, ap, ◌∙◌, arith}
use Rattle.std.proofs.lemmas.Bool.{cases_lt, le-ltb, lt-ltb}
use Rattle.std.specs.Option.{option_map}
use Rattle.ice_prims.specs.declared.fault.Fault.{Fault}
use Rattle.ice_prims.specs.declared.fault.Kind.TheVariants.{Short}
use Rattle.ice_prims.specs.Number.{size_at}
use Rattle.ice_prims.specs.Rest.{Rest, ◌>>=◌, after}
use Rattle.ice_types.specs.declared.kind.TypeRef.{TypeRef}
use Rattle.ice_types.specs.declared.kind.TypeRef.TheVariants as kinds
use Rattle.ice_types.specs.declared.declarations.SeqDecl.{SeqDecl}
use Rattle.ice_types.specs.Tables.{Tables}
use Rattle.ice_encoding.specs.Tree.{Tree, byte, sequence, Trees, tree}
use Rattle.ice_encoding.specs.Port.{Reader}
use Rattle.ice_encoding.specs.Reading.{each_at, value_at, value_step, made, sized, listed}
use Rattle.graph_arena.specs.View.{byte_trees}
use Rattle.ice_values.proofs.Frames.{with_state, made_sequence, some-same}
use Rattle.ice_values.specs.ByteSequence.{HasByteItems, each_byte_at, byte_sequence_at}

ltb-suc : (m n : ℕ) → ltb (suc m) (suc n) ≡ ltb m n
ltb-suc m n = elim (cases_lt m n) [
  | inl lt ↦ lt-ltb (suc m) (suc n) (omega (arith, lt)) ∙ sym (lt-ltb m n lt)
  | inr le ↦ le-ltb (suc m) (suc n) (omega (arith, le)) ∙ sym (le-ltb m n le)
]

abbrev rest_at : ℕ → List ℕ → Rest
rest_at place bytes = record { place = place; bytes = bytes }

abbrev as_read : List ℕ → Rest → Result (List ℕ × Rest) Fault
as_read bytes r = Ok (bytes, r)

abbrev as_short : ℕ → Result (List ℕ × Rest) Fault
as_short place = Err (record { place = place; kind = Short })

abbrev as_trees : {S : Type 0} → S → Result (List ℕ × Rest) Fault → Result (Trees × S × Rest) Fault
as_trees s read = read >>= λ b. Ok (byte_trees b.0, s, b.1)

abbrev as_sequence : List ℕ × Rest → Result (Tree × Rest) Fault
as_sequence b = Ok (sequence (byte_trees b.0), b.1)

abbrev one_more : {S : Type 0} → ℕ → Result (Trees × S × Rest) Fault → Result (Trees × S × Rest) Fault
one_more b read = read >>= λ x. Ok (tree (byte b) x.0, x.1, x.2)

abbrev chosen_bytes : {S : Type 0} → Bool → ℕ → ℕ → List ℕ → S → Result (Trees × S × Rest) Fault
chosen_bytes short n place bytes s = as_trees s (cond short (Err (record { place = place + length bytes; kind = Short })) (Ok (take n bytes, after (rest_at place bytes) n)))

one-more : {S : Type 0} (short : Bool) (n place b : ℕ) (bytes : List ℕ) (s : S) → one_more b (chosen_bytes short n (place + 1) bytes s) ≡ chosen_bytes short (suc n) place (b ∷ bytes) s
one-more true n place b bytes s = let same : (place + 1) + length bytes ≡ place + suc (length bytes) = omega arith in rw same refl
one-more false n place b bytes s = let same : (place + 1) + n ≡ place + suc n = omega arith in rw same refl

module _ {S : Type 0} (refer : Option ℕ → Reader S (Option ℕ)) (t : Tables) (levels : ℕ) where
  each-byte : (n place : ℕ) (bytes : List ℕ) (s : S) → each_at (value_at refer t (suc levels)) (replicate n kinds.Byte) s (rest_at place bytes) ≡ as_trees s (each_byte_at n (rest_at place bytes))
  each-byte zero place bytes s = let none_lacks : ltb (length bytes) 0 ≡ false = le-ltb _ _ (omega arith) in
      let same : place ≡ place + 0 = omega arith in
      rw none_lacks (ap (λ (p : ℕ). as_trees s (as_read [] (rest_at p bytes))) same)
  each-byte (suc n) place [] s = let lacks : ltb 0 (suc n) ≡ true = lt-ltb _ _ (omega arith) in
      let same : place ≡ place + 0 = omega arith in
      rw lacks (ap (λ (p : ℕ). as_trees s (as_short p)) same)
  each-byte (suc n) place (b ∷ bytes) s =
      let there : ltb (suc (length bytes)) 1 ≡ false = le-ltb _ _ (omega arith) in
      rw (there, ltb-suc (length bytes) n) (ap (one_more b) (each-byte n (place + 1) bytes s) ∙ one-more (ltb (length bytes) n) n place b bytes s)

  -- so many bytes, and the sequence of them
  of_bytes : (s : S) (read : Result (List ℕ × Rest) Fault) → (as_trees s read >>= made_sequence) ≡ with_state s (read >>= as_sequence)
  of_bytes s (Ok b) = refl
  of_bytes s (Err e) = refl

  of_size : (s : S) (read : Result (ℕ × Rest) Fault) → ((read >>= λ n. each_at (value_at refer t (suc levels)) (replicate n.0 kinds.Byte) s n.1) >>= made_sequence)
      ≡ with_state s (read >>= λ n. each_byte_at n.0 n.1 >>= as_sequence)
  of_size s (Ok n) = ap (λ (x : Result (Trees × S × Rest) Fault). x >>= made_sequence) (each-byte n.0 n.1.place n.1.bytes s) ∙ of_bytes s (each_byte_at n.0 n.1)
  of_size s (Err e) = refl

  of_row : (row : Option SeqDecl) (s : S) (r : Rest) → option_map (λ q. q.element) row ≡ Some kinds.Byte
      → listed row r (λ q. made sequence (sized (λ n. each_at (value_at refer t (suc levels)) (replicate n q.element))) s r) ≡ with_state s (byte_sequence_at r)
  of_row None s r has = absurd cc
  of_row (Some q) s r has =
      ap (λ (kind : TypeRef). (size_at r >>= λ n. each_at (value_at refer t (suc levels)) (replicate n.0 kind) s n.1) >>= made_sequence) (some-same has)
      ∙ of_size s (size_at r)

-- a sequence of bytes changes no state
pub bytes-step : {S : Type 0} (refer : Option ℕ → Reader S (Option ℕ)) (t : Tables) (levels at : ℕ) (s : S) (r : Rest) → 0 < levels → HasByteItems t at
    → value_step refer t (value_at refer t levels) (kinds.Seq at) s r ≡ with_state s (byte_sequence_at r)
bytes-step refer t zero at s r deep has = absurd (omega (arith, deep))
bytes-step refer t (suc levels) at s r deep has = of_row refer t levels (slice_get t.seqs at) s r has
