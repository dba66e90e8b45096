-- A fault of an encapsulation is read exactly where it has the defect, by that of its content.
use Rattle.std.proofs.Common.{◌≡◌, ℕ, ℤ, ◌+◌, ◌-◌, Bool, true, false, cond, List, length, Option, Result, Ok, Err, refl, sym, ◌∙◌, inl, inr}
use Rattle.std.specs.Str.{bytes_eq}
use Rattle.std.specs.Int.{w32}
use Rattle.std.proofs.lemmas.Slice.Eq.{bytes_eq-Decides}
use Rattle.ice_types.specs.declared.kind.TypeRef.{TypeRef}
use Rattle.ice_types.specs.declared.schema.TheConstants.{MOST_DEPTH}
use Rattle.ice_types.specs.Fits.{IsOf}
use Rattle.ice_types.specs.Tables.{Tables}
use Rattle.ice_prims.specs.declared.fault.Fault.{Fault}
use Rattle.ice_prims.specs.declared.fault.Kind.{Kind}
use Rattle.ice_prims.specs.Rest.{Rest, fault, ◌>>=◌, bytes_at, bound_at}
use Rattle.ice_prims.specs.Number.{signed_at, size_at}
use Rattle.ice_prims.proofs.Parts.{chosen as choice, bytes_found, bytes_only}
use Rattle.ice_encoding.specs.declared.limits.TheConstants.{SIZE_BYTES, SMALLEST}
use Rattle.ice_encoding.specs.Bounds.{claimed, filled}
use Rattle.ice_encoding.specs.Encapsulation.{SpellsEncapsulation, encapsulated_at, encapsulation_at}
use Rattle.ice_encoding.specs.Opening.{encoding}
use Rattle.ice_encoding.specs.Parts.{exactly}
use Rattle.ice_encoding.specs.Port.{by_number, number_of}
use Rattle.ice_encoding.specs.Reading.{value_at}
use Rattle.ice_encoding.specs.Value.{SpellsPlainValue, plain_value_at}
use Rattle.ice_encoding.proofs.Encapsulations.{next_found, next_only}
use Rattle.ice_encoding.proofs.Opened.{encoding_lawful}
use Rattle.ice_encoding.proofs.Plain.{plain_found, plain_only}
use Rattle.ice_encoding.proofs.Values.{LawfulPart, number_lawful}
use Rattle.graph_laws.specs.Defects.{Defect, Then, InBound, SizeBreaks}
use Rattle.graph_laws.specs.Encapsulations.{OtherBytes, VersionBreaks, EncapsulatedBreaks, ValueInputBreaks}
use Rattle.graph_laws.specs.Values.{PlainValueBreaks, ValueBreaks}
use Rattle.graph_laws.proofs.Breaking.{failed, same_err, no_err, then_err, Agrees, then_agrees, bytes_lack, lack_bytes, filled_agrees}
use Rattle.graph_laws.proofs.Primitives.{size_agrees}
use Rattle.graph_laws.proofs.Proxies.{counted_agrees}
use Rattle.graph_laws.proofs.From.{stops, Tells}
use Rattle.graph_laws.proofs.Values.{value_tells}

-- ---- known bytes

module _ (known : List ℕ) (kind : Kind) where
  other_broken : (r : Rest) (e : Fault) → (exactly known kind).read r ≡ failed e → OtherBytes known kind r.place r.bytes e
  other_broken r e h = then_err (bytes_at (length known) r) (λ b. cond (bytes_eq b.0 known) (Ok (tt, b.1)) (fault r.place kind)) e h
      (λ bad. inl (bytes_lack (length known) r e bad))
      (λ b b_is later. elim (choice (bytes_eq b.0 known) (Ok (tt, b.1)) (fault r.place kind) (Err e) later) [
        | inl good ↦ no_err (tt, b.1) e good.1
        | inr bad ↦
            let g = bytes_found (length known) r b b_is in
            inr (b.0, b.1.bytes, g.0.parts, g.1, (λ same. differ (sym ((bytes_eq-Decides b.0 known).1 same) ∙ bad.0)), sym (same_err (record { place = r.place; kind = kind }) e bad.1))
      ])
    where
      differ : true ≡ false → ⊥
      differ e = cc

  other_breaks : (r : Rest) (e : Fault) → OtherBytes known kind r.place r.bytes e → (exactly known kind).read r ≡ failed e
  other_breaks r e (inl h) = rw (lack_bytes (length known) r e h) refl
  other_breaks r e (inr (a, rest, parts, long, other, at)) =
      let m : Rest = record { place = r.place + length a; bytes = rest } in
      let stands : bytes_at (length known) r ≡ Ok (a, m) = bytes_only (length known) r m a long (record { parts = parts; moved = refl }) in
      let off : bytes_eq a known ≡ false = refused (bytes_eq a known) refl in
      rw (stands, off, at) refl
    where
      refused : (b : Bool) → bytes_eq a known ≡ b → bytes_eq a known ≡ false
      refused true is = absurd (other ((bytes_eq-Decides a known).0 is))
      refused false is = is

  pub other_agrees : Agrees (exactly known kind).read (OtherBytes known kind)
  other_agrees = record { broken = λ r e fits h. other_broken r e h; breaks = other_breaks }

-- ---- an encapsulation of anything

assoc : {A B C : Type 0} (r : Result A Fault) (f : A → Result B Fault) (g : B → Result C Fault) → ((r >>= f) >>= g) ≡ (r >>= λ x. f x >>= g)
assoc (Ok x) f g = refl
assoc (Err e) f g = refl

module _ {A : Type 0} (read : Rest → Result (A × Rest) Fault) (Inside : Defect) (inside : Agrees (filled read) Inside) where
  -- what is read in the bound
  abbrev content : Rest × Rest → Result (A × Rest) Fault
  content bound = (encoding.read bound.0 >>= λ version. filled read version.1) >>= λ x. Ok (x, bound.1)

  versioned_agrees : Agrees (λ r. encoding.read r >>= λ version. filled read version.1) (Then encoding VersionBreaks (λ v. Inside))
  versioned_agrees = then_agrees encoding encoding_lawful VersionBreaks (other_agrees _ _) (λ v. filled read) (λ v. Inside) (λ v. inside)

  content_agrees : (behind : Rest) → Agrees (λ bound. content (bound, behind)) (Then encoding VersionBreaks (λ v. Inside))
  content_agrees behind = record {
    broken = λ r e fits h. then_err (encoding.read r >>= λ version. filled read version.1) (λ x. Ok (x, behind)) e h (λ bad. versioned_agrees.broken r e fits bad) (λ x x_is later. no_err (x, behind) e later);
    breaks = λ r e h. stops (encoding.read r >>= λ version. filled read version.1) (λ x. Ok (x, behind)) e (versioned_agrees.breaks r e h);
  }

  abbrev counted : Rest → Result (A × Rest) Fault
  counted r = signed_at w32 r >>= λ claim. claimed r.place (length r.bytes) SMALLEST claim.0 >>= λ n. bound_at (n - SIZE_BYTES) claim.1 >>= content

  abbrev go_on : Rest × Rest → Result (A × Rest) Fault
  go_on parts = filled read parts.0 >>= λ x. Ok (x, parts.1)

  in_bound : (bound : Rest × Rest) → ((encoding.read bound.0 >>= λ version. Ok (version.1, bound.1)) >>= go_on) ≡ content bound
  in_bound bound = by_version (encoding.read bound.0)
    where
      by_version : (v : Result ((Unit {0}) × Rest) Fault) → ((v >>= λ version. Ok (version.1, bound.1)) >>= go_on) ≡ ((v >>= λ version. filled read version.1) >>= λ x. Ok (x, bound.1))
      by_version (Ok v) = refl
      by_version (Err e) = refl

  same_reading : (r : Rest) → encapsulated_at read r ≡ counted r
  same_reading r =
      assoc (signed_at w32 r) (λ claim. claimed r.place (length r.bytes) SMALLEST claim.0 >>= λ n. bound_at (n - SIZE_BYTES) claim.1 >>= λ bound. encoding.read bound.0 >>= λ version. Ok (version.1, bound.1)) go_on
      ∙ (λ i. signed_at w32 r >>= λ claim. behind_claim claim i)
    where
      behind_bound : (m : Rest) (n : ℕ) → ((bound_at (n - SIZE_BYTES) m >>= λ bound. encoding.read bound.0 >>= λ version. Ok (version.1, bound.1)) >>= go_on) ≡ (bound_at (n - SIZE_BYTES) m >>= content)
      behind_bound m n = assoc (bound_at (n - SIZE_BYTES) m) (λ bound. encoding.read bound.0 >>= λ version. Ok (version.1, bound.1)) go_on ∙ (λ i. bound_at (n - SIZE_BYTES) m >>= λ bound. in_bound bound i)

      behind_claim : (claim : ℤ × Rest) → ((claimed r.place (length r.bytes) SMALLEST claim.0 >>= λ n. bound_at (n - SIZE_BYTES) claim.1 >>= λ bound. encoding.read bound.0 >>= λ version. Ok (version.1, bound.1)) >>= go_on)
          ≡ (claimed r.place (length r.bytes) SMALLEST claim.0 >>= λ n. bound_at (n - SIZE_BYTES) claim.1 >>= content)
      behind_claim claim = assoc (claimed r.place (length r.bytes) SMALLEST claim.0) (λ n. bound_at (n - SIZE_BYTES) claim.1 >>= λ bound. encoding.read bound.0 >>= λ version. Ok (version.1, bound.1)) go_on
          ∙ (λ i. claimed r.place (length r.bytes) SMALLEST claim.0 >>= λ n. behind_bound claim.1 n i)

  pub encapsulated_agrees : Agrees (encapsulated_at read) (EncapsulatedBreaks Inside)
  encapsulated_agrees = record {
    broken = λ r e fits h. agrees.broken r e fits (sym (same_reading r) ∙ h);
    breaks = λ r e h. same_reading r ∙ agrees.breaks r e h;
  }
    where
      agrees : Agrees counted (EncapsulatedBreaks Inside)
      agrees = counted_agrees content (Then encoding VersionBreaks (λ v. Inside)) content_agrees

-- ---- of a value by itself

pub number_tells : (at : Option ℕ) → Tells by_number.seen (λ s. Unit {0}) (by_number.read at) (λ from. SizeBreaks)
number_tells at = record {
  broken = λ s r e good fits h. then_err (size_at r) (λ n. Ok (number_of n.0, s, n.1)) e h (λ bad. size_agrees.broken r e fits bad) (λ n n_is later. no_err (number_of n.0, s, n.1) e later);
  breaks = λ s r e h. stops (size_at r) (λ n. Ok (number_of n.0, s, n.1)) e (size_agrees.breaks r e h);
}

module _ (t : Tables) (kind : TypeRef) (is : IsOf t kind) where
  told : Tells by_number.seen (λ s. Unit {0}) (value_at by_number.read t MOST_DEPTH kind) (ValueBreaks by_number (λ at from. SizeBreaks) t MOST_DEPTH kind)
  told = value_tells by_number number_lawful (λ s. Unit {0}) (λ at bytes x from to h good. tt) (λ at from. SizeBreaks) number_tells t MOST_DEPTH kind is.0 is.1

  pub plain_agrees : Agrees (plain_value_at t kind) (PlainValueBreaks t kind)
  unfolding plain_value_at PlainValueBreaks
  plain_agrees = record {
    broken = λ r e fits h. then_err (value_at by_number.read t MOST_DEPTH kind tt r) (λ x. Ok (x.0, x.2)) e h (λ bad. told.broken tt r e tt fits bad) (λ x x_is later. no_err (x.0, x.2) e later);
    breaks = λ r e h. stops (value_at by_number.read t MOST_DEPTH kind tt r) (λ x. Ok (x.0, x.2)) e (told.breaks tt r e h);
  }

  plain_law : LawfulPart (plain_value_at t kind) (SpellsPlainValue t kind)
  plain_law = record { found = plain_found t kind; only = plain_only t kind }

  filled_value : Agrees (filled (plain_value_at t kind)) (InBound (SpellsPlainValue t kind) (PlainValueBreaks t kind))
  filled_value = filled_agrees (plain_value_at t kind) (SpellsPlainValue t kind) plain_law (PlainValueBreaks t kind) plain_agrees

  pub value_input_agrees : Agrees (encapsulation_at t kind) (ValueInputBreaks t kind)
  value_input_agrees = filled_agrees (encapsulated_at (plain_value_at t kind)) (SpellsEncapsulation t kind) (record { found = next_found t kind; only = next_only t kind })
      (EncapsulatedBreaks (InBound (SpellsPlainValue t kind) (PlainValueBreaks t kind))) (encapsulated_agrees (plain_value_at t kind) (InBound (SpellsPlainValue t kind) (PlainValueBreaks t kind)) filled_value)
