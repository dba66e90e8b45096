-- What is read of a text decides it.
use Rattle.std.proofs.Common.{ap, ◌≡◌, ◌<◌, ℕ, List, ◌++◌, length, Option, Some, None, refl, sym, ◌∙◌, subst, arith, inl, inr, ◌⊎◌}
use Rattle.std.proofs.lemmas.List.{append-nil, length-append}
use Rattle.serde_json.specs.Data.{Data}
use Rattle.ice_types.specs.declared.declarations.Shape.{Shape}
use Rattle.ice_types.specs.Tables.{Tables}
use Rattle.ice_encoding.specs.Graph.{Graph}
use Rattle.graph_json.specs.declared.fault.JsonKind.{JsonKind}
use Rattle.graph_json.specs.declared.fault.JsonKind.TheVariants as kinds
use Rattle.graph_json.specs.declared.text.TheConstants.{MOST_TEXT}
use Rattle.graph_json.specs.Texts.{IsRefused, Lists, WithJson}
use Rattle.ice_relay.specs.TextStreams.{ReadsText}

-- all of it was read, or more than a text may have
whole_or_long : (input got : List ℕ) (left : Option (List ℕ)) → ReadsText (Some input) left got → (input ≡ got) ⊎ ((MOST_TEXT < length got) × (MOST_TEXT < length input))
whole_or_long input got None (consumed, le, end) = absurd consumed
whole_or_long input got (Some rest) (consumed, le, inl many) = inr (omega (arith, many), omega (arith, many, ap length consumed, length-append got rest))
whole_or_long input got (Some rest) (consumed, le, inr none) = inl (consumed ∙ ap (λ (l : List ℕ). got ++ l) none ∙ append-nil got)

short : (text : List ℕ) (P : Data → Type 0) → MOST_TEXT < length text → WithJson text P → ⊥
short text P long (le, d, is, p) = absurd (omega (arith, long, le))

pub listed_whole : (t : Tables) (shape : Shape) (input got : List ℕ) (left : Option (List ℕ)) (g : Graph) → ReadsText (Some input) left got → Lists t shape got g → Lists t shape input g
listed_whole t shape input got left g read (le, d, is, fits) = go (whole_or_long input got left read)
  where
    go : (input ≡ got) ⊎ ((MOST_TEXT < length got) × (MOST_TEXT < length input)) → Lists t shape input g
    go (inl same) = subst (λ (text : List ℕ). Lists t shape text g) (sym same) (le, d, is, fits)
    go (inr long) = absurd (omega (arith, le, long.0))

-- a text that is too long is so whatever follows
long_alone : (t : Tables) (shape : Shape) (text : List ℕ) (why : JsonKind) → MOST_TEXT < length text → IsRefused t shape text why → why ≡ kinds.TooLong
long_alone t shape text kinds.TooLong long h = refl
long_alone t shape text kinds.NotJson long h = absurd (omega (arith, long, h.0))
long_alone t shape text kinds.TooMany long (le, d, is, many) = absurd (omega (arith, long, le))
long_alone t shape text kinds.Misfit long (le, d, is, none) = absurd (omega (arith, long, le))

pub refused_whole : (t : Tables) (shape : Shape) (input got : List ℕ) (left : Option (List ℕ)) (why : JsonKind) → ReadsText (Some input) left got → IsRefused t shape got why → IsRefused t shape input why
refused_whole t shape input got left why read h = go (whole_or_long input got left read)
  where
    go : (input ≡ got) ⊎ ((MOST_TEXT < length got) × (MOST_TEXT < length input)) → IsRefused t shape input why
    go (inl same) = subst (λ (text : List ℕ). IsRefused t shape text why) (sym same) h
    go (inr long) = subst (IsRefused t shape input) (sym (long_alone t shape got why long.0 h)) long.1
