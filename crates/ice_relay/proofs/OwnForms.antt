-- What is canonical already is relayed as it stands, and compared by its bytes.
use Rattle.std.proofs.Common.{◌≡◌, ℕ, ◌≤◌, ◌-◌, Bool, true, false, List, ◌++◌, length, take, drop, Ok, Vec, refl, sym, ap, ◌∙◌, subst, arith}
use Rattle.std.specs.Prelude.{◌↔◌, IsTrue}
use Rattle.std.specs.declared.alloc.Global.{Global}
use Rattle.std.proofs.lemmas.List.{take-append-drop, take_rest}
use Rattle.ice_types.specs.declared.kind.TypeRef.{TypeRef}
use Rattle.ice_types.specs.Tables.{Tables}
use Rattle.ice_types.specs.Rules.{IsSchema}
use Rattle.ice_prims.specs.Rest.{IsBytes}
use Rattle.ice_prims.proofs.Parts.{IsBytes-front, IsBytes-rest}
use Rattle.ice_encoding.specs.declared.limits.TheConstants.{LARGEST}
use Rattle.ice_encoding.specs.Flags.{all_slices}
use Rattle.ice_encoding.specs.CanonicalGraph.{Format, sliced}
use Rattle.ice_encoding.specs.SameGraph.{Same}
use Rattle.graph_laws.proofs.Schemas.{read_equal_is_same}
use Rattle.canonical_inputs.specs.Inputs.{IsOwnForm}
use Rattle.ice_relay.specs.declared.comparing.TheConstants.{MOST_COMPARED}
use Rattle.ice_relay.specs.Relaying.{one_value, canonical_bytes, Canonicalizes}
use Rattle.ice_relay.specs.Comparing.{size_of, Compares}

module _ (t : Tables) (kind : TypeRef) where
  pub relayed_as_it_stands : (f : Format) (input : List ℕ) (bytes : Vec ℕ Global) → f ≡ sliced → bytes.items ≡ input → IsOwnForm t (one_value kind) input → Canonicalizes t kind f input (Ok bytes)
  relayed_as_it_stands f input bytes is same (g, holds, are, short) =
      subst (λ (e : Format). Canonicalizes t kind e input (Ok bytes)) (sym is)
      (g, holds, (λ n lt. tt), same ∙ are, subst (λ (l : List ℕ). length l ≤ LARGEST) (sym same) short)

  pub compared_by_bytes : (input first second : List ℕ) (same : Bool) → IsSchema t → IsBytes input → input ≡ first ++ second
      → IsOwnForm t (one_value kind) first → IsOwnForm t (one_value kind) second → (IsTrue same ↔ (first ≡ second)) → Compares t kind input (Ok same)
  compared_by_bytes input first second same rules fits parts (g, one, g_is, g_short) (h, other, h_is, h_short) test =
      let all : IsBytes (first ++ second) = subst IsBytes parts fits in
      let small : size_of t kind g ≤ MOST_COMPARED = omega (arith, ap length g_is, g_short) in
      let next : size_of t kind h ≤ MOST_COMPARED = omega (arith, ap length h_is, h_short) in
      let tell : (canonical_bytes t kind sliced g ≡ canonical_bytes t kind sliced h) ↔ Same g h =
      read_equal_is_same t all_slices (one_value kind) sliced first second g h rules (IsBytes-front first second all) (IsBytes-rest first second all) one other (λ n lt. tt) (λ n lt. tt) (omega (arith, small)) in
      (g, h, (first, second, parts, one, other), (small, next), (λ yes. tell.0 (sym g_is ∙ test.0 yes ∙ h_is), λ s. test.1 (g_is ∙ tell.1 s ∙ sym h_is)))

  -- the first so many bytes and those behind them
  pub compared_same : (input : List ℕ) (n : ℕ) → IsSchema t → IsBytes input → IsOwnForm t (one_value kind) (take n input) → take n input ≡ take (length input - n) (drop n input) → Compares t kind input (Ok true)
  compared_same input n rules fits own same =
      let equal : take n input ≡ drop n input = same ∙ take_rest input n in
      compared_by_bytes input (take n input) (drop n input) true rules fits (sym (take-append-drop n input)) own (subst (λ (l : List ℕ). IsOwnForm t (one_value kind) l) equal own) ((λ yes. equal), (λ e. refl))

  pub compared_different : (input : List ℕ) (n : ℕ) → IsSchema t → IsBytes input → IsOwnForm t (one_value kind) (take n input) → IsOwnForm t (one_value kind) (take (length input - n) (drop n input))
      → (take n input ≡ take (length input - n) (drop n input) → ⊥) → Compares t kind input (Ok false)
  compared_different input n rules fits own other unlike =
      compared_by_bytes input (take n input) (drop n input) false rules fits (sym (take-append-drop n input)) own (subst (λ (l : List ℕ). IsOwnForm t (one_value kind) l) (take_rest input n) other)
      ((λ yes. absurd (never yes)), (λ e. absurd (unlike (e ∙ sym (take_rest input n)))))
    where
      never : IsTrue false → ⊥
      never e = cc
