-- Bytes that are a text, and bytes that are none.
use Rattle.std.proofs.Common.{◌≡◌, ℕ, Bool, true, false, List, Option, Some, None, Result, Ok, Err, MatchResult, Bor, refl, ap, ◌∙◌}
use Rattle.std.specs.Result.{result_ok}
use Rattle.std.specs.Str.{IsUtf8, is_utf8}
use Rattle.std.proofs.lemmas.Str.{IsUtf8-from_is_utf8, is_utf8-from_IsUtf8}
use Rattle.slice_syntax.specs.Lexemes.{if_text, text_seen}

pub false_if : (b : Bool) → (b ≡ true → ⊥) → b ≡ false
false_if true h = absurd (h refl)
false_if false h = refl

pub text_is : (bytes text : List ℕ) → text ≡ bytes → IsUtf8 bytes → Some text ≡ if_text bytes
text_is bytes text same utf8 = let test = is_utf8-from_IsUtf8 bytes utf8 in rw (same, test) refl

pub text_bad : (bytes : List ℕ) → (IsUtf8 bytes → ⊥) → None ≡ if_text bytes
text_bad bytes bad = let test = false_if (is_utf8 bytes) (λ e. bad (IsUtf8-from_is_utf8 bytes e)) in rw test refl

-- what reading bytes as a text answers, as far as it is a text
pub ok_text : {E : Type 0} (Q : E → Type 0) (bytes : List ℕ) (r : Result (Bor (List ℕ)) E) (o : Option (Bor (List ℕ))) → MatchResult r (λ text. (text.now ≡ bytes) × IsUtf8 bytes) (λ e. (IsUtf8 bytes → ⊥) × Q e)
    → o ≡ result_ok r → text_seen o ≡ if_text bytes
ok_text Q bytes (Ok text) o cases is = ap text_seen is ∙ text_is bytes text.now cases.0 cases.1
ok_text Q bytes (Err fault) o cases is = ap text_seen is ∙ text_bad bytes cases.0
