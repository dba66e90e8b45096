-- A question's arguments are an encapsulation.
use Rattle.std.proofs.Common.{ℕ, pos, ◌≡◌, ◌<◌, ◌≤◌, ◌+◌, ◌^◌, List, ◌∷◌, ◌++◌, length, refl, sym, subst, inl, arith, length-append}
use Rattle.std.specs.Prelude.{FitsSigned}
use Rattle.std.specs.Int.{w32}
use Rattle.ice_prims.specs.Bytes.{signed_bytes, text_bytes, size_bytes}
use Rattle.ice_prims.specs.Number.{SpellsSigned}
use Rattle.ice_prims.proofs.Spelled.{int_exact}
use Rattle.ice_encoding.specs.Opening.{encapsulated_bytes}
use Rattle.ice_messages.specs.Calls.{IsEncapsulation}
use Rattle.ice_messages.specs.Written.{IsBody}
use Rattle.locator.specs.declared.key.Key.{Key}
use Rattle.locator.specs.declared.key.Key.TheVariants.{Object, Adapter}
use Rattle.locator.specs.Keys as keys
use Rattle.locator.specs.Questions.{content, body}

fits : (n : ℕ) → n < 2 ^ 31 → FitsSigned w32 (pos n)
fits n lt = omega (arith, lt)

-- the size has four bytes
counted : (inside claim : List ℕ) → length claim ≡ 4 → length (claim ++ 1 ∷ 1 ∷ inside) ≡ 6 + length inside
counted inside claim four = omega (arith, four, length-append claim (1 ∷ 1 ∷ inside))

pub enclosed_long : (inside : List ℕ) → length (encapsulated_bytes inside) ≡ 6 + length inside
enclosed_long inside = counted inside (signed_bytes w32 (pos (6 + length inside))) refl

pub encapsulation : (inside : List ℕ) → length (encapsulated_bytes inside) ≤ 1000000 → IsEncapsulation (encapsulated_bytes inside)
encapsulation inside short =
    let claim = signed_bytes w32 (pos (6 + length inside)) in
    let long = enclosed_long inside in
    let few : 6 + length inside ≤ 1000000 = subst (λ (n : ℕ). n ≤ 1000000) long short in
    let spelled : SpellsSigned w32 claim (pos (6 + length inside)) = int_exact.put (pos (6 + length inside)) (fits (6 + length inside) (omega (arith, few))) in
    (claim, 1 ∷ 1 ∷ inside, refl, subst (λ (n : ℕ). SpellsSigned w32 claim (pos n)) (sym long) spelled, omega (arith, long), omega (arith, long, few))

pub is_body : (key : Key) (bytes : List ℕ) → bytes ≡ body key → length bytes ≤ 1000000 → IsBody bytes
is_body key bytes is short = inl (subst IsEncapsulation (sym is) (encapsulation (content key) (subst (λ (b : List ℕ). length b ≤ 1000000) is short)))

-- ---- a text is not longer than what holds it

text_long : (s : List ℕ) → length s ≤ length (text_bytes s)
text_long s = omega (arith, length-append (size_bytes (length s)) s)

pub name_long : (key : Key) → length (keys.name key) ≤ length (body key)
name_long (Object i) = omega (arith, enclosed_long (text_bytes i.name ++ text_bytes i.category), length-append (text_bytes i.name) (text_bytes i.category), text_long i.name)
name_long (Adapter id) = omega (arith, enclosed_long (text_bytes id), text_long id)

pub category_long : (key : Key) → length (keys.category key) ≤ length (body key)
category_long (Object i) = omega (arith, enclosed_long (text_bytes i.name ++ text_bytes i.category), length-append (text_bytes i.name) (text_bytes i.category), text_long i.category)
category_long (Adapter id) = omega arith
