-- The message of a plan can be written and sent.
use Rattle.std.proofs.Common.{◌≡◌, ◌≤◌, ◌<◌, ◌+◌, ◌^◌, ℕ, zero, suc, pos, List, [], ◌∷◌, ◌++◌, length, Ok, refl, sym, subst, inl, inr, arith, length-append}
use Rattle.std.specs.Prelude.{FitsSigned}
use Rattle.std.specs.Int.{w32}
use Rattle.std.specs.List.Sorted.{IsStrictlySortedBy}
use Rattle.ice_types.specs.declared.declarations.Shape.{Shape}
use Rattle.ice_types.specs.declared.proxy.Proxy.{Proxy}
use Rattle.ice_types.specs.Tables.{Tables}
use Rattle.ice_prims.specs.Bytes.{signed_bytes}
use Rattle.ice_prims.specs.Number.{SpellsSigned}
use Rattle.ice_prims.proofs.Spelled.{int_exact}
use Rattle.ice_encoding.specs.Opening.{encapsulated_bytes}
use Rattle.ice_encoding.specs.Graph.{Graph}
use Rattle.ice_encoding.specs.CanonicalGraph.{Format, graph_bytes, canonical_graph}
use Rattle.ice_messages.specs.declared.message.Call.{Call}
use Rattle.ice_messages.specs.Calls.{IsEncapsulation}
use Rattle.ice_messages.specs.Context.{AreRising}
use Rattle.ice_messages.specs.Written.{IsBody, IsWritableCall, IsWritable as CanBeWritten}
use Rattle.node_commands.specs.Words.{Word}
use Rattle.call_command.specs.declared.arguments.TheConstants.{MOST_OF_ARGUMENTS}
use Rattle.call_command.specs.Messages.{call_of, message_of}
use Rattle.call_command.specs.Steps.{EncodesArguments, IsSent}
use Rattle.call_command.proofs.Repeating.{all_alike, some_alike}

-- ---- an encapsulation is a body

fits : (n : ℕ) → n < 2 ^ 31 → FitsSigned w32 (pos n)
fits n lt = omega (arith, lt)

-- the size has four bytes
counted : (content claim : List ℕ) → length claim ≡ 4 → length (claim ++ 1 ∷ 1 ∷ content) ≡ 6 + length content
counted content claim four = omega (arith, four, length-append claim (1 ∷ 1 ∷ content))

enclosed : (content : List ℕ) → length (encapsulated_bytes content) ≤ 1000000 → IsEncapsulation (encapsulated_bytes content)
enclosed content short =
    let claim = signed_bytes w32 (pos (6 + length content)) in
    let long : length (encapsulated_bytes content) ≡ 6 + length content = counted content claim refl in
    let few : 6 + length content ≤ 1000000 = subst (λ (n : ℕ). n ≤ 1000000) long short in
    let spelled : SpellsSigned w32 claim (pos (6 + length content)) = int_exact.put (pos (6 + length content)) (fits (6 + length content) (omega (arith, few))) in
    (claim, 1 ∷ 1 ∷ content, refl, subst (λ (n : ℕ). SpellsSigned w32 claim (pos n)) (sym long) spelled, omega (arith, long), omega (arith, long, few))

arguments_fit : (t : Tables) (s : Shape) (f : Format) (g : Graph) (body : List ℕ) → body ≡ graph_bytes t s f g → length body ≤ MOST_OF_ARGUMENTS → IsBody body
arguments_fit t s f g body is short =
    let few : length (encapsulated_bytes (canonical_graph t s f g)) ≤ 1000000 = subst (λ (b : List ℕ). length b ≤ 1000000) is short in
    inl (subst IsEncapsulation (sym is) (enclosed (canonical_graph t s f g) few))

pub held : (t : Tables) (s : Shape) (f : Format) (text body : List ℕ) → EncodesArguments t s f text (Ok body) → IsBody body
held t s f text body (g, lists, writable, is, short) = arguments_fit t s f g body is short

-- ---- the message

no_entries : AreRising []
unfolding IsStrictlySortedBy
no_entries = tt

module _ (p : Proxy) (word : Word) (mode : ℕ) (body : List ℕ) (allowed : mode ≤ 2) (held : IsBody body) where
  one : IsWritableCall (call_of p word mode body)
  one = record { mode = allowed; context = no_entries; body = held }

  -- in each mode of the proxy
  pub writable : (proxy_mode times : ℕ) → CanBeWritten (message_of proxy_mode times (call_of p word mode body))
  writable zero times = one
  writable (suc zero) times = one
  writable (suc (suc n)) times = all_alike IsWritableCall (call_of p word mode body) times one

-- a request, or calls for which no reply comes
pub sent : (proxy_mode times : ℕ) (c : Call) → 0 < times → IsSent (message_of proxy_mode times c)
sent zero times c some = inl (c, refl)
sent (suc zero) times c some = inr refl
sent (suc (suc n)) times c some = inr (some_alike c times some)
