-- A request of which only the first bytes came.
use Rattle.std.proofs.Common.{◌≡◌, ℕ, ℤ, ◌≤◌, ◌⊎◌, inl, inr, List, [], ◌∷◌, ◌++◌, length, suc, refl, ap, sym, subst, arith, length-append}
use Rattle.ice_messages.specs.declared.message.Call.{Call}
use Rattle.ice_messages.specs.declared.message.Message.{Message}
use Rattle.ice_messages.specs.declared.message.Message.TheVariants.{Request, Validate}
use Rattle.ice_messages.specs.Messages.{SpellsMessage}
use Rattle.ice_messages.specs.Streams.{Stream}
use Rattle.ice_messages.proofs.Streams.{messages_apart}
use Rattle.dispatch_pool.specs.Handled.{Asked, Handled, asked, asked_of, asking}
use Rattle.once_law.specs.Cut.{IsHeartbeat, CutCallsAreNone}
use Rattle.once_law.proofs.Streams.{server_reads}

asking_long : (hs : List Handled) → length (asking hs) ≡ length hs
asking_long [] = refl
asking_long (h ∷ hs) = ap suc (asking_long hs)

none_of : (hs : List Handled) → length hs ≤ 0 → hs ≡ []
none_of [] few = refl
none_of (h ∷ hs) few = absurd (omega arith)

-- no more calls are handled than were asked for
few_handled : (hs : List Handled) (rest calls : List Asked) → calls ≡ asking hs ++ rest → length hs ≤ length calls
few_handled hs rest calls e = let a = ap (λ (z : List Asked). length z) e in let b = length-append (asking hs) rest in let c = asking_long hs in omega arith

-- the calls of what was read behind a heartbeat
record Behind (front : List ℕ) (reads : List Message) : Type 0 where
  messages : List Message
  left : List ℕ
  same : asked reads ≡ asked messages
  stream : (messages ≡ []) ⊎ Stream front messages left

behind : (before front left : List ℕ) (reads : List Message) → IsHeartbeat before → Stream (before ++ front) reads left → Behind front reads
behind before front left reads (inl none) s =
    record { messages = reads; left = left; same = refl; stream = inr (subst (λ (z : List ℕ). Stream (z ++ front) reads left) none s) }
behind before front left [] (inr spelled) s = record { messages = []; left = left; same = refl; stream = inl refl }
behind before front left (m ∷ ms) (inr spelled) s =
    let apart = messages_apart before s.0 front s.1 Validate m spelled s.3 s.2 in
    record {
      messages = ms;
      left = left;
      same = ap (λ (z : Message). asked_of z ++ asked ms) (sym apart.0);
      stream = inr (subst (λ (z : List ℕ). Stream z ms left) (sym apart.1) s.4);
    }

-- of a request whose bytes lack none is asked for, and else one
of_request : (id : ℤ) (call : Call) (front more left : List ℕ) (ms : List Message) → SpellsMessage (front ++ more) (Request id call) → (ms ≡ []) ⊎ Stream front ms left
    → (1 ≤ length more → length (asked ms) ≤ 0) × (length (asked ms) ≤ 1)
of_request id call front more left ms spelled (inl none) = let e = ap (λ (z : List Message). length (asked z)) none in ((λ lacks. omega arith), omega arith)
of_request id call front more left ms spelled (inr s) = by_reads (server_reads (Request id call) (front ++ more) front more ms left spelled refl s)
  where
    by_reads : (ms ≡ []) ⊎ ((ms ≡ Request id call ∷ []) × (front ≡ front ++ more)) → (1 ≤ length more → length (asked ms) ≤ 0) × (length (asked ms) ≤ 1)
    by_reads (inl none) = let e = ap (λ (z : List Message). length (asked z)) none in ((λ lacks. omega arith), omega arith)
    by_reads (inr one) =
        let e = ap (λ (z : List Message). length (asked z)) one.0 in
        let f = ap (λ (z : List ℕ). length z) one.1 in
        let g = length-append front more in
        ((λ lacks. absurd (omega arith)), omega arith)

pub cut_calls : CutCallsAreNone
cut_calls keys most t handled end id call before front more did given heartbeat spelled =
    let b = behind before front did.left did.reads heartbeat (subst (λ (z : List ℕ). Stream z did.reads did.left) given did.stream) in
    let few = of_request id call front more b.left b.messages spelled b.stream in
    let most_of = few_handled handled did.rest (asked did.reads) did.calls in
    let same = ap (λ (z : List Asked). length z) b.same in
    ((λ lacks. let none = few.0 lacks in none_of handled (omega arith)), (λ whole. let one = few.1 in omega arith))
