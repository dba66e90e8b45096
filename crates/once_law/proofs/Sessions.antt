-- A session at the other end of an attempt's connection: which calls it handled, and what it said.
use Rattle.std.proofs.Common.{◌≡◌, ℕ, ℤ, pos, zero, suc, ◌<◌, ◌≤◌, inl, inr, Bool, true, false, List, [], ◌∷◌, ◌++◌, length, Some, refl, ap, sym, ◌∙◌, subst, arith, map, append-nil, length-append}
use Rattle.std.specs.Prelude.{slice_get}
use Rattle.ice_messages.specs.declared.message.Call.{Call}
use Rattle.ice_messages.specs.declared.message.Answer.{Answer}
use Rattle.ice_messages.specs.declared.message.Message.{Message}
use Rattle.ice_messages.specs.declared.message.Message.TheVariants.{Request, Batch, Reply, Validate, Close}
use Rattle.ice_messages.specs.Messages.{SpellsMessage}
use Rattle.ice_client.specs.Sending.{asks_reply, IsOneway}
use Rattle.ice_messages.specs.Calls.{status_of}
use Rattle.dispatch_pool.specs.Handled.{Keys, Outcome, had_turn, refused, Asked, Handled, answer_of, IsOutcome, AreOutcomes, unasked, asked_of, asked, asking, replies, reply_of}
use Rattle.call_world.specs.World as world
use Rattle.once_law.specs.Placed.{closing}
use Rattle.once_law.specs.Ends.{Session, IsSession, IsSent}
use Rattle.once_law.specs.Shown.{with_mode, calls_of, turn_of, turn_at, answer_at, answers_at}
use Rattle.once_law.proofs.Lists.{true_false, false_true, head_is, tail_is, none_at, first_is, mapped_long}
use Rattle.once_law.proofs.Links as links
use Rattle.once_law.proofs.Sweeps.{All}
use Rattle.once_law.proofs.Streams.{server_reads}

-- ---- the calls of a message

unasked_long : (cs : List Call) → length (unasked cs) ≡ length cs
unasked_long [] = refl
unasked_long (c ∷ cs) = ap suc (unasked_long cs)

calls_long : (m : Message) → length (asked_of m) ≡ length (calls_of m)
calls_long (Request id call) = refl
calls_long (Batch calls) = unasked_long calls ∙ sym (mapped_long with_mode calls)
calls_long (Reply id answer) = refl
calls_long Validate = refl
calls_long Close = refl

pub calls_some : (m : Message) → IsSent m → 0 < length (calls_of m)
calls_some m sent = elim sent [
  | inl request ↦ subst (λ (z : Message). 0 < length (calls_of z)) (sym request.1) (let l : 0 < 1 = omega arith in l)
  | inr oneway ↦ some m oneway
] where
  some : (m : Message) → IsOneway m → 0 < length (calls_of m)
  some (Request id call) h = omega arith
  some (Batch []) h = absurd (h refl)
  some (Batch (c ∷ cs)) h = omega arith
  some (Reply id answer) h = absurd h
  some Validate h = absurd h
  some Close h = absurd h

pub oneway_asks : (m : Message) → IsOneway m → asks_reply m ≡ false
oneway_asks (Request id call) h = ap (λ (z : ℤ). asks_reply (Request z call)) h
oneway_asks (Batch calls) h = refl
oneway_asks (Reply id answer) h = absurd h
oneway_asks Validate h = absurd h
oneway_asks Close h = absurd h

-- one that asks for a reply is a request with id 1
pub asking_is : (m : Message) → IsSent m → asks_reply m ≡ true → (call : Call) × (m ≡ Request (pos 1) call)
asking_is m sent asks = elim sent [
  | inl request ↦ request
  | inr oneway ↦ absurd (false_true (sym (oneway_asks m oneway) ∙ asks))
]

pub calls_alone : (m : Message) → IsSent m → asks_reply m ≡ true → length (calls_of m) ≡ 1
calls_alone m sent asks =
    let a = asking_is m sent asks in
    ap (λ (z : Message). length (calls_of z)) a.1

-- ---- the calls that were handled

abbrev is_unasked : Asked → Type 0
is_unasked a = a.id ≡ pos 0

unasked_all : (cs : List Call) → All is_unasked (unasked cs)
unasked_all [] = tt
unasked_all (c ∷ cs) = (refl, unasked_all cs)

oneway_all : (m : Message) → IsOneway m → All is_unasked (asked_of m)
oneway_all (Request id call) h = (h, tt)
oneway_all (Batch calls) h = unasked_all calls
oneway_all (Reply id answer) h = absurd h
oneway_all Validate h = absurd h
oneway_all Close h = absurd h

abbrev is_silent : Handled → Type 0
is_silent h = h.asked.id ≡ pos 0

handled_all : (hs : List Handled) (rest xs : List Asked) → xs ≡ asking hs ++ rest → All is_unasked xs → All is_silent hs
handled_all [] rest xs e a = tt
handled_all (h ∷ hs) rest [] e a = absurd (let z = ap (λ (ys : List Asked). length ys) e in omega arith)
handled_all (h ∷ hs) rest (x ∷ xs) e a =
    (subst is_unasked (head_is e) a.0, handled_all hs rest xs (tail_is e) a.1)

silent_answers : (seat : ℕ) (hs : List Handled) → All is_silent hs → answers_at seat hs ≡ []
silent_answers seat [] a = refl
silent_answers seat (h ∷ hs) a =
    ap (λ (z : ℤ). answer_at seat z (answer_of h.outcome) ++ answers_at (suc seat) hs) a.0 ∙ silent_answers (suc seat) hs a.1

silent_replies : (hs : List Handled) → All is_silent hs → replies hs ≡ []
silent_replies [] a = refl
silent_replies (h ∷ hs) a =
    ap (λ (z : ℤ). reply_of z (answer_of h.outcome) ++ replies hs) a.0 ∙ silent_replies hs a.1

asking_long : (hs : List Handled) → length (asking hs) ≡ length hs
asking_long [] = refl
asking_long (h ∷ hs) = ap suc (asking_long hs)

-- no call was handled, or the one of this request
pub data IsOne (hs : List Handled) : Type 0 where
  none_handled : hs ≡ [] → IsOne hs
  one_handled : (h : Handled) → hs ≡ h ∷ [] → h.asked.id ≡ pos 1 → IsOne hs

one_of : (hs : List Handled) (rest : List Asked) (call : Call) → asked_of (Request (pos 1) call) ≡ asking hs ++ rest → IsOne hs
one_of [] rest call e = none_handled refl
one_of (h ∷ []) rest call e =
    let x : Asked = record { id = pos 1; call = call } in
    let first : x ≡ h.asked = head_is e in
    one_handled h refl (ap (λ (a : Asked). a.id) (sym first))
one_of (h ∷ g ∷ hs) rest call e = absurd (let z = ap (λ (ys : List Asked). length ys) e in omega arith)

-- what a session did with a message
pub record Dealt (m : Message) (size : ℕ) (s : Session) : Type 0 where
  pub room : length s.handled ≤ length (calls_of m)
  pub whole : 0 < length s.handled → size ≤ length s.talk.given
  pub one : asks_reply m ≡ true → IsOne s.handled
  pub silent : asks_reply m ≡ false → (answers_at 0 s.handled ≡ []) × (replies s.handled ≡ [])

none_dealt : (m : Message) (size : ℕ) (s : Session) → s.handled ≡ [] → Dealt m size s
none_dealt m size s e = record {
  room = let l = ap (λ (hs : List Handled). length hs) e in omega arith;
  whole = λ some. absurd (let l = ap (λ (hs : List Handled). length hs) e in omega arith);
  one = λ asks. none_handled e;
  silent = λ asks. (ap (answers_at 0) e, ap replies e);
}

pub dealt : (m : Message) (bytes more : List ℕ) (s : Session) → IsSent m → SpellsMessage bytes m → IsSession s → s.talk.given ++ more ≡ bytes → Dealt m (length bytes) s
dealt m bytes more s sent spelled server e = elim (server_reads m bytes s.talk.given more server.reads server.left spelled e server.stream) [
  | inl none ↦ none_dealt m (length bytes) s (empty s.handled server.rest (sym server.calls ∙ ap asked none))
  | inr read ↦
      let calls : asked_of m ≡ asking s.handled ++ server.rest =
      sym (append-nil (asked_of m)) ∙ (ap asked (sym read.0) ∙ server.calls) in
      let long = ap (λ (ys : List Asked). length ys) calls in
      let parts = length-append (asking s.handled) server.rest in
      let own = asking_long s.handled in
      let all = calls_long m in
      record {
        room = omega arith;
        whole = λ some. let l = ap (λ (z : List ℕ). length z) read.1 in omega arith;
        one = λ asks.
            let a = asking_is m sent asks in
            one_of s.handled server.rest a.0 (ap asked_of (sym a.1) ∙ calls);
        silent = λ asks. elim sent [
          | inl request ↦ absurd (true_false (ap asks_reply (sym request.1) ∙ asks))
          | inr oneway ↦
              let a = handled_all s.handled server.rest (asked_of m) calls (oneway_all m oneway) in
              (silent_answers 0 s.handled a, silent_replies s.handled a)
        ];
      }
] where
  empty : (hs : List Handled) (rest : List Asked) → asking hs ++ rest ≡ [] → hs ≡ []
  empty [] rest e = refl
  empty (h ∷ hs) rest e = absurd (let z = ap (λ (ys : List Asked). length ys) e in omega arith)

-- ---- turns

pub reply_is : (o : Outcome) → links.reply_of (turn_of o) ≡ answer_of o
reply_is (had_turn place ticket answer) = refl
reply_is (refused answer) = refl

outcome_allowed : (keys : Keys) (call : Call) (o : Outcome) → IsOutcome keys call o → links.IsAllowed status_of (turn_of o)
outcome_allowed keys call (had_turn place ticket answer) h = λ refusal. elim refusal [
  | inl two ↦ h.1.0 two
  | inr three ↦ h.1.1 three
]
outcome_allowed keys call (refused answer) h = elim h [
  | inl two ↦ inl (ap status_of two.1)
  | inr three ↦ inr (ap status_of three.1)
]

pub turns_allowed : (keys : Keys) (hs : List Handled) → AreOutcomes keys hs → (n : ℕ) (t : world.Turn Answer) → slice_get (map turn_at hs) n ≡ Some t → links.IsAllowed status_of t
turns_allowed keys [] a n t h = absurd (none_at n t h)
turns_allowed keys (x ∷ hs) a zero t h =
    subst (λ (u : world.Turn Answer). links.IsAllowed status_of u) (first_is (turn_at x) t h) (outcome_allowed keys x.asked.call x.outcome a.0)
turns_allowed keys (x ∷ hs) a (suc n) t h = turns_allowed keys hs a.1 n t h

-- what the session said, as the connection has it
one_said : (hs : List Handled) → IsOne hs → links.answers true (map turn_at hs) ≡ answers_at 0 hs
one_said hs (none_handled e) =
    ap (λ (z : List Handled). links.answers true (map turn_at z)) e ∙ ap (answers_at 0) (sym e)
one_said hs (one_handled h e id) =
    ap (λ (z : List Handled). links.answers true (map turn_at z)) e
    ∙ (ap (λ (a : Answer). world.Answer 0 a ∷ []) (reply_is h.outcome)
    ∙ (ap (λ (z : ℤ). answer_at 0 z (answer_of h.outcome) ++ []) (sym id) ∙ ap (answers_at 0) (sym e)))

pub said_is : (m : Message) (size : ℕ) (s : Session) (closes : Bool) → Dealt m size s
    → links.said (asks_reply m) (map turn_at s.handled) closes ≡ world.Validate ∷ (answers_at 0 s.handled ++ closing closes)
said_is m size s closes d = by (asks_reply m) refl where
  by : (b : Bool) → asks_reply m ≡ b → links.said (asks_reply m) (map turn_at s.handled) closes ≡ world.Validate ∷ (answers_at 0 s.handled ++ closing closes)
  by true e =
      ap (λ (c : Bool). links.said c (map turn_at s.handled) closes) e
      ∙ ap (λ (z : List (world.Sent Answer)). world.Validate ∷ (z ++ closing closes)) (one_said s.handled (d.one e))
  by false e =
      ap (λ (c : Bool). links.said c (map turn_at s.handled) closes) e
      ∙ ap (λ (z : List (world.Sent Answer)). world.Validate ∷ (z ++ closing closes)) (sym (d.silent e).0)
