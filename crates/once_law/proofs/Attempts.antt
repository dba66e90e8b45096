-- An attempt with the session at its other end, as a link: how far both ends of the connection came.
use Rattle.std.proofs.Common.{◌≡◌, ℕ, ℤ, pos, suc, ◌<◌, ◌≤◌, ◌⊎◌, ◌&&◌, inl, inr, Bool, true, false, List, [], ◌∷◌, ◌++◌, length, Option, None, Some, refl, ap, sym, ◌∙◌, subst, arith, map}
use Rattle.std.proofs.lemmas.Bool.{lt-ltb, eqb-true}
use Rattle.ice_encoding.specs.Parts.{Each}
use Rattle.ice_ports.specs.declared.talk.Talk.{Talk}
use Rattle.ice_messages.specs.declared.message.Call.{Call}
use Rattle.ice_messages.specs.declared.message.Answer.{Answer}
use Rattle.ice_messages.specs.declared.message.Answer.TheVariants.{Done, Raised, Missing, Unknown}
use Rattle.ice_messages.specs.declared.message.Message.{Message}
use Rattle.ice_messages.specs.declared.message.Message.TheVariants.{Request, Batch, Reply, Validate, Close}
use Rattle.ice_messages.specs.Streams.{Stream}
use Rattle.retry_core.specs.declared.attempt.Attempt.{Attempt}
use Rattle.retry_core.specs.declared.attempt.Attempt.TheVariants as tries
use Rattle.retry_core.specs.Retries.{may_follow}
use Rattle.ice_client.specs.declared.outcome.Outcome.{Outcome}
use Rattle.ice_client.specs.declared.outcome.Outcome.TheVariants as outcomes
use Rattle.ice_client.specs.declared.outgoing.Outgoing.{Outgoing}
use Rattle.ice_client.specs.Rows.{AreValidates, Reads, Meets, is_no_object, IsLoss, Row, IsOrderly}
use Rattle.talking.specs.Ends.{Begins}
use Rattle.ice_client.specs.Sending.{asks_reply, IsIdempotent, IsOf}
use Rattle.ice_client.specs.Asking.{HasRow}
use Rattle.ice_messages.specs.Calls.{status_of}
use Rattle.dispatch_pool.specs.Handled.{Handled, answer_of, replies, reply_of}
use Rattle.call_world.specs.World as world
use Rattle.once_law.specs.Placed.{From, seats, after, connection_of}
use Rattle.once_law.specs.Ends.{Session, IsSession, IsSent, IsPrefix, IsMet}
use Rattle.once_law.specs.Shown.{CallWorld, with_mode, calls_of, result_of, turn_at, ShowsAttempt}
use Rattle.once_law.proofs.Lists.{none_some, false_true, head_is, tail_is, mapped_long}
use Rattle.once_law.proofs.Links as links
use Rattle.once_law.proofs.Streams.{prefix_trans, prefix_long, message_some, none_streamed, stream_then, closing, IsTold, ends_told, reads_said}
use Rattle.once_law.proofs.Sessions.{IsOne, none_handled, one_handled, Dealt, dealt, turns_allowed, reply_is, said_is}

abbrev pub Link : Type 0
Link = links.Link Answer

-- ---- idempotent messages

calls_repeat : (n : ℕ) (calls : List Call) → Each (λ (c : Call). 0 < c.mode) calls → From (λ (k : ℕ) (x : Call × Bool). x.1 ≡ true) n (map with_mode calls)
calls_repeat n [] h = tt
calls_repeat n (c ∷ cs) h = (lt-ltb 0 c.mode h.0, calls_repeat (suc n) cs h.1)

pub repeatable : (m : Message) → IsIdempotent m → links.AreRepeatable (calls_of m)
repeatable (Request id call) h = (lt-ltb 0 call.mode h, tt)
repeatable (Batch calls) h = calls_repeat 0 calls h
repeatable (Reply id answer) h = tt
repeatable Validate h = tt
repeatable Close h = tt

-- ---- what a link of an attempt is

-- the outcome of the last attempt, as its link tells it
abbrev pub Told : Bool → ℕ → world.Outcome Answer → Option Link → Type 0
Told twoway size (world.Replied r) link = (l : Link) × (link ≡ Some l) × links.HasAnswer twoway l r
Told twoway size world.Handed link = (twoway ≡ false) × ((l : Link) × (link ≡ Some l) × (size ≤ l.handed))
Told twoway size world.Failed link = Unit {0}

-- both ends fit; and where the attempt may be followed, it can have no dispatch any more, or its calls may be repeated
abbrev pub IsWell : Message → ℕ → Bool → Option Link → Type 0
IsWell m size follows None = Unit {0}
IsWell m size follows (Some l) =
    links.IsLink status_of (asks_reply m) size (length (calls_of m)) l
    × (follows ≡ true → links.AreRepeatable (calls_of m) ⊎ links.IsGone status_of (asks_reply m) size l)

pub record IsLinkOf (m : Message) (bytes : List ℕ) (talk : Option Talk) (session : Option Session) (follows : Bool) (outcome : Outcome) (link : Option Link) : Type 0 where
  pub numbered : (c : ℕ) → connection_of c talk ≡ connection_of c link
  pub counted : (c : ℕ) → after c talk ≡ after c link
  pub well : IsWell m (length bytes) follows link
  pub told : Told (asks_reply m) (length bytes) (result_of (Some outcome)) link
  pub shows :
      (w : CallWorld) (i c : ℕ) → links.LinkAt w.connections (seats i (asks_reply m) (length bytes) (calls_of m)) (asks_reply m) (length bytes) c link
      → ShowsAttempt w i m bytes c talk session

-- ---- outcomes that are no success

-- nothing is told of it
abbrev IsSilent : Outcome → Type 0
IsSilent outcome = result_of (Some outcome) ≡ world.Failed

silent_told : (twoway : Bool) (size : ℕ) (outcome : Outcome) (link : Option Link) → IsSilent outcome → Told twoway size (result_of (Some outcome)) link
silent_told twoway size outcome link e = subst (λ (r : world.Outcome Answer). Told twoway size r link) (sym e) tt

loss_silent : (outcome : Outcome) (t : Talk) → IsLoss outcome t → IsSilent outcome
loss_silent outcome t h = elim h [
  | inl failed ↦ ap (λ (o : Outcome). result_of (Some o)) failed.0
  | inr ended ↦ ap (λ (o : Outcome). result_of (Some o)) ended.0
]

-- a connection at whose other end no session was
abbrev alone : Link
alone = record { handed = 0; arrived = 0; read = 0; served = None }

-- ---- one attempt that connected

module _ (o : Outgoing) (m : Message) (is_of : IsOf o m) (sent : IsSent m) (t : Talk) (orderly : IsOrderly o t) where
  some : 0 < length o.bytes
  some = let l = message_some o.bytes m is_of.spelled in omega arith

  taken : IsPrefix t.taken o.bytes
  taken = (orderly.0.0, sym orderly.0.1)

  whole_taken : t.taken ≡ o.bytes → t.taken ≡ [] → ⊥
  whole_taken e none =
      let s = some in
      let a = ap (λ (z : List ℕ). length z) e in
      let b = ap (λ (z : List ℕ). length z) none in
      omega arith

  repeats : o.idempotent ≡ true → links.AreRepeatable (calls_of m)
  repeats e = repeatable m (is_of.idempotent.0 e)

  -- ---- no session

  none_taken : t.given ≡ [] → t.taken ≡ []
  none_taken none = elim orderly.1 [
    | inl e ↦ e
    | inr begins ↦ absurd (none_streamed Validate [] t.given begins.0 none begins.1)
  ]

  -- of no bytes the rows of a message taken whole are none
  no_row : (cached : Bool) (a : Attempt) (outcome : Outcome) → t.given ≡ [] → Row o cached a outcome t → IsSilent outcome
  no_row cached tries.NotConnected outcome none row = absurd row
  no_row cached tries.NotWhole outcome none row = loss_silent outcome t row.2
  no_row cached tries.Sent outcome none row = absurd (whole_taken row.0 (none_taken none))
  no_row cached tries.Lost outcome none row = loss_silent outcome t row.4
  no_row cached tries.Closed outcome none row = ap (λ (x : Outcome). result_of (Some x)) row.2
  no_row cached tries.Stale outcome none row =
      absurd (let replied = row.1 in let meets = replied.1 in let reads = meets.1 in whole_taken reads.0 (none_taken none))
  no_row cached tries.Broke outcome none row = ap (λ (x : Outcome). result_of (Some x)) row.2
  no_row cached tries.Replied outcome none row =
      absurd (let replied = row.1 in let meets = replied.1 in let reads = meets.1 in whole_taken reads.0 (none_taken none))

  alone_link : (cached : Bool) (a : Attempt) (outcome : Outcome) → t.given ≡ [] → Row o cached a outcome t
      → IsLinkOf m o.bytes (Some t) None (may_follow o.idempotent a) outcome (Some alone)
  alone_link cached a outcome none row = record {
    numbered = λ c. refl;
    counted = λ c. refl;
    well = (
      record {
        arrived = omega arith;
        handed = omega arith;
        greeted = λ l. l;
        read = omega arith;
        whole = λ l. absurd (omega arith);
        room = omega arith;
        allowed = λ n u h. absurd (none_some h);
      },
      λ follows. inr (inl some),
    );
    told = silent_told (asks_reply m) (length o.bytes) outcome (Some alone) (no_row cached a outcome none row);
    shows = λ w i c h. record {
      asked = ap (λ (k : world.Connection Answer). k.asked) h;
      asked_bytes = ap (λ (k : world.Connection Answer). k.asked_bytes) h;
      taken = taken;
      handed = ap (λ (k : world.Connection Answer). k.handed) h ∙ sym (ap (λ (z : List ℕ). length z) (none_taken none));
      reads = [];
      rest = t.given;
      stream = refl;
      read = ap (λ (k : world.Connection Answer). k.read) h;
      left = ap (λ (k : world.Connection Answer). k.client_left) h;
      server = (
        ap (λ (k : world.Connection Answer). k.arrived) h,
        ap (λ (k : world.Connection Answer). k.turns) h,
        ap (λ (k : world.Connection Answer). k.answered) h,
      );
    };
  }

-- ---- what stands second in what a session said

close_reply : {id : ℤ} {a : Answer} → Close ≡ Reply id a → ⊥
close_reply e = cc

validate_reply : {id : ℤ} {a : Answer} → Validate ≡ Reply id a → ⊥
validate_reply e = cc

validate_close : Validate ≡ Close → ⊥
validate_close e = cc

reply_same : {id : ℤ} {a b : Answer} → Reply id a ≡ Reply id b → a ≡ b
reply_same e = cc

nothing : {x : Message} {xs : List Message} → x ∷ xs ≡ [] → ⊥
nothing e = let z = ap (λ (ys : List Message). length ys) e in omega arith

-- a close where no call was handled, or the reply of the one that was
data IsSecond (hs : List Handled) (closes : Bool) (x : Message) : Type 0 where
  is_close : hs ≡ [] → closes ≡ true → x ≡ Close → IsSecond hs closes x
  is_reply : (h : Handled) → hs ≡ h ∷ [] → x ≡ Reply (pos 1) (answer_of h.outcome) → IsSecond hs closes x

second_closing : (hs : List Handled) (closes : Bool) (x : Message) (others : List Message) → hs ≡ [] → x ∷ others ≡ closing closes → IsSecond hs closes x
second_closing hs true x others none e = is_close none refl (head_is e)
second_closing hs false x others none e = absurd (nothing e)

second_is : (hs : List Handled) (closes : Bool) (x : Message) (others : List Message) → IsOne hs → x ∷ others ≡ replies hs ++ closing closes → IsSecond hs closes x
second_is hs closes x others (none_handled none) e =
    second_closing hs closes x others none (e ∙ ap (λ (z : List Handled). replies z ++ closing closes) none)
second_is hs closes x others (one_handled h one id) e =
    let f : replies hs ++ closing closes ≡ Reply (pos 1) (answer_of h.outcome) ∷ closing closes =
    ap (λ (z : List Handled). replies z ++ closing closes) one
    ∙ ap (λ (z : ℤ). (reply_of z (answer_of h.outcome) ++ []) ++ closing closes) id in
    is_reply h one (head_is (e ∙ f))

no_validate : (hs : List Handled) (closes : Bool) (x : Message) → x ≡ Validate → IsSecond hs closes x → ⊥
no_validate hs closes x e (is_close none closed f) = validate_close (sym e ∙ f)
no_validate hs closes x e (is_reply h one f) = validate_reply (sym e ∙ f)

-- behind validates alone it is the first message
second_read : (hs : List Handled) (closes : Bool) (ms : List Message) (x : Message) (others : List Message) → IsOne hs → AreValidates ms
    → (ms ++ x ∷ []) ++ others ≡ replies hs ++ closing closes → (ms ≡ []) × IsSecond hs closes x
second_read hs closes [] x others one all e = (refl, second_is hs closes x others one e)
second_read hs closes (u ∷ us) x others one all e =
    absurd (no_validate hs closes u all.0 (second_is hs closes u ((us ++ x ∷ []) ++ others) one e))

-- ---- an attempt with a session

abbrev served_of : List Handled → Bool → Option (List (world.Turn Answer) × Bool)
served_of hs closes = Some (map turn_at hs, closes)

module _ (o : Outgoing) (m : Message) (is_of : IsOf o m) (sent : IsSent m) (t : Talk) (orderly : IsOrderly o t)
    (s : Session) (server : IsSession s) (forth : IsPrefix s.talk.given t.taken) (back : IsPrefix t.given s.talk.taken) where
  abbrev two : Bool
  two = asks_reply m

  abbrev size : ℕ
  size = length o.bytes

  dealt_with : Dealt m size s
  dealt_with =
      let p = prefix_trans s.talk.given t.taken o.bytes forth (taken o m is_of sent t orderly) in
      dealt m o.bytes p.0 s sent is_of.spelled server p.1

  told_end : IsTold s.end s.handled s.talk.taken
  told_end = ends_told s.end server.left (length server.reads) s.most s.handled s.talk.taken server.said

  abbrev closes : Bool
  closes = told_end.0

  abbrev link : ℕ → Link
  link n = record {
    handed = length t.taken;
    arrived = length s.talk.given;
    read = n;
    served = served_of s.handled closes;
  }

  fits : (n : ℕ) → (0 < length t.taken → 0 < n) → n ≤ length (links.said two (map turn_at s.handled) closes)
      → links.IsLink status_of two size (length (calls_of m)) (link n)
  fits n greeted read =
      let d = dealt_with in
      let many : length (map turn_at s.handled) ≡ length s.handled = mapped_long turn_at s.handled in
      let room = d.room in
      record {
        arrived = prefix_long s.talk.given t.taken forth;
        handed = prefix_long t.taken o.bytes (taken o m is_of sent t orderly);
        greeted = greeted;
        read = read;
        whole = λ l. d.whole (omega arith);
        room = omega arith;
        allowed = turns_allowed s.keys s.handled server.outcomes;
      }

  shows : (n : ℕ) (reads : List Message) (rest : List ℕ) → Stream t.given reads rest → n ≡ length reads → (w : CallWorld) (i c : ℕ)
      → links.LinkAt w.connections (seats i two size (calls_of m)) two size c (Some (link n)) → ShowsAttempt w i m o.bytes c (Some t) (Some s)
  shows n reads rest stream long w i c h = record {
    asked = ap (λ (k : world.Connection Answer). k.asked) h;
    asked_bytes = ap (λ (k : world.Connection Answer). k.asked_bytes) h;
    taken = taken o m is_of sent t orderly;
    handed = ap (λ (k : world.Connection Answer). k.handed) h;
    reads = reads;
    rest = rest;
    stream = stream;
    read = ap (λ (k : world.Connection Answer). k.read) h ∙ long;
    left = ap (λ (k : world.Connection Answer). k.client_left) h;
    server = (
      ap (λ (k : world.Connection Answer). k.arrived) h,
      ap (λ (k : world.Connection Answer). k.turns) h,
      (closes, told_end.1, ap (λ (k : world.Connection Answer). k.answered) h ∙ said_is m size s closes dealt_with),
    );
  }

  -- ---- where no more than a validate was read

  record Greeted : Type 0 where
    n : ℕ
    greeted : 0 < length t.taken → 0 < n
    few : n ≤ 1
    reads : List Message
    rest : List ℕ
    stream : Stream t.given reads rest
    long : n ≡ length reads

  greeting : Greeted
  greeting = elim orderly.1 [
    | inl none ↦ record {
      n = 0;
      greeted = λ l. let e = ap (λ (z : List ℕ). length z) none in omega arith;
      few = omega arith;
      reads = [];
      rest = t.given;
      stream = refl;
      long = refl;
    }
    | inr begins ↦ record {
      n = 1;
      greeted = λ l. omega arith;
      few = omega arith;
      reads = Validate ∷ [];
      rest = begins.0;
      stream = begins.1;
      long = refl;
    }
  ]

  greeted_link : (follows : Bool) (outcome : Outcome)
      → (follows ≡ true → links.AreRepeatable (calls_of m) ⊎ (length t.taken < size))
      → ((l : Link) → l.handed ≡ length t.taken → Told two size (result_of (Some outcome)) (Some l))
      → (l : Link) × IsLinkOf m o.bytes (Some t) (Some s) follows outcome (Some l)
  greeted_link follows outcome gone told =
      let g = greeting in
      let few = g.few in (
        link g.n,
        record {
          numbered = λ c. refl;
          counted = λ c. refl;
          well = (
            fits g.n g.greeted (omega arith),
            λ f. elim (gone f) [
              | inl again ↦ inl again
              | inr short ↦ inr (inl short)
            ],
          );
          told = told (link g.n) refl;
          shows = shows g.n g.reads g.rest g.stream g.long;
        },
      )

  silent_link : (follows : Bool) (outcome : Outcome)
      → (follows ≡ true → links.AreRepeatable (calls_of m) ⊎ (length t.taken < size)) → IsSilent outcome
      → (l : Link) × IsLinkOf m o.bytes (Some t) (Some s) follows outcome (Some l)
  silent_link follows outcome gone silent =
      greeted_link follows outcome gone (λ l e. silent_told two size outcome (Some l) silent)

  -- ---- where a second message was read

  module _ (v : Message) (ms : List Message) (rest : List ℕ) (reads : Reads o t (v ∷ ms) rest) (x : Message) (begins : Begins rest x) where
    asks : two ≡ true
    asks = sym is_of.replies ∙ reads.1

    abbrev read_two : List Message
    read_two = (v ∷ ms) ++ x ∷ []

    stream_two : Stream t.given read_two begins.0
    stream_two = stream_then t.given (v ∷ ms) (x ∷ []) rest begins.0 reads.4 begins.1

    second : (ms ≡ []) × IsSecond s.handled closes x
    second =
        let r = reads_said (Validate ∷ (replies s.handled ++ closing closes)) read_two t.given s.talk.taken begins.0 told_end.2 back stream_two in
        second_read s.handled closes ms x r.0 (dealt_with.one asks) reads.2.1 (tail_is r.1)

    two_read : 2 ≡ length read_two
    two_read = ap (λ (z : List Message). length ((v ∷ z) ++ x ∷ [])) (sym second.0)

    second_link : (follows : Bool) (outcome : Outcome) → 2 ≤ length (links.said two (map turn_at s.handled) closes)
        → (follows ≡ true → links.IsGone status_of two size (link 2)) → Told two size (result_of (Some outcome)) (Some (link 2))
        → IsLinkOf m o.bytes (Some t) (Some s) follows outcome (Some (link 2))
    second_link follows outcome enough gone told = record {
      numbered = λ c. refl;
      counted = λ c. refl;
      well = (fits 2 (λ l. omega arith) enough, λ f. inr (gone f));
      told = told;
      shows = shows 2 read_two begins.0 stream_two two_read;
    }

  -- a close was read
  close_link : (v : Message) (ms : List Message) (rest : List ℕ) → Reads o t (v ∷ ms) rest → Begins rest Close → (follows : Bool) (outcome : Outcome) → IsSilent outcome
      → (l : Link) × IsLinkOf m o.bytes (Some t) (Some s) follows outcome (Some l)
  close_link v ms rest reads begins follows outcome silent = by (second v ms rest reads Close begins).1 where
    by : IsSecond s.handled closes Close → (l : Link) × IsLinkOf m o.bytes (Some t) (Some s) follows outcome (Some l)
    by (is_close none closed e) =
        let asked = asks v ms rest reads Close begins in
        let served : served_of s.handled closes ≡ served_of [] true =
        ap (λ (z : List Handled). served_of z closes) none ∙ ap (served_of []) closed in
        let long : length (links.said two (map turn_at s.handled) closes) ≡ 2 =
        ap (λ (b : Bool). length (links.said b (map turn_at s.handled) closes)) asked
        ∙ (ap (λ (z : List Handled). length (links.said true (map turn_at z) closes)) none
        ∙ ap (λ (b : Bool). length (links.said {R = Answer} true [] b)) closed) in (
          link 2,
          second_link v ms rest reads Close begins follows outcome (omega arith) (λ f. inr (inl (asked, refl, served))) (silent_told two size outcome (Some (link 2)) silent),
        )
    by (is_reply h one e) = absurd (close_reply e)

  -- the reply was read
  answer_link : (answer : Answer) (v : Message) (ms : List Message) (rest : List ℕ) → Reads o t (v ∷ ms) rest → Begins rest (Reply (pos 1) answer) → (follows : Bool)
      → (follows ≡ true → status_of answer ≡ 2) → (outcome : Outcome) → outcome ≡ outcomes.Replied answer
      → (l : Link) × IsLinkOf m o.bytes (Some t) (Some s) follows outcome (Some l)
  answer_link answer v ms rest reads begins follows stale outcome is = by (second v ms rest reads (Reply (pos 1) answer) begins).1 where
    by : IsSecond s.handled closes (Reply (pos 1) answer) → (l : Link) × IsLinkOf m o.bytes (Some t) (Some s) follows outcome (Some l)
    by (is_close none closed e) = absurd (close_reply (sym e))
    by (is_reply h one e) =
        let asked = asks v ms rest reads (Reply (pos 1) answer) begins in
        let same : answer_of h.outcome ≡ answer = sym (reply_same e) in
        let served : served_of s.handled closes ≡ served_of (h ∷ []) closes =
        ap (λ (z : List Handled). served_of z closes) one in
        let has : links.HasAnswer two (link 2) answer = (turn_at h, closes, asked, refl, served, reply_is h.outcome ∙ same) in
        let long : length (links.said two (map turn_at s.handled) closes) ≡ length (links.said true (turn_at h ∷ []) closes) =
        ap (λ (b : Bool). length (links.said b (map turn_at s.handled) closes)) asked
        ∙ ap (λ (z : List Handled). length (links.said true (map turn_at z) closes)) one in
        let told : Told two size (result_of (Some outcome)) (Some (link 2)) =
        subst (λ (z : Outcome). Told two size (result_of (Some z)) (Some (link 2))) (sym is) (link 2, refl, has) in (
          link 2,
          second_link v ms rest reads (Reply (pos 1) answer) begins follows outcome (omega arith) (λ f. inr (inr (answer, has, stale f))) told,
        )

  -- ---- by the rows

  nothing_taken : t.taken ≡ [] → length t.taken < size
  nothing_taken e =
      let l = some o m is_of sent t orderly in
      let f = ap (λ (z : List ℕ). length z) e in
      omega arith

  closed_row : (ms : List Message) (outcome : Outcome) → Meets o t ms Close None → IsSilent outcome
      → (l : Link) × IsLinkOf m o.bytes (Some t) (Some s) (may_follow o.idempotent tries.Closed) outcome (Some l)
  closed_row [] outcome meets silent = let reads = meets.1 in silent_link true outcome (λ f. inr (nothing_taken reads.0)) silent
  closed_row (v ∷ ms) outcome meets silent = close_link v ms meets.0 meets.1 meets.2 true outcome silent

  no_object : (answer : Answer) → is_no_object answer ≡ true → status_of answer ≡ 2
  no_object (Done body) e = absurd (false_true e)
  no_object (Raised body) e = absurd (false_true e)
  no_object (Missing status i f p) e = eqb-true status 2 e
  no_object (Unknown status what) e = absurd (false_true e)

  both_true : (a b : Bool) → (a && b) ≡ true → b ≡ true
  both_true true b e = e
  both_true false b e = absurd (false_true e)

  pub session_link : (cached : Bool) (a : Attempt) (outcome : Outcome) → Row o cached a outcome t
      → (l : Link) × IsLinkOf m o.bytes (Some t) (Some s) (may_follow o.idempotent a) outcome (Some l)
  session_link cached tries.NotConnected outcome row = absurd row
  session_link cached tries.NotWhole outcome row = silent_link true outcome (λ f. inr row.0) (loss_silent outcome t row.2)
  session_link cached tries.Sent outcome row =
      greeted_link false outcome (λ f. absurd (false_true f))
      (λ l e. subst (λ (z : Outcome). Told two size (result_of (Some z)) (Some l)) (sym row.5)
      (sym is_of.replies ∙ row.1, (l, refl, (let f = ap (λ (z : List ℕ). length z) row.0 in omega arith))))
  session_link cached tries.Lost outcome row = silent_link o.idempotent outcome (λ f. inl (repeats o m is_of sent t orderly f)) (loss_silent outcome t row.4)
  session_link cached tries.Closed outcome row = closed_row row.0 outcome row.1 (ap (λ (x : Outcome). result_of (Some x)) row.2)
  session_link cached tries.Stale outcome row =
      let replied = row.1 in
      let meets = replied.1 in
      answer_link row.0 Validate replied.0 meets.0 meets.1 meets.2 true (λ f. no_object row.0 (both_true cached (is_no_object row.0) replied.2)) outcome row.2
  session_link cached tries.Broke outcome row =
      silent_link false outcome (λ f. absurd (false_true f)) (ap (λ (x : Outcome). result_of (Some x)) row.2)
  session_link cached tries.Replied outcome row =
      let replied = row.1 in
      let meets = replied.1 in
      answer_link row.0 Validate replied.0 meets.0 meets.1 meets.2 false (λ f. absurd (false_true f)) outcome row.2

-- ---- any attempt

pub link_of : (o : Outgoing) (m : Message) → IsOf o m → IsSent m → (cached : Bool) (a : Attempt) (outcome : Outcome) (talk : Option Talk) (session : Option Session)
    → HasRow o cached a outcome talk → IsMet talk session
    → (link : Option Link) × IsLinkOf m o.bytes talk session (may_follow o.idempotent a) outcome link
link_of o m is_of sent cached a outcome None session row met = (
  None,
  record {
    numbered = λ c. refl;
    counted = λ c. refl;
    well = tt;
    told = silent_told (asks_reply m) (length o.bytes) outcome None (ap (λ (x : Outcome). result_of (Some x)) row.1);
    shows = λ w i c h. tt;
  },
)
link_of o m is_of sent cached a outcome (Some t) None row met =
    (Some alone, alone_link o m is_of sent t row.1 cached a outcome met row.0)
link_of o m is_of sent cached a outcome (Some t) (Some s) row met =
    let l = session_link o m is_of sent t row.1 s met.0 met.1 met.2 cached a outcome row.0 in
    (Some l.0, l.1)
