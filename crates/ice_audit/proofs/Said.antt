-- What messages say, and what the world shows of them.
use Rattle.std.proofs.Common.{◌≡◌, ℕ, ℤ, suc, ◌+◌, List, [], ◌∷◌, ◌++◌, Some, refl, ap, sym, ◌∙◌, subst, arith, Bool, true, false}
use Rattle.std.specs.Prelude.{slice_get}
use Rattle.call_world.specs.World.{Sent}
use Rattle.call_world.specs.World as world
use Rattle.ice_messages.specs.declared.message.Call.{Call}
use Rattle.ice_messages.specs.declared.message.Answer.{Answer}
use Rattle.ice_messages.specs.declared.message.Message.{Message}
use Rattle.ice_messages.specs.declared.message.Message.TheVariants.{Request, Batch, Reply, Validate, Close}
use Rattle.call_world.specs.Asked.{Asked, Wanted, wanted, each_wanted, told, twoways_of, closing}
use Rattle.call_world.proofs.Rows.{answers, replies}
use Rattle.ice_audit.specs.Pieces.{Piece}
use Rattle.ice_audit.specs.Captured.{asked_in, asked_by, batch_asked, seat_ids, ids_by, batch_ids, is_asked, due, due_if, IsServerSide, without_validates, replies_in, reply_ids, reply_answers, closes}
use Rattle.ice_audit.specs.Traces.{AreSaid, flags}

-- ---- which calls ask for a reply

batch_twoways : (ends : ℕ) (cs : List Call) (rest : List (Wanted Call)) (ids : List ℤ) → twoways_of rest ≡ flags ids → twoways_of (each_wanted false ends cs ++ rest) ≡ flags (batch_ids cs ids)
batch_twoways ends [] rest ids e = e
batch_twoways ends (c ∷ cs) rest ids e = ap (λ (ts : List Bool). false ∷ ts) (batch_twoways ends cs rest ids e)

by_message : (m : Message) (size : ℕ) (others : List (Asked Call)) (ids : List ℤ) → ((before : ℕ) → twoways_of (wanted before others) ≡ flags ids)
    → (before : ℕ) → twoways_of (wanted before (asked_by m size others)) ≡ flags (ids_by m ids)
by_message (Request id c) size others ids e before = ap (λ (ts : List Bool). is_asked id ∷ ts) (e (before + size))
by_message (Batch calls) size others ids e before = by_batch calls where
  by_batch : (cs : List Call) → twoways_of (wanted before (batch_asked cs size others)) ≡ flags (batch_ids cs ids)
  by_batch [] = e before
  by_batch (c ∷ cs) = ap (λ (ts : List Bool). false ∷ ts) (batch_twoways (before + size) cs (wanted (before + size) others) ids (e (before + size)))
by_message (Reply id a) size others ids e before = e before
by_message Validate size others ids e before = e before
by_message Close size others ids e before = e before

pub ids_twoways : (client : List Piece) (before : ℕ) → twoways_of (wanted before (asked_in client)) ≡ flags (seat_ids client)
ids_twoways [] before = refl
ids_twoways (p ∷ ps) before = by_message p.0 p.1 (asked_in ps) (seat_ids ps) (ids_twoways ps) before

-- ---- the server's messages

unfoldable pub said_replies : List (ℤ × Answer) → List Message
said_replies [] = []
said_replies (r ∷ rs) = Reply r.0 r.1 ∷ said_replies rs

unfoldable pub said_close : Bool → List Message
said_close true = Close ∷ []
said_close false = []

pub kept_lem : (ms : List Message) → IsServerSide ms → without_validates ms ≡ said_replies (replies_in ms) ++ said_close (closes ms)
unfolding said_replies said_close
kept_lem [] h = refl
kept_lem (Request id c ∷ ms) h = absurd h
kept_lem (Batch calls ∷ ms) h = absurd h
kept_lem (Reply id a ∷ ms) h = ap (λ (l : List Message). Reply id a ∷ l) (kept_lem ms h)
kept_lem (Validate ∷ ms) h = kept_lem ms h
kept_lem (Close ∷ ms) h =
    ap (λ (l : List Message). without_validates (Close ∷ l)) h
    ∙ ap (λ (l : List Message). said_replies (replies_in l) ++ Close ∷ []) (sym h)

-- ---- what is told is said

close_said : (ids : List ℤ) (closed : Bool) → AreSaid ids (said_close closed) (closing closed)
unfolding said_close
close_said ids true = (world.Close, [], refl, refl, refl)
close_said ids false = refl

told_none : (seat : ℕ) (ts : List Bool) → told {R = Answer} seat ts [] ≡ []
told_none seat [] = refl
told_none seat (true ∷ ts) = refl
told_none seat (false ∷ ts) = told_none (suc seat) ts

pub said_told : (ids : List ℤ) (is : List ℤ) (b : ℕ) → ((m : ℕ) (id : ℤ) → slice_get is m ≡ Some id → slice_get ids (b + m) ≡ Some id)
    → (rs : List (ℤ × Answer)) (more : List ℤ) → due is ≡ reply_ids rs ++ more → (closed : Bool)
    → AreSaid ids (said_replies rs ++ said_close closed) (told b (flags is) (reply_answers rs) ++ closing closed)
unfolding said_replies
said_told ids is b places [] more e closed =
    subst (λ (l : List (Sent Answer)). AreSaid ids (said_close closed) (l ++ closing closed)) (sym (told_none b (flags is))) (close_said ids closed)
said_told ids [] b places (r ∷ rs) more e closed = absurd (let z : [] ≡ r.0 ∷ (reply_ids rs ++ more) = e in cc)
said_told ids (i ∷ is) b places (r ∷ rs) more e closed =
    next_ (λ qs others q. said_told ids is (suc b) up qs others q closed) (is_asked i) refl e
  where
    up : (m : ℕ) (id : ℤ) → slice_get is m ≡ Some id → slice_get ids (suc b + m) ≡ Some id
    up m id h = ap (slice_get ids) (let q : suc b + m ≡ b + suc m = omega arith in q) ∙ places (suc m) id h

    next_ : ((qs : List (ℤ × Answer)) (others : List ℤ) → due is ≡ reply_ids qs ++ others → AreSaid ids (said_replies qs ++ said_close closed) (told (suc b) (flags is) (reply_answers qs) ++ closing closed))
        → (t : Bool) → is_asked i ≡ t → due_if t i (due is) ≡ r.0 ∷ (reply_ids rs ++ more)
        → AreSaid ids (Reply r.0 r.1 ∷ (said_replies rs ++ said_close closed)) (told b (t ∷ flags is) (r.1 ∷ reply_answers rs) ++ closing closed)
    next_ go false p q = go (r ∷ rs) more q
    next_ go true p q =
        let same : i ≡ r.0 = cc in
        let rest : due is ≡ reply_ids rs ++ more = cc in
        let zero_is : b ≡ b + 0 = omega arith in
        let at : slice_get ids b ≡ Some r.0 = ap (slice_get ids) zero_is ∙ (places 0 i refl ∙ ap (λ (z : ℤ). Some z) same) in (
          world.Answer b r.1,
          told (suc b) (flags is) (reply_answers rs) ++ closing closed,
          refl,
          (b, refl, at, ap is_asked (sym same) ∙ p),
          go rs more rest,
        )

-- ---- what is said is answers, and perhaps a close

pub answers_of : (ids : List ℤ) (rs : List (ℤ × Answer)) (closed : Bool) (sent : List (Sent Answer)) → AreSaid ids (said_replies rs ++ said_close closed) sent
    → (l : List (ℕ × Answer)) × (sent ≡ answers l ++ closing closed) × (replies l ≡ reply_answers rs)
unfolding said_replies said_close
answers_of ids [] true sent (s, others, e, said, rest) =
    ([], e ∙ (ap (λ (x : Sent Answer). x ∷ others) said ∙ ap (λ (l : List (Sent Answer)). world.Close ∷ l) rest), refl)
answers_of ids [] false sent e = ([], e, refl)
answers_of ids (r ∷ rs) closed sent (s, others, e, said, rest) =
    let a = answers_of ids rs closed others rest in (
      (said.0, r.1) ∷ a.0,
      e ∙ (ap (λ (x : Sent Answer). x ∷ others) said.1 ∙ ap (λ (l : List (Sent Answer)). world.Answer said.0 r.1 ∷ l) a.1),
      ap (λ (l : List Answer). r.1 ∷ l) a.2,
    )
