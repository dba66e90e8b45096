-- Nothing is wrong with the streams exactly where they are good.
use Rattle.std.proofs.Common.{◌≡◌, ℕ, ℤ, ◌+◌, ◌⊎◌, inl, inr, List, [], ◌∷◌, ◌++◌, Option, None, Some, refl, ap, sym, ◌∙◌, subst, Bool, true, false}
use Rattle.std.specs.Ordering.{int_eq}
use Rattle.std.proofs.lemmas.Bool.Decides.{Decides-int_eq}
use Rattle.ice_prims.specs.declared.fault.Fault.{Fault}
use Rattle.ice_messages.specs.declared.message.Message.{Message}
use Rattle.ice_messages.specs.declared.message.Message.TheVariants.{Request, Batch, Reply, Validate, Close}
use Rattle.ice_audit.specs.declared.stop.Stop.{Stop}
use Rattle.ice_audit.specs.declared.stop.Stage.TheVariants.{Fresh, Open, Closed}
use Rattle.ice_audit.specs.Pieces.{Piece, messages_of, IsRead}
use Rattle.ice_audit.specs.Captured.{IsClientSide, IsServerSide, IsGood, due, seat_ids, replies_in, reply_ids, closes}
use Rattle.ice_audit.specs.Stops.{client_stop, server_stop, undue, or_later, last_stage, is_closed}
use Rattle.ice_audit.specs.Captures.{Good}
use Rattle.ice_audit.proofs.Bytes.{read_one, nothing_read}

abbrev none_stop : Option Stop
none_stop = None

some_none : {s : Stop} → Some s ≡ none_stop → ⊥
some_none e = cc

-- ---- the client

closed_client : (ps : List Piece) (at : ℕ) → client_stop at Closed ps None ≡ None → ps ≡ []
closed_client [] at h = refl
closed_client ((Request id c, n) ∷ ps) at h = absurd (some_none h)
closed_client ((Batch calls, n) ∷ ps) at h = absurd (some_none h)
closed_client ((Reply id a, n) ∷ ps) at h = absurd (some_none h)
closed_client ((Validate, n) ∷ ps) at h = absurd (some_none h)
closed_client ((Close, n) ∷ ps) at h = absurd (some_none h)

client_side : (ps : List Piece) (at : ℕ) → client_stop at Open ps None ≡ None → IsClientSide (messages_of ps)
client_side [] at h = tt
client_side ((Request id c, n) ∷ ps) at h = client_side ps (at + n) h
client_side ((Batch calls, n) ∷ ps) at h = client_side ps (at + n) h
client_side ((Reply id a, n) ∷ ps) at h = absurd (some_none h)
client_side ((Validate, n) ∷ ps) at h = client_side ps (at + n) h
client_side ((Close, n) ∷ ps) at h = ap messages_of (closed_client ps (at + n) h)

no_pieces : (ps : List Piece) → messages_of ps ≡ [] → ps ≡ []
no_pieces [] h = refl
no_pieces (p ∷ ps) h = absurd (let z : p.0 ∷ messages_of ps ≡ [] = h in cc)

client_fine : (ps : List Piece) (at : ℕ) → IsClientSide (messages_of ps) → client_stop at Open ps None ≡ None
client_fine [] at h = refl
client_fine ((Request id c, n) ∷ ps) at h = client_fine ps (at + n) h
client_fine ((Batch calls, n) ∷ ps) at h = client_fine ps (at + n) h
client_fine ((Reply id a, n) ∷ ps) at h = absurd h
client_fine ((Validate, n) ∷ ps) at h = client_fine ps (at + n) h
client_fine ((Close, n) ∷ ps) at h = ap (λ (qs : List Piece). client_stop (at + n) Closed qs None) (no_pieces ps h)

-- ---- the server

closed_server : (ps : List Piece) (at : ℕ) (waits : List ℤ) → server_stop at Closed waits ps None ≡ None → ps ≡ []
closed_server [] at waits h = refl
closed_server ((Request id c, n) ∷ ps) at waits h = absurd (some_none h)
closed_server ((Batch calls, n) ∷ ps) at waits h = absurd (some_none h)
closed_server ((Reply id a, n) ∷ ps) at waits h = absurd (some_none h)
closed_server ((Validate, n) ∷ ps) at waits h = absurd (some_none h)
closed_server ((Close, n) ∷ ps) at waits h = absurd (some_none h)

-- what is so of the messages behind the first
record IsAnswering (waits : List ℤ) (ps : List Piece) : Type 0 where
  side : IsServerSide (messages_of ps)
  more : List ℤ
  answered : waits ≡ reply_ids (replies_in (messages_of ps)) ++ more
  closing : closes (messages_of ps) ≡ is_closed (last_stage Open ps)

server_side : (ps : List Piece) (at : ℕ) (waits : List ℤ) → server_stop at Open waits ps None ≡ None → IsAnswering waits ps
server_side [] at waits h = record { side = tt; more = waits; answered = refl; closing = refl }
server_side ((Request id c, n) ∷ ps) at waits h = absurd (some_none h)
server_side ((Batch calls, n) ∷ ps) at waits h = absurd (some_none h)
server_side ((Reply id a, n) ∷ ps) at [] h = absurd (some_none h)
server_side ((Reply id a, n) ∷ ps) at (d ∷ ds) h = by (λ k. server_side ps (at + n) ds k) (int_eq d id) refl h where
  by : (server_stop (at + n) Open ds ps None ≡ None → IsAnswering ds ps) → (b : Bool) → int_eq d id ≡ b
      → or_later (undue b at) (server_stop (at + n) Open ds ps None) ≡ None → IsAnswering (d ∷ ds) ((Reply id a, n) ∷ ps)
  by go true e h =
      let s = go h in
      let same : d ≡ id = (Decides-int_eq d id).0 e in
      record {
        side = s.side;
        more = s.more;
        answered = ap (λ (x : ℤ). x ∷ ds) same ∙ ap (λ (l : List ℤ). id ∷ l) s.answered;
        closing = s.closing;
      }
  by go false e h = absurd (some_none h)
server_side ((Validate, n) ∷ ps) at waits h =
    let s = server_side ps (at + n) waits h in
    record { side = s.side; more = s.more; answered = s.answered; closing = s.closing }
server_side ((Close, n) ∷ ps) at waits h =
    let e = closed_server ps (at + n) waits h in
    subst (λ (qs : List Piece). IsAnswering waits ((Close, n) ∷ qs)) (sym e) (record { side = refl; more = waits; answered = refl; closing = refl })

server_fine : (ps : List Piece) (at : ℕ) (waits more : List ℤ) → IsServerSide (messages_of ps) → waits ≡ reply_ids (replies_in (messages_of ps)) ++ more
    → server_stop at Open waits ps None ≡ None
server_fine [] at waits more h e = refl
server_fine ((Request id c, n) ∷ ps) at waits more h e = absurd h
server_fine ((Batch calls, n) ∷ ps) at waits more h e = absurd h
server_fine ((Reply id a, n) ∷ ps) at [] more h e = absurd (let z : [] ≡ id ∷ (reply_ids (replies_in (messages_of ps)) ++ more) = e in cc)
server_fine ((Reply id a, n) ∷ ps) at (d ∷ ds) more h e =
    let same : d ≡ id = cc in
    let rest : ds ≡ reply_ids (replies_in (messages_of ps)) ++ more = cc in
    ap (λ (b : Bool). or_later (undue b at) (server_stop (at + n) Open ds ps None)) ((Decides-int_eq d id).1 same) ∙ server_fine ps (at + n) ds more h rest
server_fine ((Validate, n) ∷ ps) at waits more h e = server_fine ps (at + n) waits more h e
server_fine ((Close, n) ∷ ps) at waits more h e = ap (λ (qs : List Piece). server_stop (at + n) Closed waits qs None) (no_pieces ps h)

-- ---- both

pub record IsFine (ps qs : List Piece) : Type 0 where
  pub good : IsGood ps (messages_of qs)
  pub closing : closes (messages_of qs) ≡ is_closed (last_stage Fresh qs)

pub fine_good : (ps qs : List Piece) → client_stop 0 Open ps None ≡ None → server_stop 0 Fresh (due (seat_ids ps)) qs None ≡ None → (qs ≡ []) ⊎ IsFine ps qs
fine_good ps [] c h = inl refl
fine_good ps ((Request id c, n) ∷ qs) k h = absurd (some_none h)
fine_good ps ((Batch calls, n) ∷ qs) k h = absurd (some_none h)
fine_good ps ((Reply id a, n) ∷ qs) k h = absurd (some_none h)
fine_good ps ((Validate, n) ∷ qs) k h =
    let s = server_side qs (0 + n) (due (seat_ids ps)) h in
    inr (record {
      good = record {
        client_side = client_side ps 0 k;
        others = messages_of qs;
        greeted = refl;
        server_side = s.side;
        more = s.more;
        answered = s.answered;
      };
      closing = s.closing;
    })
fine_good ps ((Close, n) ∷ qs) k h = absurd (some_none h)

greeted_fine : (ps qs : List Piece) → IsGood ps (messages_of qs) → server_stop 0 Fresh (due (seat_ids ps)) qs None ≡ None
greeted_fine ps [] g = refl
greeted_fine ps ((m, n) ∷ qs) g =
    let first : m ≡ Validate = (let z : m ∷ messages_of qs ≡ Validate ∷ g.others = g.greeted in cc) in
    let others : messages_of qs ≡ g.others = (let z : m ∷ messages_of qs ≡ Validate ∷ g.others = g.greeted in cc) in
    let side = subst IsServerSide (sym others) g.server_side in
    let answered = g.answered ∙ ap (λ (ms : List Message). reply_ids (replies_in ms) ++ g.more) (sym others) in
    ap (λ (x : Message). server_stop 0 Fresh (due (seat_ids ps)) ((x, n) ∷ qs) None) first ∙ server_fine qs (0 + n) (due (seat_ids ps)) g.more side answered

-- ---- a cause, and the stream is not good

module _ (client server : List ℕ) (g : Good client server) where
  good_client : client_stop 0 Open g.asked None ≡ None
  good_client = elim g.good [
    | inl good ↦ client_fine g.asked 0 good.client_side
    | inr none ↦ ap (λ (ps : List Piece). client_stop 0 Open ps None) (nothing_read client g.asked None none.0 g.whole.asked_whole)
  ]

  good_server : server_stop 0 Fresh (due (seat_ids g.asked)) g.sent None ≡ None
  good_server = elim g.good [
    | inl good ↦ greeted_fine g.asked g.sent good
    | inr none ↦ ap (λ (ps : List Piece). server_stop 0 Fresh (due (seat_ids g.asked)) ps None) none.1
  ]

pub client_not_good : (client server : List ℕ) (ps : List Piece) (end : Option Fault) (stop : Stop) → IsRead client ps end → client_stop 0 Open ps end ≡ Some stop → Good client server → ⊥
unfolding good_client
client_not_good client server ps end stop r bad g =
    let same = read_one client ps g.asked end None r g.whole.asked_whole in
    let a : client_stop 0 Open g.asked None ≡ Some stop =
    subst (λ (e : Option Fault). client_stop 0 Open g.asked e ≡ Some stop) same.1 (subst (λ (qs : List Piece). client_stop 0 Open qs end ≡ Some stop) same.0 bad) in
    some_none (sym a ∙ good_client client server g)

pub server_not_good : (client server : List ℕ) (ps qs : List Piece) (end : Option Fault) (stop : Stop) → IsRead client ps None → IsRead server qs end
    → server_stop 0 Fresh (due (seat_ids ps)) qs end ≡ Some stop → Good client server → ⊥
server_not_good client server ps qs end stop r s bad g =
    let same = read_one client ps g.asked None None r g.whole.asked_whole in
    let other = read_one server qs g.sent end None s g.whole.sent_whole in
    let a : server_stop 0 Fresh (due (seat_ids g.asked)) g.sent None ≡ Some stop =
    subst (λ (e : Option Fault). server_stop 0 Fresh (due (seat_ids g.asked)) g.sent e ≡ Some stop) other.1
    (subst (λ (ms : List Piece). server_stop 0 Fresh (due (seat_ids g.asked)) ms end ≡ Some stop) other.0
    (subst (λ (ms : List Piece). server_stop 0 Fresh (due (seat_ids ms)) qs end ≡ Some stop) same.0 bad)) in
    some_none (sym a ∙ good_server client server g)

pub silent_not_good : (client server : List ℕ) → IsRead server [] None → ¬ (client ≡ []) → Good client server → ⊥
silent_not_good client server s some g = elim g.good [
  | inl good ↦
      let other = read_one server [] g.sent None None s g.whole.sent_whole in
      let z : [] ≡ Validate ∷ good.others = ap messages_of other.0 ∙ good.greeted in
      cc
  | inr none ↦ some none.0
]
