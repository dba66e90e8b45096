-- The calls of a message that were handled.
use Rattle.std.proofs.Common.{◌≡◌, ℕ, ◌+◌, ◌<◌, inl, inr, Bool, true, false, List, [], ◌∷◌, ◌++◌, length, drop, drop-cons, add-one, get_or, refl, sym, ap, ◌∙◌, subst, arith, append_assoc, append-nil}
use Rattle.std.specs.Prelude.{ℤ, pos, Some, Result, Ok, Err}
use Rattle.turnstile.specs.declared.turned.Turned.{Ghosts}
use Rattle.turnstile.specs.declared.passes.Pass.{Pass}
use Rattle.ice_ports.specs.declared.talk.Talk.{Talk}
use Rattle.ice_ports.specs.Talks.{silent}
use Rattle.ice_messages.specs.declared.message.Call.{Call}
use Rattle.ice_messages.specs.declared.message.Answer.{Answer}
use Rattle.ice_messages.specs.declared.message.Message.{Message}
use Rattle.object_adapter.specs.declared.keys.Found.{Found}
use Rattle.object_adapter.specs.declared.keys.Found.TheVariants.{At, NoObject, NoFacet}
use Rattle.object_adapter.specs.Keys.{IsFound}
use Rattle.object_adapter.specs.Replies.{CanReply}
use Rattle.object_adapter.proofs.Short.{missed_replies}
use Rattle.retry_core.specs.declared.server.ServerAction.{ServerAction}
use Rattle.retry_core.specs.declared.server.ServerState.{ServerState}
use Rattle.retry_core.specs.declared.server.ServerState.TheVariants.{Reading, Dispatched}
use Rattle.retry_core.specs.declared.server.ServerEvent.TheVariants as events
use Rattle.retry_core.specs.Server.{server_row}
use Rattle.talking.specs.Said.{Says}
use Rattle.dispatch_pool.specs.declared.object.Object.{Object}
use Rattle.dispatch_pool.specs.declared.lanes.Lanes.{Lanes}
use Rattle.dispatch_pool.specs.declared.lanes.LanePasses.{LanePasses}
use Rattle.dispatch_pool.specs.Rows.{Turn, RowGrew}
use Rattle.dispatch_pool.specs.Turns.{Dispatched as DispatchedBy, ByFound}
use Rattle.dispatch_pool.specs.Handled.{Keys, Outcome, had_turn, refused, Asked, Handled, AreOutcomes, answer_of, turn_of, turns_of, unasked, asking, reply_of, replies}
use Rattle.dispatch_pool.specs.Parts.{Called, Handling, LeavesNone}
use Rattle.dispatch_pool.proofs.Turning.{row_still, row_then}

-- ---- lists

pub asking_append : (xs ys : List Handled) → asking (xs ++ ys) ≡ asking xs ++ asking ys
asking_append [] ys = refl
asking_append (x ∷ xs) ys = ap (λ (z : List Asked). x.asked ∷ z) (asking_append xs ys)

pub replies_append : (xs ys : List Handled) → replies (xs ++ ys) ≡ replies xs ++ replies ys
replies_append [] ys = refl
replies_append (x ∷ xs) ys = ap (λ (z : List Message). reply_of x.asked.id (answer_of x.outcome) ++ z) (replies_append xs ys) ∙ sym (append_assoc (reply_of x.asked.id (answer_of x.outcome)) (replies xs) (replies ys))

turns_append : (xs ys : List Handled) → turns_of (xs ++ ys) ≡ turns_of xs ++ turns_of ys
turns_append [] ys = refl
turns_append (x ∷ xs) ys = ap (λ (z : List (Turn Call Answer)). turn_of x.asked.call x.outcome ++ z) (turns_append xs ys) ∙ sym (append_assoc (turn_of x.asked.call x.outcome) (turns_of xs) (turns_of ys))

pub outcomes_append : (keys : Keys) (xs ys : List Handled) → AreOutcomes keys xs → AreOutcomes keys ys → AreOutcomes keys (xs ++ ys)
outcomes_append keys [] ys a b = b
outcomes_append keys (x ∷ xs) ys a b = (a.0, outcomes_append keys xs ys a.1 b)

abbrev handled : ℤ → Call → Outcome → Handled
handled id call o = record { asked = record { id = id; call = call }; outcome = o }

module _ {g : Ghosts Object Call Answer} where
  pub grew_more : (ps qs rs : List (Pass Object Call Answer g)) (xs ys : List Handled) → RowGrew ps qs (turns_of xs) → RowGrew qs rs (turns_of ys) → RowGrew ps rs (turns_of (xs ++ ys))
  grew_more ps qs rs xs ys a b = subst (λ (z : List (Turn Call Answer)). RowGrew ps rs z) (sym (turns_append xs ys)) (row_then ps qs rs (turns_of xs) (turns_of ys) a b)

  grew_one : (ps qs : List (Pass Object Call Answer g)) (h : Handled) → RowGrew ps qs (turn_of h.asked.call h.outcome) → RowGrew ps qs (turns_of (h ∷ []))
  grew_one ps qs h w = subst (λ (z : List (Turn Call Answer)). RowGrew ps qs z) (sym (append-nil (turn_of h.asked.call h.outcome))) w

  pub grew_rest : (ps qs rs : List (Pass Object Call Answer g)) (hs : List Handled) → RowGrew ps qs (turns_of hs) → RowGrew qs rs [] → RowGrew ps rs (turns_of hs)
  grew_rest ps qs rs hs a b = subst (λ (z : List Handled). RowGrew ps rs (turns_of z)) (append-nil hs) (grew_more ps qs rs hs [] a b)

-- ---- one call

pub called : (lanes : Lanes) (old new : LanePasses) (call : Call) (answer : Answer) → DispatchedBy lanes old new call answer → Called lanes.keys old.passes.items new.passes.items call answer
called lanes old new call answer (found, is, did) = by found is did
  where
    by : (found : Found) → IsFound lanes.keys call.identity call.facet found → ByFound found lanes old new call answer → Called lanes.keys old.passes.items new.passes.items call answer
    by (At at) is h = (had_turn at h.ticket answer, refl, (is, h.no_refusal), h.grew)
    by NoObject is h = (refused answer, refl, inl (is, h.0), subst (λ (z : LanePasses). RowGrew old.passes.items z.passes.items []) (sym h.1) (row_still old.passes.items))
    by NoFacet is h = (refused answer, refl, inr (is, h.0), subst (λ (z : LanePasses). RowGrew old.passes.items z.passes.items []) (sym h.1) (row_still old.passes.items))

pub called_replies : (lanes : Lanes) (old new : LanePasses) (call : Call) (answer : Answer) → DispatchedBy lanes old new call answer → CanReply call answer
called_replies lanes old new call answer (At at, is, did) = did.replies
called_replies lanes old new call answer (NoObject, is, did) = subst (CanReply call) (sym did.0) (missed_replies 2 call (omega arith) (omega arith))
called_replies lanes old new call answer (NoFacet, is, did) = subst (CanReply call) (sym did.0) (missed_replies 3 call (omega arith) (omega arith))

module _ {g : Ghosts Object Call Answer} (keys : Keys) (ps qs : List (Pass Object Call Answer g)) where
  pub request_done : (E : Type 0) (r : Result Bool E) (id : ℤ) (call : Call) (answer : Answer) (t : Talk) → Called keys ps qs call answer → Says (reply_of id answer) t r
      → LeavesNone [] r → Handling keys ps qs {E = E} (record { id = id; call = call } ∷ []) t r
  request_done E r id call answer t c s left = record {
    handled = handled id call c.0 ∷ [];
    rest = [];
    calls = refl;
    left = left;
    outcomes = (c.2, tt);
    grew = grew_one ps qs (handled id call c.0) c.3;
    says = subst (λ (z : List Message). Says z t r) (ap (λ (a : Answer). reply_of id a) c.1 ∙ sym (append-nil (reply_of id (answer_of c.0)))) s;
  }

  pub not_called : (E : Type 0) (e : E) (asks : List Asked) → RowGrew ps qs [] → Handling keys ps qs {E = E} asks silent (Err e)
  not_called E e asks w = record {
    handled = [];
    rest = asks;
    calls = refl;
    left = tt;
    outcomes = tt;
    grew = w;
    says = (refl, refl, (refl, refl));
  }

-- ---- a batch

-- the server's end with these calls of a batch left
abbrev pub batch_state : List Call → ServerState
batch_state [] = Reading
batch_state (c ∷ cs) = Dispatched (length cs) false

pub cut_at : (i : ℕ) (xs : List Call) (d : Call) → i < length xs → drop i xs ≡ get_or xs i d ∷ drop (i + 1) xs
cut_at i xs d lt = drop-cons xs i d lt ∙ ap (λ (k : ℕ). get_or xs i d ∷ drop k xs) (sym (add-one i))

-- some calls of a batch were handled, and these are left
pub record BatchDid {g : Ghosts Object Call Answer} (keys : Keys) (ps qs : List (Pass Object Call Answer g)) (calls left : List Call) : Type 0 where
  pub hs : List Handled
  pub all : unasked calls ≡ asking hs ++ unasked left
  pub quiet : replies hs ≡ []
  pub outcomes : AreOutcomes keys hs
  pub grew : RowGrew ps qs (turns_of hs)

module _ {g : Ghosts Object Call Answer} (keys : Keys) where
  pub batch_begun : (ps : List (Pass Object Call Answer g)) (calls : List Call) → BatchDid keys ps ps calls calls
  batch_begun ps calls = record { hs = []; all = refl; quiet = refl; outcomes = tt; grew = row_still ps }

  pub batch_more : (ps qs rs : List (Pass Object Call Answer g)) (calls left rest : List Call) (call : Call) (answer : Answer) → left ≡ call ∷ rest → BatchDid keys ps qs calls left → Called keys qs rs call answer
      → BatchDid keys ps rs calls rest
  batch_more ps qs rs calls left rest call answer cut b c =
      let h : Handled = handled (pos 0) call c.0 in record {
        hs = b.hs ++ h ∷ [];
        all = b.all ∙ (ap (λ (z : List Call). asking b.hs ++ unasked z) cut ∙ (sym (append_assoc (asking b.hs) (h.asked ∷ []) (unasked rest)) ∙ ap (λ (z : List Asked). z ++ unasked rest) (sym (asking_append b.hs (h ∷ [])))));
        quiet = replies_append b.hs (h ∷ []) ∙ ap (λ (z : List Message). z ++ []) b.quiet;
        outcomes = outcomes_append keys b.hs (h ∷ []) b.outcomes (c.2, tt);
        grew = grew_more ps qs rs b.hs (h ∷ []) b.grew (grew_one qs rs h c.3);
      }

  pub batch_done : (E : Type 0) (ps qs : List (Pass Object Call Answer g)) (calls left : List Call) → left ≡ [] → BatchDid keys ps qs calls left → Handling keys ps qs {E = E} (unasked calls) silent (Ok true)
  batch_done E ps qs calls left none b = record {
    handled = b.hs;
    rest = unasked left;
    calls = b.all;
    left = ap unasked none;
    outcomes = b.outcomes;
    grew = b.grew;
    says = subst (λ (z : List Message). Says {E = E} z silent (Ok true)) (sym b.quiet) (refl, (refl, tt), (refl, refl));
  }

  pub batch_starved : (E : Type 0) (e : E) (ps qs rs : List (Pass Object Call Answer g)) (calls left : List Call) → BatchDid keys ps qs calls left → RowGrew qs rs [] → Handling keys ps rs {E = E} (unasked calls) silent (Err e)
  batch_starved E e ps qs rs calls left b w = record {
    handled = b.hs;
    rest = unasked left;
    calls = b.all;
    left = tt;
    outcomes = b.outcomes;
    grew = grew_rest ps qs rs b.hs b.grew w;
    says = subst (λ (z : List Message). Says {E = E} z silent (Err e)) (sym b.quiet)
        (refl, refl, (refl, refl));
  }

same_state : (x y : ServerAction × ServerState) → Some x ≡ Some y → x.1 ≡ y.1
same_state x y e = let p : x ≡ y = cc in ap (λ (z : ServerAction × ServerState). z.1) p

pub batch_opened : (calls : List Call) (n : ℕ) (action : ServerAction) (new : ServerState) → n ≡ length calls → server_row Reading (events.Request n false) ≡ Some (action, new) → new ≡ batch_state calls
batch_opened [] n action new is row = sym (same_state _ (action, new) (subst (λ (k : ℕ). server_row Reading (events.Request k false) ≡ Some (action, new)) is row))
batch_opened (c ∷ cs) n action new is row = sym (same_state _ (action, new) (subst (λ (k : ℕ). server_row Reading (events.Request k false) ≡ Some (action, new)) is row))

pub batch_stepped : (call : Call) (rest : List Call) (action : ServerAction) (new : ServerState) → server_row (batch_state (call ∷ rest)) events.Answered ≡ Some (action, new) → new ≡ batch_state rest
batch_stepped call [] action new row = sym (same_state _ (action, new) row)
batch_stepped call (c ∷ cs) action new row = sym (same_state _ (action, new) row)
