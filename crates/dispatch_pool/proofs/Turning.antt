-- Rows of passes, one of which had a turn.
use Rattle.std.proofs.Common.{◌≡◌, ◌≢◌, ℕ, List, [], ◌∷◌, ◌++◌, set, get_or, refl, sym, ◌∙◌, subst, arith, length-set}
use mathlib.Core.Logic.{dite}
use native.Mathlib.Decide.{ℕ_discrete}
use Rattle.turnstile.specs.declared.history.Entry.{Entry}
use Rattle.turnstile.specs.declared.turned.Turned.{Ghosts}
use Rattle.turnstile.specs.declared.passes.Pass.{Pass}
use Rattle.turnstile.specs.History.{entry, LeadsTo}
use Rattle.turnstile.specs.Passes.{opening, DidTurn}
use Rattle.ice_messages.specs.declared.message.Call.{Call}
use Rattle.ice_messages.specs.declared.message.Answer.{Answer}
use Rattle.object_adapter.specs.Replies.{CanReply}
use Rattle.object_adapter.specs.Laws.{IsDispatched}
use Rattle.object_adapter.proofs.Dispatched.{dispatched}
use Rattle.dispatch_pool.specs.declared.object.Object.{Object}
use Rattle.dispatch_pool.specs.Answering.{Answers}
use Rattle.dispatch_pool.specs.Rows.{Turn, at_place, PassGrew, RowGrew}
use Rattle.dispatch_pool.specs.Lanes.{Stile}
use Rattle.dispatch_pool.proofs.Growing.{at_append, at_here, at_else, grew_still, grew_then, last_turn}
use Rattle.dispatch_pool.proofs.Sets.{Stands, stands_is, this, others, same_item}

module _ {X C R : Type 0} {g : Ghosts X C R} where
  -- each grew as it did at its place
  row_set : (ps : List (Pass X C R g)) (at : ℕ) (p q : Pass X C R g) (turns : List (Turn C R)) → Stands ps at p → PassGrew p q (at_place at turns)
      → ((i : ℕ) → i ≢ at → at_place i turns ≡ []) → RowGrew ps (set ps at q) turns
  row_set ps at p q turns s w none = record {
    one_each = length-set ps at q;
    each = λ i d e lt. dite (ℕ_discrete i at)
        (λ is. subst (λ (k : ℕ). PassGrew (get_or ps k d) (get_or (set ps at q) k e) (at_place k turns)) (sym is)
        (subst (λ (z : Pass X C R g × Pass X C R g). PassGrew z.0 z.1 (at_place at turns)) (λ k. (sym (stands_is ps at p s d) k, sym (this ps at p s q e) k)) w))
        (λ ne. subst (λ (z : List (Entry C R)). PassGrew (get_or ps i d) (get_or (set ps at q) i e) z) (sym (none i ne))
        (subst (λ (z : Pass X C R g). PassGrew (get_or ps i d) z []) (same_item ps i d e lt ∙ sym (others ps at p q i e ne)) (grew_still (get_or ps i d))));
  }

  pub row_turn : (ps : List (Pass X C R g)) (at : ℕ) (p q : Pass X C R g) (e : Entry C R) → Stands ps at p → PassGrew p q (e ∷ [])
      → RowGrew ps (set ps at q) (record { place = at; entry = e } ∷ [])
  row_turn ps at p q e s w = row_set ps at p q (record { place = at; entry = e } ∷ []) s
      (subst (λ (z : List (Entry C R)). PassGrew p q z) (sym (at_here at e)) w) (λ i ne. at_else at i e ne)

  pub row_no_turn : (ps : List (Pass X C R g)) (at : ℕ) (p q : Pass X C R g) → Stands ps at p → PassGrew p q [] → RowGrew ps (set ps at q) []
  row_no_turn ps at p q s w = row_set ps at p q [] s w (λ i ne. refl)

  pub row_still : (ps : List (Pass X C R g)) → RowGrew ps ps []
  row_still ps = record { one_each = refl; each = λ i d e lt. subst (λ (z : Pass X C R g). PassGrew (get_or ps i d) z []) (same_item ps i d e lt) (grew_still (get_or ps i d)) }

  pub row_then : (ps qs rs : List (Pass X C R g)) (a b : List (Turn C R)) → RowGrew ps qs a → RowGrew qs rs b → RowGrew ps rs (a ++ b)
  row_then ps qs rs a b x y = let n = x.one_each in record {
    one_each = y.one_each ∙ x.one_each;
    each = λ i d e lt. subst (λ (z : List (Entry C R)). PassGrew (get_or ps i d) (get_or rs i e) z) (sym (at_append i a b))
        (grew_then (get_or ps i d) (get_or qs i d) (get_or rs i e) (at_place i a) (at_place i b) (x.each i d d lt) (y.each i d e (omega arith)));
  }

module _ {g : Ghosts Object Call Answer} where
  -- what a turn answers is no refusal, and a reply can be written of it
  pub turn_answers : (t : Stile) (p q : Pass Object Call Answer g) (call : Call) (answer : Answer)
      → (turns : (x y : Object) (c : Call) (a : Answer) → g.turns x c a y → Answers x.servant c a y.servant)
      → DidTurn t p q call answer → IsDispatched answer × CanReply call answer
  turn_answers t p q call answer turns d =
      let e : Entry Call Answer = entry d.0 call answer in
      let x = last_turn g.turns (opening t) d.4.0.0 d.1 e (subst (λ (z : List (Entry Call Answer)). LeadsTo g.turns (opening t) z d.4.0.0) d.3 d.4.0.1) in
      let h = turns x.0 x.1 call answer x.2 in (dispatched x.0.servant call answer x.1.servant h.0, h.1)
