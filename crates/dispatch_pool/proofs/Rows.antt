-- Passes that sessions were served with.
use Rattle.std.proofs.Common.{◌≡◌, ℕ, ◌+◌, ◌<◌, List, [], ◌∷◌, ◌++◌, length, get_or, refl, sym, ap, ap₂, ◌∙◌, subst, arith, append_assoc, append-nil}
use Rattle.std.specs.Prelude.{Option, Some, None}
use Rattle.std.proofs.lemmas.List.{append_cancel_left}
use Rattle.turnstile.specs.declared.history.Entry.{Entry}
use Rattle.turnstile.specs.declared.turned.Turned.{Ghosts}
use Rattle.turnstile.specs.declared.passes.Pass.{Pass}
use Rattle.turnstile.specs.History.{tickets}
use Rattle.turnstile.specs.Passes.{seen, own}
use Rattle.ice_ports.specs.declared.talk.Talk.{Talk}
use Rattle.ice_messages.specs.declared.message.Call.{Call}
use Rattle.ice_messages.specs.declared.message.Answer.{Answer}
use Rattle.dispatch_pool.specs.declared.object.Object.{Object}
use Rattle.dispatch_pool.specs.declared.lanes.Lanes.{Lanes}
use Rattle.dispatch_pool.specs.declared.lanes.LanePasses.{LanePasses}
use Rattle.dispatch_pool.specs.Rows.{HasInOrder, PassGrew, RowGrew, HasSplit, HasJoined, RowSplit}
use Rattle.dispatch_pool.specs.Lanes.{Stile, RowJoined, DidSplit, DidJoinAll}
use Rattle.dispatch_pool.specs.Turns.{Grew}
use Rattle.dispatch_pool.specs.Handled.{Keys, turns_of}
use Rattle.dispatch_pool.proofs.Sets.{same_item}
use Rattle.dispatch_pool.specs.Sessions.{Session, talks, AllDid, AllFed, entries_at, AllStand, tickets_at, Side, callers, split_off, earlier, PassServed, RowServed, ServedWith}

-- ---- lists of sessions

pub talks_append : (ss us : List Session) → talks (ss ++ us) ≡ talks ss ++ talks us
talks_append [] us = refl
talks_append (s ∷ ss) us = ap (λ (z : List Talk). s.talk ∷ z) (talks_append ss us)

pub talks_length : (ss : List Session) → length (talks ss) ≡ length ss
talks_length [] = refl
talks_length (s ∷ ss) = let h = talks_length ss in omega arith

pub did_append : (keys : Keys) (most : ℕ) (ss us : List Session) → AllDid keys most ss → AllDid keys most us → AllDid keys most (ss ++ us)
did_append keys most [] us a b = b
did_append keys most (s ∷ ss) us a b = (a.0, did_append keys most ss us a.1 b)

pub fed_append : (ss us : List Session) → AllFed ss → AllFed us → AllFed (ss ++ us)
fed_append [] us a b = b
fed_append (s ∷ ss) us a b = (a.0, fed_append ss us a.1 b)

tickets_append : (i : ℕ) (ss us : List Session) → tickets_at i (ss ++ us) ≡ tickets_at i ss ++ tickets_at i us
tickets_append i [] us = refl
tickets_append i (s ∷ ss) us = ap (λ (z : List ℕ). tickets (entries_at i s) ++ z) (tickets_append i ss us) ∙ sym (append_assoc (tickets (entries_at i s)) (tickets_at i ss) (tickets_at i us))

-- ---- entries in histories

module _ {C R : Type 0} where
  has_after : (all more es : List (Entry C R)) → HasInOrder all es → HasInOrder (all ++ more) es
  has_after all more [] h = tt
  has_after all more (e ∷ es) h =
      (h.0, h.1 ++ more, ap (λ (z : List (Entry C R)). z ++ more) h.2 ∙ append_assoc h.0 (e ∷ h.1) more, has_after h.1 more es h.3)

  has_before : (front all es : List (Entry C R)) → HasInOrder all es → HasInOrder (front ++ all) es
  has_before front all [] h = tt
  has_before front all (e ∷ es) h =
      (front ++ h.0, h.1, ap (λ (z : List (Entry C R)). front ++ z) h.2 ∙ sym (append_assoc front h.0 (e ∷ h.1)), h.3)

stand_after : (i : ℕ) (all more : List (Entry Call Answer)) (ss : List Session) → AllStand i all ss → AllStand i (all ++ more) ss
stand_after i all more [] h = tt
stand_after i all more (s ∷ ss) h = (has_after all more (entries_at i s) h.0, stand_after i all more ss h.1)

stand_append : (i : ℕ) (all : List (Entry Call Answer)) (ss us : List Session) → AllStand i all ss → AllStand i all us → AllStand i all (ss ++ us)
stand_append i all [] us a b = b
stand_append i all (s ∷ ss) us a b = (a.0, stand_append i all ss us a.1 b)

a_stile : (ts : List Stile) (i : ℕ) → i < length ts → Stile
a_stile [] i lt = absurd (omega arith)
a_stile (t ∷ ts) i lt = t

-- ---- one pass

module _ {g : Ghosts Object Call Answer} where
  served_none : (i : ℕ) (p q : Pass Object Call Answer g) → seen q ≡ seen p → own q ≡ own p → PassServed callers i p q []
  served_none i p q s o = record { more = []; seen_is = s ∙ sym (append-nil (seen p)); stand = tt; own_is = o ∙ sym (append-nil (own p)) }

  served_one : (side : Side) (i : ℕ) (p q r : Pass Object Call Answer g) (ss : List Session) (s : Session) → PassServed side i p q ss → PassGrew q r (entries_at i s) → PassServed side i p r (ss ++ s ∷ [])
  served_one side i p q r ss s h w = record {
    more = h.more ++ w.more;
    seen_is = w.seen_is ∙ (ap (λ (z : List (Entry Call Answer)). z ++ w.more) h.seen_is ∙ append_assoc (seen p) h.more w.more);
    stand = stand_append i (h.more ++ w.more) ss (s ∷ []) (stand_after i h.more w.more ss h.stand) (has_before h.more w.more (entries_at i s) w.has_calls, tt);
    own_is = w.own_is
        ∙ (ap (λ (z : List ℕ). z ++ tickets (entries_at i s)) h.own_is
        ∙ (append_assoc (earlier side (own p)) (tickets_at i ss) (tickets (entries_at i s))
        ∙ ap (λ (z : List ℕ). earlier side (own p) ++ z)
        (ap (λ (z : List ℕ). tickets_at i ss ++ z) (sym (append-nil (tickets (entries_at i s)))) ∙ sym (tickets_append i ss (s ∷ [])))));
  }

  served_stays : (i : ℕ) (p q q' r : Pass Object Call Answer g) → PassServed callers i p q [] → HasSplit q r q' → PassServed callers i p q' []
  served_stays i p q q' r h s = record { more = h.more; seen_is = s.0 ∙ h.seen_is; stand = tt; own_is = s.1 ∙ h.own_is }

  served_split : (i : ℕ) (p q q' r : Pass Object Call Answer g) → PassServed callers i p q [] → HasSplit q r q' → PassServed split_off i p r []
  served_split i p q q' r h s = record { more = h.more; seen_is = s.2 ∙ h.seen_is; stand = tt; own_is = s.3 }

  served_joined : (t : Stile) (i : ℕ) (p q r z : Pass Object Call Answer g) (ss us : List Session) → PassServed callers i p q ss → PassServed split_off i p r us → HasJoined t q r z → PassServed callers i p z (ss ++ us)
  served_joined t i p q r z ss us a b j =
      let x = j.0.1 in let y = j.0.2 in
      let e : seen z ≡ seen p ++ (a.more ++ x.0) = x.1 ∙ (ap (λ (w : List (Entry Call Answer)). w ++ x.0) a.seen_is ∙ append_assoc (seen p) a.more x.0) in
      let f : seen z ≡ seen p ++ (b.more ++ y.0) = y.1 ∙ (ap (λ (w : List (Entry Call Answer)). w ++ y.0) b.seen_is ∙ append_assoc (seen p) b.more y.0) in
      let same : b.more ++ y.0 ≡ a.more ++ x.0 = append_cancel_left (seen p) (b.more ++ y.0) (a.more ++ x.0) (sym f ∙ e) in record {
        more = a.more ++ x.0;
        seen_is = e;
        stand = stand_append i (a.more ++ x.0) ss us (stand_after i a.more x.0 ss a.stand) (subst (λ (w : List (Entry Call Answer)). AllStand i w us) same (stand_after i b.more y.0 us b.stand));
        own_is = j.0.4
            ∙ (ap₂ (λ (v w : List ℕ). v ++ w) a.own_is b.own_is
            ∙ (append_assoc (own p) (tickets_at i ss) (tickets_at i us) ∙ ap (λ (w : List ℕ). own p ++ w) (sym (tickets_append i ss us))));
      }

  -- ---- rows of passes

  row_none : (ps : List (Pass Object Call Answer g)) → RowServed callers ps ps []
  row_none ps = record { one_each = refl; each = λ i x y lt. let e = same_item ps i y x lt in served_none i (get_or ps i x) (get_or ps i y) (ap seen e) (ap own e) }

  row_one : (side : Side) (ps qs rs : List (Pass Object Call Answer g)) (ss : List Session) (s : Session) → RowServed side ps qs ss → RowGrew qs rs (turns_of s.handled) → RowServed side ps rs (ss ++ s ∷ [])
  row_one side ps qs rs ss s h w = let n = h.one_each in record {
    one_each = w.one_each ∙ h.one_each;
    each = λ i x z lt. served_one side i (get_or ps i x) (get_or qs i x) (get_or rs i z) ss s (h.each i x x lt) (w.each i x z (omega arith));
  }

  row_stays : (ps qs qs' rs : List (Pass Object Call Answer g)) → RowServed callers ps qs [] → RowSplit qs rs qs' → RowServed callers ps qs' []
  row_stays ps qs qs' rs h s = let n = h.one_each in record {
    one_each = s.one_each.1 ∙ h.one_each;
    each = λ i x z lt. served_stays i (get_or ps i x) (get_or qs i x) (get_or qs' i z) (get_or rs i x) (h.each i x x lt) (s.each i x x z (omega arith));
  }

  row_split : (ps qs qs' rs : List (Pass Object Call Answer g)) → RowServed callers ps qs [] → RowSplit qs rs qs' → RowServed split_off ps rs []
  row_split ps qs qs' rs h s = let n = h.one_each in record {
    one_each = s.one_each.0 ∙ h.one_each;
    each = λ i x y lt. served_split i (get_or ps i x) (get_or qs i x) (get_or qs' i x) (get_or rs i y) (h.each i x x lt) (s.each i x y x (omega arith));
  }

  row_joined : (ts : List Stile) (ps qs rs zs : List (Pass Object Call Answer g)) (ss us : List Session) → length qs ≡ length ts → RowServed callers ps qs ss → RowServed split_off ps rs us → RowJoined ts qs rs zs
      → RowServed callers ps zs (ss ++ us)
  row_joined ts ps qs rs zs ss us long a b j = let n = a.one_each in record {
    one_each = j.one_each.1 ∙ a.one_each;
    each = λ i x z lt. let t = a_stile ts i (omega arith) in
        served_joined (get_or ts i t) i (get_or ps i x) (get_or qs i x) (get_or rs i x) (get_or zs i z) ss us (a.each i x x lt) (b.each i x x lt) (j.each i x x z (omega arith) t);
  }

-- ---- passes of lanes

pub begins : (passes : LanePasses) → ServedWith callers (Some passes) passes []
begins passes = row_none passes.passes.items

pub serves : (side : Side) (from : Option LanePasses) (old new : LanePasses) (ss : List Session) (s : Session) → ServedWith side from old ss → Grew old new (turns_of s.handled) → ServedWith side from new (ss ++ s ∷ [])
serves side None old new ss s h w = tt
serves side (Some from) old new ss s h w = row_one side from.passes.items old.passes.items new.passes.items ss s h w

pub stays : (from : Option LanePasses) (old new made : LanePasses) → ServedWith callers from old [] → DidSplit old new made → ServedWith callers from new []
stays None old new made h s = tt
stays (Some from) old new made h s = row_stays from.passes.items old.passes.items new.passes.items made.passes.items h s

pub splits : (from : Option LanePasses) (old new made : LanePasses) → ServedWith callers from old [] → DidSplit old new made → ServedWith split_off from made []
splits None old new made h s = tt
splits (Some from) old new made h s = row_split from.passes.items old.passes.items new.passes.items made.passes.items h s

pub joins : (lanes : Lanes) (from : Option LanePasses) (old other new : LanePasses) (ss us : List Session) → length old.passes.items ≡ length lanes.stiles.items → ServedWith callers from old ss → ServedWith split_off from other us
    → DidJoinAll lanes old other new → ServedWith callers from new (ss ++ us)
joins lanes None old other new ss us long a b j = tt
joins lanes (Some from) old other new ss us long a b j = row_joined lanes.stiles.items from.passes.items old.passes.items other.passes.items new.passes.items ss us long a b j
