-- All messages, one after the other: the links of any are those of one reached world.
use Rattle.std.proofs.Common.{◌≡◌, ℕ, ◌+◌, ◌<◌, ◌≤◌, inl, inr, List, [], ◌∷◌, ◌++◌, length, Option, None, Some, refl, ap, sym, ◌∙◌, subst, arith, Bool, true, false, map}
use Rattle.std.specs.Prelude.{slice_get}
use Rattle.call_world.specs.Service.{free_rules}
use Rattle.call_world.specs.World.{World, Connection, Seat, Answer, Place, Invocation, Outcome, Replied, Handed, Failed, opening, fresh}
use Rattle.call_world.specs.Dead.{HasRead}
use Rattle.call_world.specs.Step.{MayFinish, IsToldLast, IsHandedLast}
use Rattle.call_world.proofs.Lists.{get_last, get_within}
use Rattle.once_law.specs.Placed.{Stand, place_at, invocation, invocations, seats, after, connection_of, connections, after_all}
use Rattle.once_law.proofs.Lists.{false_true, none_at, from_each, stand_stays, puts, puts_below, puts_above, puts_stand, mapped_more, mapped_long, more_long, invocations_long, seat_at, all_rises}
use Rattle.once_law.proofs.Links.{Link, linked, HasAnswer, IsTold, Fact, IsFact, LinksAt}
use Rattle.once_law.proofs.Moves.{Reach, reach_more}
use Rattle.once_law.proofs.Sweeps.{All, Unstarted, begins, with_calls, starts, CanEnd, ended, finishes, ended_all, all_calls}
use Rattle.once_law.proofs.Tries.{answer_read, links_stay, tries}

module _ {R : Type 0} where
  -- ---- the last attempt

  -- it connected, and stands there
  record IsLast (items : ℕ → Connection R) (ss : List Seat) (twoway : Bool) (size c : ℕ) (ls : List (Option (Link R))) (l : Link R) : Type 0 where
    connection : ℕ
    before : List (Option ℕ)
    all : connections c ls ≡ before ++ Some connection ∷ []
    here : items connection ≡ linked ss twoway size l

  last_of : (items : ℕ → Connection R) (ss : List Seat) (twoway : Bool) (size c : ℕ) (front : List (Option (Link R))) (l : Link R)
      → LinksAt items ss twoway size c (front ++ Some l ∷ []) → IsLast items ss twoway size c (front ++ Some l ∷ []) l
  last_of items ss twoway size c [] l h = record { connection = c; before = []; all = refl; here = h.0 }
  last_of items ss twoway size c (t ∷ front) l h =
      let m = last_of items ss twoway size (after c t) front l h.1 in
      record {
        connection = m.connection;
        before = connection_of c t ∷ m.before;
        all = ap (λ (ps : List (Option ℕ)). connection_of c t ∷ ps) m.all;
        here = m.here;
      }

  last_at : (items : ℕ → Connection R) (ss : List Seat) (twoway : Bool) (size c : ℕ) (ls front : List (Option (Link R))) (l : Link R) → ls ≡ front ++ Some l ∷ []
      → LinksAt items ss twoway size c ls → IsLast items ss twoway size c ls l
  last_at items ss twoway size c ls front l e h =
      subst (λ (z : List (Option (Link R))). IsLast items ss twoway size c z l) (sym e)
      (last_of items ss twoway size c front l (subst (λ (z : List (Option (Link R))). LinksAt items ss twoway size c z) e h))

-- the last attempt of the call in a seat
place_last : (seat d : ℕ) (before all : List (Option ℕ)) → all ≡ before ++ Some d ∷ []
    → (slice_get (map (place_at seat) all) (length before) ≡ Some (Some (record { connection = d; seat = seat }))) × (length (map (place_at seat) all) ≡ length before + 1)
place_last seat d before all e =
    let p : Option Place = Some (record { connection = d; seat = seat }) in
    let m : map (place_at seat) all ≡ map (place_at seat) before ++ p ∷ [] = ap (map (place_at seat)) e ∙ mapped_more (place_at seat) before (Some d) in
    let long = mapped_long (place_at seat) before in (
      ap (λ (ps : List (Option Place)). slice_get ps (length before)) m
          ∙ (ap (slice_get (map (place_at seat) before ++ p ∷ [])) (sym long) ∙ get_last (map (place_at seat) before) p),
      (let e1 = ap (λ (ps : List (Option Place)). length ps) m in let e2 = more_long (map (place_at seat) before) p in omega arith),
    )

module _ {C R : Type 0} (status : R → ℕ) where
  -- ---- the end of a message

  replied : (w : World C R (Unit {0})) (i c size : ℕ) (xs : List (C × Bool)) (ls front : List (Option (Link R))) (l : Link R) (r : R) (twoway : Bool) → twoway ≡ true → length xs ≡ 1
      → ls ≡ front ++ Some l ∷ [] → HasAnswer twoway l r → LinksAt w.connections (seats i twoway size xs) twoway size c ls
      → (n : ℕ) (x : C × Bool) → n < length xs → IsToldLast w (invocation twoway (connections c ls) None n x) r
  replied w i c size xs ls front l r true two one e answer links n x within =
      let m = last_at w.connections (seats i true size xs) true size c ls front l e links in
      let p = place_last n m.connection m.before (connections c ls) m.all in
      let first : 0 ≡ n = omega arith in (
        length m.before,
        record { connection = m.connection; seat = n },
        p.0,
        p.1,
        subst (λ (k : Connection R). HasRead k (Answer n r)) (sym m.here)
            (subst (λ (s : ℕ). HasRead (linked (seats i true size xs) true size l) (Answer s r)) first (answer_read status i size xs l r answer)),
      )
  replied w i c size xs ls front l r false two one e answer links n x within = absurd (false_true two)

  handed : (w : World C R (Unit {0})) (i c size : ℕ) (xs : List (C × Bool)) (ls front : List (Option (Link R))) (l : Link R) (twoway : Bool)
      → ls ≡ front ++ Some l ∷ [] → size ≤ l.handed → LinksAt w.connections (seats i twoway size xs) twoway size c ls
      → (n : ℕ) (x : C × Bool) → n < length xs → IsHandedLast w (invocation twoway (connections c ls) None n x)
  handed w i c size xs ls front l twoway e whole links n x within =
      let m = last_at w.connections (seats i twoway size xs) twoway size c ls front l e links in
      let p = place_last n m.connection m.before (connections c ls) m.all in
      let s = seat_at i twoway size xs n within in
      let ends = s.ends in
      let here = ap (λ (k : Connection R). k.handed) m.here in (
        length m.before,
        record { connection = m.connection; seat = n },
        s.seat,
        p.0,
        p.1,
        ap (λ (k : Connection R). slice_get k.asked n) m.here ∙ s.at,
        omega arith,
      )

  may_finish : (w : World C R (Unit {0})) (i c size : ℕ) (xs : List (C × Bool)) (ls : List (Option (Link R))) (twoway : Bool) (o : Outcome R) → (twoway ≡ true → length xs ≡ 1)
      → IsTold twoway size o ls → LinksAt w.connections (seats i twoway size xs) twoway size c ls
      → (n : ℕ) (x : C × Bool) → n < length xs → MayFinish w (invocation twoway (connections c ls) None n x) o
  may_finish w i c size xs ls twoway (Replied r) alone (front, l, e, answer) links n x within =
      replied w i c size xs ls front l r twoway answer.2 (alone answer.2) e answer links n x within
  may_finish w i c size xs ls twoway Handed alone (none, (front, l, e, whole)) links n x within =
      (none, handed w i c size xs ls front l twoway e whole links n x within)
  may_finish w i c size xs ls twoway Failed alone told links n x within = tt

  can_end : (w : World C R (Unit {0})) (i c size : ℕ) (xs : List (C × Bool)) (ls : List (Option (Link R))) (twoway : Bool) (o : Outcome R) → (twoway ≡ true → length xs ≡ 1)
      → IsTold twoway size o ls → LinksAt w.connections (seats i twoway size xs) twoway size c ls
      → All (CanEnd w o) (invocations twoway (connections c ls) None 0 xs)
  can_end w i c size xs ls twoway o alone told links =
      all_calls twoway (CanEnd w o) (connections c ls) None 0 xs
      (from_each (λ (n : ℕ) (x : C × Bool). CanEnd w o (invocation twoway (connections c ls) None n x)) 0 xs
      (λ q x h. let l = get_within xs q x h in (refl, may_finish w i c size xs ls twoway o alone told links (0 + q) x (omega arith))))

  -- ---- one message

  -- what a world shows of a message
  pub record IsShown (w : World C R (Unit {0})) (i c : ℕ) (f : Fact C R) : Type 0 where
    pub calls : Stand w.invocations i (invocations f.twoway (connections c f.tries) (Some f.result) 0 f.calls)
    pub links : LinksAt w.connections (seats i f.twoway f.size f.calls) f.twoway f.size c f.tries

  record Done (w : World C R (Unit {0})) (i c : ℕ) (f : Fact C R) : Type 0 where
    world : World C R (Unit {0})
    reach : Reach (free_rules status) w world
    unused : (d : ℕ) → after_all c f.tries ≤ d → world.connections d ≡ fresh
    unstarted : Unstarted world (i + length f.calls)
    others : (d : ℕ) → d < c → world.connections d ≡ w.connections d
    before : (j : ℕ) → j < i → world.invocations j ≡ w.invocations j
    shown : IsShown world i c f

  one_message : (w : World C R (Unit {0})) (i c : ℕ) (f : Fact C R) → ((d : ℕ) → c ≤ d → w.connections d ≡ fresh) → Unstarted w i → IsFact status f → Done w i c f
  one_message w i c f unused unstarted good =
      let rules = free_rules {C = C} status in
      let two = f.twoway in
      let xs = f.calls in
      let v0 : List (Invocation C R) = begins two 0 xs in
      let w1 : World C R (Unit {0}) = with_calls w (puts w.invocations i v0) in
      let long0 = invocations_long {C = C} {R = R} two [] None 0 xs in
      let t = tries status two f.size xs good.some good.alone i w1 c [] f.tries unused (puts_stand w.invocations i v0)
      (λ l n d h. absurd (none_at n (Some d) h)) good.links in
      let vs : List (Invocation C R) = invocations two (connections c f.tries) None 0 xs in
      let us : List (Invocation C R) = invocations two (connections c f.tries) (Some f.result) 0 xs in
      let w2 = t.world in
      let w3 : World C R (Unit {0}) = with_calls w2 (puts w2.invocations i (map (ended f.result) vs)) in
      let finish = finishes rules w2 f.result i vs t.stand (can_end w2 i c f.size xs f.tries two f.result good.alone good.told t.links) in
      let ends : w3.invocations ≡ puts w2.invocations i us = ap (λ (zs : List (Invocation C R)). puts w2.invocations i zs) (ended_all two f.result (connections c f.tries) 0 xs) in
      let at : (j : ℕ) → w3.invocations j ≡ puts w2.invocations i us j = λ j. ap (λ (g : ℕ → Option (Invocation C R)). g j) ends in
      let long : length us ≡ length xs = invocations_long {C = C} {R = R} two (connections c f.tries) (Some f.result) 0 xs in
      record {
        world = w3;
        reach = reach_more rules w w1 w3 (starts rules w i two 0 xs unstarted) (reach_more rules w1 w2 w3 t.reach finish);
        unused = t.unused;
        unstarted = λ j l.
            at j ∙ (puts_above w2.invocations i us j (omega arith)
            ∙ (t.rest j (inr (omega arith)) ∙ (puts_above w.invocations i v0 j (omega arith) ∙ unstarted j (omega arith))));
        others = t.others;
        before = λ j l.
            at j ∙ (puts_below w2.invocations i us j l ∙ (t.rest j (inl l) ∙ puts_below w.invocations i v0 j l));
        shown = record {
          calls = stand_stays (puts w2.invocations i us) w3.invocations i us (λ j p q. at j) (puts_stand w2.invocations i us);
          links = t.links;
        };
      }

  -- ---- all messages

  abbrev pub AreShown : World C R (Unit {0}) → ℕ → ℕ → List (Fact C R) → Type 0
  AreShown w i c [] = Unstarted w i × ((d : ℕ) → c ≤ d → w.connections d ≡ fresh)
  AreShown w i c (f ∷ fs) = IsShown w i c f × AreShown w (i + length f.calls) (after_all c f.tries) fs

  record AllDone (w : World C R (Unit {0})) (i c : ℕ) (fs : List (Fact C R)) : Type 0 where
    world : World C R (Unit {0})
    reach : Reach (free_rules status) w world
    others : (d : ℕ) → d < c → world.connections d ≡ w.connections d
    before : (j : ℕ) → j < i → world.invocations j ≡ w.invocations j
    shown : AreShown world i c fs

  all_messages : (w : World C R (Unit {0})) (i c : ℕ) (fs : List (Fact C R)) → ((d : ℕ) → c ≤ d → w.connections d ≡ fresh) → Unstarted w i
      → All (IsFact status) fs → AllDone w i c fs
  all_messages w i c [] unused unstarted good = record {
    world = w;
    reach = ([], refl);
    others = λ d l. refl;
    before = λ j l. refl;
    shown = (unstarted, unused);
  }
  all_messages w i c (f ∷ fs) unused unstarted good =
      let rules = free_rules {C = C} status in
      let one = one_message w i c f unused unstarted good.0 in
      let m = all_messages one.world (i + length f.calls) (after_all c f.tries) fs one.unused one.unstarted good.1 in
      let rises = all_rises c f.tries in
      let us : List (Invocation C R) = invocations f.twoway (connections c f.tries) (Some f.result) 0 f.calls in
      let long : length us ≡ length f.calls = invocations_long {C = C} {R = R} f.twoway (connections c f.tries) (Some f.result) 0 f.calls in
      record {
        world = m.world;
        reach = reach_more rules w one.world m.world one.reach m.reach;
        others = λ d l. m.others d (omega arith) ∙ one.others d l;
        before = λ j l. m.before j (omega arith) ∙ one.before j l;
        shown = (
          record {
            calls = stand_stays one.world.invocations m.world.invocations i us (λ j p q. m.before j (omega arith)) one.shown.calls;
            links = links_stay status f.twoway f.size f.calls good.0.some good.0.alone i one.world.connections m.world.connections c f.tries (λ d p q. m.others d q) one.shown.links;
          },
          m.shown,
        );
      }

  pub joined : (fs : List (Fact C R)) → All (IsFact status) fs
      → (w : World C R (Unit {0})) × Reach (free_rules status) (opening tt) w × AreShown w 0 0 fs
  joined fs good =
      let m = all_messages (opening {C = C} {R = R} {O = Unit {0}} tt) 0 0 fs (λ d l. refl) (λ j l. refl) good in
      (m.world, m.reach, m.shown)
