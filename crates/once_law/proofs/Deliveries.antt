-- Messages with their attempts and sessions as facts of links, and the law.
use Rattle.std.proofs.Common.{◌≡◌, ℕ, ◌+◌, ◌<◌, Bool, true, List, [], ◌∷◌, ◌++◌, length, Option, None, Some, refl, ap, sym, ◌∙◌, subst, arith, map}
use Rattle.ice_encoding.specs.Parts.{Each}
use Rattle.ice_messages.specs.declared.message.Call.{Call}
use Rattle.ice_messages.specs.declared.message.Answer.{Answer}
use Rattle.ice_messages.specs.declared.message.Message.{Message}
use Rattle.retry_core.specs.Retries.{may_follow}
use Rattle.ice_client.specs.declared.outcome.Outcome.{Outcome}
use Rattle.ice_client.specs.declared.outgoing.Outgoing.{Outgoing}
use Rattle.ice_client.specs.Sending.{asks_reply, IsOf}
use Rattle.ice_client.specs.ClientDid.{Tried, Comes, IsFollowed, Ended}
use Rattle.ice_messages.specs.Calls.{status_of}
use Rattle.call_world.specs.Service.{free_rules}
use Rattle.call_world.specs.World as world
use Rattle.call_world.proofs.Runs.{at_most_once_lem, own_replies_lem, logged_lem}
use Rattle.once_law.specs.Placed.{Stand, seats, after, connection_of, connections, after_all, invocations}
use Rattle.once_law.specs.Ends.{Attempted, Delivery, tried_of, talk_of, talks, HasOtherEnd, IsSent, IsDelivery}
use Rattle.once_law.specs.Shown.{CallWorld, calls_of, result_of, ShowsAttempts, ShowsDelivery, ShowsFrom}
use Rattle.once_law.specs.Laws.{EndsAreOneWorld}
use Rattle.once_law.proofs.Lists.{head_is, tail_is}
use Rattle.once_law.proofs.Links as links
use Rattle.once_law.proofs.Sweeps.{All}
use Rattle.once_law.proofs.Facts as facts
use Rattle.once_law.proofs.Sessions.{calls_some, calls_alone}
use Rattle.once_law.proofs.Dispatches.{dispatches_are_turns, turns_are_dispatches}
use Rattle.once_law.proofs.Attempts.{Link, Told, IsWell, IsLinkOf, link_of}

-- ---- the attempts at one message

module _ (o : Outgoing) (m : Message) (is_of : IsOf o m) (sent : IsSent m) where
  abbrev two : Bool
  two = asks_reply m

  abbrev size : ℕ
  size = length o.bytes

  -- the attempts as links
  record AsLinks (ts : List Attempted) (result : world.Outcome Answer) (ls : List (Option Link)) : Type 0 where
    numbered : (c : ℕ) → connections c (map talk_of ts) ≡ connections c ls
    counted : (c : ℕ) → after_all c (map talk_of ts) ≡ after_all c ls
    well : links.AreLinks status_of two size (calls_of m) ls
    told : links.IsTold two size result ls
    shows :
        (w : CallWorld) (i c : ℕ) → links.LinksAt w.connections (seats i two size (calls_of m)) two size c ls
        → ShowsAttempts w i m o.bytes c ts

  well_more : (follows : Bool) (link : Option Link) (ls : List (Option Link)) → (0 < length ls → follows ≡ true) → IsWell m size follows link
      → links.AreLinks status_of two size (calls_of m) ls → links.AreLinks status_of two size (calls_of m) (link ∷ ls)
  well_more follows None ls may well rest = rest
  well_more follows (Some l) ls may well rest = (well.0, λ q. well.1 (may q), rest)

  told_more : (result : world.Outcome Answer) (link : Option Link) (ls : List (Option Link)) → links.IsTold two size result ls → links.IsTold two size result (link ∷ ls)
  told_more (world.Replied r) link ls (front, l, e, has) = (link ∷ front, l, ap (λ (z : List (Option Link)). link ∷ z) e, has)
  told_more world.Handed link ls (none, (front, l, e, whole)) = (none, (link ∷ front, l, ap (λ (z : List (Option Link)). link ∷ z) e, whole))
  told_more world.Failed link ls h = tt

  told_last : (result : world.Outcome Answer) (link : Option Link) → Told two size result link → links.IsTold two size result (link ∷ [])
  told_last (world.Replied r) link (l, e, has) = ([], l, ap (λ (z : Option Link). z ∷ []) e, has)
  told_last world.Handed link (none, (l, e, whole)) = (none, ([], l, ap (λ (z : Option Link). z ∷ []) e, whole))
  told_last world.Failed link h = tt

  one_more : (a : Attempted) (ts : List Attempted) (follows : Bool) (outcome : Outcome) (link : Option Link) (ls : List (Option Link)) (result : world.Outcome Answer)
      → (0 < length ls → follows ≡ true) → IsLinkOf m o.bytes (talk_of a) a.session follows outcome link → AsLinks ts result ls
      → links.IsTold two size result (link ∷ ls) → AsLinks (a ∷ ts) result (link ∷ ls)
  one_more a ts follows outcome link ls result may one more told = record {
    numbered = λ c.
        ap (λ (p : Option ℕ). p ∷ connections (after c (talk_of a)) (map talk_of ts)) (one.numbered c)
        ∙ ap (λ (ps : List (Option ℕ)). connection_of c link ∷ ps)
        (more.numbered (after c (talk_of a)) ∙ ap (λ (d : ℕ). connections d ls) (one.counted c));
    counted = λ c. more.counted (after c (talk_of a)) ∙ ap (λ (d : ℕ). after_all d ls) (one.counted c);
    well = well_more follows link ls may one.well more.well;
    told = told;
    shows = λ w i c h. (
      one.shows w i c h.0,
      subst (λ (d : ℕ). ShowsAttempts w i m o.bytes d ts) (sym (one.counted c)) (more.shows w i (after c link) h.1),
    );
  }

  none_as : (result : world.Outcome Answer) → links.IsTold two size result [] → AsLinks [] result []
  none_as result told = record { numbered = λ c. refl; counted = λ c. refl; well = tt; told = told; shows = λ w i c h. tt }

  link_at : (a : Attempted) (outcome : Outcome) → Comes o a.tried outcome → HasOtherEnd a
      → (link : Option Link) × IsLinkOf m o.bytes (talk_of a) a.session (may_follow o.idempotent a.tried.attempt) outcome link
  link_at a outcome comes met = link_of o m is_of sent a.tried.cached a.tried.attempt outcome a.tried.talk a.session comes met

  -- each was followed, or the place of the next was not had
  followed : (ts : List Attempted) → Each (IsFollowed o) (map tried_of ts) → Each HasOtherEnd ts
      → (ls : List (Option Link)) × AsLinks ts world.Failed ls
  followed [] each met = ([], none_as world.Failed tt)
  followed (a ∷ ts) each met =
      let f = each.0 in
      let one = link_at a f.0.0 f.0.1 met.0 in
      let more = followed ts each.1 met.1 in
      (one.0 ∷ more.0, one_more a ts (may_follow o.idempotent a.tried.attempt) f.0.0 one.0 more.0 world.Failed (λ q. f.1) one.1 more.1 tt)

  no_more : {A : Type 0} (xs : List A) (x : A) → [] ≡ xs ++ x ∷ [] → ⊥
  no_more {A} [] x e = let z = ap (λ (ys : List A). length ys) e in omega arith
  no_more {A} (y ∷ xs) x e = let z = ap (λ (ys : List A). length ys) e in omega arith

  -- all but the last
  with_last : (before : List Tried) (last : Tried) (ts : List Attempted) (outcome : Outcome) → map tried_of ts ≡ before ++ last ∷ []
      → Each (IsFollowed o) before → Comes o last outcome → Each HasOtherEnd ts
      → (ls : List (Option Link)) × AsLinks ts (result_of (Some outcome)) ls
  with_last before last [] outcome e each comes met = absurd (no_more before last e)
  with_last [] last (a ∷ []) outcome e each comes met =
      let same : a.tried ≡ last = head_is e in
      let one = link_at a outcome (subst (λ (z : Tried). Comes o z outcome) (sym same) comes) met.0 in
      let told = told_last (result_of (Some outcome)) one.0 one.1.told in (
        one.0 ∷ [],
        record {
          numbered = λ c. ap (λ (p : Option ℕ). p ∷ []) (one.1.numbered c);
          counted = λ c. one.1.counted c;
          well = well_more (may_follow o.idempotent a.tried.attempt) one.0 [] (λ q. absurd (omega arith)) one.1.well tt;
          told = told;
          shows = λ w i c h. (one.1.shows w i c h.0, tt);
        },
      )
  with_last [] last (a ∷ b ∷ ts) outcome e each comes met = absurd (let z = ap (λ (ys : List Tried). length ys) e in omega arith)
  with_last (x ∷ before) last (a ∷ ts) outcome e each comes met =
      let same : a.tried ≡ x = head_is e in
      let rest : map tried_of ts ≡ before ++ last ∷ [] = tail_is e in
      let f : IsFollowed o a.tried = subst (λ (y : Tried). IsFollowed o y) (sym same) each.0 in
      let one = link_at a f.0.0 f.0.1 met.0 in
      let more = with_last before last ts outcome rest each.1 comes met.1 in
      let result = result_of (Some outcome) in (
        one.0 ∷ more.0,
        one_more a ts (may_follow o.idempotent a.tried.attempt) f.0.0 one.0 more.0 result (λ q. f.1) one.1 more.1 (told_more result one.0 more.0 more.1.told),
      )

  as_links : (ts : List Attempted) (retries : ℕ) (outcome : Option Outcome) → Ended o retries (map tried_of ts) outcome → Each HasOtherEnd ts
      → (ls : List (Option Link)) × AsLinks ts (result_of outcome) ls
  as_links ts retries None ended met = followed ts ended.0 met
  as_links ts retries (Some outcome) ended met = with_last ended.0 ended.1 ts outcome ended.2 ended.3 ended.4 met

-- ---- one message

abbrev Fact : Type 0
Fact = links.Fact Call Answer

record AsFact (d : Delivery) (f : Fact) : Type 0 where
  good : links.IsFact status_of f
  calls : f.calls ≡ calls_of d.message
  counted : (c : ℕ) → after_all c (talks d) ≡ after_all c f.tries
  shows : (w : CallWorld) (i c : ℕ) → facts.IsShown status_of w i c f → ShowsDelivery w i c d

as_fact : (d : Delivery) → IsDelivery d → (f : Fact) × AsFact d f
as_fact d h =
    let o = h.client.outgoing in
    let m = d.message in
    let is_of = h.client.is_of in
    let l = as_links o m is_of h.sent d.attempts d.retries d.outcome h.client.ended h.ends in
    let f : Fact = record {
      calls = calls_of m;
      twoway = asks_reply m;
      size = length o.bytes;
      tries = l.0;
      result = result_of d.outcome;
    } in (
      f,
      record {
        good = record {
          some = calls_some m h.sent;
          alone = calls_alone m h.sent;
          links = l.1.well;
          told = l.1.told;
        };
        calls = refl;
        counted = l.1.counted;
        shows = λ w i c s. record {
          bytes = o.bytes;
          spelled = is_of.spelled;
          calls = subst (λ (ps : List (Option ℕ)). Stand w.invocations i (invocations (asks_reply m) ps (Some (result_of d.outcome)) 0 (calls_of m)))
              (sym (l.1.numbered c)) s.calls;
          attempts = l.1.shows w i c s.links;
        };
      },
    )

-- ---- all messages

record AsFacts (ds : List Delivery) (fs : List Fact) : Type 0 where
  good : All (links.IsFact status_of) fs
  shows : (w : CallWorld) (i c : ℕ) → facts.AreShown status_of w i c fs → ShowsFrom w i c ds

as_facts : (ds : List Delivery) → Each IsDelivery ds → (fs : List Fact) × AsFacts ds fs
as_facts [] h = ([], record { good = tt; shows = λ w i c s. s })
as_facts (d ∷ ds) h =
    let one = as_fact d h.0 in
    let more = as_facts ds h.1 in (
      one.0 ∷ more.0,
      record {
        good = (one.1.good, more.1.good);
        shows = λ w i c s. (
          one.1.shows w i c s.0,
          subst (λ (n : ℕ). ShowsFrom w (i + n) (after_all c (talks d)) ds) (ap (λ (xs : List (Call × Bool)). length xs) one.1.calls)
              (subst (λ (n : ℕ). ShowsFrom w (i + length one.0.calls) n ds) (sym (one.1.counted c))
              (more.1.shows w (i + length one.0.calls) (after_all c one.0.tries) s.1)),
        );
      },
    )

pub one_world : EndsAreOneWorld
unfolding free_rules
one_world ds h =
    let f = as_facts ds h in
    let j = facts.joined status_of f.0 f.1.good in
    let rules = free_rules {C = Call} status_of in
    let shows = f.1.shows j.0 0 0 j.2 in
    let logged = logged_lem rules tt j.0 j.1 in (
      j.0,
      record {
        reached = j.1;
        shows = shows;
        at_most_once = at_most_once_lem rules tt j.0 j.1;
        own_replies = own_replies_lem rules tt j.0 j.1;
        logged = logged;
        dispatches = dispatches_are_turns j.0 ds shows logged;
        turns = turns_are_dispatches j.0 ds h shows logged;
      },
    )
