-- Messages that are taken one after the other, and how a session ends.
use Rattle.std.proofs.Common.{◌≡◌, ℕ, suc, ◌+◌, ◌<◌, ◌≤◌, inl, inr, Bool, true, false, List, [], ◌∷◌, ◌++◌, length, refl, sym, ap, ap₂, ◌∙◌, subst, arith, append_assoc, append-nil, length-append}
use Rattle.std.proofs.lemmas.List.{length-map, map-append}
use Rattle.std.specs.Prelude.{ℤ, pos, Option, Some, None, Result, Ok, Err}
use Rattle.turnstile.specs.declared.turned.Turned.{Ghosts}
use Rattle.turnstile.specs.declared.passes.Pass.{Pass}
use Rattle.ice_ports.specs.declared.talk.Talk.{Talk}
use Rattle.ice_ports.specs.Talks.{and_then, gives, silent}
use Rattle.ice_messages.specs.declared.message.Call.{Call}
use Rattle.ice_messages.specs.declared.message.Answer.{Answer}
use Rattle.ice_messages.specs.declared.message.Message.{Message}
use Rattle.ice_messages.specs.declared.message.Message.TheVariants.{Request, Batch, Reply, Validate, Close}
use Rattle.ice_messages.specs.Messages.{SpellsMessage}
use Rattle.ice_messages.specs.Streams.{Stream}
use Rattle.talking.specs.Said.{all_of, IsSaid, IsSaidBut, IsFine, Says}
use Rattle.talking.specs.Ends.{Shows, IsTaken, IsSingle, WasSaid, EndsBy, closing}
use Rattle.dispatch_pool.specs.declared.object.Object.{Object}
use Rattle.talking.specs.declared.end.End.{End}
use Rattle.talking.specs.declared.end.End.TheVariants as ends
use Rattle.dispatch_pool.specs.Rows.{RowGrew}
use Rattle.dispatch_pool.specs.Handled.{Keys, Asked, Handled, answer_of, asked, asked_of, asking, replies, reply_of, reply_steps, turns_of, unasked}
use Rattle.dispatch_pool.specs.ServerDid.{ServerDid, IsLeft}
use Rattle.dispatch_pool.specs.Parts.{Handling, Next, Part, IsNext, LeavesNone}
use Rattle.talking.proofs.Said.{steps_said, steps_cut, steps_but, step_begun}
use Rattle.talking.proofs.Ends.{stream_then, taken_append, stepped, or_right, both_fine, shows_later, said_later}
use Rattle.dispatch_pool.proofs.Turning.{row_still}
use Rattle.dispatch_pool.proofs.Calls.{asking_append, outcomes_append, grew_more}

-- ---- lists

asked_append : (xs ys : List Message) → asked (xs ++ ys) ≡ asked xs ++ asked ys
asked_append [] ys = refl
asked_append (x ∷ xs) ys = ap (λ (z : List Asked). asked_of x ++ z) (asked_append xs ys) ∙ sym (append_assoc (asked_of x) (asked xs) (asked ys))

-- ---- one message

next_by : {E : Type 0} (r : Result Bool E) (m : Message) (t : Talk) (held : List ℕ) (rest : List Asked) (steps : List (List Message)) → IsSingle steps → LeavesNone rest r → Says (all_of steps) t r → IsNext t held (m ∷ []) held rest steps (stepped r)
next_by (Ok true) m t held rest steps single none s = (refl, refl, none, s.1, s.2)
next_by (Ok false) m t held rest steps single none s = (s.2, none, inr (step_begun steps t.taken single s.1))
next_by (Err e) m t held rest steps single none s = (s.1, s.2)

asking_long : (hs : List Handled) → length (asking hs) ≡ length hs
asking_long [] = refl
asking_long (h ∷ hs) = ap suc (asking_long hs)

few_asked : (asks rest : List Asked) (hs : List Handled) → asks ≡ asking hs ++ rest → length asks ≤ 1 → length (reply_steps hs) ≤ 1
few_asked asks rest hs is few =
    let a = ap (λ (z : List Asked). length z) is in let b = length-append (asking hs) rest in let c = asking_long hs in let d : length (reply_steps hs) ≡ length hs = length-map hs _ in omega arith

-- the calls of a batch ask for no reply
unasked_quiet : (cs : List Call) (rest : List Asked) (hs : List Handled) → unasked cs ≡ asking hs ++ rest → replies hs ≡ []
unasked_quiet cs rest [] is = refl
unasked_quiet [] rest (h ∷ hs) is = absurd (let a = ap (λ (z : List Asked). length z) is in omega arith)
unasked_quiet (c ∷ cs) rest (h ∷ hs) is =
    let id : pos 0 ≡ h.asked.id = ap (λ (z : List Asked). id_of z) is in
    let more : unasked cs ≡ asking hs ++ rest = ap (λ (z : List Asked). behind_first z) is in
    ap (λ (z : ℤ). reply_of z (answer_of h.outcome) ++ replies hs) (sym id) ∙ unasked_quiet cs rest hs more
  where
    id_of : List Asked → ℤ
    id_of [] = pos 0
    id_of (a ∷ others) = a.id

    behind_first : List Asked → List Asked
    behind_first [] = []
    behind_first (a ∷ others) = others

single_of : (m : Message) (rest : List Asked) (hs : List Handled) → asked_of m ≡ asking hs ++ rest → IsSingle (reply_steps hs)
single_of (Request id call) rest hs is = inl (few_asked (asked_of (Request id call)) rest hs is (omega arith))
single_of (Batch calls) rest hs is = inr (unasked_quiet calls rest hs is)
single_of (Reply id answer) rest hs is = inl (few_asked [] rest hs is (omega arith))
single_of Validate rest hs is = inl (few_asked [] rest hs is (omega arith))
single_of Close rest hs is = inl (few_asked [] rest hs is (omega arith))

module _ {g : Ghosts Object Call Answer} (keys : Keys) where
  pub next_handled : {E : Type 0} (r : Result Bool E) (ps qs : List (Pass Object Call Answer g)) (m : Message) (bytes held first : List ℕ) (t : Talk) → bytes ≡ first ++ held → SpellsMessage first m
      → IsTaken m → Handling keys ps qs (asked_of m) t r → Next keys ps qs t bytes held (stepped r)
  next_handled r ps qs m bytes held first t is spelled going h = record {
    reads = m ∷ [];
    left = held;
    handled = h.handled;
    rest = h.rest;
    stream = (first, held, is, spelled, refl);
    few = omega arith;
    going = (going, tt);
    single = single_of m h.rest h.handled h.calls;
    calls = append-nil (asked_of m) ∙ h.calls;
    outcomes = h.outcomes;
    grew = h.grew;
    how = next_by r m t held h.rest (reply_steps h.handled) (single_of m h.rest h.handled h.calls) h.left h.says;
  }

  -- a message without calls
  pub next_quiet : {E : Type 0} (ps : List (Pass Object Call Answer g)) (m : Message) (bytes held first : List ℕ) → bytes ≡ first ++ held → SpellsMessage first m → IsTaken m → asked_of m ≡ []
      → Next keys ps ps {E = E} silent bytes held (Ok None)
  next_quiet ps m bytes held first is spelled going none = record {
    reads = m ∷ [];
    left = held;
    handled = [];
    rest = [];
    stream = (first, held, is, spelled, refl);
    few = omega arith;
    going = (going, tt);
    single = inl (omega arith);
    calls = append-nil (asked_of m) ∙ none;
    outcomes = tt;
    grew = row_still ps;
    how = (refl, refl, refl, (refl, tt), (refl, refl));
  }

  pub next_end : {E : Type 0} (ps : List (Pass Object Call Answer g)) (t : Talk) (bytes held : List ℕ) (end : End) → Shows t bytes (Some end) → EndsBy end bytes [] [] t.taken → Next keys ps ps {E = E} t bytes held (Ok (Some end))
  next_end ps t bytes held end shows by = record {
    reads = [];
    left = bytes;
    handled = [];
    rest = [];
    stream = refl;
    few = omega arith;
    going = tt;
    single = inl (omega arith);
    calls = refl;
    outcomes = tt;
    grew = row_still ps;
    how = (shows, refl, by);
  }

  pub next_starved : {E : Type 0} (e : E) (ps : List (Pass Object Call Answer g)) (t : Talk) (bytes held : List ℕ) → t.taken ≡ [] → IsFine t → Next keys ps ps {E = E} t bytes held (Err e)
  next_starved e ps t bytes held none fine = record {
    reads = [];
    left = bytes;
    handled = [];
    rest = [];
    stream = refl;
    few = omega arith;
    going = tt;
    single = inl (omega arith);
    calls = refl;
    outcomes = tt;
    grew = row_still ps;
    how = (none, fine);
  }

-- behind the bytes of a message
shown_behind : {E : Type 0} (got : List ℕ) (t : Talk) (held : List ℕ) (reads : List Message) (left : List ℕ) (rest : List Asked) (steps : List (List Message)) (r : Result (Option End) E)
    → IsNext t held reads left rest steps r → IsNext (and_then (gives got) t) held reads left rest steps r
shown_behind got t held reads left rest steps (Ok None) h = h
shown_behind got t held reads left rest steps (Ok (Some ends.PeerEnded)) h = h
shown_behind got t held reads left rest steps (Ok (Some ends.PeerClosed)) h = h
shown_behind got t held reads left rest steps (Ok (Some (ends.PeerBroke fault))) h = h
shown_behind got t held reads left rest steps (Ok (Some ends.LinkFailed)) h = h
shown_behind got t held reads left rest steps (Ok (Some ends.Enough)) h = h
shown_behind got t held reads left rest steps (Err e) h = h

pub next_behind : {E : Type 0} {g : Ghosts Object Call Answer} (keys : Keys) (ps qs : List (Pass Object Call Answer g)) (r : Result (Option End) E) (before got held : List ℕ) (t : Talk) → t.given ≡ []
    → Next keys ps qs t (before ++ got) held r → Next keys ps qs (and_then (gives got) t) (before ++ (got ++ t.given)) held r
next_behind keys ps qs r before got held t none n = record {
  reads = n.reads;
  left = n.left;
  handled = n.handled;
  rest = n.rest;
  stream = subst (λ (z : List ℕ). Stream (before ++ z) n.reads n.left) (sym (append-nil got) ∙ ap (λ (z : List ℕ). got ++ z) (sym none)) n.stream;
  few = n.few;
  going = n.going;
  single = n.single;
  calls = n.calls;
  outcomes = n.outcomes;
  grew = n.grew;
  how = shown_behind got t held n.reads n.left n.rest (reply_steps n.handled) r n.how;
}

-- ---- the whole session

-- what a session says, step by step
abbrev steps : List Handled → List (List Message)
steps handled = (Validate ∷ []) ∷ reply_steps handled

steps_more : (xs ys : List Handled) → steps xs ++ reply_steps ys ≡ steps (xs ++ ys)
steps_more xs ys = ap (λ (z : List (List Message)). (Validate ∷ []) ∷ z) (sym (map-append _ xs ys))

module _ {g : Ghosts Object Call Answer} (keys : Keys) where
  pub part_begun : (E : Type 0) (ps : List (Pass Object Call Answer g)) (t : Talk) → Says {E = E} (Validate ∷ []) t (Ok true) → Part keys ps ps t [] 0
  part_begun E ps t h = record { reads = []; handled = []; stream = h.0; long = refl; going = tt; calls = refl; outcomes = tt; grew = row_still ps; said = h.1; fine = h.2 }

  pub part_more : (E : Type 0) (ps qs rs : List (Pass Object Call Answer g)) (t s : Talk) (held now : List ℕ) (i : ℕ) → Part keys ps qs t held i → Next keys qs rs {E = E} s (held ++ s.given) now (Ok None)
      → Part keys ps rs (and_then t s) now (i + 1)
  part_more E ps qs rs t s held now i p n = record {
    reads = p.reads ++ n.reads;
    handled = p.handled ++ n.handled;
    stream = subst (λ (z : List ℕ). Stream (t.given ++ s.given) (p.reads ++ n.reads) z) n.how.1 (stream_then p.reads n.reads t.given held s.given n.left p.stream n.stream);
    long = let l = length-append p.reads n.reads in let a = p.long in let b = n.how.0 in omega arith;
    going = taken_append p.reads n.reads p.going n.going;
    calls = asked_append p.reads n.reads ∙ (ap₂ (λ (a b : List Asked). a ++ b) p.calls (n.calls ∙ (ap (λ (z : List Asked). asking n.handled ++ z) n.how.2 ∙ append-nil (asking n.handled))) ∙ sym (asking_append p.handled n.handled));
    outcomes = outcomes_append keys p.handled n.handled p.outcomes n.outcomes;
    grew = grew_more ps qs rs p.handled n.handled p.grew n.grew;
    said = subst (λ (z : List (List Message)). IsSaid (all_of z) (t.taken ++ s.taken)) (steps_more p.handled n.handled) (steps_said (steps p.handled) (reply_steps n.handled) t.taken s.taken p.said n.how.3);
    fine = both_fine t s p.fine n.how.4;
  }

  -- the last message, or what came in its place
  module _ (most i : ℕ) (ps qs rs : List (Pass Object Call Answer g)) (t s : Talk) (held now : List ℕ) (p : Part keys ps qs t held i) where
    pub ended : (E : Type 0) (e : End) → i < most → Next keys qs rs {E = E} s (held ++ s.given) now (Ok (Some e)) → (hs : List Handled) × RowGrew ps rs (turns_of hs) × ServerDid keys most (and_then t s) hs (Some e)
    ended E e lt n = (
      p.handled ++ n.handled,
      grew_more ps qs rs p.handled n.handled p.grew n.grew,
      record {
        reads = p.reads ++ n.reads;
        left = n.left;
        stream = stream_then p.reads n.reads t.given held s.given n.left p.stream n.stream;
        few = let l = length-append p.reads n.reads in let a = p.long in let b = n.few in omega arith;
        going = taken_append p.reads n.reads p.going n.going;
        shows = shows_later t s n.left e n.how.0;
        rest = n.rest;
        calls = asked_append p.reads n.reads ∙ (ap₂ (λ (a b : List Asked). a ++ b) p.calls n.calls ∙ (sym (append_assoc (asking p.handled) (asking n.handled) n.rest) ∙ ap (λ (z : List Asked). z ++ n.rest) (sym (asking_append p.handled n.handled))));
        is_left = n.how.1;
        outcomes = outcomes_append keys p.handled n.handled p.outcomes n.outcomes;
        said = (
            let more = length-append p.reads n.reads ∙ ap (λ (k : ℕ). k + length n.reads) p.long in
            subst (λ (z : List (List Message)). WasSaid (Some e) n.left (length (p.reads ++ n.reads)) most z (t.taken ++ s.taken)) (steps_more p.handled n.handled)
            (said_later i (length (p.reads ++ n.reads)) most n.left n.reads (steps p.handled) (reply_steps n.handled) t.taken s.taken p.said lt more e n.how.2)
            );
      },
    )

    pub starves : (E : Type 0) (e : E) → i < most → Next keys qs rs {E = E} s (held ++ s.given) now (Err e) → (hs : List Handled) × RowGrew ps rs (turns_of hs) × ServerDid keys most (and_then t s) hs None
    starves E e lt n = (
      p.handled ++ n.handled,
      grew_more ps qs rs p.handled n.handled p.grew n.grew,
      record {
        reads = p.reads ++ n.reads;
        left = n.left;
        stream = stream_then p.reads n.reads t.given held s.given n.left p.stream n.stream;
        few = let l = length-append p.reads n.reads in let a = p.long in let b = n.few in omega arith;
        going = taken_append p.reads n.reads p.going n.going;
        shows = both_fine t s p.fine n.how.1;
        rest = n.rest;
        calls = asked_append p.reads n.reads ∙ (ap₂ (λ (a b : List Asked). a ++ b) p.calls n.calls ∙ (sym (append_assoc (asking p.handled) (asking n.handled) n.rest) ∙ ap (λ (z : List Asked). z ++ n.rest) (sym (asking_append p.handled n.handled))));
        is_left = tt;
        outcomes = outcomes_append keys p.handled n.handled p.outcomes n.outcomes;
        said = subst (λ (z : List (List Message)). IsSaidBut z (t.taken ++ s.taken)) (steps_more p.handled n.handled) (steps_but (steps p.handled) (reply_steps n.handled) t.taken s.taken p.said n.single n.how.0);
      },
    )

  -- after the stated number of messages
  module _ (most : ℕ) (ps qs : List (Pass Object Call Answer g)) (t s : Talk) (held : List ℕ) (p : Part keys ps qs t held most) where
    closed : (end : Option End) → s.given ≡ [] → Shows (and_then t s) held end → WasSaid end held (length p.reads) most (steps p.handled) (t.taken ++ s.taken) → IsLeft end []
        → (hs : List Handled) × RowGrew ps qs (turns_of hs) × ServerDid keys most (and_then t s) hs end
    closed end none shows said left = (
      p.handled,
      p.grew,
      record {
        reads = p.reads;
        left = held;
        stream = subst (λ (z : List ℕ). Stream z p.reads held) (sym (append-nil t.given) ∙ ap (λ (z : List ℕ). t.given ++ z) (sym none)) p.stream;
        few = let a = p.long in omega arith;
        going = p.going;
        shows = shows;
        rest = [];
        calls = p.calls ∙ sym (append-nil (asking p.handled));
        is_left = left;
        outcomes = p.outcomes;
        said = said;
      },
    )

    pub enough : (E : Type 0) → Says {E = E} (Close ∷ []) s (Ok true) → (hs : List Handled) × RowGrew ps qs (turns_of hs) × ServerDid keys most (and_then t s) hs (Some ends.Enough)
    enough E h = closed (Some ends.Enough) h.0 tt (p.long, steps_said (steps p.handled) closing t.taken s.taken p.said h.1) refl

    pub not_said : (E : Type 0) → Says {E = E} (Close ∷ []) s (Ok false) → (hs : List Handled) × RowGrew ps qs (turns_of hs) × ServerDid keys most (and_then t s) hs (Some ends.LinkFailed)
    not_said E h = closed (Some ends.LinkFailed) h.0 (or_right t.failed s.failed h.2)
        (inr (inr (p.long, steps_cut (steps p.handled) closing t.taken s.taken p.said (step_begun closing s.taken (inl (omega arith)) h.1)))) refl

    pub starved_last : (E : Type 0) (e : E) → Says {E = E} (Close ∷ []) s (Err e) → (hs : List Handled) × RowGrew ps qs (turns_of hs) × ServerDid keys most (and_then t s) hs None
    starved_last E e h = closed None h.0 (both_fine t s p.fine h.2)
        (subst (λ (z : List (List Message)). IsSaidBut z (t.taken ++ s.taken)) (append-nil (steps p.handled)) (steps_but (steps p.handled) [] t.taken s.taken p.said (inr refl) h.1)) tt

  -- not even a validate was said
  not_begun : (most : ℕ) (ps : List (Pass Object Call Answer g)) (t : Talk) (end : Option End) → t.given ≡ [] → Shows t [] end → IsLeft end [] → WasSaid end [] 0 most (steps []) t.taken
      → (hs : List Handled) × RowGrew ps ps (turns_of hs) × ServerDid keys most t hs end
  not_begun most ps t end none shows left said = (
    [],
    row_still ps,
    record { reads = []; left = []; stream = none; few = omega arith; going = tt; shows = shows; rest = []; calls = refl; is_left = left; outcomes = tt; said = said },
  )

  pub no_validate : (E : Type 0) (most : ℕ) (ps : List (Pass Object Call Answer g)) (t : Talk) → Says {E = E} (Validate ∷ []) t (Ok false) → (hs : List Handled) × RowGrew ps ps (turns_of hs) × ServerDid keys most t hs (Some ends.LinkFailed)
  no_validate E most ps t h = not_begun most ps t (Some ends.LinkFailed) h.0 h.2 refl (inr (inl (step_begun ((Validate ∷ []) ∷ []) t.taken (inl (omega arith)) h.1)))

  pub starved_first : (E : Type 0) (e : E) (most : ℕ) (ps : List (Pass Object Call Answer g)) (t : Talk) → Says {E = E} (Validate ∷ []) t (Err e) → (hs : List Handled) × RowGrew ps ps (turns_of hs) × ServerDid keys most t hs None
  starved_first E e most ps t h = not_begun most ps t None h.0 h.2 tt (steps_but [] (steps []) [] t.taken (refl, tt) (inl (omega arith)) h.1)
