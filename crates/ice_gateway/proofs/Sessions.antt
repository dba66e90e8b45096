-- Messages that are taken one after the other, and how a session ends.
use Rattle.std.proofs.Common.{◌≡◌, ℕ, suc, ◌+◌, ◌<◌, ◌≤◌, inl, inr, Bool, true, false, List, [], ◌∷◌, ◌++◌, length, refl, sym, ap, ap₂, ◌∙◌, subst, arith, append_assoc, append-nil, length-append}
use Rattle.std.proofs.lemmas.List.{length-map, map-append}
use Rattle.std.specs.Prelude.{◌⊎◌, Option, Some, None, Result, Ok, Err, IfOk}
use Rattle.ice_encoding.specs.Parts.{Each}
use Rattle.ice_ports.specs.declared.talk.Talk.{Talk}
use Rattle.ice_ports.specs.Talks.{and_then, gives, silent}
use Rattle.ice_messages.specs.declared.message.Message.{Message}
use Rattle.ice_messages.specs.declared.message.Message.TheVariants.{Validate, Close}
use Rattle.ice_messages.specs.Messages.{SpellsMessage}
use Rattle.ice_messages.specs.Streams.{Stream}
use Rattle.ice_client.specs.ClientDid.{Tried}
use Rattle.talking.specs.declared.end.End.{End}
use Rattle.talking.specs.declared.end.End.TheVariants as ends
use Rattle.talking.specs.Said.{all_of, IsSaid, IsSaidBut, IsFine, Says}
use Rattle.talking.specs.Ends.{Shows, IsTaken, IsSingle, WasSaid, EndsBy, closing}
use Rattle.ice_gateway.specs.Gate.{Gate}
use Rattle.ice_gateway.specs.Handled.{Handled, WasHandled, messages, runs_of, run_of, reply_steps, replies}
use Rattle.ice_gateway.specs.GateDid.{GateDid, IsLeft}
use Rattle.ice_gateway.specs.Parts.{Handling, Next, Part, IsNext, Leaves}
use Rattle.talking.proofs.Said.{steps_said, steps_cut, steps_but, step_begun}
use Rattle.talking.proofs.Ends.{stream_then, taken_append, stepped, or_right, both_fine, shows_later, said_later}
use Rattle.ice_gateway.proofs.Handling.{one_handled}

-- ---- lists

messages_append : (xs ys : List Handled) → messages (xs ++ ys) ≡ messages xs ++ messages ys
messages_append [] ys = refl
messages_append (x ∷ xs) ys = ap (λ (z : List Message). x.message ∷ z) (messages_append xs ys)

runs_append : (xs ys : List Handled) → runs_of (xs ++ ys) ≡ runs_of xs ++ runs_of ys
runs_append [] ys = refl
runs_append (x ∷ xs) ys = ap (λ (z : List (List Tried)). run_of x.invocation ++ z) (runs_append xs ys) ∙ sym (append_assoc (run_of x.invocation) (runs_of xs) (runs_of ys))

each_append : (gate : Gate) (xs ys : List Handled) → Each (WasHandled gate) xs → Each (WasHandled gate) ys → Each (WasHandled gate) (xs ++ ys)
each_append gate [] ys a b = b
each_append gate (x ∷ xs) ys a b = (a.0, each_append gate xs ys a.1 b)

-- what was handled and is left, behind what was handled
behind : {A : Type 0} (f : List Handled → List A) → ((xs ys : List Handled) → f (xs ++ ys) ≡ f xs ++ f ys) → (xs ys : List Handled) (a b rest : List A) → a ≡ f xs → b ≡ f ys ++ rest → a ++ b ≡ f (xs ++ ys) ++ rest
behind {A} f append xs ys a b rest one two =
    ap₂ (λ (u v : List A). u ++ v) one two ∙ (sym (append_assoc (f xs) (f ys) rest) ∙ ap (λ (z : List A). z ++ rest) (sym (append xs ys)))

-- ---- one message

next_by : {E : Type 0} (gate : Gate) (r : Result Bool E) (m : Message) (t : Talk) (held : List ℕ) (rest : List Message) (cut : List (List Tried)) (steps : List (List Message)) → IsSingle steps → Leaves gate rest cut r → Says (all_of steps) t r → IsNext gate t held (m ∷ []) held rest cut steps (stepped r)
next_by gate (Ok true) m t held rest cut steps single none s = (refl, refl, none.0, none.1, s.1, s.2)
next_by gate (Ok false) m t held rest cut steps single none s = (s.2, none.0, none.1, inr (step_begun steps t.taken single s.1))
next_by gate (Err e) m t held rest cut steps single none s = (none, s.1, s.2)

messages_long : (hs : List Handled) → length (messages hs) ≡ length hs
messages_long [] = refl
messages_long (h ∷ hs) = ap suc (messages_long hs)

-- of one message one at most was handled
single_of : (reads rest : List Message) (hs : List Handled) → reads ≡ messages hs ++ rest → length reads ≤ 1 → IsSingle (reply_steps hs)
single_of reads rest hs is few =
    inl (let a = ap (λ (z : List Message). length z) is in let b = length-append (messages hs) rest in let c = messages_long hs in let d : length (reply_steps hs) ≡ length hs = length-map hs _ in omega arith)

module _ (gate : Gate) where
  pub next_handled : {E : Type 0} (r : Result Bool E) (runs : List (List Tried)) (m : Message) (bytes held first : List ℕ) (t : Talk) → bytes ≡ first ++ held → SpellsMessage first m
      → IsTaken m → Handling gate m runs t r → Next gate runs t bytes held (stepped r)
  next_handled r runs m bytes held first t is spelled going h = record {
    reads = m ∷ [];
    left = held;
    handled = h.handled;
    rest = h.rest;
    cut = h.cut;
    stream = (first, held, is, spelled, refl);
    few = omega arith;
    going = (going, tt);
    taken = h.taken;
    did = h.did;
    invoked = h.invoked;
    how = next_by gate r m t held h.rest h.cut (reply_steps h.handled) (single_of (m ∷ []) h.rest h.handled h.taken (omega arith)) h.left h.says;
  }

  -- a message of which nothing comes
  pub next_quiet : {E : Type 0} (bytes held first : List ℕ) → bytes ≡ first ++ held → SpellsMessage first Validate → Next {E = E} gate [] silent bytes held (Ok None)
  next_quiet {E = E} bytes held first is spelled = next_handled {E = E} (Ok true) [] Validate bytes held first silent is spelled (refl, λ e. cc) (one_handled gate Validate [] None [] silent (Ok true) refl tt refl (refl, (refl, tt), (refl, refl)))

  pub next_end : {E : Type 0} (t : Talk) (bytes held : List ℕ) (end : End) → Shows t bytes (Some end) → EndsBy end bytes [] [] t.taken → Next {E = E} gate [] t bytes held (Ok (Some end))
  next_end t bytes held end shows by = record {
    reads = [];
    left = bytes;
    handled = [];
    rest = [];
    cut = [];
    stream = refl;
    few = omega arith;
    going = tt;
    taken = refl;
    did = tt;
    invoked = refl;
    how = (shows, refl, refl, by);
  }

  pub next_starved : {E : Type 0} (e : E) (t : Talk) (bytes held : List ℕ) → t.taken ≡ [] → IsFine t → Next {E = E} gate [] t bytes held (Err e)
  next_starved e t bytes held none fine = record {
    reads = [];
    left = bytes;
    handled = [];
    rest = [];
    cut = [];
    stream = refl;
    few = omega arith;
    going = tt;
    taken = refl;
    did = tt;
    invoked = refl;
    how = (refl, none, fine);
  }

-- behind the bytes of a message
shown_behind : {E : Type 0} (gate : Gate) (got : List ℕ) (t : Talk) (held : List ℕ) (reads : List Message) (left : List ℕ) (rest : List Message) (cut : List (List Tried)) (steps : List (List Message)) (r : Result (Option End) E)
    → IsNext gate t held reads left rest cut steps r → IsNext gate (and_then (gives got) t) held reads left rest cut steps r
shown_behind gate got t held reads left rest cut steps (Ok None) h = h
shown_behind gate got t held reads left rest cut steps (Ok (Some ends.PeerEnded)) h = h
shown_behind gate got t held reads left rest cut steps (Ok (Some ends.PeerClosed)) h = h
shown_behind gate got t held reads left rest cut steps (Ok (Some (ends.PeerBroke fault))) h = h
shown_behind gate got t held reads left rest cut steps (Ok (Some ends.LinkFailed)) h = h
shown_behind gate got t held reads left rest cut steps (Ok (Some ends.Enough)) h = h
shown_behind gate got t held reads left rest cut steps (Err e) h = h

pub next_behind : {E : Type 0} (gate : Gate) (runs : List (List Tried)) (r : Result (Option End) E) (before got held : List ℕ) (t : Talk) → t.given ≡ []
    → Next gate runs t (before ++ got) held r → Next gate runs (and_then (gives got) t) (before ++ (got ++ t.given)) held r
next_behind gate runs r before got held t none n = record {
  reads = n.reads;
  left = n.left;
  handled = n.handled;
  rest = n.rest;
  cut = n.cut;
  stream = subst (λ (z : List ℕ). Stream (before ++ z) n.reads n.left) (sym (append-nil got) ∙ ap (λ (z : List ℕ). got ++ z) (sym none)) n.stream;
  few = n.few;
  going = n.going;
  taken = n.taken;
  did = n.did;
  invoked = n.invoked;
  how = shown_behind gate got t held n.reads n.left n.rest n.cut (reply_steps n.handled) r n.how;
}

-- ---- the whole session

-- what a session says, step by step
abbrev steps : List Handled → List (List Message)
steps handled = (Validate ∷ []) ∷ reply_steps handled

steps_more : (xs ys : List Handled) → steps xs ++ reply_steps ys ≡ steps (xs ++ ys)
steps_more xs ys = ap (λ (z : List (List Message)). (Validate ∷ []) ∷ z) (sym (map-append _ xs ys))

-- a message is left only where none was handled in its place
all_before : (xs ys : List Handled) (reads rest : List Message) (x y : List ℕ) → reads ≡ messages ys ++ rest → length reads ≤ 1 → y ≡ [] → IsSaid (Validate ∷ replies xs) x
    → (rest ≡ []) ⊎ IsSaid (Validate ∷ replies (xs ++ ys)) (x ++ y)
all_before xs ys reads [] x y is few none h = inl refl
all_before xs [] reads (m ∷ rest) x y is few none h =
    inr (subst (λ (z : List Handled). IsSaid (Validate ∷ replies z) (x ++ y)) (sym (append-nil xs))
    (subst (λ (z : List ℕ). IsSaid (Validate ∷ replies xs) z) (sym (ap (λ (z : List ℕ). x ++ z) none ∙ append-nil x)) h))
all_before xs (k ∷ ys) reads (m ∷ rest) x y is few none h =
    absurd (let a = ap (λ (z : List Message). length z) is in let b = length-append (messages (k ∷ ys)) (m ∷ rest) in omega arith)

module _ (gate : Gate) where
  pub part_begun : (E : Type 0) (t : Talk) → Says {E = E} (Validate ∷ []) t (Ok true) → Part gate [] t [] 0
  part_begun E t h = record { reads = []; handled = []; stream = h.0; long = refl; going = tt; taken = refl; did = tt; invoked = refl; said = h.1; fine = h.2 }

  pub part_more : (E : Type 0) (runs more : List (List Tried)) (t s : Talk) (held now : List ℕ) (i : ℕ) → Part gate runs t held i → Next {E = E} gate more s (held ++ s.given) now (Ok None)
      → Part gate (runs ++ more) (and_then t s) now (i + 1)
  part_more E runs more t s held now i p n = record {
    reads = p.reads ++ n.reads;
    handled = p.handled ++ n.handled;
    stream = subst (λ (z : List ℕ). Stream (t.given ++ s.given) (p.reads ++ n.reads) z) n.how.1 (stream_then p.reads n.reads t.given held s.given n.left p.stream n.stream);
    long = let l = length-append p.reads n.reads in let a = p.long in let b = n.how.0 in omega arith;
    going = taken_append p.reads n.reads p.going n.going;
    taken = behind messages messages_append p.handled n.handled p.reads n.reads [] p.taken (n.taken ∙ ap (λ (z : List Message). messages n.handled ++ z) n.how.2) ∙ append-nil (messages (p.handled ++ n.handled));
    did = each_append gate p.handled n.handled p.did n.did;
    invoked = behind runs_of runs_append p.handled n.handled runs more [] p.invoked (n.invoked ∙ ap (λ (z : List (List Tried)). runs_of n.handled ++ z) n.how.3) ∙ append-nil (runs_of (p.handled ++ n.handled));
    said = subst (λ (z : List (List Message)). IsSaid (all_of z) (t.taken ++ s.taken)) (steps_more p.handled n.handled) (steps_said (steps p.handled) (reply_steps n.handled) t.taken s.taken p.said n.how.4);
    fine = both_fine t s p.fine n.how.5;
  }

  -- the last message, or what came in its place
  module _ (most i : ℕ) (runs more : List (List Tried)) (t s : Talk) (held now : List ℕ) (p : Part gate runs t held i) where
    pub ended : (E : Type 0) (e : End) → i < most → Next {E = E} gate more s (held ++ s.given) now (Ok (Some e)) → GateDid gate most (and_then t s) (runs ++ more) (Some e)
    ended E e lt n = record {
      reads = p.reads ++ n.reads;
      left = n.left;
      stream = stream_then p.reads n.reads t.given held s.given n.left p.stream n.stream;
      few = let l = length-append p.reads n.reads in let a = p.long in let b = n.few in omega arith;
      going = taken_append p.reads n.reads p.going n.going;
      shows = shows_later t s n.left e n.how.0;
      handled = p.handled ++ n.handled;
      rest = n.rest;
      taken = behind messages messages_append p.handled n.handled p.reads n.reads n.rest p.taken n.taken;
      did = each_append gate p.handled n.handled p.did n.did;
      cut = n.cut;
      invoked = behind runs_of runs_append p.handled n.handled runs more n.cut p.invoked n.invoked;
      is_left = (n.how.1, n.how.2);
      unhandled = inl n.how.1;
      said = (
          let more = length-append p.reads n.reads ∙ ap (λ (k : ℕ). k + length n.reads) p.long in
          subst (λ (z : List (List Message)). WasSaid (Some e) n.left (length (p.reads ++ n.reads)) most z (t.taken ++ s.taken)) (steps_more p.handled n.handled)
          (said_later i (length (p.reads ++ n.reads)) most n.left n.reads (steps p.handled) (reply_steps n.handled) t.taken s.taken p.said lt more e n.how.3)
          );
    }

    pub starves : (E : Type 0) (e : E) → i < most → Next {E = E} gate more s (held ++ s.given) now (Err e) → GateDid gate most (and_then t s) (runs ++ more) None
    starves E e lt n = record {
      reads = p.reads ++ n.reads;
      left = n.left;
      stream = stream_then p.reads n.reads t.given held s.given n.left p.stream n.stream;
      few = let l = length-append p.reads n.reads in let a = p.long in let b = n.few in omega arith;
      going = taken_append p.reads n.reads p.going n.going;
      shows = both_fine t s p.fine n.how.2;
      handled = p.handled ++ n.handled;
      rest = n.rest;
      taken = behind messages messages_append p.handled n.handled p.reads n.reads n.rest p.taken n.taken;
      did = each_append gate p.handled n.handled p.did n.did;
      cut = n.cut;
      invoked = behind runs_of runs_append p.handled n.handled runs more n.cut p.invoked n.invoked;
      is_left = n.how.0;
      unhandled = all_before p.handled n.handled n.reads n.rest t.taken s.taken n.taken n.few n.how.1 p.said;
      said = (
          let single = single_of n.reads n.rest n.handled n.taken n.few in
          subst (λ (z : List (List Message)). IsSaidBut z (t.taken ++ s.taken)) (steps_more p.handled n.handled)
          (steps_but (steps p.handled) (reply_steps n.handled) t.taken s.taken p.said single n.how.1)
          );
    }

  -- after the stated number of messages
  module _ (most : ℕ) (runs : List (List Tried)) (t s : Talk) (held : List ℕ) (p : Part gate runs t held most) where
    closed : (end : Option End) → s.given ≡ [] → Shows (and_then t s) held end → WasSaid end held (length p.reads) most (steps p.handled) (t.taken ++ s.taken) → IsLeft gate end [] []
        → GateDid gate most (and_then t s) runs end
    closed end none shows said left = record {
      reads = p.reads;
      left = held;
      stream = subst (λ (z : List ℕ). Stream z p.reads held) (sym (append-nil t.given) ∙ ap (λ (z : List ℕ). t.given ++ z) (sym none)) p.stream;
      few = let a = p.long in omega arith;
      going = p.going;
      shows = shows;
      handled = p.handled;
      rest = [];
      taken = p.taken ∙ sym (append-nil (messages p.handled));
      did = p.did;
      cut = [];
      invoked = p.invoked ∙ sym (append-nil (runs_of p.handled));
      is_left = left;
      unhandled = inl refl;
      said = said;
    }

    pub enough : (E : Type 0) → Says {E = E} (Close ∷ []) s (Ok true) → GateDid gate most (and_then t s) runs (Some ends.Enough)
    enough E h = closed (Some ends.Enough) h.0 tt (p.long, steps_said (steps p.handled) closing t.taken s.taken p.said h.1) (refl, refl)

    pub not_said : (E : Type 0) → Says {E = E} (Close ∷ []) s (Ok false) → GateDid gate most (and_then t s) runs (Some ends.LinkFailed)
    not_said E h = closed (Some ends.LinkFailed) h.0 (or_right t.failed s.failed h.2)
        (inr (inr (p.long, steps_cut (steps p.handled) closing t.taken s.taken p.said (step_begun closing s.taken (inl (omega arith)) h.1)))) (refl, refl)

    pub starved_last : (E : Type 0) (e : E) → Says {E = E} (Close ∷ []) s (Err e) → GateDid gate most (and_then t s) runs None
    starved_last E e h = closed None h.0 (both_fine t s p.fine h.2)
        (subst (λ (z : List (List Message)). IsSaidBut z (t.taken ++ s.taken)) (append-nil (steps p.handled)) (steps_but (steps p.handled) [] t.taken s.taken p.said (inr refl) h.1)) refl

  -- not even a validate was said
  not_begun : (most : ℕ) (t : Talk) (end : Option End) → t.given ≡ [] → Shows t [] end → IsLeft gate end [] [] → WasSaid end [] 0 most (steps []) t.taken → GateDid gate most t [] end
  not_begun most t end none shows left said = record {
    reads = [];
    left = [];
    stream = none;
    few = omega arith;
    going = tt;
    shows = shows;
    handled = [];
    rest = [];
    taken = refl;
    did = tt;
    cut = [];
    invoked = refl;
    is_left = left;
    unhandled = inl refl;
    said = said;
  }

  pub no_validate : (E : Type 0) (most : ℕ) (t : Talk) → Says {E = E} (Validate ∷ []) t (Ok false) → GateDid gate most t [] (Some ends.LinkFailed)
  no_validate E most t h = not_begun most t (Some ends.LinkFailed) h.0 h.2 (refl, refl) (inr (inl (step_begun ((Validate ∷ []) ∷ []) t.taken (inl (omega arith)) h.1)))

  pub starved_first : (E : Type 0) (e : E) (most : ℕ) (t : Talk) → Says {E = E} (Validate ∷ []) t (Err e) → GateDid gate most t [] None
  starved_first E e most t h = not_begun most t None h.0 h.2 refl (steps_but [] (steps []) [] t.taken (refl, tt) (inl (omega arith)) h.1)

pub ok_either : {A B : Type 0} (r : Result A B) (P : A → Type 0) → ((x : A) → P x) → IfOk r P
ok_either (Ok x) P f = f x
ok_either (Err e) P f = tt
