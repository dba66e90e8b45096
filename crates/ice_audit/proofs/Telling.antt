-- The lines that are drawn tell what is so.
use Rattle.std.proofs.Common.{◌≡◌, ℕ, ℤ, pos, zero, suc, ◌+◌, List, [], ◌∷◌, ◌++◌, length, Option, None, Some, refl, ap, sym, ◌∙◌, subst, arith, Bool, true, false}
use Rattle.std.specs.Prelude.{slice_get}
use Rattle.call_world.specs.World.{World}
use Rattle.ice_messages.specs.declared.message.Call.{Call}
use Rattle.ice_messages.specs.declared.message.Answer.{Answer}
use Rattle.ice_messages.specs.declared.message.Message.{Message}
use Rattle.ice_messages.specs.declared.message.Message.TheVariants.{Request, Batch, Reply, Validate, Close}
use Rattle.ice_audit.specs.declared.verdict.Seen.TheVariants.{Either}
use Rattle.ice_audit.specs.declared.verdict.Line.{Line}
use Rattle.ice_audit.specs.Pieces.{Piece, messages_of}
use Rattle.ice_audit.specs.Captured.{is_asked, seat_ids, ids_by, batch_ids, replies_in, reply_answers, closes}
use Rattle.ice_audit.specs.Traces.{flags, reply_at, seen_of, TellsIn, HasAtMostOne}
use Rattle.ice_audit.specs.Posing.{posed_by, posed_in, batch_posed, statuses}
use Rattle.ice_audit.specs.Lines.{lines_of, left_if, rest_of, request_seen, next_seen}
use Rattle.ice_audit.specs.Captures.{SomeTell, OneTells, LinesTell, LinesAreTold, Trace}
use Rattle.ice_audit.proofs.Bytes.{is_told_lem, none_twice_lem}

abbrev tail : List (ℤ × Answer) → List (ℤ × Answer)
tail [] = []
tail (r ∷ qs) = qs

statuses_tail : (qs : List (ℤ × Answer)) → statuses (tail qs) ≡ rest_of (statuses qs)
statuses_tail [] = refl
statuses_tail (r ∷ qs) = refl

none_at : (ts : List Bool) (n : ℕ) → None ≡ reply_at ts [] n
none_at [] n = refl
none_at (false ∷ ts) zero = refl
none_at (false ∷ ts) (suc n) = none_at ts n
none_at (true ∷ ts) n = refl

next_at : (qs : List (ℤ × Answer)) (n : ℕ) (ts : List Bool) → reply_at (true ∷ ts) (reply_answers qs) (suc n) ≡ reply_at ts (reply_answers (tail qs)) n
next_at [] n ts = none_at ts n
next_at (r ∷ qs) n ts = refl

module _ (IsRun : World Call Answer (Unit {0}) → Type 0) (closed : Bool) where
  -- what is told of the calls with these ids, the first of them in this seat
  abbrev AreTold : ℕ → List ℤ → List (ℤ × Answer) → Type 0
  AreTold b ids rs =
      (n : ℕ) → slice_get (flags ids) n ≡ Some true → TellsIn IsRun (b + n) (seen_of (reply_at (flags ids) (reply_answers rs) n) closed)

  -- one call, and those after it
  record Splits (b : ℕ) (id : ℤ) (ids : List ℤ) (rs : List (ℤ × Answer)) : Type 0 where
    here : is_asked id ≡ true → TellsIn IsRun b (request_seen (is_asked id) (statuses rs) closed)
    left : List (ℤ × Answer)
    leaves : statuses left ≡ left_if (is_asked id) (statuses rs)
    later : AreTold (suc b) ids left

  first_seen : (rs : List (ℤ × Answer)) (ts : List Bool) (c : Bool) → seen_of (reply_at (true ∷ ts) (reply_answers rs) 0) c ≡ next_seen (statuses rs) c
  first_seen [] ts true = refl
  first_seen [] ts false = refl
  first_seen (r ∷ rs) ts c = refl

  splits : (b : ℕ) (id : ℤ) (ids : List ℤ) (rs : List (ℤ × Answer)) → AreTold b (id ∷ ids) rs → Splits b id ids rs
  splits b id ids rs t = by (is_asked id) refl where
    by : (two : Bool) → is_asked id ≡ two → Splits b id ids rs
    by false e = record {
      here = λ h. absurd (let z : true ≡ false = sym h ∙ e in cc);
      left = rs;
      leaves = sym (ap (λ (x : Bool). left_if x (statuses rs)) e);
      later = λ n h.
          let all : (x : Bool) → is_asked id ≡ x → x ≡ false → TellsIn IsRun (b + suc n) (seen_of (reply_at (x ∷ flags ids) (reply_answers rs) (suc n)) closed) =
          λ x p q. subst (λ (y : Bool). TellsIn IsRun (b + suc n) (seen_of (reply_at (y ∷ flags ids) (reply_answers rs) (suc n)) closed)) p (t (suc n) h) in
          let up : b + suc n ≡ suc b + n = omega arith in
          subst (λ (m : ℕ). TellsIn IsRun m (seen_of (reply_at (flags ids) (reply_answers rs) n) closed)) up (all false e refl);
    }
    by true e = record {
      here = λ h.
          let t0 = t 0 (ap (λ (x : Bool). Some x) e) in
          let t1 : TellsIn IsRun (b + 0) (seen_of (reply_at (true ∷ flags ids) (reply_answers rs) 0) closed) =
          subst (λ (y : Bool). TellsIn IsRun (b + 0) (seen_of (reply_at (y ∷ flags ids) (reply_answers rs) 0) closed)) e t0 in
          let t2 : TellsIn IsRun (b + 0) (next_seen (statuses rs) closed) = subst (TellsIn IsRun (b + 0)) (first_seen rs (flags ids) closed) t1 in
          let t3 : TellsIn IsRun (b + 0) (request_seen (is_asked id) (statuses rs) closed) =
          subst (λ (y : Bool). TellsIn IsRun (b + 0) (request_seen y (statuses rs) closed)) (sym e) t2 in
          subst (λ (m : ℕ). TellsIn IsRun m (request_seen (is_asked id) (statuses rs) closed)) (let q : b + 0 ≡ b = omega arith in q) t3;
      left = tail rs;
      leaves = statuses_tail rs ∙ sym (ap (λ (x : Bool). left_if x (statuses rs)) e);
      later = λ n h.
          let t0 = t (suc n) h in
          let t1 : TellsIn IsRun (b + suc n) (seen_of (reply_at (true ∷ flags ids) (reply_answers rs) (suc n)) closed) =
          subst (λ (y : Bool). TellsIn IsRun (b + suc n) (seen_of (reply_at (y ∷ flags ids) (reply_answers rs) (suc n)) closed)) e t0 in
          let t2 = subst (λ (o : Option Answer). TellsIn IsRun (b + suc n) (seen_of o closed)) (next_at rs n (flags ids)) t1 in
          subst (λ (m : ℕ). TellsIn IsRun m (seen_of (reply_at (flags ids) (reply_answers (tail rs)) n) closed)) (let q : b + suc n ≡ suc b + n = omega arith in q) t2;
    }

  skips : (cs : List Call) (b : ℕ) (ids : List ℤ) (rs : List (ℤ × Answer)) → AreTold b (batch_ids cs ids) rs → AreTold (b + length cs) ids rs
  skips [] b ids rs t = subst (λ (m : ℕ). AreTold m ids rs) (let q : b ≡ b + 0 = omega arith in q) t
  skips (c ∷ cs) b ids rs t =
      subst (λ (m : ℕ). AreTold m ids rs) (let q : suc b + length cs ≡ b + suc (length cs) = omega arith in q)
      (skips cs (suc b) ids rs (λ n h.
      subst (λ (m : ℕ). TellsIn IsRun m (seen_of (reply_at (flags (batch_ids cs ids)) (reply_answers rs) n) closed))
      (let q : b + suc n ≡ suc b + n = omega arith in q) (t (suc n) h)))

  tell : ((seat : ℕ) → HasAtMostOne IsRun seat) → (ps : List Piece) (b : ℕ) (rs : List (ℤ × Answer)) → AreTold b (seat_ids ps) rs
      → LinesTell IsRun b ps (lines_of (posed_in ps) (statuses rs) closed)
  tell most [] b rs t = refl
  tell most (p ∷ ps) b rs t = one p.0 (λ s qs u. tell most ps s qs u) t where
    batch : (cs : List Call) → (AreTold (b + length cs) (seat_ids ps) rs → LinesTell IsRun (b + length cs) ps (lines_of (posed_in ps) (statuses rs) closed))
        → AreTold (b + length cs) (seat_ids ps) rs → SomeTell IsRun cs b (λ s l. LinesTell IsRun s ps l) (lines_of (batch_posed cs ++ posed_in ps) (statuses rs) closed)
    batch [] go u = subst (λ (m : ℕ). LinesTell IsRun m ps (lines_of (posed_in ps) (statuses rs) closed)) (let q : b + 0 ≡ b = omega arith in q) (go u)
    batch (c ∷ cs) go u = (
      record { id = pos 0; calls = length (c ∷ cs); batch = true; seen = Either },
      lines_of (posed_in ps) (statuses rs) closed,
      refl,
      record { named = refl; several = (refl, refl); oneway = refl; once = λ n within. most (b + n) },
      go u,
    )

    one : (m : Message) → ((s : ℕ) (qs : List (ℤ × Answer)) → AreTold s (seat_ids ps) qs → LinesTell IsRun s ps (lines_of (posed_in ps) (statuses qs) closed))
        → AreTold b (ids_by m (seat_ids ps)) rs
        → OneTells IsRun b m (λ s l. LinesTell IsRun s ps l) (lines_of (posed_by m ++ posed_in ps) (statuses rs) closed)
    one (Request id c) go u =
        let s = splits b id (seat_ids ps) rs u in
        let rest = go (suc b) s.left s.later in
        let l : Line = record { id = id; calls = 1; batch = false; seen = request_seen (is_asked id) (statuses rs) closed } in (
          l,
          lines_of (posed_in ps) (left_if (is_asked id) (statuses rs)) closed,
          refl,
          record {
            named = refl;
            single = (refl, refl);
            replied = s.here;
            oneway = λ e. ap (λ (x : Bool). request_seen x (statuses rs) closed) e;
            once = most b;
          },
          subst (λ (ss : List ℕ). LinesTell IsRun (suc b) ps (lines_of (posed_in ps) ss closed)) s.leaves rest,
        )
    one (Batch calls) go u = batch calls (λ x. go (b + length calls) rs x) (skips calls b (seat_ids ps) rs u)
    one (Reply id a) go u = go b rs u
    one Validate go u = go b rs u
    one Close go u = go b rs u

pub lines_lem : LinesAreTold
lines_lem client server asked sent whole good =
    let messages = messages_of sent in
    tell (Trace client server) (closes messages) (none_twice_lem client server) asked 0 (replies_in messages) (λ n h.
    subst (λ (m : ℕ). TellsIn (Trace client server) m (seen_of (reply_at (flags (seat_ids asked)) (reply_answers (replies_in messages)) n) (closes messages)))
    (let q : n ≡ 0 + n = omega arith in q) (is_told_lem client server asked sent whole good n h))
