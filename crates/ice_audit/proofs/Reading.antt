-- Reading goes on, message by message.
use Rattle.std.proofs.Common.{◌≡◌, ℕ, ℤ, zero, suc, ◌+◌, ◌-◌, ◌<◌, ◌≤◌, inl, inr, List, [], ◌∷◌, ◌++◌, length, take, drop, Option, None, Some, refl, ap, sym, ◌∙◌, subst, arith, Bool, true, false, append_assoc, append-nil, length-append, Result, Ok, Err}
use Rattle.std.proofs.lemmas.List.{length-drop}
use Rattle.std.proofs.Math.Seq.{take-length}
use Rattle.ice_prims.specs.declared.fault.Fault.{Fault}
use Rattle.ice_prims.specs.Rest.{Rest, IsBytes}
use Rattle.ice_prims.proofs.Parts.{IsBytes-rest}
use Rattle.ice_messages.specs.declared.message.Call.{Call}
use Rattle.ice_messages.specs.declared.message.Message.{Message}
use Rattle.ice_messages.specs.declared.message.Message.TheVariants.{Request, Batch, Reply, Validate, Close}
use Rattle.ice_messages.specs.Streams.{Stream, next_at}
use Rattle.ice_messages.specs.Framing.{Held}
use Rattle.ice_messages.proofs.Runs.{next_spelled, is_stream}
use Rattle.ice_messages.proofs.Streams.{message_long, next_front}
use Rattle.ice_audit.specs.declared.client.Posed.{Posed}
use Rattle.ice_audit.specs.declared.client.Asked.{Asked}
use Rattle.ice_audit.specs.declared.server.Answered.{Answered}
use Rattle.ice_audit.specs.declared.stop.Stop.{Stop}
use Rattle.ice_audit.specs.declared.stop.Stage.{Stage}
use Rattle.ice_audit.specs.declared.stop.Stage.TheVariants.{Fresh, Open}
use Rattle.ice_audit.specs.declared.stop.Halt.{Halt}
use Rattle.ice_audit.specs.declared.stop.Halt.TheVariants.{Found, Memory}
use Rattle.ice_audit.specs.Pieces.{Piece, Pieces, IsRead, messages_of}
use Rattle.ice_audit.specs.Captured.{is_asked, due, due_if, seat_ids, ids_by, batch_ids, replies_in, replies_by}
use Rattle.ice_audit.specs.Lines.{rest_of}
use Rattle.ice_audit.specs.Posing.{posed_by, posed_in, due_by, statuses_by, statuses}
use Rattle.ice_audit.specs.Stops.{or_later, client_message, client_stop, server_message, server_stop, out_of_turn, unvalidated, undue, is_first, due_after, stage_after, last_stage}
use Rattle.ice_audit.specs.Readings.{TakesClient, ReadsClient, TakesServer, ReadsServer}

-- ---- pieces

-- what is left is shorter
pub shorter : (bytes : List ℕ) (m : Message) (rest : Rest) → IsBytes bytes → next_at bytes ≡ Ok (Some (m, rest)) → length rest.bytes < length bytes
shorter bytes m rest sort e =
    let s = next_spelled bytes m rest sort e in
    let l = message_long s.0 m s.2 in
    let a = length-append s.0 rest.bytes in
    let b = ap (λ (x : List ℕ). length x) s.1 in
    omega arith

pub rest_sort : (bytes : List ℕ) (m : Message) (rest : Rest) → IsBytes bytes → next_at bytes ≡ Ok (Some (m, rest)) → IsBytes rest.bytes
rest_sort bytes m rest sort e =
    let s = next_spelled bytes m rest sort e in
    IsBytes-rest s.0 rest.bytes (subst IsBytes s.1 sort)

next_read : (bytes : List ℕ) (m : Message) (rest : Rest) → IsBytes bytes → next_at bytes ≡ Ok (Some (m, rest))
    → (ps : List Piece) (end : Option Fault) → IsRead rest.bytes ps end → IsRead bytes ((m, length bytes - length rest.bytes) ∷ ps) end
next_read bytes m rest sort e ps end r =
    let s = next_spelled bytes m rest sort e in
    let a = length-append s.0 rest.bytes in
    let b = ap (λ (x : List ℕ). length x) s.1 in
    let size : length bytes - length rest.bytes ≡ length s.0 = omega arith in
    record { rest = r.rest; spelled = (s.0, rest.bytes, s.1, s.2, size, r.spelled); ends = r.ends }

end_read : (bytes : List ℕ) → IsBytes bytes → next_at bytes ≡ Ok None → IsRead bytes [] None
end_read bytes sort e = record { rest = bytes; spelled = refl; ends = next_front bytes sort e }

broken_read : (bytes : List ℕ) (fault : Fault) → next_at bytes ≡ Err fault → IsRead bytes [] (Some fault)
broken_read bytes fault e = record { rest = bytes; spelled = refl; ends = e }

pieces_of : (ms : List Message) (bytes rest : List ℕ) → Stream bytes ms rest → (ps : List Piece) × Pieces bytes ps rest
pieces_of [] bytes rest h = ([], h)
pieces_of (m ∷ ms) bytes rest (first, others, e, spells, more) =
    let q = pieces_of ms others rest more in
    ((m, length first) ∷ q.0, (first, others, e, spells, refl, q.1))

-- all bytes are read in some way
read_all : (bytes : List ℕ) → IsBytes bytes → (ps : List Piece) × (end : Option Fault) × IsRead bytes ps end
read_all bytes sort =
    let s = is_stream bytes sort in
    let q = pieces_of s.0 bytes s.1 s.3.0 in
    (q.0, s.2, record { rest = s.1; spelled = q.1; ends = s.3.1 })

-- ---- the client

batch_due : (cs : List Call) (ids : List ℤ) → due (batch_ids cs ids) ≡ due ids
batch_due [] ids = refl
batch_due (c ∷ cs) ids = batch_due cs ids

due_apart : (two : Bool) (id : ℤ) (ids : List ℤ) → due_if two id ids ≡ due_if two id [] ++ ids
due_apart true id ids = refl
due_apart false id ids = refl

due_message : (m : Message) (ids : List ℤ) → due (ids_by m ids) ≡ due_by m ++ due ids
due_message (Request id c) ids = due_apart (is_asked id) id (due ids)
due_message (Batch calls) ids = batch_due calls ids
due_message (Reply id a) ids = refl
due_message Validate ids = refl
due_message Close ids = refl

-- behind what was kept, what is left gives what the stream gives
pub record ClientGoes (bytes : List ℕ) (at : ℕ) (stage : Stage) (posed : List Posed) (waits : List ℤ) (ps : List Piece) (end : Option Fault) : Type 0 where
  pub all : List Piece
  pub read : IsRead bytes all end
  pub stop : client_stop 0 Open all end ≡ client_stop at stage ps end
  pub asks : posed_in all ≡ posed ++ posed_in ps
  pub waiting : due (seat_ids all) ≡ waits ++ due (seat_ids ps)

abbrev pub ClientGoesOn : List ℕ → List ℕ → ℕ → Stage → List Posed → List ℤ → Type 0
ClientGoesOn bytes left at stage posed waits =
    (ps : List Piece) (end : Option Fault) → IsRead left ps end → ClientGoes bytes at stage posed waits ps end

pub client_begun : (bytes : List ℕ) → ClientGoesOn bytes bytes 0 Open [] []
client_begun bytes ps end r = record { all = ps; read = r; stop = refl; asks = refl; waiting = refl }

module _ (bytes left : List ℕ) (at : ℕ) (stage : Stage) (old : Asked) (goes : ClientGoesOn bytes left at stage old.posed.items old.due.items) (sort : IsBytes left) where
  client_more : (m : Message) (rest : Rest) → next_at left ≡ Ok (Some (m, rest)) → client_message stage m at ≡ None
      → ClientGoesOn bytes rest.bytes (at + (length left - length rest.bytes)) (stage_after m) (old.posed.items ++ posed_by m) (old.due.items ++ due_by m)
  client_more m rest e fine ps end r =
      let size = length left - length rest.bytes in
      let g = goes ((m, size) ∷ ps) end (next_read left m rest sort e ps end r) in
      record {
        all = g.all;
        read = g.read;
        stop = g.stop ∙ ap (λ (x : Option Stop). or_later x (client_stop (at + size) (stage_after m) ps end)) fine;
        asks = g.asks ∙ sym (append_assoc old.posed.items (posed_by m) (posed_in ps));
        waiting = g.waiting ∙ (ap (λ (l : List ℤ). old.due.items ++ l) (due_message m (seat_ids ps)) ∙ sym (append_assoc old.due.items (due_by m) (due (seat_ids ps))));
      }

  pub client_ends : (new : Asked) (held : Held) → TakesClient stage at left old held new (Ok None) → ReadsClient bytes (Ok new)
  client_ends new held (e, same) =
      let g = goes [] None (end_read left sort e) in (
        g.all,
        g.read,
        g.stop,
        ap (λ (a : Asked). a.posed.items) same ∙ sym (g.asks ∙ append-nil old.posed.items),
        ap (λ (a : Asked). a.due.items) same ∙ sym (g.waiting ∙ append-nil old.due.items),
      )

  pub client_halts : (new : Asked) (held : Held) (halt : Halt) → TakesClient stage at left old held new (Err halt) → ReadsClient bytes (Err halt)
  client_halts new held (Found stop) (inl b) =
      let g = goes [] (Some b.fault) (broken_read left b.fault b.next) in
      (g.all, Some b.fault, g.read, g.stop ∙ ap (λ (s : Stop). Some s) (sym b.is))
  client_halts new held (Found stop) (inr (m, rest, e, bad)) =
      let more = read_all rest.bytes (rest_sort left m rest sort e) in
      let size = length left - length rest.bytes in
      let g = goes ((m, size) ∷ more.0) more.1 (next_read left m rest sort e more.0 more.1 more.2) in
      (g.all, more.1, g.read, g.stop ∙ ap (λ (x : Option Stop). or_later x (client_stop (at + size) (stage_after m) more.0 more.1)) bad)
  client_halts new held Memory h = tt

  -- what the loop keeps
  pub record ClientKept (new : Asked) (held : Held) (next : Stage) : Type 0 where
    pub goes_on : ClientGoesOn bytes held.bytes (length bytes - length held.bytes) next new.posed.items new.due.items
    pub running : held.stopped ≡ None
    pub less : length held.bytes < length left
    pub sort_on : IsBytes held.bytes

  pub client_goes : (new : Asked) (held : Held) (next : Stage) → at ≡ length bytes - length left → length left ≤ length bytes
      → TakesClient stage at left old held new (Ok (Some next)) → ClientKept new held next
  client_goes new held next place within (m, rest, e, is, hears) =
      let fine = hears.0 in
      let stage_is = hears.1 in
      let posed_is = hears.2 in
      let due_is = hears.3 in
      let short = shorter left m rest sort e in
      let behind : at + (length left - length rest.bytes) ≡ length bytes - length rest.bytes = omega arith in
      let go : ClientGoesOn bytes rest.bytes (length bytes - length rest.bytes) (stage_after m) (old.posed.items ++ posed_by m) (old.due.items ++ due_by m) =
      subst (λ (n : ℕ). ClientGoesOn bytes rest.bytes n (stage_after m) (old.posed.items ++ posed_by m) (old.due.items ++ due_by m)) behind (client_more m rest e fine) in
      let go1 = subst (λ (ps : List Posed). ClientGoesOn bytes rest.bytes (length bytes - length rest.bytes) (stage_after m) ps (old.due.items ++ due_by m)) (sym posed_is) go in
      let go2 = subst (λ (ds : List ℤ). ClientGoesOn bytes rest.bytes (length bytes - length rest.bytes) (stage_after m) new.posed.items ds) (sym due_is) go1 in
      let go3 = subst (λ (s : Stage). ClientGoesOn bytes rest.bytes (length bytes - length rest.bytes) s new.posed.items new.due.items) (sym stage_is) go2 in
      let bytes_is : held.bytes ≡ rest.bytes = ap (λ (h : Held). h.bytes) is in
      record {
        goes_on = subst (λ (l : List ℕ). ClientGoesOn bytes l (length bytes - length l) next new.posed.items new.due.items) (sym bytes_is) go3;
        running = ap (λ (h : Held). h.stopped) is;
        less = subst (λ (l : List ℕ). length l < length left) (sym bytes_is) short;
        sort_on = subst IsBytes (sym bytes_is) (rest_sort left m rest sort e);
      }

-- ---- the server

status_message : (m : Message) (rs : List Message) → statuses (replies_by m (replies_in rs)) ≡ statuses_by m ++ statuses (replies_in rs)
status_message (Request id c) rs = refl
status_message (Batch calls) rs = refl
status_message (Reply id a) rs = refl
status_message Validate rs = refl
status_message Close rs = refl

pub record ServerGoes (bytes : List ℕ) (waits : List ℤ) (at : ℕ) (stage : Stage) (heard : List ℕ) (left : List ℤ) (ps : List Piece) (end : Option Fault) : Type 0 where
  pub all : List Piece
  pub read : IsRead bytes all end
  pub stop : server_stop 0 Fresh waits all end ≡ server_stop at stage left ps end
  pub hears : statuses (replies_in (messages_of all)) ≡ heard ++ statuses (replies_in (messages_of ps))
  pub last : last_stage Fresh all ≡ last_stage stage ps

abbrev pub ServerGoesOn : List ℕ → List ℤ → List ℕ → ℕ → Stage → List ℕ → List ℤ → Type 0
ServerGoesOn bytes waits left at stage heard others =
    (ps : List Piece) (end : Option Fault) → IsRead left ps end → ServerGoes bytes waits at stage heard others ps end

pub server_begun : (bytes : List ℕ) (waits : List ℤ) → ServerGoesOn bytes waits bytes 0 Fresh [] waits
server_begun bytes waits ps end r = record { all = ps; read = r; stop = refl; hears = refl; last = refl }

-- both lack
later_none : (a b : Option Stop) → or_later a b ≡ None → (a ≡ None) × (b ≡ None)
later_none (Some s) b h = absurd (let z : Some s ≡ None = h in cc)
later_none None b h = (refl, h)

due_none : (b : Bool) (at : ℕ) → undue b at ≡ None → b ≡ true
due_none true at h = refl
due_none false at h = absurd cc

drop_one : (n : ℕ) (xs : List ℤ) (d : ℤ) (ds : List ℤ) → drop n xs ≡ d ∷ ds → (drop (suc n) xs ≡ ds) × (suc n ≤ length xs)
drop_one zero xs d ds h = (ap (λ (l : List ℤ). drop 1 l) h, (let z = ap (λ (l : List ℤ). length l) h in omega arith))
drop_one (suc n) [] d ds h = absurd (let z : [] ≡ d ∷ ds = h in cc)
drop_one (suc n) (x ∷ xs) d ds h = let r = drop_one n xs d ds h in (r.0, omega arith)

-- the ids behind those of the replies
pub left_at : (n : ℕ) (heard : List ℕ) (waits : List ℤ) → n ≡ length heard → take (length waits - n) (drop n waits) ≡ drop (length heard) waits
left_at n heard waits e =
    let long : length waits - n ≡ length (drop n waits) = sym (length-drop n waits) in
    ap (λ (k : ℕ). take k (drop n waits)) long ∙ (take-length (drop n waits) ∙ ap (λ (k : ℕ). drop k waits) e)

-- the ids that are left go on with the replies
due_moves : (m : Message) (old : List ℕ) (waits : List ℤ) (stage : Stage) (at : ℕ) → server_message stage (drop (length old) waits) m at ≡ None → length old ≤ length waits
    → (drop (length (old ++ statuses_by m)) waits ≡ due_after m (drop (length old) waits)) × (length (old ++ statuses_by m) ≤ length waits)
due_moves m old waits stage at fine within = by m fine where
  same : (drop (length (old ++ [])) waits ≡ drop (length old) waits) × (length (old ++ []) ≤ length waits)
  same = (ap (λ (l : List ℕ). drop (length l) waits) (append-nil old), subst (λ (l : List ℕ). length l ≤ length waits) (sym (append-nil old)) within)

  next_ : (id : ℤ) (s : ℕ) (l : List ℤ) → drop (length old) waits ≡ l → is_first id l ≡ true
      → (drop (length (old ++ s ∷ [])) waits ≡ rest_of (drop (length old) waits)) × (length (old ++ s ∷ []) ≤ length waits)
  next_ id s [] e h = absurd (let z : false ≡ true = h in cc)
  next_ id s (d ∷ ds) e h =
      let r = drop_one (length old) waits d ds e in
      let more : length (old ++ s ∷ []) ≡ suc (length old) = omega (arith, length-append old (s ∷ [])) in
      (ap (λ (n : ℕ). drop n waits) more ∙ (r.0 ∙ sym (ap rest_of e)), subst (λ (n : ℕ). n ≤ length waits) (sym more) r.1)

  by : (m : Message) → server_message stage (drop (length old) waits) m at ≡ None
      → (drop (length (old ++ statuses_by m)) waits ≡ due_after m (drop (length old) waits)) × (length (old ++ statuses_by m) ≤ length waits)
  by (Request id c) h = same
  by (Batch calls) h = same
  by (Reply id a) h =
      let one = later_none (out_of_turn true stage at) (or_later (unvalidated stage false at) (undue (is_first id (drop (length old) waits)) at)) h in
      let two = later_none (unvalidated stage false at) (undue (is_first id (drop (length old) waits)) at) one.1 in
      next_ id _ (drop (length old) waits) refl (due_none (is_first id (drop (length old) waits)) at two.1)
  by Validate h = same
  by Close h = same

-- what was taken, told by what is left
pub taken_there : (stage : Stage) (bytes : List ℕ) (waits : List ℤ) (h n : ℕ) (left : List ℕ) (old : List ℕ) (held : Held) (new : List ℕ) (result : Result (Option Stage) Halt)
    → h ≡ length left → n ≡ length old → TakesServer stage (take (length waits - n) (drop n waits)) (length bytes - h) left old held new result
    → TakesServer stage (drop (length old) waits) (length bytes - length left) left old held new result
taken_there stage bytes waits h n left old held new result held_is count_is t =
    subst (λ (k : ℕ). TakesServer stage (drop (length old) waits) (length bytes - k) left old held new result) held_is
    (subst (λ (l : List ℤ). TakesServer stage l (length bytes - h) left old held new result) (left_at n old waits count_is) t)

module _ (bytes : List ℕ) (waits : List ℤ) (left : List ℕ) (at : ℕ) (stage : Stage) (old : List ℕ) (goes : ServerGoesOn bytes waits left at stage old (drop (length old) waits)) (sort : IsBytes left) where
  server_more : (m : Message) (rest : Rest) → next_at left ≡ Ok (Some (m, rest)) → server_message stage (drop (length old) waits) m at ≡ None
      → ServerGoesOn bytes waits rest.bytes (at + (length left - length rest.bytes)) (stage_after m) (old ++ statuses_by m) (due_after m (drop (length old) waits))
  server_more m rest e fine ps end r =
      let size = length left - length rest.bytes in
      let others = due_after m (drop (length old) waits) in
      let g = goes ((m, size) ∷ ps) end (next_read left m rest sort e ps end r) in
      record {
        all = g.all;
        read = g.read;
        stop = g.stop ∙ ap (λ (x : Option Stop). or_later x (server_stop (at + size) (stage_after m) others ps end)) fine;
        hears = g.hears ∙ (ap (λ (l : List ℕ). old ++ l) (status_message m (messages_of ps)) ∙ sym (append_assoc old (statuses_by m) (statuses (replies_in (messages_of ps)))));
        last = g.last;
      }

  pub server_ends : (new : List ℕ) (held : Held) (answered : Answered) → TakesServer stage (drop (length old) waits) at left old held new (Ok None)
      → answered.statuses.items ≡ new → answered.stage ≡ stage → ReadsServer bytes waits (Ok answered)
  server_ends new held answered (e, same) new_is stage_is =
      let g = goes [] None (end_read left sort e) in
      (g.all, g.read, g.stop, new_is ∙ (same ∙ sym (g.hears ∙ append-nil old)), stage_is ∙ sym g.last)

  pub server_halts : (new : List ℕ) (held : Held) (halt : Halt) → TakesServer stage (drop (length old) waits) at left old held new (Err halt) → ReadsServer bytes waits (Err halt)
  server_halts new held (Found stop) (inl b) =
      let g = goes [] (Some b.fault) (broken_read left b.fault b.next) in
      (g.all, Some b.fault, g.read, g.stop ∙ ap (λ (s : Stop). Some s) (sym b.is))
  server_halts new held (Found stop) (inr (m, rest, e, bad)) =
      let more = read_all rest.bytes (rest_sort left m rest sort e) in
      let size = length left - length rest.bytes in
      let g = goes ((m, size) ∷ more.0) more.1 (next_read left m rest sort e more.0 more.1 more.2) in
      (g.all, more.1, g.read, g.stop ∙ ap (λ (x : Option Stop). or_later x (server_stop (at + size) (stage_after m) (due_after m (drop (length old) waits)) more.0 more.1)) bad)
  server_halts new held Memory h = tt

  pub record ServerKept (new : List ℕ) (held : Held) (next : Stage) : Type 0 where
    pub goes_on : ServerGoesOn bytes waits held.bytes (length bytes - length held.bytes) next new (drop (length new) waits)
    pub running : held.stopped ≡ None
    pub less : length held.bytes < length left
    pub sort_on : IsBytes held.bytes
    pub due_within : length new ≤ length waits

  pub server_goes : (new : List ℕ) (held : Held) (next : Stage) → at ≡ length bytes - length left → length left ≤ length bytes → length old ≤ length waits
      → TakesServer stage (drop (length old) waits) at left old held new (Ok (Some next)) → ServerKept new held next
  server_goes new held next place within due_in_ (m, rest, e, is, hears) =
      let fine = hears.0 in
      let stage_is = hears.1 in
      let new_is = hears.2 in
      let short = shorter left m rest sort e in
      let behind : at + (length left - length rest.bytes) ≡ length bytes - length rest.bytes = omega arith in
      let moves = due_moves m old waits stage at fine due_in_ in
      let go : ServerGoesOn bytes waits rest.bytes (length bytes - length rest.bytes) (stage_after m) (old ++ statuses_by m) (due_after m (drop (length old) waits)) =
      subst (λ (n : ℕ). ServerGoesOn bytes waits rest.bytes n (stage_after m) (old ++ statuses_by m) (due_after m (drop (length old) waits))) behind (server_more m rest e fine) in
      let go1 = subst (λ (l : List ℤ). ServerGoesOn bytes waits rest.bytes (length bytes - length rest.bytes) (stage_after m) (old ++ statuses_by m) l) (sym moves.0) go in
      let go2 = subst (λ (l : List ℕ). ServerGoesOn bytes waits rest.bytes (length bytes - length rest.bytes) (stage_after m) l (drop (length l) waits)) (sym new_is) go1 in
      let go3 = subst (λ (s : Stage). ServerGoesOn bytes waits rest.bytes (length bytes - length rest.bytes) s new (drop (length new) waits)) (sym stage_is) go2 in
      let bytes_is : held.bytes ≡ rest.bytes = ap (λ (h : Held). h.bytes) is in
      record {
        goes_on = subst (λ (l : List ℕ). ServerGoesOn bytes waits l (length bytes - length l) next new (drop (length new) waits)) (sym bytes_is) go3;
        running = ap (λ (h : Held). h.stopped) is;
        less = subst (λ (l : List ℕ). length l < length left) (sym bytes_is) short;
        sort_on = subst IsBytes (sym bytes_is) (rest_sort left m rest sort e);
        due_within = subst (λ (l : List ℕ). length l ≤ length waits) (sym new_is) moves.1;
      }
