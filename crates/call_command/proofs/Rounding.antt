-- Messages one after the other.
use Rattle.std.proofs.Common.{◌≡◌, ◌<◌, ◌+◌, ℕ, List, [], ◌∷◌, ◌++◌, length, Option, Ok, Err, refl, sym, ap, subst, ◌∙◌, append_assoc, append-nil, arith}
use Rattle.std.specs.Io.KnownBytes.{Appends}
use Rattle.std.proofs.KnownBytes.{Appends-nil, Appends-trans}
use Rattle.std.proofs.lemmas.List.{length-append}
use Rattle.ice_ports.specs.Failures.{one_more}
use Rattle.ice_ports.specs.Writing.{AppendsPrefix}
use Rattle.ice_client.specs.ClientDid.{Rises}
use Rattle.locator.specs.declared.through.Through.{Through}
use Rattle.locator.specs.Caches.{Kept}
use Rattle.locator.specs.Rounds.{Round}
use Rattle.locator.proofs.Made.{made_nothing, made_then}
use Rattle.call_command.specs.declared.stop.Stop.{Stop}
use Rattle.call_command.specs.declared.stop.Stop.TheVariants as stops
use Rattle.call_command.specs.Planning.{Plan}
use Rattle.call_command.specs.Replies.{HasLine}
use Rattle.call_command.specs.Rounds.{NetSeen, SinkSeen, Delivered, Delivery, Succeeded, IsUsed, Printed, Stops, rounds_of, lines_of}
use Rattle.call_command.specs.Steps.{DeliversOnce, StopsCall}

-- ---- the net

pub used_none : (net : NetSeen) → IsUsed [] net net
used_none net = record { made = made_nothing net.told net.failures; listens = refl }

pub used_more : (xs ys : List Round) (a b c : NetSeen) → IsUsed xs a b → IsUsed ys b c → IsUsed (xs ++ ys) a c
used_more xs ys a b c one two = record {
  made = made_then xs ys a.told b.told c.told a.failures b.failures c.failures one.made two.made;
  listens = two.listens ∙ one.listens;
}

rounds_more : (ds : List Delivery) (d : Delivery) → rounds_of (ds ++ d ∷ []) ≡ rounds_of ds ++ d.rounds
rounds_more [] d = append-nil d.rounds
rounds_more (x ∷ ds) d = ap (λ (l : List Round). x.rounds ++ l) (rounds_more ds d) ∙ sym (append_assoc x.rounds (rounds_of ds) d.rounds)

-- ---- what was printed

succeeded_more : (plan : Plan) (old mid : Kept) (ds : List Delivery) (d : Delivery) → Succeeded plan old ds mid → Delivered plan mid d.rounds d.places d.through → HasLine plan d.through d.line
    → Succeeded plan old (ds ++ d ∷ []) d.places
succeeded_more plan old mid [] d is did tells = (subst (λ (k : Kept). Delivered plan k d.rounds d.places d.through) is did, tells, refl)
succeeded_more plan old mid (x ∷ ds) d (first, told, more) did tells = (first, told, succeeded_more plan x.places mid ds d more did tells)

lines_more : (ds : List Delivery) (d : Delivery) → lines_of (ds ++ d ∷ []) ≡ lines_of ds ++ d.line
lines_more [] d = append-nil d.line
lines_more (x ∷ ds) d = ap (λ (l : List ℕ). x.line ++ l) (lines_more ds d) ∙ sym (append_assoc x.line (lines_of ds) d.line)

pub printed_none : (plan : Plan) (sink : SinkSeen) → Printed plan [] [] sink sink
printed_none plan sink = record { succeeded = refl; lines = Appends-nil sink.taken; kept = refl }

printed_more : (plan : Plan) (ds : List Delivery) (d : Delivery) (places : Kept) (a b c : SinkSeen) → Printed plan ds places a b
    → Delivered plan places d.rounds d.places d.through → HasLine plan d.through d.line → Appends b.taken c.taken d.line → c.failures ≡ b.failures → Printed plan (ds ++ d ∷ []) d.places a c
printed_more plan ds d places a b c printed did tells appends kept = record {
  succeeded = succeeded_more plan [] places ds d printed.succeeded did tells;
  lines = subst (Appends a.taken c.taken) (sym (lines_more ds d)) (Appends-trans a.taken b.taken c.taken (lines_of ds) d.line printed.lines appends);
  kept = kept ∙ printed.kept;
}

-- a prefix behind other bytes
prefix_behind : (a b c : Option (List ℕ)) (lines line : List ℕ) → Appends a b lines → AppendsPrefix b c line → AppendsPrefix a c (lines ++ line)
prefix_behind a b c lines line p (front, rest, is, q, more) =
    (lines ++ front, rest, ap (λ (l : List ℕ). lines ++ l) is ∙ sym (append_assoc lines front rest), Appends-trans a b c lines front p q, more)

-- ---- one message more, or what stops it

module _ (plan : Plan) (ds : List Delivery) (places : Kept) (sink here : SinkSeen) (net at now : NetSeen) (printed : Printed plan ds places sink here) (used : IsUsed (rounds_of ds) net at) where
  used_then : (rounds : List Round) → IsUsed rounds at now → IsUsed (rounds_of ds ++ rounds) net now
  used_then rounds more = used_more (rounds_of ds) rounds net at now used more

  -- memory ran out while it was sent
  pub undelivered : (later : Kept) (stop : Stop) → length ds < plan.rounds → DeliversOnce plan places at now later (Err stop) → Stops plan sink here net now stop
  undelivered later stop less (rounds, more, (came, went), is) =
      subst (Stops plan sink here net now) (sym is) record { deliveries = ds; places = places; last = rounds; few = less; used = used_then rounds more; stopped = (came, later, went, printed) }

  -- what it came to is no success
  pub without_line : (later : Kept) (through : Through) (stop : Stop) → length ds < plan.rounds → DeliversOnce plan places at now later (Ok through) → StopsCall plan through stop → Stops plan sink here net now stop
  without_line later through stops.WriteFailed less d lacks = absurd lacks
  without_line later through stops.NetFailed less (rounds, more, delivered, rises) lacks = record {
    deliveries = ds;
    places = places;
    last = rounds;
    few = less;
    used = used_then rounds more;
    stopped = (through, later, delivered, lacks, printed, subst (λ (n : ℕ). Rises n now.failures) used.made.failures (rises lacks));
  }
  without_line later through (stops.Ended reason) less (rounds, more, delivered, rises) lacks =
      record { deliveries = ds; places = places; last = rounds; few = less; used = used_then rounds more; stopped = (through, later, delivered, lacks, printed) }
  without_line later through stops.Memory less (rounds, more, delivered, rises) lacks =
      record { deliveries = ds; places = places; last = rounds; few = less; used = used_then rounds more; stopped = (Ok through, later, delivered, printed) }

  module _ (new : SinkSeen) (later : Kept) (through : Through) (line : List ℕ) (d : DeliversOnce plan places at now later (Ok through)) (tells : HasLine plan through line) where
    -- its line was not taken whole
    pub unprinted : (stop : Stop) → length ds < plan.rounds → stop ≡ stops.WriteFailed → AppendsPrefix here.taken new.taken line → new.failures ≡ one_more here.failures → Stops plan sink new net now stop
    unprinted stop less is prefix failed = subst (Stops plan sink new net now) (sym is) record {
      deliveries = ds;
      places = places;
      last = d.0;
      few = less;
      used = used_then d.0 d.1;
      stopped = (through, later, line, d.2, tells, printed.succeeded, prefix_behind sink.taken here.taken new.taken (lines_of ds) line printed.lines prefix, failed ∙ ap one_more printed.kept);
    }

    -- it succeeded
    abbrev pub this_delivery : Delivery
    this_delivery = record { rounds = d.0; through = through; places = later; line = line }

    pub printed_so : Appends here.taken new.taken line → new.failures ≡ here.failures → Printed plan (ds ++ this_delivery ∷ []) later sink new
    printed_so appends kept = printed_more plan ds this_delivery places sink here new printed d.2 tells appends kept

    pub used_so : IsUsed (rounds_of (ds ++ this_delivery ∷ [])) net now
    used_so = subst (λ (rs : List Round). IsUsed rs net now) (sym (rounds_more ds this_delivery)) (used_then d.0 d.1)

    pub counted_so : (n : ℕ) → length ds ≡ n → length (ds ++ this_delivery ∷ []) ≡ n + 1
    counted_so n e = omega (arith, e, length-append ds (this_delivery ∷ []))
