-- Ends that fit together: a call that is tried three times, and a batch.
use Rattle.std.proofs.Common.{map, ◌≡◌, ℕ, pos, ◌<◌, inl, inr, true, false, List, [], ◌∷◌, ◌++◌, None, Some, refl, sym, arith, append-nil}
use Rattle.std.specs.Prelude.{nat_le}
use Rattle.std.proofs.lemmas.Bool.{lt-ltb, ltb-true}
use Rattle.ice_ports.specs.declared.talk.Talk.{Talk}
use Rattle.ice_messages.specs.declared.message.Call.{Call}
use Rattle.ice_messages.specs.declared.message.Answer.{Answer}
use Rattle.ice_messages.specs.declared.message.Message.{Message}
use Rattle.ice_messages.specs.declared.message.Message.TheVariants.{Request, Batch, Reply, Validate, Close}
use Rattle.ice_messages.specs.Messages.{header, message_bytes, SpellsMessage}
use Rattle.ice_messages.specs.Streams.{IsFront}
use Rattle.retry_core.specs.declared.attempt.Attempt.TheVariants as tries
use Rattle.ice_client.specs.declared.outcome.Outcome.TheVariants as outcomes
use Rattle.ice_client.specs.declared.outgoing.Outgoing.{Outgoing}
use Rattle.talking.specs.Ends.{Begins}
use Rattle.ice_client.specs.Sending.{IsOf}
use Rattle.ice_client.specs.ClientDid.{Tried, IsFollowed, ClientStarved}
use Rattle.object_adapter.specs.Laws.{IsDispatched}
use Rattle.talking.specs.declared.end.End.TheVariants.{PeerEnded, Enough}
use Rattle.dispatch_pool.specs.Handled.{had_turn, Handled}
use Rattle.talking.specs.Said.{bytes_of}
use Rattle.ice_encoding.specs.Parts.{Each}
use Rattle.once_law.specs.Ends.{Session, IsSession, Delivery, HasOtherEnd, IsStarved, tried_of}
use Rattle.once_law.specs.Shown.{is_repeatable}
use Rattle.once_law.specs.Laws.{IsExample, EndsCanFit}
use Rattle.once_law.proofs.Lists.{false_true}
use Rattle.once_law.proofs.Starved.{runs_out}
use Rattle.once_law.proofs.Streams.{message_some}

-- ---- messages without a body

bare : ℕ → List ℕ
bare t = 73 ∷ 99 ∷ 101 ∷ 80 ∷ 1 ∷ 0 ∷ 1 ∷ 0 ∷ t ∷ 0 ∷ 14 ∷ 0 ∷ 0 ∷ 0 ∷ []

bare_header : (t : ℕ) → t < 256 → nat_le t 4 ≡ true → header.Spells (bare t) (t, pos 14)
unfolding bare
bare_header t small known = (
  (tt, (tt, (t, (tt, pos 14)))),
  refl,
  (
    73 ∷ 99 ∷ 101 ∷ 80 ∷ [],
    1 ∷ 0 ∷ 1 ∷ 0 ∷ t ∷ 0 ∷ 14 ∷ 0 ∷ 0 ∷ 0 ∷ [],
    refl,
    ((tt, (tt, (tt, tt))), refl, (73 ∷ [], 99 ∷ 101 ∷ 80 ∷ [], refl, refl, (99 ∷ [], 101 ∷ 80 ∷ [], refl, refl, (101 ∷ [], 80 ∷ [], refl, refl, refl)))),
    (
      1 ∷ 0 ∷ 1 ∷ 0 ∷ [],
      t ∷ 0 ∷ 14 ∷ 0 ∷ 0 ∷ 0 ∷ [],
      refl,
      ((tt, tt), refl, (1 ∷ 0 ∷ [], 1 ∷ 0 ∷ [], refl, refl, refl)),
      (
        t ∷ [],
        0 ∷ 14 ∷ 0 ∷ 0 ∷ 0 ∷ [],
        refl,
        ((small, refl), known),
        (
          0 ∷ [],
          14 ∷ 0 ∷ 0 ∷ 0 ∷ [],
          refl,
          (0, refl, (((omega arith, refl), refl), refl)),
          (refl, refl),
        ),
      ),
    ),
  ),
)

validate : SpellsMessage (message_bytes Validate) Validate
unfolding bare
validate = (3, bare 3, [], refl, bare_header 3 (omega arith) refl, omega arith, (refl, refl))

close : SpellsMessage (message_bytes Close) Close
unfolding bare
close = (4, bare 4, [], refl, bare_header 4 (omega arith) refl, omega arith, (refl, refl))

-- no bytes are a front
nothing_yet : IsFront []
unfolding bare
nothing_yet = inl (bare 3, 3, pos 14, omega arith, bare_header 3 (omega arith) refl)

-- what a server says first
greeted : (ms : List Message) → Begins (bytes_of (Validate ∷ ms)) Validate
greeted ms = (bytes_of ms, (message_bytes Validate, bytes_of ms, refl, validate, refl))

module _ (call : Call) (answer : Answer) (good : IsDispatched answer) where
  -- ---- one call

  module _ (spelled : SpellsMessage (message_bytes (Request (pos 1) call)) (Request (pos 1) call)) (replied : SpellsMessage (message_bytes (Reply (pos 1) answer)) (Reply (pos 1) answer)) where
    abbrev message : Message
    message = Request (pos 1) call

    abbrev bytes : List ℕ
    bytes = message_bytes message

    abbrev outgoing : Outgoing
    outgoing = record { bytes = bytes; replies = true; idempotent = is_repeatable call }

    is_of : IsOf outgoing message
    is_of = record {
      bytes_are = refl;
      spelled = spelled;
      replies = refl;
      idempotent = ((λ e. ltb-true 0 call.mode e), (λ l. lt-ltb 0 call.mode l));
    }

    -- the session that closes at once
    abbrev closes : Session
    closes = record {
      keys = [];
      most = 0;
      talk = record { given = bytes; taken = bytes_of (Validate ∷ Close ∷ []); ended = false; failed = false };
      handled = [];
      end = Some Enough;
    }

    closed : IsSession closes
    closed = record {
      reads = [];
      left = bytes;
      stream = refl;
      few = omega arith;
      going = tt;
      shows = tt;
      rest = [];
      calls = refl;
      is_left = refl;
      outcomes = tt;
      said = (refl, (refl, (validate, (close, tt))));
    }

    -- the session that gives the call its turn
    abbrev answers : Session
    answers = record {
      keys = (call.identity, call.facet) ∷ [];
      most = 2;
      talk = record { given = bytes; taken = bytes_of (Validate ∷ Reply (pos 1) answer ∷ []); ended = true; failed = false };
      handled = record { asked = record { id = pos 1; call = call }; outcome = had_turn 0 0 answer } ∷ [];
      end = Some PeerEnded;
    }

    answered : IsSession answers
    answered = record {
      reads = message ∷ [];
      left = [];
      stream = (bytes, [], sym (append-nil bytes), spelled, refl);
      few = omega arith;
      going = ((refl, λ e. cc), tt);
      shows = (nothing_yet, refl);
      rest = [];
      calls = refl;
      is_left = refl;
      outcomes = ((refl, good), tt);
      said = (omega arith, (refl, (validate, (replied, tt))));
    }

    abbrev lost_talk : Talk
    lost_talk = record { given = []; taken = []; ended = false; failed = true }

    abbrev closed_talk : Talk
    closed_talk = record { given = bytes_of (Validate ∷ Close ∷ []); taken = bytes; ended = false; failed = false }

    abbrev answered_talk : Talk
    answered_talk = record { given = bytes_of (Validate ∷ Reply (pos 1) answer ∷ []); taken = bytes; ended = false; failed = false }

    abbrev lost_try : Tried
    lost_try = record { cached = false; talk = Some lost_talk; attempt = tries.NotWhole }

    abbrev closed_try : Tried
    closed_try = record { cached = false; talk = Some closed_talk; attempt = tries.Closed }

    abbrev answered_try : Tried
    answered_try = record { cached = false; talk = Some answered_talk; attempt = tries.Replied }

    abbrev one : Delivery
    one = record {
      message = message;
      retries = 2;
      attempts =
          record { tried = lost_try; session = None }
          ∷ record { tried = closed_try; session = Some closes }
          ∷ record { tried = answered_try; session = Some answers }
          ∷ [];
      outcome = Some (outcomes.Replied answer);
    }

    whole : (rest : List ℕ) × (bytes ≡ bytes ++ rest)
    whole = ([], sym (append-nil bytes))

    followed : Each (IsFollowed outgoing) (lost_try ∷ closed_try ∷ [])
    followed = (
      (
        (
          outcomes.NetFailed,
          (
            ((let l = message_some bytes message spelled in omega arith), inr nothing_yet, inl (refl, refl)),
            ((bytes, refl), inl refl),
          ),
        ),
        refl,
      ),
      (
        (
          (
            outcomes.Closed,
            (
              (
                Validate ∷ [],
                (
                  bytes_of (Close ∷ []),
                  (refl, refl, (refl, tt), omega arith, (message_bytes Validate, bytes_of (Close ∷ []), refl, validate, refl)),
                  ([], (message_bytes Close, [], refl, close, refl)),
                  refl,
                ),
                refl,
              ),
              (whole, inr (greeted (Close ∷ []))),
            ),
          ),
          refl,
        ),
        tt,
      ),
    )

    met : Each HasOtherEnd one.attempts
    met = (
      refl,
      (
        (closed, ([], append-nil bytes), ([], append-nil (bytes_of (Validate ∷ Close ∷ [])))),
        (
          (answered, ([], append-nil bytes), ([], append-nil (bytes_of (Validate ∷ Reply (pos 1) answer ∷ [])))),
          tt,
        ),
      ),
    )

    pub example : IsExample one message (tries.NotWhole ∷ tries.Closed ∷ tries.Replied ∷ []) (false ∷ true ∷ true ∷ []) (outcomes.Replied answer)
    example = record {
      message_is = refl;
      attempts_are = refl;
      served_are = refl;
      outcome_is = refl;
      fits = record {
        sent = inl (call, refl);
        client = record {
          outgoing = outgoing;
          is_of = is_of;
          ended = (
            lost_try ∷ closed_try ∷ [],
            answered_try,
            refl,
            followed,
            (
              (
                answer,
                (
                  [],
                  (
                    bytes_of (Reply (pos 1) answer ∷ []),
                    (refl, refl, (refl, tt), omega arith, (message_bytes Validate, bytes_of (Reply (pos 1) answer ∷ []), refl, validate, refl)),
                    ([], (message_bytes (Reply (pos 1) answer), [], refl, replied, refl)),
                    refl,
                  ),
                  refl,
                ),
                refl,
              ),
              (whole, inr (greeted (Reply (pos 1) answer ∷ []))),
            ),
            omega arith,
            (λ e. absurd (false_true e)),
          );
        };
        ends = met;
      };
    }

    -- memory cut off the last attempt
    cut_off : ClientStarved one.message one.retries (map tried_of one.attempts)
    cut_off = inr (record {
      outgoing = outgoing;
      is_of = is_of;
      cut = record {
        before = lost_try ∷ closed_try ∷ [];
        last = answered_try;
        parts = refl;
        followed = followed;
        few = omega arith;
        cut = (refl, refl, inr (refl, refl, greeted (Reply (pos 1) answer ∷ [])));
      };
    })

    starved : IsStarved one
    starved = record {
      sent = inl (call, refl);
      client = runs_out one.message one.retries (map tried_of one.attempts) cut_off;
      ends = met;
    }

  -- ---- a batch of two such calls

  module _ (spelled : SpellsMessage (message_bytes (Batch (call ∷ call ∷ []))) (Batch (call ∷ call ∷ []))) where
    abbrev batch : Message
    batch = Batch (call ∷ call ∷ [])

    abbrev batch_bytes : List ℕ
    batch_bytes = message_bytes batch

    abbrev sent : Outgoing
    sent = record { bytes = batch_bytes; replies = false; idempotent = is_repeatable call }

    sent_is_of : IsOf sent batch
    sent_is_of = record {
      bytes_are = refl;
      spelled = spelled;
      replies = refl;
      idempotent = ((λ e. let l = ltb-true 0 call.mode e in (l, (l, tt))), (λ l. lt-ltb 0 call.mode l.0));
    }

    abbrev turn : ℕ → Handled
    turn ticket = record { asked = record { id = pos 0; call = call }; outcome = had_turn 0 ticket answer }

    abbrev serves : Session
    serves = record {
      keys = (call.identity, call.facet) ∷ [];
      most = 2;
      talk = record { given = batch_bytes; taken = bytes_of (Validate ∷ []); ended = true; failed = false };
      handled = turn 0 ∷ turn 1 ∷ [];
      end = Some PeerEnded;
    }

    served : IsSession serves
    served = record {
      reads = batch ∷ [];
      left = [];
      stream = (batch_bytes, [], sym (append-nil batch_bytes), spelled, refl);
      few = omega arith;
      going = ((refl, λ e. cc), tt);
      shows = (nothing_yet, refl);
      rest = [];
      calls = refl;
      is_left = refl;
      outcomes = ((refl, good), ((refl, good), tt));
      said = (omega arith, (refl, (validate, tt)));
    }

    abbrev sent_talk : Talk
    sent_talk = record { given = bytes_of (Validate ∷ []); taken = batch_bytes; ended = false; failed = false }

    abbrev sent_try : Tried
    sent_try = record { cached = false; talk = Some sent_talk; attempt = tries.Sent }

    abbrev two : Delivery
    two = record {
      message = batch;
      retries = 0;
      attempts = record { tried = sent_try; session = Some serves } ∷ [];
      outcome = Some outcomes.Sent;
    }

    pub batch_example : IsExample two batch (tries.Sent ∷ []) (true ∷ []) outcomes.Sent
    batch_example = record {
      message_is = refl;
      attempts_are = refl;
      served_are = refl;
      outcome_is = refl;
      fits = record {
        sent = inr (λ e. let z : call ∷ call ∷ [] ≡ [] = e in cc);
        client = record {
          outgoing = sent;
          is_of = sent_is_of;
          ended = (
            [],
            sent_try,
            refl,
            tt,
            (
              (refl, refl, (greeted [], ([], bytes_of (Validate ∷ []), refl, nothing_yet, omega arith)), refl, refl, refl),
              (([], sym (append-nil batch_bytes)), inr (greeted [])),
            ),
            omega arith,
            (λ e. absurd (false_true e)),
          );
        };
        ends = (
          (served, ([], append-nil batch_bytes), ([], append-nil (bytes_of (Validate ∷ [])))),
          tt,
        );
      };
    }

pub can_fit : EndsCanFit
can_fit call answer spelled batched replied good =
    (one call answer good spelled replied, two call answer good batched, example call answer good spelled replied, batch_example call answer good batched, starved call answer good spelled replied, cut_off call answer good spelled replied)
