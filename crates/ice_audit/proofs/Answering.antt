-- Each answer is the one that is wanted.
use Rattle.std.proofs.Common.{◌≡◌, ℕ, ℤ, ◌<◌, ◌≤◌, ◌⊎◌, inl, inr, List, [], ◌∷◌, length, None, Some, Ok, Err, refl, ap, sym, ◌∙◌, subst, arith, Bool, true, false}
use Rattle.ice_prims.specs.declared.fault.Kind.TheVariants.{NotValidated}
use Rattle.ice_messages.specs.declared.message.Message.{Message}
use Rattle.ice_messages.specs.declared.message.Message.TheVariants.{Request, Batch, Reply, Validate, Close}
use Rattle.ice_audit.specs.declared.client.Asked.{Asked}
use Rattle.ice_audit.specs.declared.client.Posed.{Posed}
use Rattle.ice_audit.specs.declared.server.Answered.{Answered}
use Rattle.ice_audit.specs.declared.stop.Stop.{Stop}
use Rattle.ice_audit.specs.declared.stop.Stage.{Stage}
use Rattle.ice_audit.specs.declared.stop.Stage.TheVariants.{Fresh}
use Rattle.ice_audit.specs.declared.stop.Halt.TheVariants.{Found}
use Rattle.ice_audit.specs.declared.verdict.TheConstants.{MOST_BYTES}
use Rattle.ice_audit.specs.declared.verdict.Line.{Line}
use Rattle.ice_audit.specs.declared.verdict.Side.TheVariants.{Client, Server}
use Rattle.ice_audit.specs.declared.verdict.Why.TheVariants.{Bytes, TooLong}
use Rattle.ice_audit.specs.declared.verdict.Verdict.TheVariants.{Yes, No}
use Rattle.ice_audit.specs.Pieces.{Piece, IsRead, AreWhole, messages_of}
use Rattle.ice_audit.specs.Captured.{due, seat_ids, replies_in, closes}
use Rattle.ice_audit.specs.Lines.{lines_of}
use Rattle.ice_audit.specs.Posing.{posed_in, statuses}
use Rattle.ice_audit.specs.Stops.{server_stop, last_stage, stage_after, is_fresh, is_closed}
use Rattle.ice_audit.specs.Captures.{Good, Trace, LinesTell}
use Rattle.ice_audit.specs.Readings.{ReadsClient, ReadsServer}
use Rattle.ice_audit.specs.Verdicts.{AreShort, client_long, server_long, client_wrong, server_wrong, no_validate, Judges}
use Rattle.ice_audit.proofs.Bytes.{nothing_read, has_trace_lem}
use Rattle.ice_audit.proofs.Telling.{lines_lem}
use Rattle.ice_audit.proofs.Decided.{fine_good, client_not_good, server_not_good, silent_not_good}

no_length : (l : List ℕ) → length l ≡ 0 → l ≡ []
no_length [] h = refl
no_length (x ∷ l) h = absurd (omega arith)

begun : (m : Message) → is_fresh (stage_after m) ≡ false
begun (Request id c) = refl
begun (Batch calls) = refl
begun (Reply id a) = refl
begun Validate = refl
begun Close = refl

never_fresh : (ps : List Piece) (stage : Stage) → is_fresh stage ≡ false → is_fresh (last_stage stage ps) ≡ false
never_fresh [] stage h = h
never_fresh (p ∷ ps) stage h = never_fresh ps (stage_after p.0) (begun p.0)

fresh_none : (ps : List Piece) → is_fresh (last_stage Fresh ps) ≡ true → ps ≡ []
fresh_none [] h = refl
fresh_none (p ∷ ps) h = absurd (let z : false ≡ true = sym (never_fresh ps (stage_after p.0) (begun p.0)) ∙ h in cc)

module _ (client server : List ℕ) where
  pub client_too_long : MOST_BYTES < length client → Judges client server (No Client 0 TooLong)
  client_too_long h = (client_long h, λ both. let most = both.0.0 in omega arith)

  pub server_too_long : length client ≤ MOST_BYTES → MOST_BYTES < length server → Judges client server (No Server 0 TooLong)
  server_too_long short h = (server_long short h, λ both. let most = both.0.1 in omega arith)

  module _ (short : AreShort client server) where
    pub client_refused : (stop : Stop) → ReadsClient client (Err (Found stop)) → Judges client server (No Client stop.place stop.why)
    client_refused stop (ps, end, r, bad) = (client_wrong short ps end stop r bad, λ both. client_not_good client server ps end stop r bad both.1)

    module _ (asked : Asked) (reads : ReadsClient client (Ok asked)) where
      pub server_refused : (stop : Stop) → ReadsServer server asked.due.items (Err (Found stop)) → Judges client server (No Server stop.place stop.why)
      server_refused stop (qs, end, s, bad) =
          let wrong : server_stop 0 Fresh (due (seat_ids reads.0)) qs end ≡ Some stop = subst (λ (l : List ℤ). server_stop 0 Fresh l qs end ≡ Some stop) reads.4 bad in
          (server_wrong short reads.0 qs end stop reads.1 reads.2 s wrong, λ both. server_not_good client server reads.0 qs end stop reads.1 s wrong both.1)

      module _ (answered : Answered) (hears : ReadsServer server asked.due.items (Ok answered)) where
        pub silent_refused : is_fresh answered.stage ≡ true → 0 < length client → Judges client server (No Client 0 (Bytes NotValidated))
        silent_refused fresh some =
            let none : hears.0 ≡ [] = fresh_none hears.0 (ap is_fresh (sym hears.4) ∙ fresh) in
            let s : IsRead server [] None = subst (λ (ps : List Piece). IsRead server ps None) none hears.1 in
            let not_empty : ¬ (client ≡ []) = λ e. let z = ap (λ (l : List ℕ). length l) e in omega arith in
            (no_validate short reads.0 reads.1 reads.2 s not_empty, λ both. silent_not_good client server s not_empty both.1)

        told_by : (lines : List Line) (good : Good client server) → LinesTell (Trace client server) 0 good.asked lines → Judges client server (Yes lines)
        told_by lines good tell = record { short = short; good = good; run = has_trace_lem client server good; lines_tell = tell }

        pub told : (is_fresh answered.stage ≡ false) ⊎ (length client ≡ 0) → (lines : List Line)
            → lines ≡ lines_of asked.posed.items answered.statuses.items (is_closed answered.stage) → Judges client server (Yes lines)
        unfolding told_by
        told heard lines lines_is =
            let fine : server_stop 0 Fresh (due (seat_ids reads.0)) hears.0 None ≡ None = subst (λ (l : List ℤ). server_stop 0 Fresh l hears.0 None ≡ None) reads.4 hears.2 in
            let whole : AreWhole client server reads.0 hears.0 = record { asked_whole = reads.1; sent_whole = hears.1 } in
            let is : lines ≡ lines_of (posed_in reads.0) answered.statuses.items (is_closed answered.stage) =
            lines_is ∙ ap (λ (l : List Posed). lines_of l answered.statuses.items (is_closed answered.stage)) reads.3 in
            elim (fine_good reads.0 hears.0 reads.2 fine) [
              | inl none ↦
                  let empty : client ≡ [] = elim heard [
                    | inl begun ↦ absurd (let z : true ≡ false = ap (λ (ps : List Piece). is_fresh (last_stage Fresh ps)) (sym none) ∙ (ap is_fresh (sym hears.4) ∙ begun) in cc)
                    | inr long ↦ no_length client long
                  ] in
                  let nothing : reads.0 ≡ [] = nothing_read client reads.0 None empty reads.1 in
                  let no_lines : lines ≡ [] = is ∙ ap (λ (ps : List Piece). lines_of (posed_in ps) answered.statuses.items (is_closed answered.stage)) nothing in
                  told_by lines (record { asked = reads.0; sent = hears.0; whole = whole; good = inr (empty, none) })
                  (subst (λ (ps : List Piece). LinesTell (Trace client server) 0 ps lines) (sym nothing) no_lines)
              | inr f ↦
                  let same : lines ≡ lines_of (posed_in reads.0) (statuses (replies_in (messages_of hears.0))) (closes (messages_of hears.0)) =
                  is ∙ (ap (λ (ss : List ℕ). lines_of (posed_in reads.0) ss (is_closed answered.stage)) hears.3
                  ∙ ap (λ (b : Bool). lines_of (posed_in reads.0) (statuses (replies_in (messages_of hears.0))) b) (ap is_closed hears.4 ∙ sym f.closing)) in
                  told_by lines (record { asked = reads.0; sent = hears.0; whole = whole; good = inl f.good })
                  (subst (λ (ls : List Line). LinesTell (Trace client server) 0 reads.0 ls) (sym same) (lines_lem client server reads.0 hears.0 whole f.good))
            ]

        lines_same : (posed : List Posed) (heard : List ℕ) (closed : Bool) → posed ≡ asked.posed.items → heard ≡ answered.statuses.items → closed ≡ is_closed answered.stage
            → lines_of posed heard closed ≡ lines_of asked.posed.items answered.statuses.items (is_closed answered.stage)
        lines_same posed heard closed a b c =
            ap (λ (l : List Posed). lines_of l heard closed) a ∙ (ap (λ (l : List ℕ). lines_of asked.posed.items l closed) b
            ∙ ap (λ (x : Bool). lines_of asked.posed.items answered.statuses.items x) c)

        -- by what the calls of the program answered
        pub told_of : (silent : Bool) → (is_fresh answered.stage ≡ false) ⊎ (length client ≡ 0) ⊎ (silent ≡ true) → silent ≡ false
            → (result lines : List Line) (posed : List Posed) (heard : List ℕ) (closed : Bool) → result ≡ lines → lines ≡ lines_of posed heard closed
            → posed ≡ asked.posed.items → heard ≡ answered.statuses.items → closed ≡ is_closed answered.stage → Judges client server (Yes result)
        told_of silent (inl fresh) not result lines posed heard closed same drawn a b c =
            told (inl fresh) result (same ∙ (drawn ∙ lines_same posed heard closed a b c))
        told_of silent (inr (inl none)) not result lines posed heard closed same drawn a b c =
            told (inr none) result (same ∙ (drawn ∙ lines_same posed heard closed a b c))
        told_of silent (inr (inr is)) not result lines posed heard closed same drawn a b c = absurd (let z : true ≡ false = sym is ∙ not in cc)
