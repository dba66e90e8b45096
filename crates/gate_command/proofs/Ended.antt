-- How `gate` ends, from what its steps came to.
use Rattle.std.proofs.Common.{◌≡◌, ℕ, Bool, true, false, List, [], ◌++◌, Option, refl, sym, ap, ◌∙◌, subst, inl, inr, append_assoc}
use Rattle.std.specs.Io.KnownBytes.{Keeps, Appends}
use Rattle.std.proofs.KnownBytes.{Appends-trans}
use Rattle.ice_ports.specs.Nets.{ToldListener, IsNewListener}
use Rattle.ice_gateway.specs.Gate.{Gate}
use Rattle.ice_gateway.specs.Runs.{NetSeen}
use Rattle.node_commands.specs.declared.outcome.Outcome.{Outcome}
use Rattle.node_commands.specs.Outside.{Outside, Files, outside, counts}
use Rattle.node_commands.proofs.Keeping.{keeps_itself}
use Rattle.node_commands.specs.declared.ending.Ending.{Ending}
use Rattle.node_commands.specs.declared.ending.Ending.TheVariants as endings
use Rattle.node_commands.specs.Ends.{answered, end_of}
use Rattle.node_commands.specs.Lines.{WritesEnd, listening, served}
use Rattle.node_commands.specs.Lines.{EndsWith}
use Rattle.gate_command.specs.Words.{GateWords}
use Rattle.gate_command.specs.Decided.{Sets}
use Rattle.gate_command.specs.Gated.{IsPort, asked, Comes, refused, unread, starved, unheard, untold, ended}
use Rattle.gate_command.specs.Steps.{MakesNone, Serves, Listens, Asks, answered_by}

-- ---- the words set no gate

module _ (c : GateWords) (files files' : Option Files) (input errors errors' out : Option (List ℕ)) (shelf shelf' source sink error error' : ℕ) (net : NetSeen) where
  abbrev before : Outside
  before = outside files input out errors (counts shelf source sink) error

  abbrev after : Outside
  after = outside files' input out errors' (counts shelf' source sink) error'

  pub none_made : (outcome : Outcome) → MakesNone c files shelf shelf' (answered_by outcome) → (bytes : List ℕ) × Comes c before after net net (end_of (endings.Known outcome) bytes)
  none_made outcome (inl h) = ([], refused (answered_by outcome) refl h.0 (h.1, refl, refl) (keeps_itself out) refl)
  none_made outcome (inr (inl h)) = ([], unread (ap answered h.0) (h.1, refl, refl) (keeps_itself out) refl)
  none_made outcome (inr (inr h)) = ([], starved (ap answered h.0) (h.1, refl, refl) (keeps_itself out) refl)

-- ---- it was to listen

module _ (c : GateWords) (files files' : Option Files) (input errors errors' out out' : Option (List ℕ)) (shelf shelf' source sink sink' error error' : ℕ) (net later : NetSeen) (same : shelf' ≡ shelf) where
  abbrev old : Outside
  old = outside files input out errors (counts shelf source sink) error

  abbrev new : Outside
  new = outside files' input out' errors' (counts shelf' source sink') error'

  -- the last line, behind the first
  writes : (mid : Option (List ℕ)) (port count : ℕ) (failed lacked : Bool) (ending : Ending) → Appends out mid (listening port) → EndsWith mid out' sink sink' (served count) failed lacked ending
      → (bytes : List ℕ) × WritesEnd old new (listening port ++ served count) (listening port) failed lacked (end_of ending bytes)
  writes mid port count failed true ending first (e, o, n) = ([], rw e (refl, (same, refl, n), subst (λ (z : Option (List ℕ)). Appends out z (listening port)) (sym o) first))
  writes mid port count true false ending first (e, o, n) = ([], rw e (refl, (same, refl, n), subst (λ (z : Option (List ℕ)). Appends out z (listening port)) (sym o) first))
  writes mid port count false false ending first (inl (e, more, n)) =
      (listening port ++ served count, rw e (inl (refl, (same, refl, n), Appends-trans out mid out' (listening port) (served count) first more)))
  writes mid port count false false ending first (inr (e, more, n)) = (
    listening port ++ served count,
    rw e (inr (
      refl,
      (same, refl, n),
      (listening port ++ more.0, more.1, ap (λ (z : List ℕ). listening port ++ z) more.2 ∙ simp append_assoc, Appends-trans out mid out' (listening port) more.0 first more.3, more.4),
    )),
  )

  module _ (gate : Gate) (sets : Sets c files gate) where
    -- it served
    has_served : (first : Option ToldListener) (port : ℕ) (mid : Option (List ℕ)) (ending : Ending) → IsNewListener net.told first → IsPort c port → Appends out mid (listening port)
        → Serves c gate first mid out' sink sink' (asked c net) later ending → (bytes : List ℕ) × Comes c old new net later (end_of ending bytes)
    has_served first port mid ending fresh is_port line (count, failed, lacked, heard, ends) =
        let w = writes mid port count failed lacked ending line ends in (
          w.0,
          ended gate port count failed lacked sets is_port (record { first = first; fresh = fresh; heard = heard }) w.1,
        )

    -- it listened
    listened : (first : Option ToldListener) (port : ℕ) (ending : Ending) → IsNewListener net.told first → IsPort c port
        → Listens c gate first port out out' sink sink' (asked c net) later ending → (bytes : List ℕ) × Comes c old new net later (end_of ending bytes)
    listened first port ending fresh is_port (inl (e, prefix, n, back)) = (
      listening port,
      rw e (untold gate port refl sets is_port (same, refl, n) prefix (record { first = first; fresh = fresh; after_is = back })),
    )
    listened first port ending fresh is_port (inr (mid, line, serves)) = has_served first port mid ending fresh is_port line serves

    pub has_asked : (ending : Ending) → Asks c gate out out' sink sink' net later ending → (bytes : List ℕ) × Comes c old new net later (end_of ending bytes)
    has_asked ending (inl (e, kept, n, asks)) = ([], rw e (unheard gate refl sets (same, refl, n) (subst (λ (z : Option (List ℕ)). Keeps out z) (sym kept) (keeps_itself out)) asks))
    has_asked ending (inr (first, port, fresh, is_port, listens)) = listened first port ending fresh is_port listens
