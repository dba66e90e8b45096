-- Each command, and one that leaves the net alone, keeps all promises.
use Rattle.std.proofs.Common.{◌≡◌, ℕ, List, [], codes, Some, sym, ap, subst, refl, inl, inr, ◌∙◌, get_or, arith}
use Rattle.node_commands.specs.Words.{Word}
use Rattle.node_commands.specs.Outside.{Outside}
use Rattle.call_command.specs.Words.{CallWords, CallForm}
use Rattle.call_command.specs.Rounds.{NetSeen}
use Rattle.call_command.specs.Called.{Called}
use Rattle.call_command.proofs.OneForm.{one_form}
use Rattle.gate_command.specs.Words.{GateWords, GateForm}
use Rattle.gate_command.specs.Gated.{Gated}
use Rattle.node_commands.specs.Once.{Exactly}
use Rattle.serve_command.specs.Words.{Serve, ServeForm, IsServe}
use Rattle.serve_command.specs.Served.{Served}
use Rattle.ice_node.proofs.Forms.{forms_apart}
use Rattle.ice_node.specs.Promises.{KeepsLocally, KeepsPromises, Starves, gated, listened}

-- the first word
abbrev first_of : List Word → Word
first_of words = get_or words 0 []

abbrev letter : Word → ℕ
letter word = get_or word 0 0

-- words that begin with `serve` are no form of `call`
no_call : (words : List Word) (c : CallWords) → CallForm words c → IsServe words → ⊥
no_call words c form (rest, begins) =
    let e : codes "call" ≡ codes "serve" = ap first_of (sym form.words_are ∙ begins) in
    absurd (omega (arith, ap letter e))

-- nor of `gate` and of `call`
no_gate : (words : List Word) (c : CallWords) (d : GateWords) → CallForm words c → GateForm words d → ⊥
no_gate words c d form other =
    let e : codes "call" ≡ codes "gate" = ap first_of (sym form.words_are ∙ other.words_are) in
    absurd (omega (arith, ap letter e))

pub of_call : (words : List Word) (c : CallWords) (before after : Outside) (net later : NetSeen) (status : ℕ)
    → ((d : Serve) → ServeForm words d → IsServe words)
    → CallForm words c → Called c before after net later status → KeepsPromises words before after net later status
of_call words c before after net later status first form came = record {
  locally = λ none gate other. absurd (none c form);
  called = λ d other. subst (λ (x : CallWords). Called x before after net later status) (one_form words c d form other) came;
  gates = λ d other. absurd (no_gate words c d form other);
  served = λ d other. absurd (no_call words c form (first d other));
}

pub of_gate : (words : List Word) (c : GateWords) (before after : Outside) (net later : NetSeen) (status : ℕ)
    → ((d : CallWords) → CallForm words d → ⊥) → Exactly (GateForm words) (Some c)
    → Gated c before after (gated net) (gated later) status → KeepsPromises words before after net later status
of_gate words c before after net later status none (form, alone) came = record {
  locally = λ call other serve. absurd (other c form);
  called = λ d other. absurd (none d other);
  gates = λ d other. subst (λ (x : GateWords). Gated x before after (gated net) (gated later) status) (sym (alone d other)) came;
  served = λ d other. absurd ((forms_apart words).2 c d form other);
}

pub of_serve : (words : List Word) (c : Serve) (before after : Outside) (net later : NetSeen) (status : ℕ)
    → ((d : CallWords) → CallForm words d → ⊥) → ((d : GateWords) → GateForm words d → ⊥) → Exactly (ServeForm words) (Some c)
    → Served c before after (listened net) (listened later) status → KeepsPromises words before after net later status
of_serve words c before after net later status none gate (form, alone) came = record {
  locally = λ first second other. absurd (other c form);
  called = λ d other. absurd (none d other);
  gates = λ d other. absurd (gate d other);
  served = λ d other. inl (subst (λ (x : Serve). Served x before after (listened net) (listened later) status) (sym (alone d other)) came);
}

pub of_stay : (words : List Word) (before after : Outside) (net : NetSeen) (status : ℕ)
    → ((c : CallWords) → CallForm words c → ⊥) → ((c : GateWords) → GateForm words c → ⊥) → ((c : Serve) → ServeForm words c → ⊥)
    → KeepsLocally words before after status → KeepsPromises words before after net net status
of_stay words before after net status no_call gate no_serve kept = record {
  locally = λ first second other. (inl kept, refl);
  called = λ c form. absurd (no_call c form);
  gates = λ c form. absurd (gate c form);
  served = λ c form. absurd (no_serve c form);
}

pub of_want : (words : List Word) (before after : Outside) (net : NetSeen) (status : ℕ)
    → ((c : CallWords) → CallForm words c → ⊥) → ((c : GateWords) → GateForm words c → ⊥) → Starves words before after status → KeepsPromises words before after net net status
of_want words before after net status none gate starved = record {
  locally = λ first second other. (inr starved, refl);
  called = λ c form. absurd (none c form);
  gates = λ c form. absurd (gate c form);
  served = λ c form. inr (starved, refl);
}
