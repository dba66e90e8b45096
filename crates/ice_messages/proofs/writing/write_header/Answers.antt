use Rattle.std.proofs.Common.{ℕ, pos, refl, sym, ap, ◌∙◌, append-nil, arith}
use Rattle.ice_messages.specs.declared.message.Message.TheVariants.{Validate, Close}
use Rattle.ice_messages.specs.Messages.{header}
use Rattle.ice_messages.proofs.Puts.{wrote}
use Rattle.ice_messages.proofs.writing.write_header.Goals as goal

pub returns-clause-validate : goal.returns-clause-validate
returns-clause-validate c = λ e. let head = c.in_ok-begin.field-0.items in rw c.from_vec.ensures
    (wrote Validate 14 (omega arith) c.in_ok-begin.ensures.1 head head (c.in_ok-begin.ensures.0 ∙ ap (λ (k : ℕ). header.put (k, pos 14)) e) (sym (append-nil head), refl))

pub returns-clause-close : goal.returns-clause-close
returns-clause-close c = λ e. let head = c.in_ok-begin.field-0.items in rw c.from_vec.ensures
    (wrote Close 14 (omega arith) c.in_ok-begin.ensures.1 head head (c.in_ok-begin.ensures.0 ∙ ap (λ (k : ℕ). header.put (k, pos 14)) e) (sym (append-nil head), refl))
