-- The reply of a call, as it is said.
use Rattle.std.proofs.Common.{◌≡◌, ◌≢◌, zero, suc, Bool, true, List, [], ◌∷◌, refl, sym, ap, subst}
use Rattle.std.specs.Prelude.{ℤ, pos, negsuc, Result, Ok}
use Rattle.ice_ports.specs.declared.talk.Talk.{Talk}
use Rattle.ice_ports.specs.Talks.{silent}
use Rattle.ice_messages.specs.declared.message.Answer.{Answer}
use Rattle.ice_messages.specs.declared.message.Message.{Message}
use Rattle.ice_messages.specs.declared.message.Message.TheVariants.{Reply}
use Rattle.talking.specs.Said.{Says}
use Rattle.dispatch_pool.specs.Handled.{reply_of}

pub no_reply : (id : ℤ) (answer : Answer) → id ≡ pos 0 → reply_of id answer ≡ []
no_reply id answer is = ap (λ (z : ℤ). reply_of z answer) is

pub one_reply : (id : ℤ) (answer : Answer) → id ≢ pos 0 → reply_of id answer ≡ Reply id answer ∷ []
one_reply (pos zero) answer ne = absurd (ne refl)
one_reply (pos (suc n)) answer ne = refl
one_reply (negsuc n) answer ne = refl

pub unasked_says : (E : Type 0) (id : ℤ) (answer : Answer) → id ≡ pos 0 → Says {E = E} (reply_of id answer) silent (Ok true)
unasked_says E id answer is = subst (λ (z : List Message). Says {E = E} z silent (Ok true)) (sym (no_reply id answer is)) (refl, (refl, tt), (refl, refl))

pub reply_says : (E : Type 0) (id : ℤ) (answer : Answer) (t : Talk) (r : Result Bool E) → id ≢ pos 0 → Says (Reply id answer ∷ []) t r → Says (reply_of id answer) t r
reply_says E id answer t r ne h = subst (λ (z : List Message). Says z t r) (sym (one_reply id answer ne)) h
