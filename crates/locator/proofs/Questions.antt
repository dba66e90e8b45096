-- Questions put to a locator.
use Rattle.std.proofs.Common.{ℕ, pos, ◌≡◌, ◌<◌, ◌≤◌, List, [], ◌∷◌, ◌++◌, length, Option, None, Some, Result, Ok, Err, refl, sym, subst, ap, ◌∙◌, arith, append-nil}
use Rattle.std.specs.Prelude.{IfOk, MatchOption}
use Rattle.ice_types.specs.declared.proxy.Endpoint.{Endpoint}
use Rattle.ice_types.specs.declared.proxy.Proxy.{Proxy}
use Rattle.ice_encoding.specs.declared.limits.TheConstants.{LARGEST}
use Rattle.ice_messages.specs.declared.fault.WriteFault.{WriteFault}
use Rattle.ice_messages.specs.declared.fault.WriteFault.TheVariants.{TooLong}
use Rattle.ice_messages.specs.declared.message.Call.{Call}
use Rattle.ice_messages.specs.declared.message.Message.TheVariants.{Request}
use Rattle.ice_messages.specs.Messages.{message_bytes}
use Rattle.ice_messages.specs.Written.{IsWritableCall}
use Rattle.ice_ports.specs.Nets.{ToldNet}
use Rattle.ice_client.specs.ClientDid.{Tried, Invokes, Rises}
use Rattle.ice_client.specs.declared.outcome.Invoked.{Invoked}
use Rattle.ice_client.specs.declared.outcome.Outcome.TheVariants.{NetFailed}
use Rattle.locator.specs.declared.key.Key.{Key}
use Rattle.locator.specs.declared.key.Key.TheVariants.{Object, Adapter}
use Rattle.locator.specs.declared.lead.Lead.{Lead}
use Rattle.locator.specs.declared.lead.Lead.TheVariants as leads
use Rattle.locator.specs.declared.asking.Told.{Told}
use Rattle.locator.specs.declared.asking.Told.TheVariants as tellings
use Rattle.locator.specs.declared.asking.Next.{Next}
use Rattle.locator.specs.declared.asking.Next.TheVariants.{Ask, Over}
use Rattle.locator.specs.declared.asking.Found.{Found}
use Rattle.locator.specs.declared.asking.Found.TheVariants as founds
use Rattle.locator.specs.declared.question.TheConstants.{LONGEST}
use Rattle.locator.specs.Asking.{Asked, Asks, Follows, FollowsOrEnds, Finds, FindsOrEnds, HasFailed, FindsFailure, IsNetFailure, told, told_by, told_by_invoked, found, next, next_of_object}
use Rattle.locator.specs.Leads.{lead_of}
use Rattle.locator.specs.Questions.{question, request, body}
use Rattle.locator.specs.Rounds.{Round, WereMade, round, AreAt}
use Rattle.locator.proofs.Made.{at_both, made_rises}

-- ---- one question

-- its call, or none where its arguments are too long
abbrev pub Makes : Proxy → Key → Option Call → Type 0
Makes l key made = MatchOption made (LONGEST < length (body key)) (λ call. (call ≡ question l key) × IsWritableCall call × (length (body key) ≤ LONGEST))

pub made_call : (l : Proxy) (key : Key) (made : Option Call) (call : Call) → made ≡ Some call → Makes l key made → (call ≡ question l key) × IsWritableCall call × (length (body key) ≤ LONGEST)
made_call l key made call is makes = subst (Makes l key) is makes

pub made_no_call : (l : Proxy) (key : Key) (made : Option Call) → made ≡ None → Makes l key made → LONGEST < length (body key)
made_no_call l key made is makes = subst (Makes l key) is makes

-- it is too long, by its arguments or as a whole
pub too_long_body : (l : Proxy) (retries : ℕ) (key : Key) → LONGEST < length (body key) → Asked l retries key [] None
too_long_body l retries key long = (λ can. absurd (let b = can.body in omega (arith, long, b)), refl)

pub too_long_message : (l : Proxy) (retries : ℕ) (key : Key) (call : Call) → call ≡ question l key → LARGEST < length (message_bytes (Request (pos 1) call)) → Asked l retries key [] None
too_long_message l retries key call is long =
    let far : LARGEST < length (message_bytes (request l key)) = subst (λ (c : Call). LARGEST < length (message_bytes (Request (pos 1) c))) is long in
    (λ can. absurd (let m = can.message in omega (arith, far, m)), refl)

-- a request that is refused for its length
pub refused_long : (call : Call) (endpoints : List Endpoint) (retries : ℕ) (tried : List Tried) (e : WriteFault) (n : ℕ) → e ≡ TooLong n → Invokes (Request (pos 1) call) endpoints retries tried (Err e)
    → (tried ≡ []) × (LARGEST < length (message_bytes (Request (pos 1) call)))
refused_long call endpoints retries tried e n is did = let so = subst (λ (x : WriteFault). Invokes (Request (pos 1) call) endpoints retries tried (Err x)) is did in (so.0, so.1)

-- it was put
pub put_once : (l : Proxy) (retries : ℕ) (key : Key) (call : Call) (tried : List Tried) (r : Invoked) → call ≡ question l key → length (body key) ≤ LONGEST → Invokes (Request (pos 1) call) l.endpoints retries tried (Ok r)
    → Asked l retries key (round l tried ∷ []) (Some r)
put_once l retries key call tried r is short did =
    let so : Invokes (request l key) l.endpoints retries tried (Ok r) = subst (λ (c : Call). Invokes (Request (pos 1) c) l.endpoints retries tried (Ok r)) is did in
    (record { body = short; message = so.4 }, (tried, refl, so))

-- what was done for it was done at the locator
pub asked_at : (l : Proxy) (retries : ℕ) (key : Key) (rounds : List Round) (answer : Option Invoked) → Asked l retries key rounds answer → AreAt l rounds
asked_at l retries key rounds None asked = subst (AreAt l) (sym asked.1) tt
asked_at l retries key rounds (Some r) asked = subst (AreAt l) (sym asked.1.1) ((refl, refl), tt)

-- its answer is read, or memory runs out
asks_told : {E : Type 0} (l : Proxy) (retries : ℕ) (key : Key) (rounds : List Round) (r : Invoked) (x : Result Told E) → Asked l retries key rounds (Some r) → IfOk x (λ t. t ≡ told_by_invoked r) → Asks l retries key rounds x
asks_told l retries key rounds r (Ok t) asked is = (Some r, asked, is)
asks_told l retries key rounds r (Err e) asked is = asked_at l retries key rounds (Some r) asked

pub asks_of : {E : Type 0} (l : Proxy) (retries : ℕ) (key : Key) (rounds : List Round) (answer : Option Invoked) (r : Invoked) (x : Result Told E) → answer ≡ Some r → Asked l retries key rounds answer → IfOk x (λ t. t ≡ told_by_invoked r)
    → Asks l retries key rounds x
asks_of l retries key rounds answer r x some asked is = asks_told l retries key rounds r x (subst (Asked l retries key rounds) some asked) is

pub asks_nothing : (l : Proxy) (retries : ℕ) (key : Key) (rounds : List Round) (answer : Option Invoked) → answer ≡ None → Asked l retries key rounds answer → (answer : Option Invoked) × Asked l retries key rounds answer × (told None ≡ told answer)
asks_nothing l retries key rounds answer none asked = (None, subst (Asked l retries key rounds) none asked, refl)

-- ---- a failure of the net

pub failed_put : (P : Type 0) (answer : Option Invoked) (r : Invoked) → answer ≡ Some r → (IsNetFailure answer → P) → r.outcome ≡ NetFailed → P
failed_put P answer r some then failed = subst (λ (a : Option Invoked). IsNetFailure a → P) some then failed

failed_by : (lead : Option Lead) (r : Invoked) → HasFailed (told_by lead r) → r.outcome ≡ NetFailed
failed_by None r failed = failed
failed_by (Some lead) r failed = absurd failed

pub failed_told : {E : Type 0} (P : Type 0) (r : Invoked) (x : Result Told E) → IfOk x (λ t. t ≡ told_by_invoked r) → (r.outcome ≡ NetFailed → P) → IfOk x (λ t. HasFailed t → P)
failed_told P r (Ok t) is then = λ failed. then (failed_by (lead_of r.outcome) r (subst HasFailed is failed))
failed_told P r (Err e) is then = tt

failed_found : (t : Told) → FindsFailure (found t) → HasFailed t
failed_found (tellings.Leads (leads.At endpoints)) failed = failed
failed_found (tellings.Leads (leads.Behind id)) failed = failed
failed_found (tellings.Leads leads.Nowhere) failed = failed
failed_found (tellings.Failed r) failed = failed

pub failed_second : (t : Told) (f : Found) → f ≡ found t → FindsFailure f → HasFailed t
failed_second t f is failed = failed_found t (subst FindsFailure is failed)

over_is : (f g : Found) → Over f ≡ Over g → f ≡ g
over_is f g e = cc

failed_object : (t : Told) (f : Found) → next_of_object t ≡ Over f → FindsFailure f → HasFailed t
failed_object (tellings.Leads (leads.At endpoints)) f e failed = subst FindsFailure (sym (over_is (founds.At endpoints) f e)) failed
failed_object (tellings.Leads (leads.Behind id)) f e failed = absurd (let z : Ask id ≡ Over f = e in cc)
failed_object (tellings.Leads leads.Nowhere) f e failed = subst FindsFailure (sym (over_is founds.Nowhere f e)) failed
failed_object (tellings.Failed r) f e failed = subst FindsFailure (sym (over_is (founds.Failed r) f e)) failed

pub failed_first : (key : Key) (t : Told) (f : Found) → next key t ≡ Over f → FindsFailure f → HasFailed t
failed_first (Object identity) t f e failed = failed_object t f e failed
failed_first (Adapter id) t f e failed = failed_found t (subst FindsFailure (sym (over_is (found t) f e)) failed)

pub told_at : (l : Proxy) (retries : ℕ) (key : Key) (rounds : List Round) (t : Told) → (answer : Option Invoked) × Asked l retries key rounds answer × (t ≡ told answer) → AreAt l rounds
told_at l retries key rounds t (answer, asked, is) = asked_at l retries key rounds answer asked

-- ---- both

-- one question, and nothing behind it
pub finds_once : (l : Proxy) (retries : ℕ) (key : Key) (rounds : List Round) (t : Told) (f : Found) → (answer : Option Invoked) × Asked l retries key rounds answer × (t ≡ told answer) → next key t ≡ Over f → Finds l retries key rounds f
finds_once l retries key rounds t f (answer, asked, is) over = (
  rounds,
  [],
  answer,
  sym (append-nil rounds),
  asked,
  subst (λ (n : Next). Follows l retries n [] f) (sym (ap (next key) (sym is) ∙ over)) (refl, refl),
)

-- the second
pub follows_second : (l : Proxy) (retries : ℕ) (id : List ℕ) (rounds : List Round) (u : Told) (f : Found) → (answer : Option Invoked) × Asked l retries (Adapter id) rounds answer × (u ≡ told answer) → f ≡ found u
    → Follows l retries (Ask id) rounds f
follows_second l retries id rounds u f (answer, asked, is) found_is = (answer, asked, found_is ∙ ap found is)

-- both
finds_twice : (l : Proxy) (retries : ℕ) (key : Key) (first second : List Round) (id : List ℕ) (t : Told) (f : Found) → (answer : Option Invoked) × Asked l retries key first answer × (t ≡ told answer) → next key t ≡ Ask id
    → Follows l retries (Ask id) second f → Finds l retries key (first ++ second) f
finds_twice l retries key first second id t f (answer, asked, is) again follows =
    (first, second, answer, refl, asked, subst (λ (n : Next). Follows l retries n second f) (sym (ap (next key) (sym is) ∙ again)) follows)

pub finds_both : {E : Type 0} (l : Proxy) (retries : ℕ) (key : Key) (first second : List Round) (id : List ℕ) (t : Told) (x : Result Found E) → (answer : Option Invoked) × Asked l retries key first answer × (t ≡ told answer) → next key t ≡ Ask id
    → FollowsOrEnds l retries id second x → FindsOrEnds l retries key (first ++ second) x
finds_both l retries key first second id t (Ok f) asked again follows = finds_twice l retries key first second id t f asked again follows
finds_both l retries key first second id t (Err e) asked again at = at_both l first second (told_at l retries key first t asked) at

-- a failure of the net behind rounds was one since their beginning
pub found_behind : {E : Type 0} (rounds : List Round) (n0 n1 : Option ToldNet) (f0 f1 f2 : ℕ) (x : Result Found E) → WereMade rounds n0 n1 f0 f1 → IfOk x (λ f. FindsFailure f → Rises f1 f2) → IfOk x (λ f. FindsFailure f → Rises f0 f2)
found_behind rounds n0 n1 f0 f1 f2 (Ok f) made fails = λ failed. made_rises rounds n0 n1 f0 f1 f2 made (fails failed)
found_behind rounds n0 n1 f0 f1 f2 (Err e) made fails = tt

-- ---- all of it was done at the locator

follows_at : (l : Proxy) (retries : ℕ) (n : Next) (rounds : List Round) (f : Found) → Follows l retries n rounds f → AreAt l rounds
follows_at l retries (Ask id) rounds f (answer, asked, is) = asked_at l retries (Adapter id) rounds answer asked
follows_at l retries (Over end) rounds f (none, is) = subst (AreAt l) (sym none) tt

pub finds_at : (l : Proxy) (retries : ℕ) (key : Key) (rounds : List Round) (f : Found) → Finds l retries key rounds f → AreAt l rounds
finds_at l retries key rounds f (first, second, answer, are, asked, follows) =
    subst (AreAt l) (sym are) (at_both l first second (asked_at l retries key first answer asked) (follows_at l retries (next key (told answer)) second f follows))
