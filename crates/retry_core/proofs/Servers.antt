-- Every run of a server closes last.
use Rattle.std.proofs.Common.{◌≡◌, ℕ, zero, suc, ◌+◌, ◌⊎◌, inl, inr, List, [], ◌∷◌, length, Option, None, Some, refl, ap, sym, ◌∙◌, subst, arith, cond, Bool, true, false}
use Rattle.std.specs.Prelude.{slice_get, count_by, sum_by}
use Rattle.std.proofs.lemmas.List.Sums.{sum_by-cons}
use Rattle.retry_core.specs.declared.server.ServerEvent.{ServerEvent}
use Rattle.retry_core.specs.declared.server.ServerEvent.TheVariants.{Opened, Request, Answered, Heartbeat, CloseRead, Broken, Lost, EnoughRead}
use Rattle.retry_core.specs.declared.server.ServerAction.{ServerAction}
use Rattle.retry_core.specs.declared.server.ServerAction.TheVariants.{SendClose}
use Rattle.retry_core.specs.declared.server.ServerState.{ServerState}
use Rattle.retry_core.specs.declared.server.ServerState.TheVariants.{New, Reading, Dispatched, Left}
use Rattle.retry_core.specs.Server.{server_row}
use Rattle.retry_core.specs.ServerRuns.{ServerRun, is_dispatch, is_reply, calls_read, asks_reply, ServersCloseLast}

-- the replies that are owed in a state
owed : ServerState → ℕ
owed New = 0
owed Reading = 0
owed (Dispatched left reply) = cond reply 1 0
owed Left = 0

-- the calls that were read and are not dispatched yet
waiting : ServerState → ℕ
waiting New = 0
waiting Reading = 0
waiting (Dispatched left reply) = left
waiting Left = 0

-- nothing is owed in the state, and the event brings nothing
IsDone : ServerState → ServerEvent → Type 0
IsDone state event = (owed state ≡ 0) × (waiting state ≡ 0) × (asks_reply event ≡ false) × (calls_read event ≡ 0)

-- what is owed after an action is what was owed before and came by the event, less what was done
Balances : ServerState → ServerEvent → ServerAction → ServerState → Type 0
Balances state event action after =
    (cond (is_reply action) 1 0 + owed after ≡ cond (asks_reply event) 1 0 + owed state)
    × (cond (is_dispatch action) 1 0 + waiting after ≡ calls_read event + waiting state)

-- what a row of the table does: it leaves, and sends a close only where nothing is owed; or it goes on
Fits : ServerState → ServerEvent → Option (ServerAction × ServerState) → Type 0
Fits state event None = Unit {0}
Fits state event (Some (action, after)) =
    ((after ≡ Left) × (action ≡ SendClose → IsDone state event))
    ⊎ ((¬ (action ≡ SendClose)) × Balances state event action after)

row_fits : (s : ServerState) (e : ServerEvent) → Fits s e (server_row s e)
unfolding owed waiting IsDone Balances Fits
row_fits New Opened = inr (λ e. cc, (refl, refl))
row_fits New Lost = inl (refl, λ e. cc)
row_fits Reading (Request zero reply) = inr (λ e. cc, (refl, refl))
row_fits Reading (Request (suc n) reply) = inr (λ e. cc, (omega arith, omega arith))
row_fits Reading Heartbeat = inr (λ e. cc, (refl, refl))
row_fits Reading EnoughRead = inl (refl, λ e. (refl, refl, refl, refl))
row_fits Reading CloseRead = inl (refl, λ e. cc)
row_fits Reading Broken = inl (refl, λ e. cc)
row_fits Reading Lost = inl (refl, λ e. cc)
row_fits (Dispatched zero true) Answered = inr (λ e. cc, (refl, refl))
row_fits (Dispatched zero false) Answered = inr (λ e. cc, (refl, refl))
row_fits (Dispatched (suc n) reply) Answered = inr (λ e. cc, (omega arith, omega arith))
row_fits (Dispatched left reply) Lost = inl (refl, λ e. cc)
row_fits s e = tt

-- after it has left nothing comes
left_none : (e : ServerEvent) → server_row Left e ≡ None
left_none Opened = refl
left_none (Request calls reply) = refl
left_none Answered = refl
left_none Heartbeat = refl
left_none CloseRead = refl
left_none Broken = refl
left_none Lost = refl
left_none EnoughRead = refl

left_run : (es : List ServerEvent) (actions : List ServerAction) → ServerRun Left es actions → (es ≡ []) × (actions ≡ [])
left_run [] actions e = (refl, e)
left_run (e ∷ es) actions (a, after, rest, row, run, same) =
    absurd (let z : None ≡ Some (a, after) = sym (left_none e) ∙ row in cc)

-- from a state on, with what is owed in it
ClosesFrom : ServerState → List ServerEvent → List ServerAction → Type 0
ClosesFrom state events actions =
    (n : ℕ) → slice_get actions n ≡ Some SendClose
    → (n + 1 ≡ length actions)
    × (count_by is_reply actions ≡ count_by asks_reply events + owed state)
    × (count_by is_dispatch actions ≡ sum_by calls_read events + waiting state)

one_more : {A : Type 0} (p : A → Bool) (a : A) (xs : List A) → count_by p (a ∷ xs) ≡ cond (p a) 1 0 + count_by p xs
one_more p a xs = sum_by-cons (λ y. cond (p y) 1 0) a xs

-- a close that is the last of all
closes_now : (s : ServerState) (e : ServerEvent) → IsDone s e → ClosesFrom s (e ∷ []) (SendClose ∷ [])
unfolding ClosesFrom IsDone
closes_now s e done zero h =
    let a = one_more is_reply SendClose [] in
    let b = one_more is_dispatch SendClose [] in
    let c = one_more asks_reply e [] in
    let r : cond (asks_reply e) 1 0 + 0 ≡ 0 = ap (λ (b : Bool). cond b 1 0 + 0) done.2 in
    let d = sum_by-cons calls_read e [] in
    let p = done.0 in
    let q = done.1 in
    let t = done.3 in
    (refl, omega arith, omega arith)
closes_now s e done (suc n) h = absurd (let z : None ≡ Some SendClose = h in cc)

closes_leaving : (s : ServerState) (e : ServerEvent) (a : ServerAction) → (a ≡ SendClose → IsDone s e) → ClosesFrom s (e ∷ []) (a ∷ [])
unfolding ClosesFrom
closes_leaving s e a done zero h =
    let same : a ≡ SendClose = cc in
    subst (λ (x : ServerAction). (0 + 1 ≡ length (x ∷ [])) × (count_by is_reply (x ∷ []) ≡ count_by asks_reply (e ∷ []) + owed s) × (count_by is_dispatch (x ∷ []) ≡ sum_by calls_read (e ∷ []) + waiting s)) (sym same)
    (closes_now s e (done same) 0 refl)
closes_leaving s e a done (suc n) h = absurd (let z : None ≡ Some SendClose = h in cc)

closes_later : (s t : ServerState) (e : ServerEvent) (a : ServerAction) (es : List ServerEvent) (rest : List ServerAction) → ¬ (a ≡ SendClose)
    → Balances s e a t → ClosesFrom t es rest → ClosesFrom s (e ∷ es) (a ∷ rest)
unfolding ClosesFrom Balances
closes_later s t e a es rest other balance later zero h = absurd (other (let z : Some a ≡ Some SendClose = h in cc))
closes_later s t e a es rest other (replies, dispatches) later (suc n) h =
    let l = later n h in
    let c = l.0 in
    let d = l.1 in
    let f = l.2 in
    let p = one_more is_reply a rest in
    let q = one_more is_dispatch a rest in
    let u = one_more asks_reply e es in
    let v = sum_by-cons calls_read e es in
    (omega arith, omega arith, omega arith)

closes_from : (es : List ServerEvent) (s : ServerState) (actions : List ServerAction) → ServerRun s es actions → ClosesFrom s es actions
unfolding ClosesFrom Fits
closes_from [] s actions e =
    λ n h. absurd (let z : None ≡ Some SendClose = ap (λ (xs : List ServerAction). slice_get xs n) (sym e) ∙ h in cc)
closes_from (e ∷ es) s actions (a, t, rest, row, run, same) =
    let fits : Fits s e (Some (a, t)) = subst (Fits s e) row (row_fits s e) in
    subst (ClosesFrom s (e ∷ es)) (sym same)
    (elim fits [
      | inl left ↦
          let none = left_run es rest (subst (λ (x : ServerState). ServerRun x es rest) left.0 run) in
          subst (λ (xs : List ServerEvent). ClosesFrom s (e ∷ xs) (a ∷ rest)) (sym none.0)
          (subst (λ (xs : List ServerAction). ClosesFrom s (e ∷ []) (a ∷ xs)) (sym none.1) (closes_leaving s e a left.1))
      | inr on ↦ closes_later s t e a es rest on.0 on.1 (closes_from es t rest run)
    ])

pub closes_lem : ServersCloseLast
unfolding ClosesFrom owed waiting
closes_lem es actions run n h =
    let c = closes_from es New actions run n h in
    let y = c.1 in
    let z = c.2 in
    (c.0, omega arith, omega arith)
