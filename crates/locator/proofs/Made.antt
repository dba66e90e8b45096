-- Rounds of attempts, one after the other, and the count of failures.
use Rattle.std.proofs.Common.{◌≡◌, ℕ, ◌-◌, ◌^◌, ◌≤◌, min, Bool, true, false, List, [], ◌∷◌, ◌++◌, Option, refl, sym, ap, subst, ◌∙◌, arith}
use Rattle.ice_types.specs.declared.proxy.Proxy.{Proxy}
use Rattle.ice_ports.specs.Failures.{count_after}
use Rattle.ice_ports.specs.Nets.{ToldNet}
use Rattle.encaps_optionals.specs.Usable.{tcp_at}
use Rattle.ice_client.specs.Attempted.{attempted, is_failure}
use Rattle.ice_client.specs.ClientDid.{Tried, Made, Rises, attempted_all, failures_after}
use Rattle.locator.specs.Rounds.{Round, net_after, failed_after, WereMade, round, attempt, AreAt}

-- ---- what the net tells

net_then : (a b : List Round) (n : Option ToldNet) → net_after (a ++ b) n ≡ net_after b (net_after a n)
net_then [] b n = refl
net_then (r ∷ rs) b n = net_then rs b (attempted_all r.endpoints r.number r.tried n)

failed_then : (a b : List Round) (n : ℕ) → failed_after (a ++ b) n ≡ failed_after b (failed_after a n)
failed_then [] b n = refl
failed_then (r ∷ rs) b n = failed_then rs b (failures_after r.tried n)

pub made_then : (a b : List Round) (n0 n1 n2 : Option ToldNet) (f0 f1 f2 : ℕ) → WereMade a n0 n1 f0 f1 → WereMade b n1 n2 f1 f2 → WereMade (a ++ b) n0 n2 f0 f2
made_then a b n0 n1 n2 f0 f1 f2 one two = record {
  net = two.net ∙ ap (net_after b) one.net ∙ sym (net_then a b n0);
  failures = two.failures ∙ ap (failed_after b) one.failures ∙ sym (failed_then a b f0);
}

pub made_nothing : (n : Option ToldNet) (f : ℕ) → WereMade [] n n f f
made_nothing n f = record { net = refl; failures = refl }

-- an invocation
pub made_round : (p : Proxy) (tried : List Tried) (n0 n1 : Option ToldNet) (f0 f1 : ℕ) → Made p.endpoints tried n0 n1 f0 f1 → WereMade (round p tried ∷ []) n0 n1 f0 f1
made_round p tried n0 n1 f0 f1 made = record { net = made.net; failures = made.failures }

-- one without attempts
pub made_untried : (p : Proxy) (tried : List Tried) (n0 n1 : Option ToldNet) (f0 f1 : ℕ) → tried ≡ [] → Made p.endpoints tried n0 n1 f0 f1 → WereMade [] n0 n1 f0 f1
made_untried p tried n0 n1 f0 f1 none made = record {
  net = made.net ∙ ap (λ (ts : List Tried). attempted_all p.endpoints 0 ts n0) none;
  failures = made.failures ∙ ap (λ (ts : List Tried). failures_after ts f0) none;
}

-- one attempt
pub made_attempt : (p : Proxy) (number : ℕ) (t : Tried) (n0 n1 : Option ToldNet) (f0 f1 : ℕ) → n1 ≡ attempted (tcp_at number p.endpoints) t.talk n0 → f1 ≡ count_after f0 (is_failure t.talk)
    → WereMade (attempt p number t ∷ []) n0 n1 f0 f1
made_attempt p number t n0 n1 f0 f1 net failures = record { net = net; failures = failures }

-- ---- at one proxy

pub at_both : (p : Proxy) (a b : List Round) → AreAt p a → AreAt p b → AreAt p (a ++ b)
at_both p [] b one two = two
at_both p (r ∷ rs) b one two = (one.0, at_both p rs b one.1 two)

-- ---- the count never falls

Keeps : ℕ → ℕ → Type 0
Keeps before after = min before (2 ^ 64 - 1) ≤ after

count_keeps : (n : ℕ) (b : Bool) → Keeps n (count_after n b)
unfolding Keeps
count_keeps n true = omega arith
count_keeps n false = omega arith

keeps_then : (a b c : ℕ) → Keeps a b → Keeps b c → Keeps a c
unfolding Keeps
keeps_then a b c one two = omega (arith, one, two)

tries_keep : (ts : List Tried) (n : ℕ) → Keeps n (failures_after ts n)
unfolding Keeps
tries_keep [] n = omega arith
tries_keep (t ∷ ts) n = keeps_then n (count_after n (is_failure t.talk)) (failures_after ts (count_after n (is_failure t.talk))) (count_keeps n (is_failure t.talk)) (tries_keep ts (count_after n (is_failure t.talk)))

rounds_keep : (rs : List Round) (n : ℕ) → Keeps n (failed_after rs n)
unfolding Keeps
rounds_keep [] n = omega arith
rounds_keep (r ∷ rs) n = keeps_then n (failures_after r.tried n) (failed_after rs (failures_after r.tried n)) (tries_keep r.tried n) (rounds_keep rs (failures_after r.tried n))

keeps_rises : (a b c : ℕ) → Keeps a b → Rises b c → Rises a c
unfolding Keeps
keeps_rises a b c one two = omega (arith, one, two)

-- a failure behind rounds is one since their beginning
pub made_rises : (a : List Round) (n0 n1 : Option ToldNet) (f0 f1 f2 : ℕ) → WereMade a n0 n1 f0 f1 → Rises f1 f2 → Rises f0 f2
made_rises a n0 n1 f0 f1 f2 made rises = keeps_rises f0 f1 f2 (subst (Keeps f0) (sym made.failures) (rounds_keep a f0)) rises

-- a failure was counted
pub counted_rises : (f0 f1 : ℕ) (b : Bool) → f1 ≡ count_after f0 b → b ≡ true → Rises f0 f1
counted_rises f0 f1 b counted failed = let one : f1 ≡ count_after f0 true = counted ∙ ap (count_after f0) failed in omega (arith, one)
