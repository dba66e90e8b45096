-- What a server's objects do with a call. (Ice manual, "The Ice Protocol", "Reply Status".)
use Rattle.std.specs.Prelude.{◌≡◌, ℕ, ◌⊎◌}

-- the reply says that there is no such object (2) or no such facet (3), so that nothing was dispatched
abbrev pub IsRefusal : ℕ → Type 0
IsRefusal status = (status ≡ 2) ⊎ (status ≡ 3)

-- the rules of some objects, for their calls C, replies R and states O
pub record Rules (C R O : Type 0) : Type 1 where
  -- with these objects the call is dispatched; with these it is refused
  pub may_dispatch : O → C → Type 0
  pub may_refuse : O → C → Type 0
  -- a dispatch of the call gives this reply and these next objects
  pub dispatches : O → C → R → O → Type 0
  -- a refusal of the call gives this reply
  pub refuses : O → C → R → Type 0
  pub status : R → ℕ
  -- the law on statuses: a dispatch never answers as a refusal does, and a refusal always does
  pub dispatched : (o : O) (c : C) (r : R) (next : O) → dispatches o c r next → ¬ IsRefusal (status r)
  pub refused : (o : O) (c : C) (r : R) → refuses o c r → IsRefusal (status r)

-- objects that may answer anything, for replies whose status is known
unfoldable pub free_rules : {C R : Type 0} → (R → ℕ) → Rules C R (Unit {0})
free_rules status = record {
  may_dispatch = λ o c. Unit {0};
  may_refuse = λ o c. Unit {0};
  dispatches = λ o c r next. ¬ IsRefusal (status r);
  refuses = λ o c r. IsRefusal (status r);
  status = status;
  dispatched = λ o c r next given. given;
  refused = λ o c r given. given;
}
