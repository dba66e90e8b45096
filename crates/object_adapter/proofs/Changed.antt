-- Keys of which one is new.
use Rattle.std.proofs.Common.{ℕ, ◌≡◌, ◌<◌, Bool, true, false, List, length, refl, sym, subst, arith}
use Rattle.std.specs.Prelude.{if◌then◌else◌, is_ok, OnOk, OnErr, IfErr, Result, Ok, Err}
use Rattle.std.specs.List.{insert}
use Rattle.std.proofs.lemmas.List.Edits.{length-insert}
use Rattle.object_adapter.specs.declared.keys.TheConstants.{MOST_OBJECTS}
use Rattle.object_adapter.specs.Keys.{Key, AreKeys, IsGapFor, itself, key_cmp}
use Rattle.object_adapter.specs.declared.add_fault.AddFault.{AddFault}
use Rattle.object_adapter.specs.declared.add_fault.AddFault.TheVariants.{Twice, Full, Memory}
use Rattle.object_adapter.specs.declared.servant.Servant.{Servant}
use Rattle.object_adapter.specs.Objects.{Objects}
use Rattle.object_adapter.specs.Adapters.{Adds, Declines, HasKey}
use Rattle.object_adapter.proofs.Rising.{inserted, not_there}
use Rattle.object_adapter.proofs.Ordered.{keys_total}

pub inserted_keys : (keys : List Key) (at : ℕ) (key : Key) → AreKeys keys → IsGapFor keys key at → length keys < MOST_OBJECTS → AreKeys (insert keys at key)
inserted_keys keys at key are gap room = record {
  rising = inserted key_cmp keys_total itself keys at key gap are.rising;
  room = omega (arith, room, length-insert keys at key gap.within);
}

-- whether it was put there or not
pub kept_keys : (keys new : List Key) (at : ℕ) (key : Key) (put : Bool) → new ≡ (if put then insert keys at key else keys) → AreKeys keys → IsGapFor keys key at → length keys < MOST_OBJECTS → AreKeys new
kept_keys keys new at key true is are gap room = subst AreKeys (sym is) (inserted_keys keys at key are gap room)
kept_keys keys new at key false is are gap room = subst AreKeys (sym is) are

-- where a key would stand, none stands
pub no_such_key : (keys : List Key) (key : Key) (at : ℕ) → IsGapFor keys key at → HasKey keys key → ⊥
no_such_key keys key at gap has = not_there key_cmp keys_total itself keys key at gap has.0 key has.1 refl

-- what comes of adding an object, from what comes of putting its key and itself
pub added : (o : Objects) (keys : List Key) (servants : List Servant) (key : Key) (at : ℕ) (s : Servant) (result : Result (Unit {0}) AddFault) → IsGapFor o.keys key at → length o.keys < MOST_OBJECTS
    → OnOk result (keys ≡ insert o.keys at key) → OnOk result (servants ≡ insert o.servants at s) → IfErr result (λ fault. fault ≡ Memory)
    → Adds o key s result (record { keys = keys; servants = servants })
added o keys servants key at s (Ok done) gap room a b c = (no_such_key o.keys key at gap, room, at, gap, rw (a, b) refl)
added o keys servants key at s (Err fault) gap room a b c = subst (λ (f : AddFault). Adds o key s (Err f) (record { keys = keys; servants = servants })) (sym c) tt

-- what comes of adding none
pub declined : (o : Objects) (key : Key) (s : Servant) (fault : AddFault) (new : Objects) → Declines o.keys key fault → Adds o key s (Err fault) new
declined o key s Twice new why = why
declined o key s Full new why = why
declined o key s Memory new why = tt

-- what was tried to put in, was put in or not
pub put_in : {E : Type 0} (result : Result (Unit {0}) E) (new put old : List Key) → new ≡ (if is_ok result then put else old) → OnOk result (new ≡ put)
put_in (Ok done) new put old is = is
put_in (Err e) new put old is = tt

pub left_out : {E : Type 0} (result : Result (Unit {0}) E) (new put old : List Key) → new ≡ (if is_ok result then put else old) → OnErr result (new ≡ old)
left_out (Ok done) new put old is = tt
left_out (Err e) new put old is = is
