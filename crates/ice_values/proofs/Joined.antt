-- How readings follow one another.
use Rattle.std.proofs.Common.{◌≡◌, Result, Ok, Err, refl, sym, ap, subst, ◌∙◌}
use Rattle.ice_prims.specs.declared.fault.Fault.{Fault}
use Rattle.ice_prims.specs.declared.fault.ReadFault.{ReadFault}
use Rattle.ice_prims.specs.declared.fault.ReadFault.TheVariants as faults
use Rattle.ice_prims.specs.Rest.{Rest, ◌>>=◌}
use Rattle.ice_prims.specs.Taking.{Fails}
use Rattle.ice_encoding.specs.Port.{Reader}
use Rattle.ice_encoding.specs.Pausing.{Inside}
use Rattle.ice_values.specs.Rests.{then}
use Rattle.value_parts.specs.declared.paused.Paused.{Paused}
use Rattle.value_parts.specs.declared.paused.Step.{Step}
use Rattle.ice_values.specs.Pauses.{GoesOnReading, StepsReading}

-- a fault of the first is the fault of both
pub then-fails : {S A B : Type 0} (e : ReadFault) (read : Result (A × S × Rest) Fault) (next : A → Reader S B) → Fails e read → Fails e (then read next)
then-fails faults.Memory read next h = tt
then-fails {S = S} {A = A} (faults.Broken e) read next h = ap (λ (x : Result (A × S × Rest) Fault). then x next) h

-- a fault all the same where the reading is another's
pub same-fails : {A : Type 0} (e : ReadFault) (read read' : Result A Fault) → read ≡ read' → Fails e read' → Fails e read
same-fails faults.Memory read read' is h = tt
same-fails (faults.Broken e) read read' is h = is ∙ h

abbrev going_on : {S A : Type 0} → Reader S A → S × Rest → Result (A × S × Rest) Fault
going_on now x = now x.0 x.1

abbrev both_on : {S A B : Type 0} → Reader S A → (A → Reader S B) → S × Rest → Result (B × S × Rest) Fault
both_on now next x = then (now x.0 x.1) next

of_inside : {S A B : Type 0} (begun : Result (S × Rest) Fault) (now : Reader S A) (next : A → Reader S B) → then (begun >>= going_on now) next ≡ (begun >>= both_on now next)
of_inside (Ok x) now next = refl
of_inside (Err e) now next = refl

-- an instance that begins in the first begins in both
pub then-begins : {S A B : Type 0} (read : Result (A × S × Rest) Fault) (begun : Result (S × Rest) Fault) (now : Reader S A) (next : A → Reader S B) → read ≡ (begun >>= λ x. now x.0 x.1) → then read next ≡ (begun >>= λ x. then (now x.0 x.1) next)
then-begins {S = S} {A = A} read begun now next is = ap (λ (x : Result (A × S × Rest) Fault). then x next) is ∙ of_inside begun now next

pub made-then : {S A B C : Type 0} (make : A → B) (read : Result (A × S × Rest) Fault) (next : B → Reader S C) → then (read >>= λ x. Ok (make x.0, x.1, x.2)) next ≡ then read (λ x. next (make x))
made-then make (Ok x) next = refl
made-then make (Err e) next = refl

-- what is answered of a reading is answered of the same one
pub steps-along : {S A T : Type 0} (inside : Inside S) (now : Reader S A) (seen : T → A) (result : Result (Step T) ReadFault) (read read' : Result (A × S × Rest) Fault) (s : S) (r : Rest) → read ≡ read' → StepsReading inside now seen result read' s r → StepsReading inside now seen result read s r
steps-along {S = S} {A = A} inside now seen result read read' s r is h = subst (λ (x : Result (A × S × Rest) Fault). StepsReading inside now seen result x s r) (sym is) h

pub goes-along : {S A T : Type 0} (inside : Inside S) (now : Reader S A) (seen : T → A) (result : Result (Paused T) ReadFault) (read read' : Result (A × S × Rest) Fault) (s : S) (r : Rest) → read ≡ read' → GoesOnReading inside now seen result read' s r → GoesOnReading inside now seen result read s r
goes-along {S = S} {A = A} inside now seen result read read' s r is h = subst (λ (x : Result (A × S × Rest) Fault). GoesOnReading inside now seen result x s r) (sym is) h
