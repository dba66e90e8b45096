-- A call that passes on why another one stopped.
use Rattle.std.proofs.Common.{◌≡◌, List, Result, Ok, Err, subst, sym, ap}
use Rattle.std.specs.Result.{IsErrAnd}
use Rattle.slice_syntax.specs.declared.fault.Stop.{Stop}
use Rattle.slice_syntax.specs.declared.fault.Stop.TheVariants as stops
use Rattle.slice_syntax.specs.Lexemes.{Lexemes}
use Rattle.slice_syntax.specs.Reading.{Reading, gather}
use Rattle.slice_syntax.specs.Taking.{Takes, TakesNoMemory, TakesWith}
use Rattle.slice_syntax.proofs.Laws.{ok_parts}

stop_takes : {X Y Z : Type 0} (stop : Stop) (result : Result Y Stop) (new : Lexemes) (inner : Reading X) (outer : Reading Z) → (view : Y → Z) → Takes (λ (x : X). x) (Err stop) new inner → ((left : Lexemes) → inner ≡ Err left → outer ≡ Err left)
    → Takes view (Err stop) new outer
stop_takes stops.Refused result new inner outer view h pass = pass new h
stop_takes stops.Memory result new inner outer view h pass = tt

-- a call that never is out of memory
pub no_memory_takes : {X Y : Type 0} (view : X → Y) (result : Result X Stop) (new : Lexemes) (r : Reading Y) → TakesNoMemory view result new r → Takes view result new r
no_memory_takes view (Ok x) new r h = h
no_memory_takes view (Err stops.Refused) new r h = h
no_memory_takes view (Err stops.Memory) new r h = tt

-- what the inner call refused, the outer one refuses
pub err_takes : {X Y Z : Type 0} (view : Y → Z) (stop : Stop) (result : Result Y Stop) (new : Lexemes) (inner : Reading X) (outer : Reading Z) → IsErrAnd result (λ e. e ≡ stop) → Takes (λ (x : X). x) (Err stop) new inner
    → ((left : Lexemes) → inner ≡ Err left → outer ≡ Err left) → Takes view result new outer
err_takes view stop (Ok y) new inner outer e h pass = absurd e
err_takes view stop (Err other) new inner outer e h pass = subst (λ (s : Stop). Takes view (Err s) new outer) (sym e) (stop_takes stop (Err other) new inner outer view h pass)

stop_with : {A B X : Type 0} (Holds : A → B → Type 0) (stop : Stop) (new : Lexemes) (inner : Reading X) (outer : Reading B) → Takes (λ (x : X). x) (Err stop) new inner → ((left : Lexemes) → inner ≡ Err left → outer ≡ Err left) → TakesWith Holds (Err stop) new outer
stop_with Holds stops.Refused new inner outer h pass = pass new h
stop_with Holds stops.Memory new inner outer h pass = tt

pub err_with : {A B X : Type 0} (Holds : A → B → Type 0) (stop : Stop) (result : Result A Stop) (new : Lexemes) (inner : Reading X) (outer : Reading B) → IsErrAnd result (λ e. e ≡ stop) → Takes (λ (x : X). x) (Err stop) new inner
    → ((left : Lexemes) → inner ≡ Err left → outer ≡ Err left) → TakesWith Holds result new outer
err_with Holds stop (Ok y) new inner outer e h pass = absurd e
err_with Holds stop (Err other) new inner outer e h pass = subst (λ (s : Stop). TakesWith Holds (Err s) new outer) (sym e) (stop_with Holds stop new inner outer h pass)

abbrev with_rest : {A : Type 0} → List A → Lexemes → Reading (List A)
with_rest xs rest = Ok (xs, rest)

-- what was gathered
pub gathered : {A B : Type 0} (f : List A → B) (r : Reading (List A)) (v : B) (left : Lexemes) → gather f r ≡ Ok (v, left) → (ys : List A) × (r ≡ Ok (ys, left)) × (f ys ≡ v)
gathered {A = A} f (Ok ys) v left e = let is = ok_parts (f ys.0) v ys.1 left e in (ys.0, ap (λ (z : Lexemes). with_rest ys.0 z) is.1, is.0)
gathered f (Err other) v left e = absurd cc

pub gathered_err : {A B : Type 0} (f : List A → B) (r : Reading (List A)) (left : Lexemes) → gather f r ≡ Err left → r ≡ Err left
gathered_err f (Ok ys) left e = absurd cc
gathered_err f (Err other) left e = cc

pub refused_by : {X : Type 0} (stop : Stop) (new : Lexemes) (r : Reading X) → stop ≡ stops.Refused → Takes (λ (x : X). x) (Err stop) new r → r ≡ Err new
refused_by {X = X} stop new r e h = let k : Takes (λ (x : X). x) (Err stops.Refused) new r = subst (λ (s : Stop). Takes (λ (x : X). x) (Err s) new r) e h in k
