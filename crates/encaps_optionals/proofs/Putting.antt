-- What is put one part after the other.
use Rattle.std.proofs.Common.{◌≡◌, ℕ, List, ◌++◌, Result, Ok, Err, ap, ◌∙◌, append_assoc}
use Rattle.std.specs.Result.{OnOk, OnErr}
use Rattle.ice_prims.specs.Bytes.{Grows}

pub grows_on : (old mid new : List ℕ) → Grows old mid → Grows mid new → Grows old new
grows_on old mid new first second = (first.0 ++ second.0, second.1 ∙ ap (λ (z : List ℕ). z ++ second.0) first.1 ∙ append_assoc old first.0 second.0)

pub then_grows : {X E : Type 0} (r : Result X E) (old mid new : List ℕ) → Grows old mid → OnErr r (Grows mid new) → OnErr r (Grows old new)
then_grows (Ok x) old mid new first second = tt
then_grows (Err e) old mid new first second = grows_on old mid new first second

pub then_put : {X E : Type 0} (r : Result X E) (old mid new a b : List ℕ) → mid ≡ old ++ a → OnOk r (new ≡ mid ++ b) → OnOk r (new ≡ old ++ (a ++ b))
then_put (Ok x) old mid new a b first second = second ∙ ap (λ (z : List ℕ). z ++ b) first ∙ append_assoc old a b
then_put (Err e) old mid new a b first second = tt

-- what stays behind what was put
pub then_stays : {X E : Type 0} (r : Result X E) (old mid new : List ℕ) → Grows old mid → OnErr r (new ≡ mid) → OnErr r (Grows old new)
then_stays (Ok x) old mid new first second = tt
then_stays (Err e) old mid new first second = (first.0, second ∙ first.1)
