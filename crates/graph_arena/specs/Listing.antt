-- Places that are listed, with marks by place.
use Rattle.std.specs.Prelude.{ℕ, ◌≡◌, ◌<◌, Bool, true, false, List, [], ◌∷◌, ◌++◌, length, reverse, slice_index_or, Result, Ok, Err, refl}
use Rattle.std.specs.Coded.{Coded, code_by, coded×, coded_ℕ, coded_list}
use Rattle.std.specs.declared.alloc.AllocError.{AllocError}
use Rattle.ice_encoding.specs.Visiting.{is_listed}

-- so many places, of which these are listed
pub record Listed : Type 0 where
  pub count : ℕ
  pub places : List ℕ

abbrev pub listed_code : Coded Listed
listed_code = code_by (ℕ × List ℕ) (coded× coded_ℕ (coded_list coded_ℕ)) (λ l. (l.count, l.places)) (λ p. record { count = p.0; places = p.1 }) (λ _. refl)

-- a place is marked exactly where it is listed
abbrev pub Marks : List Bool → List ℕ → Type 0
Marks marks places = (n : ℕ) → n < length marks → slice_index_or marks n false ≡ is_listed places n

-- whether the place is new; if it is, it is listed last
abbrev pub Lists : ℕ → List ℕ → List ℕ → Result Bool AllocError → Type 0
Lists place old new (Ok true) = (is_listed old place ≡ false) × (new ≡ old ++ place ∷ [])
Lists place old new (Ok false) = (is_listed old place ≡ true) × (new ≡ old)
Lists place old new (Err e) = new ≡ old

-- the places on a stack, the one on top first
abbrev pub from_top : List ℕ → List ℕ
from_top stack = reverse stack
