-- Lists in which a part of each item rises, and where such a part stands in them or would stand.
use Rattle.std.specs.Prelude.{ℕ, ◌≡◌, ◌<◌, ◌≤◌, List, length, Some, Result, Ok, Err, slice_get}
use Rattle.std.specs.declared.cmp.Ordering.{Ordering}
use Rattle.std.specs.declared.cmp.Ordering.TheVariants.{Less}

module _ {K X : Type 0} (cmp : K → K → Ordering) (part : X → K) where
  -- each is below those after it, so none stands twice
  abbrev pub Rises : List X → Type 0
  Rises xs = (i j : ℕ) (x y : X) → i < j → slice_get xs i ≡ Some x → slice_get xs j ≡ Some y → cmp (part x) (part y) ≡ Less

  -- it would stand here: those before are below it, and it is below those from here on
  pub record IsGap (xs : List X) (key : K) (at : ℕ) : Type 0 where
    pub within : at ≤ length xs
    pub before : (i : ℕ) (x : X) → i < at → slice_get xs i ≡ Some x → cmp (part x) key ≡ Less
    pub after : (i : ℕ) (x : X) → at ≤ i → slice_get xs i ≡ Some x → cmp key (part x) ≡ Less

  -- where it stands, or would
  abbrev pub IsSearched : List X → K → Result ℕ ℕ → Type 0
  IsSearched xs key (Ok at) = (x : X) × (slice_get xs at ≡ Some x) × (part x ≡ key)
  IsSearched xs key (Err at) = IsGap xs key at
