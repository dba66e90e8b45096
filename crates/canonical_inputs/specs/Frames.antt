-- What is still to be passed over of instances that have begun.
use Rattle.std.specs.Prelude.{ℕ, ◌<◌, ◌≤◌, ◌≡◌, List, [], ◌∷◌, ◌++◌, length, drop, slice_get}
use Rattle.ice_types.specs.Tables.{Tables}
use Rattle.ice_encoding.specs.CanonicalGraph.{Pen}
use Rattle.canonical_values.specs.Frames.{Passes}
use Rattle.canonical_inputs.specs.declared.frame.Frame.{Frame}
use Rattle.canonical_inputs.specs.declared.frame.Met.{Met}
use Rattle.canonical_inputs.specs.declared.frame.Step.{Step}
use Rattle.canonical_inputs.specs.declared.frame.Step.TheVariants as steps
use Rattle.canonical_inputs.specs.Heads.{pen_at}
use Rattle.canonical_inputs.specs.Fitting.{Classes, Rests}

module _ (t : Tables) (classes : Classes) where
  -- the bytes are what the frame waits for
  abbrev pub Fills : Frame → Pen → List ℕ → Pen → Type 0
  Fills f p bytes q = Rests t classes f.depth (drop f.next f.needs.items) f.last f.base p bytes q

  -- Frames one inside the other, the outermost first. What the innermost waits for comes first.
  abbrev pub FillAll : List Frame → Pen → List ℕ → Pen → Type 0
  FillAll [] p bytes q = (bytes ≡ []) × (q ≡ p)
  FillAll (f ∷ fs) p bytes q = (inner own : List ℕ) × (mid : Pen) × (bytes ≡ inner ++ own) × FillAll fs p inner mid × Fills f mid own q

-- the instances that have begun are of these classes
abbrev pub Agree : Classes → List ℕ → Type 0
Agree classes met = (n : ℕ) → n < length met → classes n ≡ slice_get met n

-- the pen behind what was met
abbrev pub pen_of : Tables → Met → Pen
pen_of t met = pen_at t (length met.classes.items) met.ids.items

-- what was met before was met behind, and there are not too many
pub record Later (before behind : Met) : Type 0 where
  pub classes : (more : List ℕ) × (behind.classes.items ≡ before.classes.items ++ more)
  pub few : length before.classes.items ≤ 100000 → length behind.classes.items ≤ 100000

module _ (t : Tables) (input : List ℕ) where
  -- one look at the innermost frame, with what was met before and behind, and what is left behind
  abbrev pub Steps : ℕ → Met → Frame → Met → Frame → Step → Type 0
  Steps at before old behind new (steps.On next) = Later before behind × (front : List ℕ) × Passes t input at next front
      × ((classes : Classes) (more : List ℕ) (q : Pen) → Agree classes behind.classes.items → Fills t classes new (pen_of t behind) more q → Fills t classes old (pen_of t before) (front ++ more) q)
  Steps at before old behind new (steps.Into next inside) = Later before behind × (front : List ℕ) × Passes t input at next front
      × ((classes : Classes) (inner more : List ℕ) (mid q : Pen) → Agree classes behind.classes.items → Fills t classes inside (pen_of t behind) inner mid → Fills t classes new mid more q
      → Fills t classes old (pen_of t before) (front ++ (inner ++ more)) q)
  Steps at before old behind new steps.Done = (behind ≡ before) × ((classes : Classes) (p : Pen) → Fills t classes old p [] p)
  Steps at before old behind new steps.Stop = Unit {0}
