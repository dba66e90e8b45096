-- Frames as they are made, and what may be the next entry of a table.
use Rattle.std.specs.Prelude.{ℕ, ◌+◌, ◌≡◌, true, Option, None, Some, slice_get}
use Rattle.ice_types.specs.Tables.{Tables}
use Rattle.ice_encoding.specs.Instances.{class_fits}
use Rattle.canonical_inputs.specs.declared.frame.Frame.{Frame}
use Rattle.canonical_inputs.specs.declared.slice.Passed.{Passed}
use Rattle.canonical_inputs.specs.Fitting.{IsAbove}

-- what is left of an instance behind the front of a slice
abbrev pub frame_of : ℕ → Passed → Frame
frame_of depth slice = record { depth = depth; needs = slice.needs; next = 0; last = None; base = slice.base }

-- what is left behind an entry of this name
abbrev pub named : Frame → ℕ → Frame
named frame name = record { depth = frame.depth; needs = frame.needs; next = frame.next + 1; last = Some name; base = frame.base }

-- an instance of this number and class may be the next entry: above the last, and of a class that fits
pub record IsNext (t : Tables) (f : Frame) (name class : ℕ) : Type 0 where
  pub need : Option ℕ
  pub there : slice_get f.needs.items f.next ≡ Some need
  pub above : IsAbove f.last name
  pub fits : class_fits t need (Some class) ≡ true
