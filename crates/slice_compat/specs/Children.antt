-- The classes that extend a class, as a list that is linked by places.
use Rattle.std.specs.Prelude.{ℕ, ◌≡◌, ◌<◌, ◌↔◌, List, length, Option, None, Some, slice_get, unwrap_or}
use Rattle.ice_types.specs.declared.declarations.ClassDecl.{ClassDecl}
use Rattle.ice_types.specs.Inherited.{base_in}
use Rattle.ice_types.specs.Tables.{Tables}
use Rattle.slice_compat.specs.declared.children.Children.{Children}

-- what stands at a place, None behind the end
abbrev pub link_at : List (Option ℕ) → ℕ → Option ℕ
link_at links at = unwrap_or (slice_get links at) None

-- a class that stands on the list from a link on
pub data OnList (next : List (Option ℕ)) : Option ℕ → ℕ → Type 0 where
  First : (class : ℕ) → OnList next (Some class) class
  Later : (class other : ℕ) → OnList next (link_at next class) other → OnList next (Some class) other

-- Of the classes before this place, each stands on the list of its base alone, and each link leads to one before it.
pub record AreLinked (classes : List ClassDecl) (count : ℕ) (first next : List (Option ℕ)) : Type 0 where
  pub bases : length first ≡ length classes
  pub places : length next ≡ length classes
  pub listed : (base class : ℕ) → OnList next (link_at first base) class ↔ ((class < count) × (base_in classes class ≡ Some base))
  pub falls : (class other : ℕ) → link_at next class ≡ Some other → other < class
  pub begins : (base class : ℕ) → link_at first base ≡ Some class → class < count

abbrev pub AreChildren : Tables → Children → Type 0
AreChildren t c = AreLinked t.classes (length t.classes) c.first.items c.next.items
