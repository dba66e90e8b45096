-- The flags and the id of a slice of a class, as they are written.
use Rattle.std.specs.Prelude.{ℕ, ◌+◌, ◌%◌, ◌≡◌, Bool, List, ◌∷◌, map, Option, Some, slice_get, nat_eq}
use Rattle.std.specs.List.{position}
use Rattle.ice_types.specs.declared.declarations.ClassDecl.{ClassDecl}
use Rattle.ice_types.specs.Tables.{Tables}
use Rattle.ice_encoding.specs.Flags.{IdForm}
use Rattle.ice_encoding.specs.CanonicalGraph.{Pen, id_in, id_bits, bit, spelled_by, written_head}
use Rattle.canonical_values.specs.Frames.{Passes}
use Rattle.canonical_inputs.specs.declared.head.Head.{Head}

-- where the class stands first among these
abbrev pub number_place : List ℕ → ℕ → Option ℕ
number_place classes class = position (λ other. nat_eq other class) classes

-- the type ids of these classes
abbrev pub texts : Tables → List ℕ → List (List ℕ)
texts t classes = map (λ class. id_in (slice_get t.classes class)) classes

-- so many instances have begun, and the type ids of these classes stand as texts
abbrev pub pen_at : Tables → ℕ → List ℕ → Pen
pen_at t begun ids = record { begun = begun; ids = texts t ids }

-- the flags of a slice with a size and without optional members, by the form of its id
abbrev pub sized_flags : ℕ → Bool → Bool → ℕ
sized_flags form has_table is_last = form + (bit has_table 8 + (16 + bit is_last 32))

module _ (t : Tables) (input : List ℕ) where
  -- the id of a class in this form, and what is remembered before and behind it
  pub record IdFound (form : IdForm) (at : ℕ) (before behind : List ℕ) (class end : ℕ) : Type 0 where
    pub row : ClassDecl
    pub is_row : slice_get t.classes class ≡ Some row
    pub id : List ℕ
    pub passes : Passes t input at end id
    pub written : (begun : ℕ) (flags : IdForm → ℕ) → written_head flags (spelled_by row) (pen_at t begun before) ≡ (flags form ∷ id, pen_at t begun behind)

  -- the same, in the form that these bits say
  abbrev pub FormFound : ℕ → ℕ → List ℕ → List ℕ → ℕ → ℕ → Type 0
  FormFound bits at before behind class end = (form : IdForm) × (bits ≡ id_bits form) × IdFound form at before behind class end

  -- the flags and the id
  pub record HeadFound (at : ℕ) (before behind : List ℕ) (head : Head) : Type 0 where
    pub row : ClassDecl
    pub is_row : slice_get t.classes head.class ≡ Some row
    pub form : IdForm
    pub bits : head.flags % 4 ≡ id_bits form
    pub bytes : List ℕ
    pub passes : Passes t input at head.end bytes
    pub written : (begun : ℕ) (flags : IdForm → ℕ) → flags form ≡ head.flags → written_head flags (spelled_by row) (pen_at t begun before) ≡ (bytes, pen_at t begun behind)
