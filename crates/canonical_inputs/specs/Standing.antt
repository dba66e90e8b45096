-- Instances where they begin, as they are written in sliced format. What is said of a stretch of bytes: the pen before it and behind
-- it, and the instances that begin in it, by number, each whole. No graph is spoken of, and no way of reading.
use Rattle.std.specs.Prelude.{ℕ, zero, suc, Bool, true, false, ◌+◌, ◌<◌, ◌≡◌, ◌⊎◌, List, [], ◌∷◌, ◌++◌, length, get_or}
use Rattle.ice_types.specs.Tables.{Tables}
use Rattle.ice_prims.specs.Bytes.{size_bytes}
use Rattle.ice_encoding.specs.Graph.{Slice, Graph}
use Rattle.ice_encoding.specs.Slices.{slice_size}
use Rattle.ice_encoding.specs.Instances.{slices_of}
use Rattle.ice_encoding.specs.CanonicalGraph.{Pen, with_one_begun, table_of, sized_bytes, has_optional, written_id, is_there, flags_byte, written_head}

abbrev pub Stretch : Type 1
Stretch = Pen → List ℕ → Pen → List (List Slice) → Type 0

-- no bytes, and nothing begins
abbrev pub Nothing : Stretch
Nothing p bytes q news = (bytes ≡ []) × (q ≡ p) × (news ≡ [])

-- one stretch, and then another
abbrev pub Then : Stretch → Stretch → Stretch
Then First Next p bytes q news = (a b : List ℕ) × (mid : Pen) × (first others : List (List Slice)) × (bytes ≡ a ++ b) × (news ≡ first ++ others) × First p a mid first × Next mid b q others

-- whether no slice follows
abbrev pub ends : List Slice → Bool
ends [] = true
ends (s ∷ ss) = false

-- what may be an instance of a number
abbrev pub Instances : Type 1
Instances = ℕ → List Slice → Type 0

module _ (Good : Instances) (Inside : List Slice → Stretch) where
  -- the number of an instance that has begun, or the next instance
  abbrev pub ReferenceStands : ℕ → Stretch
  ReferenceStands n p bytes q news = ((n < p.begun) × (bytes ≡ size_bytes (suc (suc n))) × (q ≡ p) × (news ≡ []))
      ⊎ ((n ≡ p.begun) × (slices : List Slice) × (rest : List ℕ) × (inner : List (List Slice)) × (bytes ≡ size_bytes 1 ++ rest) × (news ≡ slices ∷ inner)
      × Good n slices × Inside slices (with_one_begun p) rest q inner)

  -- one after the other
  abbrev pub NamesStand : List ℕ → Stretch
  NamesStand [] = Nothing
  NamesStand (n ∷ ns) = Then (ReferenceStands n) (NamesStand ns)

  -- the table of a slice, where it has an entry
  abbrev pub TableStands : List ℕ → Stretch
  TableStands [] = Nothing
  TableStands (n ∷ ns) = λ p bytes q news. (body : List ℕ) × (bytes ≡ size_bytes (length (n ∷ ns)) ++ body) × NamesStand (n ∷ ns) p body q news

  module _ (t : Tables) where
    -- the flags of a slice before these, and its id
    abbrev pub head_of : Slice → List Slice → Pen → List ℕ × Pen
    head_of s ss = written_head (λ form. flags_byte form (has_optional s) (is_there (table_of s)) true (ends ss)) (written_id t s)

    -- the size of a slice, and what it counts
    abbrev pub counted : Slice → List ℕ
    counted s = slice_size.put (length (sized_bytes t s)) ++ sized_bytes t s

    -- flags and id, the size and what it counts, and the table
    abbrev pub SliceStands : Slice → List Slice → Stretch
    SliceStands s ss p bytes q news = (table : List ℕ) × (bytes ≡ (head_of s ss p).0 ++ (counted s ++ table)) × TableStands (table_of s) (head_of s ss p).1 table q news

    -- slices of one instance
    abbrev pub SlicesStand : List Slice → Stretch
    SlicesStand [] = Nothing
    SlicesStand (s ∷ ss) = Then (SliceStands s ss) (SlicesStand ss)

-- an instance, with so many in one another
abbrev pub InstanceStands : Tables → Instances → ℕ → List Slice → Stretch
InstanceStands t Good zero = λ slices p bytes q news. ⊥
InstanceStands t Good (suc depth) = SlicesStand Good (InstanceStands t Good depth) t

-- the graph has these instances from this number on
abbrev pub Has : Graph → ℕ → List (List Slice) → Type 0
Has g k news = (i : ℕ) → i < length news → slices_of g.instances (k + i) ≡ get_or news i []

-- each of these is an instance of its number, from this one on
abbrev pub AreGood : Instances → ℕ → List (List Slice) → Type 0
AreGood Good k news = (i : ℕ) → i < length news → Good (k + i) (get_or news i [])

-- the numbers below this one
abbrev pub upto : ℕ → List ℕ
upto zero = []
upto (suc k) = upto k ++ k ∷ []
