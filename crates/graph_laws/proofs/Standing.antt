-- How the slices of an instance stand: unknown ones, and then a class with its bases.
use Rattle.std.proofs.Common.{ℕ, ◌≡◌, List, [], ◌∷◌, map, ap, Option, Some, None}
use Rattle.ice_types.specs.Tables.{Tables}
use Rattle.ice_encoding.specs.Typed.{Refers}
use Rattle.ice_encoding.specs.Classes.{class_by_id, base_of}
use Rattle.ice_encoding.specs.Graph.{Slice, known, unknown}
use Rattle.ice_encoding.specs.Names.{renamed_slice}
use Rattle.ice_encoding.specs.TypedGraph.{AreBases, IsInstance}
use Rattle.graph_laws.proofs.Bases.{IsRow}

module _ (t : Tables) where
  -- a class and its bases, one above the other
  abbrev pub Follow : Option ℕ → List Slice → Type 0
  Follow None ss = ss ≡ []
  Follow (Some a) [] = ⊥
  Follow (Some a) (unknown id bytes optionals table ∷ ss) = ⊥
  Follow (Some a) (known b content ∷ ss) = (b ≡ a) × IsRow t.classes a × Follow (base_of t a) ss

  -- unknown slices of classes that are not known, and then a class with all its bases
  abbrev pub Stands : List Slice → Type 0
  Stands [] = ⊥
  Stands (unknown id bytes optionals table ∷ []) = class_by_id t id ≡ None
  Stands (unknown id bytes optionals table ∷ s ∷ ss) = (class_by_id t id ≡ None) × Stands (s ∷ ss)
  Stands (known a content ∷ ss) = IsRow t.classes a × Follow (base_of t a) ss

  bases_follow : (Refer : Refers) (o : Option ℕ) (ss : List Slice) → AreBases t Refer o ss → Follow o ss
  bases_follow Refer None ss h = h
  bases_follow Refer (Some a) [] h = absurd h
  bases_follow Refer (Some a) (unknown id bytes optionals table ∷ ss) h = absurd h
  bases_follow Refer (Some a) (known b content ∷ ss) h = (h.0, (h.1.0, h.1.1), bases_follow Refer (base_of t a) ss h.2)

  pub instance_stands : (Refer : Refers) (ss : List Slice) → IsInstance t Refer ss → Stands ss
  instance_stands Refer [] h = absurd h
  instance_stands Refer (unknown id bytes optionals table ∷ []) h = h.0
  instance_stands Refer (unknown id bytes optionals table ∷ s ∷ ss) h = (h.0.0, instance_stands Refer (s ∷ ss) h.1)
  instance_stands Refer (known a content ∷ ss) h = ((h.0.0, h.0.1), bases_follow Refer (base_of t a) ss h.1)

  follow_renamed : (f : ℕ → ℕ) (o : Option ℕ) (ss : List Slice) → Follow o ss → Follow o (map (renamed_slice f) ss)
  follow_renamed f None ss h = ap (map (renamed_slice f)) h
  follow_renamed f (Some a) [] h = absurd h
  follow_renamed f (Some a) (unknown id bytes optionals table ∷ ss) h = absurd h
  follow_renamed f (Some a) (known b content ∷ ss) h = (h.0, h.1, follow_renamed f (base_of t a) ss h.2)

  pub stands_renamed : (f : ℕ → ℕ) (ss : List Slice) → Stands ss → Stands (map (renamed_slice f) ss)
  stands_renamed f [] h = absurd h
  stands_renamed f (unknown id bytes optionals table ∷ []) h = h
  stands_renamed f (unknown id bytes optionals table ∷ s ∷ ss) h = (h.0, stands_renamed f (s ∷ ss) h.1)
  stands_renamed f (known a content ∷ ss) h = (h.0, follow_renamed f (base_of t a) ss h.1)
