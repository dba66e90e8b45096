-- A graph whose names are numbers by first visit is its own form.
use Rattle.std.proofs.Common.{ℕ, ◌≡◌, ◌<◌, List, [], ◌∷◌, length, map, refl, ap, ◌∙◌, Some, None, arith}
use Rattle.std.proofs.lemmas.List.{ext_get_or}
use Rattle.ice_encoding.specs.Tree.{Tree, boolean, byte, short, int, long, text, sequence, dictionary, struct, enumerator, proxy, reference, Trees, none, tree, Entries, no_entry, entry}
use Rattle.ice_encoding.specs.Optionals.{Present}
use Rattle.ice_encoding.specs.OptionalMembers.{Members, with_optional}
use Rattle.ice_encoding.specs.Graph.{Slice, known, unknown, Graph}
use Rattle.ice_encoding.specs.Names.{names, names_each, names_pairs, names_present, names_of, slice_names, instance_names, renamed, renamed_each, renamed_pairs, renamed_present, renamed_members, renamed_slice}
use Rattle.ice_encoding.specs.Instances.{slices_of}
use Rattle.ice_encoding.specs.Visiting.{place}
use Rattle.ice_encoding.specs.SameGraph.{numbered}
use Rattle.graph_arena.specs.Arena.{AreBelow}
use Rattle.graph_arena.proofs.Agreeing.{below-left, below-right}
use Rattle.graph_laws.proofs.Upto.{upto, length-upto, place-upto}
use Rattle.graph_laws.proofs.Formed.{get_or-upto}
use Rattle.graph_laws.proofs.Numbered.{numbered-at, numbered-length}

module _ (f : ℕ → ℕ) (limit : ℕ) (same : (n : ℕ) → n < limit → f n ≡ n) where
  mutual
    value_itself : (v : Tree) → AreBelow limit (names v) → renamed f v ≡ v
    value_itself (boolean b) h = refl
    value_itself (byte n) h = refl
    value_itself (short z) h = refl
    value_itself (int z) h = refl
    value_itself (long z) h = refl
    value_itself (text s) h = refl
    value_itself (sequence items) h = ap sequence (each_itself items h)
    value_itself (dictionary pairs) h = ap dictionary (pairs_itself pairs h)
    value_itself (struct members) h = ap struct (each_itself members h)
    value_itself (enumerator n) h = refl
    value_itself (proxy p) h = refl
    value_itself (reference None) h = refl
    value_itself (reference (Some n)) h = ap (λ (m : ℕ). reference (Some m)) (same n h.0)

    each_itself : (vs : Trees) → AreBelow limit (names_each vs) → renamed_each f vs ≡ vs
    each_itself none h = refl
    each_itself (tree v vs) h = ap (λ (x : Tree). tree x (renamed_each f vs)) (value_itself v (below-left limit (names v) (names_each vs) h)) ∙ ap (tree v) (each_itself vs (below-right limit (names v) (names_each vs) h))

    pairs_itself : (ps : Entries) → AreBelow limit (names_pairs ps) → renamed_pairs f ps ≡ ps
    pairs_itself no_entry h = refl
    pairs_itself (entry k v ps) h = ap (λ (x : Tree). entry k x (renamed_pairs f ps)) (value_itself v (below-left limit (names v) (names_pairs ps) h)) ∙ ap (entry k v) (pairs_itself ps (below-right limit (names v) (names_pairs ps) h))

  present_itself : (os : Present) → AreBelow limit (names_present os) → renamed_present f os ≡ os
  present_itself [] h = refl
  present_itself (o ∷ os) h = ap (λ (x : Tree). (o.0, x) ∷ renamed_present f os) (value_itself o.1 (below-left limit (names o.1) (names_present os) h)) ∙ ap (λ (l : Present). o ∷ l) (present_itself os (below-right limit (names o.1) (names_present os) h))

  members_itself : (c : Members) → AreBelow limit (names_of c) → renamed_members f c ≡ c
  members_itself c h =
      ap (λ (vs : Trees). with_optional vs (renamed_present f c.optional)) (each_itself c.required (below-left limit (names_each c.required) (names_present c.optional) h))
      ∙ ap (with_optional c.required) (present_itself c.optional (below-right limit (names_each c.required) (names_present c.optional) h))

  table_itself : (ns : List ℕ) → AreBelow limit ns → map f ns ≡ ns
  table_itself [] h = refl
  table_itself (n ∷ ns) h = ap (λ (m : ℕ). m ∷ map f ns) (same n h.0) ∙ ap (λ (l : List ℕ). n ∷ l) (table_itself ns h.1)

  slice_itself : (s : Slice) → AreBelow limit (slice_names s) → renamed_slice f s ≡ s
  slice_itself (known class content) h = ap (known class) (members_itself content h)
  slice_itself (unknown id bytes optionals table) h = ap (unknown id bytes optionals) (table_itself table h)

  slices_itself : (ss : List Slice) → AreBelow limit (instance_names ss) → map (renamed_slice f) ss ≡ ss
  slices_itself [] h = refl
  slices_itself (s ∷ ss) h = ap (λ (r : Slice). r ∷ map (renamed_slice f) ss) (slice_itself s (below-left limit (slice_names s) (instance_names ss) h)) ∙ ap (λ (l : List Slice). s ∷ l) (slices_itself ss (below-right limit (slice_names s) (instance_names ss) h))

pub numbered_itself : (h : Graph) → AreBelow (length h.instances) (names_of h.roots) → ((n : ℕ) → n < length h.instances → AreBelow (length h.instances) (instance_names (slices_of h.instances n)))
    → numbered (upto (length h.instances)) h ≡ h
numbered_itself h roots range =
    let limit : ℕ = length h.instances in
    let f : ℕ → ℕ = place (upto limit) in
    let same : (n : ℕ) → n < limit → f n ≡ n = place-upto limit in
    let size : length (numbered (upto limit) h).instances ≡ limit = numbered-length (upto limit) h ∙ length-upto limit in
    let members : renamed_members f h.roots ≡ h.roots = members_itself f limit same h.roots roots in
    let instances : (numbered (upto limit) h).instances ≡ h.instances =
    ext_get_or [] (numbered (upto limit) h).instances h.instances size (λ n lt.
    let inside : n < limit = omega (arith, lt, size) in
    numbered-at (upto limit) h n (omega (arith, inside, length-upto limit))
    ∙ ap (λ (m : ℕ). map (renamed_slice f) (slices_of h.instances m)) (get_or-upto limit n inside)
    ∙ slices_itself f limit same (slices_of h.instances n) (range n inside)) in
    λ i. record { roots = members i; instances = instances i }
