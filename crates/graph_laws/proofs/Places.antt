-- Names by their places in a list.
use Rattle.std.proofs.Common.{ℕ, suc, ◌<◌, ◌≡◌, Bool, true, false, cond, eqb, List, [], ◌∷◌, ◌++◌, length, map, get_or, refl, sym, ap, ◌∙◌, arith, Some, None, inl, inr, Option}
use Rattle.std.proofs.lemmas.Bool.{cases_eq, eqb-true, eq-eqb, ne_eqb}
use Rattle.std.proofs.lemmas.List.{length-map}
use Rattle.ice_encoding.specs.Tree.{Tree, boolean, byte, short, int, long, text, sequence, dictionary, struct, enumerator, proxy, reference, Trees, none, tree, Entries, no_entry, entry}
use Rattle.ice_encoding.specs.Optionals.{Present}
use Rattle.ice_encoding.specs.OptionalMembers.{Members, with_optional}
use Rattle.ice_encoding.specs.Graph.{Slice, known, unknown}
use Rattle.ice_encoding.specs.Names.{listed_name, names, names_each, names_pairs, names_present, names_of, slice_names, instance_names, renamed_name, renamed, renamed_each, renamed_pairs, renamed_present, renamed_members, renamed_slice}
use Rattle.ice_encoding.specs.Visiting.{place, is_listed}
use Rattle.ice_encoding.specs.SameGraph.{AreListed}

get-place_cases : (m n : ℕ) (ms : List ℕ) (d : ℕ) (b : Bool) → eqb m n ≡ b → (place ms n < length ms → get_or ms (place ms n) d ≡ n) → cond b 0 (suc (place ms n)) < suc (length ms) → get_or (m ∷ ms) (cond b 0 (suc (place ms n))) d ≡ n
get-place_cases m n ms d true e more lt = eqb-true m n e
get-place_cases m n ms d false e more lt = more (omega arith)

pub get-place : (ns : List ℕ) (n d : ℕ) → place ns n < length ns → get_or ns (place ns n) d ≡ n
get-place [] n d lt = absurd (omega arith)
get-place (m ∷ ms) n d lt = get-place_cases m n ms d (eqb m n) refl (get-place ms n d) lt

pub place-once : (ns : List ℕ) (n m : ℕ) → place ns n < length ns → place ns m < length ns → place ns n ≡ place ns m → n ≡ m
place-once ns n m n-in m-in e = sym (get-place ns n 0 n-in) ∙ ap (λ (i : ℕ). get_or ns i 0) e ∙ get-place ns m 0 m-in

eqb-place : (ns : List ℕ) (m n : ℕ) → place ns m < length ns → place ns n < length ns → eqb (place ns m) (place ns n) ≡ eqb m n
eqb-place ns m n m-in n-in = elim (cases_eq m n) [
  | inl e ↦ eq-eqb (place ns m) (place ns n) (ap (place ns) e) ∙ sym (eq-eqb m n e)
  | inr apart ↦ ne_eqb (place ns m) (place ns n) (λ e. apart (place-once ns m n m-in n-in e)) ∙ sym (ne_eqb m n apart)
]

pub place-map : (ns seen : List ℕ) (n : ℕ) → AreListed ns seen → place ns n < length ns → place (map (place ns) seen) (place ns n) ≡ place seen n
place-map ns [] n listed n-in = refl
place-map ns (m ∷ ms) n listed n-in = rw (eqb-place ns m n listed.0 n-in, place-map ns ms n listed.1 n-in) refl

pub is_listed-map : (ns seen : List ℕ) (n : ℕ) → AreListed ns seen → place ns n < length ns → is_listed (map (place ns) seen) (place ns n) ≡ is_listed seen n
is_listed-map ns seen n listed n-in = rw (place-map ns seen n listed n-in, length-map {A = ℕ} {B = ℕ} seen (place ns)) refl

pub AreListed-append : (ns a b : List ℕ) → AreListed ns a → AreListed ns b → AreListed ns (a ++ b)
AreListed-append ns [] b p q = q
AreListed-append ns (n ∷ a) b p q = (p.0, AreListed-append ns a b p.1 q)

pub AreListed-left : (ns a b : List ℕ) → AreListed ns (a ++ b) → AreListed ns a
AreListed-left ns [] b p = tt
AreListed-left ns (n ∷ a) b p = (p.0, AreListed-left ns a b p.1)

pub AreListed-right : (ns a b : List ℕ) → AreListed ns (a ++ b) → AreListed ns b
AreListed-right ns [] b p = p
AreListed-right ns (n ∷ a) b p = AreListed-right ns a b p.1

-- ---- renaming twice is renaming once

abbrev pub Fuse : (ℕ → ℕ) → (ℕ → ℕ) → (ℕ → ℕ) → List ℕ → Type 0
Fuse h f k ns = (n : ℕ) → place ns n < length ns → h (f n) ≡ k n

name-fused : (h f k : ℕ → ℕ) (ns : List ℕ) → Fuse h f k ns → (n : Option ℕ) → AreListed ns (listed_name n) → renamed_name h (renamed_name f n) ≡ renamed_name k n
name-fused h f k ns fuse None listed = refl
name-fused h f k ns fuse (Some n) listed = ap Some (fuse n listed.0)

mutual
  fused : (h f k : ℕ → ℕ) (ns : List ℕ) → Fuse h f k ns → (v : Tree) → AreListed ns (names v) → renamed h (renamed f v) ≡ renamed k v
  fused h f k ns fuse (boolean b) listed = refl
  fused h f k ns fuse (byte n) listed = refl
  fused h f k ns fuse (short z) listed = refl
  fused h f k ns fuse (int z) listed = refl
  fused h f k ns fuse (long z) listed = refl
  fused h f k ns fuse (text s) listed = refl
  fused h f k ns fuse (sequence vs) listed = ap sequence (fused_each h f k ns fuse vs listed)
  fused h f k ns fuse (dictionary ps) listed = ap dictionary (fused_pairs h f k ns fuse ps listed)
  fused h f k ns fuse (struct vs) listed = ap struct (fused_each h f k ns fuse vs listed)
  fused h f k ns fuse (enumerator n) listed = refl
  fused h f k ns fuse (proxy p) listed = refl
  fused h f k ns fuse (reference n) listed = ap reference (name-fused h f k ns fuse n listed)

  fused_each : (h f k : ℕ → ℕ) (ns : List ℕ) → Fuse h f k ns → (vs : Trees) → AreListed ns (names_each vs) → renamed_each h (renamed_each f vs) ≡ renamed_each k vs
  fused_each h f k ns fuse none listed = refl
  fused_each h f k ns fuse (tree v vs) listed =
      let one = fused h f k ns fuse v (AreListed-left ns (names v) (names_each vs) listed) in
      let others = fused_each h f k ns fuse vs (AreListed-right ns (names v) (names_each vs) listed) in
      cc (one, others)

  fused_pairs : (h f k : ℕ → ℕ) (ns : List ℕ) → Fuse h f k ns → (ps : Entries) → AreListed ns (names_pairs ps) → renamed_pairs h (renamed_pairs f ps) ≡ renamed_pairs k ps
  fused_pairs h f k ns fuse no_entry listed = refl
  fused_pairs h f k ns fuse (entry key v ps) listed =
      let one = fused h f k ns fuse v (AreListed-left ns (names v) (names_pairs ps) listed) in
      let others = fused_pairs h f k ns fuse ps (AreListed-right ns (names v) (names_pairs ps) listed) in
      cc (one, others)

fused_present : (h f k : ℕ → ℕ) (ns : List ℕ) → Fuse h f k ns → (os : Present) → AreListed ns (names_present os) → renamed_present h (renamed_present f os) ≡ renamed_present k os
fused_present h f k ns fuse [] listed = refl
fused_present h f k ns fuse (o ∷ os) listed =
    let one = fused h f k ns fuse o.1 (AreListed-left ns (names o.1) (names_present os) listed) in
    let others = fused_present h f k ns fuse os (AreListed-right ns (names o.1) (names_present os) listed) in
    λ i. (o.0, one i) ∷ others i

pub fused_members : (h f k : ℕ → ℕ) (ns : List ℕ) → Fuse h f k ns → (c : Members) → AreListed ns (names_of c) → renamed_members h (renamed_members f c) ≡ renamed_members k c
fused_members h f k ns fuse c listed =
    let one = fused_each h f k ns fuse c.required (AreListed-left ns (names_each c.required) (names_present c.optional) listed) in
    let others = fused_present h f k ns fuse c.optional (AreListed-right ns (names_each c.required) (names_present c.optional) listed) in
    λ i. with_optional (one i) (others i)

map-fused : (h f k : ℕ → ℕ) (ns : List ℕ) → Fuse h f k ns → (table : List ℕ) → AreListed ns table → map h (map f table) ≡ map k table
map-fused h f k ns fuse [] listed = refl
map-fused h f k ns fuse (n ∷ table) listed = cc (fuse n listed.0, map-fused h f k ns fuse table listed.1)

slice-fused : (h f k : ℕ → ℕ) (ns : List ℕ) → Fuse h f k ns → (s : Slice) → AreListed ns (slice_names s) → renamed_slice h (renamed_slice f s) ≡ renamed_slice k s
slice-fused h f k ns fuse (known class content) listed = ap (known class) (fused_members h f k ns fuse content listed)
slice-fused h f k ns fuse (unknown id bytes optionals table) listed = ap (unknown id bytes optionals) (map-fused h f k ns fuse table listed)

pub slices-fused : (h f k : ℕ → ℕ) (ns : List ℕ) → Fuse h f k ns → (ss : List Slice) → AreListed ns (instance_names ss) → map (renamed_slice h) (map (renamed_slice f) ss) ≡ map (renamed_slice k) ss
slices-fused h f k ns fuse [] listed = refl
slices-fused h f k ns fuse (s ∷ ss) listed =
    cc (slice-fused h f k ns fuse s (AreListed-left ns (slice_names s) (instance_names ss) listed), slices-fused h f k ns fuse ss (AreListed-right ns (slice_names s) (instance_names ss) listed))

-- ---- names that stay

name-same : (n : Option ℕ) → renamed_name (λ m. m) n ≡ n
name-same None = refl
name-same (Some n) = refl

mutual
  same-renamed : (v : Tree) → renamed (λ m. m) v ≡ v
  same-renamed (boolean b) = refl
  same-renamed (byte n) = refl
  same-renamed (short z) = refl
  same-renamed (int z) = refl
  same-renamed (long z) = refl
  same-renamed (text s) = refl
  same-renamed (sequence vs) = ap sequence (same-each vs)
  same-renamed (dictionary ps) = ap dictionary (same-pairs ps)
  same-renamed (struct vs) = ap struct (same-each vs)
  same-renamed (enumerator n) = refl
  same-renamed (proxy p) = refl
  same-renamed (reference n) = ap reference (name-same n)

  same-each : (vs : Trees) → renamed_each (λ m. m) vs ≡ vs
  same-each none = refl
  same-each (tree v vs) = cc (same-renamed v, same-each vs)

  same-pairs : (ps : Entries) → renamed_pairs (λ m. m) ps ≡ ps
  same-pairs no_entry = refl
  same-pairs (entry k v ps) = cc (same-renamed v, same-pairs ps)

same-present : (os : Present) → renamed_present (λ m. m) os ≡ os
same-present [] = refl
same-present (o ∷ os) = let one = same-renamed o.1 in let others = same-present os in λ i. (o.0, one i) ∷ others i

same-members : (c : Members) → renamed_members (λ m. m) c ≡ c
same-members c = λ i. with_optional (same-each c.required i) (same-present c.optional i)

-- the names at the places of names are the names
pub members-back : (ns : List ℕ) (c : Members) → AreListed ns (names_of c) → renamed_members (λ i. get_or ns i 0) (renamed_members (place ns) c) ≡ c
members-back ns c listed = fused_members (λ i. get_or ns i 0) (place ns) (λ m. m) ns (λ n n-in. get-place ns n 0 n-in) c listed ∙ same-members c
