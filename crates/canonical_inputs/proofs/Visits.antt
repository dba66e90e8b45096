-- What a visit leaves: what was listed stays, and visiting each name once is visiting all.
use Rattle.std.proofs.Common.{◌≡◌, ℕ, zero, suc, ◌≤◌, Bool, true, false, ◌||◌, List, [], ◌∷◌, ◌++◌, length, nat_eq, refl, sym, ap, ◌∙◌, subst, arith}
use Rattle.std.proofs.lemmas.Bool.{false≢true, le-ltb}
use Rattle.ice_encoding.specs.Graph.{Slice, known, unknown, Graph}
use Rattle.ice_encoding.specs.Instances.{slices_of}
use Rattle.ice_encoding.specs.Names.{names_of, slice_names, instance_names}
use Rattle.ice_encoding.specs.Visiting.{place, visit_each, visit_at}
use Rattle.ice_encoding.specs.SameGraph.{AreListed}
use Rattle.ice_encoding.specs.CanonicalGraph.{table_of, each_once}
use Rattle.graph_arena.specs.Arena.{AreBelow}
use Rattle.graph_laws.proofs.Upto.{upto, unlisted-upto}
use Rattle.graph_laws.proofs.Once.{once-listed}
use Rattle.graph_laws.proofs.Formed.{listed-below}
use Rattle.canonical_inputs.proofs.Tables.{is_in, in_both, listed_is, each_in, each_new, nat_eq_is, same_eq}

-- ---- names below a number

pub more_below : (i j : ℕ) → i ≤ j → (ns : List ℕ) → AreBelow i ns → AreBelow j ns
more_below i j le [] p = tt
more_below i j le (n ∷ ns) p = (omega (arith, p.0, le), more_below i j le ns p.1)

all_below : (k : ℕ) (table ms : List ℕ) → AreListed table ms → AreBelow k table → AreBelow k ms
all_below k table [] listed below = tt
all_below k table (m ∷ ms) listed below = (listed-below k table m below listed.0, all_below k table ms listed.1 below)

-- what a slice names is in its table
pub table_below : (k : ℕ) (s : Slice) → AreBelow k (table_of s) → AreBelow k (slice_names s)
table_below k (known class content) below = all_below k (each_once [] (names_of content)) (names_of content) (once-listed (names_of content)) below
table_below k (unknown id bytes optionals table) below = below

-- ---- what a visit leaves

in_last : (seen : List ℕ) (n : ℕ) → is_in (seen ++ n ∷ []) n ≡ true
in_last seen n = in_both seen (n ∷ []) n ∙ ap (λ (b : Bool). is_in seen n || (b || false)) (same_eq n) ∙ always (is_in seen n)
  where
    always : (b : Bool) → (b || true) ≡ true
    always true = refl
    always false = refl

in_front : (seen more : List ℕ) (m : ℕ) → is_in seen m ≡ true → is_in (seen ++ more) m ≡ true
in_front seen more m h = in_both seen more m ∙ ap (λ (b : Bool). b || is_in more m) h

abbrev Keeps : (ℕ → List ℕ → List ℕ) → Type 0
Keeps visit = (n m : ℕ) (seen : List ℕ) → is_in seen m ≡ true → is_in (visit n seen) m ≡ true

keeps_each : (visit : ℕ → List ℕ → List ℕ) → Keeps visit → (ns : List ℕ) (m : ℕ) (seen : List ℕ) → is_in seen m ≡ true → is_in (visit_each visit ns seen) m ≡ true
keeps_each visit keeps [] m seen h = h
keeps_each visit keeps (n ∷ ns) m seen h = keeps_each visit keeps ns m (visit n seen) (keeps n m seen h)

module _ (g : Graph) where
  visited_in : (depth n : ℕ) (seen : List ℕ) → is_in seen n ≡ true → visit_at (suc depth) g n seen ≡ seen
  visited_in depth n seen h = rw (listed_is seen n ∙ h, visit_at) refl

  visited_not : (depth n : ℕ) (seen : List ℕ) → is_in seen n ≡ false → visit_at (suc depth) g n seen ≡ visit_each (visit_at depth g) (instance_names (slices_of g.instances n)) (seen ++ n ∷ [])
  visited_not depth n seen h = rw (listed_is seen n ∙ h, visit_at) refl

  -- the next number is not listed yet
  pub not_visited : (depth k : ℕ) → visit_at (suc depth) g k (upto k) ≡ visit_each (visit_at depth g) (instance_names (slices_of g.instances k)) (upto (suc k))
  not_visited depth k = visited_not depth k (upto k) (sym (listed_is (upto k) k) ∙ le-ltb (place (upto k) k) (length (upto k)) (unlisted-upto k k (omega arith)))

  keeps_at : (depth : ℕ) → Keeps (visit_at depth g)
  keeps_at zero n m seen h = h
  keeps_at (suc depth) n m seen h = by_test (is_in seen n) refl (λ ms. keeps_each (visit_at depth g) (keeps_at depth) ms m (seen ++ n ∷ []) (in_front seen (n ∷ []) m h))
    where
      by_test : (b : Bool) → is_in seen n ≡ b → ((ms : List ℕ) → is_in (visit_each (visit_at depth g) ms (seen ++ n ∷ [])) m ≡ true) → is_in (visit_at (suc depth) g n seen) m ≡ true
      by_test true e behind = ap (λ (l : List ℕ). is_in l m) (visited_in depth n seen e) ∙ h
      by_test false e behind = ap (λ (l : List ℕ). is_in l m) (visited_not depth n seen e) ∙ behind (instance_names (slices_of g.instances n))

  lists_at : (depth n : ℕ) (seen : List ℕ) → is_in (visit_at (suc depth) g n seen) n ≡ true
  lists_at depth n seen = by_test (is_in seen n) refl
    where
      by_test : (b : Bool) → is_in seen n ≡ b → is_in (visit_at (suc depth) g n seen) n ≡ true
      by_test true e = ap (λ (l : List ℕ). is_in l n) (visited_in depth n seen e) ∙ e
      by_test false e =
          ap (λ (l : List ℕ). is_in l n) (visited_not depth n seen e)
          ∙ keeps_each (visit_at depth g) (keeps_at depth) (instance_names (slices_of g.instances n)) n (seen ++ n ∷ []) (in_last seen n)

  -- visiting each once is visiting all
  once_each : (depth : ℕ) (ns before seen : List ℕ) → ((m : ℕ) → is_in before m ≡ true → is_in seen m ≡ true) → visit_each (visit_at (suc depth) g) (each_once before ns) seen ≡ visit_each (visit_at (suc depth) g) ns seen
  once_each depth [] before seen had = refl
  once_each depth (n ∷ ns) before seen had = by_test (is_in before n) refl (once_each depth ns)
    where
      more : (m : ℕ) → is_in (n ∷ before) m ≡ true → is_in (visit_at (suc depth) g n seen) m ≡ true
      more m h = by_name (nat_eq n m) refl h
        where
          by_name : (b : Bool) → nat_eq n m ≡ b → (nat_eq n m || is_in before m) ≡ true → is_in (visit_at (suc depth) g n seen) m ≡ true
          by_name true e is = subst (λ (x : ℕ). is_in (visit_at (suc depth) g n seen) x ≡ true) (nat_eq_is n m e) (lists_at depth n seen)
          by_name false e is = keeps_at (suc depth) n m seen (had m (sym (ap (λ (b : Bool). b || is_in before m) e) ∙ is))

      by_test : (b : Bool) → is_in before n ≡ b
          → ((before seen : List ℕ) → ((m : ℕ) → is_in before m ≡ true → is_in seen m ≡ true) → visit_each (visit_at (suc depth) g) (each_once before ns) seen ≡ visit_each (visit_at (suc depth) g) ns seen)
          → visit_each (visit_at (suc depth) g) (each_once before (n ∷ ns)) seen ≡ visit_each (visit_at (suc depth) g) (n ∷ ns) seen
      by_test true e behind =
          ap (λ (l : List ℕ). visit_each (visit_at (suc depth) g) l seen) (each_in before ns n (listed_is before n ∙ e)) ∙ behind before seen had
          ∙ sym (ap (visit_each (visit_at (suc depth) g) ns) (visited_in depth n seen (had n e)))
      by_test false e behind =
          ap (λ (l : List ℕ). visit_each (visit_at (suc depth) g) l seen) (each_new before ns n (listed_is before n ∙ e)) ∙ behind (n ∷ before) (visit_at (suc depth) g n seen) more

  -- what a slice names is visited as its table is
  pub table_visited : (depth : ℕ) (s : Slice) (seen : List ℕ) → visit_each (visit_at (suc depth) g) (slice_names s) seen ≡ visit_each (visit_at (suc depth) g) (table_of s) seen
  table_visited depth (known class content) seen = sym (once_each depth (names_of content) [] seen (λ m h. absurd (false≢true h)))
  table_visited depth (unknown id bytes optionals table) seen = refl
