-- What is written for a graph whose names are numbers by first visit spells that graph.
use Rattle.std.proofs.Common.{ℕ, zero, suc, ◌+◌, ◌<◌, ◌≤◌, ◌^◌, ◌≡◌, ◌≢◌, Bool, true, false, cond, ltb, List, [], ◌∷◌, ◌++◌, length, refl, sym, ap, ◌∙◌, subst, arith, inl, inr, Option, Some, None}
use Rattle.std.specs.Int.{w32, to_le_bytes}
use Rattle.std.proofs.lemmas.Bool.{cases_lt, ltb-true, ltb-false, lt-ltb}
use Rattle.std.proofs.lemmas.List.{length-append, append-nil, get_or_append_left, ext_get_or}
use Rattle.ice_types.specs.declared.declarations.Shape.{Shape}
use Rattle.ice_types.specs.Tables.{Tables}
use Rattle.ice_prims.specs.Bytes.{size_bytes}
use Rattle.ice_encoding.specs.Port.{Port}
use Rattle.ice_encoding.specs.Typed.{Refers}
use Rattle.ice_encoding.specs.Writing.{Piece}
use Rattle.ice_encoding.specs.Pausing.{Put, written_begun, written_in_place}
use Rattle.ice_encoding.specs.OptionalMembers.{SpellsContent}
use Rattle.ice_encoding.specs.Graph.{Slice, Graph}
use Rattle.ice_encoding.specs.Names.{listed_name, names_of, instance_names}
use Rattle.ice_encoding.specs.References.{State, met_at, opening, with_met, with_ended, replaced, beginning, Begins, GoesBack}
use Rattle.ice_encoding.specs.Flags.{Reach}
use Rattle.ice_encoding.specs.Slices.{SpellsInstance}
use Rattle.ice_encoding.specs.Instances.{instances, slices_of, class_of, class_fits, AllFit}
use Rattle.ice_encoding.specs.Visiting.{visit_each, visit_at, most}
use Rattle.ice_encoding.specs.TypedGraph.{AreMembers, IsInstance, IsHeldIn, RefersUpTo}
use Rattle.ice_encoding.specs.CanonicalGraph.{Pen, Format, written_as, put_inline, written_instance, with_one_begun, blank, bytes_of}
use Rattle.graph_arena.specs.Arena.{AreBelow}
pub use Rattle.graph_laws.proofs.TypedGraphs.{replaced_length, replaced_at, replaced_else}
use Rattle.graph_laws.proofs.TypeIds.{Spelled, HaveTexts, null_at, back_at}
use Rattle.graph_laws.proofs.ClassIds.{AreSpelled}
use Rattle.graph_laws.proofs.Formed.{Asked}
use Rattle.graph_laws.proofs.Upto.{upto, upto-one, visit-grows}
use Rattle.graph_laws.proofs.Once.{listed-stays, entered, next, once-run}
use Rattle.graph_laws.proofs.WrittenValues.{Relation, Limits, size_spelled}
use Rattle.graph_laws.proofs.WrittenMembers.{content_good}
use Rattle.graph_laws.proofs.InlineRules.{Goes, Stands, inline_rules, all_fit_more}
use Rattle.graph_laws.proofs.WrittenSlices.{as_good}

size_long : (n : ℕ) → 1 ≤ length (size_bytes n)
size_long n = by_test (ltb n 255)
  where
    by_test : (b : Bool) → 1 ≤ length (cond b (n ∷ []) (255 ∷ to_le_bytes w32 n))
    by_test true = omega arith
    by_test false = omega arith

instance_some : (t : Tables) (Refer : Refers) (slices : List Slice) → IsInstance t Refer slices → slices ≢ []
instance_some t Refer [] h e = absurd h
instance_some t Refer (s ∷ ss) h e = absurd cc

-- the bytes are what is written for these slices
pub record IsWritten (t : Tables) (format : Format) (bytes : List ℕ) (slices : List Slice) : Type 0 where
  pub refer : Option ℕ → Piece Pen
  pub pen : Pen
  pub is : bytes ≡ (written_as t refer format slices pen).0
  pub some : slices ≢ []

-- How references stand, where so many instances may still begin one inside the other: null, one that has begun, and one
-- that begins where it is written.
pub record Inline (t : Tables) (reach : Reach) (format : Format) (room : ℕ) (ports : ℕ → Port (State ℕ) Spelled) : Type 0 where
  pub null : (more : ℕ) (declared : Option ℕ) (s : Spelled) → (ports more).Spells declared (size_bytes 0) None s s
  pub again : (more : ℕ) (declared : Option ℕ) (bytes : List ℕ) (n : ℕ) (from to : Spelled) → GoesBack room declared bytes n from to → (ports more).Spells declared bytes (Some n) from to
  pub new : (more : ℕ) (declared : Option ℕ) (bytes : List ℕ) (n : ℕ) (from to : Spelled)
      → Begins room (λ b slices from to. IsWritten t format b slices × SpellsInstance (ports more) t reach b slices from to) declared bytes n from to → (ports (suc more)).Spells declared bytes (Some n) from to

module _ (t : Tables) (named : AreSpelled t) (reach : Reach) (format : Format) (l : Limits) (k : Graph) (room : ℕ) (fits : length k.instances ≤ room) (small_graph : length k.instances + 2 < 2 ^ 31)
    (typed : (n : ℕ) → n < length k.instances → IsInstance t (RefersUpTo t l.most k.instances) (slices_of k.instances n)) (asked : (n : ℕ) → n < length k.instances → Asked reach format (slices_of k.instances n) × HaveTexts t (slices_of k.instances n))
    (range : (n : ℕ) → n < length k.instances → AreBelow (length k.instances) (instance_names (slices_of k.instances n)))
    (ports : ℕ → Port (State ℕ) Spelled) (stand : Inline t reach format room ports) where
  abbrev pub limit : ℕ
  limit = length k.instances

  -- as deep as instances may still begin
  abbrev pub Ready : ℕ → ℕ → ℕ → Type 0
  Ready depth more i = (limit ≤ depth + i) × (limit ≤ more + i)

  pub ready : (depth more i j : ℕ) → Ready depth more i → i ≤ j → Ready depth more j
  ready depth more i j h le = (omega (arith, h.0, le), omega (arith, h.1, le))

  abbrev pub refer : ℕ → Option ℕ → Piece Pen
  refer depth = written_in_place put_inline (written_instance t format k depth)

  -- what is written for a name, by whether the instance has begun
  abbrev put_by : Bool → ℕ → Pen → Put Pen
  put_by begun n p = elim begun [
    | true ↦ record { bytes = size_bytes (suc (suc n)); begun = None; after = p }
    | false ↦ record { bytes = size_bytes 1; begun = Some n; after = p }
  ]

  abbrev put_named : Bool → ℕ → ℕ → Piece Pen
  put_named begun depth n p = let q = put_by begun n p in let b = written_begun (written_instance t format k depth) q.begun q.after in (q.bytes ++ b.0, b.1)

  abbrev pub GoesAt : ℕ → ℕ → Option ℕ → Option ℕ → Type 0
  GoesAt depth more declared n = (from : Spelled) (p : Pen) (j : ℕ) → Stands t k from p → Ready depth more p.begun → visit_each (visit_at depth k) (listed_name n) (upto p.begun) ≡ upto j → length p.ids + length (refer depth n p).0 ≤ l.bound
      → Goes t k (λ b from to. (ports more).Spells declared b n from to) from p (refer depth n p) j

  abbrev pub Rising : ℕ → ℕ → Type 0
  Rising depth more = (declared n : Option ℕ) → IsHeldIn t k.instances declared n → GoesAt depth more declared n

  named_long : (b : Bool) (depth n : ℕ) (p : Pen) → 1 ≤ length (put_named b depth n p).0
  named_long true depth n p = omega (arith, size_long (suc (suc n)), length-append (size_bytes (suc (suc n))) [])
  named_long false depth n p = omega (arith, length-append (size_bytes 1) (written_instance t format k depth n p).0)

  pub refer_long : (depth n : ℕ) (p : Pen) → 1 ≤ length (refer depth (Some n) p).0
  refer_long depth n p = named_long (ltb n p.begun) depth n p

  -- one that has begun
  back : (depth more : ℕ) (declared : Option ℕ) (n : ℕ) → IsHeldIn t k.instances declared (Some n) → (from : Spelled) (p : Pen) (j : ℕ) → Stands t k from p → n < p.begun → visit_at depth k n (upto p.begun) ≡ upto j
      → Goes t k (λ b from to. (ports more).Spells declared b (Some n) from to) from p (put_named true depth n p) j
  back depth more declared n refers from p j stands lt run =
      let j_is = upto-one p.begun j (sym (listed-stays depth k n p.begun lt) ∙ run) in
      record {
        end = with_met (met_at tt declared n ∷ []) from;
        spelled = subst (λ (b : List ℕ). (ports more).Spells declared b (Some n) from (with_met (met_at tt declared n ∷ []) from)) (sym (append-nil (size_bytes (suc (suc n))))) (stand.again more declared (size_bytes (suc (suc n))) n from (with_met (met_at tt declared n ∷ []) from) (size_spelled (suc (suc n)) (omega (arith, refers.0, small_graph)), omega (arith, stands.count, lt), refl));
        count = stands.count ∙ j_is;
        begun = j_is;
        ids = stands.ids;
        many = omega arith;
        earlier = λ m less. refl;
        inside = λ m le less. absurd (omega (arith, le, less, stands.count, j_is));
        fit = λ h. all_fit_more t k.instances from.met (met_at tt declared n ∷ []) h (refers.1, tt);
      }

  -- one that begins
  begins : (depth more : ℕ) → Rising depth more → (declared : Option ℕ) (n : ℕ) → IsHeldIn t k.instances declared (Some n) → (from : Spelled) (p : Pen) (j : ℕ) → Stands t k from p → Ready (suc depth) (suc more) p.begun → p.begun ≤ n → visit_at (suc depth) k n (upto p.begun) ≡ upto j
      → length p.ids + length (put_named false (suc depth) n p).0 ≤ l.bound
      → Goes t k (λ b from to. (ports (suc more)).Spells declared b (Some n) from to) from p (put_named false (suc depth) n p) j
  begins depth more rising declared n refers from p j stands is_ready le run small =
      let slices : List Slice = slices_of k.instances n in
      let out = written_instance t format k (suc depth) n p in
      let long = length-append (size_bytes 1) out.0 in
      let e = entered depth k n p.begun j le run in
      let x = next depth k n p.begun j e in
      let run' : visit_each (visit_at depth k) (instance_names slices) (upto (suc p.begun)) ≡ upto j = ap (λ (m : ℕ). visit_each (visit_at depth k) (instance_names slices) (upto p.begun ++ m ∷ [])) (sym x.is) ∙ e in
      let start : Spelled = beginning tt declared from in
      let started : length start.instances ≡ suc p.begun = length-append from.instances ([] ∷ []) ∙ omega (arith, stands.count) in
      let g = as_good t named reach k l (visit_at depth k) (visit-grows depth k) (Ready depth more) (ready depth more) (ports more) (refer depth) (l.fit, rising) (refer_long depth)
      (λ ns i j h below run. once-run k limit depth [] ns i j h.0 tt below run) format slices (asked n refers.0).0 (asked n refers.0).1 (typed n refers.0) (range n refers.0) start (with_one_begun p) j (record { count = started; ids = stands.ids })
      (omega (arith, is_ready.0), omega (arith, is_ready.1)) run' (omega (arith, small, long)) in
      let at : n ≡ length from.instances = x.is ∙ sym stands.count in
      let below_end : n < length g.end.instances = omega (arith, g.count, x.is, x.below) in
      record {
        end = with_ended n slices g.end;
        spelled = stand.new more declared (size_bytes 1 ++ out.0) n from (with_ended n slices g.end)
            (slices, size_bytes 1, out.0, g.end, refl, size_spelled 1 (omega arith), at, lt-ltb n room (omega (arith, refers.0, fits)), (record { refer = refer depth; pen = with_one_begun p; is = refl; some = instance_some t (RefersUpTo t l.most k.instances) slices (typed n refers.0) }, g.spelled), refl);
        count = replaced_length n slices g.end.instances ∙ g.count;
        begun = g.begun;
        ids = g.ids;
        many = omega (arith, g.many, long);
        earlier = λ m less. replaced_else n m slices g.end.instances (λ same. omega (arith, same, at, less)) ∙ g.earlier m (omega (arith, started, less, stands.count)) ∙ get_or_append_left from.instances ([] ∷ []) [] m less;
        inside = λ m le' less. elim (cases_lt n m) [
          | inl lt ↦ replaced_else n m slices g.end.instances (λ same. omega (arith, same, lt)) ∙ g.inside m (omega (arith, started, x.is, lt)) less
          | inr ge ↦ (let same : n ≡ m = omega (arith, ge, le', at) in subst (λ (i : ℕ). slices_of (replaced n slices g.end.instances) i ≡ slices_of k.instances i) same (replaced_at n slices g.end.instances below_end))
        ];
        fit = λ h. g.fit (all_fit_more t k.instances from.met (met_at tt declared (length from.instances) ∷ []) h (subst (λ (i : ℕ). class_fits t declared (class_of (slices_of k.instances i)) ≡ true) at refers.1, tt));
      }

  by_begun : (R : Relation Spelled) (from : Spelled) (p : Pen) (j depth n : ℕ) (b : Bool) → length p.ids + length (put_named b depth n p).0 ≤ l.bound
      → (b ≡ true → Goes t k R from p (put_named true depth n p) j) → (b ≡ false → length p.ids + length (put_named false depth n p).0 ≤ l.bound → Goes t k R from p (put_named false depth n p) j) → Goes t k R from p (put_named b depth n p) j
  by_begun R from p j depth n true small f g = f refl
  by_begun R from p j depth n false small f g = g refl small

  pub rising : (depth more : ℕ) → Rising depth more
  rising depth more declared None refers from p j stands is_ready run small =
      let j_is = upto-one p.begun j run in
      record {
        end = from;
        spelled = stand.null more declared from;
        count = stands.count ∙ j_is;
        begun = j_is;
        ids = stands.ids;
        many = omega arith;
        earlier = λ m less. refl;
        inside = λ m le less. absurd (omega (arith, le, less, stands.count, j_is));
        fit = λ h. h;
      }
  rising zero more declared (Some n) refers from p j stands is_ready run small =
      by_begun (λ b from to. (ports more).Spells declared b (Some n) from to) from p j zero n (ltb n p.begun) small
      (λ e. back zero more declared n refers from p j stands (ltb-true n p.begun e) run) (λ e less. absurd (omega (arith, ltb-false n p.begun e, refers.0, is_ready.0)))
  rising (suc depth) zero declared (Some n) refers from p j stands is_ready run small =
      by_begun (λ b from to. (ports 0).Spells declared b (Some n) from to) from p j (suc depth) n (ltb n p.begun) small
      (λ e. back (suc depth) zero declared n refers from p j stands (ltb-true n p.begun e) run) (λ e less. absurd (omega (arith, ltb-false n p.begun e, refers.0, is_ready.1)))
  rising (suc depth) (suc more) declared (Some n) refers from p j stands is_ready run small =
      by_begun (λ b from to. (ports (suc more)).Spells declared b (Some n) from to) from p j (suc depth) n (ltb n p.begun) small
      (λ e. back (suc depth) (suc more) declared n refers from p j stands (ltb-true n p.begun e) run) (λ e less. begins depth more (rising depth more) declared n refers from p j stands is_ready (ltb-false n p.begun e) run less)

  -- the whole, where visits of the roots list all
  pub content_written : (more : ℕ) (shape : Shape) → AreMembers t (RefersUpTo t l.most k.instances) shape k.roots → limit ≤ most → limit ≤ more → visit_each (visit_at most k) (names_of k.roots) [] ≡ upto limit → length (bytes_of t shape format k) ≤ l.bound
      → (end : Spelled) × SpellsContent (ports more) t shape (bytes_of t shape format k) k.roots opening end × (end.instances ≡ k.instances) × AllFit t k.instances end.met
  content_written more shape h deep wide run small =
      let g = content_good (inline_rules t k l (visit_at most k) (visit-grows most k) (Ready most more) (ready most more)) t (ports more) (refer most) (RefersUpTo t l.most k.instances) (l.fit, rising most more) shape k.roots h
      opening blank limit (record { count = refl; ids = refl }) (omega (arith, deep), omega (arith, wide)) run (omega (arith, small)) in
      (g.end, g.spelled, ext_get_or [] g.end.instances k.instances g.count (λ n lt. g.inside n (omega arith) (omega (arith, g.count, lt))), g.fit tt)

-- instances as they are in either format
pub inline_instances : (t : Tables) (reach : Reach) (format : Format) (room : ℕ) → Inline t reach format room (instances t reach room)
inline_instances t reach format room = record {
  null = null_at t reach room;
  again = back_at t reach room;
  new = λ more declared bytes n from to h. inl (h.0, h.1, h.2, h.3, h.4, h.5, h.6, h.7, h.8.1, h.9);
}

module _ (t : Tables) (named : AreSpelled t) (reach : Reach) (format : Format) (l : Limits) (k : Graph) (room : ℕ) (fits : length k.instances ≤ room) (small_graph : length k.instances + 2 < 2 ^ 31)
    (typed : (n : ℕ) → n < length k.instances → IsInstance t (RefersUpTo t l.most k.instances) (slices_of k.instances n)) (asked : (n : ℕ) → n < length k.instances → Asked reach format (slices_of k.instances n) × HaveTexts t (slices_of k.instances n))
    (range : (n : ℕ) → n < length k.instances → AreBelow (length k.instances) (instance_names (slices_of k.instances n))) where
  pub content_spelled : (more : ℕ) (shape : Shape) → AreMembers t (RefersUpTo t l.most k.instances) shape k.roots → length k.instances ≤ most → length k.instances ≤ more → visit_each (visit_at most k) (names_of k.roots) [] ≡ upto (length k.instances)
      → length (bytes_of t shape format k) ≤ l.bound → (end : Spelled) × SpellsContent (instances t reach room more) t shape (bytes_of t shape format k) k.roots opening end × (end.instances ≡ k.instances) × AllFit t k.instances end.met
  content_spelled = content_written t named reach format l k room fits small_graph typed asked range (instances t reach room) (inline_instances t reach format room)
