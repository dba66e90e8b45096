-- Each step leaves less to do.
use Rattle.std.proofs.Common.{◌≡◌, ℕ, zero, suc, ◌+◌, ◌*◌, ◌^◌, ◌<◌, ◌≤◌, List, [], ◌∷◌, ◌++◌, length, slice_get, Option, None, Some, Result, Ok, Err, Bool, true, false, refl, sym, ap, ◌∙◌, subst, arith}
use Rattle.std.proofs.lemmas.List.{length-replicate, length-map}
use Rattle.std.proofs.Math.Nat.{mul-le-mul_right, suc-mul}
use Rattle.ice_prims.specs.declared.fault.ReadFault.{ReadFault}
use Rattle.ice_prims.specs.declared.fault.Fault.{Fault}
use Rattle.ice_types.specs.declared.kind.TypeRef.{TypeRef}
use Rattle.ice_types.specs.declared.declarations.StructDecl.{StructDecl}
use Rattle.ice_types.specs.Tables.{Tables}
use Rattle.ice_encoding.specs.Tree.{Tree, Trees, Entries}
use Rattle.ice_encoding.specs.Order.{has_key}
use Rattle.ice_values.specs.declared.frame.Part.TheVariants.{Next, Begun, Equal}
use Rattle.ice_values.specs.declared.frame.Assembly.{Assembly}
use Rattle.ice_values.specs.declared.left.Left.{Left}
use Rattle.ice_values.specs.declared.left.Left.TheVariants as lefts
use Rattle.ice_values.specs.declared.frame.Frame.{Frame}
use Rattle.ice_values.specs.declared.reader.ValueReader.{ValueReader}
use Rattle.value_parts.specs.declared.paused.Step.{Step}
use Rattle.value_parts.specs.Pauses.{LessOnStep}
use Rattle.graph_arena.specs.declared.value.Value.{Value}
use Rattle.ice_values.specs.Frames.{Open, each, pairs, opened, given, with_key, kinds_left, members_of, Asks}
use Rattle.ice_values.specs.Going.{Gives}
use Rattle.ice_values.proofs.Frames.{levels_of}
use Rattle.ice_values.specs.Cost.{members_in, width, weight, open_wants, wants, frames_cost, cost}

module _ (t : Tables) where
  weight-positive : (levels : ℕ) → 0 < weight t levels
  unfolding weight
  weight-positive zero = omega arith
  weight-positive (suc levels) = omega arith

  frames-push : (fs : List Frame) (f : Frame) → frames_cost t (fs ++ f ∷ []) ≡ frames_cost t fs + wants t f
  frames-push [] f = omega arith
  frames-push (g ∷ fs) f = let rest = frames-push fs f in omega arith

  open-given : (o : Open) (v : Tree) → open_wants t (given o v) ≡ open_wants t o
  unfolding open_wants
  open-given (each sort levels left had) v = refl
  open-given (pairs levels key value left Next None had) v = refl
  open-given (pairs levels key value left Next (Some k) had) v = refl
  open-given (pairs levels key value left (Begun at) None had) v = by_test (has_key v had)
    where
      by_test : (b : Bool) → open_wants t (with_key b levels key value left at v had) ≡ 1 + (2 * left + 1) * weight t levels
      by_test true = refl
      by_test false = refl
  open-given (pairs levels key value left (Begun at) (Some k) had) v = refl
  open-given (pairs levels key value left (Equal at) None had) v = refl
  open-given (pairs levels key value left (Equal at) (Some k) had) v = refl

  -- a part that is read costs nothing more
  given-cost : (old new : ValueReader) (v : Tree) → Gives v old new → cost t new ≡ cost t old
  given-cost old new v (below, top) =
      ap (λ (o : Open). open_wants t o + frames_cost t new.below) top
      ∙ ap (λ (n : ℕ). n + frames_cost t new.below) (open-given (opened old.top) v)
      ∙ ap (λ (fs : List Frame). wants t old.top + frames_cost t fs) below

  pub given-less : (levels : ℕ) (old new : ValueReader) (v : Tree) → Gives v old new → cost t new < weight t (suc levels) + cost t old
  given-less levels old new v given = omega (arith, weight-positive (suc levels), given-cost old new v given)

  fewer-parts : (levels count : ℕ) → count ≤ width t → 1 + count * weight t levels < weight t (suc levels)
  unfolding weight
  fewer-parts levels count le = let all = mul-le-mul_right (weight t levels) le in omega (arith, all)

  -- a value with parts begins
  pub begun-less : (levels : ℕ) (old new : ValueReader) (f : Frame) → new.top ≡ f → new.below ≡ old.below ++ old.top ∷ [] → wants t f < weight t (suc levels) → cost t new < weight t (suc levels) + cost t old
  begun-less levels old new f top below fewer =
      let now : cost t new ≡ wants t f + (frames_cost t old.below + wants t old.top) =
      ap (λ (g : Frame). wants t g + frames_cost t new.below) top ∙ ap (λ (n : ℕ). wants t f + n) (ap (frames_cost t) below ∙ frames-push old.below old.top) in
      omega arith

  pub items-fewer : (levels : ℕ) (sort : Assembly) (kind : TypeRef) (n : ℕ) (had : Trees) → n < 2 ^ 32 → open_wants t (each sort levels (lefts.Items kind n) had) < weight t (suc levels)
  unfolding width open_wants
  items-fewer levels sort kind n had lt = rw (length-replicate n kind) (fewer-parts levels n (omega (arith, lt)))

  pub pairs-fewer : (levels : ℕ) (key value : TypeRef) (n : ℕ) (had : Entries) → n < 2 ^ 32 → open_wants t (pairs levels key value n Next None had) < weight t (suc levels)
  unfolding width open_wants
  pairs-fewer levels key value n had lt = fewer-parts levels (2 * n + 0) (omega (arith, lt))

  few-members : (ds : List StructDecl) (at : ℕ) → length (members_of (slice_get ds at)) ≤ members_in ds
  few-members [] zero = omega arith
  few-members [] (suc at) = omega arith
  few-members (d ∷ ds) zero = let same = length-map d.members (λ m. m.kind) in omega arith
  few-members (d ∷ ds) (suc at) = let rest = few-members ds at in omega arith

  pub members-fewer : (levels : ℕ) (sort : Assembly) (at : ℕ) (had : Trees) → open_wants t (each sort levels (lefts.Members at 0) had) < weight t (suc levels)
  unfolding width open_wants
  members-fewer levels sort at had = fewer-parts levels _ (omega (arith, few-members t.structs at))

  wants-one : (o : Open) → 0 < open_wants t o
  unfolding open_wants
  wants-one (each sort levels left had) = omega arith
  wants-one (pairs levels key value left part waits had) = omega arith

  -- a value that is read whole is one value less
  pub closed-less : (old new mid : ValueReader) (f : Frame) (v : Tree) → old.below ≡ mid.below ++ f ∷ [] → mid.top ≡ f → Gives v mid new → cost t new < cost t old
  closed-less old new mid f v below top given =
      let before : cost t old ≡ wants t old.top + (frames_cost t mid.below + wants t f) = ap (λ (n : ℕ). wants t old.top + n) (ap (frames_cost t) below ∙ frames-push mid.below f) in
      let now : cost t new ≡ wants t f + frames_cost t mid.below = given-cost mid new v given ∙ ap (λ (g : Frame). wants t g + frames_cost t mid.below) top in
      omega (arith, wants-one (opened old.top))

  pub split-wants : (levels : ℕ) (sort : Assembly) (had : Trees) (old new : Left) (kind : TypeRef) → kinds_left t old ≡ kind ∷ kinds_left t new → open_wants t (each sort levels old had) ≡ weight t levels + open_wants t (each sort levels new had)
  unfolding open_wants
  split-wants levels sort had old new kind is = rw (is, suc-mul (length (kinds_left t new)) (weight t levels)) (omega arith)

  key-wants : (levels : ℕ) (key value : TypeRef) (had : Entries) (left behind at : ℕ) → left ≡ suc behind → open_wants t (pairs levels key value left Next None had) ≡ weight t levels + open_wants t (pairs levels key value behind (Begun at) None had)
  unfolding open_wants
  key-wants levels key value had left behind at is =
      let more : 2 * left + 0 ≡ suc (2 * behind + 1) = omega (arith, is) in
      rw (more, suc-mul (2 * behind + 1) (weight t levels)) (omega arith)

  value-wants : (levels : ℕ) (key value : TypeRef) (had : Entries) (left at : ℕ) (k : Tree) → open_wants t (pairs levels key value left Next (Some k) had) ≡ weight t levels + open_wants t (pairs levels key value left (Begun at) (Some k) had)
  unfolding open_wants
  value-wants levels key value had left at k =
      let more : 2 * left + 1 ≡ suc (2 * left + 0) = omega arith in
      rw (more, suc-mul (2 * left + 0) (weight t levels)) (omega arith)

  -- the part that is asked for is no longer among those that are left
  abbrev pub LessOnAsk : Open → Open → Result (Option TypeRef) Fault → Type 0
  LessOnAsk o now (Ok (Some kind)) = open_wants t o ≡ weight t (levels_of o) + open_wants t now
  LessOnAsk o now (Ok None) = open_wants t o ≡ open_wants t now
  LessOnAsk o now (Err e) = Unit {0}

  pub asks-less : (o now : Open) (answer : Result (Option TypeRef) Fault) (place : ℕ) → Asks t o now place answer → LessOnAsk o now answer
  asks-less (each sort levels left had) now (Ok (Some kind)) place (behind, split, is) = rw is (split-wants levels sort had left behind kind split)
  asks-less (each sort levels left had) now (Ok None) place (split, is) = ap (open_wants t) (sym is)
  asks-less (each sort levels left had) now (Err e) place h = tt
  asks-less (pairs levels key value left Next None had) now (Ok (Some kind)) place (behind, more, of, is) = rw is (key-wants levels key value had left behind place more)
  asks-less (pairs levels key value left Next (Some k) had) now (Ok (Some kind)) place (of, is) = rw is (value-wants levels key value had left place k)
  asks-less (pairs levels key value left Next None had) now (Ok None) place (last, is) = ap (open_wants t) (sym is)
  asks-less (pairs levels key value left Next (Some k) had) now (Ok None) place h = absurd h
  asks-less (pairs levels key value left Next None had) now (Err e) place h = tt
  asks-less (pairs levels key value left Next (Some k) had) now (Err e) place h = tt
  asks-less (pairs levels key value left (Begun at) waits had) now (Ok (Some kind)) place h = absurd h
  asks-less (pairs levels key value left (Begun at) waits had) now (Ok None) place is = ap (open_wants t) (sym is)
  asks-less (pairs levels key value left (Begun at) waits had) now (Err e) place h = tt
  asks-less (pairs levels key value left (Equal at) waits had) now (Ok (Some kind)) place h = absurd h
  asks-less (pairs levels key value left (Equal at) waits had) now (Ok None) place h = absurd h
  asks-less (pairs levels key value left (Equal at) waits had) now (Err e) place h = tt

  -- the next part is taken out
  pub next-less : (old new : ValueReader) (mid : Frame) (kind : TypeRef) (result : Result (Step Value) ReadFault) → mid.levels ≡ old.top.levels → wants t old.top ≡ weight t old.top.levels + wants t mid
      → LessOnStep result (weight t mid.levels + (wants t mid + frames_cost t old.below)) (cost t new) → LessOnStep result (cost t old) (cost t new)
  next-less old new mid kind result levels less h =
      let same : weight t mid.levels + (wants t mid + frames_cost t old.below) ≡ cost t old =
      ap (λ (n : ℕ). weight t n + (wants t mid + frames_cost t old.below)) levels ∙ regroup (weight t old.top.levels) (wants t mid) (frames_cost t old.below) ∙ ap (λ (n : ℕ). n + frames_cost t old.below) (sym less) in
      subst (λ (n : ℕ). LessOnStep result n (cost t new)) same h
    where
      regroup : (a b c : ℕ) → a + (b + c) ≡ (a + b) + c
      regroup a b c = omega arith
