-- How what is still read of values that have begun changes with a step.
use Rattle.std.proofs.Common.{◌≡◌, ℕ, Bool, true, false, cond, zero, suc, List, [], ◌∷◌, ◌++◌, map, drop, Result, Ok, Err, Option, None, Some, slice_get, replicate, refl, sym, ap, ◌∙◌, subst}
use Rattle.std.proofs.lemmas.List.{map_push}
use Rattle.ice_prims.specs.declared.fault.Fault.{Fault}
use Rattle.ice_prims.specs.declared.fault.ReadFault.{ReadFault}
use Rattle.ice_prims.specs.declared.fault.ReadFault.TheVariants as faults
use Rattle.ice_prims.specs.declared.fault.Kind.TheVariants.{EqualKey}
use Rattle.ice_prims.specs.Rest.{Rest, ◌>>=◌}
use Rattle.ice_prims.specs.Taking.{Fails}
use Rattle.ice_types.specs.declared.kind.TypeRef.{TypeRef}
use Rattle.ice_types.specs.declared.kind.TypeRef.TheVariants as kinds
use Rattle.ice_types.specs.declared.declarations.Member.{Member}
use Rattle.ice_types.specs.declared.declarations.SeqDecl.{SeqDecl}
use Rattle.ice_types.specs.declared.declarations.DictDecl.{DictDecl}
use Rattle.ice_types.specs.declared.declarations.EnumDecl.{EnumDecl}
use Rattle.ice_types.specs.declared.declarations.StructDecl.{StructDecl}
use Rattle.ice_types.specs.declared.schema.TheConstants.{MOST_DEPTH}
use Rattle.ice_types.specs.Tables.{Tables}
use Rattle.ice_encoding.specs.Tree.{Tree, boolean, byte, short, int, long, text, enumerator, proxy, reference, sequence, dictionary, struct, Trees, none, tree, Entries, no_entry}
use Rattle.ice_encoding.specs.Order.{has_key, insert}
use Rattle.ice_encoding.specs.Port.{Reader}
use Rattle.ice_encoding.specs.Enum.{enumerator_at}
use Rattle.ice_encoding.specs.Reading.{value_at, each_at, pairs_at, new_key, made, plain, sized, listed, value_step}
use Rattle.ice_encoding.specs.Pausing.{Met, begins, Inside, met, in_place}
use Rattle.graph_arena.specs.declared.value.Value.{Value}
use Rattle.graph_arena.specs.declared.value.Value.TheFolds.{fold-roll-Value}
use Rattle.graph_arena.specs.declared.value.Value.TheVariants as variants
use Rattle.graph_arena.specs.declared.value.Value.TheVariants.{rolls-Reference}
use Rattle.graph_arena.specs.declared.value.Value.TheOpen.{Value-F}
use Rattle.graph_arena.specs.View.{view, view_step, view_all, trees_of}
use Rattle.ice_values.specs.declared.left.Left.{Left}
use Rattle.ice_values.specs.declared.left.Left.TheVariants as lefts
use Rattle.ice_values.specs.declared.frame.Assembly.{Assembly}
use Rattle.ice_values.specs.declared.frame.Assembly.TheVariants as sorts
use Rattle.ice_values.specs.declared.frame.Each.{Each}
use Rattle.ice_values.specs.declared.frame.Parts.{Parts}
use Rattle.ice_values.specs.declared.frame.Parts.TheVariants as parts
use Rattle.ice_values.specs.declared.frame.Part.TheVariants.{Next, Begun, Equal}
use Rattle.ice_values.specs.declared.frame.Frame.{Frame}
use Rattle.ice_values.specs.Frames.{Open, each, pairs, opened, given, with_key, opened_parts, whole, closed, kinds_of, kinds_left, last_of, join, add, Asks, IsOver}
use Rattle.std.specs.Int.{w16, w32, w64}
use Rattle.ice_encoding.specs.Proxy as proxies
use Rattle.ice_prims.specs.Number.{bool_at, byte_at, signed_at, size_at, text_at}
use Rattle.ice_values.specs.Leaves.{IsLeaf, HasParts, leaf_at, seen}
use Rattle.ice_values.specs.Rests.{then, value_in, rest_of, starts_at}
use Rattle.ice_values.specs.declared.reader.ValueReader.{ValueReader}
use Rattle.value_parts.specs.declared.paused.Step.{Step}
use Rattle.value_parts.specs.declared.paused.Step.TheVariants as steps
use Rattle.ice_values.specs.Pauses.{StepsReading}
use Rattle.ice_values.specs.Going.{whole_value, whole_at, onward, left_in, left_of, fresh, Closes, Ends, Gives}

-- ---- lists of trees

pub trees-push : (ts : List Tree) (t : Tree) → trees_of (ts ++ t ∷ []) ≡ add (trees_of ts) t
trees-push [] t = refl
trees-push (x ∷ ts) t = ap (tree x) (trees-push ts t)

pub view_all-push : (vs : List Value) (v : Value) → view_all (vs ++ v ∷ []) ≡ add (view_all vs) (view v)
view_all-push vs v = ap trees_of (map_push view vs v) ∙ trees-push (map view vs) (view v)

pub each-given : (levels : ℕ) (p : Parts) (e : Each) (had : List Value) (v : Value) → p ≡ parts.Each e → had ≡ e.done ++ v ∷ [] → each e.sort levels e.left (view_all had) ≡ given (opened_parts levels p) (view v)
each-given levels p e had v is pushed = rw (is, pushed, view_all-push e.done v) refl

pub view_reference : (n : Option ℕ) → view (variants.Reference n) ≡ reference n
view_reference n = ap view (sym (rolls-Reference n)) ∙ fold-roll-Value Tree view_step (Value-F.Reference n)

pub join-none : (ts : Trees) → join ts none ≡ ts
join-none none = refl
join-none (tree t ts) = ap (tree t) (join-none ts)

pub join-tree : (ts : Trees) (t : Tree) (others : Trees) → join ts (tree t others) ≡ join (add ts t) others
join-tree none t others = refl
join-tree (tree x ts) t others = ap (tree x) (join-tree ts t others)

pub last-add : (ts : Trees) (t : Tree) → last_of (add ts t) ≡ t
last-add none t = refl
last-add (tree x none) t = refl
last-add (tree x (tree y ts)) t = last-add (tree y ts) t

-- ---- readings one after the other

abbrev as_ok : {A : Type 0} → A → Result A Fault
as_ok x = Ok x

abbrev as_err : {A : Type 0} → Fault → Result A Fault
as_err e = Err e

ok-same : {A : Type 0} (x y : A) → as_ok x ≡ Ok y → x ≡ y
ok-same x y h = cc

err-same : (e f : Fault) → as_err {A = ℕ × Rest} e ≡ Err f → e ≡ f
err-same e f h = cc

err-not-ok : {A : Type 0} (e : Fault) (y : A) → as_err e ≡ Ok y → ⊥
err-not-ok e y h = cc

pub then-same : {S A B : Type 0} (read : Result (A × S × Rest) Fault) (f g : A → Reader S B) → ((x : A) (s : S) (r : Rest) → f x s r ≡ g x s r) → then read f ≡ then read g
then-same (Ok x) f g same = same x.0 x.1 x.2
then-same (Err e) f g same = refl

pub then-then : {S A B C : Type 0} (read : Result (A × S × Rest) Fault) (f : A → Reader S B) (g : B → Reader S C) → then (then read f) g ≡ then read (λ x s r. then (f x s r) g)
then-then (Ok x) f g = refl
then-then (Err e) f g = refl

abbrev ending : {S : Type 0} → Assembly → Trees → Trees → Reader S Tree
ending sort had parts s r = Ok (closed sort (join had parts), s, r)

other_read : {S : Type 0} (sort : Assembly) (had : Trees) (v : Tree) (others : Result (Trees × S × Rest) Fault)
    → then (others >>= λ x. Ok (tree v x.0, x.1, x.2)) (ending sort had) ≡ then others (ending sort (add had v))
other_read sort had v (Ok x) = ap (λ (ts : Trees). ending sort none ts x.1 x.2) (join-tree had v x.0)
other_read sort had v (Err e) = refl

first_read : {S : Type 0} (sort : Assembly) (had : Trees) (first : Result (Tree × S × Rest) Fault) (others : Reader S Trees)
    → then (first >>= λ v. others v.1 v.2 >>= λ x. Ok (tree v.0 x.0, x.1, x.2)) (ending sort had) ≡ then first (λ v s r. then (others s r) (ending sort (add had v)))
first_read sort had (Ok v) others = other_read sort had v.0 (others v.1 v.2)
first_read sort had (Err e) others = refl

abbrev as_dictionary : {S : Type 0} → Entries → Reader S Tree
as_dictionary all s r = Ok (dictionary all, s, r)

abbrev pub with_state : {S : Type 0} → S → Result (Tree × Rest) Fault → Result (Tree × S × Rest) Fault
with_state s read = read >>= λ x. Ok (x.0, s, x.1)

abbrev pub made_sequence : {S : Type 0} → Trees × S × Rest → Result (Tree × S × Rest) Fault
made_sequence x = Ok (sequence x.0, x.1, x.2)

abbrev made_dictionary : {S : Type 0} → Entries × S × Rest → Result (Tree × S × Rest) Fault
made_dictionary x = Ok (dictionary x.0, x.1, x.2)

abbrev open_items : ℕ → SeqDecl → ℕ → Rest → Result (Open × Rest) Fault
open_items levels q n r = Ok (each sorts.Seq levels (lefts.Items q.element n) none, r)

abbrev open_pairs : ℕ → DictDecl → ℕ → Rest → Result (Open × Rest) Fault
open_pairs levels d n r = Ok (pairs levels d.key d.value n Next None no_entry, r)

abbrev open_members : ℕ → ℕ → Rest → Result (Open × Rest) Fault
open_members levels at r = Ok (each sorts.Members levels (lefts.Members at 0) none, r)

abbrev plainly : {S A : Type 0} → S → A × Rest → Result (A × S × Rest) Fault
plainly s x = Ok (x.0, s, x.1)

abbrev make_of : {S A : Type 0} → (A → Tree) → A × S × Rest → Result (Tree × S × Rest) Fault
make_of make x = Ok (make x.0, x.1, x.2)

leaf_made : {S A : Type 0} (make : A → Tree) (s : S) (read : Result (A × Rest) Fault) → ((read >>= λ x. plainly s x) >>= λ x. make_of make x) ≡ with_state s (seen make read)
leaf_made make s (Ok x) = refl
leaf_made make s (Err e) = refl

-- a value without parts changes no state
leaf-step : {S : Type 0} (refer : Option ℕ → Reader S (Option ℕ)) (t : Tables) (read : TypeRef → Reader S Tree) (kind : TypeRef) (s : S) (r : Rest) → IsLeaf kind → value_step refer t read kind s r ≡ with_state s (leaf_at t kind r)
leaf-step refer t read kinds.Bool s r h = leaf_made boolean s (bool_at r)
leaf-step refer t read kinds.Byte s r h = leaf_made byte s (byte_at r)
leaf-step refer t read kinds.Short s r h = leaf_made short s (signed_at w16 r)
leaf-step refer t read kinds.Int s r h = leaf_made int s (signed_at w32 r)
leaf-step refer t read kinds.Long s r h = leaf_made long s (signed_at w64 r)
leaf-step refer t read kinds.Text s r h = leaf_made text s (text_at r)
leaf-step {S} refer t read (kinds.Enum at) s r h = by_row (slice_get t.enums at)
  where
    by_row : (row : Option EnumDecl) → listed row r (λ e. made enumerator (plain (enumerator_at e.entries)) s r) ≡ with_state s (listed row r (λ e. seen enumerator (enumerator_at e.entries r)))
    by_row None = refl
    by_row (Some e) = leaf_made enumerator s (enumerator_at e.entries r)
leaf-step refer t read (kinds.Proxy at) s r h = leaf_made proxy s (proxies.proxy.read r)
leaf-step refer t read (kinds.Seq at) s r h = absurd h
leaf-step refer t read (kinds.Dict at) s r h = absurd h
leaf-step refer t read (kinds.Struct at) s r h = absurd h
leaf-step refer t read (kinds.Class at) s r h = absurd h

abbrev made_reference : {S : Type 0} → Option ℕ × S × Rest → Result (Tree × S × Rest) Fault
made_reference x = Ok (reference x.0, x.1, x.2)

abbrev named : {S : Type 0} → ℕ → S × Rest → Result (Option ℕ × S × Rest) Fault
named n y = Ok (Some n, y.0, y.1)

abbrev one_tree : {S : Type 0} → Tree × S × Rest → Result (Trees × S × Rest) Fault
one_tree x = Ok (tree x.0 none, x.1, x.2)

module _ {S : Type 0} (take : Option ℕ → Reader S Met) (t : Tables) (inside : Inside S) where
  pub onward-push : (last : Tree → Reader S Tree) (fs : List Frame) (f : Frame) (v : Tree) (s : S) (r : Rest) → onward take t inside last (fs ++ f ∷ []) v s r ≡ then (rest_of take t inside (given (opened f) v) s r) (onward take t inside last fs)
  onward-push last [] f v s r = refl
  onward-push last (g ∷ fs) f v s r = onward-push (λ w s' r'. then (rest_of take t inside (given (opened g) w) s' r') last) fs f v s r

  -- no part is left
  pub each-ends : (sort : Assembly) (levels : ℕ) (left : Left) (had : Trees) (s : S) (r : Rest) → kinds_left t left ≡ [] → rest_of take t inside (each sort levels left had) s r ≡ Ok (closed sort had, s, r)
  each-ends sort levels left had s r is = rw (is, join-none had) refl

  -- the first part that is left
  pub each-more : (sort : Assembly) (levels : ℕ) (old left : Left) (had : Trees) (kind : TypeRef) (s : S) (r : Rest) → kinds_left t old ≡ kind ∷ kinds_left t left
      → rest_of take t inside (each sort levels old had) s r ≡ then (value_in take t inside levels kind s r) (λ v. rest_of take t inside (each sort levels left (add had v)))
  each-more sort levels old left had kind s r is =
      rw is (first_read sort had (value_in take t inside levels kind s r) (λ s' r'. each_at (value_in take t inside levels) (kinds_left t left) s' r'))

  -- no pair is left
  pub pairs-end : (levels : ℕ) (key value : TypeRef) (left : ℕ) (had : Entries) (s : S) (r : Rest) → left ≡ 0 → rest_of take t inside (pairs levels key value left Next None had) s r ≡ Ok (dictionary had, s, r)
  pairs-end levels key value left had s r is = rw is refl

  -- the key of the next pair, which is new or is not
  pub key-more : (levels : ℕ) (key value : TypeRef) (left behind at : ℕ) (had : Entries) (s : S) (r : Rest) → left ≡ suc behind → at ≡ r.place
      → rest_of take t inside (pairs levels key value left Next None had) s r ≡ then (value_in take t inside levels key s r) (λ v. rest_of take t inside (given (pairs levels key value behind (Begun at) None had) v))
  key-more levels key value left behind at had s r more here = rw (more, here) (by_key (value_in take t inside levels key s r))
    where
      by_test : (b : Bool) (k : Tree) (s' : S) (r' : Rest)
          → then (cond b (as_err (record { place = r.place; kind = EqualKey })) (value_in take t inside levels value s' r') >>= λ v. pairs_at (value_in take t inside levels key) (value_in take t inside levels value) behind (insert k v.0 had) v.1 v.2) as_dictionary
          ≡ rest_of take t inside (with_key b levels key value behind r.place k had) s' r'
      by_test true k s' r' = refl
      by_test false k s' r' = then-then (value_in take t inside levels value s' r') (λ v. pairs_at (value_in take t inside levels key) (value_in take t inside levels value) behind (insert k v had)) as_dictionary

      by_key : (read : Result (Tree × S × Rest) Fault)
          → then (read >>= λ k. (new_key k.0 had r.place (value_in take t inside levels value k.1 k.2) >>= λ v. pairs_at (value_in take t inside levels key) (value_in take t inside levels value) behind (insert k.0 v.0 had) v.1 v.2)) as_dictionary
          ≡ then read (λ k s' r'. rest_of take t inside (with_key (has_key k had) levels key value behind r.place k had) s' r')
      by_key (Ok k) = by_test (has_key k.0 had) k.0 k.1 k.2
      by_key (Err e) = refl

  -- a value with parts: what stands before the first of them, and then these
  abbrev rest_from : S → Open × Rest → Result (Tree × S × Rest) Fault
  rest_from s x = rest_of take t inside x.0 s x.1

  items-start : (levels : ℕ) (q : SeqDecl) (s : S) (read : Result (ℕ × Rest) Fault)
      → ((read >>= λ n. each_at (value_in take t inside levels) (replicate n.0 q.element) s n.1) >>= made_sequence)
      ≡ ((read >>= λ n. open_items levels q n.0 n.1) >>= rest_from s)
  items-start levels q s (Ok n) = refl
  items-start levels q s (Err e) = refl

  pairs-start : (levels : ℕ) (d : DictDecl) (s : S) (read : Result (ℕ × Rest) Fault)
      → ((read >>= λ n. pairs_at (value_in take t inside levels d.key) (value_in take t inside levels d.value) n.0 no_entry s n.1) >>= made_dictionary)
      ≡ ((read >>= λ n. open_pairs levels d n.0 n.1) >>= rest_from s)
  pairs-start levels d s (Ok n) = refl
  pairs-start levels d s (Err e) = refl

  starts-step : (levels : ℕ) (kind : TypeRef) (s : S) (r : Rest) → HasParts kind → value_step (in_place take inside) t (value_in take t inside levels) kind s r ≡ (starts_at t levels kind r >>= rest_from s)
  starts-step levels (kinds.Seq at) s r h = by_row (slice_get t.seqs at)
    where
      by_row : (row : Option SeqDecl) → listed row r (λ q. made sequence (sized (λ n. each_at (value_in take t inside levels) (replicate n q.element))) s r)
          ≡ (listed row r (λ q. size_at r >>= λ n. open_items levels q n.0 n.1) >>= rest_from s)
      by_row None = refl
      by_row (Some q) = items-start levels q s (size_at r)
  starts-step levels (kinds.Dict at) s r h = by_row (slice_get t.dicts at)
    where
      by_row : (row : Option DictDecl) → listed row r (λ d. made dictionary (sized (λ n. pairs_at (value_in take t inside levels d.key) (value_in take t inside levels d.value) n no_entry)) s r)
          ≡ (listed row r (λ d. size_at r >>= λ n. open_pairs levels d n.0 n.1) >>= rest_from s)
      by_row None = refl
      by_row (Some d) = pairs-start levels d s (size_at r)
  starts-step levels (kinds.Struct at) s r h = by_row (slice_get t.structs at) refl
    where
      by_row : (row : Option StructDecl) → slice_get t.structs at ≡ row → listed row r (λ d. made struct (each_at (value_in take t inside levels) (kinds_of d.members)) s r)
          ≡ (listed row r (λ d. open_members levels at r) >>= rest_from s)
      by_row None is = refl
      by_row (Some d) is = rw is refl
  starts-step levels kinds.Bool s r h = absurd h
  starts-step levels kinds.Byte s r h = absurd h
  starts-step levels kinds.Short s r h = absurd h
  starts-step levels kinds.Int s r h = absurd h
  starts-step levels kinds.Long s r h = absurd h
  starts-step levels kinds.Text s r h = absurd h
  starts-step levels (kinds.Enum at) s r h = absurd h
  starts-step levels (kinds.Proxy at) s r h = absurd h
  starts-step levels (kinds.Class at) s r h = absurd h

  -- the innermost value has got its next part
  pub part-given : (old new : ValueReader) (v : Tree) (s : S) (r : Rest) → Gives v old new → onward take t inside whole_value (old.below ++ old.top ∷ []) v s r ≡ left_of take t inside new s r
  part-given old new v s r (below, top) =
      onward-push whole_value old.below old.top v s r
      ∙ ap (λ (o : Open). then (rest_of take t inside o s r) (onward take t inside whole_value old.below)) (sym top)
      ∙ ap (λ (fs : List Frame). then (rest_of take t inside (opened new.top) s r) (onward take t inside whole_value fs)) (sym below)

  -- the same of a value of the code
  pub value-given : (old new : ValueReader) (x : Value) (v : Tree) (s : S) (r : Rest) → view x ≡ v → Gives (view x) old new → onward take t inside whole_value (old.below ++ old.top ∷ []) v s r ≡ left_of take t inside new s r
  value-given old new x v s r is gave = part-given old new v s r (subst (λ (w : Tree). Gives w old new) is gave)

  -- a value that changes no state is read
  pub read-given : (levels : ℕ) (kind : TypeRef) (read : Result (Tree × Rest) Fault) (old new : ValueReader) (x : Value) (s : S) (r r' : Rest)
      → value_step (in_place take inside) t (value_in take t inside levels) kind s r ≡ with_state s read → read ≡ Ok (view x, r') → Gives (view x) old new
      → then (value_step (in_place take inside) t (value_in take t inside levels) kind s r) (onward take t inside whole_value (old.below ++ old.top ∷ [])) ≡ left_of take t inside new s r'
  read-given levels kind read old new x s r r' is done gave =
      ap (λ (y : Result (Tree × S × Rest) Fault). then y (onward take t inside whole_value (old.below ++ old.top ∷ []))) (is ∙ ap (with_state s) done)
      ∙ part-given old new (view x) s r' gave

  pub read-fails : (levels : ℕ) (kind : TypeRef) (read : Result (Tree × Rest) Fault) (e : ReadFault) (last : Tree → Reader S Tree) (s : S) (r : Rest)
      → value_step (in_place take inside) t (value_in take t inside levels) kind s r ≡ with_state s read → Fails e read
      → Fails e (then (value_step (in_place take inside) t (value_in take t inside levels) kind s r) last)
  read-fails levels kind read faults.Memory last s r is h = tt
  read-fails levels kind read (faults.Broken e) last s r is h = ap (λ (y : Result (Tree × S × Rest) Fault). then y last) (is ∙ ap (with_state s) h)

  -- a value without parts is read
  pub leaf-given : (levels : ℕ) (kind : TypeRef) (old new : ValueReader) (x : Value) (s : S) (r r' : Rest) → IsLeaf kind → leaf_at t kind r ≡ Ok (view x, r') → Gives (view x) old new
      → then (value_step (in_place take inside) t (value_in take t inside levels) kind s r) (onward take t inside whole_value (old.below ++ old.top ∷ [])) ≡ left_of take t inside new s r'
  leaf-given levels kind old new x s r r' leaf read gave =
      read-given levels kind (leaf_at t kind r) old new x s r r' (leaf-step (in_place take inside) t (value_in take t inside levels) kind s r leaf) read gave

  pub leaf-fails : (levels : ℕ) (kind : TypeRef) (e : ReadFault) (last : Tree → Reader S Tree) (s : S) (r : Rest) → IsLeaf kind → Fails e (leaf_at t kind r)
      → Fails e (then (value_step (in_place take inside) t (value_in take t inside levels) kind s r) last)
  leaf-fails levels kind e last s r leaf h =
      read-fails levels kind (leaf_at t kind r) e last s r (leaf-step (in_place take inside) t (value_in take t inside levels) kind s r leaf) h

  -- a value with parts has begun
  pub starts-given : (levels : ℕ) (kind : TypeRef) (old new : ValueReader) (f : Frame) (s : S) (r r' : Rest) → HasParts kind → starts_at t levels kind r ≡ Ok (opened f, r') → new.top ≡ f → new.below ≡ old.below ++ old.top ∷ []
      → then (value_step (in_place take inside) t (value_in take t inside levels) kind s r) (onward take t inside whole_value (old.below ++ old.top ∷ [])) ≡ left_of take t inside new s r'
  starts-given levels kind old new f s r r' with_parts starts top below =
      ap (λ (y : Result (Tree × S × Rest) Fault). then y (onward take t inside whole_value (old.below ++ old.top ∷ []))) (starts-step levels kind s r with_parts ∙ ap (λ (y : Result (Open × Rest) Fault). y >>= rest_from s) starts)
      ∙ ap (λ (fs : List Frame). then (rest_of take t inside (opened f) s r') (onward take t inside whole_value fs)) (sym below)
      ∙ ap (λ (g : Frame). then (rest_of take t inside (opened g) s r') (onward take t inside whole_value new.below)) (sym top)

  pub starts-fails : (levels : ℕ) (kind : TypeRef) (e : ReadFault) (last : Tree → Reader S Tree) (s : S) (r : Rest) → HasParts kind → Fails e (starts_at t levels kind r)
      → Fails e (then (value_step (in_place take inside) t (value_in take t inside levels) kind s r) last)
  starts-fails levels kind faults.Memory last s r with_parts h = tt
  starts-fails levels kind (faults.Broken e) last s r with_parts h =
      ap (λ (y : Result (Tree × S × Rest) Fault). then y last) (starts-step levels kind s r with_parts ∙ ap (λ (y : Result (Open × Rest) Fault). y >>= rest_from s) h)

  -- a reference is given to the innermost value before its instance is read
  pub begun-given : (old new : ValueReader) (x : Value) (n : ℕ) (s : S) (r : Rest) → view x ≡ reference (Some n) → Gives (view x) old new
      → then (made reference (λ s' r'. met inside (begins n) s' r') s r) (onward take t inside whole_value (old.below ++ old.top ∷ [])) ≡ (inside n s r >>= λ y. left_of take t inside new y.0 y.1)
  begun-given old new x n s r is gave = of_inside (inside n s r)
    where
      of_inside : (read : Result (S × Rest) Fault) → then ((read >>= named n) >>= made_reference) (onward take t inside whole_value (old.below ++ old.top ∷ [])) ≡ (read >>= λ y. left_of take t inside new y.0 y.1)
      of_inside (Ok y) = value-given old new x (reference (Some n)) y.0 y.1 is gave
      of_inside (Err e) = refl

  -- the innermost value has all its parts, and is given to the one around it
  part-closed : (below onto : List Frame) (start f g around : Frame) (s : S) (r r' : Rest) → rest_of take t inside (opened start) s r ≡ Ok (whole (opened f), s, r') → below ≡ onto ++ around ∷ [] → opened g ≡ given (opened around) (whole (opened f))
      → left_in take t inside start below s r ≡ left_in take t inside g onto s r'
  part-closed below onto start f g around s r r' ends is now =
      ap (λ (x : Result (Tree × S × Rest) Fault). then x (onward take t inside whole_value below)) ends
      ∙ ap (λ (fs : List Frame). onward take t inside whole_value fs (whole (opened f)) s r') is
      ∙ onward-push whole_value onto around (whole (opened f)) s r'
      ∙ ap (λ (o : Open). then (rest_of take t inside o s r') (onward take t inside whole_value onto)) (sym now)

  -- the outermost value has its part, and is all
  whole-closed : (below : List Frame) (start f : Frame) (v : Tree) (s : S) (r r' : Rest) → rest_of take t inside (opened start) s r ≡ Ok (whole (opened f), s, r') → below ≡ [] → v ≡ whole (opened f)
      → left_in take t inside start below s r ≡ Ok (v, s, r')
  whole-closed below start f v s r r' ends is all =
      ap (λ (x : Result (Tree × S × Rest) Fault). then x (onward take t inside whole_value below)) ends
      ∙ ap (λ (fs : List Frame). onward take t inside whole_value fs (whole (opened f)) s r') is
      ∙ ap (λ (w : Tree). whole_value w s r') (sym all)

  -- nothing of it is left to read
  over-is : (o : Open) (s : S) (r : Rest) → IsOver o → rest_of take t inside o s r ≡ Ok (whole o, s, r)
  over-is (each sort levels (lefts.Items kind n) had) s r over = each-ends sort levels (lefts.Items kind n) had s r (ap (λ (m : ℕ). replicate m kind) over)
  over-is (each sort levels (lefts.Members at next) had) s r over = absurd over
  over-is (pairs levels key value left part k had) s r over = absurd over

  pub reader-ends : (reader spent : ValueReader) (v : Value) (s : S) (r : Rest) → Ends reader spent (Some v) → left_of take t inside reader s r ≡ Ok (view v, s, r)
  reader-ends reader spent v s r (is, over, all) = whole-closed reader.below reader.top reader.top (view v) s r r (over-is (opened reader.top) s r over) is all

  -- what ending the innermost value answers
  pub closes : (start : Frame) (old new : ValueReader) (result : Result (Step Value) ReadFault) (s : S) (r r' : Rest) → rest_of take t inside (opened start) s r ≡ Ok (whole (opened old.top), s, r') → Closes old new result
      → StepsReading inside (left_of take t inside new) view result (left_in take t inside start old.below s r) s r'
  closes start old new (Ok steps.On) s r r' ends (around, is, now) = part-closed old.below new.below start old.top new.top around s r r' ends is now
  closes start old new (Ok (steps.Done v)) s r r' ends (is, all) = whole-closed old.below start old.top (view v) s r r' ends is all
  closes start old new (Ok (steps.Begins n)) s r r' ends h = absurd h
  closes start old new (Err e) s r r' ends is = subst (λ (x : ReadFault). Fails x (left_in take t inside start old.below s r)) (sym is) tt

  -- the next part is read
  pub part-next : (f g : Frame) (below : List Frame) (kind : TypeRef) (s : S) (r r' : Rest) → rest_of take t inside (opened f) s r ≡ then (value_in take t inside g.levels kind s r') (λ v. rest_of take t inside (given (opened g) v))
      → left_in take t inside f below s r ≡ then (value_in take t inside g.levels kind s r') (onward take t inside whole_value (below ++ g ∷ []))
  part-next f g below kind s r r' is =
      ap (λ (x : Result (Tree × S × Rest) Fault). then x (onward take t inside whole_value below)) is
      ∙ then-then (value_in take t inside g.levels kind s r') (λ v. rest_of take t inside (given (opened g) v)) (onward take t inside whole_value below)
      ∙ then-same (value_in take t inside g.levels kind s r') _ _ (λ v s' r''. sym (onward-push whole_value below g v s' r''))

  -- a fault in the innermost value is the fault of all
  pub fault-inside : (f : Frame) (below : List Frame) (e : ReadFault) (s : S) (r : Rest) → Fails e (rest_of take t inside (opened f) s r) → Fails e (left_in take t inside f below s r)
  fault-inside f below faults.Memory s r h = tt
  fault-inside f below (faults.Broken e) s r h = ap (λ (x : Result (Tree × S × Rest) Fault). then x (onward take t inside whole_value below)) h

-- what is asked for is read next
abbrev pub NextsAt : {S : Type 0} → (Option ℕ → Reader S Met) → Tables → Inside S → ℕ → Open → Result (Option TypeRef) Fault → Result (Tree × S × Rest) Fault → S → Rest → Type 0
NextsAt take t inside levels now (Ok (Some kind)) read s r = read ≡ then (value_in take t inside levels kind s r) (λ v. rest_of take t inside (given now v))
NextsAt take t inside levels now (Ok None) read s r = read ≡ Ok (whole now, s, r)
NextsAt take t inside levels now (Err e) read s r = read ≡ Err e

abbrev pub levels_of : Open → ℕ
levels_of (each sort levels left had) = levels
levels_of (pairs levels key value left part waits had) = levels

module _ {S : Type 0} (take : Option ℕ → Reader S Met) (t : Tables) (inside : Inside S) where
  nexts-same : (levels : ℕ) (o now : Open) (kind : TypeRef) (s : S) (r : Rest) → now ≡ o → (read : Result (Tree × S × Rest) Fault) → read ≡ then (value_in take t inside levels kind s r) (λ v. rest_of take t inside (given o v))
      → read ≡ then (value_in take t inside levels kind s r) (λ v. rest_of take t inside (given now v))
  nexts-same levels o now kind s r is read h = h ∙ ap (λ (x : Open). then (value_in take t inside levels kind s r) (λ v. rest_of take t inside (given x v))) (sym is)

  ends-same : (o now : Open) (s : S) (r : Rest) → now ≡ o → (read : Result (Tree × S × Rest) Fault) → read ≡ Ok (whole o, s, r) → read ≡ Ok (whole now, s, r)
  ends-same o now s r is read h = h ∙ ap (λ (x : Open). whole_value (whole x) s r) (sym is)

  pub asks-next : (o now : Open) (answer : Result (Option TypeRef) Fault) (s : S) (r : Rest) → Asks t o now r.place answer → NextsAt take t inside (levels_of o) now answer (rest_of take t inside o s r) s r
  asks-next (each sort levels left had) now (Ok (Some kind)) s r (behind, split, is) =
      nexts-same levels (each sort levels behind had) now kind s r is (rest_of take t inside (each sort levels left had) s r) (each-more take t inside sort levels left behind had kind s r split)
  asks-next (each sort levels left had) now (Ok None) s r (split, is) =
      ends-same (each sort levels left had) now s r is (rest_of take t inside (each sort levels left had) s r) (each-ends take t inside sort levels left had s r split)
  asks-next (each sort levels left had) now (Err e) s r h = absurd h
  asks-next (pairs levels key value left Next None had) now (Ok (Some kind)) s r (behind, more, of, is) =
      nexts-same levels (pairs levels key value behind (Begun r.place) None had) now kind s r is (rest_of take t inside (pairs levels key value left Next None had) s r)
      (rw of (key-more take t inside levels key value left behind r.place had s r more refl))
  asks-next (pairs levels key value left Next (Some k) had) now (Ok (Some kind)) s r (of, is) =
      nexts-same levels (pairs levels key value left (Begun r.place) (Some k) had) now kind s r is (rest_of take t inside (pairs levels key value left Next (Some k) had) s r) (rw of refl)
  asks-next (pairs levels key value left Next None had) now (Ok None) s r (last, is) =
      ends-same (pairs levels key value left Next None had) now s r is (rest_of take t inside (pairs levels key value left Next None had) s r) (pairs-end take t inside levels key value left had s r last)
  asks-next (pairs levels key value left Next (Some k) had) now (Ok None) s r h = absurd h
  asks-next (pairs levels key value left Next None had) now (Err e) s r h = absurd h
  asks-next (pairs levels key value left Next (Some k) had) now (Err e) s r h = absurd h
  asks-next (pairs levels key value left (Begun at) waits had) now (Ok (Some kind)) s r h = absurd h
  asks-next (pairs levels key value left (Begun at) waits had) now (Ok None) s r is =
      ends-same (pairs levels key value left (Begun at) waits had) now s r is (rest_of take t inside (pairs levels key value left (Begun at) waits had) s r) refl
  asks-next (pairs levels key value left (Begun at) waits had) now (Err e) s r h = absurd h
  asks-next (pairs levels key value left (Equal at) waits had) now (Ok (Some kind)) s r h = absurd h
  asks-next (pairs levels key value left (Equal at) waits had) now (Ok None) s r h = absurd h
  asks-next (pairs levels key value left (Equal at) waits had) now (Err e) s r is = ap (λ (f : Fault). Err f) (sym is)

-- the levels of a frame are those of its parts
pub levels-opened : (levels : ℕ) (p : Parts) → levels_of (opened_parts levels p) ≡ levels
levels-opened levels (parts.Each e) = refl
levels-opened levels (parts.Pairs p) = refl

-- ---- the types that are left

pub some-same : {A : Type 0} {x y : A} → Some x ≡ Some y → x ≡ y
some-same h = cc

nothing-found : (at : ℕ) (m : Member) → slice_get [] at ≡ Some m → ⊥
nothing-found zero m h = cc
nothing-found (suc at) m h = cc

pub drop-found : (ms : List Member) (at : ℕ) (m : Member) → slice_get ms at ≡ Some m → drop at (kinds_of ms) ≡ m.kind ∷ drop (suc at) (kinds_of ms)
drop-found [] at m found = absurd (nothing-found at m found)
drop-found (x ∷ xs) zero m found = ap (λ (y : Member). y.kind ∷ kinds_of xs) (some-same found)
drop-found (x ∷ xs) (suc at) m found = drop-found xs at m found

whole-read : {S : Type 0} (read : Result (Tree × S × Rest) Fault) → then (then (read >>= one_tree) (λ parts s r. Ok (last_of parts, s, r))) whole_value ≡ read
whole-read (Ok x) = refl
whole-read (Err e) = refl

-- before the first byte a reader still reads the whole value
pub left-fresh : {S : Type 0} (take : Option ℕ → Reader S Met) (t : Tables) (inside : Inside S) (kind : TypeRef) (s : S) (r : Rest) → left_of take t inside (fresh kind) s r ≡ value_at (in_place take inside) t MOST_DEPTH kind s r
left-fresh take t inside kind s r = whole-read (value_in take t inside MOST_DEPTH kind s r)

pub left-whole : {S : Type 0} (take : Option ℕ → Reader S Met) (t : Tables) (inside : Inside S) (kind : TypeRef) (reader : ValueReader) (s : S) (r : Rest) → reader ≡ fresh kind → whole_at take t inside kind s r ≡ left_of take t inside reader s r
unfolding whole_at
left-whole take t inside kind reader s r is = sym (left-fresh take t inside kind s r) ∙ ap (λ (x : ValueReader). left_of take t inside x s r) (sym is)
