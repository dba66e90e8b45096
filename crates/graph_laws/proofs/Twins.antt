-- Members with places in a table are read against a table of some size as they are by themselves, up to the first place past its end.
use Rattle.std.proofs.Common.{◌≡◌, ℕ, zero, suc, Bool, true, false, cond, ltb, eqb, List, [], ◌∷◌, ◌++◌, length, map, replicate, Option, None, Some, Result, Ok, Err, refl, sym, ap, ◌∙◌, append_assoc, append-nil}
use Rattle.std.specs.Prelude.{slice_get}
use Rattle.std.specs.Int.{w16, w32, w64}
use Rattle.ice_types.specs.declared.declarations.Member.{Member}
use Rattle.ice_types.specs.declared.declarations.Shape.{Shape}
use Rattle.ice_types.specs.declared.kind.TypeRef.{TypeRef}
use Rattle.ice_types.specs.declared.kind.TypeRef.TheVariants as kinds
use Rattle.ice_types.specs.declared.optional_format.TheConstants.{FORMAT_CLASS}
use Rattle.ice_types.specs.declared.schema.TheConstants.{MOST_DEPTH}
use Rattle.ice_types.specs.Formats.{optional_format}
use Rattle.ice_types.specs.Tables.{Tables}
use Rattle.ice_prims.specs.declared.fault.Fault.{Fault}
use Rattle.ice_prims.specs.declared.fault.Kind.TheVariants.{BadReference, BadFormat, EqualKey}
use Rattle.ice_prims.specs.Rest.{Rest, fault, ◌>>=◌}
use Rattle.ice_prims.specs.Number.{bool_at, byte_at, signed_at, size_at, text_at}
use Rattle.ice_prims.proofs.Parts.{then_ok, ok_is}
use Rattle.ice_encoding.specs.Bounds.{ended}
use Rattle.ice_encoding.specs.Enum.{enumerator_at}
use Rattle.ice_encoding.specs.Order.{has_key, insert}
use Rattle.ice_encoding.specs.Parts.{Part, size}
use Rattle.ice_encoding.specs.Port.{Reader}
use Rattle.ice_encoding.specs.Proxy as parts
use Rattle.ice_encoding.specs.Reading.{made, each_at, plain, sized, pairs_at, listed, value_at}
use Rattle.ice_encoding.specs.Skipping.{count, bound_behind, passed_at}
use Rattle.ice_encoding.specs.Tags.{next_tag_at}
use Rattle.ice_encoding.specs.Tree.{Tree, boolean, byte, short, int, long, text, sequence, dictionary, struct, enumerator, proxy, reference, Trees, tree, Entries, no_entry}
use Rattle.ice_encoding.specs.OptionalMembers.{with_optional, required_kinds, if_flagged, slice_members_at}
use Rattle.ice_encoding.specs.Optionals.{Present, with_option, not_unknown, kind_tagged, skipped_by, tagged, option_then, options_at, all_options}
use Rattle.ice_encoding.specs.Prefixes.{Prefix, no_length, own_size, as_size, as_int, prefix_of, prefixed, counted, framed}
use Rattle.ice_encoding.specs.References.{Reference, met_at, entry_of, entry_at, within}
use Rattle.ice_encoding.specs.Steps.{followed, given}
use Rattle.ice_encoding.specs.Steps as steps
use Rattle.graph_laws.specs.Slices.{place_within, places}
use Rattle.graph_laws.proofs.From.{goes}

abbrev pub Uses : Type 0
Uses = List (Reference ℕ)

module _ (most : ℕ) where
  -- ---- places that are past the end

  pub within_more : {B : Type 0} (us vs : Uses) (next : Result B Fault) → within most (us ++ vs) next ≡ within most us (within most vs next)
  within_more [] vs next = refl
  within_more (u ∷ us) vs next = ap (λ (r : Result _ Fault). cond (ltb u.name most) r (fault u.place BadReference)) (within_more us vs next)

  test_goes : {A B : Type 0} (b : Bool) (r : Result A Fault) (d : Fault) (f : A → Result B Fault) → (cond b r (Err d) >>= f) ≡ cond b (r >>= f) (Err d)
  test_goes true r d f = refl
  test_goes false r d f = refl

  pub within_goes : {A B : Type 0} (us : Uses) (y : A) (f : A → Result B Fault) → (within most us (Ok y) >>= f) ≡ within most us (f y)
  within_goes [] y f = refl
  within_goes {B = B} (u ∷ us) y f = test_goes (ltb u.name most) (within most us (Ok y)) (record { place = u.place; kind = BadReference }) f
      ∙ ap (λ (r : Result B Fault). cond (ltb u.name most) r (fault u.place BadReference)) (within_goes us y f)

  -- what the other answers where the one has read something
  abbrev pub Twin : {A : Type 0} → Reader Uses A → Reader (Unit {0}) A → Type 0
  Twin {A} read other = (s : Uses) (r : Rest) (x : A × Uses × Rest) → read s r ≡ Ok x → (uses : Uses) × (x.1 ≡ s ++ uses) × (other tt r ≡ within most uses (Ok (x.0, tt, x.2)))

  abbrev done : {A : Type 0} → A → Rest → Result (A × (Unit {0}) × Rest) Fault
  done v r = Ok (v, tt, r)

  -- ---- each way of joining

  twin_given : {A : Type 0} (v : A) → Twin (given v) (given v)
  twin_given v s r x e =
      let same = ok_is (v, s, r) x e in
      ([], ap (λ (z : _ × Uses × Rest). z.1) (sym same) ∙ sym (append-nil s), ap (λ (z : _ × Uses × Rest). done z.0 z.2) same)

  twin_then : {A B : Type 0} (read : Reader Uses A) (other : Reader (Unit {0}) A) → Twin read other → (next : A → Reader Uses B) (more : A → Reader (Unit {0}) B) → ((x : A) → Twin (next x) (more x)) → Twin (followed read next) (followed other more)
  twin_then {A} {B} read other one next more two s r y e =
      then_ok (read s r) (λ x. next x.0 x.1 x.2) y e λ x x_is last.
      let a = one s r x x_is in
      let b = two x.0 x.1 x.2 y last in
      let go_on : A × (Unit {0}) × Rest → Result (B × (Unit {0}) × Rest) Fault = λ z. more z.0 z.1 z.2 in (
        a.0 ++ b.0,
        b.1 ∙ ap (λ (l : Uses). l ++ b.0) a.1 ∙ append_assoc s a.0 b.0,
        ap (λ (z : Result (A × (Unit {0}) × Rest) Fault). z >>= go_on) a.2 ∙ within_goes a.0 (x.0, tt, x.2) go_on ∙ ap (within most a.0) b.2 ∙ sym (within_more a.0 b.0 (done y.0 y.2)),
      )

  -- behind what changes no state
  twin_after : {X B : Type 0} (first : Rest → Result X Fault) (rest_of : X → Rest) (next : X → Reader Uses B) (more : X → Reader (Unit {0}) B) → ((x : X) → Twin (next x) (more x)) → Twin (λ s r. first r >>= λ x. next x s (rest_of x)) (λ s r. first r >>= λ x. more x s (rest_of x))
  twin_after first rest_of next more one s r y e =
      then_ok (first r) (λ x. next x s (rest_of x)) y e λ x x_is last.
      let a = one x s (rest_of x) y last in
      (a.0, a.1, goes (first r) (λ x. more x tt (rest_of x)) x x_is ∙ a.2)

  twin_plain : {A : Type 0} (read : Rest → Result (A × Rest) Fault) → Twin (plain read) (plain read)
  twin_plain read = twin_after read (λ x. x.1) (λ x. given x.0) (λ x. given x.0) (λ x. twin_given x.0)

  twin_made : {A B : Type 0} (make : A → B) (read : Reader Uses A) (other : Reader (Unit {0}) A) → Twin read other → Twin (made make read) (made make other)
  twin_made make read other one = twin_then read other one (λ x. given (make x)) (λ x. given (make x)) (λ x. twin_given (make x))

  twin_read : {A B : Type 0} (make : A → B) (read : Rest → Result (A × Rest) Fault) → Twin (made make (plain read)) (made make (plain read))
  twin_read make read = twin_made make (plain read) (plain read) (twin_plain read)

  twin_sized : {A : Type 0} (read : ℕ → Reader Uses A) (other : ℕ → Reader (Unit {0}) A) → ((n : ℕ) → Twin (read n) (other n)) → Twin (sized read) (sized other)
  twin_sized read other one = twin_after size_at (λ n. n.1) (λ n. read n.0) (λ n. other n.0) (λ n. one n.0)

  twin_each : (read : TypeRef → Reader Uses Tree) (other : TypeRef → Reader (Unit {0}) Tree) → ((kind : TypeRef) → Twin (read kind) (other kind)) → (ks : List TypeRef) → Twin (each_at read ks) (each_at other ks)
  twin_each read other one [] = twin_given _
  twin_each read other one (kind ∷ ks) = twin_then (read kind) (other kind) (one kind) (λ v. made (tree v) (each_at read ks)) (λ v. made (tree v) (each_at other ks)) (λ v. twin_made (tree v) (each_at read ks) (each_at other ks) (twin_each read other one ks))

  module _ (key value : Reader Uses Tree) (other_key other_value : Reader (Unit {0}) Tree) (one : Twin key other_key) (two : Twin value other_value) where
    new_twin : {B : Type 0} (has : Bool) (place : ℕ) (next : Tree → Reader Uses B) (more : Tree → Reader (Unit {0}) B) → ((v : Tree) → Twin (next v) (more v))
        → Twin (λ s r. cond has (fault place EqualKey) (value s r) >>= λ v. next v.0 v.1 v.2) (λ s r. cond has (fault place EqualKey) (other_value s r) >>= λ v. more v.0 v.1 v.2)
    new_twin true place next more later s r y e = absurd cc
    new_twin false place next more later s r y e = twin_then value other_value two next more later s r y e

    twin_pairs : (n : ℕ) (before : Entries) → Twin (pairs_at key value n before) (pairs_at other_key other_value n before)
    twin_pairs zero before s r y e = twin_given before s r y e
    twin_pairs (suc n) before s r y e =
        twin_then key other_key one
        (λ k s m. cond (has_key k before) (fault r.place EqualKey) (value s m) >>= λ v. pairs_at key value n (insert k v.0 before) v.1 v.2)
        (λ k s m. cond (has_key k before) (fault r.place EqualKey) (other_value s m) >>= λ v. pairs_at other_key other_value n (insert k v.0 before) v.1 v.2)
        (λ k. new_twin (has_key k before) r.place (λ v. pairs_at key value n (insert k v before)) (λ v. pairs_at other_key other_value n (insert k v before)) (λ v. twin_pairs n (insert k v before))) s r y e

  twin_listed : {A B : Type 0} (o : Option A) (read : A → Reader Uses B) (other : A → Reader (Unit {0}) B) → ((a : A) → Twin (read a) (other a)) → Twin (λ s r. listed o r (λ a. read a s r)) (λ s r. listed o r (λ a. other a s r))
  twin_listed None read other one s r y e = absurd cc
  twin_listed (Some a) read other one s r y e = one a s r y e

  -- ---- a place

  entry_twin : (declared : Option ℕ) (place n : ℕ) (s : Uses) (r : Rest) (x : Option ℕ × Uses × Rest) → entry_of true declared place n s r ≡ Ok x
      → (uses : Uses) × (x.1 ≡ s ++ uses) × (place_within most place n r ≡ within most uses (done x.0 x.2))
  entry_twin declared place zero s r x e =
      let same = ok_is (None, s, r) x e in
      ([], ap (λ (z : Option ℕ × Uses × Rest). z.1) (sym same) ∙ sym (append-nil s), ap (λ (z : Option ℕ × Uses × Rest). done z.0 z.2) same)
  entry_twin declared place (suc n) s r x e =
      let same = ok_is (Some n, s ++ met_at place declared n ∷ [], r) x e in
      (met_at place declared n ∷ [], ap (λ (z : Option ℕ × Uses × Rest). z.1) (sym same), ap (λ (z : Option ℕ × Uses × Rest). within most (met_at place declared n ∷ []) (done z.0 z.2)) same)

  twin_reference : (declared : Option ℕ) → Twin (entry_at true declared) ((places most).read declared)
  twin_reference declared s r y e =
      then_ok (size_at r) (λ n. entry_of true declared r.place n.0 s n.1) y e λ n n_is last.
      let a = entry_twin declared r.place n.0 s n.1 y last in
      (a.0, a.1, goes (size_at r) (λ n. place_within most r.place n.0 n.1) n n_is ∙ a.2)

  module _ (t : Tables) where
    abbrev read : ℕ → TypeRef → Reader Uses Tree
    read = value_at (entry_at true) t

    abbrev other : ℕ → TypeRef → Reader (Unit {0}) Tree
    other = value_at (places most).read t

    abbrev items : {S : Type 0} → (TypeRef → Reader S Tree) → TypeRef → Reader S Trees
    items one kind = sized (λ n. each_at one (replicate n kind))

    abbrev pairs_in : {S : Type 0} → Reader S Tree → Reader S Tree → Reader S Entries
    pairs_in key value = sized (λ n. pairs_at key value n no_entry)

    twin_value : (levels : ℕ) (kind : TypeRef) → Twin (read levels kind) (other levels kind)
    twin_value zero kind s r y e = absurd cc
    twin_value (suc levels) kinds.Bool s r y e = twin_read boolean bool_at s r y e
    twin_value (suc levels) kinds.Byte s r y e = twin_read byte byte_at s r y e
    twin_value (suc levels) kinds.Short s r y e = twin_read short (signed_at w16) s r y e
    twin_value (suc levels) kinds.Int s r y e = twin_read int (signed_at w32) s r y e
    twin_value (suc levels) kinds.Long s r y e = twin_read long (signed_at w64) s r y e
    twin_value (suc levels) kinds.Text s r y e = twin_read text text_at s r y e
    twin_value (suc levels) (kinds.Proxy at) s r y e = twin_read proxy parts.proxy.read s r y e
    twin_value (suc levels) (kinds.Class at) s r y e = twin_made reference (entry_at true at) ((places most).read at) (twin_reference at) s r y e
    twin_value (suc levels) (kinds.Enum at) s r y e = twin_listed (slice_get t.enums at) (λ d. made enumerator (plain (enumerator_at d.entries))) (λ d. made enumerator (plain (enumerator_at d.entries)))
        (λ d. twin_read enumerator (enumerator_at d.entries)) s r y e
    twin_value (suc levels) (kinds.Seq at) s r y e =
        twin_listed (slice_get t.seqs at) (λ q. made sequence (items (read levels) q.element)) (λ q. made sequence (items (other levels) q.element))
        (λ q. twin_made sequence (items (read levels) q.element) (items (other levels) q.element) (twin_sized (λ n. each_at (read levels) (replicate n q.element)) (λ n. each_at (other levels) (replicate n q.element))
        (λ n. twin_each (read levels) (other levels) (twin_value levels) (replicate n q.element)))) s r y e
    twin_value (suc levels) (kinds.Dict at) s r y e =
        twin_listed (slice_get t.dicts at) (λ d. made dictionary (pairs_in (read levels d.key) (read levels d.value))) (λ d. made dictionary (pairs_in (other levels d.key) (other levels d.value)))
        (λ d. twin_made dictionary (pairs_in (read levels d.key) (read levels d.value)) (pairs_in (other levels d.key) (other levels d.value))
        (twin_sized (λ n. pairs_at (read levels d.key) (read levels d.value) n no_entry) (λ n. pairs_at (other levels d.key) (other levels d.value) n no_entry)
        (λ n. twin_pairs (read levels d.key) (read levels d.value) (other levels d.key) (other levels d.value) (twin_value levels d.key) (twin_value levels d.value) n no_entry))) s r y e
    twin_value (suc levels) (kinds.Struct at) s r y e =
        twin_listed (slice_get t.structs at) (λ d. made struct (each_at (read levels) (map (λ m. m.kind) d.members))) (λ d. made struct (each_at (other levels) (map (λ m. m.kind) d.members)))
        (λ d. twin_made struct (each_at (read levels) (map (λ m. m.kind) d.members)) (each_at (other levels) (map (λ m. m.kind) d.members)) (twin_each (read levels) (other levels) (twin_value levels) (map (λ m. m.kind) d.members))) s r y e

    -- ---- behind a tag

    end_twin : {A : Type 0} (left : List ℕ) (place : ℕ) (uses : Uses) (v : A) (s : Uses) (behind : Rest) (y : A × Uses × Rest) → ended left place (v, s, behind) ≡ Ok y
        → (v ≡ y.0) × (s ≡ y.1) × (ended left place (v, tt, behind) ≡ done y.0 y.2)
    end_twin [] place uses v s behind y e =
        let same = ok_is (v, s, behind) y e in
        (ap (λ (z : _ × Uses × Rest). z.0) same, ap (λ (z : _ × Uses × Rest). z.1) same, ap (λ (z : _ × Uses × Rest). done z.0 z.2) same)
    end_twin (b ∷ bs) place uses v s behind y e = absurd cc

    module _ {A : Type 0} (one : Reader Uses A) (two : Reader (Unit {0}) A) (twin : Twin one two) where
      twin_prefixed : (number : Part ℕ) → Twin (prefixed number one) (prefixed number two)
      twin_prefixed number s r y e =
          then_ok (bound_behind number r) (λ bound. one s bound.0 >>= λ x. ended x.2.bytes x.2.place (x.0, x.1, bound.1)) y e λ bound bound_is later.
          then_ok (one s bound.0) (λ x. ended x.2.bytes x.2.place (x.0, x.1, bound.1)) y later λ x x_is last.
          let a = twin s bound.0 x x_is in
          let b = end_twin x.2.bytes x.2.place a.0 x.0 x.1 bound.1 y last in
          let go_on : A × (Unit {0}) × Rest → Result (A × (Unit {0}) × Rest) Fault = λ x. ended x.2.bytes x.2.place (x.0, x.1, bound.1) in (
            a.0,
            sym b.1 ∙ a.1,
            goes (bound_behind number r) (λ bound. two tt bound.0 >>= λ x. ended x.2.bytes x.2.place (x.0, x.1, bound.1)) bound bound_is
                ∙ ap (λ (z : Result (A × (Unit {0}) × Rest) Fault). z >>= go_on) a.2 ∙ within_goes a.0 (x.0, tt, x.2) go_on ∙ ap (within most a.0) b.2,
          )

      twin_counted : Twin (counted one) (counted two)
      twin_counted s r y e =
          then_ok (bound_behind size r) (λ bound. one s r) y e λ bound bound_is last.
          let a = twin s r y last in
          (a.0, a.1, goes (bound_behind size r) (λ bound. two tt r) bound bound_is ∙ a.2)

      twin_framed : (p : Prefix) → Twin (framed p one) (framed p two)
      twin_framed no_length = twin
      twin_framed own_size = twin_counted
      twin_framed as_size = twin_prefixed size
      twin_framed as_int = twin_prefixed count

    twin_skipped : (is_reference : Bool) (format : ℕ) → Twin (skipped_by (entry_at true) t is_reference format) (skipped_by (places most).read t is_reference format)
    twin_skipped true format = twin_made not_unknown (entry_at true None) ((places most).read None) (twin_reference None)
    twin_skipped false format = twin_after (passed_at format) (λ behind. behind) (λ behind. given None) (λ behind. given None) (λ behind. twin_given None)

    tested_twin : {A : Type 0} (test : Bool) (place : ℕ) (one : Reader Uses A) (two : Reader (Unit {0}) A) → Twin one two → Twin (steps.tested test place BadFormat one) (steps.tested test place BadFormat two)
    tested_twin true place one two twin s r y e = twin s r y e
    tested_twin false place one two twin s r y e = absurd cc

    twin_tagged : (place : ℕ) (kind : Option TypeRef) (format : ℕ) → Twin (tagged (entry_at true) t place kind format) (tagged (places most).read t place kind format)
    twin_tagged place None format = twin_skipped (eqb format FORMAT_CLASS) format
    twin_tagged place (Some kind) format = tested_twin (eqb format (optional_format t kind)) place (made Some (framed (prefix_of t kind) (read MOST_DEPTH kind))) (made Some (framed (prefix_of t kind) (other MOST_DEPTH kind)))
        (twin_made Some (framed (prefix_of t kind) (read MOST_DEPTH kind)) (framed (prefix_of t kind) (other MOST_DEPTH kind)) (twin_framed (read MOST_DEPTH kind) (other MOST_DEPTH kind) (twin_value MOST_DEPTH kind) (prefix_of t kind)))

    module _ (members : List Member) where
      abbrev options : ℕ → Option ℕ → Reader Uses Present
      options = options_at (entry_at true) t true members

      abbrev other_options : ℕ → Option ℕ → Reader (Unit {0}) Present
      other_options = options_at (places most).read t true members

      twin_option : (steps_left : ℕ) → ((last : Option ℕ) → Twin (options steps_left last) (other_options steps_left last)) → (place : ℕ) (next : Option (ℕ × ℕ)) → Twin (option_then (entry_at true) t true members (options steps_left) place next) (option_then (places most).read t true members (other_options steps_left) place next)
      twin_option steps_left later place None = twin_given []
      twin_option steps_left later place (Some it) =
          twin_then (tagged (entry_at true) t place (kind_tagged it.0 members) it.1) (tagged (places most).read t place (kind_tagged it.0 members) it.1) (twin_tagged place (kind_tagged it.0 members) it.1)
          (λ v. made (with_option it.0 v) (options steps_left (Some it.0))) (λ v. made (with_option it.0 v) (other_options steps_left (Some it.0))) (λ v. twin_made (with_option it.0 v) (options steps_left (Some it.0)) (other_options steps_left (Some it.0)) (later (Some it.0)))

      twin_options : (steps_left : ℕ) (last : Option ℕ) → Twin (options steps_left last) (other_options steps_left last)
      twin_options zero last s r y e = absurd cc
      twin_options (suc steps_left) last s r y e =
          twin_after (next_tag_at last true) (λ next. next.1) (λ next. option_then (entry_at true) t true members (options steps_left) r.place next.0) (λ next. option_then (places most).read t true members (other_options steps_left) r.place next.0)
          (λ next. twin_option steps_left (twin_options steps_left) r.place next.0) s r y e

      twin_all : Twin (all_options (entry_at true) t true members) (all_options (places most).read t true members)
      twin_all s r y e = twin_options (suc (length r.bytes)) None s r y e

    twin_flagged : (flagged : Bool) (members : List Member) → Twin (if_flagged (entry_at true) t flagged (all_options (entry_at true) t true members)) (if_flagged (places most).read t flagged (all_options (places most).read t true members))
    twin_flagged true members = twin_all members
    twin_flagged false members = twin_given []

    pub twin_members : (flagged : Bool) (shape : Shape) → Twin (slice_members_at (entry_at true) t flagged shape) (slice_members_at (places most).read t flagged shape)
    twin_members flagged shape =
        twin_then (each_at (read MOST_DEPTH) (required_kinds shape)) (each_at (other MOST_DEPTH) (required_kinds shape)) (twin_each (read MOST_DEPTH) (other MOST_DEPTH) (twin_value MOST_DEPTH) (required_kinds shape))
        (λ required. made (with_optional required) (if_flagged (entry_at true) t flagged (all_options (entry_at true) t true shape.optional)))
        (λ required. made (with_optional required) (if_flagged (places most).read t flagged (all_options (places most).read t true shape.optional)))
        (λ required. twin_made (with_optional required) (if_flagged (entry_at true) t flagged (all_options (entry_at true) t true shape.optional)) (if_flagged (places most).read t flagged (all_options (places most).read t true shape.optional)) (twin_flagged flagged shape.optional))
