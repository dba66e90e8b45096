-- How what is still read of required members changes with a step.
use Rattle.std.proofs.Common.{◌≡◌, ℕ, zero, suc, ◌+◌, ◌*◌, ◌<◌, true, false, List, [], ◌∷◌, ◌++◌, drop, length, Result, Ok, Err, Option, None, Some, slice_get, refl, sym, ap, ◌∙◌, add-one, arith}
use Rattle.std.specs.Option.{is_none}
use Rattle.ice_prims.specs.declared.fault.Fault.{Fault}
use Rattle.ice_prims.specs.Rest.{Rest, ◌>>=◌}
use Rattle.ice_types.specs.declared.kind.TypeRef.{TypeRef}
use Rattle.ice_types.specs.declared.declarations.Member.{Member}
use Rattle.ice_types.specs.Tables.{Tables}
use Rattle.ice_encoding.specs.Tree.{Tree, Trees, none, tree}
use Rattle.ice_encoding.specs.Port.{Reader}
use Rattle.ice_encoding.specs.Reading.{each_at}
use Rattle.ice_encoding.specs.Pausing.{Met, Inside}
use Rattle.graph_arena.specs.declared.value.Value.{Value}
use Rattle.graph_arena.specs.View.{view, view_all}
use Rattle.ice_values.specs.declared.reader.ValueReader.{ValueReader}
use Rattle.ice_values.specs.Frames.{join, add}
use Rattle.ice_values.specs.Going.{whole_at, left_of, fresh, Ends}
use Rattle.ice_values.specs.Rests.{then}
use Rattle.ice_values.proofs.Frames.{join-none, join-tree, left-whole, reader-ends, view_all-push}
use Rattle.value_parts.specs.Shapes.{without_tag}
use Rattle.ice_values.specs.Unread.{kinds_of, kinds_left, required_behind, from_member}

-- ---- the members that are left

some-same : {A : Type 0} {x y : A} → Some x ≡ Some y → x ≡ y
some-same h = cc

nothing-found : (at : ℕ) (m : Member) → slice_get [] at ≡ Some m → ⊥
nothing-found zero m h = cc
nothing-found (suc at) m h = cc

found-there : (x : Member) → Some x ≡ None → ⊥
found-there x h = cc

drop-found : (ms : List Member) (at : ℕ) (m : Member) → slice_get ms at ≡ Some m → drop at ms ≡ m ∷ drop (suc at) ms
drop-found [] at m found = absurd (nothing-found at m found)
drop-found (x ∷ xs) zero m found = ap (λ (y : Member). y ∷ xs) (some-same found)
drop-found (x ∷ xs) (suc at) m found = drop-found xs at m found

drop-none : (ms : List Member) (at : ℕ) → slice_get ms at ≡ None → drop at ms ≡ []
drop-none [] zero h = refl
drop-none [] (suc at) h = refl
drop-none (x ∷ xs) zero h = absurd (found-there x h)
drop-none (x ∷ xs) (suc at) h = drop-none xs at h

kinds-found : (ms : List Member) (at : ℕ) (m : Member) → slice_get ms at ≡ Some m → is_none m.tag ≡ true → kinds_left ms at ≡ m.kind ∷ kinds_left ms (suc at)
kinds-found ms at m found plain = rw (drop-found ms at m found, plain) refl

kinds-passed : (ms : List Member) (at : ℕ) (m : Member) → slice_get ms at ≡ Some m → is_none m.tag ≡ false → kinds_left ms at ≡ kinds_left ms (suc at)
kinds-passed ms at m found plain = rw (drop-found ms at m found, plain) refl

kinds-none : (ms : List Member) (at : ℕ) → slice_get ms at ≡ None → kinds_left ms at ≡ []
kinds-none ms at h = ap (λ (xs : List Member). kinds_of (without_tag xs)) (drop-none ms at h)

-- there is less to do once the next member has begun
pub begun-less : (ms : List Member) (at n : ℕ) (m : Member) → slice_get ms at ≡ Some m → n < 2 → 2 * length (drop (at + 1) ms) + n < 2 * length (drop at ms) + 0
begun-less ms at n m found few = rw add-one (omega (arith, few, ap length (drop-found ms at m found)))

-- ---- reading them

abbrev behind_done : {S : Type 0} → Trees → Trees → Reader S Trees
behind_done had others s r = Ok (join had others, s, r)

other_read : {S : Type 0} (had : Trees) (v : Tree) (others : Result (Trees × S × Rest) Fault) → then (others >>= λ x. Ok (tree v x.0, x.1, x.2)) (behind_done had) ≡ then others (behind_done (add had v))
other_read had v (Ok x) = ap (λ (ts : Trees). behind_done none ts x.1 x.2) (join-tree had v x.0)
other_read had v (Err e) = refl

first_read : {S : Type 0} (had : Trees) (first : Result (Tree × S × Rest) Fault) (others : Reader S Trees)
    → then (first >>= λ v. others v.1 v.2 >>= λ x. Ok (tree v.0 x.0, x.1, x.2)) (behind_done had) ≡ then first (λ v s r. then (others s r) (behind_done (add had v)))
first_read had (Ok v) others = other_read had v.0 (others v.1 v.2)
first_read had (Err e) others = refl

module _ {S : Type 0} (take : Option ℕ → Reader S Met) (t : Tables) (inside : Inside S) where
  first_kind : (had : Trees) (kind : TypeRef) (kinds : List TypeRef) (s : S) (r : Rest) → required_behind take t inside had (kind ∷ kinds) s r ≡ from_member take t inside (Some (fresh kind)) had kinds s r
  unfolding required_behind
  first_kind had kind kinds s r =
      first_read had (whole_at take t inside kind s r) (λ s' r'. each_at (whole_at take t inside) kinds s' r')
      ∙ ap (λ (read : Result (Tree × S × Rest) Fault). then read (λ v. required_behind take t inside (add had v) kinds)) (left-whole take t inside kind (fresh kind) s r refl)

  no_kind : (had : Trees) (s : S) (r : Rest) → required_behind take t inside had [] s r ≡ Ok (had, s, r)
  unfolding required_behind
  no_kind had s r = rw (join-none had) refl

  -- the next member begins
  pub member-begins : (had : Trees) (ms : List Member) (at : ℕ) (m : Member) (s : S) (r : Rest) → slice_get ms at ≡ Some m → is_none m.tag ≡ true
      → required_behind take t inside had (kinds_left ms at) s r ≡ from_member take t inside (Some (fresh m.kind)) had (kinds_left ms (suc at)) s r
  member-begins had ms at m s r found plain =
      ap (λ (ks : List TypeRef). required_behind take t inside had ks s r) (kinds-found ms at m found plain) ∙ first_kind had m.kind (kinds_left ms (suc at)) s r

  -- it is an optional one
  pub member-passed : (had : Trees) (ms : List Member) (at : ℕ) (m : Member) (s : S) (r : Rest) → slice_get ms at ≡ Some m → is_none m.tag ≡ false
      → required_behind take t inside had (kinds_left ms at) s r ≡ required_behind take t inside had (kinds_left ms (suc at)) s r
  member-passed had ms at m s r found tagged = ap (λ (ks : List TypeRef). required_behind take t inside had ks s r) (kinds-passed ms at m found tagged)

  -- no member is left
  pub members-end : (had : Trees) (ms : List Member) (at : ℕ) (s : S) (r : Rest) → slice_get ms at ≡ None → required_behind take t inside had (kinds_left ms at) s r ≡ Ok (had, s, r)
  members-end had ms at s r over = ap (λ (ks : List TypeRef). required_behind take t inside had ks s r) (kinds-none ms at over) ∙ no_kind had s r

  -- the member that had begun is read whole
  pub member-ends : (reader : ValueReader) (old new : List Value) (v : Value) (kinds : List TypeRef) (s s' : S) (r r' : Rest) → left_of take t inside reader s r ≡ Ok (view v, s', r') → new ≡ old ++ v ∷ []
      → from_member take t inside (Some reader) (view_all old) kinds s r ≡ required_behind take t inside (view_all new) kinds s' r'
  member-ends reader old new v kinds s s' r r' read pushed =
      ap (λ (x : Result (Tree × S × Rest) Fault). then x (λ w. required_behind take t inside (add (view_all old) w) kinds)) read
      ∙ ap (λ (ts : Trees). required_behind take t inside ts kinds s' r') (sym (ap view_all pushed ∙ view_all-push old v))

  -- it is read whole, and no other is left
  pub last-ends : (reader spent : ValueReader) (old new : List Value) (v : Value) (ms : List Member) (at : ℕ) (s : S) (r : Rest) → Ends reader spent (Some v) → new ≡ old ++ v ∷ [] → slice_get ms at ≡ None
      → from_member take t inside (Some reader) (view_all old) (kinds_left ms at) s r ≡ Ok (view_all new, s, r)
  last-ends reader spent old new v ms at s r ends pushed over =
      member-ends reader old new v (kinds_left ms at) s s r r (reader-ends take t inside reader spent v s r ends) pushed
      ∙ members-end (view_all new) ms at s r over
