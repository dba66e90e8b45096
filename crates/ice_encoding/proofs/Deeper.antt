-- A type of a schema is read alike at every number of levels from those within which it nests.
use Rattle.std.proofs.Common.{ℕ, zero, suc, ◌≤◌, ◌≡◌, max, ◌&&◌, List, [], ◌∷◌, map, replicate, refl, ap, ◌∙◌, arith, Result, Ok, Err, Option, Some}
use Rattle.std.specs.Prelude.{slice_get}
use Rattle.ice_types.specs.declared.kind.TypeRef.{TypeRef}
use Rattle.ice_types.specs.declared.kind.TypeRef.TheVariants as kinds
use Rattle.ice_types.specs.declared.declarations.Member.{Member}
use Rattle.ice_types.specs.declared.measure.Measure.{Measure}
use Rattle.ice_types.specs.Tables.{Tables}
use Rattle.ice_types.specs.Measures.{measure, measured, measure_members, with_member, container, structure, sequence_of, dictionary_of, struct_of}
use Rattle.ice_types.proofs.Levels.{found_by, measure_more}
use Rattle.ice_prims.specs.declared.fault.Fault.{Fault}
use Rattle.ice_prims.specs.Rest.{Rest, ◌>>=◌}
use Rattle.ice_prims.specs.Number.{size_at}
use Rattle.ice_encoding.specs.Tree.{Tree, sequence, dictionary, struct, tree, Entries, no_entry}
use Rattle.ice_encoding.specs.Order.{insert}
use Rattle.ice_encoding.specs.Port.{Port, Reader}
use Rattle.ice_encoding.specs.Reading.{made, sized, each_at, new_key, pairs_at, value_at}

-- two ways to read that answer alike
abbrev Alike : {R A : Type 0} → Reader R A → Reader R A → Type 0
Alike {R} {A} read other = (s : R) (r : Rest) → read s r ≡ other s r

-- steps that go on alike
goes_alike : {A B : Type 0} (r : Result A Fault) (f g : A → Result B Fault) → ((x : A) → f x ≡ g x) → (r >>= f) ≡ (r >>= g)
goes_alike (Ok x) f g h = h x
goes_alike (Err e) f g h = refl

both_alike : {A B : Type 0} (a b : Result A Fault) (f g : A → Result B Fault) → a ≡ b → ((x : A) → f x ≡ g x) → (a >>= f) ≡ (b >>= g)
both_alike {A = A} a b f g e h = ap (λ (r : Result A Fault). r >>= f) e ∙ goes_alike b f g h

module _ {R : Type 0} where
  made_alike : {A B : Type 0} (make : A → B) (read other : Reader R A) → Alike read other → Alike (made make read) (made make other)
  made_alike make read other h s r = ap (λ (x : Result _ Fault). x >>= λ x. Ok (make x.0, x.1, x.2)) (h s r)

  sized_alike : {A : Type 0} (read other : ℕ → Reader R A) → ((n : ℕ) → Alike (read n) (other n)) → Alike (sized read) (sized other)
  sized_alike read other h s r = goes_alike (size_at r) (λ n. read n.0 s n.1) (λ n. other n.0 s n.1) (λ n. h n.0 s n.1)

  -- of the types that stand there
  abbrev AllAlike : (TypeRef → Reader R Tree) → (TypeRef → Reader R Tree) → List TypeRef → Type 0
  AllAlike read other [] = Unit {0}
  AllAlike read other (kind ∷ ks) = Alike (read kind) (other kind) × AllAlike read other ks

  each_alike : (read other : TypeRef → Reader R Tree) (ks : List TypeRef) → AllAlike read other ks → Alike (each_at read ks) (each_at other ks)
  each_alike read other [] h s r = refl
  each_alike read other (kind ∷ ks) h s r =
      both_alike (read kind s r) (other kind s r) (λ first. each_at read ks first.1 first.2 >>= λ rest. Ok (tree first.0 rest.0, rest.1, rest.2)) (λ first. each_at other ks first.1 first.2 >>= λ rest. Ok (tree first.0 rest.0, rest.1, rest.2))
      (h.0 s r) (λ first. ap (λ (x : Result _ Fault). x >>= λ rest. Ok (tree first.0 rest.0, rest.1, rest.2)) (each_alike read other ks h.1 first.1 first.2))

  repeated : (read other : TypeRef → Reader R Tree) (kind : TypeRef) → Alike (read kind) (other kind) → (n : ℕ) → AllAlike read other (replicate n kind)
  repeated read other kind h zero = tt
  repeated read other kind h (suc n) = (h, repeated read other kind h n)

  pairs_alike : (key key' value value' : Reader R Tree) → Alike key key' → Alike value value' → (n : ℕ) (before : Entries) → Alike (pairs_at key value n before) (pairs_at key' value' n before)
  pairs_alike key key' value value' p q zero before s r = refl
  pairs_alike key key' value value' p q (suc n) before s r =
      both_alike (key s r) (key' s r)
      (λ k. new_key k.0 before r.place (value k.1 k.2) >>= λ v. pairs_at key value n (insert k.0 v.0 before) v.1 v.2)
      (λ k. new_key k.0 before r.place (value' k.1 k.2) >>= λ v. pairs_at key' value' n (insert k.0 v.0 before) v.1 v.2)
      (p s r)
      (λ k. both_alike (new_key k.0 before r.place (value k.1 k.2)) (new_key k.0 before r.place (value' k.1 k.2))
      (λ v. pairs_at key value n (insert k.0 v.0 before) v.1 v.2) (λ v. pairs_at key' value' n (insert k.0 v.0 before) v.1 v.2)
      (ap (λ (x : Result _ Fault). new_key k.0 before r.place x) (q k.1 k.2))
      (λ v. pairs_alike key key' value value' p q n (insert k.0 v.0 before) v.1 v.2))

members_alike : {R : Type 0} (of : TypeRef → Option Measure) (read other : TypeRef → Reader R Tree) → ((kind : TypeRef) (m : Measure) → of kind ≡ Some m → Alike (read kind) (other kind))
    → (ms : List Member) (m : Measure) → measure_members of ms ≡ Some m → AllAlike read other (map (λ d. d.kind) ms)
members_alike of read other one [] m e = tt
members_alike of read other one (d ∷ ds) m e =
    found_by (of d.kind) (λ first. measured (measure_members of ds) (λ others. Some (with_member first others))) m e λ first first_is rest.
    found_by (measure_members of ds) (λ others. Some (with_member first others)) m rest λ others others_is last.
    (one d.kind first first_is, members_alike of read other one ds others others_is)

module _ {R S : Type 0} (port : Port R S) (t : Tables) where
  pub value_alike : (levels more : ℕ) → levels ≤ more → (kind : TypeRef) (m : Measure) → measure t levels kind ≡ Some m → Alike (value_at port.read t levels kind) (value_at port.read t more kind)
  unfolding measure
  value_alike zero more le kind m e s r = absurd cc
  value_alike (suc levels) zero le kind m e s r = absurd (omega (arith, le))
  value_alike (suc levels) (suc more) le kinds.Bool m e s r = refl
  value_alike (suc levels) (suc more) le kinds.Byte m e s r = refl
  value_alike (suc levels) (suc more) le kinds.Short m e s r = refl
  value_alike (suc levels) (suc more) le kinds.Int m e s r = refl
  value_alike (suc levels) (suc more) le kinds.Long m e s r = refl
  value_alike (suc levels) (suc more) le kinds.Text m e s r = refl
  value_alike (suc levels) (suc more) le (kinds.Enum at) m e s r = refl
  value_alike (suc levels) (suc more) le (kinds.Proxy at) m e s r = refl
  value_alike (suc levels) (suc more) le (kinds.Class at) m e s r = refl
  value_alike (suc levels) (suc more) le (kinds.Seq at) m e s r =
      found_by (slice_get t.seqs at) (λ q. sequence_of (measure t levels q.element)) m e λ q q_is parts.
      found_by (measure t levels q.element) (λ x. Some (container (suc x.depth) x.is_built)) m parts λ x x_is last.
      let read = value_at port.read t levels in
      let other = value_at port.read t more in
      rw q_is (made_alike sequence (sized (λ n. each_at read (replicate n q.element))) (sized (λ n. each_at other (replicate n q.element)))
      (sized_alike (λ n. each_at read (replicate n q.element)) (λ n. each_at other (replicate n q.element)) (λ n. each_alike read other (replicate n q.element) (repeated read other q.element (value_alike levels more (omega (arith, le)) q.element x x_is) n))) s r)
  value_alike (suc zero) (suc more) le (kinds.Dict at) m e s r = absurd cc
  value_alike (suc (suc levels)) (suc more) le (kinds.Dict at) m e s r =
      found_by (slice_get t.dicts at) (λ d. dictionary_of (measure t levels d.key) (measure t levels d.value)) m e λ d d_is parts.
      found_by (measure t levels d.key) (λ k. measured (measure t levels d.value) (λ w. Some (container (suc (suc (max k.depth w.depth))) (k.is_built && w.is_built)))) m parts λ k k_is rest.
      found_by (measure t levels d.value) (λ w. Some (container (suc (suc (max k.depth w.depth))) (k.is_built && w.is_built))) m rest λ w w_is last.
      let read = value_at port.read t (suc levels) in
      let other = value_at port.read t more in
      let key = value_alike (suc levels) more (omega (arith, le)) d.key k (measure_more t levels (suc levels) (omega arith) d.key k k_is) in
      let value = value_alike (suc levels) more (omega (arith, le)) d.value w (measure_more t levels (suc levels) (omega arith) d.value w w_is) in
      rw d_is (made_alike dictionary (sized (λ n. pairs_at (read d.key) (read d.value) n no_entry)) (sized (λ n. pairs_at (other d.key) (other d.value) n no_entry))
      (sized_alike (λ n. pairs_at (read d.key) (read d.value) n no_entry) (λ n. pairs_at (other d.key) (other d.value) n no_entry) (λ n. pairs_alike (read d.key) (other d.key) (read d.value) (other d.value) key value n no_entry)) s r)
  value_alike (suc levels) (suc more) le (kinds.Struct at) m e s r =
      found_by (slice_get t.structs at) (λ d. struct_of (measure_members (measure t levels) d.members)) m e λ d d_is parts.
      found_by (measure_members (measure t levels) d.members) (λ x. Some (structure x)) m parts λ x x_is last.
      let read = value_at port.read t levels in
      let other = value_at port.read t more in
      rw d_is (made_alike struct (each_at read (map (λ m. m.kind) d.members)) (each_at other (map (λ m. m.kind) d.members))
      (each_alike read other (map (λ m. m.kind) d.members) (members_alike (measure t levels) read other (λ kind y is. value_alike levels more (omega (arith, le)) kind y is) d.members x x_is)) s r)
