-- A fault of a value is read exactly where it has the defect, by that of a reference.
use Rattle.std.proofs.Common.{◌≡◌, ℕ, zero, suc, ◌+◌, ◌⊎◌, max, Bool, true, false, ◌&&◌, cond, List, [], ◌∷◌, length, map, replicate, Option, None, Some, Result, refl, sym, subst, ◌∙◌, inl, inr, arith}
use Rattle.std.specs.Prelude.{slice_get}
use Rattle.std.specs.Int.{Width, w16, w32, w64, byte_len, cast_signed, from_le_bytes}
use Rattle.ice_types.specs.declared.kind.TypeRef.{TypeRef}
use Rattle.ice_types.specs.declared.kind.TypeRef.TheVariants as kinds
use Rattle.ice_types.specs.declared.declarations.Member.{Member}
use Rattle.ice_types.specs.declared.measure.Measure.{Measure}
use Rattle.ice_types.specs.Tables.{Tables}
use Rattle.ice_types.specs.Measures.{measure, measured, measure_members, with_member, container, structure, enumeration, sequence_of, dictionary_of, struct_of}
use Rattle.ice_types.proofs.Levels.{found_by, measure_more}
use Rattle.ice_prims.specs.declared.fault.Fault.{Fault}
use Rattle.ice_prims.specs.declared.fault.Kind.TheVariants.{EqualKey}
use Rattle.ice_prims.specs.Rest.{Rest, fault, ◌>>=◌, IsBytes}
use Rattle.ice_prims.specs.Number.{bool_at, byte_at, signed_at, text_at}
use Rattle.ice_prims.proofs.Parts.{Took-fits}
use Rattle.ice_encoding.specs.Enum.{enumerator_at}
use Rattle.ice_encoding.specs.Order.{has_key, insert, LacksKey}
use Rattle.ice_encoding.specs.Parts.{size}
use Rattle.ice_encoding.specs.Port.{Port, IsLawful, Reader, Speller}
use Rattle.ice_encoding.specs.Proxy as parts
use Rattle.ice_encoding.specs.Reading.{new_key, pairs_at, each_at, plain, made, sized, listed, value_at}
use Rattle.ice_encoding.specs.Spelling.{Each, Pairs, SpellsValue}
use Rattle.ice_encoding.specs.Tree.{Tree, boolean, byte, short, int, long, text, sequence, dictionary, struct, enumerator, proxy, reference, none, tree, Entries, no_entry}
use Rattle.ice_encoding.proofs.Joined.{size_lawful}
use Rattle.ice_encoding.proofs.Order.{is_new, has_none}
use Rattle.ice_encoding.proofs.Values.{Lawful, value_lawful}
use Rattle.graph_laws.specs.Defects.{Defect, At, Lacks, Then, Followed, SizeBreaks, TextBreaks}
use Rattle.graph_laws.specs.Proxies.{BoolBreaks, EnumeratorBreaks, ProxyBreaks}
use Rattle.graph_laws.specs.Values.{EachBreaks, PairsBreak, ValueBreaks}
use Rattle.graph_laws.proofs.Breaking.{failed, same_err, no_err, then_err, lacks_agrees}
use Rattle.graph_laws.proofs.Primitives.{byte_agrees, size_agrees, text_agrees}
use Rattle.graph_laws.proofs.Proxies.{bool_agrees, enumerator_agrees, proxy_agrees}
use Rattle.graph_laws.proofs.From.{goes, stops, Tells, Keeps, plain_tells, made_tells, followed_tells, after_tells}

-- ---- a row of a table

listed_tells : {R S A B : Type 0} (seen : R → S) (Good : S → Type 0) (o : Option A) (a : A) (read : A → Reader R B) (Breaks : A → S → Defect) → o ≡ Some a → Tells seen Good (read a) (Breaks a)
    → Tells seen Good (λ s r. listed o r (λ x. read x s r)) (λ from place bytes fault. (x : A) × (o ≡ Some x) × Breaks x from place bytes fault)
listed_tells seen Good None a read Breaks is one = absurd cc
listed_tells {S = S} seen Good (Some b) a read Breaks is one = record {
  broken = λ s r e good fits h. (b, refl, (there b same).broken s r e good fits h);
  breaks = λ s r e h. (there b same).breaks s r e (subst (λ x. Breaks x (seen s) r.place r.bytes e) (sym (of h.0 h.1)) h.2);
}
  where
    same : a ≡ b
    same = cc

    there : (x : _) → a ≡ x → Tells seen Good (read x) (Breaks x)
    there x e = subst (λ y. Tells seen Good (read y) (Breaks y)) e one

    of : (x : _) → Some b ≡ Some x → b ≡ x
    of x e = cc

-- ---- values one after the other, and pairs

module _ {R S : Type 0} (seen : R → S) (Good : S → Type 0) where
  -- what is known of a type
  pub record Known (read : TypeRef → Reader R Tree) (One : TypeRef → Speller S Tree) (Breaks : TypeRef → S → Defect) (kind : TypeRef) : Type 0 where
    pub law : Lawful seen (read kind) (One kind)
    pub keeps : Keeps Good (One kind)
    pub tells : Tells seen Good (read kind) (Breaks kind)

  abbrev pub AllKnown : (TypeRef → Reader R Tree) → (TypeRef → Speller S Tree) → (TypeRef → S → Defect) → List TypeRef → Type 0
  AllKnown read One Breaks [] = Unit {0}
  AllKnown read One Breaks (kind ∷ ks) = Known read One Breaks kind × AllKnown read One Breaks ks

  module _ (read : TypeRef → Reader R Tree) (One : TypeRef → Speller S Tree) (Breaks : TypeRef → S → Defect) where
    pub each_tells : (ks : List TypeRef) → AllKnown read One Breaks ks → Tells seen Good (each_at read ks) (EachBreaks One Breaks ks)
    each_tells [] known = record { broken = λ s r e good fits h. no_err (none, s, r) e h; breaks = λ s r e h. absurd h }
    each_tells (kind ∷ ks) known =
        followed_tells seen Good (read kind) (One kind) known.0.law known.0.keeps (Breaks kind) known.0.tells (λ v. made (tree v) (each_at read ks)) (λ v. EachBreaks One Breaks ks)
        (λ v. made_tells seen Good (tree v) (each_at read ks) (EachBreaks One Breaks ks) (each_tells ks known.1))

    pub repeated : (kind : TypeRef) → Known read One Breaks kind → (n : ℕ) → AllKnown read One Breaks (replicate n kind)
    repeated kind known zero = tt
    repeated kind known (suc n) = (known, repeated kind known n)

  module _ (key value : Reader R Tree) (Key Held : Speller S Tree) (KeyBreaks HeldBreaks : S → Defect) (key_law : Lawful seen key Key) (value_law : Lawful seen value Held) (key_keeps : Keeps Good Key) (value_keeps : Keeps Good Held)
      (key_tells : Tells seen Good key KeyBreaks) (value_tells : Tells seen Good value HeldBreaks) where
    abbrev Later : ℕ → Entries → S → Defect
    Later = PairsBreak Key KeyBreaks Held HeldBreaks

    abbrev behind_key : ℕ → Entries → Tree → ℕ → R → Rest → Result (Entries × R × Rest) Fault
    behind_key n before k place s r = new_key k before place (value s r) >>= λ v. pairs_at key value n (insert k v.0 before) v.1 v.2

    abbrev KeyDefect : ℕ → Entries → Tree → ℕ → S → Defect
    KeyDefect n before k start = λ mid place rest fault. (¬ LacksKey k before × At start EqualKey fault)
        ⊎ (LacksKey k before × Followed Held HeldBreaks (λ v. Later n (insert k v before)) mid place rest fault)

    value_then : (n : ℕ) (before : Entries) (k : Tree) → ((more : Entries) → Tells seen Good (pairs_at key value n more) (Later n more))
        → Tells seen Good (λ s r. value s r >>= λ v. pairs_at key value n (insert k v.0 before) v.1 v.2) (Followed Held HeldBreaks (λ v. Later n (insert k v before)))
    value_then n before k later = followed_tells seen Good value Held value_law value_keeps HeldBreaks value_tells (λ v. pairs_at key value n (insert k v before)) (λ v. Later n (insert k v before)) (λ v. later (insert k v before))

    behind_broken : (n : ℕ) (before : Entries) (k : Tree) (start : ℕ) → ((more : Entries) → Tells seen Good (pairs_at key value n more) (Later n more)) → (s : R) (r : Rest) (e : Fault) → Good (seen s) → IsBytes r.bytes
        → (has : Bool) → has_key k before ≡ has → (cond has (fault start EqualKey) (value s r) >>= λ v. pairs_at key value n (insert k v.0 before) v.1 v.2) ≡ failed e → KeyDefect n before k start (seen s) r.place r.bytes e
    behind_broken n before k start later s r e good fits true is h = inl ((λ lacks. differ (sym (has_none k before lacks) ∙ is)), sym (same_err (record { place = start; kind = EqualKey }) e h))
      where
        differ : false ≡ true → ⊥
        differ e = cc
    behind_broken n before k start later s r e good fits false is h = inr (is_new k before is, (value_then n before k later).broken s r e good fits h)

    behind_breaks : (n : ℕ) (before : Entries) (k : Tree) (start : ℕ) → ((more : Entries) → Tells seen Good (pairs_at key value n more) (Later n more)) → (s : R) (r : Rest) (e : Fault)
        → (has : Bool) → has_key k before ≡ has → KeyDefect n before k start (seen s) r.place r.bytes e → (cond has (fault start EqualKey) (value s r) >>= λ v. pairs_at key value n (insert k v.0 before) v.1 v.2) ≡ failed e
    behind_breaks n before k start later s r e true is (inl h) = rw h.1 refl
    behind_breaks n before k start later s r e true is (inr h) = absurd (differ (sym is ∙ has_none k before h.0))
      where
        differ : true ≡ false → ⊥
        differ e = cc
    behind_breaks n before k start later s r e false is (inl h) = absurd (h.0 (is_new k before is))
    behind_breaks n before k start later s r e false is (inr h) = (value_then n before k later).breaks s r e h.1

    pair_broken : (n : ℕ) (before : Entries) → ((more : Entries) → Tells seen Good (pairs_at key value n more) (Later n more)) → (s : R) (r : Rest) (e : Fault) → Good (seen s) → IsBytes r.bytes
        → pairs_at key value (suc n) before s r ≡ failed e → Later (suc n) before (seen s) r.place r.bytes e
    pair_broken n before later s r e good fits h = then_err (key s r) (λ k. behind_key n before k.0 r.place k.1 k.2) e h
        (λ bad. inl (key_tells.broken s r e good fits bad))
        (λ k k_is more.
        let f = key_law.found s r k fits k_is in
        let left = (Took-fits r k.2 f.0 fits f.1).1 in
        let d = behind_broken n before k.0 r.place later k.1 k.2 e (key_keeps f.0 k.0 (seen s) (seen k.1) f.2 good) left (has_key k.0 before) refl more in
        inr (k.0, seen k.1, f.0, k.2.bytes, f.1.parts, f.2, subst (λ (p : ℕ). KeyDefect n before k.0 r.place (seen k.1) p k.2.bytes e) f.1.moved d))

    pair_breaks : (n : ℕ) (before : Entries) → ((more : Entries) → Tells seen Good (pairs_at key value n more) (Later n more)) → (s : R) (r : Rest) (e : Fault) → Later (suc n) before (seen s) r.place r.bytes e
        → pairs_at key value (suc n) before s r ≡ failed e
    pair_breaks n before later s r e (inl h) = stops (key s r) (λ k. behind_key n before k.0 r.place k.1 k.2) e (key_tells.breaks s r e h)
    pair_breaks n before later s r e (inr (k, mid, a, rest, parts, spells, h)) =
        let m : Rest = record { place = r.place + length a; bytes = rest } in
        let o = key_law.only s mid r m a k (record { parts = parts; moved = refl }) spells in
        goes (key s r) (λ k. behind_key n before k.0 r.place k.1 k.2) (k, o.0, m) o.2
        ∙ behind_breaks n before k r.place later o.0 m e (has_key k before) refl (subst (λ (u : S). KeyDefect n before k r.place u m.place rest e) (sym o.1) h)

    pub pairs_tell : (n : ℕ) (before : Entries) → Tells seen Good (pairs_at key value n before) (Later n before)
    pairs_tell zero before = record { broken = λ s r e good fits h. no_err (before, s, r) e h; breaks = λ s r e h. absurd h }
    pairs_tell (suc n) before = record { broken = pair_broken n before (pairs_tell n); breaks = pair_breaks n before (pairs_tell n) }

-- ---- what is spelled leads on

pub each_keeps : {S : Type 0} (Good : S → Type 0) (One : TypeRef → Speller S Tree) → ((kind : TypeRef) → Keeps Good (One kind)) → (ks : List TypeRef) → Keeps Good (Each One ks)
each_keeps Good One one [] bytes x from to h good = subst Good (sym h.2) good
each_keeps Good One one (kind ∷ ks) bytes x from to h good = each_keeps Good One one ks h.3 h.1 h.4 to h.8 (one kind h.2 h.0 from h.4 h.7 good)

pairs_keep : {S : Type 0} (Good : S → Type 0) (Key Held : Speller S Tree) → Keeps Good Key → Keeps Good Held → (n : ℕ) (before : Entries) → Keeps Good (Pairs Key Held n before)
pairs_keep Good Key Held one two zero before bytes x from to h good = subst Good (sym h.2) good
pairs_keep Good Key Held one two (suc n) before bytes x from to h good =
    pairs_keep Good Key Held one two n (insert h.0 h.1 before) h.4 x h.6 to h.11 (two h.3 h.1 h.5 h.6 h.10 (one h.2 h.0 from h.5 h.8 good))

module _ {R S : Type 0} (port : Port R S) (Good : S → Type 0) (keeps : (at : Option ℕ) → Keeps Good (port.Spells at)) (t : Tables) where
  pub value_keeps : (levels : ℕ) (kind : TypeRef) → Keeps Good (SpellsValue port t levels kind)
  value_keeps zero kind bytes x from to h good = absurd h
  value_keeps (suc levels) kinds.Bool bytes x from to h good = subst Good (sym h.2.1) good
  value_keeps (suc levels) kinds.Byte bytes x from to h good = subst Good (sym h.2.1) good
  value_keeps (suc levels) kinds.Short bytes x from to h good = subst Good (sym h.2.1) good
  value_keeps (suc levels) kinds.Int bytes x from to h good = subst Good (sym h.2.1) good
  value_keeps (suc levels) kinds.Long bytes x from to h good = subst Good (sym h.2.1) good
  value_keeps (suc levels) kinds.Text bytes x from to h good = subst Good (sym h.2.1) good
  value_keeps (suc levels) (kinds.Enum at) bytes x from to h good = subst Good (sym h.2.2.1) good
  value_keeps (suc levels) (kinds.Proxy at) bytes x from to h good = subst Good (sym h.2.1) good
  value_keeps (suc levels) (kinds.Class at) bytes x from to h good = keeps at bytes h.0 from to h.2 good
  value_keeps (suc levels) (kinds.Seq at) bytes x from to (q, q_is, (values, made_is, (n, front, body, parts, front_is, h))) good =
      each_keeps Good (SpellsValue port t levels) (value_keeps levels) (replicate n q.element) body values from to h good
  value_keeps (suc levels) (kinds.Dict at) bytes x from to (d, d_is, (pairs, made_is, (n, front, body, parts, front_is, h))) good =
      pairs_keep Good (SpellsValue port t levels d.key) (SpellsValue port t levels d.value) (value_keeps levels d.key) (value_keeps levels d.value) n no_entry body pairs from to h good
  value_keeps (suc levels) (kinds.Struct at) bytes x from to (d, d_is, (values, made_is, h)) good =
      each_keeps Good (SpellsValue port t levels) (value_keeps levels) (map (λ m. m.kind) d.members) bytes values from to h good

-- ---- a value of a type

pub signed_tells : {R S : Type 0} (seen : R → S) (Good : S → Type 0) (w : Width) → Tells seen Good (plain (signed_at w)) (λ from. Lacks (byte_len w))
signed_tells seen Good w = plain_tells seen Good (signed_at w) (Lacks (byte_len w)) (lacks_agrees (byte_len w) (λ b. cast_signed w (from_le_bytes w b)))

module _ {R S : Type 0} (port : Port R S) (lawful : IsLawful port) (Good : S → Type 0) (keeps : (at : Option ℕ) → Keeps Good (port.Spells at)) (ReferenceBreaks : Option ℕ → S → Defect)
    (refer : (at : Option ℕ) → Tells port.seen Good (port.read at) (ReferenceBreaks at)) (t : Tables) where
  abbrev read : ℕ → TypeRef → Reader R Tree
  read = value_at port.read t

  abbrev Breaks : ℕ → TypeRef → S → Defect
  Breaks = ValueBreaks port ReferenceBreaks t

  abbrev Told : ℕ → TypeRef → Type 0
  Told levels kind = Tells port.seen Good (read levels kind) (Breaks levels kind)

  known : (levels : ℕ) (kind : TypeRef) → Told levels kind → Known port.seen Good (read levels) (SpellsValue port t levels) (Breaks levels) kind
  known levels kind told = record { law = value_lawful port lawful t levels kind; keeps = value_keeps port Good keeps t levels kind; tells = told }

  members_known : (levels : ℕ) (of : TypeRef → Option Measure) → ((kind : TypeRef) (m : Measure) → of kind ≡ Some m → Told levels kind) → (ms : List Member) (m : Measure) → measure_members of ms ≡ Some m
      → AllKnown port.seen Good (read levels) (SpellsValue port t levels) (Breaks levels) (map (λ d. d.kind) ms)
  members_known levels of one [] m e = tt
  members_known levels of one (d ∷ ds) m e =
      found_by (of d.kind) (λ first. measured (measure_members of ds) (λ others. Some (with_member first others))) m e λ first first_is rest.
      found_by (measure_members of ds) (λ others. Some (with_member first others)) m rest λ others others_is last.
      (known levels d.kind (one d.kind first first_is), members_known levels of one ds others others_is)

  pub value_tells : (levels : ℕ) (kind : TypeRef) (m : Measure) → measure t levels kind ≡ Some m → Told levels kind
  unfolding measure
  value_tells zero kind m e = absurd cc
  value_tells (suc levels) kinds.Bool m e = made_tells port.seen Good boolean _ _ (plain_tells port.seen Good bool_at BoolBreaks bool_agrees)
  value_tells (suc levels) kinds.Byte m e = made_tells port.seen Good byte _ _ (plain_tells port.seen Good byte_at (Lacks 1) byte_agrees)
  value_tells (suc levels) kinds.Short m e = made_tells port.seen Good short _ _ (signed_tells port.seen Good w16)
  value_tells (suc levels) kinds.Int m e = made_tells port.seen Good int _ _ (signed_tells port.seen Good w32)
  value_tells (suc levels) kinds.Long m e = made_tells port.seen Good long _ _ (signed_tells port.seen Good w64)
  value_tells (suc levels) kinds.Text m e = made_tells port.seen Good text _ _ (plain_tells port.seen Good text_at TextBreaks text_agrees)
  value_tells (suc levels) (kinds.Enum at) m e =
      found_by (slice_get t.enums at) (λ _. Some enumeration) m e λ d d_is last.
      listed_tells port.seen Good (slice_get t.enums at) d (λ d. made enumerator (plain (enumerator_at d.entries))) (λ d from. EnumeratorBreaks d.entries) d_is
      (made_tells port.seen Good enumerator _ _ (plain_tells port.seen Good (enumerator_at d.entries) (EnumeratorBreaks d.entries) (enumerator_agrees d.entries)))
  value_tells (suc levels) (kinds.Proxy at) m e = made_tells port.seen Good proxy _ _ (plain_tells port.seen Good parts.proxy.read ProxyBreaks proxy_agrees)
  value_tells (suc levels) (kinds.Class at) m e = made_tells port.seen Good reference _ _ (refer at)
  value_tells (suc levels) (kinds.Seq at) m e =
      found_by (slice_get t.seqs at) (λ q. sequence_of (measure t levels q.element)) m e λ q q_is parts.
      found_by (measure t levels q.element) (λ x. Some (container (suc x.depth) x.is_built)) m parts λ x x_is last.
      listed_tells port.seen Good (slice_get t.seqs at) q (λ q. made sequence (sized (λ n. each_at (read levels) (replicate n q.element))))
      (λ q from. Then size SizeBreaks (λ n. EachBreaks (SpellsValue port t levels) (Breaks levels) (replicate n q.element) from)) q_is
      (made_tells port.seen Good sequence _ _ (after_tells port.seen Good size size_lawful SizeBreaks size_agrees (λ n. each_at (read levels) (replicate n q.element))
      (λ n. EachBreaks (SpellsValue port t levels) (Breaks levels) (replicate n q.element)) (λ n. each_tells port.seen Good (read levels) (SpellsValue port t levels) (Breaks levels) (replicate n q.element)
      (repeated port.seen Good (read levels) (SpellsValue port t levels) (Breaks levels) q.element (known levels q.element (value_tells levels q.element x x_is)) n))))
  value_tells (suc zero) (kinds.Dict at) m e = absurd cc
  value_tells (suc (suc levels)) (kinds.Dict at) m e =
      found_by (slice_get t.dicts at) (λ d. dictionary_of (measure t levels d.key) (measure t levels d.value)) m e λ d d_is parts.
      found_by (measure t levels d.key) (λ k. measured (measure t levels d.value) (λ w. Some (container (suc (suc (max k.depth w.depth))) (k.is_built && w.is_built)))) m parts λ k k_is rest.
      found_by (measure t levels d.value) (λ w. Some (container (suc (suc (max k.depth w.depth))) (k.is_built && w.is_built))) m rest λ w w_is last.
      let one = value_tells (suc levels) d.key k (measure_more t levels (suc levels) (omega arith) d.key k k_is) in
      let two = value_tells (suc levels) d.value w (measure_more t levels (suc levels) (omega arith) d.value w w_is) in
      let One = SpellsValue port t (suc levels) in
      listed_tells port.seen Good (slice_get t.dicts at) d (λ d. made dictionary (sized (λ n. pairs_at (read (suc levels) d.key) (read (suc levels) d.value) n no_entry)))
      (λ d from. Then size SizeBreaks (λ n. PairsBreak (One d.key) (Breaks (suc levels) d.key) (One d.value) (Breaks (suc levels) d.value) n no_entry from)) d_is
      (made_tells port.seen Good dictionary _ _ (after_tells port.seen Good size size_lawful SizeBreaks size_agrees (λ n. pairs_at (read (suc levels) d.key) (read (suc levels) d.value) n no_entry)
      (λ n. PairsBreak (One d.key) (Breaks (suc levels) d.key) (One d.value) (Breaks (suc levels) d.value) n no_entry)
      (λ n. pairs_tell port.seen Good (read (suc levels) d.key) (read (suc levels) d.value) (One d.key) (One d.value) (Breaks (suc levels) d.key) (Breaks (suc levels) d.value)
      (value_lawful port lawful t (suc levels) d.key) (value_lawful port lawful t (suc levels) d.value) (value_keeps port Good keeps t (suc levels) d.key) (value_keeps port Good keeps t (suc levels) d.value) one two n no_entry)))
  value_tells (suc levels) (kinds.Struct at) m e =
      found_by (slice_get t.structs at) (λ d. struct_of (measure_members (measure t levels) d.members)) m e λ d d_is parts.
      found_by (measure_members (measure t levels) d.members) (λ x. Some (structure x)) m parts λ x x_is last.
      listed_tells port.seen Good (slice_get t.structs at) d (λ d. made struct (each_at (read levels) (map (λ m. m.kind) d.members)))
      (λ d. EachBreaks (SpellsValue port t levels) (Breaks levels) (map (λ m. m.kind) d.members)) d_is
      (made_tells port.seen Good struct _ _ (each_tells port.seen Good (read levels) (SpellsValue port t levels) (Breaks levels) (map (λ m. m.kind) d.members)
      (members_known levels (measure t levels) (λ kind y is. value_tells levels kind y is) d.members x x_is)))
