-- How what is still read of optional members changes with a step.
use Rattle.std.proofs.Common.{◌≡◌, ℕ, suc, Bool, true, false, eqb, List, [], ◌∷◌, ◌++◌, Result, Ok, Err, Option, None, Some, refl, sym, ap, ◌∙◌}
use Rattle.ice_prims.specs.declared.fault.Fault.{Fault}
use Rattle.ice_prims.specs.declared.fault.ReadFault.{ReadFault}
use Rattle.ice_prims.specs.declared.fault.Kind.TheVariants.{BadFormat, LeftOver}
use Rattle.ice_prims.specs.Rest.{Rest, fault, ◌>>=◌}
use Rattle.ice_prims.specs.Taking.{Fails}
use Rattle.ice_encoding.specs.Parts.{size}
use Rattle.ice_encoding.specs.Bounds.{ended}
use Rattle.ice_encoding.specs.Skipping.{count, bound_behind}
use Rattle.ice_encoding.specs.Tags.{next_tag_at}
use Rattle.ice_types.specs.declared.kind.TypeRef.{TypeRef}
use Rattle.ice_types.specs.declared.declarations.Member.{Member}
use Rattle.ice_types.specs.declared.optional_format.TheConstants.{FORMAT_CLASS}
use Rattle.ice_types.specs.Formats.{optional_format}
use Rattle.ice_types.specs.Tables.{Tables}
use Rattle.ice_encoding.specs.Tree.{Tree}
use Rattle.ice_encoding.specs.Port.{Reader}
use Rattle.ice_encoding.specs.Reading.{value_at}
use Rattle.ice_encoding.specs.Pausing.{Met, Inside, in_place}
use Rattle.ice_encoding.specs.Prefixes.{Prefix, no_length, own_size, as_size, as_int, prefix_of, framed}
use Rattle.ice_encoding.specs.Optionals.{Present, with_option, kind_tagged, skipped_by, tagged, options_at}
use Rattle.ice_values.specs.Going.{left_of, fresh}
use Rattle.ice_values.specs.Rests.{then}
use Rattle.ice_values.proofs.Frames.{left-fresh}
use Rattle.ice_values.specs.declared.options.Item.{Item}
use Rattle.ice_values.specs.Entering.{entered_at, inside_bound, leaving}
use Rattle.ice_values.specs.Unread.{kept, options_behind, option_behind, from_item}
use Rattle.ice_values.proofs.Joined.{then-fails, then-begins, made-then, same-fails}

-- ---- a value behind its prefix

abbrev going_in : {S : Type 0} → Reader S Tree → S → Option Rest × Rest → Result (Tree × S × Rest) Fault
going_in read s e = then (read s e.1) (leaving e.0)

unbounded : {S : Type 0} (read : Result (Tree × S × Rest) Fault) → read ≡ then read (leaving None)
unbounded (Ok x) = refl
unbounded (Err e) = refl

over_bytes : {S : Type 0} (bytes : List ℕ) (place : ℕ) (v : Tree) (s : S) (behind : Rest) → ended {A = Tree × S × Rest} bytes place (v, s, behind) ≡ (ended bytes place behind >>= λ r. Ok (v, s, r))
over_bytes [] place v s behind = refl
over_bytes (b ∷ bs) place v s behind = refl

abbrev filling : {S : Type 0} → Rest → Tree × S × Rest → Result (Tree × S × Rest) Fault
filling {S = S} behind x = ended {A = Tree × S × Rest} x.2.bytes x.2.place (x.0, x.1, behind)

bounded : {S : Type 0} (behind : Rest) (read : Result (Tree × S × Rest) Fault) → (read >>= filling behind) ≡ then read (leaving (Some behind))
bounded behind (Ok x) = over_bytes x.2.bytes x.2.place x.0 x.1 behind
bounded behind (Err e) = refl

abbrev in_bound : {S : Type 0} → Reader S Tree → S → Rest × Rest → Result (Tree × S × Rest) Fault
in_bound read s bound = read s bound.0 >>= filling bound.1

behind-length : {S : Type 0} (read : Reader S Tree) (s : S) (bound : Result (Rest × Rest) Fault) → (bound >>= in_bound read s) ≡ (bound >>= inside_bound >>= going_in read s)
behind-length read s (Ok b) = bounded b.1 (read s b.0)
behind-length read s (Err e) = refl

abbrev no_bound : {A : Type 0} → Rest → A → Result (Option Rest × Rest) Fault
no_bound r x = Ok (None, r)

abbrev in_any : {S A : Type 0} → Reader S Tree → S → Rest → A → Result (Tree × S × Rest) Fault
in_any read s r x = read s r

behind-own : {S : Type 0} (read : Reader S Tree) (s : S) (r : Rest) (bound : Result (Rest × Rest) Fault) → (bound >>= in_any read s r) ≡ (bound >>= no_bound r >>= going_in read s)
behind-own read s r (Ok b) = unbounded (read s r)
behind-own read s r (Err e) = refl

framed-entered : {S : Type 0} (prefix : Prefix) (read : Reader S Tree) (s : S) (r : Rest) → framed prefix read s r ≡ (entered_at prefix r >>= λ e. then (read s e.1) (leaving e.0))
framed-entered no_length read s r = unbounded (read s r)
framed-entered own_size read s r = behind-own read s r (bound_behind size r)
framed-entered as_size read s r = behind-length read s (bound_behind size r)
framed-entered as_int read s r = behind-length read s (bound_behind count r)

-- ---- members that are there

append-none : {A : Type 0} (xs : List A) → xs ++ [] ≡ xs
append-none [] = refl
append-none (x ∷ xs) = ap (λ (l : List _). x ∷ l) (append-none xs)

append-more : {A : Type 0} (xs : List A) (x : A) (ys : List A) → xs ++ (x ∷ ys) ≡ (xs ++ x ∷ []) ++ ys
append-more [] x ys = refl
append-more (y ∷ xs) x ys = ap (λ (l : List _). y ∷ l) (append-more xs x ys)

abbrev prepended : {S : Type 0} → Present → Present → Reader S Present
prepended had others s r = Ok (had ++ others, s, r)

abbrev with_one : {S : Type 0} → ℕ → Option Tree → Present × S × Rest → Result (Present × S × Rest) Fault
with_one number v x = Ok (with_option number v x.0, x.1, x.2)

one-read : {S : Type 0} (had : Present) (number : ℕ) (v : Option Tree) (others : Result (Present × S × Rest) Fault) → then (others >>= with_one number v) (prepended had) ≡ then others (prepended (kept had number v))
one-read had number None (Ok x) = refl
one-read had number (Some v) (Ok x) = ap (λ (l : Present). prepended [] l x.1 x.2) (append-more had (number, v) x.0)
one-read had number v (Err e) = refl

abbrev one_then : {S : Type 0} → (Reader S Present) → ℕ → Option Tree × S × Rest → Result (Present × S × Rest) Fault
one_then next number v = next v.1 v.2 >>= with_one number v.0

first-read : {S : Type 0} (had : Present) (number : ℕ) (first : Result (Option Tree × S × Rest) Fault) (next : Reader S Present) → then (first >>= one_then next number) (prepended had) ≡ then first (λ v s r. then (next s r) (prepended (kept had number v)))
first-read had number (Ok v) next = one-read had number v.0 (next v.1 v.2)
first-read had number (Err e) next = refl

module _ {S : Type 0} (take : Option ℕ → Reader S Met) (t : Tables) (inside : Inside S) where
  -- a value of the type has begun
  value-entered : (kind : TypeRef) (behind : Option Rest) (s : S) (r r' : Rest) → entered_at (prefix_of t kind) r ≡ Ok (behind, r')
      → framed (prefix_of t kind) (value_at (in_place take inside) t 100 kind) s r ≡ then (left_of take t inside (fresh kind) s r') (leaving behind)
  value-entered kind behind s r r' entered =
      framed-entered (prefix_of t kind) (value_at (in_place take inside) t 100 kind) s r
      ∙ ap (λ (e : Result (Option Rest × Rest) Fault). e >>= going_in (value_at (in_place take inside) t 100 kind) s) entered
      ∙ ap (λ (read : Result (Tree × S × Rest) Fault). then read (leaving behind)) (sym (left-fresh take t inside kind s r'))

  value-refused : (kind : TypeRef) (e : Fault) (s : S) (r : Rest) → entered_at (prefix_of t kind) r ≡ Err e → framed (prefix_of t kind) (value_at (in_place take inside) t 100 kind) s r ≡ Err e
  value-refused kind e s r refused =
      framed-entered (prefix_of t kind) (value_at (in_place take inside) t 100 kind) s r
      ∙ ap (λ (x : Result (Option Rest × Rest) Fault). x >>= going_in (value_at (in_place take inside) t 100 kind) s) refused

  module _ (marked : Bool) (members : List Member) where
    -- ---- the next tag

    pub no-steps : (had : Present) (last : Option ℕ) (s : S) (r : Rest) → options_behind take t inside marked members had 0 last s r ≡ fault r.place LeftOver
    unfolding options_behind
    no-steps had last s r = refl

    pub next-ends : (had : Present) (steps : ℕ) (last : Option ℕ) (s : S) (r r' : Rest) → next_tag_at last marked r ≡ Ok (None, r') → options_behind take t inside marked members had (suc steps) last s r ≡ Ok (had, s, r')
    unfolding options_behind
    next-ends had steps last s r r' ends = rw (ends, append-none had) refl

    pub next-refused : (had : Present) (steps : ℕ) (last : Option ℕ) (e : Fault) (s : S) (r : Rest) → next_tag_at last marked r ≡ Err e → options_behind take t inside marked members had (suc steps) last s r ≡ Err e
    unfolding options_behind
    next-refused had steps last e s r refused = rw refused refl

    pub next-tagged : (had : Present) (steps : ℕ) (last : Option ℕ) (number format : ℕ) (s : S) (r r' : Rest) → next_tag_at last marked r ≡ Ok (Some (number, format), r')
        → options_behind take t inside marked members had (suc steps) last s r ≡ option_behind take t inside marked members had steps r.place number (kind_tagged number members) format s r'
    unfolding options_behind option_behind
    next-tagged had steps last number format s r r' next =
        rw next (first-read had number (tagged (in_place take inside) t r.place (kind_tagged number members) format s r') (options_at (in_place take inside) t marked members steps (Some number)))

    -- ---- what stands behind it

    pub format-refused : (had : Present) (steps place number : ℕ) (kind : TypeRef) (format : ℕ) (s : S) (r : Rest) → eqb format (optional_format t kind) ≡ false
        → option_behind take t inside marked members had steps place number (Some kind) format s r ≡ fault place BadFormat
    unfolding option_behind
    format-refused had steps place number kind format s r other = rw other refl

    known : (had : Present) (steps place number : ℕ) (kind : TypeRef) (format : ℕ) (s : S) (r : Rest) → eqb format (optional_format t kind) ≡ true
        → option_behind take t inside marked members had steps place number (Some kind) format s r
        ≡ then (framed (prefix_of t kind) (value_at (in_place take inside) t 100 kind) s r) (λ v. options_behind take t inside marked members (kept had number (Some v)) steps (Some number))
    unfolding option_behind
    known had steps place number kind format s r same =
        rw same (made-then Some (framed (prefix_of t kind) (value_at (in_place take inside) t 100 kind) s r) (λ v. options_behind take t inside marked members (kept had number v) steps (Some number)))

    pub item-begins : (had : Present) (steps place number : ℕ) (kind : TypeRef) (format : ℕ) (item : Item) (s : S) (r r' : Rest) → eqb format (optional_format t kind) ≡ true
        → entered_at (prefix_of t kind) r ≡ Ok (item.behind, r') → item ≡ record { tag = number; reader = fresh kind; behind = item.behind }
        → option_behind take t inside marked members had steps place number (Some kind) format s r ≡ from_item take t inside marked members (Some item) had steps (Some number) s r'
    item-begins had steps place number kind format item s r r' same entered is =
        known had steps place number kind format s r same
        ∙ ap (λ (x : Result (Tree × S × Rest) Fault). then x (λ v. options_behind take t inside marked members (kept had number (Some v)) steps (Some number))) (value-entered kind item.behind s r r' entered)
        ∙ ap (λ (i : Item). from_item take t inside marked members (Some i) had steps (Some number) s r') (sym is)

    pub item-refused : (had : Present) (steps place number : ℕ) (kind : TypeRef) (format : ℕ) (e : Fault) (s : S) (r : Rest) → eqb format (optional_format t kind) ≡ true
        → entered_at (prefix_of t kind) r ≡ Err e → option_behind take t inside marked members had steps place number (Some kind) format s r ≡ Err e
    item-refused had steps place number kind format e s r same refused =
        known had steps place number kind format s r same
        ∙ ap (λ (x : Result (Tree × S × Rest) Fault). then x (λ v. options_behind take t inside marked members (kept had number (Some v)) steps (Some number))) (value-refused kind e s r refused)

    -- of an unknown tag
    unknown : (had : Present) (steps place number format : ℕ) (s : S) (r : Rest)
        → option_behind take t inside marked members had steps place number None format s r
        ≡ then (skipped_by (in_place take inside) t (eqb format FORMAT_CLASS) format s r) (λ v. options_behind take t inside marked members (kept had number v) steps (Some number))
    unfolding option_behind
    unknown had steps place number format s r = refl

    pub passed : (had : Present) (steps place number format : ℕ) (s s' : S) (r r' : Rest) → skipped_by (in_place take inside) t (eqb format FORMAT_CLASS) format s r ≡ Ok (None, s', r')
        → option_behind take t inside marked members had steps place number None format s r ≡ options_behind take t inside marked members had steps (Some number) s' r'
    passed had steps place number format s s' r r' is =
        unknown had steps place number format s r
        ∙ ap (λ (x : Result (Option Tree × S × Rest) Fault). then x (λ v. options_behind take t inside marked members (kept had number v) steps (Some number))) is

    pub passed-begins : (had : Present) (steps place number format n : ℕ) (s s' : S) (r r' : Rest) → skipped_by (in_place take inside) t (eqb format FORMAT_CLASS) format s r ≡ (inside n s' r' >>= λ x. Ok (None, x.0, x.1))
        → option_behind take t inside marked members had steps place number None format s r ≡ (inside n s' r' >>= λ x. options_behind take t inside marked members had steps (Some number) x.0 x.1)
    passed-begins had steps place number format n s s' r r' is =
        unknown had steps place number format s r
        ∙ then-begins (skipped_by (in_place take inside) t (eqb format FORMAT_CLASS) format s r) (inside n s' r') (λ s r. Ok (None, s, r)) (λ v. options_behind take t inside marked members (kept had number v) steps (Some number)) is

    pub passed-fails : (had : Present) (steps place number format : ℕ) (e : ReadFault) (s : S) (r : Rest) → Fails e (skipped_by (in_place take inside) t (eqb format FORMAT_CLASS) format s r)
        → Fails e (option_behind take t inside marked members had steps place number None format s r)
    passed-fails had steps place number format e s r h =
        same-fails e _ _ (unknown had steps place number format s r)
        (then-fails e (skipped_by (in_place take inside) t (eqb format FORMAT_CLASS) format s r) (λ v. options_behind take t inside marked members (kept had number v) steps (Some number)) h)
