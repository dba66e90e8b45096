-- What is still read of a value that has begun.
use Rattle.std.specs.Prelude.{ℕ, Option, None, Some, Result, Ok, slice_get}
use Rattle.ice_types.specs.declared.kind.TypeRef.{TypeRef}
use Rattle.ice_types.specs.declared.kind.TypeRef.TheVariants as kinds
use Rattle.ice_types.specs.Tables.{Tables}
use Rattle.ice_prims.specs.declared.fault.Fault.{Fault}
use Rattle.ice_prims.specs.declared.fault.Kind.TheVariants.{EqualKey}
use Rattle.ice_prims.specs.Number.{size_at}
use Rattle.ice_prims.specs.Rest.{Rest, fault, ◌>>=◌}
use Rattle.ice_encoding.specs.Tree.{Tree, dictionary, none, Entries, no_entry}
use Rattle.ice_encoding.specs.Order.{insert}
use Rattle.ice_encoding.specs.Port.{Reader, nowhere}
use Rattle.ice_encoding.specs.Reading.{each_at, pairs_at, value_at, listed}
use Rattle.ice_encoding.specs.Pausing.{Met, Inside, in_place}
use Rattle.ice_values.specs.declared.frame.Assembly.TheVariants as sorts
use Rattle.ice_values.specs.declared.frame.Part.TheVariants.{Next, Begun, Equal}
use Rattle.ice_values.specs.declared.left.Left.TheVariants as lefts
use Rattle.ice_values.specs.Frames.{Open, each, pairs, closed, join, kinds_left}

-- one reading after the other
abbrev pub then : {S A B : Type 0} → Result (A × S × Rest) Fault → (A → Reader S B) → Result (B × S × Rest) Fault
then read next = read >>= λ x. next x.0 x.1 x.2

-- a type with parts: the value before the first of them, behind its size where it has one
abbrev pub starts_at : Tables → ℕ → TypeRef → Rest → Result (Open × Rest) Fault
starts_at t levels (kinds.Seq at) r = listed (slice_get t.seqs at) r (λ q. size_at r >>= λ n. Ok (each sorts.Seq levels (lefts.Items q.element n.0) none, n.1))
starts_at t levels (kinds.Dict at) r = listed (slice_get t.dicts at) r (λ d. size_at r >>= λ n. Ok (pairs levels d.key d.value n.0 Next None no_entry, n.1))
starts_at t levels (kinds.Struct at) r = listed (slice_get t.structs at) r (λ d. Ok (each sorts.Members levels (lefts.Members at 0) none, r))
starts_at t levels kinds.Bool r = nowhere r
starts_at t levels kinds.Byte r = nowhere r
starts_at t levels kinds.Short r = nowhere r
starts_at t levels kinds.Int r = nowhere r
starts_at t levels kinds.Long r = nowhere r
starts_at t levels kinds.Text r = nowhere r
starts_at t levels (kinds.Enum at) r = nowhere r
starts_at t levels (kinds.Proxy at) r = nowhere r
starts_at t levels (kinds.Class at) r = nowhere r

module _ {S : Type 0} (take : Option ℕ → Reader S Met) (t : Tables) (inside : Inside S) where
  abbrev pub value_in : ℕ → TypeRef → Reader S Tree
  value_in levels kind = value_at (in_place take inside) t levels kind

  -- pairs beside those before, and the dictionary of all
  abbrev pub pairs_behind : ℕ → TypeRef → TypeRef → ℕ → Entries → Reader S Tree
  pairs_behind levels key value left had s r = then (pairs_at (value_in levels key) (value_in levels value) left had s r) (λ all s' r'. Ok (dictionary all, s', r'))

  -- The parts that are left, and the value. Nothing is left while a part is read: it is given first.
  abbrev pub rest_of : Open → Reader S Tree
  rest_of (each sort levels left had) s r = then (each_at (value_in levels) (kinds_left t left) s r) (λ parts s' r'. Ok (closed sort (join had parts), s', r'))
  rest_of (pairs levels key value left Next None had) s r = pairs_behind levels key value left had s r
  rest_of (pairs levels key value left Next (Some k) had) s r = then (value_in levels value s r) (λ v. pairs_behind levels key value left (insert k v had))
  rest_of (pairs levels key value left (Begun at) waits had) s r = Ok (dictionary had, s, r)
  rest_of (pairs levels key value left (Equal at) waits had) s r = fault at EqualKey
