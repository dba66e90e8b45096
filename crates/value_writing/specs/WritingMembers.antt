-- What is still written of members that have begun, and what the calls that write on answer.
use Rattle.std.specs.Prelude.{ℕ, ◌≡◌, ◌<◌, ◌^◌, Bool, true, false, List, [], ◌∷◌, ◌++◌, filter, Option, Some, None, Result, Ok, Err}
use Rattle.std.specs.Option.{is_some}
use Rattle.std.specs.declared.alloc.AllocError.{AllocError}
use Rattle.ice_types.specs.declared.kind.TypeRef.{TypeRef}
use Rattle.ice_types.specs.declared.declarations.Member.{Member}
use Rattle.ice_types.specs.declared.declarations.Shape.{Shape}
use Rattle.ice_types.specs.Tables.{Tables}
use Rattle.ice_types.specs.Formats.{optional_format}
use Rattle.ice_encoding.specs.Tags.{tag}
use Rattle.ice_encoding.specs.Tree.{Tree, none, tree, InEach}
use Rattle.ice_encoding.specs.Canonical.{HasSize, HasSizes}
use Rattle.ice_encoding.specs.Writing.{Piece, Writer}
use Rattle.ice_encoding.specs.Pausing.{Put, written_in_place}
use Rattle.ice_encoding.specs.Prefixes.{prefix_of}
use Rattle.ice_encoding.specs.Optionals.{Present}
use Rattle.ice_encoding.specs.OptionalMembers.{Members}
use Rattle.ice_encoding.specs.Members.{written_options, written_slice_members, written_content}
use Rattle.graph_arena.specs.Seen.{view_present}
use Rattle.value_writing.specs.Putting.{InsideWritten, Written, onto, Waiting, Values, lists, left_written, all_fit}
use Rattle.value_writing.specs.declared.ending.Ending.{Ending}
use Rattle.value_writing.specs.declared.ending.Ending.TheVariants.{Marked, Bound}
use Rattle.value_writing.specs.declared.length_place.LengthPlace.{LengthPlace}
use Rattle.value_writing.specs.declared.length_place.LengthPlace.TheVariants.{Nowhere}
use Rattle.value_writing.specs.declared.members_writer.MembersWriter.{MembersWriter}
use Rattle.value_writing.specs.WritingLengths.{held, length_at, with_length_at, Stands}

-- ---- what is left

pub record Remaining : Type 0 where
  -- of the required values, or of the optional value that has begun
  pub values : List Waiting
  -- where the length of that one is put behind it
  pub place : LengthPlace
  -- the optional members behind it
  pub optional : Present
  -- whether the marker stands behind them
  pub marked : Bool

-- what is still written of members
abbrev pub remaining : MembersWriter → Remaining
remaining writer = record { values = lists writer.values; place = writer.place; optional = view_present writer.optional.now; marked = writer.marked }

-- The end of a whole content is never marked, that of a slice where there is any optional member.
abbrev pub is_marked : Ending → Present → Bool
is_marked Marked [] = false
is_marked Marked (o ∷ os) = true
is_marked Bound [] = false
is_marked Bound (o ∷ os) = false

-- before the first byte
abbrev pub all_of : Ending → Members → Remaining
all_of ending c = record { values = Values c.required ∷ []; place = Nowhere; optional = c.optional; marked = is_marked ending c.optional }

abbrev pub marker : Bool → List ℕ
marker true = 255 ∷ []
marker false = []

-- with the length of what stands behind its place
abbrev pub measured : {S : Type 0} → LengthPlace → Written S → Written S
measured place w = (w.0, with_length_at place w.1)

module _ {S : Type 0} (put : Option ℕ → S → Put S) (inside : InsideWritten S) (t : Tables) (members : List Member) where
  -- the length of the value that is written now, and then the optional members behind it
  abbrev pub behind_written : Remaining → Written S → Written S
  behind_written r w = onto (written_options (written_in_place put inside) t members (marker r.marked) r.optional) (measured r.place w)

  -- the values at hand, and then what is behind them
  abbrev pub members_left : Remaining → Written S → Written S
  members_left r w = behind_written r (onto (left_written put inside r.values) w)

-- the members by themselves, by how they end
abbrev pub members_written : {S : Type 0} → Writer S (Option ℕ) → Tables → Ending → Shape → Members → Piece S
members_written refer t Marked = written_slice_members refer t
members_written refer t Bound = written_content refer t

-- those that have a tag
abbrev pub tagged : List Member → List Member
tagged members = filter (λ m. is_some m.tag) members

-- ---- what can be written: sizes and tags are at most the greatest int

abbrev pub OptionsFit : Present → Type 0
OptionsFit [] = Unit {0}
OptionsFit (o ∷ os) = (o.0 < 2 ^ 31) × HasSizes o.1 × OptionsFit os

-- sizes and tags are at most the greatest int
abbrev pub ContentCanBeWritten : Members → Type 0
ContentCanBeWritten c = InEach HasSize c.required × OptionsFit c.optional

-- the sizes and tags of what is left are at most the greatest int
abbrev pub RemainingFits : Remaining → List ℕ → Type 0
RemainingFits r out = all_fit r.values × OptionsFit r.optional × Stands r.place out

-- ---- one optional member begins

-- the values that are written for it: its own, and none where no member has the tag
abbrev pub values_of : Option TypeRef → Tree → List Waiting
values_of None v = Values none ∷ []
values_of (Some kind) v = Values (tree v none) ∷ []

abbrev pub place_of : Tables → Option TypeRef → ℕ → LengthPlace
place_of t None at = Nowhere
place_of t (Some kind) at = length_at (prefix_of t kind) at

abbrev pub tag_bytes : Tables → ℕ → Option TypeRef → List ℕ
tag_bytes t number None = []
tag_bytes t number (Some kind) = tag.put (number, optional_format t kind)

abbrev pub held_bytes : Tables → Option TypeRef → List ℕ
held_bytes t None = []
held_bytes t (Some kind) = held (prefix_of t kind)

-- ---- what the calls answer

-- the members are written, and what is remembered is as it is behind them
abbrev pub WritesPiece : {S : Type 0} → Piece S → Result (Unit {0}) AllocError → S → List ℕ → S → List ℕ → Type 0
WritesPiece {S} piece (Ok x) s out s' out' = (out' ≡ out ++ (piece s).0) × (s' ≡ (piece s).1)
WritesPiece {S} piece (Err e) s out s' out' = Unit {0}
