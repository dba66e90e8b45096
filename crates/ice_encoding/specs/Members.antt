-- What is written for the members of a shape, by how a reference is written. (Ice manual, "Data Encoding for Optional Values".)
use Rattle.std.specs.Prelude.{ℕ, List, [], ◌∷◌, ◌++◌, length, Option, None, Some}
use Rattle.ice_types.specs.declared.kind.TypeRef.{TypeRef}
use Rattle.ice_types.specs.declared.declarations.Member.{Member}
use Rattle.ice_types.specs.declared.declarations.Shape.{Shape}
use Rattle.ice_types.specs.Tables.{Tables}
use Rattle.ice_types.specs.Formats.{optional_format}
use Rattle.ice_encoding.specs.Parts.{Part, size}
use Rattle.ice_encoding.specs.Skipping.{count}
use Rattle.ice_encoding.specs.Tags.{tag}
use Rattle.ice_encoding.specs.Tree.{Tree}
use Rattle.ice_encoding.specs.Writing.{Piece, Writer, exactly, ◌>>◌, written, written_each}
use Rattle.ice_encoding.specs.Prefixes.{Prefix, no_length, own_size, as_size, as_int, prefix_of}
use Rattle.ice_encoding.specs.Optionals.{Present, kind_tagged}
use Rattle.ice_encoding.specs.OptionalMembers.{Members}

-- with the length of what is appended before it
abbrev pub with_length : {P : Type 0} → Part ℕ → Piece P → Piece P
with_length number piece p = let a = piece p in (number.put (length a.0) ++ a.0, a.1)

-- a value behind its prefix
abbrev pub framing : {P : Type 0} → Prefix → Piece P → Piece P
framing no_length piece = piece
framing own_size piece = piece
framing as_size piece = with_length size piece
framing as_int piece = with_length count piece

module _ {P : Type 0} (refer : Writer P (Option ℕ)) (t : Tables) where
  -- a tag, and the value in the format of the member that has it
  abbrev pub written_option : ℕ → Option TypeRef → Tree → Piece P
  written_option number None v = exactly []
  written_option number (Some kind) v = exactly (tag.put (number, optional_format t kind)) >> framing (prefix_of t kind) (written refer v)

  -- one behind the other, and then the end
  abbrev pub written_options : List Member → List ℕ → Present → Piece P
  written_options members end [] = exactly end
  written_options members end (o ∷ os) = written_option o.0 (kind_tagged o.0 members) o.1 >> written_options members end os

  -- with an end marker, where there is any
  abbrev pub marked_options : List Member → Present → Piece P
  marked_options members [] = exactly []
  marked_options members (o ∷ os) = written_options members (255 ∷ []) (o ∷ os)

  -- the members of a slice
  abbrev pub written_slice_members : Shape → Members → Piece P
  written_slice_members shape c = written_each refer c.required >> marked_options shape.optional c.optional

  -- of a whole content, whose bound is the end
  abbrev pub written_content : Shape → Members → Piece P
  written_content shape c = written_each refer c.required >> written_options shape.optional [] c.optional
