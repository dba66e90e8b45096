-- Readers of members before the first byte, and members in one piece.
use Rattle.std.specs.Prelude.{ℕ, ◌≡◌, true, false, [], Option, None, Result, Ok, Err}
use Rattle.ice_types.specs.declared.declarations.Shape.{Shape}
use Rattle.ice_types.specs.Tables.{Tables}
use Rattle.ice_prims.specs.declared.fault.Fault.{Fault}
use Rattle.ice_prims.specs.declared.fault.ReadFault.{ReadFault}
use Rattle.ice_prims.specs.Rest.{Rest}
use Rattle.ice_prims.specs.Taking.{Fails}
use Rattle.ice_encoding.specs.Port.{Reader}
use Rattle.ice_encoding.specs.Pausing.{Met, Inside, in_place}
use Rattle.ice_encoding.specs.OptionalMembers as members
use Rattle.ice_encoding.specs.OptionalMembers.{content_at, slice_members_at}
use Rattle.graph_arena.specs.declared.instance.Members.{Members}
use Rattle.graph_arena.specs.Seen.{view_content}
use Rattle.value_parts.specs.declared.fields.Optionals.{Optionals}
use Rattle.value_parts.specs.declared.fields.Optionals.TheVariants.{Absent, Marked, ToEnd}
use Rattle.ice_values.specs.declared.required.RequiredReader.{RequiredReader}
use Rattle.ice_values.specs.declared.options.OptionsReader.{OptionsReader}
use Rattle.ice_values.specs.declared.members_reader.MembersReader.{MembersReader}

-- ---- readers before the first byte

abbrev pub fresh_required : RequiredReader
fresh_required = record { done = []; next = 0; reader = None }

abbrev pub fresh_options : ℕ → OptionsReader
fresh_options steps = record { done = []; last = None; steps = steps; item = None }

abbrev pub fresh_members : Optionals → MembersReader
fresh_members optionals = record { optionals = optionals; required = fresh_required; options = None }

-- ---- in one piece

-- members by where the optional ones stand: those of a slice with or without the flag, or a whole content
unfoldable pub members_at : {S : Type 0} → (Option ℕ → Reader S Met) → Tables → Inside S → Optionals → Shape → Reader S members.Members
members_at take t inside Absent shape = slice_members_at (in_place take inside) t false shape
members_at take t inside Marked shape = slice_members_at (in_place take inside) t true shape
members_at take t inside ToEnd shape = content_at (in_place take inside) t shape

-- the members, or the fault
abbrev pub ReadsMembers : {S : Type 0} → Result Members ReadFault → Result (members.Members × S × Rest) Fault → S → Rest → Type 0
ReadsMembers (Ok m) read s r = read ≡ Ok (view_content m, s, r)
ReadsMembers (Err e) read s r = Fails e read
