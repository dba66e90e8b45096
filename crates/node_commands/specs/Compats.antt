-- What `compat` writes of a verdict on a type of two Slice files.
use Rattle.std.specs.Prelude.{ℕ, ◌==◌, Bool, false, List, [], ◌++◌, Option, None, Some, codes, filter, find, slice_get}
use Rattle.std.specs.Option.{is_none}
use Rattle.ice_types.specs.declared.declarations.ClassDecl.{ClassDecl}
use Rattle.ice_types.specs.declared.declarations.Member.{Member}
use Rattle.ice_types.specs.Tables.{Tables}
use Rattle.slice_compat.specs.declared.verdict.Why.{Why}
use Rattle.slice_compat.specs.declared.verdict.Why.TheVariants.{Missing, Base, CompactId, Members, Required, Optional}
use Rattle.slice_compat.specs.declared.verdict.Verdict.{Verdict}
use Rattle.slice_compat.specs.declared.verdict.Verdict.TheVariants.{Yes, NoRoot, NoClass}
use Rattle.message_dump.specs.Lines.{◌&◌}

abbrev pub tag_is : ℕ → Option ℕ → Bool
tag_is tag None = false
tag_is tag (Some own) = own == tag

-- the member at a place among those that are always there, from 0
abbrev pub required_at : List Member → ℕ → Option Member
required_at members place = slice_get (filter (λ m. is_none m.tag) members) place

-- the member of a tag
abbrev pub tagged : List Member → ℕ → Option Member
tagged members tag = find (λ m. tag_is tag m.tag) members

-- a `.` and the member's name; a verdict is of none that is not there
abbrev pub member_words : Option Member → List ℕ
member_words None = []
member_words (Some m) = codes "." ++ m.name

-- what stands behind the type id of a class with these members
abbrev pub why_words : List Member → Why → List ℕ
why_words members Missing = codes ": missing"
why_words members Base = codes ": base"
why_words members CompactId = codes ": compact id"
why_words members Members = codes ": members"
why_words members (Required place) = member_words (required_at members place)
why_words members (Optional tag) = member_words (tagged members tag)

-- the class's type id, and why it cannot be read
abbrev pub class_words : Option ClassDecl → Why → List ℕ
class_words None why = []
class_words (Some class) why = class.id ++ why_words class.members why

-- `yes`, or `no` and what stands in the way: the type itself, or a class of the old file
abbrev pub compat_line : Tables → Verdict → List ℕ
compat_line t Yes = codes "yes\n"
compat_line t NoRoot = codes "no $value\n"
compat_line t (NoClass class why) = (codes "no" & class_words (slice_get t.classes class) why) ++ codes "\n"
