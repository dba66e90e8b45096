use Rattle.std.proofs.Common.{◌∙◌, ap, sym}
use Rattle.ice_encoding.specs.Flags.{flags_of}
use Rattle.ice_values.specs.declared.members_reader.MembersReader.{MembersReader}
use Rattle.slice_heads.specs.Seen.{by_flag}
use Rattle.instance_reading.specs.Slices.{left_compact}
use Rattle.instance_reading.specs.declared.slice.CompactSlice.{CompactSlice}
use Rattle.instance_reading.proofs.Heads.{compact_opened}
use Rattle.instance_reading.proofs.slice.open_known.Goals as goal

pub returns : goal.returns
returns c inside steps id s =
    let t = c.args.schema.now in
    let f = flags_of c.args.flags in
    let with_members : MembersReader → CompactSlice = λ members. record { class = c.args.class; next = c.behind_base.result; members = members } in
    compact_opened inside c.args.sort t steps f c.args.class c.behind_base.result c.optionals.result id s c.args.cursor.now (c.optionals.ensures ∙ ap by_flag c.is_odd-flagged.ensures) (sym c.if-is_odd.ensures)
    c.behind_base.ensures
    ∙ ap (λ (slice : CompactSlice). left_compact inside c.args.sort t steps slice s c.args.cursor.now) (sym (c.in_ok-new.ensures.ok ∙ ap with_members c.new.ensures))
