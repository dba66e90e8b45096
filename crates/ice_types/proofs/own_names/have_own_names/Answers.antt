use Rattle.std.proofs.Common.{◌≡◌, ◌∷◌, true, ap, ◌∙◌, string_bytes}
use Rattle.std.specs.Str.{str_to_ascii_lowercase}
use Rattle.std.specs.BTreeSet.{contains_text}
use Rattle.std.proofs.lemmas.Map.Text.{btree_set_updates_text}
use Rattle.ice_types.proofs.NamesOf.{was_new, was_old, has_more, name_left, new_more, not_new}
use Rattle.ice_types.proofs.own_names.have_own_names.Goals as goal

pub returns-then-not-branch : goal.returns-then-not-branch
returns-then-not-branch c =
    let i = c.loop-member.invariant in
    let name = c.member-item.result.name in
    let key = string_bytes c.in_ok-lowered.lowered in
    let lower : key ≡ str_to_ascii_lowercase name = c.in_ok-lowered.ensures.ok ∙ ap str_to_ascii_lowercase c.as_str.ensures in
    let left = name_left c.args.members.now c.loop-member.member-index c.member-item.result c.loop-member-test.true c.member-item.is in
    let taken = was_old i.0 name key c.in_ok-insert.field-0 (contains_text c.loop-member.names key) lower c.in_ok-insert.ensures.added (i.1 key) c.if-not-branch.true in
    ((λ h. absurd cc), (λ own. absurd (not_new _ i.0 _ _ name left i.2 taken own)))

pub loop-member-preserved : goal.loop-member-preserved
loop-member-preserved c =
    let i = c.loop-member.invariant in
    let name = c.member-item.result.name in
    let key = string_bytes c.in_ok-lowered.lowered in
    let lower : key ≡ str_to_ascii_lowercase name = c.in_ok-lowered.ensures.ok ∙ ap str_to_ascii_lowercase c.as_str.ensures in
    let left = name_left c.args.members.now c.loop-member.member-index c.member-item.result c.loop-member-test.true c.member-item.is in
    let free = was_new i.0 name key c.in_ok-insert.field-0 (contains_text c.loop-member.names key) lower c.in_ok-insert.ensures.added (i.1 key) c.if-not-branch.false in (
      name ∷ i.0,
      λ lowered. has_more i.0 name key lowered (contains_text c.insert.new.self lowered) (contains_text c.loop-member.names lowered) lower
          (btree_set_updates_text key c.loop-member.names c.insert.new.self true c.in_ok-insert.ensures.updates lowered) (i.1 lowered),
      new_more _ i.0 _ _ name left i.2 free,
    )
