use Rattle.std.proofs.Common.{ℕ, ◌<◌, Bool, not, length, refl, ap, subst, ◌∙◌, arith}
use Rattle.std.specs.Prelude.{Result, if◌then◌else◌, is_ok}
use Rattle.std.specs.List.{insert}
use Rattle.object_adapter.specs.Rising.{IsGap, IsSearched}
use Rattle.object_adapter.proofs.Known.{found, kept_places, no_such_place}
use Rattle.object_adapter.proofs.places.add_place.Goals as goal

pub returns-in_default-clause-adds : goal.returns-in_default-clause-adds
returns-in_default-clause-adds g c cmp total is =
    let items = c.args.places.now.items in
    found cmp total items items c.args.key c.args.key c.in_default.field-0 refl refl (subst (λ (r : Result ℕ ℕ). IsSearched cmp (λ p. p.0) items c.args.key r) c.in_default.is is)

pub returns-then-len-eq-MOST_PLACES-clause-adds : goal.returns-then-len-eq-MOST_PLACES-clause-adds
returns-then-len-eq-MOST_PLACES-clause-adds g c cmp total is =
    let items = c.args.places.now.items in (
      no_such_place cmp total items items c.args.key c.args.key c.in-Err.at refl refl (subst (λ (r : Result ℕ ℕ). IsSearched cmp (λ p. p.0) items c.args.key r) c.in-Err.is is),
      omega (arith, c.args.places.now.ok, c.len.ensures, c.if-len-eq-MOST_PLACES.true),
    )

pub returns-clause-adds : goal.returns-clause-adds
returns-clause-adds g c cmp total is =
    let items = c.args.places.now.items in
    let gap : IsGap cmp (λ p. p.0) items c.args.key c.in-Err.at = subst (λ (r : Result ℕ ℕ). IsSearched cmp (λ p. p.0) items c.args.key r) c.in-Err.is is in
    let room : length items < 1000 = omega (arith, c.args.places.now.ok, c.len.ensures, c.requires.room, c.if-len-eq-MOST_PLACES.false) in
    let put = c.is_err.ensures.negation ∙ ap not c.if-is_err.false in (
      no_such_place cmp total items items c.args.key c.args.key c.in-Err.at refl refl gap,
      room,
      c.in-Err.at,
      gap,
      c.insert_at.ensures ∙ ap (λ (b : Bool). if b then insert items c.in-Err.at (c.args.key, c.args.proxy) else items) put,
    )

pub returns-clause-kept : goal.returns-clause-kept
returns-clause-kept g c cmp total is sized are =
    let items = c.args.places.now.items in
    let gap : IsGap cmp (λ p. p.0) items c.args.key c.in-Err.at = subst (λ (r : Result ℕ ℕ). IsSearched cmp (λ p. p.0) items c.args.key r) c.in-Err.is is in
    let room : length items < 1000 = omega (arith, c.args.places.now.ok, c.len.ensures, c.requires.room, c.if-len-eq-MOST_PLACES.false) in
    kept_places cmp total items c.insert_at.new.items.items c.in-Err.at (c.args.key, c.args.proxy) (is_ok c.insert_at.result) c.insert_at.ensures are gap room sized
