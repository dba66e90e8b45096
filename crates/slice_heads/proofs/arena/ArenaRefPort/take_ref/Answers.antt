use Rattle.std.proofs.Common.{ℕ, ◌≡◌, ◌∙◌, subst, refl, [], ◌∷◌, length, length-append, ap, arith, Ok}
use Rattle.ice_prims.specs.Number.{size_at}
use Rattle.ice_encoding.specs.Instances.{most_instances}
use Rattle.ice_encoding.specs.References.{State}
use Rattle.slice_heads.proofs.Arenas.{inline-begins, inline-full, most_is}
use Rattle.slice_heads.proofs.arena.ArenaRefPort.take_ref.Goals as goal

pub returns-then-count-clause-takes : goal.returns-then-count-clause-takes
returns-then-count-clause-takes c =
    let one : size_at c.args.cursor.now ≡ Ok (1, c.take_size.new.self) = subst (λ (n : ℕ). size_at c.args.cursor.now ≡ Ok (n, c.take_size.new.self)) c.if-size-eq1.true c.in_ok-size.ensures in
    inline-full most_instances c.args.declared c.args.self.now c.args.cursor.now c.take_size.new.self one (omega (arith, c.if-count.true, c.len-count.ensures, most_is)) ∙ rw c.fault-too_many.ensures refl

pub returns-then-size-eq1-clause-takes : goal.returns-then-size-eq1-clause-takes
returns-then-size-eq1-clause-takes c =
    let one : size_at c.args.cursor.now ≡ Ok (1, c.take_size.new.self) = subst (λ (n : ℕ). size_at c.args.cursor.now ≡ Ok (n, c.take_size.new.self)) c.if-size-eq1.true c.in_ok-size.ensures in
    inline-begins most_instances c.args.declared c.args.self.now c.args.cursor.now c.take_size.new.self one (omega (arith, c.if-count.false, c.len-count.ensures, most_is)) ∙ rw (c.len-count.ensures, c.in_ok-reserve.ensures, c.in_ok-meet.ensures, c.place-place.ensures, c.len-count.ensures) refl

pub returns-then-size-eq1-clause-room : goal.returns-then-size-eq1-clause-room
returns-then-size-eq1-clause-room c =
    let now = ap (λ (s : State ℕ). length s.instances) c.in_ok-reserve.ensures in
    let before = ap (λ (s : State ℕ). length s.instances) c.in_ok-meet.ensures in
    omega (arith, now, before, length-append c.meet.new.self.instances ([] ∷ []), c.if-count.false, c.len-count.ensures, most_is)
