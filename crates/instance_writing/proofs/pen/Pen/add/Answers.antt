use Rattle.std.proofs.Common.{◌≡◌, Bor, length, List, [], ◌∷◌, ℕ, map, string_bytes, None, sym, ap, ◌∙◌, subst, arith}
use Rattle.std.proofs.lemmas.List.{length-map, map-append}
use Rattle.ice_encoding.specs.CanonicalGraph.{Pen}
use Rattle.ice_encoding.specs.Classes.{place_of}
use Rattle.instance_writing.specs.Pens.{place_in}
use Rattle.instance_writing.proofs.Ids.{placed-more}
use Rattle.instance_writing.proofs.pen.Pen.add.Goals as goal

pub invariant_of-self-in-Ok : goal.invariant_of-self-in-Ok
invariant_of-self-in-Ok c =
    placed-more (place_in c.self.inside.places) (place_in c.insert.new.self) (map (λ id. id.now) c.self.inside.ids.items) (map (λ id. id.now) c.push.new.self.items) c.args.id.now (string_bytes c.in_ok-copy.copy) (length c.as_slice-at.result.now) c.self.invariant
    (subst (λ (p : Pen). place_of p.ids c.args.id.now ≡ None) (sym c.self.view_is) c.requires)
    (ap (length {A = Bor (List ℕ)}) c.as_slice-at.ensures.value ∙ sym (length-map c.self.inside.ids.items (λ id. id.now)))
    (omega (arith, c.if-at.false))
    c.in_ok-copy.ensures
    (ap (map (λ id. id.now)) c.in_ok-push.ensures.items ∙ map-append (λ id. id.now) c.self.inside.ids.items (c.args.id ∷ []))
    c.in-Ok.ensures.ok
