-- The members of a shape are read exactly where they are spelled.
use Rattle.std.proofs.Common.{◌≡◌, ℕ, zero, suc, ◌+◌, Bool, true, false, if◌then◌else◌, List, [], ◌∷◌, ◌++◌, length, Option, Some, None, Result, Ok, refl, sym, ap, subst, ◌∙◌, append-nil}
use Rattle.ice_types.specs.declared.declarations.Shape.{Shape}
use Rattle.ice_types.specs.declared.declarations.Member.{Member}
use Rattle.ice_types.specs.Tables.{Tables}
use Rattle.ice_prims.specs.declared.fault.Fault.{Fault}
use Rattle.ice_prims.specs.declared.fault.Kind.TheVariants.{BadTag}
use Rattle.ice_prims.specs.Rest.{Rest, whole, fault, Took, IsBytes}
use Rattle.ice_prims.proofs.Parts.{then_ok, ok_is, Took-then, between, Took-fits}
use Rattle.ice_encoding.specs.Tags.{tag, rises, rising_at, next_tag_from, next_tag_at}
use Rattle.ice_encoding.specs.Tree.{Trees}
use Rattle.ice_encoding.specs.Port.{Port, IsLawful}
use Rattle.ice_encoding.specs.Spelling.{Each, SpellsValue}
use Rattle.ice_encoding.specs.Reading.{made, each_at, value_at}
use Rattle.ice_encoding.proofs.Values.{made_lawful, each_lawful, value_lawful}
use Rattle.ice_encoding.specs.Optionals.{Present, with_option, kind_tagged, tagged, option_then, options_at, AllOptions, all_options}
use Rattle.ice_encoding.specs.OptionalMembers.{Members, with_optional, required_kinds, content_at, SpellsContent, if_flagged, IfFlagged, slice_members_at, SpellsSliceMembers}
use Rattle.ice_encoding.proofs.Stepping.{followed_lawful, given_lawful}
use Rattle.ice_encoding.proofs.Nexts.{Next}
use Rattle.ice_encoding.proofs.Present.{Law, all_found, all_only, marked_lawful}

-- ---- without a marker, the members end where the bound does

rising_goes_on : (last : Option ℕ) (r behind : Rest) → rising_at last r ≡ Ok (None, behind) → ⊥
rising_goes_on last r behind e =
    then_ok (tag.read r) (λ t. if rises last t.0.0 then Ok (Some t.0, t.1) else fault r.place BadTag) (None, behind) e λ t t_is rest. no (rises last t.0.0) t rest
  where
    answer : Next × Rest → Result (Next × Rest) Fault
    answer x = Ok x

    no : (b : Bool) (t : (ℕ × ℕ) × Rest) → (if b then answer (Some t.0, t.1) else fault r.place BadTag) ≡ answer (None, behind) → ⊥
    no true t e = let other : Some t.0 ≡ None = ap (λ (x : Next × Rest). x.0) (ok_is (Some t.0, t.1) (None, behind) e) in absurd cc
    no false t e = absurd cc

from_ends : (last : Option ℕ) (bytes : List ℕ) (r behind : Rest) → r.bytes ≡ bytes → next_tag_from last false bytes r ≡ Ok (None, behind) → behind.bytes ≡ []
from_ends last [] r behind is e = let same : r ≡ behind = ap (λ (x : Next × Rest). x.1) (ok_is (None, r) (None, behind) e) in ap (λ (q : Rest). q.bytes) (sym same) ∙ is
from_ends last (b ∷ bs) r behind is e = absurd (rising_goes_on last r behind e)

module _ {R S : Type 0} (port : Port R S) (t : Tables) (members : List Member) where
  then_ends : (steps : ℕ) (last : Option ℕ) → ((last : Option ℕ) (s : R) (r : Rest) (x : Present × R × Rest) → options_at port.read t false members steps last s r ≡ Ok x → x.2.bytes ≡ [])
      → (s : R) (r : Rest) (next : Next × Rest) (x : Present × R × Rest) → next_tag_at last false r ≡ Ok next → option_then port.read t false members (options_at port.read t false members steps) r.place next.0 s next.1 ≡ Ok x → x.2.bytes ≡ []
  then_ends steps last later s r (None, q) x next e = ap (λ (y : Present × R × Rest). y.2.bytes) (sym (ok_is ([], s, q) x e)) ∙ from_ends last r.bytes r q refl next
  then_ends steps last later s r (Some it, q) x next e =
      then_ok (tagged port.read t r.place (kind_tagged it.0 members) it.1 s q) (λ v. made (with_option it.0 v.0) (options_at port.read t false members steps (Some it.0)) v.1 v.2) x e λ v v_is rest.
      then_ok (options_at port.read t false members steps (Some it.0) v.1 v.2) (λ y. Ok (with_option it.0 v.0 y.0, y.1, y.2)) x rest λ y y_is done.
      ap (λ (z : Present × R × Rest). z.2.bytes) (sym (ok_is (with_option it.0 v.0 y.0, y.1, y.2) x done)) ∙ later (Some it.0) v.1 v.2 y y_is

  options_end : (steps : ℕ) (last : Option ℕ) (s : R) (r : Rest) (x : Present × R × Rest) → options_at port.read t false members steps last s r ≡ Ok x → x.2.bytes ≡ []
  options_end zero last s r x e = absurd cc
  options_end (suc steps) last s r x e =
      then_ok (next_tag_at last false r) (λ next. option_then port.read t false members (options_at port.read t false members steps) r.place next.0 s next.1) x e λ next next_is done.
      then_ends steps last (options_end steps) s r next x next_is done

-- ---- required and optional members

module _ {R S : Type 0} (port : Port R S) (lawful : IsLawful port) (t : Tables) (shape : Shape) where
  required_lawful : Law port lawful t (each_at (value_at port.read t 100) (required_kinds shape)) (Each (SpellsValue port t 100) (required_kinds shape))
  required_lawful = each_lawful port.seen (value_at port.read t 100) (SpellsValue port t 100) (value_lawful port lawful t 100) (required_kinds shape)

  flagged_lawful : (flagged : Bool) → Law port lawful t (if_flagged port.read t flagged (all_options port.read t true shape.optional)) (IfFlagged port t flagged (AllOptions port t true shape.optional))
  flagged_lawful true = marked_lawful port lawful t shape.optional
  flagged_lawful false = given_lawful port.seen []

  -- of a slice
  pub slice_members_lawful : (flagged : Bool) → Law port lawful t (slice_members_at port.read t flagged shape) (SpellsSliceMembers port t flagged shape)
  slice_members_lawful flagged = followed_lawful port.seen _ _ _ _ required_lawful (λ required. made_lawful port.seen (with_optional required) _ _ (flagged_lawful flagged))

  -- of a whole content, up to the end of its bound
  pub content_found : (s : R) (r : Rest) (y : Members × R × Rest) → IsBytes r.bytes → content_at port.read t shape s r ≡ Ok y → SpellsContent port t shape r.bytes y.0 (port.seen s) (port.seen y.1) × (y.2.bytes ≡ [])
  content_found s r y fits e =
      then_ok (each_at (value_at port.read t 100) (required_kinds shape) s r) (λ x. made (with_optional x.0) (all_options port.read t false shape.optional) x.1 x.2) y e λ x x_is rest.
      then_ok (all_options port.read t false shape.optional x.1 x.2) (λ z. Ok (with_optional x.0 z.0, z.1, z.2)) y rest λ z z_is last.
      let f = required_lawful.found s r x fits x_is in
      let g = all_found port lawful t false shape.optional x.1 x.2 z ((Took-fits r x.2 f.0 fits f.1).1) z_is in
      let none = options_end port t shape.optional (suc (length x.2.bytes)) None x.1 x.2 z z_is in
      let all : f.0 ++ g.0 ≡ r.bytes = sym ((Took-then r x.2 z.2 f.0 g.0 f.1 g.1).parts ∙ ap (λ (rest : List ℕ). (f.0 ++ g.0) ++ rest) none ∙ append-nil (f.0 ++ g.0)) in
      subst (λ (w : Members × R × Rest). SpellsContent port t shape r.bytes w.0 (port.seen s) (port.seen w.1) × (w.2.bytes ≡ [])) (ok_is (with_optional x.0 z.0, z.1, z.2) y last)
      (subst (λ (bytes : List ℕ). SpellsContent port t shape bytes (with_optional x.0 z.0) (port.seen s) (port.seen z.1)) all (x.0, f.0, g.0, port.seen x.1, refl, f.2, (z.0, refl, g.2)), none)

  content_is : (s q end : R) (r m after : Rest) (required : Trees) (optional : Present) → each_at (value_at port.read t 100) (required_kinds shape) s r ≡ Ok (required, q, m) → all_options port.read t false shape.optional q m ≡ Ok (optional, end, after)
      → content_at port.read t shape s r ≡ Ok (with_optional required optional, end, after)
  content_is s q end r m after required optional one two = rw (one, two) refl

  pub content_only : (s : R) (to : S) (r : Rest) (v : Members) → SpellsContent port t shape r.bytes v (port.seen s) to
      → (end : R) × (port.seen end ≡ to) × (content_at port.read t shape s r ≡ Ok (v, end, record { place = r.place + length r.bytes; bytes = [] }))
  content_only s to r v h =
      let after : Rest = record { place = r.place + length r.bytes; bytes = [] } in
      let k : Took r r.bytes after = record { parts = sym (append-nil r.bytes); moved = refl } in
      let m = between r after h.1 h.2 (subst (λ bytes. Took r bytes after) h.4 k) in
      let o = required_lawful.only s h.3 r m.0 h.1 h.0 m.1 h.5 in
      let p = all_only port lawful t false shape.optional o.0 to m.0 after h.2 h.6.0 (λ e. refl) m.2 (subst (λ (u : S). AllOptions port t false shape.optional h.2 h.6.0 u to) (sym o.1) h.6.2) in
      (p.0, p.1, content_is s o.0 p.0 r m.0 after h.0 h.6.0 o.2 p.2 ∙ (λ i. Ok (sym h.6.1 i, p.0, after)))

  -- bytes spell one content at most, and lead to one state
  pub content_apart : (s : R) (to end : S) (bytes : List ℕ) (v w : Members) → SpellsContent port t shape bytes v (port.seen s) to → SpellsContent port t shape bytes w (port.seen s) end → v ≡ w
  content_apart s to end bytes v w h g =
      let p = content_only s to (whole bytes) v h in
      let q = content_only s end (whole bytes) w g in
      ap (λ (x : Members × R × Rest). x.0) (ok_is _ _ (sym p.2 ∙ q.2))
