-- The members of a slice as bytes that are kept, and as members again, whatever flag of a table stands before them.
use Rattle.std.proofs.Common.{ℕ, zero, suc, ◌≡◌, ◌<◌, Bool, true, false, List, [], ◌∷◌, ◌++◌, length, refl, sym, ap, ◌∙◌, subst, Option, Some, None, arith}
use Rattle.std.proofs.lemmas.List.{append_assoc}
use Rattle.ice_types.specs.declared.kind.RowRef.TheVariants as rows
use Rattle.ice_types.specs.declared.declarations.Member.{Member}
use Rattle.ice_types.specs.declared.declarations.Shape.{Shape}
use Rattle.ice_types.specs.Tables.{Tables}
use Rattle.ice_types.specs.Rules.{IsSchema}
use Rattle.ice_types.specs.Lacking.{SameBase, SameShape}
use Rattle.ice_encoding.specs.Port.{Port}
use Rattle.ice_encoding.specs.Optionals.{Present, Options}
use Rattle.ice_encoding.specs.OptionalMembers.{Members, SpellsSliceMembers}
use Rattle.ice_encoding.specs.Classes.{own_members}
use Rattle.ice_encoding.specs.References.{State, Reference, met_at, in_table, AreWithin, SpellsEntries}
use Rattle.ice_encoding.specs.Slices.{slice_size, unknown_bytes, SpellsUnknown}
use Rattle.ice_encoding.specs.CanonicalGraph.{is_there}
use Rattle.graph_laws.proofs.Carried.{Steps}
use Rattle.graph_laws.proofs.TypeIds.{Spelled}
use Rattle.graph_laws.proofs.Rows.{agrees_itself, one_class}
use Rattle.graph_laws.proofs.RelayedCarried.{Carries, slice_carried}
use Rattle.graph_laws.proofs.Keeping.{members_keep, own_itself}
use Rattle.graph_laws.proofs.Stays.{Uses}

-- ---- as bytes: an end marker stands behind them where the flag of optional members does

module _ {R S : Type 0} (port : Port R S) (t : Tables) where
  options_marked : (members : List Member) (n : ℕ) (last : Option ℕ) (bytes : List ℕ) (os : Present) (from to : S) → Options port t true members n last bytes os from to → (x : List ℕ) × (bytes ≡ x ++ 255 ∷ [])
  options_marked members zero last bytes os from to h = ([], h.0)
  options_marked members (suc n) last bytes os from to (number, format, v, others, lead, a, b, mid, parts, is_tag, rise, is_value, is_list, rest) =
      let g = options_marked members n (Some number) b others mid to rest in
      (lead ++ (a ++ g.0), parts ∙ ap (λ (l : List ℕ). lead ++ (a ++ l)) g.1 ∙ ap (λ (l : List ℕ). lead ++ l) (sym (append_assoc a g.0 (255 ∷ []))) ∙ sym (append_assoc lead (a ++ g.0) (255 ∷ [])))

  -- what is spelled as members can be kept
  pub members_unknown : (flagged : Bool) (shape : Shape) (bytes : List ℕ) (c : Members) (from to : S) → SpellsSliceMembers port t flagged shape bytes c from to → (x : List ℕ) × (bytes ≡ unknown_bytes flagged x)
  members_unknown false shape bytes c from to h = (bytes, refl)
  members_unknown true shape bytes c from to (required, a, b, mid, parts, each, (optional, is, h)) =
      let g = options_marked shape.optional h.0 None b optional mid to h.1 in
      (a ++ g.0, parts ∙ ap (λ (l : List ℕ). a ++ l) g.1 ∙ sym (append_assoc a g.0 (255 ∷ [])))

-- behind their size
pub unknown_spelled : (flagged : Bool) (bytes front body x : List ℕ) → bytes ≡ front ++ body → slice_size.Spells front (length body) → body ≡ unknown_bytes flagged x → SpellsUnknown flagged bytes x
unknown_spelled flagged bytes front body x parts size e = let g = subst (λ (l : List ℕ). (bytes ≡ front ++ l) × slice_size.Spells front (length l)) e (parts, size) in (front, g.0, g.1)

pub entries_length : (port : Port (State ℕ) Spelled) (n : ℕ) (bytes names : List ℕ) (from to : Spelled) → SpellsEntries port n bytes names from to → length names ≡ n
entries_length port zero bytes names from to h = ap length h.1
entries_length port (suc n) bytes names from to h = ap length h.5 ∙ ap suc (entries_length port n h.3 h.1 h.4 to h.8)

-- ---- as members again: a place is met only where there is a table

no_entry_unknown : (declared n : Option ℕ) (bytes : List ℕ) (from to : Uses) → (in_table false).Spells declared bytes n from to → to ≡ from
no_entry_unknown declared None bytes from to h = h.1
no_entry_unknown declared (Some n) bytes from to h = absurd cc

end_some : {C : Type 0} (l : Uses) (m : Reference (Unit {0})) → l ++ m ∷ [] ≡ [] → C
end_some [] m e = absurd cc
end_some (x ∷ l) m e = absurd cc

-- without a table nothing is met
abbrev Bare : Bool → Uses → Type 0
Bare flag s = flag ≡ false → s ≡ []

abbrev Empties : Uses → Uses → Type 0
Empties a b = b ≡ [] → a ≡ []

abbrev bare_steps : Bool → Steps Uses
bare_steps flag = record { Fine = Bare flag; Step = Empties; same = λ s e. e; joined = λ a b c p q e. p (q e); back = λ a b k bare e. k (bare e) }

has_table : (flag : Bool) (l : Uses) (m : Reference (Unit {0})) → Bare flag (l ++ m ∷ []) → flag ≡ true
has_table true l m bare = refl
has_table false l m bare = end_some l m (bare refl)

none_within : (uses : Uses) → AreWithin 0 uses → uses ≡ []
none_within [] h = refl
none_within (m ∷ ms) h = let below : m.name < 0 = h.0 in absurd (omega (arith, below))

bare_within : (flag : Bool) (table : List ℕ) (uses : Uses) → (flag ≡ false → table ≡ []) → AreWithin (length table) uses → Bare flag uses
bare_within flag table uses bare within e = none_within uses (subst (λ (l : List ℕ). AreWithin (length l) uses) (bare e) within)

pub unlisted : (table : List ℕ) → is_there table ≡ false → table ≡ []
unlisted [] e = refl
unlisted (n ∷ ns) e = absurd cc

module _ (t : Tables) (rules : IsSchema t) where
  -- without a table no reference is met
  none_met : (flagged : Bool) (shape : Shape) → SameShape t t shape shape → (bytes : List ℕ) (c : Members) (uses : Uses) → SpellsSliceMembers (in_table false) t flagged shape bytes c [] uses → uses ≡ []
  none_met flagged shape own bytes c uses h =
      members_keep (in_table false) t (agrees_itself t rules) (λ (a b : Uses). b ≡ a) (λ s. refl) (λ a b c p q. q ∙ p) no_entry_unknown flagged shape own bytes c [] uses h

  pub bare : (tabled flagged : Bool) (a : ℕ) (body : List ℕ) (raw : Members) (uses : Uses) → SpellsSliceMembers (in_table tabled) t flagged (own_members t a) body raw [] uses → tabled ≡ false → uses ≡ []
  bare tabled flagged a body raw uses m e =
      none_met flagged (own_members t a) (own_itself t (agrees_itself t rules) a) body raw uses (subst (λ (b : Bool). SpellsSliceMembers (in_table b) t flagged (own_members t a) body raw [] uses) e m)

  declared_once : (a b : Option ℕ) → SameBase t t rows.Class a b → a ≡ b
  declared_once None b e = sym e
  declared_once (Some a) b (c, is, same) = ap Some (one_class t rules a c same) ∙ sym is

  entry_tabled : (tabled flag : Bool) (a b : Option ℕ) → a ≡ b → Carries (bare_steps flag) (λ (x y : Uses). x ≡ y) ((in_table tabled).Spells a) ((in_table flag).Spells b)
  entry_tabled tabled flag a b same bytes None from to h = ((λ e. sym h.1 ∙ e), λ begin r bare. (begin, (h.0, refl), h.1 ∙ r))
  entry_tabled tabled flag a b same bytes (Some n) from to h = (
    (λ e. end_some from (met_at tt a n) (sym h.2 ∙ e)),
    λ begin r bare. (
      begin ++ met_at tt b n ∷ [],
      (h.0, has_table flag from (met_at tt a n) (subst (Bare flag) h.2 bare), refl),
      h.2 ∙ ap (λ (l : Uses). l ++ met_at tt a n ∷ []) r ∙ ap (λ (c : Option ℕ). begin ++ met_at tt c n ∷ []) same,
    ),
  )

  members_tabled : (tabled flag flagged : Bool) (shape : Shape) → SameShape t t shape shape → (bytes : List ℕ) (c : Members) (uses : Uses)
      → SpellsSliceMembers (in_table tabled) t flagged shape bytes c [] uses → Bare flag uses → SpellsSliceMembers (in_table flag) t flagged shape bytes c [] uses
  members_tabled tabled flag flagged shape own bytes c uses h bare =
      let g = (slice_carried (bare_steps flag) (λ (x y : Uses). x ≡ y) (in_table tabled) (in_table flag) t t (agrees_itself t rules) (λ a b tied. entry_tabled tabled flag a b (declared_once a b tied)) flagged shape shape own bytes c [] uses h).1 [] refl bare in
      subst (λ (l : Uses). SpellsSliceMembers (in_table flag) t flagged shape bytes c [] l) (sym g.2) g.1

  -- with one flag of a table as with another, where the table has what they name
  pub tabled_as : (tabled flag flagged : Bool) (shape : Shape) → SameShape t t shape shape → (bytes : List ℕ) (c : Members) (uses : Uses) (table : List ℕ) → (flag ≡ false → table ≡ []) → AreWithin (length table) uses
      → SpellsSliceMembers (in_table tabled) t flagged shape bytes c [] uses → SpellsSliceMembers (in_table flag) t flagged shape bytes c [] uses
  tabled_as tabled flag flagged shape own bytes c uses table bare within h = members_tabled tabled flag flagged shape own bytes c uses h (bare_within flag table uses bare within)
