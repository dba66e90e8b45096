-- The rows of the locator's schema may be added.
use Rattle.std.proofs.Common.{ℕ, ◌≡◌, ◌<◌, false, List, [], ◌∷◌, All, None, codes, refl, arith}
use Rattle.std.specs.Prelude.{IsTrue}
use Rattle.std.proofs.lemmas.List.Elements.{All-nil, All-cons}
use Rattle.ice_types.specs.declared.kind.TypeRef.{TypeRef}
use Rattle.ice_types.specs.declared.kind.TypeRef.TheVariants as kinds
use Rattle.ice_types.specs.Tables.{is_defined, no_types}
use Rattle.ice_types.specs.Measures.{measure, built_in, structure, with_member, no_members, proxy}
use Rattle.ice_types.specs.Fits.{IsOf, AreOf, ShapeFits, OpFits, StructFits, InterfaceFits}
use Rattle.ice_types.specs.Object.{required}
use Rattle.locator_types.proofs.ObjectFits.{free, beside, no_tag}
use Rattle.locator_types.specs.Locator.{identity_decl, locator_declared, finding, find_object, find_adapter, locator_operations}

pub identity_fits : StructFits no_types identity_decl.members
unfolding measure
identity_fits = (
  with_member (built_in 1 false) (with_member (built_in 1 false) no_members),
  refl,
  omega arith,
  λ e. cc,
  (free (codes "name"), (beside (codes "name") (codes "category") [] refl (free (codes "category")), tt)),
  All-cons (λ m. m.tag ≡ None) (required (codes "name") kinds.Text) (required (codes "category") kinds.Text ∷ []) refl (no_tag (codes "category") kinds.Text),
)

-- ---- operations

proxy_of : IsOf locator_declared (kinds.Proxy None)
unfolding measure
proxy_of = (proxy, refl)

text_of : IsOf locator_declared kinds.Text
unfolding measure
text_of = (built_in 1 false, refl)

identity_of : IsOf locator_declared (kinds.Struct 0)
unfolding measure
identity_of = (structure (with_member (built_in 1 false) (with_member (built_in 1 false) no_members)), refl)

none_of : AreOf locator_declared []
none_of = All-nil (λ m. IsOf locator_declared m.kind)

one_fits : (name : List ℕ) (kind : TypeRef) → IsOf locator_declared kind → ShapeFits locator_declared (record { required = required name kind ∷ []; optional = [] })
one_fits name kind is = (All-cons (λ m. IsOf locator_declared m.kind) (required name kind) [] is none_of, no_tag name kind, none_of, tt)

finding_fits : (name : List ℕ) (kind : TypeRef) (at : ℕ) → at < 2 → IsOf locator_declared kind → OpFits locator_declared (finding name kind at)
finding_fits name kind at lt is = (
  one_fits (codes "id") kind is,
  one_fits (codes "$return") (kinds.Proxy None) proxy_of,
  (free (codes "id"), (beside (codes "id") (codes "$return") [] refl (free (codes "$return")), tt)),
  All-cons (λ n. n < 2) at [] lt (All-nil (λ n. n < 2)),
)

pub operations_fit : InterfaceFits locator_declared [] locator_operations
operations_fit =
    let adapter : All (OpFits locator_declared) (find_adapter ∷ []) =
    All-cons (OpFits locator_declared) find_adapter [] (finding_fits (codes "findAdapterById") kinds.Text 1 (omega arith) text_of) (All-nil (OpFits locator_declared)) in
    let all : All (OpFits locator_declared) locator_operations =
    All-cons (OpFits locator_declared) find_object (find_adapter ∷ []) (finding_fits (codes "findObjectById") (kinds.Struct 0) 0 (omega arith) identity_of) adapter in (
      (All-nil (λ base. IsTrue (is_defined locator_declared.defined_interfaces base)), tt, omega arith),
      all,
      (free (codes "findObjectById"), (beside (codes "findObjectById") (codes "findAdapterById") [] refl (free (codes "findAdapterById")), tt)),
    )
