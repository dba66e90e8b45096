-- Where values, proxies and exceptions lead.
use Rattle.std.proofs.Common.{ℕ, ◌≡◌, ◌≤◌, List, [], ◌∷◌, length, Option, None, Result, Ok, Err, refl, sym, subst, ap, ◌∙◌, arith}
use Rattle.std.specs.Prelude.{IfOk}
use Rattle.ice_prims.specs.declared.fault.Fault.{Fault}
use Rattle.ice_prims.specs.declared.fault.ReadFault.{ReadFault}
use Rattle.ice_prims.specs.declared.fault.ReadFault.TheVariants as faults
use Rattle.ice_prims.specs.Taking.{Fails}
use Rattle.ice_prims.specs.Rest.{whole}
use Rattle.ice_encoding.specs.Tree.{Trees}
use Rattle.ice_types.specs.declared.declarations.Member.{Member}
use Rattle.ice_types.specs.declared.proxy.Endpoint.{Endpoint}
use Rattle.ice_types.specs.Tables.{Tables}
use Rattle.ice_encoding.specs.Exceptions.{UserException, exception_at}
use Rattle.ice_encoding.specs.Flags.{all_slices}
use Rattle.ice_encoding.specs.Graph.{Graph, Slice}
use Rattle.ice_encoding.specs.Instances.{numbered_at}
use Rattle.value_parts.specs.Shapes.{told_apart}
use Rattle.graph_arena.specs.declared.value.Value.{Value}
use Rattle.graph_arena.specs.View.{view_all}
use Rattle.locator.specs.declared.lead.Lead.{Lead}
use Rattle.locator.specs.declared.lead.Lead.TheVariants.{At, Behind, Nowhere}
use Rattle.locator_types.specs.Locator.{find_object, locator_tables}
use Rattle.locator.specs.Leads.{of_members, of_raised, of_results, of_slices, place_by, results_at, raised_at}

-- several results are no answer
pub several : (values : List Value) (all : Trees) → 2 ≤ length values → view_all values ≡ all → None ≡ of_members all
several [] all many is = absurd (omega (arith, many))
several (v ∷ []) all many is = absurd (omega (arith, many))
several (v ∷ w ∷ vs) all many is = subst (λ (a : Trees). None ≡ of_members a) is refl

-- ---- of a proxy

pub with_endpoints : (endpoints : List Endpoint) (adapter : List ℕ) → (endpoints ≡ [] → ⊥) → At endpoints ≡ place_by endpoints adapter
with_endpoints [] adapter some = absurd (some refl)
with_endpoints (e ∷ es) adapter some = refl

pub with_adapter : (endpoints : List Endpoint) (adapter : List ℕ) → endpoints ≡ [] → (adapter ≡ [] → ⊥) → Behind adapter ≡ place_by endpoints adapter
with_adapter endpoints [] none some = absurd (some refl)
with_adapter endpoints (c ∷ cs) none some = subst (λ (es : List Endpoint). Behind (c ∷ cs) ≡ place_by es (c ∷ cs)) (sym none) refl

pub with_nothing : (endpoints : List Endpoint) (adapter : List ℕ) → endpoints ≡ [] → adapter ≡ [] → Nowhere ≡ place_by endpoints adapter
with_nothing endpoints adapter none empty =
    subst (λ (es : List Endpoint). Nowhere ≡ place_by es adapter) (sym none) (subst (λ (a : List ℕ). Nowhere ≡ place_by [] a) (sym empty) refl)

-- ---- of bodies, as they are read

pub results_read : (t : Tables) (required : List Member) (body : List ℕ) (r : Result Graph Fault) → t ≡ locator_tables → required ≡ find_object.results.required
    → numbered_at t all_slices (told_apart (record { required = required; optional = [] })) (whole body) ≡ r → results_at body ≡ r
unfolding results_at
results_read t required body r is are read =
    ap (λ (x : Tables). numbered_at x all_slices (told_apart find_object.results) (whole body)) (sym is)
    ∙ ap (λ (ms : List Member). numbered_at t all_slices (told_apart (record { required = ms; optional = [] })) (whole body)) (sym are)
    ∙ read

pub raised_read : (t : Tables) (body : List ℕ) (r : Result UserException Fault) → t ≡ locator_tables → exception_at t all_slices (whole body) ≡ r → raised_at body ≡ r
unfolding raised_at
raised_read t body r is read = ap (λ (x : Tables). exception_at x all_slices (whole body)) (sym is) ∙ read

module _ (t : Tables) (body bytes : List ℕ) (is : t ≡ locator_tables) (are : bytes ≡ body) where
  -- an exception that was read
  pub raised_lead : (x : UserException) (slices : List Slice) (lead : Option Lead) → exception_at t all_slices (whole bytes) ≡ Ok x → lead ≡ of_slices slices → slices ≡ x.slices → lead ≡ of_raised (raised_at body)
  raised_lead x slices lead read so same =
      let whole_read : raised_at body ≡ Ok x = raised_read t body (Ok x) is (ap (λ (b : List ℕ). exception_at t all_slices (whole b)) (sym are) ∙ read) in
      so ∙ ap of_slices same ∙ sym (ap of_raised whole_read)

  -- and one that was not
  pub none_raised : (e : ReadFault) (fault : Fault) → e ≡ faults.Broken fault → Fails e (exception_at t all_slices (whole bytes)) → None ≡ of_raised (raised_at body)
  none_raised e fault broken fails =
      let read : exception_at t all_slices (whole bytes) ≡ Err fault = subst (λ (f : ReadFault). Fails f (exception_at t all_slices (whole bytes))) broken fails in
      let none_read : raised_at body ≡ Err fault = raised_read t body (Err fault) is (ap (λ (b : List ℕ). exception_at t all_slices (whole b)) (sym are) ∙ read) in
      sym (ap of_raised none_read)

  module _ (required : List Member) (they : required ≡ find_object.results.required) where
    as_read : (r : Result Graph Fault) → numbered_at t all_slices (told_apart (record { required = required; optional = [] })) (whole bytes) ≡ r → results_at body ≡ r
    as_read r read = results_read t required body r is they (ap (λ (b : List ℕ). numbered_at t all_slices (told_apart (record { required = required; optional = [] })) (whole b)) (sym are) ∙ read)

    -- results that were read
    pub results_lead : {E : Type 0} (x : Graph) (r : Result (Option Lead) E) → numbered_at t all_slices (told_apart (record { required = required; optional = [] })) (whole bytes) ≡ Ok x → IfOk r (λ lead. lead ≡ of_members x.roots.required)
        → IfOk r (λ lead. lead ≡ of_results (results_at body))
    results_lead x (Ok lead) read so = so ∙ sym (ap of_results (as_read (Ok x) read))
    results_lead x (Err e) read so = tt

    -- and some that were not
    pub none_found : (e : ReadFault) (fault : Fault) → e ≡ faults.Broken fault → Fails e (numbered_at t all_slices (told_apart (record { required = required; optional = [] })) (whole bytes)) → None ≡ of_results (results_at body)
    none_found e fault broken fails =
        let read : numbered_at t all_slices (told_apart (record { required = required; optional = [] })) (whole bytes) ≡ Err fault =
        subst (λ (f : ReadFault). Fails f (numbered_at t all_slices (told_apart (record { required = required; optional = [] })) (whole bytes))) broken fails in
        sym (ap of_results (as_read (Err fault) read))
