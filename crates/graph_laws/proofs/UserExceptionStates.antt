-- What bytes spell as an exception is of its type.
use Rattle.std.proofs.Common.{ℕ, zero, suc, ◌≤◌, ◌<◌, ◌≡◌, Bool, true, false, List, [], ◌∷◌, length, refl, sym, ap, ◌∙◌, subst, arith, inl, inr, Option, Some, None}
use Rattle.std.specs.Prelude.{is_none}
use Rattle.ice_types.specs.Tables.{Tables}
use Rattle.ice_types.specs.Rules.{IsSchema}
use Rattle.ice_prims.specs.Rest.{IsBytes}
use Rattle.ice_encoding.specs.declared.limits.TheConstants.{LARGEST}
use Rattle.ice_encoding.specs.Port.{Port, Speller}
use Rattle.ice_encoding.specs.Typed.{Refers}
use Rattle.ice_encoding.specs.OptionalMembers.{Members}
use Rattle.ice_encoding.specs.Classes.{class_named, base_of}
use Rattle.ice_encoding.specs.Exceptions.{of_exceptions, is_known_last, BehindUserException, UserExceptionSlices}
use Rattle.ice_encoding.specs.Graph.{Slice}
use Rattle.ice_encoding.specs.References.{State, in_table, opening}
use Rattle.ice_encoding.specs.Flags.{Flags, Reach, Before, first, only_unknown, derived}
use Rattle.ice_encoding.specs.TypeIds.{before_base, before_next}
use Rattle.ice_encoding.specs.Instances.{instances, slices_of, AllFit}
use Rattle.ice_encoding.specs.TypedGraph.{AreBases, IsInstance, IsHeldIn, RefersUpTo}
use Rattle.ice_encoding.specs.UserExceptionTyped.{HaveTypeIds}
use Rattle.ice_types.specs.CompactIds.{is_numbered}
use Rattle.ice_encoding.proofs.Agreeing.{spelled_same, members_to}
use Rattle.graph_laws.proofs.Back.{FormedAs, body_form}
use Rattle.graph_laws.proofs.ClassIds.{plain_named, text_id}
use Rattle.graph_laws.proofs.Bases.{row_named}
use Rattle.graph_laws.proofs.Carried.{front_fits, rest_fits}
use Rattle.graph_laws.proofs.Texts.{AllTexts}
use Rattle.graph_laws.proofs.TypedGraphs.{Spelled, Uses, Alike, body_typed, one_comes, instances_typed}
use Rattle.graph_laws.proofs.TypedGraphs as graphs

module _ (t : Tables) (rules : IsSchema t) (reach : Reach) (is : List (List Slice)) (room : ℕ) where
  abbrev limit : ℕ
  limit = length is

  abbrev Refer : Refers
  Refer = RefersUpTo t LARGEST is

  abbrev u : Tables
  u = of_exceptions t

  abbrev Fine : Spelled → Type 0
  Fine = graphs.Fine t rules reach is room

  abbrev Step : Spelled → Spelled → Type 0
  Step = graphs.Step t rules reach is room

  abbrev Come : Before → List Slice → Type 0
  Come = graphs.Come t rules reach is room u

  abbrev After : Option ℕ → List Slice → Type 0
  After = graphs.After t rules reach is room u

  stays : (from to : Spelled) → to ≡ from → Step from to
  stays = graphs.stays t rules reach is room

  joined_step : (a b c : Spelled) → Step a b → Step b c → Step a c
  joined_step = graphs.joined_step t rules reach is room

  -- ---- the slices of an exception

  module _ (port : Port (State ℕ) Spelled) (refers : (declared n : Option ℕ) (bytes : List ℕ) (from to : Spelled) → IsBytes bytes → port.Spells declared bytes n from to → Fine to → Step from to × IsHeldIn t is declared n) where
    alike : Alike t rules reach is room port refers u
    alike = record {
      placed = λ tabled flagged shape bytes c from to h. subst (λ (X : Speller Uses Members). X bytes c from to) (spelled_same t (in_table tabled) flagged shape) h;
      inline = λ flagged shape bytes c from to h. subst (λ (X : Speller Spelled Members). X bytes c from to) (spelled_same t port flagged shape) h;
      members = members_to t Refer;
    }

    abbrev UserExceptionTyped : (Before → Speller Spelled (List Slice)) → Type 0
    UserExceptionTyped Next = (ahead : Before) (bytes : List ℕ) (ss : List Slice) (from to : Spelled) → IsBytes bytes → Next ahead bytes ss from to → Fine to → Step from to × Come ahead ss

    unknown_behind : (Next : Before → Speller Spelled (List Slice)) → UserExceptionTyped Next → (last : Bool) (bytes : List ℕ) (ss : List Slice) (from to : Spelled) → IsBytes bytes → BehindUserException (Next only_unknown) last None bytes ss from to → Fine to
        → Step from to × After None ss
    unknown_behind Next next true bytes ss from to fits h fine = (stays from to h.2, inl h.1)
    unknown_behind Next next false [] ss from to fits h fine = let g = h.0 refl in (stays from to g.2, inl g.1)
    unknown_behind Next next false (b ∷ bs) ss from to fits h fine = let r = next only_unknown (b ∷ bs) ss from to fits (h.1 (λ e. absurd cc)) fine in (r.0, inr r.1)

    known_behind : (Next : Before → Speller Spelled (List Slice)) → UserExceptionTyped Next → (sized : Bool) (base : Option ℕ) (class : ℕ) (bytes : List ℕ) (ss : List Slice) (from to : Spelled) → IsBytes bytes
        → BehindUserException (Next (before_base sized base)) (is_none base) (Some class) bytes ss from to → Fine to → Step from to × AreBases u Refer base ss
    known_behind Next next sized None class bytes ss from to fits h fine = (stays from to h.2, h.1)
    known_behind Next next sized (Some base) class bytes ss from to fits h fine = next (derived sized base) bytes ss from to fits h fine

    user_exception_behind : (Next : Before → Speller Spelled (List Slice)) → UserExceptionTyped Next → (class : Option ℕ) (f : Flags) (bytes : List ℕ) (ss : List Slice) (from to : Spelled) → IsBytes bytes
        → BehindUserException (Next (before_next u class f)) (is_known_last u class f) class bytes ss from to → Fine to → Step from to × After class ss
    user_exception_behind Next next None f bytes ss from to fits h fine = unknown_behind Next next f.is_last bytes ss from to fits h fine
    user_exception_behind Next next (Some class) f bytes ss from to fits h fine = known_behind Next next f.has_size (base_of u class) class bytes ss from to fits h fine

    user_exception_typed : (n : ℕ) → UserExceptionTyped (UserExceptionSlices port u reach n)
    user_exception_typed zero ahead bytes ss from to fits h fine = absurd h
    user_exception_typed (suc n) ahead bytes ss from to fits (f, a, b, mid, parts, (flags, first_is), (id, c, d, next, cut, (is_id, second_is), (base, (read, (ends, (slice, g, h, end, pieces, body, (others, is_list, rest))))))) fine =
        let class = class_named u id in
        let fits_d = rest_fits b c d cut (rest_fits bytes a b parts fits) in
        let more = user_exception_behind (UserExceptionSlices port u reach n) (user_exception_typed n) class f h others end to (rest_fits d g h pieces fits_d) rest fine in
        let one = body_typed t rules reach is room port refers u alike f id f.has_size class g slice next end (front_fits d g h pieces fits_d) body (graphs.back_step t rules reach is room end to more.0 fine) in
        let step = joined_step from mid to (stays from mid first_is) (joined_step mid next to (stays mid next second_is) (joined_step next end to one.0 more.0)) in
        (step, subst (Come ahead) (sym is_list) (one_comes t rules reach is room u ahead id class slice others (λ e. plain_named u id is_id.1 ∙ e) (row_named u.classes id) (text_id id (is_id.0.2, is_id.1)) base one.1 more.1))

    -- ---- type ids alone stand in them

    ids_behind : (Next : Speller Spelled (List Slice)) → ((bytes : List ℕ) (ss : List Slice) (from to : Spelled) → Next bytes ss from to → HaveTypeIds ss)
        → (last : Bool) (exception : Option ℕ) (bytes : List ℕ) (ss : List Slice) (from to : Spelled) → BehindUserException Next last exception bytes ss from to → HaveTypeIds ss
    ids_behind Next next true exception bytes ss from to h = subst HaveTypeIds (sym h.1) tt
    ids_behind Next next false (Some exception) bytes ss from to h = next bytes ss from to h
    ids_behind Next next false None [] ss from to h = subst HaveTypeIds (sym (h.0 refl).1) tt
    ids_behind Next next false None (b ∷ bs) ss from to h = next (b ∷ bs) ss from to (h.1 (λ e. absurd cc))

    one_id : (id : List ℕ) (sized : Bool) (class : Option ℕ) (s : Slice) (ss : List Slice) → is_numbered id ≡ false → FormedAs id sized class s → HaveTypeIds ss → HaveTypeIds (s ∷ ss)
    one_id id sized class s ss plain (inl (lacks, is_sized, bytes, optionals, table, is)) later = subst (λ (s : Slice). HaveTypeIds (s ∷ ss)) (sym is) (plain, later)
    one_id id sized class s ss plain (inr (known_class, content, has, is)) later = subst (λ (s : Slice). HaveTypeIds (s ∷ ss)) (sym is) (tt, later)

    pub type_ids : (n : ℕ) (ahead : Before) (bytes : List ℕ) (ss : List Slice) (from to : Spelled) → UserExceptionSlices port u reach n ahead bytes ss from to → HaveTypeIds ss
    type_ids zero ahead bytes ss from to h = absurd h
    type_ids (suc n) ahead bytes ss from to (f, a, b, mid, parts, flags, (id, c, d, next, cut, (is_id, second_is), (base, (read, (ends, (slice, g, h, end, pieces, body, (others, is_list, rest))))))) =
        let class = class_named u id in
        let later = ids_behind (UserExceptionSlices port u reach n (before_next u class f)) (type_ids n (before_next u class f)) (is_known_last u class f) class h others end to rest in
        subst HaveTypeIds (sym is_list) (one_id id f.has_size class slice others is_id.1 (body_form port u f id f.has_size class g slice next end body) later)

  -- ---- a whole exception

  pub exception_typed : (more n : ℕ) (bytes : List ℕ) (ss : List Slice) (end : Spelled) → IsBytes bytes → UserExceptionSlices (instances t reach room more) (of_exceptions t) reach n first bytes ss opening end → end.instances ≡ is → AllFit t is end.met → AllTexts end.ids
      → IsInstance (of_exceptions t) Refer ss × HaveTypeIds ss × ((m : ℕ) → m < limit → IsInstance t Refer (slices_of is m)) × (limit ≤ room)
  exception_typed more n bytes ss end fits h same fit utf8 =
      let fine : Fine end = record { met = fit; many = omega (arith, ap length same); ids = utf8 } in
      let r = user_exception_typed (instances t reach room more) (instances_typed t rules reach is room more) n first bytes ss opening end fits h fine in
      (r.1, type_ids (instances t reach room more) (instances_typed t rules reach is room more) n first bytes ss opening end h, (λ m lt. subst (λ (l : List (List Slice)). IsInstance t Refer (slices_of l m)) same (r.0.done m (omega arith) (omega (arith, lt, ap length same)))), omega (arith, ap length same, r.0.fewer (omega arith)))
