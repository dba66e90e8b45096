-- What is written for slices spells them, in both formats.
use Rattle.std.proofs.Common.{ℕ, suc, ◌≤◌, ◌≡◌, Bool, true, false, ◌&&◌, List, [], ◌∷◌, ◌++◌, length, refl, sym, ap, ◌∙◌, subst, Option, Some, None}
use Rattle.std.specs.Prelude.{is_none}
use Rattle.std.proofs.lemmas.Bool.{eq-eqb}
use Rattle.ice_types.specs.Tables.{Tables}
use Rattle.ice_types.specs.CompactIds.{IsSliceId}
use Rattle.ice_encoding.specs.Port.{Port}
use Rattle.ice_encoding.specs.Writing.{Piece, exactly, ◌>>◌}
use Rattle.ice_encoding.specs.OptionalMembers.{Members}
use Rattle.ice_encoding.specs.Classes.{class_by_id, base_of}
use Rattle.ice_encoding.specs.Graph.{Slice, known, unknown, Graph}
use Rattle.ice_encoding.specs.Names.{names_of, instance_names}
use Rattle.ice_encoding.specs.References.{State}
use Rattle.ice_encoding.specs.Flags.{IdForm, no_id, Flags, Reach, all_slices, known_classes, is_all, Before, first, only_unknown, derived, has_id, may_stand, SpellsFlags}
use Rattle.ice_encoding.specs.TypeIds.{class_in, is_base, can_be_read, same_bool, ends_well, before_base, before_next}
use Rattle.ice_encoding.specs.Slices.{SpellsBody, FromId, SpellsSlices, SpellsInstance}
use Rattle.ice_encoding.specs.Slices.{Behind as Others}
use Rattle.ice_encoding.specs.Visiting.{visit_each}
use Rattle.ice_encoding.specs.TypedGraph.{IsKnown, AreBases, IsUnknown, IsInstance, RefersUpTo}
use Rattle.ice_encoding.specs.CanonicalGraph.{Pen, is_there, each_once, flags_byte, spelled_by, row_id, written_id, written_head, is_end, sized_body, written_slices, members_bytes, written_bases, written_plain, Format, sliced, compact, written_as, Compact}
use Rattle.graph_arena.specs.Arena.{AreBelow}
use Rattle.graph_arena.proofs.Agreeing.{below-left, below-right}
use Rattle.graph_laws.proofs.TypeIds.{Spelled, HaveTexts}
use Rattle.graph_laws.proofs.ClassIds.{AreSpelled}
use Rattle.graph_laws.proofs.Formed.{Asked}
use Rattle.graph_laws.proofs.FlagBytes.{flags_back, flags_small}
use Rattle.graph_laws.proofs.Upto.{upto, Grows}
use Rattle.graph_laws.proofs.WrittenValues.{Relation, Chain, Limits, ReferGood}
use Rattle.graph_laws.proofs.WrittenBodies.{IsOpen, open_base, with_size, KnownBody, UnknownBody, PlainBody, known_good, unknown_good, plain_body}
use Rattle.graph_laws.proofs.InlineRules.{Good, inline_rules, exact_good, joined_good, mapped_good, Head, HasId, head_good, IsNone, bare_good}

module _ (t : Tables) (found : AreSpelled t) (reach : Reach) (k : Graph) (l : Limits) (visit : ℕ → List ℕ → List ℕ) (grows : Grows visit) (Ready : ℕ → Type 0) (ready : (i j : ℕ) → Ready i → i ≤ j → Ready j) (P : Port (State ℕ) (State (Unit {0}))) (refer : Option ℕ → Piece Pen)
    (port_good : ReferGood (inline_rules t k l visit grows Ready ready) t P refer (RefersUpTo t l.most k.instances)) (refer_long : (n : ℕ) (p : Pen) → 1 ≤ length (refer (Some n) p).0)
    (once : (ns : List ℕ) (i j : ℕ) → Ready i → AreBelow (length k.instances) ns → visit_each visit ns (upto i) ≡ upto j → visit_each visit (each_once [] ns) (upto i) ≡ upto j) where
  abbrev limit : ℕ
  limit = length k.instances

  abbrev Ends : Piece Pen → List ℕ → Relation Spelled → Type 0
  Ends = Good t k l visit grows Ready ready

  abbrev exact : (bytes : List ℕ) (R : Relation Spelled) → ((s : Spelled) → R bytes s s) → Ends (exactly bytes) [] R
  exact = λ bytes R h. exact_good t k l visit grows Ready ready bytes R (λ small. h)

  abbrev joined : (w w' : Piece Pen) (a b : List ℕ) (R R' : Relation Spelled) → Ends w a R → Ends w' b R' → Ends (w >> w') (a ++ b) (Chain R R')
  joined = joined_good t k l visit grows Ready ready

  abbrev mapped : (w : Piece Pen) (ns : List ℕ) (R R' : Relation Spelled) → ((bytes : List ℕ) (from to : Spelled) → R bytes from to → R' bytes from to) → Ends w ns R → Ends w ns R'
  mapped = mapped_good t k l visit grows Ready ready

  -- ---- one slice, and those behind it

  abbrev flags_with : Bool → Bool → Bool → Bool → IdForm → Flags
  flags_with opt tabled sized last form = record { id = form; has_optional = opt; has_table = tabled; has_size = sized; is_last = last }

  abbrev Slices : Before → List Slice → Relation Spelled
  Slices ahead ss b from to = (n : ℕ) × SpellsSlices P t reach n ahead b ss from to

  abbrev Later : Bool → Before → List Slice → Relation Spelled
  Later last ahead ss b from to = (n : ℕ) × Others P t (SpellsSlices P t reach n) last ahead b ss from to

  module _ (ahead next : Before) (s : Slice) (ss : List Slice) (opt tabled sized last : Bool) (Ok : IdForm → Type 0) (id : List ℕ) (class : Option ℕ) (Body : Relation Spelled)
      (may : (form : IdForm) → Ok form → may_stand ahead (flags_with opt tabled sized last form) ≡ true) (class_is : class_in t ahead id ≡ class) (based : is_base ahead class ≡ true)
      (readable : (form : IdForm) → can_be_read reach class (flags_with opt tabled sized last form) ≡ true) (ends : (form : IdForm) → ends_well t class (flags_with opt tabled sized last form) ≡ true)
      (next_is : (form : IdForm) → before_next t class (flags_with opt tabled sized last form) ≡ next)
      (body_is : (form : IdForm) (b : List ℕ) (from to : Spelled) → Body b from to → SpellsBody P t (flags_with opt tabled sized last form) id sized class b s from to) where
    abbrev flag : IdForm → ℕ
    flag form = flags_byte form opt tabled sized last

    flags_spelled : (form : IdForm) → Ok form → SpellsFlags (may_stand ahead) (flag form ∷ []) (flags_with opt tabled sized last form)
    flags_spelled form ok = (flag form, refl, sym (flags_back form opt tabled sized last), (λ i. flags_small form opt tabled sized last i && may form ok i))

    one_is : (b : List ℕ) (from to : Spelled) → Chain (Head t k l visit grows Ready ready Ok flag id) (Chain Body (Later last next ss)) b from to → Slices ahead (s ∷ ss) b from to
    one_is b from to (head, rest, mid, cut, (form, ok, id_bytes, head_is, is_id), (body, others, then, parts, is_body, (n, more))) =
        let f : Flags = flags_with opt tabled sized last form in
        let bytes : b ≡ flag form ∷ (id_bytes ++ (body ++ others)) = cut ∙ ap (λ (l : List ℕ). l ++ rest) head_is ∙ ap (λ (l : List ℕ). flag form ∷ (id_bytes ++ l)) parts in
        let behind_is : Others P t (SpellsSlices P t reach n) last (before_next t class f) others ss then to = subst (λ (x : Before). Others P t (SpellsSlices P t reach n) last x others ss then to) (sym (next_is form)) more in
        let from_id : FromId P t reach (Others P t (SpellsSlices P t reach n) last (before_next t class f)) (ends_well t class f) ahead f id class (body ++ others) (s ∷ ss) mid to =
        (based, (readable form, (ends form, (s, body, others, then, refl, body_is form body mid then is_body, (ss, refl, behind_is))))) in
        (suc n, (f, flag form ∷ [], id_bytes ++ (body ++ others), from, bytes, (flags_spelled form ok, refl), (id, id_bytes, body ++ others, mid, refl, is_id, subst (λ (c : Option ℕ). FromId P t reach (Others P t (SpellsSlices P t reach n) last (before_next t c f)) (ends_well t c f) ahead f id c (body ++ others) (s ∷ ss) mid to) (sym class_is) from_id)))

    step_good : (whead wbody wrest : Piece Pen) (a b : List ℕ) → Ends whead [] (Head t k l visit grows Ready ready Ok flag id) → Ends wbody a Body → Ends wrest b (Later last next ss) → Ends (whead >> (wbody >> wrest)) (a ++ b) (Slices ahead (s ∷ ss))
    step_good whead wbody wrest a b one two three =
        mapped (whead >> (wbody >> wrest)) (a ++ b) (Chain (Head t k l visit grows Ready ready Ok flag id) (Chain Body (Later last next ss))) (Slices ahead (s ∷ ss)) one_is
        (joined whead (wbody >> wrest) [] (a ++ b) (Head t k l visit grows Ready ready Ok flag id) (Chain Body (Later last next ss)) one (joined wbody wrest a b Body (Later last next ss) two three))

  last_later : (next : Before) → Ends (exactly []) [] (Later true next [])
  last_later next = exact [] (Later true next []) (λ s. (0, (refl, refl, refl)))

  last_is : (base : Option ℕ) (ss : List Slice) → AreBases t (RefersUpTo t l.most k.instances) base ss → is_end t refer ss ≡ is_none base
  last_is None ss are = ap (is_end t refer) are
  last_is (Some class) [] are = absurd are
  last_is (Some class) (s ∷ ss) are = refl

  same_self : (b : Bool) → same_bool b b ≡ true
  same_self true = refl
  same_self false = refl

  ends_as : (class : ℕ) (ss : List Slice) → AreBases t (RefersUpTo t l.most k.instances) (base_of t class) ss → same_bool (is_end t refer ss) (is_none (base_of t class)) ≡ true
  ends_as class ss are = ap (λ (b : Bool). same_bool b (is_none (base_of t class))) (last_is (base_of t class) ss are) ∙ same_self (is_none (base_of t class))

  -- ---- with sizes

  known_step : (ahead : Before) (class : ℕ) (content : Members) (ss : List Slice) → IsSliceId (written_id t (known class content))
      → ((form : IdForm) → HasId t k l visit grows Ready ready form → may_stand ahead (flags_with (is_there content.optional) (is_there (each_once [] (names_of content))) true (is_end t refer ss) form) ≡ true)
      → ((id : List ℕ) → class_in t ahead id ≡ class_by_id t id) → is_base ahead (Some class) ≡ true → IsKnown t (RefersUpTo t l.most k.instances) class content → AreBases t (RefersUpTo t l.most k.instances) (base_of t class) ss → AreBelow limit (names_of content)
      → Ends (written_slices t refer ss) (instance_names ss) (Later (is_end t refer ss) (before_base true (base_of t class)) ss)
      → Ends (written_slices t refer (known class content ∷ ss)) (instance_names (known class content ∷ ss)) (Slices ahead (known class content ∷ ss))
  known_step ahead class content ss text may named based known_class bases below rest =
      let s : Slice = known class content in
      let d = known_class.0 in
      let id : List ℕ = written_id t s in
      let id_is : id ≡ spelled_by d = ap row_id known_class.1 in
      let own = found class d known_class.1 in
      let tabled = is_there (each_once [] (names_of content)) in
      step_good ahead (before_base true (base_of t class)) s ss (is_there content.optional) tabled true (is_end t refer ss) (HasId t k l visit grows Ready ready) id (Some class) (KnownBody t t k l visit grows Ready ready P refer port_good class content)
      may (named id ∙ ap (class_by_id t) id_is ∙ own) based (λ form. refl) (λ form. ends_as class ss bases) (λ form. refl) (λ form b from to z. z)
      (written_head (λ form. flags_byte form (is_there content.optional) tabled true (is_end t refer ss)) id) (sized_body t refer s) (written_slices t refer ss) (names_of content) (instance_names ss)
      (head_good t k l visit grows Ready ready (λ form. flags_byte form (is_there content.optional) tabled true (is_end t refer ss)) id text)
      (known_good t t k l visit grows Ready ready P refer port_good refer_long once class content known_class below) rest

  with_id : (b c : Bool) → b ≡ true → c ≡ true → (b && c) ≡ true
  with_id b c p q = rw (p, q) refl

  bases_good : (base : Option ℕ) (ss : List Slice) → HaveTexts t ss → AreBases t (RefersUpTo t l.most k.instances) base ss → AreBelow limit (instance_names ss) → Ends (written_slices t refer ss) (instance_names ss) (Later (is_end t refer ss) (before_base true base) ss)
  bases_good None ss texts are below = subst (λ (l : List Slice). Ends (written_slices t refer l) (instance_names l) (Later (is_end t refer l) only_unknown l)) (sym are) (last_later only_unknown)
  bases_good (Some base) [] texts are below = absurd are
  bases_good (Some base) (unknown id bytes optionals table ∷ ss) texts are below = absurd are
  bases_good (Some base) (known other content ∷ ss) texts (same, known_class, more) below =
      let bases = subst (λ (c : ℕ). AreBases t (RefersUpTo t l.most k.instances) (base_of t c) ss) (sym same) more in
      known_step (derived true base) other content ss texts.0 (λ form ok. with_id (has_id form) true ok refl) (λ id. refl) (eq-eqb other base same)
      (subst (λ (c : ℕ). IsKnown t (RefersUpTo t l.most k.instances) c content) (sym same) known_class) bases (below-left limit (names_of content) (instance_names ss) below)
      (bases_good (base_of t other) ss texts.1 bases (below-right limit (names_of content) (instance_names ss) below))

  open_class : (ahead : Before) → IsOpen ahead → (id : List ℕ) → class_in t ahead id ≡ class_by_id t id
  open_class first free id = refl
  open_class only_unknown free id = refl
  open_class (derived sized base) free id = absurd free

  open_may : (ahead : Before) → IsOpen ahead → (opt tabled last : Bool) (form : IdForm) → has_id form ≡ true → may_stand ahead (flags_with opt tabled true last form) ≡ true
  open_may first free opt tabled last form ok = with_id (has_id form) true ok refl
  open_may only_unknown free opt tabled last form ok = with_id (has_id form) true ok refl
  open_may (derived sized base) free opt tabled last form ok = absurd free

  unknown_step : is_all reach ≡ true → (ahead : Before) → IsOpen ahead → (id bytes : List ℕ) (optionals : Bool) (table : List ℕ) (ss : List Slice) → IsUnknown t (RefersUpTo t l.most k.instances) id bytes table → AreBelow limit table
      → Ends (written_slices t refer ss) (instance_names ss) (Later (is_end t refer ss) only_unknown ss)
      → Ends (written_slices t refer (unknown id bytes optionals table ∷ ss)) (instance_names (unknown id bytes optionals table ∷ ss)) (Slices ahead (unknown id bytes optionals table ∷ ss))
  unknown_step all ahead free id bytes optionals table ss lacks below rest =
      let s : Slice = unknown id bytes optionals table in
      step_good ahead only_unknown s ss optionals (is_there table) true (is_end t refer ss) (HasId t k l visit grows Ready ready) id None (UnknownBody t t k l visit grows Ready ready P refer port_good id bytes optionals table)
      (open_may ahead free optionals (is_there table) (is_end t refer ss)) (open_class ahead free id ∙ lacks.0) (open_base ahead free None) (λ form. with_size (is_all reach) all) (λ form. refl) (λ form. refl) (λ form b from to z. z)
      (written_head (λ form. flags_byte form optionals (is_there table) true (is_end t refer ss)) id) (sized_body t refer s) (written_slices t refer ss) table (instance_names ss)
      (head_good t k l visit grows Ready ready (λ form. flags_byte form optionals (is_there table) true (is_end t refer ss)) id lacks.1) (unknown_good t t k l visit grows Ready ready P refer port_good refer_long once id bytes optionals table below) rest

  known_good_first : (ahead : Before) → IsOpen ahead → (class : ℕ) (content : Members) (ss : List Slice) → HaveTexts t (known class content ∷ ss) → IsInstance t (RefersUpTo t l.most k.instances) (known class content ∷ ss) → AreBelow limit (instance_names (known class content ∷ ss))
      → Ends (written_slices t refer (known class content ∷ ss)) (instance_names (known class content ∷ ss)) (Slices ahead (known class content ∷ ss))
  known_good_first ahead free class content ss texts is below =
      known_step ahead class content ss texts.0 (open_may ahead free (is_there content.optional) (is_there (each_once [] (names_of content))) (is_end t refer ss)) (open_class ahead free) (open_base ahead free (Some class)) is.0 is.1
      (below-left limit (names_of content) (instance_names ss) below) (bases_good (base_of t class) ss texts.1 is.1 (below-right limit (names_of content) (instance_names ss) below))

  slices_good : is_all reach ≡ true → (ahead : Before) → IsOpen ahead → (ss : List Slice) → HaveTexts t ss → IsInstance t (RefersUpTo t l.most k.instances) ss → AreBelow limit (instance_names ss) → Ends (written_slices t refer ss) (instance_names ss) (Slices ahead ss)
  slices_good all ahead free [] texts is below = absurd is
  slices_good all ahead free (unknown id bytes optionals table ∷ []) texts is below = unknown_step all ahead free id bytes optionals table [] is (below-left limit table [] below) (last_later only_unknown)
  slices_good all ahead free (unknown id bytes optionals table ∷ s ∷ ss) texts is below =
      unknown_step all ahead free id bytes optionals table (s ∷ ss) is.0 (below-left limit table (instance_names (s ∷ ss)) below) (slices_good all only_unknown tt (s ∷ ss) texts is.1 (below-right limit table (instance_names (s ∷ ss)) below))
  slices_good all ahead free (known class content ∷ ss) texts is below = known_good_first ahead free class content ss texts is below

  -- of known classes alone
  sized_good : (ss : List Slice) → Compact ss → HaveTexts t ss → IsInstance t (RefersUpTo t l.most k.instances) ss → AreBelow limit (instance_names ss) → Ends (written_slices t refer ss) (instance_names ss) (Slices first ss)
  sized_good [] asked texts is below = absurd asked
  sized_good (unknown id bytes optionals table ∷ ss) asked texts is below = absurd asked
  sized_good (known class content ∷ ss) asked texts is below = known_good_first first tt class content ss texts is below

  -- ---- without sizes

  bare_may : (base : ℕ) (opt last : Bool) (form : IdForm) → form ≡ no_id → may_stand (derived false base) (flags_with opt false false last form) ≡ true
  bare_may base opt last form ok = rw ok refl

  plain_bases : (base : Option ℕ) (ss : List Slice) → AreBases t (RefersUpTo t l.most k.instances) base ss → AreBelow limit (instance_names ss) → Ends (written_bases t refer ss) (instance_names ss) (Later (is_end t refer ss) (before_base false base) ss)
  plain_bases None ss are below = subst (λ (l : List Slice). Ends (written_bases t refer l) (instance_names l) (Later (is_end t refer l) only_unknown l)) (sym are) (last_later only_unknown)
  plain_bases (Some base) [] are below = absurd are
  plain_bases (Some base) (unknown id bytes optionals table ∷ ss) are below = absurd are
  plain_bases (Some base) (known other content ∷ ss) (same, known_class, more) below =
      let bases = subst (λ (c : ℕ). AreBases t (RefersUpTo t l.most k.instances) (base_of t c) ss) (sym same) more in
      step_good (derived false base) (before_base false (base_of t other)) (known other content) ss (is_there content.optional) false false (is_end t refer ss) (IsNone t k l visit grows Ready ready) [] (Some other) (PlainBody t t k l visit grows Ready ready P refer port_good other content)
      (bare_may base (is_there content.optional) (is_end t refer ss)) (ap Some (sym same)) (eq-eqb other base same) (λ form. refl) (λ form. ends_as other ss bases) (λ form. refl) (λ form b from to z. z)
      (exactly (flags_byte no_id (is_there content.optional) false false (is_end t refer ss) ∷ [])) (members_bytes t refer (known other content)) (written_bases t refer ss) (names_of content) (instance_names ss)
      (bare_good t k l visit grows Ready ready (λ form. flags_byte form (is_there content.optional) false false (is_end t refer ss)))
      (plain_body t t k l visit grows Ready ready P refer port_good other content (subst (λ (c : ℕ). IsKnown t (RefersUpTo t l.most k.instances) c content) (sym same) known_class))
      (plain_bases (base_of t other) ss bases (below-right limit (names_of content) (instance_names ss) below))

  plain_good : (ss : List Slice) → Compact ss → HaveTexts t ss → IsInstance t (RefersUpTo t l.most k.instances) ss → AreBelow limit (instance_names ss) → Ends (written_plain t refer ss) (instance_names ss) (Slices first ss)
  plain_good [] asked texts is below = absurd asked
  plain_good (unknown id bytes optionals table ∷ ss) asked texts is below = absurd asked
  plain_good (known class content ∷ ss) asked texts (known_class, bases) below =
      let s : Slice = known class content in
      let d = known_class.0 in
      let id : List ℕ = written_id t s in
      let id_is : id ≡ spelled_by d = ap row_id known_class.1 in
      let own = found class d known_class.1 in
      step_good first (before_base false (base_of t class)) s ss (is_there content.optional) false false (is_end t refer ss) (HasId t k l visit grows Ready ready) id (Some class) (PlainBody t t k l visit grows Ready ready P refer port_good class content)
      (λ form ok. with_id (has_id form) true ok refl) (ap (class_by_id t) id_is ∙ own) refl (λ form. refl) (λ form. ends_as class ss bases) (λ form. refl) (λ form b from to z. z)
      (written_head (λ form. flags_byte form (is_there content.optional) false false (is_end t refer ss)) id) (members_bytes t refer s) (written_bases t refer ss) (names_of content) (instance_names ss)
      (head_good t k l visit grows Ready ready (λ form. flags_byte form (is_there content.optional) false false (is_end t refer ss)) id texts.0)
      (plain_body t t k l visit grows Ready ready P refer port_good class content known_class) (plain_bases (base_of t class) ss bases (below-right limit (names_of content) (instance_names ss) below))

  -- in either format
  as_asked : (r : Reach) → reach ≡ r → (format : Format) (ss : List Slice) → Asked r format ss → HaveTexts t ss → IsInstance t (RefersUpTo t l.most k.instances) ss → AreBelow limit (instance_names ss) → Ends (written_as t refer format ss) (instance_names ss) (λ b from to. SpellsInstance P t reach b ss from to)
  as_asked all_slices same sliced ss asked texts is below = slices_good (ap is_all same) first tt ss texts is below
  as_asked all_slices same compact ss asked texts is below = plain_good ss asked texts is below
  as_asked known_classes same sliced ss asked texts is below = sized_good ss asked texts is below
  as_asked known_classes same compact ss asked texts is below = plain_good ss asked texts is below

  pub as_good : (format : Format) (ss : List Slice) → Asked reach format ss → HaveTexts t ss → IsInstance t (RefersUpTo t l.most k.instances) ss → AreBelow limit (instance_names ss) → Ends (written_as t refer format ss) (instance_names ss) (λ b from to. SpellsInstance P t reach b ss from to)
  as_good = as_asked reach refl
