-- What is written for the slices of an exception spells them, in both formats.
use Rattle.std.proofs.Common.{ℕ, zero, suc, ◌<◌, ◌≤◌, ◌^◌, ◌≡◌, Bool, true, false, ◌&&◌, ◌||◌, List, [], ◌∷◌, ◌++◌, length, refl, sym, ap, ◌∙◌, subst, arith, Option, Some, None}
use Rattle.std.specs.Prelude.{is_none, not}
use Rattle.std.proofs.lemmas.Bool.{eq-eqb}
use Rattle.std.proofs.lemmas.List.{length-append}
use Rattle.ice_types.specs.Tables.{Tables}
use Rattle.ice_types.specs.CompactIds.{is_numbered}
use Rattle.graph_laws.proofs.ClassIds.{IsText, plain_named}
use Rattle.ice_prims.specs.Bytes.{size_bytes, text_bytes}
use Rattle.ice_encoding.specs.Port.{Port}
use Rattle.ice_encoding.specs.Writing.{Piece, exactly, ◌>>◌}
use Rattle.ice_encoding.specs.OptionalMembers.{Members}
use Rattle.ice_encoding.specs.Classes.{class_named, base_of}
use Rattle.ice_encoding.specs.Exceptions.{of_exceptions, may_be_raised, may_be_last, is_known_last, BehindUserException, UserExceptionSlices}
use Rattle.ice_encoding.specs.Graph.{Slice, known, unknown, Graph}
use Rattle.ice_encoding.specs.Names.{names_of, instance_names}
use Rattle.ice_encoding.specs.References.{State}
use Rattle.ice_encoding.specs.Flags.{no_id, Flags, Reach, all_slices, known_classes, is_all, Before, first, only_unknown, derived, SpellsFlags}
use Rattle.ice_encoding.specs.TypeIds.{SpellsTypeId, is_base, can_be_read, before_base, before_next}
use Rattle.ice_encoding.specs.Slices.{SpellsBody, FromId}
use Rattle.ice_encoding.specs.Visiting.{visit_each}
use Rattle.ice_encoding.specs.TypedGraph.{IsKnown, AreBases, IsUnknown, IsInstance, RefersUpTo}
use Rattle.ice_encoding.specs.CanonicalGraph.{Pen, is_there, each_once, flags_byte, id_in, id_of, sized_body, members_bytes, Format, sliced, compact, Compact}
use Rattle.graph_arena.specs.Arena.{AreBelow}
use Rattle.graph_arena.proofs.Agreeing.{below-left, below-right}
use Rattle.graph_laws.proofs.TypeIds.{Spelled, HaveTypeTexts, text_spelled}
use Rattle.graph_laws.proofs.Named.{AreNamed}
use Rattle.graph_laws.proofs.Formed.{Asked}
use Rattle.graph_laws.proofs.FlagBytes.{flags_back, flags_small}
use Rattle.graph_laws.proofs.Upto.{upto, Grows}
use Rattle.graph_laws.proofs.WrittenValues.{Relation, Chain, Limits, ReferGood}
use Rattle.graph_laws.proofs.WrittenBodies.{IsOpen, open_base, with_size, KnownBody, UnknownBody, PlainBody, known_good, unknown_good, plain_body}
use Rattle.graph_laws.proofs.InlineRules.{Good, inline_rules, exact_good, joined_good, mapped_good}
use Rattle.ice_encoding.specs.UserExceptionWritten.{user_exception_head, user_exception_slices, user_exception_plain, user_exception_as}

module _ (t : Tables) (found : AreNamed (of_exceptions t)) (reach : Reach) (k : Graph) (l : Limits) (visit : ℕ → List ℕ → List ℕ) (grows : Grows visit) (Ready : ℕ → Type 0) (ready : (i j : ℕ) → Ready i → i ≤ j → Ready j) (P : Port (State ℕ) (State (Unit {0}))) (refer : Option ℕ → Piece Pen)
    (port_good : ReferGood (inline_rules t k l visit grows Ready ready) t P refer (RefersUpTo t l.most k.instances)) (refer_long : (n : ℕ) (p : Pen) → 1 ≤ length (refer (Some n) p).0)
    (once : (ns : List ℕ) (i j : ℕ) → Ready i → AreBelow (length k.instances) ns → visit_each visit ns (upto i) ≡ upto j → visit_each visit (each_once [] ns) (upto i) ≡ upto j) where
  abbrev u : Tables
  u = of_exceptions t

  abbrev limit : ℕ
  limit = length k.instances

  abbrev Ends : Piece Pen → List ℕ → Relation Spelled → Type 0
  Ends = Good t k l visit grows Ready ready

  abbrev exact : (bytes : List ℕ) (R : Relation Spelled) → ((s : Spelled) → R bytes s s) → Ends (exactly bytes) [] R
  exact = λ bytes R h. exact_good t k l visit grows Ready ready bytes R (λ small. h)

  abbrev joined : (w w' : Piece Pen) (a b : List ℕ) (R R' : Relation Spelled) → Ends w a R → Ends w' b R' → Ends (w >> w') (a ++ b) (Chain R R')
  joined = joined_good t k l visit grows Ready ready

  abbrev mapped : (w : Piece Pen) (ns : List ℕ) (R R' : Relation Spelled) → ((bytes : List ℕ) (from to : Spelled) → R bytes from to → R' bytes from to) → Ends w ns R → Ends w ns R'
  mapped = mapped_good t k l visit grows Ready ready

  -- ---- one slice, and those behind it

  -- no bits of a type id
  abbrev flags_with : Bool → Bool → Bool → Bool → Flags
  flags_with opt tabled sized last = record { id = no_id; has_optional = opt; has_table = tabled; has_size = sized; is_last = last }

  abbrev Slices : Before → List Slice → Relation Spelled
  Slices ahead ss b from to = (n : ℕ) × UserExceptionSlices P u reach n ahead b ss from to

  abbrev Later : Before → Bool → Option ℕ → List Slice → Relation Spelled
  Later ahead last class ss b from to = (n : ℕ) × BehindUserException (UserExceptionSlices P u reach n ahead) last class b ss from to

  -- the flags, and a text that is not counted
  abbrev Head : ℕ → List ℕ → Relation Spelled
  Head flag id b from to = (id_bytes : List ℕ) × (b ≡ flag ∷ id_bytes) × SpellsTypeId id_bytes id × (to ≡ from)

  head_good : (flag : ℕ) (id : List ℕ) → IsText id → Ends (exactly (flag ∷ text_bytes id)) [] (Head flag id)
  head_good flag id utf8 from p j stands is_ready run small =
      let lt : length id < 2 ^ 31 = omega (arith, l.bounded, small, length-append (size_bytes (length id)) id) in
      exact (flag ∷ text_bytes id) (Head flag id) (λ s. (text_bytes id, refl, (text_spelled id s utf8 lt).0, refl)) from p j stands is_ready run small

  module _ (ahead next : Before) (s : Slice) (ss : List Slice) (opt tabled sized last : Bool) (id : List ℕ) (class : Option ℕ) (Body : Relation Spelled) (utf8 : IsText id)
      (may : may_be_raised ahead (flags_with opt tabled sized last) ≡ true) (class_is : class_named u id ≡ class) (based : is_base ahead class ≡ true)
      (readable : can_be_read reach class (flags_with opt tabled sized last) ≡ true) (ends : may_be_last u class (flags_with opt tabled sized last) ≡ true)
      (next_is : before_next u class (flags_with opt tabled sized last) ≡ next)
      (body_is : (b : List ℕ) (from to : Spelled) → Body b from to → SpellsBody P u (flags_with opt tabled sized last) id sized class b s from to) where
    abbrev f : Flags
    f = flags_with opt tabled sized last

    abbrev flag : ℕ
    flag = flags_byte no_id opt tabled sized last

    flags_spelled : SpellsFlags (may_be_raised ahead) (flag ∷ []) f
    flags_spelled = (flag, refl, sym (flags_back no_id opt tabled sized last), (λ i. flags_small no_id opt tabled sized last i && may i))

    one_is : (b : List ℕ) (from to : Spelled) → Chain (Head flag id) (Chain Body (Later next (is_known_last u class f) class ss)) b from to → Slices ahead (s ∷ ss) b from to
    one_is b from to (head, rest, mid, cut, (id_bytes, head_is, is_id, still), (body, others, then, parts, is_body, (n, more))) =
        let bytes : b ≡ flag ∷ (id_bytes ++ (body ++ others)) = cut ∙ ap (λ (l : List ℕ). l ++ rest) head_is ∙ ap (λ (l : List ℕ). flag ∷ (id_bytes ++ l)) parts in
        let behind_is : BehindUserException (UserExceptionSlices P u reach n (before_next u class f)) (is_known_last u class f) class others ss then to =
        subst (λ (x : Before). BehindUserException (UserExceptionSlices P u reach n x) (is_known_last u class f) class others ss then to) (sym next_is) more in
        let from_id : FromId P u reach (BehindUserException (UserExceptionSlices P u reach n (before_next u class f)) (is_known_last u class f) class) (may_be_last u class f) ahead f id class (body ++ others) (s ∷ ss) mid to =
        (based, (readable, (ends, (s, body, others, then, refl, body_is body mid then is_body, (ss, refl, behind_is))))) in (
          suc n,
          (
            f,
            flag ∷ [],
            id_bytes ++ (body ++ others),
            from,
            bytes,
            (flags_spelled, refl),
            (
              id,
              id_bytes,
              body ++ others,
              mid,
              refl,
              (is_id, still),
              subst (λ (c : Option ℕ). FromId P u reach (BehindUserException (UserExceptionSlices P u reach n (before_next u c f)) (is_known_last u c f) c) (may_be_last u c f) ahead f id c (body ++ others) (s ∷ ss) mid to) (sym class_is) from_id,
            ),
          ),
        )

    step_good : (wbody wrest : Piece Pen) (a b : List ℕ) → Ends wbody a Body → Ends wrest b (Later next (is_known_last u class f) class ss) → Ends (exactly (flag ∷ text_bytes id) >> (wbody >> wrest)) (a ++ b) (Slices ahead (s ∷ ss))
    step_good wbody wrest a b one two =
        mapped (exactly (flag ∷ text_bytes id) >> (wbody >> wrest)) (a ++ b) (Chain (Head flag id) (Chain Body (Later next (is_known_last u class f) class ss))) (Slices ahead (s ∷ ss)) one_is
        (joined (exactly (flag ∷ text_bytes id)) (wbody >> wrest) [] (a ++ b) (Head flag id) (Chain Body (Later next (is_known_last u class f) class ss)) (head_good flag id utf8)
        (joined wbody wrest a b Body (Later next (is_known_last u class f) class ss) one two))

  -- ---- the last slice

  last_is : (base : Option ℕ) (ss : List Slice) → AreBases u (RefersUpTo t l.most k.instances) base ss → not (is_there ss) ≡ is_none base
  last_is None ss are = ap (λ (l : List Slice). not (is_there l)) are
  last_is (Some class) [] are = absurd are
  last_is (Some class) (s ∷ ss) are = refl

  not_or : (b : Bool) → (not b || b) ≡ true
  not_or true = refl
  not_or false = refl

  ends_as : (class : ℕ) (ss : List Slice) → AreBases u (RefersUpTo t l.most k.instances) (base_of u class) ss → (not (not (is_there ss)) || is_none (base_of u class)) ≡ true
  ends_as class ss are = ap (λ (b : Bool). not b || is_none (base_of u class)) (last_is (base_of u class) ss are) ∙ not_or (is_none (base_of u class))

  -- ---- of an exception of the tables

  known_step : (ahead : Before) (class : ℕ) (content : Members) (ss : List Slice) (tabled sized : Bool) (Body : Relation Spelled) (wbody wrest : Piece Pen) → IsText (id_of u (known class content))
      → may_be_raised ahead (flags_with (is_there content.optional) tabled sized (not (is_there ss))) ≡ true → is_base ahead (Some class) ≡ true
      → ((b : List ℕ) (from to : Spelled) → Body b from to → SpellsBody P u (flags_with (is_there content.optional) tabled sized (not (is_there ss))) (id_of u (known class content)) sized (Some class) b (known class content) from to)
      → IsKnown u (RefersUpTo t l.most k.instances) class content → AreBases u (RefersUpTo t l.most k.instances) (base_of u class) ss
      → Ends wbody (names_of content) Body → Ends wrest (instance_names ss) (Later (before_base sized (base_of u class)) (is_none (base_of u class)) (Some class) ss)
      → Ends (user_exception_head t refer tabled sized (not (is_there ss)) (known class content) >> (wbody >> wrest)) (instance_names (known class content ∷ ss)) (Slices ahead (known class content ∷ ss))
  known_step ahead class content ss tabled sized Body wbody wrest text may based body_is known_class bases one two =
      let s : Slice = known class content in
      let d = known_class.0 in
      let id : List ℕ = id_of u s in
      let id_is : id ≡ d.id = ap id_in known_class.1 in
      step_good ahead (before_base sized (base_of u class)) s ss (is_there content.optional) tabled sized (not (is_there ss)) id (Some class) Body text
      may (ap (class_named u) id_is ∙ found class d known_class.1) based refl (ends_as class ss bases) refl body_is wbody wrest (names_of content) (instance_names ss) one two

  none_later : (next : Before) (class : ℕ) → Ends (exactly []) [] (Later next true (Some class) [])
  none_later next class = exact [] (Later next true (Some class) []) (λ s. (0, (refl, refl, refl)))

  -- with sizes
  sized_bases : (base : Option ℕ) (class : ℕ) (ss : List Slice) → HaveTypeTexts u ss → AreBases u (RefersUpTo t l.most k.instances) base ss → AreBelow limit (instance_names ss) → Ends (user_exception_slices t refer ss) (instance_names ss) (Later (before_base true base) (is_none base) (Some class) ss)
  sized_bases None class ss texts are below = subst (λ (l : List Slice). Ends (user_exception_slices t refer l) (instance_names l) (Later only_unknown true (Some class) l)) (sym are) (none_later only_unknown class)
  sized_bases (Some base) class [] texts are below = absurd are
  sized_bases (Some base) class (unknown id bytes optionals table ∷ ss) texts are below = absurd are
  sized_bases (Some base) class (known other content ∷ ss) texts (same, known_class, more) below =
      let bases = subst (λ (c : ℕ). AreBases u (RefersUpTo t l.most k.instances) (base_of u c) ss) (sym same) more in
      let k_other = subst (λ (c : ℕ). IsKnown u (RefersUpTo t l.most k.instances) c content) (sym same) known_class in
      known_step (derived true base) other content ss (is_there (each_once [] (names_of content))) true (KnownBody u t k l visit grows Ready ready P refer port_good other content) (sized_body u refer (known other content)) (user_exception_slices t refer ss) texts.0
      refl (eq-eqb other base same) (λ b from to z. z) k_other bases (known_good u t k l visit grows Ready ready P refer port_good refer_long once other content k_other (below-left limit (names_of content) (instance_names ss) below))
      (sized_bases (base_of u other) other ss texts.1 bases (below-right limit (names_of content) (instance_names ss) below))

  -- without
  plain_bases : (base : Option ℕ) (class : ℕ) (ss : List Slice) → HaveTypeTexts u ss → AreBases u (RefersUpTo t l.most k.instances) base ss → AreBelow limit (instance_names ss) → Ends (user_exception_plain t refer ss) (instance_names ss) (Later (before_base false base) (is_none base) (Some class) ss)
  plain_bases None class ss texts are below = subst (λ (l : List Slice). Ends (user_exception_plain t refer l) (instance_names l) (Later only_unknown true (Some class) l)) (sym are) (none_later only_unknown class)
  plain_bases (Some base) class [] texts are below = absurd are
  plain_bases (Some base) class (unknown id bytes optionals table ∷ ss) texts are below = absurd are
  plain_bases (Some base) class (known other content ∷ ss) texts (same, known_class, more) below =
      let bases = subst (λ (c : ℕ). AreBases u (RefersUpTo t l.most k.instances) (base_of u c) ss) (sym same) more in
      let k_other = subst (λ (c : ℕ). IsKnown u (RefersUpTo t l.most k.instances) c content) (sym same) known_class in
      known_step (derived false base) other content ss false false (PlainBody u t k l visit grows Ready ready P refer port_good other content) (members_bytes u refer (known other content)) (user_exception_plain t refer ss) texts.0
      refl (eq-eqb other base same) (λ b from to z. z) k_other bases (plain_body u t k l visit grows Ready ready P refer port_good other content k_other)
      (plain_bases (base_of u other) other ss texts.1 bases (below-right limit (names_of content) (instance_names ss) below))

  -- ---- unknown slices, and the first of the tables

  open_may : (ahead : Before) → IsOpen ahead → (opt tabled last : Bool) → may_be_raised ahead (flags_with opt tabled true last) ≡ true
  open_may first free opt tabled last = refl
  open_may only_unknown free opt tabled last = refl
  open_may (derived sized base) free opt tabled last = absurd free

  -- some bytes are written for slices
  not_empty : (n : ℕ) (ahead : Before) (ss : List Slice) (bytes : List ℕ) (from to : Spelled) → UserExceptionSlices P u reach n ahead bytes ss from to → bytes ≡ [] → ⊥
  not_empty zero ahead ss bytes from to h e = h
  not_empty (suc n) ahead ss bytes from to (f, a, b, mid, parts, flags, rest) e =
      let one : length a ≡ 1 = ap length flags.0.1 in omega (arith, ap length parts, length-append a b, ap length e, one)

  unknown_step : is_all reach ≡ true → (ahead : Before) → IsOpen ahead → (id bytes : List ℕ) (optionals : Bool) (table : List ℕ) (ss : List Slice) → is_numbered id ≡ false → IsUnknown u (RefersUpTo t l.most k.instances) id bytes table → AreBelow limit table
      → Ends (user_exception_slices t refer ss) (instance_names ss) (Later only_unknown (not (is_there ss)) None ss)
      → Ends (user_exception_slices t refer (unknown id bytes optionals table ∷ ss)) (instance_names (unknown id bytes optionals table ∷ ss)) (Slices ahead (unknown id bytes optionals table ∷ ss))
  unknown_step all ahead free id bytes optionals table ss plain lacks below rest =
      step_good ahead only_unknown (unknown id bytes optionals table) ss optionals (is_there table) true (not (is_there ss)) id None (UnknownBody u t k l visit grows Ready ready P refer port_good id bytes optionals table) (lacks.1.0, plain)
      (open_may ahead free optionals (is_there table) (not (is_there ss))) (sym (plain_named u id plain) ∙ lacks.0) (open_base ahead free None) (with_size (is_all reach) all) refl refl (λ b from to z. z)
      (sized_body u refer (unknown id bytes optionals table)) (user_exception_slices t refer ss) table (instance_names ss) (unknown_good u t k l visit grows Ready ready P refer port_good refer_long once id bytes optionals table below) rest

  known_first : (ahead : Before) → IsOpen ahead → (class : ℕ) (content : Members) (ss : List Slice) → HaveTypeTexts u (known class content ∷ ss) → IsInstance u (RefersUpTo t l.most k.instances) (known class content ∷ ss) → AreBelow limit (instance_names (known class content ∷ ss))
      → Ends (user_exception_slices t refer (known class content ∷ ss)) (instance_names (known class content ∷ ss)) (Slices ahead (known class content ∷ ss))
  known_first ahead free class content ss texts (known_class, bases) below =
      known_step ahead class content ss (is_there (each_once [] (names_of content))) true (KnownBody u t k l visit grows Ready ready P refer port_good class content) (sized_body u refer (known class content)) (user_exception_slices t refer ss) texts.0
      (open_may ahead free (is_there content.optional) (is_there (each_once [] (names_of content))) (not (is_there ss))) (open_base ahead free (Some class)) (λ b from to z. z) known_class bases
      (known_good u t k l visit grows Ready ready P refer port_good refer_long once class content known_class (below-left limit (names_of content) (instance_names ss) below))
      (sized_bases (base_of u class) class ss texts.1 bases (below-right limit (names_of content) (instance_names ss) below))

  slices_good : is_all reach ≡ true → (ahead : Before) → IsOpen ahead → (ss : List Slice) → HaveTypeTexts u ss → IsInstance u (RefersUpTo t l.most k.instances) ss → AreBelow limit (instance_names ss) → Ends (user_exception_slices t refer ss) (instance_names ss) (Slices ahead ss)
  slices_good all ahead free [] texts is below = absurd is
  slices_good all ahead free (unknown id bytes optionals table ∷ []) texts is below =
      unknown_step all ahead free id bytes optionals table [] texts.0 is (below-left limit table [] below) (exact [] (Later only_unknown true None []) (λ s. (0, (refl, refl, refl))))
  slices_good all ahead free (unknown id bytes optionals table ∷ s ∷ ss) texts is below =
      unknown_step all ahead free id bytes optionals table (s ∷ ss) texts.0 is.0 (below-left limit table (instance_names (s ∷ ss)) below)
      (mapped (user_exception_slices t refer (s ∷ ss)) (instance_names (s ∷ ss)) (Slices only_unknown (s ∷ ss)) (Later only_unknown false None (s ∷ ss))
      (λ b from to z. (z.0, ((λ e. absurd (not_empty z.0 only_unknown (s ∷ ss) b from to z.1 e)), λ some. z.1)))
      (slices_good all only_unknown tt (s ∷ ss) texts.1 is.1 (below-right limit table (instance_names (s ∷ ss)) below)))
  slices_good all ahead free (known class content ∷ ss) texts is below = known_first ahead free class content ss texts is below

  sized_good : (ss : List Slice) → Compact ss → HaveTypeTexts u ss → IsInstance u (RefersUpTo t l.most k.instances) ss → AreBelow limit (instance_names ss) → Ends (user_exception_slices t refer ss) (instance_names ss) (Slices first ss)
  sized_good [] asked texts is below = absurd asked
  sized_good (unknown id bytes optionals table ∷ ss) asked texts is below = absurd asked
  sized_good (known class content ∷ ss) asked texts is below = known_first first tt class content ss texts is below

  plain_good : (ss : List Slice) → Compact ss → HaveTypeTexts u ss → IsInstance u (RefersUpTo t l.most k.instances) ss → AreBelow limit (instance_names ss) → Ends (user_exception_plain t refer ss) (instance_names ss) (Slices first ss)
  plain_good [] asked texts is below = absurd asked
  plain_good (unknown id bytes optionals table ∷ ss) asked texts is below = absurd asked
  plain_good (known class content ∷ ss) asked texts (known_class, bases) below =
      known_step first class content ss false false (PlainBody u t k l visit grows Ready ready P refer port_good class content) (members_bytes u refer (known class content)) (user_exception_plain t refer ss) texts.0
      refl refl (λ b from to z. z) known_class bases (plain_body u t k l visit grows Ready ready P refer port_good class content known_class)
      (plain_bases (base_of u class) class ss texts.1 bases (below-right limit (names_of content) (instance_names ss) below))

  -- in either format
  as_asked : (r : Reach) → reach ≡ r → (format : Format) (ss : List Slice) → Asked r format ss → HaveTypeTexts u ss → IsInstance u (RefersUpTo t l.most k.instances) ss → AreBelow limit (instance_names ss) → Ends (user_exception_as t refer format ss) (instance_names ss) (Slices first ss)
  as_asked all_slices same sliced ss asked texts is below = slices_good (ap is_all same) first tt ss texts is below
  as_asked all_slices same compact ss asked texts is below = plain_good ss asked texts is below
  as_asked known_classes same sliced ss asked texts is below = sized_good ss asked texts is below
  as_asked known_classes same compact ss asked texts is below = plain_good ss asked texts is below

  pub user_exception_good : (format : Format) (ss : List Slice) → Asked reach format ss → HaveTypeTexts u ss → IsInstance u (RefersUpTo t l.most k.instances) ss → AreBelow limit (instance_names ss)
      → Good t k l visit grows Ready ready (user_exception_as t refer format ss) (instance_names ss) (λ b from to. (n : ℕ) × UserExceptionSlices P u reach n first b ss from to)
  user_exception_good = as_asked reach refl
