-- The search: what is met is reached, and in the end what is reached is met.
use Rattle.std.proofs.Common.{ℕ, ◌+◌, ◌<◌, ◌≤◌, ◌≡◌, ◌⊎◌, Bool, true, false, List, [], ◌∷◌, ◌++◌, length, replicate, get_or, Option, None, Some, Vec, refl, sym, ◌∙◌, ap, subst, inl, inr, arith}
use Rattle.std.specs.Prelude.{Contains, slice_get, option_and_then, unwrap_or}
use Rattle.std.proofs.lemmas.Bool.{cases_lt}
use Rattle.std.specs.declared.alloc.Global.{Global}
use Rattle.std.proofs.lemmas.List.{length-append, length-replicate, get_or-replicate}
use Rattle.std.proofs.lemmas.List.Elements.{Contains-push, Contains-push_cases, Contains-append_left}
use Rattle.std.proofs.lemmas.Option.{slice_get_within, slice_get_past, slice_get-get_or, option_and_then_some, unwrap_or-slice_get}
use Rattle.ice_types.specs.declared.kind.TypeRef.{TypeRef}
use Rattle.ice_types.specs.declared.kind.TypeRef.TheVariants as kinds
use Rattle.ice_types.specs.declared.declarations.ClassDecl.{ClassDecl}
use Rattle.ice_types.specs.Tables.{Tables, is_defined}
use Rattle.ice_types.specs.Rules.{IsSchema}
use Rattle.ice_types.specs.Inherited.{IsA, Here, Onward}
use Rattle.ice_types.proofs.BaseChains.{flag_within}
use Rattle.slice_compat.specs.declared.marks.Marks.{Marks}
use Rattle.slice_compat.specs.declared.node.Node.{Node}
use Rattle.slice_compat.specs.declared.node.Node.TheVariants as nodes
use Rattle.slice_compat.specs.Nodes.{node_of, IsNodeOf, Steps}
use Rattle.slice_compat.specs.Marks.{table_of, place_in, is_met, is_done, is_set, left, NothingMet, Spreads, Stands, IsUnderWay, AreReached}
use Rattle.slice_compat.specs.Reached.{MayName, Names, AtPlace, InElement, InValue, InMember, IsReached, AtOnce, Through}
use Rattle.slice_compat.proofs.Reaching.{base_within, base_reached, child_names, reached_within}
use Rattle.slice_compat.proofs.Spreading.{either, flags_stay}

-- ---- flags that are all clear

none_defined : (count at : ℕ) → is_defined (replicate count false) at ≡ true → ⊥
none_defined count at e = either (cases_lt at count)
    (λ lt. let is : is_defined (replicate count false) at ≡ false = unwrap_or-slice_get (replicate count false) at false ∙ get_or-replicate count at false false lt in absurd cc)
    (λ past. let is : is_defined (replicate count false) at ≡ false = ap (λ (o : Option Bool). unwrap_or o false) (slice_get_past (replicate count false) at (omega (arith, past, length-replicate count false))) in absurd cc)

done_past : (count at : ℕ) → is_set (replicate count false) at ≡ true → count ≤ at
done_past count at e = either (cases_lt at count)
    (λ lt. let is : is_set (replicate count false) at ≡ false = unwrap_or-slice_get (replicate count false) at true ∙ get_or-replicate count at false true lt in absurd cc)
    (λ past. past)

past_set : (flags : List Bool) (at : ℕ) → length flags ≤ at → is_set flags at ≡ true
past_set flags at le = ap (λ (o : Option Bool). unwrap_or o true) (slice_get_past flags at le)

-- inside the table a flag is there
set_inside : (flags : List Bool) (at : ℕ) → at < length flags → is_set flags at ≡ true → is_defined flags at ≡ true
set_inside flags at lt e =
    let there = slice_get-get_or flags at true lt in
    let on : get_or flags at true ≡ true = sym (unwrap_or-slice_get flags at true) ∙ e in
    ap (λ (o : Option Bool). unwrap_or o false) there ∙ on

module _ (t : Tables) (rules : IsSchema t) (root : TypeRef) where
  -- ---- what is met is reached

  kind_stands : (kind : TypeRef) (n : Node) → node_of kind ≡ Some n → ((class : ℕ) → Names t class kind → IsReached t root class) → Stands t root n
  kind_stands kinds.Bool n e st = absurd cc
  kind_stands kinds.Byte n e st = absurd cc
  kind_stands kinds.Short n e st = absurd cc
  kind_stands kinds.Int n e st = absurd cc
  kind_stands kinds.Long n e st = absurd cc
  kind_stands kinds.Text n e st = absurd cc
  kind_stands (kinds.Enum at) n e st = absurd cc
  kind_stands (kinds.Proxy at) n e st = absurd cc
  kind_stands (kinds.Seq at) n e st = let is : nodes.Seq at ≡ n = cc in subst (λ (k : Node). Stands t root k) is st
  kind_stands (kinds.Dict at) n e st = let is : nodes.Dict at ≡ n = cc in subst (λ (k : Node). Stands t root k) is st
  kind_stands (kinds.Struct at) n e st = let is : nodes.Struct at ≡ n = cc in subst (λ (k : Node). Stands t root k) is st
  kind_stands (kinds.Class None) n e st = let is : nodes.Anywhere ≡ n = cc in subst (λ (k : Node). Stands t root k) is (λ class lt. st class (AtPlace None (lt, tt)))
  kind_stands (kinds.Class (Some declared)) n e st = let is : nodes.Place declared ≡ n = cc in subst (λ (k : Node). Stands t root k) is st

  as_node : (n k : Node) → n ≡ k → Stands t root k → Stands t root n
  as_node n k e h = subst (λ (x : Node). Stands t root x) (sym e) h

  step_stands : (node n : Node) → Stands t root node → Steps t node n → Stands t root n
  step_stands (nodes.Seq at) n st (q, row, is) = kind_stands q.element n is (λ class names. st class (InElement at q row names))
  step_stands (nodes.Dict at) n st (d, row, is) = kind_stands d.value n is (λ class names. st class (InValue at d row names))
  step_stands (nodes.Struct at) n st (d, row, (place, m, there, is)) = kind_stands m.kind n is (λ class names. st class (InMember at d place m row there names))
  step_stands (nodes.Place at) n st (inl is) = as_node n (nodes.Class at) is (λ lt. st at (AtPlace (Some at) (lt, inl (Here at))))
  step_stands (nodes.Place at) n st (inr (class, base, is)) = as_node n (nodes.Place class) is (λ other names. st other (child_names t at class other base names))
  step_stands nodes.Anywhere n st (class, lt, is) = as_node n (nodes.Class class) is (λ within. st class lt)
  step_stands (nodes.Class at) n st (d, row, inl (base, own, is)) = as_node n (nodes.Class base) is (λ within.
      base_reached t rules at base (ap (option_and_then (λ (c : ClassDecl). c.base)) row ∙ own) root (st (slice_get_within t.classes at d row)))
  step_stands (nodes.Class at) n st (d, row, inr (place, m, there, is)) =
      kind_stands m.kind n is (λ class names. Through at class (st (slice_get_within t.classes at d row)) (d, place, m, row, there, names))

  -- ---- where it begins

  none_in : (n : Node) → Contains [] n → ⊥
  none_in n h = omega (arith, h.1)

  module _ (fresh : Marks) (none : NothingMet t fresh) where
    none_met : (n : Node) → is_met fresh n ≡ true → ⊥
    none_met (nodes.Seq at) e = none_defined (length t.seqs) at (ap (λ (l : List Bool). is_defined l at) (sym none.seqs) ∙ e)
    none_met (nodes.Dict at) e = none_defined (length t.dicts) at (ap (λ (l : List Bool). is_defined l at) (sym none.dicts) ∙ e)
    none_met (nodes.Struct at) e = none_defined (length t.structs) at (ap (λ (l : List Bool). is_defined l at) (sym none.structs) ∙ e)
    none_met (nodes.Place at) e = none_defined (length t.classes) at (ap (λ (l : List Bool). is_defined l at) (sym none.places) ∙ e)
    none_met nodes.Anywhere e = let off : fresh.anywhere ≡ false = none.anywhere in let on : fresh.anywhere ≡ true = e in cc
    none_met (nodes.Class at) e = none_defined (length t.classes) at (ap (λ (l : List Bool). is_defined l at) (sym none.classes) ∙ e)

    -- where there is no row, nothing follows that has one
    none_follows : (n next : Node) → is_done fresh n ≡ true → Steps t n next → is_done fresh next ≡ true
    none_follows (nodes.Seq at) next e (q, row, is) =
        absurd (omega (arith, slice_get_within t.seqs at q row, done_past (length t.seqs) at (ap (λ (l : List Bool). is_set l at) (sym none.seqs) ∙ e)))
    none_follows (nodes.Dict at) next e (d, row, is) =
        absurd (omega (arith, slice_get_within t.dicts at d row, done_past (length t.dicts) at (ap (λ (l : List Bool). is_set l at) (sym none.dicts) ∙ e)))
    none_follows (nodes.Struct at) next e (d, row, among) =
        absurd (omega (arith, slice_get_within t.structs at d row, done_past (length t.structs) at (ap (λ (l : List Bool). is_set l at) (sym none.structs) ∙ e)))
    none_follows (nodes.Place at) next e (inl is) =
        let past = done_past (length t.classes) at (ap (λ (l : List Bool). is_set l at) (sym none.places) ∙ e) in
        subst (λ (k : Node). is_done fresh k ≡ true) (sym is)
        (past_set fresh.classes.items at (omega (arith, past, ap length none.classes, length-replicate (length t.classes) false)))
    none_follows (nodes.Place at) next e (inr (class, base, is)) =
        absurd (omega (arith, base_within t rules class at base, done_past (length t.classes) at (ap (λ (l : List Bool). is_set l at) (sym none.places) ∙ e)))
    none_follows nodes.Anywhere next e h = let off : fresh.anywhere ≡ false = none.anywhere in let on : fresh.anywhere ≡ true = e in absurd cc
    none_follows (nodes.Class at) next e (d, row, h) =
        absurd (omega (arith, slice_get_within t.classes at d row, done_past (length t.classes) at (ap (λ (l : List Bool). is_set l at) (sym none.classes) ∙ e)))

    pub begins : (now : Marks) → Spreads (IsNodeOf root) fresh now → IsUnderWay t root now
    begins now s = record {
      rows = s.rows ∙ ap length none.classes ∙ length-replicate (length t.classes) false;
      start = λ n is. s.each n is;
      closed = λ n next e steps. either (s.fresh n e) (λ d. inl (s.kept_done next (none_follows n next d steps))) (λ w. inr w);
      sound = λ n e. either (s.only n e) (λ m. absurd (none_met n m)) (λ is. kind_stands root n is (λ class names. AtOnce class names));
      waiting = λ n h. either (s.added n h) (λ w. absurd (none_in n (subst (λ (ns : List Node). Contains ns n) none.pending w))) (λ m. m);
    }

  -- ---- one node further

  module _ (node : Node) (before popped now : Marks) (way : IsUnderWay t root before) (taken : before.pending.items ≡ popped.pending.items ++ node ∷ [])
      (same : (n : Node) → table_of popped n ≡ table_of before n) (s : Spreads (Steps t node) popped now) where
    done_before : (n : Node) → is_done popped n ≡ true → is_done before n ≡ true
    done_before n e = ap (λ (l : List Bool). is_set l (place_in n)) (sym (same n)) ∙ e

    done_now : (n : Node) → is_done before n ≡ true → is_done now n ≡ true
    done_now n e = s.kept_done n (ap (λ (l : List Bool). is_set l (place_in n)) (same n) ∙ e)

    met_before : (n : Node) → is_met popped n ≡ true → is_met before n ≡ true
    met_before n e = ap (λ (l : List Bool). is_defined l (place_in n)) (sym (same n)) ∙ e

    met_now : (n : Node) → is_met before n ≡ true → is_met now n ≡ true
    met_now n e = s.kept_met n (ap (λ (l : List Bool). is_defined l (place_in n)) (same n) ∙ e)

    node_met : is_met before node ≡ true
    node_met = way.waiting node (subst (λ (ns : List Node). Contains ns node) (sym taken) (Contains-push popped.pending.items node))

    still_waits : (n next : Node) → Steps t n next → Contains before.pending.items n → (is_done now next ≡ true) ⊎ Contains now.pending.items n
    still_waits n next steps w = either (Contains-push_cases popped.pending.items node n (subst (λ (ns : List Node). Contains ns n) taken w))
        (λ in_popped. inr (s.waiting n in_popped))
        (λ is. inl (s.each next (subst (λ (k : Node). Steps t k next) (sym is) steps)))

    follows : (n next : Node) → is_done now n ≡ true → Steps t n next → (is_done now next ≡ true) ⊎ Contains now.pending.items n
    follows n next e steps = either (s.fresh n e)
        (λ d. either (way.closed n next (done_before n d) steps) (λ f. inl (done_now next f)) (λ w. still_waits n next steps w))
        (λ w. inr w)

    pub goes_on : (popped_rows : length popped.classes.items ≡ length before.classes.items) → IsUnderWay t root now
    goes_on popped_rows = record {
      rows = s.rows ∙ popped_rows ∙ way.rows;
      start = λ n is. done_now n (way.start n is);
      closed = follows;
      sound = λ n e. either (s.only n e) (λ m. way.sound n (met_before n m)) (λ steps. step_stands node n (way.sound node node_met) steps);
      waiting = λ n h. either (s.added n h)
          (λ w. met_now n (way.waiting n (subst (λ (ns : List Node). Contains ns n) (sym taken) (Contains-append_left popped.pending.items (node ∷ []) n w))))
          (λ m. m);
    }

  -- ---- where it ends

  module _ (m : Marks) (way : IsUnderWay t root m) (over : m.pending.items ≡ []) where
    next_done : (n next : Node) → is_done m n ≡ true → Steps t n next → is_done m next ≡ true
    next_done n next e steps = either (way.closed n next e steps) (λ d. d) (λ w. absurd (none_in n (subst (λ (ns : List Node). Contains ns n) over w)))

    down : (class declared : ℕ) → IsA t.classes class declared → is_done m (nodes.Place declared) ≡ true → is_done m (nodes.Place class) ≡ true
    down class declared (Here _) e = e
    down class declared (Onward _ next _ base rest) e = next_done (nodes.Place next) (nodes.Place class) (down next declared rest e) (inr (class, base, refl))

    up : (class other : ℕ) → IsA t.classes class other → is_done m (nodes.Class class) ≡ true → is_done m (nodes.Class other) ≡ true
    up class other (Here _) e = e
    up class other (Onward _ next _ base rest) e =
        up next other rest (option_and_then_some (λ (c : ClassDecl). c.base) (slice_get t.classes class) next base
        (λ d row own. next_done (nodes.Class class) (nodes.Class next) e (d, row, inl (next, own, refl))))

    place_done : (declared : Option ℕ) (class : ℕ) → MayName t declared class → ((n : Node) → node_of (kinds.Class declared) ≡ Some n → is_done m n ≡ true) → is_done m (nodes.Class class) ≡ true
    place_done None class (lt, of) done = next_done nodes.Anywhere (nodes.Class class) (done nodes.Anywhere refl) (class, lt, refl)
    place_done (Some declared) class (lt, inl is_a) done = next_done (nodes.Place class) (nodes.Class class) (down class declared is_a (done (nodes.Place declared) refl)) (inl refl)
    place_done (Some declared) class (lt, inr is_a) done =
        up declared class is_a (next_done (nodes.Place declared) (nodes.Class declared) (done (nodes.Place declared) refl) (inl refl))

    names_done : (class : ℕ) (kind : TypeRef) → Names t class kind → ((n : Node) → node_of kind ≡ Some n → is_done m n ≡ true) → is_done m (nodes.Class class) ≡ true
    names_done class kind (AtPlace declared may) done = place_done declared class may done
    names_done class kind (InElement at q row names) done = names_done class q.element names (λ n is. next_done (nodes.Seq at) n (done (nodes.Seq at) refl) (q, row, is))
    names_done class kind (InValue at d row names) done = names_done class d.value names (λ n is. next_done (nodes.Dict at) n (done (nodes.Dict at) refl) (d, row, is))
    names_done class kind (InMember at d place x row there names) done =
        names_done class x.kind names (λ n is. next_done (nodes.Struct at) n (done (nodes.Struct at) refl) (d, row, (place, x, there, is)))

    reached_done : (class : ℕ) → IsReached t root class → is_done m (nodes.Class class) ≡ true
    reached_done class (AtOnce _ names) = names_done class root names way.start
    reached_done class (Through from _ reached (d, place, x, row, there, names)) =
        names_done class x.kind names (λ n is. next_done (nodes.Class from) n (reached_done from reached) (d, row, inr (place, x, there, is)))

    pub all_found : AreReached t root m.classes.items
    all_found = record {
      rows = way.rows;
      reached = λ class. (
        λ on. way.sound (nodes.Class class) on (omega (arith, flag_within m.classes.items class on, way.rows)),
        λ r. set_inside m.classes.items class (omega (arith, reached_within t root class r, way.rows)) (reached_done class r),
      );
    }

-- one node is taken off, and what it leads to is met
pub went_on : (t : Tables) (rules : IsSchema t) (root : TypeRef) (node : Node) (before now : Marks) (waiting : Vec Node Global) → IsUnderWay t root before
    → before.pending.items ≡ waiting.items ++ node ∷ [] → Spreads (Steps t node) (record before { pending = waiting }) now → IsUnderWay t root now
went_on t rules root node before now waiting way taken s =
    goes_on t rules root node before (record before { pending = waiting }) now way taken (flags_stay before waiting) s refl

-- and so there is less to do
pub less_left : (t : Tables) (node : Node) (before now : Marks) (waiting : Vec Node Global) → before.pending.items ≡ waiting.items ++ node ∷ []
    → Spreads (Steps t node) (record before { pending = waiting }) now → left now < left before
less_left t node before now waiting taken s =
    let fewer : length before.pending.items ≡ length waiting.items + 1 = ap length taken ∙ length-append waiting.items (node ∷ []) in
    omega (arith, s.total, fewer)

-- a list of no items
pub no_items : {A : Type 0} (xs : List A) → length xs ≡ 0 → xs ≡ []
no_items [] e = refl
no_items (x ∷ xs) e = absurd (omega arith)

-- nothing was taken off
module _ (t : Tables) (root : TypeRef) (m : Marks) (waiting : Vec Node Global) (same : waiting.items ≡ m.pending.items) (way : IsUnderWay t root m) where
  done_still : (n : Node) → is_done (record m { pending = waiting }) n ≡ is_done m n
  done_still n = ap (λ (l : List Bool). is_set l (place_in n)) (flags_stay m waiting n)

  met_still : (n : Node) → is_met (record m { pending = waiting }) n ≡ is_met m n
  met_still n = ap (λ (l : List Bool). is_defined l (place_in n)) (flags_stay m waiting n)

  pub stood_still : IsUnderWay t root (record m { pending = waiting })
  stood_still = record {
    rows = way.rows;
    start = λ n is. done_still n ∙ way.start n is;
    closed = λ n next e steps. either (way.closed n next (sym (done_still n) ∙ e) steps) (λ d. inl (done_still next ∙ d)) (λ w. inr (subst (λ (ns : List Node). Contains ns n) (sym same) w));
    sound = λ n e. way.sound n (sym (met_still n) ∙ e);
    waiting = λ n h. met_still n ∙ way.waiting n (subst (λ (ns : List Node). Contains ns n) same h);
  }
