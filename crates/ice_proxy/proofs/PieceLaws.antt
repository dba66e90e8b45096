-- Reading pieces from the left, and what it has to do with what they stand for.
use Rattle.std.proofs.Common.{◌≡◌, [], ◌∷◌, ◌++◌, Option, None, Some, Result, Ok, Err, refl, sym, ap, ◌∙◌, append_assoc}
use Rattle.ice_proxy.specs.Pieces.{Piece, Pieces}
use Rattle.ice_proxy.specs.Spelled.{Then, Made, Nothing}
use Rattle.ice_proxy.specs.Breaks.{AreReal}

-- where reading stops: before these, and the piece that is to blame, where it is another one
pub record Stop : Type 0 where
  pub behind : Pieces
  pub blamed : Option Piece

abbrev pub Reading : Type 0 → Type 0
Reading A = Result (A × Pieces) Stop

infixl 10 ◌>>>◌
abbrev pub ◌>>>◌ : {A B : Type 0} → Reading A → (A × Pieces → Reading B) → Reading B
(Ok x) >>> f = f x
(Err s) >>> f = Err s

abbrev pub first : Pieces → Option Piece
first [] = None
first (p ∷ ps) = Some p

pub first_append : (a b c : Pieces) → first b ≡ first c → first (a ++ b) ≡ first (a ++ c)
first_append [] b c e = e
first_append (p ∷ a) b c e = refl

pub real_append : (a b : Pieces) → AreReal a → AreReal b → AreReal (a ++ b)
real_append [] b h k = k
real_append (p ∷ a) b h k = (h.0, real_append a b h.1 k)

-- ---- what is said of a reading

-- Reading went over pieces that stand for the value, and looked at no piece behind the next one.
pub record Took {A : Type 0} (P : Pieces → A → Type 0) (r : Pieces → Reading A) (ps : Pieces) (x : A) (rest : Pieces) : Type 0 where
  pub taken : Pieces
  pub parts : ps ≡ taken ++ rest
  pub spelled : P taken x
  pub kept : (other : Pieces) → first rest ≡ first other → r (taken ++ other) ≡ Ok (x, other)

-- Reading refused a piece, behind pieces that can be completed, and looked at no piece behind it.
pub record Stopped {A : Type 0} (P : Pieces → A → Type 0) (r : Pieces → Reading A) (ps : Pieces) (stop : Stop) : Type 0 where
  pub front : Pieces
  pub parts : ps ≡ front ++ stop.behind
  pub kept : (other : Pieces) → first stop.behind ≡ first other → (s : Stop) × (r (front ++ other) ≡ Err s)
  pub more : Pieces
  pub real : AreReal more
  pub value : A
  pub spelled : P (front ++ more) value

-- Some pieces of texts stand for something.
pub record Sample {A : Type 0} (P : Pieces → A → Type 0) : Type 0 where
  pub some : Pieces
  pub real : AreReal some
  pub value : A
  pub spelled : P some value

-- The reading is that of what pieces stand for, where what follows them is such.
pub record Lawful {A : Type 0} (P : Pieces → A → Type 0) (r : Pieces → Reading A) (Follows : Option Piece → Type 0) : Type 0 where
  pub sample : Sample P
  pub found : (ps rest : Pieces) (x : A) → r ps ≡ Ok (x, rest) → Took P r ps x rest
  pub stopped : (ps : Pieces) (stop : Stop) → r ps ≡ Err stop → Stopped P r ps stop
  pub only : (taken rest : Pieces) (x : A) → P taken x → Follows (first rest) → r (taken ++ rest) ≡ Ok (x, rest)

pub then_ok : {A B : Type 0} (C : Type 0) (r : Reading A) (f : A × Pieces → Reading B) (y : B × Pieces) → (r >>> f) ≡ Ok y → ((x : A) (mid : Pieces) → r ≡ Ok (x, mid) → f (x, mid) ≡ Ok y → C) → C
then_ok C (Ok x) f y e k = k x.0 x.1 refl e
then_ok C (Err stop) f y e k = absurd cc

pub then_err : {A B : Type 0} (C : Type 0) (r : Reading A) (f : A × Pieces → Reading B) (stop : Stop) → (r >>> f) ≡ Err stop → (r ≡ Err stop → C) → ((x : A) (mid : Pieces) → r ≡ Ok (x, mid) → f (x, mid) ≡ Err stop → C) → C
then_err C (Ok x) f stop e k h = h x.0 x.1 refl e
then_err C (Err other) f stop e k h = k cc

pub ok_parts : {A : Type 0} (x y : A) (ps rest : Pieces) → ◌≡◌ {A = Reading A} (Ok (x, ps)) (Ok (y, rest)) → (x ≡ y) × (ps ≡ rest)
ok_parts {A = A} x y ps rest e = let p : (x, ps) ≡ (y, rest) = cc in (ap (λ (q : A × Pieces). q.0) p, ap (λ (q : A × Pieces). q.1) p)

pub err_same : {A : Type 0} (s t : Stop) → ◌≡◌ {A = Reading A} (Err s) (Err t) → s ≡ t
err_same s t e = cc

abbrev pub answered : {A : Type 0} → A → Pieces → Reading A
answered x ps = Ok (x, ps)

-- ---- one part behind another

module _ {X Y : Type 0} (P : Pieces → X → Type 0) (p : Pieces → Reading X) (Q : X → Pieces → Y → Type 0) (q : X → Pieces → Reading Y) where
  abbrev pub both_at : Pieces → Reading Y
  both_at ps = p ps >>> λ x. q x.0 x.1

  abbrev second : X × Pieces → Reading Y
  second x = q x.0 x.1

  pub took_both : (ps mid rest : Pieces) (x : X) (y : Y) → Took P p ps x mid → Took (Q x) (q x) mid y rest → Took (Then P Q) both_at ps y rest
  took_both ps mid rest x y t u = record {
    taken = t.taken ++ u.taken;
    parts = t.parts ∙ ap (λ (z : Pieces). t.taken ++ z) u.parts ∙ sym (append_assoc t.taken u.taken rest);
    spelled = (x, t.taken, u.taken, refl, t.spelled, u.spelled);
    kept = λ other n.
        let middle : first mid ≡ first (u.taken ++ other) = ap first u.parts ∙ first_append u.taken rest other n in
        ap (λ (z : Pieces). p z >>> second) (append_assoc t.taken u.taken other) ∙ (ap (λ (m : Reading X). m >>> second) (t.kept (u.taken ++ other) middle) ∙ u.kept other n);
  }

  pub stopped_first : (ps : Pieces) (stop : Stop) → ((x : X) → Sample (Q x)) → Stopped P p ps stop → Stopped (Then P Q) both_at ps stop
  stopped_first ps stop some s =
      let m = some s.value in
      record {
        front = s.front;
        parts = s.parts;
        kept = λ other n. let k = s.kept other n in (k.0, ap (λ (m : Reading X). m >>> second) k.1);
        more = s.more ++ m.some;
        real = real_append s.more m.some s.real m.real;
        value = m.value;
        spelled = (s.value, s.front ++ s.more, m.some, sym (append_assoc s.front s.more m.some), s.spelled, m.spelled);
      }

  pub stopped_second : (ps mid : Pieces) (x : X) (stop : Stop) → Took P p ps x mid → Stopped (Q x) (q x) mid stop → Stopped (Then P Q) both_at ps stop
  stopped_second ps mid x stop t s = record {
    front = t.taken ++ s.front;
    parts = t.parts ∙ ap (λ (z : Pieces). t.taken ++ z) s.parts ∙ sym (append_assoc t.taken s.front stop.behind);
    kept = λ other n.
        let middle : first mid ≡ first (s.front ++ other) = ap first s.parts ∙ first_append s.front stop.behind other n in
        let k = s.kept other n in
        (k.0, ap (λ (z : Pieces). p z >>> second) (append_assoc t.taken s.front other) ∙ (ap (λ (m : Reading X). m >>> second) (t.kept (s.front ++ other) middle) ∙ k.1));
    more = s.more;
    real = s.real;
    value = s.value;
    spelled = (x, t.taken, s.front ++ s.more, append_assoc t.taken s.front s.more, t.spelled, s.spelled);
  }

  pub only_both : (taken rest : Pieces) (y : Y) → Then P Q taken y → ((x : X) (a b : Pieces) → P a x → Q x b y → (p (a ++ (b ++ rest)) ≡ Ok (x, b ++ rest)) × (q x (b ++ rest) ≡ Ok (y, rest))) → both_at (taken ++ rest) ≡ Ok (y, rest)
  only_both taken rest y h each =
      let e = each h.0 h.1 h.2 h.4 h.5 in
      ap (λ (z : Pieces). p (z ++ rest) >>> second) h.3 ∙ (ap (λ (z : Pieces). p z >>> second) (append_assoc h.1 h.2 rest) ∙ (ap (λ (m : Reading X). m >>> second) e.0 ∙ e.1))

  pub lawful_both : (F G : Option Piece → Type 0) → Lawful P p F → ((x : X) → Lawful (Q x) (q x) G) → ((x : X) (y : Y) (b rest : Pieces) → Q x b y → G (first rest) → F (first (b ++ rest))) → Lawful (Then P Q) both_at G
  lawful_both F G g h clear = record {
    sample = let one = g.sample in let two = (h one.value).sample in record { some = one.some ++ two.some; real = real_append one.some two.some one.real two.real; value = two.value; spelled = (one.value, one.some, two.some, refl, one.spelled, two.spelled) };
    found = λ ps rest y e. then_ok (Took (Then P Q) both_at ps y rest) (p ps) second (y, rest) e (λ x mid d f. took_both ps mid rest x y (g.found ps mid x d) ((h x).found mid rest y f));
    stopped = λ ps stop e. then_err (Stopped (Then P Q) both_at ps stop) (p ps) second stop e
        (λ d. stopped_first ps stop (λ x. (h x).sample) (g.stopped ps stop d))
        (λ x mid d f. stopped_second ps mid x stop (g.found ps mid x d) ((h x).stopped mid stop f));
    only = λ taken rest y s follows. only_both taken rest y s (λ x a b one two. (g.only a (b ++ rest) x one (clear x y b rest two follows), (h x).only b rest y two follows));
  }

-- ---- what is made of a part

module _ {X A : Type 0} (make : X → A) (P : Pieces → X → Type 0) (p : Pieces → Reading X) where
  abbrev pub made_at : Pieces → Reading A
  made_at ps = p ps >>> λ x. Ok (make x.0, x.1)

  abbrev making : X × Pieces → Reading A
  making x = Ok (make x.0, x.1)

  pub took_made : (ps rest : Pieces) (a : A) → ((x : X) (mid : Pieces) → p ps ≡ Ok (x, mid) → Took P p ps x mid) → made_at ps ≡ Ok (a, rest) → Took (Made make P) made_at ps a rest
  took_made ps rest a found e = then_ok (Took (Made make P) made_at ps a rest) (p ps) making (a, rest) e (λ x mid d f.
      let t = found x mid d in
      let is = ok_parts (make x) a mid rest f in
      record {
        taken = t.taken;
        parts = t.parts ∙ ap (λ (z : Pieces). t.taken ++ z) is.1;
        spelled = (x, t.spelled, sym is.0);
        kept = λ other n. ap (λ (m : Reading X). m >>> making) (t.kept other (ap first is.1 ∙ n)) ∙ ap (λ (v : A). answered v other) is.0;
      })

  pub stopped_made : (ps : Pieces) (stop : Stop) → (p ps ≡ Err stop → Stopped P p ps stop) → made_at ps ≡ Err stop → Stopped (Made make P) made_at ps stop
  stopped_made ps stop stopped e = then_err (Stopped (Made make P) made_at ps stop) (p ps) making stop e
      (λ d.
      let s = stopped d in
      record {
        front = s.front;
        parts = s.parts;
        kept = λ other n. let k = s.kept other n in (k.0, ap (λ (m : Reading X). m >>> making) k.1);
        more = s.more;
        real = s.real;
        value = make s.value;
        spelled = (s.value, s.spelled, refl);
      })
      (λ x mid d f. absurd cc)

  pub lawful_made : (F : Option Piece → Type 0) → Lawful P p F → Lawful (Made make P) made_at F
  lawful_made F g = record {
    sample = let s = g.sample in record { some = s.some; real = s.real; value = make s.value; spelled = (s.value, s.spelled, refl) };
    found = λ ps rest a e. took_made ps rest a (λ x mid d. g.found ps mid x d) e;
    stopped = λ ps stop e. stopped_made ps stop (λ d. g.stopped ps stop d) e;
    only = λ taken rest a s follows. ap (λ (m : Reading X). m >>> making) (g.only taken rest s.0 s.1 follows) ∙ ap (λ (v : A). answered v rest) (sym s.2);
  }

-- ---- the same reading of the same

module _ {A : Type 0} (P Q : Pieces → A → Type 0) (r : Pieces → Reading A) where
  pub lawful_same : (F : Option Piece → Type 0) → ((ps : Pieces) (x : A) → P ps x → Q ps x) → ((ps : Pieces) (x : A) → Q ps x → P ps x) → Lawful P r F → Lawful Q r F
  lawful_same F to from g = record {
    sample = let s = g.sample in record { some = s.some; real = s.real; value = s.value; spelled = to s.some s.value s.spelled };
    found = λ ps rest x e. let t = g.found ps rest x e in record { taken = t.taken; parts = t.parts; spelled = to t.taken x t.spelled; kept = t.kept };
    stopped = λ ps stop e. let s = g.stopped ps stop e in record { front = s.front; parts = s.parts; kept = s.kept; more = s.more; real = s.real; value = s.value; spelled = to (s.front ++ s.more) s.value s.spelled };
    only = λ taken rest x s follows. g.only taken rest x (from taken x s) follows;
  }

-- ---- nothing

module _ {A : Type 0} (a : A) where
  abbrev pub nothing_at : Pieces → Reading A
  nothing_at ps = Ok (a, ps)

  pub lawful_nothing : (F : Option Piece → Type 0) → Lawful (Nothing a) nothing_at F
  lawful_nothing F = record {
    sample = record { some = []; real = tt; value = a; spelled = (refl, refl) };
    found = λ ps rest x e. let is = ok_parts a x ps rest e in record { taken = []; parts = is.1; spelled = (refl, sym is.0); kept = λ other n. ap (λ (v : A). answered v other) is.0 };
    stopped = λ ps stop e. absurd cc;
    only = λ taken rest x s follows. ap (λ (z : Pieces). answered a (z ++ rest)) s.0 ∙ ap (λ (v : A). answered v rest) (sym s.1);
  }

-- ---- one piece

module _ {A : Type 0} (view : Piece → Option A) (blame : Pieces → Option Piece) where
  abbrev pub One : Pieces → A → Type 0
  One ps x = (p : Piece) × (ps ≡ p ∷ []) × (view p ≡ Some x)

  abbrev pub viewed : Option A → Pieces → Pieces → Reading A
  viewed None ps rest = Err (record { behind = ps; blamed = blame ps })
  viewed (Some x) ps rest = Ok (x, rest)

  abbrev pub one_at : Pieces → Reading A
  one_at [] = Err (record { behind = []; blamed = blame [] })
  one_at (p ∷ ps) = viewed (view p) (p ∷ ps) ps

  abbrev some : A → Option A
  some x = Some x

  one_found : (p : Piece) (ps rest : Pieces) (x : A) (o : Option A) → view p ≡ o → viewed o (p ∷ ps) ps ≡ Ok (x, rest) → Took One one_at (p ∷ ps) x rest
  one_found p ps rest x None is e = absurd cc
  one_found p ps rest x (Some y) is e =
      let same = ok_parts y x ps rest e in
      let means : view p ≡ Some x = is ∙ ap some same.0 in
      record { taken = p ∷ []; parts = ap (λ (z : Pieces). p ∷ z) same.1; spelled = (p, refl, means); kept = λ other n. ap (λ (o : Option A). viewed o (p ∷ other) other) means }

  pub one_took : (ps rest : Pieces) (x : A) → one_at ps ≡ Ok (x, rest) → Took One one_at ps x rest
  one_took [] rest x e = absurd cc
  one_took (p ∷ ps) rest x e = one_found p ps rest x (view p) refl e

  -- what is refused, and is so whatever follows
  pub one_refused : (ps : Pieces) (stop : Stop) → one_at ps ≡ Err stop → (ps ≡ stop.behind) × ((other : Pieces) → first ps ≡ first other → (t : Stop) × (one_at other ≡ Err t))
  one_refused [] stop e = (ap (λ (t : Stop). t.behind) (err_same {A = A} (record { behind = []; blamed = blame [] }) stop e), refuse) where
    refuse : (other : Pieces) → None ≡ first other → (t : Stop) × (one_at other ≡ Err t)
    refuse [] n = (record { behind = []; blamed = blame [] }, refl)
    refuse (q ∷ others) n = absurd cc
  one_refused (p ∷ ps) stop e = by (view p) refl e where
    refuse : view p ≡ None → (other : Pieces) → Some p ≡ first other → (t : Stop) × (one_at other ≡ Err t)
    refuse is [] n = absurd cc
    refuse is (q ∷ others) n =
        let is_it : p ≡ q = cc in
        (record { behind = q ∷ others; blamed = blame (q ∷ others) }, ap (λ (o : Option A). viewed o (q ∷ others) others) (ap view (sym is_it) ∙ is))

    by : (o : Option A) → view p ≡ o → viewed o (p ∷ ps) ps ≡ Err stop → (p ∷ ps ≡ stop.behind) × ((other : Pieces) → Some p ≡ first other → (t : Stop) × (one_at other ≡ Err t))
    by (Some y) is e = absurd cc
    by None is e = (ap (λ (t : Stop). t.behind) (err_same {A = A} (record { behind = p ∷ ps; blamed = blame (p ∷ ps) }) stop e), refuse is)

  -- what a refusal blames
  pub one_blame : (ps : Pieces) (stop : Stop) → one_at ps ≡ Err stop → stop.blamed ≡ blame ps
  one_blame [] stop e = sym (ap (λ (t : Stop). t.blamed) (err_same {A = A} (record { behind = []; blamed = blame [] }) stop e))
  one_blame (p ∷ ps) stop e = by (view p) e where
    by : (o : Option A) → viewed o (p ∷ ps) ps ≡ Err stop → stop.blamed ≡ blame (p ∷ ps)
    by (Some y) e = absurd cc
    by None e = sym (ap (λ (t : Stop). t.blamed) (err_same {A = A} (record { behind = p ∷ ps; blamed = blame (p ∷ ps) }) stop e))

  -- the piece that is taken
  pub one_split : (ps rest : Pieces) (x : A) → one_at ps ≡ Ok (x, rest) → (p : Piece) × (ps ≡ p ∷ rest) × (view p ≡ Some x)
  one_split ps rest x e = let t = one_took ps rest x e in let h = t.spelled in (h.0, t.parts ∙ ap (λ (z : Pieces). z ++ rest) h.1, h.2)

  pub one_only : (taken rest : Pieces) (x : A) → One taken x → one_at (taken ++ rest) ≡ Ok (x, rest)
  one_only taken rest x h = ap (λ (z : Pieces). one_at (z ++ rest)) h.1 ∙ ap (λ (o : Option A). viewed o (h.0 ∷ rest) rest) h.2

  pub lawful_one : Sample One → (F : Option Piece → Type 0) → Lawful One one_at F
  lawful_one s F = record {
    sample = s;
    found = one_took;
    stopped = λ ps stop e.
        let r = one_refused ps stop e in
        record { front = []; parts = r.0; kept = λ other n. r.1 other (ap first r.0 ∙ n); more = s.some; real = s.real; value = s.value; spelled = s.spelled };
    only = λ taken rest x h follows. one_only taken rest x h;
  }

-- ---- fewer things may follow

module _ {A : Type 0} (P : Pieces → A → Type 0) (r : Pieces → Reading A) where
  pub lawful_before : (F G : Option Piece → Type 0) → ((o : Option Piece) → G o → F o) → Lawful P r F → Lawful P r G
  lawful_before F G less g = record { sample = g.sample; found = g.found; stopped = g.stopped; only = λ taken rest x h follows. g.only taken rest x h (less (first rest) follows) }
