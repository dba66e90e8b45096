-- Options that are read from pieces are those that the pieces stand for.
use Rattle.std.proofs.Common.{ℕ, zero, suc, ◌<◌, ◌≡◌, Bool, true, false, List, [], ◌∷◌, ◌++◌, length, length-append, Option, None, Some, Ok, Err, refl, sym, ap, ◌∙◌, append_assoc, arith}
use Rattle.ice_proxy.specs.Words.{Token, word, colon, at, end}
use Rattle.ice_proxy.specs.Pieces.{Piece, Pieces}
use Rattle.ice_proxy.specs.Spelled.{meant, Word, Then, fresh, AnOption, SoMany, AreOptions}
use Rattle.ice_proxy.proofs.PieceLaws.{Stop, Reading, ◌>>>◌, first, first_append, answered, Took, Stopped, Sample, Lawful, then_ok, then_err, ok_parts, took_both, stopped_first, stopped_second, only_both, one_took, one_refused, one_only, one_blame}
use Rattle.ice_proxy.proofs.PieceReading.{is_word, next_word, no_blame, seen_as, word_as, option_at, options_within, options_at}

-- whatever follows
abbrev pub Anything : Option Piece → Type 0
Anything o = Unit {0}

-- no word follows
abbrev pub NoWord : Option Piece → Type 0
NoWord o = next_word o ≡ false

pub meant_word : {A : Type 0} (meaning : List ℕ → Option A) (t : Token) (x : A) → meant meaning t ≡ Some x → is_word t ≡ true
meant_word meaning (word bytes) x e = refl
meant_word meaning colon x e = absurd cc
meant_word meaning at x e = absurd cc
meant_word meaning end x e = absurd cc

pub same_bind : {A B : Type 0} (m : Reading A) (f g : A × Pieces → Reading B) → ((x : A) (mid : Pieces) → m ≡ Ok (x, mid) → f (x, mid) ≡ g (x, mid)) → (m >>> f) ≡ (m >>> g)
same_bind (Ok x) f g h = h x.0 x.1 refl
same_bind (Err s) f g h = refl

module _ {O F : Type 0} (rows : List (List ℕ × F)) (given : F → O → Bool) (Value : F → O → Pieces → O → Type 0) (value : F → O → Pieces → Reading O) (lawful : (flag : F) (o : O) → Lawful (Value flag o) (value flag o) Anything) where
  abbrev Options : O → Pieces → O → Type 0
  Options o = AreOptions rows given Value o

  abbrev options : O → Pieces → Reading O
  options o ps = options_at rows given value o ps

  abbrev AnOne : O → Pieces → O → Type 0
  AnOne o = AnOption rows given Value o

  abbrev one : O → Pieces → Reading O
  one o ps = option_at rows given value o ps

  abbrev Begun : O → Pieces → F → Type 0
  Begun o = Word (fresh rows given o)

  abbrev begun : O → Pieces → Reading F
  begun o = word_as (fresh rows given o)

  abbrev valued : O → F × Pieces → Reading O
  valued o x = value x.0 o x.1

  pub one_took_option : (o last : O) (ps rest : Pieces) → one o ps ≡ Ok (last, rest) → Took (AnOne o) (one o) ps last rest
  one_took_option o last ps rest e = then_ok (Took (AnOne o) (one o) ps last rest) (begun o ps) (valued o) (last, rest) e (λ flag mid d f.
      took_both (Begun o) (begun o) (λ flag. Value flag o) (λ flag. value flag o) ps mid rest flag last (one_took (seen_as (fresh rows given o)) no_blame ps mid flag d) ((lawful flag o).found mid rest last f))

  pub one_shorter : (o last : O) (ps rest : Pieces) → one o ps ≡ Ok (last, rest) → length rest < length ps
  one_shorter o last ps rest e = then_ok (length rest < length ps) (begun o ps) (valued o) (last, rest) e (λ flag mid d f.
      let t = one_took (seen_as (fresh rows given o)) no_blame ps mid flag d in
      let u = (lawful flag o).found mid rest last f in
      let a : length ps ≡ length (t.taken ++ mid) = ap length t.parts in
      let b : length t.taken ≡ 1 = ap length t.spelled.1 in
      let c : length mid ≡ length (u.taken ++ rest) = ap length u.parts in
      omega (arith, a, b, c, length-append t.taken mid, length-append u.taken rest))

  -- what options come to, by whether a word is next
  abbrev step : Bool → O → Pieces → Reading O
  step b o ps = elim b [ true ↦ one o ps >>> λ x. options x.0 x.1 | false ↦ Ok (o, ps) ]

  abbrev part : ℕ → Bool → O → Pieces → Reading O
  part n b o ps = elim b [ true ↦ one o ps >>> λ x. options_within rows given value n x.0 x.1 | false ↦ Ok (o, ps) ]

  enough : (n m : ℕ) (o : O) (ps : Pieces) → length ps < n → length ps < m → options_within rows given value n o ps ≡ options_within rows given value m o ps
  enough zero m o ps lt gt = absurd (omega arith)
  enough (suc n) zero o ps lt gt = absurd (omega arith)
  enough (suc n) (suc m) o ps lt gt = by (next_word (first ps)) (λ x mid e.
      let short = one_shorter o x ps mid e in
      enough n m x mid (omega (arith, short, lt)) (omega (arith, short, gt)))
    where
      by : (b : Bool) → ((x : O) (mid : Pieces) → one o ps ≡ Ok (x, mid) → options_within rows given value n x mid ≡ options_within rows given value m x mid) → part n b o ps ≡ part m b o ps
      by true each = same_bind (one o ps) (λ x. options_within rows given value n x.0 x.1) (λ x. options_within rows given value m x.0 x.1) each
      by false each = refl

  pub unrolled : (o : O) (ps : Pieces) → options o ps ≡ step (next_word (first ps)) o ps
  unfolding options_at
  unrolled o ps = by (next_word (first ps))
    where
      by : (b : Bool) → part (length ps) b o ps ≡ step b o ps
      by true = same_bind (one o ps) (λ x. options_within rows given value (length ps) x.0 x.1) (λ x. options_within rows given value (suc (length x.1)) x.0 x.1) (λ x mid e.
          let short = one_shorter o x ps mid e in
          enough (length ps) (suc (length mid)) x mid short (omega arith))
      by false = refl

  at_step : (o : O) (ps : Pieces) (b : Bool) → next_word (first ps) ≡ b → options o ps ≡ step b o ps
  at_step o ps b e = unrolled o ps ∙ ap (λ (c : Bool). step c o ps) e

  abbrev Several : O → Pieces → O → Type 0
  Several o = Then (AnOne o) Options

  abbrev several : O → Pieces → Reading O
  several o ps = one o ps >>> λ x. options x.0 x.1

  counted : (o last : O) (ps : Pieces) → Several o ps last → Options o ps last
  counted o last ps h = let many = h.5 in (suc many.0, (h.0, h.1, h.2, h.3, h.4, many.1))

  none : (o : O) → Sample (Options o)
  none o = record { some = []; real = tt; value = o; spelled = (0, (refl, refl)) }

  found_within : (n : ℕ) (o last : O) (ps rest : Pieces) → length ps < n → options o ps ≡ Ok (last, rest) → Took (Options o) (options o) ps last rest
  found_within zero o last ps rest lt e = absurd (omega arith)
  found_within (suc n) o last ps rest lt e = by (next_word (first ps)) refl (sym (unrolled o ps) ∙ e) (λ x mid d f. let short = one_shorter o x ps mid d in found_within n x last mid rest (omega (arith, short, lt)) f)
    where
      by : (b : Bool) → next_word (first ps) ≡ b → step b o ps ≡ Ok (last, rest) → ((x : O) (mid : Pieces) → one o ps ≡ Ok (x, mid) → options x mid ≡ Ok (last, rest) → Took (Options x) (options x) mid last rest) → Took (Options o) (options o) ps last rest
      by false is e later =
          let same = ok_parts o last ps rest e in
          record {
            taken = [];
            parts = same.1;
            spelled = (0, (refl, sym same.0));
            kept = λ other m.
                at_step o other false (ap next_word (sym m ∙ ap first (sym same.1)) ∙ is) ∙ ap (λ (v : O). answered v other) same.0;
          }
      by true is e later = then_ok (Took (Options o) (options o) ps last rest) (one o ps) (λ x. options x.0 x.1) (last, rest) e (λ x mid d f.
          let t = took_both (AnOne o) (one o) Options options ps mid rest x last (one_took_option o x ps mid d) (later x mid d f) in
          record {
            taken = t.taken;
            parts = t.parts;
            spelled = counted o last t.taken t.spelled;
            kept = λ other m.
                let same : first (t.taken ++ other) ≡ first ps = sym (first_append t.taken rest other m) ∙ ap first (sym t.parts) in
                at_step o (t.taken ++ other) true (ap next_word same ∙ is) ∙ t.kept other m;
          })

  stopped_within : (n : ℕ) (o : O) (ps : Pieces) (stop : Stop) → length ps < n → options o ps ≡ Err stop → Stopped (Options o) (options o) ps stop
  stopped_within zero o ps stop lt e = absurd (omega arith)
  stopped_within (suc n) o ps stop lt e = by (next_word (first ps)) refl (sym (unrolled o ps) ∙ e) (λ x mid d f. let short = one_shorter o x ps mid d in stopped_within n x mid stop (omega (arith, short, lt)) f)
    where
      more : next_word (first ps) ≡ true → Stopped (Several o) (several o) ps stop → Stopped (Options o) (options o) ps stop
      more is s = record {
        front = s.front;
        parts = s.parts;
        kept = λ other m.
            let same : first (s.front ++ other) ≡ first ps = sym (first_append s.front stop.behind other m) ∙ ap first (sym s.parts) in
            let k = s.kept other m in
            (k.0, at_step o (s.front ++ other) true (ap next_word same ∙ is) ∙ k.1);
        more = s.more;
        real = s.real;
        value = s.value;
        spelled = counted o s.value (s.front ++ s.more) s.spelled;
      }

      -- the word begins no option
      no_option : next_word (first ps) ≡ true → begun o ps ≡ Err stop → Stopped (Options o) (options o) ps stop
      no_option is d =
          let r = one_refused (seen_as (fresh rows given o)) no_blame ps stop d in
          record {
            front = [];
            parts = r.0;
            kept = λ other m.
                let same : first ps ≡ first other = ap first r.0 ∙ m in
                let k = r.1 other same in
                (k.0, at_step o other true (ap next_word (sym same) ∙ is) ∙ (ap (λ (q : Reading F). (q >>> valued o) >>> λ x. options x.0 x.1) k.1));
            more = [];
            real = tt;
            value = o;
            spelled = (0, (refl, refl));
          }

      by : (b : Bool) → next_word (first ps) ≡ b → step b o ps ≡ Err stop → ((x : O) (mid : Pieces) → one o ps ≡ Ok (x, mid) → options x mid ≡ Err stop → Stopped (Options x) (options x) mid stop) → Stopped (Options o) (options o) ps stop
      by false is e later = absurd cc
      by true is e later = then_err (Stopped (Options o) (options o) ps stop) (one o ps) (λ x. options x.0 x.1) stop e
          (λ d. then_err (Stopped (Options o) (options o) ps stop) (begun o ps) (valued o) stop d (no_option is) (λ flag mid c f.
          more is (stopped_first (AnOne o) (one o) Options options ps stop none
          (stopped_second (Begun o) (begun o) (λ flag. Value flag o) (λ flag. value flag o) ps mid flag stop (one_took (seen_as (fresh rows given o)) no_blame ps mid flag c) ((lawful flag o).stopped mid stop f)))))
          (λ x mid d f. more is (stopped_second (AnOne o) (one o) Options options ps mid x stop (one_took_option o x ps mid d) (later x mid d f)))

  -- an option begins with a word
  pub option_word : (o last : O) (ps rest : Pieces) → AnOne o ps last → next_word (first (ps ++ rest)) ≡ true
  option_word o last ps rest h =
      let begins = h.4 in
      let whole : ps ≡ begins.0 ∷ h.2 = h.3 ∙ ap (λ (z : Pieces). z ++ h.2) begins.1 in
      ap (λ (z : Pieces). next_word (first (z ++ rest))) whole ∙ meant_word (fresh rows given o) begins.0.token h.0 begins.2

  pub option_only : (o last : O) (ps rest : Pieces) → AnOne o ps last → one o (ps ++ rest) ≡ Ok (last, rest)
  option_only o last ps rest h = only_both (Begun o) (begun o) (λ flag. Value flag o) (λ flag. value flag o) ps rest last h (λ flag a b s t.
      (one_only (seen_as (fresh rows given o)) no_blame a (b ++ rest) flag s, (lawful flag o).only b rest last t tt))

  only_many : (n : ℕ) (o last : O) (ps rest : Pieces) → SoMany rows given Value n o ps last → NoWord (first rest) → options o (ps ++ rest) ≡ Ok (last, rest)
  only_many zero o last ps rest h follows =
      ap (λ (z : Pieces). options o (z ++ rest)) h.0 ∙ (at_step o rest false follows ∙ ap (λ (v : O). answered v rest) (sym h.1))
  only_many (suc n) o last ps rest h follows =
      let word_first : next_word (first (ps ++ rest)) ≡ true =
      ap (λ (z : Pieces). next_word (first (z ++ rest))) h.3 ∙ (ap (λ (z : Pieces). next_word (first z)) (append_assoc h.1 h.2 rest) ∙ option_word o h.0 h.1 (h.2 ++ rest) h.4) in
      at_step o (ps ++ rest) true word_first
      ∙ only_both (AnOne o) (one o) (SoMany rows given Value n) options ps rest last h (λ x a b s t. (option_only o x a (b ++ rest) s, only_many n x last b rest t follows))

  pub options_lawful : (o : O) → Lawful (Options o) (options o) NoWord
  options_lawful o = record {
    sample = none o;
    found = λ ps rest last e. found_within (suc (length ps)) o last ps rest (omega arith) e;
    stopped = λ ps stop e. stopped_within (suc (length ps)) o ps stop (omega arith) e;
    only = λ ps rest last h follows. only_many h.0 o last ps rest h.1 follows;
  }

  -- what is refused of options blames no other piece
  quiet_within : ((flag : F) (o : O) (ps : Pieces) (stop : Stop) → value flag o ps ≡ Err stop → stop.blamed ≡ None) → (n : ℕ) (o : O) (ps : Pieces) (stop : Stop) → length ps < n → options o ps ≡ Err stop → stop.blamed ≡ None
  quiet_within quiet zero o ps stop lt e = absurd (omega arith)
  quiet_within quiet (suc n) o ps stop lt e = by (next_word (first ps)) (sym (unrolled o ps) ∙ e) (λ x mid d f. let short = one_shorter o x ps mid d in quiet_within quiet n x mid stop (omega (arith, short, lt)) f)
    where
      by : (b : Bool) → step b o ps ≡ Err stop → ((x : O) (mid : Pieces) → one o ps ≡ Ok (x, mid) → options x mid ≡ Err stop → stop.blamed ≡ None) → stop.blamed ≡ None
      by false e later = absurd cc
      by true e later = then_err (stop.blamed ≡ None) (one o ps) (λ x. options x.0 x.1) stop e
          (λ d. then_err (stop.blamed ≡ None) (begun o ps) (valued o) stop d (λ c. one_blame (seen_as (fresh rows given o)) no_blame ps stop c) (λ flag mid c f. quiet flag o mid stop f))
          later

  pub options_quiet : ((flag : F) (o : O) (ps : Pieces) (stop : Stop) → value flag o ps ≡ Err stop → stop.blamed ≡ None) → (o : O) (ps : Pieces) (stop : Stop) → options o ps ≡ Err stop → stop.blamed ≡ None
  options_quiet quiet o ps stop e = quiet_within quiet (suc (length ps)) o ps stop (omega arith) e
