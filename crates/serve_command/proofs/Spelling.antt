-- The words of objects, one by one, and what all of them ask for.
use Rattle.std.proofs.Common.{◌≡◌, ◌<◌, ◌≤◌, ℕ, suc, zero, List, [], ◌∷◌, length, map, refl, sym, ap, ap₂, ◌∙◌, subst, arith, get_or, Bool, false, Option, Some, String, string_bytes}
use Rattle.std.specs.Prelude.{◌==◌, IfOk, Result}
use Rattle.std.specs.List.{AllByRecursion}
use Rattle.std.proofs.lemmas.Bool.{false≢true}
use Rattle.std.proofs.lemmas.Result.{IfOk-weaker}
use Rattle.std.specs.declared.alloc.Global.{Global}
use Rattle.std.proofs.lemmas.List.{length-map}
use Rattle.node_commands.specs.Words.{Word, IsWord, words_of}
use Rattle.serve_command.specs.ObjectWords.{Object, object_word, IsCut, AreShort, AreApart}
use Rattle.node_commands.specs.Once.{Exactly}
use Rattle.serve_command.specs.Words.{Plain, Serve, plain, PlainForm, Completes, ServeForm, asked_of}
use Rattle.serve_command.specs.declared.words.TheConstants.{MOST_WORDS}
use Rattle.serve_command.specs.declared.words.ServeCommand.{ServeCommand}
use Rattle.serve_command.proofs.Cuts.{object_once}
use Rattle.node_commands.proofs.NetWords.{exactly_by}
use Rattle.serve_command.proofs.Commands.{all_short}

abbrev behind_first : List Word → List Word
behind_first [] = []
behind_first (w ∷ ws) = ws

-- ---- one word after another

-- a word that asks for nothing
pub none_spells : (words : List (String Global)) (i : ℕ) (word : String Global) → i < length words → word ≡ get_or words i word → ((o : Object) → string_bytes word ≡ object_word o → IsCut o → ⊥)
    → (objects : List Object) → words_of words ≡ map object_word objects → AllByRecursion IsCut objects → ⊥
none_spells [] i word lt is never objects e cut = absurd (omega (arith, lt))
none_spells (w ∷ ws) zero word lt is never [] e cut = absurd cc
none_spells (w ∷ ws) zero word lt is never (o ∷ os) e cut = never o (ap string_bytes is ∙ ap (λ (z : List Word). get_or z 0 []) e) cut.0
none_spells (w ∷ ws) (suc i) word lt is never [] e cut = absurd cc
none_spells (w ∷ ws) (suc i) word lt is never (o ∷ os) e cut = none_spells ws i word (omega (arith, lt)) is never os (ap behind_first e) cut.1

-- ---- all of them

-- words ask for objects in one way
pub objects_once : (a b : List Object) → AllByRecursion IsCut a → AllByRecursion IsCut b → map object_word a ≡ map object_word b → b ≡ a
objects_once [] [] ca cb e = refl
objects_once [] (o ∷ os) ca cb e = absurd cc
objects_once (o ∷ os) [] ca cb e = absurd cc
objects_once (o ∷ os) (p ∷ ps) ca cb e =
    ap₂ (λ (x : Object) (xs : List Object). x ∷ xs) (object_once o p ca.0 cb.0 (ap (λ (z : List Word). get_or z 0 []) e)) (objects_once os ps ca.1 cb.1 (ap behind_first e))

-- ---- what the operands are completed to

-- objects that are not apart
pub not_apart_complete : (p : Plain) (objects : List Object) → p.objects ≡ map object_word objects → AllByRecursion IsCut objects → (AreApart objects → ⊥) → (c : Serve) → Completes p c → ⊥
not_apart_complete p objects are cut never c f =
    never (subst AreApart (objects_once objects c.objects cut f.cut (sym are ∙ ap (λ (q : Plain). q.objects) f.plain_is)) f.apart)

-- operands with these words of objects, and with these objects
abbrev with_words : (workers connections : ℕ) (file host : Word) (port : ℕ) → List Word → Plain
with_words workers connections file host port words = record {
  workers = workers;
  connections = connections;
  file = file;
  host = host;
  port = port;
  objects = words;
}

abbrev with_objects : (workers connections : ℕ) (file host : Word) (port : ℕ) → List Object → Serve
with_objects workers connections file host port objects = record {
  workers = workers;
  connections = connections;
  file = file;
  host = host;
  port = port;
  objects = objects;
}

pub complete : (workers connections : ℕ) (file host : Word) (port : ℕ) (words : List Word) (objects : List Object) → words ≡ map object_word objects → 0 < length words → AllByRecursion IsCut objects → AreApart objects
    → Exactly (Completes (with_words workers connections file host port words)) (Some (with_objects workers connections file host port objects))
complete workers connections file host port words objects are some cut apart = (
  record {
    plain_is = ap (with_words workers connections file host port) are;
    some = omega (arith, some, ap (λ (ws : List Word). length ws) are, length-map objects object_word);
    cut = cut;
    apart = apart;
  },
  λ d f. same d f,
)
  where
    same : (d : Serve) → Completes (with_words workers connections file host port words) d → d ≡ with_objects workers connections file host port objects
    same d f =
        let e : plain d ≡ with_words workers connections file host port words = sym f.plain_is in
        let one : d.objects ≡ objects = objects_once objects d.objects cut f.cut (sym are ∙ sym (ap (λ (q : Plain). q.objects) e)) in
        λ i. record {
          workers = ap (λ (q : Plain). q.workers) e i;
          connections = ap (λ (q : Plain). q.connections) e i;
          file = ap (λ (q : Plain). q.file) e i;
          host = ap (λ (q : Plain). q.host) e i;
          port = ap (λ (q : Plain). q.port) e i;
          objects = one i;
        }

-- the whole form, from its operands
pub form_of : (words : List Word) (p : Plain) (o : Option Serve) → length words ≤ MOST_WORDS → AllByRecursion IsWord words → Exactly (PlainForm words) (Some p) → Exactly (Completes p) o → Exactly (ServeForm words) o
form_of words p o few short form e = exactly_by to from o e
  where
    to : (c : Serve) → Completes p c → ServeForm words c
    to c h = record {
      few = few;
      short = short;
      operands = p;
      form = form.0;
      completes = h;
    }

    from : (c : Serve) → ServeForm words c → Completes p c
    from c f = subst (λ (q : Plain). Completes q c) (form.1 f.operands f.form) f.completes

pub if_form_of : {E : Type 0} (words : List Word) (p : Plain) (r : Result (Option ServeCommand) E) → length words ≤ MOST_WORDS → AllByRecursion IsWord words → Exactly (PlainForm words) (Some p)
    → IfOk r (λ asked. Exactly (Completes p) (asked_of asked)) → IfOk r (λ asked. Exactly (ServeForm words) (asked_of asked))
if_form_of words p r few short form = IfOk-weaker r (λ asked. Exactly (Completes p) (asked_of asked)) (λ asked. Exactly (ServeForm words) (asked_of asked)) (λ asked. form_of words p (asked_of asked) few short form)

-- ---- how long words are

-- where no word is too long, no text in one of them is
pub spelled_short : (words : List Word) (objects : List Object) → words ≡ map object_word objects → AllByRecursion IsWord words → AllByRecursion AreShort objects
spelled_short words objects are short = all_short objects (subst (AllByRecursion IsWord) are short)

-- ---- how many there are

pub some_words : (words : List (String Global)) (r : Bool) → r ≡ (length words == 0) → r ≡ false → 0 < length (words_of words)
some_words [] r is off = absurd (false≢true (sym off ∙ is))
some_words (w ∷ ws) r is off = omega arith

pub as_many : (words : List (String Global)) (most : ℕ) → length words ≤ most → length (words_of words) ≤ most
as_many words most few = omega (arith, few, length-map words (string_bytes {Z = Global}))
