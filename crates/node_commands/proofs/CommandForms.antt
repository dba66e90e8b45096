-- The listed forms are apart, and so is what words ask for.
use Rattle.std.proofs.Common.{◌≡◌, ◌≤◌, ◌<◌, ◌+◌, ◌*◌, ℕ, suc, Bool, true, false, ◌&&◌, cond, eqb, String, string_bytes, List, [], ◌∷◌, ◌++◌, length, Option, None, Some, refl, sym, ap, ◌∙◌, arith, get_or, codes}
use Rattle.std.proofs.lemmas.Option.{same_Some}
use Rattle.std.proofs.lemmas.Fmt.{decimal_injective}
use Rattle.std.proofs.lemmas.Slice.Eq.{bytes_eq-Decides}
use Rattle.std.specs.Str.{bytes_eq}
use Rattle.std.specs.declared.alloc.Global.{Global}
use Rattle.std.specs.Fmt.{decimal}
use Rattle.instance_writing.specs.declared.format.Format.TheVariants as formats
use Rattle.node_commands.specs.declared.words.Task.{Task}
use Rattle.node_commands.specs.declared.words.Task.TheVariants as tasks
use Rattle.node_commands.specs.declared.words.Page.{Page}
use Rattle.node_commands.specs.declared.words.Page.TheVariants as pages
use Rattle.node_commands.specs.Words.{Word, Command, values, check, proxy, audit, compat, drill, messages, help, version, task_words, page_words, IsNoHelp, Form, Asks, words_of}

-- how many words there are, how long the first is, and its second byte: each form has numbers of its own
abbrev pub mark : List Word → ℕ
mark words = 10000 * length (get_or words 0 []) + (1000 * length words + get_or (get_or words 0 []) 1 0)

-- two lists that the words are
one_list : (words x y : List Word) → words ≡ x → words ≡ y → x ≡ y
one_list words x y p q = sym p ∙ q

-- ---- tasks

abbrev pub task_at : ℕ → Option Task
task_at n = cond (eqb n 53101) (Some (tasks.Relay formats.Sliced))
    (cond (eqb n 54101) (Some (tasks.Relay formats.Compact))
    (cond (eqb n 43097) (Some tasks.Same)
    (cond (eqb n 43117) (Some tasks.Dump)
    (cond (eqb n 63110) (Some (tasks.Encode formats.Sliced))
    (cond (eqb n 64110) (Some (tasks.Encode formats.Compact)) None)))))

abbrev task_form : Task → Word → Word → List Word
task_form task file kind = task_words task ++ file ∷ kind ∷ []

task_is : (task : Task) (file kind : Word) → task_at (mark (task_form task file kind)) ≡ Some task
task_is (tasks.Relay formats.Sliced) file kind = refl
task_is (tasks.Relay formats.Compact) file kind = refl
task_is tasks.Same file kind = refl
task_is tasks.Dump file kind = refl
task_is (tasks.Encode formats.Sliced) file kind = refl
task_is (tasks.Encode formats.Compact) file kind = refl

-- FILE and TYPE stand behind the task and its option
abbrev read_as : Task → List Word → Command
read_as task words = values task (get_or words (length (task_words task)) []) (get_or words (suc (length (task_words task))) [])

read_is : (task : Task) (file kind : Word) → read_as task (task_form task file kind) ≡ values task file kind
read_is (tasks.Relay formats.Sliced) file kind = refl
read_is (tasks.Relay formats.Compact) file kind = refl
read_is tasks.Same file kind = refl
read_is tasks.Dump file kind = refl
read_is (tasks.Encode formats.Sliced) file kind = refl
read_is (tasks.Encode formats.Compact) file kind = refl

pub values_apart : (words : List Word) (a b : Task) (f g k l : Word) → words ≡ task_words a ++ f ∷ k ∷ [] → words ≡ task_words b ++ g ∷ l ∷ [] → values a f k ≡ values b g l
values_apart words a b f g k l p q =
    let one = one_list words (task_form a f k) (task_form b g l) p q in
    let same : a ≡ b = same_Some a b (sym (task_is a f k) ∙ ap (λ (x : List Word). task_at (mark x)) one ∙ task_is b g l) in
    sym (read_is a f k) ∙ (λ i. read_as (same i) (one i)) ∙ read_is b g l

-- words that are those of no task
pub no_task : (words other : List Word) (a : Task) (f k : Word) → words ≡ task_words a ++ f ∷ k ∷ [] → words ≡ other → task_at (mark other) ≡ None → ⊥
no_task words other a f k p q none = never (sym (task_is a f k) ∙ ap (λ (x : List Word). task_at (mark x)) (one_list words (task_form a f k) other p q) ∙ none)
  where
    never : Some a ≡ None → ⊥
    never e = cc

-- ---- commands

-- each has a number
abbrev sort : Command → ℕ
sort (values task file kind) = 0
sort (check file) = 1
sort (proxy text) = 2
sort (drill start count) = 3
sort messages = 4
sort (help page) = 5
sort version = 6
sort (audit client server) = 7
sort (compat old new kind) = 8

-- which the words tell
abbrev sort_at : ℕ → ℕ
sort_at n = cond (eqb n 52104) 1 (cond (eqb n 52114) 2 (cond (eqb n 53114) 3 (cond (eqb n 81101) 4 (cond (eqb n 61045) 5 (cond (eqb n 91045) 6 (cond (eqb n 53117) 7 (cond (eqb n 64111) 8 0)))))))

-- two words of which the second asks for help
abbrev asks_for_help : List Word → Bool
asks_for_help words = eqb (length words) 2 && bytes_eq (get_or words 1 []) (codes "--help")

abbrev sort_of : List Word → ℕ
sort_of words = cond (asks_for_help words) 5 (sort_at (mark words))

sort_of_task : (task : Task) (file kind : Word) → sort_of (task_form task file kind) ≡ 0
sort_of_task (tasks.Relay formats.Sliced) file kind = refl
sort_of_task (tasks.Relay formats.Compact) file kind = refl
sort_of_task tasks.Same file kind = refl
sort_of_task tasks.Dump file kind = refl
sort_of_task (tasks.Encode formats.Sliced) file kind = refl
sort_of_task (tasks.Encode formats.Compact) file kind = refl

sort_of_page : (page : Page) → sort_of (page_words page) ≡ 5
sort_of_page pages.All = refl
sort_of_page pages.Relay = refl
sort_of_page pages.Same = refl
sort_of_page pages.Dump = refl
sort_of_page pages.Encode = refl
sort_of_page pages.Check = refl
sort_of_page pages.Proxy = refl
sort_of_page pages.Call = refl
sort_of_page pages.Serve = refl
sort_of_page pages.Gate = refl
sort_of_page pages.Messages = refl
sort_of_page pages.Audit = refl
sort_of_page pages.Compat = refl
sort_of_page pages.Drill = refl

no_help : (word : Word) → IsNoHelp word → bytes_eq word (codes "--help") ≡ false
no_help word h = by (bytes_eq word (codes "--help")) refl
  where
    by : (b : Bool) → bytes_eq word (codes "--help") ≡ b → bytes_eq word (codes "--help") ≡ false
    by true e = absurd (h ((bytes_eq-Decides word (codes "--help")).0 e))
    by false e = e

sorted : (words : List Word) (c : Command) → Form words c → sort_of words ≡ sort c
sorted words (values task file kind) p = ap sort_of p.0 ∙ sort_of_task task file kind
sorted words (check file) p = ap sort_of p.0 ∙ ap (λ (b : Bool). cond b 5 1) (no_help file p.2)
sorted words (proxy text) p = ap sort_of p.0 ∙ ap (λ (b : Bool). cond b 5 2) (no_help text p.2)
sorted words (audit client server) p = ap sort_of p.0
sorted words (compat old new kind) p = ap sort_of p.0
sorted words (drill start count) p = ap sort_of p.0
sorted words messages p = ap sort_of p
sorted words (help page) p = ap sort_of p ∙ sort_of_page page
sorted words version p = ap sort_of p

-- ---- pages

-- by the first two bytes of the first word
abbrev page_at : ℕ → Option Page
page_at n = cond (eqb n 45045) (Some pages.All)
    (cond (eqb n 114101) (Some pages.Relay)
    (cond (eqb n 115097) (Some pages.Same)
    (cond (eqb n 100117) (Some pages.Dump)
    (cond (eqb n 101110) (Some pages.Encode)
    (cond (eqb n 99104) (Some pages.Check)
    (cond (eqb n 112114) (Some pages.Proxy)
    (cond (eqb n 99097) (Some pages.Call)
    (cond (eqb n 115101) (Some pages.Serve)
    (cond (eqb n 103097) (Some pages.Gate)
    (cond (eqb n 109101) (Some pages.Messages)
    (cond (eqb n 97117) (Some pages.Audit)
    (cond (eqb n 99111) (Some pages.Compat)
    (cond (eqb n 100114) (Some pages.Drill) None)))))))))))))

abbrev page_mark : List Word → ℕ
page_mark words = 1000 * get_or (get_or words 0 []) 0 0 + get_or (get_or words 0 []) 1 0

page_is : (page : Page) → page_at (page_mark (page_words page)) ≡ Some page
page_is pages.All = refl
page_is pages.Relay = refl
page_is pages.Same = refl
page_is pages.Dump = refl
page_is pages.Encode = refl
page_is pages.Check = refl
page_is pages.Proxy = refl
page_is pages.Call = refl
page_is pages.Serve = refl
page_is pages.Gate = refl
page_is pages.Messages = refl
page_is pages.Audit = refl
page_is pages.Compat = refl
page_is pages.Drill = refl

-- they are those of no task
pub page_no_task : (page : Page) → task_at (mark (page_words page)) ≡ None
page_no_task pages.All = refl
page_no_task pages.Relay = refl
page_no_task pages.Same = refl
page_no_task pages.Dump = refl
page_no_task pages.Encode = refl
page_no_task pages.Check = refl
page_no_task pages.Proxy = refl
page_no_task pages.Call = refl
page_no_task pages.Serve = refl
page_no_task pages.Gate = refl
page_no_task pages.Messages = refl
page_no_task pages.Audit = refl
page_no_task pages.Compat = refl
page_no_task pages.Drill = refl

-- there are two words at most
pub page_few : (page : Page) → length (page_words page) ≤ 2
page_few pages.All = omega arith
page_few pages.Relay = omega arith
page_few pages.Same = omega arith
page_few pages.Dump = omega arith
page_few pages.Encode = omega arith
page_few pages.Check = omega arith
page_few pages.Proxy = omega arith
page_few pages.Call = omega arith
page_few pages.Serve = omega arith
page_few pages.Gate = omega arith
page_few pages.Messages = omega arith
page_few pages.Audit = omega arith
page_few pages.Compat = omega arith
page_few pages.Drill = omega arith

pages_apart : (words : List Word) (a b : Page) → words ≡ page_words a → words ≡ page_words b → a ≡ b
pages_apart words a b p q = same_Some a b (sym (page_is a) ∙ ap (λ (x : List Word). page_at (page_mark x)) (one_list words (page_words a) (page_words b) p q) ∙ page_is b)

drills_apart : (words : List Word) (m n k l : ℕ) → Form words (drill m n) → Form words (drill k l) → drill m n ≡ drill k l
drills_apart words m n k l p q =
    let one = one_list words (codes "drill" ∷ decimal m ∷ decimal n ∷ []) (codes "drill" ∷ decimal k ∷ decimal l ∷ []) p.0 q.0 in
    let start : m ≡ k = decimal_injective m k (omega (arith, p.1)) (omega (arith, q.1)) (ap (λ (x : List Word). get_or x 1 []) one) in
    let count : n ≡ l = decimal_injective n l (omega (arith, p.3)) (omega (arith, q.3)) (ap (λ (x : List Word). get_or x 2 []) one) in
    λ i. drill (start i) (count i)

pub forms_apart : (words : List Word) (a b : Command) → Form words a → Form words b → a ≡ b
forms_apart words (values a f k) (values b g l) p q = values_apart words a b f g k l p.0 q.0
forms_apart words (check f) (check g) p q = cc (p.0, q.0)
forms_apart words (proxy f) (proxy g) p q = cc (p.0, q.0)
forms_apart words (audit f g) (audit h k) p q = cc (p.0, q.0)
forms_apart words (compat f g k) (compat h l m) p q = cc (p.0, q.0)
forms_apart words (drill m n) (drill k l) p q = drills_apart words m n k l p q
forms_apart words messages messages p q = refl
forms_apart words (help a) (help b) p q = ap help (pages_apart words a b p q)
forms_apart words version version p q = refl
forms_apart words a b p q = absurd (omega (arith, sym (sorted words a p) ∙ sorted words b q))

pub asks_apart : (words : List Word) (a b : Option Command) → Asks words a → Asks words b → a ≡ b
asks_apart words None None p q = refl
asks_apart words None (Some d) p q = absurd (p d q)
asks_apart words (Some c) None p q = absurd (q c p)
asks_apart words (Some c) (Some d) p q = ap (λ (x : Command). Some x) (forms_apart words c d p q)

-- ---- words where they lie in memory

pub four_words : (words : List (String Global)) (a b c d : String Global) → 4 ≤ length words → length words < 5 → a ≡ get_or words 0 a → b ≡ get_or words 1 b → c ≡ get_or words 2 c → d ≡ get_or words 3 d
    → string_bytes a ∷ string_bytes b ∷ string_bytes c ∷ string_bytes d ∷ [] ≡ words_of words
four_words [] a b c d least below p q r s = absurd (omega (arith, least))
four_words (v ∷ []) a b c d least below p q r s = absurd (omega (arith, least))
four_words (v ∷ w ∷ []) a b c d least below p q r s = absurd (omega (arith, least))
four_words (v ∷ w ∷ x ∷ []) a b c d least below p q r s = absurd (omega (arith, least))
four_words (v ∷ w ∷ x ∷ y ∷ []) a b c d least below p q r s = λ i. string_bytes (p i) ∷ string_bytes (q i) ∷ string_bytes (r i) ∷ string_bytes (s i) ∷ []
four_words (v ∷ w ∷ x ∷ y ∷ z ∷ more) a b c d least below p q r s = absurd (omega (arith, below))
