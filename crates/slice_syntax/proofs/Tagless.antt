-- No member of a struct is optional, since the grammar has no tag there.
use Rattle.std.proofs.Common.{◌≡◌, List, [], ◌∷◌, Option, None, refl}
use Rattle.slice_syntax.specs.declared.tree.Word.{Word}
use Rattle.slice_syntax.specs.declared.tree.Path.{Path}
use Rattle.slice_syntax.specs.declared.tree.TypeWord.{TypeWord}
use Rattle.slice_syntax.specs.declared.tree.Constant.{Constant}
use Rattle.slice_syntax.specs.declared.tree.Field.{Field}
use Rattle.slice_syntax.specs.declared.tree.OpTree.{OpTree}
use Rattle.slice_syntax.specs.declared.tree.Item.{Item}
use Rattle.slice_syntax.specs.Lexemes.{Lexeme, Lexemes}
use Rattle.slice_syntax.specs.Grammar.{both, Spells}
use Rattle.slice_syntax.specs.Rules as rules
use Rattle.slice_syntax.specs.Places.{Each, HasNoTags}
use Rattle.slice_syntax.proofs.Giving.{Gives, by_made, by_both, by_or, by_series, by_any, by_first, by_second}

-- any token
abbrev Any : Lexeme → Type 0
Any l = Unit {0}

constant_untagged : Gives Any HasNoTags rules.constant_item
unfolding rules.constant_item
constant_untagged = by_both {H = λ (make : Constant → Item). (v : Constant) → HasNoTags (make v)}
    (by_both {H = λ (make : Word → Constant → Item). (w : Word) (v : Constant) → HasNoTags (make w v)} (by_made {H = λ x. Unit {0}} by_any (λ kind a w v. tt)) by_any (λ make w a b. a w))
    by_any (λ make v a b. a v)

enum_untagged : Gives Any HasNoTags rules.enum_item
unfolding rules.enum_item
enum_untagged = by_both {H = λ (make : List (Word × Option Constant) → Item). (es : List (Word × Option Constant)) → HasNoTags (make es)}
    (by_made {H = λ x. Unit {0}} by_any (λ w a es. tt)) by_any (λ make es a b. a es)

member_untagged : Gives Any (λ (f : Field). f.tag ≡ None) rules.member
unfolding rules.member
member_untagged = by_both {H = λ (make : Option Constant → Field). (v : Option Constant) → (make v).tag ≡ None}
    (by_both {H = λ (make : Word → Option Constant → Field). (w : Word) (v : Option Constant) → (make w v).tag ≡ None} (by_made {H = λ x. Unit {0}} by_any (λ kind a w v. refl)) by_any (λ make w a b. a w))
    by_any (λ make v a b. a v)

struct_untagged : Gives Any HasNoTags rules.struct_item
unfolding rules.struct_item rules.members
struct_untagged = by_both {H = λ (make : List Field → Item). (fs : List Field) → Each (λ (f : Field). f.tag ≡ None) fs → HasNoTags (make fs)}
    (by_made {H = λ x. Unit {0}} by_any (λ w a fs b. b)) (by_first (by_second (by_series member_untagged))) (λ make fs a b. a fs b)

sequence_untagged : Gives Any HasNoTags rules.sequence_item
unfolding rules.sequence_item
sequence_untagged = by_both {H = λ (make : Word → Item). (w : Word) → HasNoTags (make w)} (by_made {H = λ x. Unit {0}} by_any (λ kind a w. tt)) by_any (λ make w a b. a w)

dictionary_untagged : Gives Any HasNoTags rules.dictionary_item
unfolding rules.dictionary_item
dictionary_untagged = by_both {H = λ (make : Word → Item). (w : Word) → HasNoTags (make w)}
    (by_both {H = λ (make : TypeWord → Word → Item). (t : TypeWord) (w : Word) → HasNoTags (make t w)} (by_made {H = λ x. Unit {0}} by_any (λ key a t w. tt)) by_any (λ make t a b. a t))
    by_any (λ make w a b. a w)

abbrev MakesUntagged : (Word → Item) → Type 0
MakesUntagged make = (w : Word) → HasNoTags (make w)

class_untagged : Gives Any HasNoTags rules.class_item
unfolding rules.class_item rules.class_body
class_untagged = by_both {H = λ x. Unit {0}} {K = MakesUntagged} by_any
    (by_or (by_made {H = λ x. Unit {0}} by_any (λ x a w. tt))
    (by_both {H = λ (make : List Field → Word → Item). (fs : List Field) → MakesUntagged (make fs)}
    (by_both {H = λ (make : Option Path → List Field → Word → Item). (p : Option Path) (fs : List Field) → MakesUntagged (make p fs)} (by_made {H = λ x. Unit {0}} by_any (λ n a p fs w. tt)) by_any (λ make p a b. a p))
    by_any (λ make fs a b. a fs)))
    (λ w make a b. b w)

exception_untagged : Gives Any HasNoTags rules.exception_item
unfolding rules.exception_item
exception_untagged = by_both {H = λ (make : List Field → Item). (fs : List Field) → HasNoTags (make fs)}
    (by_both {H = λ (make : Option Path → List Field → Item). (p : Option Path) (fs : List Field) → HasNoTags (make p fs)} (by_made {H = λ x. Unit {0}} by_any (λ w a p fs. tt)) by_any (λ make p a b. a p))
    by_any (λ make fs a b. a fs)

interface_untagged : Gives Any HasNoTags rules.interface_item
unfolding rules.interface_item rules.interface_body
interface_untagged = by_both {H = λ x. Unit {0}} {K = MakesUntagged} by_any
    (by_or (by_made {H = λ x. Unit {0}} by_any (λ x a w. tt))
    (by_both {H = λ (make : List OpTree → Word → Item). (ops : List OpTree) → MakesUntagged (make ops)} (by_made {H = λ x. Unit {0}} by_any (λ bs a ops w. tt)) by_any (λ make ops a b. a ops)))
    (λ w make a b. b w)

definition_untagged : Gives Any HasNoTags rules.definition
unfolding rules.definition
definition_untagged = by_or constant_untagged (by_or enum_untagged (by_or struct_untagged (by_or sequence_untagged (by_or dictionary_untagged (by_or class_untagged (by_or exception_untagged interface_untagged))))))

any_tokens : (ls : Lexemes) → Each Any ls
any_tokens [] = tt
any_tokens (l ∷ ls) = (tt, any_tokens ls)

pub no_tags : (ls : Lexemes) (item : Item) → Spells (both (λ x y. y) rules.metadata rules.definition) ls item → HasNoTags item
no_tags ls item s = (by_second {g = rules.metadata} definition_untagged).gives ls item s (any_tokens ls)
