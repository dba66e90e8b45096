-- What holds of tokens holds of the places and names in what they spell.
use Rattle.std.proofs.Common.{ℕ, List, [], ◌∷◌, map, Option, Some, None}
use Rattle.std.specs.Prelude.{unwrap_or, IsTrue}
use Rattle.slice_syntax.specs.declared.terminal.Terminal.{Terminal}
use Rattle.slice_syntax.specs.declared.terminal.Terminal.TheVariants as terminals
use Rattle.slice_syntax.specs.declared.tree.Word.{Word}
use Rattle.slice_syntax.specs.declared.tree.Path.{Path}
use Rattle.slice_syntax.specs.declared.tree.TypeWord.{TypeWord}
use Rattle.slice_syntax.specs.declared.tree.Constant.{Constant}
use Rattle.slice_syntax.specs.declared.tree.Field.{Field}
use Rattle.slice_syntax.specs.declared.tree.Param.{Param}
use Rattle.slice_syntax.specs.declared.tree.OpTree.{OpTree}
use Rattle.slice_syntax.specs.declared.tree.Item.{Item}
use Rattle.slice_syntax.specs.Lexemes.{Lexeme, Lexemes, has, terminal_of}
use Rattle.slice_syntax.specs.Grammar.{both, Spells, one}
use Rattle.slice_syntax.specs.Rules as rules
use Rattle.slice_syntax.specs.Terminals.{colons}
use Rattle.slice_syntax.specs.Files.{head}
use Rattle.slice_syntax.specs.Places.{type_place, Each, Where, InField, InOp, InItem}
use Rattle.slice_syntax.proofs.Giving.{Gives, by_token, by_nothing, by_made, by_both, by_or, by_series, by_any, by_first, by_second, by_optional, by_parted}

-- Where T holds of a token, N holds of the name that it is, and P of its place.
module _ (T : Lexeme → Type 0) (N : Word → Type 0) (P : ℕ → Type 0)
    (name : (l : Lexeme) → IsTrue (has (terminals.Word ∷ []) (terminal_of l)) → T l → N (rules.word_of l)) (at : (l : Lexeme) → T l → P l.from) where
  -- in a member, an operation, a declaration
  abbrev Field_in : Field → Type 0
  Field_in = InField N P

  abbrev Op_in : OpTree → Type 0
  Op_in = InOp N P

  abbrev Item_in : Item → Type 0
  Item_in = InItem N P

  -- ---- rules
  word_in : Gives T N rules.word
  unfolding rules.word
  word_in = by_token name

  word_at : Gives T (λ (w : Word). P w.place) rules.word
  unfolding rules.word
  word_at = by_token (λ l s p. at l p)

  names_in : Gives T (λ (held : List (List ℕ) × ℕ). P held.1) rules.names
  unfolding rules.names
  names_in = by_both word_at by_any (λ w others a b. a)

  outer_or : (outer : Option ℕ) (place : ℕ) → Where P outer → P place → P (unwrap_or outer place)
  outer_or None place a b = b
  outer_or (Some x) place a b = a

  one_in : (terminal : Terminal) → Gives T P (one terminal)
  one_in terminal = by_token (λ l s p. at l p)

  scoped_in : Gives T (λ (p : Path). P p.place) rules.scoped
  unfolding rules.scoped
  scoped_in = by_both {H = λ make. (held : List (List ℕ) × ℕ) → P held.1 → P (make held).place} (by_made (by_optional (one_in colons)) (λ outer a held b. outer_or outer held.1 a b)) names_in (λ make held a b. a held b)

  type_in : Gives T (λ (t : TypeWord). P (type_place t)) rules.type_word
  unfolding rules.type_word rules.plain_type rules.object_type rules.named_type
  type_in = by_or (by_token (λ l s p. at l p)) (by_or
      (by_both {H = λ (make : Option ℕ → TypeWord). (x : Option ℕ) → P (type_place (make x))} (by_token (λ l s p x. at l p)) by_any (λ make x a b. a x))
      (by_both {H = λ (make : Option ℕ → TypeWord). (x : Option ℕ) → P (type_place (make x))} (by_made scoped_in (λ p a x. a)) by_any (λ make x a b. a x)))

  value_in : Gives T (λ (c : Constant). P c.place) rules.value
  unfolding rules.value rules.signed_number rules.number rules.text rules.truth rules.named
  value_in = by_or (by_both {H = λ (make : Lexeme → Constant). (x : Lexeme) → P (make x).place} (by_token (λ l s p x. at l p)) by_any (λ make x a b. a x))
      (by_or (by_token (λ l s p. at l p)) (by_or (by_token (λ l s p. at l p)) (by_or (by_token (λ l s p. at l p)) (by_made scoped_in (λ p a. a)))))

  given_in : Gives T (Where (λ (c : Constant). P c.place)) rules.given
  unfolding rules.given
  given_in = by_optional (by_second value_in)

  tag_in : Gives T (Where (λ (c : Constant). P c.place)) rules.tag
  unfolding rules.tag
  tag_in = by_optional (by_first (by_second (by_second value_in)))

  abbrev AtValue : Option Constant → Type 0
  AtValue v = Where (λ (c : Constant). P c.place) v

  constant_in : Gives T Item_in rules.constant_item
  unfolding rules.constant_item
  constant_in = by_both {H = λ (make : Constant → Item). (v : Constant) → P v.place → Item_in (make v)}
      (by_both {H = λ (make : Word → Constant → Item). (w : Word) → N w → (v : Constant) → P v.place → Item_in (make w v)} (by_made (by_second (by_second type_in)) (λ kind a w b v d. (b, a, d))) word_in (λ make w a b. a w b))
      (by_first (by_second value_in)) (λ make v a b. a v b)

  entry_in : Gives T (λ (e : Word × Option Constant). N e.0 × AtValue e.1) rules.entry
  unfolding rules.entry
  entry_in = by_both word_in given_in (λ w v a b. (a, b))

  entries_map : (es : List rules.Entry) → Each (λ (e : rules.Entry). N e.0.0 × AtValue e.0.1) es → Each (λ (e : Word × Option Constant). N e.0 × AtValue e.1) (map (λ (e : rules.Entry). e.0) es)
  entries_map [] h = tt
  entries_map (e ∷ es) h = (h.0, entries_map es h.1)

  entries_in : Gives T (Each (λ (e : Word × Option Constant). N e.0 × AtValue e.1)) rules.entries
  unfolding rules.entries rules.entry_comma
  entries_in = by_made (by_series (by_both {Holds = λ (e : rules.Entry). N e.0.0 × AtValue e.0.1} entry_in by_any (λ e comma a b. a))) entries_map

  enum_in : Gives T Item_in rules.enum_item
  unfolding rules.enum_item
  enum_in = by_both {H = λ (make : List (Word × Option Constant) → Item). (es : List (Word × Option Constant)) → Each (λ (e : Word × Option Constant). N e.0 × AtValue e.1) es → Item_in (make es)}
      (by_made (by_second word_in) (λ w a es b. (a, b))) (by_first (by_second entries_in)) (λ make es a b. a es b)

  member_in : Gives T Field_in rules.member
  unfolding rules.member
  member_in = by_both {H = λ (make : Option Constant → Field). (v : Option Constant) → AtValue v → Field_in (make v)}
      (by_both {H = λ (make : Word → Option Constant → Field). (w : Word) → N w → (v : Option Constant) → AtValue v → Field_in (make w v)} (by_made (by_second type_in) (λ kind a w b v d. (b, a, tt, d))) word_in (λ make w a b. a w b))
      (by_first given_in) (λ make v a b. a v b)

  struct_in : Gives T Item_in rules.struct_item
  unfolding rules.struct_item rules.members
  struct_in = by_both {H = λ (make : List Field → Item). (fs : List Field) → Each Field_in fs → Item_in (make fs)}
      (by_made (by_second word_in) (λ w a fs b. (a, b))) (by_first (by_second (by_series member_in))) (λ make fs a b. a fs b)

  sequence_in : Gives T Item_in rules.sequence_item
  unfolding rules.sequence_item
  sequence_in = by_both {H = λ (make : Word → Item). (w : Word) → N w → Item_in (make w)}
      (by_made (by_second (by_second (by_second type_in))) (λ kind a w b. (b, a))) (by_first (by_second word_in)) (λ make w a b. a w b)

  dictionary_in : Gives T Item_in rules.dictionary_item
  unfolding rules.dictionary_item
  dictionary_in = by_both {H = λ (make : Word → Item). (w : Word) → N w → Item_in (make w)}
      (by_both {H = λ (make : TypeWord → Word → Item). (t : TypeWord) → P (type_place t) → (w : Word) → N w → Item_in (make t w)}
      (by_made (by_second (by_second (by_second type_in))) (λ key a held b w d. (d, a, b))) (by_second (by_second type_in)) (λ make t a b. a t b)) (by_first (by_second word_in)) (λ make w a b. a w b)

  tagged_in : Gives T Field_in rules.tagged_member
  unfolding rules.tagged_member
  tagged_in = by_both {H = λ (make : Option Constant → Field). (v : Option Constant) → AtValue v → Field_in (make v)}
      (by_both {H = λ (make : Word → Option Constant → Field). (w : Word) → N w → (v : Option Constant) → AtValue v → Field_in (make w v)}
      (by_both {H = λ (make : TypeWord → Word → Option Constant → Field). (t : TypeWord) → P (type_place t) → (w : Word) → N w → (v : Option Constant) → AtValue v → Field_in (make t w v)}
      (by_made (by_second tag_in) (λ tag a t b w d v e. (d, b, a, e))) type_in (λ make t a b. a t b)) word_in (λ make w a b. a w b)) (by_first given_in) (λ make v a b. a v b)

  body_in : Gives T (Each Field_in) rules.body
  unfolding rules.body rules.tagged_members
  body_in = by_first (by_second (by_series tagged_in))

  base_in : Gives T (Where (λ (p : Path). P p.place)) rules.base
  unfolding rules.base
  base_in = by_optional (by_second scoped_in)

  compact_in : Gives T (Where (λ (c : Constant). P c.place)) rules.compact
  unfolding rules.compact
  compact_in = by_optional (by_first (by_second value_in))

  abbrev MakesItem : (Word → Item) → Type 0
  MakesItem make = (w : Word) → N w → Item_in (make w)

  class_in : Gives T Item_in rules.class_item
  unfolding rules.class_item rules.class_body
  class_in = by_both {K = MakesItem} (by_second word_in)
      (by_or (by_made {H = λ x. Unit {0}} by_any (λ x a w b. (b, tt, tt, tt)))
      (by_both {H = λ (make : List Field → Word → Item). (fs : List Field) → Each Field_in fs → MakesItem (make fs)}
      (by_both {H = λ (make : Option Path → List Field → Word → Item). (p : Option Path) → Where (λ (p : Path). P p.place) p → (fs : List Field) → Each Field_in fs → MakesItem (make p fs)}
      (by_made compact_in (λ n c p a fs b w d. (d, c, a, b))) base_in (λ make p a b. a p b)) body_in (λ make fs a b. a fs b)))
      (λ w make a b. b w a)

  exception_in : Gives T Item_in rules.exception_item
  unfolding rules.exception_item
  exception_in = by_both {H = λ (make : List Field → Item). (fs : List Field) → Each Field_in fs → Item_in (make fs)}
      (by_both {H = λ (make : Option Path → List Field → Item). (p : Option Path) → Where (λ (p : Path). P p.place) p → (fs : List Field) → Each Field_in fs → Item_in (make p fs)}
      (by_made (by_second word_in) (λ w a p b fs d. (a, b, d))) base_in (λ make p a b. a p b)) body_in (λ make fs a b. a fs b)

  abbrev AtPaths : List Path → Type 0
  AtPaths paths = Each (λ (p : Path). P p.place) paths

  bases_in : Gives T AtPaths rules.bases
  unfolding rules.bases rules.paths
  bases_in = by_or (by_second (by_parted scoped_in)) (by_nothing tt)

  thrown_in : Gives T AtPaths rules.thrown
  unfolding rules.thrown rules.paths
  thrown_in = by_or (by_second (by_parted scoped_in)) (by_nothing tt)

  parameter_in : Gives T (λ (p : Param). Field_in p.field) rules.parameter
  unfolding rules.parameter
  parameter_in = by_both {H = λ (make : Word → Param). (w : Word) → N w → Field_in (make w).field}
      (by_both {H = λ (make : TypeWord → Word → Param). (t : TypeWord) → P (type_place t) → (w : Word) → N w → Field_in (make t w).field}
      (by_both {H = λ (make : Option Constant → TypeWord → Word → Param). (v : Option Constant) → AtValue v → (t : TypeWord) → P (type_place t) → (w : Word) → N w → Field_in (make v t w).field}
      (by_made {H = λ x. Unit {0}} by_any (λ o z v a t b w d. (d, b, a, tt))) (by_second tag_in) (λ make v a b. a v b)) type_in (λ make t a b. a t b)) word_in (λ make w a b. a w b)

  parameters_in : Gives T (Each (λ (p : Param). Field_in p.field)) rules.parameters
  unfolding rules.parameters rules.parameter_list
  parameters_in = by_or (by_parted parameter_in) (by_nothing tt)

  abbrev AtResult : Option Constant × Option TypeWord → Type 0
  AtResult r = AtValue r.0 × Where (λ (t : TypeWord). P (type_place t)) r.1

  answered_in : Gives T AtResult rules.answered
  unfolding rules.answered
  answered_in = by_or (by_made {H = λ x. Unit {0}} by_any (λ v a. (tt, tt))) (by_both tag_in type_in (λ t kind a b. (a, b)))

  operation_in : Gives T Op_in rules.operation
  unfolding rules.operation
  operation_in = by_both {H = λ (make : List Path → OpTree). (ts : List Path) → AtPaths ts → Op_in (make ts)}
      (by_both {H = λ (make : List Param → List Path → OpTree). (ps : List Param) → Each (λ (p : Param). Field_in p.field) ps → (ts : List Path) → AtPaths ts → Op_in (make ps ts)}
      (by_both {H = λ (make : Word → List Param → List Path → OpTree). (w : Word) → N w → (ps : List Param) → Each (λ (p : Param). Field_in p.field) ps → (ts : List Path) → AtPaths ts → Op_in (make w ps ts)}
      (by_both {H = λ (make : (Option Constant × Option TypeWord) → Word → List Param → List Path → OpTree). (r : Option Constant × Option TypeWord) → AtResult r → (w : Word) → N w → (ps : List Param) → Each (λ (p : Param). Field_in p.field) ps → (ts : List Path) → AtPaths ts → Op_in (make r w ps ts)}
      (by_made {H = λ x. Unit {0}} by_any (λ i z r a w b ps d ts e. (b, a.0, a.1, d, e))) answered_in (λ make r a b. a r b)) word_in (λ make w a b. a w b)) (by_first (by_second parameters_in)) (λ make ps a b. a ps b)) (by_first thrown_in) (λ make ts a b. a ts b)

  interface_in : Gives T Item_in rules.interface_item
  unfolding rules.interface_item rules.interface_body rules.operations
  interface_in = by_both {K = MakesItem} (by_second word_in)
      (by_or (by_made {H = λ x. Unit {0}} by_any (λ x a w b. (b, tt, tt)))
      (by_both {H = λ (make : List OpTree → Word → Item). (ops : List OpTree) → Each Op_in ops → MakesItem (make ops)} (by_made bases_in (λ bs a ops b w d. (d, a, b))) (by_first (by_second (by_series operation_in))) (λ make ops a b. a ops b)))
      (λ w make a b. b w a)

  definition_in : Gives T Item_in rules.definition
  unfolding rules.definition
  definition_in = by_or constant_in (by_or enum_in (by_or struct_in (by_or sequence_in (by_or dictionary_in (by_or class_in (by_or exception_in interface_in))))))

  -- the ways out of here
  pub in_definition : (ls : Lexemes) (item : Item) → Spells (both (λ x y. y) rules.metadata rules.definition) ls item → Each T ls → Item_in item
  in_definition ls item s h = (by_second {g = rules.metadata} definition_in).gives ls item s h

  pub in_word : (ls : Lexemes) (w : Word) → Spells rules.word ls w → Each T ls → N w
  in_word ls w s h = word_in.gives ls w s h

  pub in_next_word : (terminal : Terminal) (ls : Lexemes) (w : Word) → Spells (both (λ x y. y) (one terminal) rules.word) ls w → Each T ls → N w
  in_next_word terminal ls w s h = (by_second {g = one terminal} word_in).gives ls w s h

  head_in : Gives T (Each N) head
  unfolding head
  head_in = by_first (by_second (by_parted word_in))

  pub in_head : (ls : Lexemes) (ws : List Word) → Spells (both (λ x y. y) rules.metadata head) ls ws → Each T ls → Each N ws
  in_head ls ws s h = (by_second {g = rules.metadata} head_in).gives ls ws s h
