-- Tokens written one after the other, as a loop or an object does.
use Rattle.std.proofs.Common.{◌≡◌, ◌+◌, ◌<◌, ◌≤◌, ℕ, suc, max, ℤ, pos, negsuc, List, [], ◌∷◌, ◌++◌, length, get_or, drop, SFits, w64, Result, Ok, OnOk, Option, Some, option_map, option_and_then, Less, Greater, ◌^◌, refl, sym, ap, ap₂, ◌∙◌, subst, arith, append_assoc, append-nil}
use Rattle.std.proofs.lemmas.List.{drop_all, drop_more}
use Rattle.std.proofs.lemmas.Result.{on_ok_weaker}
use Rattle.std.proofs.lemmas.Cmp.{nat_list_cmp_total}
use Rattle.std.specs.Fmt.{signed_decimal}
use Rattle.std.specs.Str.{IsUtf8}
use Rattle.std.specs.Ordering.{nat_cmp, ordering_reverse}
use Rattle.std.specs.Cmp.Lexicographic.{slice_cmp}
use Rattle.std.specs.declared.alloc.AllocError.{AllocError}
use Rattle.json.specs.Token.{Token}
use Rattle.json.specs.Lex.{tokens}
use Rattle.json.specs.Print.{print}
use Rattle.json.specs.Json as json
use Rattle.json.specs.Tree as tree
use Rattle.json.specs.Tree.{json_tokens, items_tokens, members_tokens}
use Rattle.json.specs.Written.{Written, Writes}
use Rattle.json.proofs.Printed.Trees.{value-json_tokens}
use Rattle.serde_json.specs.Data.{unsigned, Data, null, boolean, number, string, array, object, Items, no_items, item, Members, no_members, member, put, depth, items_depth, members_depth}
use Rattle.serde_json.specs.Find.{of_integer}
use Rattle.serde_json.specs.Read.{max_depth, of_json, of_items, of_members}
use Rattle.serde_json.specs.Written.{outline, items_outline, members_outline, compact_text}
use Rattle.serde_json.proofs.Numbers.{number_of-decimal, number_of-negative}
use Rattle.serde_json.proofs.Texts.{print-outline}
use Rattle.graph_json.specs.Printing.{Adds, IsRead, AreRead, Prints, PrintsItems, PrintsMembers}
use Rattle.graph_json.specs.Texts.{IsText}

abbrev pub Wrote : Type 0
Wrote = Result (Unit {0}) AllocError

-- ---- tokens

pub added : (r : Wrote) {old new : Written} {t : Token} → Writes r old new t → OnOk r (Adds (t ∷ []) old new)
added r w = on_ok_weaker r (λ e. record { before = w.room.0; tokens = e }) w.ok

-- so where it is known that the write went well
pub wrote : (r : Wrote) (x : Unit {0}) {old new : Written} {t : Token} → r ≡ Ok x → Writes r old new t → Adds (t ∷ []) old new
wrote r x {old} {new} {t} is w = subst (λ (s : Wrote). OnOk s (Adds (t ∷ []) old new)) is (added r w)

both_added : {ts us : List Token} {a b c : Written} → Adds ts a b → Adds us b c → Adds (ts ++ us) a c
both_added {ts} {us} {a} {b} {c} first second = record {
  before = second.before ∙ first.before;
  tokens = second.tokens ∙ ap (λ l. l ++ us) first.tokens ∙ append_assoc a.tokens ts us;
}

-- ---- data of one token

pub token_printed : (d : Data) (t : Token) → json_tokens (outline d) ≡ t ∷ [] → IsRead d
    → (r : Wrote) (old new : Written) → Writes r old new t → OnOk r (Prints d old new)
token_printed d t is reads r old new w = on_ok_weaker r (λ a. record { adds = subst (λ ts. Adds ts old new) (sym is) a; read = reads }) (added r w)

pub unsigned_read : (n : ℕ) → n < 2 ^ 64 → IsRead (number (unsigned n))
unsigned_read n fits = ap (option_map number) (number_of-decimal n fits)

pub integer_token : (z : ℤ) → json_tokens (outline (number (of_integer z))) ≡ Token.number (signed_decimal z) ∷ []
integer_token (pos n) = refl
integer_token (negsuc n) = refl

pub integer_read : (z : ℤ) → SFits w64 z → IsRead (number (of_integer z))
integer_read (pos n) fits = unsigned_read n (grind arith)
integer_read (negsuc n) fits = ap (option_map number) (number_of-negative n (grind arith))

-- ---- arrays

pub item_printed : {d : Data} {ds : Items} {a b c : Written} → Prints d a b → PrintsItems ds b c → PrintsItems (item d ds) a c
item_printed {d} {ds} first rest = record {
  adds = both_added first.adds rest.adds;
  read = ap (option_and_then (λ x. option_map (item x) (of_items (items_outline ds)))) first.read ∙ ap (option_map (item d)) rest.read;
}

pub items_ended : {a b : Written} → Adds (Token.end_array ∷ []) a b → PrintsItems no_items a b
items_ended end = record { adds = end; read = refl }

pub array_printed : {ds : Items} {a b c : Written} → Adds (Token.begin_array ∷ []) a b → PrintsItems ds b c → Prints (array ds) a c
array_printed begin rest = record { adds = both_added begin rest.adds; read = ap (option_map array) rest.read }

module _ {A : Type 0} (noted : List A → Items) where
  -- whatever ends the array well from here ends it well from the start
  abbrev pub IsLeft : List A → ℕ → Written → Written → Type 0
  IsLeft xs i start now = (end : Written) → PrintsItems (noted (drop i xs)) now end → PrintsItems (noted xs) start end

  pub one_more : (one : A → Data) → ((x : A) (rest : List A) → noted (x ∷ rest) ≡ item (one x) (noted rest))
      → (xs : List A) (i : ℕ) (start now next : Written) (x other : A) → i < length xs → x ≡ get_or xs i other → IsLeft xs i start now
      → Prints (one x) now next → IsLeft xs (i + 1) start next
  one_more one cons xs i start now next x other lt is left printed = λ end rest.
      let behind = drop (i + 1) xs in
      let here : noted (drop i xs) ≡ item (one x) (noted behind) = ap noted (drop_more xs i other lt) ∙ ap (λ y. noted (y ∷ behind)) (sym is) ∙ cons x behind in
      left end (subst (λ ds. PrintsItems ds now end) (sym here) (item_printed printed rest))

  pub all_printed : noted [] ≡ no_items → (xs : List A) (i : ℕ) (start now new : Written) (r : Wrote) → length xs ≤ i → IsLeft xs i start now
      → Writes r now new Token.end_array → OnOk r (PrintsItems (noted xs) start new)
  all_printed nil xs i start now new r le left w =
      let here : noted (drop i xs) ≡ no_items = ap noted (drop_all i xs le) ∙ nil in
      on_ok_weaker r (λ e. left new (subst (λ ds. PrintsItems ds now new) (sym here) (items_ended e))) (added r w)

-- ---- objects

pub member_printed : {name : List ℕ} {d : Data} {ms : Members} {a b c e : Written} → Adds (Token.key name ∷ []) a b → Prints d b c → PrintsMembers ms c e
    → PrintsMembers (member name d ms) a e
member_printed key value rest = record { adds = both_added key (both_added value.adds rest.adds); read = (value.read, rest.read) }

pub members_ended : {a b : Written} → Adds (Token.end_object ∷ []) a b → PrintsMembers no_members a b
members_ended end = record { adds = end; read = tt }

-- the name is below each of these
abbrev pub IsBelow : List ℕ → Members → Type 0
IsBelow name no_members = Unit {0}
IsBelow name (member other d ms) = (slice_cmp nat_cmp name other ≡ Less) × IsBelow name ms

-- the names rise
abbrev pub AreRising : Members → Type 0
AreRising no_members = Unit {0}
AreRising (member name d ms) = IsBelow name ms × AreRising ms

abbrev join : Members → Members → Members
join no_members ms = ms
join (member name d rest) ms = member name d (join rest ms)

-- each of these is below the name
abbrev AreBelow : List ℕ → Members → Type 0
AreBelow name no_members = Unit {0}
AreBelow name (member other d ms) = (slice_cmp nat_cmp other name ≡ Less) × AreBelow name ms

-- each of those before is below each of these
abbrev AllBelow : Members → Members → Type 0
AllBelow before no_members = Unit {0}
AllBelow before (member name d ms) = AreBelow name before × AllBelow before ms

join_none : (ms : Members) → join ms no_members ≡ ms
join_none no_members = refl
join_none (member name d ms) = ap (member name d) (join_none ms)

join_join : (before : Members) (name : List ℕ) (d : Data) (ms : Members) → join (join before (member name d no_members)) ms ≡ join before (member name d ms)
join_join no_members name d ms = refl
join_join (member other e before) name d ms = ap (member other e) (join_join before name d ms)

put_last : (name : List ℕ) (d : Data) (before : Members) → AreBelow name before → put name d before ≡ join before (member name d no_members)
put_last name d no_members below = refl
put_last name d (member other e before) below =
    let above : slice_cmp nat_cmp name other ≡ Greater = nat_list_cmp_total.antisymm name other ∙ ap ordering_reverse below.0 in
    rw above (ap (member other e) (put_last name d before below.1))

below_more : (other name : List ℕ) (d : Data) (before : Members) → AreBelow other before → slice_cmp nat_cmp name other ≡ Less → AreBelow other (join before (member name d no_members))
below_more other name d no_members below less = (less, tt)
below_more other name d (member first e before) below less = (below.0, below_more other name d before below.1 less)

all_below_more : (name : List ℕ) (d : Data) (before ms : Members) → AllBelow before ms → IsBelow name ms → AllBelow (join before (member name d no_members)) ms
all_below_more name d before no_members all below = tt
all_below_more name d before (member other e ms) all below = (below_more other name d before all.0 below.0, all_below_more name d before ms all.1 below.1)

members_read : (before ms : Members) → AreRead ms → AreRising ms → AllBelow before ms → of_members (members_outline ms) before ≡ Some (join before ms)
members_read before no_members reads rise below = ap some (sym (join_none before))
  where
    some : Members → Option Members
    some ms = Some ms
members_read before (member name d ms) reads rise below =
    let next = join before (member name d no_members) in
    ap (option_and_then (λ x. of_members (members_outline ms) (put name x before))) reads.0
    ∙ ap (of_members (members_outline ms)) (put_last name d before below.0)
    ∙ members_read next ms reads.1 rise.1 (all_below_more name d before ms below.1 rise.0)
    ∙ ap some (join_join before name d ms)
  where
    some : Members → Option Members
    some ms = Some ms

none_below : (ms : Members) → AllBelow no_members ms
none_below no_members = tt
none_below (member name d ms) = (tt, none_below ms)

pub object_printed : {ms : Members} {a b c : Written} → AreRising ms → Adds (Token.begin_object ∷ []) a b → PrintsMembers ms b c → Prints (object ms) a c
object_printed {ms} rise begin rest = record {
  adds = both_added begin rest.adds;
  read = ap (option_map object) (members_read no_members ms rest.read rise (none_below ms));
}

-- ---- a text behind what stands there

module _ (d : Data) (start new : Written) (none : start.tokens ≡ []) (printed : Prints d start new) where
  piece_tokens : new.tokens ≡ json_tokens (outline d)
  piece_tokens = printed.adds.tokens ∙ ap (λ ts. ts ++ json_tokens (outline d)) none

  pub piece_printed : (text bytes : List ℕ) → start.before ≡ text → bytes ≡ new.before ++ print new.tokens → bytes ≡ text ++ compact_text d
  piece_printed text bytes before is = is ∙ ap₂ (λ (a b : List ℕ). a ++ b) (printed.adds.before ∙ before) (ap print piece_tokens ∙ print-outline d)

-- ---- the text of the whole

mutual
  same_depth : (d : Data) → tree.depth (outline d) ≡ depth d
  same_depth null = refl
  same_depth (boolean b) = refl
  same_depth (number n) = refl
  same_depth (string s) = refl
  same_depth (array ds) = ap suc (same_items_depth ds)
  same_depth (object ms) = ap suc (same_members_depth ms)

  same_items_depth : (ds : Items) → tree.items_depth (items_outline ds) ≡ items_depth ds
  same_items_depth no_items = refl
  same_items_depth (item d ds) = ap₂ max (same_depth d) (same_items_depth ds)

  same_members_depth : (ms : Members) → tree.members_depth (members_outline ms) ≡ members_depth ms
  same_members_depth no_members = refl
  same_members_depth (member name d ms) = ap₂ max (same_depth d) (same_members_depth ms)

abbrev whole : Option (json.Json × List Token) → Option Data
whole found = option_and_then of_json (option_and_then (λ p. json.if_last p.0 p.1) found)

module _ (d : Data) (start new : Written) (first : start.before ≡ []) (none : start.tokens ≡ []) (printed : Prints d start new) (bytes : List ℕ)
    (is : bytes ≡ new.before ++ print new.tokens) (back : tokens (print new.tokens) ≡ new.tokens) (utf8 : IsUtf8 (print new.tokens)) where
  all_tokens : new.tokens ≡ json_tokens (outline d)
  all_tokens = printed.adds.tokens ∙ ap (λ ts. ts ++ json_tokens (outline d)) none

  bytes_are : bytes ≡ print new.tokens
  bytes_are = is ∙ ap (λ l. l ++ print new.tokens) (printed.adds.before ∙ first)

  pub text_printed : IsText bytes d
  text_printed = record {
    is = bytes_are ∙ ap print all_tokens ∙ print-outline d;
    utf8 = subst IsUtf8 (sym bytes_are) utf8;
    reads = λ shallow.
        let these : tokens bytes ≡ json_tokens (outline d) ++ [] = ap tokens bytes_are ∙ back ∙ all_tokens ∙ sym (append-nil (json_tokens (outline d))) in
        ap whole (ap (json.value max_depth) these ∙ value-json_tokens (outline d) max_depth [] (omega (arith, same_depth d, shallow))) ∙ printed.read;
  }
