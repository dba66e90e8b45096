-- What has no fault may be added to the schema: interfaces with their operations.
use Rattle.std.proofs.Common.{◌≡◌, ℕ, suc, ◌≤◌, ◌<◌, ◌+◌, Bool, true, false, cond, not, List, [], ◌∷◌, ◌++◌, map, length, Option, Some, None, Result, Ok, Err, refl, sym, ap, ◌∙◌, subst, arith}
use Rattle.std.specs.Prelude.{All, IsTrue, flat_map, sum_by, nat_lt, codes, ◌||◌, ◌&&◌}
use Rattle.std.specs.Char.{to_ascii_lowercase}
use Rattle.std.specs.List.{list_all}
use Rattle.std.specs.Str.{str_to_ascii_lowercase}
use Rattle.std.proofs.lemmas.Bool.Decides.{nat_tests}
use Rattle.std.proofs.lemmas.List.Elements.{All-nil, All-cons, All-head, All-tail, All-append}
use Rattle.std.proofs.lemmas.List.Sums.{sum_by-cons}
use Rattle.std.proofs.lemmas.Slice.Eq.{bytes_eq-Decides}
use Rattle.slice_lexer.specs.Bytes.{is_word_byte}
use Rattle.slice_syntax.specs.declared.tree.Word.{Word}
use Rattle.slice_syntax.specs.declared.tree.Path.{Path}
use Rattle.slice_syntax.specs.declared.tree.TypeWord.{TypeWord}
use Rattle.slice_syntax.specs.declared.tree.Constant.{Constant}
use Rattle.slice_syntax.specs.declared.tree.Field.{Field}
use Rattle.slice_syntax.specs.declared.tree.Param.{Param}
use Rattle.slice_syntax.specs.declared.tree.OpTree.{OpTree}
use Rattle.slice_syntax.specs.declared.tree.Item.TheVariants as items
use Rattle.slice_syntax.specs.Places.{Each, IsPlain, HasPlainNames, InOp, InField}
use Rattle.ice_types.specs.declared.kind.TypeRef.{TypeRef}
use Rattle.ice_types.specs.declared.declarations.Member.{Member}
use Rattle.ice_types.specs.declared.schema.TheConstants.{MOST_BASES}
use Rattle.ice_types.specs.Tables.{Tables, is_defined}
use Rattle.ice_types.specs.Measures.{paths_of}
use Rattle.ice_types.specs.Fits.{IsOf, AreOf, OpFits, BasesFit, InterfaceFits, DifferFrom, names_of, tags_of, members_of_op, paths_over}
use Rattle.slice_meaning.specs.declared.fault.CheckKind.{CheckKind}
use Rattle.slice_meaning.specs.declared.fault.CheckKind.TheVariants as rows
use Rattle.slice_meaning.specs.declared.fault.Fault.{Fault}
use Rattle.slice_meaning.specs.Names.{Name}
use Rattle.slice_meaning.specs.Known.{Known, with_interface_name}
use Rattle.slice_meaning.specs.Uses.{type_of, interface_named, exception_of}
use Rattle.slice_meaning.specs.Values.{number_of}
use Rattle.slice_meaning.specs.Clashes.{reopened_name, second_names, is_interface}
use Rattle.slice_meaning.specs.Members.{has_number, with_number, tag_faults, tag_of, members_of, ins, outs, order_faults, result_faults, thrown_faults, field_faults, op_faults, required, optional, as_member, returned, with_meaning, named, op_of}
use Rattle.slice_meaning.specs.Faults.{faults, as_interface_base, with_base, bases_faults, paths_by, base_count, base_limits}
use Rattle.slice_meaning.specs.Rows.{KnowsRows}
use Rattle.slice_meaning.proofs.NoFaults.{both_none, test_off, either_off}
use Rattle.slice_meaning.proofs.Counting.{one_if, one_at_most, count, count-append, count-map, is_number, is_name, names_in, no_number, not_among, are_new, no_second}
use Rattle.slice_meaning.proofs.Fitting.{number_within, members_count}
use Rattle.slice_meaning.proofs.FittingMembers.{members_are_of, numbers_in, numbers_more, tags_apart, tags_count, tags_within}
use Rattle.slice_meaning.proofs.KnownNames.{type_row, exception_row}
use Rattle.slice_meaning.proofs.Shapes.{Within, shape_count, shape_fits, tags_append, tags_cons, tag_one}

-- ---- what is returned

returned_of : (k : Known) → KnowsRows k → (tag : Option Constant) (result : Option TypeWord) → AreOf k.tables (returned k tag result)
returned_of k knows tag None = All-nil (λ (m : Member). IsOf k.tables m.kind)
returned_of k knows tag (Some word) = by_type (type_of k word) (type_row k knows word)
  where
    by_type : (r : Result TypeRef CheckKind) → ((kind : TypeRef) → r ≡ Ok kind → IsOf k.tables kind) → AreOf k.tables (as_member k tag r)
    by_type (Err row) is = All-nil (λ (m : Member). IsOf k.tables m.kind)
    by_type (Ok kind) is = All-cons (λ (m : Member). IsOf k.tables m.kind) (record { name = codes "$return"; kind = kind; tag = tag_of k tag }) [] (is kind refl) (All-nil (λ (m : Member). IsOf k.tables m.kind))

tag_of_one : (q : ℕ) (k : Known) (tag : Option Constant) → tag_one q (tag_of k tag) ≤ count (is_number q) (numbers_in k (tag ∷ []))
tag_of_one q k None = omega arith
tag_of_one q k (Some c) = by_number (number_of k rows.BadTag c)
  where
    by_number : (r : Result ℕ CheckKind) → tag_one q (elim r as (λ _. Option ℕ) [ Err row ↦ None | Ok n ↦ Some n ]) ≤ count (is_number q) (with_number r [])
    by_number (Err row) = omega arith
    by_number (Ok n) = omega arith

returned_tags : (q : ℕ) (k : Known) (tag : Option Constant) (result : Option TypeWord) → count (is_number q) (tags_of (returned k tag result)) ≤ count (is_number q) (numbers_in k (tag ∷ []))
returned_tags q k tag None = omega arith
returned_tags q k tag (Some word) = by_type (type_of k word)
  where
    by_type : (r : Result TypeRef CheckKind) → count (is_number q) (tags_of (as_member k tag r)) ≤ count (is_number q) (numbers_in k (tag ∷ []))
    by_type (Err row) = omega arith
    by_type (Ok kind) = let a = tags_cons q (record { name = codes "$return"; kind = kind; tag = tag_of k tag }) [] in let b = tag_of_one q k tag in omega (arith, a, b)

returned_within : (k : Known) (tag : Option Constant) (result : Option TypeWord) → All Within (tags_of (returned k tag result))
returned_within k tag None = All-nil Within
returned_within k tag (Some word) = by_type (type_of k word)
  where
    by_number : (c : Constant) (kind : TypeRef) (r : Result ℕ CheckKind) → number_of k rows.BadTag c ≡ r → All Within (tags_of (record { name = codes "$return"; kind = kind; tag = elim r as (λ _. Option ℕ) [ Err row ↦ None | Ok n ↦ Some n ] } ∷ []))
    by_number c kind (Err row) is = All-nil Within
    by_number c kind (Ok n) is = All-cons Within n [] (number_within k rows.BadTag c n is) (All-nil Within)

    by_tag : (found : Option Constant) (kind : TypeRef) → All Within (tags_of (record { name = codes "$return"; kind = kind; tag = tag_of k found } ∷ []))
    by_tag None kind = All-nil Within
    by_tag (Some c) kind = by_number c kind (number_of k rows.BadTag c) refl

    by_type : (r : Result TypeRef CheckKind) → All Within (tags_of (as_member k tag r))
    by_type (Err row) = All-nil Within
    by_type (Ok kind) = by_tag tag kind

within_append : (xs ys : List Member) → All Within (tags_of xs) → All Within (tags_of ys) → All Within (tags_of (xs ++ ys))
within_append [] ys a b = b
within_append (m ∷ ms) ys a b = by_tag m.tag a (λ h. within_append ms ys h b)
  where
    by_tag : (o : Option ℕ) → All Within (elim o as (λ _. List ℕ) [ None ↦ tags_of ms | Some tag ↦ tag ∷ tags_of ms ]) → (All Within (tags_of ms) → All Within (tags_of (ms ++ ys)))
        → All Within (elim o as (λ _. List ℕ) [ None ↦ tags_of (ms ++ ys) | Some tag ↦ tag ∷ tags_of (ms ++ ys) ])
    by_tag None h rest = rest h
    by_tag (Some n) h rest = All-cons Within n (tags_of (ms ++ ys)) (All-head Within n (tags_of ms) h) (rest (All-tail Within n (tags_of ms) h))

-- ---- names of parameters, and of what is returned

returned_name : (q : List ℕ) (k : Known) (tag : Option Constant) (result : Option TypeWord) → count (is_name q) (names_of (returned k tag result)) ≤ one_if (is_name q (codes "$return"))
returned_name q k tag None = omega arith
returned_name q k tag (Some word) = by_type (type_of k word)
  where
    by_type : (r : Result TypeRef CheckKind) → count (is_name q) (names_of (as_member k tag r)) ≤ one_if (is_name q (codes "$return"))
    by_type (Err row) = omega arith
    by_type (Ok kind) = omega arith

-- no letter, digit or `_` is `$` in lower case
no_dollar : (byte : ℕ) → is_word_byte byte ≡ true → to_ascii_lowercase byte ≡ 36 → ⊥
no_dollar byte h e = grind (arith, nat_tests)

first_true : (a b : Bool) → (a && b) ≡ true → a ≡ true
first_true true b h = refl
first_true false b h = absurd cc

head_of : (x y : ℕ) (xs ys : List ℕ) → x ∷ xs ≡ y ∷ ys → x ≡ y
head_of x y xs ys h = cc

not_returned : (name : Name) → IsPlain name → str_to_ascii_lowercase name ≡ codes "$return" → ⊥
not_returned [] plain e = cc
not_returned (byte ∷ bytes) plain e = no_dollar byte (first_true (is_word_byte byte) (list_all is_word_byte bytes) plain) (head_of (to_ascii_lowercase byte) 36 (str_to_ascii_lowercase bytes) (codes "return") e)

plain_name : (name : Name) → IsPlain name → one_if (is_name (codes "$return") name) ≡ 0
plain_name name plain = by_test (is_name (codes "$return") name) refl
  where
    by_test : (b : Bool) → is_name (codes "$return") name ≡ b → one_if b ≡ 0
    by_test true e = absurd (not_returned name plain ((bytes_eq-Decides (str_to_ascii_lowercase name) (codes "$return")).0 e))
    by_test false e = refl

plain_params : (ps : List Param) → Each (λ (p : Param). IsPlain p.field.word.name) ps → count (is_name (codes "$return")) (names_in (map (λ p. p.field.word) ps)) ≡ 0
plain_params [] h = refl
plain_params (p ∷ ps) h = let a = plain_name p.field.word.name h.0 in let rest = plain_params ps h.1 in omega (arith, a, rest)

abbrev counted : List ℕ → List Field → ℕ
counted q fields = count (is_name q) (names_in (map (λ f. f.word) fields))

split_count : (q : List ℕ) (ps : List Param) → count (is_name q) (names_in (map (λ f. f.word) (ins ps))) + count (is_name q) (names_in (map (λ f. f.word) (outs ps))) ≡ count (is_name q) (names_in (map (λ p. p.field.word) ps))
split_count q [] = refl
split_count q (p ∷ ps) = by_out p.out (split_count q ps)
  where
    by_out : (b : Bool) → counted q (ins ps) + counted q (outs ps) ≡ count (is_name q) (names_in (map (λ p. p.field.word) ps))
        → counted q (cond b (ins ps) (p.field ∷ ins ps)) + counted q (cond b (p.field ∷ outs ps) (outs ps)) ≡ one_if (is_name q p.field.word.name) + count (is_name q) (names_in (map (λ p. p.field.word) ps))
    by_out true h = omega (arith, h)
    by_out false h = omega (arith, h)

-- the names of all arguments and results, by those of the parameters and of what is returned
op_count : (q : List ℕ) (k : Known) (op : OpTree) → count (is_name q) (names_of (members_of_op (op_of k op))) ≤ count (is_name q) (names_in (map (λ p. p.field.word) op.params)) + one_if (is_name q (codes "$return"))
op_count q k op =
    let p : Member → Bool = λ m. is_name q m.name in
    let arguments = members_of k (ins op.params) in
    let results = members_of k (outs op.params) ++ returned k op.tag op.result in
    let all = count-map (is_name q) (λ (m : Member). m.name) (members_of_op (op_of k op)) in
    let a = count-append p (required arguments) (optional arguments ++ (required results ++ optional results)) in
    let b = count-append p (optional arguments) (required results ++ optional results) in
    let c = count-append p (required results) (optional results) in
    let d = shape_count p arguments in
    let e = shape_count p results in
    let f = count-append p (members_of k (outs op.params)) (returned k op.tag op.result) in
    let g = count-map (is_name q) (λ (m : Member). m.name) arguments in
    let h = count-map (is_name q) (λ (m : Member). m.name) (members_of k (outs op.params)) in
    let i = count-map (is_name q) (λ (m : Member). m.name) (returned k op.tag op.result) in
    let j = members_count q k (ins op.params) in
    let l = members_count q k (outs op.params) in
    let m = returned_name q k op.tag op.result in
    let n = split_count q op.params in
    omega (arith, all, a, b, c, d, e, f, g, h, i, j, l, m, n)

op_apart : (q : List ℕ) (k : Known) (op : OpTree) → second_names [] (map (λ p. p.field.word) op.params) ≡ [] → Each (λ (p : Param). IsPlain p.field.word.name) op.params
    → count (is_name q) (names_of (members_of_op (op_of k op))) ≤ 1
op_apart q k op none plain = by_test (is_name q (codes "$return")) refl
  where
    names : count (is_name q) (names_in (map (λ p. p.field.word) op.params)) ≤ 1
    names = let h = no_second q [] (map (λ p. p.field.word) op.params) none (omega arith) in omega (arith, h)

    by_test : (b : Bool) → is_name q (codes "$return") ≡ b → count (is_name q) (names_of (members_of_op (op_of k op))) ≤ 1
    by_test true e =
        let same : codes "$return" ≡ q = (bytes_eq-Decides (codes "$return") q).0 e in
        let zero_params = subst (λ (x : List ℕ). count (is_name x) (names_in (map (λ p. p.field.word) op.params)) ≡ 0) same (plain_params op.params plain) in
        let le = op_count q k op in
        let one = one_at_most (is_name q (codes "$return")) in
        omega (arith, zero_params, le, one)
    by_test false e = let le = op_count q k op in let none : one_if (is_name q (codes "$return")) ≡ 0 = ap one_if e in omega (arith, names, le, none)

-- ---- operations

thrown_there : (k : Known) → KnowsRows k → (paths : List Path) → All (λ at. at < length k.tables.exceptions) (named (exception_of k) paths)
thrown_there k knows [] = All-nil (λ at. at < length k.tables.exceptions)
thrown_there k knows (path ∷ paths) = by_meaning (exception_of k path) (exception_row k knows path) (thrown_there k knows paths)
  where
    by_meaning : (r : Result ℕ CheckKind) → ((at : ℕ) → r ≡ Ok at → at < length k.tables.exceptions) → All (λ at. at < length k.tables.exceptions) (named (exception_of k) paths)
        → All (λ at. at < length k.tables.exceptions) (with_meaning r (named (exception_of k) paths))
    by_meaning (Err row) is h = h
    by_meaning (Ok at) is h = All-cons (λ at. at < length k.tables.exceptions) at (named (exception_of k) paths) (is at refl) h

pub op_fits : (k : Known) (op : OpTree) → KnowsRows k → Each (λ (p : Param). IsPlain p.field.word.name) op.params → op_faults k op ≡ [] → OpFits k.tables (op_of k op)
op_fits k op knows plain h =
    let tags : List (Option Constant) = map (λ f. f.tag) (outs op.params) in
    let names : List Fault = second_names [] (map (λ p. p.field.word) op.params) in
    let a = both_none (tag_faults k [] (op.tag ∷ tags)) _ h in
    let b = both_none (tag_faults k [] (map (λ f. f.tag) (ins op.params))) _ a.1 in
    let c = both_none (result_faults k op.result) _ b.1 in
    let d = both_none (flat_map (λ p. field_faults k p.field) op.params) _ c.1 in
    let e = both_none (order_faults false op.params) _ d.1 in
    let f = both_none names (flat_map (thrown_faults k) op.throws) e.1 in
    let results : List Member = members_of k (outs op.params) ++ returned k op.tag op.result in
    let arguments : List Member = members_of k (ins op.params) in (
      shape_fits k.tables arguments (members_are_of k knows (ins op.params))
          (λ q. let n = tags_apart q k [] (map (λ f. f.tag) (ins op.params)) b.0 (omega arith) in let le = tags_count q k (ins op.params) in omega (arith, n, le)) (tags_within k (ins op.params)),
      shape_fits k.tables results (All-append (λ (m : Member). IsOf k.tables m.kind) (members_of k (outs op.params)) (returned k op.tag op.result) (members_are_of k knows (outs op.params)) (returned_of k knows op.tag op.result))
          (λ q.
          let n = tags_apart q k [] (op.tag ∷ tags) a.0 (omega arith) in
          let first = numbers_more q k op.tag tags in
          let le = tags_count q k (outs op.params) in
          let back = returned_tags q k op.tag op.result in
          let both = tags_append q (members_of k (outs op.params)) (returned k op.tag op.result) in
          omega (arith, n, first, le, back, both))
          (within_append (members_of k (outs op.params)) (returned k op.tag op.result) (tags_within k (outs op.params)) (returned_within k op.tag op.result)),
      are_new [] (names_of (members_of_op (op_of k op))) (λ q. let n = op_apart q k op f.0 plain in omega (arith, n)),
      thrown_there k knows op.throws,
    )

ops_fit : (k : Known) (ops : List OpTree) → KnowsRows k → Each (λ (op : OpTree). Each (λ (p : Param). IsPlain p.field.word.name) op.params) ops → flat_map (op_faults k) ops ≡ [] → All (OpFits k.tables) (map (op_of k) ops)
ops_fit k [] knows plain h = All-nil (OpFits k.tables)
ops_fit k (op ∷ ops) knows plain h =
    let parts = both_none (op_faults k op) (flat_map (op_faults k) ops) h in
    All-cons (OpFits k.tables) (op_of k op) (map (op_of k) ops) (op_fits k op knows plain.0 parts.0) (ops_fit k ops knows plain.1 parts.1)

ops_names : (q : List ℕ) (k : Known) (ops : List OpTree) → count (is_name q) (map (λ op. op.name) (map (op_of k) ops)) ≡ count (is_name q) (names_in (map (λ op. op.word) ops))
ops_names q k [] = refl
ops_names q k (op ∷ ops) = let rest = ops_names q k ops in omega (arith, rest)

-- ---- bases

record AreBases (t : Tables) (before bases : List ℕ) : Type 0 where
  pub defined : All (λ base. IsTrue (is_defined t.defined_interfaces base)) bases
  pub differ : DifferFrom before bases

denied : (b : Bool) → not b ≡ false → b ≡ true
denied true h = refl
denied false h = absurd cc

bases_there : (k : Known) (before : List ℕ) (paths : List Path) → bases_faults k before paths ≡ [] → AreBases k.tables before (named (interface_named k) paths)
bases_there k before [] h = record { defined = All-nil (λ base. IsTrue (is_defined k.tables.defined_interfaces base)); differ = tt }
bases_there k before (path ∷ paths) h =
    let r = interface_named k path in
    let parts = both_none (as_interface_base k before path.place r) (bases_faults k (with_base before r) paths) h in
    by_meaning r parts.0 (bases_there k (with_base before r) paths parts.1)
  where
    by_meaning : (r : Result ℕ CheckKind) → as_interface_base k before path.place r ≡ [] → AreBases k.tables (with_base before r) (named (interface_named k) paths) → AreBases k.tables before (with_meaning r (named (interface_named k) paths))
    by_meaning (Err row) h rest = absurd cc
    by_meaning (Ok at) h rest =
        let off = either_off (not (is_defined k.tables.defined_interfaces at)) (has_number before at) (test_off (not (is_defined k.tables.defined_interfaces at) || has_number before at) path.place rows.BadBase h) in
        record {
          defined = All-cons (λ base. IsTrue (is_defined k.tables.defined_interfaces base)) at (named (interface_named k) paths) (denied (is_defined k.tables.defined_interfaces at) off.0) rest.defined;
          differ = (no_number at before (not_among at before off.1), rest.differ);
        }

base_paths : (k : Known) (paths : List Path) → paths_over k.tables (named (interface_named k) paths) ≡ sum_by (base_count k) paths
base_paths k [] = refl
base_paths k (path ∷ paths) = by_meaning (interface_named k path) (base_paths k paths) ∙ sym (sum_by-cons (base_count k) path paths)
  where
    by_meaning : (r : Result ℕ CheckKind) → paths_over k.tables (named (interface_named k) paths) ≡ sum_by (base_count k) paths → paths_over k.tables (with_meaning r (named (interface_named k) paths)) ≡ paths_by k.tables r + sum_by (base_count k) paths
    by_meaning (Err row) h = omega (arith, h)
    by_meaning (Ok at) h = sum_by-cons (λ base. suc (paths_of k.tables (suc MOST_BASES) base)) at (named (interface_named k) paths) ∙ ap (λ (n : ℕ). suc (paths_of k.tables (suc MOST_BASES) at) + n) h

few_bases : (n : ℕ) → nat_lt MOST_BASES n ≡ false → n ≤ MOST_BASES
few_bases n h = grind (arith, nat_tests)

bases_fit : (k : Known) (word : Word) (paths : List Path) → base_limits k word paths ≡ [] → bases_faults k [] paths ≡ [] → BasesFit k.tables (named (interface_named k) paths)
bases_fit k word paths limits h =
    let there = bases_there k [] paths h in
    let few = few_bases (sum_by (base_count k) paths) (test_off (nat_lt MOST_BASES (sum_by (base_count k) paths)) word.place rows.TooBig limits) in
    (there.defined, there.differ, subst (λ (n : ℕ). n ≤ MOST_BASES) (sym (base_paths k paths)) few)

plain_ops : (ops : List OpTree) → Each (InOp (λ word. IsPlain word.name) (λ place. Unit {0})) ops → Each (λ (op : OpTree). Each (λ (p : Param). IsPlain p.field.word.name) op.params) ops
plain_ops [] h = tt
plain_ops (op ∷ ops) h = (each_field op.params h.0.3, plain_ops ops h.1)
  where
    each_field : (ps : List Param) → Each (λ (p : Param). InField (λ word. IsPlain word.name) (λ place. Unit {0}) p.field) ps → Each (λ (p : Param). IsPlain p.field.word.name) ps
    each_field [] h = tt
    each_field (p ∷ ps) h = (h.0.0, each_field ps h.1)

pub interface_fits : (k : Known) (word : Word) (bases : List Path) (ops : List OpTree) → KnowsRows (with_interface_name k word) → HasPlainNames (items.Interface word bases (Some ops))
    → faults k (items.Interface word bases (Some ops)) ≡ []
    → InterfaceFits (with_interface_name k word).tables (named (interface_named (with_interface_name k word)) bases) (map (op_of (with_interface_name k word)) ops)
interface_fits k word bases ops knows plain h =
    let inner : Known = with_interface_name k word in
    let names : List Fault = second_names [] (map (λ op. op.word) ops) in
    let inside : List Fault = flat_map (op_faults inner) ops in
    let a = both_none (reopened_name k (is_interface k true) word) (base_limits inner word bases ++ (bases_faults inner [] bases ++ (inside ++ names))) h in
    let b = both_none (base_limits inner word bases) (bases_faults inner [] bases ++ (inside ++ names)) a.1 in
    let c = both_none (bases_faults inner [] bases) (inside ++ names) b.1 in
    let d = both_none inside names c.1 in (
      bases_fit inner word bases b.0 c.0,
      ops_fit inner ops knows (plain_ops ops plain.2) d.0,
      are_new [] (map (λ op. op.name) (map (op_of inner) ops)) (λ q. let n = no_second q [] (map (λ op. op.word) ops) d.1 (omega arith) in let e = ops_names q inner ops in omega (arith, n, e)),
    )
