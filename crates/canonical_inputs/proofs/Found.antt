-- A slice by the parts that were found one after the other.
use Rattle.std.proofs.Common.{◌≡◌, ℕ, suc, ◌+◌, ◌%◌, ◌≤◌, Bool, true, false, nat_eq, List, Option, [], ◌∷◌, ◌++◌, length, take, drop, None, Some, zero-add, refl, sym, ap, ◌∙◌, subst, arith}
use Rattle.std.specs.Prelude.{slice_get, is_none, not}
use Rattle.std.specs.Option.{is_some}
use Rattle.std.proofs.lemmas.List.{length-take-le}
use Rattle.ice_types.specs.declared.declarations.ClassDecl.{ClassDecl}
use Rattle.ice_types.specs.Tables.{Tables}
use Rattle.ice_prims.specs.Laws.{any}
use Rattle.ice_encoding.specs.Skipping.{count}
use Rattle.ice_encoding.specs.Flags.{IdForm}
use Rattle.ice_encoding.specs.Slices.{slice_size}
use Rattle.ice_encoding.specs.CanonicalGraph.{bit, id_bits, is_there, flags_byte}
use Rattle.canonical_values.specs.Fronts.{IsFront}
use Rattle.canonical_values.specs.Frames.{Passes}
use Rattle.canonical_values.proofs.Joined.{passes_front, passes_then}
use Rattle.canonical_inputs.specs.declared.head.Head.{Head}
use Rattle.canonical_inputs.specs.declared.slice.Passed.{Passed}
use Rattle.canonical_inputs.specs.Heads.{sized_flags, HeadFound}
use Rattle.canonical_inputs.specs.Places.{MembersPut, ArePut, kinds_from}
use Rattle.canonical_inputs.specs.Slices.{table_size, SliceFound}
use Rattle.canonical_inputs.proofs.Fronts.{front_passes}
use Rattle.canonical_inputs.proofs.Places.{grown_same}

flags_are : (form : IdForm) (flags : ℕ) (tabled last : Bool) → flags % 4 ≡ id_bits form → flags ≡ sized_flags (flags % 4) tabled last → flags_byte form false tabled true last ≡ flags
flags_are form flags tabled last bits is =
    ap (λ (n : ℕ). id_bits form + n) (zero-add (bit tabled 8 + (16 + bit last 32))) ∙ ap (λ (n : ℕ). sized_flags n tabled last) (sym bits) ∙ sym is

pub none_test : (o : Option ℕ) (b : Bool) → is_some o ≡ not b → b ≡ is_none o
none_test None true e = refl
none_test None false e = absurd cc
none_test (Some n) true e = absurd cc
none_test (Some n) false e = refl

-- a table has an entry where it is not empty
pub there_is : (needs : List (Option ℕ)) (many : ℕ) (bare : Bool) → many ≡ length needs → bare ≡ nat_eq many 0 → not bare ≡ is_there needs
there_is needs many bare is test = ap not (test ∙ ap (λ (n : ℕ). nat_eq n 0) is) ∙ by_needs needs
  where
    other : (n : ℕ) → nat_eq (suc n) 0 ≡ false
    other n = grind arith

    by_needs : (ns : List (Option ℕ)) → not (nat_eq (length ns) 0) ≡ is_there ns
    by_needs [] = refl
    by_needs (n ∷ ns) = ap not (other (length ns))

module _ (t : Tables) (input : List ℕ) (at : ℕ) (before behind : List ℕ) (head : Head) (h : HeadFound t input at before behind head) (row : ClassDecl) (is_row : slice_get t.classes head.class ≡ Some row) where
  same_row : h.row ≡ row
  same_row = one h.row row (sym h.is_row ∙ is_row)
    where
      one : (x y : ClassDecl) → Some x ≡ Some y → x ≡ y
      one x y e = cc

  -- behind the head, so many bytes of members, and so many before the entries of the table
  pub slice_made : (s : Passed) (n taken size : ℕ) (tabled : Bool) → s.class ≡ head.class → s.base ≡ row.base → s.end ≡ ((head.end + 4) + n) + taken → 4 ≤ length (drop head.end input)
      → take 4 (drop head.end input) ≡ count.put size → size ≡ n + 4 → n ≤ length (drop (head.end + 4) input) → MembersPut t row.members [] s.needs.items (take n (drop (head.end + 4) input))
      → IsFront any table_size (drop ((head.end + 4) + n) input) (length s.needs.items) taken → tabled ≡ is_there s.needs.items → head.flags ≡ sized_flags (head.flags % 4) tabled (is_none row.base)
      → SliceFound t input at before behind s
  slice_made s n taken size tabled class base end four sized is few put table there flags =
      let members = take n (drop (head.end + 4) input) in
      let needs = s.needs.items in
      let many : length members ≡ n = length-take-le n (drop (head.end + 4) input) few in
      let front : Passes t input head.end (head.end + 4) (slice_size.put (length members)) =
      subst (λ (l : List ℕ). Passes t input head.end (head.end + 4) l) (sized ∙ ap count.put (is ∙ ap (λ (m : ℕ). m + 4) (sym many))) (passes_front t input head.end 4 h.passes.0 four) in
      let inner = passes_front t input (head.end + 4) n front.0 few in
      let behind_it = front_passes t input ((head.end + 4) + n) taken any table_size (length needs) inner.0 table in
      let both = passes_then t input head.end (head.end + 4) ((head.end + 4) + n) (slice_size.put (length members)) members front inner in
      let body = passes_then t input head.end ((head.end + 4) + n) (((head.end + 4) + n) + taken) (slice_size.put (length members) ++ members) (table_size (length needs)) both behind_it in
      let all = passes_then t input at head.end (((head.end + 4) + n) + taken) h.bytes ((slice_size.put (length members) ++ members) ++ table_size (length needs)) h.passes body in
      record {
        row = h.row;
        is_row = ap (slice_get t.classes) class ∙ h.is_row;
        base = base ∙ ap (λ (r : ClassDecl). r.base) (sym same_row);
        head = h.bytes;
        members = members;
        passes = subst (λ (e : ℕ). Passes t input at e (h.bytes ++ ((slice_size.put (length members) ++ members) ++ table_size (length needs)))) (sym end) all;
        put = subst (λ (r : ClassDecl). ArePut t needs 100 (kinds_from 0 r.members) 0 (length needs) members) (sym same_row) (put.1 needs (grown_same needs));
        written = λ begun.
            h.written begun (λ form. flags_byte form false (is_there needs) true (is_none h.row.base))
            (ap (λ (b : Bool). flags_byte h.form false b true (is_none h.row.base)) (sym there) ∙ ap (λ (r : ClassDecl). flags_byte h.form false tabled true (is_none r.base)) same_row
            ∙ flags_are h.form head.flags tabled (is_none row.base) h.bits flags);
      }
