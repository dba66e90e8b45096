-- The flags and the id of a slice of a class are those that are written for it.
use Rattle.std.proofs.Common.{◌≡◌, ℕ, zero, suc, ◌+◌, ◌%◌, Bool, true, false, not, cond, List, [], ◌∷◌, ◌++◌, length, map, Option, None, Some, nat_lt, nat_eq, refl, sym, ap, ◌∙◌, arith}
use Rattle.std.specs.Prelude.{slice_get, IfSome, if◌then◌else◌}
use Rattle.std.specs.List.{position_or_len}
use Rattle.std.specs.Option.{is_some}
use Rattle.std.specs.Str.{bytes_eq}
use Rattle.std.proofs.lemmas.Bool.{lt-ltb, false≢true}
use Rattle.std.proofs.lemmas.Slice.Eq.{bytes_eq-Decides}
use Rattle.ice_types.specs.declared.declarations.ClassDecl.{ClassDecl}
use Rattle.ice_types.specs.declared.kind.RowRef.TheVariants as rows
use Rattle.ice_types.specs.Tables.{Tables, HasCompactId, HasId, IsTypeId, class_ids}
use Rattle.ice_types.specs.CompactIds.{is_numbered, numbered_id, number_in}
use Rattle.ice_types.specs.Rules.{IsSchema}
use Rattle.ice_types.proofs.SliceIds.{number_there, number_nowhere}
use Rattle.ice_prims.specs.Bytes.{size_bytes, text_bytes}
use Rattle.ice_encoding.specs.Classes.{one_further, place_of}
use Rattle.ice_encoding.specs.Flags.{IdForm, as_text, as_index, as_number}
use Rattle.ice_encoding.specs.CanonicalGraph.{Pen, id_in, id_bits, spelled_by, head_as, head_under, written_head}
use Rattle.graph_laws.proofs.Named.{id_of_row}
use Rattle.graph_laws.proofs.ClassIds.{type_text}
use Rattle.canonical_values.specs.Frames.{Passes}
use Rattle.canonical_values.proofs.Joined.{passes_then}
use Rattle.canonical_inputs.specs.declared.head.Head.{Head}
use Rattle.canonical_inputs.specs.Heads.{number_place, texts, pen_at, FormFound, IdFound, HeadFound}
use Rattle.canonical_inputs.proofs.Tables.{lt_more, same_eq, nat_eq_is}

-- ---- where a class stands first

place_more : (c class : ℕ) (ids : List ℕ) → number_place (c ∷ ids) class ≡ (if nat_eq c class then Some 0 else one_further (number_place ids class))
place_more c class ids = by_test (nat_eq c class) (position_or_len (λ other. nat_eq other class) ids)
  where
    further : (after : ℕ) (b : Bool) → cond b (Some (suc after)) None ≡ one_further (cond b (Some after) None)
    further after true = refl
    further after false = refl

    by_test : (b : Bool) (after : ℕ)
        → cond (nat_lt (cond (not b) (1 + after) 0) (suc (length ids))) (Some (cond (not b) (1 + after) 0)) None ≡ (if b then Some 0 else one_further (cond (nat_lt after (length ids)) (Some after) None))
    by_test true after = ap (λ (t : Bool). cond t (Some 0) None) (lt-ltb 0 (suc (length ids)) (omega arith))
    by_test false after =
        let next : 1 + after ≡ suc after = omega arith in
        ap (λ (m : ℕ). cond (nat_lt m (suc (length ids))) (Some m) None) next ∙ ap (λ (t : Bool). cond t (Some (suc after)) None) (lt_more after (length ids)) ∙ further after (nat_lt after (length ids))

module _ (t : Tables) (rules : IsSchema t) (class : ℕ) (row : ClassDecl) (is_row : slice_get t.classes class ≡ Some row) where
  not_empty : (id : List ℕ) → IsTypeId id → bytes_eq [] id ≡ false
  not_empty [] h = let none : [] ≡ 58 ∷ 58 ∷ [] = h.0 in absurd cc
  not_empty (c ∷ id) h = refl

  is_type_id : IsTypeId row.id
  is_type_id = rules.type_ids row.id (rows.Class class) (id_of_row t.classes class row is_row)

  class_is : (a b : ℕ) → rows.Class a ≡ rows.Class b → a ≡ b
  class_is a b e = cc

  -- ids are the same where classes are
  same_text : (c : ℕ) → bytes_eq (id_in (slice_get t.classes c)) row.id ≡ nat_eq c class
  same_text c = by_row (slice_get t.classes c) refl
    where
      apart : (d : ClassDecl) → slice_get t.classes c ≡ Some d → d.id ≡ row.id → c ≡ class
      apart d is same = class_is c class (rules.apart row.id (rows.Class c) (rows.Class class) (id_of_row t.classes c d is ∙ ap Some same) (id_of_row t.classes class row is_row))

      by_test : (d : ClassDecl) → slice_get t.classes c ≡ Some d → (b e : Bool) → bytes_eq d.id row.id ≡ b → nat_eq c class ≡ e → b ≡ e
      by_test d is true true p q = refl
      by_test d is false false p q = refl
      by_test d is true false p q =
          let same = apart d is ((bytes_eq-Decides d.id row.id).0 p) in
          absurd (false≢true (sym q ∙ ap (λ (n : ℕ). nat_eq n class) same ∙ same_eq class))
      by_test d is false true p q =
          let at = nat_eq_is c class q in
          let both : Some d ≡ Some row = sym is ∙ ap (slice_get t.classes) at ∙ is_row in
          let id : d.id ≡ row.id = ap (λ (x : ClassDecl). x.id) (one d row both) in
          absurd (false≢true (sym p ∙ (bytes_eq-Decides d.id row.id).1 id))
        where
          one : (x y : ClassDecl) → Some x ≡ Some y → x ≡ y
          one x y e = cc

      by_row : (o : Option ClassDecl) → slice_get t.classes c ≡ o → bytes_eq (id_in o) row.id ≡ nat_eq c class
      by_row (Some d) is = by_test d is (bytes_eq d.id row.id) (nat_eq c class) refl refl
      by_row None is = not_empty row.id is_type_id ∙ sym (by_other (nat_eq c class) refl)
        where
          by_other : (b : Bool) → nat_eq c class ≡ b → b ≡ false
          by_other false e = refl
          by_other true e = let there : None ≡ Some row = sym is ∙ ap (slice_get t.classes) (nat_eq_is c class e) ∙ is_row in absurd cc

  place_texts : (ids : List ℕ) → place_of (texts t ids) row.id ≡ number_place ids class
  place_texts [] = refl
  place_texts (c ∷ ids) =
      ap (λ (b : Bool). if b then Some 0 else one_further (place_of (texts t ids) row.id)) (same_text c)
      ∙ ap (λ (o : Option ℕ). if nat_eq c class then Some 0 else one_further o) (place_texts ids) ∙ sym (place_more c class ids)

  texts_more : (ids : List ℕ) → texts t ids ++ row.id ∷ [] ≡ texts t (ids ++ class ∷ [])
  texts_more [] = ap (λ (o : Option ClassDecl). id_in o ∷ []) (sym is_row)
  texts_more (c ∷ ids) = ap (λ (l : List (List ℕ)). id_in (slice_get t.classes c) ∷ l) (texts_more ids)

  -- ---- what is written

  no_number : number_in row.id ≡ None
  no_number = number_nowhere row.id (λ n le is. clash (is_numbered row.id) (ap is_numbered is) (type_text t rules class row is_row).1)
    where
      clash : (b : Bool) → b ≡ true → b ≡ false → ⊥
      clash b p q = cc

  plain_written : row.compact ≡ None → (flags : IdForm → ℕ) (p : Pen) → written_head flags (spelled_by row) p ≡ head_as (place_of p.ids row.id) flags row.id p
  plain_written none flags p =
      let plain : spelled_by row ≡ row.id = ap (λ (o : Option ℕ). elim o [ None ↦ row.id | Some number ↦ numbered_id number ]) none in
      ap (λ (id : List ℕ). written_head flags id p) plain ∙ ap (λ (o : Option ℕ). head_under o flags row.id p) no_number

  pub text_written : row.compact ≡ None → (ids : List ℕ) → number_place ids class ≡ None → (begun : ℕ) (flags : IdForm → ℕ)
      → written_head flags (spelled_by row) (pen_at t begun ids) ≡ (flags as_text ∷ text_bytes row.id, pen_at t begun (ids ++ class ∷ []))
  text_written none ids absent begun flags =
      plain_written none flags (pen_at t begun ids) ∙ ap (λ (o : Option ℕ). head_as o flags row.id (pen_at t begun ids)) (place_texts ids ∙ absent)
      ∙ ap (λ (l : List (List ℕ)). (flags as_text ∷ text_bytes row.id, record { begun = begun; ids = l })) (texts_more ids)

  pub index_written : row.compact ≡ None → (ids : List ℕ) (i : ℕ) → number_place ids class ≡ Some i → (begun : ℕ) (flags : IdForm → ℕ)
      → written_head flags (spelled_by row) (pen_at t begun ids) ≡ (flags as_index ∷ size_bytes (suc i), pen_at t begun ids)
  index_written none ids i there begun flags =
      plain_written none flags (pen_at t begun ids) ∙ ap (λ (o : Option ℕ). head_as o flags row.id (pen_at t begun ids)) (place_texts ids ∙ there)

  pub number_written : (n : ℕ) → HasCompactId t n class → row.compact ≡ Some n → (ids : List ℕ) (begun : ℕ) (flags : IdForm → ℕ)
      → written_head flags (spelled_by row) (pen_at t begun ids) ≡ (flags as_number ∷ size_bytes n, pen_at t begun ids)
  number_written n has some ids begun flags =
      let spelled : spelled_by row ≡ numbered_id n = ap (λ (o : Option ℕ). elim o [ None ↦ row.id | Some number ↦ numbered_id number ]) some in
      ap (λ (id : List ℕ). written_head flags id (pen_at t begun ids)) spelled
      ∙ ap (λ (o : Option ℕ). head_under o flags (numbered_id n) (pen_at t begun ids)) (number_there n (rules.compact_ids n class has))

  -- ---- what was found

  pub text_found : (input : List ℕ) (at end : ℕ) (s ids behind : List ℕ) → row.compact ≡ None → number_place ids class ≡ None → row.id ≡ s → behind ≡ ids ++ class ∷ [] → Passes t input at end (text_bytes s)
      → IdFound t input as_text at ids behind class end
  text_found input at end s ids behind none absent same grown passes = record {
    row = row;
    is_row = is_row;
    id = text_bytes s;
    passes = passes;
    written = λ begun flags.
        text_written none ids absent begun flags ∙ ap (λ (x : List ℕ). (flags as_text ∷ text_bytes x, pen_at t begun (ids ++ class ∷ []))) same
        ∙ ap (λ (l : List ℕ). (flags as_text ∷ text_bytes s, pen_at t begun l)) (sym grown);
  }

  pub index_found : (input : List ℕ) (at end i : ℕ) (ids : List ℕ) → row.compact ≡ None → number_place ids class ≡ Some i → Passes t input at end (size_bytes (suc i)) → IdFound t input as_index at ids ids class end
  index_found input at end i ids none there passes = record { row = row; is_row = is_row; id = size_bytes (suc i); passes = passes; written = λ begun flags. index_written none ids i there begun flags }

  number_found : (input : List ℕ) (at end n : ℕ) → HasCompactId t n class → row.compact ≡ Some n → Passes t input at end (size_bytes n) → (ids : List ℕ) → IdFound t input as_number at ids ids class end
  number_found input at end n has some passes ids = record { row = row; is_row = is_row; id = size_bytes n; passes = passes; written = λ begun flags. number_written n has some ids begun flags }

-- the class of a compact id
pub compact_found : (t : Tables) → IsSchema t → (input : List ℕ) (at end n class : ℕ) → HasCompactId t n class → Passes t input at end (size_bytes n) → (ids : List ℕ) → IdFound t input as_number at ids ids class end
compact_found t rules input at end n class has passes =
    let r = row_of t.classes class has in
    number_found t rules class r.0 r.1 input at end n has r.2 passes
  where
    row_of : (ds : List ClassDecl) (at : ℕ) → slice_get (map (λ d. d.compact) ds) at ≡ Some (Some n) → (d : ClassDecl) × (slice_get ds at ≡ Some d) × (d.compact ≡ Some n)
    row_of [] at e = absurd cc
    row_of (d ∷ ds) zero e = (d, refl, cc)
    row_of (d ∷ ds) (suc at) e = row_of ds at e

-- the class of a type id
pub id_is : (t : Tables) (class : ℕ) (row : ClassDecl) (s : List ℕ) → slice_get t.classes class ≡ Some row → HasId (class_ids t) s class → row.id ≡ s
id_is t class row s is has = let there = id_of_row t.classes class row is in cc

pub none_is : (o : Option ℕ) → is_some o ≡ false → o ≡ None
none_is None e = refl
none_is (Some n) e = absurd cc

-- the flags in front of an id
pub head_found : (t : Tables) (input : List ℕ) (at : ℕ) (before behind : List ℕ) (head : Head) → Passes t input at (at + 1) (head.flags ∷ []) → FormFound t input (head.flags % 4) (at + 1) before behind head.class head.end
    → HeadFound t input at before behind head
head_found t input at before behind head first (form, bits, id) = record {
  row = id.row;
  is_row = id.is_row;
  form = form;
  bits = bits;
  bytes = head.flags ∷ id.id;
  passes = passes_then t input at (at + 1) head.end (head.flags ∷ []) id.id first id.passes;
  written = λ begun flags is. id.written begun flags ∙ ap (λ (n : ℕ). (n ∷ id.id, pen_at t begun behind)) is;
}

-- an id in the form of these bits
pub formed : (t : Tables) (input : List ℕ) (form : IdForm) (bits at : ℕ) (before behind : List ℕ) (found : Option (ℕ × ℕ)) → bits ≡ id_bits form → IfSome found (λ id. IdFound t input form at before behind id.0 id.1)
    → IfSome found (λ id. FormFound t input bits at before behind id.0 id.1)
formed t input form bits at before behind None is h = tt
formed t input form bits at before behind (Some id) is h = (form, is, h)

pub formed_any : (t : Tables) (input : List ℕ) (bits at : ℕ) (ids : List ℕ) (found : Option (ℕ × ℕ)) → bits ≡ 3 → IfSome found (λ id. (ids : List ℕ) → IdFound t input as_number at ids ids id.0 id.1)
    → IfSome found (λ id. FormFound t input bits at ids ids id.0 id.1)
formed_any t input bits at ids None is h = tt
formed_any t input bits at ids (Some id) is h = (as_number, is, h ids)
