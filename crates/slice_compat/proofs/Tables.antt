-- The flag of one node is set: which flags change, by the table that it is of.
use Rattle.std.proofs.Common.{ℕ, ◌+◌, ◌≡◌, ◌⊎◌, Bool, true, false, List, [], ◌∷◌, length, set, refl, sym, ◌∙◌, ap, inl, inr, arith}
use Rattle.std.specs.Prelude.{unwrap_or, slice_get}
use Rattle.std.proofs.lemmas.List.{length-set}
use Rattle.slice_compat.specs.declared.marks.Marks.{Marks}
use Rattle.slice_compat.specs.declared.node.Node.{Node}
use Rattle.slice_compat.specs.declared.node.Node.TheVariants as nodes
use Rattle.ice_types.specs.Tables.{is_defined}
use Rattle.slice_compat.specs.Marks.{table_of, place_in, is_done, is_set, clear, if_clear, unmet, Sets}
use Rattle.slice_compat.proofs.Spreading.{either}
use Rattle.slice_compat.proofs.Setting.{here, was, kept, fewer}

-- the flags of a node are as they were, or those of the table in which one is set
abbrev Changes : Node → Marks → Marks → Node → Type 0
Changes node old new n = (table_of new n ≡ table_of old n)
    ⊎ ((table_of old n ≡ table_of old node) × (table_of new n ≡ set (table_of old node) (place_in node) true) × (place_in n ≡ place_in node → n ≡ node))

module _ (node : Node) (old new : Marks) (clear_there : is_done old node ≡ false) (pending : new.pending.items ≡ old.pending.items)
    (rows : length new.classes.items ≡ length old.classes.items) (now : table_of new node ≡ set (table_of old node) (place_in node) true)
    (changes : (n : Node) → Changes node old new n) (count : unmet new + 1 ≡ unmet old) where
  module _ (otherwise : Bool) (clear_too : is_set (table_of old node) (place_in node) ≡ false) where
    abbrev flag : List Bool → ℕ → Bool
    flag table place = unwrap_or (slice_get table place) otherwise

    was_there : (n : Node) → flag (table_of new n) (place_in n) ≡ true → (flag (table_of old n) (place_in n) ≡ true) ⊎ (n ≡ node)
    was_there n e = either (changes n)
        (λ same. inl (ap (λ (table : List Bool). flag table (place_in n)) (sym same) ∙ e))
        (λ s. either (was (table_of old node) (place_in node) clear_too otherwise (place_in n) (ap (λ (table : List Bool). flag table (place_in n)) (sym s.1) ∙ e))
        (λ set_before. inl (ap (λ (table : List Bool). flag table (place_in n)) s.0 ∙ set_before))
        (λ is. inr (s.2 is)))

    stays : (n : Node) → flag (table_of old n) (place_in n) ≡ true → flag (table_of new n) (place_in n) ≡ true
    stays n e = either (changes n)
        (λ same. ap (λ (table : List Bool). flag table (place_in n)) same ∙ e)
        (λ s. ap (λ (table : List Bool). flag table (place_in n)) s.1 ∙ kept (table_of old node) (place_in node) clear_too otherwise (place_in n) (ap (λ (table : List Bool). flag table (place_in n)) (sym s.0) ∙ e))

  pub sets_one : Sets node old new
  sets_one = record {
    pending = pending;
    rows = rows;
    done = was_there true clear_there;
    met = was_there false clear_there;
    here = ap (λ (table : List Bool). is_defined table (place_in node)) now ∙ here (table_of old node) (place_in node) clear_there false;
    kept_done = stays true clear_there;
    kept_met = stays false clear_there;
    fewer = count;
  }

module _ (old new : Marks) (pending : new.pending.items ≡ old.pending.items) (at : ℕ) where
  seq_changes : new.seqs.items ≡ set old.seqs.items at true → new.dicts.items ≡ old.dicts.items → new.structs.items ≡ old.structs.items → new.places.items ≡ old.places.items → new.classes.items ≡ old.classes.items → new.anywhere ≡ old.anywhere → (n : Node) → Changes (nodes.Seq at) old new n
  seq_changes seqs dicts structs places classes anywhere (nodes.Seq i) = inr (refl, seqs, λ is. ap nodes.Seq is)
  seq_changes seqs dicts structs places classes anywhere (nodes.Dict i) = inl dicts
  seq_changes seqs dicts structs places classes anywhere (nodes.Struct i) = inl structs
  seq_changes seqs dicts structs places classes anywhere (nodes.Place i) = inl places
  seq_changes seqs dicts structs places classes anywhere nodes.Anywhere = inl (ap (λ (b : Bool). b ∷ []) anywhere)
  seq_changes seqs dicts structs places classes anywhere (nodes.Class i) = inl classes

  pub sets_seq : is_set old.seqs.items at ≡ false → new.seqs.items ≡ set old.seqs.items at true → new.dicts.items ≡ old.dicts.items → new.structs.items ≡ old.structs.items → new.places.items ≡ old.places.items → new.classes.items ≡ old.classes.items → new.anywhere ≡ old.anywhere → Sets (nodes.Seq at) old new
  sets_seq e seqs dicts structs places classes anywhere = sets_one (nodes.Seq at) old new e pending (ap length classes) seqs (seq_changes seqs dicts structs places classes anywhere)
      (omega (arith, fewer old.seqs.items at e, ap clear seqs, ap clear dicts, ap clear structs, ap clear places, ap clear classes, ap if_clear anywhere))

  dict_changes : new.seqs.items ≡ old.seqs.items → new.dicts.items ≡ set old.dicts.items at true → new.structs.items ≡ old.structs.items → new.places.items ≡ old.places.items → new.classes.items ≡ old.classes.items → new.anywhere ≡ old.anywhere → (n : Node) → Changes (nodes.Dict at) old new n
  dict_changes seqs dicts structs places classes anywhere (nodes.Seq i) = inl seqs
  dict_changes seqs dicts structs places classes anywhere (nodes.Dict i) = inr (refl, dicts, λ is. ap nodes.Dict is)
  dict_changes seqs dicts structs places classes anywhere (nodes.Struct i) = inl structs
  dict_changes seqs dicts structs places classes anywhere (nodes.Place i) = inl places
  dict_changes seqs dicts structs places classes anywhere nodes.Anywhere = inl (ap (λ (b : Bool). b ∷ []) anywhere)
  dict_changes seqs dicts structs places classes anywhere (nodes.Class i) = inl classes

  pub sets_dict : is_set old.dicts.items at ≡ false → new.seqs.items ≡ old.seqs.items → new.dicts.items ≡ set old.dicts.items at true → new.structs.items ≡ old.structs.items → new.places.items ≡ old.places.items → new.classes.items ≡ old.classes.items → new.anywhere ≡ old.anywhere → Sets (nodes.Dict at) old new
  sets_dict e seqs dicts structs places classes anywhere = sets_one (nodes.Dict at) old new e pending (ap length classes) dicts (dict_changes seqs dicts structs places classes anywhere)
      (omega (arith, fewer old.dicts.items at e, ap clear seqs, ap clear dicts, ap clear structs, ap clear places, ap clear classes, ap if_clear anywhere))

  struct_changes : new.seqs.items ≡ old.seqs.items → new.dicts.items ≡ old.dicts.items → new.structs.items ≡ set old.structs.items at true → new.places.items ≡ old.places.items → new.classes.items ≡ old.classes.items → new.anywhere ≡ old.anywhere → (n : Node) → Changes (nodes.Struct at) old new n
  struct_changes seqs dicts structs places classes anywhere (nodes.Seq i) = inl seqs
  struct_changes seqs dicts structs places classes anywhere (nodes.Dict i) = inl dicts
  struct_changes seqs dicts structs places classes anywhere (nodes.Struct i) = inr (refl, structs, λ is. ap nodes.Struct is)
  struct_changes seqs dicts structs places classes anywhere (nodes.Place i) = inl places
  struct_changes seqs dicts structs places classes anywhere nodes.Anywhere = inl (ap (λ (b : Bool). b ∷ []) anywhere)
  struct_changes seqs dicts structs places classes anywhere (nodes.Class i) = inl classes

  pub sets_struct : is_set old.structs.items at ≡ false → new.seqs.items ≡ old.seqs.items → new.dicts.items ≡ old.dicts.items → new.structs.items ≡ set old.structs.items at true → new.places.items ≡ old.places.items → new.classes.items ≡ old.classes.items → new.anywhere ≡ old.anywhere → Sets (nodes.Struct at) old new
  sets_struct e seqs dicts structs places classes anywhere = sets_one (nodes.Struct at) old new e pending (ap length classes) structs (struct_changes seqs dicts structs places classes anywhere)
      (omega (arith, fewer old.structs.items at e, ap clear seqs, ap clear dicts, ap clear structs, ap clear places, ap clear classes, ap if_clear anywhere))

  place_changes : new.seqs.items ≡ old.seqs.items → new.dicts.items ≡ old.dicts.items → new.structs.items ≡ old.structs.items → new.places.items ≡ set old.places.items at true → new.classes.items ≡ old.classes.items → new.anywhere ≡ old.anywhere → (n : Node) → Changes (nodes.Place at) old new n
  place_changes seqs dicts structs places classes anywhere (nodes.Seq i) = inl seqs
  place_changes seqs dicts structs places classes anywhere (nodes.Dict i) = inl dicts
  place_changes seqs dicts structs places classes anywhere (nodes.Struct i) = inl structs
  place_changes seqs dicts structs places classes anywhere (nodes.Place i) = inr (refl, places, λ is. ap nodes.Place is)
  place_changes seqs dicts structs places classes anywhere nodes.Anywhere = inl (ap (λ (b : Bool). b ∷ []) anywhere)
  place_changes seqs dicts structs places classes anywhere (nodes.Class i) = inl classes

  pub sets_place : is_set old.places.items at ≡ false → new.seqs.items ≡ old.seqs.items → new.dicts.items ≡ old.dicts.items → new.structs.items ≡ old.structs.items → new.places.items ≡ set old.places.items at true → new.classes.items ≡ old.classes.items → new.anywhere ≡ old.anywhere → Sets (nodes.Place at) old new
  sets_place e seqs dicts structs places classes anywhere = sets_one (nodes.Place at) old new e pending (ap length classes) places (place_changes seqs dicts structs places classes anywhere)
      (omega (arith, fewer old.places.items at e, ap clear seqs, ap clear dicts, ap clear structs, ap clear places, ap clear classes, ap if_clear anywhere))

  class_changes : new.seqs.items ≡ old.seqs.items → new.dicts.items ≡ old.dicts.items → new.structs.items ≡ old.structs.items → new.places.items ≡ old.places.items → new.classes.items ≡ set old.classes.items at true → new.anywhere ≡ old.anywhere → (n : Node) → Changes (nodes.Class at) old new n
  class_changes seqs dicts structs places classes anywhere (nodes.Seq i) = inl seqs
  class_changes seqs dicts structs places classes anywhere (nodes.Dict i) = inl dicts
  class_changes seqs dicts structs places classes anywhere (nodes.Struct i) = inl structs
  class_changes seqs dicts structs places classes anywhere (nodes.Place i) = inl places
  class_changes seqs dicts structs places classes anywhere nodes.Anywhere = inl (ap (λ (b : Bool). b ∷ []) anywhere)
  class_changes seqs dicts structs places classes anywhere (nodes.Class i) = inr (refl, classes, λ is. ap nodes.Class is)

  pub sets_class : is_set old.classes.items at ≡ false → new.seqs.items ≡ old.seqs.items → new.dicts.items ≡ old.dicts.items → new.structs.items ≡ old.structs.items → new.places.items ≡ old.places.items → new.classes.items ≡ set old.classes.items at true → new.anywhere ≡ old.anywhere → Sets (nodes.Class at) old new
  sets_class e seqs dicts structs places classes anywhere = sets_one (nodes.Class at) old new e pending (ap length classes ∙ length-set old.classes.items at true) classes (class_changes seqs dicts structs places classes anywhere)
      (omega (arith, fewer old.classes.items at e, ap clear seqs, ap clear dicts, ap clear structs, ap clear places, ap clear classes, ap if_clear anywhere))

-- any class: a table of one flag
set_first : (b : Bool) → set (b ∷ []) 0 true ≡ true ∷ []
set_first b = refl

anywhere_changes : (old new : Marks) → new.seqs.items ≡ old.seqs.items → new.dicts.items ≡ old.dicts.items → new.structs.items ≡ old.structs.items → new.places.items ≡ old.places.items → new.classes.items ≡ old.classes.items → new.anywhere ≡ true → (n : Node) → Changes nodes.Anywhere old new n
anywhere_changes old new seqs dicts structs places classes anywhere (nodes.Seq i) = inl seqs
anywhere_changes old new seqs dicts structs places classes anywhere (nodes.Dict i) = inl dicts
anywhere_changes old new seqs dicts structs places classes anywhere (nodes.Struct i) = inl structs
anywhere_changes old new seqs dicts structs places classes anywhere (nodes.Place i) = inl places
anywhere_changes old new seqs dicts structs places classes anywhere nodes.Anywhere = inr (refl, ap (λ (b : Bool). b ∷ []) anywhere ∙ sym (set_first old.anywhere), λ is. refl)
anywhere_changes old new seqs dicts structs places classes anywhere (nodes.Class i) = inl classes

pub sets_anywhere : (old new : Marks) → new.pending.items ≡ old.pending.items → old.anywhere ≡ false → new.seqs.items ≡ old.seqs.items → new.dicts.items ≡ old.dicts.items → new.structs.items ≡ old.structs.items → new.places.items ≡ old.places.items → new.classes.items ≡ old.classes.items → new.anywhere ≡ true → Sets nodes.Anywhere old new
sets_anywhere old new pending e seqs dicts structs places classes anywhere = sets_one nodes.Anywhere old new e pending (ap length classes) (ap (λ (b : Bool). b ∷ []) anywhere ∙ sym (set_first old.anywhere)) (anywhere_changes old new seqs dicts structs places classes anywhere)
    (omega (arith, ap clear seqs, ap clear dicts, ap clear structs, ap clear places, ap clear classes, ap if_clear anywhere, ap if_clear e))
