-- A fault of the checker is that of a name on the shelf.
use Rattle.std.proofs.Common.{◌≡◌, ℕ, ◌<◌, false, List, length, Option, Some, None, Err, slice_get, get_or, option_map, ◌≤◌, ◌⊎◌, refl, sym, ap, ◌∙◌, subst, inl, inr, arith}
use Rattle.std.specs.Option.{IfSome}
use Rattle.std.proofs.lemmas.List.{length-map}
use Rattle.std.proofs.lemmas.Option.{slice_get-map, slice_get_cases}
use Rattle.slice_syntax.specs.declared.tree.File.{File}
use Rattle.slice_meaning.specs.declared.fault.Fault.{Fault}
use Rattle.slice_meaning.specs.Names.{Name}
use Rattle.slice_meaning.specs.Meaning.{CheckBreaks}
use Rattle.slice_meaning.specs.Printed.{broken_at, row_name}
use Rattle.slice_meaning.specs.Loading.{Shelf, Loaded}
use Rattle.slice_faults.specs.Answer.{IsAnswer}
use Rattle.slice_faults.specs.declared.fault.CheckFault.{CheckFault}
use Rattle.slice_faults.specs.declared.fault.CheckFault.TheVariants as checking
use Rattle.slice_check.specs.declared.fault.LoadFault.{LoadFault}
use Rattle.slice_check.specs.declared.fault.LoadFault.TheVariants as faults
use Rattle.slice_check.specs.declared.files.Files.{Files}
use Rattle.slice_check.specs.Answers.{Answers, IsFault, is_failed}
use Rattle.slice_check.specs.Standing.{AreFiles, AreWalked}
use Rattle.slice_check.proofs.Ranges.{breaks_within}

-- the fault that is answered
pub breaks_at : (trees seen : List File) (answer : CheckFault) (at : ℕ) (fault : Fault) → seen ≡ trees → answer ≡ checking.At at fault.place fault.kind → IsAnswer seen (Err answer) → CheckBreaks trees at fault
breaks_at trees seen answer at fault same is h = subst (λ (t : List File). CheckBreaks t at fault) same (subst (λ (a : CheckFault). IsAnswer seen (Err a)) is h)

-- the file that it is in
pub fault_file : (f : Files) (complete : List Loaded) (at : ℕ) (fault : Fault) → AreFiles f complete → CheckBreaks f.trees at fault → (l : Loaded) × (slice_get complete at ≡ Some l)
fault_file f complete at fault are b = by (slice_get_cases complete at).1
  where
    within : at < length complete
    within = omega (arith, breaks_within f.trees at fault b, ap length are.read, length-map complete (λ (l : Loaded). l.1))

    by : ((l : Loaded) × (at < length complete) × (slice_get complete at ≡ Some l) × (get_or complete at l ≡ l)) ⊎ ((length complete ≤ at) × (slice_get complete at ≡ None)) → (l : Loaded) × (slice_get complete at ≡ Some l)
    by (inl h) = (h.0, h.2)
    by (inr h) = absurd (omega (arith, within, h.0))

-- its name
pub fault_name : (f : Files) (complete : List Loaded) (at : ℕ) (l : Loaded) → AreFiles f complete → slice_get complete at ≡ Some l → slice_get f.names at ≡ Some l.0
fault_name f complete at l are e = ap (λ (n : List Name). slice_get n at) are.named ∙ (slice_get-map (λ (l : Loaded). l.0) complete at ∙ ap (λ (o : Option Loaded). option_map (λ l. l.0) o) e)

pub fault_within : (f : Files) (complete : List Loaded) (at : ℕ) (fault : Fault) → AreFiles f complete → CheckBreaks f.trees at fault → at < length f.names
fault_within f complete at fault are b = omega (arith, breaks_within f.trees at fault b, ap length are.read, length-map complete (λ (l : Loaded). l.1), ap length are.named, length-map complete (λ (l : Loaded). l.0))

-- a fault is answered, which is none of the shelf
pub not_failed : (f : Files) (complete : List Loaded) (at : ℕ) (fault : Fault) (answer : LoadFault) → AreFiles f complete → CheckBreaks f.trees at fault
    → ((name : Name) → slice_get f.names at ≡ Some name → IsFault (broken_at name fault.place (row_name fault.kind)) answer) → is_failed {T = Unit {0}} (Err answer) ≡ false
not_failed f complete at fault answer are b told = let l = fault_file f complete at fault are b in by answer (told l.0.0 (fault_name f complete at l.0 are l.1))
  where
    by : (other : LoadFault) → IsFault (broken_at (fault_file f complete at fault are b).0.0 fault.place (row_name fault.kind)) other → is_failed {T = Unit {0}} (Err other) ≡ false
    by (faults.Text file place kind) h = refl
    by faults.Shelf h = absurd h
    by faults.Memory h = refl

-- it is that of the name, where the shelf tells its files
pub is_break : (files : Option Shelf) (name : Name) (f : Files) (at : ℕ) (fault : Fault) (answer : LoadFault) → AreWalked files name f → CheckBreaks f.trees at fault
    → ((file : Name) → slice_get f.names at ≡ Some file → IsFault (broken_at file fault.place (row_name fault.kind)) answer) → IfSome files (λ known. Answers known name (Err answer))
is_break None name f at fault answer w b told = tt
is_break (Some known) name f at fault answer w b told = let l = fault_file f w.complete at fault w.those b in by answer (told l.0.0 (fault_name f w.complete at l.0 w.those l.1))
  where
    by : (other : LoadFault) → IsFault (broken_at (fault_file f w.complete at fault w.those b).0.0 fault.place (row_name fault.kind)) other → Answers known name (Err other)
    by (faults.Text file place kind) h = let l = fault_file f w.complete at fault w.those b in inr (record {
      loaded = w.loaded;
      trees = w.complete;
      walk = w.walked known refl;
      at = at;
      fault = fault;
      breaks = subst (λ (t : List File). CheckBreaks t at fault) w.those.read b;
      tree = l.0;
      place = l.1;
      is = sym h;
    })
    by faults.Shelf h = tt
    by faults.Memory h = tt
