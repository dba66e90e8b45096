-- What an interface without faults holds fits.
use Rattle.std.proofs.Common.{◌≡◌, ℕ, Bool, true, false, not, List, [], length, map, Option, Some, None, sym, ap, ◌∙◌, subst}
use Rattle.std.specs.Option.{is_some}
use Rattle.slice_syntax.specs.declared.tree.Word.{Word}
use Rattle.slice_syntax.specs.declared.tree.Path.{Path}
use Rattle.slice_syntax.specs.declared.tree.OpTree.{OpTree}
use Rattle.slice_syntax.specs.declared.tree.Item.TheVariants as items
use Rattle.ice_types.specs.declared.declarations.OpDecl.{OpDecl}
use Rattle.ice_types.specs.Tables.{is_defined}
use Rattle.ice_types.specs.Fits.{InterfaceFits}
use Rattle.slice_meaning.specs.declared.fault.Fault.{Fault}
use Rattle.slice_meaning.specs.Known.{Known, standing_here, with_interface_name}
use Rattle.slice_meaning.specs.Uses.{interface_named}
use Rattle.slice_meaning.specs.Clashes.{reopened_name, is_interface}
use Rattle.slice_meaning.specs.Members.{named, op_of}
use Rattle.slice_meaning.specs.Faults.{faults}
use Rattle.slice_meaning.specs.After.{interface_at}
use Rattle.slice_meaning.specs.Rows.{KnowsRows}
use Rattle.slice_meaning.specs.Checking.{noted}
use Rattle.slice_faults.specs.Sides.{body_faults}
use Rattle.slice_faults.proofs.Noting.{joined}
use Rattle.slice_faults.proofs.Free.{unfaulted, both_none}
use Rattle.slice_faults.proofs.Reopened.{IsOpen, interface_open}

-- the name, then what the interface holds, once it has its name
pub interface_noted : (k m : Known) (word : Word) (bases paths : List Path) (ops trees : List OpTree) (before name all : Option Fault) → before ≡ None → paths ≡ bases → trees ≡ ops → m ≡ with_interface_name k word
    → name ≡ noted before (reopened_name k (is_interface k true) word) → all ≡ noted name (body_faults m word paths trees) → all ≡ noted None (faults k (items.Interface word bases (Some ops)))
interface_noted k m word bases paths ops trees before name all start p t same a b =
    joined None name all (reopened_name k (is_interface k true) word) (body_faults (with_interface_name k word) word bases ops)
    (a ∙ ap (λ o. noted o (reopened_name k (is_interface k true) word)) start)
    (subst (λ (m : Known). all ≡ noted name (body_faults m word bases ops)) same
    (b ∙ (ap (λ l. noted name (body_faults m word l trees)) p ∙ ap (λ l. noted name (body_faults m word bases l)) t)))

-- without a fault the interface may be defined
pub interface_ready : (k m : Known) (word : Word) (bases : List Path) (ops : List OpTree) (all : Option Fault) (none : Bool) → m ≡ with_interface_name k word → KnowsRows m
    → (standing_here k word ≡ None → is_defined m.tables.defined_interfaces (interface_at m word) ≡ false) → is_some all ≡ not none → none ≡ true → all ≡ noted None (faults k (items.Interface word bases (Some ops)))
    → IsOpen m.tables.defined_interfaces (interface_at m word) (length m.tables.interfaces)
interface_ready k m word bases ops all none same knows fresh is h so =
    interface_open k word m same (both_none (reopened_name k (is_interface k true) word) _ (unfaulted all none (faults k (items.Interface word bases (Some ops))) is h so)).0 knows fresh

-- and what it holds fits
pub interface_fits : (k m : Known) (word : Word) (bases paths : List Path) (ops trees : List OpTree) (all : Option Fault) (none : Bool) → paths ≡ bases → trees ≡ ops → m ≡ with_interface_name k word
    → (faults k (items.Interface word bases (Some ops)) ≡ []
    → InterfaceFits (with_interface_name k word).tables (named (interface_named (with_interface_name k word)) bases) (map (op_of (with_interface_name k word)) ops))
    → is_some all ≡ not none → none ≡ true → all ≡ noted None (faults k (items.Interface word bases (Some ops))) → InterfaceFits m.tables (named (interface_named m) paths) (map (op_of m) trees)
interface_fits k m word bases paths ops trees all none p t same law is h so =
    subst (λ (l : List Path). InterfaceFits m.tables (named (interface_named m) l) (map (op_of m) trees)) (sym p)
    (subst (λ (l : List OpTree). InterfaceFits m.tables (named (interface_named m) bases) (map (op_of m) l)) (sym t)
    (subst (λ (m : Known). InterfaceFits m.tables (named (interface_named m) bases) (map (op_of m) ops)) (sym same) (law (unfaulted all none (faults k (items.Interface word bases (Some ops))) is h so))))

pub same_fits : (k : Known) (paths : List Path) (trees : List OpTree) (bases : List ℕ) (ops : List OpDecl) → bases ≡ named (interface_named k) paths → ops ≡ map (op_of k) trees
    → InterfaceFits k.tables (named (interface_named k) paths) (map (op_of k) trees) → InterfaceFits k.tables bases ops
same_fits k paths trees bases ops b o fits =
    subst (λ (l : List ℕ). InterfaceFits k.tables l ops) (sym b) (subst (λ (l : List OpDecl). InterfaceFits k.tables (named (interface_named k) paths) l) (sym o) fits)
