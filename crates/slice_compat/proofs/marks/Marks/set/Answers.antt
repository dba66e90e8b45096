use Rattle.std.proofs.Common.{◌≡◌, true, false, refl, sym, subst}
use Rattle.std.specs.Vec.{with_item}
use Rattle.slice_compat.specs.Marks.{Sets, is_done}
use Rattle.slice_compat.specs.declared.node.Node.{Node}
use Rattle.slice_compat.specs.declared.node.Node.TheVariants as nodes
use Rattle.slice_compat.proofs.Tables.{sets_seq, sets_dict, sets_struct, sets_place, sets_class}
use Rattle.slice_compat.proofs.marks.Marks.set.Goals as goal

pub returns-in-Seq : goal.returns-in-Seq
returns-in-Seq c =
    let now = c.args.self.now in
    let then = record now { seqs = with_item now.seqs c.in-Seq.at true } in
    let clear : is_done now (nodes.Seq c.in-Seq.at) ≡ false = subst (λ (n : Node). is_done now n ≡ false) c.in-Seq.is c.requires in
    subst (λ (n : Node). Sets n now then) (sym c.in-Seq.is) (sets_seq now then refl c.in-Seq.at clear refl refl refl refl refl refl)

pub returns-in-Dict : goal.returns-in-Dict
returns-in-Dict c =
    let now = c.args.self.now in
    let then = record now { dicts = with_item now.dicts c.in-Dict.at true } in
    let clear : is_done now (nodes.Dict c.in-Dict.at) ≡ false = subst (λ (n : Node). is_done now n ≡ false) c.in-Dict.is c.requires in
    subst (λ (n : Node). Sets n now then) (sym c.in-Dict.is) (sets_dict now then refl c.in-Dict.at clear refl refl refl refl refl refl)

pub returns-in-Struct : goal.returns-in-Struct
returns-in-Struct c =
    let now = c.args.self.now in
    let then = record now { structs = with_item now.structs c.in-Struct.at true } in
    let clear : is_done now (nodes.Struct c.in-Struct.at) ≡ false = subst (λ (n : Node). is_done now n ≡ false) c.in-Struct.is c.requires in
    subst (λ (n : Node). Sets n now then) (sym c.in-Struct.is) (sets_struct now then refl c.in-Struct.at clear refl refl refl refl refl refl)

pub returns-in-Place : goal.returns-in-Place
returns-in-Place c =
    let now = c.args.self.now in
    let then = record now { places = with_item now.places c.in-Place.at true } in
    let clear : is_done now (nodes.Place c.in-Place.at) ≡ false = subst (λ (n : Node). is_done now n ≡ false) c.in-Place.is c.requires in
    subst (λ (n : Node). Sets n now then) (sym c.in-Place.is) (sets_place now then refl c.in-Place.at clear refl refl refl refl refl refl)

pub returns-in-Class : goal.returns-in-Class
returns-in-Class c =
    let now = c.args.self.now in
    let then = record now { classes = with_item now.classes c.in-Class.at true } in
    let clear : is_done now (nodes.Class c.in-Class.at) ≡ false = subst (λ (n : Node). is_done now n ≡ false) c.in-Class.is c.requires in
    subst (λ (n : Node). Sets n now then) (sym c.in-Class.is) (sets_class now then refl c.in-Class.at clear refl refl refl refl refl refl)
