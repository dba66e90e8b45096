-- What each reference does to the state, all members do.
use Rattle.std.proofs.Common.{ℕ, ◌≡◌, Bool, List, Option, Some, None, refl, sym, subst}
use Rattle.std.specs.Prelude.{slice_get}
use Rattle.ice_types.specs.declared.declarations.ClassDecl.{ClassDecl}
use Rattle.ice_types.specs.declared.declarations.Shape.{Shape}
use Rattle.ice_types.specs.Tables.{Tables}
use Rattle.ice_types.specs.Lacking.{SameShape}
use Rattle.ice_encoding.specs.Port.{Port, nowhere}
use Rattle.ice_encoding.specs.OptionalMembers.{Members, shape_of, SpellsSliceMembers}
use Rattle.ice_encoding.specs.Classes.{members_in, own_members}
use Rattle.graph_laws.proofs.Carried.{Steps}
use Rattle.graph_laws.proofs.Rows.{Agrees, id_there}
use Rattle.graph_laws.proofs.Measured.{own_same}
use Rattle.graph_laws.proofs.RelayedCarried.{slice_carried}

-- the port at which anything stands
abbrev any_port : Port (Unit {0}) (Unit {0})
any_port = record { seen = λ s. s; read = λ at s r. nowhere r; Spells = λ at bytes n from to. Unit {0} }

module _ {R S : Type 0} (port : Port R S) (t : Tables) (agrees : Agrees t t) (Step : S → S → Type 0) (same : (s : S) → Step s s) (joined : (a b c : S) → Step a b → Step b c → Step a c)
    (keeps : (declared n : Option ℕ) (bytes : List ℕ) (from to : S) → port.Spells declared bytes n from to → Step from to) where
  abbrev steps : Steps S
  steps = record { Fine = λ s. Unit {0}; Step = Step; same = same; joined = joined; back = λ a b step fine. tt }

  pub members_keep : (flagged : Bool) (shape : Shape) → SameShape t t shape shape → (bytes : List ℕ) (c : Members) (from to : S) → SpellsSliceMembers port t flagged shape bytes c from to → Step from to
  members_keep flagged shape own bytes c from to h =
      (slice_carried steps (λ s z. Unit {0}) port any_port t t agrees (λ a b tied bytes n from to h. (keeps a n bytes from to h, λ begin r good. (tt, tt, tt))) flagged shape shape own bytes c from to h).0

-- the members of a class are of its schema
pub own_itself : (t : Tables) → Agrees t t → (class : ℕ) → SameShape t t (own_members t class) (own_members t class)
own_itself t agrees class = by_row (slice_get t.classes class) refl
  where
    by_row : (row : Option ClassDecl) → slice_get t.classes class ≡ row → SameShape t t (own_members t class) (own_members t class)
    by_row None e = subst (λ (o : Option ClassDecl). SameShape t t (shape_of (members_in o)) (shape_of (members_in o))) (sym e) (tt, tt)
    by_row (Some d) e = let id = id_there (λ c. c.id) t.classes class d e in own_same t t agrees class class (d.id, id, id)
