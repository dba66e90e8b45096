-- What is written for the members of a slice is bytes.
use Rattle.std.proofs.Common.{inl, inr, arith, ℕ, length}
use Rattle.ice_types.specs.declared.declarations.Shape.{Shape}
use Rattle.ice_types.specs.Tables.{Tables}
use Rattle.ice_prims.specs.Rest.{IsBytes}
use Rattle.ice_encoding.specs.Port.{size_of, by_number}
use Rattle.ice_encoding.specs.Typed.{Refers}
use Rattle.ice_encoding.specs.OptionalMembers.{Members}
use Rattle.ice_encoding.specs.Classes.{own_members}
use Rattle.ice_encoding.specs.Graph.{known}
use Rattle.ice_encoding.specs.Names.{renamed_members}
use Rattle.ice_encoding.specs.TypedGraph.{AreMembers, IsKnown}
use Rattle.ice_encoding.specs.Visiting.{place}
use Rattle.ice_encoding.specs.Members.{written_slice_members}
use Rattle.ice_encoding.specs.CanonicalGraph.{by_size, table_of, sized_bytes}
use Rattle.graph_laws.proofs.PutBytes.{both_bytes, size_put}
use Rattle.graph_laws.proofs.Renamed.{members-renamed}
use Rattle.graph_laws.proofs.WrittenValues.{Limits, Rules}
use Rattle.graph_laws.proofs.WrittenMembers.{members_good}

-- however long it is
abbrev no_limits : Limits
no_limits = record { most = 0; bound = 0; bounded = omega arith; fit = inl (omega arith) }

abbrev byte_rules : Rules (Unit {0}) (Unit {0}) no_limits
byte_rules = record {
  Good = λ w ns R. (p : Unit {0}) → IsBytes (w p).0;
  exact = λ bytes R fits h p. fits;
  joined = λ w w' a b R R' one two p. both_bytes (w p).0 (w' (w p).1).0 (one p) (two (w p).1);
  mapped = λ w ns R R' f good p. good p;
  behind = λ number spelled fits w ns R good p. both_bytes (number.put (length (w p).0)) (w p).0 (fits (length (w p).0)) (good p);
}

abbrev any_reference : ℕ → Refers
any_reference most = record { Held = λ declared n. Unit {0}; most = most }

members_fit : (t : Tables) (most : ℕ) (shape : Shape) (c : Members) → AreMembers t (any_reference most) shape c → IsBytes (written_slice_members by_size t shape c tt).0
members_fit t most shape c h = members_good byte_rules t by_number by_size (any_reference most) (inr (omega arith), λ declared n is p. size_put (size_of n)) shape c h tt

pub sized_fit : (t : Tables) (Refer : Refers) (class : ℕ) (content : Members) → IsKnown t Refer class content → IsBytes (sized_bytes t (known class content))
sized_fit t Refer class content h =
    let f = place (table_of (known class content)) in
    members_fit t Refer.most (own_members t class) (renamed_members f content) (members-renamed t f Refer (any_reference Refer.most) (omega arith, λ declared n is. tt) (own_members t class) content h.2)
