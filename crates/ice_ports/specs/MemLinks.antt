-- Links in memory, by their plans.
use Rattle.std.specs.Prelude.{◌≡◌, ℕ, ◌<◌, ◌≤◌, ◌-◌, Bool, false, List, [], ◌∷◌, length, drop, min, nat_le, Option, None, Some}
use Rattle.ice_ports.specs.declared.plan_of_link.Plan.{Plan}
use Rattle.ice_ports.specs.declared.talk.Talk.{Talk}
use Rattle.ice_ports.specs.Talks.{silent}

-- a plan that a link can keep to
abbrev pub IsPlan : Plan → Type 0
IsPlan p = (0 < p.piece) × (p.takes ≤ 16777216)

-- a link: its plan, what went over it, and how many reads and writes failed
pub record MemTalk : Type 0 where
  pub plan : Plan
  pub talk : Talk
  pub reads_failed : ℕ
  pub writes_failed : ℕ

-- a link of this plan, before the first call
abbrev pub new_link : Plan → MemTalk
new_link p = record { plan = p; talk = silent; reads_failed = 0; writes_failed = 0 }

-- how many bytes are given before reads fail or end
abbrev pub reach : Option ℕ → List ℕ → ℕ
reach None gives = length gives
reach (Some n) gives = min n (length gives)

-- so many bytes were given, and the next read fails
abbrev pub fails_at : Option ℕ → ℕ → Bool
fails_at None given = false
fails_at (Some n) given = nat_le n given

abbrev pub read_fails : MemTalk → Bool
read_fails l = fails_at l.plan.read_fails_at (length l.talk.given)

abbrev pub write_fails : MemTalk → Bool
write_fails l = nat_le l.plan.takes (length l.talk.taken)

-- the bytes that are not read yet
abbrev pub left : MemTalk → List ℕ
left l = drop (length l.talk.given) l.plan.gives

-- how many bytes a read gives into a slice of this length
abbrev pub given_to : MemTalk → ℕ → ℕ
given_to l room = min room (min l.plan.piece
    (reach l.plan.read_fails_at l.plan.gives - length l.talk.given))

-- the plan of a link that is shut: what went over it, and no more
abbrev pub cut : MemTalk → Plan
cut l = record l.plan { gives = l.talk.given; read_fails_at = None; takes = length l.talk.taken }

-- the answer of who gives links by these plans: the link of the first, where there is one
abbrev pub NextLink : Option MemTalk → List Plan → List Plan → Type 0
NextLink None before after = (before ≡ []) × (after ≡ [])
NextLink (Some link) before after = (plan : Plan) × (before ≡ plan ∷ after) × (link ≡ new_link plan)
