-- What a call and an answer are made of. (Ice manual, "Protocol Messages".)
use Rattle.std.specs.Prelude.{ℕ, pos, zero, suc, ◌≡◌, ◌≤◌, List, [], ◌++◌, length, Result, nat_le}
use Rattle.std.specs.Int.{w32}
use Rattle.ice_types.specs.declared.identity.Identity.{Identity}
use Rattle.ice_prims.specs.declared.fault.Fault.{Fault}
use Rattle.ice_prims.specs.declared.fault.Kind.TheVariants.{BadMode, BadStatus}
use Rattle.ice_prims.specs.Rest.{Rest, ◌>>=◌, bytes_at}
use Rattle.ice_prims.specs.Number.{signed_at, SpellsSigned}
use Rattle.ice_encoding.specs.declared.limits.TheConstants.{LARGEST, SMALLEST}
use Rattle.ice_encoding.specs.Parts.{Part, byte, text, both, made, tested, chosen}
use Rattle.ice_encoding.specs.Bounds.{claimed}
use Rattle.ice_encoding.specs.Identity.{identity, no_identity, facet}
use Rattle.ice_messages.specs.declared.message.Call.{Call}
use Rattle.ice_messages.specs.declared.message.Answer.{Answer}
use Rattle.ice_messages.specs.declared.message.Answer.TheVariants.{Done, Raised, Missing, Unknown}
use Rattle.ice_messages.specs.Context.{context}

-- normal, nonmutating, idempotent
abbrev pub mode : Part ℕ
mode = tested (λ m. nat_le m 2) BadMode byte

-- ---- an encapsulation, whatever its version and content

abbrev pub encapsulation_at : Rest → Result (List ℕ × Rest) Fault
encapsulation_at r = do
  claim ← signed_at w32 r
  n ← claimed r.place (length r.bytes) SMALLEST claim.0
  bytes_at n r

-- its size counts all of it
abbrev pub IsEncapsulation : List ℕ → Type 0
IsEncapsulation bytes = (claim content : List ℕ) × (bytes ≡ claim ++ content) × SpellsSigned w32 claim (pos (length bytes)) × (SMALLEST ≤ length bytes) × (length bytes ≤ LARGEST)

-- an encapsulation, kept whole whatever its version
abbrev pub encapsulation : Part (List ℕ)
encapsulation = record { read = encapsulation_at; Spells = λ bytes x. (bytes ≡ x) × IsEncapsulation x; put = λ x. x; Is = IsEncapsulation }

-- ---- a call

-- what a request says, part by part
abbrev pub call : Part Call
call = made
    (λ x. record { identity = x.0; facet = x.1.0; operation = x.1.1.0; mode = x.1.1.1.0; context = x.1.1.1.1.0; body = x.1.1.1.1.1 })
    (λ c. (c.identity, (c.facet, (c.operation, (c.mode, (c.context, c.body))))))
    (both identity (both facet (both text (both mode (both context encapsulation)))))

-- ---- an answer

abbrev pub status_of : Answer → ℕ
status_of (Done body) = 0
status_of (Raised body) = 1
status_of (Missing status i f o) = status
status_of (Unknown status what) = status

abbrev pub body_of : Answer → List ℕ
body_of (Done body) = body
body_of (Raised body) = body
body_of (Missing status i f o) = []
body_of (Unknown status what) = []

abbrev pub missed_of : Answer → Identity × (List ℕ × List ℕ)
missed_of (Done body) = (no_identity, ([], []))
missed_of (Raised body) = (no_identity, ([], []))
missed_of (Missing status i f o) = (i, (f, o))
missed_of (Unknown status what) = (no_identity, ([], []))

abbrev pub text_of : Answer → List ℕ
text_of (Done body) = []
text_of (Raised body) = []
text_of (Missing status i f o) = []
text_of (Unknown status what) = what

-- the call that was not taken: its identity, facet and operation
abbrev pub missed : Part (Identity × (List ℕ × List ℕ))
missed = both identity (both facet text)

abbrev pub missing : ℕ → Part Answer
missing status = made (λ x. Missing status x.0 x.1.0 x.1.1) missed_of missed

-- by its status
abbrev pub answer_by : ℕ → Part Answer
answer_by zero = made Done body_of encapsulation
answer_by (suc zero) = made Raised body_of encapsulation
answer_by (suc (suc zero)) = missing 2
answer_by (suc (suc (suc zero))) = missing 3
answer_by (suc (suc (suc (suc zero)))) = missing 4
answer_by (suc (suc (suc (suc (suc n))))) = made (Unknown (suc (suc (suc (suc (suc n)))))) text_of text

-- what a reply says, by its status
abbrev pub answer : Part Answer
answer = chosen (tested (λ s. nat_le s 7) BadStatus byte) answer_by status_of
