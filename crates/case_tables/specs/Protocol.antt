-- What stands as a byte in messages, proxies, optional members and slices.
use Rattle.std.specs.Prelude.{ℕ, ◌<◌, ◌≡◌, ◌≢◌, ◌/◌, ◌%◌, List, [], ◌∷◌, codes}
use Rattle.case_tables.specs.Tables.{Name}

-- ---- tables of names

-- the types of messages: "Protocol Messages" of the Ice manual
abbrev pub message_names : List Name
message_names = codes "request" ∷ codes "batch" ∷ codes "reply" ∷ codes "validate" ∷ codes "close" ∷ []

-- the statuses of a reply: "Reply Message Body"
abbrev pub reply_names : List Name
reply_names = codes "success" ∷ codes "user exception" ∷ codes "object does not exist" ∷ codes "facet does not exist" ∷ codes "operation does not exist"
    ∷ codes "unknown local exception" ∷ codes "unknown user exception" ∷ codes "unknown exception" ∷ []

-- the modes in which an operation is called: "Request Message Body"
abbrev pub mode_names : List Name
mode_names = codes "normal" ∷ codes "nonmutating" ∷ codes "idempotent" ∷ []

-- the modes in which a proxy calls: "Data Encoding for Proxies"
abbrev pub proxy_mode_names : List Name
proxy_mode_names = codes "twoway" ∷ codes "oneway" ∷ codes "batch oneway" ∷ codes "datagram" ∷ codes "batch datagram" ∷ []

-- the formats of optional members: "Data Encoding for Optional Values"
abbrev pub format_names : List Name
format_names = codes "F1" ∷ codes "F2" ∷ codes "F4" ∷ codes "F8" ∷ codes "Size" ∷ codes "VSize" ∷ codes "FSize" ∷ codes "Class" ∷ []

-- ---- the flags of a slice: "Data Encoding for Class and Exception Types"

-- the two lowest bits tell how the type id stands
abbrev pub HasTypeId : ℕ → Type 0
HasTypeId flags = flags % 4 ≢ 0

abbrev pub HasTable : ℕ → Type 0
HasTable flags = flags / 8 % 2 ≡ 1

abbrev pub HasSize : ℕ → Type 0
HasSize flags = flags / 16 % 2 ≡ 1

-- an indirection table comes with a size, and a size with a type id; the two highest bits are none
abbrev pub AreFlags : ℕ → Type 0
AreFlags flags = (flags < 64) × (HasTable flags → HasSize flags) × (HasSize flags → HasTypeId flags)
