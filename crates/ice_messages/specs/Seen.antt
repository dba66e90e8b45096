-- Entries that are lent from the bytes, as contracts see them.
use Rattle.std.specs.Prelude.{ℕ, ◌≡◌, List, map, Result, Ok, Err}
use Rattle.std.specs.Borrow.{Bor}
use Rattle.std.specs.BTreeMap.{BTreeMap}
use Rattle.ice_prims.specs.declared.fault.Fault.{Fault}
use Rattle.ice_prims.specs.declared.fault.ReadFault.{ReadFault}
use Rattle.ice_prims.specs.Rest.{Rest}
use Rattle.ice_prims.specs.Taking.{Fails}
use Rattle.ice_messages.specs.Context.{Entry}

-- the texts, wherever they lie
abbrev pub all_seen : List (Bor (List ℕ) × Bor (List ℕ)) → List Entry
all_seen entries = map (λ e. (e.0.now, e.1.now)) entries

-- entries that are lent from the bytes
abbrev pub seen : BTreeMap (Bor (List ℕ)) (Bor (List ℕ)) → List Entry
seen m = all_seen m.entries

-- Entries were read. Where reading stands after a refusal is left open.
abbrev pub ReadsEntries : Result (BTreeMap (Bor (List ℕ)) (Bor (List ℕ))) ReadFault → Rest → Result (List Entry × Rest) Fault → Type 0
ReadsEntries (Ok m) new read = read ≡ Ok (seen m, new)
ReadsEntries (Err e) new read = Fails e read
