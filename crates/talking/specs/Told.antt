-- What listeners, trays and links tell while links are given, taken back and gathered.
use Rattle.std.specs.Prelude.{◌≡◌, ℕ, ◌<◌, ◌-◌, ◌^◌, List, [], length, Option, Some}
use Rattle.ice_ports.specs.declared.talk.Talk.{Talk}
use Rattle.ice_ports.specs.Nets.{ToldListener}
use Rattle.ice_ports.specs.Talks.{silent}

-- of a listener that told, when serving began, that it had given no link
abbrev pub IfFresh : Option ToldListener → (ToldListener → Type 0) → Type 0
IfFresh first Then = (f : ToldListener) → first ≡ Some f → (f.given ≡ 0) → (f.gathered ≡ []) → Then f

-- nothing was said over the link yet
abbrev pub LinkTells : Option ToldListener → Option Talk → Type 0
LinkTells first talk = IfFresh first (λ f. talk ≡ Some silent)

-- a tray tells these talks; a list has less than 2 ^ 63 of them
abbrev pub TrayTells : Option ToldListener → Option (List Talk) → List Talk → Type 0
TrayTells first tray ts = IfFresh first (λ f. length ts < 2 ^ 63 → tray ≡ Some ts)

-- the listener tells that it gave so many links, and that links with these talks were taken back
abbrev pub DoorTells : Option ToldListener → ℕ → Option ToldListener → List Talk → Type 0
DoorTells first given now ts = IfFresh first (λ f. length ts < 2 ^ 63 → now ≡ Some (record { given = given; to_come = f.to_come - given; gathered = ts }))

-- no link is still to come, as far as the listener tells that
abbrev pub NoneToCome : Option ToldListener → Type 0
NoneToCome told = (now : ToldListener) → told ≡ Some now → now.to_come ≡ 0
