-- What listeners, trays and links tell while links are given, taken back and gathered.
use Rattle.std.proofs.Common.{◌≡◌, ℕ, ◌+◌, ◌-◌, ◌<◌, ◌^◌, if◌then◌else◌, Bool, List, [], ◌∷◌, ◌++◌, length, refl, sym, ap, ap₂, ◌∙◌, subst, arith, length-append}
use Rattle.std.specs.Prelude.{◌↔◌, Option, Some, None, IfSome, Ok}
use Rattle.std.proofs.lemmas.Bool.{lt-ltb}
use Rattle.std.proofs.Math.Nat.{min-eq_left}
use Rattle.ice_ports.specs.declared.talk.Talk.{Talk}
use Rattle.ice_ports.specs.Talks.{adds}
use Rattle.ice_ports.specs.Nets.{ToldListener, told_after, accepted, IsNew, IsEmptyTray, behind, taken_behind, one_talk, gathers}
use Rattle.talking.specs.Told.{LinkTells, TrayTells, DoorTells, NoneToCome}

abbrev door : ℕ → ℕ → List Talk → Option ToldListener
door given to_come gathered = Some (record { given = given; to_come = to_come; gathered = gathered })

abbrev to_come_or : Option ToldListener → ℕ
to_come_or None = 0
to_come_or (Some d) = d.to_come

-- a list with room takes the talks
has_room : (us ts : List Talk) → length (us ++ ts) < 2 ^ 63 → behind us ts ≡ us ++ ts
has_room us ts short = ap (λ (b : Bool). if b then us ++ ts else us) (lt-ltb (length us + length ts) (2 ^ 63) (let h = length-append us ts in omega arith))

shorter : (us ts : List Talk) → length (us ++ ts) < 2 ^ 63 → length us < 2 ^ 63
shorter us ts short = let h = length-append us ts in omega arith

longer : (us ts : List Talk) → length (us ++ ts) < 2 ^ 63 → length ts < 2 ^ 63
longer us ts short = let h = length-append us ts in omega arith

-- ---- the listener

pub door_new : (first : Option ToldListener) → DoorTells first 0 first []
door_new first = λ f e g k short. e ∙ (ap₂ (λ (a : ℕ) (b : List Talk). door a f.to_come b) g k ∙ ap (λ (n : ℕ). door 0 n []) (omega arith))

pub door_gave : (L E : Type 0) (answer : Option L) (link : L) → answer ≡ Some link → (first : Option ToldListener) (n : ℕ) (now now' : Option ToldListener) → now' ≡ told_after (accepted {L = L} {E = E} (Ok answer)) now → n + 1 < 2 ^ 64
    → DoorTells first n now [] → DoorTells first (n + 1) now' []
door_gave L E answer link gives first n now now' is few h = λ f e g k short.
    is ∙ (ap₂ (λ (o : Option L) (z : Option ToldListener). told_after (accepted {L = L} {E = E} (Ok o)) z) gives (h f e g k short)
    ∙ ap₂ (λ (a b : ℕ). door a b []) (min-eq_left (omega arith)) (omega arith))

pub none_comes : {L : Type 0} (answer : Option L) (now : Option ToldListener) → answer ≡ None → IfSome now (λ known. answer ≡ None ↔ known.to_come ≡ 0) → NoneToCome now
none_comes answer None is h = λ d e. absurd cc
none_comes answer (Some d) is h = λ c e. ap to_come_or (sym e) ∙ h.0 is

is_new : (first : Option ToldListener) (n : ℕ) (now : Option ToldListener) (talk : Option Talk) → DoorTells first n now [] → IsNew now talk → LinkTells first talk
is_new first n now talk h new = λ f e g k. subst (λ (z : Option ToldListener). IsNew z talk) (h f e g k (omega arith)) new

pub link_new : (L : Type 0) (reads writes : L → ℕ) (talk_of : L → Option Talk) (answer : Option L) (link : L) → answer ≡ Some link → (first : Option ToldListener) (n : ℕ) (now : Option ToldListener) → DoorTells first n now []
    → IfSome answer (λ l. IsNew now (talk_of l) × (reads l ≡ 0) × (writes l ≡ 0)) → LinkTells first (talk_of link)
link_new L reads writes talk_of answer link gives first n now h new = is_new first n now (talk_of link) h (subst (λ (o : Option L). IfSome o (λ l. IsNew now (talk_of l) × (reads l ≡ 0) × (writes l ≡ 0))) gives new).0

-- ---- trays

pub tray_new : (first : Option ToldListener) (n : ℕ) (now : Option ToldListener) (tray : Option (List Talk)) → DoorTells first n now [] → IsEmptyTray now tray → TrayTells first tray []
tray_new first n now tray h new = λ f e g k short. subst (λ (z : Option ToldListener). IsEmptyTray z tray) (h f e g k (omega arith)) new

pub tray_took : (first : Option ToldListener) (tray tray' : Option (List Talk)) (o o' : Option Talk) (t : Talk) (ts : List Talk) → tray' ≡ taken_behind (one_talk o') tray → o' ≡ adds o t → LinkTells first o
    → TrayTells first tray ts → TrayTells first tray' (ts ++ t ∷ [])
tray_took first tray tray' o o' t ts into is new h = λ f e g k short.
    into ∙ (ap₂ (λ (a : Option Talk) (b : Option (List Talk)). taken_behind (one_talk a) b) (is ∙ ap (λ (z : Option Talk). adds z t) (new f e g k)) (h f e g k (shorter ts (t ∷ []) short))
    ∙ ap (λ (z : List Talk). Some z) (has_room ts (t ∷ []) short))

pub door_gathers : (first : Option ToldListener) (n : ℕ) (now now' : Option ToldListener) (tray : Option (List Talk)) (ts us : List Talk) → now' ≡ gathers tray now → DoorTells first n now ts → TrayTells first tray us
    → DoorTells first n now' (ts ++ us)
door_gathers first n now now' tray ts us is h w = λ f e g k short.
    is ∙ (ap₂ gathers (w f e g k (longer ts us short)) (h f e g k (shorter ts us short))
    ∙ ap (λ (z : List Talk). door n (f.to_come - n) z) (has_room ts us short))

pub none_gathered : (now now' : Option ToldListener) (tray : Option (List Talk)) → now' ≡ gathers tray now → NoneToCome now → NoneToCome now'
none_gathered None now' tray is h = λ d e. absurd cc
none_gathered (Some d) now' None is h = λ c e. absurd cc
none_gathered (Some d) now' (Some ts) is h = λ c e. ap to_come_or (sym e ∙ is) ∙ h d refl
