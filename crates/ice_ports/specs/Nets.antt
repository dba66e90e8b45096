-- What trays, listeners and nets tell of their links.
use Rattle.std.specs.Prelude.{◌≡◌, ℕ, Bool, true, false, List, [], ◌∷◌, ◌++◌, ◌+◌, ◌-◌, ◌^◌, ◌||◌, length, take, nat_lt, Option, None, Some, is_some, IfSome, IsSomeAnd, Result, Ok, Err, if◌then◌else◌}
use Rattle.ice_ports.specs.Failures.{one_more}
use Rattle.ice_ports.specs.Talks.{silent}
use Rattle.ice_ports.specs.declared.talk.Talk.{Talk}
use Rattle.ice_ports.specs.declared.asked.Asked.{Asked}

-- what is told after a call that changes it so: nothing where nothing was told
abbrev pub told_after : {A : Type 0} → (A → A) → Option A → Option A
told_after change None = None
told_after change (Some before) = Some (change before)

-- a read or a write of the link failed
abbrev pub has_failed : ℕ → ℕ → Bool
has_failed reads writes = nat_lt 0 reads || nat_lt 0 writes

-- a new link of an object that tells has nothing to tell yet
abbrev pub IsNew : {A : Type 0} → Option A → Option Talk → Type 0
IsNew told talk = IfSome told (λ known. talk ≡ Some silent)

-- talks behind others; a list has less than 2 ^ 63 of them, and takes none that would pass this
abbrev pub behind : List Talk → List Talk → List Talk
behind talks more = if nat_lt (length talks + length more) (2 ^ 63) then talks ++ more else talks

-- ---- trays: the talks of the links that were taken back, in order

-- the talks after those of an object that tells them were put behind
abbrev pub taken_behind : Option (List Talk) → Option (List Talk) → Option (List Talk)
taken_behind more None = None
taken_behind None (Some talks) = None
taken_behind (Some more) (Some talks) = Some (behind talks more)

-- a new tray of an object that tells has taken no link back
abbrev pub IsEmptyTray : {A : Type 0} → Option A → Option (List Talk) → Type 0
IsEmptyTray told tray = IfSome told (λ known. tray ≡ Some [])

-- one talk, as a list
abbrev pub one_talk : Option Talk → Option (List Talk)
one_talk None = None
one_talk (Some talk) = Some (talk ∷ [])

-- ---- listeners

pub record ToldListener : Type 0 where
  -- how many links were given, and how many are still to come
  pub given : ℕ
  pub to_come : ℕ
  -- what links of gathered trays gave and took, in order
  pub gathered : List Talk

-- after an accept
abbrev pub accepted : {L E : Type 0} → Result (Option L) E → ToldListener → ToldListener
accepted (Ok (Some link)) l =
    record { given = one_more l.given; to_come = l.to_come - 1; gathered = l.gathered }
accepted (Ok None) l = l
accepted (Err failed) l = l

-- the answer is None
abbrev pub is_over : {L E : Type 0} → Result (Option L) E → Bool
is_over (Ok (Some link)) = false
is_over (Ok None) = true
is_over (Err failed) = false

abbrev pub gathered_of : Option ToldListener → Option (List Talk)
gathered_of None = None
gathered_of (Some l) = Some l.gathered

-- after the talks of a tray were gathered
abbrev pub gathers : Option (List Talk) → Option ToldListener → Option ToldListener
gathers tray None = None
gathers None (Some l) = None
gathers (Some talks) (Some l) =
    Some (record { given = l.given; to_come = l.to_come; gathered = behind l.gathered talks })

-- a new listener of a net that tells has given no link
abbrev pub IsNewListener : {A : Type 0} → Option A → Option ToldListener → Type 0
IsNewListener told listener = IfSome told (λ known.
    IsSomeAnd listener (λ l. (l.given ≡ 0) × (l.gathered ≡ [])))

-- ---- nets

pub record ToldNet : Type 0 where
  -- what links gave and took that came back, by hang_up or with a listener, in order
  pub talks : List Talk
  -- how many links connects gave, and how many are still to come
  pub given : ℕ
  pub to_come : ℕ
  -- how many connects failed
  pub refused : ℕ
  -- what connects were asked for, of as many as there is room for
  pub asked : List Asked
  pub room : ℕ
  -- the first listen, and whether there was another
  pub listened : Option Asked
  pub listened_again : Bool

-- what is told of a call: the port, and the first 8,192 bytes of the host
abbrev pub asked_for : List ℕ → ℕ → Asked
asked_for host port = record { host = take 8192 host; port = port }

-- the calls that are told, after one more
abbrev pub noted : List ℕ → ℕ → ℕ → List Asked → List Asked
noted host port room asked =
    if nat_lt (length asked) room then asked ++ asked_for host port ∷ [] else asked

-- after a connect, which failed or gave a link
abbrev pub connected : List ℕ → ℕ → Bool → ToldNet → ToldNet
connected host port failed n = record n {
  given = if failed then n.given else one_more n.given;
  to_come = if failed then n.to_come else n.to_come - 1;
  refused = if failed then one_more n.refused else n.refused;
  asked = noted host port n.room n.asked;
}

-- the first listen stays
abbrev pub first_listen : List ℕ → ℕ → Option Asked → Option Asked
first_listen host port None = Some (asked_for host port)
first_listen host port (Some first) = Some first

-- after a listen
abbrev pub asked_to_listen : List ℕ → ℕ → ToldNet → ToldNet
asked_to_listen host port n = record n {
  listened = first_listen host port n.listened;
  listened_again = n.listened_again || is_some n.listened;
}

-- after links with these talks came back
abbrev pub came_back : Option (List Talk) → Option ToldNet → Option ToldNet
came_back more None = None
came_back None (Some n) = None
came_back (Some more) (Some n) = Some (record n { talks = behind n.talks more })
