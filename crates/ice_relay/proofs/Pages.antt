-- A text that is told piece by piece.
use Rattle.std.proofs.Common.{◌≡◌, ℕ, List, [], ◌++◌, Option, None, Some, Result, Ok, Err, Vec, refl, sym, ap, subst, ◌∙◌, append_assoc, append-nil, arith}
use Rattle.std.specs.declared.alloc.Global.{Global}
use Rattle.std.specs.Io.KnownBytes.{Appends}
use Rattle.std.proofs.lemmas.List.{length-append}
use Rattle.ice_ports.specs.Failures.{one_more}
use Rattle.ice_relay.specs.Pages.{Stops, Tells, TellsAll}
use Rattle.ice_ports.specs.declared.ports.PortFault.{PortFault}
use Rattle.ice_ports.specs.declared.ports.PortFault.TheVariants as faults

-- ---- what a sink got

pub got_nothing : (known : Option (List ℕ)) → Appends known known []
got_nothing None = tt
got_nothing (Some bytes) = sym (append-nil bytes)

got_both : (old mid new : Option (List ℕ)) (first second : List ℕ) → Appends old mid first → Appends mid new second → Appends old new (first ++ second)
got_both None mid new first second a b = tt
got_both (Some x) None new first second a b = absurd a
got_both (Some x) (Some y) None first second a b = absurd b
got_both (Some x) (Some y) (Some z) first second a b = b ∙ ap (λ (l : List ℕ). l ++ second) a ∙ append_assoc x first second

-- ---- one text behind another

-- so much of the first text is written, and the second goes on from the page
split : (first written page second more rest : List ℕ) → first ≡ written ++ page → page ++ second ≡ more ++ rest → first ++ second ≡ (written ++ more) ++ rest
split first written page second more rest a b =
    ap (λ (l : List ℕ). l ++ second) a ∙ append_assoc written page second ∙ ap (λ (l : List ℕ). written ++ l) b ∙ sym (append_assoc written more rest)

module _ (first second : List ℕ) (old mid new : Option (List ℕ)) (before m after : ℕ) (page : Vec ℕ Global) (told : Tells first old mid before m (Ok page)) where
  behind_stops : (fault : PortFault) → Stops (page.items ++ second) mid new m after fault → Stops (first ++ second) old new before after fault
  behind_stops faults.Failed ((prefix, rest, is, got, some), count) =
      ((told.0 ++ prefix, rest, split first told.0 page.items second prefix rest told.1 is, got_both old mid new told.0 prefix told.2 got, some), count ∙ ap one_more told.3)
  behind_stops faults.Memory ((written, rest, is, got), count) =
      ((told.0 ++ written, rest, split first told.0 page.items second written rest told.1 is, got_both old mid new told.0 written told.2 got), count ∙ told.3)

  behind_page : (next : Vec ℕ Global) → Tells (page.items ++ second) mid new m after (Ok next) → Tells (first ++ second) old new before after (Ok next)
  behind_page next (written, is, got, count) =
      (told.0 ++ written, split first told.0 page.items second written next.items told.1 is, got_both old mid new told.0 written told.2 got, count ∙ told.3)

  behind_all : (r : Result (Unit {0}) PortFault) → TellsAll (page.items ++ second) mid new m after r → TellsAll (first ++ second) old new before after r
  behind_all (Ok done) (got, count) =
      let whole : told.0 ++ (page.items ++ second) ≡ first ++ second = sym (append_assoc told.0 page.items second) ∙ ap (λ (l : List ℕ). l ++ second) (sym told.1) in
      (subst (λ (l : List ℕ). Appends old new l) whole (got_both old mid new told.0 (page.items ++ second) told.2 got), count ∙ told.3)
  behind_all (Err fault) stops = behind_stops fault stops

-- a text that is not told to its end is none that is longer
pub longer_stops : (text more : List ℕ) (old new : Option (List ℕ)) (before after : ℕ) (fault : PortFault) → Stops text old new before after fault → Stops (text ++ more) old new before after fault
longer_stops text more old new before after faults.Failed ((prefix, rest, is, got, some), count) =
    ((prefix, rest ++ more, ap (λ (l : List ℕ). l ++ more) is ∙ append_assoc prefix rest more, got, omega (arith, some, length-append rest more)), count)
longer_stops text more old new before after faults.Memory ((written, rest, is, got), count) =
    ((written, rest ++ more, ap (λ (l : List ℕ). l ++ more) is ∙ append_assoc written rest more, got), count)

-- ---- what is left of a text

-- the whole text is told but for this rest: the page holds what the sink has not got
pub record IsLeft (whole rest : List ℕ) (old new : Option (List ℕ)) (before after : ℕ) (page : Vec ℕ Global) : Type 0 where
  pub told : List ℕ
  pub tells : Tells told old new before after (Ok page)
  pub completes : told ++ rest ≡ whole

-- before the rest nothing is told but what stands on the page
pub all_left : (rest : List ℕ) (known : Option (List ℕ)) (count : ℕ) (page : Vec ℕ Global) → IsLeft (page.items ++ rest) rest known known count count page
all_left rest known count page = record { told = page.items; tells = ([], refl, got_nothing known, refl); completes = refl }

module _ (whole rest : List ℕ) (old mid new : Option (List ℕ)) (before m after : ℕ) (page : Vec ℕ Global) (left : IsLeft whole rest old mid before m page) where
  -- the rest is a piece, which is told, and another rest
  module _ (piece more : List ℕ) (is : rest ≡ piece ++ more) where
    goes_on : (left.told ++ piece) ++ more ≡ whole
    goes_on = append_assoc left.told piece more ∙ ap (λ (l : List ℕ). left.told ++ l) (sym is) ∙ left.completes

    pub less_left : (next : Vec ℕ Global) → Tells (page.items ++ piece) mid new m after (Ok next) → IsLeft whole more old new before after next
    less_left next tells = record {
      told = left.told ++ piece;
      tells = behind_page left.told piece old mid new before m after page left.tells next tells;
      completes = goes_on;
    }

    pub left_stops : (fault : PortFault) → Stops (page.items ++ piece) mid new m after fault → Stops whole old new before after fault
    left_stops fault stops =
        subst (λ (l : List ℕ). Stops l old new before after fault) goes_on
        (longer_stops (left.told ++ piece) more old new before after fault (behind_stops left.told piece old mid new before m after page left.tells fault stops))

  -- the rest is told to its end
  pub left_all : (r : Result (Unit {0}) PortFault) → TellsAll (page.items ++ rest) mid new m after r → TellsAll whole old new before after r
  left_all r tells =
      subst (λ (l : List ℕ). TellsAll l old new before after r) left.completes
      (behind_all left.told rest old mid new before m after page left.tells r tells)

module _ (whole rest : List ℕ) (old new : Option (List ℕ)) (before after : ℕ) (page : Vec ℕ Global) (left : IsLeft whole rest old new before after page) where
  -- memory runs out
  pub left_without_memory : Stops whole old new before after faults.Memory
  left_without_memory =
      let tells = left.tells in
      ((tells.0, page.items ++ rest, sym left.completes ∙ ap (λ (l : List ℕ). l ++ rest) tells.1 ∙ append_assoc tells.0 page.items rest, tells.2), tells.3)

  -- the rest stands on the page
  pub none_left : (next : Vec ℕ Global) → next.items ≡ page.items ++ rest → Tells whole old new before after (Ok next)
  none_left next is =
      let tells = left.tells in
      (tells.0, sym left.completes ∙ ap (λ (l : List ℕ). l ++ rest) tells.1 ∙ append_assoc tells.0 page.items rest ∙ ap (λ (l : List ℕ). tells.0 ++ l) (sym is), tells.2, tells.3)
