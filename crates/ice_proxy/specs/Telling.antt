-- What the calls tell: what the definition reads, or that memory ran out.
use Rattle.std.specs.Prelude.{ℕ, ◌≡◌, Bool, true, false, List, Option, None, Some, Result, Ok, Err, nat_le, if◌then◌else◌}
use Rattle.std.specs.Option.{option_and_then}
use Rattle.std.specs.Borrow.{Bor}
use Rattle.ice_prims.specs.Rest.{Rest}
use Rattle.ice_proxy.specs.declared.fault.TextFault.{TextFault}
use Rattle.ice_proxy.specs.declared.fault.TextFault.TheVariants as faults
use Rattle.ice_proxy.specs.Looking.{Parsed}

-- a number that is not greater
abbrev pub within : ℕ → Option ℕ → Option ℕ
within most n = option_and_then (λ k. if nat_le k most then Some k else None) n

-- two parts of a word, wherever they lie
abbrev pub parts_of : Option (Bor (List ℕ) × Bor (List ℕ)) → Option (List ℕ × List ℕ)
parts_of o = option_and_then (λ p. Some (p.0.now, p.1.now)) o

-- the place of the first word that cannot stand, unless memory ran out before it
abbrev pub Fails : {A : Type 0} → TextFault → Parsed A → Type 0
Fails (faults.Broken place) read = read ≡ Err place
Fails faults.Memory read = Unit {0}

-- of a call that reads a whole text
abbrev pub Tells : {A : Type 0} → Result A TextFault → Parsed A → Type 0
Tells (Ok x) read = read ≡ Ok x
Tells (Err e) read = Fails e read

-- of a call that goes on after what it read. Where it stands after a refusal is left open.
abbrev pub ReadsWords : {A : Type 0} → Result A TextFault → Rest → Parsed (A × Rest) → Type 0
ReadsWords (Ok x) new read = read ≡ Ok (x, new)
ReadsWords (Err e) new read = Fails e read

-- a word that stands next, wherever its bytes lie
abbrev pub ahead_of : Option (Bor (List ℕ) × ℕ × Rest) → Option (List ℕ × ℕ × Rest)
ahead_of o = option_and_then (λ w. Some (w.0.now, w.1, w.2)) o

-- of a call that reads a word
abbrev pub ReadsWord : Result (Bor (List ℕ) × ℕ) TextFault → Rest → Parsed (List ℕ × ℕ × Rest) → Type 0
ReadsWord (Ok w) new read = read ≡ Ok (w.0.now, w.1, new)
ReadsWord (Err e) new read = Fails e read

-- of a call that looks for a `:` or the end of the text
abbrev pub FindsColon : Result Bool TextFault → Rest → Parsed (Option Rest) → Type 0
FindsColon (Ok true) new read = read ≡ Ok (Some new)
FindsColon (Ok false) new read = read ≡ Ok None
FindsColon (Err e) new read = Fails e read
