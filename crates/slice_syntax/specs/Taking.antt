-- What a call of the parser did.
use Rattle.std.specs.Prelude.{ℕ, ◌≡◌, List, Result, Ok, Err}
use Rattle.slice_syntax.specs.declared.fault.Stop.{Stop}
use Rattle.slice_syntax.specs.declared.fault.Stop.TheVariants as stops
use Rattle.slice_syntax.specs.Lexemes.{Lexemes}
use Rattle.slice_syntax.specs.Reading.{Reading, read}
use Rattle.slice_syntax.specs.declared.tree.Item.{Item}
use Rattle.slice_syntax.specs.Moving.{MovedFrom, inner_move}

-- The call went over what reading gives, or stands before the token that reading refuses. Out of memory says nothing.
abbrev pub Takes : {X Y : Type 0} → (X → Y) → Result X Stop → Lexemes → Reading Y → Type 0
Takes view (Ok x) new read = read ≡ Ok (view x, new)
Takes view (Err stops.Refused) new read = read ≡ Err new
Takes view (Err stops.Memory) new read = Unit {0}

-- Of a call that is never out of memory: it went over what reading gives, or stands before the token that reading refuses.
abbrev pub TakesNoMemory : {X Y : Type 0} → (X → Y) → Result X Stop → Lexemes → Reading Y → Type 0
TakesNoMemory view (Ok x) new read = read ≡ Ok (view x, new)
TakesNoMemory view (Err stops.Refused) new read = read ≡ Err new
TakesNoMemory view (Err stops.Memory) new read = ⊥

-- The call went over what reading gives, and this holds of what it answered and the value that was read.
abbrev pub TakesWith : {X Y : Type 0} → (X → Y → Type 0) → Result X Stop → Lexemes → Reading Y → Type 0
TakesWith {Y = Y} Holds (Ok x) new read = (y : Y) × (read ≡ Ok (y, new)) × Holds x y
TakesWith Holds (Err stops.Refused) new read = read ≡ Err new
TakesWith Holds (Err stops.Memory) new read = Unit {0}

-- What a move inside a module of so many words did. The modules around it, and after it, are kept with the innermost last.
abbrev pub TakesMove : ℕ → List ℕ → List ℕ → List Item → List Item → Result (Unit {0}) Stop → Lexemes → Lexemes → Type 0
TakesMove words around after old new result from to = TakesWith (λ u move. MovedFrom words around after old new move) result to (read inner_move from)
