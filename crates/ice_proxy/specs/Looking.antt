-- What is looked for where a text goes on. (Ice manual, "Proxy and Endpoint Syntax".)
use Rattle.std.specs.Prelude.{ℕ, List, Option, None, Some, Result, Ok, Err}
use Rattle.ice_prims.specs.Rest.{Rest}
use Rattle.ice_proxy.specs.Words.{Token, word, colon, at, end, next}

-- what a text is read as, or the place of the first word that cannot stand
abbrev pub Parsed : Type 0 → Type 0
Parsed A = Result A ℕ

infixl 10 ◌>>=◌
abbrev pub ◌>>=◌ : {A B : Type 0} → Parsed A → (A → Parsed B) → Parsed B
(Ok x) >>= f = f x
(Err place) >>= f = Err place

-- where what stands next stands
unfoldable pub place_at : Rest → ℕ
place_at r = (next r).place

-- the bytes of a word, its place, and what follows it; None where none stands
abbrev pub word_from : Token → ℕ → Rest → Option (List ℕ × ℕ × Rest)
word_from (word bytes) place r = Some (bytes, place, r)
word_from colon place r = None
word_from at place r = None
word_from end place r = None

-- what is looked for next
unfoldable pub word_ahead : Rest → Option (List ℕ × ℕ × Rest)
word_ahead r = word_from (next r).token (next r).place (next r).rest

-- a word, or what stands in its place is refused
abbrev pub or_refused : {A : Type 0} → ℕ → Option A → Parsed A
or_refused place None = Err place
or_refused place (Some x) = Ok x

abbrev pub word_at : Rest → Parsed (List ℕ × ℕ × Rest)
word_at r = or_refused (place_at r) (word_ahead r)

-- a word of this meaning
abbrev pub word_as : {A : Type 0} → (List ℕ → Option A) → Rest → Parsed (A × Rest)
word_as meaning r = word_at r >>= λ w. or_refused w.1 (meaning w.0) >>= λ x. Ok (x, w.2)

-- what follows an `@`, None where none stands
abbrev pub at_from : Token → Rest → Option Rest
at_from (word bytes) r = None
at_from colon r = None
at_from at r = Some r
at_from end r = None

-- whether `@` stands next, and what follows it
unfoldable pub at_ahead : Rest → Option Rest
at_ahead r = at_from (next r).token (next r).rest

-- what follows a `:`, None at the end of the text
abbrev pub colon_from : Token → ℕ → Rest → Parsed (Option Rest)
colon_from (word bytes) place r = Err place
colon_from colon place r = Ok (Some r)
colon_from at place r = Err place
colon_from end place r = Ok None

unfoldable pub colon_at : Rest → Parsed (Option Rest)
colon_at r = colon_from (next r).token (next r).place (next r).rest

-- the end of the text
abbrev pub end_from : Token → ℕ → Parsed (Unit {0})
end_from (word bytes) place = Err place
end_from colon place = Err place
end_from at place = Err place
end_from end place = Ok tt

unfoldable pub end_at : Rest → Parsed (Unit {0})
end_at r = end_from (next r).token (next r).place
