-- The words of a proxy text: blanks part them, and `:` and `@` outside quotes end them. (Ice manual, "Proxy and Endpoint Syntax".)
use Rattle.std.specs.Prelude.{ℕ, suc, ◌==◌, Bool, ◌||◌, List, [], ◌∷◌, length, take, Option, None, Some, if◌then◌else◌}
use Rattle.std.specs.List.{take_while}
use Rattle.ice_prims.specs.Rest.{Rest, after}
use Rattle.ice_proxy.specs.declared.words.Token.{Token as Found}
use Rattle.ice_proxy.specs.declared.words.Token.TheVariants as founds
use Rattle.ice_proxy.specs.declared.words.Stand.{Stand}
use Rattle.ice_proxy.specs.declared.words.Stand.TheVariants.{Bare, BareEscape, Quoted, QuotedEscape}

-- space, tab, newline, form feed and carriage return, as in Slice texts
abbrev pub is_blank : ℕ → Bool
is_blank c = c == 32 || (c == 9 || (c == 10 || (c == 12 || c == 13)))

-- what ends a word outside quotes: a blank, `:` or `@`
abbrev pub is_end : ℕ → Bool
is_end c = is_blank c || (c == 58 || c == 64)

-- outside quotes, where each word begins
abbrev pub bare : Stand
bare = Bare

-- where a word stands behind a byte, None where that byte is not of the word; `\` is 92 and `"` is 34
abbrev pub behind : Stand → ℕ → Option Stand
behind Bare c = if is_end c then None else (if c == 92 then Some BareEscape else (if c == 34 then Some Quoted else Some Bare))
behind BareEscape c = if is_end c then None else Some Bare
behind Quoted c = if c == 92 then Some QuotedEscape else (if c == 34 then Some Bare else Some Quoted)
behind QuotedEscape c = Some Quoted

-- how many bytes of the word follow
abbrev pub word_length : Stand → List ℕ → ℕ
word_length s [] = 0
word_length s (c ∷ cs) = elim (behind s c) [ None ↦ 0 | Some t ↦ suc (word_length t cs) ]

-- how many blanks stand at the front
abbrev pub blanks : List ℕ → ℕ
blanks bytes = length (take_while is_blank bytes)

-- ---- what stands next

-- a word as it stands, `:`, `@` or the end
pub data Token : Type 0 where
  -- the bytes of a word, as they stand
  word : List ℕ → Token
  colon : Token
  at : Token
  end : Token

-- with its place, and where it goes on behind it
pub record Next : Type 0 where
  pub token : Token
  pub place : ℕ
  pub rest : Rest

-- the token that begins a text that is not blank there, and how many bytes it has
abbrev pub first_token : List ℕ → Token × ℕ
first_token [] = (end, 0)
first_token (c ∷ cs) = if c == 58 then (colon, 1) else (if c == 64 then (at, 1) else (let n = word_length bare (c ∷ cs) in (word (take n (c ∷ cs)), n)))

abbrev pub token_from : Rest → Next
token_from r = let t = first_token r.bytes in record { token = t.0; place = r.place; rest = after r t.1 }

-- blanks, and then a token; at the end the place is the text's length
abbrev pub next : Rest → Next
next r = token_from (after r (blanks r.bytes))

-- a token that a call answered
abbrev pub seen : Found → Token
seen (founds.Word bytes) = word bytes.now
seen founds.Colon = colon
seen founds.At = at
seen founds.End = end
