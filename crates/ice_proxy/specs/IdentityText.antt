-- What a text stands for where an identity is due. (Ice manual, "Object Identity".)
use Rattle.std.specs.Prelude.{ℕ, ◌≡◌, List, Option, None, Some, Result, Ok, Err}
use Rattle.ice_types.specs.declared.identity.Identity.{Identity}
use Rattle.ice_prims.specs.Rest.{Rest, whole}
use Rattle.ice_proxy.specs.declared.fault.TextFault.{TextFault}
use Rattle.ice_proxy.specs.declared.fault.TextFault.TheVariants as faults
use Rattle.ice_proxy.specs.Words.{Next, word, colon, at, end, next}
use Rattle.ice_proxy.specs.Escapes.{identity_of}

-- this identity, where nothing but blanks is left
abbrev pub alone : Identity → Next → Result Identity ℕ
alone identity n = elim n.token [ word bytes ↦ Err n.place | colon ↦ Err n.place | at ↦ Err n.place | end ↦ Ok identity ]

-- the identity that a word at this place is, with nothing but blanks behind it
abbrev pub sole : ℕ → Option Identity → Rest → Result Identity ℕ
sole place None rest = Err place
sole place (Some identity) rest = alone identity (next rest)

abbrev pub identity_from : Next → Result Identity ℕ
identity_from n = elim n.token [ word bytes ↦ sole n.place (identity_of bytes) n.rest | colon ↦ Err n.place | at ↦ Err n.place | end ↦ Err n.place ]

-- Blanks, one identity and blanks. The number is the place of the first word, `:` or `@` that cannot stand, or the length of a text that lacks it.
abbrev pub identity_text : List ℕ → Result Identity ℕ
identity_text text = identity_from (next (whole text))

-- The place of what cannot stand, unless memory ran out.
abbrev pub FailsAt : {A : Type 0} → TextFault → Result A ℕ → Type 0
FailsAt (faults.Broken place) read = read ≡ Err place
FailsAt faults.Memory read = Unit {0}

-- A call gives what a text stands for, or tells the place of what cannot stand, unless memory ran out.
abbrev pub GivesText : {A : Type 0} → Result A TextFault → Result A ℕ → Type 0
GivesText (Ok x) read = read ≡ Ok x
GivesText (Err fault) read = FailsAt fault read
