-- Where a text breaks: the first word, `:` or `@` from the left that nothing of its kind goes on with. (Ice manual, "Proxy and Endpoint Syntax".)
use Rattle.std.specs.Prelude.{ℕ, pos, ◌≡◌, List, [], ◌∷◌, ◌++◌, length, codes}
use Rattle.ice_types.specs.declared.identity.Identity.{Identity}
use Rattle.ice_types.specs.declared.proxy.Endpoint.{Endpoint}
use Rattle.ice_prims.specs.Rest.{whole}
use Rattle.ice_proxy.specs.declared.options.Options.{Options}
use Rattle.ice_proxy.specs.Words.{Token, word, colon, at, end}
use Rattle.ice_proxy.specs.Escapes.{identity_of}
use Rattle.ice_proxy.specs.Numbers.{number, version}
use Rattle.ice_proxy.specs.Laws.{IsWord}
use Rattle.ice_proxy.specs.Pieces.{Piece, Pieces, HasPieces, first_place}
use Rattle.ice_proxy.specs.Spelled.{Means, Word, this, AreNamed, AreEndpoints, IsProxy}

-- as it stands in texts
abbrev pub IsReal : Token → Type 0
IsReal (word bytes) = IsWord bytes
IsReal colon = Unit {0}
IsReal at = Unit {0}
IsReal end = ⊥

abbrev pub AreReal : Pieces → Type 0
AreReal [] = Unit {0}
AreReal (p ∷ ps) = IsReal p.token × AreReal ps

-- ---- of whatever pieces stand for

module _ {A : Type 0} (Stands : Pieces → A → Type 0) where
  -- Some begin with these.
  abbrev pub Begins : Pieces → Type 0
  Begins ps = (more : Pieces) × (x : A) × Stands (ps ++ more) x

  -- Some begin with these and go on with pieces as they stand in texts.
  abbrev pub GoesOn : Pieces → Type 0
  GoesOn ps = (more : Pieces) × (x : A) × AreReal more × Stands (ps ++ more) x

  -- None begin with those before and the next one. At the end, none end there.
  abbrev pub Refuses : Pieces → Pieces → Type 0
  Refuses before [] = (x : A) → Stands before x → ⊥
  Refuses before (p ∷ behind) = Begins (before ++ p ∷ []) → ⊥

  -- The pieces behind some begin with the first one that nothing goes on with. It may be the end.
  pub record Breaks (ps before behind : Pieces) : Type 0 where
    pub parts : ps ≡ before ++ behind
    pub alive : GoesOn before
    pub refused : Refuses before behind

-- ---- an identity

-- The text breaks at this place, as one of an identity.
abbrev pub IdentityBreaks : List ℕ → ℕ → Type 0
IdentityBreaks text place = (ps before behind : Pieces) × HasPieces (whole text) ps × Breaks (Word identity_of) ps before behind × (place ≡ first_place (length text) behind)

-- ---- a proxy

-- The next piece is version 1.1, behind `: opaque -t TYPE -e`, and this type is 1: together they are TCP, which is not spelled so.
pub record NamesTcp (before behind : Pieces) (type : Piece) : Type 0 where
  pub head : Pieces
  pub middle : Pieces
  pub rest : Pieces
  pub mark : Piece
  pub transport : Piece
  pub type_option : Piece
  pub version_option : Piece
  pub versions : Piece
  pub named : Identity × Options
  pub endpoints : List Endpoint
  pub is_named : AreNamed head named
  pub are_endpoints : AreEndpoints middle endpoints
  pub words : before ≡ head ++ (middle ++ mark ∷ transport ∷ type_option ∷ type ∷ version_option ∷ [])
  pub next : behind ≡ versions ∷ rest
  pub is_mark : mark.token ≡ colon
  pub is_opaque : Means (this (codes "opaque")) transport tt
  pub is_type_option : Means (this (codes "-t")) type_option tt
  pub is_type : Means (number 16) type (pos 1)
  pub is_version_option : Means (this (codes "-e")) version_option tt
  pub is_version : Means version versions (1, 1)

-- The place that is told of pieces that break before these.
pub data Told (size : ℕ) (before behind : Pieces) (place : ℕ) : Type 0 where
  -- that of the piece that cannot stand, or the text's length
  there : ((type : Piece) → ¬ NamesTcp before behind type) → place ≡ first_place size behind → Told size before behind place
  -- that of the type, where it and the version are those of TCP
  at_type : (type : Piece) → NamesTcp before behind type → place ≡ type.place → Told size before behind place

-- The text breaks at this place, as one of a proxy.
abbrev pub ProxyBreaks : List ℕ → ℕ → Type 0
ProxyBreaks text place = (ps before behind : Pieces) × HasPieces (whole text) ps × Breaks IsProxy ps before behind × Told (length text) before behind place
