-- Members by their tags and by their names.
use Rattle.std.proofs.Common.{◌≡◌, ◌≢◌, ℕ, ◌==◌, Bool, true, false, List, [], ◌∷◌, Option, Some, None, refl, sym, ap, ◌∙◌}
use Rattle.std.proofs.lemmas.Bool.{eqb-true, eq-eqb}
use Rattle.std.proofs.lemmas.Option.{none-some, same_Some}
use Rattle.ice_types.specs.declared.declarations.Member.{Member}
use Rattle.ice_types.specs.Fits.{names_of}
use Rattle.graph_json.specs.Contents.{member_tagged}
use Rattle.graph_json.proofs.Names.{LacksName}

-- each of them
abbrev pub Each : (Member → Type 0) → List Member → Type 0
Each P [] = Unit {0}
Each P (m ∷ ms) = P m × Each P ms

pub each_moves : (P Q : Member → Type 0) → ((m : Member) → P m → Q m) → (ms : List Member) → Each P ms → Each Q ms
each_moves P Q move [] h = tt
each_moves P Q move (m ∷ ms) h = (move m h.0, each_moves P Q move ms h.1)

pub lacks_each : (name : List ℕ) (ms : List Member) → LacksName name (names_of ms) → Each (λ m. name ≢ m.name) ms
lacks_each name [] lacks = tt
lacks_each name (m ∷ ms) lacks = (lacks.0, lacks_each name ms lacks.1)

-- none has the tag
abbrev pub LacksTag : ℕ → List Member → Type 0
LacksTag n ms = Each (λ m. m.tag ≢ Some n) ms

-- each has a tag of its own
abbrev pub HaveTags : List Member → Type 0
HaveTags [] = Unit {0}
HaveTags (m ∷ ms) = (tag : ℕ) × (m.tag ≡ Some tag) × LacksTag tag ms × HaveTags ms

pub unequal : (a b : ℕ) → (a ≡ b → ⊥) → (a == b) ≡ false
unequal a b other = by_test (a == b) refl
  where
    by_test : (test : Bool) → (a == b) ≡ test → (a == b) ≡ false
    by_test true is = absurd (other (eqb-true a b is))
    by_test false is = is

-- ---- tags of their own

-- each is found by its tag
abbrev pub Own : List Member → List Member → Type 0
Own all ms = Each (λ m. (tag : ℕ) × (m.tag ≡ Some tag) × (member_tagged tag all ≡ Some m)) ms

own_more : (x : Member) (g : ℕ) → x.tag ≡ Some g → (all ms : List Member) → LacksTag g ms → Own all ms → Own (x ∷ all) ms
own_more x g is all [] lacks own = tt
own_more x g is all (m ∷ ms) lacks own =
    let tag = own.0.0 in
    let other = unequal tag g (λ e. lacks.0 (own.0.1 ∙ ap (λ (k : ℕ). some k) e)) in
    ((tag, own.0.1, rw (is, other) own.0.2), own_more x g is all ms lacks.1 own.1)
  where
    some : ℕ → Option ℕ
    some k = Some k

own_here : (m : Member) (ms : List Member) (tag : ℕ) (o : Option ℕ) → o ≡ Some tag → elim o [ None ↦ member_tagged tag ms | Some other ↦ elim (tag == other) [ true ↦ Some m | false ↦ member_tagged tag ms ] ] ≡ Some m
own_here m ms tag None is = absurd (none-some tag is)
own_here m ms tag (Some other) is = rw (eq-eqb tag other (sym (same_Some other tag is))) refl

pub own_tags : (ms : List Member) → HaveTags ms → Own ms ms
own_tags [] tags = tt
own_tags (m ∷ ms) tags = ((tags.0, tags.1, own_here m ms tags.0 m.tag tags.1), own_more m tags.0 tags.1 ms ms tags.2 (own_tags ms tags.3))
