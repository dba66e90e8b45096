-- What a place is kept by, and asked for. (Ice manual, "Locators".)
use Rattle.std.specs.Prelude.{ℕ, Bool, List, [], ◌∷◌, nat_eq}
use Rattle.std.specs.Ordering.{on, eq_of_both}
use Rattle.std.specs.Cmp.{IsEquivalence, and_equiv, on_equiv, nat_eq_equiv}
use Rattle.std.specs.Cmp.Lexicographic.{nat_list_eq_equiv, pointwise}
use Rattle.ice_types.specs.declared.identity.Identity.{Identity}
use Rattle.ice_types.specs.declared.proxy.Proxy.{Proxy}
use Rattle.locator.specs.declared.key.Key.{Key}
use Rattle.locator.specs.declared.key.Key.TheVariants.{Object, Adapter}

-- ---- when two are the same

abbrev pub sort : Key → ℕ
sort (Object identity) = 0
sort (Adapter id) = 1

abbrev pub name : Key → List ℕ
name (Object identity) = identity.name
name (Adapter id) = id

abbrev pub category : Key → List ℕ
category (Object identity) = identity.category
category (Adapter id) = []

-- both objects or both adapters, of one name and one category
abbrev pub same : Key → Key → Bool
same = eq_of_both (on sort nat_eq) (eq_of_both (on name (pointwise nat_eq)) (on category (pointwise nat_eq)))

pub same_equiv : IsEquivalence same
same_equiv = and_equiv (on_equiv sort nat_eq_equiv) (and_equiv (on_equiv name nat_list_eq_equiv) (on_equiv category nat_list_eq_equiv))

-- ---- of a proxy

abbrev pub key_by : Identity → List ℕ → Key
key_by identity [] = Object identity
key_by identity (c ∷ cs) = Adapter (c ∷ cs)

-- its adapter, or where it has none its object
abbrev pub key_of : Proxy → Key
key_of p = key_by p.identity p.adapter
