-- What writing remembers, where an instance is counted with the reference at which it begins.
use Rattle.std.specs.Prelude.{ℕ, suc, ◌≡◌, ◌<◌, ◌-◌, ◌^◌, true, false, List, [], ◌∷◌, ◌++◌, length, Option, None, Some, nat_lt, refl}
use Rattle.std.specs.BTreeMap.{get_by_text}
use Rattle.std.specs.Coded.{Coded, code_by, coded×, coded_ℕ, coded_list}
use Rattle.ice_prims.specs.Bytes.{size_bytes}
use Rattle.ice_encoding.specs.Pausing.{Put}
use Rattle.ice_encoding.specs.Classes.{place_of}
use Rattle.ice_encoding.specs.Visiting.{most}
use Rattle.ice_encoding.specs.CanonicalGraph.{Pen, with_one_begun}
use Rattle.instance_writing.specs.declared.id_places.IdPlaces.{IdPlaces}

abbrev pub pen_code : Coded Pen
pen_code = code_by (ℕ × List (List ℕ)) (coded× coded_ℕ (coded_list (coded_list coded_ℕ))) (λ p. (p.begun, p.ids)) (λ q. record { begun = q.0; ids = q.1 }) (λ _. refl)

abbrev pub begun_put : ℕ → Pen → Put Pen
begun_put n p = record { bytes = size_bytes (suc (suc n)); begun = None; after = p }

abbrev pub beginning_put : ℕ → Pen → Put Pen
beginning_put n p = record { bytes = size_bytes 1; begun = Some n; after = with_one_begun p }

-- 0 for null, the number from 2 of one that has begun, else 1 and one more has begun
abbrev pub put_counted : Option ℕ → Pen → Put Pen
put_counted None p = record { bytes = size_bytes 0; begun = None; after = p }
put_counted (Some n) p = elim (nat_lt n p.begun) [ true ↦ begun_put n p | false ↦ beginning_put n p ]

-- how many instances may still begin
abbrev pub room : Pen → ℕ
room p = most - p.begun

-- the text stands last
abbrev pub with_text : List ℕ → Pen → Pen
with_text id p = record { begun = p.begun; ids = p.ids ++ id ∷ [] }

-- where each text stands
abbrev pub place_in : IdPlaces → List ℕ → Option ℕ
place_in places id = get_by_text places.places id

-- each text is found where it stands
pub record ArePlaced (place : List ℕ → Option ℕ) (ids : List (List ℕ)) : Type 0 where
  pub few : length ids < 2 ^ 31
  pub found : (id : List ℕ) → place id ≡ place_of ids id
