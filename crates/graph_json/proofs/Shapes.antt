-- What an answer in steps tells of each step, and what JSON is that is read as something.
use Rattle.std.proofs.Common.{◌≡◌, ℕ, Bool, true, false, cond, List, Option, Some, None, refl, ap}
use Rattle.std.specs.Prelude.{option_map, option_and_then}
use Rattle.std.proofs.lemmas.Option.{none-some, same_Some}
use Rattle.serde_json.specs.Data.{Num, Data, null, boolean, number, string, array, object, Items, no_items, item, Members}
use Rattle.serde_json.specs.Find.{as_bool, as_number, as_str, as_array, as_object}
use Rattle.graph_json.specs.ValueNotation.{pair}
use Rattle.graph_json.specs.ReadingValues.{pair_from}

-- ---- steps of an answer

pub then_some : {A B : Type 0} (o : Option A) (f : A → Option B) (y : B) → option_and_then f o ≡ Some y → (x : A) × (o ≡ Some x) × (f x ≡ Some y)
then_some None f y e = absurd (none-some y e)
then_some (Some x) f y e = (x, refl, e)

pub map_some : {A B : Type 0} (o : Option A) (f : A → B) (y : B) → option_map f o ≡ Some y → (x : A) × (o ≡ Some x) × (f x ≡ y)
map_some None f y e = absurd (none-some y e)
map_some (Some x) f y e = (x, refl, same_Some (f x) y e)

pub false_then : {A : Type 0} (b : Bool) (o : Option A) (y : A) → cond b None o ≡ Some y → (b ≡ false) × (o ≡ Some y)
false_then true o y e = absurd (none-some y e)
false_then false o y e = (refl, e)

pub true_then : {A : Type 0} (b : Bool) (o : Option A) (y : A) → cond b o None ≡ Some y → (b ≡ true) × (o ≡ Some y)
true_then true o y e = (refl, e)
true_then false o y e = absurd (none-some y e)

-- ---- shapes of JSON

pub bool_is : (d : Data) (b : Bool) → as_bool d ≡ Some b → d ≡ boolean b
bool_is null b e = absurd cc
bool_is (boolean c) b e = ap boolean (same_Some c b e)
bool_is (number n) b e = absurd cc
bool_is (string s) b e = absurd cc
bool_is (array ds) b e = absurd cc
bool_is (object ms) b e = absurd cc

pub number_is : (d : Data) (n : Num) → as_number d ≡ Some n → d ≡ number n
number_is null b e = absurd cc
number_is (boolean c) b e = absurd cc
number_is (number n) b e = ap number (same_Some n b e)
number_is (string s) b e = absurd cc
number_is (array ds) b e = absurd cc
number_is (object ms) b e = absurd cc

pub str_is : (d : Data) (s : List ℕ) → as_str d ≡ Some s → d ≡ string s
str_is null b e = absurd cc
str_is (boolean c) b e = absurd cc
str_is (number n) b e = absurd cc
str_is (string s) b e = ap string (same_Some s b e)
str_is (array ds) b e = absurd cc
str_is (object ms) b e = absurd cc

pub array_is : (d : Data) (ds : Items) → as_array d ≡ Some ds → d ≡ array ds
array_is null b e = absurd cc
array_is (boolean c) b e = absurd cc
array_is (number n) b e = absurd cc
array_is (string s) b e = absurd cc
array_is (array ds) b e = ap array (same_Some ds b e)
array_is (object ms) b e = absurd cc

pub object_is : (d : Data) (ms : Members) → as_object d ≡ Some ms → d ≡ object ms
object_is null b e = absurd cc
object_is (boolean c) b e = absurd cc
object_is (number n) b e = absurd cc
object_is (string s) b e = absurd cc
object_is (array ds) b e = absurd cc
object_is (object ms) b e = ap object (same_Some ms b e)

pub pair_is : (ds : Items) (p : Data × Data) → pair_from ds ≡ Some p → array ds ≡ pair p.0 p.1
pair_is no_items p e = absurd cc
pair_is (item a no_items) p e = absurd cc
pair_is (item a (item b no_items)) p e = ap (λ (q : Data × Data). pair q.0 q.1) (same_Some (a, b) p e)
pair_is (item a (item b (item c ds))) p e = absurd cc
