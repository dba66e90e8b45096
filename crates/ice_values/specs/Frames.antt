-- Values that have begun: what they have, what they still wait for, and what is made of it.
use Rattle.std.specs.Prelude.{ℕ, suc, ◌≡◌, Bool, true, false, List, [], ◌∷◌, drop, map, replicate, Option, None, Some, Result, Ok, Err, slice_get}
use Rattle.std.specs.Option.{option_map}
use Rattle.ice_types.specs.declared.kind.TypeRef.{TypeRef}
use Rattle.ice_types.specs.declared.declarations.Member.{Member}
use Rattle.ice_types.specs.declared.declarations.StructDecl.{StructDecl}
use Rattle.ice_types.specs.Tables.{Tables}
use Rattle.ice_prims.specs.declared.fault.Fault.{Fault}
use Rattle.ice_prims.specs.declared.fault.Kind.TheVariants.{EqualKey}
use Rattle.ice_encoding.specs.Tree.{Tree, sequence, dictionary, struct, Trees, none, tree, Entries}
use Rattle.ice_encoding.specs.Order.{has_key, insert}
use Rattle.graph_arena.specs.View.{view, view_all, view_pairs}
use Rattle.ice_values.specs.declared.left.Left.{Left}
use Rattle.ice_values.specs.declared.left.Left.TheVariants as lefts
use Rattle.ice_values.specs.declared.frame.Assembly.{Assembly}
use Rattle.ice_values.specs.declared.frame.Assembly.TheVariants as sorts
use Rattle.ice_values.specs.declared.frame.Part.{Part}
use Rattle.ice_values.specs.declared.frame.Part.TheVariants.{Next, Begun, Equal}
use Rattle.ice_values.specs.declared.frame.Pairs.{Pairs}
use Rattle.ice_values.specs.declared.frame.Parts.{Parts}
use Rattle.ice_values.specs.declared.frame.Parts.TheVariants as parts
use Rattle.ice_values.specs.declared.frame.Frame.{Frame}

-- the values, and behind them others
abbrev pub join : Trees → Trees → Trees
join none others = others
join (tree t ts) others = tree t (join ts others)

-- the values, and behind them this one
abbrev pub add : Trees → Tree → Trees
add ts t = join ts (tree t none)

abbrev pub kinds_of : List Member → List TypeRef
kinds_of members = map (λ m. m.kind) members

abbrev pub members_of : Option StructDecl → List TypeRef
members_of None = []
members_of (Some d) = kinds_of d.members

-- the types of the parts that are left
abbrev pub kinds_left : Tables → Left → List TypeRef
kinds_left t (lefts.Items kind n) = replicate n kind
kinds_left t (lefts.Members at next) = drop next (members_of (slice_get t.structs at))

-- the first of them and the others, or none
abbrev pub Splits : Tables → Left → Option (TypeRef × Left) → Type 0
Splits t left None = kinds_left t left ≡ []
Splits t left (Some x) = kinds_left t left ≡ x.0 ∷ kinds_left t x.1

abbrev pub last_of : Trees → Tree
last_of none = struct none
last_of (tree v none) = v
last_of (tree v (tree w ws)) = last_of (tree w ws)

-- what is made of the parts
abbrev pub closed : Assembly → Trees → Tree
closed sorts.Whole parts = last_of parts
closed sorts.Seq parts = sequence parts
closed sorts.Members parts = struct parts

-- A value that has begun, without where it lies in memory, and how deep its parts nest at most. Of a dictionary: the types of
-- a key and of a value, how many pairs are left to begin, how far the next part is, the key whose value is not read, and the
-- pairs that are read.
pub data Open : Type 0 where
  each : Assembly → ℕ → Left → Trees → Open
  pairs : ℕ → TypeRef → TypeRef → ℕ → Part → Option Tree → Entries → Open

abbrev pub opened_pairs : ℕ → Pairs → Open
opened_pairs levels p = pairs levels p.key p.value p.left p.part (option_map view p.done.1) (view_pairs p.done.0)

abbrev pub opened_parts : ℕ → Parts → Open
opened_parts levels (parts.Each e) = each e.sort levels e.left (view_all e.done)
opened_parts levels (parts.Pairs p) = opened_pairs levels p

-- a value that begins
abbrev pub opened : Frame → Open
opened f = opened_parts f.levels f.parts

-- all parts are there: so of what has one part, or of the items of a sequence
abbrev pub IsOver : Open → Type 0
IsOver (each sort levels (lefts.Items kind n) had) = n ≡ 0
IsOver (each sort levels (lefts.Members at next) had) = ⊥
IsOver (pairs levels key value left part k had) = ⊥

-- The type of the next part, which is now what is read; or none where all parts are there; or the fault of a key that was
-- there already. The place is where reading stands.
abbrev pub Asks : Tables → Open → Open → ℕ → Result (Option TypeRef) Fault → Type 0
Asks t (each sort levels left had) new place (Ok (Some kind)) = (behind : Left) × (kinds_left t left ≡ kind ∷ kinds_left t behind) × (new ≡ each sort levels behind had)
Asks t (each sort levels left had) new place (Ok None) = (kinds_left t left ≡ []) × (new ≡ each sort levels left had)
Asks t (each sort levels left had) new place (Err e) = ⊥
Asks t (pairs levels key value left Next None had) new place (Ok (Some kind)) = (behind : ℕ) × (left ≡ suc behind) × (kind ≡ key) × (new ≡ pairs levels key value behind (Begun place) None had)
Asks t (pairs levels key value left Next (Some k) had) new place (Ok (Some kind)) = (kind ≡ value) × (new ≡ pairs levels key value left (Begun place) (Some k) had)
Asks t (pairs levels key value left Next None had) new place (Ok None) = (left ≡ 0) × (new ≡ pairs levels key value left Next None had)
Asks t (pairs levels key value left Next (Some k) had) new place (Ok None) = ⊥
Asks t (pairs levels key value left Next None had) new place (Err e) = ⊥
Asks t (pairs levels key value left Next (Some k) had) new place (Err e) = ⊥
Asks t (pairs levels key value left (Begun at) waits had) new place (Ok (Some kind)) = ⊥
Asks t (pairs levels key value left (Begun at) waits had) new place (Ok None) = new ≡ pairs levels key value left (Begun at) waits had
Asks t (pairs levels key value left (Begun at) waits had) new place (Err e) = ⊥
Asks t (pairs levels key value left (Equal at) waits had) new place (Ok (Some kind)) = ⊥
Asks t (pairs levels key value left (Equal at) waits had) new place (Ok None) = ⊥
Asks t (pairs levels key value left (Equal at) waits had) new place (Err e) = e ≡ record { place = at; kind = EqualKey }

-- a key that was read waits for its value, unless it is there already
abbrev pub with_key : Bool → ℕ → TypeRef → TypeRef → ℕ → ℕ → Tree → Entries → Open
with_key true levels key value left at k had = pairs levels key value left (Equal at) None had
with_key false levels key value left at k had = pairs levels key value left Next (Some k) had

-- with one part more
abbrev pub given : Open → Tree → Open
given (each sort levels left had) v = each sort levels left (add had v)
given (pairs levels key value left Next waits had) v = pairs levels key value left Next waits had
given (pairs levels key value left (Begun at) None had) v = with_key (has_key v had) levels key value left at v had
given (pairs levels key value left (Begun at) (Some k) had) v = pairs levels key value left Next None (insert k v had)
given (pairs levels key value left (Equal at) waits had) v = pairs levels key value left (Equal at) waits had

-- what is made of all parts
abbrev pub whole : Open → Tree
whole (each sort levels left had) = closed sort had
whole (pairs levels key value left part waits had) = dictionary had
