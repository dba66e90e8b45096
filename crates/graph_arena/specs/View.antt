-- A value without where it lies in memory.
use Rattle.std.specs.Prelude.{ℕ, List, [], ◌∷◌, map, Option}
use Rattle.std.specs.Option.{option_map}
use Rattle.std.specs.declared.boxed.Box.{Box}
use Rattle.std.specs.declared.alloc.Global.{Global}
use Rattle.ice_types.specs.declared.proxy.Proxy.{Proxy}
use Rattle.ice_encoding.specs.Tree.{Tree, boolean, byte, short, int, long, text, sequence, dictionary, struct, enumerator, proxy, reference, Trees, none, tree, Entries, no_entry, entry}
use Rattle.graph_arena.specs.declared.value.Value.{Value, fold-Value}
use Rattle.graph_arena.specs.declared.value.Value.TheOpen.{Value-F}

abbrev pub trees_of : List Tree → Trees
trees_of [] = none
trees_of (v ∷ vs) = tree v (trees_of vs)

abbrev pub entries_of : List (Tree × Tree) → Entries
entries_of [] = no_entry
entries_of (p ∷ ps) = entry p.0 p.1 (entries_of ps)

-- without the box that it lies in
abbrev pub unboxed : Option (Box Proxy Global) → Option Proxy
unboxed p = option_map (λ b. b.value) p

-- bytes as the items of a sequence
abbrev pub byte_trees : List ℕ → Trees
byte_trees bytes = trees_of (map byte bytes)

-- one level, whose parts are seen as trees already
abbrev pub view_step : Value-F Tree → Tree
view_step (Value-F.Bool b) = boolean b
view_step (Value-F.Byte n) = byte n
view_step (Value-F.Short z) = short z
view_step (Value-F.Int z) = int z
view_step (Value-F.Long z) = long z
view_step (Value-F.Text s) = text s
view_step (Value-F.Seq items) = sequence (trees_of items)
view_step (Value-F.Bytes bytes) = sequence (byte_trees bytes)
view_step (Value-F.Pairs pairs) = dictionary (entries_of pairs)
view_step (Value-F.Members items) = struct (trees_of items)
view_step (Value-F.Enum n) = enumerator n
view_step (Value-F.Proxy p) = proxy (unboxed p)
view_step (Value-F.Reference n) = reference n

-- a `Value` as a tree, by a fold; so of values and pairs
abbrev pub view : Value → Tree
view = fold-Value Tree view_step

-- so of values
abbrev pub view_all : List Value → Trees
view_all values = trees_of (map view values)

abbrev pub view_pair : Value × Value → Tree × Tree
view_pair pair = (view pair.0, view pair.1)

abbrev pub view_pairs : List (Value × Value) → Entries
view_pairs pairs = entries_of (map view_pair pairs)
