-- Values with other names, put where they stand, the first first.
use Rattle.std.proofs.Common.{◌≡◌, ◌≤◌, ℕ, List, [], ◌∷◌, ◌++◌, map, take, drop, length, zero, suc, append-nil, arith, refl, sym, ap, ◌∙◌}
use Rattle.std.specs.List.{refill}
use Rattle.std.proofs.Math.Seq.{take-length, drop-length}
use Rattle.ice_encoding.specs.Tree.{Tree, sequence, dictionary, struct, tree, entry}
use Rattle.ice_encoding.specs.Optionals.{Present}
use Rattle.ice_encoding.specs.Graph as graphs
use Rattle.ice_encoding.specs.Names.{renamed, renamed_each, renamed_pairs, renamed_present, renamed_slice}
use Rattle.graph_arena.specs.declared.instance.Slice.{Slice}
use Rattle.graph_arena.specs.declared.value.Value.{Value}
use Rattle.graph_arena.specs.declared.value.Value.TheVariants as variants
use Rattle.graph_arena.proofs.Shapes.{view_seq, view_dict, view_members}
use Rattle.graph_arena.specs.View.{view, view_all, view_pair, view_pairs, trees_of, entries_of}
use Rattle.graph_arena.specs.Seen.{view_option, view_present, view_slice, view_slices}

module _ {A T : Type 0} (told seen : A → T) where
  -- the first of a count as they stand, the others as they are to be
  abbrev pub so_far : List A → ℕ → List T
  so_far xs n = map seen (take n xs) ++ map told (drop n xs)

  pub all-put : (xs : List A) (n : ℕ) → length xs ≤ n → so_far xs n ≡ map seen xs
  all-put [] zero le = refl
  all-put [] (suc n) le = refl
  all-put (z ∷ xs) zero le = absurd (omega (arith, le))
  all-put (z ∷ xs) (suc n) le = ap (λ (l : List T). seen z ∷ l) (all-put xs n (omega (arith, le)))

abbrev pub itself : ℕ → ℕ
itself n = n

map-itself : (ns : List ℕ) → map itself ns ≡ ns
map-itself [] = refl
map-itself (n ∷ ns) = ap (λ (l : List ℕ). n ∷ l) (map-itself ns)

refilled : {A : Type 0} (xs ws : List A) → length ws ≡ length xs → refill (length xs) xs ws ≡ ws
refilled xs ws same =
    let none_left : drop (length ws) xs ≡ [] = ap (λ (n : ℕ). drop n xs) same ∙ drop-length xs in
    ap (λ (l : List _). take (length xs) (ws ++ l)) none_left ∙ (ap (take (length xs)) (append-nil ws) ∙ (ap (λ (n : ℕ). take n ws) (sym same) ∙ take-length ws))

module _ (f : ℕ → ℕ) where
  abbrev pub renamed_view : Value → Tree
  renamed_view v = renamed f (view v)

  abbrev pub renamed_pair : Value × Value → Tree × Tree
  renamed_pair p = (view p.0, renamed f (view p.1))

  abbrev pub renamed_option : ℕ × Value → ℕ × Tree
  renamed_option o = (o.0, renamed f (view o.1))

  each-is : (vs : List Value) → trees_of (map renamed_view vs) ≡ renamed_each f (view_all vs)
  each-is [] = refl
  each-is (v ∷ vs) = ap (tree (renamed f (view v))) (each-is vs)

  pairs-are : (ps : List (Value × Value)) → entries_of (map renamed_pair ps) ≡ renamed_pairs f (view_pairs ps)
  pairs-are [] = refl
  pairs-are (p ∷ ps) = ap (entry (view p.0) (renamed f (view p.1))) (pairs-are ps)

  present-is : (os : List (ℕ × Value)) → map renamed_option os ≡ renamed_present f (view_present os)
  present-is [] = refl
  present-is (o ∷ os) = ap (λ (l : Present). (o.0, renamed f (view o.1)) ∷ l) (present-is os)

  -- ---- where all were put

  pub each-put : (items now : List Value) (n : ℕ) → length now ≤ n → so_far renamed_view view now n ≡ map renamed_view items → view_all now ≡ renamed_each f (view_all items)
  each-put items now n le all = ap trees_of (sym (all-put renamed_view view now n le) ∙ all) ∙ each-is items

  pub pairs-put : (pairs now : List (Value × Value)) (n : ℕ) → length now ≤ n → so_far renamed_pair view_pair now n ≡ map renamed_pair pairs → view_pairs now ≡ renamed_pairs f (view_pairs pairs)
  pairs-put pairs now n le all = ap entries_of (sym (all-put renamed_pair view_pair now n le) ∙ all) ∙ pairs-are pairs

  pub present-put : (options now : List (ℕ × Value)) (n : ℕ) → length now ≤ n → so_far renamed_option view_option now n ≡ map renamed_option options → view_present now ≡ renamed_present f (view_present options)
  present-put options now n le all = sym (all-put renamed_option view_option now n le) ∙ (all ∙ present-is options)

  -- ---- names that stand alone

  pub names-put : (names now : List ℕ) (n : ℕ) → length now ≤ n → so_far f itself now n ≡ map f names → now ≡ map f names
  names-put names now n le all = sym (map-itself now) ∙ (sym (all-put f itself now n le) ∙ all)

  -- ---- slices

  abbrev pub slice_renamed : Slice → graphs.Slice
  slice_renamed s = renamed_slice f (view_slice s)

  slices-are : (ss : List Slice) → map slice_renamed ss ≡ map (renamed_slice f) (view_slices ss)
  slices-are [] = refl
  slices-are (s ∷ ss) = ap (λ (l : List graphs.Slice). slice_renamed s ∷ l) (slices-are ss)

  pub slices-put : (slices now : List Slice) (n : ℕ) → length now ≤ n → so_far slice_renamed view_slice now n ≡ map slice_renamed slices → view_slices now ≡ map (renamed_slice f) (view_slices slices)
  slices-put slices now n le all = sym (all-put slice_renamed view_slice now n le) ∙ (all ∙ slices-are slices)

  -- ---- where a list's items were lent and come back

  pub seq-put : (items new : List Value) → length new ≡ length items → view_all new ≡ renamed_each f (view_all items) → view (variants.Seq (refill (length items) items new)) ≡ renamed f (view (variants.Seq items))
  seq-put items new same put =
      ap (λ (l : List Value). view (variants.Seq l)) (refilled items new same) ∙ (view_seq new ∙ (ap sequence put ∙ ap (renamed f) (sym (view_seq items))))

  pub members-put : (items new : List Value) → length new ≡ length items → view_all new ≡ renamed_each f (view_all items) → view (variants.Members (refill (length items) items new)) ≡ renamed f (view (variants.Members items))
  members-put items new same put =
      ap (λ (l : List Value). view (variants.Members l)) (refilled items new same) ∙ (view_members new ∙ (ap struct put ∙ ap (renamed f) (sym (view_members items))))

  pub dict-put : (pairs new : List (Value × Value)) → length new ≡ length pairs → view_pairs new ≡ renamed_pairs f (view_pairs pairs) → view (variants.Pairs (refill (length pairs) pairs new)) ≡ renamed f (view (variants.Pairs pairs))
  dict-put pairs new same put =
      ap (λ (l : List (Value × Value)). view (variants.Pairs l)) (refilled pairs new same) ∙ (view_dict new ∙ (ap dictionary put ∙ ap (renamed f) (sym (view_dict pairs))))
