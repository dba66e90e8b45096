-- The order of a renamed graph is the renamed order.
use Rattle.std.proofs.Common.{ℕ, zero, suc, ◌<◌, ◌≡◌, Bool, true, false, List, [], ◌∷◌, ◌++◌, length, map, refl, sym, ap, ◌∙◌}
use Rattle.std.proofs.lemmas.Bool.{false≢true}
use Rattle.std.proofs.lemmas.List.{map-append, get_or-map}
use Rattle.ice_encoding.specs.Names.{names_of, instance_names, renamed_slice}
use Rattle.ice_encoding.specs.Visiting.{place, is_listed, visit_each, visit_at, order, most}
use Rattle.ice_encoding.specs.Graph.{Graph}
use Rattle.ice_encoding.specs.Instances.{slices_of}
use Rattle.ice_encoding.specs.SameGraph.{AreListed, numbered, Holds, Same, form}
use Rattle.graph_laws.proofs.Places.{get-place, place-map, is_listed-map, AreListed-append, fused_members, slices-fused}
use Rattle.graph_arena.proofs.Keeping.{members-renamed, instance-renamed}

-- the instance of a number
pub instance-numbered : (ns : List ℕ) (g : Graph) (n : ℕ) → place ns n < length ns → slices_of (numbered ns g).instances (place ns n) ≡ map (renamed_slice (place ns)) (slices_of g.instances n)
instance-numbered ns g n n-in =
    get_or-map (λ m. map (renamed_slice (place ns)) (slices_of g.instances m)) ns (place ns n) 0 [] n-in ∙ ap (λ (m : ℕ). map (renamed_slice (place ns)) (slices_of g.instances m)) (get-place ns n 0 n-in)

-- what a visit adds is the same under both namings
pub record Follows (ns seen seen' : List ℕ) : Type 0 where
  pub renamed : seen' ≡ map (place ns) seen
  pub listed : AreListed ns seen

abbrev Visits : List ℕ → (ℕ → List ℕ → List ℕ) → (ℕ → List ℕ → List ℕ) → Type 0
Visits ns visit visit' = (n : ℕ) (seen : List ℕ) → place ns n < length ns → AreListed ns seen → Follows ns (visit n seen) (visit' (place ns n) (map (place ns) seen))

each-follows : (ns : List ℕ) (visit visit' : ℕ → List ℕ → List ℕ) → Visits ns visit visit' → (xs seen : List ℕ) → AreListed ns xs → AreListed ns seen
    → Follows ns (visit_each visit xs seen) (visit_each visit' (map (place ns) xs) (map (place ns) seen))
each-follows ns visit visit' step [] seen xs-in seen-in = record { renamed = refl; listed = seen-in }
each-follows ns visit visit' step (x ∷ xs) seen xs-in seen-in =
    let one = step x seen xs-in.0 seen-in in
    let others = each-follows ns visit visit' step xs (visit x seen) xs-in.1 one.listed in
    record { renamed = ap (visit_each visit' (map (place ns) xs)) one.renamed ∙ others.renamed; listed = others.listed }

listed-cases : (ns : List ℕ) (b b' : Bool) (seen others others' : List ℕ) → b' ≡ b → AreListed ns seen → Follows ns others others'
    → Follows ns (elim b [ true ↦ seen | false ↦ others ]) (elim b' [ true ↦ map (place ns) seen | false ↦ others' ])
listed-cases ns true true seen others others' e seen-in follows = record { renamed = refl; listed = seen-in }
listed-cases ns false false seen others others' e seen-in follows = follows
listed-cases ns true false seen others others' e seen-in follows = absurd (false≢true e)
listed-cases ns false true seen others others' e seen-in follows = absurd (false≢true (sym e))

visit-follows : (ns : List ℕ) (g : Graph) → Holds ns g → (depth : ℕ) → Visits ns (visit_at depth g) (visit_at depth (numbered ns g))
visit-follows ns g holds zero n seen n-in seen-in = record { renamed = refl; listed = seen-in }
visit-follows ns g holds (suc depth) n seen n-in seen-in =
    let k : Graph = numbered ns g in
    let f : ℕ → ℕ = place ns in
    let xs = instance_names (slices_of g.instances n) in
    let xs-is : instance_names (slices_of k.instances (f n)) ≡ map f xs = ap instance_names (instance-numbered ns g n n-in) ∙ instance-renamed f (slices_of g.instances n) in
    let seen-is : map f seen ++ f n ∷ [] ≡ map f (seen ++ n ∷ []) = sym (map-append f seen (n ∷ [])) in
    let each = each-follows ns (visit_at depth g) (visit_at depth k) (visit-follows ns g holds depth) xs (seen ++ n ∷ []) (holds.instances n n-in) (AreListed-append ns seen (n ∷ []) seen-in (n-in, tt)) in
    let moved = ap (λ (l : List ℕ). visit_each (visit_at depth k) l (map f seen ++ f n ∷ [])) xs-is ∙ ap (visit_each (visit_at depth k) (map f xs)) seen-is in
    listed-cases ns (is_listed seen n) (is_listed (map f seen) (f n)) seen (visit_each (visit_at depth g) xs (seen ++ n ∷ [])) (visit_each (visit_at depth k) (instance_names (slices_of k.instances (f n))) (map f seen ++ f n ∷ []))
    (is_listed-map ns seen n seen-in n-in) seen-in (record { renamed = moved ∙ each.renamed; listed = each.listed })

-- the order of a renamed graph
pub order-numbered : (ns : List ℕ) (g : Graph) → Holds ns g → Follows ns (order g) (order (numbered ns g))
unfolding order
order-numbered ns g holds =
    let each = each-follows ns (visit_at most g) (visit_at most (numbered ns g)) (visit-follows ns g holds most) (names_of g.roots) [] holds.roots tt in
    record { renamed = ap (λ (l : List ℕ). visit_each (visit_at most (numbered ns g)) l []) (members-renamed (place ns) g.roots) ∙ each.renamed; listed = each.listed }

-- numbering a numbered graph
renumbered-instances : (ns : List ℕ) (g : Graph) → Holds ns g → (l : List ℕ) → AreListed ns l → (xs : List ℕ) → AreListed ns xs
    → map (λ n. map (renamed_slice (place (map (place ns) l))) (slices_of (numbered ns g).instances n)) (map (place ns) xs) ≡ map (λ n. map (renamed_slice (place l)) (slices_of g.instances n)) xs
renumbered-instances ns g holds l l-in [] xs-in = refl
renumbered-instances ns g holds l l-in (x ∷ xs) xs-in =
    let one : map (renamed_slice (place (map (place ns) l))) (slices_of (numbered ns g).instances (place ns x)) ≡ map (renamed_slice (place l)) (slices_of g.instances x) =
    ap (map (renamed_slice (place (map (place ns) l)))) (instance-numbered ns g x xs-in.0) ∙ slices-fused (place (map (place ns) l)) (place ns) (place l) ns (λ n n-in. place-map ns l n l-in n-in) (slices_of g.instances x) (holds.instances x xs-in.0) in
    cc (one, renumbered-instances ns g holds l l-in xs xs-in.1)

pub renumbered : (ns : List ℕ) (g : Graph) → Holds ns g → (l : List ℕ) → AreListed ns l → numbered (map (place ns) l) (numbered ns g) ≡ numbered l g
renumbered ns g holds l l-in =
    let roots = fused_members (place (map (place ns) l)) (place ns) (place l) ns (λ n n-in. place-map ns l n l-in n-in) g.roots holds.roots in
    let instances = renumbered-instances ns g holds l l-in l l-in in
    λ i. record { roots = roots i; instances = instances i }

-- a graph and its renaming have one form
pub form-numbered : (ns : List ℕ) (g : Graph) → Holds ns g → form (numbered ns g) ≡ form g
unfolding form
form-numbered ns g holds =
    let o = order-numbered ns g holds in
    ap (λ (l : List ℕ). numbered l (numbered ns g)) o.renamed ∙ renumbered ns g holds (order g) o.listed

pub form-same : (g h : Graph) → Same g h → form g ≡ form h
form-same g h s = sym (form-numbered s.left g s.left_holds) ∙ ap form s.equal ∙ form-numbered s.right h s.right_holds
