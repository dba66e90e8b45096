-- The shares of passes, added up.
use Rattle.std.proofs.Common.{◌≡◌, ℕ, zero, suc, ◌+◌, ◌<◌, List, [], ◌∷◌, ◌++◌, length, get_or, refl, sym, ap, ◌∙◌, arith}
use Rattle.turnstile.specs.declared.turned.Turned.{Ghosts}
use Rattle.turnstile.specs.declared.passes.Pass.{Pass}
use Rattle.turnstile.specs.Passes.{parts, SameShare, SharesOf}
use Rattle.ice_messages.specs.declared.message.Call.{Call}
use Rattle.ice_messages.specs.declared.message.Answer.{Answer}
use Rattle.dispatch_pool.specs.declared.object.Object.{Object}
use Rattle.dispatch_pool.specs.declared.lanes.Lanes.{Lanes}
use Rattle.dispatch_pool.specs.declared.lanes.LanePasses.{LanePasses}
use Rattle.dispatch_pool.specs.Rows.{RowGrew, RowSplit, Turn}
use Rattle.dispatch_pool.specs.Lanes.{Stile, AreOf, AreWhole, RowIsWhole, RowJoined, DidSplit, DidJoinAll}
use Rattle.dispatch_pool.specs.Turns.{Grew}
use Rattle.dispatch_pool.specs.Shares.{row_parts, parts_at, SameShares, all_parts}

-- ---- rows of passes

a_stile : (ts : List Stile) (i : ℕ) → i < length ts → Stile
a_stile [] i lt = absurd (omega (arith, lt))
a_stile (t ∷ ts) i lt = t

module _ {g : Ghosts Object Call Answer} where
  -- it is that of the pass
  row_is : (ps : List (Pass Object Call Answer g)) (i k : ℕ) (d : Pass Object Call Answer g) → i < length ps → row_parts ps i k ≡ parts (get_or ps i d) k
  row_is [] i k d lt = absurd (omega (arith, lt))
  row_is (p ∷ ps) zero k d lt = refl
  row_is (p ∷ ps) (suc i) k d lt = row_is ps i k d (omega (arith, lt))

  rows_same : (ps qs : List (Pass Object Call Answer g)) → length qs ≡ length ps → ((i : ℕ) (d : Pass Object Call Answer g) → i < length ps → SameShare (get_or ps i d) (get_or qs i d))
      → (i k : ℕ) → row_parts qs i k ≡ row_parts ps i k
  rows_same [] [] long each i k = refl
  rows_same [] (q ∷ qs) long each i k = absurd (omega (arith, long))
  rows_same (p ∷ ps) [] long each i k = absurd (omega (arith, long))
  rows_same (p ∷ ps) (q ∷ qs) long each zero k = each 0 p (omega arith) k
  rows_same (p ∷ ps) (q ∷ qs) long each (suc i) k = rows_same ps qs (omega (arith, long)) (λ j d lt. each (suc j) d (omega (arith, lt))) i k

  rows_add : (ps qs rs : List (Pass Object Call Answer g)) → length qs ≡ length ps → length rs ≡ length ps
      → ((i : ℕ) (d : Pass Object Call Answer g) → i < length ps → SharesOf (get_or qs i d) (get_or rs i d) (get_or ps i d)) → (i k : ℕ) → row_parts qs i k + row_parts rs i k ≡ row_parts ps i k
  rows_add [] [] [] long same each i k = refl
  rows_add [] [] (r ∷ rs) long same each i k = absurd (omega (arith, same))
  rows_add [] (q ∷ qs) rs long same each i k = absurd (omega (arith, long))
  rows_add (p ∷ ps) [] rs long same each i k = absurd (omega (arith, long))
  rows_add (p ∷ ps) (q ∷ qs) [] long same each i k = absurd (omega (arith, same))
  rows_add (p ∷ ps) (q ∷ qs) (r ∷ rs) long same each zero k = each 0 p (omega arith) k
  rows_add (p ∷ ps) (q ∷ qs) (r ∷ rs) long same each (suc i) k = rows_add ps qs rs (omega (arith, long)) (omega (arith, same)) (λ j d lt. each (suc j) d (omega (arith, lt))) i k

  row_grew : (ps qs : List (Pass Object Call Answer g)) (turns : List (Turn Call Answer)) → RowGrew ps qs turns → (i k : ℕ) → row_parts qs i k ≡ row_parts ps i k
  row_grew ps qs turns w = rows_same ps qs w.one_each (λ i d lt. (w.each i d d lt).share)

  row_split : (ps rs qs : List (Pass Object Call Answer g)) → RowSplit ps rs qs → (i k : ℕ) → row_parts qs i k + row_parts rs i k ≡ row_parts ps i k
  row_split ps rs qs s = rows_add ps qs rs s.one_each.1 s.one_each.0 (λ i d lt. (s.each i d d d lt).4)

  row_joined : (ts : List Stile) (ps rs qs : List (Pass Object Call Answer g)) → length ps ≡ length ts → RowJoined ts ps rs qs → (i k : ℕ) → row_parts ps i k + row_parts rs i k ≡ row_parts qs i k
  row_joined ts ps rs qs long j = rows_add qs ps rs (sym j.one_each.1) (j.one_each.0 ∙ sym j.one_each.1)
      (λ i d lt. let short : i < length ps = omega (arith, lt, j.one_each.1) in (j.each i d d d short (a_stile ts i (omega (arith, short, long)))).1)

  row_whole : (ps qs : List (Pass Object Call Answer g)) → length qs ≡ length ps → ((i k : ℕ) → row_parts qs i k ≡ row_parts ps i k) → RowIsWhole ps → RowIsWhole qs
  row_whole ps qs long same whole i d lt k = let short : i < length ps = omega (arith, lt, long) in sym (row_is qs i k d lt) ∙ (same i k ∙ (row_is ps i k d short ∙ whole i d short k))

-- ---- passes of lanes

pub grew_shares : (old new : LanePasses) (turns : List (Turn Call Answer)) → Grew old new turns → SameShares old new
grew_shares old new turns w = row_grew old.passes.items new.passes.items turns w

pub split_shares : (old new made : LanePasses) → DidSplit old new made → (i k : ℕ) → parts_at new i k + parts_at made i k ≡ parts_at old i k
split_shares old new made s = row_split old.passes.items made.passes.items new.passes.items s

pub join_shares : (lanes : Lanes) (old other new : LanePasses) → AreOf lanes old → DidJoinAll lanes old other new → (i k : ℕ) → parts_at old i k + parts_at other i k ≡ parts_at new i k
join_shares lanes old other new of j = row_joined lanes.stiles.items old.passes.items other.passes.items new.passes.items of.one_each j

pub still_whole : (lanes : Lanes) (old new : LanePasses) → AreOf lanes old → AreOf lanes new → SameShares old new → AreWhole old → AreWhole new
still_whole lanes old new of now same whole = row_whole old.passes.items new.passes.items (now.one_each ∙ sym of.one_each) same whole

-- ---- all of a list

module _ {A : Type 0} (passes : A → LanePasses) where
  pub all_push : (xs ys : List A) (y : A) → ys ≡ xs ++ y ∷ [] → (i k : ℕ) → all_parts ys passes i k ≡ all_parts xs passes i k + parts_at (passes y) i k
  all_push xs ys y is i k = ap (λ (z : List A). all_parts z passes i k) is ∙ behind xs
    where
      behind : (xs : List A) → all_parts (xs ++ y ∷ []) passes i k ≡ all_parts xs passes i k + parts_at (passes y) i k
      behind [] = omega arith
      behind (x ∷ xs) = omega (arith, behind xs)

  pub all_same : (xs ys : List A) → length ys ≡ length xs → ((j : ℕ) (d : A) → j < length xs → SameShares (passes (get_or xs j d)) (passes (get_or ys j d))) → (i k : ℕ) → all_parts ys passes i k ≡ all_parts xs passes i k
  all_same [] [] long each i k = refl
  all_same [] (y ∷ ys) long each i k = absurd (omega (arith, long))
  all_same (x ∷ xs) [] long each i k = absurd (omega (arith, long))
  all_same (x ∷ xs) (y ∷ ys) long each i k = omega (arith, each 0 x (omega arith) i k, all_same xs ys (omega (arith, long)) (λ j d lt. each (suc j) d (omega (arith, lt))) i k)
