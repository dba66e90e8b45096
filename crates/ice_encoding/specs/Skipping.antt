-- Optional members whose tag is not known are passed over by their format. (Ice manual, "Data Encoding for Optional Values".)
use Rattle.std.specs.Prelude.{ℕ, ℤ, pos, negsuc, zero, suc, ◌≡◌, Bool, true, false, List, ◌++◌, length, take, Result, Ok, nat_lt, if◌then◌else◌}
use Rattle.ice_prims.specs.declared.fault.Fault.{Fault}
use Rattle.ice_prims.specs.declared.fault.Kind.TheVariants.{Short, BadSize}
use Rattle.ice_prims.specs.Rest.{Rest, fault, ◌>>=◌, after, bytes_at, IsBytes}
use Rattle.ice_encoding.specs.Parts.{Part, int, size, made, tested}

-- so many bytes, as they are
abbrev pub so_many : ℕ → Part (List ℕ)
so_many n = record { read = bytes_at n; Spells = λ bytes x. (bytes ≡ x) × (length x ≡ n); put = λ x. x; Is = λ x. (length x ≡ n) × IsBytes x }

-- an int that is not negative
abbrev pub is_natural : ℤ → Bool
is_natural (pos n) = true
is_natural (negsuc n) = false

abbrev pub natural_of : ℤ → ℕ
natural_of (pos n) = n
natural_of (negsuc n) = 0

-- an int that is not negative, else `BadSize`
abbrev pub count : Part ℕ
count = made natural_of pos (tested is_natural BadSize int)

-- Of a length, the bytes that it counts, as a bound of their own. Where they are not there, the fault is at the length.
abbrev pub bound_behind : Part ℕ → Rest → Result (Rest × Rest) Fault
bound_behind number r = do
  n ← number.read r
  if nat_lt (length n.1.bytes) n.0 then fault r.place Short else Ok (record { place = n.1.place; bytes = take n.0 n.1.bytes }, after n.1 n.0)

-- a length, and so many bytes
abbrev pub behind : Part ℕ → Part (List ℕ)
behind number = record {
  read = λ r. bound_behind number r >>= λ bound. Ok (bound.0.bytes, bound.1);
  Spells = λ bytes x. (front : List ℕ) × (bytes ≡ front ++ x) × number.Spells front (length x);
  put = λ x. number.put (length x) ++ x;
  Is = λ x. number.Is (length x) × IsBytes x;
}

-- ---- by format: F1, F2, F4, F8, Size, VSize, FSize

-- a value of a format that has no reference, whatever it says
pub data Passes : ℕ → List ℕ → Type 0 where
  one : (bytes : List ℕ) → length bytes ≡ 1 → Passes 0 bytes
  two : (bytes : List ℕ) → length bytes ≡ 2 → Passes 1 bytes
  four : (bytes : List ℕ) → length bytes ≡ 4 → Passes 2 bytes
  eight : (bytes : List ℕ) → length bytes ≡ 8 → Passes 3 bytes
  sized : (bytes : List ℕ) (n : ℕ) → size.Spells bytes n → Passes 4 bytes
  behind_size : (bytes value : List ℕ) → (behind size).Spells bytes value → Passes 5 bytes
  behind_int : (bytes value : List ℕ) → (behind count).Spells bytes value → Passes 6 bytes

-- reading goes on behind it
abbrev pub over : {A : Type 0} → Result (A × Rest) Fault → Result Rest Fault
over read = read >>= λ x. Ok x.1

-- where reading goes on behind a value of this format; a reference, format 7, is not passed over here
abbrev pub passed_at : ℕ → Rest → Result Rest Fault
passed_at zero r = over (bytes_at 1 r)
passed_at (suc zero) r = over (bytes_at 2 r)
passed_at (suc (suc zero)) r = over (bytes_at 4 r)
passed_at (suc (suc (suc zero))) r = over (bytes_at 8 r)
passed_at (suc (suc (suc (suc zero)))) r = over (size.read r)
passed_at (suc (suc (suc (suc (suc zero))))) r = over ((behind size).read r)
passed_at (suc (suc (suc (suc (suc (suc n)))))) r = over ((behind count).read r)
