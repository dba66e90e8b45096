-- Two rows of one sort: what is said of both is said of the types.
use Rattle.std.proofs.Common.{ℕ, ◌≡◌, Bool, IsTrue, IfOk, Result, Ok, Err, refl, subst}
use Rattle.std.specs.Prelude.{◌↔◌}
use Rattle.ice_types.specs.declared.kind.TypeRef.{TypeRef}
use Rattle.ice_types.specs.declared.kind.TypeRef.TheVariants as kinds

pub seq_place : (b other : ℕ) → kinds.Seq b ≡ kinds.Seq other → other ≡ b
seq_place b other e = cc

pub dict_place : (b other : ℕ) → kinds.Dict b ≡ kinds.Dict other → other ≡ b
dict_place b other e = cc

pub struct_place : (b other : ℕ) → kinds.Struct b ≡ kinds.Struct other → other ≡ b
struct_place b other e = cc

pub enum_place : (b other : ℕ) → kinds.Enum b ≡ kinds.Enum other → other ≡ b
enum_place b other e = cc

pub pair_said : {E : Type 0} (make : ℕ → TypeRef) → ((b other : ℕ) → make b ≡ make other → other ≡ b) → (Is : ℕ → Type 0) (b : ℕ) (r : Result Bool E)
    → IfOk r (λ (said : Bool). IsTrue said ↔ Is b) → IfOk r (λ (said : Bool). IsTrue said ↔ ((k : ℕ) × (make b ≡ make k) × Is k))
pair_said make place Is b (Ok said) h = (λ on. (b, refl, h.0 on), λ parts. h.1 (subst Is (place b parts.0 parts.1) parts.2))
pair_said make place Is b (Err e) h = tt
