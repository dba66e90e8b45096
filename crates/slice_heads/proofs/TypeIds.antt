-- A type id that stands as a text is taken, or refused where it begins with `#`.
use Rattle.std.proofs.Common.{◌≡◌, ℕ, true, false, List, Ok, Err, refl}
use Rattle.ice_types.specs.CompactIds.{is_numbered}
use Rattle.ice_prims.specs.declared.fault.Fault.{Fault}
use Rattle.ice_prims.specs.declared.fault.Kind.TheVariants.{BadTypeId}
use Rattle.ice_prims.specs.Rest.{Rest, fault}
use Rattle.ice_prims.specs.Number.{text_at}
use Rattle.ice_encoding.specs.TypeIds.{type_id_at}

pub text_refused : (r : Rest) (e : Fault) → text_at r ≡ Err e → type_id_at r ≡ Err e
text_refused r e is = rw is refl

pub number_refused : (r after : Rest) (id : List ℕ) → text_at r ≡ Ok (id, after) → is_numbered id ≡ true → type_id_at r ≡ fault r.place BadTypeId
number_refused r after id is hash = rw (is, hash) refl

pub text_taken : (r after : Rest) (id : List ℕ) → text_at r ≡ Ok (id, after) → is_numbered id ≡ false → type_id_at r ≡ Ok (id, after)
text_taken r after id is plain = rw (is, plain) refl
