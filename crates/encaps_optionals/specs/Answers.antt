-- What the calls answer.
use Rattle.std.specs.Prelude.{ℕ, ◌≡◌, ◌==◌, Bool, true, false, List, [], ◌∷◌, Option, None, Result, Ok, Err, if◌then◌else◌}
use Rattle.ice_types.specs.declared.optional_format.TheConstants.{FORMAT_CLASS}
use Rattle.ice_prims.specs.declared.fault.Fault.{Fault}
use Rattle.ice_prims.specs.declared.fault.Kind.TheVariants.{LeftOver}
use Rattle.ice_prims.specs.Rest.{Rest, ◌>>=◌}
use Rattle.ice_encoding.specs.Tags.{next_tag_at, rising_at}
use Rattle.ice_encoding.specs.Skipping.{passed_at}
use Rattle.encaps_optionals.specs.declared.skipping.Skipped.{Skipped}
use Rattle.encaps_optionals.specs.declared.skipping.Skipped.TheVariants.{Passed, Reference}

-- A part was read. Where reading stands after a refusal is left open.
abbrev pub Sees : {X Y : Type 0} → (X → Y) → Result X Fault → Rest → Result (Y × Rest) Fault → Type 0
Sees view (Ok x) new read = read ≡ Ok (view x, new)
Sees view (Err e) new read = read ≡ Err e

-- A call that goes on behind something. A refusal changes nothing.
abbrev pub PassesOver : {X : Type 0} → Result X Fault → Rest → Rest → Result Rest Fault → Type 0
PassesOver (Ok x) old new read = read ≡ Ok new
PassesOver (Err e) old new read = (read ≡ Err e) × (new ≡ old)

-- whether optional members end here, whatever the last tag; else a tag stands next
abbrev pub EndsTags : Bool → Bool → Rest → Rest → Type 0
EndsTags true marked old new = (last : Option ℕ) → next_tag_at last marked old ≡ Ok (None, new)
EndsTags false marked old new = ((last : Option ℕ) → next_tag_at last marked old ≡ rising_at last old) × (new ≡ old)

-- a value of this format is passed over, a reference is not
abbrev pub skipped_at : ℕ → Rest → Result (Skipped × Rest) Fault
skipped_at format r = if format == FORMAT_CLASS then Ok (Reference, r) else passed_at format r >>= λ s. Ok (Passed, s)

-- nothing is left, or the first byte that is left is one too many
abbrev pub Fills : {X : Type 0} → Result X Fault → Rest → Type 0
Fills (Ok x) r = r.bytes ≡ []
Fills (Err e) r = (byte : ℕ) × (bytes : List ℕ) × (r.bytes ≡ byte ∷ bytes) × (e ≡ record { place = r.place; kind = LeftOver })
