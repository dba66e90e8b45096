-- What the first bytes of a header tell, whatever follows them.
use Rattle.std.proofs.Common.{◌≡◌, ℕ, ◌+◌, ◌≤◌, ◌⊎◌, Bool, true, false, ◌&&◌, List, [], ◌∷◌, ◌++◌, length, take, drop, Result, Ok, Err, refl, sym, ap, subst, ◌∙◌, inl, inr, arith, ltb, leb, cond, append_assoc}
use Rattle.std.specs.Str.{bytes_eq}
use Rattle.std.specs.Int.{w32, cast_signed, from_le_bytes}
use Rattle.std.proofs.lemmas.Bool.{cases_lt, le-ltb}
use Rattle.std.proofs.lemmas.Bool.Decides.{eqb_tells}
use Rattle.std.proofs.lemmas.List.{length-append, length-drop, length-take-le, take-append-drop, drop-append-le}
use Rattle.std.proofs.lemmas.Slice.Eq.{bytes_eq-Decides}
use Rattle.std.proofs.Math.ListN.{drop_of_length-le}
use Rattle.std.proofs.Math.Seq.{drop-append-add}
use Rattle.ice_prims.specs.declared.fault.Fault.{Fault}
use Rattle.ice_prims.specs.declared.fault.Kind.{Kind}
use Rattle.ice_prims.specs.declared.fault.Kind.TheVariants.{BadMessage, Compressed, BadStatus}
use Rattle.ice_prims.specs.Rest.{Rest, fault, ◌>>=◌, Took, bytes_at}
use Rattle.ice_prims.specs.Number.{byte_at, signed_at}
use Rattle.ice_prims.proofs.Parts.{bytes_only}
use Rattle.ice_messages.specs.Messages.{header, magic, versions, message_type, compression}
use Rattle.ice_messages.specs.Streams.{good_header}

abbrev pub Reader : Type 0 → Type 0
Reader A = Rest → Result (A × Rest) Fault

abbrev pub at : ℕ → List ℕ → Rest
at place bytes = record { place = place; bytes = bytes }

-- These first bytes have this fault, whatever follows them, or none as long as good ones do.
abbrev pub Verdict : {A : Type 0} → Reader A → List ℕ → ℕ → List ℕ → Type 0
Verdict {A} read good place front =
    ((e : Fault) × ((behind : List ℕ) → length good ≤ length front + length behind → read (at place (front ++ behind)) ≡ Err e))
    ⊎ ((x : A) × ((behind : List ℕ) → read (at place (front ++ (drop (length front) good ++ behind))) ≡ Ok (x, at (place + length good) behind)))

-- Each front of as many bytes as the good ones are has its verdict, and the good ones have no fault.
pub record Settled {A : Type 0} (read : Reader A) (good : List ℕ) : Type 0 where
  pub fine : (place : ℕ) → (x : A) × ((behind : List ℕ) → read (at place (good ++ behind)) ≡ Ok (x, at (place + length good) behind))
  pub front : (place : ℕ) (bytes : List ℕ) → length bytes ≤ length good → Verdict read good place bytes

-- ---- one part, and then another

abbrev joined : {A B : Type 0} → Reader A → Reader B → Reader (A × B)
joined first second r = first r >>= λ a. second a.1 >>= λ b. Ok ((a.0, b.0), b.1)

module _ {A B : Type 0} (first : Reader A) (second : Reader B) (a b : List ℕ) (f : Settled first a) (s : Settled second b) where
  both_ok : (place p q : ℕ) (bytes mid behind : List ℕ) (x : A) (y : B) → first (at place bytes) ≡ Ok (x, at p mid) → second (at p mid) ≡ Ok (y, at q behind) → q ≡ place + length (a ++ b)
      → joined first second (at place bytes) ≡ Ok ((x, y), at (place + length (a ++ b)) behind)
  both_ok place p q bytes mid behind x y one two end = rw (one, two, end) refl

  first_bad : (place : ℕ) (bytes : List ℕ) (e : Fault) → first (at place bytes) ≡ Err e → joined first second (at place bytes) ≡ Err e
  first_bad place bytes e one = rw one refl

  second_bad : (place p : ℕ) (bytes mid : List ℕ) (x : A) (e : Fault) → first (at place bytes) ≡ Ok (x, at p mid) → second (at p mid) ≡ Err e → joined first second (at place bytes) ≡ Err e
  second_bad place p bytes mid x e one two = rw (one, two) refl

  in_all : {y : Result ((A × B) × Rest) Fault} (place : ℕ) (bytes same : List ℕ) → bytes ≡ same → joined first second (at place same) ≡ y → joined first second (at place bytes) ≡ y
  in_all place bytes same is h = ap (λ (z : List ℕ). joined first second (at place z)) is ∙ h

  end_of : (place : ℕ) → (place + length a) + length b ≡ place + length (a ++ b)
  end_of place = omega (arith, length-append a b)

  -- the front ends within the first part
  in_first : (place : ℕ) (bytes : List ℕ) → length bytes ≤ length a → Verdict first a place bytes → Verdict (joined first second) (a ++ b) place bytes
  in_first place bytes le (inl bad) = inl (bad.0, λ behind long. first_bad place (bytes ++ behind) bad.0 (bad.1 behind (omega (arith, long, length-append a b))))
  in_first place bytes le (inr x) =
      let y = s.fine (place + length a) in
      inr (
        (x.0, y.0),
        λ behind.
            let parts : bytes ++ (drop (length bytes) (a ++ b) ++ behind) ≡ bytes ++ (drop (length bytes) a ++ (b ++ behind)) =
            ap (λ (z : List ℕ). bytes ++ z) (ap (λ (z : List ℕ). z ++ behind) (drop-append-le (length bytes) a b le) ∙ append_assoc (drop (length bytes) a) b behind) in
            in_all place _ _ parts (both_ok place (place + length a) ((place + length a) + length b) _ (b ++ behind) behind x.0 y.0 (x.1 (b ++ behind)) (y.1 behind) (end_of place)),
      )

  -- the front goes on behind it
  in_second : (place : ℕ) (bytes more : List ℕ) (x : A) → length bytes ≡ length a → ((behind : List ℕ) → first (at place (bytes ++ behind)) ≡ Ok (x, at (place + length a) behind)) → Verdict second b (place + length a) more
      → Verdict (joined first second) (a ++ b) place (bytes ++ more)
  in_second place bytes more x same one (inl bad) = inl (
    bad.0,
    λ behind long.
        in_all place _ _ (append_assoc bytes more behind)
        (second_bad place (place + length a) _ (more ++ behind) x bad.0 (one (more ++ behind)) (bad.1 behind (omega (arith, long, same, length-append a b, length-append bytes more)))),
  )
  in_second place bytes more x same one (inr y) = inr (
    (x, y.0),
    λ behind.
        let left : drop (length (bytes ++ more)) (a ++ b) ≡ drop (length more) b =
        ap (λ (n : ℕ). drop n (a ++ b)) (length-append bytes more ∙ ap (λ (n : ℕ). n + length more) same) ∙ drop-append-add a b (length more) in
        let parts : (bytes ++ more) ++ (drop (length (bytes ++ more)) (a ++ b) ++ behind) ≡ bytes ++ (more ++ (drop (length more) b ++ behind)) =
        append_assoc bytes more _ ∙ ap (λ (z : List ℕ). bytes ++ (more ++ (z ++ behind))) left in
        in_all place _ _ parts (both_ok place (place + length a) ((place + length a) + length b) _ (more ++ (drop (length more) b ++ behind)) behind x y.0 (one _) (y.1 behind) (end_of place)),
  )

  past_first : (place : ℕ) (bytes more : List ℕ) → length bytes ≡ length a → length more ≤ length b → Verdict first a place bytes → Verdict (joined first second) (a ++ b) place (bytes ++ more)
  past_first place bytes more same le (inl bad) = inl (
    bad.0,
    λ behind long.
        in_all place _ _ (append_assoc bytes more behind) (first_bad place _ bad.0 (bad.1 (more ++ behind) (omega (arith, same)))),
  )
  past_first place bytes more same le (inr x) =
      let none : drop (length bytes) a ≡ [] = drop_of_length-le a (omega (arith, same)) in
      in_second place bytes more x.0 same (λ behind. subst (λ (z : List ℕ). first (at place (bytes ++ (z ++ behind))) ≡ Ok (x.0, at (place + length a) behind)) none (x.1 behind)) (s.front (place + length a) more le)

  pub settled_both : Settled (joined first second) (a ++ b)
  settled_both = record {
    fine = λ place.
        let x = f.fine place in
        let y = s.fine (place + length a) in
        ((x.0, y.0), λ behind. in_all place _ _ (append_assoc a b behind) (both_ok place (place + length a) ((place + length a) + length b) _ (b ++ behind) behind x.0 y.0 (x.1 (b ++ behind)) (y.1 behind) (end_of place)));
    front = λ place bytes le. elim (cases_lt (length a) (length bytes)) [
      | inl past ↦
          let front : length (take (length a) bytes) ≡ length a = length-take-le (length a) bytes (omega (arith, past)) in
          subst (Verdict (joined first second) (a ++ b) place) (take-append-drop (length a) bytes)
          (past_first place (take (length a) bytes) (drop (length a) bytes) front (omega (arith, le, length-append a b, length-drop (length a) bytes)) (f.front place (take (length a) bytes) (omega (arith, front))))
      | inr within ↦ in_first place bytes within (f.front place bytes within)
    ];
  }

-- ---- what is made of a part

pub settled_made : {A B : Type 0} (make : A → B) (read : Reader A) (good : List ℕ) → Settled read good → Settled (λ r. read r >>= λ x. Ok (make x.0, x.1)) good
settled_made {A} {B} make read good s = record {
  fine = λ place. let x = s.fine place in (make x.0, λ behind. rw (x.1 behind) refl);
  front = λ place bytes le. made place bytes (s.front place bytes le);
}
  where
    made : (place : ℕ) (bytes : List ℕ) → Verdict read good place bytes → Verdict (λ r. read r >>= λ x. Ok (make x.0, x.1)) good place bytes
    made place bytes (inl bad) = inl (bad.0, λ behind long. rw (bad.1 behind long) refl)
    made place bytes (inr x) = inr (make x.0, λ behind. rw (x.1 behind) refl)

-- ---- these very bytes

abbrev exact : List ℕ → Kind → Reader (Unit {0})
exact known kind r = bytes_at (length known) r >>= λ b. cond (bytes_eq b.0 known) (Ok (tt, b.1)) (fault r.place kind)

-- the known bytes begin with these, or whatever begins with these is other than the known ones
agree : (bytes known : List ℕ) → length bytes ≤ length known
    → (bytes ++ drop (length bytes) known ≡ known) ⊎ ((behind : List ℕ) → length known ≤ length bytes + length behind → bytes_eq (take (length known) (bytes ++ behind)) known ≡ false)
agree [] known le = inl refl
agree (b ∷ bs) [] le = absurd (omega (arith, le))
agree (b ∷ bs) (k ∷ ks) le = elim (eqb_tells b k) [
  | inl same ↦ elim (agree bs ks (omega (arith, le))) [
    | inl all ↦ inl (rw (same.1, all) refl)
    | inr other ↦ inr (λ behind long. rw (other behind (omega (arith, long))) (ap (λ (t : Bool). t && false) same.0))
  ]
  | inr other ↦ inr (λ behind long. rw other.0 refl)
]

settled_exact : (known : List ℕ) (kind : Kind) → Settled (exact known kind) known
settled_exact known kind = record {
  fine = λ place. (tt, known_fine place);
  front = λ place bytes le. elim (agree bytes known le) [
    | inl same ↦ inr (
      tt,
      λ behind.
          ap (λ (z : List ℕ). exact known kind (at place z)) (sym (append_assoc bytes (drop (length bytes) known) behind) ∙ ap (λ (z : List ℕ). z ++ behind) same) ∙ known_fine place behind,
    )
    | inr other ↦ inl (
      record { place = place; kind = kind },
      λ behind long.
          let enough : ltb (length (bytes ++ behind)) (length known) ≡ false = le-ltb _ _ (omega (arith, long, length-append bytes behind)) in
          rw (enough, other behind long) refl,
    )
  ];
}
  where
    known_fine : (place : ℕ) (behind : List ℕ) → exact known kind (at place (known ++ behind)) ≡ Ok (tt, at (place + length known) behind)
    known_fine place behind =
        let took : Took (at place (known ++ behind)) known (at (place + length known) behind) = record { parts = refl; moved = refl } in
        rw (bytes_only (length known) (at place (known ++ behind)) (at (place + length known) behind) known refl took, (bytes_eq-Decides known known).1 refl) refl

-- ---- one byte

-- what is known by the byte alone
abbrev known_by : {A : Type 0} → (ℕ → ℕ → Result A Fault) → ℕ → ℕ → List ℕ → Result (A × Rest) Fault
known_by verdict place b behind = verdict place b >>= λ x. Ok (x, at (place + 1) behind)

module _ {A : Type 0} (read : Reader A) (verdict : ℕ → ℕ → Result A Fault) (good : ℕ) (by : (place b : ℕ) (behind : List ℕ) → read (at place (b ∷ behind)) ≡ known_by verdict place b behind)
    (fine : (place : ℕ) → (x : A) × (verdict place good ≡ Ok x)) where
  good_byte : (place : ℕ) → (x : A) × ((behind : List ℕ) → read (at place (good ∷ behind)) ≡ Ok (x, at (place + 1) behind))
  good_byte place = let x = fine place in (x.0, λ behind. by place good behind ∙ ap (λ (r : Result A Fault). r >>= λ x. Ok (x, at (place + 1) behind)) x.1)

  by_byte : (place b : ℕ) (r : Result A Fault) → verdict place b ≡ r → Verdict read (good ∷ []) place (b ∷ [])
  by_byte place b (Err e) is = inl (e, λ behind long. by place b behind ∙ ap (λ (r : Result A Fault). r >>= λ x. Ok (x, at (place + 1) behind)) is)
  by_byte place b (Ok x) is = inr (x, λ behind. by place b behind ∙ ap (λ (r : Result A Fault). r >>= λ x. Ok (x, at (place + 1) behind)) is)

  of_front : (place : ℕ) (bytes : List ℕ) → length bytes ≤ 1 → Verdict read (good ∷ []) place bytes
  of_front place [] le = inr (good_byte place)
  of_front place (b ∷ []) le = by_byte place b (verdict place b) refl
  of_front place (b ∷ (c ∷ more)) le = absurd (omega (arith, le))

  settled_byte : Settled read (good ∷ [])
  settled_byte = record { fine = good_byte; front = of_front }

byte_first : (place b : ℕ) (behind : List ℕ) → byte_at (at place (b ∷ behind)) ≡ Ok (b, at (place + 1) behind)
byte_first place b behind =
    let took : Took (at place (b ∷ behind)) (b ∷ []) (at (place + 1) behind) = record { parts = refl; moved = refl } in
    rw (bytes_only 1 (at place (b ∷ behind)) (at (place + 1) behind) (b ∷ []) refl took) refl

type_verdict : ℕ → ℕ → Result ℕ Fault
type_verdict place b = cond (leb b 4) (Ok b) (fault place BadMessage)

type_settled : Settled message_type.read (3 ∷ [])
unfolding type_verdict
type_settled = settled_byte message_type.read type_verdict 3 (λ place b behind. by_test place b behind (leb b 4) refl) (λ place. (3, refl))
  where
    by_test : (place b : ℕ) (behind : List ℕ) (t : Bool) → leb b 4 ≡ t → message_type.read (at place (b ∷ behind)) ≡ known_by type_verdict place b behind
    by_test place b behind true is = rw (byte_first place b behind, is) refl
    by_test place b behind false is = rw (byte_first place b behind, is) refl

status_verdict : ℕ → ℕ → Result (Unit {0}) Fault
status_verdict place b = cond (leb b 2) (cond (leb b 1) (Ok tt) (fault place Compressed)) (fault place BadStatus)

status_settled : Settled compression.read (0 ∷ [])
unfolding status_verdict
status_settled = settled_byte compression.read status_verdict 0 (λ place b behind. by_test place b behind (leb b 2) (leb b 1) refl refl) (λ place. (tt, refl))
  where
    by_test : (place b : ℕ) (behind : List ℕ) (two one : Bool) → leb b 2 ≡ two → leb b 1 ≡ one → compression.read (at place (b ∷ behind)) ≡ known_by status_verdict place b behind
    by_test place b behind true true is also = rw (byte_first place b behind, is, also) refl
    by_test place b behind true false is also = rw (byte_first place b behind, is, also) refl
    by_test place b behind false one is also = rw (byte_first place b behind, is) refl

-- ---- an int has no fault

fourteen : List ℕ
fourteen = 14 ∷ 0 ∷ 0 ∷ 0 ∷ []

int_settled : Settled (signed_at w32) (14 ∷ 0 ∷ 0 ∷ 0 ∷ [])
unfolding fourteen
int_settled = record {
  fine = λ place. (cast_signed w32 (from_le_bytes w32 fourteen), int_reads place fourteen refl);
  front = λ place bytes le.
      let left = drop (length bytes) fourteen in
      let long : length (bytes ++ left) ≡ 4 = omega (arith, le, length-append bytes left, length-drop (length bytes) fourteen) in
      inr (
        cast_signed w32 (from_le_bytes w32 (bytes ++ left)),
        λ behind.
            ap (λ (z : List ℕ). signed_at w32 (at place z)) (sym (append_assoc bytes left behind)) ∙ int_reads place (bytes ++ left) long behind,
      );
}
  where
    int_reads : (place : ℕ) (four : List ℕ) → length four ≡ 4 → (behind : List ℕ) → signed_at w32 (at place (four ++ behind)) ≡ Ok (cast_signed w32 (from_le_bytes w32 four), at (place + 4) behind)
    int_reads place four long behind =
        let took : Took (at place (four ++ behind)) four (at (place + 4) behind) = record { parts = refl; moved = omega (arith, long) } in
        rw (bytes_only 4 (at place (four ++ behind)) (at (place + 4) behind) four long took) refl

-- ---- a header

magic_settled : Settled magic.read (73 ∷ 99 ∷ 101 ∷ 80 ∷ [])
magic_settled = settled_made (λ x. tt) _ _
    (settled_both _ _ (73 ∷ []) (99 ∷ 101 ∷ 80 ∷ []) (settled_exact _ _)
    (settled_both _ _ (99 ∷ []) (101 ∷ 80 ∷ []) (settled_exact _ _)
    (settled_both _ _ (101 ∷ []) (80 ∷ []) (settled_exact _ _) (settled_exact _ _))))

versions_settled : Settled versions.read (1 ∷ 0 ∷ 1 ∷ 0 ∷ [])
versions_settled = settled_made (λ x. tt) _ _ (settled_both _ _ (1 ∷ 0 ∷ []) (1 ∷ 0 ∷ []) (settled_exact _ _) (settled_exact _ _))

pub header_settled : Settled header.read good_header
header_settled = settled_made (λ x. (x.1.1.0, x.1.1.1.1)) _ _
    (settled_both _ _ (73 ∷ 99 ∷ 101 ∷ 80 ∷ []) (1 ∷ 0 ∷ 1 ∷ 0 ∷ 3 ∷ 0 ∷ 14 ∷ 0 ∷ 0 ∷ 0 ∷ []) magic_settled
    (settled_both _ _ (1 ∷ 0 ∷ 1 ∷ 0 ∷ []) (3 ∷ 0 ∷ 14 ∷ 0 ∷ 0 ∷ 0 ∷ []) versions_settled
    (settled_both _ _ (3 ∷ []) (0 ∷ 14 ∷ 0 ∷ 0 ∷ 0 ∷ []) type_settled
    (settled_both _ _ (0 ∷ []) (14 ∷ 0 ∷ 0 ∷ 0 ∷ []) status_settled int_settled))))
