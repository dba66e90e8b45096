-- What stands in an output after several parts were appended, one after the other.
use Rattle.std.proofs.Common.{◌≡◌, List, ℕ, ◌++◌, refl, append_assoc}

pub two : (s0 s1 s2 a b : List ℕ) → s1 ≡ s0 ++ a → s2 ≡ s1 ++ b → s2 ≡ s0 ++ (a ++ b)
two s0 s1 s2 a b p q = rw (q, p, append_assoc) refl

pub six : (s0 s1 s2 s3 s4 s5 s6 a b c d e f : List ℕ) → s1 ≡ s0 ++ a → s2 ≡ s1 ++ b → s3 ≡ s2 ++ c → s4 ≡ s3 ++ d → s5 ≡ s4 ++ e → s6 ≡ s5 ++ f → s6 ≡ s0 ++ (a ++ (b ++ (c ++ (d ++ (e ++ f)))))
six s0 s1 s2 s3 s4 s5 s6 a b c d e f p q r s t u = rw (u, t, s, r, q, p) (simp append_assoc)
