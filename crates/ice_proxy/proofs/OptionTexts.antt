-- The options of a proxy are read as they are printed.
use Rattle.std.proofs.Common.{◌≡◌, ℕ, zero, suc, ◌≤◌, ◌&&◌, Bool, true, false, List, [], ◌∷◌, ◌++◌, Option, None, Some, Ok, refl, subst, arith, codes, eqb}
use Rattle.std.specs.Str.{IsUtf8}
use Rattle.std.specs.Prelude.{if◌then◌else◌}
use Rattle.ice_prims.specs.Rest.{Rest}
use Rattle.ice_types.specs.declared.proxy.Proxy.{Proxy}
use Rattle.ice_proxy.specs.Escapes.{text_of}
use Rattle.ice_proxy.specs.PrintedWords.{printed_text}
use Rattle.ice_proxy.specs.Laws.{IsWord}
use Rattle.ice_proxy.proofs.StandingWords.{texts_stand}
use Rattle.ice_proxy.proofs.Readings.{texts_read}
use Rattle.ice_proxy.specs.Numbers.{version, printed_version}
use Rattle.ice_proxy.specs.declared.options.Options.{Options}
use Rattle.ice_proxy.specs.declared.options.Flag.{Flag}
use Rattle.ice_proxy.specs.declared.options.Flag.TheVariants as kinds
use Rattle.ice_proxy.specs.Looking.{◌>>=◌, word_as}
use Rattle.ice_proxy.specs.Options.{listed, no_options, flags, is_given, with_flag}
use Rattle.ice_proxy.specs.Printed.{unless_empty, when, printed_mode, printed_protocol, printed_options, IsVersion, HasText}
use Rattle.ice_proxy.proofs.ReadBack.{version_read}
use Rattle.ice_proxy.proofs.Standing.{plain_word, version_stands}
use Rattle.ice_proxy.proofs.Parts.{Part, no_part, both_parts, lone_part, word_part}

abbrev pub OptionPart : List ℕ → Options → Options → Type 0
OptionPart bytes o last = Part flags is_given with_flag bytes o last

both : (a b : List ℕ) (o m last : Options) → OptionPart a o m → OptionPart b m last → OptionPart (a ++ b) o last
both = both_parts flags is_given with_flag

abbrev pub given_text : List ℕ → Option (List ℕ)
given_text [] = None
given_text (c ∷ cs) = Some (c ∷ cs)

facet_part : (text : List ℕ) → IsUtf8 text → OptionPart (unless_empty (codes " -f ") text) no_options (record no_options { facet = given_text text })
facet_part [] utf8 = no_part flags is_given with_flag no_options
facet_part (c ∷ cs) utf8 = word_part flags is_given with_flag text_of (codes "-f") (printed_text (c ∷ cs)) (c ∷ cs) no_options (λ x. record no_options { facet = Some x }) kinds.Facet
    (plain_word (codes "-f") (omega arith) refl) refl refl (λ s. refl) (texts_read (c ∷ cs) utf8) (texts_stand (c ∷ cs))

lone : (o last : Options) (known : List ℕ) (flag : Flag) → IsWord known → listed flags known ≡ Some flag → is_given flag o ≡ false → ((s : Rest) → with_flag flag o s ≡ Ok (last, s)) → OptionPart (32 ∷ known) o last
lone = lone_part flags is_given with_flag

-- options without a mode, a lock or versions
abbrev with_facet : Option (List ℕ) → Options
with_facet facet = record { facet = facet; mode = None; secure = false; protocol = None; encoding = None }

abbrev with_mode : Option (List ℕ) → ℕ → Options
with_mode facet mode = record { facet = facet; mode = Some mode; secure = false; protocol = None; encoding = None }

mode_part : (facet : Option (List ℕ)) (mode : ℕ) → mode ≤ 4 → OptionPart (printed_mode mode) (with_facet facet) (with_mode facet mode)
mode_part facet zero le = lone (with_facet facet) (with_mode facet 0) (codes "-t") (kinds.Mode 0) (plain_word (codes "-t") (omega arith) refl) refl refl (λ s. refl)
mode_part facet (suc zero) le = lone (with_facet facet) (with_mode facet 1) (codes "-o") (kinds.Mode 1) (plain_word (codes "-o") (omega arith) refl) refl refl (λ s. refl)
mode_part facet (suc (suc zero)) le = lone (with_facet facet) (with_mode facet 2) (codes "-O") (kinds.Mode 2) (plain_word (codes "-O") (omega arith) refl) refl refl (λ s. refl)
mode_part facet (suc (suc (suc zero))) le = lone (with_facet facet) (with_mode facet 3) (codes "-d") (kinds.Mode 3) (plain_word (codes "-d") (omega arith) refl) refl refl (λ s. refl)
mode_part facet (suc (suc (suc (suc zero)))) le = lone (with_facet facet) (with_mode facet 4) (codes "-D") (kinds.Mode 4) (plain_word (codes "-D") (omega arith) refl) refl refl (λ s. refl)
mode_part facet (suc (suc (suc (suc (suc n))))) le = absurd (omega arith)

secure_part : (facet : Option (List ℕ)) (mode : ℕ) (secure : Bool) → OptionPart (when secure (codes " -s")) (with_mode facet mode) (record (with_mode facet mode) { secure = secure })
secure_part facet mode false = no_part flags is_given with_flag (with_mode facet mode)
secure_part facet mode true = lone (with_mode facet mode) (record (with_mode facet mode) { secure = true }) (codes "-s") kinds.Secure (plain_word (codes "-s") (omega arith) refl) refl refl (λ s. refl)

abbrev pub is_old : ℕ × ℕ → Bool
is_old v = eqb v.0 1 && eqb v.1 0

abbrev pub given_version : ℕ × ℕ → Option (ℕ × ℕ)
given_version v = if is_old v then None else Some v

version_part : (o : Options) (known : List ℕ) (flag : Flag) (with : ℕ × ℕ → Options) (v : ℕ × ℕ) → IsWord known → listed flags known ≡ Some flag → is_given flag o ≡ false
    → ((s : Rest) → with_flag flag o s ≡ (word_as version s >>= λ y. Ok (with y.0, y.1))) → IsVersion v → OptionPart ((32 ∷ known) ++ 32 ∷ printed_version v) o (with v)
version_part o known flag with v is row new take fit = word_part flags is_given with_flag version known (printed_version v) v o with flag is row new take (version_read v fit.0 fit.1) (version_stands v fit.0 fit.1)

protocol_part : (o : Options) (v : ℕ × ℕ) → o.protocol ≡ None → IsVersion v → OptionPart (printed_protocol v) o (record o { protocol = given_version v })
protocol_part o v new fit = by (is_old v)
  where
    by : (b : Bool) → OptionPart (if b then [] else codes " -p " ++ printed_version v) o (record o { protocol = if b then None else Some v })
    by true = subst (λ (p : Option (ℕ × ℕ)). OptionPart [] o (record o { protocol = p })) new (no_part flags is_given with_flag o)
    by false = version_part o (codes "-p") kinds.Protocol (λ x. record o { protocol = Some x }) v (plain_word (codes "-p") (omega arith) refl) refl (rw new refl) (λ s. refl) fit

encoding_part : (o : Options) (v : ℕ × ℕ) → o.encoding ≡ None → IsVersion v → OptionPart (codes " -e " ++ printed_version v) o (record o { encoding = Some v })
encoding_part o v new fit = version_part o (codes "-e") kinds.Encoding (λ x. record o { encoding = Some x }) v (plain_word (codes "-e") (omega arith) refl) refl (rw new refl) (λ s. refl) fit

-- the options that are printed of a proxy
abbrev pub given_options : Proxy → Options
given_options p = record { facet = given_text p.facet; mode = Some p.mode; secure = p.secure; protocol = given_version p.protocol; encoding = Some p.encoding }

pub options_part : (p : Proxy) → HasText p → OptionPart (printed_options p) no_options (given_options p)
options_part p has =
    let a = with_facet (given_text p.facet) in
    let b = with_mode (given_text p.facet) p.mode in
    let c : Options = record b { secure = p.secure } in
    let d : Options = record c { protocol = given_version p.protocol } in
    both (unless_empty (codes " -f ") p.facet) _ no_options a (given_options p) (facet_part p.facet has.facet)
    (both (printed_mode p.mode) _ a b (given_options p) (mode_part (given_text p.facet) p.mode has.mode)
    (both (when p.secure (codes " -s")) _ b c (given_options p) (secure_part (given_text p.facet) p.mode p.secure)
    (both (printed_protocol p.protocol) _ c d (given_options p) (protocol_part c p.protocol refl has.protocol)
    (encoding_part d p.encoding refl has.encoding))))
