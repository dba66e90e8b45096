use Rattle.std.proofs.Common.{◌≡◌, true, false, sym, ap, ◌∙◌, Bool, List, [], ◌∷◌, ◌++◌, map, Ok, append_assoc}
use Rattle.slice_syntax.specs.declared.tree.Word.{Word}
use Rattle.slice_syntax.specs.declared.tree.Constant.{Constant}
use Rattle.std.proofs.Common.{Option}
use Rattle.slice_syntax.specs.Lexemes.{Lexemes, begins}
use Rattle.slice_syntax.specs.Reading.{Reading, read, starts, gather}
use Rattle.slice_syntax.specs.Rules.{Entry, entry_comma, entries}
use Rattle.slice_syntax.proofs.Exits.{err_takes}
use Rattle.slice_syntax.proofs.Fits.{fits_entries}
use Rattle.slice_syntax.proofs.Starts.{starts_entry_comma, begun, not_begun}
use Rattle.slice_syntax.proofs.Nesting.{append_none}
use Rattle.slice_syntax.proofs.Series.{rows, gather_more, gather_err, gather_end, gather_shut, rows_less}
use Rattle.slice_syntax.proofs.definitions.entries.Goals as goal
use Rattle.slice_syntax.proofs.definitions.entries.Goals.{then-loop-goes_on-test+else-begins, else-loop-goes_on-test}

abbrev Pair : Type 0
Pair = Word × Option Constant

abbrev comes : Entry → Bool
comes e = e.1

-- entries that were read, and those still to come
abbrev joined : List Pair → List Entry → List Pair
joined es ys = es ++ map (λ (e : Entry). e.0) ys

abbrev left : List Pair → Lexemes → Bool → Reading (List Pair)
left es ls b = gather (joined es) (rows comes entry_comma fits_entries b ls)

as_tested : (es : List Pair) (ls : Lexemes) (b d : Bool) (r : Reading (List Pair)) → b ≡ d → left es ls b ≡ r → left es ls d ≡ r
as_tested es ls b d r e h = ap (left es ls) (sym e) ∙ h

more_left : (es after : List Pair) (ls mid : Lexemes) (x : Entry) (r : Reading (List Pair)) → after ≡ es ++ x.0 ∷ [] → begins (starts entry_comma) ls ≡ true → read entry_comma ls ≡ Ok (x, mid) → left es ls true ≡ r → left after mid x.1 ≡ r
more_left es after ls mid x r is begun e h =
    gather_more comes entry_comma fits_entries (joined es) (joined after) ls mid x (λ ys. ap (λ (z : List Pair). z ++ map (λ (d : Entry). d.0) ys) is ∙ append_assoc es (x.0 ∷ []) (map (λ (d : Entry). d.0) ys)) begun e ∙ h

pub loop-goes_on-smaller : goal.loop-goes_on-smaller
loop-goes_on-smaller c =
    rows_less comes entry_comma fits_entries c.loop-goes_on.cursor c.entry_comma.new.cursor (c.in_ok-entry.entry, c.in_ok-entry.comma) (begun entry_comma _ c.loop-goes_on.cursor starts_entry_comma (sym c.begins.ensures ∙ c.if-begins.true)) c.in_ok-entry.ensures

pub loop-goes_on-preserved : goal.loop-goes_on-preserved
loop-goes_on-preserved c =
    more_left c.loop-goes_on.entries c.push.new.self c.loop-goes_on.cursor c.entry_comma.new.cursor (c.in_ok-entry.entry, c.in_ok-entry.comma) (read entries c.args.cursor.now) c.in_ok-push.ensures.ok
    (begun entry_comma _ c.loop-goes_on.cursor starts_entry_comma (sym c.begins.ensures ∙ c.if-begins.true)) c.in_ok-entry.ensures
    (as_tested c.loop-goes_on.entries c.loop-goes_on.cursor c.loop-goes_on.goes_on true (read entries c.args.cursor.now) c.loop-goes_on-test.true c.loop-goes_on.invariant)

pub returns-in_err-entry : goal.returns-in_err-entry
returns-in_err-entry c =
    err_takes (λ x. x) c.in_err-entry.field-0.0 c.from_residual.result c.entry_comma.new.cursor (read entry_comma c.loop-goes_on.cursor) (read entries c.args.cursor.now) c.from_residual.ensures.1 c.in_err-entry.ensures
    (λ stop e. sym (as_tested c.loop-goes_on.entries c.loop-goes_on.cursor c.loop-goes_on.goes_on true (read entries c.args.cursor.now) c.loop-goes_on-test.true c.loop-goes_on.invariant)
    ∙ gather_err comes entry_comma fits_entries (joined c.loop-goes_on.entries) c.loop-goes_on.cursor stop (begun entry_comma _ c.loop-goes_on.cursor starts_entry_comma (sym c.begins.ensures ∙ c.if-begins.true)) e)

pub returns : goal.returns
returns c = elim c.loop-goes_on-test.branch [
  | then-loop-goes_on-test+else-begins w ↦
      sym (as_tested c.loop-goes_on.entries c.loop-goes_on.cursor c.loop-goes_on.goes_on true (read entries c.args.cursor.now) w.loop-goes_on-test.true c.loop-goes_on.invariant)
      ∙ gather_end comes entry_comma fits_entries (joined c.loop-goes_on.entries) c.loop-goes_on.entries c.loop-goes_on.cursor (append_none c.loop-goes_on.entries)
      (not_begun entry_comma _ c.loop-goes_on.cursor starts_entry_comma (sym w.begins.ensures ∙ w.if-begins.false))
  | else-loop-goes_on-test w ↦
      sym (as_tested c.loop-goes_on.entries c.loop-goes_on.cursor c.loop-goes_on.goes_on false (read entries c.args.cursor.now) w.loop-goes_on-test.false c.loop-goes_on.invariant)
      ∙ gather_shut comes entry_comma fits_entries (joined c.loop-goes_on.entries) c.loop-goes_on.entries c.loop-goes_on.cursor (append_none c.loop-goes_on.entries)
]
