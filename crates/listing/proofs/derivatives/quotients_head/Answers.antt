-- `listing::derivatives::quotients_head` meets its contract, case by case. Assumes nothing.
use mathlib.Core.Path.{◌≡◌, refl, sym, ap, subst, ◌∙◌}
use mathlib.Core.List.{List}
use Prim.Native.Nat.{ℕ}
use Rattle.std.proofs.Common.{rules}
use Rattle.text.specs.Lines.{Writes}
use Rattle.text.specs.declared.Line.{Line}
use Rattle.text.proofs.Lines.{said_line, reads_line, lent}
use Rattle.row_lines.specs.Lines.{refused_line}
use Rattle.listing.specs.Listings.{quotients_head}
use Rattle.listing.proofs.derivatives.quotients_head.Goals as goal
use Rattle.listing.proofs.derivatives.quotients_head.Goals.{in-Err, in-Ok}

-- the line behind the cases is that of the case
stands : {a b b' : Line} {s : List ℕ} → b' ≡ b → Writes a s b → Writes a s b'
stands {a} {b} {b'} {s} e x = subst (Writes a s) (sym e) x

pub returns : goal.returns
unfolding quotients_head
returns g c =
    elim c.match-reading.branch [
      | in-Err w ↦
          lent (search rules) c.end.ensures c.new-line.ensures.start
          (stands w.line-is (said_line (ap refused_line w.as_number.ensures ∙ ap (quotients_head _) (sym w.in-Err.is)) w.refused.ensures))
      | in-Ok w ↦ lent (search rules) c.end.ensures c.new-line.ensures.start (stands w.line-is (reads_line w.bytes.ensures (rw w.in-Ok.is refl)))
    ]
