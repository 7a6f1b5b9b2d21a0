use Rattle.std.proofs.Common.{sym, ◌∙◌, refl, rules}
use Rattle.listing.proofs.Doing.{fill_starts, ended_in, ended_lines, ended_room, went_on, less}
use Rattle.listing.proofs.pieces.fill.Goals as goal
use Rattle.listing.proofs.pieces.fill.Goals.{then-lines-test+else-has_room, else-lines-test}

pub lines-init : goal.lines-init
lines-init c = record { same_buffer = refl; filled = fill_starts _ _ _ _ }

pub lines-smaller : goal.lines-smaller
lines-smaller c = less c.args.s.now c.args.d _ _ _ _ (sym c.goes_on.ensures ∙ c.lines-test.true) _ _ _ _ c.do_line-x.ensures.line

pub lines-preserved : goal.lines-preserved
lines-preserved c = record {
  same_buffer = c.do_line-x.ensures.same_buffer ∙ c.lines.invariant.same_buffer;
  filled =
      went_on c.args.s.now c.args.d _ _ _ _ _ c.lines.invariant.filled (sym c.goes_on.ensures ∙ c.lines-test.true)
      (sym c.has_room.ensures ∙ c.if-has_room.true) _ c.do_line-x.ensures.line;
}

pub returns : goal.returns
returns c =
    ended_in c.args.s.now c.args.d c.lines.x c.lines.c c.lines.page.used c.lines.page.bytes.now _ _ (search rules)
    (elim c.lines-test.branch [
      | then-lines-test+else-has_room w ↦
          ended_room c.args.s.now c.args.d _ _ _ _ _ c.lines.invariant.filled (sym w.has_room.ensures ∙ w.if-has_room.false)
      | else-lines-test w ↦ ended_lines c.args.s.now c.args.d _ _ _ _ _ c.lines.invariant.filled (sym c.goes_on.ensures ∙ w.lines-test.false)
    ])
