use Rattle.std.proofs.Common.{◌≡◌}
use Rattle.listing.specs.Listing.{going, fills_page, lines_left, fill_of}
use Rattle.listing.proofs.Doing.{fill_from}
use Rattle.listing.proofs.pieces.fill.Given as goal

abbrev pub invariant-lines : goal.invariant-lines
invariant-lines l = record {
  same_buffer : l.page.bytes.ghost_name ≡ l.initial.page.bytes.ghost_name;
  filled : fill_from l.s l.d (fills_page l.x l.c l.page) ≡ fill_of l.s l.d (going l.initial.x l.initial.c) l.initial.page.bytes.now;
}

abbrev pub decreases-lines : goal.decreases-lines
decreases-lines l = lines_left l.s l.d (going l.x l.c)
