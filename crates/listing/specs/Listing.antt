-- From input bytes to the listing's bytes, line by line.
use Rattle.std.specs.Prelude.{Bool, List, ℕ, ◌+◌, ◌-◌, eqb, ltb, length}
use Rattle.std.proofs.lemmas.List.Edits.{sets}
use Rattle.laws.specs.Choice.{pick}
use Rattle.entry.specs.Answer.{refused_by}
use Rattle.rules.specs.declared.Dims.{Dims}
use Rattle.rules.specs.declared.Caches.{Caches}
use Rattle.listing.specs.declared.pieces.Reached.{Reached}
use Rattle.listing.specs.declared.page.Page.{Page}
use Rattle.listing.specs.declared.places.Place.{Place}
use Rattle.listing.specs.Phases.{HEADER, REFUSAL, RECORD, END, NOTHING}
use Rattle.listing.specs.Place.{with_phase, more64, first_phase}
use Rattle.listing.specs.Lines.{most_line, answer_line, end_line, header_line}
use Rattle.listing.specs.Records.{look_at, answer_of, place_after}
use Rattle.listing.specs.Pieces.{Filling, filling, text_from, piece_of}

-- a line, and where the replay stands after it
pub record Did : Type 0 where
  pub line : List ℕ
  pub place : Place
  pub after : Caches

abbrev pub did : List ℕ → Place → Caches → Did
did l x s = record { line = l; place = x; after = s }

-- "record number from 1"
unfoldable pub do_record : List ℕ → Dims → Place → Caches → Did
do_record s d x c =
    let l = look_at s x in
    let r = answer_of d l c in
    did (answer_line (more64 x.number 1) r.told) (place_after s x l r.told) r.after

-- "The listing's own header and its END line are always printed." A refusal's number is "0 for a header".
unfoldable pub do_other : List ℕ → Place → Caches → Did
do_other s x c =
    pick (eqb x.phase HEADER) (did header_line (with_phase x (first_phase s x)) c)
    (pick (eqb x.phase REFUSAL) (did (answer_line 0 (refused_by x.refusal)) (with_phase x END) c)
    (did (end_line x.commits x.cycles) (with_phase x NOTHING) c))

unfoldable pub do_line : List ℕ → Dims → Place → Caches → Did
do_line s d x c = pick (eqb x.phase RECORD) (do_record s d x c) (do_other s x c)

-- between two lines
pub record Going : Type 0 where
  pub place : Place
  pub caches : Caches

abbrev pub going : Place → Caches → Going
going x c = record { place = x; caches = c }

-- a line written, where the buffer's first used places are
abbrev pub wrote_line : Did → ℕ → List ℕ → Filling Going
wrote_line r used o = filling (going r.place r.after) (used + length r.line) (sets o used r.line)

-- what a function leaves that is lent caches and a buffer: where the replay stands, with the caches, and the buffer
abbrev pub fills : Reached → Caches → List ℕ → Filling Going
fills r c o = filling (going r.place c) r.used o

-- the same of a page, and a line written where the page is written to
abbrev pub fills_page : Place → Caches → Page → Filling Going
fills_page x c p = filling (going x c) p.used p.bytes.now

abbrev pub wrote_on : Did → Page → Filling Going
wrote_on r p = wrote_line r p.used p.bytes.now

module _ (s : List ℕ) (d : Dims) where
  abbrev pub goes_on : Going → Bool
  goes_on g = ltb g.place.phase NOTHING

  abbrev pub line_of : Going → List ℕ
  line_of g = (do_line s d g.place g.caches).line

  abbrev pub next_at : Going → Going
  next_at g = let r = do_line s d g.place g.caches in going r.place r.after

  -- at most so many lines are left
  abbrev pub lines_left : Going → ℕ
  lines_left g = (length s - g.place.at) + (NOTHING - g.place.phase)

  -- as much of the listing as surely fits a buffer
  unfoldable pub fill_of : Going → List ℕ → Filling Going
  fill_of g o = piece_of goes_on line_of next_at most_line (lines_left g) g o

  -- the listing from a place on
  unfoldable pub listing_from : Going → List ℕ
  listing_from g = text_from goes_on line_of next_at (lines_left g) g
