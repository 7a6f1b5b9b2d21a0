-- The replay of a text by value: begun, and carried on piece by piece; and its whole listing.
use Rattle.std.specs.Prelude.{List, ℕ, replicate}
use Rattle.rules.specs.declared.Dims.{Dims}
use Rattle.rules.specs.declared.Machine.{Machine}
use Rattle.rules.specs.State.{caches_of, machine_of}
use Rattle.rules.specs.Making.{Made, make_of}
use Rattle.listing.specs.declared.Replaying.{Replaying}
use Rattle.listing.specs.declared.Piece.{Piece}
use Rattle.listing.specs.declared.places.Place.{Place}
use Rattle.listing.specs.Place.{begin_at}
use Rattle.listing.specs.Pieces.{Filling}
use Rattle.listing.specs.Listing.{Going, going, fill_of, listing_from}

abbrev pub replaying : Place → Machine → Replaying
replaying x m = record { place = x; machine = m }

abbrev pub going_of : Replaying → Going
going_of x = going x.place (caches_of x.machine)

abbrev pub begin_on : List ℕ → Made → Replaying
begin_on s m = replaying (begin_at s m.refusal) m.machine

-- "memory zero"
unfoldable pub begin_of : List ℕ → Dims → Replaying
begin_of s d = begin_on s (make_of d (replicate d.words 0))

-- a piece's answer, and what the buffer then holds
pub record PieceLeft : Type 0 where
  pub piece : Piece
  pub buffer : List ℕ

abbrev pub piece_left_by : Piece → List ℕ → PieceLeft
piece_left_by r o = record { piece = r; buffer = o }

abbrev pub piece_left : Dims → Filling Going → PieceLeft
piece_left d c =
    piece_left_by (record { used = c.used; replaying = replaying c.state.place (machine_of d c.state.caches) }) c.buffer

-- the next piece of the listing in the buffer o, and what stands after it
unfoldable pub next_piece : List ℕ → Replaying → List ℕ → PieceLeft
next_piece s x o = piece_left x.machine.dims (fill_of s x.machine.dims (going_of x) o)

-- the whole listing of a text on a machine of these dimensions
unfoldable pub listing : Dims → List ℕ → List ℕ
listing d s = let x = begin_of s d in listing_from s x.machine.dims (going_of x)
