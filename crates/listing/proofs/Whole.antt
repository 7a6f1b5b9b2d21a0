-- The pieces of a replay joined are the whole listing, whatever buffers of at least most_line bytes they are written to; a piece keeps the
-- rest of its buffer, and one that has a line to write writes. Assumes nothing.
use mathlib.Core.Path.{◌≡◌, refl, sym, ◌∙◌}
use mathlib.Core.Bool.{Bool, true, false}
use mathlib.Core.List.{List, [], ◌++◌}
use Prim.Native.Nat.{ℕ, zero, suc, ◌≤◌, ◌<◌}
use native.Mathlib.Omega.{arith}
use lib.ListN.{length, take, drop}
use Rattle.rules.specs.declared.Dims.{Dims}
use Rattle.listing.specs.declared.Replaying.{Replaying}
use Rattle.listing.specs.Lines.{most_line}
use Rattle.listing.specs.Listing.{goes_on, line_of, next_at, lines_left, fill_of, listing_from}
use Rattle.listing.specs.Replay.{going_of, next_piece, begin_of, listing}
use Rattle.listing.proofs.Joining.{whole_text, whole_end, piece_joins, piece_keeps, piece_none, goes_on_lem, writes}
use Rattle.listing.proofs.Falling.{falls, fair_line}

module _ (s : List ℕ) where
  abbrev dims_of : Replaying → Dims
  dims_of x = x.machine.dims

  -- whether a line is left
  abbrev pub is_more : Replaying → Bool
  is_more x = goes_on s (dims_of x) (going_of x)

  -- what is left of the listing, and how many lines at most
  abbrev pub rest : Replaying → List ℕ
  rest x = listing_from s (dims_of x) (going_of x)

  abbrev pub left_over : Replaying → ℕ
  left_over x = lines_left s (dims_of x) (going_of x)

  -- what a piece wrote, and where the replay then stands
  abbrev pub written_by : Replaying → List ℕ → List ℕ
  written_by x o = let r = next_piece s x o in take r.piece.used r.buffer

  abbrev pub after : Replaying → List ℕ → Replaying
  after x o = (next_piece s x o).piece.replaying

  rest_end : (x : Replaying) → is_more x ≡ false → rest x ≡ []
  unfolding listing_from whole_text
  rest_end x e =
      whole_end (goes_on s (dims_of x)) (line_of s (dims_of x)) (next_at s (dims_of x)) most_line (lines_left s (dims_of x)) (falls s (dims_of x))
      (going_of x) e

  pub piece_rest : (x : Replaying) (o : List ℕ) → written_by x o ++ rest (after x o) ≡ rest x
  unfolding next_piece fill_of listing_from whole_text
  piece_rest x o =
      piece_joins (goes_on s (dims_of x)) (line_of s (dims_of x)) (next_at s (dims_of x)) most_line (lines_left s (dims_of x)) (falls s (dims_of x))
      (λ g. (fair_line s (dims_of x) g).1) o (left_over x) (going_of x)

  pub piece_kept : (x : Replaying) (o : List ℕ) →
      drop (next_piece s x o).piece.used (next_piece s x o).buffer ≡ drop (next_piece s x o).piece.used o
  unfolding next_piece fill_of
  piece_kept x o =
      piece_keeps (goes_on s (dims_of x)) (line_of s (dims_of x)) (next_at s (dims_of x)) most_line (lines_left s (dims_of x)) (falls s (dims_of x))
      (λ g. (fair_line s (dims_of x) g).1) o (left_over x) (going_of x)

  pub piece_writes : (x : Replaying) (o : List ℕ) → is_more x ≡ true → most_line ≤ length o → 0 < (next_piece s x o).piece.used
  unfolding next_piece fill_of
  piece_writes x o e h =
      writes (goes_on s (dims_of x)) (line_of s (dims_of x)) (next_at s (dims_of x)) most_line (lines_left s (dims_of x)) (falls s (dims_of x))
      (λ g. (fair_line s (dims_of x) g).0) (going_of x) o e h

  piece_on : (x : Replaying) (o : List ℕ) → is_more x ≡ true → most_line ≤ length o → left_over (after x o) < left_over x
  unfolding next_piece fill_of
  piece_on x o e h =
      goes_on_lem (goes_on s (dims_of x)) (line_of s (dims_of x)) (next_at s (dims_of x)) most_line (lines_left s (dims_of x)) (falls s (dims_of x))
      (going_of x) o e h

  piece_ended : (x : Replaying) (o : List ℕ) → is_more x ≡ false → (written_by x o ≡ []) × (is_more (after x o) ≡ false)
  unfolding next_piece fill_of
  piece_ended x o e =
      rw (piece_none (goes_on s (dims_of x)) (line_of s (dims_of x)) (next_at s (dims_of x)) most_line (lines_left s (dims_of x))
      (falls s (dims_of x)) (left_over x) (going_of x) o e)
      (refl, e)

  -- f pieces joined, the last into os 0
  module _ (os : ℕ → List ℕ) where
    unfoldable pub joined : ℕ → Replaying → List ℕ
    joined zero x = []
    joined (suc f) x = written_by x (os f) ++ joined f (after x (os f))

    joined_none : (f : ℕ) (x : Replaying) → is_more x ≡ false → joined f x ≡ []
    unfolding joined
    joined_none zero x e = refl
    joined_none (suc f) x e =
        let p = piece_ended x (os f) e in rw p.0 (joined_none f (after x (os f)) p.1)

    pub joined_rest : ((k : ℕ) → most_line ≤ length (os k)) → (f : ℕ) (x : Replaying) → left_over x ≤ f → joined f x ≡ rest x
    unfolding joined
    joined_rest big zero x h = sym (rest_end x (none (is_more x) refl))
      where
        none : (b : Bool) → is_more x ≡ b → b ≡ false
        none true e = absurd (omega (arith, piece_on x (os 0) e (big 0)))
        none false e = refl
    joined_rest big (suc f) x h = by (is_more x) refl (λ e. joined_rest big f (after x (os f)) (omega (arith, piece_on x (os f) e (big f))))
      where
        by : (b : Bool) → is_more x ≡ b → (is_more x ≡ true → joined f (after x (os f)) ≡ rest (after x (os f))) →
            written_by x (os f) ++ joined f (after x (os f)) ≡ rest x
        by true e ih = rw (ih e) (piece_rest x (os f))
        by false e ih = joined_none (suc f) x e ∙ sym (rest_end x e)

    -- from the beginning, as many pieces as it takes: the listing
    pub joined_listing : ((k : ℕ) → most_line ≤ length (os k)) → (d : Dims) (f : ℕ) → left_over (begin_of s d) ≤ f →
        joined f (begin_of s d) ≡ listing d s
    unfolding listing
    joined_listing big d f h = joined_rest big f (begin_of s d) h
