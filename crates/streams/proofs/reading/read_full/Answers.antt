-- What a turn reads stands behind what stood in the buffer's front.
use Rattle.std.proofs.Common.{◌≡◌, ℕ, ◌+◌, ◌-◌, ◌≤◌, List, ◌++◌, arith, length, take, drop, sym, ap, ◌∙◌, subst, le_refl, drop_at, length-take-le}
use Rattle.std.proofs.lemmas.Slice.{take-put_mid_below}
use Rattle.std.specs.Io.KnownBytes.{Consumes}
use Rattle.std.proofs.KnownBytes.{Consumes-trans}
use borrow.Rule.Slice.PartMut.{put_mid, post_of}
use lib.Seq.{take-add, take-append-le}
use Rattle.streams.proofs.reading.read_full.Goals as goal

take_joined : (a k : ℕ) (xs ys : List ℕ) → a ≤ length xs → k ≤ length ys →
    take a xs ++ take k ys ≡ take (a + k) (put_mid a (length xs - a) xs ys)
take_joined a k xs ys within fits =
    let whole = put_mid a (length xs - a) xs ys in
    let after = post_of a (length xs - a) xs in
    let front = take-put_mid_below a (length xs - a) xs ys a (le_refl a) within in
    let back = drop_at (take a xs) (ys ++ after) a (length-take-le a xs within) in
    sym
    (take-add a k whole ∙ ap (λ (t : List ℕ). t ++ take k (drop a whole)) front ∙
    ap (λ (t : List ℕ). take a xs ++ t) (ap (take k) back ∙ take-append-le k ys after fits))

pub loop-bytes-preserved : goal.loop-bytes-preserved
loop-bytes-preserved g c = record {
  within = omega (arith, c.loop-bytes.invariant.within, c.in_ok-more.ensures.bound.0);
  consumed =
      subst (Consumes _ _) (take_joined c.loop-bytes.bytes c.in_ok-more.more c.loop-bytes.buffer c.read.new.buf c.loop-bytes.invariant.within
      c.in_ok-more.ensures.bound.0)
      (Consumes-trans _ _ _ _ _ c.loop-bytes.invariant.consumed c.in_ok-more.ensures.bytes.0);
}
