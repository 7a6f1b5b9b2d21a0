-- What accepted dimensions say.
use mathlib.Core.Path.{◌≡◌, refl}
use mathlib.Core.Bool.{Bool, true, false, false≢true}
use Prim.Native.Nat.{ℕ, ◌≤◌, ◌<◌}
use native.Mathlib.Omega.{arith}
use lib.Dec.{eqb, leb}
use borrow.Author.Tests.{eqb-true, leb-true}
use Rattle.laws.specs.Choice.{pick, either, both_left, both_right}
use Rattle.rules.specs.declared.Dims.{Dims}
use Rattle.rules.specs.Making.{within, power_of_two, dims_refusal}
use Rattle.entry.specs.Refusals.{accepted, bad_processors, bad_words, bad_lines, bad_entries}
use Rattle.serial.proofs.Frame.{Size}

within_range : (n most : ℕ) → within n most ≡ true → (0 < n) × (n ≤ most)
within_range n most h = (
  omega (arith, leb-true 1 n (both_left (leb 1 n) (leb n most) h)),
  leb-true n most (both_right (leb 1 n) (leb n most) h),
)

power_range : (n : ℕ) → power_of_two n ≡ true → (0 < n) × (n ≤ 64)
power_range n h = by (eqb n 1) (eqb n 2) (eqb n 4) (eqb n 8) (eqb n 16) (eqb n 32) (eqb n 64) refl refl refl refl refl refl refl h
  where
    by : (a b c d e f g : Bool) → eqb n 1 ≡ a → eqb n 2 ≡ b → eqb n 4 ≡ c → eqb n 8 ≡ d → eqb n 16 ≡ e → eqb n 32 ≡ f → eqb n 64 ≡ g
        → either a (either b (either c (either d (either e (either f g))))) ≡ true → (0 < n) × (n ≤ 64)
    by true b c d e f g ha hb hc hd he hf hg t = omega (arith, eqb-true n 1 ha)
    by false true c d e f g ha hb hc hd he hf hg t = omega (arith, eqb-true n 2 hb)
    by false false true d e f g ha hb hc hd he hf hg t = omega (arith, eqb-true n 4 hc)
    by false false false true e f g ha hb hc hd he hf hg t = omega (arith, eqb-true n 8 hd)
    by false false false false true f g ha hb hc hd he hf hg t = omega (arith, eqb-true n 16 he)
    by false false false false false true g ha hb hc hd he hf hg t = omega (arith, eqb-true n 32 hf)
    by false false false false false false true ha hb hc hd he hf hg t = omega (arith, eqb-true n 64 hg)
    by false false false false false false false ha hb hc hd he hf hg t = absurd (false≢true t)

pub size_of : (d : Dims) → dims_refusal d ≡ accepted → Size d
unfolding dims_refusal
size_of d e = by (within d.processors 8) (within d.words 256) (power_of_two d.lines) (within d.entries 64) refl refl refl refl e
  where
    by : (a b c f : Bool) → within d.processors 8 ≡ a → within d.words 256 ≡ b → power_of_two d.lines ≡ c → within d.entries 64 ≡ f
        → pick a (pick b (pick c (pick f accepted bad_entries) bad_lines) bad_words) bad_processors ≡ accepted → Size d
    by true true true true ha hb hc hf e = record {
      processors = (within_range d.processors 8 ha).1;
      words = (within_range d.words 256 hb).1;
      some_line = (power_range d.lines hc).0;
      lines = (power_range d.lines hc).1;
      entries = (within_range d.entries 64 hf).1;
    }
    by false b c f ha hb hc hf e = absurd (omega (arith, e))
    by true false c f ha hb hc hf e = absurd (omega (arith, e))
    by true true false f ha hb hc hf e = absurd (omega (arith, e))
    by true true true false ha hb hc hf e = absurd (omega (arith, e))
