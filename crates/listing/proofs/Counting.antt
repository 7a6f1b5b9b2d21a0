-- What is left of a record: its counts, which stand still at the largest number, and the place after it.
use mathlib.Core.Path.{◌≡◌, refl}
use mathlib.Core.Bool.{Bool, true, false}
use mathlib.Core.List.{List}
use Prim.Native.Nat.{ℕ, ◌+◌, ◌-◌, ◌^◌}
use native.Mathlib.Omega.{arith}
use borrow.Author.Tests.{leb-true, leb-false}
use lib.Dec.{leb}
use Rattle.std.proofs.Common.{min, Option}
use Rattle.laws.specs.Choice.{pick}
use Rattle.entry.specs.declared.answer.Answered.{Answered}
use Rattle.entry.specs.Answer.{cycles_of}
use Rattle.listing.specs.declared.places.Place.{Place}
use Rattle.listing.specs.Place.{place_of, more64}
use Rattle.listing.specs.Records.{Looked, is_success, phase_after, last_after, place_after}

pub saturated : (n m k j r : ℕ) → n ≡ m → k ≡ j → r ≡ min (n + k) (2 ^ 64 - 1) → r ≡ more64 m j
unfolding more64
saturated n m k j r en ek er = rw (← en, ← ek) (by (leb (n + k) 18446744073709551615) refl)
  where
    by : (b : Bool) → leb (n + k) 18446744073709551615 ≡ b → r ≡ pick b (n + k) 18446744073709551615
    by true e = omega (arith, er, leb-true (n + k) 18446744073709551615 e)
    by false e = omega (arith, er, leb-false (n + k) 18446744073709551615 e)

pub after_place : (s : List ℕ) (x : Place) (l : Looked) (a : Answered) (phase refusal number : ℕ) (last : Option ℕ) (commits cycles : ℕ) →
    phase ≡ phase_after s l → refusal ≡ x.refusal → number ≡ more64 x.number 1 → last ≡ last_after x l a.answer →
    commits ≡ more64 x.commits (is_success a.answer) → cycles ≡ more64 x.cycles (cycles_of a.counts) →
    place_of phase refusal l.next number last commits cycles ≡ place_after s x l a
unfolding place_after
after_place s x l a phase refusal number last commits cycles e1 e2 e3 e4 e5 e6 = rw (e1, e2, e3, e4, e5, e6)
