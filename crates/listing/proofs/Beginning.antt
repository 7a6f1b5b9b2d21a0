-- Memory zero, cut from the largest machine's: a machine of more words is refused, whatever its memory.
use mathlib.Core.Path.{◌≡◌, refl, sym, ◌∙◌}
use mathlib.Core.Bool.{Bool, true, false}
use Rattle.std.proofs.Common.{Err}
use Rattle.std.proofs.lemmas.List.{take-replicate}
use mathlib.Core.List.{List}
use Prim.Native.Nat.{ℕ, ◌≤◌, ◌<◌}
use native.Mathlib.Omega.{arith}
use borrow.Author.Tests.{ne_eqb, leb-true, leb-false}
use lib.Dec.{leb}
use lib.ListN.{length, take, replicate, length-replicate}
use Rattle.rules.specs.declared.Dims.{Dims}
use Rattle.entry.specs.declared.refusals.Refusal.{Refusal}
use Rattle.entry.specs.Refusals.{accepted, number_of}
use Rattle.rules.specs.declared.NotMade.{NotMade}
use Rattle.rules.specs.Making.{Made, dims_refusal, make_refusal, make_of, made_by}
use Rattle.machine.proofs.Fits.{dims_fit}
use Rattle.listing.specs.declared.places.Place.{Place}
use Rattle.entry.proofs.Refused.{refusal_back}
use Rattle.listing.specs.Place.{first_place, begin_at}
use Rattle.listing.specs.Replay.{replaying, begin_of}

abbrev zeros : ℕ → List ℕ
zeros n = replicate n 0

pub zeros_length : (n m : ℕ) → n ≤ m → n ≡ length (take n (zeros m))
zeros_length n m h = rw (take-replicate {X = ℕ} n m 0 h) (sym (length-replicate {A = ℕ} n 0))

make_any : (d : Dims) (l m : List ℕ) → 256 < d.words → make_of d l ≡ make_of d m
unfolding make_of make_refusal
make_any d l m h = let e = ne_eqb (dims_refusal d) accepted (λ z. omega (arith, (dims_fit d z).words)) in rw e (rw e)

pub begun_zero : (s : List ℕ) (d : Dims) (n : ℕ) (m : Made) (x : Place) → n ≤ 256 → (d.words ≤ 256 → n ≡ d.words) →
    m ≡ make_of d (take n (zeros 256)) → x ≡ begin_at s m.refusal → replaying x m.machine ≡ begin_of s d
unfolding begin_of
begun_zero s d n m x h k em ex = rw (ex, em ∙ by (leb d.words 256) refl)
  where
    by : (b : Bool) → leb d.words 256 ≡ b → make_of d (take n (zeros 256)) ≡ make_of d (replicate d.words 0)
    by true e = rw (take-replicate {X = ℕ} n 256 0 h, k (leb-true d.words 256 e))
    by false e = make_any d (take n (zeros 256)) (replicate d.words 0) (leb-false d.words 256 e)

begin_refused : (s : List ℕ) (r : Refusal) → first_place (number_of r) 0 ≡ begin_at s (number_of r)
unfolding begin_at
begin_refused s r = rw (refusal_back r).1

-- a machine that was refused
pub begun_refused : (s : List ℕ) (d : Dims) (n : ℕ) (r : NotMade) (x : Place) → n ≤ 256 → (d.words ≤ 256 → n ≡ d.words) →
    made_by (Err r) ≡ make_of d (take n (zeros 256)) → x ≡ first_place (number_of r.refusal) 0 → replaying x r.machine ≡ begin_of s d
begun_refused s d n r x h k em ex = begun_zero s d n (made_by (Err r)) x h k em (ex ∙ begin_refused s r.refusal)
