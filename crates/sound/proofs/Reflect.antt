-- A test and what it decides, put together as the test is. Assumes nothing.
use mathlib.Core.Path.{◌≡◌, refl, ap}
use mathlib.Core.Logic.{◌≢◌}
use mathlib.Core.Bool.{Bool, true, false, not, false≢true}
use Prim.Native.Nat.{ℕ, ◌-◌, ◌<◌, ◌≤◌}
use native.Mathlib.Omega.{arith}
use native.Mathlib.Decide.{ℕ_discrete, dec_lt}
use lib.Dec.{eqb, ltb, leb}
use borrow.Author.Tests.{eq-eqb, ne_eqb, lt-ltb, le-ltb, le-leb, leb-true, not-false}
use Rattle.std.specs.Bool.{Decides}
use Rattle.laws.specs.Choice.{pick, both}
use Rattle.laws.specs.Search.{first_from}
use Rattle.sound.proofs.Every.{every_at, every_of}

pub Decides-leb : (m n : ℕ) → Decides (leb m n) (m ≤ n)
Decides-leb m n = (leb-true m n, le-leb m n)

-- the second test may rest on the first
pub Decides-both_then : {a b : Bool} {P Q : Type 0} → Decides a P → (P → Decides b Q) → Decides (both a b) (P × Q)
Decides-both_then {a} {b} {P} {Q} s t = (says a s.0, λ h. rw (s.1 h.0) ((t h.0).1 h.1))
  where
    says : (a : Bool) → (a ≡ true → P) → both a b ≡ true → P × Q
    says true p e = (p refl, (t (p refl)).0 e)
    says false p e = absurd (false≢true e)

pub Decides-unless : (m n : ℕ) {b : Bool} {P : Type 0} → Decides b P → Decides (pick (eqb m n) true b) (m ≢ n → P)
Decides-unless m n {b} {P} t = by (ℕ_discrete m n)
  where
    by : Dec (m ≡ n) → Decides (pick (eqb m n) true b) (m ≢ n → P)
    by (yes e) = rw (eq-eqb m n e) (λ z ne. absurd (ne e), λ h. refl)
    by (no ne) = rw (ne_eqb m n ne) (λ z h. t.0 z, λ h. t.1 (h ne))

pub Decides-when : (m n : ℕ) {b : Bool} {P : Type 0} → Decides b P → Decides (pick (eqb m n) b true) (m ≡ n → P)
Decides-when m n {b} {P} t = by (ℕ_discrete m n)
  where
    by : Dec (m ≡ n) → Decides (pick (eqb m n) b true) (m ≡ n → P)
    by (yes e) = rw (eq-eqb m n e) (λ z h. t.0 z, λ h. t.1 (h e))
    by (no ne) = rw (ne_eqb m n ne) (λ z e. absurd (ne e), λ h. refl)

pub Decides-below : (m n : ℕ) {a b : Bool} {P Q : Type 0} → Decides a P → Decides b Q →
    Decides (pick (ltb m n) a b) ((m < n → P) × (n ≤ m → Q))
Decides-below m n {a} {b} {P} {Q} s t = by (dec_lt m n)
  where
    by : Dec (m < n) → Decides (pick (ltb m n) a b) ((m < n → P) × (n ≤ m → Q))
    by (yes l) = rw (lt-ltb m n l) (λ z. (λ h. s.0 z, λ h. absurd (omega arith)), λ h. s.1 (h.0 l))
    by (no l) =
        let k : n ≤ m = omega arith in
        rw (le-ltb m n k) (λ z. (λ h. absurd (omega arith), λ h. t.0 z), λ h. t.1 (h.1 k))

-- a test of every place from i up to b
pub Decides-every : (i b : ℕ) → i ≤ b → (ok : ℕ → Bool) (P : ℕ → Type 0) → ((k : ℕ) → Decides (ok k) (P k)) →
    Decides (eqb (first_from (λ k. not (ok k)) i (b - i)) b) ((k : ℕ) → i ≤ k → k < b → P k)
Decides-every i b h ok P t = (
  λ e k l m. (t k).0 (not-false (ok k) (every_at (λ j. not (ok j)) i b h e k l m)),
  λ f. every_of (λ j. not (ok j)) i b h (λ k l m. ap not ((t k).1 (f k l m))),
)
