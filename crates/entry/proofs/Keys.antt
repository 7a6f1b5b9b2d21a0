-- One comparison of a packed copy is the test of its fields.
use mathlib.Core.Path.{◌≡◌, refl, ◌∙◌}
use Prim.Native.Nat.{ℕ, ◌+◌, ◌-◌, ◌*◌, ◌/◌, ◌%◌, ◌<◌}
use native.Mathlib.Omega.{arith}
use native.Mathlib.Decide.{ℕ_discrete}
use lib.Dec.{eqb}
use borrow.Author.Tests.{eq-eqb, ne_eqb}
use Rattle.laws.specs.Choice.{both, either}
use Rattle.entry.specs.Numbers.{NORMAL, TENTATIVE}
use Rattle.entry.specs.Packing.{pack, unpack, packed_end, key_both, key_of, live_both, live_of}
use Rattle.entry.specs.Entry.{with_tag, is_entry, is_live}

pub key_test : (x t w : ℕ) → w < 256 → eqb (x / 4294967296 % 1024) (t * 256 + w) ≡ is_entry (unpack x) t w
key_test x t w h = by (ℕ_discrete (unpack x).tag t) (ℕ_discrete (unpack x).word w)
  where
    by : Dec ((unpack x).tag ≡ t) → Dec ((unpack x).word ≡ w) → eqb (x / 4294967296 % 1024) (t * 256 + w) ≡ is_entry (unpack x) t w
    by (yes a) (yes b) = rw (eq-eqb _ _ a, eq-eqb _ _ b) (eq-eqb (x / 4294967296 % 1024) (t * 256 + w) (key_of x t w a b))
    by (yes a) (no b) =
        rw (eq-eqb _ _ a, ne_eqb _ _ b) (ne_eqb (x / 4294967296 % 1024) (t * 256 + w) (λ e. b (key_both x t w h e).1))
    by (no a) b = rw (ne_eqb _ _ a) (ne_eqb (x / 4294967296 % 1024) (t * 256 + w) (λ e. a (key_both x t w h e).0))

-- among the four tags the odd ones are NORMAL and TENTATIVE
odd_tag : (t : ℕ) → t < 4 → Dec (t % 2 ≡ 1) → Dec (t ≡ NORMAL) → Dec (t ≡ TENTATIVE) →
    eqb (t % 2) 1 ≡ either (eqb t NORMAL) (eqb t TENTATIVE)
odd_tag t h (yes a) (yes b) c = rw (eq-eqb t NORMAL b) (eq-eqb (t % 2) 1 a)
odd_tag t h (yes a) (no b) (yes c) = rw (ne_eqb t NORMAL b, eq-eqb t TENTATIVE c) (eq-eqb (t % 2) 1 a)
odd_tag t h (yes a) (no b) (no c) = absurd (omega arith)
odd_tag t h (no a) (yes b) c = absurd (omega arith)
odd_tag t h (no a) (no b) (yes c) = absurd (omega arith)
odd_tag t h (no a) (no b) (no c) = rw (ne_eqb t NORMAL b, ne_eqb t TENTATIVE c) (ne_eqb (t % 2) 1 a)

pub live_test : (x w : ℕ) → w < 256 → eqb (x / 4294967296 % 512) (256 + w) ≡ is_live (unpack x) w
live_test x w h = by (ℕ_discrete ((unpack x).tag % 2) 1) (ℕ_discrete (unpack x).word w) ∙ rw odd refl
  where
    odd : eqb ((unpack x).tag % 2) 1 ≡ either (eqb (unpack x).tag NORMAL) (eqb (unpack x).tag TENTATIVE)
    odd =
        odd_tag (unpack x).tag (omega arith) (ℕ_discrete ((unpack x).tag % 2) 1) (ℕ_discrete (unpack x).tag NORMAL)
        (ℕ_discrete (unpack x).tag TENTATIVE)

    by : Dec ((unpack x).tag % 2 ≡ 1) → Dec ((unpack x).word ≡ w) →
        eqb (x / 4294967296 % 512) (256 + w) ≡ both (eqb ((unpack x).tag % 2) 1) (eqb (unpack x).word w)
    by (yes a) (yes b) = rw (eq-eqb _ _ a, eq-eqb _ _ b) (eq-eqb (x / 4294967296 % 512) (256 + w) (live_of x w a b))
    by (yes a) (no b) =
        rw (eq-eqb _ _ a, ne_eqb _ _ b) (ne_eqb (x / 4294967296 % 512) (256 + w) (λ e. b (live_both x w h e).1))
    by (no a) b = rw (ne_eqb _ _ a) (ne_eqb (x / 4294967296 % 512) (256 + w) (λ e. a (live_both x w h e).0))

-- what of a number is a copy, and that copy made NORMAL
pub whole_copy : (x : ℕ) → x % packed_end ≡ pack (unpack x)
whole_copy x = omega arith

pub normal_copy : (x t : ℕ) → t ≡ (unpack x).tag → x % packed_end - t * 1099511627776 + 1099511627776 ≡ pack (with_tag (unpack x) NORMAL)
normal_copy x t e = omega arith
