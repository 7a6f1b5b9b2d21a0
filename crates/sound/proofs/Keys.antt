-- Where a copy of slot i of processor p is marked, and what a mark tells. Assumes nothing.
use mathlib.Core.Path.{◌≡◌, refl, sym, ◌∙◌, ap}
use mathlib.Core.Logic.{◌≢◌}
use mathlib.Core.Bool.{Bool, true, false}
use Prim.Native.Nat.{ℕ, ◌+◌, ◌*◌, ◌/◌, ◌%◌, ◌<◌}
use native.Mathlib.Omega.{arith}
use lib.Dec.{eqb}
use borrow.Author.Tests.{ne_eqb}
use Rattle.laws.specs.Choice.{pick}
use Rattle.entry.specs.declared.Entry.{Entry}
use Rattle.entry.specs.Numbers.{BACKUP, TENTATIVE}
use Rattle.rules.specs.State.{place}
use Rattle.rules.specs.SoundTest.{of_lines, of_entries, mark_key, mark_value, owner_of}
use Rattle.sound.proofs.Places.{place_in, place_once}

-- the copy's processor, whether it is a backup, and its word, in one number
abbrev packed_key : ℕ → Bool → ℕ → ℕ
packed_key p b w = p * 512 + pick b 256 0 + w

key_at_lem : (e : Entry) (p i : ℕ) → p < 8 → mark_key e (place p i) ≡ packed_key p (eqb e.tag BACKUP) e.word
key_at_lem e p i h = ap (λ q. packed_key q (eqb e.tag BACKUP) e.word) (processor p i h)
  where
    processor : (p i : ℕ) → p < 8 → place p i / 64 % 8 ≡ p
    processor p i h = omega arith

apart : (p q : ℕ) (a b : Bool) (v w : ℕ) → v < 256 → w < 256 → packed_key p a v ≡ packed_key q b w → (p ≡ q) × (a ≡ b) × (v ≡ w)
apart p q true true v w hv hw e = (omega arith, refl, omega arith)
apart p q false false v w hv hw e = (omega arith, refl, omega arith)
apart p q true false v w hv hw e = absurd (omega arith)
apart p q false true v w hv hw e = absurd (omega arith)

small : (p : ℕ) (b : Bool) (w : ℕ) → p < 8 → w < 256 → packed_key p b w < 4096
small p true w hp hw = omega arith
small p false w hp hw = omega arith

pub key_small : (e : Entry) (p i : ℕ) → p < 8 → e.word < 256 → mark_key e (place p i) < 4096
key_small e p i hp hw = rw (key_at_lem e p i hp) (small p (eqb e.tag BACKUP) e.word hp hw)

-- one key: one processor, one kind, one word; and back
pub key_same : (e f : Entry) (p q i j : ℕ) → p < 8 → q < 8 → e.word < 256 → f.word < 256 →
    mark_key e (place p i) ≡ mark_key f (place q j) → (p ≡ q) × (eqb e.tag BACKUP ≡ eqb f.tag BACKUP) × (e.word ≡ f.word)
key_same e f p q i j hp hq he hf k =
    apart p q (eqb e.tag BACKUP) (eqb f.tag BACKUP) e.word f.word he hf (sym (key_at_lem e p i hp) ∙ k ∙ key_at_lem f q j hq)

pub same_key : (e f : Entry) (p i j : ℕ) → p < 8 → eqb e.tag BACKUP ≡ eqb f.tag BACKUP → e.word ≡ f.word →
    mark_key e (place p i) ≡ mark_key f (place p j)
same_key e f p i j hp b w =
    key_at_lem e p i hp ∙ ap (λ b. packed_key p b e.word) b ∙ ap (packed_key p (eqb f.tag BACKUP)) w ∙ sym (key_at_lem f p j hp)

-- where the code looks for a backup's tentative entry
pub partner_key : (f : Entry) (p w i j : ℕ) → p < 8 → f.tag ≡ TENTATIVE → f.word ≡ w →
    place p i / 64 % 8 * 512 + w ≡ mark_key f (place p j)
partner_key f p w i j hp t h =
    processor p i w hp ∙ ap (λ b. packed_key p b w) (sym main) ∙ ap (packed_key p (eqb f.tag BACKUP)) (sym h) ∙
    sym (key_at_lem f p j hp)
  where
    main : eqb f.tag BACKUP ≡ false
    main = ne_eqb f.tag BACKUP (λ e. omega arith)

    processor : (p i w : ℕ) → p < 8 → place p i / 64 % 8 * 512 + w ≡ packed_key p false w
    processor p i w h = omega arith

-- a mark's place
within : (k : ℕ) → k < 512 → k % 512 ≡ k
within k h = omega arith

pub value_once : (kind p i j : ℕ) → i < 64 → j < 64 → mark_value kind (place p i) ≡ mark_value kind (place p j) → i ≡ j
value_once kind p i j a b e =
    place_once p i j a b
    (sym (within (place p i) (place_in p i)) ∙ halves (place p i % 512) (place p j % 512) e ∙ within (place p j) (place_in p j))
  where
    halves : (k l : ℕ) → k * 2 + kind ≡ l * 2 + kind → k ≡ l
    halves k l e = omega arith

pub value_kinds : (j k : ℕ) → mark_value of_lines j ≢ mark_value of_entries k
value_kinds j k e = omega arith

pub value_place : (v k : ℕ) → k < 512 → v ≡ mark_value of_entries k → (v / 2 + 511) % 512 ≡ k
value_place v k h e = back v k h (e ∙ ap (λ j. j * 2 + 2) (within k h))
  where
    back : (v k : ℕ) → k < 512 → v ≡ k * 2 + 2 → (v / 2 + 511) % 512 ≡ k
    back v k h e = omega arith

pub owner_of_lem : (p i : ℕ) → p < 8 → owner_of (place p i) ≡ p + 1
owner_of_lem p i h = omega arith
