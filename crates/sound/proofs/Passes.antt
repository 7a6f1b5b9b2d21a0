-- What the two passes leave: P holds of a mark, or of an owner, where it holds of all that was written there. Assumes nothing.
use mathlib.Core.Path.{◌≡◌}
use mathlib.Core.Logic.{◌⊎◌, inl, inr, ◌≢◌}
use mathlib.Core.List.{List}
use Prim.Native.Nat.{ℕ, ◌≤◌, ◌<◌}
use native.Mathlib.Omega.{arith}
use native.Mathlib.Decide.{ℕ_discrete, dec_lt}
use lib.ListN.{length, get_or, set, replicate, length-replicate, get_or-replicate}
use borrow.Author.Tests.{eq-eqb, ne_eqb, le-leb, lt-leb}
use Rattle.entry.specs.Numbers.{RESERVED}
use Rattle.entry.specs.Packing.{unpack}
use Rattle.rules.specs.SoundTest.{of_lines, of_entries, mark_key, mark_value, mark_turn, mark_all, marks_of, owner_of, own_turn, own_all, owners_of}
use Rattle.sound.proofs.Stamp.{stamped_length, stamped_all, stamped_some}

-- a copy stands at place k, and the key of its mark
abbrev pub Filled : List ℕ → ℕ → Type 0
Filled copies k = get_or copies k 0 ≢ 0

abbrev pub key_at : List ℕ → ℕ → ℕ
key_at copies k = mark_key (unpack (get_or copies k 0)) k

-- a copy RESERVED or DIRTY stands there, and its word
abbrev pub Owning : List ℕ → ℕ → Type 0
Owning copies k = RESERVED ≤ (unpack (get_or copies k 0)).state

abbrev pub word_of : List ℕ → ℕ → ℕ
word_of copies k = (unpack (get_or copies k 0)).word

-- The pass of marks.
module _ (kind : ℕ) (copies : List ℕ) where
  mark_turns : (k : ℕ) (l : List ℕ) →
      ((Filled copies k) × (mark_turn kind copies k l ≡ set l (key_at copies k) (mark_value kind k))) ⊎
      ((Filled copies k → ⊥) × (mark_turn kind copies k l ≡ l))
  mark_turns k l = by (ℕ_discrete (get_or copies k 0) 0)
    where
      by : Dec (get_or copies k 0 ≡ 0) →
          ((Filled copies k) × (mark_turn kind copies k l ≡ set l (key_at copies k) (mark_value kind k))) ⊎
          ((Filled copies k → ⊥) × (mark_turn kind copies k l ≡ l))
      by (yes e) = inr (λ n. n e, rw (eq-eqb _ _ e))
      by (no n) = inl (n, rw (ne_eqb _ _ n))

  mark_length : (l : List ℕ) → length (mark_all kind copies l) ≡ length l
  unfolding mark_all
  mark_length l = stamped_length (Filled copies) (key_at copies) (mark_value kind) (mark_turn kind copies) mark_turns 0 512 l

  module _ (P : ℕ → Type 0) (w : ℕ) where
    -- P holds of all that the pass writes at w
    abbrev pub Marks : Type 0
    Marks = (k : ℕ) → k < 512 → Filled copies k → key_at copies k ≡ w → P (mark_value kind k)

    mark_all_lem : (l : List ℕ) → w < length l → P (get_or l w 0) → Marks → P (get_or (mark_all kind copies l) w 0)
    unfolding mark_all
    mark_all_lem l h p all =
        stamped_all (Filled copies) (key_at copies) (mark_value kind) (mark_turn kind copies) mark_turns P w 0 512 l h p
        (λ k a b. all k (omega arith))

    mark_some : (l : List ℕ) → w < length l → Marks → (j : ℕ) → j < 512 → Filled copies j → key_at copies j ≡ w →
        P (get_or (mark_all kind copies l) w 0)
    unfolding mark_all
    mark_some l h all j b o e =
        stamped_some (Filled copies) (key_at copies) (mark_value kind) (mark_turn kind copies) mark_turns P w 0 512 l h
        (λ k a b. all k (omega arith)) j (omega arith) (omega arith) o e

-- The pass of owners.
module _ (copies : List ℕ) where
  own_turns : (k : ℕ) (l : List ℕ) →
      ((Owning copies k) × (own_turn copies k l ≡ set l (word_of copies k) (owner_of k))) ⊎ ((Owning copies k → ⊥) × (own_turn copies k l ≡ l))
  own_turns k l = by (dec_lt (unpack (get_or copies k 0)).state RESERVED)
    where
      by : Dec ((unpack (get_or copies k 0)).state < RESERVED) →
          ((Owning copies k) × (own_turn copies k l ≡ set l (word_of copies k) (owner_of k))) ⊎ ((Owning copies k → ⊥) × (own_turn copies k l ≡ l))
      by (yes h) = inr (λ o. omega arith, rw (lt-leb RESERVED _ h))
      by (no h) = let o : Owning copies k = omega arith in inl (o, rw (le-leb RESERVED _ o))

  own_length : (l : List ℕ) → length (own_all copies l) ≡ length l
  unfolding own_all
  own_length l = stamped_length (Owning copies) (word_of copies) owner_of (own_turn copies) own_turns 0 512 l

  module _ (P : ℕ → Type 0) (w : ℕ) where
    abbrev pub Owns : Type 0
    Owns = (k : ℕ) → k < 512 → Owning copies k → word_of copies k ≡ w → P (owner_of k)

    own_all_lem : (l : List ℕ) → w < length l → P (get_or l w 0) → Owns → P (get_or (own_all copies l) w 0)
    unfolding own_all
    own_all_lem l h p all = stamped_all (Owning copies) (word_of copies) owner_of (own_turn copies) own_turns P w 0 512 l h p (λ k a b. all k (omega arith))

    own_some : (l : List ℕ) → w < length l → Owns → (j : ℕ) → j < 512 → Owning copies j → word_of copies j ≡ w → P (get_or (own_all copies l) w 0)
    unfolding own_all
    own_some l h all j b o e =
        stamped_some (Owning copies) (word_of copies) owner_of (own_turn copies) own_turns P w 0 512 l h (λ k a b. all k (omega arith)) j (omega arith)
        (omega arith) o e

-- Lines, then entries.
module _ (lines entries : List ℕ) (P : ℕ → Type 0) (w : ℕ) where
  -- the mark of a line's key, where no entry takes it
  pub line_mark : w < 4096 → Marks of_lines lines P w → Marks of_entries entries P w → (j : ℕ) → j < 512 → Filled lines j →
      key_at lines j ≡ w → P (get_or (marks_of lines entries) w 0)
  line_mark h ml me j a o e =
      mark_all_lem of_entries entries P w (mark_all of_lines lines (replicate 4096 0))
      (omega (arith, h, mark_length of_lines lines (replicate 4096 0), length-replicate {A = ℕ} 4096 0))
      (mark_some of_lines lines P w (replicate 4096 0) (omega (arith, h, length-replicate {A = ℕ} 4096 0)) ml j a o e) me

  pub entry_mark : w < 4096 → Marks of_entries entries P w → (j : ℕ) → j < 512 → Filled entries j →
      key_at entries j ≡ w → P (get_or (marks_of lines entries) w 0)
  entry_mark h me j a o e =
      mark_some of_entries entries P w (mark_all of_lines lines (replicate 4096 0))
      (omega (arith, h, mark_length of_lines lines (replicate 4096 0), length-replicate {A = ℕ} 4096 0)) me j a o e

  short : w < 256 → w < length (own_all lines (replicate 256 0))
  short h = omega (arith, h, own_length lines (replicate 256 0), length-replicate {A = ℕ} 256 0)

  pub owner_all : w < 256 → P 0 → Owns lines P w → Owns entries P w → P (get_or (owners_of lines entries) w 0)
  owner_all h p ol oe =
      own_all_lem entries P w (own_all lines (replicate 256 0)) (short h)
      (own_all_lem lines P w (replicate 256 0) (omega (arith, h, length-replicate {A = ℕ} 256 0))
      (rw (get_or-replicate {A = ℕ} 256 w 0 0 h) p) ol) oe

  pub line_owner : w < 256 → Owns lines P w → Owns entries P w → (j : ℕ) → j < 512 → Owning lines j → word_of lines j ≡ w →
      P (get_or (owners_of lines entries) w 0)
  line_owner h ol oe j a o e =
      own_all_lem entries P w (own_all lines (replicate 256 0)) (short h)
      (own_some lines P w (replicate 256 0) (omega (arith, h, length-replicate {A = ℕ} 256 0)) ol j a o e) oe

  pub entry_owner : w < 256 → Owns entries P w → (j : ℕ) → j < 512 → Owning entries j → word_of entries j ≡ w →
      P (get_or (owners_of lines entries) w 0)
  entry_owner h oe j a o e = own_some entries P w (own_all lines (replicate 256 0)) (short h) oe j a o e
