-- The silent moves: what a processor may do with its own copy of a word without changing the word's settled value.
use mathlib.Core.Path.{◌≡◌, refl}
use mathlib.Core.Logic.{◌≢◌, ◌⊎◌, inl, inr}
use mathlib.Core.Bool.{Bool, true, false, true≢false, false≢true}
use Prim.Native.Nat.{ℕ}
use Rattle.theory.specs.View.{wrote, dried, has, LineState, valid, reserved, dirty, Back, bare, backup, Copy}
use Rattle.theory.specs.View.{none, regular, normal, tentative, above, dirty_state, exclusive, owns, IsFine, Word}
use Rattle.theory.proofs.OneWord.{Alone, Low, alone_low, back_raise, below_self, below_valid, low_cell, quiet}

-- what a processor may do with its own copy of a word without changing the word's settled value.
-- `low`: no other processor's copy is exclusive; `alone`: no other processor has a copy; `live`: it is in a sound transaction
pub data Move (live low alone : Type 0) : ℕ → Copy → ℕ → Copy → Type 0 where
  drop_regular : {m d : ℕ} {s : LineState} → Move live low alone m (regular s d) (wrote s d m) none
  drop_normal : {m d : ℕ} {s : LineState} → Move live low alone m (normal s d) (wrote s d m) none
  drop_backup : {m d e : ℕ} {s r : LineState} {f : Bool} → Move live low alone m (tentative s d (backup r e) f) (wrote r e m) (tentative s d bare f)
  lower_regular : {m d : ℕ} {s : LineState} → Move live low alone m (regular s d) (wrote s d m) (regular valid d)
  lower_normal : {m d : ℕ} {s : LineState} → Move live low alone m (normal s d) (wrote s d m) (normal valid d)
  begin_backed : {m d : ℕ} {s : LineState} {f : Bool} → live → (f ≡ true → dirty_state s ≡ true)
      → Move live low alone m (normal s d) m (tentative s d (backup s d) f)
  begin_bare : {m d : ℕ} {s : LineState} → live → Move live low alone m (normal s d) (wrote s d m) (tentative (dried s) d bare false)
  fill_regular : {m : ℕ} → low → Move live low alone m none m (regular valid m)
  fill_tentative : {m : ℕ} → live → low → Move live low alone m none m (tentative valid m bare false)
  fill_backed : {m : ℕ} → live → low → Move live low alone m none m (tentative valid m (backup valid m) false)
  own_regular : {m : ℕ} → alone → Move live low alone m none m (regular reserved m)
  own_tentative : {m : ℕ} → live → alone → Move live low alone m none m (tentative reserved m bare false)
  own_backed : {m : ℕ} → live → alone → Move live low alone m none m (tentative reserved m (backup reserved m) false)
  upgrade : {m d : ℕ} {b : Back} {f : Bool} → alone → Move live low alone m (tentative valid d b f) m (tentative reserved d b f)

pub dried_above : (s : LineState) → above (dried s) ≡ true → above s ≡ true
dried_above valid h = h
dried_above reserved h = h
dried_above dirty h = refl

pub wrote_is : (s : LineState) {d m x : ℕ} → d ≡ x → (dirty_state s ≡ false → m ≡ x) → wrote s d m ≡ x
wrote_is valid f g = g refl
wrote_is reserved f g = g refl
wrote_is dirty f g = f

pub move_exclusive : {live low alone : Type 0} {m m' : ℕ} {k k' : Copy} → Move live low alone m k m' k' → exclusive k' ≡ true
    → (exclusive k ≡ true) ⊎ alone
move_exclusive drop_regular h = absurd (false≢true h)
move_exclusive drop_normal h = absurd (false≢true h)
move_exclusive drop_backup h = inl h
move_exclusive lower_regular h = absurd (false≢true h)
move_exclusive lower_normal h = absurd (false≢true h)
move_exclusive (begin_backed a i) h = inl h
move_exclusive (begin_bare {s = s} a) h = inl (dried_above s h)
move_exclusive (fill_regular l) h = inl h
move_exclusive (fill_tentative a l) h = inl h
move_exclusive (fill_backed a l) h = inl h
move_exclusive (own_regular z) h = inr z
move_exclusive (own_tentative a z) h = inr z
move_exclusive (own_backed a z) h = inr z
move_exclusive (upgrade z) h = inr z

pub move_none : {live low alone : Type 0} {m m' : ℕ} {k k' : Copy} → (alone → low) → Move live low alone m k m' k' → has k ≡ false → (k' ≡ none) ⊎ low
move_none w drop_regular h = absurd (true≢false h)
move_none w drop_normal h = absurd (true≢false h)
move_none w drop_backup h = absurd (true≢false h)
move_none w lower_regular h = absurd (true≢false h)
move_none w lower_normal h = absurd (true≢false h)
move_none w (begin_backed a i) h = absurd (true≢false h)
move_none w (begin_bare a) h = absurd (true≢false h)
move_none w (fill_regular l) h = inr l
move_none w (fill_tentative a l) h = inr l
move_none w (fill_backed a l) h = inr l
move_none w (own_regular z) h = inr (w z)
move_none w (own_tentative a z) h = inr (w z)
move_none w (own_backed a z) h = inr (w z)
move_none w (upgrade z) h = absurd (true≢false h)

pub move_fine : {live low alone : Type 0} {m m' x : ℕ} {k k' : Copy} → Move live low alone m k m' k' → IsFine k x → (low → owns k ≡ false → m ≡ x)
    → (alone → low) → IsFine k' x
move_fine drop_regular f g w = tt
move_fine drop_normal f g w = tt
move_fine drop_backup f g w = (f.0, f.1, tt)
move_fine lower_regular f g w = f
move_fine lower_normal f g w = f
move_fine (begin_backed {s = s} a i) f g w = ((λ h. f), i, (f, below_self s))
move_fine (begin_bare a) f g w = ((λ h. f), (λ h. absurd (false≢true h)), tt)
move_fine (fill_regular l) f g w = g l refl
move_fine (fill_tentative a l) f g w = ((λ h. g l refl), (λ h. absurd (false≢true h)), tt)
move_fine (fill_backed a l) f g w = ((λ h. g l refl), (λ h. absurd (false≢true h)), (g l refl, tt))
move_fine (own_regular z) f g w = g (w z) refl
move_fine (own_tentative a z) f g w = ((λ h. g (w z) refl), (λ h. absurd (false≢true h)), tt)
move_fine (own_backed a z) f g w = ((λ h. g (w z) refl), (λ h. absurd (false≢true h)), (g (w z) refl, refl))
move_fine {x = x} (upgrade {b = b} z) f g w =
    (f.0, (λ h. absurd (false≢true (f.1 h))), back_raise b valid reserved x (λ r. below_valid r reserved) f.2)

pub move_cell : {live low alone : Type 0} {m m' x : ℕ} {k k' : Copy} → Move live low alone m k m' k' → IsFine k x → (owns k ≡ false → m ≡ x)
    → owns k' ≡ false → m' ≡ x
move_cell (drop_regular {s = s}) f g h = wrote_is s f g
move_cell (drop_normal {s = s}) f g h = wrote_is s f g
move_cell (drop_backup {r = r}) f g h = wrote_is r f.2.0 g
move_cell (lower_regular {s = s}) f g h = wrote_is s f g
move_cell (lower_normal {s = s}) f g h = wrote_is s f g
move_cell (begin_backed a i) f g h = g h
move_cell (begin_bare {s = s} a) f g h = wrote_is s f g
move_cell (fill_regular l) f g h = g refl
move_cell (fill_tentative a l) f g h = g refl
move_cell (fill_backed a l) f g h = g refl
move_cell (own_regular z) f g h = g refl
move_cell (own_tentative a z) f g h = g refl
move_cell (own_backed a z) f g h = g refl
move_cell (upgrade z) f g h = g h

module _ {m x : ℕ} {c : ℕ → Copy} (W : Word m c x) where
  pub moved : {live : Type 0} {m' : ℕ} {c' : ℕ → Copy} (p : ℕ) {k k' : Copy}
      → c p ≡ k
      → c' p ≡ k'
      → ((q : ℕ) → q ≢ p → c' q ≡ c q)
      → Move live (Low c p) (Alone c p) m k m' k'
      → Word m' c' x
  moved p was here else v =
      let f = rw was at (W.holds p) in
      quiet W p was here else (move_exclusive v) (move_none alone_low v) (move_fine v f (λ l o. low_cell W p was o l) alone_low) (move_cell v f)
