-- A sound state is coherent, as the theory says it.
use mathlib.Core.Path.{◌≡◌, refl, sym, ◌∙◌, ap, subst}
use mathlib.Core.Logic.{◌≢◌, ◌⊎◌, inl, inr}
use mathlib.Core.Bool.{true, false, true≢false, false≢true}
use Prim.Native.Nat.{ℕ, ◌<◌}
use native.Mathlib.Decide.{dec_lt}
use native.Mathlib.Omega.{arith}
use borrow.Author.Tests.{eqb-false, lt-ltb}
use Rattle.entry.specs.declared.Entry.{Entry}
use Rattle.entry.specs.Numbers.{DIRTY}
use Rattle.entry.specs.Packing.{InRange, unpack_range}
use Rattle.rules.specs.declared.Dims.{Dims}
use Rattle.rules.specs.declared.Caches.{Caches}
use Rattle.rules.specs.State.{line_at, entry_at, word_at}
use Rattle.rules.specs.Sound.{Sound, HasCopy}
use Rattle.theory.specs.View.{LineState, bare, backup, none, regular, normal, tentative, above, dirty_state, has, exclusive, is_tentative}
use Rattle.theory.specs.View
use Rattle.theory.specs.Change.{Live}
use Rattle.theory.proofs.Settled.{Coherent, Agrees, IsOrdered, IsCoarse}
use Rattle.serial.specs.Taking.{value_end}
use Rattle.serial.proofs.Decode.{state_of, seen}
use Rattle.serial.proofs.Set.{Fit}
use Rattle.serial.proofs.Codes.{above_code, dirty_code, tagged_fits}
use Rattle.serial.proofs.Find.{entry_fits}
use Rattle.serial.proofs.Requests.{beyond_none}
use Rattle.serial.proofs.SoundFit.{sound_fit}
use Rattle.serial.proofs.Under.{Main, main_state, main_data, exclusive_main, main_entry, tentative_entry, backup_behind, below_code}

-- what a copy unpacks to is in range
pub copy_range : {s : Caches} {p : ℕ} {e : Entry} → HasCopy s p e → InRange e
copy_range {s} {p} {e} c = by c.here
  where
    by : (line_at s p c.slot ≡ e) ⊎ (entry_at s p c.slot ≡ e) → InRange e
    by (inl q) = subst InRange q (unpack_range _)
    by (inr q) = subst InRange q (unpack_range _)

clean_code : (x : ℕ) → dirty_state (state_of x) ≡ false → x ≢ DIRTY
clean_code x h = eqb-false x DIRTY (dirty_code x ∙ h)

module _ {d : Dims} {s : Caches} (Z : Sound d s) (values : (w : ℕ) → word_at s w < value_end) where
  F : Fit d s
  F = sound_fit Z values

  eight : (p : ℕ) → p < d.processors → p < 8
  eight p l = omega (arith, F.frame.size.processors)

  -- p's main copy of w, where it has one
  main : (p w : ℕ) → p < d.processors → (k : View.Copy) → (seen d s).copy w p ≡ k → has k ≡ true → Main s p w k
  main p w lp k e h = main_entry F p lp w k e h

  clean : (p w : ℕ) → p < d.processors → (k : View.Copy) → Main s p w k → dirty_state (main_state k) ≡ false → main_data k ≡ word_at s w
  clean p w lp k m h =
      sym m.value ∙
      (Z.clean p m.copy (eight p lp) m.held_by m.held (clean_code m.copy.state (ap dirty_state m.state ∙ h)) ∙
      ap (word_at s) m.word)

  only : (w p q : ℕ) → exclusive ((seen d s).copy w p) ≡ true → q ≢ p → (seen d s).copy w q ≡ none
  only w p q x n = go (dec_lt p d.processors) (dec_lt q d.processors)
    where
      go : Dec (p < d.processors) → Dec (q < d.processors) → (seen d s).copy w q ≡ none
      go (no l) r = absurd (true≢false (sym x ∙ ap exclusive (beyond_none d s w p (omega arith))))
      go (yes l) (no r) = beyond_none d s w q (omega arith)
      go (yes l) (yes r) = one ((seen d s).copy w p) refl x ((seen d s).copy w q) refl
        where
          has_of : (k : View.Copy) → exclusive k ≡ true → has k ≡ true
          has_of none h = h
          has_of (regular a b) h = refl
          has_of (normal a b) h = refl
          has_of (tentative a b y t) h = refl

          off : (k k' : View.Copy) → Main s p w k → Main s q w k' → exclusive k ≡ true → ⊥
          off k k' a b h =
              let u = sym (above_code a.copy.state (copy_range a.held_by).state a.held) ∙
              (ap above a.state ∙ (sym (exclusive_main k) ∙ h)) in
              Z.exclusive p q a.copy b.copy (eight p l) (eight q r) (λ z. n (sym z)) a.held_by b.held_by
              u b.held
              (b.word ∙ sym a.word)

          one : (k : View.Copy) → (seen d s).copy w p ≡ k → exclusive k ≡ true → (k' : View.Copy) → (seen d s).copy w q ≡ k' → k' ≡ none
          one k e h none e' = refl
          one k e h (regular a b) e' = absurd (off k (regular a b) (main p w l k e (has_of k h)) (main q w r (regular a b) e' refl) h)
          one k e h (normal a b) e' = absurd (off k (normal a b) (main p w l k e (has_of k h)) (main q w r (normal a b) e' refl) h)
          one k e h (tentative a b y t) e' =
              absurd (off k (tentative a b y t) (main p w l k e (has_of k h)) (main q w r (tentative a b y t) e' refl) h)

  equal : (w p : ℕ) → Agrees ((seen d s).copy w p) (word_at s w)
  equal w p = go (dec_lt p d.processors)
    where
      go : Dec (p < d.processors) → Agrees ((seen d s).copy w p) (word_at s w)
      go (no l) = rw (beyond_none d s w p (omega arith)) tt
      go (yes l) = one ((seen d s).copy w p) refl
        where
          one : (k : View.Copy) → (seen d s).copy w p ≡ k → Agrees k (word_at s w)
          one none e = tt
          one (regular a b) e = λ h. clean p w l (regular a b) (main p w l (regular a b) e refl) h
          one (normal a b) e = λ h. clean p w l (normal a b) (main p w l (normal a b) e refl) h
          one (tentative a b bare t) e = ((λ h. clean p w l (tentative a b bare t) (main p w l (tentative a b bare t) e refl) h), tt)
          one (tentative a b (backup r v) t) e = (
            (λ h. clean p w l (tentative a b (backup r v) t) (main p w l (tentative a b (backup r v) t) e refl) h),
            (λ h.
                let x = backup_behind F p l w e in
                let y = x.is in
                sym y.value ∙
                (Z.clean p (entry_at s p x.slot) (eight p l)
                (record { slot = x.slot; inside = omega (arith, x.inside, F.frame.size.entries); here = inr refl })
                (tagged_fits (entry_fits F p l x.slot x.inside) (λ z. omega arith)).held
                (clean_code (entry_at s p x.slot).state (ap dirty_state y.state ∙ h)) ∙ ap (word_at s) y.word)),
          )

  order : (w p : ℕ) → IsOrdered ((seen d s).copy w p)
  order w p = go (dec_lt p d.processors)
    where
      go : Dec (p < d.processors) → IsOrdered ((seen d s).copy w p)
      go (no l) = rw (beyond_none d s w p (omega arith)) tt
      go (yes l) = one ((seen d s).copy w p) refl
        where
          one : (k : View.Copy) → (seen d s).copy w p ≡ k → IsOrdered k
          one none e = tt
          one (regular a b) e = tt
          one (normal a b) e = tt
          one (tentative a b bare t) e = tt
          one (tentative a b (backup r v) t) e =
              let x = backup_behind F p l w e in
              let i = tentative_entry F p l w e in
              let li = F.frame.size.entries in
              let hb = (tagged_fits (entry_fits F p l x.slot x.inside) (λ z. omega (arith, x.is.tagged))).held in
              let hi = (tagged_fits (entry_fits F p l i.0 i.1) (λ z. omega (arith, i.2.tagged))).held in
              let le = Z.backup_below p x.slot i.0 (eight p l) (omega (arith, x.inside)) (omega (arith, i.1)) x.is.tagged i.2.tagged
              (x.is.word ∙ sym i.2.word) in
              subst (λ (y : LineState). View.IsBelow y a) x.is.state
              (subst (λ (y : LineState). View.IsBelow (state_of (entry_at s p x.slot).state) y) i.2.state
              (below_code (entry_at s p x.slot).state (entry_at s p i.0).state (omega arith) (omega arith) hb hi le))

  live : (w p : ℕ) → is_tentative ((seen d s).copy w p) ≡ true → Live (seen d s) p
  live w p h = go (dec_lt p d.processors)
    where
      go : Dec (p < d.processors) → Live (seen d s) p
      go (no l) = absurd (true≢false (sym h ∙ ap is_tentative (beyond_none d s w p (omega arith))))
      go (yes l) = one ((seen d s).copy w p) refl h
        where
          one : (k : View.Copy) → (seen d s).copy w p ≡ k → is_tentative k ≡ true → Live (seen d s) p
          one none e h = absurd (false≢true h)
          one (regular a b) e h = absurd (false≢true h)
          one (normal a b) e h = absurd (false≢true h)
          one (tentative a b y t) e h =
              let i = tentative_entry F p l w e in
              let f = Z.tentative_flags p i.0 (eight p l) (omega (arith, i.1, F.frame.size.entries)) i.2.tagged in
              (rw (lt-ltb p d.processors l, f.0), rw (lt-ltb p d.processors l, f.1))

  pub sound_coherent : Coherent d.processors (seen d s)
  sound_coherent = record { only = only; equal = equal; order = order; live = live; within = beyond_none d s }

-- a DIRTY tentative copy counts as stored to
pub seen_coarse : {d : Dims} {s : Caches} → Fit d s → (w p : ℕ) → IsCoarse ((seen d s).copy w p)
seen_coarse {d} {s} F w p = go (dec_lt p d.processors)
  where
    go : Dec (p < d.processors) → IsCoarse ((seen d s).copy w p)
    go (no l) = rw (beyond_none d s w p (omega arith)) tt
    go (yes l) = one ((seen d s).copy w p) refl
      where
        one : (k : View.Copy) → (seen d s).copy w p ≡ k → IsCoarse k
        one none e = tt
        one (regular a b) e = tt
        one (normal a b) e = tt
        one (tentative a b y t) e =
            let i = tentative_entry F p l w e in
            i.3 ∙ (dirty_code (entry_at s p i.0).state ∙ ap dirty_state i.2.state)
