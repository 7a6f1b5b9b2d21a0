-- The machine's settled value is the plain memory's, wherever its view agrees with one.
use mathlib.Core.Path.{◌≡◌, refl, sym, ◌∙◌, ap}
use mathlib.Core.Logic.{◌⊎◌, inl, inr}
use mathlib.Core.Bool.{Bool, true, false, not, true≢false, false≢true}
use Prim.Native.Nat.{ℕ, ◌≤◌, ◌<◌}
use native.Mathlib.Decide.{dec_lt}
use native.Mathlib.Omega.{arith}
use lib.Dec.{eqb, ltb}
use borrow.Author.Tests.{eqb-true, eq-eqb, ne_eqb, ltb-true, ltb-false, lt-ltb, le-ltb}
use Rattle.laws.specs.Choice.{pick, both, either, both_true, both_left, both_right, either_left, either_right}
use Rattle.laws.specs.Search.{first_from, first_has, first_not}
use Rattle.entry.specs.declared.Entry.{Entry}
use Rattle.entry.specs.Numbers.{INVALID, DIRTY, NORMAL, BACKUP}
use Rattle.rules.specs.declared.Dims.{Dims}
use Rattle.rules.specs.declared.Caches.{Caches}
use Rattle.rules.specs.State.{line_at, entry_at, word_at}
use Rattle.rules.specs.Own.{home, holds}
use Rattle.rules.specs.Settled.{is_settling, has_settling, settling_entry, settles, settler, settled_in}
use Rattle.rules.specs.Settled
use Rattle.theory.specs.View.{bare, backup, Copy, none, regular, normal, tentative, dirty_state, owns}
use Rattle.theory.proofs.Looks.{normal_seen}
use Rattle.theory.proofs.Agree.{Agree}
use Rattle.theory.proofs.Settled.{base_data, owns_data}
use Rattle.theory.specs.Protocol.{is_regular}
use Rattle.serial.proofs.Decode.{state_of, decoded, seen}
use Rattle.serial.proofs.Set.{Fit}
use Rattle.serial.proofs.Codes.{dirty_code, slot_normal_lem}
use Rattle.serial.proofs.Find.{slot_at, has_regular, no_regular, has_normal}
use Rattle.serial.proofs.Requests.{beyond_none}
use Rattle.serial.proofs.Under.{backup_behind, has_backup}

-- the copy that settles w for q, the word's line first
abbrev pub chosen : Dims → ℕ → Caches → ℕ → ℕ
chosen d w s q =
    pick (Settled.is_dirty (line_at s q (home d w)) w) (line_at s q (home d w)).«data»
    (entry_at s q (settling_entry s.entries q d.entries w)).«data»

-- q settles w exactly where its copy owns the value
pub data Settling (d : Dims) (s : Caches) (w q : ℕ) : Type 0 where
  does : settles d (home d w) w s.lines s.entries q ≡ true → owns ((seen d s).copy w q) ≡ true → chosen d w s q ≡ base_data ((seen d s).copy w q)
      → Settling d s w q
  does_not : settles d (home d w) w s.lines s.entries q ≡ false → owns ((seen d s).copy w q) ≡ false → Settling d s w q

dirty_on : (x : ℕ) → x ≡ DIRTY → dirty_state (state_of x) ≡ true
dirty_on x e = sym (dirty_code x) ∙ eq-eqb x DIRTY e

on_dirty : (x : ℕ) → dirty_state (state_of x) ≡ true → x ≡ DIRTY
on_dirty x h = eqb-true x DIRTY (dirty_code x ∙ h)

module _ {d : Dims} {s : Caches} (F : Fit d s) (q : ℕ) (lq : q < d.processors) (w : ℕ) where
  abbrev line : Entry
  line = line_at s q (home d w)

  -- an entry that settles
  settling_found : settling_entry s.entries q d.entries w < d.entries
      → is_settling (entry_at s q (settling_entry s.entries q d.entries w)) w ≡ true
  unfolding settling_entry
  settling_found l = first_has (has_settling s.entries q w) 0 d.entries (omega arith)

  settling_none : d.entries ≤ settling_entry s.entries q d.entries w → (i : ℕ) → i < d.entries → is_settling (entry_at s q i) w ≡ false
  unfolding settling_entry
  settling_none l i li = first_not (has_settling s.entries q w) 0 d.entries i (omega arith) (omega arith)

  settling_says : (e : Entry) → is_settling e w ≡ true → ((e.tag ≡ NORMAL) ⊎ (e.tag ≡ BACKUP)) × (e.state ≡ DIRTY) × (e.word ≡ w)
  settling_says e h = by (eqb e.tag NORMAL) (eqb e.tag BACKUP) refl refl h
    where
      rest : Settled.is_dirty e w ≡ true → (e.state ≡ DIRTY) × (e.word ≡ w)
      rest t = (
        eqb-true e.state DIRTY (both_left (eqb e.state DIRTY) (eqb e.word w) t),
        eqb-true e.word w
            (both_right (eqb e.state DIRTY) (eqb e.word w) t),
      )

      by : (n b : Bool) → eqb e.tag NORMAL ≡ n → eqb e.tag BACKUP ≡ b → both (either n b) (Settled.is_dirty e w) ≡ true
          → ((e.tag ≡ NORMAL) ⊎ (e.tag ≡ BACKUP)) × (e.state ≡ DIRTY) × (e.word ≡ w)
      by true b hn hb t = (inl (eqb-true e.tag NORMAL hn), (rest t).0, (rest t).1)
      by false true hn hb t = (inr (eqb-true e.tag BACKUP hb), (rest t).0, (rest t).1)
      by false false hn hb t = absurd (false≢true t)

  says_settling : (e : Entry) → (e.tag ≡ NORMAL) ⊎ (e.tag ≡ BACKUP) → e.state ≡ DIRTY → e.word ≡ w → is_settling e w ≡ true
  says_settling e t hs hw =
      both_true (either (eqb e.tag NORMAL) (eqb e.tag BACKUP)) (Settled.is_dirty e w) (tagged t)
      (both_true (eqb e.state DIRTY) (eqb e.word w) (eq-eqb e.state DIRTY hs) (eq-eqb e.word w hw))
    where
      tagged : (e.tag ≡ NORMAL) ⊎ (e.tag ≡ BACKUP) → either (eqb e.tag NORMAL) (eqb e.tag BACKUP) ≡ true
      tagged (inl z) = either_left (eqb e.tag NORMAL) (eqb e.tag BACKUP) (eq-eqb e.tag NORMAL z)
      tagged (inr z) = either_right (eqb e.tag NORMAL) (eqb e.tag BACKUP) (eq-eqb e.tag BACKUP z)

  pub settling : Settling d s w q
  unfolding settles
  settling = by (Settled.is_dirty line w) refl (dec_lt i d.entries)
    where
      i : ℕ
      i = settling_entry s.entries q d.entries w

      by_line : Settled.is_dirty line w ≡ true → Settling d s w q
      by_line h =
          let hs = eqb-true line.state DIRTY (both_left (eqb line.state DIRTY) (eqb line.word w) h) in
          let o = both_true (not (eqb line.state INVALID)) (eqb line.word w) (ap not (ne_eqb line.state INVALID (λ z. omega arith)))
          (both_right (eqb line.state DIRTY) (eqb line.word w) h) in
          let was = has_regular F q lq w line refl o in
          does (either_left (Settled.is_dirty line w) (ltb i d.entries) h) (ap owns was ∙ dirty_on line.state hs)
          (ap (λ (b : Bool). pick b line.«data» (entry_at s q i).«data») h ∙ sym (ap base_data was))

      by_entry : Settled.is_dirty line w ≡ false → (l : i < d.entries)
          → (((entry_at s q i).tag ≡ NORMAL) ⊎ ((entry_at s q i).tag ≡ BACKUP)) × ((entry_at s q i).state ≡ DIRTY) × ((entry_at s q i).word ≡ w)
          → Settling d s w q
      by_entry h l (inl t, hs, hw) =
          let was = has_normal F q lq w i l (entry_at s q i) refl hw t in
          does (either_right (Settled.is_dirty line w) (ltb i d.entries) (lt-ltb i d.entries l))
          (ap owns was ∙ dirty_on (entry_at s q i).state hs)
          (ap (λ (b : Bool). pick b line.«data» (entry_at s q i).«data») h ∙ sym (ap base_data was))
      by_entry h l (inr t, hs, hw) =
          let was = has_backup F q lq w i l t hw in
          does (either_right (Settled.is_dirty line w) (ltb i d.entries) (lt-ltb i d.entries l))
          (ap owns was.3 ∙ dirty_on (entry_at s q i).state hs)
          (ap (λ (b : Bool). pick b line.«data» (entry_at s q i).«data») h ∙ sym (ap base_data was.3))

      none_owns : Settled.is_dirty line w ≡ false → d.entries ≤ i → owns ((seen d s).copy w q) ≡ false
      none_owns h l = over (holds line w) refl
        where
          off : (b : Bool) → (b ≡ true → ⊥) → b ≡ false
          off true n = absurd (n refl)
          off false n = refl

          entry_off : (j : ℕ) → j < d.entries → ((entry_at s q j).tag ≡ NORMAL) ⊎ ((entry_at s q j).tag ≡ BACKUP) → (entry_at s q j).word ≡ w
              → (entry_at s q j).state ≡ DIRTY → ⊥
          entry_off j lj t hw hs = true≢false (sym (says_settling (entry_at s q j) t hs hw) ∙ settling_none l j lj)

          go : (k : Copy) → (seen d s).copy w q ≡ k → is_regular k ≡ false → owns k ≡ false
          go none e r = refl
          go (regular x y) e r = absurd (true≢false r)
          go (normal x y) e r =
              let f = normal_seen d.entries (home d) ((decoded d s).slot q) ((decoded d s).line q) w e in
              let z = slot_normal_lem (entry_at s q f.0) (sym (slot_at F q lq f.0 f.1) ∙ f.2) in
              off (dirty_state x)
              (λ o. entry_off f.0 f.1 (inl z.tagged) z.word (on_dirty (entry_at s q f.0).state (ap dirty_state z.state ∙ o)))
          go (tentative x y bare t) e r = refl
          go (tentative x y (backup a b) t) e r =
              let f = backup_behind F q lq w e in
              let z = f.is in
              off (dirty_state a)
              (λ o. entry_off f.slot f.inside (inr z.tagged) z.word
              (on_dirty (entry_at s q f.slot).state (ap dirty_state z.state ∙ o)))

          over : (b : Bool) → holds line w ≡ b → owns ((seen d s).copy w q) ≡ false
          over true o =
              ap owns (has_regular F q lq w line refl o) ∙
              off (dirty_state (state_of line.state))
              (λ x.
              true≢false
              (sym (both_true (eqb line.state DIRTY) (eqb line.word w) (eq-eqb line.state DIRTY (on_dirty line.state x))
              (both_right (not (eqb line.state INVALID)) (eqb line.word w) o)) ∙ h))
          over false o = go ((seen d s).copy w q) refl (no_regular F q lq w line refl o)

      by : (b : Bool) → Settled.is_dirty line w ≡ b → Dec (i < d.entries) → Settling d s w q
      by true h l = by_line h
      by false h (yes l) = by_entry h l (settling_says (entry_at s q i) (settling_found l))
      by false h (no l) =
          does_not (ap (λ (b : Bool). either b (ltb i d.entries)) h ∙ le-ltb i d.entries (omega arith)) (none_owns h (omega arith))

pub settled_in_lem : {d : Dims} {s : Caches} {M : ℕ → ℕ} → Fit d s → Agree (seen d s) M → (w : ℕ) → settled_in d w s ≡ M w
unfolding settled_in settler
settled_in_lem {d} {s} {M} F A w = by (ltb q d.processors) refl
  where
    q : ℕ
    q = first_from (settles d (home d w) w s.lines s.entries) 0 d.processors

    some : q < d.processors → Settling d s w q → chosen d w s q ≡ M w
    some l (does a b c) = c ∙ owns_data ((seen d s).copy w q) (M w) ((A.words w).holds q) b
    some l (does_not a b) =
        absurd (true≢false (sym (first_has (settles d (home d w) w s.lines s.entries) 0 d.processors (omega arith)) ∙ a))

    nobody : d.processors ≤ q → (r : ℕ) → owns ((seen d s).copy w r) ≡ false
    nobody l r = elim (dec_lt r d.processors) [ yes m ↦ one m (settling F r m w) | no m ↦ ap owns (beyond_none d s w r (omega arith)) ]
      where
        one : r < d.processors → Settling d s w r → owns ((seen d s).copy w r) ≡ false
        one m (does a b c) =
            absurd (true≢false (sym a ∙ first_not (settles d (home d w) w s.lines s.entries) 0 d.processors r (omega arith) (omega arith)))
        one m (does_not a b) = b

    by : (b : Bool) → ltb q d.processors ≡ b → pick b (chosen d w s q) (word_at s w) ≡ M w
    by true h = some (ltb-true q d.processors h) (settling F q (ltb-true q d.processors h) w)
    by false h = (A.words w).cell (nobody (ltb-false q d.processors h))
