-- LT, LTX and ST on a NORMAL entry: it becomes tentative, with a backup or, written back if DIRTY, without. proofs/Opened.antt joins the two.
use mathlib.Core.Path.{◌≡◌, refl, sym, ◌∙◌, ap, subst}
use mathlib.Core.Logic.{◌≢◌, inr}
use mathlib.Core.Bool.{Bool, true, false, true≢false, false≢true}
use mathlib.Core.List.{List}
use Prim.Native.Nat.{ℕ, ◌≤◌, ◌<◌}
use native.Mathlib.Decide.{ℕ_discrete}
use native.Mathlib.Omega.{arith}
use lib.Dec.{eqb}
use Rattle.laws.specs.Choice.{pick}
use Rattle.entry.specs.declared.Entry.{Entry}
use Rattle.entry.specs.Numbers.{INVALID, RESERVED, DIRTY, NORMAL, BACKUP, TENTATIVE}
use Rattle.entry.specs.Packing.{entry, InRange, unpack_range}
use Rattle.rules.specs.declared.Dims.{Dims}
use Rattle.rules.specs.declared.Caches.{Caches}
use Rattle.rules.specs.State.{entry_at, with_entry}
use Rattle.rules.specs.Own.{home}
use Rattle.rules.specs.Snoop.{written_back, clear_entry}
use Rattle.theory.specs.View.{LineState, valid, reserved, dirty, bare, backup, normal, tentative, dried}
use Rattle.theory.specs.Change.{OnlyWord}
use Rattle.theory.proofs.Moves.{at_trans}
use Rattle.theory.proofs.Cache.{vacant, slot_normal, slotBackup, slot_tentative, main_on, back_on}
use Rattle.theory.proofs.Cache.{tentative_on, is_self, unbacked, main_tentative, not-true}
use Rattle.theory.proofs.Updates.{AllTidy, SlotSet, turned, backs_up}
use Rattle.theory.specs.Protocol.{Begun, with_backup, without}
use Rattle.serial.specs.Taking.{value_end}
use Rattle.serial.proofs.Decode.{state_of, slot_of, decoded, seen, copy_here, copy_else}
use Rattle.serial.proofs.Frame.{EntryFits, Fits, fits_word}
use Rattle.serial.proofs.Set.{Fit, entry_on, Memory, memory_same, back_at, back_here, set_slot, entry_fit}
use Rattle.serial.proofs.Codes.{dirty_code, tagged_fits}
use Rattle.serial.proofs.Find.{entry_fits, slot_at, slot_normal_at}
use Rattle.serial.proofs.Slotted.{Emptied, clear_emptied}

-- an entry of a word of the machine
pub entry_range : {W : ℕ} (x t w v : ℕ) → x < 4 → t < 4 → w < W → W ≤ 256 → v < value_end → InRange (entry x t w v)
entry_range x t w v lx lt lw l lv = record { state = lx; tag = lt; word = omega arith; «data» = lv }

pub entry_of : {d : Dims} (p i x t w v : ℕ) → p < d.processors → i < d.entries → x ≢ INVALID → t ≢ INVALID → w < d.words
    → Fits (EntryFits d) p i (entry x t w v)
entry_of p i x t w v lp li nx nt lw = inr (record { processor = lp; slot = li; held = nx; tag = nt; word = lw })

-- p's NORMAL entry of w, at i
module _ {d : Dims} {s : Caches} (F : Fit d s) (p : ℕ) (lp : p < d.processors) (w i : ℕ) (li : i < d.entries)
    (ht : (entry_at s p i).tag ≡ NORMAL) (hw : (entry_at s p i).word ≡ w) where
  pub full : (decoded d s).slot p i ≡ slot_normal (state_of (entry_at s p i).state) w (entry_at s p i).«data»
  full = slot_normal_at F p lp w i li (entry_at s p i) refl hw ht

  fits : EntryFits d p i (entry_at s p i)
  fits = tagged_fits (entry_fits F p lp i li) (λ z. omega arith)

  word_in : w < d.words
  word_in = subst (λ (u : ℕ). u < d.words) hw fits.word

  -- where a word's own entry is NORMAL it has no backup
  pub lone : (j : ℕ) → j < d.entries → back_on w ((decoded d s).slot p j) ≡ false
  lone j l = not-true _ (λ h. clash h)
    where
      clash : back_on w ((decoded d s).slot p j) ≡ true → ⊥
      clash h =
          let x = (F.tidy p).paired w j l h in
          let q = (F.tidy p).mains w i x.0 li x.1 (ap (main_on w) full ∙ is_self w) (main_tentative w ((decoded d s).slot p x.0) x.2) in
          true≢false (sym (subst (λ (z : ℕ). tentative_on w ((decoded d s).slot p z) ≡ true) (sym q) x.2) ∙ ap (tentative_on w) full)

  -- it becomes tentative
  module _ {m : List ℕ} (M : Memory d s w m) (x v : ℕ) (lx : x < 4) (nx : x ≢ INVALID) (lv : v < value_end) where
    to_range : InRange (entry x TENTATIVE w v)
    to_range = entry_range x TENTATIVE w v lx (omega arith) word_in F.frame.size.words lv

    pub to_set : SlotSet d.entries (home d) p i (slot_tentative (state_of x) w v (eqb x DIRTY)) w (decoded d s)
        (decoded d (entry_on s m p i (entry x TENTATIVE w v)))
    to_set = set_slot F.frame M p i lp (entry x TENTATIVE w v) to_range li

    pub to_turn : AllTidy d.entries (home d) (decoded d (entry_on s m p i (entry x TENTATIVE w v)))
        × OnlyWord p w (seen d s) (seen d (entry_on s m p i (entry x TENTATIVE w v)))
        × ((seen d s).copy w p ≡ normal (state_of (entry_at s p i).state) (entry_at s p i).«data»)
        × ((seen d (entry_on s m p i (entry x TENTATIVE w v))).copy w p ≡ tentative (state_of x) v bare (eqb x DIRTY))
    to_turn =
        turned d.entries (home d) F.tidy li to_set full refl refl (is_self w) (is_self w) (λ z. absurd (false≢true z)) bare (unbacked lone refl)

    pub to_fit : Fit d (entry_on s m p i (entry x TENTATIVE w v))
    to_fit =
        entry_fit F.frame M p i lp (entry x TENTATIVE w v) to_range li (entry_of p i x TENTATIVE w v lp li nx (λ z. omega arith) word_in)
        to_turn.0

    pub to_here : entry_at (entry_on s m p i (entry x TENTATIVE w v)) p i ≡ entry x TENTATIVE w v
    to_here =
        copy_here s.entries F.frame.entries.long p i (omega (arith, F.frame.size.processors)) (omega (arith, F.frame.size.entries))
        (entry x TENTATIVE w v) to_range

pub record Began (d : Dims) (p w i : ℕ) (s s' : Caches) : Type 0 where
  pub fit : Fit d s'
  pub begun : Begun p w (seen d s) (seen d s')
  pub tag : (entry_at s' p i).tag ≡ TENTATIVE
  pub word : (entry_at s' p i).word ≡ w

-- the state of an entry that has no backup
abbrev pub alone : ℕ → ℕ
alone x = pick (eqb x DIRTY) RESERVED x

alone_dried : (x : ℕ) → state_of (alone x) ≡ dried (state_of x)
alone_dried x = by (eqb x DIRTY) (eqb x RESERVED) refl refl
  where
    by : (a b : Bool) → eqb x DIRTY ≡ a → eqb x RESERVED ≡ b → state_of (pick a RESERVED x) ≡ dried (pick a dirty (pick b reserved valid))
    by true b ha hb = refl
    by false true ha hb = rw (ha, hb)
    by false false ha hb = rw (ha, hb)

alone_clean : (x : ℕ) → eqb (alone x) DIRTY ≡ false
alone_clean x = by (eqb x DIRTY) refl
  where
    by : (a : Bool) → eqb x DIRTY ≡ a → eqb (pick a RESERVED x) DIRTY ≡ false
    by true h = refl
    by false h = h

alone_code : (x : ℕ) → x < 4 → x ≢ INVALID → (alone x < 4) × (alone x ≢ INVALID)
alone_code x l n = by (eqb x DIRTY)
  where
    by : (a : Bool) → (pick a RESERVED x < 4) × (pick a RESERVED x ≢ INVALID)
    by true = (omega arith, (λ z. omega arith))
    by false = (l, n)

module _ {d : Dims} {s : Caches} (F : Fit d s) (p : ℕ) (lp : p < d.processors) (w i : ℕ) (li : i < d.entries)
    (ht : (entry_at s p i).tag ≡ NORMAL) (hw : (entry_at s p i).word ≡ w) where
  abbrev e : Entry
  e = entry_at s p i

  held₀ : (entry_at s p i).state ≢ INVALID
  held₀ = (tagged_fits (entry_fits F p lp i li) (λ z. omega arith)).held

  in_words : w < d.words
  in_words = subst (λ (u : ℕ). u < d.words) hw (tagged_fits (entry_fits F p lp i li) (λ z. omega arith)).word

  -- no slot for a backup
  pub bare_begins : Began d p w i s
      (entry_on s (written_back s.memory (entry_at s p i)) p i (entry (alone (entry_at s p i).state) TENTATIVE w (entry_at s p i).«data»))
  bare_begins =
      let M = back_at F.frame e hw (fits_word (entry_fits F p lp i li)) (unpack_range _).«data» in
      let c = alone_code e.state (omega arith) held₀ in
      let k = to_turn F p lp w i li ht hw M (alone e.state) e.«data» c.0 c.1 (omega arith) in
      let z = to_here F p lp w i li ht hw M (alone e.state) e.«data» c.0 c.1 (omega arith) in
      record {
        fit = to_fit F p lp w i li ht hw M (alone e.state) e.«data» c.0 c.1 (omega arith);
        begun = without k.1 k.2
            (k.3 ∙
            (ap (λ (x : LineState). tentative x e.«data» bare (eqb (alone e.state) DIRTY)) (alone_dried e.state) ∙
            ap (λ (t : Bool). tentative (dried (state_of e.state)) e.«data» bare t) (alone_clean e.state)))
            (back_here F.frame e hw (fits_word (entry_fits F p lp i li)));
        tag = ap (λ (x : Entry). x.tag) z;
        word = ap (λ (x : Entry). x.word) z;
      }

  -- slot b is freed for one
  module _ (b : ℕ) (lb : b < d.entries) (apart : b ≢ i) (nt : (entry_at s p b).tag ≢ TENTATIVE) where
    abbrev pub s_a : Caches
    s_a = clear_entry s p b

    abbrev pub s_b : Caches
    s_b = with_entry s_a p i (entry (entry_at s p i).state TENTATIVE w (entry_at s p i).«data»)

    abbrev pub s_c : Caches
    s_c = with_entry s_b p b (entry (entry_at s p i).state BACKUP w (entry_at s p i).«data»)

    EA : Emptied d p b s s_a
    EA = clear_emptied F p lp b lb nt

    same_i : entry_at s_a p i ≡ entry_at s p i
    same_i = EA.else i (omega (arith, F.frame.size.entries)) (λ z. apart (sym z))

    ht_a : (entry_at s_a p i).tag ≡ NORMAL
    ht_a = ap (λ (x : Entry). x.tag) same_i ∙ ht

    hw_a : (entry_at s_a p i).word ≡ w
    hw_a = ap (λ (x : Entry). x.word) same_i ∙ hw

    pub backed : Began d p w i s s_c
    backed = record {
      fit = entry_fit FB.frame MB p b lp (entry x BACKUP w v) r_c lb (entry_of p b x BACKUP w v lp lb held₀ (λ z. omega arith) in_words) bu.0;
      begun = with_backup EA.freed (k_b.2 ∙ ap (λ (y : Entry). normal (state_of y.state) y.«data») same_i) (at_trans k_b.1 bu.1) bu.2
          (λ h. sym (dirty_code x) ∙ h) refl;
      tag = ap (λ (y : Entry). y.tag) z_c;
      word = ap (λ (y : Entry). y.word) z_c;
    }
      where
        FA : Fit d s_a
        FA = EA.fit

        x : ℕ
        x = (entry_at s p i).state

        v : ℕ
        v = (entry_at s p i).«data»

        lx : x < 4
        lx = omega arith

        lv : v < value_end
        lv = omega arith

        MA : Memory d s_a w s_a.memory
        MA = memory_same FA.frame w

        k_b : AllTidy d.entries (home d) (decoded d s_b) × OnlyWord p w (seen d s_a) (seen d s_b)
            × ((seen d s_a).copy w p ≡ normal (state_of (entry_at s_a p i).state) (entry_at s_a p i).«data»)
            × ((seen d s_b).copy w p ≡ tentative (state_of x) v bare (eqb x DIRTY))
        k_b = to_turn FA p lp w i li ht_a hw_a MA x v lx held₀ lv

        FB : Fit d s_b
        FB = to_fit FA p lp w i li ht_a hw_a MA x v lx held₀ lv

        set_b : SlotSet d.entries (home d) p i (slot_tentative (state_of x) w v (eqb x DIRTY)) w (decoded d s_a) (decoded d s_b)
        set_b = to_set FA p lp w i li ht_a hw_a MA x v lx held₀ lv

        lone_b : (j : ℕ) → j < d.entries → back_on w ((decoded d s_b).slot p j) ≡ false
        lone_b j l = elim (ℕ_discrete j i) [ yes q ↦ rw (q, set_b.here) | no n ↦ rw (set_b.else j n) (lone FA p lp w i li ht_a hw_a j l) ]

        MB : Memory d s_b w s_b.memory
        MB = memory_same FB.frame w

        r_c : InRange (entry x BACKUP w v)
        r_c = entry_range x BACKUP w v lx (omega arith) in_words F.frame.size.words lv

        set_c : SlotSet d.entries (home d) p b (slotBackup (state_of x) w v) w (decoded d s_b) (decoded d s_c)
        set_c = set_slot FB.frame MB p b lp (entry x BACKUP w v) r_c lb

        vacant_b : (decoded d s_b).slot p b ≡ vacant
        vacant_b = set_b.else b apart ∙ (slot_at FA p lp b lb ∙ ap slot_of EA.here)

        bu : AllTidy d.entries (home d) (decoded d s_c) × OnlyWord p w (seen d s_b) (seen d s_c)
            × ((seen d s_c).copy w p ≡ tentative (state_of x) v (backup (state_of x) v) (eqb x DIRTY))
        bu = backs_up d.entries (home d) FB.tidy lb set_c vacant_b refl i li set_b.here lone_b

        z_c : entry_at s_c p i ≡ entry x TENTATIVE w v
        z_c =
            copy_else s_b.entries FB.frame.entries.long p b (omega (arith, F.frame.size.processors))
            (omega (arith, F.frame.size.entries))
            (entry x BACKUP w v) r_c p i (omega (arith, F.frame.size.processors)) (omega (arith, F.frame.size.entries))
            (inr (λ z. apart (sym z))) ∙
            to_here FA p lp w i li ht_a hw_a MA x v lx held₀ lv
