-- A state that is fit and coherent is sound: clause by clause.
use mathlib.Core.Path.{◌≡◌, refl, sym, ◌∙◌, ap, subst}
use mathlib.Core.Logic.{◌≢◌, ◌⊎◌, inl, inr}
use mathlib.Core.Bool.{true, false, not, true≢false}
use Prim.Native.Nat.{ℕ, ◌≤◌, ◌<◌}
use native.Mathlib.Decide.{ℕ_discrete}
use native.Mathlib.Omega.{arith}
use lib.Dec.{eqb}
use lib.ListN.{get_or}
use borrow.Author.Tests.{eq-eqb, ne_eqb, eqb-false, lt-ltb, le-leb, leb-true, not-true}
use Rattle.laws.specs.Choice.{both_true}
use Rattle.entry.specs.declared.Entry.{Entry}
use Rattle.entry.specs.Numbers.{INVALID, RESERVED, DIRTY, NORMAL, BACKUP, TENTATIVE}
use Rattle.entry.specs.Packing.{no_entry}
use Rattle.rules.specs.declared.Dims.{Dims}
use Rattle.rules.specs.declared.Caches.{Caches}
use Rattle.rules.specs.State.{line_at, entry_at, active_place, status_place, false_flag, true_flag}
use Rattle.rules.specs.Own.{home}
use Rattle.rules.specs.Making.{dims_refusal}
use Rattle.entry.specs.Refusals.{accepted}
use Rattle.rules.specs.Sound.{Sound, Held, HasCopy, Tentative}
use Rattle.theory.specs.View.{LineState, regular, above, dirty_state, has, exclusive, IsBelow}
use Rattle.theory.specs.View
use Rattle.theory.proofs.OneWord.{below_above}
use Rattle.theory.proofs.Cache.{filled, is_self, main_on, back_on, regular_on}
use Rattle.theory.proofs.Settled.{Coherent}
use Rattle.serial.proofs.Decode.{state_of, line_of, decoded, seen}
use Rattle.serial.proofs.Frame.{LineFits, EntryFits, Fits}
use Rattle.serial.proofs.Set.{Fit}
use Rattle.serial.proofs.Codes.{above_code, dirty_code, normal_slot, backup_slot, tentative_slot, filled_line, tagged_fits}
use Rattle.serial.proofs.Find.{slot_at, line_at_lem, has_regular, has_normal, has_tentative}
use Rattle.serial.proofs.Under.{tentative_entry, has_backup, code_below}

-- a held copy is the machine's
pub held_fits : {P : Type 0} {e : Entry} → (e ≡ no_entry) ⊎ P → e.state ≢ INVALID → P
held_fits (inl z) n = absurd (n (ap (λ (x : Entry). x.state) z))
held_fits (inr f) n = f

zero_fits : {P : Type 0} {e : Entry} → (e ≡ no_entry) ⊎ P → (P → e.state ≢ INVALID) → e.state ≡ INVALID → e ≡ no_entry
zero_fits (inl z) h e = z
zero_fits (inr f) h e = absurd (h f e)

tag_of : (t : ℕ) → t < 4 → t ≢ INVALID → t ≢ BACKUP → (t ≡ NORMAL) ⊎ (t ≡ TENTATIVE)
tag_of t l n b = by (ℕ_discrete t NORMAL)
  where
    by : Dec (t ≡ NORMAL) → (t ≡ NORMAL) ⊎ (t ≡ TENTATIVE)
    by (yes e) = inl e
    by (no m) = inr (omega arith)

-- a held line or entry in the view: the word is there, exclusively where the copy is above VALID, and its data is checked against the memory
pub record Shows (S : View.View) (p : ℕ) (e : Entry) : Type 0 where
  pub present : has (S.copy e.word p) ≡ true
  pub owned : RESERVED ≤ e.state → exclusive (S.copy e.word p) ≡ true
  pub checked : e.state ≢ DIRTY → e.«data» ≡ S.memory e.word

clean_state : (x : ℕ) → x ≢ DIRTY → dirty_state (state_of x) ≡ false
clean_state x n = sym (dirty_code x) ∙ ne_eqb x DIRTY n

module _ {d : Dims} {s : Caches} (F : Fit d s) (C : Coherent d.processors (seen d s)) where
  above_of : (e : Entry) → e.state < 4 → e.state ≢ INVALID → RESERVED ≤ e.state → above (state_of e.state) ≡ true
  above_of e l n h = above_code e.state l n ∙ le-leb RESERVED e.state h

  line_shows : (p i : ℕ) → LineFits d p i (line_at s p i) → Shows (seen d s) p (line_at s p i)
  line_shows p i f = record {
    present = rw was;
    owned = λ h. rw was (above_of e (omega arith) f.held h);
    checked = λ n. (rw was at (C.equal w p)) (clean_state e.state n);
  }
    where
      e : Entry
      e = line_at s p i

      w : ℕ
      w = e.word

      was : (seen d s).copy w p ≡ regular (state_of e.state) e.«data»
      was =
          has_regular F p f.processor w e (ap (line_at s p) f.at_home)
          (both_true (not (eqb e.state INVALID)) (eqb e.word w) (ap not (ne_eqb e.state INVALID f.held)) (eq-eqb e.word w refl))

  main_shows : (p i : ℕ) → EntryFits d p i (entry_at s p i) → ((entry_at s p i).tag ≡ NORMAL) ⊎ ((entry_at s p i).tag ≡ TENTATIVE)
      → Shows (seen d s) p (entry_at s p i)
  main_shows p i f (inl t) =
      let was = has_normal F p f.processor (entry_at s p i).word i f.slot (entry_at s p i) refl refl t in
      record {
        present = rw was;
        owned = λ h. rw was (above_of (entry_at s p i) (omega arith) f.held h);
        checked = λ n. (rw was at (C.equal (entry_at s p i).word p)) (clean_state (entry_at s p i).state n);
      }
  main_shows p i f (inr t) =
      let was = has_tentative F p f.processor (entry_at s p i).word i f.slot (entry_at s p i) refl refl t in
      record {
        present = rw was;
        owned = λ h. rw was (above_of (entry_at s p i) (omega arith) f.held h);
        checked = λ n. (rw was at (C.equal (entry_at s p i).word p)).0 (clean_state (entry_at s p i).state n);
      }

  backup_shows : (p i : ℕ) → EntryFits d p i (entry_at s p i) → (entry_at s p i).tag ≡ BACKUP → Shows (seen d s) p (entry_at s p i)
  backup_shows p i f t =
      let b = has_backup F p f.processor (entry_at s p i).word i f.slot t refl in
      let was = b.3 in
      record {
        present = rw was;
        owned = λ h. rw was
            (below_above (state_of (entry_at s p i).state) b.0 (above_of (entry_at s p i) (omega arith) f.held h)
            (rw was at (C.order (entry_at s p i).word p)));
        checked = λ n. (rw was at (C.equal (entry_at s p i).word p)).1 (clean_state (entry_at s p i).state n);
      }

  entry_shows : (p i : ℕ) → EntryFits d p i (entry_at s p i) → Shows (seen d s) p (entry_at s p i)
  entry_shows p i f = by (ℕ_discrete (entry_at s p i).tag BACKUP)
    where
      by : Dec ((entry_at s p i).tag ≡ BACKUP) → Shows (seen d s) p (entry_at s p i)
      by (yes t) = backup_shows p i f t
      by (no n) = main_shows p i f (tag_of (entry_at s p i).tag (omega arith) f.tag n)

  line_each : (p i : ℕ) → p < 8 → i < 64 → Fits (LineFits d) p i (line_at s p i)
  line_each = F.frame.lines.each

  entry_each : (p i : ℕ) → p < 8 → i < 64 → Fits (EntryFits d) p i (entry_at s p i)
  entry_each = F.frame.entries.each

  -- of any held copy: whose it is, what it shows, and its word
  pub record Known (p : ℕ) (e : Entry) : Type 0 where
    pub processor : p < d.processors
    pub shows : Shows (seen d s) p e
    pub word : e.word < d.words

  known : (p : ℕ) (e : Entry) → p < 8 → HasCopy s p e → Held e → Known p e
  known p e lp c h = by c.here
    where
      by : (line_at s p c.slot ≡ e) ⊎ (entry_at s p c.slot ≡ e) → Known p e
      by (inl q) =
          let f = held_fits (line_each p c.slot lp c.inside) (λ z. h (sym (ap (λ (x : Entry). x.state) q) ∙ z)) in
          subst (Known p) q (record { processor = f.processor; shows = line_shows p c.slot f; word = f.word })
      by (inr q) =
          let f = held_fits (entry_each p c.slot lp c.inside) (λ z. h (sym (ap (λ (x : Entry). x.state) q) ∙ z)) in
          subst (Known p) q (record { processor = f.processor; shows = entry_shows p c.slot f; word = f.word })

  empty : (p : ℕ) (e : Entry) → p < 8 → HasCopy s p e → e.state ≡ INVALID → e ≡ no_entry
  empty p e lp c z = by c.here
    where
      by : (line_at s p c.slot ≡ e) ⊎ (entry_at s p c.slot ≡ e) → e ≡ no_entry
      by (inl q) = sym q ∙ zero_fits (line_each p c.slot lp c.inside) (λ f. f.held) (ap (λ (x : Entry). x.state) q ∙ z)
      by (inr q) = sym q ∙ zero_fits (entry_each p c.slot lp c.inside) (λ f. f.held) (ap (λ (x : Entry). x.state) q ∙ z)

  -- claims of slots, for the clauses on one processor
  main_on_lem : (p i : ℕ) (f : EntryFits d p i (entry_at s p i)) → (entry_at s p i).tag ≢ BACKUP → (w : ℕ) → (entry_at s p i).word ≡ w
      → main_on w ((decoded d s).slot p i) ≡ true
  main_on_lem p i f n w e = by (tag_of (entry_at s p i).tag (omega arith) f.tag n)
    where
      by : ((entry_at s p i).tag ≡ NORMAL) ⊎ ((entry_at s p i).tag ≡ TENTATIVE) → main_on w ((decoded d s).slot p i) ≡ true
      by (inl t) = rw (slot_at F p f.processor i f.slot, normal_slot (entry_at s p i) t, e) (is_self w)
      by (inr t) = rw (slot_at F p f.processor i f.slot, tentative_slot (entry_at s p i) t, e) (is_self w)

  back_on_lem : (p i : ℕ) (f : EntryFits d p i (entry_at s p i)) → (entry_at s p i).tag ≡ BACKUP → (w : ℕ) → (entry_at s p i).word ≡ w
      → back_on w ((decoded d s).slot p i) ≡ true
  back_on_lem p i f t w e = rw (slot_at F p f.processor i f.slot, backup_slot (entry_at s p i) t, e) (is_self w)

  line_of_lem : (p i : ℕ) → p < 8 → i < 64 → Held (line_at s p i) → LineFits d p i (line_at s p i)
  line_of_lem p i lp li h = held_fits (line_each p i lp li) h

  entry_of : (p i : ℕ) → p < 8 → i < 64 → Held (entry_at s p i) → EntryFits d p i (entry_at s p i)
  entry_of p i lp li h = held_fits (entry_each p i lp li) h

  tagged_of : (p i tag : ℕ) → p < 8 → i < 64 → (entry_at s p i).tag ≡ tag → tag ≢ INVALID → EntryFits d p i (entry_at s p i)
  tagged_of p i tag lp li t n = tagged_fits (entry_each p i lp li) (λ z. n (sym t ∙ z))

  -- a flag that reads as true is 1
  flag_one : (x : ℕ) → x ≤ true_flag → not (eqb x false_flag) ≡ true → x ≡ true_flag
  flag_one x l h = omega (arith, eqb-false x false_flag (not-true (eqb x false_flag) h))

  tentative_flags : (p i : ℕ) → p < 8 → i < 64 → (entry_at s p i).tag ≡ TENTATIVE
      → (get_or s.flags (active_place p) 0 ≡ true_flag) × (get_or s.flags (status_place p) 0 ≡ true_flag)
  tentative_flags p i lp li t =
      let f = tagged_of p i TENTATIVE lp li t (λ z. omega arith) in
      let was = has_tentative F p f.processor (entry_at s p i).word i f.slot (entry_at s p i) refl refl t in
      let l = C.live (entry_at s p i).word p (rw was) in
      let c = F.frame.flags.codes p lp in (
        flag_one (get_or s.flags (active_place p) 0) c.0 (rw (lt-ltb p d.processors f.processor) at l.0),
        flag_one (get_or s.flags (status_place p) 0) c.1 (rw (lt-ltb p d.processors f.processor) at l.1),
      )

  regular_or_other : (p i j : ℕ) → p < 8 → i < 64 → j < 64 → Held (line_at s p i) → Held (entry_at s p j) → (entry_at s p j).tag ≢ BACKUP
      → (line_at s p i).word ≢ (entry_at s p j).word
  regular_or_other p i j lp li lj h h' n e =
      let f = line_of_lem p i lp li h in
      let g = entry_of p j lp lj h' in
      let w = (line_at s p i).word in
      let m = main_on_lem p j g n w (sym e) in
      let full : (decoded d s).line p (home d w) ≡ filled (state_of (line_at s p i).state) w (line_at s p i).«data» =
      line_at_lem F p f.processor w ∙ (ap (λ (k : ℕ). line_of (line_at s p k)) f.at_home ∙ filled_line (line_at s p i) f.held) in
      true≢false (sym (ap (regular_on w) full ∙ is_self w) ∙ (F.tidy p).apart w j g.slot m)

  backup_needs : (p i : ℕ) → p < 8 → i < 64 → Held (entry_at s p i) → (entry_at s p i).tag ≡ BACKUP → Tentative s p (entry_at s p i).word
  backup_needs p i lp li h t =
      let f = entry_of p i lp li h in
      let b = has_backup F p f.processor (entry_at s p i).word i f.slot t refl in
      let x = tentative_entry F p f.processor (entry_at s p i).word b.3 in
      record { slot = x.0; inside = omega (arith, x.1, F.frame.size.entries); tag = x.2.tagged; word = x.2.word }

  backup_below : (p i j : ℕ) → p < 8 → i < 64 → j < 64 → (entry_at s p i).tag ≡ BACKUP → (entry_at s p j).tag ≡ TENTATIVE
      → (entry_at s p i).word ≡ (entry_at s p j).word → (entry_at s p i).state ≤ (entry_at s p j).state
  backup_below p i j lp li lj t t' e =
      let f = tagged_of p i BACKUP lp li t (λ z. omega arith) in
      let g = tagged_of p j TENTATIVE lp lj t' (λ z. omega arith) in
      let b = has_backup F p f.processor (entry_at s p j).word i f.slot t e in
      let was = has_tentative F p g.processor (entry_at s p j).word j g.slot (entry_at s p j) refl refl t' in
      let q : b.0 ≡ state_of (entry_at s p j).state = cc b.3 in
      code_below (entry_at s p i).state (entry_at s p j).state (omega arith) (omega arith) f.held g.held
      (subst (λ (x : LineState). IsBelow (state_of (entry_at s p i).state) x) q (rw b.3 at (C.order (entry_at s p j).word p)))

  exclusive_clause : (p q : ℕ) (e f : Entry) → p < 8 → q < 8 → p ≢ q → HasCopy s p e → HasCopy s q f → RESERVED ≤ e.state → Held f
      → f.word ≢ e.word
  exclusive_clause p q e f lp lq n ce cf h hf z =
      let a = known p e lp ce (λ y. omega arith) in
      let b = known q f lq cf hf in
      let o = C.only e.word p q (a.shows.owned h) (λ y. n (sym y)) in
      true≢false (sym b.shows.present ∙ (ap (λ (w : ℕ). has ((seen d s).copy w q)) z ∙ ap has o))

  pub fit_sound : dims_refusal d ≡ accepted → Sound d s
  unfolding home
  fit_sound dims = record {
    lengths =
        record { memory = F.frame.memory.long; lines = F.frame.lines.long; entries = F.frame.entries.long; flags = F.frame.flags.long };
    dimensions = dims;
    line_inside = λ p i lp li h. let f = line_of_lem p i lp li h in (f.processor, f.slot);
    entry_inside = λ p i lp li h. let f = entry_of p i lp li h in (f.processor, f.slot);
    flags_inside = F.frame.flags.past;
    memory_inside = λ w l h. F.frame.memory.past w h;
    line_codes = λ p i lp li. (F.frame.lines.codes p i lp li, line_tag (line_each p i lp li));
    entry_codes = F.frame.entries.codes;
    flag_codes = F.frame.flags.codes;
    words = λ p e lp c h. (known p e lp c h).word;
    home = λ p i lp li h. (line_of_lem p i lp li h).at_home;
    together = λ p i lp li h. (entry_of p i lp li h).tag;
    zero = empty;
    regular_or_other = regular_or_other;
    one_main = λ p i j lp li lj h h' n n' e.
        let f = entry_of p i lp li h in
        let g = entry_of p j lp lj h' in
        (F.tidy p).mains (entry_at s p i).word i j f.slot g.slot (main_on_lem p i f n (entry_at s p i).word refl)
        (main_on_lem p j g n' (entry_at s p i).word (sym e));
    one_backup = λ p i j lp li lj h h' t t' e.
        let f = entry_of p i lp li h in
        let g = entry_of p j lp lj h' in
        (F.tidy p).backs (entry_at s p i).word i j f.slot g.slot (back_on_lem p i f t (entry_at s p i).word refl)
        (back_on_lem p j g t' (entry_at s p i).word (sym e));
    backup_needs = backup_needs;
    tentative_flags = tentative_flags;
    exclusive = λ p q e f lp lq n ce cf h. exclusive_clause p q e f lp lq n ce cf (leb-true RESERVED e.state h);
    clean = λ p e lp c h n. (known p e lp c h).shows.checked n;
    backup_below = backup_below;
  }
    where
      line_tag : {p i : ℕ} {e : Entry} → Fits (LineFits d) p i e → e.tag ≡ INVALID
      line_tag (inl z) = ap (λ (x : Entry). x.tag) z
      line_tag (inr f) = f.tag
