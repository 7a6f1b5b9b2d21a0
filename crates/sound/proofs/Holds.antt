-- What the test says makes the state sound. Assumes nothing.
use mathlib.Core.Path.{◌≡◌, refl, sym, ◌∙◌, ap, subst}
use mathlib.Core.Logic.{◌⊎◌, inl, inr, ◌≢◌}
use mathlib.Core.List.{List}
use Prim.Native.Nat.{ℕ, ◌+◌, ◌/◌, ◌%◌, ◌<◌, ◌≤◌}
use native.Mathlib.Omega.{arith}
use native.Mathlib.Decide.{ℕ_discrete, dec_lt}
use lib.Dec.{eqb}
use lib.ListN.{get_or}
use borrow.Author.Tests.{eq-eqb, ne_eqb, leb-true}
use Rattle.entry.specs.declared.Entry.{Entry}
use Rattle.entry.specs.Numbers.{INVALID, RESERVED, DIRTY, BACKUP, TENTATIVE}
use Rattle.entry.specs.Packing.{packed_end, unpack, no_entry}
use Rattle.rules.specs.declared.Dims.{Dims}
use Rattle.rules.specs.declared.Caches.{Caches}
use Rattle.rules.specs.State.{active_flag, status_flag, place, line_at, entry_at, word_at, active_place, status_place}
use Rattle.rules.specs.Sound.{Held, HasCopy, Sound}
use Rattle.rules.specs.SoundTest.{of_lines, of_entries, marks_of, owners_of, partner_place}
use Rattle.sound.proofs.Places.{place_in, place_processor, place_slot, place_of}
use Rattle.sound.proofs.Keys.{same_key, value_once, value_kinds, owner_of_lem}
use Rattle.sound.proofs.Passes.{line_owner, entry_owner}
use Rattle.sound.proofs.Tested.{CopyFits, LineFits, EntryFits, PartnerFits, Tested}

-- a place whose copy is held, or has a tag, is not 0
held_filled : (x : ℕ) → Held (unpack x) → x ≢ 0
held_filled x h e = h (ap (λ y. (unpack y).state) e)

tag_filled : (x t : ℕ) → (unpack x).tag ≡ t → t ≢ 0 → x ≢ 0
tag_filled x t g n e = n (sym g ∙ ap (λ y. (unpack y).tag) e)

none_zero : (x : ℕ) → (x ≢ 0 → (unpack x).state ≢ INVALID) → (unpack x).state ≡ INVALID → unpack x ≡ no_entry
none_zero x held z = by (ℕ_discrete x 0)
  where
    by : Dec (x ≡ 0) → unpack x ≡ no_entry
    by (yes e) = ap unpack e
    by (no n) = absurd (held n z)

module _ (d : Dims) (s : Caches) (t : Tested d s) where
  abbrev marks : List ℕ
  marks = marks_of s.lines s.entries

  abbrev owners : List ℕ
  owners = owners_of s.lines s.entries

  line_fits : (p i : ℕ) → get_or s.lines (place p i) 0 ≢ 0 →
      LineFits s.memory marks owners d (get_or s.lines (place p i) 0) (place p i)
  line_fits p i n = t.lines (place p i) (place_in p i) n

  entry_fits : (p i : ℕ) → get_or s.entries (place p i) 0 ≢ 0 →
      EntryFits s.memory marks owners s.entries s.flags d (get_or s.entries (place p i) 0) (place p i)
  entry_fits p i n = t.entries (place p i) (place_in p i) n

  held_line : (p i : ℕ) → Held (line_at s p i) → LineFits s.memory marks owners d (get_or s.lines (place p i) 0) (place p i)
  held_line p i h = line_fits p i (held_filled (get_or s.lines (place p i) 0) h)

  held_entry : (p i : ℕ) → Held (entry_at s p i) →
      EntryFits s.memory marks owners s.entries s.flags d (get_or s.entries (place p i) 0) (place p i)
  held_entry p i h = entry_fits p i (held_filled (get_or s.entries (place p i) 0) h)

  tagged_entry : (p i tag : ℕ) → (entry_at s p i).tag ≡ tag → tag ≢ 0 →
      EntryFits s.memory marks owners s.entries s.flags d (get_or s.entries (place p i) 0) (place p i)
  tagged_entry p i tag g n = entry_fits p i (tag_filled (get_or s.entries (place p i) 0) tag g n)

  -- what is known of every copy of a processor
  record Known (p : ℕ) (e : Entry) : Type 0 where
    word : e.word < d.words
    clean : e.state ≢ DIRTY → e.«data» ≡ word_at s e.word
    owner : get_or owners e.word 0 ≢ 0 → get_or owners e.word 0 ≡ p + 1

  known : (p i kind : ℕ) (e : Entry) → p < 8 → CopyFits s.memory marks owners d.words kind e (place p i) → Known p e
  known p i kind e hp f = record {
    word = f.word;
    clean = λ n. sym (f.clean n);
    owner = λ n. f.owner n ∙ owner_of_lem p i hp;
  }

  copy_known : (p : ℕ) (e : Entry) → p < 8 → HasCopy s p e → Held e → Known p e
  copy_known p e hp c = by c.here
    where
      by : (line_at s p c.slot ≡ e) ⊎ (entry_at s p c.slot ≡ e) → Held e → Known p e
      by (inl q) =
          subst (λ f. Held f → Known p f) q
          (λ h. known p c.slot of_lines (line_at s p c.slot) hp (held_line p c.slot h).copy)
      by (inr q) =
          subst (λ f. Held f → Known p f) q
          (λ h. known p c.slot of_entries (entry_at s p c.slot) hp (held_entry p c.slot h).copy)

  copy_zero : (p : ℕ) (e : Entry) → HasCopy s p e → e.state ≡ INVALID → e ≡ no_entry
  copy_zero p e c = by c.here
    where
      by : (line_at s p c.slot ≡ e) ⊎ (entry_at s p c.slot ≡ e) → e.state ≡ INVALID → e ≡ no_entry
      by (inl q) =
          subst (λ f. f.state ≡ INVALID → f ≡ no_entry) q
          (none_zero (get_or s.lines (place p c.slot) 0) (λ n. (line_fits p c.slot n).held))
      by (inr q) =
          subst (λ f. f.state ≡ INVALID → f ≡ no_entry) q
          (none_zero (get_or s.entries (place p c.slot) 0) (λ n. (entry_fits p c.slot n).held))

  -- a copy RESERVED or DIRTY has left an owner of its word
  copy_owned : (p : ℕ) (e : Entry) → HasCopy s p e → RESERVED ≤ e.state → get_or owners e.word 0 ≢ 0
  copy_owned p e c = by c.here
    where
      by : (line_at s p c.slot ≡ e) ⊎ (entry_at s p c.slot ≡ e) → RESERVED ≤ e.state → get_or owners e.word 0 ≢ 0
      by (inl q) =
          subst (λ f. RESERVED ≤ f.state → get_or owners f.word 0 ≢ 0) q
          (λ h.
          line_owner s.lines s.entries (λ v. v ≢ 0) (line_at s p c.slot).word (omega arith) (λ k a o e z. omega arith)
          (λ k a o e z. omega arith) (place p c.slot) (place_in p c.slot) h refl)
      by (inr q) =
          subst (λ f. RESERVED ≤ f.state → get_or owners f.word 0 ≢ 0) q
          (λ h.
          entry_owner s.lines s.entries (λ v. v ≢ 0) (entry_at s p c.slot).word (omega arith) (λ k a o e z. omega arith)
          (place p c.slot) (place_in p c.slot) h refl)

  one_processor : (p q : ℕ) (e f : Entry) → p < 8 → q < 8 → p ≢ q → HasCopy s p e → HasCopy s q f → RESERVED ≤ e.state → Held f →
      f.word ≢ e.word
  one_processor p q e f hp hq n ce cf h hf w =
      let o = copy_owned p e ce h in
      let m : get_or owners e.word 0 ≡ p + 1 = (copy_known p e hp ce (λ z. omega arith)).owner o in
      let same : get_or owners f.word 0 ≡ get_or owners e.word 0 = ap (λ v. get_or owners v 0) w in
      let l : get_or owners f.word 0 ≡ q + 1 = (copy_known q f hq cf hf).owner (λ z. o (sym same ∙ z)) in
      n (omega (arith, m, same, l))

  -- one mark, one entry
  one_entry : (p i j : ℕ) → p < 8 → i < 64 → j < 64 → Held (entry_at s p i) → Held (entry_at s p j) →
      eqb (entry_at s p i).tag BACKUP ≡ eqb (entry_at s p j).tag BACKUP → (entry_at s p i).word ≡ (entry_at s p j).word → i ≡ j
  one_entry p i j hp hi hj a b k w =
      value_once of_entries p i j hi hj
      (sym (held_entry p i a).copy.mark ∙ ap (λ m. get_or marks m 0) (same_key (entry_at s p i) (entry_at s p j) p i j hp k w) ∙
      (held_entry p j b).copy.mark)

  one_main : (p i j : ℕ) → p < 8 → i < 64 → j < 64 → Held (entry_at s p i) → Held (entry_at s p j) → (entry_at s p i).tag ≢ BACKUP →
      (entry_at s p j).tag ≢ BACKUP → (entry_at s p i).word ≡ (entry_at s p j).word → i ≡ j
  one_main p i j hp hi hj a b m n w = one_entry p i j hp hi hj a b (ne_eqb _ _ m ∙ sym (ne_eqb _ _ n)) w

  line_apart : (p i j : ℕ) → p < 8 → Held (line_at s p i) → Held (entry_at s p j) → (entry_at s p j).tag ≢ BACKUP →
      (line_at s p i).word ≢ (entry_at s p j).word
  line_apart p i j hp a b n w =
      let f = held_line p i a in
      let main : eqb (line_at s p i).tag BACKUP ≡ eqb (entry_at s p j).tag BACKUP =
      ne_eqb (line_at s p i).tag BACKUP (λ z. omega (arith, f.tag, z)) ∙ sym (ne_eqb (entry_at s p j).tag BACKUP n) in
      value_kinds (place p i) (place p j)
      (sym f.copy.mark ∙ ap (λ m. get_or marks m 0) (same_key (line_at s p i) (entry_at s p j) p i j hp main w) ∙
      (held_entry p j b).copy.mark)

  -- the tentative entry that a backup's mark names
  record Found (p i : ℕ) : Type 0 where
    slot : ℕ
    inside : slot < 64
    fits : PartnerFits (entry_at s p i) (place p i) (entry_at s p slot) (place p slot)

  found : (p i : ℕ) → p < 8 → (entry_at s p i).tag ≡ BACKUP → Found p i
  found p i hp g =
      let f = (tagged_entry p i BACKUP g (λ z. omega arith)).partner g in
      let k = partner_place marks (entry_at s p i) (place p i) in
      record {
        slot = k % 64;
        inside = omega arith;
        fits = subst (λ l. PartnerFits (entry_at s p i) (place p i) (unpack (get_or s.entries l 0)) l)
            (sym (place_of p k (omega arith) (f.processor ∙ place_processor p i hp))) f;
      }

  below : (p i j : ℕ) → p < 8 → j < 64 → (entry_at s p i).tag ≡ BACKUP → (entry_at s p j).tag ≡ TENTATIVE →
      (entry_at s p i).word ≡ (entry_at s p j).word → (entry_at s p i).state ≤ (entry_at s p j).state
  below p i j hp hj b g w =
      let r = found p i hp b in
      let m = tagged_entry p r.slot TENTATIVE r.fits.tag (λ z. omega arith) in
      let e : r.slot ≡ j =
      one_main p r.slot j hp r.inside hj m.held (tagged_entry p j TENTATIVE g (λ z. omega arith)).held
      (λ z. omega (arith, r.fits.tag, z)) (λ z. omega (arith, g, z)) (r.fits.word ∙ w) in
      subst (λ k. (entry_at s p i).state ≤ (entry_at s p k).state) e r.fits.state

  line_coded : (p i : ℕ) → (get_or s.lines (place p i) 0 < packed_end) × ((line_at s p i).tag ≡ INVALID)
  line_coded p i = by (ℕ_discrete (get_or s.lines (place p i) 0) 0)
    where
      by : Dec (get_or s.lines (place p i) 0 ≡ 0) → (get_or s.lines (place p i) 0 < packed_end) × ((line_at s p i).tag ≡ INVALID)
      by (yes e) = (omega (arith, e), ap (λ y. (unpack y).tag) e)
      by (no n) = ((line_fits p i n).code, (line_fits p i n).tag)

  entry_coded : (p i : ℕ) → get_or s.entries (place p i) 0 < packed_end
  entry_coded p i = by (ℕ_discrete (get_or s.entries (place p i) 0) 0)
    where
      by : Dec (get_or s.entries (place p i) 0 ≡ 0) → get_or s.entries (place p i) 0 < packed_end
      by (yes e) = omega (arith, e)
      by (no n) = (entry_fits p i n).code

  flag_past : (j : ℕ) → j < 16 → d.processors ≤ j % 8 → get_or s.flags j 0 ≡ 0
  flag_past j h l = (t.flags j h).1 l

  flag_coded : (j : ℕ) → j < 16 → get_or s.flags j 0 ≤ 1
  flag_coded j h = by (dec_lt (j % 8) d.processors)
    where
      by : Dec (j % 8 < d.processors) → get_or s.flags j 0 ≤ 1
      by (yes l) = (t.flags j h).0 l
      by (no l) = omega (arith, (t.flags j h).1 (omega arith))

  tentative_up : (p i : ℕ) → (entry_at s p i).tag ≡ TENTATIVE → (active_flag s.flags p ≡ 1) × (status_flag s.flags p ≡ 1)
  tentative_up p i g =
      let u = (tagged_entry p i TENTATIVE g (λ z. omega arith)).up g in
      let e : place p i / 64 % 8 ≡ p % 8 = omega arith in
      (subst (λ k. get_or s.flags k 0 ≡ 1) e u.0, subst (λ k. get_or s.flags (8 + k) 0 ≡ 1) e u.1)

  pub holds : Sound d s
  holds = record {
    lengths = t.lengths;
    dimensions = t.dimensions;
    line_inside = λ p i hp hi h. let f = held_line p i h in
        (omega (arith, f.processor, place_processor p i hp), omega (arith, f.slot, place_slot p i hi));
    entry_inside = λ p i hp hi h. let f = held_entry p i h in
        (omega (arith, f.processor, place_processor p i hp), omega (arith, f.slot, place_slot p i hi));
    flags_inside = λ p hp l. (flag_past (active_place p) (omega arith) (omega arith), flag_past (status_place p) (omega arith) (omega arith));
    memory_inside = λ word h l. t.memory word l h;
    line_codes = λ p i hp hi. line_coded p i;
    entry_codes = λ p i hp hi. entry_coded p i;
    flag_codes = λ p hp. (flag_coded (active_place p) (omega arith), flag_coded (status_place p) (omega arith));
    words = λ p e hp c h. (copy_known p e hp c h).word;
    home = λ p i hp hi h. (held_line p i h).home ∙ place_slot p i hi;
    together = λ p i hp hi h. (held_entry p i h).tag;
    zero = λ p e hp c. copy_zero p e c;
    regular_or_other = λ p i j hp hi hj. line_apart p i j hp;
    one_main = one_main;
    one_backup = λ p i j hp hi hj a b m n w. one_entry p i j hp hi hj a b (eq-eqb _ _ m ∙ sym (eq-eqb _ _ n)) w;
    backup_needs = λ p i hp hi h g. let r = found p i hp g in
        record { slot = r.slot; inside = r.inside; tag = r.fits.tag; word = r.fits.word };
    tentative_flags = λ p i hp hi g. tentative_up p i g;
    exclusive = λ p q e f hp hq n ce cf h. one_processor p q e f hp hq n ce cf (leb-true RESERVED e.state h);
    clean = λ p e hp c h. (copy_known p e hp c h).clean;
    backup_below = λ p i j hp hi hj. below p i j hp hj;
  }
