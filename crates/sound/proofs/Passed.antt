-- A sound state passes the test. Assumes nothing.
use mathlib.Core.Path.{◌≡◌, refl, sym, ◌∙◌, ap, subst}
use mathlib.Core.Logic.{inl, inr, ◌≢◌}
use mathlib.Core.List.{List}
use Prim.Native.Nat.{ℕ, ◌+◌, ◌*◌, ◌/◌, ◌%◌, ◌<◌, ◌≤◌}
use native.Mathlib.Omega.{arith}
use native.Mathlib.Decide.{ℕ_discrete, dec_lt}
use lib.Dec.{eqb}
use lib.ListN.{get_or}
use borrow.Author.Tests.{eq-eqb, ne_eqb, eqb-true, eqb-false, le-leb}
use Rattle.entry.specs.declared.Entry.{Entry}
use Rattle.entry.specs.Numbers.{RESERVED, BACKUP, TENTATIVE}
use Rattle.entry.specs.Packing.{unpack, unpack_zero}
use Rattle.rules.specs.declared.Dims.{Dims}
use Rattle.rules.specs.declared.Caches.{Caches}
use Rattle.rules.specs.State.{place, line_at, entry_at, active_place, status_place}
use Rattle.rules.specs.Sound.{Held, HasCopy, Sound}
use Rattle.rules.specs.SoundTest.{of_lines, of_entries, mark_key, mark_value, marks_of, owner_of, owners_of, partner_place}
use Rattle.sound.proofs.Places.{place_in, place_processor, place_slot, each_place}
use Rattle.sound.proofs.Keys.{key_small, key_same, partner_key, value_place, owner_of_lem}
use Rattle.sound.proofs.Passes.{Filled, key_at, Owning, word_of, line_mark, entry_mark, owner_all}
use Rattle.sound.proofs.Tested.{CopyFits, LineFits, EntryFits, PartnerFits, Tested, few_words}

module _ (d : Dims) (s : Caches) (h : Sound d s) where
  abbrev marks : List ℕ
  marks = marks_of s.lines s.entries

  abbrev owners : List ℕ
  owners = owners_of s.lines s.entries

  line_copy : (p i : ℕ) → i < 64 → HasCopy s p (line_at s p i)
  line_copy p i hi = record { slot = i; inside = hi; here = inl refl }

  entry_copy : (p i : ℕ) → i < 64 → HasCopy s p (entry_at s p i)
  entry_copy p i hi = record { slot = i; inside = hi; here = inr refl }

  -- a place that is not 0 holds a copy
  line_held : (p i : ℕ) → p < 8 → i < 64 → Filled s.lines (place p i) → Held (line_at s p i)
  line_held p i hp hi n z =
      n (unpack_zero (get_or s.lines (place p i) 0) (h.line_codes p i hp hi).0 (h.zero p (line_at s p i) hp (line_copy p i hi) z))

  entry_held : (p i : ℕ) → p < 8 → i < 64 → Filled s.entries (place p i) → Held (entry_at s p i)
  entry_held p i hp hi n z =
      n (unpack_zero (get_or s.entries (place p i) 0) (h.entry_codes p i hp hi) (h.zero p (entry_at s p i) hp (entry_copy p i hi) z))

  -- the owner of a copy's word is its processor
  same_owner : (p q : ℕ) (e f : Entry) → p < 8 → q < 8 → HasCopy s p e → Held e → HasCopy s q f → RESERVED ≤ f.state → f.word ≡ e.word → q ≡ p
  same_owner p q e f hp hq ce he cf o w = by (ℕ_discrete q p)
    where
      by : Dec (q ≡ p) → q ≡ p
      by (yes z) = z
      by (no n) = absurd (h.exclusive q p f e hq hp n cf ce (le-leb RESERVED f.state o) he (sym w))

  owned : (p : ℕ) (e : Entry) → p < 8 → HasCopy s p e → Held e → get_or owners e.word 0 ≢ 0 → get_or owners e.word 0 ≡ p + 1
  owned p e hp c held =
      owner_all s.lines s.entries (λ v. v ≢ 0 → v ≡ p + 1) e.word
      (omega (arith, h.words p e hp c held, few_words d h.dimensions)) (λ n. absurd (n refl))
      (each_place (λ k. Owning s.lines k → word_of s.lines k ≡ e.word → owner_of k ≢ 0 → owner_of k ≡ p + 1)
      (λ q m hq hm o w n.
      owner_of_lem q m hq ∙ ap (λ r. r + 1) (same_owner p q e (line_at s q m) hp hq c held (line_copy q m hm) o w)))
      (each_place (λ k. Owning s.entries k → word_of s.entries k ≡ e.word → owner_of k ≢ 0 → owner_of k ≡ p + 1)
      (λ q m hq hm o w n.
      owner_of_lem q m hq ∙ ap (λ r. r + 1) (same_owner p q e (entry_at s q m) hp hq c held (entry_copy q m hm) o w)))

  -- no other line, and no entry but a backup, has a line's word
  one_line : (p i j : ℕ) → p < 8 → i < 64 → j < 64 → Held (line_at s p i) → Held (line_at s p j) →
      (line_at s p i).word ≡ (line_at s p j).word → i ≡ j
  one_line p i j hp hi hj a b w = sym (h.home p i hp hi a) ∙ ap (λ v. v % d.lines) w ∙ h.home p j hp hj b

  line_main : (p i : ℕ) → p < 8 → i < 64 → eqb (line_at s p i).tag BACKUP ≡ eqb 0 BACKUP
  line_main p i hp hi = ap (λ t. eqb t BACKUP) (h.line_codes p i hp hi).1

  one_entry : (p i j : ℕ) → p < 8 → i < 64 → j < 64 → Held (entry_at s p i) → Held (entry_at s p j) →
      eqb (entry_at s p i).tag BACKUP ≡ eqb (entry_at s p j).tag BACKUP → (entry_at s p i).word ≡ (entry_at s p j).word → i ≡ j
  one_entry p i j hp hi hj a b k w = by (ℕ_discrete (entry_at s p i).tag BACKUP)
    where
      by : Dec ((entry_at s p i).tag ≡ BACKUP) → i ≡ j
      by (yes e) = h.one_backup p i j hp hi hj a b e (eqb-true _ _ (sym k ∙ eq-eqb _ _ e)) w
      by (no n) = h.one_main p i j hp hi hj a b n (eqb-false _ _ (sym k ∙ ne_eqb _ _ n)) w

  -- so each copy finds its own mark
  line_marked : (p i : ℕ) → p < 8 → i < 64 → Filled s.lines (place p i) →
      get_or marks (key_at s.lines (place p i)) 0 ≡ mark_value of_lines (place p i)
  line_marked p i hp hi n =
      line_mark s.lines s.entries (λ v. v ≡ mark_value of_lines (place p i)) (key_at s.lines (place p i))
      (key_small (line_at s p i) p i hp (omega arith))
      (each_place
      (λ k. Filled s.lines k → key_at s.lines k ≡ key_at s.lines (place p i) → mark_value of_lines k ≡ mark_value of_lines (place p i))
      (λ q m hq hm z e.
      let k = key_same (line_at s q m) (line_at s p i) q p m i hq hp (omega arith) (omega arith) e in
      ap (mark_value of_lines)
      (subst (λ r. Filled s.lines (place r m) → (line_at s r m).word ≡ (line_at s p i).word → place r m ≡ place p i) (sym k.0)
      (λ z w. ap (place p) (one_line p m i hp hm hi (line_held p m hp hm z) (line_held p i hp hi n) w)) z k.2)))
      (each_place
      (λ k. Filled s.entries k → key_at s.entries k ≡ key_at s.lines (place p i) → mark_value of_entries k ≡ mark_value of_lines (place p i))
      (λ q m hq hm z e.
      let k = key_same (entry_at s q m) (line_at s p i) q p m i hq hp (omega arith) (omega arith) e in
      absurd
      (subst
      (λ r. Filled s.entries (place r m) → eqb (entry_at s r m).tag BACKUP ≡ eqb (line_at s p i).tag BACKUP →
      (entry_at s r m).word ≡ (line_at s p i).word → ⊥)
      (sym k.0)
      (λ z b w.
      h.regular_or_other p i m hp hi hm (line_held p i hp hi n) (entry_held p m hp hm z)
      (eqb-false (entry_at s p m).tag BACKUP (b ∙ line_main p i hp hi)) (sym w)) z k.1 k.2)))
      (place p i) (place_in p i) n refl

  entry_marked : (p i : ℕ) → p < 8 → i < 64 → Filled s.entries (place p i) →
      get_or marks (key_at s.entries (place p i)) 0 ≡ mark_value of_entries (place p i)
  entry_marked p i hp hi n =
      entry_mark s.lines s.entries (λ v. v ≡ mark_value of_entries (place p i)) (key_at s.entries (place p i))
      (key_small (entry_at s p i) p i hp (omega arith))
      (each_place
      (λ k. Filled s.entries k → key_at s.entries k ≡ key_at s.entries (place p i) →
      mark_value of_entries k ≡ mark_value of_entries (place p i))
      (λ q m hq hm z e.
      let k = key_same (entry_at s q m) (entry_at s p i) q p m i hq hp (omega arith) (omega arith) e in
      ap (mark_value of_entries)
      (subst
      (λ r. Filled s.entries (place r m) → eqb (entry_at s r m).tag BACKUP ≡ eqb (entry_at s p i).tag BACKUP →
      (entry_at s r m).word ≡ (entry_at s p i).word → place r m ≡ place p i)
      (sym k.0)
      (λ z b w. ap (place p) (one_entry p m i hp hm hi (entry_held p m hp hm z) (entry_held p i hp hi n) b w)) z k.1 k.2)))
      (place p i) (place_in p i) n refl

  copy_fits : (p i kind : ℕ) (e : Entry) → p < 8 → HasCopy s p e → Held e → get_or marks (mark_key e (place p i)) 0 ≡ mark_value kind (place p i) →
      CopyFits s.memory marks owners d.words kind e (place p i)
  copy_fits p i kind e hp c held mark = record {
    word = h.words p e hp c held;
    clean = λ n. sym (h.clean p e hp c held n);
    owner = λ n. owned p e hp c held n ∙ sym (owner_of_lem p i hp);
    mark = mark;
  }

  line_fits : (p i : ℕ) → p < 8 → i < 64 → Filled s.lines (place p i) →
      LineFits s.memory marks owners d (get_or s.lines (place p i) 0) (place p i)
  line_fits p i hp hi n =
      let held = line_held p i hp hi n in
      let inside = h.line_inside p i hp hi held in
      record {
        processor = rw (place_processor p i hp) inside.0;
        slot = rw (place_slot p i hi) inside.1;
        code = (h.line_codes p i hp hi).0;
        tag = (h.line_codes p i hp hi).1;
        held = held;
        home = h.home p i hp hi held ∙ sym (place_slot p i hi);
        copy = copy_fits p i of_lines (line_at s p i) hp (line_copy p i hi) held (line_marked p i hp hi n);
      }

  -- the mark of a backup's word is its tentative entry's
  partner_place_lem : (p i j : ℕ) → p < 8 → j < 64 → (entry_at s p j).tag ≡ TENTATIVE → (entry_at s p j).word ≡ (entry_at s p i).word →
      partner_place marks (entry_at s p i) (place p i) ≡ place p j
  partner_place_lem p i j hp hj t w =
      value_place (get_or marks (place p i / 64 % 8 * 512 + (entry_at s p i).word) 0) (place p j) (place_in p j)
      (ap (λ k. get_or marks k 0) (partner_key (entry_at s p j) p (entry_at s p i).word i j hp t w) ∙ entry_marked p j hp hj filled)
    where
      filled : Filled s.entries (place p j)
      filled e = let z : (entry_at s p j).tag ≡ 0 = ap (λ y. (unpack y).tag) e in omega (arith, t, z)

  partner_fits : (p i : ℕ) → p < 8 → i < 64 → Held (entry_at s p i) → (entry_at s p i).tag ≡ BACKUP →
      PartnerFits (entry_at s p i) (place p i) (unpack (get_or s.entries (partner_place marks (entry_at s p i) (place p i)) 0))
      (partner_place marks (entry_at s p i) (place p i))
  partner_fits p i hp hi held b =
      let r = h.backup_needs p i hp hi held b in
      subst (λ k. PartnerFits (entry_at s p i) (place p i) (unpack (get_or s.entries k 0)) k)
      (sym (partner_place_lem p i r.slot hp r.inside r.tag r.word))
      (record {
        processor = place_processor p r.slot hp ∙ sym (place_processor p i hp);
        tag = r.tag;
        word = r.word;
        state = h.backup_below p i r.slot hp hi r.inside b r.tag (sym r.word);
      })

  entry_fits : (p i : ℕ) → p < 8 → i < 64 → Filled s.entries (place p i) →
      EntryFits s.memory marks owners s.entries s.flags d (get_or s.entries (place p i) 0) (place p i)
  entry_fits p i hp hi n =
      let held = entry_held p i hp hi n in
      let inside = h.entry_inside p i hp hi held in
      let e : place p i / 64 % 8 ≡ p % 8 = omega arith in
      record {
        processor = rw (place_processor p i hp) inside.0;
        slot = rw (place_slot p i hi) inside.1;
        code = h.entry_codes p i hp hi;
        tag = h.together p i hp hi held;
        held = held;
        up = λ t. let u = h.tentative_flags p i hp hi t in (rw e u.0, rw e u.1);
        partner = λ b. partner_fits p i hp hi held b;
        copy = copy_fits p i of_entries (entry_at s p i) hp (entry_copy p i hi) held (entry_marked p i hp hi n);
      }

  flag_fits : (j : ℕ) → j < 16 → (j % 8 < d.processors → get_or s.flags j 0 ≤ 1) × (d.processors ≤ j % 8 → get_or s.flags j 0 ≡ 0)
  flag_fits j l = by (dec_lt j 8)
    where
      by : Dec (j < 8) → (j % 8 < d.processors → get_or s.flags j 0 ≤ 1) × (d.processors ≤ j % 8 → get_or s.flags j 0 ≡ 0)
      by (yes a) =
          let e : active_place (j % 8) ≡ j = omega arith in (
            λ k. subst (λ m. get_or s.flags m 0 ≤ 1) e (h.flag_codes (j % 8) (omega arith)).0,
            λ k. subst (λ m. get_or s.flags m 0 ≡ 0) e (h.flags_inside (j % 8) (omega arith) k).0,
          )
      by (no a) =
          let e : status_place (j % 8) ≡ j = omega arith in (
            λ k. subst (λ m. get_or s.flags m 0 ≤ 1) e (h.flag_codes (j % 8) (omega arith)).1,
            λ k. subst (λ m. get_or s.flags m 0 ≡ 0) e (h.flags_inside (j % 8) (omega arith) k).1,
          )

  pub passed : Tested d s
  passed = record {
    lengths = h.lengths;
    dimensions = h.dimensions;
    flags = flag_fits;
    memory = λ w a b. h.memory_inside w b a;
    lines = each_place (λ j. Filled s.lines j → LineFits s.memory marks owners d (get_or s.lines j 0) j) line_fits;
    entries = each_place
        (λ j. Filled s.entries j → EntryFits s.memory marks owners s.entries s.flags d (get_or s.entries j 0) j) entry_fits;
  }
