-- "Sound states": one field for each clause, in document 01's order. The test that the code makes of it is in SoundTest.
use Rattle.std.specs.Prelude.{◌≡◌, true, ◌⊎◌, ◌≢◌, ℕ, ◌%◌, ◌<◌, ◌≤◌, length, get_or}
use Rattle.entry.specs.declared.Entry.{Entry}
use Rattle.entry.specs.Numbers.{INVALID, DIRTY, BACKUP, TENTATIVE}
use Rattle.entry.specs.Entry.{reserved_or_dirty}
use Rattle.entry.specs.Packing.{packed_end, no_entry}
use Rattle.rules.specs.declared.Dims.{Dims}
use Rattle.rules.specs.declared.Caches.{Caches}
use Rattle.rules.specs.State.{place, line_at, entry_at, word_at, active_flag, status_flag, true_flag}
use Rattle.rules.specs.Making.{dims_refusal}
use Rattle.entry.specs.Refusals.{accepted}

-- the arrays' lengths
pub record Lengths (s : Caches) : Type 0 where
  pub memory : length s.memory ≡ 256
  pub lines : length s.lines ≡ 512
  pub entries : length s.entries ≡ 512
  pub flags : length s.flags ≡ 16

-- no invalid line or entry
abbrev pub Held : Entry → Type 0
Held e = e.state ≢ INVALID

-- e is one of p's regular lines or transactional entries
pub record HasCopy (s : Caches) (p : ℕ) (e : Entry) : Type 0 where
  pub slot : ℕ
  pub inside : slot < 64
  pub here : (line_at s p slot ≡ e) ⊎ (entry_at s p slot ≡ e)

-- the tentative entry of the same word
pub record Tentative (s : Caches) (p w : ℕ) : Type 0 where
  pub slot : ℕ
  pub inside : slot < 64
  pub tag : (entry_at s p slot).tag ≡ TENTATIVE
  pub word : (entry_at s p slot).word ≡ w

pub record Sound (d : Dims) (s : Caches) : Type 0 where
  -- "dimensions, codes and words are in range": the dimensions are a machine's, and what stands outside them is 0
  pub lengths : Lengths s
  pub dimensions : dims_refusal d ≡ accepted
  pub line_inside : (p i : ℕ) → p < 8 → i < 64 → Held (line_at s p i) → (p < d.processors) × (i < d.lines)
  pub entry_inside : (p i : ℕ) → p < 8 → i < 64 → Held (entry_at s p i) → (p < d.processors) × (i < d.entries)
  pub flags_inside : (p : ℕ) → p < 8 → d.processors ≤ p → (active_flag s.flags p ≡ 0) × (status_flag s.flags p ≡ 0)
  pub memory_inside : (word : ℕ) → word < 256 → d.words ≤ word → word_at s word ≡ 0
  pub line_codes : (p i : ℕ) → p < 8 → i < 64 → (get_or s.lines (place p i) 0 < packed_end) × ((line_at s p i).tag ≡ INVALID)
  pub entry_codes : (p i : ℕ) → p < 8 → i < 64 → get_or s.entries (place p i) 0 < packed_end
  pub flag_codes : (p : ℕ) → p < 8 → (active_flag s.flags p ≤ true_flag) × (status_flag s.flags p ≤ true_flag)
  pub words : (p : ℕ) (e : Entry) → p < 8 → HasCopy s p e → Held e → e.word < d.words
  -- "a regular line holds only its own words"
  pub home : (p i : ℕ) → p < 8 → i < 64 → Held (line_at s p i) → (line_at s p i).word % d.lines ≡ i
  -- "transactional state and tag are INVALID together"
  pub together : (p i : ℕ) → p < 8 → i < 64 → Held (entry_at s p i) → (entry_at s p i).tag ≢ INVALID
  -- "an invalid line or entry is zero throughout"
  pub zero : (p : ℕ) (e : Entry) → p < 8 → HasCopy s p e → e.state ≡ INVALID → e ≡ no_entry
  -- "within a processor a word has at most one entry among regular, NORMAL and tentative"
  pub regular_or_other : (p i j : ℕ) → p < 8 → i < 64 → j < 64 → Held (line_at s p i) → Held (entry_at s p j) →
      (entry_at s p j).tag ≢ BACKUP → (line_at s p i).word ≢ (entry_at s p j).word
  pub one_main : (p i j : ℕ) → p < 8 → i < 64 → j < 64 → Held (entry_at s p i) → Held (entry_at s p j) →
      (entry_at s p i).tag ≢ BACKUP → (entry_at s p j).tag ≢ BACKUP → (entry_at s p i).word ≡ (entry_at s p j).word → i ≡ j
  -- "and at most one backup"
  pub one_backup : (p i j : ℕ) → p < 8 → i < 64 → j < 64 → Held (entry_at s p i) → Held (entry_at s p j) →
      (entry_at s p i).tag ≡ BACKUP → (entry_at s p j).tag ≡ BACKUP → (entry_at s p i).word ≡ (entry_at s p j).word → i ≡ j
  -- "which needs a tentative entry"
  pub backup_needs : (p i : ℕ) → p < 8 → i < 64 → Held (entry_at s p i) → (entry_at s p i).tag ≡ BACKUP →
      Tentative s p (entry_at s p i).word
  -- "tentative entries exist only with TACTIVE and TSTATUS true"
  pub tentative_flags : (p i : ℕ) → p < 8 → i < 64 → (entry_at s p i).tag ≡ TENTATIVE →
      (active_flag s.flags p ≡ true_flag) × (status_flag s.flags p ≡ true_flag)
  -- "RESERVED or DIRTY anywhere means no other processor has the word"
  pub exclusive : (p q : ℕ) (e f : Entry) → p < 8 → q < 8 → p ≢ q → HasCopy s p e → HasCopy s q f →
      reserved_or_dirty e.state ≡ true → Held f → f.word ≢ e.word
  -- "VALID and RESERVED data equal memory"
  pub clean : (p : ℕ) (e : Entry) → p < 8 → HasCopy s p e → Held e → e.state ≢ DIRTY → e.«data» ≡ word_at s e.word
  -- "a backup's state is not above its tentative entry's (VALID, RESERVED, DIRTY ascending)"
  pub backup_below : (p i j : ℕ) → p < 8 → i < 64 → j < 64 → (entry_at s p i).tag ≡ BACKUP → (entry_at s p j).tag ≡ TENTATIVE →
      (entry_at s p i).word ≡ (entry_at s p j).word → (entry_at s p i).state ≤ (entry_at s p j).state
