-- What the test decides of a state, place by place. Assumes nothing.
use mathlib.Core.Path.{◌≡◌, refl}
use mathlib.Core.Logic.{◌≢◌}
use mathlib.Core.Bool.{Bool, true, false}
use mathlib.Core.List.{List}
use Prim.Native.Nat.{ℕ, ◌+◌, ◌/◌, ◌%◌, ◌<◌, ◌≤◌}
use native.Mathlib.Omega.{arith}
use lib.Dec.{leb}
use lib.ListN.{length, get_or}
use borrow.Author.Tests.{leb-true}
use Rattle.laws.specs.Choice.{pick, both_right}
use Rattle.entry.specs.declared.Entry.{Entry}
use Rattle.entry.specs.Numbers.{INVALID, DIRTY, BACKUP, TENTATIVE}
use Rattle.entry.specs.Packing.{packed_end, unpack}
use Rattle.rules.specs.declared.Dims.{Dims}
use Rattle.rules.specs.declared.Caches.{Caches}
use Rattle.rules.specs.Making.{within, dims_refusal}
use Rattle.entry.specs.Refusals.{accepted}
use Rattle.rules.specs.Sound.{Lengths}
use Rattle.rules.specs.SoundTest.{of_lines, of_entries, mark_key, mark_value, marks_of, owner_of, owners_of}
use Rattle.rules.specs.SoundTest.{copy_ok, is_home, line_ok, flags_up, partner_place, is_partner, backup_ok, entry_ok}
use Rattle.rules.specs.SoundTest.{lines_ok, entries_ok, flags_ok, memory_ok, copies_ok, sound_of}
use Rattle.std.specs.Bool.{Decides}
use Rattle.std.proofs.lemmas.Bool.Decides.{Decides-eqb, Decides-ltb, Decides-not, Decides-and, Decides-like}
use Rattle.sound.proofs.Reflect.{Decides-leb, Decides-both_then, Decides-unless, Decides-when, Decides-below, Decides-every}

-- of the copy e at place j
pub record CopyFits (memory marks owners : List ℕ) (words kind : ℕ) (e : Entry) (j : ℕ) : Type 0 where
  pub word : e.word < words
  pub clean : e.state ≢ DIRTY → get_or memory e.word 0 ≡ e.«data»
  pub owner : get_or owners e.word 0 ≢ 0 → get_or owners e.word 0 ≡ owner_of j
  pub mark : get_or marks (mark_key e j) 0 ≡ mark_value kind j

-- of the line x at place j
pub record LineFits (memory marks owners : List ℕ) (d : Dims) (x j : ℕ) : Type 0 where
  pub processor : j / 64 < d.processors
  pub slot : j % 64 < d.lines
  pub code : x < packed_end
  pub tag : (unpack x).tag ≡ INVALID
  pub held : (unpack x).state ≢ INVALID
  pub home : (unpack x).word % d.lines ≡ j % 64
  pub copy : CopyFits memory marks owners d.words of_lines (unpack x) j

-- of the entry f at place k, which is the tentative one of the backup e at place j
pub record PartnerFits (e : Entry) (j : ℕ) (f : Entry) (k : ℕ) : Type 0 where
  pub processor : k / 64 ≡ j / 64
  pub tag : f.tag ≡ TENTATIVE
  pub word : f.word ≡ e.word
  pub state : e.state ≤ f.state

-- of the entry x at place j
pub record EntryFits (memory marks owners entries flags : List ℕ) (d : Dims) (x j : ℕ) : Type 0 where
  pub processor : j / 64 < d.processors
  pub slot : j % 64 < d.entries
  pub code : x < packed_end
  pub tag : (unpack x).tag ≢ INVALID
  pub held : (unpack x).state ≢ INVALID
  pub up : (unpack x).tag ≡ TENTATIVE → (get_or flags (j / 64 % 8) 0 ≡ 1) × (get_or flags (8 + j / 64 % 8) 0 ≡ 1)
  pub partner : (unpack x).tag ≡ BACKUP →
      PartnerFits (unpack x) j (unpack (get_or entries (partner_place marks (unpack x) j) 0)) (partner_place marks (unpack x) j)
  pub copy : CopyFits memory marks owners d.words of_entries (unpack x) j

pub record Tested (d : Dims) (s : Caches) : Type 0 where
  pub lengths : Lengths s
  pub dimensions : dims_refusal d ≡ accepted
  pub flags : (j : ℕ) → j < 16 →
      (j % 8 < d.processors → get_or s.flags j 0 ≤ 1) × (d.processors ≤ j % 8 → get_or s.flags j 0 ≡ 0)
  pub memory : (w : ℕ) → d.words ≤ w → w < 256 → get_or s.memory w 0 ≡ 0
  pub lines : (j : ℕ) → j < 512 → get_or s.lines j 0 ≢ 0 →
      LineFits s.memory (marks_of s.lines s.entries) (owners_of s.lines s.entries) d (get_or s.lines j 0) j
  pub entries : (j : ℕ) → j < 512 → get_or s.entries j 0 ≢ 0 →
      EntryFits s.memory (marks_of s.lines s.entries) (owners_of s.lines s.entries) s.entries s.flags d
      (get_or s.entries j 0) j

Decides-partner : (e : Entry) (j : ℕ) (f : Entry) (k : ℕ) → Decides (is_partner e j f k) (PartnerFits e j f k)
Decides-partner e j f k =
    Decides-like _
    (λ t. record { processor = t.0; tag = t.1.0; word = t.1.1.0; state = t.1.1.1 })
    (λ f. (f.processor, (f.tag, (f.word, f.state))))
    (Decides-and _ _ (Decides-eqb (k / 64) (j / 64))
    (Decides-and _ _ (Decides-eqb f.tag TENTATIVE) (Decides-and _ _ (Decides-eqb f.word e.word) (Decides-leb e.state f.state))))

module _ (memory marks owners : List ℕ) where
  Decides-copy : (words kind : ℕ) (e : Entry) (j : ℕ) →
      Decides (copy_ok memory marks owners words kind e j) (CopyFits memory marks owners words kind e j)
  unfolding copy_ok
  Decides-copy words kind e j =
      Decides-like _
      (λ t. record { word = t.0; clean = t.1.0; owner = t.1.1.0; mark = t.1.1.1 })
      (λ f. (f.word, (f.clean, (f.owner, f.mark))))
      (Decides-and _ _ (Decides-ltb e.word words)
      (Decides-and _ _ (Decides-unless e.state DIRTY (Decides-eqb (get_or memory e.word 0) e.«data»))
      (Decides-and _ _ (Decides-unless (get_or owners e.word 0) 0 (Decides-eqb (get_or owners e.word 0) (owner_of j)))
      (Decides-eqb (get_or marks (mark_key e j) 0) (mark_value kind j)))))

  Decides-line : (d : Dims) (x j : ℕ) → Decides (line_ok memory marks owners d x j) (x ≢ 0 → LineFits memory marks owners d x j)
  unfolding line_ok is_home
  Decides-line d x j =
      Decides-unless x 0
      (Decides-like _
      (λ t. record {
        processor = t.0;
        slot = t.1.0;
        code = t.1.1.0;
        tag = t.1.1.1.0;
        held = t.1.1.1.1.0;
        home = t.1.1.1.1.1.0;
        copy = t.1.1.1.1.1.1;
      })
      (λ f. (f.processor, (f.slot, (f.code, (f.tag, (f.held, (f.home, f.copy)))))))
      (Decides-and _ _ (Decides-ltb (j / 64) d.processors)
      (Decides-and _ _ (Decides-ltb (j % 64) d.lines)
      (Decides-and _ _ (Decides-ltb x packed_end)
      (Decides-and _ _ (Decides-eqb (unpack x).tag INVALID)
      (Decides-and _ _ (Decides-not _ (Decides-eqb (unpack x).state INVALID))
      (Decides-and _ _ (Decides-eqb ((unpack x).word % d.lines) (j % 64)) (Decides-copy d.words of_lines (unpack x) j))))))))

  Decides-entry : (entries flags : List ℕ) (d : Dims) (x j : ℕ) →
      Decides (entry_ok memory marks owners entries flags d x j) (x ≢ 0 → EntryFits memory marks owners entries flags d x j)
  unfolding entry_ok flags_up backup_ok
  Decides-entry entries flags d x j =
      let k = partner_place marks (unpack x) j in
      Decides-unless x 0
      (Decides-like _
      (λ t. record {
        processor = t.0;
        slot = t.1.0;
        code = t.1.1.0;
        tag = t.1.1.1.0;
        held = t.1.1.1.1.0;
        up = t.1.1.1.1.1.0;
        partner = t.1.1.1.1.1.1.0;
        copy = t.1.1.1.1.1.1.1;
      })
      (λ f. (f.processor, (f.slot, (f.code, (f.tag, (f.held, (f.up, (f.partner, f.copy))))))))
      (Decides-and _ _ (Decides-ltb (j / 64) d.processors)
      (Decides-and _ _ (Decides-ltb (j % 64) d.entries)
      (Decides-and _ _ (Decides-ltb x packed_end)
      (Decides-and _ _ (Decides-not _ (Decides-eqb (unpack x).tag INVALID))
      (Decides-and _ _ (Decides-not _ (Decides-eqb (unpack x).state INVALID))
      (Decides-and _ _
      (Decides-when (unpack x).tag TENTATIVE
      (Decides-and _ _ (Decides-eqb (get_or flags (j / 64 % 8) 0) 1) (Decides-eqb (get_or flags (8 + j / 64 % 8) 0) 1)))
      (Decides-and _ _
      (Decides-when (unpack x).tag BACKUP (Decides-partner (unpack x) j (unpack (get_or entries k 0)) k))
      (Decides-copy d.words of_entries (unpack x) j)))))))))

-- dimensions that are not refused leave the words within memory
pub few_words : (d : Dims) → dims_refusal d ≡ accepted → d.words ≤ 256
unfolding dims_refusal
few_words d e =
    leb-true d.words 256
    (both_right (leb 1 d.words) (leb d.words 256) (passed (within d.processors 8) (within d.words 256) _ e))
  where
    passed : (a b : Bool) (n : ℕ) → pick a (pick b n 2) 1 ≡ 0 → b ≡ true
    passed true true n e = refl
    passed true false n e = absurd (omega arith)
    passed false b n e = absurd (omega arith)

pub tested : (d : Dims) (s : Caches) → Decides (sound_of d s) (Tested d s)
unfolding sound_of flags_ok memory_ok copies_ok lines_ok entries_ok
tested d s =
    let marks = marks_of s.lines s.entries in
    let owners = owners_of s.lines s.entries in
    Decides-like _
    (λ t. record {
      lengths = record { memory = t.0.0; lines = t.0.1.0; entries = t.0.1.1.0; flags = t.0.1.1.1 };
      dimensions = t.1.0;
      flags = λ j h. t.1.1.0 j (omega arith) h;
      memory = t.1.1.1.0;
      lines = λ j h. t.1.1.1.1.0 j (omega arith) h;
      entries = λ j h. t.1.1.1.1.1 j (omega arith) h;
    })
    (λ f. (
      (f.lengths.memory, (f.lengths.lines, (f.lengths.entries, f.lengths.flags))),
      (
        f.dimensions,
        ((λ j a h. f.flags j h), (f.memory, ((λ j a h. f.lines j h), (λ j a h. f.entries j h)))),
      ),
    ))
    (Decides-and _ _
    (Decides-and _ _ (Decides-eqb (length s.memory) 256)
    (Decides-and _ _ (Decides-eqb (length s.lines) 512)
    (Decides-and _ _ (Decides-eqb (length s.entries) 512) (Decides-eqb (length s.flags) 16))))
    (Decides-both_then (Decides-eqb (dims_refusal d) accepted)
    (λ e.
    Decides-and _ _
    (Decides-every 0 16 (omega arith) _ _
    (λ j. Decides-below (j % 8) d.processors (Decides-leb (get_or s.flags j 0) 1) (Decides-eqb (get_or s.flags j 0) 0)))
    (Decides-and _ _ (Decides-every d.words 256 (few_words d e) _ _ (λ w. Decides-eqb (get_or s.memory w 0) 0))
    (Decides-and _ _ (Decides-every 0 512 (omega arith) _ _ (λ j. Decides-line s.memory marks owners d (get_or s.lines j 0) j))
    (Decides-every 0 512 (omega arith) _ _ (λ j. Decides-entry s.memory marks owners s.entries s.flags d (get_or s.entries j 0) j)))))))
