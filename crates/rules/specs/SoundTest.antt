-- Refusal 9's test, as the code makes it: one pass that marks where each processor's copy of each word stands and who owns each word, then
-- one test of every place against the marks. Place j is slot j % 64 of processor j / 64.
use Rattle.std.specs.Prelude.{Bool, true, not, List, ℕ, ◌+◌, ◌*◌, ◌-◌, ◌/◌, ◌%◌, eqb, ltb, leb, length, get_or, set, replicate}
use Rattle.laws.specs.Choice.{pick, both}
use Rattle.laws.specs.Fold.{fold_range}
use Rattle.laws.specs.Search.{first_from}
use Rattle.entry.specs.declared.Entry.{Entry}
use Rattle.entry.specs.Numbers.{INVALID, DIRTY, BACKUP, TENTATIVE}
use Rattle.entry.specs.Packing.{packed_end, unpack}
use Rattle.entry.specs.Entry.{reserved_or_dirty}
use Rattle.rules.specs.declared.Dims.{Dims}
use Rattle.rules.specs.declared.Caches.{Caches}
use Rattle.rules.specs.State.{active_flag, status_flag, true_flag}
use Rattle.rules.specs.Making.{dims_refusal}
use Rattle.entry.specs.Refusals.{accepted}

-- Marks: for each processor, kind and word the last place that has such a copy, and whether a line or an entry. A backup is a kind of its
-- own: regular, NORMAL and tentative copies share one.
abbrev pub of_lines : ℕ
of_lines = 1

abbrev pub of_entries : ℕ
of_entries = 2

abbrev pub mark_key : Entry → ℕ → ℕ
mark_key e j = j / 64 % 8 * 512 + pick (eqb e.tag BACKUP) 256 0 + e.word

abbrev pub mark_value : ℕ → ℕ → ℕ
mark_value kind j = j % 512 * 2 + kind

abbrev pub mark_one : ℕ → ℕ → ℕ → List ℕ → List ℕ
mark_one kind x j marks = pick (eqb x 0) marks (set marks (mark_key (unpack x) j) (mark_value kind j))

abbrev pub mark_turn : ℕ → List ℕ → ℕ → List ℕ → List ℕ
mark_turn kind copies j marks = mark_one kind (get_or copies j 0) j marks

unfoldable pub mark_all : ℕ → List ℕ → List ℕ → List ℕ
mark_all kind copies marks = fold_range (mark_turn kind copies) 0 512 marks

abbrev pub marks_of : List ℕ → List ℕ → List ℕ
marks_of lines entries = mark_all of_entries entries (mark_all of_lines lines (replicate 4096 0))

-- Owners: for each word the processor, counted from 1, of the last copy RESERVED or DIRTY.
abbrev pub owner_of : ℕ → ℕ
owner_of j = j / 64 % 8 + 1

abbrev pub own_one : ℕ → ℕ → List ℕ → List ℕ
own_one x j owners = pick (reserved_or_dirty (unpack x).state) (set owners (unpack x).word (owner_of j)) owners

abbrev pub own_turn : List ℕ → ℕ → List ℕ → List ℕ
own_turn copies j owners = own_one (get_or copies j 0) j owners

unfoldable pub own_all : List ℕ → List ℕ → List ℕ
own_all copies owners = fold_range (own_turn copies) 0 512 owners

abbrev pub owners_of : List ℕ → List ℕ → List ℕ
owners_of lines entries = own_all entries (own_all lines (replicate 256 0))

-- "VALID and RESERVED data equal memory"
abbrev pub is_clean : List ℕ → Entry → Bool
is_clean memory e = pick (eqb e.state DIRTY) true (eqb (get_or memory e.word 0) e.«data»)

-- "RESERVED or DIRTY anywhere means no other processor has the word": the owner, if there is one, is this copy's processor
abbrev pub is_owned : List ℕ → Entry → ℕ → Bool
is_owned owners e j = pick (eqb (get_or owners e.word 0) 0) true (eqb (get_or owners e.word 0) (owner_of j))

-- "at most one entry among regular, NORMAL and tentative, and at most one backup": the mark is this copy's own
abbrev pub is_only : List ℕ → ℕ → Entry → ℕ → Bool
is_only marks kind e j = eqb (get_or marks (mark_key e j) 0) (mark_value kind j)

-- the test of what a line and an entry have in common
unfoldable pub copy_ok : List ℕ → List ℕ → List ℕ → ℕ → ℕ → Entry → ℕ → Bool
copy_ok memory marks owners words kind e j =
    both (ltb e.word words) (both (is_clean memory e) (both (is_owned owners e j) (is_only marks kind e j)))

-- "a regular line holds only its own words"
unfoldable pub is_home : Dims → Entry → ℕ → Bool
is_home d e i = eqb (e.word % d.lines) i

-- the test of the line x at place j
unfoldable pub line_ok : List ℕ → List ℕ → List ℕ → Dims → ℕ → ℕ → Bool
line_ok memory marks owners d x j =
    let e = unpack x in
    pick (eqb x 0) true
    (both (ltb (j / 64) d.processors)
    (both (ltb (j % 64) d.lines)
    (both (ltb x packed_end)
    (both (eqb e.tag INVALID)
    (both (not (eqb e.state INVALID))
    (both (is_home d e (j % 64)) (copy_ok memory marks owners d.words of_lines e j)))))))

-- "tentative entries exist only with TACTIVE and TSTATUS true"
unfoldable pub flags_up : List ℕ → Entry → ℕ → Bool
flags_up flags e j =
    pick (eqb e.tag TENTATIVE) (both (eqb (active_flag flags (j / 64)) true_flag) (eqb (status_flag flags (j / 64)) true_flag)) true

-- the place that the mark of a backup's word names: its tentative entry's, where it has one
abbrev pub partner_place : List ℕ → Entry → ℕ → ℕ
partner_place marks e j = (get_or marks (j / 64 % 8 * 512 + e.word) 0 / 2 + 511) % 512

-- "needs a tentative entry", "a backup's state is not above its tentative entry's"
abbrev pub is_partner : Entry → ℕ → Entry → ℕ → Bool
is_partner e j f k =
    both (eqb (k / 64) (j / 64))
    (both (eqb f.tag TENTATIVE) (both (eqb f.word e.word) (leb e.state f.state)))

unfoldable pub backup_ok : List ℕ → List ℕ → Entry → ℕ → Bool
backup_ok marks entries e j =
    let k = partner_place marks e j in
    pick (eqb e.tag BACKUP) (is_partner e j (unpack (get_or entries k 0)) k) true

-- the test of the entry x at place j
unfoldable pub entry_ok : List ℕ → List ℕ → List ℕ → List ℕ → List ℕ → Dims → ℕ → ℕ → Bool
entry_ok memory marks owners entries flags d x j =
    let e = unpack x in
    pick (eqb x 0) true
    (both (ltb (j / 64) d.processors)
    (both (ltb (j % 64) d.entries)
    (both (ltb x packed_end)
    (both (not (eqb e.tag INVALID))
    (both (not (eqb e.state INVALID))
    (both (flags_up flags e j)
    (both (backup_ok marks entries e j) (copy_ok memory marks owners d.words of_entries e j))))))))

abbrev pub bad_line : List ℕ → List ℕ → List ℕ → Dims → List ℕ → ℕ → Bool
bad_line memory marks owners d lines j = not (line_ok memory marks owners d (get_or lines j 0) j)

unfoldable pub lines_ok : List ℕ → List ℕ → List ℕ → Dims → List ℕ → Bool
lines_ok memory marks owners d lines = eqb (first_from (bad_line memory marks owners d lines) 0 512) 512

abbrev pub bad_entry : List ℕ → List ℕ → List ℕ → List ℕ → Dims → List ℕ → ℕ → Bool
bad_entry memory marks owners flags d entries j = not (entry_ok memory marks owners entries flags d (get_or entries j 0) j)

unfoldable pub entries_ok : List ℕ → List ℕ → List ℕ → List ℕ → Dims → List ℕ → Bool
entries_ok memory marks owners flags d entries = eqb (first_from (bad_entry memory marks owners flags d entries) 0 512) 512

-- a flag is 0 or 1, and 0 past the processors
abbrev pub bad_flag : List ℕ → ℕ → ℕ → Bool
bad_flag flags processors j = not (pick (ltb (j % 8) processors) (leb (get_or flags j 0) true_flag) (eqb (get_or flags j 0) 0))

unfoldable pub flags_ok : List ℕ → ℕ → Bool
flags_ok flags processors = eqb (first_from (bad_flag flags processors) 0 16) 16

abbrev pub bad_word : List ℕ → ℕ → Bool
bad_word memory j = not (eqb (get_or memory j 0) 0)

-- memory past the words is 0
unfoldable pub memory_ok : List ℕ → ℕ → Bool
memory_ok memory words = eqb (first_from (bad_word memory) words (256 - words)) 256

unfoldable pub copies_ok : Dims → Caches → Bool
copies_ok d s =
    let marks = marks_of s.lines s.entries in
    let owners = owners_of s.lines s.entries in
    both (lines_ok s.memory marks owners d s.lines) (entries_ok s.memory marks owners s.flags d s.entries)

abbrev pub lengths_ok : Caches → Bool
lengths_ok s =
    both (eqb (length s.memory) 256)
    (both (eqb (length s.lines) 512) (both (eqb (length s.entries) 512) (eqb (length s.flags) 16)))

-- 9: the test of a whole state, in the order of 'Sound states'
unfoldable pub sound_of : Dims → Caches → Bool
sound_of d s =
    both (lengths_ok s)
    (both (eqb (dims_refusal d) accepted)
    (both (flags_ok s.flags d.processors) (both (memory_ok s.memory d.words) (copies_ok d s))))
