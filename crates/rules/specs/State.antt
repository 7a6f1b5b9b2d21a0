-- The state that steps change, as four lists, and how a copy, a word and a flag of it are read and set.
use Rattle.std.specs.Prelude.{◌≡◌, Bool, not, List, ℕ, ◌+◌, ◌*◌, ◌%◌, ◌<◌, eqb, get_or, set}
use Rattle.std.proofs.Common.{arith}
use Rattle.entry.specs.declared.Entry.{Entry}
use Rattle.entry.specs.declared.answer.Answer.{Answer}
use Rattle.entry.specs.declared.answer.Answered.{Answered}
use Rattle.entry.specs.declared.answer.Counts.{Counts}
use Rattle.entry.specs.Packing.{pack, unpack}
use Rattle.entry.specs.Answer.{answered}
use Rattle.rules.specs.declared.Caches.{Caches}
use Rattle.rules.specs.declared.Dims.{Dims}
use Rattle.rules.specs.declared.Machine.{Machine}

abbrev pub caches : List ℕ → List ℕ → List ℕ → List ℕ → Caches
caches m l e f = record { memory = m; lines = l; entries = e; flags = f }

abbrev pub caches_of : Machine → Caches
caches_of m = m.caches

abbrev pub machine_of : Dims → Caches → Machine
machine_of d s = record { dims = d; caches = s }

-- Where processor p's line or entry i stands. The remainders keep every access inside the arrays; within the dimensions they do nothing.
abbrev pub place : ℕ → ℕ → ℕ
place p i = p % 8 * 64 + i % 64

pub place_plain : (p i : ℕ) → p < 8 → i < 64 → place p i ≡ p * 64 + i
place_plain p i hp hi = omega arith

abbrev pub copy_at : List ℕ → ℕ → ℕ → Entry
copy_at l p i = unpack (get_or l (place p i) 0)

abbrev pub with_copy : List ℕ → ℕ → ℕ → Entry → List ℕ
with_copy l p i e = set l (place p i) (pack e)

abbrev pub line_at : Caches → ℕ → ℕ → Entry
line_at s p i = copy_at s.lines p i

abbrev pub entry_at : Caches → ℕ → ℕ → Entry
entry_at s p i = copy_at s.entries p i

abbrev pub word_at : Caches → ℕ → ℕ
word_at s word = get_or s.memory word 0

abbrev pub with_memory : Caches → List ℕ → Caches
with_memory s m = caches m s.lines s.entries s.flags

abbrev pub with_line : Caches → ℕ → ℕ → Entry → Caches
with_line s p i e = caches s.memory (with_copy s.lines p i e) s.entries s.flags

abbrev pub with_entry : Caches → ℕ → ℕ → Entry → Caches
with_entry s p i e = caches s.memory s.lines (with_copy s.entries p i e) s.flags

abbrev pub with_flags : Caches → List ℕ → Caches
with_flags s f = caches s.memory s.lines s.entries f

-- "Each processor has TACTIVE and TSTATUS."
abbrev pub true_flag : ℕ
true_flag = 1

abbrev pub false_flag : ℕ
false_flag = 0

abbrev pub active_place : ℕ → ℕ
active_place p = p % 8

abbrev pub status_place : ℕ → ℕ
status_place p = 8 + p % 8

abbrev pub active_flag : List ℕ → ℕ → ℕ
active_flag flags p = get_or flags (active_place p) 0

abbrev pub status_flag : List ℕ → ℕ → ℕ
status_flag flags p = get_or flags (status_place p) 0

abbrev pub TSTATUS : Caches → ℕ → Bool
TSTATUS s p = not (eqb (status_flag s.flags p) false_flag)

-- What a step leaves: its answer with six counts, and the state.
pub record Outcome : Type 0 where
  pub told : Answered
  pub after : Caches

abbrev pub outcome : Answered → Caches → Outcome
outcome a s = record { told = a; after = s }

abbrev pub gives : Answer → Counts → Caches → Outcome
gives a c s = outcome (answered a c) s

-- What a part of a step leaves: how many copies it wrote back, each a WRITE, and the state.
pub record Counted : Type 0 where
  pub writes : ℕ
  pub after : Caches

abbrev pub counted : ℕ → Caches → Counted
counted w s = record { writes = w; after = s }
