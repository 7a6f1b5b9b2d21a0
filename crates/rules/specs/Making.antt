-- "The machine's dimensions", and making a machine: refusals 1 to 5.
use Rattle.std.specs.Prelude.{Bool, Result, Ok, Err, List, [], ◌∷◌, ◌++◌, ℕ, ◌-◌, eqb, leb, length, replicate}
use Rattle.laws.specs.Choice.{both, either}
use Rattle.rules.specs.declared.Dims.{Dims}
use Rattle.rules.specs.declared.Machine.{Machine}
use Rattle.rules.specs.declared.NotMade.{NotMade}
use Rattle.rules.specs.declared.Caches.{Caches}
use Rattle.rules.specs.State.{caches, machine_of, true_flag, false_flag}
use Rattle.entry.specs.Refusals.{accepted, bad_processors, bad_words, bad_lines, bad_entries, bad_memory, unless, number_of}

abbrev pub dims : ℕ → ℕ → ℕ → ℕ → Dims
dims p w l e = record { processors = p; words = w; lines = l; entries = e }

abbrev pub within : ℕ → ℕ → Bool
within n most = both (leb 1 n) (leb n most)

-- "a power of two of lines, 1 to 64"
abbrev pub power_of_two : ℕ → Bool
power_of_two n =
    either (eqb n 1)
    (either (eqb n 2) (either (eqb n 4) (either (eqb n 8) (either (eqb n 16) (either (eqb n 32) (eqb n 64))))))

-- processors "1 to 8", words "1 to 256", lines, entries "1 to 64", "checked in the order listed"
unfoldable pub dims_refusal : Dims → ℕ
dims_refusal d =
    unless (within d.processors 8) bad_processors
    (unless (within d.words 256) bad_words
    (unless (power_of_two d.lines) bad_lines
    (unless (within d.entries 64) bad_entries
    accepted)))

-- 5: "initial memory is not exactly words long"
unfoldable pub make_refusal : Dims → List ℕ → ℕ
make_refusal d memory =
    unless (eqb (dims_refusal d) accepted) (dims_refusal d) (unless (eqb (length memory) d.words) bad_memory accepted)

-- l and then 0, n places in all
abbrev pub padded : ℕ → List ℕ → List ℕ
padded n l = l ++ replicate (n - length l) 0

-- TACTIVE false, TSTATUS true, of each processor; the other flags are 0
abbrev pub fresh_flags : ℕ → List ℕ
fresh_flags processors = replicate 8 false_flag ++ padded 8 (replicate processors true_flag)

-- "A fresh machine has empty caches, TACTIVE false, TSTATUS true, and the memory the caller gave."
unfoldable pub fresh : Dims → List ℕ → Caches
fresh d memory = caches (padded 256 memory) (replicate 512 0) (replicate 512 0) (fresh_flags d.processors)

-- what stands in for a machine that was refused: the smallest, with memory zero
abbrev pub smallest : Machine
smallest = machine_of (dims 1 1 1 1) (fresh (dims 1 1 1 1) (0 ∷ []))

-- what a making gives: its refusal or 0, and a machine
pub record Made : Type 0 where
  pub refusal : ℕ
  pub machine : Machine

abbrev pub made : ℕ → Machine → Made
made n m = record { refusal = n; machine = m }

-- 1 to 5 refuse a making, with the smallest machine handed back; else the machine is fresh
unfoldable pub make_of : Dims → List ℕ → Made
make_of d memory =
    let m = machine_of d (fresh d memory) in
    unless (eqb (make_refusal d memory) accepted) (made (make_refusal d memory) smallest) (made accepted m)

-- a making's result so seen
abbrev pub made_by : Result Machine NotMade → Made
made_by (Ok m) = made accepted m
made_by (Err r) = made (number_of r.refusal) r.machine
