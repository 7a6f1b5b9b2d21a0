-- The machine in one array of 2,048 numbers of 64 bits. A place that is named nowhere here holds 0.
use Rattle.std.specs.Prelude.{Bool, List, [], ◌∷◌, ℕ, zero, suc, ◌-◌, eqb, ltb, length, get_or, replicate}
use Rattle.std.proofs.lemmas.List.Edits.{sets}
use Rattle.laws.specs.Choice.{both}
use Rattle.laws.specs.Search.{first_from}
use Rattle.rules.specs.declared.Dims.{Dims}
use Rattle.rules.specs.declared.Machine.{Machine}
use Rattle.rules.specs.declared.Caches.{Caches}
use Rattle.rules.specs.State.{caches, caches_of, machine_of, true_flag}
use Rattle.rules.specs.Making.{dims}

-- Places 0 to 3 hold the dimensions. Then, each part from a place on and as a machine has it: TACTIVE and TSTATUS of the processors, the
-- words of memory, the regular lines, the transactional entries.
abbrev pub flags_from : ℕ
flags_from = 16

abbrev pub flags_end : ℕ
flags_end = 32

abbrev pub memory_from : ℕ
memory_from = 256

abbrev pub lines_from : ℕ
lines_from = 512

abbrev pub entries_from : ℕ
entries_from = 1024

abbrev pub entries_end : ℕ
entries_end = 1536

abbrev pub state_end : ℕ
state_end = 2048

-- n numbers of s from a place on
unfoldable pub part : ℕ → ℕ → List ℕ → List ℕ
part from zero s = []
part from (suc n) s = get_or s from 0 ∷ part (suc from) n s

abbrev pub dims_in : List ℕ → Dims
dims_in s = dims (get_or s 0 0) (get_or s 1 0) (get_or s 2 0) (get_or s 3 0)

-- the machine that an array holds
unfoldable pub machine_in : List ℕ → Machine
machine_in s =
    machine_of (dims_in s) (caches (part memory_from 256 s) (part lines_from 512 s) (part entries_from 512 s) (part flags_from 16 s))

-- an array with a machine's parts put into it, each into the places that it has there
unfoldable pub with_parts : List ℕ → Caches → List ℕ
with_parts s c =
    let flagged = sets s flags_from (part 0 16 c.flags) in
    let remembering = sets flagged memory_from (part 0 256 c.memory) in
    let lined = sets remembering lines_from (part 0 512 c.lines) in
    sets lined entries_from (part 0 512 c.entries)

unfoldable pub blank : List ℕ
blank = replicate state_end 0

-- the array that holds a machine
unfoldable pub array_of : Machine → List ℕ
array_of m =
    let d = m.dims in
    with_parts (sets blank 0 (d.processors ∷ d.words ∷ d.lines ∷ d.entries ∷ [])) (caches_of m)

abbrev pub exceeds : ℕ → List ℕ → ℕ → Bool
exceeds most s i = ltb most (get_or s i 0)

-- no place from one up to another holds a number above most
unfoldable pub none_above : ℕ → ℕ → ℕ → List ℕ → Bool
none_above most from to s = eqb (first_from (exceeds most s) from (to - from)) to

-- "an unsigned 32-bit value"
abbrev pub most_value : ℕ
most_value = 4294967295

-- An array holds a machine where it has all its places, its flags and its words of memory are in range and every place between the parts is 0.
-- What "sound states" asks of the dimensions and of the copies is asked of that machine.
unfoldable pub held_ok : List ℕ → Bool
held_ok s =
    both (eqb (length s) state_end)
    (both (none_above 0 4 flags_from s)
    (both (none_above true_flag flags_from flags_end s)
    (both (none_above 0 flags_end memory_from s)
    (both (none_above most_value memory_from lines_from s) (none_above 0 entries_end state_end s)))))
