-- The edges of "Bench cases", and the order of refusals 1 to 5, by one computed test.
use mathlib.Core.Bool.{Bool}
use mathlib.Core.List.{List, [], ◌∷◌}
use Prim.Native.Nat.{ℕ}
use lib.Dec.{T, eqb}
use lib.ListN.{replicate}
use Rattle.rules.specs.declared.Dims.{Dims}
use Rattle.rules.specs.Making.{dims, dims_refusal, make_refusal, make_of}
use Rattle.entry.specs.Refusals.{accepted, bad_processors, bad_words, bad_lines, bad_entries, bad_memory}
use Rattle.rules.proofs.Table.{all_of}

pub record Edge : Type 0 where
  pub machine : Dims
  pub memory : ℕ
  pub refusal : ℕ

-- a machine's dimensions, how many words of memory are given, and the refusal
abbrev edge : Dims → ℕ → ℕ → Edge
edge d n r = record { machine = d; memory = n; refusal = r }

pub edges : List Edge
edges =
    -- "8 processors pass, 0 and 9 do not"
    edge (dims 8 4 4 2) 4 accepted ∷
    edge (dims 1 4 4 2) 4 accepted ∷
    edge (dims 0 4 4 2) 4 bad_processors ∷
    edge (dims 9 4 4 2) 4 bad_processors ∷
    -- "256 words pass, 257 do not"
    edge (dims 2 256 4 2) 256 accepted ∷
    edge (dims 2 1 4 2) 1 accepted ∷
    edge (dims 2 257 4 2) 257 bad_words ∷
    edge (dims 2 0 4 2) 0 bad_words ∷
    -- "64 lines pass, 3 and 128 do not"
    edge (dims 2 4 64 2) 4 accepted ∷
    edge (dims 2 4 1 2) 4 accepted ∷
    edge (dims 2 4 3 2) 4 bad_lines ∷
    edge (dims 2 4 128 2) 4 bad_lines ∷
    edge (dims 2 4 0 2) 4 bad_lines ∷
    -- "64 entries pass, 0 and 65 do not"
    edge (dims 2 4 4 64) 4 accepted ∷
    edge (dims 2 4 4 1) 4 accepted ∷
    edge (dims 2 4 4 0) 4 bad_entries ∷
    edge (dims 2 4 4 65) 4 bad_entries ∷
    -- "initial memory is not exactly words long"
    edge (dims 2 4 4 2) 3 bad_memory ∷
    edge (dims 2 4 4 2) 5 bad_memory ∷
    -- "Checked in the order listed."
    edge (dims 9 257 3 65) 4 bad_processors ∷
    edge (dims 2 257 3 65) 4 bad_words ∷
    edge (dims 2 4 3 65) 5 bad_lines ∷
    edge (dims 2 4 4 65) 5 bad_entries ∷
    []

pub holds_at : Edge → Bool
unfolding make_of make_refusal dims_refusal
holds_at e = eqb (make_of e.machine (replicate e.memory 7)).refusal e.refusal

pub edges_hold : T (all_of holds_at edges)
unfolding edges holds_at
edges_hold = tt
