-- What a program observes of a machine: plain accesses, the reads and writes of transactions, and how a transaction ends.
use Rattle.std.specs.Prelude.{ℕ}

pub data Event : Type 0 where
  load store tread twrite : ℕ → ℕ → ℕ → Event  -- processor, word, value
  release : ℕ → ℕ → Event  -- processor, word: its reads leave the transaction
  commit drop : ℕ → Event  -- the transaction succeeds; it is over without effect, or sure to fail
