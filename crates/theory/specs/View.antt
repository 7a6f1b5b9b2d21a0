-- The view of a machine with private caches: a memory, and for each word and each processor at most one copy.
-- Slots, lines and places are gone; what they are needed for is which copies are dropped, and that is left open.
use Rattle.std.specs.Prelude.{◌≡◌, ◌≢◌, Bool, true, false, ℕ}

pub data LineState : Type 0 where
  valid reserved dirty : LineState

-- the backup of a tentative copy
pub data Back : Type 0 where
  bare : Back
  backup : LineState → ℕ → Back

pub data Copy : Type 0 where
  none : Copy
  regular normal : LineState → ℕ → Copy
  tentative : LineState → ℕ → Back → Bool → Copy  -- the last: it may have been stored to

-- above VALID
abbrev pub above : LineState → Bool
above valid = false
above reserved = true
above dirty = true

abbrev pub dirty_state : LineState → Bool
dirty_state valid = false
dirty_state reserved = false
dirty_state dirty = true

-- a backup's state r is not above the tentative copy's state s
abbrev pub IsBelow : LineState → LineState → Type 0
IsBelow valid s = Unit {0}
IsBelow reserved s = above s ≡ true
IsBelow dirty s = dirty_state s ≡ true

abbrev pub is_tentative : Copy → Bool
is_tentative none = false
is_tentative (regular s d) = false
is_tentative (normal s d) = false
is_tentative (tentative s d b f) = true

abbrev pub has : Copy → Bool
has none = false
has (regular s d) = true
has (normal s d) = true
has (tentative s d b f) = true

abbrev pub is_stored : Copy → Bool
is_stored none = false
is_stored (regular s d) = false
is_stored (normal s d) = false
is_stored (tentative s d b f) = f

-- a copy is written back if DIRTY: the memory after, and the state after
abbrev pub wrote : LineState → ℕ → ℕ → ℕ
wrote valid d m = m
wrote reserved d m = m
wrote dirty d m = d

abbrev pub dried : LineState → LineState
dried valid = valid
dried reserved = reserved
dried dirty = reserved

-- this copy lets no other processor have one
abbrev pub exclusive : Copy → Bool
exclusive none = false
exclusive (regular s d) = above s
exclusive (normal s d) = above s
exclusive (tentative s d b f) = above s

-- this copy holds a settled value that the memory may lack
abbrev pub back_dirty : Back → Bool
back_dirty bare = false
back_dirty (backup r e) = dirty_state r

abbrev pub owns : Copy → Bool
owns none = false
owns (regular s d) = dirty_state s
owns (normal s d) = dirty_state s
owns (tentative s d b f) = back_dirty b

-- what a copy must be when the word's settled value is x: all but a tentative copy that was stored to hold it
abbrev pub IsFineBack : Back → LineState → ℕ → Type 0
IsFineBack bare s x = Unit {0}
IsFineBack (backup r e) s x = (e ≡ x) × IsBelow r s

abbrev pub IsFine : Copy → ℕ → Type 0
IsFine none x = Unit {0}
IsFine (regular s d) x = d ≡ x
IsFine (normal s d) x = d ≡ x
IsFine (tentative s d b f) x = (f ≡ false → d ≡ x) × (f ≡ true → dirty_state s ≡ true) × IsFineBack b s x

-- the value that the processor itself sees inside its transaction
abbrev pub own_value : Copy → ℕ → ℕ
own_value none x = x
own_value (regular s d) x = x
own_value (normal s d) x = x
own_value (tentative s d b f) x = d

abbrev pub back_rolled : Back → Copy
back_rolled bare = none
back_rolled (backup r e) = normal r e

abbrev pub rolled_copy : Copy → Copy
rolled_copy none = none
rolled_copy (regular s d) = regular s d
rolled_copy (normal s d) = normal s d
rolled_copy (tentative s d b f) = back_rolled b

abbrev pub committed_copy : Copy → Copy
committed_copy none = none
committed_copy (regular s d) = regular s d
committed_copy (normal s d) = normal s d
committed_copy (tentative s d b f) = normal s d

-- one word: its memory cell m, its copies c by processor, its settled value x
pub record Word (m : ℕ) (c : ℕ → Copy) (x : ℕ) : Type 0 where
  pub only : (p q : ℕ) → exclusive (c p) ≡ true → q ≢ p → c q ≡ none
  pub holds : (p : ℕ) → IsFine (c p) x
  pub cell : ((p : ℕ) → owns (c p) ≡ false) → m ≡ x

pub record View : Type 0 where
  pub memory : ℕ → ℕ
  pub copy : ℕ → ℕ → Copy
  pub active : ℕ → Bool
  pub status : ℕ → Bool
