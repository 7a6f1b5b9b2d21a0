-- Document 01's steps on the view. Which line or entry is freed is left open; everything else is as written there.
use Rattle.std.specs.Prelude.{◌≡◌, ◌≢◌, ◌⊎◌, Bool, true, false, List, [], ◌∷◌, ℕ, zero, suc}
use Rattle.theory.specs.View.{LineState, valid, reserved, dirty, Back, bare, backup, Copy, none, regular, normal}
use Rattle.theory.specs.View.{tentative, above, dirty_state, wrote, dried, is_tentative, rolled_copy, committed_copy, View}
use Rattle.theory.specs.Event.{Event, load, store, tread, twrite, commit, drop}
use Rattle.theory.specs.Change.{OnlyWord, OnlyProcessor, same, Same}

-- a line or an entry of p is freed: it was empty, or what it held is written back if DIRTY
pub data Freed (p : ℕ) (S S' : View) : Type 0 where
  empty : Same S S' → Freed p S S'
  regular_freed : (u : ℕ) {s : LineState} {d : ℕ} → OnlyWord p u S S' → S.copy u p ≡ regular s d → S'.copy u p ≡ none
      → S'.memory u ≡ wrote s d (S.memory u)
      → Freed p S S'
  normal_freed : (u : ℕ) {s : LineState} {d : ℕ} → OnlyWord p u S S' → S.copy u p ≡ normal s d → S'.copy u p ≡ none
      → S'.memory u ≡ wrote s d (S.memory u)
      → Freed p S S'
  backup_freed : (u : ℕ) {s r : LineState} {d e : ℕ} {t : Bool} → OnlyWord p u S S' → S.copy u p ≡ tentative s d (backup r e) t
      → S'.copy u p ≡ tentative s d bare t
      → S'.memory u ≡ wrote r e (S.memory u) → Freed p S S'

-- rollback of p
pub record RolledBack (p : ℕ) (S S' : View) : Type 0 where
  pub cache : OnlyProcessor rolled_copy p S S'
  pub status : S'.status p ≡ false
  pub active : S'.active p ≡ S.active p

-- the processors 0 .. n-1 in turn
pub data Each (R : ℕ → View → View → Type 0) : ℕ → View → View → Type 0 where
  start : {S : View} → Each R zero S S
  and_then : {n : ℕ} {S S₁ S₂ : View} → Each R n S S₁ → R n S₁ S₂ → Each R (suc n) S S₂

-- q is rolled back if it is another processor and holds w so
pub data RollIf (so : Copy → Bool) (p w q : ℕ) (S S' : View) : Type 0 where
  spared : (q ≡ p) ⊎ (so (S.copy w q) ≡ false) → Same S S' → RollIf so p w q S S'
  rolls_back : q ≢ p → so (S.copy w q) ≡ true → RolledBack q S S' → RollIf so p w q S S'

-- another processor's copy of w, and the memory, after a request
pub data Snooped (f : Copy → Copy) (g : Copy → ℕ → ℕ) (p w q : ℕ) (S S' : View) : Type 0 where
  own : q ≡ p → Same S S' → Snooped f g p w q S S'
  other : q ≢ p → OnlyWord q w S S' → S'.copy w q ≡ f (S.copy w q) → S'.memory w ≡ g (S.copy w q) (S.memory w) → Snooped f g p w q S S'

-- held tentatively RESERVED or DIRTY
abbrev pub tentative_above : Copy → Bool
tentative_above none = false
tentative_above (regular s d) = false
tentative_above (normal s d) = false
tentative_above (tentative s d b t) = above s

-- what the memory takes from a copy that is asked
abbrev pub supplied : Copy → ℕ → ℕ
supplied none m = m
supplied (regular s d) m = wrote s d m
supplied (normal s d) m = wrote s d m
supplied (tentative s d b t) m = wrote s d m

abbrev pub shared_copy : Copy → Copy
shared_copy none = none
shared_copy (regular s d) = regular valid d
shared_copy (normal s d) = normal valid d
shared_copy (tentative s d b t) = tentative valid d b t

abbrev pub taken_copy : Copy → Copy
taken_copy none = none
taken_copy (regular s d) = none
taken_copy (normal s d) = none
taken_copy (tentative s d b t) = none

pub data Kind : Type 0 where
  reading owning : Kind

-- what opposes T_READ, or is rolled back by READ; and what opposes T_RFO, or is rolled back by RFO and WRITE
abbrev pub opposing : Kind → Copy → Bool
opposing reading k = tentative_above k
opposing owning k = is_tentative k

abbrev pub snoops : Kind → Copy → Copy
snoops reading k = shared_copy k
snoops owning k = taken_copy k

abbrev pub granted : Kind → LineState
granted reading = valid
granted owning = reserved

-- READ, RFO, WRITE: roll back first
pub record Plainly (k : Kind) (n p w : ℕ) (S S' : View) : Type 0 where
  pub mid : View
  pub rolls : Each (RollIf (opposing k) p w) n S mid
  pub asks : Each (Snooped (snoops k) supplied p w) n mid S'

-- T_READ, T_RFO: nobody opposes
pub record Granted (k : Kind) (n p w : ℕ) (S S' : View) : Type 0 where
  pub nobody : (q : ℕ) → q ≢ p → opposing k (S.copy w q) ≡ false
  pub asks : Each (Snooped (snoops k) supplied p w) n S S'

-- LOAD's miss
pub record Fetched (n p w x : ℕ) (S S' : View) : Type 0 where
  pub gap : View
  pub requested : View
  pub frees : Freed p S gap
  pub asks : Plainly reading n p w gap requested
  pub at : OnlyWord p w requested S'
  pub gives : requested.memory w ≡ x
  pub here : S'.copy w p ≡ regular valid x
  pub memory_same : S'.memory w ≡ requested.memory w

-- what LOAD answers from the processor's own copy
abbrev pub Hits : Copy → ℕ → Type 0
Hits none x = ⊥
Hits (regular s d) x = d ≡ x
Hits (normal s d) x = d ≡ x
Hits (tentative s d b t) x = (above s ≡ false) × (d ≡ x)

-- STORE first gives up p's tentative copy of w, by rollback, and then its NORMAL copy
pub data Unheld (p w : ℕ) (S S' : View) : Type 0 where
  none_held : is_tentative (S.copy w p) ≡ false → Same S S' → Unheld p w S S'
  was_held : is_tentative (S.copy w p) ≡ true → RolledBack p S S' → Unheld p w S S'

abbrev pub is_normal : Copy → Bool
is_normal none = false
is_normal (regular s d) = false
is_normal (normal s d) = true
is_normal (tentative s d b t) = false

abbrev pub is_regular : Copy → Bool
is_regular none = false
is_regular (regular s d) = true
is_regular (normal s d) = false
is_regular (tentative s d b t) = false

pub data Unnormal (p w : ℕ) (S S' : View) : Type 0 where
  none_normal : is_normal (S.copy w p) ≡ false → Same S S' → Unnormal p w S S'
  was_normal : {s : LineState} {d : ℕ} → OnlyWord p w S S' → S.copy w p ≡ normal s d → S'.copy w p ≡ none → S'.memory w ≡ wrote s d (S.memory w)
      → Unnormal p w S S'

-- LT, LTX, ST first make p active, and then give up its regular copy
pub record Woken (p : ℕ) (S S' : View) : Type 0 where
  pub cache : OnlyProcessor same p S S'
  pub active : S'.active p ≡ true
  pub status : S'.status p ≡ S.status p

pub data Unregular (p w : ℕ) (S S' : View) : Type 0 where
  none_regular : is_regular (S.copy w p) ≡ false → Same S S' → Unregular p w S S'
  was_regular : {s : LineState} {d : ℕ} → OnlyWord p w S S' → S.copy w p ≡ regular s d → S'.copy w p ≡ none → S'.memory w ≡ wrote s d (S.memory w)
      → Unregular p w S S'

-- p's NORMAL copy becomes tentative, with a backup or without
pub data Begun (p w : ℕ) (S S' : View) : Type 0 where
  with_backup : {s : LineState} {d : ℕ} {t : Bool} {S₁ : View} → Freed p S S₁ → S₁.copy w p ≡ normal s d → OnlyWord p w S₁ S'
      → S'.copy w p ≡ tentative s d (backup s d) t → (t ≡ true → dirty_state s ≡ true) → S'.memory w ≡ S₁.memory w → Begun p w S S'
  without : {s : LineState} {d : ℕ} → OnlyWord p w S S' → S.copy w p ≡ normal s d
      → S'.copy w p ≡ tentative (dried s) d bare false → S'.memory w ≡ wrote s d (S.memory w) → Begun p w S S'

abbrev pub enough : Kind → LineState → Bool
enough reading s = true
enough owning s = above s

-- p comes to hold w tentatively, and alone if that is asked
pub data Obtained (k : Kind) (n p w : ℕ) (S S' : View) : Type 0 where
  has_it : {s : LineState} {d : ℕ} {b : Back} {t : Bool} → S.copy w p ≡ tentative s d b t → enough k s ≡ true → Same S S' → Obtained k n p w S S'
  raises : {d : ℕ} {b : Back} {t : Bool} {S₁ : View} → S.copy w p ≡ tentative valid d b t → Granted owning n p w S S₁
      → OnlyWord p w S₁ S' → S'.copy w p ≡ tentative reserved d b t → S'.memory w ≡ S₁.memory w → Obtained k n p w S S'
  misses : {b : Back} {S₁ S₂ S₃ : View} → S.copy w p ≡ none → Freed p S S₁ → Freed p S₁ S₂ → Granted k n p w S₂ S₃
      → OnlyWord p w S₃ S' → (b ≡ bare) ⊎ (b ≡ backup (granted k) (S₃.memory w)) → S'.copy w p ≡ tentative (granted k) (S₃.memory w) b false
      → S'.memory w ≡ S₃.memory w → Obtained k n p w S S'

-- or there is no room, or another processor opposes: then p is rolled back
pub data Busy (k : Kind) (p w : ℕ) (S : View) : Type 0 where
  busy : (q : ℕ) → q ≢ p → opposing k (S.copy w q) ≡ true → Busy k p w S

pub data Denied (k : Kind) (p w : ℕ) (S S' : View) : Type 0 where
  no_room : S.copy w p ≡ none → RolledBack p S S' → Denied k p w S S'
  no_raise : {d : ℕ} {b : Back} {t : Bool} → S.copy w p ≡ tentative valid d b t → Busy owning p w S → RolledBack p S S' → Denied k p w S S'
  no_grant : {S₁ S₂ : View} → S.copy w p ≡ none → Freed p S S₁ → Freed p S₁ S₂ → Busy k p w S₂ → RolledBack p S₂ S' → Denied k p w S S'

pub data Starts (p w : ℕ) (S S' : View) : Type 0 where
  not_normal : is_normal (S.copy w p) ≡ false → Same S S' → Starts p w S S'
  opens : Begun p w S S' → Starts p w S S'

-- the three parts that LT, LTX and ST have in common, in a sound transaction
pub record Opened (p w : ℕ) (S S' : View) : Type 0 where
  pub woken : View
  pub clear : View
  pub sound : S.status p ≡ true
  pub wakes : Woken p S woken
  pub clears : Unregular p w woken clear
  pub starts : Starts p w clear S'

-- the transaction is over
pub record Ended (p : ℕ) (S S' : View) : Type 0 where
  pub cache : OnlyProcessor same p S S'
  pub active : S'.active p ≡ false
  pub status : S'.status p ≡ true

-- a step, and the events that it shows
pub data Step (n : ℕ) (S S' : View) : List Event → Type 0 where
  load_hit : {p w x : ℕ} → Hits (S.copy w p) x → Same S S' → Step n S S' (load p w x ∷ [])
  load_back : {p w x : ℕ} {s r : LineState} {d : ℕ} {t : Bool} → S.copy w p ≡ tentative s d (backup r x) t → above s ≡ true
      → RolledBack p S S' → Step n S S' (load p w x ∷ [])
  load_miss : {p w x : ℕ} → S.copy w p ≡ none → Fetched n p w x S S' → Step n S S' (load p w x ∷ [])
  load_bare : {p w x : ℕ} {s : LineState} {d : ℕ} {t : Bool} {S₁ : View} → S.copy w p ≡ tentative s d bare t → above s ≡ true
      → RolledBack p S S₁ → Fetched n p w x S₁ S' → Step n S S' (load p w x ∷ [])
  store_hit : {p w v : ℕ} {s : LineState} {d : ℕ} {S₁ S₂ : View} → Unheld p w S S₁ → Unnormal p w S₁ S₂ → S₂.copy w p ≡ regular s d
      → above s ≡ true → OnlyWord p w S₂ S' → S'.copy w p ≡ regular dirty v → S'.memory w ≡ S₂.memory w → Step n S S' (store p w v ∷ [])
  store_through : {p w v d : ℕ} {S₁ S₂ S₃ : View} → Unheld p w S S₁ → Unnormal p w S₁ S₂ → S₂.copy w p ≡ regular valid d
      → Plainly owning n p w S₂ S₃ → OnlyWord p w S₃ S' → S'.copy w p ≡ regular reserved v → S'.memory w ≡ v → Step n S S' (store p w v ∷ [])
  store_miss : {p w v : ℕ} {S₁ S₂ S₃ S₄ : View} → Unheld p w S S₁ → Unnormal p w S₁ S₂ → S₂.copy w p ≡ none → Freed p S₂ S₃
      → Plainly owning n p w S₃ S₄ → OnlyWord p w S₄ S' → S'.copy w p ≡ regular dirty v → S'.memory w ≡ S₄.memory w
      → Step n S S' (store p w v ∷ [])
  -- LT and LTX; ST; what all three do when refused, when there is no room, and with TSTATUS false
  gets : {p w x : ℕ} {s : LineState} {b : Back} {t : Bool} {S₁ : View} (k : Kind) → Opened p w S S₁ → Obtained k n p w S₁ S'
      → S'.copy w p ≡ tentative s x b t → Step n S S' (tread p w x ∷ [])
  puts : {p w v : ℕ} {s : LineState} {d : ℕ} {b : Back} {t : Bool} {S₁ S₂ : View} → Opened p w S S₁ → Obtained owning n p w S₁ S₂
      → S₂.copy w p ≡ tentative s d b t → OnlyWord p w S₂ S' → S'.copy w p ≡ tentative dirty v b true → S'.memory w ≡ S₂.memory w
      → Step n S S' (twrite p w v ∷ [])
  fails : {p w : ℕ} {S₁ : View} (k : Kind) → Opened p w S S₁ → Denied k p w S₁ S' → Step n S S' (drop p ∷ [])
  dead : {p : ℕ} → S.status p ≡ false → Woken p S S' → Step n S S' (drop p ∷ [])
  commit_yes : {p : ℕ} → S.status p ≡ true → OnlyProcessor committed_copy p S S' → S'.active p ≡ false → S'.status p ≡ true
      → Step n S S' (commit p ∷ [])
  -- COMMIT and VALIDATE with TSTATUS false
  over : {p : ℕ} → S.status p ≡ false → Ended p S S' → Step n S S' (drop p ∷ [])
  aborts : {p : ℕ} {S₁ : View} → RolledBack p S S₁ → Ended p S₁ S' → Step n S S' (drop p ∷ [])
  validate_yes : {p : ℕ} → S.status p ≡ true → Same S S' → Step n S S' []
  interrupts : {p : ℕ} → RolledBack p S S' → Step n S S' (drop p ∷ [])
