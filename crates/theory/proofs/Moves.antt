-- What a machine may do, as its view sees it: silent moves, and the events that a program can observe.
-- A step of a machine is any number of silent moves and then one event (or none).
use mathlib.Core.Path.{◌≡◌, ◌∙◌}
use mathlib.Core.Bool.{Bool, true, false}
use mathlib.Core.List.{List, [], ◌∷◌}
use Prim.Native.Nat.{ℕ}
use Rattle.theory.specs.Event.{Event, load, store, tread, twrite, release, commit, drop}
use Rattle.theory.specs.View.{LineState, dirty, Back, Copy, none, regular, normal, tentative}
use Rattle.theory.specs.View.{above, dirty_state, is_tentative, rolled_copy, committed_copy, View}
use Rattle.theory.specs.Change.{Live, OnlyWord, OnlyProcessor, same, Same}
use Rattle.theory.proofs.Move.{Move}
use Rattle.theory.proofs.OneWord.{Low, Alone}

pub data Silent (S S' : View) : Type 0 where
  still : Same S S' → Silent S S'
  move : (p w : ℕ) {k k' : Copy} {m m' : ℕ} → OnlyWord p w S S'
      → S.memory w ≡ m → S'.memory w ≡ m' → S.copy w p ≡ k → S'.copy w p ≡ k'
      → Move (Live S p) (Low (S.copy w) p) (Alone (S.copy w) p) m k m' k' → Silent S S'
  rollback : (p : ℕ) → OnlyProcessor rolled_copy p S S' → S'.status p ≡ false → Silent S S'
  wake : (p : ℕ) → OnlyProcessor same p S S' → S'.active p ≡ true → S'.status p ≡ S.status p → Silent S S'

-- what a plain LOAD may answer from the processor's own copy
abbrev pub SeesValue : Copy → ℕ → Type 0
SeesValue none x = ⊥
SeesValue (regular s d) x = d ≡ x
SeesValue (normal s d) x = d ≡ x
SeesValue (tentative s d b t) x = (dirty_state s ≡ false) × (d ≡ x)

pub data Shown (S S' : View) : Event → Type 0 where
  loads : (p w : ℕ) {x : ℕ} → Same S S' → SeesValue (S.copy w p) x → Shown S S' (load p w x)
  -- the copy is exclusive already, and becomes DIRTY
  stores : (p w : ℕ) {s : LineState} {d v : ℕ} → OnlyWord p w S S' → S.copy w p ≡ regular s d → above s ≡ true
      → S'.copy w p ≡ regular dirty v → Shown S S' (store p w v)
  -- a miss, made alone; or the value is written to memory too
  writes : (p w : ℕ) {s : LineState} {v : ℕ} → OnlyWord p w S S' → is_tentative (S.copy w p) ≡ false → Alone (S.copy w) p
      → S'.copy w p ≡ regular s v → (dirty_state s ≡ false → S'.memory w ≡ v) → Shown S S' (store p w v)
  treads : (p w : ℕ) {s : LineState} {x : ℕ} {b : Back} {t : Bool} → Same S S' → S.copy w p ≡ tentative s x b t → Shown S S' (tread p w x)
  twrites : (p w : ℕ) {s : LineState} {d v : ℕ} {b : Back} {t : Bool} → OnlyWord p w S S' → S.copy w p ≡ tentative s d b t → above s ≡ true
      → S'.copy w p ≡ tentative dirty v b true → S'.memory w ≡ S.memory w → Shown S S' (twrite p w v)
  -- a tentative copy that was not stored to leaves the transaction
  releases : (p w : ℕ) {s : LineState} {d : ℕ} {b : Back} → OnlyWord p w S S' → S.copy w p ≡ tentative s d b false
      → S'.copy w p ≡ normal s d → S'.memory w ≡ S.memory w → Shown S S' (release p w)
  commits : (p : ℕ) → S.status p ≡ true → OnlyProcessor committed_copy p S S' → Shown S S' (commit p)
  -- the transaction is over, or will fail: nothing is held for it
  drops : (p : ℕ) → ((w : ℕ) → is_tentative (S.copy w p) ≡ false) → OnlyProcessor same p S S' → Shown S S' (drop p)

pub data Run : View → List Event → View → Type 0 where
  done : {S : View} → Run S [] S
  quietly : {S S₁ S' : View} {es : List Event} → Silent S S₁ → Run S₁ es S' → Run S es S'
  showing : {S S₁ S' : View} {e : Event} {es : List Event} → Shown S S₁ e → Run S₁ es S' → Run S (e ∷ es) S'

-- silent moves first
pub run_then : {S S₁ S₂ : View} {es : List Event} → Run S [] S₁ → Run S₁ es S₂ → Run S es S₂
run_then done r = r
run_then (quietly s q) r = quietly s (run_then q r)

pub run_one : {S S' : View} → Silent S S' → Run S [] S'
run_one s = quietly s done

pub at_trans : {p w : ℕ} {S S₁ S₂ : View} → OnlyWord p w S S₁ → OnlyWord p w S₁ S₂ → OnlyWord p w S S₂
at_trans a b = record {
  memory_else = λ u n. b.memory_else u n ∙ a.memory_else u n;
  word_else = λ u n q. b.word_else u n q ∙ a.word_else u n q;
  proc_else = λ q n. b.proc_else q n ∙ a.proc_else q n;
  active_same = λ q. b.active_same q ∙ a.active_same q;
  status_same = λ q. b.status_same q ∙ a.status_same q;
}
