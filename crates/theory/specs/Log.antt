-- A transaction's log, the last access first, and its replay on a memory.
use Rattle.std.specs.Prelude.{◌≡◌, List, [], ◌∷◌, ℕ}
use Rattle.std.proofs.Math.Decide.{ℕ_discrete}

unfoldable pub pick_dec : {A P : Type 0} → Dec P → A → A → A
pick_dec (yes e) a b = a
pick_dec (no n) a b = b

-- f with v at w
unfoldable pub put : {A : Type 0} → (ℕ → A) → ℕ → A → ℕ → A
put f w v u = pick_dec (ℕ_discrete u w) v (f u)

pub data Item : Type 0 where
  read write : ℕ → ℕ → Item  -- word, value

-- the memory after the log's writes
unfoldable pub replay : List Item → (ℕ → ℕ) → ℕ → ℕ
replay [] M = M
replay (read w x ∷ l) M = replay l M
replay (write w v ∷ l) M = put (replay l M) w v

-- every read of the log, replayed on M, gives what was answered
abbrev pub Replays : List Item → (ℕ → ℕ) → Type 0
Replays [] M = Unit {0}
Replays (read w x ∷ l) M = (replay l M w ≡ x) × Replays l M
Replays (write w v ∷ l) M = Replays l M

-- the log without its reads of w
unfoldable pub forget : ℕ → List Item → List Item
forget w [] = []
forget w (read u x ∷ l) = pick_dec (ℕ_discrete u w) (forget w l) (read u x ∷ forget w l)
forget w (write u v ∷ l) = write u v ∷ forget w l
