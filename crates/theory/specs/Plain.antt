-- The plain machine: one memory, and for each processor the log of its transaction. A plain access takes place at once, a transaction whole
-- at its commit; one that is dropped, or never ends, leaves nothing.
use Rattle.std.specs.Prelude.{◌≡◌, List, [], ◌∷◌, ℕ}
use Rattle.theory.specs.Event.{Event, load, store, tread, twrite, release, commit, drop}
use Rattle.theory.specs.Log.{put, Item, read, write, replay, Replays, forget}

pub record Plain : Type 0 where
  pub val : ℕ → ℕ
  pub log : ℕ → List Item

abbrev pub unlogged : (ℕ → ℕ) → Plain
unlogged M = record { val = M; log = λ p. [] }

abbrev pub with_log : Plain → ℕ → List Item → Plain
with_log P p l = record { val = P.val; log = put P.log p l }

abbrev pub next : Event → Plain → Plain
next (load p w x) P = P
next (store p w v) P = record { val = put P.val w v; log = P.log }
next (tread p w x) P = with_log P p (read w x ∷ P.log p)
next (twrite p w v) P = with_log P p (write w v ∷ P.log p)
next (release p w) P = with_log P p (forget w (P.log p))
next (commit p) P = record { val = replay (P.log p) P.val; log = put P.log p [] }
next (drop p) P = with_log P p []

abbrev pub after_events : List Event → Plain → Plain
after_events [] P = P
after_events (e ∷ es) P = after_events es (next e P)

-- A holds of each event and the plain machine that it meets
abbrev pub Along : (Event → Plain → Type 0) → List Event → Plain → Type 0
Along A [] P = Unit {0}
Along A (e ∷ es) P = A e P × Along A es (next e P)

-- a plain load reads the memory; a transaction that commits reads, replayed on the memory at its commit, what it was answered
abbrev pub Explains : Event → Plain → Type 0
Explains (load p w x) P = P.val w ≡ x
Explains (store p w v) P = Unit {0}
Explains (tread p w x) P = Unit {0}
Explains (twrite p w v) P = Unit {0}
Explains (release p w) P = Unit {0}
Explains (commit p) P = Replays (P.log p) P.val
Explains (drop p) P = Unit {0}

abbrev pub Serial : List Event → Plain → Type 0
Serial es P = Along Explains es P

-- Opacity: at each read a transaction, whatever becomes of it, has read what its log replays on the memory of that moment, this read too
abbrev pub Sees : Event → Plain → Type 0
Sees (load p w x) P = P.val w ≡ x
Sees (store p w v) P = Unit {0}
Sees (tread p w x) P = Replays (read w x ∷ P.log p) P.val
Sees (twrite p w v) P = Unit {0}
Sees (release p w) P = Unit {0}
Sees (commit p) P = Unit {0}
Sees (drop p) P = Unit {0}

abbrev pub Opaque : List Event → Plain → Type 0
Opaque es P = Along Sees es P
