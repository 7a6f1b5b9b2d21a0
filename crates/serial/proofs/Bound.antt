-- "One step counts at most 3 WRITE, one request and one BUSY", whatever the state; and a trace that reaches 3.
use mathlib.Core.Bool.{Bool, true, false}
use mathlib.Core.List.{[], ◌∷◌}
use Prim.Native.Nat.{ℕ, ◌+◌, ◌≤◌}
use native.Mathlib.Omega.{arith}
use lib.Dec.{eqb, ltb, T}
use Rattle.laws.specs.Choice.{pick}
use Rattle.entry.specs.declared.Entry.{Entry}
use Rattle.entry.specs.declared.answer.Answer.TheVariants.{Value, Done, Success}
use Rattle.entry.specs.declared.answer.Counts.{Counts}
use Rattle.entry.specs.declared.step.Step.{Step}
use Rattle.entry.specs.Numbers.{VALID, DIRTY, NORMAL, TENTATIVE, LOAD, STORE, LT, LTX, ST, COMMIT, ABORT, VALIDATE, INTERRUPT, RFO, T_READ, T_RFO}
use Rattle.entry.specs.Answer.{asked, quiet, no_cycles, refused_by}
use Rattle.entry.specs.Refusals.{accepted, not_sound}
use Rattle.rules.specs.declared.Dims.{Dims}
use Rattle.rules.specs.declared.Machine.{Machine}
use Rattle.rules.specs.declared.Caches.{Caches}
use Rattle.rules.specs.State.{caches_of, Outcome, Counted, counted, line_at, entry_at, TSTATUS}
use Rattle.rules.specs.Own.{home, holds, find_entry, free_slot}
use Rattle.rules.specs.Rollback.{rollback, begun}
use Rattle.rules.specs.Snoop.{writes, clear_entry, refuses}
use Rattle.rules.specs.Load.{load_miss, load_on, load}
use Rattle.rules.specs.Store.{roll_own, drop_normal, store_through, store_miss, store_line, store}
use Rattle.rules.specs.Transact.{request_of, drop_line, finish, hit, open_normal, clear_backup, fill, request, miss_at, miss, seek, transact}
use Rattle.rules.specs.Ends.{commit, abort, validate, interrupt}
use Rattle.rules.specs.Making.{dims}
use Rattle.rules.specs.SoundTest.{sound_of}
use Rattle.rules.specs.Step.{operands_refusal, allowed, narrowed, take_step, stepped, stepped_of, step_of}
use Rattle.rules.proofs.Table.{row, case, passes}
use Rattle.serial.specs.Bounded.{Bounded}
use Rattle.serial.proofs.Access.{Access, lt, ltx, st, number}

abbrev Within : Outcome → Type 0
Within r = Bounded r.told.counts

no_cycles_bound : Bounded no_cycles
no_cycles_bound = record { writes = omega arith; requests = omega arith; busy = omega arith }

quiet_bound : (w : ℕ) → w ≤ 3 → Bounded (quiet w)
quiet_bound w l = record { writes = l; requests = omega arith; busy = omega arith }

-- a choice of two that are bounded
either_bound : (b : Bool) (x y : Outcome) → Within x → Within y → Within (pick b x y)
either_bound true x y a b = a
either_bound false x y a b = b

one_write : (e : Entry) → writes e ≤ 1
unfolding writes
one_write e = by (eqb e.state DIRTY)
  where
    by : (b : Bool) → pick b 1 0 ≤ 1
    by true = omega arith
    by false = omega arith

counted_most : (b : Bool) (x y : Counted) → x.writes ≤ 1 → y.writes ≤ 1 → (pick b x y).writes ≤ 1
counted_most true x y a b = a
counted_most false x y a b = b

module _ (d : Dims) (p w : ℕ) where
  load_miss_bound : (s : Caches) → Within (load_miss d p w s)
  unfolding load_miss
  load_miss_bound s = let l = one_write (line_at s p (home d w)) in record { writes = omega arith; requests = omega arith; busy = omega arith }

  load_on_bound : (s : Caches) → Within (load_on d p w s)
  unfolding load_on
  load_on_bound s = either_bound (ltb (find_entry s.entries p d.entries NORMAL w) d.entries) _ (load_miss d p w s) no_cycles_bound
      (load_miss_bound s)

  load_bound : (s : Caches) → Within (load d p w s)
  unfolding load
  load_bound s =
      let i = find_entry s.entries p d.entries TENTATIVE w in
      either_bound (holds (line_at s p (home d w)) w) _ _ no_cycles_bound
      (either_bound (ltb i d.entries) _ _
      (either_bound (eqb (entry_at s p i).state VALID) _ _ no_cycles_bound (load_on_bound (rollback d p s))) (load_on_bound s))

  module _ (v : ℕ) where
    store_bound : (s : Caches) → Within (store d p w v s)
    unfolding store store_line store_through store_miss drop_normal
    store_bound s = by (drop_normal d p w (roll_own d p w s)) (counted_most (ltb i d.entries) _ _ (one_write _) (omega arith))
      where
        i : ℕ
        i = find_entry (roll_own d p w s).entries p d.entries NORMAL w

        by : (k : Counted) → k.writes ≤ 1 → Within (store_line d p w v k)
        by k l =
            let one = one_write (line_at k.after p (home d w)) in
            either_bound (holds (line_at k.after p (home d w)) w) _ _
            (either_bound (eqb (line_at k.after p (home d w)).state VALID) _ _
            (record { writes = omega arith; requests = omega arith; busy = omega arith }) (quiet_bound k.writes (omega arith)))
            (record { writes = omega arith; requests = omega arith; busy = omega arith })

    finish_bound : (op i : ℕ) (c : Counts) (s : Caches) → Bounded c → Within (finish op p i v c s)
    unfolding finish
    finish_bound op i c s h = either_bound (eqb op ST) _ _ h h

    -- T_READ and T_RFO, refused or not
    asked_bound : (a : Access) (n b : ℕ) → n ≤ 3 → b ≤ 1 → Bounded (asked (request_of (number a)) n b)
    asked_bound lt n b l m = record { writes = l; requests = omega arith; busy = m }
    asked_bound ltx n b l m = record { writes = l; requests = omega arith; busy = m }
    asked_bound st n b l m = record { writes = l; requests = omega arith; busy = m }

    raised_bound : (n b : ℕ) → n ≤ 3 → b ≤ 1 → Bounded (asked T_RFO n b)
    raised_bound n b l m = record { writes = l; requests = omega arith; busy = m }

    hit_bound : (op i x y : ℕ) (s : Caches) → x + y ≤ 3 → Within (hit d op p i w v x y s)
    unfolding hit
    hit_bound op i x y s l =
        let silent = finish_bound op i (quiet (x + y)) s (quiet_bound (x + y) l) in
        either_bound (eqb op LT) _ _ silent
        (either_bound (eqb (entry_at s p i).state VALID) _ _
        (either_bound (refuses d p w T_RFO s.entries) _ _ (raised_bound (x + y) 1 l (omega arith))
        (finish_bound op i (asked T_RFO (x + y) 0) _ (raised_bound (x + y) 0 l (omega arith)))) silent)

    request_bound : (a : Access) (i b n : ℕ) (s : Caches) → n ≤ 3 → Within (request d (number a) p i b w v n s)
    unfolding request fill
    request_bound a i b n s l =
        either_bound (refuses d p w (request_of (number a)) s.entries) _ _ (asked_bound a n 1 l (omega arith))
        (finish_bound (number a) i (asked (request_of (number a)) n 0) _ (asked_bound a n 0 l (omega arith)))

    access_miss_bound : (a : Access) (n : ℕ) (s : Caches) → n ≤ 1 → Within (miss d (number a) p w v n s)
    unfolding miss miss_at clear_backup
    access_miss_bound a n s l =
        let i = free_slot s.entries p d.entries d.entries in
        let t = clear_entry s p i in
        let b = free_slot t.entries p d.entries i in
        let one = one_write (entry_at s p i) in
        let two = counted_most (ltb b d.entries) (counted (writes (entry_at t p b)) (clear_entry t p b)) (counted 0 t) (one_write (entry_at t p b))
        (omega arith) in
        either_bound (ltb i d.entries) _ _ (request_bound a i b _ _ (omega arith)) (quiet_bound n (omega arith))

    open_most : (j : ℕ) (s : Caches) → (open_normal d p j s).writes ≤ 1
    unfolding open_normal
    open_most j s = counted_most (ltb (free_slot s.entries p d.entries j) d.entries) _ _ (one_write _) (one_write (entry_at s p j))

    seek_bound : (a : Access) (k : Counted) → k.writes ≤ 1 → Within (seek d (number a) p w v k)
    unfolding seek
    seek_bound a k l =
        let s = k.after in
        let i = find_entry s.entries p d.entries TENTATIVE w in
        let j = find_entry s.entries p d.entries NORMAL w in
        let o = open_most j s in
        either_bound (ltb i d.entries) _ _ (hit_bound (number a) i k.writes 0 s (omega arith))
        (either_bound (ltb j d.entries) _ _
        (hit_bound (number a) j k.writes (open_normal d p j s).writes (open_normal d p j s).after (omega arith))
        (access_miss_bound a k.writes s l))

    transact_bound : (a : Access) (s : Caches) → Within (transact d (number a) p w v s)
    unfolding transact drop_line
    transact_bound a s =
        let t = begun p s in
        either_bound (TSTATUS t p) _ _
        (seek_bound a (drop_line d p w t) (counted_most (holds (line_at t p (home d w)) w) _ _ (one_write (line_at t p (home d w))) (omega arith)))
        no_cycles_bound

module _ (d : Dims) (x : Step) (s : Caches) where
  allowed_bound : (r : Outcome) → Within r → Within (allowed d x s r)
  allowed_bound r h = either_bound (eqb (operands_refusal d x) accepted) _ _ h no_cycles_bound

  pub step_bound : Bounded (take_step d x s).told.counts
  unfolding take_step commit abort validate interrupt
  step_bound =
      either_bound (eqb op LOAD) _ _ (allowed_bound _ (load_bound d p w s))
      (either_bound (eqb op STORE) _ _ (allowed_bound _ (store_bound d p w v s))
      (either_bound (eqb op LT) _ _ (allowed_bound _ (transact_bound d p w v lt s))
      (either_bound (eqb op LTX) _ _ (allowed_bound _ (transact_bound d p w v ltx s))
      (either_bound (eqb op ST) _ _ (allowed_bound _ (transact_bound d p w v st s))
      (either_bound (eqb op COMMIT) _ _ (allowed_bound _ (either_bound (TSTATUS s p) _ _ no_cycles_bound no_cycles_bound))
      (either_bound (eqb op ABORT) _ _ (allowed_bound _ no_cycles_bound)
      (either_bound (eqb op VALIDATE) _ _ (allowed_bound _ (either_bound (TSTATUS s p) _ _ no_cycles_bound no_cycles_bound))
      (either_bound (eqb op INTERRUPT) _ _ (allowed_bound _ no_cycles_bound) no_cycles_bound))))))))
    where
      op : ℕ
      op = x.op

      p : ℕ
      p = x.core

      w : ℕ
      w = narrowed x.word

      v : ℕ
      v = x.value

-- the machine's step, a refused one too
pub machine_bound : (m : Machine) (x : Step) → Bounded (step_of m x).told.counts
unfolding step_of
machine_bound m x = by (sound_of m.dims (caches_of m))
  where
    by : (b : Bool) → Bounded (pick b (stepped_of m.dims (take_step m.dims x (caches_of m))) (stepped (refused_by not_sound) m)).told.counts
    by true = step_bound m.dims x (caches_of m)
    by false = no_cycles_bound

-- the last LT drops a DIRTY regular copy of its word, and both its slots were DIRTY NORMAL entries
pub three_writes : T
    (passes
    (case (dims 1 4 4 2) (10 ∷ 11 ∷ 12 ∷ 13 ∷ [])
    (row ST 0 1 5 Done (asked T_RFO 0 0) ∷
    row ST 0 2 6 Done (asked T_RFO 0 0) ∷
    row COMMIT 0 0 0 Success no_cycles ∷
    row STORE 0 3 9 Done (asked RFO 0 0) ∷
    row LT 0 3 0 (Value 9) (asked T_READ 3 0) ∷
    [])))
unfolding passes
three_writes = tt
