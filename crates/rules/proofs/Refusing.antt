-- No instruction refuses: only the number of a step and its operands do. So a step that is refused leaves the state as it was, and its
-- number is not `accepted`.
use mathlib.Core.Path.{◌≡◌, refl}
use mathlib.Core.Logic.{◌≢◌}
use mathlib.Core.Bool.{Bool, true, false, not, true≢false}
use Prim.Native.Nat.{ℕ, ◌+◌}
use lib.Dec.{eqb, ltb}
use Rattle.laws.specs.Choice.{pick}
use Rattle.entry.specs.declared.answer.Answer.{Answer}
use Rattle.entry.specs.declared.answer.Answer.TheVariants.{Value, Done, Success, Failure, True, False, Aborted, Refused}
use Rattle.entry.specs.declared.answer.Counts.{Counts}
use Rattle.entry.specs.declared.step.Step.{Step}
use Rattle.entry.specs.Numbers.{VALID, NORMAL, TENTATIVE, T_RFO, LOAD, STORE, LT, LTX, ST, COMMIT, ABORT, VALIDATE, INTERRUPT}
use Rattle.entry.specs.Refusals.{accepted}
use Rattle.entry.specs.Answer.{quiet, asked, refusal_number, is_refusal}
use Rattle.rules.specs.declared.Dims.{Dims}
use Rattle.rules.specs.declared.Caches.{Caches}
use Rattle.rules.specs.State.{Outcome, Counted, line_at, entry_at, TSTATUS}
use Rattle.rules.specs.Own.{home, holds, find_entry, free_slot}
use Rattle.rules.specs.Rollback.{rollback, begun}
use Rattle.rules.specs.Snoop.{refuses}
use Rattle.rules.specs.Load.{load_miss, load_on, load}
use Rattle.rules.specs.Store.{roll_own, drop_normal, store_through, store_miss, store_line, store}
use Rattle.rules.specs.Transact.{request_of, drop_line, finish, hit, open_normal, fill, request, miss_at, miss, seek, transact}
use Rattle.rules.specs.Ends.{commit, abort, validate, interrupt}
use Rattle.rules.specs.Step.{operands_refusal, allowed, refused, narrowed, take_step}

abbrev pub refusal_of : Outcome → ℕ
refusal_of r = refusal_number r.told.answer

abbrev pub is_refused : Outcome → Bool
is_refused r = is_refusal r.told.answer

abbrev pub Accepts : Outcome → Type 0
Accepts r = is_refused r ≡ false

unrefused : (a : Answer) → is_refusal a ≡ false → refusal_number a ≡ accepted
unrefused (Value v) h = refl
unrefused Done h = refl
unrefused Success h = refl
unrefused Failure h = refl
unrefused True h = refl
unrefused False h = refl
unrefused Aborted h = refl
unrefused (Refused n) h = absurd (true≢false h)

pub either_accepts : (b : Bool) (x y : Outcome) → Accepts x → Accepts y → Accepts (pick b x y)
either_accepts true x y h h' = h
either_accepts false x y h h' = h'

module _ (d : Dims) (p w : ℕ) where
  miss_accepts : (s : Caches) → Accepts (load_miss d p w s)
  unfolding load_miss
  miss_accepts s = refl

  on_accepts : (s : Caches) → Accepts (load_on d p w s)
  unfolding load_on
  on_accepts s = either_accepts (ltb (find_entry s.entries p d.entries NORMAL w) d.entries) _ (load_miss d p w s) refl (miss_accepts s)

  pub load_accepts : (s : Caches) → Accepts (load d p w s)
  unfolding load
  load_accepts s =
      let i = find_entry s.entries p d.entries TENTATIVE w in
      either_accepts (holds (line_at s p (home d w)) w) _ _ refl
      (either_accepts (ltb i d.entries) _ _
      (either_accepts (eqb (entry_at s p i).state VALID) _ _ refl (on_accepts (rollback d p s))) (on_accepts s))

  module _ (v : ℕ) where
    pub store_accepts : (s : Caches) → Accepts (store d p w v s)
    unfolding store store_line store_through store_miss
    store_accepts s = by (drop_normal d p w (roll_own d p w s))
      where
        by : (k : Counted) → Accepts (store_line d p w v k)
        by k =
            let line = line_at k.after p (home d w) in
            either_accepts (holds line w) _ _ (either_accepts (eqb line.state VALID) _ _ refl refl) refl

    finish_accepts : (op i : ℕ) (c : Counts) (s : Caches) → Accepts (finish op p i v c s)
    unfolding finish
    finish_accepts op i c s = either_accepts (eqb op ST) _ _ refl refl

    hit_accepts : (op i x y : ℕ) (s : Caches) → Accepts (hit d op p i w v x y s)
    unfolding hit
    hit_accepts op i x y s =
        let silent = finish_accepts op i (quiet (x + y)) s in
        either_accepts (eqb op LT) _ _ silent
        (either_accepts (eqb (entry_at s p i).state VALID) _ _
        (either_accepts (refuses d p w T_RFO s.entries) _ _ refl (finish_accepts op i (asked T_RFO (x + y) 0) _)) silent)

    request_accepts : (op i b n : ℕ) (s : Caches) → Accepts (request d op p i b w v n s)
    unfolding request fill
    request_accepts op i b n s =
        either_accepts (refuses d p w (request_of op) s.entries) _ _ refl (finish_accepts op i (asked (request_of op) n 0) _)

    access_miss_accepts : (op n : ℕ) (s : Caches) → Accepts (miss d op p w v n s)
    unfolding miss miss_at
    access_miss_accepts op n s =
        let i = free_slot s.entries p d.entries d.entries in
        either_accepts (ltb i d.entries) _ _ (request_accepts op i _ _ _) refl

    seek_accepts : (op : ℕ) (k : Counted) → Accepts (seek d op p w v k)
    unfolding seek
    seek_accepts op k =
        let s = k.after in
        let i = find_entry s.entries p d.entries TENTATIVE w in
        let j = find_entry s.entries p d.entries NORMAL w in
        either_accepts (ltb i d.entries) _ _ (hit_accepts op i k.writes 0 s)
        (either_accepts (ltb j d.entries) _ _
        (hit_accepts op j k.writes (open_normal d p j s).writes (open_normal d p j s).after)
        (access_miss_accepts op k.writes s))

    pub transact_accepts : (op : ℕ) (s : Caches) → Accepts (transact d op p w v s)
    unfolding transact
    transact_accepts op s =
        let t = begun p s in
        either_accepts (TSTATUS t p) _ _ (seek_accepts op (drop_line d p w t)) refl

-- an answer is a refusal where it has a refusal's number, and there the state is s
abbrev Tells : Caches → Outcome → Type 0
Tells s r = (is_refused r ≡ not (eqb (refusal_of r) accepted)) × (refusal_of r ≢ accepted → r.after ≡ s)

either_tells : (s : Caches) (b : Bool) (x y : Outcome) → Tells s x → Tells s y → Tells s (pick b x y)
either_tells s true x y h h' = h
either_tells s false x y h h' = h'

module _ (d : Dims) (x : Step) (s : Caches) where
  allowed_tells : (r : Outcome) → Accepts r → Tells s (allowed d x s r)
  allowed_tells r h = by (eqb (operands_refusal d x) accepted) refl
    where
      n : refusal_of r ≡ accepted
      n = unrefused r.told.answer h

      by : (b : Bool) → eqb (operands_refusal d x) accepted ≡ b → Tells s (pick b r (refused (operands_refusal d x) s))
      by true e = (rw (h, n), λ no. absurd (no n))
      by false e = (rw e, λ no. refl)

  taken_tells : Tells s (take_step d x s)
  unfolding take_step commit abort validate interrupt
  taken_tells =
      either_tells s (eqb op LOAD) _ _ (allowed_tells _ (load_accepts d p w s))
      (either_tells s (eqb op STORE) _ _ (allowed_tells _ (store_accepts d p w v s))
      (either_tells s (eqb op LT) _ _ (allowed_tells _ (transact_accepts d p w v LT s))
      (either_tells s (eqb op LTX) _ _ (allowed_tells _ (transact_accepts d p w v LTX s))
      (either_tells s (eqb op ST) _ _ (allowed_tells _ (transact_accepts d p w v ST s))
      (either_tells s (eqb op COMMIT) _ _ (allowed_tells _ (either_accepts (TSTATUS s p) _ _ refl refl))
      (either_tells s (eqb op ABORT) _ _ (allowed_tells _ refl)
      (either_tells s (eqb op VALIDATE) _ _ (allowed_tells _ (either_accepts (TSTATUS s p) _ _ refl refl))
      (either_tells s (eqb op INTERRUPT) _ _ (allowed_tells _ refl) (refl, λ no. refl)))))))))
    where
      op : ℕ
      op = x.op

      p : ℕ
      p = x.core

      w : ℕ
      w = narrowed x.word

      v : ℕ
      v = x.value

  pub tells_refusal : is_refused (take_step d x s) ≡ not (eqb (refusal_of (take_step d x s)) accepted)
  tells_refusal = taken_tells.0

  pub refused_stays : refusal_of (take_step d x s) ≢ accepted → (take_step d x s).after ≡ s
  refused_stays = taken_tells.1
