-- LT, LTX and ST whole, and every step by its number: each is a step of the theory, and leaves the state fit.
use mathlib.Core.Path.{◌≡◌, refl, sym, ◌∙◌}
use mathlib.Core.Bool.{Bool, true, false}
use Prim.Native.Nat.{ℕ, zero, suc, ◌≤◌, ◌<◌}
use native.Mathlib.Omega.{arith}
use lib.Dec.{ltb}
use borrow.Author.Tests.{ltb-true, ltb-false}
use Rattle.laws.specs.Choice.{pick}
use Rattle.entry.specs.declared.answer.Answer.TheVariants.{Aborted}
use Rattle.entry.specs.declared.step.Step.{Step}
use Rattle.entry.specs.Numbers.{NORMAL, TENTATIVE, INTERRUPT}
use Rattle.entry.specs.Refusals.{accepted}
use Rattle.entry.specs.Step.{step, uses_word}
use Rattle.entry.specs.Answer.{no_cycles}
use Rattle.rules.specs.declared.Dims.{Dims}
use Rattle.rules.specs.declared.Caches.{Caches}
use Rattle.rules.specs.State.{gives, Counted, entry_at, TSTATUS}
use Rattle.rules.specs.Own.{find_entry}
use Rattle.rules.specs.Rollback.{begun}
use Rattle.rules.specs.Transact.{drop_line, hit, open_normal, miss, seek, transact}
use Rattle.rules.specs.Step.{operands_refusal, narrowed, take_step}
use Rattle.rules.proofs.Taken.{Taken, narrowed_same}
use Rattle.theory.specs.View.{View}
use Rattle.theory.specs.Protocol.{Opened, Starts, not_normal, opens, dead, is_regular}
use Rattle.theory.proofs.Refine.{same_refl}
use Rattle.serial.specs.Shown.{by_access, shows}
use Rattle.serial.specs.Taking.{value_end}
use Rattle.serial.proofs.Decode.{seen}
use Rattle.serial.proofs.Set.{Fit}
use Rattle.serial.proofs.Ends.{Does, begun_fit, begun_is, status_at, interrupt_does, validate_does, commit_does, abort_does}
use Rattle.serial.proofs.Find.{is_none, found_tag, found_word, has_tentative, no_normal, no_tentative}
use Rattle.serial.proofs.Lined.{Unlined, drop_line_unlined}
use Rattle.serial.proofs.Load.{load_does}
use Rattle.serial.proofs.Store.{store_does}
use Rattle.serial.proofs.Access.{Access, lt, ltx, st, number, hit_does}
use Rattle.serial.proofs.Opened.{open_normal_began}
use Rattle.serial.proofs.Miss.{miss_does}

-- TSTATUS is true, and p has no regular copy
module _ {d : Dims} (a : Access) (p : ℕ) (lp : p < d.processors) (w : ℕ) (lw : w < d.words) (v : ℕ) (lv : v < value_end) {S : View} (k : Counted)
    (F : Fit d k.after)
    (O : (T : View) → Starts p w (seen d k.after) T → Opened p w S T) (nr : is_regular ((seen d k.after).copy w p) ≡ false) where
  seek_does : Does d S (by_access p w v) (seek d (number a) p w v k)
  unfolding seek
  seek_does = by (ltb i d.entries) refl (ltb j d.entries) refl
    where
      s : Caches
      s = k.after

      i : ℕ
      i = find_entry s.entries p d.entries TENTATIVE w

      j : ℕ
      j = find_entry s.entries p d.entries NORMAL w

      by : (x : Bool) → ltb i d.entries ≡ x → (y : Bool) → ltb j d.entries ≡ y
          → Does d S (by_access p w v)
          (pick x (hit d (number a) p i w v k.writes 0 s)
          (pick y (hit d (number a) p j w v k.writes (open_normal d p j s).writes (open_normal d p j s).after)
          (miss d (number a) p w v k.writes s)))
      by true hx y hy =
          let l = ltb-true i d.entries hx in
          let t = found_tag s p d.entries TENTATIVE w l in
          let u = found_word s p d.entries TENTATIVE w l in
          hit_does p lp w v lv F (O (seen d s) (not_normal (rw (has_tentative F p lp w i l (entry_at s p i) refl u t)) same_refl)) i l t u a
          k.writes 0
      by false hx true hy =
          let l = ltb-true j d.entries hy in
          let g = open_normal_began F p lp w j l (found_tag s p d.entries NORMAL w l) (found_word s p d.entries NORMAL w l) in
          hit_does p lp w v lv g.fit (O (seen d (open_normal d p j s).after) (opens g.begun)) j l g.tag g.word a k.writes
          (open_normal d p j s).writes
      by false hx false hy =
          let nn = no_normal F p lp w (ltb-false j d.entries hy) in
          miss_does a p lp w lw v lv F (O (seen d s) (not_normal nn same_refl))
          (is_none ((seen d s).copy w p) nr nn (no_tentative F p lp w (ltb-false i d.entries hx))) k.writes

pub transact_does : {d : Dims} {s : Caches} → Fit d s → (a : Access) (p : ℕ) → p < d.processors → (w : ℕ) → w < d.words → (v : ℕ) → v < value_end
    → Does d (seen d s) (by_access p w v) (transact d (number a) p w v s)
unfolding transact
transact_does {d} {s} F a p lp w lw v lv = by (TSTATUS t p) refl
  where
    t : Caches
    t = begun p s

    F₁ : Fit d t
    F₁ = begun_fit F p lp

    status : (seen d s).status p ≡ TSTATUS t p
    status = sym (begun_is F p lp).status ∙ status_at F₁ p lp

    U : Unlined d p w t (drop_line d p w t).after
    U = drop_line_unlined F₁ p lp w

    by : (b : Bool) → TSTATUS t p ≡ b
        → Does d (seen d s) (by_access p w v) (pick b (seek d (number a) p w v (drop_line d p w t)) (gives Aborted no_cycles t))
    by true h =
        seek_does a p lp w lw v lv (drop_line d p w t) U.fit
        (λ T x. record {
          woken = seen d t;
          clear = seen d (drop_line d p w t).after;
          sound = status ∙ h;
          wakes = begun_is F p lp;
          clears = U.clears;
          starts = x;
        }) U.none_left
    by false h = record { fit = F₁; step = dead (status ∙ h) (begun_is F p lp) }

pub step_does : {d : Dims} {s : Caches} → Fit d s → (x : Step) → Taken d x → x.value < value_end → Does d (seen d s) (shows x) (take_step d x s)
unfolding take_step shows
step_does {d} {s} F x t lv = go x.op t.number t.operands t.word (narrowed_same F.frame.size.words t)
  where
    p : ℕ
    p = x.core

    w : ℕ
    w = x.word

    v : ℕ
    v = x.value

    lp : p < d.processors
    lp = t.processor

    go : (op : ℕ) → op ≤ INTERRUPT → operands_refusal d (step op p w v) ≡ accepted → (uses_word op ≡ true → w < d.words)
        → (uses_word op ≡ true → narrowed w ≡ w) → Does d (seen d s) (shows (step op p w v)) (take_step d (step op p w v) s)
    go zero l o lw n = rw (o, n refl) (load_does F p lp w (lw refl))
    go (suc zero) l o lw n = rw (o, n refl) (store_does F p lp w (lw refl) v lv)
    go (suc (suc zero)) l o lw n = rw (o, n refl) (transact_does F lt p lp w (lw refl) v lv)
    go (suc (suc (suc zero))) l o lw n = rw (o, n refl) (transact_does F ltx p lp w (lw refl) v lv)
    go (suc (suc (suc (suc zero)))) l o lw n = rw (o, n refl) (transact_does F st p lp w (lw refl) v lv)
    go (suc (suc (suc (suc (suc zero))))) l o lw n = rw o (commit_does F p lp)
    go (suc (suc (suc (suc (suc (suc zero)))))) l o lw n = rw o (abort_does F p lp)
    go (suc (suc (suc (suc (suc (suc (suc zero))))))) l o lw n = rw o (validate_does F p lp)
    go (suc (suc (suc (suc (suc (suc (suc (suc zero)))))))) l o lw n = rw o (interrupt_does F p lp)
    go (suc (suc (suc (suc (suc (suc (suc (suc (suc op))))))))) l o lw n = absurd (omega arith)
