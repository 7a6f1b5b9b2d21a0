-- Rollback, COMMIT, ABORT, VALIDATE and INTERRUPT are the theory's.
use mathlib.Core.Path.{◌≡◌, refl, sym, ◌∙◌, ap}
use mathlib.Core.Logic.{inl}
use mathlib.Core.Bool.{Bool, true, false}
use mathlib.Core.List.{List}
use Prim.Native.Nat.{ℕ, ◌<◌}
use native.Mathlib.Omega.{arith}
use borrow.Author.Tests.{lt-ltb}
use Rattle.laws.specs.Choice.{pick}
use Rattle.entry.specs.declared.Entry.{Entry}
use Rattle.entry.specs.declared.answer.Answer.{Answer}
use Rattle.entry.specs.declared.answer.Answer.TheVariants.{Success, Failure, True, False}
use Rattle.entry.specs.Numbers.{BACKUP, TENTATIVE}
use Rattle.entry.specs.Packing.{InRange}
use Rattle.entry.specs.Answer.{no_cycles}
use Rattle.entry.specs.Entry.{rolled_back, committed}
use Rattle.rules.specs.declared.Dims.{Dims}
use Rattle.rules.specs.declared.Caches.{Caches}
use Rattle.rules.specs.State.{caches, copy_at, with_flags, Outcome, gives, TSTATUS, true_flag}
use Rattle.rules.specs.Own.{home}
use Rattle.rules.specs.Rollback.{over_entries, rolled_entries, committed_entries, rollback, begun, ended}
use Rattle.rules.specs.Ends
use Rattle.theory.specs.Event.{Event}
use Rattle.theory.specs.View.{View}
use Rattle.theory.specs.View
use Rattle.theory.specs.Change.{OnlyProcessor, same}
use Rattle.theory.proofs.Cache.{Slot, vacant}
use Rattle.theory.proofs.AllSlots.{slot_rollback, slot_commit}
use Rattle.theory.proofs.Updates.{AllTidy, SlotMap, rolled_back_lem, slots_committed, flagged}
use Rattle.theory.specs.Protocol.{RolledBack, Woken, Ended, Step, commit_yes, over, aborts, validate_yes, interrupts}
use Rattle.theory.proofs.Refine.{same_refl}
use Rattle.serial.specs.Shown.{by_end}
use Rattle.serial.proofs.Decode.{slot_of, decoded, seen, read_at, read_same}
use Rattle.serial.proofs.Frame.{EntryFits, Fits, Frame}
use Rattle.serial.proofs.Set.{Fit}
use Rattle.serial.proofs.Over.{over_in, over_else, over_copies, slot_rolled, slot_committed, range_ends, fits_ends}
use Rattle.serial.proofs.Flag.{FlagsTo, set_active, status_down_flags, ended_flags}

-- an outcome is a step of the theory that shows the events of its answer, and leaves the state fit
pub record Does (d : Dims) (S : View) (es : Answer → List Event) (r : Outcome) : Type 0 where
  pub fit : Fit d r.after
  pub step : Step d.processors S (seen d r.after) (es r.told.answer)

module _ {d : Dims} {s : Caches} (F : Fit d s) (p : ℕ) (lp : p < d.processors) where
  -- p's entries by g, and p's flags
  module _ (g : Entry → Entry) (range : (e : Entry) → InRange e → InRange (g e))
      (h : Slot → Slot) (gh : (e : Entry) → slot_of (g e) ≡ h (slot_of e)) {a b : Bool} {fs : List ℕ}
      (T : FlagsTo d.processors p a b s.flags fs) where
    abbrev pub mapped : Caches
    mapped = caches s.memory s.lines (over_entries g p d.entries s.entries) fs

    pub maps : SlotMap d.entries (home d) h p (decoded d s) (decoded d mapped)
    maps = record {
      here = λ i li.
          read_at slot_of vacant d.processors d.entries (over_entries g p d.entries s.entries) p i lp li ∙
          (ap slot_of
          (over_in g range p d.entries (omega (arith, F.frame.size.processors)) F.frame.size.entries s.entries
          F.frame.entries.long i li) ∙
          (gh (copy_at s.entries p i) ∙ ap h (sym (read_at slot_of vacant d.processors d.entries s.entries p i lp li))));
      slots = λ q j n lj.
          read_same slot_of vacant d.processors d.entries s.entries (over_entries g p d.entries s.entries) q j
          (λ lq l.
          over_else g range p d.entries (omega (arith, F.frame.size.processors)) F.frame.size.entries s.entries
          F.frame.entries.long q j
          (omega (arith, F.frame.size.processors)) (omega (arith, F.frame.size.entries)) (inl n));
      lines = λ q i. refl;
      memories = λ u. refl;
      actives = T.active_else;
      statuses = T.status_else;
    }

    pub mapped_frame : ((i : ℕ) (e : Entry) → Fits (EntryFits d) p i e → Fits (EntryFits d) p i (g e)) → Frame d mapped
    mapped_frame fits = record {
      size = F.frame.size;
      memory = F.frame.memory;
      lines = F.frame.lines;
      entries =
          over_copies g range p d.entries (omega (arith, F.frame.size.processors)) F.frame.size.entries s.entries
          F.frame.entries.long
          F.frame.entries fits;
      flags = T.frame;
    }

  rolls : AllTidy d.entries (home d) (decoded d (rollback d p s)) × RolledBack p (seen d s) (seen d (rollback d p s))
  unfolding rolled_entries
  rolls =
      let T = status_down_flags F.frame.flags F.frame.size.processors p lp in
      rolled_back_lem d.entries (home d) p F.tidy (maps rolled_back (range_ends TENTATIVE BACKUP) slot_rollback slot_rolled T) T.active T.status

  pub rollback_fit : Fit d (rollback d p s)
  unfolding rolled_entries
  rollback_fit = record {
    frame = mapped_frame rolled_back (range_ends TENTATIVE BACKUP) slot_rollback slot_rolled
        (status_down_flags F.frame.flags F.frame.size.processors p lp)
        (λ i. fits_ends TENTATIVE BACKUP (λ z. omega arith));
    tidy = rolls.0;
  }

  pub rollback_is : RolledBack p (seen d s) (seen d (rollback d p s))
  rollback_is = rolls.1

  -- p's flags alone
  module _ {a b : Bool} {fs : List ℕ} (T : FlagsTo d.processors p a b s.flags fs) where
    flag_map : SlotMap d.entries (home d) (λ x. x) p (decoded d s) (decoded d (with_flags s fs))
    flag_map = record {
      here = λ i l. refl;
      slots = λ q j n l. refl;
      lines = λ q i. refl;
      memories = λ u. refl;
      actives = T.active_else;
      statuses = T.status_else;
    }

    pub flag_fit : Fit d (with_flags s fs)
    flag_fit = record {
      frame = record { size = F.frame.size; memory = F.frame.memory; lines = F.frame.lines; entries = F.frame.entries; flags = T.frame };
      tidy = (flagged d.entries (home d) p F.tidy flag_map).0;
    }

    pub flag_only : OnlyProcessor same p (seen d s) (seen d (with_flags s fs))
    flag_only = (flagged d.entries (home d) p F.tidy flag_map).1

  pub ended_fit : Fit d (ended p s)
  ended_fit = flag_fit (ended_flags F.frame.flags F.frame.size.processors p lp)

  pub ended_is : Ended p (seen d s) (seen d (ended p s))
  ended_is =
      let T = ended_flags F.frame.flags F.frame.size.processors p lp in
      record { cache = flag_only T; active = T.active; status = T.status }

  pub begun_fit : Fit d (begun p s)
  begun_fit = flag_fit (set_active F.frame.flags F.frame.size.processors p lp true_flag (omega arith))

  pub begun_is : Woken p (seen d s) (seen d (begun p s))
  begun_is =
      let T = set_active F.frame.flags F.frame.size.processors p lp true_flag (omega arith) in
      record { cache = flag_only T; active = T.active; status = T.status }

  -- a processor's flag, as the machine reads it
  pub status_at : (decoded d s).status p ≡ TSTATUS s p
  status_at = rw (lt-ltb p d.processors lp)

  pub interrupt_does : Does d (seen d s) (by_end p) (Ends.interrupt d p s)
  unfolding Ends.interrupt
  interrupt_does = record { fit = rollback_fit; step = interrupts rollback_is }

  pub validate_does : Does d (seen d s) (by_end p) (Ends.validate p s)
  unfolding Ends.validate
  validate_does = by (TSTATUS s p) refl
    where
      by : (b : Bool) → TSTATUS s p ≡ b → Does d (seen d s) (by_end p) (pick b (gives True no_cycles s) (gives False no_cycles (ended p s)))
      by true e = record { fit = F; step = validate_yes (status_at ∙ e) same_refl }
      by false e = record { fit = ended_fit; step = over (status_at ∙ e) ended_is }

  pub commit_does : Does d (seen d s) (by_end p) (Ends.commit d p s)
  unfolding Ends.commit committed_entries
  commit_does = by (TSTATUS s p) refl
    where
      T : FlagsTo d.processors p false true s.flags (ended p s).flags
      T = ended_flags F.frame.flags F.frame.size.processors p lp

      all : AllTidy d.entries (home d) (decoded d (mapped committed (range_ends BACKUP TENTATIVE) slot_commit slot_committed T))
          × OnlyProcessor View.committed_copy p (seen d s) (seen d (mapped committed (range_ends BACKUP TENTATIVE) slot_commit slot_committed T))
      all = slots_committed d.entries (home d) p F.tidy (maps committed (range_ends BACKUP TENTATIVE) slot_commit slot_committed T)

      by : (b : Bool) → TSTATUS s p ≡ b
          → Does d (seen d s) (by_end p)
          (pick b (gives Success no_cycles (mapped committed (range_ends BACKUP TENTATIVE) slot_commit slot_committed T))
          (gives Failure no_cycles (ended p s)))
      by true e = record {
        fit = record {
          frame = mapped_frame committed (range_ends BACKUP TENTATIVE) slot_commit slot_committed T
              (λ i. fits_ends BACKUP TENTATIVE (λ z. omega arith));
          tidy = all.0;
        };
        step = commit_yes (status_at ∙ e) all.1 T.active T.status;
      }
      by false e = record { fit = ended_fit; step = over (status_at ∙ e) ended_is }

pub abort_does : {d : Dims} {s : Caches} → Fit d s → (p : ℕ) → p < d.processors → Does d (seen d s) (by_end p) (Ends.abort d p s)
unfolding Ends.abort
abort_does F p lp =
    let R = rollback_fit F p lp in
    record { fit = ended_fit R p lp; step = aborts (rollback_is F p lp) (ended_is R p lp) }
